-- The registers, whose words are written over at places.
use Rattle.std.specs.Global.{Vec}
use Rattle.std.specs.Vec.{with_items}
use Rattle.std.proofs.Common.{◌≡◌, ℕ, ◌≤◌, List, length, take, ap, sym, ◌∙◌, arith}
use Rattle.std.proofs.lemmas.List.{length-take, with_items_is}
use Rattle.std.proofs.lemmas.List.FromFn.{length-map-range_with_len}
use Rattle.ic_arena.specs.declared.word.Word.{Word}
use Rattle.ic_arena.specs.Word.{agent_word}
use Rattle.ic_machine.specs.Plan.{constants}

-- registers are others where as many words are written over them
pub written : (v : Vec Word) (ws : List Word) → length ws ≡ length v.items → (with_items v ws).items ≡ ws
written v ws same = with_items_is v ws (omega (arith, v.ok.0))

-- the same, where that was done before
pub written_twice : (v : Vec Word) (us ws : List Word) → length us ≡ length v.items → length ws ≡ length us
    → (with_items (with_items v us) ws).items ≡ ws
written_twice v us ws first same = written (with_items v us) ws (same ∙ ap length (sym (written v us first)))

-- there are as many registers as agents without arguments in them
pub wide_enough : (n : ℕ) (rs : List Word) → take n rs ≡ constants n → n ≤ length rs
wide_enough n rs first =
    let some = length-map-range_with_len (λ s. agent_word s 0) 0 n in
    let many = length-take n rs in
    let same = ap length first in
    omega arith

-- the agents without arguments are in them for another number that is the same
pub first_kept : (n m : ℕ) (rs : List Word) → m ≡ n → take n rs ≡ constants n → take m rs ≡ constants m
first_kept n m rs same first = ap (λ (k : ℕ). take k rs) same ∙ (first ∙ ap constants (sym same))
