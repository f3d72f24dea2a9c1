use Rattle.std.proofs.Common.{◌≡◌, ◌+◌, ℕ, List, [], ◌∷◌, ◌++◌, take, ap, sym, subst, ◌∙◌, arith}
use Rattle.std.specs.List.{AllByRecursion}
use Rattle.std.proofs.lemmas.List.{map-append, take_more}
use Rattle.std.proofs.lemmas.List.FromFn.{map-range_with_len_more}
use Rattle.ic_arena.specs.declared.word.Word.{Word}
use Rattle.ic_arena.specs.Word.{agent_word}
use Rattle.ic_arena.specs.Tables.{Blocks}
use Rattle.ic_machine.specs.Plan.{constants}
use Rattle.ic_machine.specs.inner.Firing.{arities_of, heaps_pieces}
use Rattle.ic_machine.specs.lemmas.FiringKeeps.{all_append}
use Rattle.ic_machine.proofs.Heaps.{heaps_pushed}
use Rattle.ic_machine.proofs.tables.Tables.new.Goals as goal

pub loop-arity-preserved : goal.loop-arity-preserved
loop-arity-preserved c =
    let i : ℕ = c.loop-arity.arity-index in
    let hs : List Blocks = c.loop-arity.heaps.items in
    let rs : List Word = c.loop-arity.registers.items in
    let b : Blocks = c.new.result in
    let as_many : List ℕ = c.args.arities.now in
    let inv = c.loop-arity.invariant in
    let pushed : c.push_reserved.new.self.items ≡ hs ++ b ∷ [] = c.push_reserved.ensures.items in
    let word = c.push_reserved-in-loop-arity.ensures.items ∙ ap (λ (w : Word). rs ++ w ∷ []) c.agent.ensures in
    let more : constants (i + 1) ≡ constants i ++ agent_word i 0 ∷ [] =
    map-range_with_len_more (λ s. agent_word s 0) 0 i i (omega arith) in
    record {
      symbol = omega arith;
      arities = ap arities_of pushed ∙ (map-append (λ x. x.arity) hs (b ∷ [])
          ∙ (ap (λ (l : List ℕ). l ++ b.arity ∷ []) inv.arities
          ∙ (ap (λ (k : ℕ). take i as_many ++ k ∷ []) c.new.ensures.arity
          ∙ sym (take_more as_many i 0 c.loop-arity-test.true))));
      heaps = ap (heaps_pieces 0) pushed ∙ (heaps_pushed 0 hs b c.new.ensures.count ∙ inv.heaps);
      counts = subst (λ (l : List Blocks). AllByRecursion (λ x. x.count ≡ 0) l) (sym pushed)
          (all_append (λ x. x.count ≡ 0) hs (b ∷ []) inv.counts (c.new.ensures.count, tt));
      registers = word ∙ (ap (λ (l : List Word). l ++ agent_word c.loop-arity.symbol 0 ∷ []) inv.registers
          ∙ (ap (λ (k : ℕ). constants i ++ agent_word k 0 ∷ []) inv.symbol ∙ sym more));
      heaps_len = omega (arith, c.push_reserved.ensures.len);
      registers_len = omega (arith, c.push_reserved-in-loop-arity.ensures.len);
      heaps_capacity = c.push_reserved.ensures.capacity ∙ inv.heaps_capacity;
      registers_capacity = c.push_reserved-in-loop-arity.ensures.capacity ∙ inv.registers_capacity;
    }
