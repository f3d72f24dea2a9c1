-- What clients are told, one by one.
use Rattle.std.proofs.Common.{◌≡◌, ◌∙◌, ◌+◌, ◌<◌, ℕ, List, [], ◌∷◌, ◌++◌, length, drop, get_or, zero, suc, sym, ap, arith, append-nil, append_assoc}
use Rattle.std.specs.List.{flat_map}
use Rattle.ic_attend.specs.declared.attended.ClientRun.{ClientRun}
use Rattle.ic_scripts.specs.Telling.{told_client, told_from}

-- a list from one of its places on
pub drop_here : {X : Type 0} (xs : List X) (i : ℕ) (x : X) → i < length xs → x ≡ get_or xs i x → drop i xs ≡ x ∷ drop (i + 1) xs
drop_here [] i x small is = absurd (omega (arith, small))
drop_here (y ∷ ys) zero x small is = ap (λ h. h ∷ ys) (sym is)
drop_here (y ∷ ys) (suc i) x small is =
    drop_here ys i x (omega (arith, small)) is ∙ ap (λ k. x ∷ drop k (y ∷ ys)) (next i)
  where
    next : (i : ℕ) → suc (i + 1) ≡ suc i + 1
    next i = omega arith

-- what is told from a client on: its part, and that from the next one on
pub told_next : (runs : List ClientRun) (i : ℕ) (run : ClientRun) → i < length runs → run ≡ get_or runs i run
    → told_from i (drop i runs) ≡ told_client i run ++ told_from (i + 1) (drop (i + 1) runs)
told_next runs i run small is = ap (told_from i) (drop_here runs i run small is)

-- the same of what stands in lists
pub flat_next : {X : Type 0} (f : X → List ℕ) (xs : List X) (i : ℕ) (x : X) → i < length xs → x ≡ get_or xs i x
    → flat_map f (drop i xs) ≡ f x ++ flat_map f (drop (i + 1) xs)
flat_next f xs i x small is = ap (flat_map f) (drop_here xs i x small is)

pub told_last : (n : ℕ) (runs : List ClientRun) (run : ClientRun)
    → told_from n (runs ++ run ∷ []) ≡ told_from n runs ++ told_client (n + length runs) run
told_last n [] run = append-nil (told_client n run) ∙ ap (λ k. told_client k run) (omega arith)
told_last n (r ∷ rs) run =
    ap (λ (l : List ℕ). told_client n r ++ l) (told_last (n + 1) rs run)
    ∙ sym (append_assoc (told_client n r) (told_from (n + 1) rs) (told_client (n + 1 + length rs) run))
    ∙ ap (λ k. (told_client n r ++ told_from (n + 1) rs) ++ told_client k run) (omega arith)
