-- What is dealt is all that there was, each work once, and no part is left empty while there are works.
use Rattle.std.proofs.Common.{◌≡◌, ℕ, zero, suc, ◌-◌, ◌<◌, ◌≤◌, List, [], ◌∷◌, ◌++◌, Bool, true, false, cond, length, map, replicate, get_or, sum_by, slice_index, refl, sym, ap, subst, ◌∙◌, arith, append_assoc, append-nil, length-set}
use Rattle.std.proofs.lemmas.List.{length-replicate, get_or-map, length-map}
use Rattle.std.proofs.lemmas.List.Sums.{sum_by-cons, sum_by-set}
use Rattle.std.proofs.lemmas.List.Sorted.{IsPermutation-refl, IsPermutation-sym, IsPermutation-trans, IsPermutation-middle, IsPermutation-append_right, length_permutation}
use Rattle.std.specs.List.{AllByRecursion}
use Rattle.std.specs.List.Sorted.{IsPermutation}
use Rattle.ic_term.specs.Tree.{Tree, name, agent, nodes}
use Rattle.ic_rules.specs.Rule.{Rule}
use Rattle.ic_round.specs.Works.{PlainWork}
use Rattle.ic_crew.specs.Sizes.{work_size, part_size}
use Rattle.ic_crew.specs.Dealing.{IsLeast, with_work, AreDealt, IsDealing, joined}

-- ---- how many parts there are

pub dealt_count : (rs : List Rule) (before : List (List PlainWork)) (ws : List PlainWork) (after : List (List PlainWork))
    → AreDealt rs before ws after → length after ≡ length before
dealt_count rs before [] after e = ap length (sym e)
dealt_count rs before (w ∷ ws) after d = dealt_count rs (with_work d.0 w before) ws after d.1.1 ∙ length-set before d.0 _

-- ---- each work once

joined_with : (i : ℕ) (w : PlainWork) (parts : List (List PlainWork)) → i < length parts → IsPermutation (w ∷ joined parts) (joined (with_work i w parts))
joined_with i w [] within = absurd (omega arith)
joined_with zero w (p ∷ ps) within =
    let P : List PlainWork → Type 0 = λ l. IsPermutation (w ∷ (p ++ joined ps)) l in
    subst P (sym (append_assoc p (w ∷ []) (joined ps))) (IsPermutation-sym _ _ (IsPermutation-middle p w (joined ps)))
joined_with (suc i) w (p ∷ ps) within =
    IsPermutation-trans _ (p ++ w ∷ joined ps) _ (IsPermutation-sym _ _ (IsPermutation-middle p w (joined ps)))
    (IsPermutation-append_right p (w ∷ joined ps) (joined (with_work i w ps)) (joined_with i w ps (omega arith)))

dealt_joined : (rs : List Rule) (before : List (List PlainWork)) (ws : List PlainWork) (after : List (List PlainWork))
    → AreDealt rs before ws after → IsPermutation (ws ++ joined before) (joined after)
dealt_joined rs before [] after e = let P : List (List PlainWork) → Type 0 = λ l. IsPermutation (joined before) (joined l) in subst P e (IsPermutation-refl (joined before))
dealt_joined rs before (w ∷ ws) after d =
    let one = joined_with d.0 w before (let h = d.1.0.within in omega (arith, h, length-map before (part_size rs))) in
    IsPermutation-trans _ (ws ++ w ∷ joined before) _ (IsPermutation-sym _ _ (IsPermutation-middle ws w (joined before)))
    (IsPermutation-trans _ (ws ++ joined (with_work d.0 w before)) _ (IsPermutation-append_right ws _ _ one) (dealt_joined rs (with_work d.0 w before) ws after d.1.1))

joined_none : (n : ℕ) → joined (replicate n []) ≡ []
joined_none zero = refl
joined_none (suc n) = joined_none n

-- ---- no part is empty

abbrev is_none : List PlainWork → Bool
is_none [] = true
is_none (w ∷ ws) = false

abbrev none_count : List PlainWork → ℕ
none_count p = cond (is_none p) 1 0

abbrev empties : List (List PlainWork) → ℕ
empties parts = sum_by none_count parts

nodes_some : (t : Tree) → 0 < nodes t
nodes_some (name n) = omega arith
nodes_some (agent s ts) = omega arith

size_some : (rs : List Rule) (w : PlainWork) → 0 < work_size rs w
size_some rs w = let l = nodes_some w.active.left in omega (arith, l)

part_some : (rs : List Rule) (ws : List PlainWork) → is_none ws ≡ false → 0 < part_size rs ws
part_some rs [] e = absurd cc
part_some rs (w ∷ ws) e = let one = size_some rs w in let all = sum_by-cons (work_size rs) w ws in omega (arith, one, all)

part_none : (rs : List Rule) (ws : List PlainWork) → 0 < part_size rs ws → is_none ws ≡ false
part_none rs [] some = absurd (omega (arith, some))
part_none rs (w ∷ ws) some = refl

pushed_some : (ws : List PlainWork) (w : PlainWork) → is_none (ws ++ w ∷ []) ≡ false
pushed_some [] w = refl
pushed_some (v ∷ ws) w = refl

none_empty : (rs : List Rule) (parts : List (List PlainWork)) → ((k : ℕ) → k < length parts → 0 < slice_index (map (part_size rs) parts) k) → empties parts ≡ 0
none_empty rs [] some = refl
none_empty rs (p ∷ ps) some =
    let first = part_none rs p (some 0 (omega arith)) in
    let rest = none_empty rs ps (λ k h. some (suc k) (omega arith)) in
    let all = sum_by-cons none_count p ps in
    let here : none_count p ≡ 0 = rw first refl in
    omega (arith, all, here, rest)

emptied_at : (rs : List Rule) (parts : List (List PlainWork)) (i : ℕ) (w : PlainWork) (b : Bool) → IsLeast (map (part_size rs) parts) i → is_none (get_or parts i []) ≡ b
    → empties (with_work i w parts) ≡ empties parts - 1
emptied_at rs parts i w b least is =
    let part = get_or parts i [] in
    let within : i < length parts = let h = least.within in omega (arith, h, length-map parts (part_size rs)) in
    let all = sum_by-set none_count parts i (part ++ w ∷ []) [] within in
    let new : none_count (part ++ w ∷ []) ≡ 0 = rw (pushed_some part w) refl in
    elim b as (λ b. is_none part ≡ b → empties (with_work i w parts) ≡ empties parts - 1) [
      | true ↦ λ is. let old : none_count part ≡ 1 = rw is refl in omega (arith, all, new, old)
      | false ↦ λ is.
          let old : none_count part ≡ 0 = rw is refl in
          let here : slice_index (map (part_size rs) parts) i ≡ part_size rs part = get_or-map (part_size rs) parts i [] 0 within in
          let some = part_some rs part is in
          let each : (k : ℕ) → k < length parts → 0 < slice_index (map (part_size rs) parts) k =
          λ k h. let more = least.least k (omega (arith, h, length-map parts (part_size rs))) in omega (arith, more, here, some) in
          let none = none_empty rs parts each in
          omega (arith, all, new, old, none)
    ] is

dealt_empties : (rs : List Rule) (before : List (List PlainWork)) (ws : List PlainWork) (after : List (List PlainWork))
    → AreDealt rs before ws after → empties after ≡ empties before - length ws
dealt_empties rs before [] after e = let same : empties before ≡ empties after = ap empties e in omega (arith, same)
dealt_empties rs before (w ∷ ws) after d =
    let rest = dealt_empties rs (with_work d.0 w before) ws after d.1.1 in
    let one = emptied_at rs before d.0 w (is_none (get_or before d.0 [])) d.1.0 refl in
    omega (arith, rest, one)

empties_replicate : (n : ℕ) → empties (replicate n []) ≡ n
empties_replicate zero = refl
empties_replicate (suc n) = let rest = empties_replicate n in let all = sum_by-cons none_count [] (replicate n []) in omega (arith, rest, all)

all_some : (parts : List (List PlainWork)) → empties parts ≡ 0 → AllByRecursion (λ part. 0 < length part) parts
all_some [] e = tt
all_some ([] ∷ ps) e = let all = sum_by-cons none_count [] ps in absurd (omega (arith, all, e))
all_some ((w ∷ ws) ∷ ps) e = let all = sum_by-cons none_count (w ∷ ws) ps in (omega arith, all_some ps (omega (arith, all, e)))

-- ---- what a dealing is

pub record Dealt (n : ℕ) (ws : List PlainWork) (parts : List (List PlainWork)) : Type 0 where
  pub count : length parts ≡ n
  pub each_once : IsPermutation ws (joined parts)
  pub none_empty : n ≤ length ws → AllByRecursion (λ part. 0 < length part) parts

pub dealing : (rs : List Rule) (count : ℕ) (ws : List PlainWork) (parts : List (List PlainWork)) → IsDealing rs count ws parts → Dealt count ws parts
dealing rs count ws parts d =
    let P : List PlainWork → Type 0 = λ l. IsPermutation l (joined parts) in
    let whole = subst P (ap (λ l. d.order ++ l) (joined_none count) ∙ append-nil d.order) (dealt_joined rs (replicate count []) d.order parts d.dealt) in
    let long = length_permutation ws d.order d.same in
    let left = dealt_empties rs (replicate count []) d.order parts d.dealt in
    let first = empties_replicate count in
    record {
      count = dealt_count rs (replicate count []) d.order parts d.dealt ∙ length-replicate count [];
      each_once = IsPermutation-trans ws d.order (joined parts) d.same whole;
      none_empty = λ enough. all_some parts (omega (arith, left, first, long, enough));
    }
