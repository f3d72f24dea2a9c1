-- Works dealt one after the other.
use Rattle.std.proofs.Common.{◌≡◌, ℕ, zero, suc, ◌+◌, ◌<◌, List, [], ◌∷◌, ◌++◌, length, map, min, replicate, get_or, set, slice_index, refl, sym, ap, subst, ◌∙◌, arith, All, Vec, vec_len, length-set}
use Rattle.std.specs.declared.alloc.Global.{Global}
use Rattle.ic_round.specs.declared.work.Work.{Work}
use Rattle.ic_crew.specs.WorkLists.{works_of}
use Rattle.std.proofs.lemmas.List.{get_or-map, get_or_default, length-map, map-append, map-set}
use Rattle.std.proofs.lemmas.List.Sums.{sum_by_push}
use Rattle.std.proofs.lemmas.List.Elements.{All-head, All-tail}
use Rattle.ic_rules.specs.Rule.{Rule}
use Rattle.ic_round.specs.Works.{PlainWork}
use Rattle.ic_round.specs.WorkViews.{work_of}
use Rattle.ic_crew.specs.declared.weighing.Weighed.{Weighed}
use Rattle.ic_crew.specs.declared.parts.Parts.{Parts}
use Rattle.ic_crew.specs.Sizes.{work_size, part_size}
use Rattle.ic_crew.specs.Dealing.{IsLeast, with_work, AreDealt}
use Rattle.ic_crew.specs.inner.Parts.{plain_work, IsWeighed, lists_of, TakesWork}

-- these works are left to be dealt to these parts
pub record DealtSoFar (rs : List Rule) (count : ℕ) (all : List Weighed) (parts : Parts) (rest : List Weighed) : Type 0 where
  pub weighed : All (IsWeighed rs) rest
  pub sizes : parts.sizes.items ≡ map (part_size rs) (lists_of parts)
  pub goes_on : (after : List (List PlainWork)) → AreDealt rs (lists_of parts) (map plain_work rest) after → AreDealt rs (replicate count []) (map plain_work all) after

none_dealt : (rs : List Rule) (n : ℕ) → replicate n 0 ≡ map (part_size rs) (replicate n [])
none_dealt rs zero = refl
none_dealt rs (suc n) = ap (λ (l : List ℕ). 0 ∷ l) (none_dealt rs n)

pub deals_first : (rs : List Rule) (count : ℕ) (all : List Weighed) (parts : Parts) → All (IsWeighed rs) all → parts.sizes.items ≡ replicate count 0 → lists_of parts ≡ replicate count []
    → DealtSoFar rs count all parts all
deals_first rs count all parts weighed sizes works = record {
  weighed = weighed;
  sizes = sizes ∙ none_dealt rs count ∙ ap (map (part_size rs)) (sym works);
  goes_on = λ after d. let P : List (List PlainWork) → Type 0 = λ l. AreDealt rs l (map plain_work all) after in subst P works d;
}

grown : (rs : List Rule) (part : List PlainWork) (w : PlainWork) → part_size rs (part ++ w ∷ []) ≡ min (part_size rs part + work_size rs w) 18446744073709551615
grown rs part w = let all = sum_by_push (work_size rs) part w in omega (arith, all)

pub deals_next : (rs : List Rule) (count : ℕ) (all : List Weighed) (before after : Parts) (w : Weighed) (rest : List Weighed) → DealtSoFar rs count all before (w ∷ rest)
    → TakesWork w.size (work_of w.work) before after → DealtSoFar rs count all after rest
deals_next rs count all before after w rest so_far takes =
    let i = takes.place in
    let lists = lists_of before in
    let f = part_size rs in
    let part = get_or lists i [] in
    let least : IsLeast (map f lists) i = let P : List ℕ → Type 0 = λ l. IsLeast l i in subst P so_far.sizes takes.least in
    let within : i < length lists = let h = least.within in omega (arith, h, length-map lists f) in
    let old : slice_index before.sizes.items i ≡ f part = ap (λ (l : List ℕ). get_or l i 0) so_far.sizes ∙ get_or-map f lists i [] 0 within in
    let weight = All-head (IsWeighed rs) w rest so_far.weighed in
    let put : min (slice_index before.sizes.items i + w.size) 18446744073709551615 ≡ f (part ++ plain_work w ∷ []) =
    ap (λ (n : ℕ). min (n + w.size) 18446744073709551615) old ∙ ap (λ (n : ℕ). min (f part + n) 18446744073709551615) weight ∙ sym (grown rs part (plain_work w)) in
    record {
      weighed = All-tail (IsWeighed rs) w rest so_far.weighed;
      sizes = takes.sizes ∙ ap (λ (n : ℕ). set before.sizes.items i n) put ∙ ap (λ (l : List ℕ). set l i (f (part ++ plain_work w ∷ []))) so_far.sizes
          ∙ sym (map-set f lists i (part ++ plain_work w ∷ [])) ∙ ap (map f) (sym takes.works);
      goes_on = λ end d. so_far.goes_on end (i, (least, (let P : List (List PlainWork) → Type 0 = λ l. AreDealt rs l (map plain_work rest) end in subst P takes.works d)));
    }

pub deals_all : (rs : List Rule) (count : ℕ) (all : List Weighed) (parts : Parts) → DealtSoFar rs count all parts [] → AreDealt rs (replicate count []) (map plain_work all) (lists_of parts)
deals_all rs count all parts so_far = so_far.goes_on (lists_of parts) refl

-- a work more at the end of one of the parts
pub works_put : (works : List (Vec Work Global)) (i : ℕ) (old new : Vec Work Global) (w : Work) → i < length works → old ≡ get_or works i old → new.items ≡ old.items ++ w ∷ []
    → map works_of (set works i new) ≡ with_work i (work_of w) (map works_of works)
works_put works i old new w within here pushed =
    let part : get_or (map works_of works) i [] ≡ works_of old = get_or-map works_of works i old [] within ∙ ap works_of (sym here) in
    map-set works_of works i new ∙ ap (λ (l : List PlainWork). set (map works_of works) i l)
    (ap (map work_of) pushed ∙ map-append work_of old.items (w ∷ []) ∙ ap (λ (l : List PlainWork). l ++ work_of w ∷ []) (sym part))

pub sizes_put : (sizes : List ℕ) (i size old new : ℕ) → i < length sizes → old ≡ get_or sizes i old → new ≡ min (old + size) 18446744073709551615
    → set sizes i new ≡ set sizes i (min (slice_index sizes i + size) 18446744073709551615)
sizes_put sizes i size old new within here is =
    let there : old ≡ get_or sizes i 0 = here ∙ get_or_default sizes i old 0 within in
    ap (λ (n : ℕ). set sizes i n) (is ∙ ap (λ (n : ℕ). min (n + size) 18446744073709551615) there)

pub takes_some : (size : ℕ) (w : PlainWork) (before after : Parts) → TakesWork size w before after → 0 < vec_len before.works → 0 < vec_len after.works
takes_some size w before after takes some =
    let same : length (lists_of after) ≡ length (lists_of before) = ap length takes.works ∙ length-set (lists_of before) takes.place _ in
    let old = length-map before.works.items works_of in
    let new = length-map after.works.items works_of in
    let one = before.works.ok.0 in
    let two = after.works.ok.0 in
    omega (arith, same, old, new, one, two, some)
