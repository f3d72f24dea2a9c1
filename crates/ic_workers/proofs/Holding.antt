-- Lemmas: one part runs and all hold what is reached; each cut has an end in another part.
use Rattle.std.proofs.Common.{◌≡◌, ℕ, zero, suc, ◌+◌, ◌<◌, ◌≤◌, ◌==◌, List, [], ◌∷◌, ◌++◌, Bool, cond, Contains, length, map, slice_index_or, refl, ap, ◌∙◌, append-nil, arith, subst as transport}
use Rattle.std.specs.Prelude.{IsTrue}
use Rattle.std.specs.Cmp.{unsigned_Decides}
use Rattle.std.proofs.lemmas.List.Sorted.{sum_by-IsPermutation}
use Rattle.std.proofs.lemmas.List.Sums.{sum_by-append, sum_by-cons}
use Rattle.ic_term.specs.Configuration.{Configuration}
use Rattle.ic_term.specs.Symbol.{is_over}
use Rattle.ic_rules.specs.RuleSet.{Rules, IsRuleSet}
use Rattle.ic_round.specs.Naming.{HasNames}
use Rattle.ic_machine.specs.Moving.{CutEnd, times}
use Rattle.ic_machine.specs.Net.{Net}
use Rattle.ic_machine.specs.Plan.{Plans, ArePlans}
use Rattle.ic_machine.specs.Runs.{Ran}
use Rattle.ic_machine.specs.lemmas.RunsOn.{ran_none, ran_none-fired}
use Rattle.ic_meaning.specs.Plans.{ArePlansOf, rule_number}
use Rattle.ic_workers.specs.Parts.{Part, ArePlaced, Hold, cuts_of}
use Rattle.ic_workers.specs.inner.HandsOn.{HaveWorked}
use Rattle.ic_workers.proofs.Coming.{worked_hold}
use Rattle.ic_workers.proofs.Given.{StepLaws}
use Rattle.ic_workers.proofs.Working.{all_fired}

-- parts that did nothing
stay : (p : Plans) (qs : List Part) → HaveWorked p qs qs
stay p [] = tt
stay p (q ∷ qs) = (record { number = refl; borders = refl; ran = ran_none p q.net }, stay p qs)

none_fired : (p : Plans) (qs : List Part) → all_fired p qs qs (stay p qs) ≡ []
unfolding stay
none_fired p [] = refl
none_fired p (q ∷ qs) = ap (λ (l : List ℕ). l ++ all_fired p qs qs (stay p qs)) (ran_none-fired p q.net) ∙ none_fired p qs

pub one_runs : StepLaws → (rs : Rules) (numbers : List ℕ) (p : Plans) (c : Configuration) (given fired : List ℕ) (q : Part) (qs : List Part) (n : Net)
    → IsRuleSet rs → IsTrue (is_over rs.symbols c) → HasNames c → ArePlans p → ArePlansOf rs numbers p
    → Hold rs p c given fired (q ∷ qs) → (ran : Ran p q.net n)
    → Hold rs p c given (fired ++ map (rule_number numbers) ran.fired) (record q { net = n } ∷ qs)
one_runs laws rs numbers p c given fired q qs n set over named plans of_rules held ran =
    let r : Part = record q { net = n } in
    let worked : HaveWorked p (q ∷ qs) (r ∷ qs) = (record { number = refl; borders = refl; ran = ran }, stay p qs) in
    let all : all_fired p (q ∷ qs) (r ∷ qs) worked ≡ ran.fired =
    ap (λ (l : List ℕ). ran.fired ++ l) (none_fired p qs) ∙ append-nil ran.fired in
    transport (λ (l : List ℕ). Hold rs p c given (fired ++ map (rule_number numbers) l) (r ∷ qs)) all
    (worked_hold laws rs numbers p c given fired (q ∷ qs) (r ∷ qs) set over named plans of_rules held worked)

-- an end that is there is counted
end_there : (es : List CutEnd) (e : CutEnd) → Contains es e → 1 ≤ times e.cut (map (λ d. d.cut) es)
end_there es e there = at es there.0 there.1 there.2
  where
    at : (es : List CutEnd) (k : ℕ) → k < length es → slice_index_or es k e ≡ e → 1 ≤ times e.cut (map (λ d. d.cut) es)
    at [] k lt is = absurd (omega (arith, lt))
    at (d ∷ ds) zero lt is =
        let parts : times e.cut (d.cut ∷ map (λ (x : CutEnd). x.cut) ds) ≡ cond {A = ℕ} (d.cut == e.cut) 1 0 + times e.cut (map (λ (x : CutEnd). x.cut) ds) =
        sum_by-cons (λ (m : ℕ). cond {A = ℕ} (m == e.cut) 1 0) d.cut (map (λ (x : CutEnd). x.cut) ds) in
        let here : cond {A = ℕ} (d.cut == e.cut) 1 0 ≡ 1 =
        ap (λ (b : Bool). cond {A = ℕ} b 1 0) ((unsigned_Decides d.cut e.cut).1 (ap (λ (x : CutEnd). x.cut) is)) in
        omega (arith, parts, here)
    at (d ∷ ds) (suc k) lt is =
        let parts : times e.cut (d.cut ∷ map (λ (x : CutEnd). x.cut) ds) ≡ cond {A = ℕ} (d.cut == e.cut) 1 0 + times e.cut (map (λ (x : CutEnd). x.cut) ds) =
        sum_by-cons (λ (m : ℕ). cond {A = ℕ} (m == e.cut) 1 0) d.cut (map (λ (x : CutEnd). x.cut) ds) in
        let rest = at ds k (omega (arith, lt)) is in
        omega (arith, parts, rest)

-- Each cut has two ends, and a part has one of them at most. So the other one is elsewhere.
pub other_end : (arities cuts : List ℕ) (q : Part) (qs : List Part) (e : CutEnd) → ArePlaced arities cuts (q ∷ qs) → Contains q.borders.ends e
    → 1 ≤ times e.cut (cuts_of qs)
other_end arities cuts q qs e placed there =
    let f : ℕ → ℕ = λ m. cond {A = ℕ} (m == e.cut) 1 0 in
    let own : List ℕ = map (λ (d : CutEnd). d.cut) q.borders.ends in
    let moved : times e.cut (own ++ cuts_of qs) ≡ times e.cut (cuts ++ cuts) = sum_by-IsPermutation f (cuts ++ cuts) (cuts_of (q ∷ qs)) placed.ends in
    let two : times e.cut (cuts ++ cuts) ≡ times e.cut cuts + times e.cut cuts = sum_by-append f cuts cuts in
    let both : times e.cut (own ++ cuts_of qs) ≡ times e.cut own + times e.cut (cuts_of qs) = sum_by-append f own (cuts_of qs) in
    let here = end_there q.borders.ends e there in
    let once = placed.once.0 e.cut in
    omega (arith, moved, two, both, here, once)
