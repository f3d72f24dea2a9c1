-- Lemmas: what is told of rounds is what they fire, and how many are told.
use Rattle.std.proofs.Common.{◌≡◌, ◌⊎◌, inl, inr, ℕ, suc, ◌+◌, ◌-◌, ◌≤◌, ◌<◌, List, [], ◌∷◌, ◌++◌, true, false, length, map, sum_by, refl, sym, ap, ◌∙◌, arith, subst}
use Rattle.std.specs.List.{AllByRecursion}
use Rattle.std.specs.Prelude.{IsPermutation, IsTrue}
use Rattle.std.proofs.lemmas.List.{length-append, length-map, map-append}
use Rattle.std.proofs.lemmas.List.Sums.{sum_by-append, sum_by-cons}
use Rattle.std.proofs.lemmas.List.Sorted.{length_permutation}
use Rattle.ic_term.specs.Configuration.{Configuration}
use Rattle.ic_term.specs.Symbol.{is_over}
use Rattle.ic_rules.specs.Rule.{Rule}
use Rattle.ic_rules.specs.RuleSet.{Rules, IsRuleSet}
use Rattle.ic_settle.specs.NameSteps.{NameStep}
use Rattle.ic_reaching.specs.OneNet.{OneNet}
use Rattle.ic_round.specs.Naming.{HasNames}
use Rattle.ic_round.specs.ActivePlaces.{active}
use Rattle.ic_round.specs.Rounds.{round, iterate}
use Rattle.ic_generations.specs.Firings.{rules_of}
use Rattle.ic_arena.specs.declared.word.TheConstants.{GIVEN}
use Rattle.ic_machine.specs.declared.generation.Generation.{Generation}
use Rattle.ic_machine.specs.Net.{Net, equations_left, pieces, IsAtPlace, IsPair}
use Rattle.ic_machine.specs.Runs.{Starts}
use Rattle.ic_machine.specs.Separate.{IsSeparate}
use Rattle.ic_machine.specs.Plan.{Planned, Plans, ArePlans, IsPlan}
use Rattle.ic_meaning.specs.Circles.{circles}
use Rattle.ic_meaning.specs.First.{LinksPairsFirst}
use Rattle.ic_meaning.specs.Plans.{ArePlansOf, StandsForNet, rule_number}
use Rattle.ic_meaning.specs.Generations.{FireAsRounds, KeepsNet}
use Rattle.ic_meaning.specs.InPlace.{AreRounds}
use Rattle.ic_meaning.specs.Nets.{net_of, AreNetPieces}
use Rattle.ic_meaning.specs.Words.{Numbers, AreNumbers}
use Rattle.ic_in_place.specs.Holding.{AreCompiled, AreGiven}
use Rattle.ic_in_place.specs.Stopping.{IsBegun}
use Rattle.ic_in_place.proofs.LineByRounds.{a_round_is_settled}
use Rattle.ic_in_place.specs.Rounds.{AreOver, AreTold, CountsRounds, FireAfterFirst, stands_still, none_told, none_yet, one_told, some}
use Rattle.ic_in_place.specs.Told.{IsBetween, RoundOver, figures_after, figures_by, figures_of}
use Rattle.ic_in_place.specs.declared.stream.Outcome.{Outcome}
use Rattle.ic_in_place.specs.lemmas.RoundsOn.{round_first, rules_active}
use Rattle.ic_in_place.proofs.RoundsMade.{as_many_told}
use Rattle.ic_in_place.proofs.Still.{still_none, still_or_not}

-- what the last of some rounds fired
pub last_fires : (rs : List Rule) (numbers : List ℕ) (made : List (List ℕ)) (fired : List ℕ) (c : Configuration) → FireAsRounds rs numbers (made ++ fired ∷ []) c
    → FireAsRounds rs numbers made c × IsPermutation (map (rule_number numbers) fired) (rules_of rs (iterate rs (length made) c).equations)
last_fires rs numbers [] fired c fire = (tt, fire.0)
last_fires rs numbers (f ∷ made) fired c fire =
    let rest = last_fires rs numbers made fired (round rs c) fire.1 in
    ((fire.0, rest.0), subst (λ z. IsPermutation (map (rule_number numbers) fired) (rules_of rs z.equations)) (round_first rs (length made) c) rest.1)

-- what a net between rounds has left is what the configuration after them has beside circles
abbrev pub LeftBeside : Plans → Net → ℕ → List Rule → Configuration → Type 0
LeftBeside p first pairs rs c = (made : List (List ℕ)) (m : Net) → AreOver p first pairs made m → IsBetween m → 1 ≤ length made
    → equations_left m + circles (iterate rs (length made) c) ≡ length (iterate rs (length made) c).equations

pub told_fired : (p : Plans) (first : Net) (pairs : ℕ) (rs : List Rule) (numbers : List ℕ) (c : Configuration) → LeftBeside p first pairs rs c
    → (made : List (List ℕ)) (told : List RoundOver) → AreTold p first pairs made told → FireAsRounds rs numbers made c → map figures_of told ≡ figures_by rs c (length told)
told_fired p first pairs rs numbers c left made told none_told fire = refl
told_fired p first pairs rs numbers c left made told (one_told over fired so_far m are done between) fire =
    let last = last_fires rs numbers over fired c fire in
    let o : RoundOver = record { round = length over + 1; pairs = length fired; net = m } in
    let rest : map figures_of so_far ≡ figures_by rs c (length so_far) = told_fired p first pairs rs numbers c left over so_far are last.0 in
    let many : length so_far ≡ length over = as_many_told p first pairs over so_far are in
    let moved : length (map (rule_number numbers) fired) ≡ length (rules_of rs (iterate rs (length over) c).equations) =
    sym (length_permutation (map (rule_number numbers) fired) (rules_of rs (iterate rs (length over) c).equations) last.1) in
    let same : length fired ≡ length (active rs (iterate rs (length over) c)) =
    sym (length-map fired (rule_number numbers)) ∙ (moved ∙ rules_active rs 0 (iterate rs (length over) c).equations) in
    let longer : length (over ++ fired ∷ []) ≡ length over + 1 = length-append over (fired ∷ []) in
    let after : length (over ++ fired ∷ []) ≡ suc (length over) = omega (arith, longer) in
    let known = left (over ++ fired ∷ []) m done between (omega (arith, longer)) in
    let beside : equations_left m + circles (iterate rs (suc (length over)) c) ≡ length (iterate rs (suc (length over)) c).equations =
    subst (λ (k : ℕ). equations_left m + circles (iterate rs k c) ≡ length (iterate rs k c).equations) after known in
    let equal : equations_left m ≡ length (iterate rs (suc (length over)) c).equations - circles (iterate rs (suc (length over)) c) = omega (arith, beside) in
    let here : figures_of o ≡ figures_after rs c (length over) = λ i. record { round = length over + 1; pairs = same i; equations = equal i } in
    let there : figures_of o ≡ figures_after rs c (length so_far) = here ∙ ap (figures_after rs c) (sym many) in
    let on : length (so_far ++ o ∷ []) ≡ length so_far + 1 = length-append so_far (o ∷ []) in
    let one : length (so_far ++ o ∷ []) ≡ suc (length so_far) = omega (arith, on) in
    map-append figures_of so_far (o ∷ [])
    ∙ ((λ i. rest i ++ there i ∷ []) ∙ ap (figures_by rs c) (sym one))

-- what the laws of rounds and of circles say
pub record LeftLaws : Type 0 where
  pub rounds : (rs : Rules) (numbers given operands : List ℕ) (p : Plans) (c : Configuration) (plan : Planned) (pairs : ℕ) (first m : Net) (over : List (List ℕ)) (now : List ℕ) (g : Generation)
      → IsRuleSet rs → IsTrue (is_over rs.symbols c) → HasNames c → ArePlans p → ArePlansOf rs numbers p → length p.arities < GIVEN
      → IsPlan p.arities (length given) plan → StandsForNet p.arities given c plan operands → AreGiven given c
      → LinksPairsFirst p.arities (length given) plan pairs → Starts p (length given) plan operands first
      → IsSeparate p.arities first.interface (pieces first) → first.aside ≡ [] → AreRounds p first pairs over now g m → g.end ≡ 0
      → (n : Numbers) × (n.arities ≡ p.arities) × (n.given ≡ given) × AreNumbers n × OneNet c (net_of n first.interface (pieces first))
      × KeepsNet rs n m.interface (pieces m) × OneNet (net_of n m.interface (pieces m)) (iterate rs.rules (length over + 1) c) × FireAsRounds rs.rules numbers (over ++ now ∷ []) c
  pub left : (n : Numbers) (m : Net) (d : Configuration) → AreNumbers n → AreNetPieces n.arities m.interface (pieces m)
      → HasNames (net_of n m.interface (pieces m)) → AreGiven n.given (net_of n m.interface (pieces m))
      → AllByRecursion IsPair m.pending → AllByRecursion IsPair m.aside → AllByRecursion IsAtPlace m.places
      → OneNet (net_of n m.interface (pieces m)) d → ((f : Configuration) → ¬ NameStep d f) → equations_left m + circles d ≡ length d.equations

pub left_of : LeftLaws → (rs : Rules) (numbers : List ℕ) (p : Plans) (c : Configuration) (given : List ℕ) (plan : Planned) (operands : List ℕ) (pairs : ℕ) (first : Net)
    → IsRuleSet rs → IsTrue (is_over rs.symbols c) → HasNames c → AreCompiled rs numbers p c given plan operands
    → IsBegun p (length given) plan operands first → LinksPairsFirst p.arities (length given) plan pairs → LeftBeside p first pairs rs.rules c
left_of laws rs numbers p c given plan operands pairs first set over_symbols named compiled begun firsts made m none_yet between one = absurd (omega (arith, one))
left_of laws rs numbers p c given plan operands pairs first set over_symbols named compiled begun firsts made m (some over now g last so_far done) between one =
    let all = laws.rounds rs numbers given operands p c plan pairs first last over now g set over_symbols named compiled.plans compiled.of_rules compiled.few compiled.is_plan compiled.stands compiled.free
    firsts begun.starts begun.separate begun.aside so_far done in
    let d : Configuration = iterate rs.rules (length over + 1) c in
    let many : length over + 1 ≡ length (over ++ now ∷ []) = sym (length-append over (now ∷ [])) in
    let known : equations_left last + circles d ≡ length d.equations =
    laws.left all.0 last d all.3 all.5.pieces all.5.names all.5.free between.pending between.aside between.places all.6
    (λ f step. a_round_is_settled rs.rules (length over + 1) c f (omega arith) step) in
    subst (λ (k : ℕ). equations_left last + circles (iterate rs.rules k c) ≡ length (iterate rs.rules k c).equations) many known

-- ---- how many are told

pub told_pairs : (p : Plans) (first : Net) (pairs : ℕ) (made : List (List ℕ)) (told : List RoundOver) → AreTold p first pairs made told
    → sum_by (λ o. o.pairs) told ≡ sum_by length made
told_pairs p first pairs made told none_told = refl
told_pairs p first pairs made told (one_told over fired so_far m are done between) =
    let o : RoundOver = record { round = length over + 1; pairs = length fired; net = m } in
    let rest = told_pairs p first pairs over so_far are in
    let all = sum_by-append (λ (x : RoundOver). x.pairs) so_far (o ∷ []) in
    let all_made = sum_by-append (length {A = ℕ}) over (fired ∷ []) in
    let one = sum_by-cons (λ (x : RoundOver). x.pairs) o [] in
    let one_made = sum_by-cons (length {A = ℕ}) fired [] in
    let none : sum_by (λ (x : RoundOver). x.pairs) [] ≡ 0 = refl in
    let none_made : sum_by (length {A = ℕ}) [] ≡ 0 = refl in
    omega (arith, rest, all, all_made, one, one_made, none, none_made)

all_fire : (made : List (List ℕ)) → AllByRecursion (λ f. 1 ≤ length f) made → length made ≤ sum_by length made
all_fire [] each = omega arith
all_fire (f ∷ made) each =
    let rest = all_fire made each.1 in
    let here = each.0 in
    let all = sum_by-cons (length {A = ℕ}) f made in
    omega (arith, rest, here, all)

pub at_most_one : (made : List (List ℕ)) → FireAfterFirst made → sum_by length made ≡ 0 → length made ≤ 1
at_most_one [] fire none = omega arith
at_most_one (f ∷ made) fire none =
    let rest = all_fire made fire in
    let all = sum_by-cons (length {A = ℕ}) f made in
    omega (arith, rest, all, none)

pub many_told : (outcome : Outcome) (taken rounds : ℕ) (made : List (List ℕ)) (told : List RoundOver) → CountsRounds outcome.end outcome.interactions outcome.name_steps taken rounds → taken ≡ length made
    → length told ≡ length made → FireAfterFirst made → sum_by (λ o. o.pairs) told ≡ sum_by length made → sum_by length made ≤ outcome.interactions
    → (length told ≡ rounds) ⊎ ((rounds ≡ 0) × (length told ≤ 1) × (sum_by (λ o. o.pairs) told ≡ 0))
many_told outcome taken rounds made told count all many fire summed few =
    by (still_or_not outcome.end outcome.interactions outcome.name_steps)
  where
    by : (stands_still outcome.end outcome.interactions outcome.name_steps ≡ true) ⊎ (stands_still outcome.end outcome.interactions outcome.name_steps ≡ false)
        → (length told ≡ rounds) ⊎ ((rounds ≡ 0) × (length told ≤ 1) × (sum_by (λ o. o.pairs) told ≡ 0))
    by (inl is) =
        let none = still_none outcome.end outcome.interactions outcome.name_steps is in
        let no_pair : sum_by length made ≡ 0 = omega (arith, none, few) in
        let one = at_most_one made fire no_pair in
        inr (count.none is, omega (arith, one, many), omega (arith, summed, no_pair))
    by (inr isnt) = let made_all = count.all isnt in inl (omega (arith, made_all, all, many))
