-- Lemmas: how many rounds are needed, and what all of them have fired.
use Rattle.std.proofs.Common.{◌≡◌, ℕ, zero, suc, ◌+◌, ◌≤◌, ◌<◌, ◌&&◌, List, [], ◌∷◌, ◌++◌, true, Option, None, Some, is_none, length, map, sum_by, refl, sym, ap, ◌∙◌, arith, subst as transport}
use Rattle.std.proofs.lemmas.Bool.{and_parts}
use Rattle.std.proofs.lemmas.List.{length-map, length-append}
use Rattle.std.proofs.lemmas.List.Sums.{sum_by-append, sum_by-cons}
use Rattle.std.proofs.lemmas.List.Sorted.{length_permutation}
use Rattle.std.specs.Prelude.{IsPermutation, IsTrue}
use Rattle.std.specs.Option.{option_map}
use Rattle.std.specs.List.{AllByRecursion, list_all}
use Rattle.ic_term.specs.Tree.{Pair}
use Rattle.ic_term.specs.Configuration.{Configuration}
use Rattle.ic_term.specs.Symbol.{is_over}
use Rattle.ic_rules.specs.Rule.{Rule}
use Rattle.ic_rules.specs.RuleSet.{Rules, IsRuleSet}
use Rattle.ic_settle.specs.Settling.{applied, first_choice}
use Rattle.ic_confluence.specs.Sameness.{Same}
use Rattle.ic_reaching.specs.OneNet.{raised, SameButNext}
use Rattle.ic_round.specs.Naming.{HasNames}
use Rattle.ic_round.specs.Firing.{Active, active_pair}
use Rattle.ic_round.specs.Quiet.{is_inert, is_settled, is_quiet, IsQuiet}
use Rattle.ic_round.specs.Rounds.{round, iterate}
use Rattle.ic_round.specs.lemmas.IdleLemmas.{quiet_stays}
use Rattle.ic_round.specs.lemmas.QuietLemmas.{is_quiet_where, no_step as no_quiet_step}
use Rattle.ic_generations.specs.Firings.{rule_of, rules_of}
use Rattle.ic_machine.specs.declared.generation.Generation.{Generation}
use Rattle.ic_machine.specs.Net.{Net}
use Rattle.ic_machine.specs.Plan.{Plans}
use Rattle.ic_meaning.specs.Plans.{rule_number}
use Rattle.ic_meaning.specs.Generations.{FireAsRounds}
use Rattle.ic_meaning.specs.InPlace.{AreRounds, begun, goes_on, put_through, next_round}
use Rattle.ic_in_place.specs.Rounds.{AreOver, none_yet, some, FireAfterFirst}
use Rattle.ic_in_place.specs.lemmas.RoundsOn.{raised_names, round_first}

-- ---- what is quiet stays so, and fires nothing

pub quiet_iterates : (rs : List Rule) (n : ℕ) (c : Configuration) → IsQuiet rs c → iterate rs n c ≡ c
quiet_iterates rs zero c quiet = refl
quiet_iterates rs (suc n) c quiet = ap (round rs) (quiet_iterates rs n c quiet) ∙ quiet_stays rs c quiet

none_by_rules : (rs : List Rule) (es : List Pair) → list_all (λ p. is_none (active_pair rs p)) es ≡ true → rules_of rs es ≡ []
none_by_rules rs [] inert = refl
none_by_rules rs (p ∷ es) inert =
    let both = and_parts (is_none (active_pair rs p)) (list_all (λ q. is_none (active_pair rs q)) es) inert in
    let here = none_here (active_pair rs p) refl both.0 in
    let rest = none_by_rules rs es both.1 in
    λ i. here i ++ rest i
  where
    none_here : (o : Option Active) → active_pair rs p ≡ o → is_none o ≡ true → rule_of rs p ≡ []
    none_here None is e = rw is refl
    none_here (Some a) is e = cc

quiet_rules : (rs : List Rule) (c : Configuration) → IsQuiet rs c → rules_of rs c.equations ≡ []
quiet_rules rs c quiet = none_by_rules rs c.equations (and_parts (is_inert rs c) (is_settled c) (is_quiet_where rs c quiet)).0

-- a round of a quiet net fires nothing
pub none_fired : (rs : List Rule) (numbers fired : List ℕ) (c : Configuration) → IsQuiet rs c → IsPermutation (map (rule_number numbers) fired) (rules_of rs c.equations) → length fired ≡ 0
none_fired rs numbers fired c quiet moved =
    let same = length_permutation (map (rule_number numbers) fired) (rules_of rs c.equations) moved in
    let none = ap (length {A = ℕ}) (quiet_rules rs c quiet) in
    let many = length-map fired (rule_number numbers) in
    let zero : ◌≡◌ {A = ℕ} (length {A = ℕ} []) 0 = refl in
    omega (arith, same, none, many, zero)

pub all_none_fired : (rs : List Rule) (numbers : List ℕ) (made : List (List ℕ)) (c : Configuration) → IsQuiet rs c → FireAsRounds rs numbers made c → sum_by length made ≡ 0
all_none_fired rs numbers [] c quiet fired = refl
all_none_fired rs numbers (f ∷ made) c quiet fired =
    let first = none_fired rs numbers f c quiet fired.0 in
    let rest = all_none_fired rs numbers made c quiet (transport (FireAsRounds rs numbers made) (quiet_stays rs c quiet) fired.1) in
    let all = sum_by-cons length f made in
    omega (arith, first, rest, all)

-- ---- each round that fires was needed

needed : (rs : List Rule) (numbers : List ℕ) (made : List (List ℕ)) (c : Configuration) (n : ℕ) → FireAsRounds rs numbers made c → AllByRecursion (λ f. 1 ≤ length f) made → n < length made
    → IsQuiet rs (iterate rs n c) → ⊥
needed rs numbers [] c n fired each low quiet = absurd (omega (arith, low))
needed rs numbers (f ∷ made) c zero fired each low quiet =
    let none = none_fired rs numbers f c quiet fired.0 in
    let one = each.0 in
    absurd (omega (arith, none, one))
needed rs numbers (f ∷ made) c (suc n) fired each low quiet =
    needed rs numbers made (round rs c) n fired.1 each.1 (omega (arith, low)) (transport (IsQuiet rs) (sym (round_first rs n c)) quiet)

-- the net before each round but the first was not quiet
pub later_rounds_are_needed : (rs : List Rule) (numbers : List ℕ) (made : List (List ℕ)) (c : Configuration) (n : ℕ) → FireAsRounds rs numbers made c → FireAfterFirst made → 1 ≤ n → n < length made
    → IsQuiet rs (iterate rs n c) → ⊥
later_rounds_are_needed rs numbers [] c n fired after one_at_least low quiet = absurd (omega (arith, low))
later_rounds_are_needed rs numbers (f ∷ made) c zero fired after one_at_least low quiet = absurd (omega (arith, one_at_least))
later_rounds_are_needed rs numbers (f ∷ made) c (suc n) fired after one_at_least low quiet =
    needed rs numbers made (round rs c) n fired.1 after (omega (arith, low)) (transport (IsQuiet rs) (sym (round_first rs n c)) quiet)

-- nor was the first, if any of them fired a pair
pub first_round_is_needed : (rs : List Rule) (numbers : List ℕ) (made : List (List ℕ)) (c : Configuration) → FireAsRounds rs numbers made c → 1 ≤ sum_by length made → IsQuiet rs c → ⊥
first_round_is_needed rs numbers made c fired one_at_least quiet = let none = all_none_fired rs numbers made c quiet fired in absurd (omega (arith, none, one_at_least))

-- ---- what all rounds have fired is what was counted

pub rounds_counted : (p : Plans) (first : Net) (pairs : ℕ) (over : List (List ℕ)) (now : List ℕ) (g : Generation) (m : Net) → AreRounds p first pairs over now g m
    → m.interactions ≡ first.interactions + (sum_by length over + length now)
rounds_counted p first pairs over now g m begun = let none : sum_by (length {A = ℕ}) [] ≡ 0 = refl in let zero : ◌≡◌ {A = ℕ} (length {A = ℕ} []) 0 = refl in omega (arith, none, zero)
rounds_counted p first pairs over now g m (goes_on over' before g' h old new so_far a) =
    let rest = rounds_counted p first pairs over' before g' old so_far in
    let more = a.ran.counted in
    let all = length-append before a.ran.fired in
    omega (arith, rest, more, all)
rounds_counted p first pairs over now g m (put_through over' now' g' old new so_far same steps) =
    let rest = rounds_counted p first pairs over' now' g' old so_far in
    let stays = ap (λ (z : Net). z.interactions) same in
    omega (arith, rest, stays)
rounds_counted p first pairs over now g m (next_round over' now' g' m' so_far done at) =
    let rest = rounds_counted p first pairs over' now' g' m' so_far in
    let all = sum_by-append length over' (now' ∷ []) in
    let one = sum_by-cons length now' [] in
    let none : sum_by (length {A = ℕ}) [] ≡ 0 = refl in
    let zero : ◌≡◌ {A = ℕ} (length {A = ℕ} []) 0 = refl in
    omega (arith, rest, all, one, none, zero)

pub over_counted : (p : Plans) (first last : Net) (pairs : ℕ) (made : List (List ℕ)) → AreOver p first pairs made last → last.interactions ≡ first.interactions + sum_by length made
over_counted p first last pairs made none_yet = let none : sum_by (length {A = ℕ}) [] ≡ 0 = refl in omega (arith, none)
over_counted p first last pairs made (some over now g m so_far done) =
    let rest = rounds_counted p first pairs over now g m so_far in
    let all = sum_by-append length over (now ∷ []) in
    let one = sum_by-cons length now [] in
    let none : sum_by (length {A = ℕ}) [] ≡ 0 = refl in
    omega (arith, rest, all, one, none)

-- ---- what is quiet, wherever fresh names begin

none_mapped : {X Y : Type 0} (f : X → Y) (o : Option X) → is_none (option_map f o) ≡ is_none o
none_mapped f None = refl
none_mapped f (Some x) = refl

quiet_raised : (rs : List Rule) (more : ℕ) (c : Configuration) → is_quiet rs (raised more c) ≡ is_quiet rs c
quiet_raised rs more c =
    ap (λ b. is_inert rs c && b)
    (none_mapped (applied (raised more c)) (first_choice c.interface [] c.equations) ∙ sym (none_mapped (applied c) (first_choice c.interface [] c.equations)))

pub quiet_as : ((rs : Rules) (c d : Configuration) → IsRuleSet rs → IsTrue (is_over rs.symbols c) → HasNames c → Same c d → IsQuiet rs.rules c → IsQuiet rs.rules d)
    → (rs : Rules) (c d : Configuration) → IsRuleSet rs → IsTrue (is_over rs.symbols c) → HasNames c → SameButNext c d → IsQuiet rs.rules c → IsQuiet rs.rules d
quiet_as law rs c d set over named s quiet =
    let up = raised s.more c in
    let named_up : HasNames up = raised_names s.more c named in
    let quiet_up = no_quiet_step rs.rules up (quiet_raised rs.rules s.more c ∙ is_quiet_where rs.rules c quiet) in
    let end = law rs up (raised s.others d) set over named_up s.same quiet_up in
    no_quiet_step rs.rules d (sym (quiet_raised rs.rules s.others d) ∙ is_quiet_where rs.rules (raised s.others d) end)
