-- Where no equation is active, firing changes nothing; where no step is possible, neither does a round.
use Rattle.std.proofs.Common.{◌≡◌, ℕ, ◌+◌, ◌++◌, List, [], ◌∷◌, true, Option, None, Some, is_none, refl, sym, ap, ◌∙◌, arith}
use Rattle.std.proofs.lemmas.Bool.{and_parts, true≢false}
use Rattle.std.specs.List.{list_all}
use Rattle.std.specs.Option.{option_map, option_map_or}
use Rattle.ic_term.specs.Tree.{Pair}
use Rattle.ic_term.specs.Configuration.{Configuration}
use Rattle.ic_rules.specs.Rule.{Rule}
use Rattle.ic_settle.specs.Settling.{Choice, applied, first_choice, settled}
use Rattle.ic_settle.specs.lemmas.ChoiceLaws.{settled-stop}
use Rattle.ic_round.specs.Firing.{active_pair, count_of, fired, fired_from, fired_pair, names_taken, next_after, products_by}
use Rattle.ic_round.specs.Quiet.{is_inert, is_settled, IsQuiet}
use Rattle.ic_round.specs.Rounds.{round}
use Rattle.ic_round.specs.lemmas.QuietLemmas.{is_quiet_where, none_of}

idle_equations : (rs : List Rule) (base : ℕ) (ps : List Pair) → list_all (λ p. is_none (active_pair rs p)) ps ≡ true → fired_from rs base ps ≡ ps
idle_equations rs base [] e = refl
idle_equations rs base (p ∷ ps) e =
    let both = and_parts (is_none (active_pair rs p)) (list_all (λ q. is_none (active_pair rs q)) ps) e in
    let none = none_of (active_pair rs p) both.0 in
    let here : fired_pair rs base p ≡ p ∷ [] = ap (λ o. option_map_or (products_by rs base) o (p ∷ [])) none in
    let rest = idle_equations rs (base + names_taken rs p) ps both.1 in
    λ i. here i ++ rest i

idle_next : (rs : List Rule) (base : ℕ) (ps : List Pair) → list_all (λ p. is_none (active_pair rs p)) ps ≡ true → next_after rs base ps ≡ base
idle_next rs base [] e = refl
idle_next rs base (p ∷ ps) e =
    let both = and_parts (is_none (active_pair rs p)) (list_all (λ q. is_none (active_pair rs q)) ps) e in
    let taken : names_taken rs p ≡ 0 = ap (λ o. option_map_or (λ a. count_of rs a.rule) o 0) (none_of (active_pair rs p) both.0) in
    let rest = idle_next rs (base + names_taken rs p) ps both.1 in
    omega (arith, taken, rest)

pub idle : (rs : List Rule) (c : Configuration) → is_inert rs c ≡ true → fired rs c ≡ c
idle rs c inert =
    let equations = idle_equations rs c.next c.equations inert in
    let next = idle_next rs c.next c.equations inert in
    λ i. record { interface = c.interface; equations = equations i; next = next i }

still : (c : Configuration) → is_settled c ≡ true → settled c ≡ c
still c e = at (first_choice c.interface [] c.equations) refl
  where
    at : (found : Option Choice) → first_choice c.interface [] c.equations ≡ found → settled c ≡ c
    at None none = settled-stop c none
    at (Some choice) some = absurd (true≢false (sym e ∙ ap (λ o. is_none (option_map (applied c) o)) some))

pub quiet_stays : (rs : List Rule) (c : Configuration) → IsQuiet rs c → round rs c ≡ c
quiet_stays rs c quiet =
    let both = and_parts (is_inert rs c) (is_settled c) (is_quiet_where rs c quiet) in
    ap settled (idle rs c both.0) ∙ still c both.1
