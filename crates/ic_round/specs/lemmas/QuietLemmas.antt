-- Lemmas: `is_quiet` tells exactly whether no step is possible.
use Rattle.std.proofs.Common.{◌≡◌, ℕ, List, [], ◌∷◌, ◌++◌, true, Option, None, Some, is_none, refl, sym, ◌∙◌, append_assoc, length, subst as transport}
use Rattle.std.specs.Prelude.{◌↔◌}
use Rattle.std.specs.List.{flat_map, list_all}
use Rattle.ic_term.specs.Tree.{Pair, names}
use Rattle.ic_term.specs.Configuration.{Configuration, names_in}
use Rattle.ic_rules.specs.Rule.{Rule}
use Rattle.ic_settle.specs.Settling.{Binding, Choice, first_choice, applied, occurs, Binds}
use Rattle.ic_round.specs.Firing.{Active, active_pair}
use Rattle.ic_round.specs.Steps.{Step, StandsAt, interaction, indirection, collect}
use Rattle.ic_round.specs.Quiet.{IsQuiet, is_inert, is_settled, is_quiet}
use Rattle.std.proofs.lemmas.Bool.{and_parts}
use Rattle.ic_settle.specs.lemmas.SubstitutionLaws.{and_both}
use Rattle.ic_settle.specs.lemmas.ChoiceLaws.{binding_some}
use Rattle.ic_settle.specs.lemmas.Reached.{unbound_at}
use Rattle.ic_round.specs.lemmas.NameStepLemmas.{name_step, in_either, in_first}
use Rattle.ic_round.specs.lemmas.SettledLemmas.{choice_step}

-- ---- from the test to the steps

pub none_of : {X : Type 0} (o : Option X) → is_none o ≡ true → o ≡ None
none_of None e = refl
none_of (Some x) e = cc

inert_at : (rs : List Rule) (before : List Pair) (p : Pair) (after : List Pair)
    → list_all (λ q. is_none (active_pair rs q)) (before ++ p ∷ after) ≡ true → active_pair rs p ≡ None
inert_at rs [] p after all = none_of _ (and_parts _ (list_all (λ q. is_none (active_pair rs q)) after) all).0
inert_at rs (q ∷ before) p after all =
    inert_at rs before p after (and_parts (is_none (active_pair rs q)) (list_all (λ r. is_none (active_pair rs r)) (before ++ p ∷ after)) all).1

no_binding : (c : Configuration) (place : ℕ) (before : List Pair) (p : Pair) (after : List Pair) (b : Binding)
    → first_choice c.interface [] c.equations ≡ None → StandsAt c.equations place before p after → Binds p b
    → occurs b.name (names_in c.interface (before ++ after)) ≡ true → ⊥
no_binding c place before p after b none stands side found =
    let P : List Pair → Type 0 = λ es. first_choice c.interface [] es ≡ None in
    binding_some (names_in c.interface (before ++ after)) p b side found (unbound_at c.interface [] before p after (transport P stands.parts none))

no_choice_of : (o : Option Choice) (c : Configuration) → first_choice c.interface [] c.equations ≡ o → is_settled c ≡ true → o ≡ None
no_choice_of None c e settled = refl
no_choice_of (Some choice) c e settled = let bad = rw e at settled in cc

some_not_none : (o : Option Active) (a : Active) → o ≡ Some a → o ≡ None → ⊥
some_not_none o a e f = let both = sym e ∙ f in cc

pub no_step : (rs : List Rule) (c : Configuration) → is_quiet rs c ≡ true → IsQuiet rs c
no_step rs c quiet d step = at (and_parts (is_inert rs c) (is_settled c) quiet) step
  where
    unbound : is_settled c ≡ true → first_choice c.interface [] c.equations ≡ None
    unbound settled = no_choice_of (first_choice c.interface [] c.equations) c refl settled

    at : (is_inert rs c ≡ true) × (is_settled c ≡ true) → Step rs c d → ⊥
    at (inert, settled) (interaction x y place i) =
        let P : List Pair → Type 0 = λ es. list_all (λ q. is_none (active_pair rs q)) es ≡ true in
        some_not_none (active_pair rs i.equation) i.active i.has_rule (inert_at rs i.before i.equation i.after (transport P i.stands.parts inert))
    at (inert, settled) (indirection x y place i) =
        no_binding c place i.before i.equation i.after i.bound (unbound settled) i.stands i.side (in_either i.bound.name (flat_map names c.interface) _ i.elsewhere)
    at (inert, settled) (collect x y place i) =
        no_binding c place i.before i.equation i.after i.bound (unbound settled) i.stands i.side (in_first i.bound.name (flat_map names c.interface) _ i.elsewhere)

-- ---- from the steps to the test

inert_from : (rs : List Rule) (c : Configuration) → IsQuiet rs c → (before ps : List Pair) → c.equations ≡ before ++ ps
    → list_all (λ p. is_none (active_pair rs p)) ps ≡ true
inert_from rs c quiet before [] split = refl
inert_from rs c quiet before (p ∷ ps) split =
    and_both (at (active_pair rs p) refl) (inert_from rs c quiet (before ++ p ∷ []) ps (split ∙ sym (append_assoc before (p ∷ []) ps)))
  where
    at : (found : Option Active) → active_pair rs p ≡ found → is_none found ≡ true
    at None e = refl
    at (Some a) e = absurd (quiet _ (interaction c _ (length before) (record {
      before = before;
      equation = p;
      after = ps;
      active = a;
      stands = record { counted = refl; parts = split };
      has_rule = e;
      result = refl;
    })))

settled_from : (rs : List Rule) (c : Configuration) → IsQuiet rs c → (o : Option Choice) → first_choice c.interface [] c.equations ≡ o → is_settled c ≡ true
settled_from rs c quiet None e = rw e refl
settled_from rs c quiet (Some choice) e = absurd (quiet (applied c choice) (name_step rs c (applied c choice) (choice_step c choice e)))

pub is_quiet_where : (rs : List Rule) (c : Configuration) → IsQuiet rs c → is_quiet rs c ≡ true
is_quiet_where rs c quiet = and_both (inert_from rs c quiet [] c.equations refl) (settled_from rs c quiet (first_choice c.interface [] c.equations) refl)

-- The test holds exactly where no step is possible.
pub quiet_is_no_step : (rs : List Rule) (c : Configuration) → (is_quiet rs c ≡ true) ↔ IsQuiet rs c
quiet_is_no_step rs c = (no_step rs c, is_quiet_where rs c)
