-- The first of some rules, or of their agents, that a test finds is found.
use Rattle.std.proofs.Common.{◌≡◌, ℕ, ◌+◌, Bool, true, false, not, cond, List, [], ◌∷◌, ◌++◌, Option, None, Some, Result, Ok, Err, length, map, slice_get, refl, sym, ap, ◌∙◌, arith, add-zero, append_assoc}
use Rattle.std.proofs.lemmas.List.{append-nil}
use Rattle.std.specs.List.{flat_map, list_any, position_from, AllByRecursion}
use Rattle.ic_term.specs.Symbol.{Symbol, has_arity}
use Rattle.ic_rules.specs.Renaming.{are_paired}
use Rattle.ic_rules.specs.Rule.{Rule, rule_names, rule_agents, numbered, is_lopsided, same_pair}
use Rattle.ic_rules.specs.RuleSet.{Rules, unfit_among, first_unfit, first_uncounted, first_repeated, first_lopsided, repeated_after, unless, built}
use Rattle.ic_rules.specs.Refusals.{IsFirst, IsFirstUnfit, AreCounted, IsRefusal, IsTaken}
use Rattle.ic_rules.specs.declared.rule_set.RuleFault.{RuleFault}
use Rattle.ic_rules.specs.declared.rule_set.RuleFault.TheVariants.{Limit, Arity, NameCount, Twice, Lopsided, Memory}
use Rattle.ic_rules.specs.lemmas.FitLaws.{first_unfit-None}

found_after : (p : Rule → Bool) (j : ℕ) (before : List Rule) (r : Rule) (after : List Rule) → p r ≡ true → AllByRecursion (λ r. p r ≡ false) before
    → position_from p j (before ++ r ∷ after) ≡ Some (j + length before)
found_after p j [] r after found none = ap (λ b. cond b (Some j) (position_from p (j + 1) after)) found ∙ ap Some (sym (add-zero j))
found_after p j (b ∷ bs) r after found none =
    let next = found_after p (j + 1) bs r after found none.1 in
    ap (λ x. cond x (Some j) (position_from p (j + 1) (bs ++ r ∷ after))) none.0 ∙ next ∙ ap Some (omega arith)

found : (p : Rule → Bool) (rs : List Rule) (i : ℕ) → IsFirst p rs i → position_from p 0 rs ≡ Some i
found p rs i is =
    let zero : 0 + length is.before ≡ i = omega (arith, is.counted) in
    ap (position_from p 0) is.parts ∙ found_after p 0 is.before is.rule is.after is.found is.none_before ∙ ap Some zero

none_found : (p : Rule → Bool) (j : ℕ) (rs : List Rule) → AllByRecursion (λ r. p r ≡ false) rs → position_from p j rs ≡ None
none_found p j [] none = refl
none_found p j (r ∷ rs) none = ap (λ b. cond b (Some j) (position_from p (j + 1) rs)) none.0 ∙ none_found p (j + 1) rs none.1

position-numbered : (p : Rule → Bool) (j : ℕ) (rs : List Rule) → position_from p j (map numbered rs) ≡ position_from (λ r. p (numbered r)) j rs
position-numbered p j [] = refl
position-numbered p j (r ∷ rs) = ap (cond (p (numbered r)) (Some j)) (position-numbered p (j + 1) rs)

none_uncounted : (j : ℕ) (rs : List Rule) → AreCounted rs → position_from (λ r. not (are_paired (rule_names r))) j rs ≡ None
none_uncounted j [] counted = refl
none_uncounted j (r ∷ rs) counted =
    ap (λ b. cond (not b) (Some j) (position_from (λ r. not (are_paired (rule_names r))) (j + 1) rs)) counted.0
    ∙ none_uncounted (j + 1) rs counted.1

unfit_after : (ss : List Symbol) (before : List (ℕ × ℕ)) (s arity : ℕ) (after : List (ℕ × ℕ)) → has_arity arity (slice_get ss s) ≡ false
    → AllByRecursion (λ a. has_arity a.1 (slice_get ss a.0) ≡ true) before → unfit_among ss (before ++ (s, arity) ∷ after) ≡ Some s
unfit_after ss [] s arity after unfit fit = ap (λ b. cond b (unfit_among ss after) (Some s)) unfit
unfit_after ss (a ∷ before) s arity after unfit fit =
    ap (λ b. cond b (unfit_among ss (before ++ (s, arity) ∷ after)) (Some a.0)) fit.0 ∙ unfit_after ss before s arity after unfit fit.1

unfit_found : (ss : List Symbol) (agents : List (ℕ × ℕ)) (s : ℕ) → IsFirstUnfit ss agents s → unfit_among ss agents ≡ Some s
unfit_found ss agents s is = ap (unfit_among ss) is.parts ∙ unfit_after ss is.before s is.arity is.after is.unfit is.fit_before

repeated_found : (seen before : List Rule) (r : Rule) (after : List Rule) → list_any (same_pair r) (seen ++ before) ≡ true → repeated_after seen before ≡ None
    → repeated_after seen (before ++ r ∷ after) ≡ Some (length (seen ++ before))
repeated_found seen [] r after again none =
    ap (λ b. cond b (Some (length seen)) (repeated_after (seen ++ r ∷ []) after)) (sym (ap (list_any (same_pair r)) (append-nil seen)) ∙ again)
    ∙ ap (λ l. Some (length l)) (sym (append-nil seen))
repeated_found seen (b ∷ bs) r after again none =
    at (list_any (same_pair b) seen) refl none
    (repeated_found (seen ++ b ∷ []) bs r after (ap (list_any (same_pair r)) (append_assoc seen (b ∷ []) bs) ∙ again))
  where
    at : (x : Bool) → list_any (same_pair b) seen ≡ x → cond x (Some (length seen)) (repeated_after (seen ++ b ∷ []) bs) ≡ None
        → (repeated_after (seen ++ b ∷ []) bs ≡ None
        → repeated_after (seen ++ b ∷ []) (bs ++ r ∷ after) ≡ Some (length ((seen ++ b ∷ []) ++ bs)))
        → repeated_after seen (b ∷ (bs ++ r ∷ after)) ≡ Some (length (seen ++ b ∷ bs))
    at true is e later = cc
    at false is e later =
        ap (λ y. cond y (Some (length seen)) (repeated_after (seen ++ b ∷ []) (bs ++ r ∷ after))) is
        ∙ later e ∙ ap (λ l. Some (length l)) (append_assoc seen (b ∷ []) bs)

module _ (ss : List Symbol) (rs : List Rule) where
  abbrev outcome : Bool → Option ℕ → Option ℕ → Option ℕ → Option ℕ → Result Rules RuleFault
  outcome few unfit uncounted repeated lopsided =
      cond few (unless unfit Arity (unless uncounted NameCount (unless repeated Twice (unless lopsided Lopsided
      (Ok (record { symbols = ss; rules = map numbered rs })))))) (Err Limit)

  pub taken_so : (set : Rules) → IsTaken ss rs set → built ss rs ≡ Ok set
  taken_so set is =
      let fit : first_unfit ss rs ≡ None = (first_unfit-None ss rs).1 is.over in
      let counted : first_uncounted rs ≡ None = none_uncounted 0 rs is.counted in
      let level : first_lopsided rs ≡ None = position-numbered is_lopsided 0 rs ∙ none_found (λ r. is_lopsided (numbered r)) 0 rs is.level in
      (λ i. outcome (is.few i) (fit i) (counted i) (is.single i) (level i)) ∙ ap Ok (sym is.made)

  pub refused_so : (fault : RuleFault) → IsRefusal ss rs fault → built ss rs ≡ Err fault
  refused_so Limit is = λ i. outcome (is i) (first_unfit ss rs) (first_uncounted rs) (first_repeated rs) (first_lopsided rs)
  refused_so (Arity s) is =
      let unfit : first_unfit ss rs ≡ Some s = unfit_found ss (flat_map rule_agents rs) s is.1 in
      λ i. outcome (is.0 i) (unfit i) (first_uncounted rs) (first_repeated rs) (first_lopsided rs)
  refused_so (NameCount n) is =
      let fit : first_unfit ss rs ≡ None = (first_unfit-None ss rs).1 is.1 in
      let uncounted : first_uncounted rs ≡ Some n = found (λ r. not (are_paired (rule_names r))) rs n is.2 in
      λ i. outcome (is.0 i) (fit i) (uncounted i) (first_repeated rs) (first_lopsided rs)
  refused_so (Twice n) is =
      let fit : first_unfit ss rs ≡ None = (first_unfit-None ss rs).1 is.1 in
      let counted : first_uncounted rs ≡ None = none_uncounted 0 rs is.2 in
      let first = is.3 in
      let repeated : first_repeated rs ≡ Some n =
      ap (repeated_after []) first.parts ∙ repeated_found [] first.before first.rule first.after first.again first.single ∙ ap Some first.counted in
      λ i. outcome (is.0 i) (fit i) (counted i) (repeated i) (first_lopsided rs)
  refused_so (Lopsided n) is =
      let fit : first_unfit ss rs ≡ None = (first_unfit-None ss rs).1 is.1 in
      let counted : first_uncounted rs ≡ None = none_uncounted 0 rs is.2 in
      let lopsided : first_lopsided rs ≡ Some n = position-numbered is_lopsided 0 rs ∙ found (λ r. is_lopsided (numbered r)) rs n is.4 in
      λ i. outcome (is.0 i) (fit i) (counted i) (is.3 i) (lopsided i)
  refused_so Memory is = absurd is
