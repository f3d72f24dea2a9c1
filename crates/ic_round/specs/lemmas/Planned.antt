-- What the works of a configuration are.
use Rattle.std.proofs.Common.{◌≡◌, ℕ, ◌+◌, ◌≤◌, List, [], ◌∷◌, true, Option, None, Some, IsTrue, slice_get, length, map, nat_le, inl, inr, refl, sym, ap, ◌∙◌, arith}
use Rattle.std.proofs.lemmas.Grind.{common_steps}
use Rattle.std.proofs.lemmas.Option.{slice_get_cases}
use Rattle.std.specs.List.{AllByRecursion}
use Rattle.std.specs.Option.{option_map_or}
use Rattle.ic_term.specs.Tree.{Pair}
use Rattle.ic_term.specs.declared.limits.TheConstants.{MAX_NEXT}
use Rattle.ic_rules.specs.Rule.{Rule}
use Rattle.ic_round.specs.Firing.{Active, active_pair, count_of, names_taken, next_after}
use Rattle.ic_round.specs.ActivePlaces.{active_from, bases_from}
use Rattle.ic_round.specs.Works.{PlainWork, work_at, works_from, suits, suits_rule, is_agent_of}
use Rattle.ic_round.specs.lemmas.SoundRules.{HasSoundRule}
use Rattle.ic_settle.specs.lemmas.SubstitutionLaws.{and_both}
use Rattle.ic_round.specs.lemmas.Separating.{active_within}
use Rattle.ic_round.specs.lemmas.FiredNames.{next_grows}

-- the places of the works are those of the active equations
pub works-places : (rs : List Rule) (i base : ℕ) (ps : List Pair) → map (λ (w : PlainWork). w.place) (works_from rs i base ps) ≡ active_from rs i ps
works-places rs i base [] = refl
works-places rs i base (p ∷ ps) = at (active_pair rs p) (works-places rs (i + 1) (base + names_taken rs p) ps)
  where
    at : (found : Option Active) → map (λ (w : PlainWork). w.place) (works_from rs (i + 1) (base + names_taken rs p) ps) ≡ active_from rs (i + 1) ps
        → map (λ (w : PlainWork). w.place) (option_map_or (λ a. work_at i base a ∷ works_from rs (i + 1) (base + names_taken rs p) ps) found (works_from rs (i + 1) (base + names_taken rs p) ps))
        ≡ option_map_or (λ a. i ∷ active_from rs (i + 1) ps) found (active_from rs (i + 1) ps)
    at None rest = rest
    at (Some a) rest = ap (λ l. i ∷ l) rest

-- their bases are the bases of the active equations
pub works-bases : (rs : List Rule) (i base : ℕ) (ps : List Pair) → map (λ (w : PlainWork). w.base) (works_from rs i base ps) ≡ bases_from rs base ps
works-bases rs i base [] = refl
works-bases rs i base (p ∷ ps) = at (active_pair rs p) refl (works-bases rs (i + 1) (base + names_taken rs p) ps)
  where
    at : (found : Option Active) → active_pair rs p ≡ found → map (λ (w : PlainWork). w.base) (works_from rs (i + 1) (base + names_taken rs p) ps) ≡ bases_from rs (base + names_taken rs p) ps
        → map (λ (w : PlainWork). w.base) (option_map_or (λ a. work_at i base a ∷ works_from rs (i + 1) (base + names_taken rs p) ps) found (works_from rs (i + 1) (base + names_taken rs p) ps))
        ≡ option_map_or (λ a. base ∷ bases_from rs (base + count_of rs a.rule) ps) found (bases_from rs base ps)
    at None e rest =
        let taken : names_taken rs p ≡ 0 = ap (λ o. option_map_or (λ b. count_of rs b.rule) o 0) e in
        let same : base + names_taken rs p ≡ base = omega arith in
        rest ∙ ap (λ b. bases_from rs b ps) same
    at (Some a) e rest =
        let taken : names_taken rs p ≡ count_of rs a.rule = ap (λ o. option_map_or (λ b. count_of rs b.rule) o 0) e in
        ap (λ l. base ∷ l) (rest ∙ ap (λ n. bases_from rs (base + n) ps) taken)

-- ---- works suit

suits_with : (w : PlainWork) (o : Option Rule) (r : Rule) → o ≡ Some r → is_agent_of r.left (length r.left_args) w.active.left ≡ true
    → is_agent_of r.right (length r.right_args) w.active.right ≡ true → w.base + r.names ≤ MAX_NEXT → suits_rule w o ≡ true
suits_with w o r e left right small =
    ap (suits_rule w) e ∙ and_both (and_both left right) (let h : nat_le (w.base + r.names) MAX_NEXT ≡ true = grind (arith, common_steps) in h)

active_there : (rs : List Rule) (p : Pair) (a : Active) → active_pair rs p ≡ Some a → slice_get rs a.rule ≡ None → ⊥
active_there rs p a is none = elim (slice_get_cases rs a.rule).1 [
  | inl h ↦ let both = sym none ∙ h.2 in cc
  | inr h ↦ let within = active_within rs p a is in let past = h.0 in absurd (omega arith)
]

pub one_suits : (rs : List Rule) (i base : ℕ) (p : Pair) (a : Active) → HasSoundRule rs p → active_pair rs p ≡ Some a → base + count_of rs a.rule ≤ MAX_NEXT
    → suits rs (work_at i base a) ≡ true
one_suits rs i base p a sound is small = at (slice_get rs a.rule) refl
  where
    at : (o : Option Rule) → slice_get rs a.rule ≡ o → suits rs (work_at i base a) ≡ true
    at None e = absurd (active_there rs p a is e)
    at (Some r) e =
        let fit = sound a r is e in
        let count = ap (λ o. option_map_or (λ (q : Rule). q.names) o 0) e in
        suits_with (work_at i base a) (slice_get rs a.rule) r e fit.left fit.right (omega arith)

pub works_suit : (rs : List Rule) (i base : ℕ) (ps : List Pair) → AllByRecursion (HasSoundRule rs) ps → next_after rs base ps ≤ MAX_NEXT
    → AllByRecursion (λ w. IsTrue (suits rs w)) (works_from rs i base ps)
works_suit rs i base [] sound small = tt
works_suit rs i base (p ∷ ps) sound small =
    at (active_pair rs p) refl (next_grows rs (base + names_taken rs p) ps) (works_suit rs (i + 1) (base + names_taken rs p) ps sound.1 small)
  where
    at : (found : Option Active) → active_pair rs p ≡ found → base + names_taken rs p ≤ next_after rs (base + names_taken rs p) ps
        → AllByRecursion (λ w. IsTrue (suits rs w)) (works_from rs (i + 1) (base + names_taken rs p) ps)
        → AllByRecursion (λ w. IsTrue (suits rs w)) (option_map_or (λ a. work_at i base a ∷ works_from rs (i + 1) (base + names_taken rs p) ps) found (works_from rs (i + 1) (base + names_taken rs p) ps))
    at None e grows rest = rest
    at (Some a) e grows rest =
        let taken : names_taken rs p ≡ count_of rs a.rule = ap (λ o. option_map_or (λ b. count_of rs b.rule) o 0) e in
        (one_suits rs i base p a sound.0 e (omega arith), rest)
