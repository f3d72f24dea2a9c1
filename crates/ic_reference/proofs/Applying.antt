-- A name equation removed, and its other side put for the name, over the parts of the program.
use Rattle.std.proofs.Common.{◌≡◌, ℕ, ◌+◌, ◌≤◌, ◌<◌, List, ◌∷◌, ◌++◌, true, Some, slice_get, length, map, take, drop, get_or, option_map, refl, sym, ap, ◌∙◌, subst as transport, arith}
use Rattle.std.proofs.lemmas.List.{take-map, drop-map, length-map}
use Rattle.std.proofs.lemmas.Option.{same_Some, slice_get-map, slice_get_read, slice_get_within}
use Rattle.std.specs.List.{remove}
use Rattle.ic_term.specs.declared.term.Term.{Term}
use Rattle.ic_term.specs.declared.term.Equation.{Equation}
use Rattle.ic_term.specs.Term.{tree, pair}
use Rattle.ic_term.specs.Tree.{Tree, Pair}
use Rattle.ic_term.specs.Symbol.{Symbol, is_over}
use Rattle.ic_term.specs.Configuration.{Configuration, IsConfiguration, names_in, occurrences}
use Rattle.ic_settle.specs.Settling.{subst, subst_pair}
use Rattle.ic_settle.specs.Sides.{other_side, bound_by}
use Rattle.ic_reference.specs.SingleSteps.{others}
use Rattle.ic_reference.specs.inner.Replacing.{Applies, applied_at}
use Rattle.ic_settle.specs.declared.applicability.Applicable.{Applicable}
use Rattle.ic_settle.specs.lemmas.StepLaws.{once_outside, configuration_kept, over_kept}
use Rattle.ic_reference.proofs.ListLemmas.{map_remove}
use Rattle.ic_reference.proofs.StandsAt.{stands}

-- the configuration, written with the equation in its place
shape : (c : Configuration) (place : ℕ) (p : Pair) → slice_get c.equations place ≡ Some p
    → c ≡ record c { equations = take place c.equations ++ p ∷ drop (place + 1) c.equations }
shape c place p there = ap (λ es. record c { equations = es }) (stands c.equations place p there).parts

pub applies-once : (c : Configuration) (place : ℕ) (a : Applicable) → Applies c place a → IsConfiguration c
    → occurrences a.name (names_in c.interface (others c place)) ≤ 1
applies-once c place a s valid =
    let before = take place c.equations in
    let after = drop (place + 1) c.equations in
    let P : Configuration → Type 0 = IsConfiguration in
    let here = transport P (shape c place s.equation s.there) valid in
    let once = once_outside c.interface before s.equation after (bound_by s.equation a) s.side here.twice s.outside in
    omega arith

pub applies-kept : (c : Configuration) (place : ℕ) (a : Applicable) → (s : Applies c place a) → IsConfiguration c → IsConfiguration (applied_at c place a s.equation)
applies-kept c place a s valid =
    let P : Configuration → Type 0 = IsConfiguration in
    configuration_kept c.interface (take place c.equations) s.equation (drop (place + 1) c.equations) c.next (bound_by s.equation a) s.side s.outside
    (transport P (shape c place s.equation s.there) valid)

pub applies-over : (ss : List Symbol) (c : Configuration) (place : ℕ) (a : Applicable) → (s : Applies c place a) → is_over ss c ≡ true
    → is_over ss (applied_at c place a s.equation) ≡ true
applies-over ss c place a s over =
    over_kept ss c.interface (take place c.equations) s.equation (drop (place + 1) c.equations) c.next (bound_by s.equation a) s.side
    (ap (is_over ss) (sym (shape c place s.equation s.there)) ∙ over)

-- ---- over the program's equations

pub removed-others : (es : List Equation) (i : ℕ) (ps : List Pair) → map pair es ≡ ps → map pair (remove es i) ≡ take i ps ++ drop (i + 1) ps
removed-others es i ps same =
    map_remove es i ∙ (λ j. sym (take-map pair i es) j ++ sym (drop-map pair (i + 1) es) j) ∙ ap (λ qs. take i qs ++ drop (i + 1) qs) same

-- what stands at a place of the program's equations
pub pair_at : (es : List Equation) (i : ℕ) (ps : List Pair) (e : Equation) → map pair es ≡ ps → i < length es → e ≡ get_or es i e → slice_get ps i ≡ Some (pair e)
pair_at es i ps e same within here =
    ap (λ qs. slice_get qs i) (sym same) ∙ slice_get-map pair es i ∙ ap (option_map pair) (slice_get_read es (length es) i e refl within here)

pair_there : (es : List Equation) (i : ℕ) (ps : List Pair) (e : Equation) (p : Pair) → map pair es ≡ ps → e ≡ get_or es i e
    → slice_get ps i ≡ Some p → pair e ≡ p
pair_there es i ps e p same here there =
    let inside = slice_get_within ps i p there in
    let within : i < length es = omega (arith, ap length same, length-map es pair) in
    same_Some (pair e) p (sym (pair_at es i ps e same within here) ∙ there)

-- what the removal and the substitution give
pub applied-made : (c : Configuration) (place : ℕ) (a : Applicable) (p : Pair) (ts us : List Term) (es rest fs : List Equation) (n : ℕ) (e : Equation) (u : Tree)
    → slice_get c.equations place ≡ Some p → map tree ts ≡ c.interface → map pair es ≡ c.equations → n ≡ c.next → rest ≡ remove es place → e ≡ get_or es place e
    → u ≡ other_side (pair e) a.side → map tree us ≡ map (subst a.name u) (map tree ts) → map pair fs ≡ map (subst_pair a.name u) (map pair rest)
    → record { interface = map tree us; equations = map pair fs; next = n } ≡ applied_at c place a p
applied-made c place a p ts us es rest fs n e u there same_terms same_equations same_next removed here other put_terms put_equations =
    let term : u ≡ other_side p a.side = other ∙ ap (λ r. other_side r a.side) (pair_there es place c.equations e p same_equations here there) in
    let left : map pair rest ≡ others c place = ap (map pair) removed ∙ removed-others es place c.equations same_equations in
    let first : map tree us ≡ map (subst a.name (other_side p a.side)) c.interface = put_terms ∙ (λ j. map (subst a.name (term j)) (same_terms j)) in
    let last : map pair fs ≡ map (subst_pair a.name (other_side p a.side)) (others c place) = put_equations ∙ (λ j. map (subst_pair a.name (term j)) (left j)) in
    λ j. record { interface = first j; equations = last j; next = same_next j }

-- the equations without the one at a place, as the program has them
pub others_of : (es : List Equation) (i : ℕ) (c : Configuration) → map pair es ≡ c.equations → map pair (take i es) ++ map pair (drop (i + 1) es) ≡ others c i
others_of es i c same = (λ j. sym (take-map pair i es) j ++ sym (drop-map pair (i + 1) es) j) ∙ ap (λ qs. take i qs ++ drop (i + 1) qs) same

pub applies_copy : (d c : Configuration) (place : ℕ) (a : Applicable) → d ≡ c → Applies c place a → Applies d place a
applies_copy d c place a same s = transport (λ e. Applies e place a) (sym same) s
