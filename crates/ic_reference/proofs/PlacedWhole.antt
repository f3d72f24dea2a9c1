-- What is held put at the first occurrence of a name in a configuration.
use Rattle.std.proofs.Common.{◌≡◌, ℕ, suc, ◌≤◌, List, [], ◌∷◌, Option, Some, length, map, refl, sym, ◌∙◌, ap, arith}
use Rattle.ic_term.specs.Tree.{Tree, more_trees, Pair}
use Rattle.ic_term.specs.Configuration.{names_in, occurrences}
use Rattle.ic_settle.specs.Settling.{subst, subst_pair}
use Rattle.ic_reference.specs.inner.Placing.{placed, placed_all, placed_terms, placed_pair, placed_pairs}
use Rattle.ic_reference.proofs.Placed.{placed_all-once}
use Rattle.ic_settle.specs.lemmas.WholeLaws.{sides, whole, names_of-whole, subst_all-whole, length-map_subst}

placed_all-sides : (x : ℕ) (held : Option Tree) (es : List Pair)
    → placed_all x held (sides es) ≡ (sides (placed_pairs x held es).0, (placed_pairs x held es).1)
placed_all-sides x held [] = refl
placed_all-sides x held (p ∷ ps) =
    ap (λ r. (more_trees (placed_pair x held p).0.left (more_trees (placed_pair x held p).0.right r.0), r.1)) (placed_all-sides x (placed_pair x held p).1 ps)

pub placed_all-whole : (x : ℕ) (held : Option Tree) (ts : List Tree) (es : List Pair)
    → placed_all x held (whole ts es)
    ≡ (whole (placed_terms x held ts).0 (placed_pairs x (placed_terms x held ts).1 es).0, (placed_pairs x (placed_terms x held ts).1 es).1)
placed_all-whole x held [] es = placed_all-sides x held es
placed_all-whole x held (t ∷ ts) es = ap (λ r. (more_trees (placed x held t).0 r.0, r.1)) (placed_all-whole x (placed x held t).1 ts es)

pub length-placed_terms : (x : ℕ) (held : Option Tree) (ts : List Tree) → length (placed_terms x held ts).0 ≡ length ts
length-placed_terms x held [] = refl
length-placed_terms x held (t ∷ ts) = ap suc (length-placed_terms x (placed x held t).1 ts)

-- the parts are determined by the whole
sides-injective : (es fs : List Pair) → sides es ≡ sides fs → es ≡ fs
sides-injective [] [] e = refl
sides-injective [] (q ∷ qs) e = cc
sides-injective (p ∷ ps) [] e = cc
sides-injective (p ∷ ps) (q ∷ qs) e =
    let left : p.left ≡ q.left = cc in
    let right : p.right ≡ q.right = cc in
    let rest : sides ps ≡ sides qs = cc in
    let same : p ≡ q = ap (λ (a : Tree × Tree). record { left = a.0; right = a.1 }) (ap (λ a. (a, p.right)) left ∙ ap (λ b. (q.left, b)) right) in
    let tail = sides-injective ps qs rest in cc

pub whole-injective : (ts us : List Tree) (es fs : List Pair) → length ts ≡ length us → whole ts es ≡ whole us fs → (ts ≡ us) × (es ≡ fs)
whole-injective [] [] es fs n e = (refl, sides-injective es fs e)
whole-injective [] (u ∷ us) es fs n e = absurd (omega arith)
whole-injective (t ∷ ts) [] es fs n e = absurd (omega arith)
whole-injective (t ∷ ts) (u ∷ us) es fs n e =
    let first : t ≡ u = cc in
    let rest : whole ts es ≡ whole us fs = cc in
    let below = whole-injective ts us es fs (omega arith) rest in
    ((let d = below.0 in cc), below.1)

-- where the name occurs at most once, what is placed in terms and equations is what the definition of substitution puts
pub placed_whole-once : (x : ℕ) (u : Tree) (ts : List Tree) (es : List Pair) → occurrences x (names_in ts es) ≤ 1
    → ((placed_terms x (Some u) ts).0 ≡ map (subst x u) ts) × ((placed_pairs x (placed_terms x (Some u) ts).1 es).0 ≡ map (subst_pair x u) es)
placed_whole-once x u ts es bound =
    let once = placed_all-once x u (whole ts es) (rw (names_of-whole ts es) bound) in
    let same = ap (λ r. r.0) (sym (placed_all-whole x (Some u) ts es) ∙ once) ∙ subst_all-whole x u ts es in
    whole-injective _ _ _ _ (length-placed_terms x (Some u) ts ∙ sym (length-map_subst x u ts)) same

-- the same for what two passes gave
pub placed_in_turn : (x : ℕ) (u : Tree) (ts ts' : List Tree) (es es' : List Pair) (held held' : Option Tree) → occurrences x (names_in ts es) ≤ 1
    → placed_terms x (Some u) ts ≡ (ts', held) → placed_pairs x held es ≡ (es', held')
    → (ts' ≡ map (subst x u) ts) × (es' ≡ map (subst_pair x u) es)
placed_in_turn x u ts ts' es es' held held' bound first rest =
    let once = placed_whole-once x u ts es bound in
    (sym (ap (λ r. r.0) first) ∙ once.0, sym (ap (λ r. r.0) rest) ∙ ap (λ h. (placed_pairs x h es).0) (sym (ap (λ r. r.1) first)) ∙ once.1)
