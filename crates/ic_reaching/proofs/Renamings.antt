-- Lemmas: terms, equations and configurations with their names turned into others one-to-one.
use Rattle.std.proofs.Common.{◌≡◌, ℕ, List, [], ◌∷◌, ◌++◌, map, refl, ap, ◌∙◌}
use Rattle.std.specs.List.{AllByRecursion, flat_map}
use Rattle.ic_term.specs.Tree.{Tree, name, agent, Trees, no_trees, more_trees, names, names_of, Pair, pair_names}
use Rattle.ic_term.specs.Configuration.{occurrences}
use Rattle.ic_rules.specs.Renaming.{renamed, renamed_trees}
use Rattle.ic_rules.specs.lemmas.RenamingLaws.{names-renamed, Through, through-append}
use Rattle.ic_confluence.specs.Sameness.{Rotated, Alike, itself, exchanged, rotated, in_turn, Rearranged, nothing, kept, swapped, one_by_one, renamed_pair}
use Rattle.ic_confluence.specs.lemmas.Puts.{OneToOne, occurrences-renamed, renamed-subst}
use Rattle.ic_reaching.specs.lemmas.Orders.{rearranged_itself}

-- ---- how often names occur

-- ---- two renamings one after the other

pub all_are : (P : ℕ → Type 0) → ((n : ℕ) → P n) → (ns : List ℕ) → AllByRecursion P ns
all_are P each [] = tt
all_are P each (n ∷ ns) = (each n, all_are P each ns)

mutual
  renamed-through : (f g h : ℕ → ℕ) (t : Tree) → Through f g h (names t) → renamed g (renamed f t) ≡ renamed h t
  renamed-through f g h (name n) all = ap name all.0
  renamed-through f g h (agent s ts) all = ap (agent s) (renamed_trees-through f g h ts all)

  renamed_trees-through : (f g h : ℕ → ℕ) (ts : Trees) → Through f g h (names_of ts) → renamed_trees g (renamed_trees f ts) ≡ renamed_trees h ts
  renamed_trees-through f g h no_trees all = refl
  renamed_trees-through f g h (more_trees t ts) all =
      let parts = through-append f g h (names t) (names_of ts) all in
      λ i. more_trees (renamed-through f g h t parts.0 i) (renamed_trees-through f g h ts parts.1 i)

pub pairs-through : (f g h : ℕ → ℕ) (es : List Pair) → Through f g h (flat_map pair_names es) → map (renamed_pair g) (map (renamed_pair f) es) ≡ map (renamed_pair h) es
pairs-through f g h [] all = refl
pairs-through f g h (p ∷ es) all =
    let parts = through-append f g h (names p.left ++ names p.right) (flat_map pair_names es) all in
    let sides = through-append f g h (names p.left) (names p.right) parts.0 in
    let left = renamed-through f g h p.left sides.0 in
    let right = renamed-through f g h p.right sides.1 in
    λ i. record { left = left i; right = right i } ∷ pairs-through f g h es parts.1 i

-- ---- a term put for a name, and all of it renamed

-- ---- equations that are rearranged, renamed

once_renamed : (f : ℕ → ℕ) → OneToOne f → (x : ℕ) (t : Tree) → occurrences x (names t) ≡ 1 → occurrences (f x) (names (renamed f t)) ≡ 1
once_renamed f one x t once = ap (occurrences (f x)) (names-renamed f t) ∙ (occurrences-renamed f one x (names t) ∙ once)

rotated_renamed : (f : ℕ → ℕ) → OneToOne f → (p q : Pair) → Rotated p q → Rotated (renamed_pair f p) (renamed_pair f q)
rotated_renamed f one p q is = record {
  cut = f is.cut;
  inner = renamed f is.inner;
  outer = renamed f is.outer;
  once_inner = once_renamed f one is.cut is.inner is.once_inner;
  once_outer = once_renamed f one is.cut is.outer is.once_outer;
  given = ap (renamed_pair f) is.given ∙ ap (λ t. record { left = name (f is.cut); right = t }) (renamed-subst f one is.cut is.inner is.outer);
  result = ap (renamed_pair f) is.result ∙ ap (λ t. record { left = name (f is.cut); right = t }) (renamed-subst f one is.cut is.outer is.inner);
}

alike_renamed : (f : ℕ → ℕ) → OneToOne f → (p q : Pair) → Alike p q → Alike (renamed_pair f p) (renamed_pair f q)
alike_renamed f one p q (itself r) = itself (renamed_pair f r)
alike_renamed f one p q (exchanged r) = exchanged (renamed_pair f r)
alike_renamed f one p q (rotated r s is) = rotated (renamed_pair f r) (renamed_pair f s) (rotated_renamed f one r s is)
alike_renamed f one p q (in_turn r s t first second) = in_turn (renamed_pair f r) (renamed_pair f s) (renamed_pair f t) (alike_renamed f one r s first) (alike_renamed f one s t second)

-- and with others after them
pub arranged_renamed : (f : ℕ → ℕ) → OneToOne f → (back es fs : List Pair) → Rearranged es fs → Rearranged (map (renamed_pair f) es ++ back) (map (renamed_pair f) fs ++ back)
arranged_renamed f one back es fs nothing = rearranged_itself back
arranged_renamed f one back es fs (kept p q ps qs alike rest) =
    kept (renamed_pair f p) (renamed_pair f q) (map (renamed_pair f) ps ++ back) (map (renamed_pair f) qs ++ back) (alike_renamed f one p q alike) (arranged_renamed f one back ps qs rest)
arranged_renamed f one back es fs (swapped p q ps) = swapped (renamed_pair f p) (renamed_pair f q) (map (renamed_pair f) ps ++ back)
arranged_renamed f one back es fs (one_by_one ps qs rs first second) =
    one_by_one (map (renamed_pair f) ps ++ back) (map (renamed_pair f) qs ++ back) (map (renamed_pair f) rs ++ back) (arranged_renamed f one back ps qs first) (arranged_renamed f one back qs rs second)
