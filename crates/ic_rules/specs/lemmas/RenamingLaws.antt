-- Lemmas, which a reader of the contracts doesn't need: terms with their names turned into others.
use Rattle.std.proofs.Common.{◌≡◌, ℕ, List, [], ◌∷◌, ◌++◌, map, refl, sym, ap}
use Rattle.std.proofs.lemmas.List.{map-append}
use Rattle.std.specs.List.{flat_map, AllByRecursion}
use Rattle.ic_term.specs.Tree.{Tree, name, agent, Trees, no_trees, more_trees, trees_of, names, names_of}
use Rattle.ic_rules.specs.Renaming.{renamed, renamed_trees}

-- the arguments of an agent, renamed one by one
pub renamed_trees-trees_of : (f : ℕ → ℕ) (ts : List Tree) → renamed_trees f (trees_of ts) ≡ trees_of (map (renamed f) ts)
renamed_trees-trees_of f [] = refl
renamed_trees-trees_of f (t ∷ ts) = ap (λ us. more_trees (renamed f t) us) (renamed_trees-trees_of f ts)

-- the names of renamed terms are the renamed names
mutual
  pub names-renamed : (f : ℕ → ℕ) (t : Tree) → names (renamed f t) ≡ map f (names t)
  names-renamed f (name n) = refl
  names-renamed f (agent s ts) = names_of-renamed f ts

  pub names_of-renamed : (f : ℕ → ℕ) (ts : Trees) → names_of (renamed_trees f ts) ≡ map f (names_of ts)
  names_of-renamed f no_trees = refl
  names_of-renamed f (more_trees t ts) =
      rw (names-renamed f t, names_of-renamed f ts) (sym (map-append f (names t) (names_of ts)))

pub flat_names-renamed : (f : ℕ → ℕ) (ts : List Tree) → flat_map names (map (renamed f) ts) ≡ map f (flat_map names ts)
flat_names-renamed f [] = refl
flat_names-renamed f (t ∷ ts) = rw (names-renamed f t, flat_names-renamed f ts) (sym (map-append f (names t) (flat_map names ts)))

-- two renamings one after the other are a third, where they are on each name
abbrev pub Through : (ℕ → ℕ) → (ℕ → ℕ) → (ℕ → ℕ) → List ℕ → Type 0
Through f g h ns = AllByRecursion (λ n. g (f n) ≡ h n) ns

pub through-append : (f g h : ℕ → ℕ) (ms ns : List ℕ) → Through f g h (ms ++ ns) → Through f g h ms × Through f g h ns
through-append f g h [] ns all = (tt, all)
through-append f g h (m ∷ ms) ns all = let rest = through-append f g h ms ns all.1 in ((all.0, rest.0), rest.1)

mutual
  renamed-through : (f g h : ℕ → ℕ) (t : Tree) → Through f g h (names t) → renamed g (renamed f t) ≡ renamed h t
  renamed-through f g h (name n) all = ap name all.0
  renamed-through f g h (agent s ts) all = ap (agent s) (renamed_trees-through f g h ts all)

  renamed_trees-through : (f g h : ℕ → ℕ) (ts : Trees) → Through f g h (names_of ts) → renamed_trees g (renamed_trees f ts) ≡ renamed_trees h ts
  renamed_trees-through f g h no_trees all = refl
  renamed_trees-through f g h (more_trees t ts) all =
      let parts = through-append f g h (names t) (names_of ts) all in
      λ i. more_trees (renamed-through f g h t parts.0 i) (renamed_trees-through f g h ts parts.1 i)

pub terms-through : (f g h : ℕ → ℕ) (ts : List Tree) → Through f g h (flat_map names ts) → map (renamed g) (map (renamed f) ts) ≡ map (renamed h) ts
terms-through f g h [] all = refl
terms-through f g h (t ∷ ts) all =
    let parts = through-append f g h (names t) (flat_map names ts) all in
    λ i. renamed-through f g h t parts.0 i ∷ terms-through f g h ts parts.1 i
