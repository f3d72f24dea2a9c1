-- Laws of putting what is held at the first occurrence of a name.
use Rattle.std.proofs.Common.{◌≡◌, ℕ, zero, suc, ◌+◌, ◌≤◌, ◌==◌, List, [], ◌∷◌, ◌++◌, true, false, cond, Option, None, Some, refl, sym, ◌∙◌, ap, append-nil, arith}
use Rattle.ic_term.specs.Configuration.{occurrences}
use Rattle.ic_settle.specs.Settling.{subst, subst_all}
use Rattle.ic_settle.specs.lemmas.SubstitutionLaws.{occurrences-append, subst_all-absent}
use Rattle.ic_term.specs.Tree.{Tree, name, agent, Trees, no_trees, more_trees, trees_of, names, names_of}
use Rattle.ic_reference.specs.inner.Placing.{placed, placed_all, placed_terms}

-- a list after what is done
abbrev pub put_after : {A : Type 0} → List A → List A × Option Tree → List A × Option Tree
put_after done rest = (done ++ rest.0, rest.1)

-- the arguments of an agent are placed in as a list is
pub placed_all-trees_of : (x : ℕ) (held : Option Tree) (ts : List Tree)
    → placed_all x held (trees_of ts) ≡ (trees_of (placed_terms x held ts).0, (placed_terms x held ts).1)
placed_all-trees_of x held [] = refl
placed_all-trees_of x held (t ∷ ts) =
    let rest = placed_all-trees_of x (placed x held t).1 ts in ap (λ r. (more_trees (placed x held t).0 r.0, r.1)) rest

-- an agent whose arguments are all done
pub placed-agent : (x : ℕ) (held after : Option Tree) (s : ℕ) (ts done : List Tree) → put_after done (placed_terms x after []) ≡ placed_terms x held ts
    → placed x held (agent s (trees_of ts)) ≡ (agent s (trees_of done), after)
placed-agent x held after s ts done e =
    let all = ap (λ r. (trees_of r.0, r.1)) (sym e ∙ ap (λ l. (l, after)) (append-nil done)) in
    ap (λ r. (agent s r.0, r.1)) (placed_all-trees_of x held ts ∙ all)

-- where nothing is held, nothing changes
mutual
  pub placed-none : (x : ℕ) (t : Tree) → placed x None t ≡ (t, None)
  placed-none x (name n) = refl
  placed-none x (agent s ts) = ap (λ r. (agent s r.0, r.1)) (placed_all-none x ts)

  pub placed_all-none : (x : ℕ) (ts : Trees) → placed_all x None ts ≡ (ts, None)
  placed_all-none x no_trees = refl
  placed_all-none x (more_trees t ts) =
      ap (λ f. (more_trees f.0 (placed_all x f.1 ts).0, (placed_all x f.1 ts).1)) (placed-none x t)
      ∙ ap (λ r. (more_trees t r.0, r.1)) (placed_all-none x ts)

-- what is still held after so many occurrences
abbrev pub left_over : Tree → ℕ → Option Tree
left_over u zero = Some u
left_over u (suc k) = None

once_step : (x : ℕ) (u t : Tree) (ts : Trees) (k j o : ℕ) → o ≡ k + j → o ≤ 1 → occurrences x (names_of ts) ≡ j
    → placed x (Some u) t ≡ (subst x u t, left_over u k) → placed_all x (Some u) ts ≡ (subst_all x u ts, left_over u j)
    → placed_all x (Some u) (more_trees t ts) ≡ (subst_all x u (more_trees t ts), left_over u o)
once_step x u t ts zero j o e bound count first rest =
    let same : o ≡ j = omega arith in
    ap (λ f. (more_trees f.0 (placed_all x f.1 ts).0, (placed_all x f.1 ts).1)) first
    ∙ ap (λ r. (more_trees (subst x u t) r.0, r.1)) rest ∙ ap (λ n. (subst_all x u (more_trees t ts), left_over u n)) (sym same)
once_step x u t ts (suc k) j o e bound count first rest =
    let one : o ≡ 1 = omega arith in
    let none : occurrences x (names_of ts) ≡ 0 = omega arith in
    ap (λ f. (more_trees f.0 (placed_all x f.1 ts).0, (placed_all x f.1 ts).1)) first
    ∙ ap (λ r. (more_trees (subst x u t) r.0, r.1)) (placed_all-none x ts)
    ∙ ap (λ us. (more_trees (subst x u t) us, None)) (sym (subst_all-absent x u ts none))
    ∙ ap (λ n. (subst_all x u (more_trees t ts), left_over u n)) (sym one)

-- where the name occurs at most once, what is placed is what the definition of substitution puts
mutual
  pub placed-once : (x : ℕ) (u t : Tree) → occurrences x (names t) ≤ 1 → placed x (Some u) t ≡ (subst x u t, left_over u (occurrences x (names t)))
  placed-once x u (name n) bound =
      elim (n == x) as (λ b. ◌≡◌ {A = Tree × Option Tree} (cond b (u, None) (name n, Some u)) (cond b u (name n), left_over u (0 + cond b 1 0))) [ true ↦ refl | false ↦ refl ]
  placed-once x u (agent s ts) bound = ap (λ r. (agent s r.0, r.1)) (placed_all-once x u ts bound)

  pub placed_all-once : (x : ℕ) (u : Tree) (ts : Trees) → occurrences x (names_of ts) ≤ 1
      → placed_all x (Some u) ts ≡ (subst_all x u ts, left_over u (occurrences x (names_of ts)))
  placed_all-once x u no_trees bound = refl
  placed_all-once x u (more_trees t ts) bound =
      let both = occurrences-append x (names t) (names_of ts) in
      once_step x u t ts (occurrences x (names t)) (occurrences x (names_of ts)) _ both bound refl
      (placed-once x u t (omega arith)) (placed_all-once x u ts (omega arith))
