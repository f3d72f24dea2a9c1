-- A fired configuration stays over the symbols of its rules.
use Rattle.std.proofs.Common.{◌≡◌, ℕ, suc, ◌+◌, ◌&&◌, ◌++◌, List, [], ◌∷◌, true, Option, None, Some, slice_get, length, map, refl, sym, ap, ◌∙◌, inl, inr}
use Rattle.std.proofs.lemmas.List.Folds.{list_all-append}
use Rattle.std.specs.List.{list_all}
use Rattle.std.specs.Option.{option_map_or}
use Rattle.ic_term.specs.Tree.{Tree, name, agent, Trees, no_trees, more_trees, list_of, Pair}
use Rattle.ic_term.specs.Symbol.{Symbol, has_arity, is_tree_over, are_trees_over, is_pair_over, is_over}
use Rattle.ic_term.specs.Configuration.{Configuration}
use Rattle.ic_rules.specs.Renaming.{renamed, renamed_trees}
use Rattle.ic_rules.specs.Rule.{Rule}
use Rattle.ic_rules.specs.RuleSet.{first_unfit}
use Rattle.ic_rules.specs.lemmas.FitLaws.{rule_over_at}
use Rattle.ic_round.specs.Instance.{inst}
use Rattle.ic_round.specs.Firing.{Active, active_pair, arguments, against, products, products_by, names_taken, fired_pair, fired_from, fired}
use Rattle.std.proofs.lemmas.Bool.{and_parts}
use Rattle.ic_settle.specs.lemmas.SubstitutionLaws.{and_both}
use Rattle.ic_round.specs.lemmas.FiredNames.{SidesOf, active_sides_of}

same_count : (f : ℕ → ℕ) (ts : Trees) → length (list_of (renamed_trees f ts)) ≡ length (list_of ts)
same_count f no_trees = refl
same_count f (more_trees t ts) = ap suc (same_count f ts)

mutual
  over_renamed : (ss : List Symbol) (f : ℕ → ℕ) (t : Tree) → is_tree_over ss (renamed f t) ≡ is_tree_over ss t
  over_renamed ss f (name n) = refl
  over_renamed ss f (agent s ts) = λ i. has_arity (same_count f ts i) (slice_get ss s) && over_renamed_trees ss f ts i

  over_renamed_trees : (ss : List Symbol) (f : ℕ → ℕ) (ts : Trees) → are_trees_over ss (renamed_trees f ts) ≡ are_trees_over ss ts
  over_renamed_trees ss f no_trees = refl
  over_renamed_trees ss f (more_trees t ts) = λ i. over_renamed ss f t i && over_renamed_trees ss f ts i

over_map : (ss : List Symbol) (f : ℕ → ℕ) (ts : List Tree) → list_all (is_tree_over ss) (map (renamed f) ts) ≡ list_all (is_tree_over ss) ts
over_map ss f [] = refl
over_map ss f (t ∷ ts) = λ i. over_renamed ss f t i && over_map ss f ts i

over_list : (ss : List Symbol) (ts : Trees) → list_all (is_tree_over ss) (list_of ts) ≡ are_trees_over ss ts
over_list ss no_trees = refl
over_list ss (more_trees t ts) = ap (λ b. is_tree_over ss t && b) (over_list ss ts)

over_arguments : (ss : List Symbol) (t : Tree) → is_tree_over ss t ≡ true → list_all (is_tree_over ss) (arguments t) ≡ true
over_arguments ss (name n) over = refl
over_arguments ss (agent s ts) over = over_list ss ts ∙ (and_parts (has_arity (length (list_of ts)) (slice_get ss s)) (are_trees_over ss ts) over).1

over_against : (ss : List Symbol) (ts us : List Tree) → list_all (is_tree_over ss) ts ≡ true → list_all (is_tree_over ss) us ≡ true → list_all (is_pair_over ss) (against ts us) ≡ true
over_against ss [] us p q = refl
over_against ss (t ∷ ts) [] p q = refl
over_against ss (t ∷ ts) (u ∷ us) p q =
    let first = and_parts (is_tree_over ss t) (list_all (is_tree_over ss) ts) p in
    let second = and_parts (is_tree_over ss u) (list_all (is_tree_over ss) us) q in
    and_both (and_both first.0 second.0) (over_against ss ts us first.1 second.1)

over_sides : (ss : List Symbol) (p : Pair) (a : Active) → SidesOf p a → is_pair_over ss p ≡ true → (is_tree_over ss a.left ≡ true) × (is_tree_over ss a.right ≡ true)
over_sides ss p a (inl (l, r)) over = let both = and_parts (is_tree_over ss p.left) (is_tree_over ss p.right) over in (ap (is_tree_over ss) l ∙ both.0, ap (is_tree_over ss) r ∙ both.1)
over_sides ss p a (inr (l, r)) over = let both = and_parts (is_tree_over ss p.left) (is_tree_over ss p.right) over in (ap (is_tree_over ss) l ∙ both.1, ap (is_tree_over ss) r ∙ both.0)

over_products : (ss : List Symbol) (rs : List Rule) (base : ℕ) (a : Active) → first_unfit ss rs ≡ None → is_tree_over ss a.left ≡ true → is_tree_over ss a.right ≡ true
    → (o : Option Rule) → slice_get rs a.rule ≡ o → list_all (is_pair_over ss) (option_map_or (λ r. products (inst r base) a.left a.right) o []) ≡ true
over_products ss rs base a none left right None e = refl
over_products ss rs base a none left right (Some r) e =
    let f : ℕ → ℕ = λ k. base + k in
    let args = rule_over_at ss rs a.rule r none e in
    list_all-append (is_pair_over ss) (against (arguments a.left) (map (renamed f) r.left_args)) (against (arguments a.right) (map (renamed f) r.right_args))
    ∙ and_both (over_against ss (arguments a.left) (map (renamed f) r.left_args) (over_arguments ss a.left left) (over_map ss f r.left_args ∙ args.left_args))
    (over_against ss (arguments a.right) (map (renamed f) r.right_args) (over_arguments ss a.right right) (over_map ss f r.right_args ∙ args.right_args))

pub over_pair : (ss : List Symbol) (rs : List Rule) (base : ℕ) (p : Pair) → first_unfit ss rs ≡ None → is_pair_over ss p ≡ true
    → (found : Option Active) → active_pair rs p ≡ found → list_all (is_pair_over ss) (option_map_or (products_by rs base) found (p ∷ [])) ≡ true
over_pair ss rs base p none over None e = and_both over refl
over_pair ss rs base p none over (Some a) e =
    let sides = over_sides ss p a (active_sides_of rs p a e) over in
    over_products ss rs base a none sides.0 sides.1 (slice_get rs a.rule) refl

over_fired : (ss : List Symbol) (rs : List Rule) (base : ℕ) (ps : List Pair) → first_unfit ss rs ≡ None → list_all (is_pair_over ss) ps ≡ true
    → list_all (is_pair_over ss) (fired_from rs base ps) ≡ true
over_fired ss rs base [] none over = refl
over_fired ss rs base (p ∷ ps) none over =
    let both = and_parts (is_pair_over ss p) (list_all (is_pair_over ss) ps) over in
    list_all-append (is_pair_over ss) (fired_pair rs base p) (fired_from rs (base + names_taken rs p) ps)
    ∙ and_both (over_pair ss rs base p none both.0 (active_pair rs p) refl) (over_fired ss rs (base + names_taken rs p) ps none both.1)

pub fired_over : (ss : List Symbol) (rs : List Rule) (c : Configuration) → first_unfit ss rs ≡ None → is_over ss c ≡ true → is_over ss (fired rs c) ≡ true
fired_over ss rs c none over =
    let both = and_parts (list_all (is_tree_over ss) c.interface) (list_all (is_pair_over ss) c.equations) over in
    and_both both.0 (over_fired ss rs c.next c.equations none both.1)

-- equations in the place of one
pub over_replaced : (ss : List Symbol) (before out after : List Pair) → list_all (is_pair_over ss) (before ++ after) ≡ true
    → list_all (is_pair_over ss) out ≡ true → list_all (is_pair_over ss) (before ++ (out ++ after)) ≡ true
over_replaced ss before out after all more =
    let f = is_pair_over ss in
    let parts = and_parts (list_all f before) (list_all f after) (sym (list_all-append f before after) ∙ all) in
    list_all-append f before (out ++ after) ∙ and_both parts.0 (list_all-append f out after ∙ and_both more parts.1)
