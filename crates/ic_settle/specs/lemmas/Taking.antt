-- What the map's calls say of the bindings in it, whatever its values are.
use Rattle.std.proofs.Common.{◌≡◌, ℕ, ◌+◌, List, [], ◌∷◌, Bool, true, false, cond, Option, None, Some, option_map, MatchOption, refl, sym, ap, ◌∙◌}
use Rattle.std.specs.Prelude.{nat_eq, sum_by}
use Rattle.std.specs.Option.{IfNone}
use Rattle.std.specs.Map.{lookup}
use Rattle.std.proofs.lemmas.List.Folds.{fold-map}
use Rattle.indexmap.specs.IndexMap.{swap_remove_entry, insert_entry}
use Rattle.ic_term.specs.Tree.{Tree, names, nodes}
use Rattle.ic_term.specs.Configuration.{occurrences}
use Rattle.ic_settle.specs.lemmas.Waiting.{kept_by, look, held, nodes_kept, IsTaken, IsAdded}
use Rattle.ic_settle.specs.lemmas.Entries.{swap_removed, newly_added}

inward : {V : Type 0} (view : V → Tree) (b : Bool) (p o : Option V) → option_map view (cond b p o) ≡ cond b (option_map view p) (option_map view o)
inward view true p o = refl
inward view false p o = refl

none_there : {V : Type 0} (view : V → Tree) (o : Option V) → option_map view o ≡ None → o ≡ None
none_there view None e = refl
none_there view (Some t) e = cc

-- ---- the entries of a map by what their values stand for

pub look-kept_by : {V : Type 0} (view : V → Tree) (es : List (ℕ × V)) (x : ℕ) → look (kept_by view es) x ≡ option_map view (lookup (nat_eq x) es)
look-kept_by view [] x = refl
look-kept_by view (e ∷ es) x =
    ap (λ o. cond (nat_eq x e.0) (Some (view e.1)) o) (look-kept_by view es x) ∙ sym (inward view (nat_eq x e.0) (Some e.1) (lookup (nat_eq x) es))

sum_by-kept_by : {V : Type 0} (view : V → Tree) (f : Tree → ℕ) (es : List (ℕ × V)) → sum_by (λ e. f e.1) (kept_by view es) ≡ sum_by (λ e. f (view e.1)) es
sum_by-kept_by {V} view f es = fold-map (λ (a : ℕ) (e : ℕ × Tree). a + f e.1) (λ (e : ℕ × V). (e.0, view e.1)) 0 es

pub held-kept_by : {V : Type 0} (view : V → Tree) (es : List (ℕ × V)) (y : ℕ) → held (kept_by view es) y ≡ sum_by (λ e. occurrences y (names (view e.1))) es
held-kept_by view es y = sum_by-kept_by view (λ t. occurrences y (names t)) es

pub nodes-kept_by : {V : Type 0} (view : V → Tree) (es : List (ℕ × V)) → nodes_kept (kept_by view es) ≡ sum_by (λ e. nodes (view e.1)) es
nodes-kept_by view es = sum_by-kept_by view nodes es

-- ---- one taken out, and one put in

pub take_is : {V : Type 0} (view : V → Tree) (es es' : List (ℕ × V)) (x : ℕ) (o : Option V) → o ≡ lookup (nat_eq x) es
    → ((q : ℕ) → lookup (nat_eq q) es' ≡ cond (nat_eq x q) None (lookup (nat_eq q) es)) → es' ≡ swap_remove_entry (nat_eq x) es → IfNone o (es' ≡ es)
    → MatchOption o ((look (kept_by view es) x ≡ None) × (kept_by view es' ≡ kept_by view es)) (λ t. IsTaken (kept_by view es) (kept_by view es') x (view t))
take_is view es es' x None is updates entries same = (look-kept_by view es x ∙ ap (option_map view) (sym is), ap (kept_by view) same)
take_is view es es' x (Some t) is updates entries same = record {
  there = look-kept_by view es x ∙ ap (option_map view) (sym is);
  gone = λ q. look-kept_by view es' q ∙ ap (option_map view) (updates q) ∙ inward view (nat_eq x q) None (lookup (nat_eq q) es)
      ∙ ap (cond (nat_eq x q) None) (sym (look-kept_by view es q));
  held = λ y.
      ap (λ n. n + occurrences y (names (view t))) (held-kept_by view es' y)
      ∙ ap (λ l. sum_by (λ e. occurrences y (names (view e.1))) l + occurrences y (names (view t))) entries
      ∙ swap_removed (λ v. occurrences y (names (view v))) x es t (sym is) ∙ sym (held-kept_by view es y);
  nodes = ap (λ n. n + nodes (view t)) (nodes-kept_by view es')
      ∙ ap (λ l. sum_by (λ e. nodes (view e.1)) l + nodes (view t)) entries
      ∙ swap_removed (λ v. nodes (view v)) x es t (sym is) ∙ sym (nodes-kept_by view es);
}

pub insert_is : {V : Type 0} (view : V → Tree) (es es' : List (ℕ × V)) (x : ℕ) (t : V) → look (kept_by view es) x ≡ None
    → ((q : ℕ) → lookup (nat_eq q) es' ≡ cond (nat_eq x q) (Some t) (lookup (nat_eq q) es)) → es' ≡ insert_entry nat_eq es x t
    → IsAdded (kept_by view es) (kept_by view es') x (view t)
insert_is view es es' x t none updates entries = record {
  there = λ q. look-kept_by view es' q ∙ ap (option_map view) (updates q) ∙ inward view (nat_eq x q) (Some t) (lookup (nat_eq q) es)
      ∙ ap (cond (nat_eq x q) (Some (view t))) (sym (look-kept_by view es q));
  held = λ y. held-kept_by view es' y ∙ ap (λ l. sum_by (λ e. occurrences y (names (view e.1))) l) entries
      ∙ newly_added (λ v. occurrences y (names (view v))) x es t (none_there view (lookup (nat_eq x) es) (sym (look-kept_by view es x) ∙ none))
      ∙ ap (λ n. n + occurrences y (names (view t))) (sym (held-kept_by view es y));
}
