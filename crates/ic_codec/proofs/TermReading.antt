-- Which terms bytes begin with, and when they begin with none.
use Rattle.std.proofs.Common.{◌≡◌, ◌≢◌, ℕ, suc, ◌+◌, ◌-◌, ◌^◌, ◌<◌, ◌≤◌, true, ◌&&◌, List, [], ◌∷◌, ◌++◌, length, Option, Some, None, refl, sym, ap, ◌∙◌, append_assoc, arith, sum_by}
use Rattle.std.specs.Prelude.{slice_get}
use Rattle.std.specs.List.{flat_map, AllByRecursion}
use Rattle.std.specs.Option.{option_map}
use Rattle.std.specs.Cmp.{unsigned_Decides}
use Rattle.std.proofs.lemmas.Bool.{and_parts}
use Rattle.std.proofs.lemmas.List.{length-append, append-nil}
use Rattle.std.proofs.lemmas.List.Sums.{sum_by-cons, sum_by_push}
use Rattle.ic_term.specs.Tree.{Tree, name, agent, Trees, no_trees, more_trees, names, names_of, nodes, nodes_of, list_of, trees_of}
use Rattle.ic_term.specs.Symbol.{Symbol, has_arity, symbol_arity, is_tree_over, are_trees_over}
use Rattle.ic_term.specs.lemmas.TreeLaws.{nodes_of-trees_of}
use Rattle.ic_codec.specs.Numbers.{eight_bytes}
use Rattle.ic_codec.specs.Terms.{tree_bytes, trees_bytes}
use Rattle.ic_codec.specs.inner.Forms.{HasBytes}
use Rattle.ic_codec.specs.inner.Fronts.{BeginsWithTree, BeginsWithNoTree, BeginsWithTrees, BeginsWithNoTrees}
use Rattle.ic_codec.proofs.NumberLemmas.{length-eight_bytes}
use Rattle.ic_codec.proofs.TermLemmas.{tree_front, known_below, one_arity, all_left as part_left, all_right as part_right}

-- ---- lists of terms and their bytes

trees_bytes-list : (ts : Trees) → trees_bytes ts ≡ flat_map tree_bytes (list_of ts)
trees_bytes-list no_trees = refl
trees_bytes-list (more_trees t ts) = ap (λ (bs : List ℕ). tree_bytes t ++ bs) (trees_bytes-list ts)

trees_bytes-trees_of : (ts : List Tree) → trees_bytes (trees_of ts) ≡ flat_map tree_bytes ts
trees_bytes-trees_of [] = refl
trees_bytes-trees_of (t ∷ ts) = ap (λ (bs : List ℕ). tree_bytes t ++ bs) (trees_bytes-trees_of ts)

nodes_of-list : (ts : Trees) → nodes_of ts ≡ sum_by nodes (list_of ts)
nodes_of-list no_trees = refl
nodes_of-list (more_trees t ts) = ap (λ k. nodes t + k) (nodes_of-list ts) ∙ sym (sum_by-cons nodes t (list_of ts))

length-trees_of : (ts : List Tree) → length (list_of (trees_of ts)) ≡ length ts
length-trees_of [] = refl
length-trees_of (t ∷ ts) = ap suc (length-trees_of ts)

nodes_positive : (t : Tree) → 1 ≤ nodes t
nodes_positive (name n) = omega arith
nodes_positive (agent s ts) = omega arith

join_all : (P : ℕ → Type 0) (ms ns : List ℕ) → AllByRecursion P ms → AllByRecursion P ns → AllByRecursion P (ms ++ ns)
join_all P [] ns left right = right
join_all P (m ∷ ms) ns left right = (left.0, join_all P ms ns left.1 right)

-- arguments that have bytes make an agent's arguments that do
over_trees_of : (ss : List Symbol) (ts : List Tree) → AllByRecursion (HasBytes ss) ts → are_trees_over ss (trees_of ts) ≡ true
over_trees_of ss [] all = refl
over_trees_of ss (t ∷ ts) all = rw (all.0.over, over_trees_of ss ts all.1) refl

names_trees_of : (ss : List Symbol) (ts : List Tree) → AllByRecursion (HasBytes ss) ts → AllByRecursion (λ n. n < 2 ^ 64) (names_of (trees_of ts))
names_trees_of ss [] all = tt
names_trees_of ss (t ∷ ts) all = join_all (λ n. n < 2 ^ 64) (names t) (names_of (trees_of ts)) all.0.names (names_trees_of ss ts all.1)

-- an agent's arguments have bytes where it has
each_has : (ss : List Symbol) (ts : Trees) → are_trees_over ss ts ≡ true → AllByRecursion (λ n. n < 2 ^ 64) (names_of ts) → AllByRecursion (HasBytes ss) (list_of ts)
each_has ss no_trees over small = tt
each_has ss (more_trees t ts) over small =
    let parts = and_parts (is_tree_over ss t) (are_trees_over ss ts) over in (
      record { over = parts.0; names = part_left (λ n. n < 2 ^ 64) (names t) (names_of ts) small },
      each_has ss ts parts.1 (part_right (λ n. n < 2 ^ 64) (names t) (names_of ts) small),
    )

pub arity_known : (a : ℕ) (o : Option Symbol) → option_map (λ (s : Symbol). s.arity) o ≡ Some a → has_arity a o ≡ true
arity_known a None e = absurd cc
arity_known a (Some s) e = let same : s.arity ≡ a = cc in (unsigned_Decides s.arity a).1 same

-- ---- one term

pub agent_begins : (ss : List Symbol) (budget s a left : ℕ) (ts : List Tree) (bytes after rest : List ℕ) → 1 ≤ budget
    → bytes ≡ s ∷ after → symbol_arity ss s ≡ Some a → BeginsWithTrees ss a (budget - 1) after ts left rest
    → BeginsWithTree ss budget bytes (agent s (trees_of ts)) left rest
agent_begins ss budget s a left ts bytes after rest some first arity begins =
    let count : length (list_of (trees_of ts)) ≡ a = length-trees_of ts ∙ begins.many in
    let known : has_arity (length (list_of (trees_of ts))) (slice_get ss s) ≡ true =
    ap (λ k. has_arity k (slice_get ss s)) count ∙ arity_known a (slice_get ss s) arity in
    let args : are_trees_over ss (trees_of ts) ≡ true = over_trees_of ss ts begins.has_bytes in
    let over : (has_arity (length (list_of (trees_of ts))) (slice_get ss s) && are_trees_over ss (trees_of ts)) ≡ true = rw (known, args) refl in
    let spelled : after ≡ trees_bytes (trees_of ts) ++ rest = begins.parts ∙ ap (λ (bs : List ℕ). bs ++ rest) (sym (trees_bytes-trees_of ts)) in
    record {
      parts = first ∙ ap (λ (bs : List ℕ). s ∷ bs) spelled;
      has_bytes = record { over = over; names = names_trees_of ss ts begins.has_bytes };
      counted = omega (arith, begins.counted, nodes_of-trees_of ts);
    }

pub none_without_budget : (ss : List Symbol) (budget : ℕ) (bytes : List ℕ) → budget ≡ 0 → BeginsWithNoTree ss budget bytes
none_without_budget ss budget bytes none t rest has few e = omega (arith, nodes_positive t)

pub none_without_bytes : (ss : List Symbol) (budget : ℕ) (bytes : List ℕ) → bytes ≡ [] → BeginsWithNoTree ss budget bytes
none_without_bytes ss budget bytes none (name n) rest has few e = let clash : [] ≡ 255 ∷ eight_bytes n ++ rest = sym none ∙ e in absurd cc
none_without_bytes ss budget bytes none (agent s ts) rest has few e = let clash : [] ≡ s ∷ trees_bytes ts ++ rest = sym none ∙ e in absurd cc

pub none_without_number : (ss : List Symbol) (budget : ℕ) (bytes after : List ℕ) → length ss ≤ 64 → bytes ≡ 255 ∷ after → length after < 8
    → BeginsWithNoTree ss budget bytes
none_without_number ss budget bytes after little first short (name n) rest has few e =
    let same : 255 ∷ after ≡ 255 ∷ eight_bytes n ++ rest = sym first ∙ e in
    let tails : after ≡ eight_bytes n ++ rest = cc in
    omega (arith, ap length tails, length-append (eight_bytes n) rest, length-eight_bytes n)
none_without_number ss budget bytes after little first short (agent s ts) rest has few e =
    let same : 255 ∷ after ≡ s ∷ trees_bytes ts ++ rest = sym first ∙ e in
    let symbols : 255 ≡ s = cc in
    let known = (and_parts (has_arity (length (list_of ts)) (slice_get ss s)) (are_trees_over ss ts) has.over).0 in
    let below = known_below ss s (length (list_of ts)) (slice_get ss s) refl known in
    omega arith

pub none_without_symbol : (ss : List Symbol) (budget s : ℕ) (bytes after : List ℕ) → bytes ≡ s ∷ after → s ≢ 255 → length ss ≤ s
    → BeginsWithNoTree ss budget bytes
none_without_symbol ss budget s bytes after first other unknown (name n) rest has few e =
    let same : s ∷ after ≡ 255 ∷ eight_bytes n ++ rest = sym first ∙ e in
    other cc
none_without_symbol ss budget s bytes after first other unknown (agent r ts) rest has few e =
    let same : s ∷ after ≡ r ∷ trees_bytes ts ++ rest = sym first ∙ e in
    let symbols : s ≡ r = cc in
    let known = (and_parts (has_arity (length (list_of ts)) (slice_get ss r)) (are_trees_over ss ts) has.over).0 in
    let below = known_below ss r (length (list_of ts)) (slice_get ss r) refl known in
    omega arith

pub none_without_arguments : (ss : List Symbol) (budget s a : ℕ) (bytes after : List ℕ) → 1 ≤ budget → bytes ≡ s ∷ after → s ≢ 255
    → symbol_arity ss s ≡ Some a → BeginsWithNoTrees ss a (budget - 1) after → BeginsWithNoTree ss budget bytes
none_without_arguments ss budget s a bytes after some first other arity none (name n) rest has few e =
    let same : s ∷ after ≡ 255 ∷ eight_bytes n ++ rest = sym first ∙ e in
    other cc
none_without_arguments ss budget s a bytes after some first other arity none (agent r ts) rest has few e =
    let same : s ∷ after ≡ r ∷ trees_bytes ts ++ rest = sym first ∙ e in
    let symbols : s ≡ r = cc in
    let tails : after ≡ trees_bytes ts ++ rest = cc in
    let known = and_parts (has_arity (length (list_of ts)) (slice_get ss r)) (are_trees_over ss ts) has.over in
    let given : has_arity a (slice_get ss r) ≡ true = ap (λ k. has_arity a (slice_get ss k)) (sym symbols) ∙ arity_known a (slice_get ss s) arity in
    let count : length (list_of ts) ≡ a = one_arity (length (list_of ts)) a (slice_get ss r) known.0 given in
    none (list_of ts) rest (each_has ss ts known.1 has.names) count (omega (arith, nodes_of-list ts)) (tails ∙ ap (λ (bs : List ℕ). bs ++ rest) (trees_bytes-list ts))

-- ---- so many terms

flat_map-push : (ts : List Tree) (t : Tree) → flat_map tree_bytes (ts ++ t ∷ []) ≡ flat_map tree_bytes ts ++ tree_bytes t
flat_map-push [] t = append-nil (tree_bytes t)
flat_map-push (u ∷ us) t = ap (λ (bs : List ℕ). tree_bytes u ++ bs) (flat_map-push us t) ∙ sym (append_assoc (tree_bytes u) (flat_map tree_bytes us) (tree_bytes t))

all_push : (P : Tree → Type 0) (ts : List Tree) (t : Tree) → AllByRecursion P ts → P t → AllByRecursion P (ts ++ t ∷ [])
all_push P [] t all here = (here, tt)
all_push P (u ∷ us) t all here = (all.0, all_push P us t all.1 here)

pub one_more : (ss : List Symbol) (count budget : ℕ) (bytes : List ℕ) (ts : List Tree) (left : ℕ) (rest : List ℕ) (t : Tree) (left' : ℕ) (rest' : List ℕ)
    → BeginsWithTrees ss count budget bytes ts left rest → BeginsWithTree ss left rest t left' rest'
    → BeginsWithTrees ss (count + 1) budget bytes (ts ++ t ∷ []) left' rest'
one_more ss count budget bytes ts left rest t left' rest' begins next = record {
  parts = begins.parts ∙ ap (λ (bs : List ℕ). flat_map tree_bytes ts ++ bs) next.parts
      ∙ sym (append_assoc (flat_map tree_bytes ts) (tree_bytes t) rest') ∙ ap (λ (bs : List ℕ). bs ++ rest') (sym (flat_map-push ts t));
  has_bytes = all_push (HasBytes ss) ts t begins.has_bytes next.has_bytes;
  many = omega (arith, length-append ts (t ∷ []), begins.many);
  counted = omega (arith, begins.counted, next.counted, sum_by_push nodes ts t);
}

-- where bytes begin with terms, and with fewer of them, they begin with a further one after these
none_after : (ss : List Symbol) → length ss ≤ 64 → (ts us : List Tree) (left : ℕ) (rest rest' : List ℕ)
    → AllByRecursion (HasBytes ss) ts → AllByRecursion (HasBytes ss) us → length ts < length us → sum_by nodes us ≤ sum_by nodes ts + left
    → BeginsWithNoTree ss left rest → flat_map tree_bytes ts ++ rest ≢ flat_map tree_bytes us ++ rest'
none_after ss few [] [] left rest rest' all also short within none e = omega arith
none_after ss few [] (u ∷ us) left rest rest' all also short within none e =
    none u (flat_map tree_bytes us ++ rest') also.0 (omega (arith, sum_by-cons nodes u us)) (e ∙ append_assoc (tree_bytes u) (flat_map tree_bytes us) rest')
none_after ss few (t ∷ ts) [] left rest rest' all also short within none e = omega arith
none_after ss few (t ∷ ts) (u ∷ us) left rest rest' all also short within none e =
    let joined : tree_bytes t ++ (flat_map tree_bytes ts ++ rest) ≡ tree_bytes u ++ (flat_map tree_bytes us ++ rest') =
    sym (append_assoc (tree_bytes t) (flat_map tree_bytes ts) rest) ∙ e ∙ append_assoc (tree_bytes u) (flat_map tree_bytes us) rest' in
    let first = tree_front ss few t u (flat_map tree_bytes ts ++ rest) (flat_map tree_bytes us ++ rest') all.0.over also.0.over all.0.names also.0.names joined in
    none_after ss few ts us left rest rest' all.1 also.1 (omega arith) (omega (arith, ap nodes first.0, sum_by-cons nodes t ts, sum_by-cons nodes u us)) none first.1

pub none_more : (ss : List Symbol) (count done budget : ℕ) (bytes : List ℕ) (ts : List Tree) (left : ℕ) (rest : List ℕ)
    → length ss ≤ 64 → done < count → BeginsWithTrees ss done budget bytes ts left rest → BeginsWithNoTree ss left rest
    → BeginsWithNoTrees ss count budget bytes
none_more ss count done budget bytes ts left rest few short begins none us rest' all many within e =
    none_after ss few ts us left rest rest' begins.has_bytes all (omega (arith, begins.many)) (omega (arith, begins.counted)) none (sym begins.parts ∙ e)
