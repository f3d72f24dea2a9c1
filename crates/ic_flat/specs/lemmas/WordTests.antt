-- Lemmas, which a reader of the contracts doesn't need: names of words, words over symbols, and that the test of
-- equality is equality.
use Rattle.std.specs.Prelude.{◌≡◌, ℕ, ◌==◌, List, [], ◌∷◌, ◌++◌, true, ◌&&◌, length, take, drop, slice_get, refl}
use Rattle.std.specs.List.{flat_map, list_all}
use Rattle.std.specs.Bool.{Decides}
use Rattle.std.specs.Cmp.{IsEquivalence, decided, unsigned_Decides}
use Rattle.std.proofs.lemmas.Bool.{and_parts}
use Rattle.std.proofs.Common.{sym, ◌∙◌, ap}
use Rattle.std.proofs.lemmas.List.{length-take-le, take-append-drop}
use Rattle.std.proofs.lemmas.List.Concat.{flat_map-append}
use Rattle.std.proofs.lemmas.List.Folds.{list_all-append}
use Rattle.std.proofs.Math.Bool.{and_assoc}
use Rattle.ic_term.specs.Tree.{Tree, trees_of, names, names_of}
use Rattle.ic_term.specs.Symbol.{Symbol, has_arity, is_tree_over, are_trees_over}
use Rattle.ic_term.specs.lemmas.TreeLaws.{list_of-trees_of}
use Rattle.ic_flat.specs.declared.word.Word.{Word}
use Rattle.ic_flat.specs.declared.word.Word.TheVariants.{Name, Agent}
use Rattle.ic_flat.specs.Words.{forest, IsWhole, word_eq, word_names, is_word_over}
use Rattle.ic_rules.specs.lemmas.FitLaws.{are_trees_over-trees_of}

-- ---- names

names_of-trees_of : (ts : List Tree) → names_of (trees_of ts) ≡ flat_map names ts
names_of-trees_of [] = refl
names_of-trees_of (t ∷ ts) = ap (λ l. names t ++ l) (names_of-trees_of ts)

-- the names of terms are those among their words, in the same order
pub names-forest : (ws : List Word) → flat_map names (forest ws) ≡ flat_map word_names ws
names-forest [] = refl
names-forest (Name n ∷ ws) = ap (λ l. n ∷ l) (names-forest ws)
names-forest (Agent s arity ∷ ws) =
    let ts = take arity (forest ws) in
    let us = drop arity (forest ws) in
    ap (λ l. l ++ flat_map names us) (names_of-trees_of ts)
    ∙ sym (flat_map-append names ts us)
    ∙ ap (flat_map names) (take-append-drop arity (forest ws))
    ∙ names-forest ws

-- ---- symbols

-- terms are over symbols where their words are
pub over-forest : (ss : List Symbol) (ws : List Word) → IsWhole ws → list_all (is_tree_over ss) (forest ws) ≡ list_all (is_word_over ss) ws
over-forest ss [] whole = refl
over-forest ss (Name n ∷ ws) whole = over-forest ss ws whole.1
over-forest ss (Agent s arity ∷ ws) whole =
    let ts = take arity (forest ws) in
    let us = drop arity (forest ws) in
    let known = λ (n : ℕ). has_arity n (slice_get ss s) in
    ap (λ n. known n && are_trees_over ss (trees_of ts) && list_all (is_tree_over ss) us) (ap length (list_of-trees_of ts) ∙ length-take-le arity (forest ws) whole.0)
    ∙ ap (λ b. known arity && b && list_all (is_tree_over ss) us) (are_trees_over-trees_of ss ts)
    ∙ and_assoc (known arity) (list_all (is_tree_over ss) ts) (list_all (is_tree_over ss) us)
    ∙ ap (λ b. known arity && b) (sym (list_all-append (is_tree_over ss) ts us) ∙ ap (list_all (is_tree_over ss)) (take-append-drop arity (forest ws)) ∙ over-forest ss ws whole.1)

-- ---- equality

word_eq-true : (v w : Word) → word_eq v w ≡ true → v ≡ w
word_eq-true (Name m) (Name n) e = ap Name ((unsigned_Decides m n).0 e)
word_eq-true (Agent s a) (Agent r b) e =
    let parts = and_parts (s == r) (a == b) e in
    let symbols = (unsigned_Decides s r).0 parts.0 in
    let arities = (unsigned_Decides a b).0 parts.1 in
    cc
word_eq-true _ _ e = cc

word_eq-refl : (w : Word) → word_eq w w ≡ true
word_eq-refl (Name n) = (unsigned_Decides n n).1 refl
word_eq-refl (Agent s a) = rw ((unsigned_Decides s s).1 refl) ((unsigned_Decides a a).1 refl)

pub word_eq-Decides : (v w : Word) → Decides (word_eq v w) (v ≡ w)
word_eq-Decides v w = (word_eq-true v w, λ e. ap (word_eq v) (sym e) ∙ word_eq-refl v)

pub word_eq-equivalence : IsEquivalence word_eq
word_eq-equivalence = decided word_eq word_eq-Decides
