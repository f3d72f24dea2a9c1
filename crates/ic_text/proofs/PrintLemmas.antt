-- Writing tokens one after the other.
use Rattle.std.proofs.Common.{◌≡◌, ℕ, zero, suc, ◌+◌, ◌/◌, ◌%◌, ◌<◌, ◌≤◌, ◌^◌, true, Bool, List, [], ◌∷◌, ◌++◌, Option, None, Some, length, map, get_or, drop, IsTrue, refl, sym, ap, ◌∙◌, append_assoc, arith}
use Rattle.std.specs.Prelude.{option_map}
use Rattle.std.specs.List.{slice_get, list_all}
use Rattle.std.specs.Fmt.{decimal}
use Rattle.std.specs.Int.Digits.{digits_of}
use Rattle.std.proofs.lemmas.Fmt.{decimal-digits_of}
use Rattle.std.proofs.lemmas.Option.{slice_get_within}
use Rattle.std.proofs.lemmas.Bool.{and_parts, false≢true}
use Rattle.ic_term.specs.Symbol.{Symbol, symbol_text, has_arity, is_tree_over, are_trees_over}
use Rattle.ic_term.specs.Term.{tree, cell_tree}
use Rattle.ic_term.specs.declared.term.Cell.{Cell, out-Cell}
use Rattle.ic_term.specs.Tree.{agent, Trees, list_of, trees_of}
use Rattle.ic_term.specs.declared.term.Term.{Term}
use Rattle.ic_term.specs.lemmas.TermLaws.{cell_tree-out as cell_tree-is}
use Rattle.ic_text.specs.Token.{Token}
use Rattle.ic_text.specs.Name.{name_text}
use Rattle.ic_text.specs.Source.{Source, Sources, more_sources, words, argument_words, further_words}
use Rattle.ic_text.specs.Text.{text_or_none, source_of, sources_of, text_of}
use Rattle.ic_text.specs.lemmas.Separated.{text_of-append, next_of}

-- a letter and digits are a name's text
pub letter_and_digits : (n : ℕ) (old pushed new : List ℕ) → 26 ≤ n → n < 2 ^ 64 → pushed ≡ old ++ (97 + n % 26) ∷ [] → new ≡ pushed ++ decimal (n / 26) → new ≡ old ++ name_text n
letter_and_digits n old pushed new great fits letter digits =
    digits ∙ (λ i. letter i ++ decimal-digits_of (n / 26) (omega arith) (omega arith) i) ∙ append_assoc old ((97 + n % 26) ∷ []) (map (λ d. 48 + d) (digits_of 10 (n / 26)))

-- an agent's symbol is known
pub known_symbol : (ss : List Symbol) (s : ℕ) (ts : Trees) → IsTrue (is_tree_over ss (agent s ts)) → s < length ss
known_symbol ss s ts over = by_symbol (slice_get ss s) refl (and_parts (has_arity (length (list_of ts)) (slice_get ss s)) _ over).0
  where
    by_symbol : (o : Option Symbol) → slice_get ss s ≡ o → has_arity (length (list_of ts)) o ≡ true → s < length ss
    by_symbol None e has = absurd (false≢true has)
    by_symbol (Some x) e has = slice_get_within ss s x e

-- what is left of arguments from a place on, and the sign before them
abbrev pub arguments_from : ℕ → Sources → List Token
arguments_from zero ts = argument_words ts
arguments_from (suc n) ts = further_words ts

abbrev pub sign_at : ℕ → ℕ
sign_at zero = 40
sign_at (suc n) = 44

pub cell_over : (ss : List Symbol) (cell : Cell) → IsTrue (is_tree_over ss (cell_tree cell)) → ((out-Cell cell).sym < length ss) × (are_trees_over ss (trees_of (map tree (out-Cell cell).args.items)) ≡ true)
cell_over ss cell over =
    let opened : is_tree_over ss (agent (out-Cell cell).sym (trees_of (map tree (out-Cell cell).args.items))) ≡ true = ap (is_tree_over ss) (sym (cell_tree-is cell)) ∙ over in
    (known_symbol ss (out-Cell cell).sym (trees_of (map tree (out-Cell cell).args.items)) opened, (and_parts _ _ opened).1)

-- ---- a term more of an agent

arguments_text : (i : ℕ) (t : Source) (ts : Sources) → text_of (arguments_from i (more_sources t ts)) ≡ sign_at i ∷ (text_of (words t) ++ text_of (further_words ts))
arguments_text zero t ts = ap (λ l. 40 ∷ l) (text_of-append (words t) (further_words ts))
arguments_text (suc i) t ts = ap (λ l. 44 ∷ l) (text_of-append (words t) (further_words ts))

abbrev arguments_in : List Symbol → List Term → Sources
arguments_in ss ts = sources_of ss (trees_of (map tree ts))

abbrev are_over : List Symbol → List Term → Bool
are_over ss ts = are_trees_over ss (trees_of (map tree ts))

pub next_sign : (i : ℕ) → 44 ≡ sign_at (i + 1)
next_sign i = let next : i + 1 ≡ suc i = omega arith in rw next refl

pub next_over : (ss : List Symbol) (i : ℕ) (ts : List Term) (t : Term) → i < length ts → t ≡ get_or ts i t → are_over ss (drop i ts) ≡ true → are_over ss (drop (i + 1) ts) ≡ true
next_over ss i ts t below is over = (and_parts _ _ (ap (are_over ss) (sym (next_of i ts t below is)) ∙ over)).1

pub next_whole : (ss : List Symbol) (i : ℕ) (ts : List Term) (t : Term) (sign : ℕ) (out pushed new whole : List ℕ) → i < length ts → t ≡ get_or ts i t → sign ≡ sign_at i
    → pushed ≡ out ++ sign ∷ [] → new ≡ pushed ++ text_of (words (source_of ss (tree t)))
    → out ++ text_of (arguments_from i (arguments_in ss (drop i ts))) ≡ whole
    → new ++ text_of (arguments_from (i + 1) (arguments_in ss (drop (i + 1) ts))) ≡ whole
next_whole ss i ts t sign out pushed new whole below is signed letter term all =
    let rest = arguments_in ss (drop (i + 1) ts) in
    let this = text_of (words (source_of ss (tree t))) in
    let left = text_of (further_words rest) in
    let next : i + 1 ≡ suc i = omega arith in
    let after : arguments_from (i + 1) rest ≡ further_words rest = ap (λ n. arguments_from n rest) next in
    let split : text_of (arguments_from i (arguments_in ss (drop i ts))) ≡ sign_at i ∷ (this ++ left) =
    ap (λ l. text_of (arguments_from i (arguments_in ss l))) (next_of i ts t below is) ∙ arguments_text i (source_of ss (tree t)) rest in
    (λ k. term k ++ text_of (after k))
    ∙ ap (λ l. (l ++ this) ++ left) (letter ∙ ap (λ n. out ++ n ∷ []) signed)
    ∙ append_assoc (out ++ sign_at i ∷ []) this left ∙ append_assoc out (sign_at i ∷ []) (this ++ left)
    ∙ ap (λ l. out ++ l) (sym split) ∙ all

-- an agent's symbol is written, and then come its arguments
pub first_whole : (ss : List Symbol) (cell : Cell) (out new text : List ℕ) (ts : List Term) → ts ≡ (out-Cell cell).args.items → symbol_text ss (out-Cell cell).sym ≡ Some text
    → new ≡ out ++ text → new ++ text_of (argument_words (arguments_in ss ts)) ≡ out ++ text_of (words (source_of ss (cell_tree cell)))
first_whole ss cell out new text ts same known written =
    let left = text_of (argument_words (arguments_in ss ts)) in
    let whole : text_of (words (source_of ss (cell_tree cell))) ≡ text ++ left =
    ap (λ t. text_of (words (source_of ss t))) (cell_tree-is cell)
    ∙ (λ k. text_known (slice_get ss (out-Cell cell).sym) text known k ++ text_of (argument_words (arguments_in ss (sym same k)))) in
    ap (λ l. l ++ left) written ∙ append_assoc out text left ∙ ap (λ l. out ++ l) (sym whole)
  where
    text_known : (o : Option Symbol) (text : List ℕ) → option_map (λ (s : Symbol). s.text) o ≡ Some text → text_or_none o ≡ text
    text_known None text e = cc
    text_known (Some s) text e = cc

pub first_over : (ss : List Symbol) (cell : Cell) (ts : List Term) → ts ≡ (out-Cell cell).args.items → IsTrue (is_tree_over ss (cell_tree cell)) → are_over ss ts ≡ true
first_over ss cell ts same over = ap (are_over ss) same ∙ (cell_over ss cell over).1

-- what is so of all that are left is so of those after the next
pub next_all : {A B : Type 0} (p : B → Bool) (f : A → B) (n : ℕ) (xs : List A) (x : A) → n < length xs → x ≡ get_or xs n x
    → list_all p (map f (drop n xs)) ≡ true → list_all p (map f (drop (n + 1) xs)) ≡ true
next_all p f n xs x below is all = (and_parts _ _ (ap (λ l. list_all p (map f l)) (sym (next_of n xs x below is)) ∙ all)).1
