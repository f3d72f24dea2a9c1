-- Lemmas: the terms of equations that stand after others.
use Rattle.std.proofs.Common.{◌≡◌, ◌*◌, ◌≤◌, List, [], ◌∷◌, ◌++◌, Bool, false, cond, length, refl, sym, ap, ◌∙◌, arith, append_assoc, subst as transport}
use Rattle.std.specs.List.{flat_map, AllByRecursion}
use Rattle.std.proofs.lemmas.List.{length-append, map-append}
use Rattle.ic_term.specs.Tree.{Tree, name, Pair}
use Rattle.ic_flat.specs.declared.word.Word.{Word as FlatWord}
use Rattle.ic_flat.specs.Words.{arguments, forest, IsWhole}
use Rattle.ic_flat.specs.lemmas.WordLaws.{forest-append, whole-append as words-whole}
use Rattle.ic_flat.specs.Flat.{pairs_of}
use Rattle.ic_meaning.specs.Words.{Numbers}
use Rattle.ic_readback.specs.declared.token.Token.{Token}
use Rattle.ic_readback.specs.Reading.{number_of, flat_word, flat_words}
use Rattle.ic_readback.specs.inner.Writing.{Part, part, Writing, writing, Put, put, write, Puts, no_put, one_put, Mended, begun, passed, further}
use Rattle.ic_readback.specs.lemmas.Rows.{over, WholeOver, over-nil, whole-nil, over-append, whole-append, length-over, whole-over, over-more, pairs-more}
use Rattle.ic_readback.proofs.Puttings.{EachOpen, open_here, open_written, open_front, all_open, all_more, equations_in}

-- tokens write one term
pub record IsTerm (n : Numbers) (ts : List Token) : Type 0 where
  pub whole : IsWhole (flat_words n ts)
  pub term : Tree
  pub is : forest (flat_words n ts) ≡ term ∷ []

-- a term before others
pub term_first : (n : Numbers) (ts us : List Token) (t : IsTerm n ts) → forest (flat_words n (ts ++ us)) ≡ t.term ∷ forest (flat_words n us)
term_first n ts us t =
    ap forest (map-append (flat_word n) ts us)
    ∙ (forest-append (flat_words n ts) (flat_words n us) t.whole ∙ ap (λ l. l ++ forest (flat_words n us)) t.is)

-- ---- what is put and written stays whole

pub record PutRow (n : Numbers) (O : List Token) (s : Writing) : Type 0 where
  pub whole : WholeOver (flat_words n (O ++ s.tokens)) (forest (flat_words n s.rest))
  pub rest : IsWhole (flat_words n s.rest)

-- the terms of what is written, and of what is still to be written
abbrev pub put_terms : Numbers → List Token → Writing → List Tree
put_terms n O s = over (flat_words n (O ++ s.tokens)) (forest (flat_words n s.rest))

pub written_last : (n : Numbers) (O ts : List Token) (f : Token) → flat_words n (O ++ (ts ++ f ∷ [])) ≡ flat_words n (O ++ ts) ++ flat_word n f ∷ []
written_last n O ts f = ap (flat_words n) (sym (append_assoc O ts (f ∷ []))) ∙ map-append (flat_word n) (O ++ ts) (f ∷ [])

pub write_same : (n : Numbers) (O ts rest : List Token) (f : Token) (parts : List Part) → put_terms n O (writing (ts ++ f ∷ []) rest parts) ≡ put_terms n O (writing ts (f ∷ rest) parts)
write_same n O ts rest f parts =
    ap (λ W. over W (forest (flat_words n rest))) (written_last n O ts f) ∙ over-append (flat_words n (O ++ ts)) (flat_word n f ∷ []) (forest (flat_words n rest))

pub put_kept : (n : Numbers) (O : List Token) (s t : Writing) → Put s t → EachOpen (λ p. IsTerm n p.tokens) s.parts → PutRow n O s
    → PutRow n O t × (length (put_terms n O t) ≡ length (put_terms n O s))
put_kept n O s t (put ts rest before after p unwritten) each row =
    let term = open_here (λ p. IsTerm n p.tokens) before after p each unwritten in
    let W : List FlatWord = flat_words n (O ++ ts) in
    let F : List Tree = forest (flat_words n rest) in
    let first = term_first n p.tokens rest term in
    let whole = whole-over W (name (number_of n p.place) ∷ F) (term.term ∷ F) refl row.whole in (
      record {
        whole = transport (λ l. WholeOver W l) (sym first) whole;
        rest = transport IsWhole (sym (map-append (flat_word n) p.tokens rest)) (words-whole (flat_words n p.tokens) (flat_words n rest) term.whole row.rest.1);
      },
      ap (λ l. length (over W l)) first ∙ length-over W (term.term ∷ F) (name (number_of n p.place) ∷ F) refl,
    )
put_kept n O s t (write ts rest f parts shut) each row =
    let W : List FlatWord = flat_words n (O ++ ts) in
    let F : List Tree = forest (flat_words n rest) in
    let whole = whole-append W (flat_word n f ∷ []) F row.whole (row.rest.0, tt) in
    (record { whole = transport (λ V. WholeOver V F) (sym (written_last n O ts f)) whole; rest = row.rest.1 }, ap length (write_same n O ts rest f parts))

pub put_open_terms : (n : Numbers) (s t : Writing) → Put s t → EachOpen (λ p. IsTerm n p.tokens) s.parts → EachOpen (λ p. IsTerm n p.tokens) t.parts
put_open_terms n s t (put ts rest before after p unwritten) each = open_written (λ p. IsTerm n p.tokens) before after p each
put_open_terms n s t (write ts rest f parts shut) each = each

pub puts_kept : (n : Numbers) (O : List Token) (s t : Writing) → Puts s t → EachOpen (λ p. IsTerm n p.tokens) s.parts → PutRow n O s
    → PutRow n O t × (length (put_terms n O t) ≡ length (put_terms n O s))
puts_kept n O s t (no_put a) each row = (row, refl)
puts_kept n O s t (one_put a b c first rest) each row =
    let here = put_kept n O a b first each row in
    let later = puts_kept n O b c rest (put_open_terms n a b first each) here.0 in
    (later.0, later.1 ∙ here.1)

pub one_tree : (ts : List Tree) → length ts ≡ 1 → (t : Tree) × (ts ≡ t ∷ [])
one_tree (t ∷ []) e = (t, refl)
one_tree _ e = absurd (omega arith)

-- what is written for a term is a term
pub puts_term : (n : Numbers) (ts us : List Token) (before after : List Part) → Puts (writing [] ts before) (writing us [] after) → EachOpen (λ p. IsTerm n p.tokens) before → IsTerm n ts → IsTerm n us
puts_term n ts us before after puts each term =
    let all = puts_kept n [] (writing [] ts before) (writing us [] after) puts each (record { whole = tt; rest = term.whole }) in
    let words = over-nil (flat_words n us) in
    let one = one_tree (forest (flat_words n us)) (ap length (sym words) ∙ (all.1 ∙ ap length term.is)) in
    record { whole = whole-nil (flat_words n us) all.0.whole; term = one.0; is = one.1 }

puts_open_terms : (n : Numbers) (s t : Writing) → Puts s t → EachOpen (λ p. IsTerm n p.tokens) s.parts → EachOpen (λ p. IsTerm n p.tokens) t.parts
puts_open_terms n s t (no_put a) each = each
puts_open_terms n s t (one_put a b c first rest) each = puts_open_terms n b c rest (put_open_terms n a b first each)

pub mended_terms : (n : Numbers) (parts left done : List Part) → Mended parts left done → AllByRecursion (λ p. IsTerm n p.tokens) parts
    → EachOpen (λ p. IsTerm n p.tokens) left × AllByRecursion (λ d. IsTerm n d.tokens) done
mended_terms n parts left done (begun ps) all = (all_open (λ p. IsTerm n p.tokens) ps all, tt)
mended_terms n parts left done (passed ps before ds p first gone) all =
    let so = mended_terms n ps (before ++ p ∷ []) ds first all in
    (open_front (λ p. IsTerm n p.tokens) before (p ∷ []) so.0, so.1)
mended_terms n parts left done (further ps before after ds p us first unwritten puts) all =
    let so = mended_terms n ps (before ++ p ∷ []) ds first all in
    let each = open_front (λ p. IsTerm n p.tokens) before (p ∷ []) so.0 in
    let term = puts_term n p.tokens us before after puts each (open_here (λ p. IsTerm n p.tokens) before [] p so.0 unwritten) in
    (puts_open_terms n (writing [] p.tokens before) (writing us [] after) puts each, all_more (λ d. IsTerm n d.tokens) ds (part p.place us) so.1 term)

-- ---- equations in a row

-- the sides of the equation of a place with a term
abbrev pub sides_in : Numbers → Part → List Tree
sides_in n p = name (number_of n p.place) ∷ forest (flat_words n p.tokens)

pub equations_whole : (n : Numbers) (ps : List Part) → AllByRecursion (λ p. IsTerm n p.tokens) ps → IsWhole (flat_words n (equations_in ps)) × (forest (flat_words n (equations_in ps)) ≡ flat_map (sides_in n) ps)
equations_whole n [] all = (tt, refl)
equations_whole n (p ∷ ps) all =
    let rest = equations_whole n ps all.1 in
    let T : List FlatWord = flat_words n p.tokens in
    let E : List FlatWord = flat_words n (equations_in ps) in
    let words : flat_words n (p.tokens ++ equations_in ps) ≡ T ++ E = map-append (flat_word n) p.tokens (equations_in ps) in
    let whole : IsWhole (flat_words n (p.tokens ++ equations_in ps)) = transport IsWhole (sym words) (words-whole T E all.0.whole rest.0) in (
      (omega arith, whole),
      ap (λ l. name (number_of n p.place) ∷ l) (ap forest words ∙ (forest-append T E all.0.whole ∙ ap (λ l. forest T ++ l) rest.1)),
    )

pub row_parts : (n : Numbers) (R : List Token) (ps : List Part) → AllByRecursion (λ p. IsTerm n p.tokens) ps → WholeOver (flat_words n R) []
    → WholeOver (flat_words n (R ++ equations_in ps)) [] × (over (flat_words n (R ++ equations_in ps)) [] ≡ over (flat_words n R) [] ++ flat_map (sides_in n) ps)
row_parts n R ps all whole =
    let W : List FlatWord = flat_words n R in
    let E : List FlatWord = flat_words n (equations_in ps) in
    let of = equations_whole n ps all in
    let words : flat_words n (R ++ equations_in ps) ≡ W ++ E = map-append (flat_word n) R (equations_in ps) in
    let last : over E [] ≡ flat_map (sides_in n) ps = over-nil E ∙ of.1 in
    let both : WholeOver (W ++ E) [] = whole-append W E [] (whole_more W (over E []) whole) (whole_over_nil E of.0) in (
      transport (λ V. WholeOver V []) (sym words) both,
      ap (λ V. over V []) words ∙ (over-append W E [] ∙ (ap (over W) last ∙ over-more W [] (flat_map (sides_in n) ps) whole)),
    )
  where
    whole_more : (ws : List FlatWord) (us : List Tree) → WholeOver ws [] → WholeOver ws us
    whole_more [] us whole = tt
    whole_more (w ∷ ws) us whole =
        (let more = ap length (over-more ws [] us whole.1) ∙ length-append (over ws []) us in let there = whole.0 in omega arith, whole_more ws us whole.1)

    whole_over_nil : (ws : List FlatWord) → IsWhole ws → WholeOver ws []
    whole_over_nil [] whole = tt
    whole_over_nil (w ∷ ws) whole = (transport (λ (l : List Tree). arguments w ≤ length l) (sym (over-nil ws)) whole.0, whole_over_nil ws whole.1)

pub sides_length : (n : Numbers) (ps : List Part) → AllByRecursion (λ p. IsTerm n p.tokens) ps → length (flat_map (sides_in n) ps) ≡ 2 * length ps
sides_length n [] all = refl
sides_length n (p ∷ ps) all =
    let rest = sides_length n ps all.1 in
    let one = ap length all.0.is in
    let both = length-append (sides_in n p) (flat_map (sides_in n) ps) in
    omega arith

-- the equation of a place with a term, unless it is written
abbrev pub open_equations : Numbers → Part → List Pair
open_equations n p = cond p.written [] (pairs_of (sides_in n p))

pub term_pair : (n : Numbers) (p : Part) → (t : IsTerm n p.tokens) → pairs_of (sides_in n p) ≡ record { left = name (number_of n p.place); right = t.term } ∷ []
term_pair n p t = ap (λ l. pairs_of (name (number_of n p.place) ∷ l)) t.is

pub sides_pairs : (n : Numbers) (ps : List Part) → AllByRecursion (λ p. IsTerm n p.tokens) ps → pairs_of (flat_map (sides_in n) ps) ≡ flat_map (λ p. pairs_of (sides_in n p)) ps
sides_pairs n [] all = refl
sides_pairs n (p ∷ ps) all =
    pairs-more (sides_in n p) (flat_map (sides_in n) ps) 1 (ap (λ l. length (name (number_of n p.place) ∷ l)) all.0.is)
    ∙ ap (λ l. pairs_of (sides_in n p) ++ l) (sides_pairs n ps all.1)

-- none of them is written yet
pub open_pairs : (n : Numbers) (ps : List Part) → AllByRecursion (λ p. p.written ≡ false) ps → flat_map (λ p. pairs_of (sides_in n p)) ps ≡ flat_map (open_equations n) ps
open_pairs n [] all = refl
open_pairs n (p ∷ ps) all =
    let here : pairs_of (sides_in n p) ≡ open_equations n p = ap (λ (b : Bool). cond b [] (pairs_of (sides_in n p))) (sym all.0) in
    λ i. here i ++ open_pairs n ps all.1 i
