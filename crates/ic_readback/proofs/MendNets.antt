-- Lemmas: terms that are put together are one net with what they were.
use Rattle.std.proofs.Common.{◌≡◌, ℕ, ◌+◌, ◌*◌, List, [], ◌∷◌, ◌++◌, Bool, true, false, cond, length, sym, ap, ◌∙◌, arith, append_assoc, append-nil, subst as transport}
use Rattle.std.specs.Prelude.{IsPermutation}
use Rattle.std.specs.List.{flat_map, AllByRecursion}
use Rattle.std.proofs.lemmas.List.{length-append, map-append}
use Rattle.std.proofs.lemmas.List.Concat.{flat_map-append}
use Rattle.std.proofs.lemmas.List.Sorted.{IsPermutation-middle}
use Rattle.ic_term.specs.Tree.{Tree, name, Pair}
use Rattle.ic_term.specs.Configuration.{Configuration}
use Rattle.ic_round.specs.Naming.{HasNames}
use Rattle.ic_reaching.specs.OneNet.{OneNet}
use Rattle.ic_reaching.specs.Pieces.{piece}
use Rattle.ic_flat.specs.declared.word.Word.{Word as FlatWord}
use Rattle.ic_flat.specs.Words.{forest}
use Rattle.ic_flat.specs.Flat.{pairs_of}
use Rattle.ic_meaning.specs.Words.{Numbers}
use Rattle.ic_readback.specs.declared.token.Token.{Token}
use Rattle.ic_readback.specs.declared.token.Token.TheVariants.{Name}
use Rattle.ic_readback.specs.Reading.{number_of, flat_word, flat_words}
use Rattle.ic_readback.specs.inner.Writing.{Part, part, Writing, writing, Put, put, write, Puts, no_put, one_put, Mended, begun, passed, further}
use Rattle.ic_readback.specs.lemmas.Given.{NetLaws}
use Rattle.ic_readback.specs.lemmas.Rows.{over, WholeOver, over-append, whole-append, over-more}
use Rattle.ic_readback.specs.lemmas.RowNets.{net_of_row, put_row, row_of_piece}
use Rattle.ic_readback.proofs.Puttings.{EachOpen, open_here, open_front, equations_in, tokens_more}
use Rattle.ic_readback.proofs.Shapes.{IsTerm, term_first, PutRow, put_terms, write_same, put_kept, mended_terms, row_parts, sides_in, sides_length, open_equations, term_pair, put_open_terms}

-- the net of what is written, and of the terms that are left
abbrev pub net_put : Numbers → ℕ → List Token → Writing → ℕ → Configuration
net_put n terms O s next = net_of_row terms (put_terms n O s) (flat_map (open_equations n) s.parts) next

abbrev pub net_left : Numbers → ℕ → List Token → List Part → ℕ → Configuration
net_left n terms O parts next = net_of_row terms (over (flat_words n O) []) (flat_map (open_equations n) parts) next

open_pair : (n : Numbers) (p : Part) (t : IsTerm n p.tokens) → p.written ≡ false → open_equations n p ≡ piece (number_of n p.place) t.term ∷ []
open_pair n p t unwritten = ap (λ (b : Bool). cond b [] (pairs_of (name (number_of n p.place) ∷ forest (flat_words n p.tokens)))) unwritten ∙ term_pair n p t

-- the equation of a term that is left, before the others
open_moved : (n : Numbers) (before after : List Part) (p : Part) (t : IsTerm n p.tokens) → p.written ≡ false
    → IsPermutation (flat_map (open_equations n) (before ++ p ∷ after)) (piece (number_of n p.place) t.term ∷ flat_map (open_equations n) (before ++ record p { written = true } ∷ after))
open_moved n before after p t unwritten =
    let B : List Pair = flat_map (open_equations n) before in
    let A : List Pair = flat_map (open_equations n) after in
    let x : Pair = piece (number_of n p.place) t.term in
    let old : flat_map (open_equations n) (before ++ p ∷ after) ≡ B ++ x ∷ A =
    flat_map-append (open_equations n) before (p ∷ after) ∙ ap (λ l. B ++ (l ++ A)) (open_pair n p t unwritten) in
    let new : flat_map (open_equations n) (before ++ record p { written = true } ∷ after) ≡ B ++ A = flat_map-append (open_equations n) before (record p { written = true } ∷ after) in
    transport (λ l. IsPermutation l (x ∷ flat_map (open_equations n) (before ++ record p { written = true } ∷ after))) (sym old)
    (transport (λ l. IsPermutation (B ++ x ∷ A) (x ∷ l)) (sym new) (IsPermutation-middle B x A))

put_net : NetLaws → (n : Numbers) (terms k next : ℕ) (O : List Token) (s t : Writing) → Put s t → EachOpen (λ p. IsTerm n p.tokens) s.parts
    → length (put_terms n O s) ≡ terms + 2 * k → HasNames (net_put n terms O s next) → OneNet (net_put n terms O s next) (net_put n terms O t next)
put_net laws n terms k next O s t (put ts rest before after p unwritten) each even has =
    let term = open_here (λ p. IsTerm n p.tokens) before after p each unwritten in
    let W : List FlatWord = flat_words n (O ++ ts) in
    let F : List Tree = forest (flat_words n rest) in
    let es : List Pair = flat_map (open_equations n) (before ++ p ∷ after) in
    let fs : List Pair = flat_map (open_equations n) (before ++ record p { written = true } ∷ after) in
    let net = put_row laws terms k (number_of n p.place) next term.term W F es fs even has (open_moved n before after p term unwritten) in
    transport (λ l. OneNet (net_of_row terms (over W (name (number_of n p.place) ∷ F)) es next) (net_of_row terms (over W l) fs next)) (sym (term_first n p.tokens rest term)) net
put_net laws n terms k next O s t (write ts rest f parts shut) each even has =
    transport (λ l. OneNet (net_put n terms O (writing ts (f ∷ rest) parts) next) (net_of_row terms l (flat_map (open_equations n) parts) next)) (sym (write_same n O ts rest f parts))
    (laws.itself (net_put n terms O (writing ts (f ∷ rest) parts) next) has)

puts_net : NetLaws → (n : Numbers) (terms k next : ℕ) (O : List Token) (s t : Writing) → Puts s t → EachOpen (λ p. IsTerm n p.tokens) s.parts → PutRow n O s
    → length (put_terms n O s) ≡ terms + 2 * k → HasNames (net_put n terms O s next) → OneNet (net_put n terms O s next) (net_put n terms O t next)
puts_net laws n terms k next O s t (no_put a) each row even has = laws.itself (net_put n terms O a next) has
puts_net laws n terms k next O s t (one_put a b c first rest) each row even has =
    let here = put_net laws n terms k next O a b first each even has in
    let kept = put_kept n O a b first each row in
    let later = puts_net laws n terms k next O b c rest (put_open_terms n a b first each) kept.0 (kept.1 ∙ even) here.names_too in
    laws.through (net_put n terms O a next) (net_put n terms O b next) (net_put n terms O c next) here later

-- a term becomes an equation
began_net : NetLaws → (n : Numbers) (terms k next : ℕ) (O : List Token) (before : List Part) (p : Part) (t : IsTerm n p.tokens) → p.written ≡ false → WholeOver (flat_words n O) []
    → length (over (flat_words n O) []) ≡ terms + 2 * k → HasNames (net_left n terms O (before ++ p ∷ []) next)
    → OneNet (net_left n terms O (before ++ p ∷ []) next) (net_put n terms (O ++ Name p.place ∷ []) (writing [] p.tokens before) next)
    × PutRow n (O ++ Name p.place ∷ []) (writing [] p.tokens before) × (length (put_terms n (O ++ Name p.place ∷ []) (writing [] p.tokens before)) ≡ terms + 2 * (k + 1))
began_net laws n terms k next O before p t unwritten whole even has =
    let W : List FlatWord = flat_words n O in
    let x : ℕ = number_of n p.place in
    let two : List Tree = name x ∷ t.term ∷ [] in
    let B : List Pair = flat_map (open_equations n) before in
    let f : FlatWord = flat_word n (Name p.place) in
    let moved : IsPermutation (flat_map (open_equations n) (before ++ p ∷ [])) (piece x t.term ∷ B) =
    transport (λ l. IsPermutation (flat_map (open_equations n) (before ++ p ∷ [])) (piece x t.term ∷ l))
    (flat_map-append (open_equations n) before (record p { written = true } ∷ []) ∙ append-nil B) (open_moved n before [] p t unwritten) in
    let net = row_of_piece laws terms k x next t.term (over W []) (flat_map (open_equations n) (before ++ p ∷ [])) B even has moved in
    let words : flat_words n ((O ++ Name p.place ∷ []) ++ []) ≡ W ++ f ∷ [] = ap (flat_words n) (append-nil (O ++ Name p.place ∷ [])) ∙ map-append (flat_word n) O (Name p.place ∷ []) in
    let row : put_terms n (O ++ Name p.place ∷ []) (writing [] p.tokens before) ≡ over W [] ++ two =
    (λ i. over (words i) (t.is i)) ∙ (over-append W (f ∷ []) (t.term ∷ []) ∙ over-more W [] two whole) in
    let long = ap length row ∙ length-append (over W []) two in (
      transport (λ l. OneNet (net_left n terms O (before ++ p ∷ []) next) (net_of_row terms l B next)) (sym row) net,
      record {
        whole = transport (λ V. WholeOver V (forest (flat_words n p.tokens))) (sym words)
            (transport (λ l. WholeOver (W ++ f ∷ []) l) (sym t.is) (whole-append W (f ∷ []) (t.term ∷ []) (whole_more W two whole) (omega arith, tt)));
        rest = t.whole;
      },
      omega arith,
    )
  where
    whole_more : (ws : List FlatWord) (us : List Tree) → WholeOver ws [] → WholeOver ws us
    whole_more [] us whole = tt
    whole_more (w ∷ ws) us whole =
        (let more = ap length (over-more ws [] us whole.1) ∙ length-append (over ws []) us in let there = whole.0 in omega arith, whole_more ws us whole.1)

pub mended_net : NetLaws → (n : Numbers) (terms k next : ℕ) (R : List Token) (parts left done : List Part) → Mended parts left done → AllByRecursion (λ p. IsTerm n p.tokens) parts
    → WholeOver (flat_words n R) [] → length (over (flat_words n R) []) ≡ terms + 2 * k → HasNames (net_left n terms R parts next)
    → OneNet (net_left n terms R parts next) (net_left n terms (R ++ equations_in done) left next)
mended_net laws n terms k next R parts left done (begun ps) all whole even has =
    transport (λ l. OneNet (net_left n terms R ps next) (net_left n terms l ps next)) (sym (append-nil R)) (laws.itself (net_left n terms R ps next) has)
mended_net laws n terms k next R parts left done (passed ps before ds p first gone) all whole even has =
    let so = mended_net laws n terms k next R ps (before ++ p ∷ []) ds first all whole even has in
    let none : open_equations n p ≡ [] = ap (λ (b : Bool). cond b [] (pairs_of (name (number_of n p.place) ∷ forest (flat_words n p.tokens)))) gone in
    let same : flat_map (open_equations n) (before ++ p ∷ []) ≡ flat_map (open_equations n) before =
    flat_map-append (open_equations n) before (p ∷ []) ∙ (ap (λ l. flat_map (open_equations n) before ++ (l ++ [])) none ∙ append-nil (flat_map (open_equations n) before)) in
    transport (λ l. OneNet (net_left n terms R ps next) (net_of_row terms (over (flat_words n (R ++ equations_in ds)) []) l next)) same so
mended_net laws n terms k next R parts left done (further ps before after ds p us first unwritten puts) all whole even has =
    let so = mended_net laws n terms k next R ps (before ++ p ∷ []) ds first all whole even has in
    let each = mended_terms n ps (before ++ p ∷ []) ds first all in
    let O : List Token = R ++ equations_in ds in
    let row = row_parts n R ds each.1 whole in
    let sides = sides_length n ds each.1 in
    let long = ap length row.1 ∙ length-append (over (flat_words n R) []) (flat_map (sides_in n) ds) in
    let even_too : length (over (flat_words n O) []) ≡ terms + 2 * (k + length ds) = omega arith in
    let s : Writing = writing [] p.tokens before in
    let t : Writing = writing us [] after in
    let Q : List Token = O ++ Name p.place ∷ [] in
    let began = began_net laws n terms (k + length ds) next O before p (open_here (λ p. IsTerm n p.tokens) before [] p each.0 unwritten) unwritten row.0 even_too so.names_too in
    let later = puts_net laws n terms ((k + length ds) + 1) next Q s t puts (open_front (λ p. IsTerm n p.tokens) before (p ∷ []) each.0) began.1 began.2 began.0.names_too in
    let tokens : Q ++ us ≡ R ++ equations_in (ds ++ part p.place us ∷ []) = append_assoc O (Name p.place ∷ []) us ∙ sym (tokens_more R ds p.place us) in
    transport (λ l. OneNet (net_left n terms R ps next) (net_left n terms l after next)) tokens
    (laws.through (net_left n terms R ps next) (net_left n terms O (before ++ p ∷ []) next) (net_put n terms Q t next) so
    (laws.through (net_left n terms O (before ++ p ∷ []) next) (net_put n terms Q s next) (net_put n terms Q t next) began.0 later))
