-- Texts of terms that are written word by word.
use Rattle.std.proofs.Common.{◌≡◌, ℕ, zero, suc, ◌+◌, ◌-◌, ◌*◌, ◌<◌, ◌≤◌, List, [], ◌∷◌, ◌++◌, Bool, true, false, Option, None, Some, length, map, get_or, take, drop, reverse, refl, sym, ap, subst, ◌∙◌, append_assoc, append-nil, arith}
use Rattle.std.specs.Prelude.{slice_get}
use Rattle.std.specs.List.{flat_map}
use Rattle.std.specs.Option.{option_to_list}
use Rattle.std.proofs.lemmas.List.{drop_more, drop-drop, length-drop, length-map, take-map, drop-map, take_at, drop_at, reverse-append, reverse-reverse}
use Rattle.ic_term.specs.Tree.{Tree, agent, trees_of}
use Rattle.ic_term.specs.Symbol.{Symbol}
use Rattle.ic_term.specs.Configuration.{Configuration}
use Rattle.ic_flat.specs.declared.word.Word.{Word}
use Rattle.ic_flat.specs.declared.word.Word.TheVariants.{Name, Agent}
use Rattle.ic_flat.specs.Words.{arguments, with_word, forest, IsWhole}
use Rattle.ic_flat.specs.Flat.{pairs_of, sides, configuration_words}
use Rattle.ic_flat.specs.lemmas.WordLaws.{whole-drop, length-forest, forest-le}
use Rattle.ic_flat.specs.lemmas.FlatLaws.{forest-configuration_words}
use Rattle.ic_text.specs.declared.token.Mark.TheVariants.{Bar, Comma, Greater}
use Rattle.ic_text.specs.Token.{Token, mark}
use Rattle.ic_text.specs.Source.{words, further_words, sides_words, separated}
use Rattle.ic_text.specs.Text.{text_or_none, source_of, sources_of, sides_of, text_of, term_text, printed}
use Rattle.ic_text.specs.inner.Printing.{terms_text, equations_text}
use Rattle.ic_text.specs.inner.WordTexts.{word_text, closing, coming, lacking, needed, after_word, Begins, comma_before, first_text}
use Rattle.ic_text.proofs.Grammar.{after_commas}
use Rattle.ic_text.specs.lemmas.Separated.{text_of-append}

-- ---- the stack of what agents lack

pub reverse-push : (ns : List ℕ) (n : ℕ) → reverse (ns ++ n ∷ []) ≡ n ∷ reverse ns
reverse-push ns n = reverse-append ns (n ∷ [])

-- what is taken from the stack was the innermost
pub popped : (old new : List ℕ) (o : Option ℕ) (n : ℕ) → old ≡ new ++ option_to_list o → o ≡ Some n → reverse old ≡ n ∷ reverse new
popped old new o n e some = ap reverse (e ∙ ap (λ x. new ++ option_to_list x) some) ∙ reverse-push new n

pub popped-none : (old new : List ℕ) (o : Option ℕ) → old ≡ new ++ option_to_list o → o ≡ None → length new ≡ 0 → (old ≡ []) × (new ≡ [])
popped-none old [] o e none few = (e ∙ ap option_to_list none, refl)
popped-none old (x ∷ new) o e none few = absurd (omega arith)

-- ---- what is written after a term

-- Of what was to be written after a term, so much is still to be written.
pub record IsClosing (start : List ℕ) (out_start : List ℕ) (due out : List ℕ) : Type 0 where
  text : (texts : List (List ℕ)) → lacking start ≤ length texts → out ++ closing due texts ≡ out_start ++ closing start texts
  many : lacking due ≡ lacking start

pub IsClosing-start : (due out : List ℕ) → IsClosing due out due out
IsClosing-start due out = record { text = λ texts few. refl; many = refl }

-- an agent that has all its arguments is closed
pub IsClosing-next : {start out_start old new out out' : List ℕ} → IsClosing start out_start old out → old ≡ 0 ∷ new → out' ≡ out ++ 41 ∷ []
    → IsClosing start out_start new out'
IsClosing-next {start} {out_start} {old} {new} {out} {out'} is top put = record {
  text = λ texts few. ap (λ l. l ++ closing new texts) put ∙ append_assoc out (41 ∷ []) (closing new texts)
      ∙ ap (λ due. out ++ closing due texts) (sym top) ∙ is.text texts few;
  many = omega (arith, ap lacking (sym top), is.many);
}

-- one that lacks some goes on with the next of them
further : (n : ℕ) (due : List ℕ) (texts : List (List ℕ)) → 1 ≤ length texts → 44 ∷ coming true (n ∷ due) texts ≡ closing (suc n ∷ due) texts
further n due [] some = absurd (omega arith)
further n due (text ∷ texts) some =
    ap (λ l. 44 ∷ l) (sym (append_assoc text (flat_map (λ t. 44 ∷ t) (take n texts)) (41 ∷ closing due (drop n texts))))

pub closed_by_comma : (start out_start old due new out out' : List ℕ) (n : ℕ) → IsClosing start out_start old out → old ≡ n ∷ due → 0 < n
    → new ≡ (n - 1) ∷ due → out' ≡ out ++ 44 ∷ [] → Begins (closing start) (lacking start) out_start out' true new
closed_by_comma start out_start old due new out out' n is top some pushed put =
    let on : suc (n - 1) ≡ n = omega arith in
    let count : lacking start ≡ n + lacking due = sym is.many ∙ ap lacking top in record {
      text = λ texts few.
          ap (λ l. l ++ coming true new texts) put ∙ append_assoc out (44 ∷ []) (coming true new texts)
          ∙ ap (λ l. out ++ 44 ∷ coming true l texts) pushed
          ∙ ap (λ l. out ++ l) (further (n - 1) due texts (omega (arith, few, count)) ∙ ap (λ m. closing (m ∷ due) texts) on)
          ∙ ap (λ l. out ++ closing l texts) (sym top) ∙ is.text texts few;
      many = ap (needed true) pushed ∙ omega (arith, count);
      ended = λ e. absurd cc;
    }

pub closed_all : (start out_start old new out : List ℕ) → IsClosing start out_start old out → old ≡ [] → new ≡ []
    → Begins (closing start) (lacking start) out_start out false new
closed_all start out_start old new out is none all = record {
  text = λ texts few. ap (λ due. out ++ closing due texts) (sym none) ∙ is.text texts few;
  many = ap lacking (sym none) ∙ is.many;
  ended = λ e. all;
}

-- ---- a word, and the terms after it

further-text : (ss : List Symbol) (ts : List Tree) → text_of (further_words (sources_of ss (trees_of ts))) ≡ flat_map (λ t. 44 ∷ t) (map (term_text ss) ts) ++ 41 ∷ []
further-text ss [] = refl
further-text ss (t ∷ ts) =
    ap (λ l. 44 ∷ l) (text_of-append (words (source_of ss t)) (further_words (sources_of ss (trees_of ts))))
    ∙ ap (λ l. 44 ∷ (term_text ss t ++ l)) (further-text ss ts)
    ∙ ap (λ l. 44 ∷ l) (sym (append_assoc (term_text ss t) (flat_map (λ u. 44 ∷ u) (map (term_text ss) ts)) (41 ∷ [])))

-- a term's first word and what is written after it are its text and what is written after that
pub word-coming : (ss : List Symbol) (w : Word) (due : List ℕ) (ts : List Tree) → arguments w ≤ length ts
    → word_text ss w ++ after_word (arguments w) due (map (term_text ss) ts) ≡ coming true due (map (term_text ss) (with_word w ts))
word-coming ss (Name n) due ts there = ap (λ l. l ++ closing due (map (term_text ss) ts)) (sym (append-nil (word_text ss (Name n))))
word-coming ss (Agent s zero) due ts there = ap (λ l. l ++ closing due (map (term_text ss) ts)) (sym (append-nil (text_or_none (slice_get ss s))))
word-coming ss (Agent s (suc a)) due [] there = absurd (omega arith)
word-coming ss (Agent s (suc a)) due (t ∷ ts) there =
    let text = text_or_none (slice_get ss s) in
    let first = term_text ss t in
    let texts = map (term_text ss) ts in
    let front = flat_map (λ u. 44 ∷ u) (map (term_text ss) (take a ts)) in
    let after = closing due (map (term_text ss) (drop a ts)) in
    let whole : term_text ss (agent s (trees_of (t ∷ take a ts))) ≡ text ++ 40 ∷ (first ++ (front ++ 41 ∷ [])) =
    ap (λ l. text ++ 40 ∷ l) (text_of-append (words (source_of ss t)) (further_words (sources_of ss (trees_of (take a ts)))) ∙ ap (λ l. first ++ l) (further-text ss (take a ts))) in
    (λ i. text ++ 40 ∷ (first ++ (flat_map (λ u. 44 ∷ u) (take-map (term_text ss) a ts i) ++ 41 ∷ closing due (drop-map (term_text ss) a ts i))))
    ∙ ap (λ l. text ++ 40 ∷ (first ++ l)) (sym (append_assoc front (41 ∷ []) after))
    ∙ ap (λ l. text ++ 40 ∷ l) (sym (append_assoc first (front ++ 41 ∷ []) after))
    ∙ sym (append_assoc text (40 ∷ (first ++ (front ++ 41 ∷ []))) after)
    ∙ ap (λ l. l ++ after) (sym whole)

-- ---- a term, word by word

-- Of a term that begins at a place, the words up to another place are written.
pub record IsPrinting (ss : List Symbol) (ws : List Word) (place end : ℕ) (more : Bool) (due start out : List ℕ) : Type 0 where
  enough : needed more due ≤ length (forest (drop end ws))
  rest : drop (needed more due) (forest (drop end ws)) ≡ drop 1 (forest (drop place ws))
  text : out ++ coming more due (map (term_text ss) (forest (drop end ws))) ≡ start ++ first_text (term_text ss) (forest (drop place ws))
  ended : more ≡ false → due ≡ []

first-coming : {X : Type 0} (f : X → List ℕ) (xs : List X) → coming true [] (map f xs) ≡ first_text f xs
first-coming f [] = refl
first-coming f (x ∷ xs) = append-nil (f x)

-- words after a place write a term
pub some-there : (ws : List Word) (place : ℕ) → IsWhole ws → place < length ws → 1 ≤ length (forest (drop place ws))
some-there ws place whole there =
    let w = get_or ws place (Name 0) in
    let after = drop_more ws place (Name 0) there in
    let one = (subst (λ l. IsWhole l) after (whole-drop place ws whole)).0 in
    omega (arith, length-forest w (drop (place + 1) ws) one, ap (λ l. length (forest l)) after)

-- there are words where there are terms
pub word-there : (ws : List Word) (place n : ℕ) → n ≤ length (forest (drop place ws)) → 0 < n → place < length ws
word-there ws place n enough some = omega (arith, enough, forest-le (drop place ws), length-drop place ws)

pub IsPrinting-start : (ss : List Symbol) (ws : List Word) (place : ℕ) (due out : List ℕ) → IsWhole ws → place < length ws → due ≡ []
    → IsPrinting ss ws place place true (reverse due) out out
IsPrinting-start ss ws place due out whole there none =
    let empty : reverse due ≡ [] = ap reverse none in
    subst (λ (d : List ℕ). IsPrinting ss ws place place true d out out) (sym empty) (record {
      enough = some-there ws place whole there;
      rest = refl;
      text = ap (λ l. out ++ l) (first-coming (term_text ss) (forest (drop place ws)));
      ended = λ e. absurd cc;
    })

pub IsPrinting-within : {ss : List Symbol} {ws : List Word} {place end : ℕ} {more : Bool} {due start out : List ℕ} → IsPrinting ss ws place end more due start out
    → more ≡ true → end < length ws
IsPrinting-within {ws = ws} {end = end} {due = due} is goes =
    let enough = subst (λ b. needed b due ≤ length (forest (drop end ws))) goes is.enough in
    word-there ws end (needed true due) enough (omega arith)

drop-with_word : (w : Word) (ts : List Tree) (due : ℕ) → drop (suc due) (with_word w ts) ≡ drop (arguments w + due) ts
drop-with_word (Name n) ts due = let all : due ≡ 0 + due = omega arith in ap (λ k. drop k ts) all
drop-with_word (Agent s arity) ts due = drop-drop due arity ts

pub IsPrinting-next : {ss : List Symbol} {ws : List Word} {place end : ℕ} {more : Bool} {due start out : List ℕ} (d : Word) (more' : Bool) (due' out' : List ℕ)
    → IsWhole ws → IsPrinting ss ws place end more due start out → more ≡ true
    → Begins (λ texts. word_text ss (get_or ws end d) ++ after_word (arguments (get_or ws end d)) due texts) (arguments (get_or ws end d) + lacking due) out out' more' due'
    → IsPrinting ss ws place (end + 1) more' due' start out'
IsPrinting-next {ss} {ws} {place} {end} {more} {due} {start} {out} d more' due' out' whole is goes begins =
    let there = IsPrinting-within is goes in
    let w = get_or ws end d in
    let ts = forest (drop (end + 1) ws) in
    let f = term_text ss in
    let after = drop_more ws end d there in
    let terms : forest (drop end ws) ≡ with_word w ts = ap forest after in
    let one = (subst (λ l. IsWhole l) after (whole-drop end ws whole)).0 in
    let count = length-forest w (drop (end + 1) ws) one in
    let lacked = subst (λ b. needed b due ≤ length (forest (drop end ws))) goes is.enough in
    let few : arguments w + lacking due ≤ length ts = omega (arith, lacked, ap length terms, count) in
    let fits : arguments w + lacking due ≤ length (map f ts) = omega (arith, few, length-map ts f) in
    let known = subst (λ b. out ++ coming b due (map f (forest (drop end ws))) ≡ start ++ first_text f (forest (drop place ws))) goes is.text in
    let on : 1 + lacking due ≡ suc (lacking due) = omega arith in
    let gone = subst (λ b. drop (needed b due) (forest (drop end ws)) ≡ drop 1 (forest (drop place ws))) goes is.rest in
    record {
      enough = omega (arith, begins.many, few);
      rest = ap (λ n. drop n ts) begins.many ∙ sym (drop-with_word w ts (lacking due)) ∙ ap (drop (suc (lacking due))) (sym terms) ∙ ap (λ n. drop n (forest (drop end ws))) (sym on) ∙ gone;
      text = begins.text (map f ts) fits ∙ ap (λ l. out ++ l) (word-coming ss w due ts one) ∙ ap (λ l. out ++ coming true due (map f l)) (sym terms) ∙ known;
      ended = begins.ended;
    }

-- once no word is to come, the term is written
module _ {ss : List Symbol} {ws : List Word} {place end : ℕ} {more : Bool} {due start out : List ℕ} (is : IsPrinting ss ws place end more due start out) (done : more ≡ false) where
  pub IsPrinting-text : out ≡ start ++ first_text (term_text ss) (forest (drop place ws))
  IsPrinting-text =
      sym (append-nil out) ∙ subst (λ b. out ++ coming b due (map (term_text ss) (forest (drop end ws))) ≡ start ++ first_text (term_text ss) (forest (drop place ws))) done is.text

  pub IsPrinting-rest : forest (drop end ws) ≡ drop 1 (forest (drop place ws))
  IsPrinting-rest = subst (λ b. drop (needed b due) (forest (drop end ws)) ≡ drop 1 (forest (drop place ws))) done is.rest

pub IsPrinting-none : {ss : List Symbol} {ws : List Word} {place end : ℕ} {more : Bool} {start out : List ℕ} (due : List ℕ)
    → IsPrinting ss ws place end more (reverse due) start out → more ≡ false → due ≡ []
IsPrinting-none due is done = sym (reverse-reverse due) ∙ ap reverse (is.ended done)

-- ---- lists with commas between

module _ {X S : Type 0} (view : X → S) (spell : S → List Token) where
  abbrev text : X → List ℕ
  text x = text_of (spell (view x))

  after-more : (i : ℕ) (xs : List X) → i < length xs
      → text_of (after_commas (map spell (map view (take (suc i) xs)))) ≡ text_of (after_commas (map spell (map view (take i xs)))) ++ 44 ∷ first_text text (drop i xs)
  after-more i [] there = absurd (omega arith)
  after-more zero (x ∷ xs) there = ap (λ l. 44 ∷ l) (ap text_of (append-nil (spell (view x))))
  after-more (suc i) (x ∷ xs) there =
      let rest : ℕ → List Token = λ n. after_commas (map spell (map view (take n xs))) in
      ap (λ l. 44 ∷ l) (text_of-append (spell (view x)) (rest (suc i)) ∙ ap (λ l. text x ++ l) (after-more i xs (omega arith))
      ∙ sym (append_assoc (text x) (text_of (rest i)) (44 ∷ first_text text (drop i xs))) ∙ ap (λ l. l ++ 44 ∷ first_text text (drop i xs)) (sym (text_of-append (spell (view x)) (rest i))))

  list-more : (i : ℕ) (xs : List X) → i < length xs
      → text_of (separated Comma (map spell (map view (take (suc i) xs)))) ≡ text_of (separated Comma (map spell (map view (take i xs)))) ++ (comma_before i ++ first_text text (drop i xs))
  list-more i [] there = absurd (omega arith)
  list-more zero (x ∷ xs) there = ap text_of (append-nil (spell (view x)))
  list-more (suc i) (x ∷ xs) there =
      let rest : ℕ → List Token = λ n. after_commas (map spell (map view (take n xs))) in
      text_of-append (spell (view x)) (rest (suc i)) ∙ ap (λ l. text x ++ l) (after-more i xs (omega arith))
      ∙ sym (append_assoc (text x) (text_of (rest i)) (44 ∷ first_text text (drop i xs))) ∙ ap (λ l. l ++ 44 ∷ first_text text (drop i xs)) (sym (text_of-append (spell (view x)) (rest i)))

  -- one more of a list is written
  pub list-next : (i : ℕ) (xs : List X) (start out begun new : List ℕ) → i < length xs
      → out ≡ start ++ text_of (separated Comma (map spell (map view (take i xs)))) → begun ≡ out ++ comma_before i → new ≡ begun ++ first_text text (drop i xs)
      → new ≡ start ++ text_of (separated Comma (map spell (map view (take (i + 1) xs))))
  list-next i xs start out begun new there so_far comma one =
      let front = text_of (separated Comma (map spell (map view (take i xs)))) in
      let last = first_text text (drop i xs) in
      let on : suc i ≡ i + 1 = omega arith in
      one ∙ ap (λ l. l ++ last) (comma ∙ ap (λ l. l ++ comma_before i) so_far)
      ∙ append_assoc (start ++ front) (comma_before i) last ∙ append_assoc start front (comma_before i ++ last)
      ∙ ap (λ l. start ++ l) (sym (list-more i xs there))
      ∙ ap (λ n. start ++ text_of (separated Comma (map spell (map view (take n xs))))) on

-- ---- equations

pub pairs_of-drop : (ts : List Tree) → pairs_of (drop 2 ts) ≡ drop 1 (pairs_of ts)
pairs_of-drop [] = refl
pairs_of-drop (t ∷ []) = refl
pairs_of-drop (t ∷ u ∷ ts) = refl

pub length-pairs_of : (ts : List Tree) (n : ℕ) → length ts ≡ 2 * n → length (pairs_of ts) ≡ n
length-pairs_of [] n even = omega arith
length-pairs_of (t ∷ u ∷ ts) (suc n) even = let fewer : length ts ≡ 2 * n = omega arith in ap suc (length-pairs_of ts n fewer)
length-pairs_of _ _ even = absurd (omega arith)

-- ---- a configuration

pub interface-front : (c : Configuration) (ws : List Word) (terms : ℕ) → ws ≡ configuration_words c → terms ≡ length c.interface → take terms (forest ws) ≡ c.interface
interface-front c ws terms is count =
    (λ i. take (count i) (forest (is i))) ∙ ap (take (length c.interface)) (forest-configuration_words c) ∙ take_at c.interface (sides c.equations) (length c.interface) refl

pub sides-after : (c : Configuration) (ws : List Word) (terms : ℕ) → ws ≡ configuration_words c → terms ≡ length c.interface → drop terms (forest ws) ≡ sides c.equations
sides-after c ws terms is count =
    (λ i. drop (count i) (forest (is i))) ∙ ap (drop (length c.interface)) (forest-configuration_words c) ∙ drop_at c.interface (sides c.equations) (length c.interface) refl

printed-parts : (ss : List Symbol) (c : Configuration) → printed ss c ≡ 60 ∷ (terms_text ss c.interface ++ 124 ∷ (equations_text ss c.equations ++ 62 ∷ []))
printed-parts ss c =
    let interface = separated Comma (map words (map (source_of ss) c.interface)) in
    let equations = separated Comma (map sides_words (map (sides_of ss) c.equations)) in
    ap (λ l. 60 ∷ l) (text_of-append interface (mark Bar ∷ (equations ++ mark Greater ∷ []))
    ∙ ap (λ l. terms_text ss c.interface ++ 124 ∷ l) (text_of-append equations (mark Greater ∷ [])))

pub printed-written : (ss : List Symbol) (c : Configuration) (old begun terms barred equations new : List ℕ) → begun ≡ old ++ 60 ∷ [] → terms ≡ begun ++ terms_text ss c.interface
    → barred ≡ terms ++ 124 ∷ [] → equations ≡ barred ++ equations_text ss c.equations → new ≡ equations ++ 62 ∷ [] → new ≡ old ++ printed ss c
printed-written ss c old begun terms barred equations new less interface bar sides greater =
    let t = terms_text ss c.interface in
    let e = equations_text ss c.equations in
    greater ∙ ap (λ l. l ++ 62 ∷ []) (sides ∙ ap (λ l. l ++ e) (bar ∙ ap (λ l. l ++ 124 ∷ []) (interface ∙ ap (λ l. l ++ t) less)))
    ∙ append_assoc (((old ++ 60 ∷ []) ++ t) ++ 124 ∷ []) e (62 ∷ [])
    ∙ append_assoc ((old ++ 60 ∷ []) ++ t) (124 ∷ []) (e ++ 62 ∷ [])
    ∙ append_assoc (old ++ 60 ∷ []) t (124 ∷ (e ++ 62 ∷ []))
    ∙ append_assoc old (60 ∷ []) (t ++ 124 ∷ (e ++ 62 ∷ []))
    ∙ ap (λ l. old ++ l) (sym (printed-parts ss c))
