-- Each configuration is accepted by the check of syntax.
use Rattle.std.proofs.Common.{◌≡◌, true, List, [], ◌∷◌, ◌++◌, map, refl, ap, ◌∙◌, append_assoc}
use Rattle.std.specs.List.{flat_map, AllByRecursion}
use Rattle.ic_text.specs.declared.token.Mark.TheVariants.{Greater, Bar, Equals, Comma}
use Rattle.ic_text.specs.declared.syntax.Part.TheVariants.{Begin, Interface, Left, Right}
use Rattle.ic_text.specs.declared.syntax.Spot.{Spot}
use Rattle.ic_text.specs.declared.syntax.Spot.TheVariants.{First, Due, After}
use Rattle.ic_text.specs.Token.{Token, mark}
use Rattle.ic_text.specs.Source.{Source, Sides, Phrase, IsSource, IsPhrase, words, sides_words, separated, phrase_words}
use Rattle.ic_text.specs.inner.Syntax.{accepts}
use Rattle.ic_text.proofs.Accepted.{at, TakesTerm, IsClosed, accepts-words}

-- lists of tokens, each after a `,`
abbrev pub after_commas : List (List Token) → List Token
after_commas tss = flat_map (λ us. mark Comma ∷ us) tss

abbrev pub AreSides : List Sides → Type 0
AreSides es = AllByRecursion (λ e. IsSource e.left × IsSource e.right) es

pub after_is_closed : (tss : List (List Token)) (r : List Token) → IsClosed r → IsClosed (after_commas tss ++ r)
after_is_closed [] r closed = closed
after_is_closed (ts ∷ tss) r closed = tt

-- terms of the interface after the first one
interface_rest : (ts : List Source) (r : List Token) → AllByRecursion IsSource ts → IsClosed r
    → accepts (at Interface After 0) (after_commas (map words ts) ++ r) ≡ accepts (at Interface After 0) r
interface_rest [] r are closed = refl
interface_rest (t ∷ ts) r are closed =
    ap (accepts (at Interface Due 0)) (append_assoc (words t) (after_commas (map words ts)) r)
    ∙ accepts-words t Interface Due 0 (after_commas (map words ts) ++ r) are.0 tt (after_is_closed (map words ts) r closed)
    ∙ interface_rest ts r are.1 closed

interface_words : (ts : List Source) (r : List Token) → AllByRecursion IsSource ts
    → accepts (at Interface First 0) (separated Comma (map words ts) ++ mark Bar ∷ r) ≡ accepts (at Left First 0) r
interface_words [] r are = refl
interface_words (t ∷ ts) r are =
    ap (accepts (at Interface First 0)) (append_assoc (words t) (after_commas (map words ts)) (mark Bar ∷ r))
    ∙ accepts-words t Interface First 0 (after_commas (map words ts) ++ mark Bar ∷ r) are.0 tt (after_is_closed (map words ts) (mark Bar ∷ r) tt)
    ∙ interface_rest ts (mark Bar ∷ r) are.1 tt

-- an equation
equation_words : (e : Sides) (s : Spot) (r : List Token) → IsSource e.left × IsSource e.right → TakesTerm s → IsClosed r
    → accepts (at Left s 0) (sides_words e ++ r) ≡ accepts (at Right After 0) r
equation_words e s r are takes closed =
    ap (accepts (at Left s 0)) (append_assoc (words e.left) (mark Equals ∷ words e.right) r)
    ∙ accepts-words e.left Left s 0 (mark Equals ∷ (words e.right ++ r)) are.0 takes tt
    ∙ accepts-words e.right Right Due 0 r are.1 tt closed

equations_rest : (es : List Sides) (r : List Token) → AreSides es → IsClosed r
    → accepts (at Right After 0) (after_commas (map sides_words es) ++ r) ≡ accepts (at Right After 0) r
equations_rest [] r are closed = refl
equations_rest (e ∷ es) r are closed =
    ap (accepts (at Left Due 0)) (append_assoc (sides_words e) (after_commas (map sides_words es)) r)
    ∙ equation_words e Due (after_commas (map sides_words es) ++ r) are.0 tt (after_is_closed (map sides_words es) r closed)
    ∙ equations_rest es r are.1 closed

equations_words : (es : List Sides) → AreSides es → accepts (at Left First 0) (separated Comma (map sides_words es) ++ mark Greater ∷ []) ≡ true
equations_words [] are = refl
equations_words (e ∷ es) are =
    ap (accepts (at Left First 0)) (append_assoc (sides_words e) (after_commas (map sides_words es)) (mark Greater ∷ []))
    ∙ equation_words e First (after_commas (map sides_words es) ++ mark Greater ∷ []) are.0 tt (after_is_closed (map sides_words es) (mark Greater ∷ []) tt)
    ∙ equations_rest es (mark Greater ∷ []) are.1 tt

pub accepts-phrase_words : (p : Phrase) → IsPhrase p → accepts (at Begin After 0) (phrase_words p) ≡ true
accepts-phrase_words p is =
    interface_words p.interface (separated Comma (map sides_words p.equations) ++ mark Greater ∷ []) is.interface ∙ equations_words p.equations is.equations
