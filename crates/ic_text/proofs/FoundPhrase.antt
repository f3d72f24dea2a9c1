-- A whole configuration that the check of syntax accepts.
use Rattle.std.proofs.Common.{◌≡◌, ℕ, zero, suc, ◌≤◌, true, List, [], ◌∷◌, ◌++◌, Option, None, Some, map, length, refl, sym, ap, ◌∙◌, append_assoc, arith}
use Rattle.std.specs.List.{AllByRecursion}
use Rattle.std.proofs.lemmas.Bool.{false≢true}
use Rattle.ic_text.specs.declared.token.Mark.TheVariants.{Less, Greater, Bar, Equals, Comma}
use Rattle.ic_text.specs.declared.syntax.Part.{Part}
use Rattle.ic_text.specs.declared.syntax.Part.TheVariants.{Begin, Interface, Left, Right, End}
use Rattle.ic_text.specs.declared.syntax.Spot.{Spot}
use Rattle.ic_text.specs.declared.syntax.Spot.TheVariants.{First, Due, After}
use Rattle.ic_text.specs.Token.{Token, word, mark}
use Rattle.ic_text.specs.Source.{Source, Sides, Phrase, IsSource, IsPhrase, words, sides_words, separated, phrase_words}
use Rattle.ic_text.specs.inner.Syntax.{word_spot, beside, either_step, accepts}
use Rattle.ic_text.proofs.Accepted.{at}
use Rattle.ic_text.proofs.Grammar.{after_commas, AreSides, accepts-phrase_words}
use Rattle.ic_text.proofs.Found.{TermFound, term_due, rest_is_less}

-- some configuration has these tokens
abbrev pub SpelledBy : List Token → Type 0
SpelledBy ts = (p : Phrase) × IsPhrase p × (ts ≡ phrase_words p)

-- where a part may be empty, a word begins a term all the same
first_is_due : (p : Part) (text : List ℕ) (ts : List Token) → accepts (at p First 0) (word text ∷ ts) ≡ accepts (at p Due 0) (word text ∷ ts)
first_is_due p text ts = ap (λ o. accepts o ts) (same (beside 0 (word_spot text)))
  where
    same : (o : Option (Spot × ℕ)) → either_step p First 0 (word text) o ≡ either_step p Due 0 (word text) o
    same None = refl
    same (Some next) = refl

-- the tokens go on with further terms of the interface, and end it
record InterfaceFound (front : List (List Token) → List Token) (ts : List Token) : Type 0 where
  terms : List Source
  are : AllByRecursion IsSource terms
  rest : List Token
  spelled : ts ≡ front (map words terms) ++ mark Bar ∷ rest
  goes : accepts (at Left First 0) rest ≡ true

-- a term of the interface and those after it
interface_more : (ts : List Token) (t : TermFound Interface 0 ts) → InterfaceFound after_commas t.rest → InterfaceFound (separated Comma) ts
interface_more ts t others = record {
  terms = t.term ∷ others.terms;
  are = (t.is, others.are);
  rest = others.rest;
  spelled = t.spelled ∙ ap (λ r. words t.term ++ r) others.spelled ∙ sym (append_assoc (words t.term) (after_commas (map words others.terms)) (mark Bar ∷ others.rest));
  goes = others.goes;
}

after_from_separated : (ts : List Token) (t : TermFound Interface 0 ts) → InterfaceFound after_commas t.rest → InterfaceFound after_commas (mark Comma ∷ ts)
unfolding interface_more
after_from_separated ts t others =
    let all = interface_more ts t others in
    record { terms = all.terms; are = all.are; rest = all.rest; spelled = ap (λ r. mark Comma ∷ r) all.spelled; goes = all.goes }

interface_rest : (n : ℕ) (ts : List Token) → length ts ≤ n → accepts (at Interface After 0) ts ≡ true → InterfaceFound after_commas ts
interface_rest n (mark Bar ∷ ts) le goes = record { terms = []; are = tt; rest = ts; spelled = refl; goes = goes }
interface_rest zero (mark Comma ∷ ts) le goes = absurd (omega arith)
interface_rest (suc n) (mark Comma ∷ ts) le goes =
    let t = term_due ts Interface tt goes in
    after_from_separated ts t (interface_rest n t.rest (rest_is_less ts t.rest n (words t.term) t.spelled (omega arith)) t.goes)
interface_rest n _ le goes = absurd (false≢true goes)

interface_found : (ts : List Token) → accepts (at Interface First 0) ts ≡ true → InterfaceFound (separated Comma) ts
interface_found (word text ∷ ts) goes =
    let t = term_due (word text ∷ ts) Interface tt (sym (first_is_due Interface text ts) ∙ goes) in
    interface_more (word text ∷ ts) t (interface_rest (length t.rest) t.rest (omega arith) t.goes)
interface_found (mark Bar ∷ ts) goes = record { terms = []; are = tt; rest = ts; spelled = refl; goes = goes }
interface_found _ goes = absurd (false≢true goes)

-- the tokens begin with an equation
record EquationFound (ts : List Token) : Type 0 where
  sides : Sides
  are : IsSource sides.left × IsSource sides.right
  rest : List Token
  spelled : ts ≡ sides_words sides ++ rest
  goes : accepts (at Right After 0) rest ≡ true

equals_found : (ts : List Token) → accepts (at Left After 0) ts ≡ true → (us : List Token) × (ts ≡ mark Equals ∷ us) × (accepts (at Right Due 0) us ≡ true)
equals_found (mark Equals ∷ ts) goes = (ts, refl, goes)
equals_found _ goes = absurd (false≢true goes)

equation_due : (ts : List Token) → accepts (at Left Due 0) ts ≡ true → EquationFound ts
equation_due ts goes =
    let l = term_due ts Left tt goes in
    let e = equals_found l.rest l.goes in
    let r = term_due e.0 Right tt e.2 in
    record {
      sides = record { left = l.term; right = r.term };
      are = (l.is, r.is);
      rest = r.rest;
      spelled = l.spelled ∙ ap (λ x. words l.term ++ x) (e.1 ∙ ap (λ x. mark Equals ∷ x) r.spelled) ∙ sym (append_assoc (words l.term) (mark Equals ∷ words r.term) r.rest);
      goes = r.goes;
    }

-- the tokens go on with further equations, and end the configuration
record EquationsFound (front : List (List Token) → List Token) (ts : List Token) : Type 0 where
  equations : List Sides
  are : AreSides equations
  spelled : ts ≡ front (map sides_words equations) ++ mark Greater ∷ []

equations_more : (ts : List Token) (e : EquationFound ts) → EquationsFound after_commas e.rest → EquationsFound (separated Comma) ts
equations_more ts e others = record {
  equations = e.sides ∷ others.equations;
  are = (e.are, others.are);
  spelled = e.spelled ∙ ap (λ r. sides_words e.sides ++ r) others.spelled ∙ sym (append_assoc (sides_words e.sides) (after_commas (map sides_words others.equations)) (mark Greater ∷ []));
}

equations_after : (ts : List Token) (e : EquationFound ts) → EquationsFound after_commas e.rest → EquationsFound after_commas (mark Comma ∷ ts)
unfolding equations_more
equations_after ts e others =
    let all = equations_more ts e others in
    record { equations = all.equations; are = all.are; spelled = ap (λ r. mark Comma ∷ r) all.spelled }

nothing_after : (ts : List Token) → accepts (at End After 0) ts ≡ true → ts ≡ []
nothing_after [] goes = refl
nothing_after (mark Less ∷ ts) goes = absurd (false≢true goes)
nothing_after _ goes = absurd (false≢true goes)

end_found : (front : List (List Token) → List Token) → front [] ≡ [] → (ts : List Token) → accepts (at End After 0) ts ≡ true → EquationsFound front (mark Greater ∷ ts)
end_found front none ts goes = record { equations = []; are = tt; spelled = ap (λ r. mark Greater ∷ r) (nothing_after ts goes) ∙ ap (λ r. r ++ mark Greater ∷ []) (sym none) }

equations_rest : (n : ℕ) (ts : List Token) → length ts ≤ n → accepts (at Right After 0) ts ≡ true → EquationsFound after_commas ts
equations_rest n (mark Greater ∷ ts) le goes = end_found after_commas refl ts goes
equations_rest zero (mark Comma ∷ ts) le goes = absurd (omega arith)
equations_rest (suc n) (mark Comma ∷ ts) le goes =
    let e = equation_due ts goes in
    equations_after ts e (equations_rest n e.rest (rest_is_less ts e.rest n (sides_words e.sides) e.spelled (omega arith)) e.goes)
equations_rest n _ le goes = absurd (false≢true goes)

equations_found : (ts : List Token) → accepts (at Left First 0) ts ≡ true → EquationsFound (separated Comma) ts
equations_found (word text ∷ ts) goes =
    let e = equation_due (word text ∷ ts) (sym (first_is_due Left text ts) ∙ goes) in
    equations_more (word text ∷ ts) e (equations_rest (length e.rest) e.rest (omega arith) e.goes)
equations_found (mark Greater ∷ ts) goes = end_found (separated Comma) refl ts goes
equations_found _ goes = absurd (false≢true goes)

-- what is accepted is a configuration
pub SpelledBy-accepts : (ts : List Token) → accepts (at Begin After 0) ts ≡ true → SpelledBy ts
SpelledBy-accepts (mark Less ∷ ts) goes =
    let i = interface_found ts goes in
    let e = equations_found i.rest i.goes in (
      record { interface = i.terms; equations = e.equations },
      record { interface = i.are; equations = e.are },
      ap (λ r. mark Less ∷ r) (i.spelled ∙ ap (λ r. separated Comma (map words i.terms) ++ mark Bar ∷ r) e.spelled),
    )
SpelledBy-accepts _ goes = absurd (false≢true goes)

-- and each configuration is accepted
pub accepts-SpelledBy : (ts : List Token) → SpelledBy ts → accepts (at Begin After 0) ts ≡ true
accepts-SpelledBy ts spelled = ap (accepts (at Begin After 0)) spelled.2 ∙ accepts-phrase_words spelled.0 spelled.1
