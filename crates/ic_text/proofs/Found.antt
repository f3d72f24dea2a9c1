-- What the check of syntax accepts is a configuration.
use Rattle.std.proofs.Common.{◌≡◌, ℕ, zero, suc, ◌+◌, ◌≤◌, Bool, true, false, cond, eqb, List, [], ◌∷◌, ◌++◌, Option, None, Some, length, refl, sym, ap, ◌∙◌, append_assoc, arith, length-append}
use Rattle.std.proofs.lemmas.Bool.{false≢true}
use Rattle.ic_term.specs.Symbol.{is_symbol_text}
use Rattle.ic_text.specs.declared.token.Mark.{Mark}
use Rattle.ic_text.specs.declared.token.Mark.TheVariants.{Comma, Open, Close}
use Rattle.ic_text.specs.declared.syntax.Part.{Part}
use Rattle.ic_text.specs.declared.syntax.Part.TheVariants.{Start, RuleLeft, Turn, RuleRight, Begin, Interface, Left, Right, End}
use Rattle.ic_text.specs.declared.syntax.Spot.{Spot}
use Rattle.ic_text.specs.declared.syntax.Spot.TheVariants.{Due, Symbol, After}
use Rattle.ic_text.specs.declared.syntax.State.{State}
use Rattle.ic_text.specs.Token.{Token, word, mark}
use Rattle.ic_text.specs.Name.{is_name, name_number}
use Rattle.ic_text.specs.Source.{Source, leaf, node, Sources, no_sources, more_sources, IsSource, AreSources, words, argument_words, further_words}
use Rattle.ic_text.specs.inner.Syntax.{beside, either_step, accepts}
use Rattle.ic_text.specs.lemmas.NameLemmas.{name_text-name_number}
use Rattle.ic_text.proofs.Accepted.{at, symbol_is_term, inside, comma_step, close_step}

-- a part that terms stand in
abbrev pub IsInner : Part → Type 0
IsInner Start = ⊥
IsInner RuleLeft = Unit {0}
IsInner Turn = ⊥
IsInner RuleRight = Unit {0}
IsInner Begin = ⊥
IsInner Interface = Unit {0}
IsInner Left = Unit {0}
IsInner Right = Unit {0}
IsInner End = ⊥

pub goes_on : (p : Part) (s : Spot) (d : ℕ) → IsInner p → accepts (at p s d) [] ≡ true → ⊥
goes_on Start s d inner ends = absurd inner
goes_on Turn s d inner ends = absurd inner
goes_on Begin s d inner ends = absurd inner
goes_on End s d inner ends = absurd inner
goes_on _ s d inner ends = false≢true ends

-- the tokens begin with a term
pub record TermFound (p : Part) (d : ℕ) (ts : List Token) : Type 0 where
  pub term : Source
  pub is : IsSource term
  pub rest : List Token
  pub spelled : ts ≡ words term ++ rest
  pub goes : accepts (at p After d) rest ≡ true

-- the tokens begin with what follows a symbol
pub record ArgumentsFound (p : Part) (d : ℕ) (ts : List Token) : Type 0 where
  pub terms : Sources
  pub are : AreSources terms
  pub rest : List Token
  pub spelled : ts ≡ argument_words terms ++ rest
  pub goes : accepts (at p After d) rest ≡ true

-- the tokens begin with what follows an argument
record FurtherFound (p : Part) (d : ℕ) (ts : List Token) : Type 0 where
  terms : Sources
  are : AreSources terms
  rest : List Token
  spelled : ts ≡ further_words terms ++ rest
  goes : accepts (at p After d) rest ≡ true

-- what is found in lists of at most n tokens
record Below (n : ℕ) : Type 0 where
  term : (ts : List Token) → length ts ≤ n → (p : Part) (d : ℕ) → IsInner p → accepts (at p Due d) ts ≡ true → TermFound p d ts
  further : (ts : List Token) → length ts ≤ n → (p : Part) (d : ℕ) → IsInner p → accepts (at p After (d + 1)) ts ≡ true → FurtherFound p d ts

no_mark_due : (p : Part) (d : ℕ) (m : Mark) (ts : List Token) → accepts (at p Due d) (mark m ∷ ts) ≡ true → ⊥
no_mark_due p d m ts = by_depth (eqb d 0)
  where
    by_depth : (z : Bool) → accepts (cond z None None) ts ≡ true → ⊥
    by_depth true e = false≢true e
    by_depth false e = false≢true e

no_outside : (z : Bool) (o : Option State) (ts : List Token) → z ≡ false → accepts (cond z o None) ts ≡ true → ⊥
no_outside true o ts e goes = false≢true (sym e)
no_outside false o ts e goes = false≢true goes

pub rest_is_less : (ts us : List Token) (n : ℕ) (front : List Token) → ts ≡ front ++ us → length ts ≤ n → length us ≤ n
rest_is_less ts us n front e le = omega (arith, ap length e, length-append front us)

-- a term and what follows it
further_more : (n : ℕ) → Below n → (ts : List Token) → length ts ≤ n → (p : Part) (d : ℕ) → IsInner p → accepts (at p Due (d + 1)) ts ≡ true
    → (t : Source) × IsSource t × (us : Sources) × AreSources us × (rest : List Token) × (ts ≡ (words t ++ further_words us) ++ rest) × (accepts (at p After d) rest ≡ true)
further_more n below ts le p d inner goes =
    let t = below.term ts le p (d + 1) inner goes in
    let us = below.further t.rest (rest_is_less ts t.rest n (words t.term) t.spelled le) p d inner t.goes in
    (t.term, t.is, us.terms, us.are, us.rest, t.spelled ∙ ap (λ r. words t.term ++ r) us.spelled ∙ sym (append_assoc (words t.term) (further_words us.terms) us.rest), us.goes)

further_from : (n : ℕ) → Below n → (ts : List Token) → length ts ≤ suc n → (p : Part) (d : ℕ) → IsInner p → accepts (at p After (d + 1)) ts ≡ true → FurtherFound p d ts
further_from n below [] le p d inner goes = absurd (goes_on p After (d + 1) inner goes)
further_from n below (word text ∷ ts) le p d inner goes = absurd (false≢true goes)
further_from n below (mark Close ∷ ts) le p d inner goes =
    record { terms = no_sources; are = tt; rest = ts; spelled = refl; goes = ap (λ o. accepts o ts) (sym (close_step p d)) ∙ goes }
further_from n below (mark Comma ∷ ts) le p d inner goes =
    let found = further_more n below ts (omega arith) p d inner (ap (λ o. accepts o ts) (sym (comma_step p d)) ∙ goes) in
    record { terms = more_sources found.0 found.2; are = (found.1, found.3); rest = found.4; spelled = ap (λ r. mark Comma ∷ r) found.5; goes = found.6 }
further_from n below (mark m ∷ ts) le p d inner goes = absurd (no_outside (eqb (d + 1) 0) _ ts (inside d) goes)

arguments_from : (n : ℕ) → Below n → (ts : List Token) → length ts ≤ suc n → (p : Part) (d : ℕ) → IsInner p → accepts (at p Symbol d) ts ≡ true → ArgumentsFound p d ts
arguments_from n below [] le p d inner goes = absurd (goes_on p Symbol d inner goes)
arguments_from n below (mark Open ∷ ts) le p d inner goes =
    let found = further_more n below ts (omega arith) p d inner goes in
    record { terms = more_sources found.0 found.2; are = (found.1, found.3); rest = found.4; spelled = ap (λ r. mark Open ∷ r) found.5; goes = found.6 }
arguments_from n below (word text ∷ ts) le p d inner goes = absurd (false≢true goes)
arguments_from n below (mark m ∷ ts) le p d inner goes =
    record { terms = no_sources; are = tt; rest = mark m ∷ ts; spelled = refl; goes = sym (symbol_is_term (mark m ∷ ts) p d tt) ∙ goes }

term_from : (n : ℕ) → Below n → (ts : List Token) → length ts ≤ suc n → (p : Part) (d : ℕ) → IsInner p → accepts (at p Due d) ts ≡ true → TermFound p d ts
term_from n below [] le p d inner goes = absurd (goes_on p Due d inner goes)
term_from n below (mark m ∷ ts) le p d inner goes = absurd (no_mark_due p d m ts goes)
term_from n below (word text ∷ ts) le p d inner goes = by_word (is_name text) (is_symbol_text text) refl refl goes
  where
    by_word : (a b : Bool) → is_name text ≡ a → is_symbol_text text ≡ b
        → accepts (either_step p Due d (word text) (beside d (cond a (Some After) (cond b (Some Symbol) None)))) ts ≡ true → TermFound p d (word text ∷ ts)
    by_word true b named symbol goes =
        record { term = leaf (name_number text); is = tt; rest = ts; spelled = ap (λ w. word w ∷ ts) (sym (name_text-name_number text named)); goes = goes }
    by_word false true named symbol goes =
        let found = arguments_from n below ts (omega arith) p d inner goes in
        record { term = node text found.terms; is = (symbol, found.are); rest = found.rest; spelled = ap (λ r. word text ∷ r) found.spelled; goes = found.goes }
    by_word false false named symbol goes = absurd (false≢true goes)

below : (n : ℕ) → Below n
below zero = record {
  term = λ ts le p d inner goes. none_due ts le p d inner goes;
  further = λ ts le p d inner goes. none_after ts le p d inner goes;
}
  where
    none_due : (ts : List Token) → length ts ≤ 0 → (p : Part) (d : ℕ) → IsInner p → accepts (at p Due d) ts ≡ true → TermFound p d ts
    none_due [] le p d inner goes = absurd (goes_on p Due d inner goes)
    none_due (t ∷ ts) le p d inner goes = absurd (omega arith)

    none_after : (ts : List Token) → length ts ≤ 0 → (p : Part) (d : ℕ) → IsInner p → accepts (at p After (d + 1)) ts ≡ true → FurtherFound p d ts
    none_after [] le p d inner goes = absurd (goes_on p After (d + 1) inner goes)
    none_after (t ∷ ts) le p d inner goes = absurd (omega arith)
below (suc n) = record { term = term_from n (below n); further = further_from n (below n) }

pub term_due : (ts : List Token) (p : Part) → IsInner p → accepts (at p Due 0) ts ≡ true → TermFound p 0 ts
term_due ts p inner goes = (below (length ts)).term ts (omega arith) p 0 inner goes

-- the arguments of a symbol outside all parentheses
pub arguments_due : (ts : List Token) (p : Part) → IsInner p → accepts (at p Symbol 0) ts ≡ true → ArgumentsFound p 0 ts
arguments_due ts p inner goes = arguments_from (length ts) (below (length ts)) ts (omega arith) p 0 inner goes
