-- The check of syntax accepts the tokens of each configuration.
use Rattle.std.proofs.Common.{◌≡◌, ℕ, ◌+◌, ◌-◌, false, eqb, List, [], ◌∷◌, ◌++◌, Option, None, Some, IsTrue, refl, ap, ◌∙◌, append_assoc, arith}
use Rattle.std.proofs.lemmas.Bool.Decides.{nat_tests}
use Rattle.ic_term.specs.Symbol.{is_symbol_text}
use Rattle.ic_text.specs.declared.token.Mark.{Mark}
use Rattle.ic_text.specs.declared.token.Mark.TheVariants.{LeftBrace, RightBrace, Less, Greater, Bar, Equals, Comma, Semicolon, Open, Close}
use Rattle.ic_text.specs.declared.syntax.Part.{Part}
use Rattle.ic_text.specs.declared.syntax.Spot.{Spot}
use Rattle.ic_text.specs.declared.syntax.Spot.TheVariants.{First, Due, FirstAgent, DueAgent, Symbol, After}
use Rattle.ic_text.specs.declared.syntax.State.{State}
use Rattle.ic_text.specs.Token.{Token, word, mark}
use Rattle.ic_text.specs.Name.{name_text}
use Rattle.ic_text.specs.Source.{Source, leaf, node, Sources, no_sources, more_sources, IsSource, AreSources, words, argument_words, further_words}
use Rattle.ic_text.specs.SystemSource.{AgentPhrase, agent_source}
use Rattle.ic_text.specs.inner.Syntax.{word_spot, either_step, step, accepts}
use Rattle.ic_text.specs.lemmas.NameLemmas.{is_name-name_text, isnt_name-symbol}

-- a state that is on its way
abbrev pub at : Part → Spot → ℕ → Option State
at p s d = Some (record { part = p; spot = s; depth = d })

-- a term may begin here
abbrev pub TakesTerm : Spot → Type 0
TakesTerm First = Unit {0}
TakesTerm Due = Unit {0}
TakesTerm FirstAgent = ⊥
TakesTerm DueAgent = ⊥
TakesTerm Symbol = ⊥
TakesTerm After = ⊥

-- an agent may begin here
abbrev pub TakesAgent : Spot → Type 0
TakesAgent First = ⊥
TakesAgent Due = ⊥
TakesAgent FirstAgent = Unit {0}
TakesAgent DueAgent = Unit {0}
TakesAgent Symbol = ⊥
TakesAgent After = ⊥

-- no parenthesis opens here
abbrev pub IsClosed : List Token → Type 0
IsClosed [] = Unit {0}
IsClosed (word text ∷ ts) = Unit {0}
IsClosed (mark Open ∷ ts) = ⊥
IsClosed (mark m ∷ ts) = Unit {0}

either_same : (p : Part) (d : ℕ) (m : Mark) (o : Option (Spot × ℕ)) → either_step p Symbol d (mark m) o ≡ either_step p After d (mark m) o
either_same p d m None = refl
either_same p d m (Some next) = refl

-- a symbol without arguments is a whole term
pub symbol_is_term : (ts : List Token) (p : Part) (d : ℕ) → IsClosed ts → accepts (at p Symbol d) ts ≡ accepts (at p After d) ts
symbol_is_term (mark Open ∷ ts) p d closed = absurd closed
symbol_is_term (mark LeftBrace ∷ ts) p d closed = ap (λ o. accepts o ts) (either_same p d LeftBrace None)
symbol_is_term (mark RightBrace ∷ ts) p d closed = ap (λ o. accepts o ts) (either_same p d RightBrace None)
symbol_is_term (mark Less ∷ ts) p d closed = ap (λ o. accepts o ts) (either_same p d Less None)
symbol_is_term (mark Greater ∷ ts) p d closed = ap (λ o. accepts o ts) (either_same p d Greater None)
symbol_is_term (mark Bar ∷ ts) p d closed = ap (λ o. accepts o ts) (either_same p d Bar None)
symbol_is_term (mark Equals ∷ ts) p d closed = ap (λ o. accepts o ts) (either_same p d Equals None)
symbol_is_term (mark Comma ∷ ts) p d closed = ap (λ o. accepts o ts) (either_same p d Comma _)
symbol_is_term (mark Semicolon ∷ ts) p d closed = ap (λ o. accepts o ts) (either_same p d Semicolon None)
symbol_is_term (mark Close ∷ ts) p d closed = ap (λ o. accepts o ts) (either_same p d Close _)
symbol_is_term _ p d closed = refl

pub further_is_closed : (ts : Sources) (r : List Token) → IsClosed (further_words ts ++ r)
further_is_closed no_sources r = tt
further_is_closed (more_sources t ts) r = tt

-- the first word of a term
word_step : (p : Part) (s : Spot) (d : ℕ) (text : List ℕ) (next : Spot) → TakesTerm s → word_spot text ≡ Some next → step (record { part = p; spot = s; depth = d }) (word text) ≡ at p next d
word_step p First d text next takes is = rw is refl
word_step p Due d text next takes is = rw is refl
word_step p _ d text next takes is = absurd takes

name_spot : (n : ℕ) → word_spot (name_text n) ≡ Some After
name_spot n = rw (is_name-name_text n) refl

symbol_spot : (text : List ℕ) → IsTrue (is_symbol_text text) → word_spot text ≡ Some Symbol
symbol_spot text is = rw (isnt_name-symbol text is, is) refl

agent_step : (p : Part) (s : Spot) (text : List ℕ) → TakesAgent s → IsTrue (is_symbol_text text)
    → step (record { part = p; spot = s; depth = 0 }) (word text) ≡ at p Symbol 0
agent_step p FirstAgent text takes is = rw is refl
agent_step p DueAgent text takes is = rw is refl
agent_step p _ text takes is = absurd takes

pub inside : (d : ℕ) → eqb (d + 1) 0 ≡ false
inside d = grind (arith, nat_tests)

pub comma_step : (p : Part) (d : ℕ) → step (record { part = p; spot = After; depth = d + 1 }) (mark Comma) ≡ at p Due (d + 1)
comma_step p d = rw (inside d) refl

pub close_step : (p : Part) (d : ℕ) → step (record { part = p; spot = After; depth = d + 1 }) (mark Close) ≡ at p After d
close_step p d = let e : d + 1 - 1 ≡ d = omega arith in rw (inside d) (ap (at p After) e)

mutual
  -- a term leads from where it may begin to its end
  pub accepts-words : (t : Source) (p : Part) (s : Spot) (d : ℕ) (r : List Token) → IsSource t → TakesTerm s → IsClosed r → accepts (at p s d) (words t ++ r) ≡ accepts (at p After d) r
  accepts-words (leaf n) p s d r is takes closed = ap (λ o. accepts o r) (word_step p s d (name_text n) After takes (name_spot n))
  accepts-words (node text ts) p s d r is takes closed =
      ap (λ o. accepts o (argument_words ts ++ r)) (word_step p s d text Symbol takes (symbol_spot text is.0)) ∙ accepts-arguments ts p d r is.1 closed

  pub accepts-arguments : (ts : Sources) (p : Part) (d : ℕ) (r : List Token) → AreSources ts → IsClosed r → accepts (at p Symbol d) (argument_words ts ++ r) ≡ accepts (at p After d) r
  accepts-arguments no_sources p d r are closed = symbol_is_term r p d closed
  accepts-arguments (more_sources t ts) p d r are closed =
      ap (accepts (at p Due (d + 1))) (append_assoc (words t) (further_words ts) r)
      ∙ accepts-words t p Due (d + 1) (further_words ts ++ r) are.0 tt (further_is_closed ts r)
      ∙ accepts-further ts p d r are.1

  pub accepts-further : (ts : Sources) (p : Part) (d : ℕ) (r : List Token) → AreSources ts → accepts (at p After (d + 1)) (further_words ts ++ r) ≡ accepts (at p After d) r
  accepts-further no_sources p d r are = ap (λ o. accepts o r) (close_step p d)
  accepts-further (more_sources t ts) p d r are =
      ap (λ o. accepts o ((words t ++ further_words ts) ++ r)) (comma_step p d)
      ∙ ap (accepts (at p Due (d + 1))) (append_assoc (words t) (further_words ts) r)
      ∙ accepts-words t p Due (d + 1) (further_words ts ++ r) are.0 tt (further_is_closed ts r)
      ∙ accepts-further ts p d r are.1

-- so does an agent, from where one may begin
pub accepts-agent_words : (a : AgentPhrase) (p : Part) (s : Spot) (r : List Token)
    → IsSource (agent_source a) → TakesAgent s → IsClosed r
    → accepts (at p s 0) (words (agent_source a) ++ r) ≡ accepts (at p After 0) r
accepts-agent_words a p s r is takes closed =
    ap (λ o. accepts o (argument_words a.arguments ++ r)) (agent_step p s a.text takes is.0)
    ∙ accepts-arguments a.arguments p 0 r is.1 closed
