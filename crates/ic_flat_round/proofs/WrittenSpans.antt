-- The first word of a span, written or turned from.
use Rattle.std.proofs.Common.{◌≡◌, ℕ, ◌+◌, ◌-◌, ◌<◌, List, [], ◌∷◌, ◌++◌, None, length, ap, ◌∙◌, append_assoc}
use Rattle.ic_term.specs.Tree.{Tree, name, agent, trees_of}
use Rattle.ic_settle.specs.lemmas.Waiting.{look, IsTaken}
use Rattle.ic_flat.specs.declared.word.Word.{Word}
use Rattle.ic_flat.specs.declared.word.Word.TheVariants.{Name, Agent}
use Rattle.ic_flat.specs.Words.{IsWhole}
use Rattle.std.proofs.Common.{get_or}
use Rattle.ic_flat_round.specs.declared.rebuilding.Span.{Span}
use Rattle.ic_flat_rules.specs.Standing.{tree_at}
use Rattle.ic_flat_round.specs.inner.Rebuilding.{State, state, span_terms, span_of, stacked, IsSpan, PutsOn, effort}
use Rattle.ic_flat_round.proofs.PutWords.{puts-name, puts-bound, puts-agent, effort-name, effort-bound, effort-agent}
use Rattle.ic_flat_round.proofs.StackedSpans.{stacked-push, span_of-one, span-name, span-agent}

-- one word is put on
abbrev pub PutsOne : State → State → Type 0
PutsOne a b = PutsOn a b × (effort b + 1 ≡ effort a)

one-left : (es es' : List (ℕ × Tree)) (done done' : List Word) (l l' m m' : List Tree) → l ≡ m → l' ≡ m'
    → PutsOne (state es done m) (state es' done' m') → PutsOne (state es done l) (state es' done' l')
one-left es es' done done' l l' m m' e f puts = rw (e, f) puts

module _ (ws : List Word) (s : Span) (d : Word) (is : IsSpan ws s) (some : 0 < s.count) where
  abbrev rest_of : Span
  rest_of = record { place = s.place + 1; count = s.count - 1 }

  -- a bound name: its term comes first, and the rest of the span waits
  pub word-bound : (es es' : List (ℕ × Tree)) (done : List Word) (stack stack' : List Span) (x place : ℕ) → get_or ws s.place d ≡ Name x
      → IsTaken es es' x (tree_at ws place) → place < length ws → stack' ≡ stack ++ rest_of ∷ []
      → PutsOne (state es done (span_terms ws s ++ stacked ws stack)) (state es' done (span_terms ws (span_of place) ++ stacked ws stack'))
  word-bound es es' done stack stack' x place word taken there pushed =
      let left = span_terms ws rest_of ++ stacked ws stack in
      let u = tree_at ws place in
      let before : span_terms ws s ++ stacked ws stack ≡ name x ∷ left = ap (λ l. l ++ stacked ws stack) (span-name ws s d x is some word).1 in
      let after : span_terms ws (span_of place) ++ stacked ws stack' ≡ u ∷ left =
      (λ i. (span_of-one ws place there).1 i ++ (ap (stacked ws) pushed ∙ stacked-push ws stack rest_of) i) in
      one-left es es' done done _ _ (name x ∷ left) (u ∷ left) before after (puts-bound es es' done x u left taken, effort-bound es es' done x u left taken)

  -- another name is written
  pub word-name : (es es' : List (ℕ × Tree)) (done done' : List Word) (stack : List Span) (x : ℕ) → get_or ws s.place d ≡ Name x
      → look es x ≡ None → es' ≡ es → done' ≡ done ++ Name x ∷ []
      → PutsOne (state es done (span_terms ws s ++ stacked ws stack)) (state es' done' (span_terms ws rest_of ++ stacked ws stack))
  word-name es es' done done' stack x word none same pushed =
      let left = span_terms ws rest_of ++ stacked ws stack in
      let before : span_terms ws s ++ stacked ws stack ≡ name x ∷ left = ap (λ l. l ++ stacked ws stack) (span-name ws s d x is some word).1 in
      rw (same, pushed, before) (puts-name es done x left none, effort-name es done (done ++ Name x ∷ []) x left)

  -- an agent is written, and its arguments come before the rest of the span
  pub word-agent : (es : List (ℕ × Tree)) (done done' : List Word) (stack : List Span) (sym_of arity : ℕ) → IsWhole ws → get_or ws s.place d ≡ Agent sym_of arity
      → done' ≡ done ++ Agent sym_of arity ∷ []
      → PutsOne (state es done (span_terms ws s ++ stacked ws stack))
      (state es done' (span_terms ws (record { place = s.place + 1; count = (s.count - 1) + arity }) ++ stacked ws stack))
  word-agent es done done' stack sym_of arity whole word pushed =
      let parts = span-agent ws s d sym_of arity whole is some word in
      let ts = parts.0 in
      let left = parts.1 ++ stacked ws stack in
      let before : span_terms ws s ++ stacked ws stack ≡ agent sym_of (trees_of ts) ∷ left = ap (λ l. l ++ stacked ws stack) parts.3 in
      let after : span_terms ws (record { place = s.place + 1; count = (s.count - 1) + arity }) ++ stacked ws stack ≡ ts ++ left =
      ap (λ l. l ++ stacked ws stack) parts.4 ∙ append_assoc ts parts.1 (stacked ws stack) in
      let written : List Word = done ++ Agent sym_of arity ∷ [] in
      rw pushed (one-left es es done written _ _ (agent sym_of (trees_of ts) ∷ left) (ts ++ left) before after
      (puts-agent es done sym_of arity ts left parts.2, effort-agent es done written sym_of ts left))
