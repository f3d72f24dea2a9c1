-- For private functions: terms that are written with what stands for their bound names in the places of these.
use Rattle.std.specs.Prelude.{◌≡◌, ℕ, ◌+◌, ◌-◌, ◌<◌, ◌≤◌, List, ◌++◌, length, map, reverse, take, drop, sum_by}
use Rattle.std.specs.List.{flat_map}
use Rattle.ic_term.specs.Tree.{Tree, names, nodes}
use Rattle.ic_settle.specs.Settling.{Binding}
use Rattle.ic_settle.specs.lemmas.Waiting.{nodes_kept, put_each, IsDelayed}
use Rattle.ic_flat.specs.declared.word.Word.{Word}
use Rattle.ic_flat.specs.Words.{forest, tree_words}
use Rattle.ic_flat_round.specs.declared.rebuilding.Span.{Span}
use Rattle.ic_flat_round.specs.inner.Waits.{waiting}

-- ---- spans of terms

-- the terms of a span
abbrev pub span_terms : List Word → Span → List Tree
span_terms ws s = take s.count (forest (drop s.place ws))

-- they are all there
abbrev pub IsSpan : List Word → Span → Type 0
IsSpan ws s = s.count ≤ length (forest (drop s.place ws))

-- the term at a place
abbrev pub span_of : ℕ → Span
span_of place = record { place = place; count = 1 }

-- the terms of the spans on a stack, from the top on
abbrev pub stacked : List Word → List Span → List Tree
stacked ws stack = flat_map (span_terms ws) (reverse stack)

-- ---- the way of the writing

-- the bindings that wait, what is written, and the terms that are left
pub record State : Type 0 where
  pub waits : List (ℕ × Tree)
  pub written : List Word
  pub left : List Tree

abbrev pub state : List (ℕ × Tree) → List Word → List Tree → State
state es written left = record { waits = es; written = written; left = left }

-- this span is left, and those on the stack
abbrev pub on_stack : List Word → List (ℕ × ℕ) → List Word → Span → List Span → State
on_stack ws es written span stack =
    state (waiting ws es) written (span_terms ws span ++ stacked ws stack)

-- the words of terms with bindings put in
abbrev pub words_put : List Binding → List Tree → List Word
words_put bs ts = flat_map tree_words (map (put_each bs) ts)

-- What is written, and what is left with the bindings put in, is the same after as before; and the names of what is left
-- are delayed as they were.
abbrev pub PutsOn : State → State → Type 0
PutsOn a b = (bs : List Binding) (rest : List ℕ) → IsDelayed bs a.waits (flat_map names a.left ++ rest)
    → (b.written ++ words_put bs b.left ≡ a.written ++ words_put bs a.left)
    × IsDelayed bs b.waits (flat_map names b.left ++ rest)

-- the nodes that are left, and those of the terms that wait
abbrev pub effort : State → ℕ
effort a = sum_by nodes a.left + nodes_kept a.waits

-- ---- words that stand for themselves

-- the words from one place up to another
abbrev pub words_between : List Word → ℕ → ℕ → List Word
words_between ws from to = take (to - from) (drop from ws)

-- The words of a span up to those that a later one leaves stand for themselves: agents, and names that aren't bound.
pub record IsRun (ws : List Word) (es : List (ℕ × ℕ)) (a b : Span) : Type 0 where
  pub left : IsSpan ws b
  pub ahead : a.place ≤ b.place
  pub within : a.place < b.place → b.place ≤ length ws
  pub puts : (done : List Word) (stack : List Span)
      → PutsOn (on_stack ws es done a stack) (on_stack ws es (done ++ words_between ws a.place b.place) b stack)
  pub less : (stack : List Span)
      → sum_by nodes (span_terms ws b ++ stacked ws stack) ≤ sum_by nodes (span_terms ws a ++ stacked ws stack)
