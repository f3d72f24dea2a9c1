-- For private functions: how words are found in tokens that are scanned from their end.
use Rattle.std.specs.Prelude.{ℕ, ◌+◌, List, [], ◌∷◌, Option, None, Some, map, reverse, drop, if◌then◌else◌}
use Rattle.ic_term.specs.Symbol.{Symbol}
use Rattle.ic_text.specs.declared.token.Mark.{Mark}
use Rattle.ic_text.specs.declared.token.Mark.TheVariants.{Bar, Comma, Open, Close}
use Rattle.ic_text.specs.declared.prefix.Node.{Node}
use Rattle.ic_text.specs.declared.prefix.Head.{Head}
use Rattle.ic_text.specs.declared.prefix.Scan.{Scan}
use Rattle.ic_text.specs.Token.{Token, mark, word, is_word_byte}

-- What is known of tokens that were scanned from their end: the words, the arguments so far of each
-- list that is open, those of the list that just opened, and the terms outside all parentheses
-- before a `|`.
pub record Scanned : Type 0 where
  pub nodes : List Symbol
  pub counts : List ℕ
  pub arity : ℕ
  pub terms : ℕ

abbrev pub head_or_zero : List ℕ → ℕ
head_or_zero [] = 0
head_or_zero (n ∷ ns) = n

abbrev pub tail_of : List ℕ → List ℕ
tail_of [] = []
tail_of (n ∷ ns) = ns

-- one more argument
abbrev pub one_more : List ℕ → List ℕ
one_more [] = []
one_more (n ∷ ns) = (n + 1) ∷ ns

-- one more term, outside all parentheses
abbrev pub term_more : List ℕ → ℕ → ℕ
term_more [] terms = terms + 1
term_more (n ∷ ns) terms = terms

abbrev pub mark_scan : Mark → Scanned → Scanned
mark_scan Open s = record {
  nodes = s.nodes;
  counts = tail_of s.counts;
  arity = head_or_zero s.counts;
  terms = s.terms;
}
mark_scan Close s = record { nodes = s.nodes; counts = 1 ∷ s.counts; arity = 0; terms = s.terms }
mark_scan Comma s =
    record { nodes = s.nodes; counts = one_more s.counts; arity = 0; terms = s.terms }
mark_scan Bar s = record { nodes = s.nodes; counts = s.counts; arity = 0; terms = 0 }
mark_scan m s = record { nodes = s.nodes; counts = s.counts; arity = 0; terms = s.terms }

abbrev pub scan_step : Token → Scanned → Scanned
scan_step (word text) s = record {
  nodes = record { text = text; arity = s.arity } ∷ s.nodes;
  counts = s.counts;
  arity = 0;
  terms = term_more s.counts s.terms;
}
scan_step (mark m) s = mark_scan m s

-- the word that a run of word bytes makes, if it has a byte
abbrev pub scan_run : List ℕ → Scanned → Scanned
scan_run [] s = s
scan_run (b ∷ bs) s = scan_step (word (b ∷ bs)) s

abbrev pub scan : List Token → Scanned
scan [] = record { nodes = []; counts = []; arity = 0; terms = 0 }
scan (t ∷ ts) = scan_step t (scan ts)

-- the mark of a byte, if it is one
abbrev pub scan_at : Option Mark → Scanned → Scanned
scan_at None s = s
scan_at (Some m) s = mark_scan m s

-- a word without where it lies in memory
abbrev pub node_of : Node → Symbol
node_of n = record { text = n.text.now; arity = n.arity }

abbrev pub nodes_of : List Node → List Symbol
nodes_of ns = map node_of ns

-- the word bytes that a text begins with
abbrev pub first_run : List ℕ → List ℕ
first_run [] = []
first_run (b ∷ bs) = if is_word_byte b then b ∷ first_run bs else []

-- the word of a text that begins at a place
abbrev pub head_word : List ℕ → Head → Symbol
head_word text h = record { text = first_run (drop h.start text); arity = h.arity }

abbrev pub head_words : List ℕ → List Head → List Symbol
head_words text hs = map (head_word text) hs

-- the reader's scan of a text, which keeps its lists from the end
abbrev pub scanned : List ℕ → Scan → Scanned
scanned text s = record {
  nodes = reverse (head_words text s.heads.items);
  counts = reverse s.counts.items;
  arity = s.arity;
  terms = s.terms;
}
