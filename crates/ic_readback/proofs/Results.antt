-- Lemmas: what a reader of a machine's parts has read in the end, and a writer has written.
use Rattle.std.proofs.Common.{◌≡◌, ℕ, ◌+◌, ◌*◌, ◌≤◌, List, [], ◌++◌, length, map, take, drop, sym, ap, ◌∙◌, arith, append-nil, subst as transport}
use Rattle.std.specs.List.{flat_map, AllByRecursion}
use Rattle.std.proofs.lemmas.List.{length-append, length-drop, take-append-le, drop-append-le}
use Rattle.ic_term.specs.Tree.{Tree}
use Rattle.ic_term.specs.Configuration.{Configuration}
use Rattle.ic_round.specs.Naming.{HasNames}
use Rattle.ic_reaching.specs.OneNet.{OneNet}
use Rattle.ic_arena.specs.declared.word.Word.{Word}
use Rattle.ic_arena.specs.Piece.{Piece}
use Rattle.ic_machine.specs.declared.equation.Equation.{Equation}
use Rattle.ic_machine.specs.Held.{Held}
use Rattle.ic_machine.specs.Net.{Net, pieces}
use Rattle.ic_flat.specs.Words.{forest, IsWhole}
use Rattle.ic_flat.specs.Flat.{pairs_of}
use Rattle.ic_meaning.specs.Words.{Numbers, AreNumbers}
use Rattle.ic_meaning.specs.Nets.{net_of, AreNetPieces}
use Rattle.ic_readback.specs.declared.loose.Loose.{Loose}
use Rattle.ic_readback.specs.declared.token.Token.{Token}
use Rattle.ic_readback.specs.declared.reader.Reader.{Reader}
use Rattle.ic_readback.specs.declared.writer.Writer.{Writer}
use Rattle.ic_readback.specs.Reading.{flat_words, configuration_read, sides_of, AreGiven}
use Rattle.ic_readback.specs.inner.Expanding.{state, Steps, IsIdle}
use Rattle.ic_readback.specs.inner.Reading.{at_words, HasRead, Gathers, HoldOnce}
use Rattle.ic_readback.specs.inner.Writing.{Part, part_of, Gathered, Mended}
use Rattle.ic_readback.specs.inner.Mending.{WritesLoose}
use Rattle.ic_readback.specs.inner.Parted.{IsParted, ReadsNet}
use Rattle.ic_readback.specs.lemmas.Given.{NetLaws}
use Rattle.ic_readback.specs.lemmas.Rows.{over, WholeOver, over-nil, whole-nil, pairs-more}
use Rattle.ic_readback.specs.lemmas.RowNets.{to_configured}
use Rattle.ic_readback.proofs.Words.{whole_steps}
use Rattle.ic_readback.proofs.Ends.{WasRead, first_state, first_row, read_net, once_places}
use Rattle.ic_readback.proofs.Parts.{left_of, gathered_terms, gathered_unwritten}
use Rattle.ic_readback.proofs.Puttings.{equations_in}
use Rattle.ic_readback.proofs.Shapes.{IsTerm, mended_terms, row_parts, sides_in, sides_length, sides_pairs, open_equations, open_pairs}
use Rattle.ic_readback.proofs.Readers.{read_once}
use Rattle.ic_readback.proofs.MendNets.{net_left, mended_net}

-- `mid` has read the words, `two` has its tokens taken out, and `last` has read what was left
pub reads_net : (m : Net) (is : List Word) (es fs : List Equation) (old mid two last : Reader) (before after : List Loose) (new : Writer) → IsParted m is es fs old.places → old.tokens.items ≡ [] → old.equations ≡ 0
    → HasRead (is ++ (sides_of es ++ sides_of fs)) old mid → mid.equations ≡ old.equations + (length es + length fs) → two.places ≡ mid.places → two.equations ≡ mid.equations
    → before ≡ [] → Gathers two last before after → (HoldOnce two.places.pieces → AllByRecursion IsIdle last.places.pieces)
    → WritesLoose (map part_of after) mid.tokens.items last.equations new → ReadsNet m.arities m new.tokens.items new.equations
reads_net m is es fs old mid two last before after new parted blank zero read counted places equations none gathers idle written =
    let a = written.counted in
    let b = gathers.equations in
    let d = zero in
    let e = ap length parted.pending_is in
    let f = ap length parted.aside_is in
    let start : at_words (is ++ (sides_of es ++ sides_of fs)) old ≡ state [] (m.interface ++ (sides_of m.pending ++ sides_of m.aside)) m.places =
    (λ i. state (blank i) (parted.interface_is i ++ (sides_of (parted.pending_is i) ++ sides_of (parted.aside_is i))) (parted.pieces i)) in
    let same : two.places.arities ≡ m.arities = ap (λ (h : Held). h.arities) places ∙ (read.arities ∙ parted.arities) in
    let parts : map part_of after ≡ gathers.parts = gathers.added ∙ ap (λ ls. map part_of ls ++ gathers.parts) none in
    record {
      roots = mid.tokens.items;
      between = two.places.pieces;
      end = last.places.pieces;
      parts = gathers.parts;
      done = written.done;
      steps = transport (λ (h : Held). Steps m.arities (first_state m.interface m.pending m.aside m.places) (state mid.tokens.items [] h.pieces)) (sym places)
          (transport (λ s. Steps m.arities s (at_words [] mid)) start
          (transport (λ l. Steps l (at_words (is ++ (sides_of es ++ sides_of fs)) old) (at_words [] mid)) parted.arities read.steps));
      gathered = transport (λ l. Gathered l gathers.parts two.places.pieces last.places.pieces) same gathers.gathered;
      mended = transport (λ ps. Mended ps [] written.done) parts written.mended;
      tokens = written.tokens;
      counted = omega arith;
      idle = λ once. idle (held once);
      fewer = held;
    }
  where
    held : HoldOnce m.places → HoldOnce two.places.pieces
    held once =
        transport (λ (h : Held). HoldOnce h.pieces) (sym places)
        (read_once (is ++ (sides_of es ++ sides_of fs)) old mid read (transport HoldOnce (sym parted.pieces) once))

-- ---- the terms

pub record Rows (n : Numbers) (m : Net) (roots : List Token) : Type 0 where
  pub whole : WholeOver (flat_words n roots) []
  pub even : length (over (flat_words n roots) []) ≡ length m.interface + 2 * (length m.pending + length m.aside)

pub rows_read : (n : Numbers) (m : Net) (roots : List Token) (between : List Piece) → Steps n.arities (first_state m.interface m.pending m.aside m.places) (state roots [] between) → Rows n m roots
rows_read n m roots between steps =
    let first = first_row n m.interface m.pending m.aside m.places in
    let kept = whole_steps n (first_state m.interface m.pending m.aside m.places) (state roots [] between) steps first.whole in
    record { whole = kept.0; even = kept.1 ∙ first.even }

pub with_arities : (m : Net) (ts : List Token) (k : ℕ) (n : Numbers) → n.arities ≡ m.arities → ReadsNet m.arities m ts k → ReadsNet n.arities m ts k
with_arities m ts k n same r = transport (λ a. ReadsNet a m ts k) (sym same) r

pub result_whole : (m : Net) (ts : List Token) (k : ℕ) → ReadsNet m.arities m ts k → (n : Numbers) → n.arities ≡ m.arities → IsWhole (flat_words n ts)
result_whole m ts k reads n same =
    let r = with_arities m ts k n same reads in
    let rows = rows_read n m r.roots r.between r.steps in
    let terms = mended_terms n r.parts [] r.done r.mended (gathered_terms n r.parts r.between r.end r.gathered) in
    transport (λ l. IsWhole (flat_words n l)) (sym r.tokens) (whole-nil (flat_words n (r.roots ++ equations_in r.done)) (row_parts n r.roots r.done terms.1 rows.whole).0)

pub result_counted : (m : Net) (ts : List Token) (k : ℕ) → ReadsNet m.arities m ts k → (n : Numbers) → n.arities ≡ m.arities
    → length (forest (flat_words n ts)) ≡ length m.interface + 2 * k
result_counted m ts k reads n same =
    let r = with_arities m ts k n same reads in
    let rows = rows_read n m r.roots r.between r.steps in
    let terms = mended_terms n r.parts [] r.done r.mended (gathered_terms n r.parts r.between r.end r.gathered) in
    let all = row_parts n r.roots r.done terms.1 rows.whole in
    let sides = sides_length n r.done terms.1 in
    let long = ap length all.1 ∙ length-append (over (flat_words n r.roots) []) (flat_map (sides_in n) r.done) in
    let words = ap length (over-nil (flat_words n (r.roots ++ equations_in r.done))) in
    let tokens = ap (λ l. length (forest (flat_words n l))) r.tokens in
    let even = rows.even in
    let counted = r.counted in
    omega (arith, sides, long, words, tokens, even, counted)

-- the configuration of rows, and of equations after them
pub record Shape (n : Numbers) (m : Net) (roots : List Token) (parts : List Part) : Type 0 where
  pub interface : take (length m.interface) (forest (flat_words n (roots ++ equations_in parts))) ≡ take (length m.interface) (over (flat_words n roots) [])
  pub equations : pairs_of (drop (length m.interface) (forest (flat_words n (roots ++ equations_in parts))))
      ≡ pairs_of (drop (length m.interface) (over (flat_words n roots) [])) ++ flat_map (λ p. pairs_of (sides_in n p)) parts
  pub first : length (drop (length m.interface) (over (flat_words n roots) [])) ≡ 2 * (length m.pending + length m.aside)

pub shape_of : (n : Numbers) (m : Net) (roots : List Token) (parts : List Part) → Rows n m roots → AllByRecursion (λ p. IsTerm n p.tokens) parts → Shape n m roots parts
shape_of n m roots parts rows all =
    let terms : ℕ = length m.interface in
    let k : ℕ = length m.pending + length m.aside in
    let A : List Tree = over (flat_words n roots) [] in
    let B : List Tree = flat_map (sides_in n) parts in
    let row = row_parts n roots parts all rows.whole in
    let is : forest (flat_words n (roots ++ equations_in parts)) ≡ A ++ B = sym (over-nil (flat_words n (roots ++ equations_in parts))) ∙ row.1 in
    let even = rows.even in
    let long : terms ≤ length A = omega arith in
    let first : length (drop terms A) ≡ 2 * k = omega (arith, length-drop terms A) in
    record {
      interface = ap (take terms) is ∙ take-append-le terms A B long;
      equations = ap (λ l. pairs_of (drop terms l)) is ∙ (ap pairs_of (drop-append-le terms A B long)
          ∙ (pairs-more (drop terms A) B k first ∙ ap (λ l. pairs_of (drop terms A) ++ l) (sides_pairs n parts all)));
      first = first;
    }

-- ---- the net

pub result_net : NetLaws → (m : Net) (ts : List Token) (k : ℕ) → ReadsNet m.arities m ts k → (n : Numbers) → n.arities ≡ m.arities → AreNumbers n
    → AreNetPieces n.arities m.interface (pieces m) → AreGiven n.given m.interface (pieces m) → HasNames (net_of n m.interface (pieces m))
    → OneNet (net_of n m.interface (pieces m)) (configuration_read n ts (length m.interface))
result_net laws m ts k reads n same sound are given has =
    let r = with_arities m ts k n same reads in
    let terms : ℕ = length m.interface in
    let K : ℕ = length m.pending + length m.aside in
    let rows = rows_read n m r.roots r.between r.steps in
    let all = gathered_terms n r.parts r.between r.end r.gathered in
    let done = (mended_terms n r.parts [] r.done r.mended all).1 in
    let T : List Token = r.roots ++ equations_in r.parts in
    let U : List Token = r.roots ++ equations_in r.done in
    let c : Configuration = net_of n m.interface (pieces m) in
    let d : Configuration = configuration_read n T terms in
    let read : WasRead n.arities m.interface m.pending m.aside m.places T (length r.parts) = record {
      tokens = r.roots;
      between = r.between;
      end = r.end;
      steps = r.steps;
      left = left_of n.arities r.roots r.parts r.between r.end r.gathered;
    } in
    let one : OneNet c d = read_net laws n m.interface m.pending m.aside m.places T (length r.parts) sound.few read (r.idle (once_places m.pending m.aside m.places are.once)) given has in
    let shape = shape_of n m r.roots r.parts rows all in
    let es : pairs_of (drop terms (forest (flat_words n T))) ≡ pairs_of (drop terms (over (flat_words n r.roots) [])) ++ flat_map (open_equations n) r.parts =
    shape.equations ∙ ap (λ l. pairs_of (drop terms (over (flat_words n r.roots) [])) ++ l) (open_pairs n r.parts (gathered_unwritten n.arities r.parts r.between r.end r.gathered)) in
    let d_is : d ≡ net_left n terms r.roots r.parts d.next = (λ i. record { interface = shape.interface i; equations = es i; next = d.next }) in
    let named : HasNames (net_left n terms r.roots r.parts d.next) = transport HasNames d_is one.names_too in
    let two = mended_net laws n terms K d.next r.roots r.parts [] r.done r.mended all rows.whole rows.even named in
    let both : OneNet c (net_left n terms U [] d.next) =
    laws.through c (net_left n terms r.roots r.parts d.next) (net_left n terms U [] d.next) (transport (OneNet c) d_is one) two in
    let F : List Tree = forest (flat_words n U) in
    let e : Configuration = record { interface = take terms F; equations = pairs_of (drop terms F); next = d.next } in
    let words = over-nil (flat_words n U) in
    let last : pairs_of (drop terms (over (flat_words n U) [])) ++ [] ≡ pairs_of (drop terms F) =
    append-nil (pairs_of (drop terms (over (flat_words n U) []))) ∙ ap (λ l. pairs_of (drop terms l)) words in
    let e_is : net_left n terms U [] d.next ≡ e = (λ i. record { interface = take terms (words i); equations = last i; next = d.next }) in
    transport (λ l. OneNet c (configuration_read n l terms)) (sym r.tokens) (to_configured laws c e (transport (OneNet c) e_is both))
