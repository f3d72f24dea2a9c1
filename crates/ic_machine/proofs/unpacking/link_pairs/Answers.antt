use Rattle.std.proofs.Common.{◌≡◌, ◌+◌, ◌*◌, ◌<◌, ℕ, List, [], ◌∷◌, ◌++◌, length, map, drop, slice_index_or, subst, ◌∙◌, refl, arith}
use Rattle.std.proofs.lemmas.List.Sorted.{IsPermutation-refl}
use Rattle.ic_arena.specs.declared.word.Word.{Word}
use Rattle.ic_arena.specs.Word.{name_word}
use Rattle.ic_arena.specs.Piece.{Piece}
use Rattle.ic_arena.specs.Tables.{names_pieces}
use Rattle.ic_machine.specs.declared.equation.Equation.{Equation}
use Rattle.ic_machine.specs.Net.{equated_of}
use Rattle.ic_machine.specs.Steps.{Steps, no_step}
use Rattle.ic_machine.specs.inner.Unpacking.{pairs_on, AreEntered}
use Rattle.ic_machine.proofs.LinkPairs.{entered_first, entered_on, pairs_none, short_rest, two_from}
use Rattle.ic_machine.proofs.Links.{linked_on, pushed_none, pushed_twice}
use Rattle.ic_machine.proofs.unpacking.link_pairs.Goals as goal

pub loop-place-init : goal.loop-place-init
loop-place-init c = record {
  steps = λ p rest.
      let xs : List Piece = map equated_of (pairs_on c.args.stack.now)
      ++ (names_pieces 0 c.args.tables.now.names.entries ++ (map equated_of c.args.tables.now.pending.items ++ rest)) in
      no_step xs xs (IsPermutation-refl xs);
  entered = c.requires.entered;
  pushed = pushed_none c.args.tables.now.pending.items;
  len = omega arith;
  capacity = refl;
  names = refl;
  heaps = refl;
  registers = refl;
  spare = refl;
}

pub link-requires-clause-named : goal.link-requires-clause-named
link-requires-clause-named c =
    let i : ℕ = c.loop-place.place in
    let ws : List Word = c.args.stack.now in
    let d : Word = name_word 0 in
    let lt : 2 * i + 1 < length ws = omega arith in
    entered_first (slice_index_or ws (2 * i) d) (slice_index_or ws (2 * i + 1) d) (drop (2 * (i + 1)) ws) c.loop-place.tables.names.entries
    (subst (λ (l : List Word). AreEntered l c.loop-place.tables.names.entries) (two_from ws i d lt) c.loop-place.invariant.entered)

pub loop-place-preserved : goal.loop-place-preserved
loop-place-preserved c =
    let i : ℕ = c.loop-place.place in
    let ws : List Word = c.args.stack.now in
    let d : Word = name_word 0 in
    let lt : 2 * i + 1 < length ws = omega arith in
    let r : Word = slice_index_or ws (2 * i) d in
    let l : Word = slice_index_or ws (2 * i + 1) d in
    let rest_ws : List Word = drop (2 * (i + 1)) ws in
    let two : drop (2 * i) ws ≡ r ∷ (l ∷ rest_ws) = two_from ws i d lt in
    let e : Equation = record { left = l; right = r } in
    let ns : List Piece = names_pieces 0 c.loop-place.tables.names.entries in
    let ps : List Piece = map equated_of c.loop-place.tables.pending.items in
    record {
      steps = λ p rest.
          let start : List Piece = map equated_of (pairs_on ws)
          ++ (names_pieces 0 c.args.tables.now.names.entries ++ (map equated_of c.args.tables.now.pending.items ++ rest)) in
          linked_on p start (equated_of e) (map equated_of (pairs_on rest_ws)) ns ps
          (names_pieces 0 c.link.new.names.entries) (map equated_of c.link.new.pending.items) rest
          (subst (λ (x : List Word). Steps p [] start (map equated_of (pairs_on x) ++ (ns ++ (ps ++ rest)))) two
          (c.loop-place.invariant.steps p rest))
          (λ others. c.link.ensures.steps p others);
      entered = entered_on r l rest_ws c.loop-place.tables.names.entries c.link.new.names.entries
          c.loop-place.tables.pending.items c.link.new.pending.items (λ p rest. c.link.ensures.steps p rest) c.link.ensures.pushed
          (subst (λ (x : List Word). AreEntered x c.loop-place.tables.names.entries) two c.loop-place.invariant.entered);
      pushed = pushed_twice c.args.tables.now.pending.items c.loop-place.tables.pending.items c.link.new.pending.items
          c.loop-place.invariant.pushed c.link.ensures.pushed;
      len = omega arith;
      capacity = c.link.ensures.capacity ∙ c.loop-place.invariant.capacity;
      names = c.link.ensures.names ∙ c.loop-place.invariant.names;
      heaps = c.loop-place.invariant.heaps;
      registers = c.loop-place.invariant.registers;
      spare = c.loop-place.invariant.spare;
    }

pub returns-clause-steps : goal.returns-clause-steps
returns-clause-steps c = λ p rest.
    let i : ℕ = c.loop-place.place in
    let ws : List Word = c.args.stack.now in
    let tables : List Piece = names_pieces 0 c.loop-place.tables.names.entries
    ++ (map equated_of c.loop-place.tables.pending.items ++ rest) in
    let start : List Piece = map equated_of (pairs_on ws)
    ++ (names_pieces 0 c.args.tables.now.names.entries ++ (map equated_of c.args.tables.now.pending.items ++ rest)) in
    subst (λ (x : List Equation). Steps p [] start (map equated_of x ++ tables))
    (pairs_none (drop (2 * i) ws) (short_rest ws i (omega arith))) (c.loop-place.invariant.steps p rest)
