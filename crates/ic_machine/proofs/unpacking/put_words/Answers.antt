use Rattle.std.proofs.Common.{◌≡◌, ◌+◌, ◌-◌, ◌<◌, ◌≤◌, ℕ, inr, List, [], ◌∷◌, ◌++◌, Err, length, map, drop, reverse, slice_index_or, refl, ap, sym, subst, ◌∙◌, arith}
use Rattle.std.specs.List.{AllByRecursion}
use Rattle.std.proofs.lemmas.List.{drop_all, drop_more, length-reverse}
use Rattle.std.proofs.lemmas.Result.{err_from_is_err_and}
use Rattle.ic_arena.specs.declared.word.Word.{Word}
use Rattle.ic_arena.specs.declared.word.TheConstants.{IDLE}
use Rattle.ic_arena.specs.Word.{name_word}
use Rattle.ic_machine.specs.declared.machine.MachineFault.TheVariants.{Limit}
use Rattle.ic_machine.specs.Moving.{end_word, spells_cut, sides_of, worth, Side, Spells}
use Rattle.ic_machine.specs.Separate.{IsSeparate}
use Rattle.ic_machine.specs.inner.Firing.{arities_of}
use Rattle.ic_machine.specs.inner.Moving.{side_in}
use Rattle.ic_machine.specs.inner.Unpacking.{trees_in, AreKept, IsNext}
use Rattle.ic_machine.specs.lemmas.Spelled.{spells_none}
use Rattle.ic_machine.proofs.Grown.{tables_stay, tables_then}
use Rattle.ic_machine.proofs.Limits.{same_fault}
use Rattle.ic_machine.proofs.Trees.{next_at, spelled_next, spells_count}
use Rattle.ic_machine.proofs.Unpacked.{kept_same, kept_then, separate_kept, spells_one}
use Rattle.ic_machine.proofs.unpacking.put_words.Goals as goal

pub loop-i-init : goal.loop-i-init
loop-i-init c =
    let ws : List Word = c.args.words.now in
    let a : List ℕ = arities_of c.args.tables.now.heaps.items in
    let s : Side = side_in c.args.tables.now c.args.borders.now in
    let none : drop (length ws) ws ≡ [] = drop_all (length ws) ws (omega arith) in
    let empty : c.args.stack.now.items ≡ [] = c.requires.stack in
    record {
      spells = subst (λ (l : List Word). Spells a s s (reverse l) (drop (length ws) ws)) (sym empty)
          (subst (λ (l : List Word). Spells a s s [] l) (sym none) (spells_none a s));
      worth = λ k. ap (λ (l : List Word). worth k c.args.borders.now + spells_cut k l) (sym none);
      kept = subst (λ (l : List Word). AreKept a (map end_word c.args.borders.now.ends) (l ++ map end_word c.args.borders.now.ends) s.places s.places)
          (sym empty) (kept_same a (map end_word c.args.borders.now.ends) s.places);
      words = subst (λ (l : List Word). AllByRecursion (λ w. w.tag < IDLE) l) (sym empty) tt;
      len = subst (λ (l : List Word). length l + length ws ≤ length ws) (sym empty) (omega arith);
      few = c.requires.few;
      arities = refl;
      grow = tables_stay c.args.tables.now;
      pending = refl;
      registers = refl;
      spare = refl;
    }

pub unpack_word-requires-clause-stack : goal.unpack_word-requires-clause-stack
unpack_word-requires-clause-stack c = omega (arith, c.loop-i.invariant.len)

pub unpack_word-requires-clause-next : goal.unpack_word-requires-clause-next
unpack_word-requires-clause-next c =
    let ws : List Word = c.args.words.now in
    let k : ℕ = c.loop-i.i - 1 in
    let a : List ℕ = arities_of c.args.tables.now.heaps.items in
    let lt : k < length ws = omega arith in
    let next : k + 1 ≡ c.loop-i.i = omega arith in
    let trees : length (reverse c.loop-i.stack.items) ≡ trees_in a (drop c.loop-i.i ws) =
    spells_count a (side_in c.loop-i.tables c.loop-i.borders) (side_in c.args.tables.now c.args.borders.now) (reverse c.loop-i.stack.items)
    (drop c.loop-i.i ws) c.loop-i.invariant.spells in
    let many : trees_in a (drop (k + 1) ws) ≡ length c.loop-i.stack.items =
    ap (λ (n : ℕ). trees_in a (drop n ws)) next ∙ (sym trees ∙ length-reverse c.loop-i.stack.items) in
    let spelled = c.requires.spelled in
    let is : IsNext a (trees_in a (drop (k + 1) ws)) (slice_index_or ws k (name_word 0)) =
    next_at a ws k (name_word 0) lt (spelled_next a spelled.full spelled.rest (sides_of spelled.equations) ws spelled.spells) in
    subst (λ (b : List ℕ). IsNext b (length c.loop-i.stack.items) (slice_index_or ws k (name_word 0))) (sym c.loop-i.invariant.arities)
    (subst (λ (n : ℕ). IsNext a n (slice_index_or ws k (name_word 0))) many is)

pub unpack_word-requires-clause-separate : goal.unpack_word-requires-clause-separate
unpack_word-requires-clause-separate c =
    let a : List ℕ = arities_of c.args.tables.now.heaps.items in
    subst (λ (b : List ℕ). IsSeparate b (c.loop-i.stack.items ++ map end_word c.loop-i.borders.ends) (side_in c.loop-i.tables c.loop-i.borders).places)
    (sym c.loop-i.invariant.arities)
    (separate_kept a [] (map end_word c.args.borders.now.ends) (c.loop-i.stack.items ++ map end_word c.loop-i.borders.ends) []
    (side_in c.args.tables.now c.args.borders.now).places (side_in c.loop-i.tables c.loop-i.borders).places c.requires.separate c.loop-i.invariant.kept)

pub loop-i-preserved : goal.loop-i-preserved
loop-i-preserved c =
    let ws : List Word = c.args.words.now in
    let k : ℕ = c.loop-i.i - 1 in
    let a : List ℕ = arities_of c.args.tables.now.heaps.items in
    let b : List ℕ = arities_of c.loop-i.tables.heaps.items in
    let w : Word = slice_index_or ws k (name_word 0) in
    let lt : k < length ws = omega arith in
    let next : k + 1 ≡ c.loop-i.i = omega arith in
    let same : b ≡ a = c.loop-i.invariant.arities in
    let more : drop k ws ≡ w ∷ drop c.loop-i.i ws = drop_more ws k (name_word 0) lt ∙ ap (λ (n : ℕ). w ∷ drop n ws) next in
    let from : Side = side_in c.args.tables.now c.args.borders.now in
    let mid : Side = side_in c.loop-i.tables c.loop-i.borders in
    let to : Side = side_in c.unpack_word.new.tables c.unpack_word.new.borders in
    let ends : List Word = map end_word c.args.borders.now.ends in
    let before : Spells b mid from (reverse c.loop-i.stack.items) (drop c.loop-i.i ws) =
    subst (λ (x : List ℕ). Spells x mid from (reverse c.loop-i.stack.items) (drop c.loop-i.i ws)) (sym same) c.loop-i.invariant.spells in
    let after : Spells b to from (reverse c.unpack_word.new.stack.items) (w ∷ drop c.loop-i.i ws) =
    c.in_ok-unpack_word.ensures.spells from (drop c.loop-i.i ws) before in
    record {
      spells = subst (λ (l : List Word). Spells a to from (reverse c.unpack_word.new.stack.items) l) (sym more)
          (subst (λ (x : List ℕ). Spells x to from (reverse c.unpack_word.new.stack.items) (w ∷ drop c.loop-i.i ws)) same after);
      worth = λ n.
          let one = c.in_ok-unpack_word.ensures.worth n in
          let old = c.loop-i.invariant.worth n in
          let parts = spells_one n w (drop c.loop-i.i ws) in
          let list : spells_cut n (drop k ws) ≡ spells_cut n (w ∷ drop c.loop-i.i ws) = ap (spells_cut n) more in
          omega (arith, one, old, parts, list);
      kept = kept_then a ends (c.loop-i.stack.items ++ map end_word c.loop-i.borders.ends)
          (c.unpack_word.new.stack.items ++ map end_word c.unpack_word.new.borders.ends) from.places mid.places to.places c.loop-i.invariant.kept
          (subst (λ (x : List ℕ). AreKept x (c.loop-i.stack.items ++ map end_word c.loop-i.borders.ends)
          (c.unpack_word.new.stack.items ++ map end_word c.unpack_word.new.borders.ends) mid.places to.places) same c.unpack_word.ensures.kept);
      words = c.unpack_word.ensures.words;
      len = (let one = c.unpack_word.ensures.len in let old = c.loop-i.invariant.len in omega (arith, one, old));
      few = c.unpack_word.ensures.few;
      arities = c.unpack_word.ensures.arities ∙ same;
      grow = tables_then c.args.tables.now c.loop-i.tables c.unpack_word.new.tables c.loop-i.invariant.grow c.in_ok-unpack_word.ensures.grow;
      pending = c.unpack_word.ensures.same.0 ∙ c.loop-i.invariant.pending;
      registers = c.unpack_word.ensures.same.1 ∙ c.loop-i.invariant.registers;
      spare = c.unpack_word.ensures.same.2 ∙ c.loop-i.invariant.spare;
    }

pub returns-in_err-unpack_word-clause-kept : goal.returns-in_err-unpack_word-clause-kept
returns-in_err-unpack_word-clause-kept c =
    let a : List ℕ = arities_of c.args.tables.now.heaps.items in
    kept_then a (map end_word c.args.borders.now.ends) (c.loop-i.stack.items ++ map end_word c.loop-i.borders.ends)
    (c.unpack_word.new.stack.items ++ map end_word c.unpack_word.new.borders.ends) (side_in c.args.tables.now c.args.borders.now).places
    (side_in c.loop-i.tables c.loop-i.borders).places (side_in c.unpack_word.new.tables c.unpack_word.new.borders).places c.loop-i.invariant.kept
    (subst (λ (x : List ℕ). AreKept x (c.loop-i.stack.items ++ map end_word c.loop-i.borders.ends)
    (c.unpack_word.new.stack.items ++ map end_word c.unpack_word.new.borders.ends) (side_in c.loop-i.tables c.loop-i.borders).places
    (side_in c.unpack_word.new.tables c.unpack_word.new.borders).places) c.loop-i.invariant.arities c.unpack_word.ensures.kept)

pub returns-in_err-unpack_word-clause-limit : goal.returns-in_err-unpack_word-clause-limit
returns-in_err-unpack_word-clause-limit c = λ e.
    let given = err_from_is_err_and c.from_residual.result c.from_residual.ensures.1 in
    inr (c.in_err-unpack_word.ensures.limit
    (ap Err (same_fault c.from_residual.result given.0 c.in_err-unpack_word.field-0.0 Limit given.1 given.2 e)))
