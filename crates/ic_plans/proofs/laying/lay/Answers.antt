use Rattle.std.proofs.Common.{◌≡◌, ◌+◌, ◌-◌, ◌^◌, ◌<◌, ◌≤◌, ◌∷◌, [], ℕ, List, map, length, reverse, take, drop, get_or, refl, subst, sym, ap, ◌∙◌, arith}
use Rattle.std.proofs.lemmas.List.{drop_more, length-append, length-map}
use Rattle.std.specs.List.{flat_map, AllByRecursion}
use Rattle.ic_flat.specs.declared.word.Word.{Word}
use Rattle.ic_flat.specs.declared.word.Word.TheVariants.{Name}
use Rattle.ic_flat.specs.Words.{arguments, forest, word_names, IsWhole}
use Rattle.ic_flat.specs.lemmas.WordLaws.{whole-drop, length-forest}
use Rattle.ic_plans.specs.inner.Flattening.{IsRead}
use Rattle.ic_plans.specs.inner.Laying.{AreLaid, IsKnown}
use Rattle.ic_plans.proofs.LayLemmas.{known_of, laid_filled, read_from}
use Rattle.ic_plans.proofs.RoomLemmas.{names-until, read-here, room-now}
use Rattle.ic_plans.proofs.laying.lay.Goals as goal

pub put_word-requires-clause-there : goal.put_word-requires-clause-there
put_word-requires-clause-there c =
    let ws = c.args.words.now in
    let i = c.loop-i.i - 1 in
    let within : i < length ws = omega arith in
    let there = subst (λ l. IsWhole l) (drop_more ws i (Name 0) within) (whole-drop i ws c.requires.whole) in
    let next : i + 1 ≡ c.loop-i.i = omega arith in
    let enough : arguments (get_or ws i (Name 0)) ≤ length (forest (drop c.loop-i.i ws)) = rw next at there.0 in
    omega (arith, c.loop-i.invariant.count)

pub put_word-requires-clause-known : goal.put_word-requires-clause-known
put_word-requires-clause-known c =
    let ws : List Word = c.args.words.now in
    let i = c.loop-i.i - 1 in
    let can = c.requires.can in
    let laid = c.loop-i.invariant.laid can in
    let arities : List ℕ = c.args.builder.now.arities in
    let first : ℕ = length arities + can.given + can.names in
    let word : Word = get_or ws i (Name 0) in
    let within : i < length ws = omega arith in
    let read = subst (AllByRecursion (IsRead arities can.registers first)) (drop_more ws i (Name 0) within) (read_from arities can.registers first i ws can.read) in
    subst (λ (a : List ℕ). IsKnown a word) (sym laid.arities_are) (known_of arities can.registers first word read.0)

pub put_word-requires-clause-filled : goal.put_word-requires-clause-filled
put_word-requires-clause-filled c =
    let ws : List Word = c.args.words.now in
    let can = c.requires.can in
    let arities : List ℕ = c.args.builder.now.arities in
    let first : ℕ = length arities + can.given + can.names in
    laid_filled arities can.registers can.given can.names (drop c.loop-i.i ws) c.loop-i.builder (reverse c.loop-i.operands.items) [] (Name 0)
    (c.loop-i.invariant.laid can) (read_from arities can.registers first c.loop-i.i ws can.read)

pub put_word-requires-clause-few : goal.put_word-requires-clause-few
put_word-requires-clause-few c =
    let ws = c.args.words.now in
    let i = c.loop-i.i - 1 in
    let within : i < length ws = omega arith in
    let next : i + 1 ≡ c.loop-i.i = omega arith in
    let few : length c.loop-i.builder.registers + (i + 1) + length (flat_map word_names (drop (i + 1) ws))
    ≤ length c.args.builder.now.registers + length ws = rw next c.loop-i.invariant.few in
    room-now ws i (length c.loop-i.builder.registers) (length c.args.builder.now.registers) (2 ^ 32 - 1) (Name 0) within few c.requires.room

pub overflow_sub-left : goal.overflow_sub-left
overflow_sub-left c =
    let ws = c.args.words.now in
    let i = c.loop-i.i - 1 in
    let within : i < length ws = omega arith in
    let next : i + 1 ≡ c.loop-i.i = omega arith in
    let until = ap (λ n. length (flat_map word_names (take n ws))) (sym next) ∙ names-until ws i (Name 0) within in
    omega (arith, c.loop-i.invariant.left, c.names_in-left.ensures, until)

pub loop-i-preserved : goal.loop-i-preserved
loop-i-preserved c =
    let ws = c.args.words.now in
    let i = c.loop-i.i - 1 in
    let word = get_or ws i (Name 0) in
    let within : i < length ws = omega arith in
    let next : i + 1 ≡ c.loop-i.i = omega arith in
    let split : drop i ws ≡ word ∷ drop c.loop-i.i ws = drop_more ws i (Name 0) within ∙ ap (λ n. word ∷ drop n ws) next in
    let there = subst (λ l. IsWhole l) split (whole-drop i ws c.requires.whole) in
    let counted = length-forest word (drop c.loop-i.i ws) there.0 in
    let same = ap (λ l. length (forest l)) split in
    let here : length (flat_map word_names (drop i ws)) ≡ length (word_names word) + length (flat_map word_names (drop c.loop-i.i ws)) =
    ap (λ l. length (flat_map word_names l)) split ∙ length-append (word_names word) (flat_map word_names (drop c.loop-i.i ws)) in
    let until : length (flat_map word_names (take c.loop-i.i ws)) ≡ length (flat_map word_names (take i ws)) + length (word_names word) = ap (λ n. length (flat_map word_names (take n ws))) (sym next) ∙ names-until ws i (Name 0) within in
    record {
      count = omega (arith, counted, same, c.loop-i.invariant.count, c.in_ok-put_word.ensures.count);
      few = omega (arith, c.loop-i.invariant.few, c.in_ok-put_word.ensures.few, here);
      left = omega (arith, c.loop-i.invariant.left, c.names_in-left.ensures, until);
      laid = λ can.
          let arities : List ℕ = c.args.builder.now.arities in
          let read = read-here can.registers ws i c.args.reads.now (c.loop-i.left - c.names_in-left.result) (Name 0) within can.reads_are (omega (arith, c.loop-i.invariant.left, c.names_in-left.ensures, until)) in
          subst (λ l. AreLaid arities can.registers can.given can.names l c.put_word.new.builder (reverse c.put_word.new.operands.items))
          (sym split) (c.in_ok-put_word.ensures.laid arities can.registers can.given can.names (drop c.loop-i.i ws)
          (subst (λ k. AllByRecursion (λ x. can.registers x ≡ k) (word_names word)) (sym c.register_at-read.ensures) read) (c.loop-i.invariant.laid can));
    }

pub returns-clause-laid : goal.returns-clause-laid
returns-clause-laid c = λ can.
    let ws = c.args.words.now in
    let arities : List ℕ = c.args.builder.now.arities in
    let none : c.loop-i.i ≡ 0 = omega (arith, c.loop-i-test.false) in
    subst (λ l. AreLaid arities can.registers can.given can.names ws c.loop-i.builder l) (sym c.reverse.ensures.items)
    (subst (λ k. AreLaid arities can.registers can.given can.names (drop k ws) c.loop-i.builder (reverse c.loop-i.operands.items)) none
    (c.loop-i.invariant.laid can))
