use Rattle.std.proofs.Common.{◌≡◌, ◌+◌, ◌-◌, ◌^◌, ◌<◌, ◌≤◌, ◌∷◌, map, length, reverse, take, drop, get_or, subst, sym, ap, ◌∙◌, arith}
use Rattle.std.proofs.lemmas.List.{drop_more, length-append}
use Rattle.std.specs.List.{flat_map, AllByRecursion}
use Rattle.ic_flat.specs.declared.word.Word.TheVariants.{Name}
use Rattle.ic_flat.specs.Words.{arguments, forest, word_names, IsWhole}
use Rattle.ic_flat.specs.lemmas.WordLaws.{whole-drop, length-forest}
use Rattle.ic_machine.specs.Plan.{made_of}
use Rattle.ic_plans.specs.inner.Flattening.{WouldBeFlat}
use Rattle.ic_plans.proofs.RoomLemmas.{names-until, read-here, room-here}
use Rattle.ic_plans.proofs.flattening.flatten.Goals as goal

pub put_word-requires-clause-there : goal.put_word-requires-clause-there
put_word-requires-clause-there c =
    let ws = c.args.words.now in
    let i = c.loop-i.i - 1 in
    let within : i < length ws = omega arith in
    let there = subst (λ l. IsWhole l) (drop_more ws i (Name 0) within) (whole-drop i ws c.requires.whole) in
    let next : i + 1 ≡ c.loop-i.i = omega arith in
    let enough : arguments (get_or ws i (Name 0)) ≤ length (forest (drop c.loop-i.i ws)) = rw next at there.0 in
    omega (arith, c.loop-i.invariant.count)

pub put_word-requires-clause-room : goal.put_word-requires-clause-room
put_word-requires-clause-room c =
    let ws = c.args.words.now in
    let i = c.loop-i.i - 1 in
    let within : i < length ws = omega arith in
    let next : i + 1 ≡ c.loop-i.i = omega arith in
    let few : length c.loop-i.makes.items + (i + 1) + length (flat_map word_names (drop (i + 1) ws)) ≤ length ws = rw next c.loop-i.invariant.few in
    room-here ws i (length c.loop-i.makes.items) c.args.first (2 ^ 32 - 1) (Name 0) within few c.requires.room

pub overflow_sub-left : goal.overflow_sub-left
overflow_sub-left c =
    let ws = c.args.words.now in
    let i = c.loop-i.i - 1 in
    let within : i < length ws = omega arith in
    let next : i + 1 ≡ c.loop-i.i = omega arith in
    let until = ap (λ n. length (flat_map word_names (take n ws))) (sym next) ∙ names-until ws i (Name 0) within in
    omega (arith, c.loop-i.invariant.left, c.names_in-left.ensures, until)

pub loop-i-preserved : goal.loop-i-preserved
loop-i-preserved c =
    let ws = c.args.words.now in
    let i = c.loop-i.i - 1 in
    let word = get_or ws i (Name 0) in
    let within : i < length ws = omega arith in
    let next : i + 1 ≡ c.loop-i.i = omega arith in
    let split : drop i ws ≡ word ∷ drop c.loop-i.i ws = drop_more ws i (Name 0) within ∙ ap (λ n. word ∷ drop n ws) next in
    let there = subst (λ l. IsWhole l) split (whole-drop i ws c.requires.whole) in
    let counted = length-forest word (drop c.loop-i.i ws) there.0 in
    let same = ap (λ l. length (forest l)) split in
    let here : length (flat_map word_names (drop i ws)) ≡ length (word_names word) + length (flat_map word_names (drop c.loop-i.i ws)) =
    ap (λ l. length (flat_map word_names l)) split ∙ length-append (word_names word) (flat_map word_names (drop c.loop-i.i ws)) in
    let until : length (flat_map word_names (take c.loop-i.i ws)) ≡ length (flat_map word_names (take i ws)) + length (word_names word) = ap (λ n. length (flat_map word_names (take n ws))) (sym next) ∙ names-until ws i (Name 0) within in
    record {
      count = omega (arith, counted, same, c.loop-i.invariant.count, c.in_ok-put_word.ensures.count);
      few = omega (arith, c.loop-i.invariant.few, c.in_ok-put_word.ensures.few, here);
      left = omega (arith, c.loop-i.invariant.left, c.names_in-left.ensures, until);
      flat = λ arities registers reads.
          let read = read-here registers ws i c.args.reads.now (c.loop-i.left - c.names_in-left.result) (Name 0) within reads (omega (arith, c.loop-i.invariant.left, c.names_in-left.ensures, until)) in
          subst (λ l. WouldBeFlat arities registers c.args.first l (map made_of c.put_word.new.makes.items) (reverse c.put_word.new.operands.items))
          (sym split) (c.in_ok-put_word.ensures.flat arities registers (drop c.loop-i.i ws)
          (subst (λ k. AllByRecursion (λ x. registers x ≡ k) (word_names word)) (sym c.register_at-read.ensures) read) (c.loop-i.invariant.flat arities registers reads));
    }

pub returns-clause-flat : goal.returns-clause-flat
returns-clause-flat c = λ arities registers reads.
    let ws = c.args.words.now in
    let none : c.loop-i.i ≡ 0 = omega (arith, c.loop-i-test.false) in
    subst (λ l. WouldBeFlat arities registers c.args.first ws (map made_of c.loop-i.makes.items) l) (sym c.reverse.ensures.items)
    (subst (λ k. WouldBeFlat arities registers c.args.first (drop k ws) (map made_of c.loop-i.makes.items) (reverse c.loop-i.operands.items)) none
    (c.loop-i.invariant.flat arities registers reads))
