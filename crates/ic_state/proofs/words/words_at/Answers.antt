use Rattle.std.proofs.Common.{◌≡◌, ℕ, ◌+◌, ◌*◌, ◌<◌, [], ◌∷◌, ◌++◌, ◌∙◌, length, ap, arith}
use Rattle.std.proofs.lemmas.List.{length-append}
use Rattle.std.proofs.lemmas.Result.{err_from_is_err_and}
use Rattle.std.specs.List.{flat_map}
use Rattle.ic_state.specs.Words.{number_bytes, width, word_bytes, IsKeptWord}
use Rattle.ic_state.proofs.ListLemmas.{read_more, all_push, length-spelled}
use Rattle.ic_state.proofs.WordLemmas.{length-word_bytes, too_few}
use Rattle.ic_state.proofs.words.words_at.Goals as goal

pub returns-in_err-number-clause-refused : goal.returns-in_err-number-clause-refused
returns-in_err-number-clause-refused c =
    let e = err_from_is_err_and c.from_residual-in_err-number.result c.from_residual-in_err-number.ensures.1 in
    let narrow = c.args.narrow in
    let spell = word_bytes narrow in
    let read = c.loop.words.items in
    let long : length c.args.bytes.now ≡ width narrow * length read + length c.loop.rest.now =
    omega (arith, ap length c.loop.invariant.read, length-append (flat_map spell read) c.loop.rest.now, length-spelled spell (width narrow) (length-word_bytes narrow) read) in
    let more : length read < c.args.count = omega (arith, c.loop-test.true, c.loop.invariant.count) in
    rw (e.1, e.2) (λ same. too_few narrow (length read) (length c.loop.rest.now) (length c.args.bytes.now) c.args.count more c.in_err-number.ensures.refused.1 long)

pub loop-preserved : goal.loop-preserved
loop-preserved c = record {
  count = omega (arith, ap length c.in_ok-push.ensures.items, length-append c.loop.words.items (c.word_of.result ∷ []), c.loop.invariant.count);
  read = read_more (word_bytes c.args.narrow) c.loop.words.items c.push.new.self.items c.word_of.result c.args.bytes.now c.loop.rest.now c.in_ok-number.now_rest.now
      c.loop.invariant.read (c.in_ok-number.ensures.read ∙ ap (λ (n : ℕ). number_bytes c.args.narrow n ++ c.in_ok-number.now_rest.now) c.word_of.ensures.number) c.in_ok-push.ensures.items;
  kept = rw c.in_ok-push.ensures.items (all_push (IsKeptWord c.args.narrow) c.loop.words.items c.word_of.result c.loop.invariant.kept c.word_of.ensures.kept);
}
