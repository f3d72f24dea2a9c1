use Rattle.std.proofs.Common.{◌≡◌, ◌∙◌, ◌+◌, ◌++◌, [], ℕ, List, drop, subst}
use Rattle.std.specs.List.{flat_map}
use Rattle.std.specs.Io.KnownBytes.{Appends}
use Rattle.ic_output.specs.Output.{AppendsFront}
use Rattle.ic_scripts.specs.Telling.{answer_line}
use Rattle.ic_scripts.proofs.OnFault.{on_err}
use Rattle.ic_scripts.proofs.Sending.{IsSent, sent_cut, sent_part}
use Rattle.ic_scripts.proofs.ToldLemmas.{flat_next}
use Rattle.ic_scripts.proofs.telling.tell_answers.Goals as goal

pub returns-in_err-write_bytes-clause-cut : goal.returns-in_err-write_bytes-clause-cut
returns-in_err-write_bytes-clause-cut g c =
    let answers = c.args.answers.now in
    let i = c.loop-answer.answer-index in
    let a = c.answer-item.result in
    let old = g.W.Write.contents c.args.writer.now in
    let mid = g.W.Write.contents c.loop-answer.writer in
    let new = g.W.Write.contents c.write_bytes.new.writer in
    let total = flat_map answer_line answers in
    let rest = flat_map answer_line (drop (i + 1) answers) in
    let line : c.deref.result.now ≡ answer_line a = c.deref.ensures.value ∙ c.in_ok-line.ensures in
    let sent : IsSent total (answer_line a ++ rest) old mid =
    subst (λ (l : List ℕ). IsSent total l old mid) (flat_next answer_line answers i a c.loop-answer-test.true c.answer-item.is) c.loop-answer.invariant in
    on_err _ _ (sent_cut total (answer_line a) rest old mid new sent (subst (λ (l : List ℕ). AppendsFront mid new [] l) line c.in_err-write_bytes.ensures.cut))

pub loop-answer-preserved : goal.loop-answer-preserved
loop-answer-preserved g c =
    let answers = c.args.answers.now in
    let i = c.loop-answer.answer-index in
    let a = c.answer-item.result in
    let old = g.W.Write.contents c.args.writer.now in
    let mid = g.W.Write.contents c.loop-answer.writer in
    let new = g.W.Write.contents c.write_bytes.new.writer in
    let total = flat_map answer_line answers in
    let rest = flat_map answer_line (drop (i + 1) answers) in
    let line : c.deref.result.now ≡ answer_line a = c.deref.ensures.value ∙ c.in_ok-line.ensures in
    let sent : IsSent total (answer_line a ++ rest) old mid =
    subst (λ (l : List ℕ). IsSent total l old mid) (flat_next answer_line answers i a c.loop-answer-test.true c.answer-item.is) c.loop-answer.invariant in
    sent_part total (answer_line a) rest old mid new sent (subst (λ (l : List ℕ). Appends mid new l) line c.in_ok-write_bytes.ensures.written)
