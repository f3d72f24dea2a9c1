use Rattle.std.proofs.Common.{◌≡◌, ◌∙◌, ◌++◌, [], ℕ, List, ap, subst}
use Rattle.std.specs.List.{flat_map}
use Rattle.std.specs.Io.KnownBytes.{Appends}
use Rattle.ic_output.specs.Output.{AppendsFront}
use Rattle.ic_scripts.specs.Telling.{answer_line, client_line, stop_line, told_client}
use Rattle.ic_scripts.proofs.OnFault.{on_err, on_err_so}
use Rattle.ic_scripts.proofs.Sending.{IsSent, sent_begin, sent_cut, sent_front, sent_last, sent_part}
use Rattle.ic_scripts.proofs.telling.tell_client.Goals as goal

pub returns-in_err-write_bytes-clause-cut : goal.returns-in_err-write_bytes-clause-cut
returns-in_err-write_bytes-clause-cut g c =
    let run = c.args.run.now in
    let n = client_line c.args.place in
    let b = flat_map answer_line run.answers.items in
    let s = stop_line run.end in
    let all = told_client c.args.place run in
    let old = g.W.Write.contents c.args.writer.now in
    let one = g.W.Write.contents c.write_bytes.new.writer in
    let number : c.deref.result.now ≡ n = c.deref.ensures.value ∙ c.in_ok-number.ensures in
    let begin : IsSent all (n ++ (b ++ s)) old old = sent_begin n b s old in
    on_err _ _ (sent_cut all n (b ++ s) old old one begin (subst (λ (l : List ℕ). AppendsFront old one [] l) number c.in_err-write_bytes.ensures.cut))

pub returns-in_err-tell_answers-clause-cut : goal.returns-in_err-tell_answers-clause-cut
returns-in_err-tell_answers-clause-cut g c =
    let run = c.args.run.now in
    let n = client_line c.args.place in
    let b = flat_map answer_line run.answers.items in
    let s = stop_line run.end in
    let all = told_client c.args.place run in
    let old = g.W.Write.contents c.args.writer.now in
    let one = g.W.Write.contents c.write_bytes.new.writer in
    let number : c.deref.result.now ≡ n = c.deref.ensures.value ∙ c.in_ok-number.ensures in
    let begin : IsSent all (n ++ (b ++ s)) old old = sent_begin n b s old in
    let first : IsSent all (b ++ s) old one = sent_part all n (b ++ s) old old one begin (subst (λ (l : List ℕ). Appends old one l) number c.in_ok-write_bytes.ensures.written) in
    let two = g.W.Write.contents c.tell_answers.new.writer in
    let given : flat_map answer_line c.deref-2.result.now ≡ b = ap (flat_map answer_line) c.deref-2.ensures.value in
    on_err _ _ (sent_cut all b s old one two first (subst (λ (l : List ℕ). AppendsFront one two [] l) given c.in_err-tell_answers.ensures.cut))

pub returns-in_err-stop-clause-cut : goal.returns-in_err-stop-clause-cut
returns-in_err-stop-clause-cut g c =
    let run = c.args.run.now in
    let n = client_line c.args.place in
    let b = flat_map answer_line run.answers.items in
    let s = stop_line run.end in
    let all = told_client c.args.place run in
    let old = g.W.Write.contents c.args.writer.now in
    let one = g.W.Write.contents c.write_bytes.new.writer in
    let number : c.deref.result.now ≡ n = c.deref.ensures.value ∙ c.in_ok-number.ensures in
    let begin : IsSent all (n ++ (b ++ s)) old old = sent_begin n b s old in
    let first : IsSent all (b ++ s) old one = sent_part all n (b ++ s) old old one begin (subst (λ (l : List ℕ). Appends old one l) number c.in_ok-write_bytes.ensures.written) in
    let two = g.W.Write.contents c.tell_answers.new.writer in
    let given : flat_map answer_line c.deref-2.result.now ≡ b = ap (flat_map answer_line) c.deref-2.ensures.value in
    let second : IsSent all s old two = sent_part all b s old one two first (subst (λ (l : List ℕ). Appends one two l) given c.in_ok-tell_answers.ensures.told) in
    on_err _ _ (sent_front all s old two second)

pub returns-clause-cut : goal.returns-clause-cut
returns-clause-cut g c =
    let run = c.args.run.now in
    let n = client_line c.args.place in
    let b = flat_map answer_line run.answers.items in
    let s = stop_line run.end in
    let all = told_client c.args.place run in
    let old = g.W.Write.contents c.args.writer.now in
    let one = g.W.Write.contents c.write_bytes.new.writer in
    let number : c.deref.result.now ≡ n = c.deref.ensures.value ∙ c.in_ok-number.ensures in
    let begin : IsSent all (n ++ (b ++ s)) old old = sent_begin n b s old in
    let first : IsSent all (b ++ s) old one = sent_part all n (b ++ s) old old one begin (subst (λ (l : List ℕ). Appends old one l) number c.in_ok-write_bytes.ensures.written) in
    let two = g.W.Write.contents c.tell_answers.new.writer in
    let given : flat_map answer_line c.deref-2.result.now ≡ b = ap (flat_map answer_line) c.deref-2.ensures.value in
    let second : IsSent all s old two = sent_part all b s old one two first (subst (λ (l : List ℕ). Appends one two l) given c.in_ok-tell_answers.ensures.told) in
    let three = g.W.Write.contents c.write_bytes-2.new.writer in
    let stop : c.deref-3.result.now ≡ s = c.deref-3.ensures.value ∙ c.in_ok-stop.ensures in
    on_err_so c.write_bytes-2.result _ _ (λ cut. sent_cut all s [] old two three (sent_last all s old two second) (subst (λ (l : List ℕ). AppendsFront two three [] l) stop cut)) c.write_bytes-2.ensures.cut
