use Rattle.std.proofs.Common.{◌+◌, ◌++◌, ℕ, List, drop, subst}
use Rattle.ic_scripts.specs.Telling.{told, told_client, told_from}
use Rattle.ic_scripts.proofs.OnFault.{on_err}
use Rattle.ic_scripts.proofs.Sending.{IsSent, sent_cut, sent_part}
use Rattle.ic_scripts.proofs.ToldLemmas.{told_next}
use Rattle.ic_scripts.proofs.telling.tell.Goals as goal

pub returns-in_err-tell_client-clause-cut : goal.returns-in_err-tell_client-clause-cut
returns-in_err-tell_client-clause-cut g c =
    let runs = c.args.runs.now in
    let i = c.loop-place.place in
    let run = c.index-runs-place.result in
    let old = g.W.Write.contents c.args.writer.now in
    let mid = g.W.Write.contents c.loop-place.writer in
    let new = g.W.Write.contents c.tell_client.new.writer in
    let rest = told_from (i + 1) (drop (i + 1) runs) in
    let sent : IsSent (told runs) (told_client i run ++ rest) old mid =
    subst (λ (l : List ℕ). IsSent (told runs) l old mid) (told_next runs i run c.loop-place-test.true c.index-runs-place.is) c.loop-place.invariant in
    on_err _ _ (sent_cut (told runs) (told_client i run) rest old mid new sent c.in_err-tell_client.ensures.cut)

pub loop-place-preserved : goal.loop-place-preserved
loop-place-preserved g c =
    let runs = c.args.runs.now in
    let i = c.loop-place.place in
    let run = c.index-runs-place.result in
    let old = g.W.Write.contents c.args.writer.now in
    let mid = g.W.Write.contents c.loop-place.writer in
    let new = g.W.Write.contents c.tell_client.new.writer in
    let rest = told_from (i + 1) (drop (i + 1) runs) in
    let sent : IsSent (told runs) (told_client i run ++ rest) old mid =
    subst (λ (l : List ℕ). IsSent (told runs) l old mid) (told_next runs i run c.loop-place-test.true c.index-runs-place.is) c.loop-place.invariant in
    sent_part (told runs) (told_client i run) rest old mid new sent c.in_ok-tell_client.ensures.told
