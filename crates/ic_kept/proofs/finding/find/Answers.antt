use Rattle.std.proofs.Common.{◌∙◌, ℕ, ◌+◌, ◌<◌, List, true, false, length, subst}
use Rattle.std.proofs.lemmas.Result.{err_from_is_err_and}
use Rattle.ic_kept.specs.inner.Finding.{IsChosen, Spoils}
use Rattle.ic_kept.proofs.HeldLemmas.{spoils_answers, spoiled_from}
use Rattle.ic_kept.proofs.ReadLemmas.{reads_then}
use Rattle.ic_kept.proofs.finding.find.Goals as goal

pub returns-in_err-state-clause-refused : goal.returns-in_err-state-clause-refused
returns-in_err-state-clause-refused g c keeps keeps_too =
    let a = g.D.Disk.content c.args.first.now in
    let b = g.D.Disk.content c.args.second.now in
    let chosen = c.in_ok-chosen.chosen in
    let cause = c.in_err-state.field-0.0 in
    let e = err_from_is_err_and c.from_residual-in_err-state.result c.from_residual-in_err-state.ensures.1 in
    let is : IsChosen chosen a b = c.in_ok-chosen.ensures.chosen a b (c.in_ok-one.ensures.made keeps) (c.in_ok-other.ensures.made keeps_too) (c.in_ok-one.ensures.head keeps) (c.in_ok-other.ensures.head keeps_too) in
    let spoils = subst (λ (f : List ℕ). Spoils cause (length f < 17 + chosen.head.size)) (c.look-2.ensures.reads keeps_too).same (c.in_err-state.ensures.refused (c.look-2.ensures.keeps ∙ keeps_too)) in
    rw (e.1, e.2) (spoils_answers cause (length b < 17 + chosen.head.size) a b spoils (λ cut. spoiled_from true chosen a b c.if-chosen.true is cut))

pub returns-in_err-state-2-clause-refused : goal.returns-in_err-state-2-clause-refused
returns-in_err-state-2-clause-refused g c keeps keeps_too =
    let a = g.D.Disk.content c.args.first.now in
    let b = g.D.Disk.content c.args.second.now in
    let chosen = c.in_ok-chosen.chosen in
    let cause = c.in_err-state-2.field-0.0 in
    let e = err_from_is_err_and c.from_residual-in_err-state-2.result c.from_residual-in_err-state-2.ensures.1 in
    let is : IsChosen chosen a b = c.in_ok-chosen.ensures.chosen a b (c.in_ok-one.ensures.made keeps) (c.in_ok-other.ensures.made keeps_too) (c.in_ok-one.ensures.head keeps) (c.in_ok-other.ensures.head keeps_too) in
    let spoils = subst (λ (f : List ℕ). Spoils cause (length f < 17 + chosen.head.size)) (c.look.ensures.reads keeps).same (c.in_err-state-2.ensures.refused (c.look.ensures.keeps ∙ keeps)) in
    rw (e.1, e.2) (spoils_answers cause (length a < 17 + chosen.head.size) a b spoils (λ cut. spoiled_from false chosen a b c.if-chosen.false is cut))

pub returns-in_err-state-clause-reads_second : goal.returns-in_err-state-clause-reads_second
returns-in_err-state-clause-reads_second g c keeps =
    let disk = g.D.Disk in
    reads_then disk.keeps disk.content disk.image disk.clock disk.left c.args.second.now c.look-2.new.disk c.read_state.new.disk
    (c.look-2.ensures.reads keeps) (c.read_state.ensures.reads (c.look-2.ensures.keeps ∙ keeps))

pub returns-then-chosen-clause-reads_second : goal.returns-then-chosen-clause-reads_second
returns-then-chosen-clause-reads_second g c keeps =
    let disk = g.D.Disk in
    reads_then disk.keeps disk.content disk.image disk.clock disk.left c.args.second.now c.look-2.new.disk c.read_state.new.disk
    (c.look-2.ensures.reads keeps) (c.read_state.ensures.reads (c.look-2.ensures.keeps ∙ keeps))

pub returns-in_err-state-2-clause-reads_first : goal.returns-in_err-state-2-clause-reads_first
returns-in_err-state-2-clause-reads_first g c keeps =
    let disk = g.D.Disk in
    reads_then disk.keeps disk.content disk.image disk.clock disk.left c.args.first.now c.look.new.disk c.read_state-2.new.disk
    (c.look.ensures.reads keeps) (c.read_state-2.ensures.reads (c.look.ensures.keeps ∙ keeps))

pub returns-clause-reads_first : goal.returns-clause-reads_first
returns-clause-reads_first g c keeps =
    let disk = g.D.Disk in
    reads_then disk.keeps disk.content disk.image disk.clock disk.left c.args.first.now c.look.new.disk c.read_state-2.new.disk
    (c.look.ensures.reads keeps) (c.read_state-2.ensures.reads (c.look.ensures.keeps ∙ keeps))
