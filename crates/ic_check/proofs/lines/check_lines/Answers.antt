use Rattle.std.proofs.Common.{◌≡◌, ◌∙◌, ◌||◌, Bool, ap, sym, subst}
use Rattle.ic_check.specs.Faults.{LineHasFaultIn}
use Rattle.ic_check.proofs.LookedAt.{GoesOn, line_more, lines_end}
use Rattle.ic_check.proofs.Split.{empty}
use Rattle.ic_check.proofs.Written.{grows_more, grows_none}
use Rattle.ic_check.proofs.lines.check_lines.Goals.{then-is_faulty, else-is_faulty}
use Rattle.ic_check.proofs.lines.check_lines.Goals as goal

pub loop-rest-init : goal.loop-rest-init
loop-rest-init g c = record { goes_on = λ later is. is; grows = grows_none (g.W.Write.contents c.args.writer.now) }

pub loop-rest-preserved : goal.loop-rest-preserved
loop-rest-preserved g c =
    let One = LineHasFaultIn c.args.in_script in
    let text = c.args.text.now in
    let here = c.in_ok-findings.findings.is_faulty in
    let joined : c.if-is_faulty.is_faulty ≡ (c.loop-rest.is_faulty || here) = elim c.if-is_faulty.branch [
      | then-is_faulty w ↦ w.is_faulty-is ∙ w.if-is_faulty.true ∙ sym (ap (λ (b : Bool). b || here) w.if-is_faulty.true)
      | else-is_faulty w ↦ w.is_faulty-is ∙ sym (ap (λ (b : Bool). b || here) w.if-is_faulty.false)
    ] in
    record {
      goes_on = subst (λ (b : Bool). GoesOn One text c.split_line.result.1.now b) (sym joined)
          (line_more One text c.loop-rest.rest.now c.split_line.result.0.now c.split_line.result.1.now c.loop-rest.is_faulty here
          c.split_line.ensures.lines c.in_ok-findings.ensures c.loop-rest.invariant.goes_on);
      grows = grows_more (g.W.Write.contents c.args.writer.now) (g.W.Write.contents c.loop-rest.writer) (g.W.Write.contents c.write_findings.new.writer)
          c.loop-rest.invariant.grows c.in_ok-write_findings.ensures.grows;
    }

pub returns-in_err-write_findings-clause-grows : goal.returns-in_err-write_findings-clause-grows
returns-in_err-write_findings-clause-grows g c =
    grows_more (g.W.Write.contents c.args.writer.now) (g.W.Write.contents c.loop-rest.writer) (g.W.Write.contents c.write_findings.new.writer)
    c.loop-rest.invariant.grows c.in_err-write_findings.ensures.grows

pub returns-clause-faulty : goal.returns-clause-faulty
returns-clause-faulty g c =
    let none = empty c.loop-rest.rest.now (sym c.is_empty.ensures ∙ c.loop-rest-test.false) in
    lines_end (LineHasFaultIn c.args.in_script) c.args.text.now c.loop-rest.rest.now c.loop-rest.is_faulty none c.loop-rest.invariant.goes_on
