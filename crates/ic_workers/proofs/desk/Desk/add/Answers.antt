use Rattle.std.proofs.Common.{arith, refl, sym, ap, ◌∙◌}
use Rattle.ic_workers.proofs.Desks.{come_added, desk_added, new_ends}
use Rattle.ic_workers.proofs.desk.Desk.add.Goals as goal

pub returns-clause-come : goal.returns-clause-come
returns-clause-come c =
    come_added c.args.program.now c.args.self.now (record c.args.self.now { parts = c.push.new.self }) c.in_ok-part.part c.requires.desk c.in_ok-part.ensures.bare
    c.in_ok-part.ensures.kept
    (omega (arith, c.in_ok-part.ensures.number, c.len-number.ensures, c.args.self.now.parts.ok.0))
    (c.in_ok-part.ensures.borders ∙ ap new_ends (sym c.in_ok-part.ensures.number)) c.requires.few c.in_ok-push.ensures.items

pub returns-clause-desk : goal.returns-clause-desk
returns-clause-desk c =
    desk_added c.args.program.now c.args.self.now (record c.args.self.now { parts = c.push.new.self }) c.in_ok-part.part c.requires.desk c.in_ok-part.ensures.bare c.in_ok-part.ensures.kept
    (omega (arith, c.in_ok-part.ensures.number, c.len-number.ensures, c.args.self.now.parts.ok.0))
    (c.in_ok-part.ensures.borders ∙ ap new_ends (sym c.in_ok-part.ensures.number)) c.requires.few c.in_ok-push.ensures.items refl
