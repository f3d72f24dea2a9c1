use Rattle.std.proofs.Common.{◌≡◌, ◌⊎◌, OnOk, OnErr, is_ok, refl, sym, ap, subst, ◌∙◌, arith}
use Rattle.std.proofs.lemmas.Grind.{common_steps}
use Rattle.ic_disk.specs.Model.{Write, write}
use Rattle.ic_disk.specs.History.{History, with_call, with_failure}
use Rattle.ic_disk.specs.FuseDisk.{disk_of}
use Rattle.ic_disk.specs.Fuse.{IsTorn}
use Rattle.ic_disk.proofs.FuseLemmas.{answers_by, either, err_same, on_ok_same, on_err_same}
use Rattle.ic_disk.proofs.fuse.FuseDisk.make_write.Goals as goal
use Rattle.ic_disk.proofs.fuse.FuseDisk.make_write.Goals.{in-Make, in-Skip, in-MakeAndFail, in-Tear}

pub returns-clause-fuse : goal.returns-clause-fuse
returns-clause-fuse c =
    let old = disk_of c.args.self.now in
    let new = disk_of c.match-take_turn.self in
    let w : Write = record { at = c.args.at; bytes = c.args.bytes.now } in
    elim c.match-take_turn.branch [
      | in-Make v ↦
          let made = v.write_at-outcome in
          let same = c.count.ensures.variant ∙ ap is_ok v.outcome-is in
          let is = ap disk_of v.self-is in
          answers_by _ _ (write w) c.count.result old new (sym c.take_turn.ensures.turn ∙ v.in-Make.is) (
            on_ok_same c.count.result made.result _ same (subst (λ (n : History). OnOk made.result (n ≡ with_call (write w) old)) (sym is) made.ensures.ok),
            on_err_same c.count.result made.result _ same (subst (λ (n : History). OnErr made.result (n ≡ with_failure old)) (sym is) made.ensures.err),
          )
      | in-Skip v ↦ answers_by _ _ (write w) c.count.result old new (sym c.take_turn.ensures.turn ∙ v.in-Skip.is) (grind (arith, common_steps), grind (arith, common_steps))
      | in-MakeAndFail v ↦ answers_by _ _ (write w) c.count.result old new (sym c.take_turn.ensures.turn ∙ v.in-MakeAndFail.is) (
        err_same c.count.result c.match-take_turn.outcome c.count.ensures.variant (rw v.outcome-is refl),
        subst (λ (n : History). (n ≡ with_call (write w) old) ⊎ (n ≡ with_failure old)) (sym (ap disk_of v.self-is)) (either v.write_at.result _ _ v.write_at.ensures.ok v.write_at.ensures.err),
      )
      | in-Tear v ↦ answers_by _ _ (write w) c.count.result old new (sym c.take_turn.ensures.turn ∙ v.in-Tear.is) (
        err_same c.count.result c.match-take_turn.outcome c.count.ensures.variant (rw v.outcome-is refl),
        subst (λ (n : History). IsTorn v.in-Tear.n (write w) old n) (sym (ap disk_of v.self-is)) v.tear.ensures,
      )
    ]
