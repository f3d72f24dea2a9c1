use Rattle.std.proofs.Common.{◌∙◌, ℕ, sym}
use Rattle.ic_rules.specs.lemmas.Spared.{one_spare, one_taken}
use Rattle.ic_text.specs.Name.{name_text}
use Rattle.ic_expand.specs.Names.{is_among}
use Rattle.ic_expand.proofs.names.spare_of.Goals as goal
use Rattle.ic_expand.proofs.names.spare_of.Goals.{then-not-branch+in_ok-push, else-not-branch}

pub loop-number-preserved : goal.loop-number-preserved
loop-number-preserved c =
    let shorts = c.args.shorts.now in
    let is = λ (k : ℕ). is_among (name_text k) shorts in
    let known = c.in_ok-is_taken.ensures in
    elim c.if-not-branch.branch [
      | then-not-branch+in_ok-push w ↦ rw (w.spare-is, w.in_ok-push.ensures.items) (one_spare is c.loop-number.number c.loop-number.spare.items c.loop-number.invariant (sym known ∙ w.if-not-branch.true))
      | else-not-branch w ↦ rw w.spare-is (one_taken is c.loop-number.number c.loop-number.spare.items c.loop-number.invariant (sym known ∙ w.if-not-branch.false))
    ]
