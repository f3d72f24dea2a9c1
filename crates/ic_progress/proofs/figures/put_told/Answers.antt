use Rattle.std.proofs.Common.{◌++◌, ◌∙◌, ap, append_assoc}
use Rattle.std.specs.Fmt.{decimal}
use Rattle.ic_progress.proofs.figures.put_told.Goals as goal

pub returns : goal.returns
returns c =
    let before = c.args.out.now.items in
    let label = c.args.label.now in
    let digits = decimal c.args.number in
    let after = c.args.after.now in (
      before,
      after,
      c.in_ok-extend_from_slice-2.ensures.items
          ∙ ap (λ l. l ++ after) (c.in_ok-put_decimal.ensures ∙ ap (λ l. l ++ digits) c.in_ok-extend_from_slice.ensures.items ∙ append_assoc before label digits)
          ∙ append_assoc before (label ++ digits) after,
    )
