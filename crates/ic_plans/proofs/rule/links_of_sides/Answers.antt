use Rattle.std.proofs.Common.{◌+◌, ◌-◌, ◌++◌, length, map, take, drop, sym, ap, ◌∙◌, arith}
use Rattle.std.proofs.lemmas.List.{length-map, length-drop}
use Rattle.ic_term.specs.Term.{tree}
use Rattle.ic_meaning.specs.Plans.{arguments_from}
use Rattle.ic_plans.specs.inner.Registers.{links_of, register_of}
use Rattle.ic_plans.proofs.LinkLemmas.{links-append, take_whole}
use Rattle.ic_plans.proofs.rule.links_of_sides.Goals as goal

pub returns : goal.returns
returns c =
    let left = map tree c.args.left.now in
    let right = map tree c.args.right.now in
    let registers = register_of c.args.registers.now in
    let operands = c.args.operands.now in
    let counted = length-map c.args.left.now tree in
    let parts = links-append registers c.args.constants left right operands (omega (arith, counted, c.requires.counted)) in
    let tail = drop (length c.args.left.now) operands in
    let whole = take_whole tail (length operands - length c.args.left.now) (omega (arith, length-drop (length c.args.left.now) operands)) in
    let first = c.in_ok-link_arguments.ensures ∙ ap (λ l. l ++ links_of registers (arguments_from c.args.constants left) (take (length c.args.left.now) operands)) c.new-links.ensures.items in
    c.in_ok-link_arguments-2.ensures
    ∙ ap (λ l. c.link_arguments.new.links.items ++ links_of registers (arguments_from (c.args.constants + length c.args.left.now) right) l) whole
    ∙ ap (λ l. l ++ links_of registers (arguments_from (c.args.constants + length c.args.left.now) right) (drop (length c.args.left.now) operands)) first
    ∙ (λ i. links_of registers (arguments_from c.args.constants left) (take (sym counted i) operands) ++ links_of registers (arguments_from (c.args.constants + sym counted i) right) (drop (sym counted i) operands))
    ∙ sym parts
