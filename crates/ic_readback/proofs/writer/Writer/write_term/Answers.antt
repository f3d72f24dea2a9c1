use Rattle.std.proofs.Common.{◌+◌, ◌++◌, ◌∙◌, ap, reverse, refl}
use Rattle.ic_readback.specs.declared.writer.Writer.{Writer}
use Rattle.ic_readback.specs.inner.Writing.{part_of}
use Rattle.ic_readback.proofs.Writers.{passes, writes_term}
use Rattle.ic_readback.proofs.writer.Writer.write_term.Goals as goal

pub returns-then-term : goal.returns-then-term
returns-then-term c = passes c.args.self.now (part_of c.args.term) c.if-term.true c.requires.empty

pub returns : goal.returns
returns c =
    let old : Writer = c.args.self.now in
    let mid : Writer = record old { tokens = c.push.new.self; equations = old.equations + 1; stack = c.extend_from_slice.new.self } in
    writes_term old mid c.write_stack.new.self (part_of c.args.term) c.if-term.false refl refl c.in_ok-push.ensures.items
    (ap reverse (c.in_ok-extend_from_slice.ensures.items ∙ (ap (λ l. l ++ c.deref.result.now) c.requires.empty ∙ c.deref.ensures.value))) refl
    c.in_ok-write_stack.ensures.wrote c.in_ok-write_stack.ensures.empty
