use Rattle.std.proofs.Common.{◌≡◌, ◌++◌, ap, ◌∙◌}
use Rattle.ic_lines.proofs.TakingLemmas.{after_front, fed_taken}
use Rattle.ic_lines.proofs.buffer.LineBuffer.pass_line.Goals as goal

pub returns-clause-taken : goal.returns-clause-taken
returns-clause-taken c line remaining fed =
    let whole : c.self.inside.front.items ++ c.self.inside.ahead ≡ c.args.self.now.ahead = ap (λ b. b.ahead) c.self.view_is in
    let left = after_front c.self.inside.front.items c.self.inside.ahead line fed.rest c.self.invariant.unfed fed.unfed (whole ∙ fed.parted) in
    let rest = c.pass_line.ensures left.0 fed.rest left.1 left.2 in
    fed_taken line fed.rest c.args.self.now.ahead (c.clear.new.self.items ++ c.pass_line.new.self) remaining fed.unfed fed.parted
    (ap (λ xs. xs ++ c.pass_line.new.self) c.clear.ensures.items ∙ rest)
