use Rattle.std.proofs.Common.{◌∙◌, arith}
use Rattle.ic_text.proofs.Heads.{run_beyond, run_from}
use Rattle.ic_text.proofs.prefix.Head.node.Goals as goal

pub returns-then-text-self : goal.returns-then-text-self
returns-then-text-self c = λ i. record { text = run_beyond c.args.text.now c.args.self.start (omega arith) i; arity = c.args.self.arity }

pub returns : goal.returns
returns c = λ i. record { text = (c.first_run.ensures ∙ run_from c.args.text.now c.args.self.start) i; arity = c.args.self.arity }
