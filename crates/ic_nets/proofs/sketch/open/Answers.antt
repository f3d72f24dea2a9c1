use Rattle.std.proofs.Common.{◌≡◌, ◌++◌, map, length, sym, ap, ◌∙◌}
use Rattle.std.proofs.lemmas.List.{length-map}
use Rattle.ic_term.specs.Tree.{agent, trees_of}
use Rattle.ic_term.specs.Term.{tree}
use Rattle.ic_term.specs.declared.term.Cell.{out-Cell}
use Rattle.ic_term.specs.lemmas.TermLaws.{tree-Agent, cell_tree-out}
use Rattle.ic_nets.specs.inner.Hanging.{coming, hung_at}
use Rattle.ic_nets.specs.declared.port.Port.TheVariants.{Auxiliary}
use Rattle.ic_nets.proofs.HangingLemmas.{agent-agents, agent-links, agent-fewer}
use Rattle.ic_nets.proofs.sketch.open.Goals as goal

pub returns-in_ok-put_arguments-in-Agent : goal.returns-in_ok-put_arguments-in-Agent
returns-in_ok-put_arguments-in-Agent c =
    let cell = out-Cell c.in-Agent.cell.value in
    let args = map tree cell.args.items in
    let t = tree c.args.term.now in
    let old = c.args.agents.now.items in
    let new = c.push.new.self.items in
    let beyond = coming c.args.stack.now.items in
    let stack = coming c.put_arguments.new.stack.items in
    let n = c.len.result in
    let is : t ≡ agent cell.sym (trees_of args) = ap tree c.in-Agent.is ∙ tree-Agent c.in-Agent.cell ∙ cell_tree-out c.in-Agent.cell.value in
    let one = rw c.deref.ensures at c.in_ok-push-in-Agent.ensures.items in
    let count : n ≡ length args = (rw c.deref-in-Agent.ensures at c.len.ensures) ∙ cell.args.ok.0 ∙ sym (length-map cell.args.items tree) in
    let put = rw c.deref-in-Agent-2.ensures at c.deref-in-Agent-3.ensures.value in
    let number : c.len-number.result ≡ length old = c.len-number.ensures ∙ c.args.agents.now.ok.0 in
    let all = c.in_ok-put_arguments-in-Agent.ensures ∙ (λ k. hung_at (Auxiliary (number k)) 1 (map tree (put k)) ++ beyond) in
    record {
      agents = agent-agents cell.sym n args t old new beyond stack is count one all;
      links = agent-links cell.sym n args t old new beyond stack is count one all;
      fewer = agent-fewer cell.sym n args t old new beyond stack is count one all;
    }
