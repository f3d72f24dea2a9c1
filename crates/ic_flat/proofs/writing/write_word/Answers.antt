use Rattle.std.proofs.Common.{◌≡◌, ◌++◌, map, length, sym, ap, ◌∙◌}
use Rattle.std.proofs.lemmas.List.{length-map}
use Rattle.ic_term.specs.Tree.{agent, trees_of}
use Rattle.ic_term.specs.Term.{tree}
use Rattle.ic_term.specs.declared.term.Cell.{out-Cell}
use Rattle.ic_term.specs.lemmas.TermLaws.{tree-Agent, cell_tree-out}
use Rattle.ic_flat.specs.inner.Stacks.{coming}
use Rattle.ic_flat.proofs.WritingLemmas.{agent-written, agent-fewer}
use Rattle.ic_flat.proofs.writing.write_word.Goals as goal

pub returns-in_ok-put_terms-in-Agent-clause-written : goal.returns-in_ok-put_terms-in-Agent-clause-written
returns-in_ok-put_terms-in-Agent-clause-written c =
    let cell = out-Cell c.in-Agent.cell.value in
    let args = map tree cell.args.items in
    let is : tree c.args.term.now ≡ agent cell.sym (trees_of args) =
    ap tree c.in-Agent.is ∙ tree-Agent c.in-Agent.cell ∙ cell_tree-out c.in-Agent.cell.value in
    let one = rw c.deref.ensures at c.in_ok-push-in-Agent.ensures.items in
    let count : c.len.result ≡ length args = (rw c.deref-in-Agent.ensures at c.len.ensures) ∙ cell.args.ok.0 ∙ sym (length-map cell.args.items tree) in
    let put = rw c.deref-in-Agent-2.ensures at c.deref-in-Agent-3.ensures.value in
    let all = c.in_ok-put_terms-in-Agent.ensures ∙ ap (λ ts. map tree ts ++ coming c.args.stack.now.items) put in
    agent-written c.args.words.now.items c.push-in-Agent.new.self.items cell.sym c.len.result args (coming c.args.stack.now.items) (coming c.put_terms.new.stack.items) (tree c.args.term.now) is count one all

pub returns-in_ok-put_terms-in-Agent-clause-fewer : goal.returns-in_ok-put_terms-in-Agent-clause-fewer
returns-in_ok-put_terms-in-Agent-clause-fewer c =
    let cell = out-Cell c.in-Agent.cell.value in
    let args = map tree cell.args.items in
    let is : tree c.args.term.now ≡ agent cell.sym (trees_of args) =
    ap tree c.in-Agent.is ∙ tree-Agent c.in-Agent.cell ∙ cell_tree-out c.in-Agent.cell.value in
    let put = rw c.deref-in-Agent-2.ensures at c.deref-in-Agent-3.ensures.value in
    let all = c.in_ok-put_terms-in-Agent.ensures ∙ ap (λ ts. map tree ts ++ coming c.args.stack.now.items) put in
    agent-fewer cell.sym args (coming c.args.stack.now.items) (coming c.put_terms.new.stack.items) (tree c.args.term.now) is all
