use Rattle.std.proofs.Common.{◌≡◌, ◌∙◌, ◌++◌, [], length}
use Rattle.ic_term.specs.Tree.{trees_of}
use Rattle.ic_nets.specs.Nets.{agents_among, hanging, joined, pairs_agents}
use Rattle.ic_nets.specs.inner.Hanging.{coming, hung_at, links_hung}
use Rattle.ic_nets.specs.declared.port.Port.TheVariants.{Interface}
use Rattle.ic_nets.proofs.HangingLemmas.{interface-agents, interface-links}
use Rattle.ic_nets.proofs.sketch.sketch_of.Goals as goal

pub returns : goal.returns
returns c =
    let ts = c.args.config.now.interface in
    let stack : coming c.put_interface.new.stack.items ≡ hung_at Interface 1 ts ++ [] =
    c.in_ok-put_interface.ensures ∙ (λ i. hung_at Interface 1 (c.interface.ensures.terms i) ++ coming (c.new-stack.ensures.items i)) in
    let first : c.add_hung.new.agents.items ≡ agents_among (trees_of ts) =
    c.in_ok-add_hung.ensures.agents ∙ (λ i. c.new-agents.ensures.items i ++ interface-agents ts (coming c.put_interface.new.stack.items) stack i) in
    let links : c.add_hung.new.links.items ≡ hanging Interface 1 0 (trees_of ts) =
    c.in_ok-add_hung.ensures.links
    ∙ (λ i. c.new-links.ensures.items i ++ links_hung (length (c.new-agents.ensures.items i)) (coming c.put_interface.new.stack.items))
    ∙ interface-links ts (coming c.put_interface.new.stack.items) stack in
    record {
      agents = c.in_ok-add_equations.ensures.agents ∙ (λ i. first i ++ pairs_agents (c.equations.ensures.equations i));
      links = c.in_ok-add_equations.ensures.links ∙ (λ i. links i ++ joined c.args.rules.now.rules (length (first i)) (c.equations.ensures.equations i));
    }
