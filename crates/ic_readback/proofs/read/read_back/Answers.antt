use Rattle.std.proofs.Common.{◌≡◌, ℕ, ◌+◌, ◌*◌, ◌∙◌, List, length, reverse, sym, ap, arith, subst}
use Rattle.std.proofs.lemmas.List.{length-reverse}
use Rattle.ic_machine.specs.Net.{Net, pieces}
use Rattle.ic_reaching.specs.OneNet.{OneNet}
use Rattle.ic_meaning.specs.Nets.{net_of}
use Rattle.ic_readback.specs.declared.token.Token.{Token}
use Rattle.ic_readback.specs.Reading.{configuration_read, AreCirclesAfter}
use Rattle.ic_readback.specs.lemmas.Given.{NetLaws}
use Rattle.ic_readback.proofs.Results.{result_whole, result_counted, result_net}
use Rattle.ic_readback.proofs.Circles.{result_circles}
use Rattle.ic_readback.proofs.Heads.{result_heads}
use Rattle.ic_readback.proofs.Turned.{turned, are_turned, given_turned, net_turned}
use Rattle.ic_readback.proofs.read.read_back.Goals as goal

pub returns-clause-whole : goal.returns-clause-whole
returns-clause-whole c =
    let reads = c.in_ok-written.ensures (turned c.args.machine) (record {
      interface_is = c.deref.ensures.value ∙ c.into_parts-parts.ensures.interface;
      pending_is = c.deref-2.ensures.value ∙ c.into_parts-parts.ensures.pending;
      aside_is = c.deref-3.ensures.value ∙ c.reverse.ensures.items ∙ ap (λ es. reverse es) c.into_parts-parts.ensures.aside;
      arities = c.into_parts-parts.ensures.arities;
      pieces = c.into_parts-parts.ensures.pieces;
    }) in
    result_whole (turned c.args.machine) c.in_ok-written.written.tokens.items c.in_ok-written.written.equations reads

pub returns-clause-counted : goal.returns-clause-counted
returns-clause-counted c = λ n same.
    let reads = c.in_ok-written.ensures (turned c.args.machine) (record {
      interface_is = c.deref.ensures.value ∙ c.into_parts-parts.ensures.interface;
      pending_is = c.deref-2.ensures.value ∙ c.into_parts-parts.ensures.pending;
      aside_is = c.deref-3.ensures.value ∙ c.reverse.ensures.items ∙ ap (λ es. reverse es) c.into_parts-parts.ensures.aside;
      arities = c.into_parts-parts.ensures.arities;
      pieces = c.into_parts-parts.ensures.pieces;
    }) in
    let terms : c.len.result ≡ length c.args.machine.interface =
    omega (arith, c.len.ensures, c.into_parts-parts.result.interface.ok, ap length c.into_parts-parts.ensures.interface) in
    let k : ℕ = c.in_ok-written.written.equations in
    result_counted (turned c.args.machine) c.in_ok-written.written.tokens.items k reads n same ∙ ap (λ (t : ℕ). t + 2 * k) (sym terms)

pub returns-clause-net : goal.returns-clause-net
returns-clause-net c = λ n same sound are given has.
    let reads = c.in_ok-written.ensures (turned c.args.machine) (record {
      interface_is = c.deref.ensures.value ∙ c.into_parts-parts.ensures.interface;
      pending_is = c.deref-2.ensures.value ∙ c.into_parts-parts.ensures.pending;
      aside_is = c.deref-3.ensures.value ∙ c.reverse.ensures.items ∙ ap (λ es. reverse es) c.into_parts-parts.ensures.aside;
      arities = c.into_parts-parts.ensures.arities;
      pieces = c.into_parts-parts.ensures.pieces;
    }) in
    let terms : c.len.result ≡ length c.args.machine.interface =
    omega (arith, c.len.ensures, c.into_parts-parts.result.interface.ok, ap length c.into_parts-parts.ensures.interface) in
    let m : Net = c.args.machine in
    let ts : List Token = c.in_ok-written.written.tokens.items in
    let laws : NetLaws = record {
      itself = c.one_net_is_an_equivalence.ensures.itself;
      through = c.one_net_is_an_equivalence.ensures.through;
      next = c.a_name_step_leads_to_one_net.ensures.next;
      order = c.the_order_of_equations_is_no_matter.ensures.order;
      anywhere = c.a_piece_is_put_for_its_name.ensures.anywhere;
    } in
    subst (λ (k : ℕ). OneNet (net_of n m.interface (pieces m)) (configuration_read n ts k)) (sym terms)
    (laws.through (net_of n m.interface (pieces m)) (net_of n m.interface (pieces (turned m))) (configuration_read n ts (length m.interface)) (net_turned laws n m.interface m has)
    (result_net laws (turned m) ts c.in_ok-written.written.equations reads n same sound (are_turned n.arities m.interface m are) (given_turned n.given m.interface m given)
    (net_turned laws n m.interface m has).names_too))

pub returns-clause-heads : goal.returns-clause-heads
returns-clause-heads c = λ n same are given.
    let reads = c.in_ok-written.ensures (turned c.args.machine) (record {
      interface_is = c.deref.ensures.value ∙ c.into_parts-parts.ensures.interface;
      pending_is = c.deref-2.ensures.value ∙ c.into_parts-parts.ensures.pending;
      aside_is = c.deref-3.ensures.value ∙ c.reverse.ensures.items ∙ ap (λ es. reverse es) c.into_parts-parts.ensures.aside;
      arities = c.into_parts-parts.ensures.arities;
      pieces = c.into_parts-parts.ensures.pieces;
    }) in
    let m : Net = c.args.machine in
    result_heads (turned m) c.in_ok-written.written.tokens.items c.in_ok-written.written.equations reads n same (are_turned n.arities m.interface m are) (given_turned n.given m.interface m given)

pub returns-clause-circles : goal.returns-clause-circles
returns-clause-circles c = λ n same sound are given.
    let reads = c.in_ok-written.ensures (turned c.args.machine) (record {
      interface_is = c.deref.ensures.value ∙ c.into_parts-parts.ensures.interface;
      pending_is = c.deref-2.ensures.value ∙ c.into_parts-parts.ensures.pending;
      aside_is = c.deref-3.ensures.value ∙ c.reverse.ensures.items ∙ ap (λ es. reverse es) c.into_parts-parts.ensures.aside;
      arities = c.into_parts-parts.ensures.arities;
      pieces = c.into_parts-parts.ensures.pieces;
    }) in
    let terms : c.len.result ≡ length c.args.machine.interface =
    omega (arith, c.len.ensures, c.into_parts-parts.result.interface.ok, ap length c.into_parts-parts.ensures.interface) in
    let m : Net = c.args.machine in
    let ts : List Token = c.in_ok-written.written.tokens.items in
    subst (λ (k : ℕ). AreCirclesAfter n (length m.pending + length m.aside) (configuration_read n ts k)) (sym terms)
    (subst (λ (k : ℕ). AreCirclesAfter n (length m.pending + k) (configuration_read n ts (length m.interface))) (length-reverse m.aside)
    (result_circles (turned m) ts c.in_ok-written.written.equations reads n same sound (are_turned n.arities m.interface m are) (given_turned n.given m.interface m given)))
