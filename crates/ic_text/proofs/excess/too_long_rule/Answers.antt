use Rattle.std.proofs.Common.{◌+◌, ◌<◌, not, cond, length, refl, sym, ap, subst, ◌∙◌, arith}
use Rattle.std.proofs.lemmas.List.{length-map}
use Rattle.ic_text.specs.inner.Counted.{each_keeps}
use Rattle.ic_text.specs.inner.Prefix.{node_of, nodes_of}
use Rattle.ic_text.proofs.NumberedSoFar.{none_there, rest_there}
use Rattle.ic_text.proofs.RuleNodes.{Walked, due_fits, one_outer, one_within, too_many_there}
use Rattle.ic_text.proofs.excess.too_long_rule.Goals as goal
use Rattle.ic_text.proofs.excess.too_long_rule.Goals.{then-due-gt0+else-found-eq-MAX_RULE_NODES, else-due-gt0, then-second, else-second}

pub loop-word-init : goal.loop-word-init
loop-word-init c = record { room = omega (arith, c.requires); few = omega arith; same = refl }

pub returns-then-found-eq-MAX_RULE_NODES : goal.returns-then-found-eq-MAX_RULE_NODES
returns-then-found-eq-MAX_RULE_NODES c =
    let l = c.loop-word in
    let inside : l.word < length (nodes_of c.args.nodes.now) = omega (arith, length-map c.args.nodes.now node_of, c.loop-word-test.true) in
    too_many_there (nodes_of c.args.nodes.now) l.word l.due l.found l.second inside l.invariant (omega (arith, c.if-due-gt0.true)) c.if-found-eq-MAX_RULE_NODES.true

pub loop-word-preserved : goal.loop-word-preserved
loop-word-preserved c =
    let l = c.loop-word in
    let ws = nodes_of c.args.nodes.now in
    let rest = rest_there c.args.nodes.now l.word _ c.loop-word-test.true in
    let next = c.due_after-due.ensures (due_fits ws l.word _ rest l.due l.found l.second l.invariant) in
    elim c.if-due-gt0.branch [
      | then-due-gt0+else-found-eq-MAX_RULE_NODES w ↦ rw (w.second-is, w.found-is)
          (one_within ws l.word _ rest l.due l.found l.second l.invariant c.due_after-due.result next (omega (arith, w.if-due-gt0.true))
          (omega (arith, w.if-found-eq-MAX_RULE_NODES.false, l.invariant.few)))
      | else-due-gt0 w ↦
          let outer = one_outer ws l.word _ rest l.due l.found l.second l.invariant c.due_after-due.result next (omega (arith, w.if-due-gt0.false)) in
          rw (w.second-is, w.found-is) (elim w.if-second.branch [
            | then-second v ↦ rw v.found-is (subst (λ n. Walked ws (l.word + 1) c.due_after-due.result (not l.second) n) (ap (λ b. cond b 0 l.found) v.if-second.true) outer)
            | else-second v ↦ rw v.found-is (subst (λ n. Walked ws (l.word + 1) c.due_after-due.result (not l.second) n) (ap (λ b. cond b 0 l.found) v.if-second.false) outer)
          ])
    ]

pub returns : goal.returns
returns c =
    let l = c.loop-word in
    ap (each_keeps l.due l.second l.found) (sym (none_there c.args.nodes.now l.word c.loop-word-test.false)) ∙ l.invariant.same
