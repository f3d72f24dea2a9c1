use Rattle.std.proofs.Common.{◌≡◌, ◌-◌, ◌∷◌, reverse, ap, ◌∙◌, arith}
use Rattle.ic_text.proofs.WordTextLemmas.{reverse-push, popped, popped-none, IsClosing-start, IsClosing-next, closed_by_comma, closed_all}
use Rattle.ic_text.proofs.flat_print.close.Goals as goal

pub loop-left-init : goal.loop-left-init
loop-left-init c = IsClosing-start (reverse c.args.due.now.items) c.args.out.now.items

pub returns-then-left-gt0 : goal.returns-then-left-gt0
returns-then-left-gt0 c =
    let left = c.in-Some.left in
    let after = c.pop.new.self.items in
    closed_by_comma (reverse c.args.due.now.items) c.args.out.now.items (reverse c.loop-left.due.items) (reverse after) (reverse c.push.new.self.items) c.loop-left.out.items c.push-then-left-gt0.new.self.items
    left c.loop-left.invariant (popped c.loop-left.due.items after c.pop.result left c.pop.ensures.items c.in-Some.is) c.if-left-gt0.true
    (ap reverse c.in_ok-push.ensures.items ∙ reverse-push after (left - 1)) c.in_ok-push-2.ensures.items

pub loop-left-preserved : goal.loop-left-preserved
loop-left-preserved c =
    let left = c.in-Some.left in
    let after = c.pop.new.self.items in
    let none : left ≡ 0 = omega (arith, c.if-left-gt0.false) in
    let top = popped c.loop-left.due.items after c.pop.result left c.pop.ensures.items c.in-Some.is ∙ ap (λ n. n ∷ reverse after) none in
    IsClosing-next c.loop-left.invariant top c.in_ok-push-3.ensures.items

pub returns : goal.returns
returns c =
    let none = popped-none c.loop-left.due.items c.pop.new.self.items c.pop.result c.pop.ensures.items c.in_default.is (omega (arith, c.in_default.ensures.cases.1, c.pop.new.self.ok.0)) in
    closed_all (reverse c.args.due.now.items) c.args.out.now.items (reverse c.loop-left.due.items) (reverse c.pop.new.self.items) c.loop-left.out.items c.loop-left.invariant (ap reverse none.0) (ap reverse none.1)
