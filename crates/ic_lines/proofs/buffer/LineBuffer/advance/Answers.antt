use Rattle.std.proofs.Common.{◌≡◌, ◌++◌, [], Err, ap, refl, rules}
use Rattle.ic_lines.proofs.TakingLemmas.{has_long, advanced_line, advanced_last, advanced_fault, moved_all, moved_after, stays, same_front, kept_after, kept_parts}
use Rattle.ic_lines.proofs.buffer.LineBuffer.advance.Goals as goal

pub returns-in_err-move_line-clause-line : goal.returns-in_err-move_line-clause-line
returns-in_err-move_line-clause-line g c =
    let front = c.loop.self-inside.front.items in
    let ahead = c.loop.self-inside.ahead in
    let moved = c.in_err-move_line.ensures.moved in
    advanced_fault c.from_residual.result _ _ _ _ c.from_residual.ensures.1
    (stays _ _ (front ++ ahead) (c.move_line.new.line.items ++ c.move_line.new.self) c.loop.invariant.begun (kept_parts _ _ _ _ moved.0 moved.1))
    c.loop.invariant.empty
    (λ is. has_long _ _ _ c.loop.invariant.begun (c.in_err-move_line.ensures.long (ap (λ e. Err e) is)))

pub returns-then-branch-clause-line : goal.returns-then-branch-clause-line
returns-then-branch-clause-line g c =
    let line : c.swap.new.x.items ≡ c.move_line.new.line.items = rw c.swap.ensures.x_after refl in
    let empty : c.swap.new.y.items ≡ [] = rw c.swap.ensures.y_after c.loop.invariant.empty in
    advanced_line c.in_ok-move_line.field-0 c.loop.self-inside.front.items c.loop.self-inside.ahead c.move_line.new.line.items c.move_line.new.self
    c.swap.new.x.items c.swap.new.y.items _ _ c.if-branch.true c.in_ok-move_line.ensures.moved c.loop.invariant.begun line empty

pub returns-in_err-map_err-clause-line : goal.returns-in_err-map_err-clause-line
returns-in_err-map_err-clause-line g c =
    let front = c.loop.self-inside.front.items in
    let ahead = c.loop.self-inside.ahead in
    let line = c.move_line.new.line.items in
    let moved = moved_all c.in_ok-move_line.field-0 front ahead line c.move_line.new.self c.if-branch.false c.in_ok-move_line.ensures.moved in
    let kept = stays _ _ (front ++ ahead) (line ++ c.move_line.new.self) c.loop.invariant.begun (moved_after front ahead line c.move_line.new.self moved.1 moved.2) in
    advanced_fault c.from_residual-in_err-map_err.result _ _ _ _ c.from_residual-in_err-map_err.ensures.1 kept c.loop.invariant.empty
    (λ is. search rules)

pub returns-in_err-fill-clause-line : goal.returns-in_err-fill-clause-line
returns-in_err-fill-clause-line g c =
    let front = c.loop.self-inside.front.items in
    let ahead = c.loop.self-inside.ahead in
    let line = c.move_line.new.line.items in
    let moved = moved_all c.in_ok-move_line.field-0 front ahead line c.move_line.new.self c.if-branch.false c.in_ok-move_line.ensures.moved in
    let none : c.fill.new.self ≡ [] = c.in_err-fill.ensures.none (λ e. cc) in
    let begun = kept_after _ _ (g.R.Read.remaining c.fill.new.reader) (front ++ ahead) c.loop.invariant.begun c.in_err-fill.ensures.fault in
    let kept = stays _ _ (front ++ ahead) (line ++ c.fill.new.self) begun (moved_after front ahead line c.fill.new.self none moved.2) in
    advanced_fault c.from_residual-in_err-fill.result _ _ _ _ c.from_residual-in_err-fill.ensures.1 kept c.loop.invariant.empty
    (λ is. absurd (c.in_err-fill.ensures.short (ap (λ e. Err e) is)))

pub returns-then-not-branch-clause-line : goal.returns-then-not-branch-clause-line
returns-then-not-branch-clause-line g c =
    let front = c.loop.self-inside.front.items in
    let ahead = c.loop.self-inside.ahead in
    let line = c.move_line.new.line.items in
    let x = c.swap-then-not-branch.new.x in
    let y = c.swap-then-not-branch.new.y in
    let moved = moved_all c.in_ok-move_line.field-0 front ahead line c.move_line.new.self c.if-branch.false c.in_ok-move_line.ensures.moved in
    let same : x.items ≡ line = rw c.swap-then-not-branch.ensures.x_after refl in
    let empty : y.items ≡ [] = rw c.swap-then-not-branch.ensures.y_after c.loop.invariant.empty in
    advanced_last c.in_ok-fill.field-0 c.is_empty.result _ _ _ _ line c.fill.new.self x.items y.items c.if-not-branch.true c.is_empty.ensures x.ok.0
    (same_front _ _ (front ++ ahead) line c.loop.invariant.begun moved.2) c.in_ok-fill.ensures.bytes c.in_ok-fill.ensures.none c.in_ok-fill.ensures.end
    moved.0 same empty

pub returns-clause-line : goal.returns-clause-line
returns-clause-line g c =
    let front = c.loop.self-inside.front.items ++ c.loop.self-inside.ahead in
    advanced_fault _ _ _ _ _ refl (stays _ _ front front c.loop.invariant.begun refl) c.loop.invariant.empty (λ is. cc)
