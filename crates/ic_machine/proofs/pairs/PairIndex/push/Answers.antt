use Rattle.std.proofs.Common.{◌≡◌, ◌&&◌, ◌==◌, ◌∷◌, [], ◌++◌, Some, None, cond, length, subst, sym, ap, ◌∙◌, arith}
use Rattle.ic_machine.specs.Plan.{place_of}
use Rattle.ic_machine.specs.inner.PairIndex.{IsIndex, number_in}
use Rattle.ic_machine.proofs.PairIndexLemmas.{index_pushed}
use Rattle.ic_machine.proofs.pairs.PairIndex.push.Goals as goal

pub invariant_of-self-2 : goal.invariant_of-self-2
invariant_of-self-2 c =
    let inside = c.self.inside in
    let pairs = inside.pairs.items in
    let a = c.args.a in
    let b = c.args.b in
    let rows = inside.rows in
    let none : place_of a b pairs ≡ None = ap (place_of a b) c.self.view_is ∙ c.requires.new in
    let pushed : c.push_reserved.new.self.items ≡ pairs ++ (a, b) ∷ [] = c.push_reserved.ensures.items ∙ ap (λ l. l ++ (a, b) ∷ []) c.reserve.ensures.items in
    let last : c.len-number.result ≡ length pairs = omega (arith, c.len-number.ensures) in
    subst (λ l. IsIndex l rows c.put.new.entries.items c.put.new.others) (sym pushed)
    (index_pushed pairs a b none rows inside.entries.items c.put.new.entries.items inside.others c.put.new.others c.self.invariant c.put.ensures.len
    (λ x y. c.in_ok-put.ensures.put x y ∙ ap (λ k. cond (a == x && b == y) (Some k) (number_in rows inside.entries.items inside.others x y)) last))
