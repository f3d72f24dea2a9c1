use Rattle.std.proofs.Common.{◌≡◌, ◌==◌, ◌∷◌, ℕ, cond, List, Bool, map, refl, ap, subst, ◌∙◌, arith}
use Rattle.std.specs.List.Sorted.{IsPermutation}
use Rattle.ic_machine.specs.Moving.{CutEnd, spares, times}
use Rattle.ic_machine.proofs.Ends.{is_same, once, worth_added}
use Rattle.ic_machine.proofs.borders.Borders.add_new.Goals as goal

-- what a cut is worth that is given out
pub add-requires-clause-cut : goal.add-requires-clause-cut
add-requires-clause-cut c =
    let cut : ℕ = c.in_ok-cut.cut in
    let before = c.requires.numbers cut in
    let after = c.in_ok-cut.ensures.worth cut in
    let one = once cut cut in
    let own : ◌≡◌ {A = ℕ} (cond (cut == cut) 1 0) 1 = ap (λ (t : Bool). cond t 1 0) (is_same cut cut refl) in
    omega (arith, before, after, one, own)

pub add-requires-clause-name : goal.add-requires-clause-name
add-requires-clause-name c =
    ap (λ (l : List CutEnd). times c.args.name (map (λ (e : CutEnd). e.name) l)) c.next_number.ensures.ends ∙ c.requires.new

pub returns-clause-added : goal.returns-clause-added
returns-clause-added c =
    subst (λ (l : List CutEnd). IsPermutation c.add.new.self.ends (record { cut = c.in_ok-cut.cut; name = c.args.name } ∷ l))
    c.next_number.ensures.ends c.in_ok-add.ensures.added

pub returns-clause-worth : goal.returns-clause-worth
returns-clause-worth c = λ k.
    let cut : ℕ = c.in_ok-cut.cut in
    let same : spares k c.add.new.self ≡ spares k c.next_number.new.self = ap (spares k) c.add.ensures.numbers in
    let more = worth_added k c.next_number.new.self c.add.new.self (record { cut = cut; name = c.args.name }) same c.in_ok-add.ensures.added in
    let before = c.in_ok-cut.ensures.worth k in
    omega (arith, more, before)
