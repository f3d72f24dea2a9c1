use Rattle.std.proofs.Common.{◌≡◌, [], ◌∷◌, map, reverse, ap, sym, ◌∙◌}
use Rattle.ic_term.specs.Term.{tree}
use Rattle.ic_flat.specs.Words.{forest}
use Rattle.ic_flat.specs.Flat.{sides}
use Rattle.ic_flat.specs.lemmas.WordLaws.{forest-words}
use Rattle.ic_flat_rules.specs.Standing.{tree_at, pair_at}
use Rattle.ic_flat_rules.specs.lemmas.WordPlaces.{pair_slice}
use Rattle.ic_flat_round.proofs.ActiveWorks.{popped, none_left}
use Rattle.ic_flat_round.proofs.planning.equation_at.Goals as goal
use Rattle.ic_flat_round.proofs.planning.equation_at.Goals.{In_ok-stack, In-Some}

-- the sides stand on the stack
both : (c : In_ok-stack) → reverse (map tree c.in_ok-stack.stack.items) ≡ tree_at c.args.words.now c.args.sides.left ∷ tree_at c.args.words.now c.args.sides.right ∷ []
both c =
    let ws = c.args.words.now in
    c.in_ok-stack.ensures ∙ ap forest (pair_slice ws c.args.sides c.requires.whole c.requires.sides) ∙ forest-words (sides (pair_at ws c.args.sides ∷ []))

first : (c : In-Some) → reverse (map tree c.in_ok-stack.stack.items) ≡ tree_at c.args.words.now c.args.sides.left ∷ tree_at c.args.words.now c.args.sides.right ∷ []
    → (tree c.in-Some.left ≡ tree_at c.args.words.now c.args.sides.left) × (reverse (map tree c.pop.new.self.items) ≡ tree_at c.args.words.now c.args.sides.right ∷ [])
first c all = popped c.in_ok-stack.stack.items c.pop.new.self.items c.in-Some.left _ _ c.in-Some.ensures.items all

pub unreachable-requires-in_default-pop : goal.unreachable-requires-in_default-pop
unreachable-requires-in_default-pop c =
    let at = goal.at.unreachable-requires-in_default-pop c in
    none_left c.pop.new.self.items _ _ (sym c.pop.new.self.ok.0 ∙ c.in_default-pop.ensures.cases.0) (first at.In-Some (both at.In_ok-stack)).1

pub returns : goal.returns
returns c =
    let at = goal.at.returns c in
    let a = first at.In-Some (both at.In_ok-stack) in
    let b = popped c.pop.new.self.items c.pop-2.new.self.items c.in-Some-pop.right _ _ c.in-Some-pop.ensures.items a.1 in
    λ i. record { left = a.0 i; right = b.0 i }
