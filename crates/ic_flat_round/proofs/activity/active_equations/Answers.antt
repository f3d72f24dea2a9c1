use Rattle.std.proofs.Common.{◌≡◌, ap, is_some, count_by, arith}
use Rattle.ic_term.specs.Tree.{Pair}
use Rattle.ic_round.specs.Firing.{rule_of_sides}
use Rattle.ic_flat_rules.specs.Standing.{pairs_at}
use Rattle.ic_flat_rules.specs.lemmas.WordPlaces.{whole_words, pairs_start, twos_start, within_start}
use Rattle.ic_flat_round.proofs.activity.active_equations.Goals as goal

pub loop-place-init : goal.loop-place-init
loop-place-init c =
    let flat = c.args.flat.now in
    let ws = c.words-words.result.now in
    let place = c.equations_place-place.result in
    let start = c.equations_place-place.ensures in
    let is = c.words-words.ensures.words in
    let active = λ (e : Pair). is_some (rule_of_sides c.args.rules.now.rules e.left e.right) in
    let all : count_by active (pairs_at ws place) ≡ count_by active flat.equations = ap (count_by active) (pairs_start flat ws place is start.equations) in
    record {
      few = omega arith;
      counted = omega (arith, all);
      twos = twos_start flat ws place is start.equations;
      within = within_start flat ws place is start.within;
    }

pub sides_at-sides-requires-clause-whole : goal.sides_at-sides-requires-clause-whole
sides_at-sides-requires-clause-whole c = whole_words c.args.flat.now c.words-words.result.now c.words-words.ensures.words
