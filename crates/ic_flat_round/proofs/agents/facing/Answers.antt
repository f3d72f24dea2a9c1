use Rattle.std.proofs.Common.{ap}
use Rattle.ic_flat_round.specs.Facing.{first_facing}
use Rattle.ic_flat_rules.specs.lemmas.WordPlaces.{whole_words, pairs_start, twos_start, within_start}
use Rattle.ic_flat_round.proofs.agents.facing.Goals as goal

pub loop-place-init : goal.loop-place-init
loop-place-init c =
    let flat = c.args.flat.now in
    let ws = c.words-words.result.now in
    let place = c.equations_place-place.result in
    let start = c.equations_place-place.ensures in
    let is = c.words-words.ensures.words in
    record {
      same = ap first_facing (pairs_start flat ws place is start.equations);
      twos = twos_start flat ws place is start.equations;
      within = within_start flat ws place is start.within;
    }

pub sides_at-sides-requires-clause-whole : goal.sides_at-sides-requires-clause-whole
sides_at-sides-requires-clause-whole c = whole_words c.args.flat.now c.words-words.result.now c.words-words.ensures.words
