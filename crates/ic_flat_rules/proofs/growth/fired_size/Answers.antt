use Rattle.std.proofs.Common.{arith, refl}
use Rattle.ic_round.specs.lemmas.SizeSoFar.{size-start}
use Rattle.ic_flat_rules.specs.Standing.{pairs_at}
use Rattle.ic_flat_rules.specs.lemmas.WordPlaces.{whole_words, pairs_start, twos_start, within_start}
use Rattle.ic_flat_rules.proofs.growth.fired_size.Goals as goal

pub loop-place-init : goal.loop-place-init
loop-place-init c =
    let flat = c.args.flat.now in
    let ws = c.words-words.result.now in
    let place = c.args.place in
    let start = c.requires.place in
    let is = c.words-words.ensures.words in
    let sound = c.words-words.ensures.sound in
    let few = sound.nodes in
    let count = start.nodes in
    record {
      size =
          size-start c.args.rules.now flat flat.interface (pairs_at ws place) _ _ refl (pairs_start flat ws place is start.equations) sound c.requires.over
          (omega (arith, few, count)) c.next-names.ensures.next;
      twos = twos_start flat ws place is start.equations;
      within = within_start flat ws place is start.within;
    }

pub sides_at-sides-requires-clause-whole : goal.sides_at-sides-requires-clause-whole
sides_at-sides-requires-clause-whole c = whole_words c.args.flat.now c.words-words.result.now c.words-words.ensures.words
