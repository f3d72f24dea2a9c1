use Rattle.ic_flat_rules.specs.lemmas.WordPlaces.{right_there, sides_found, pairs_next, twos_next}
use Rattle.ic_flat_rules.proofs.places.sides_at.Goals as goal

pub end_of_term-end-requires-clause-there : goal.end_of_term-end-requires-clause-there
end_of_term-end-requires-clause-there c =
    right_there c.args.words.now c.args.place c.end_of_term-right.result c.requires.there c.requires.twos c.end_of_term-right.ensures.rest

pub returns-clause-sides : goal.returns-clause-sides
returns-clause-sides c =
    let first = c.end_of_term-right.ensures in
    let last = c.end_of_term-end.ensures in
    sides_found c.args.words.now _ c.requires.there c.requires.twos first.after first.within first.rest last.after last.within last.rest

pub returns-clause-equations : goal.returns-clause-equations
returns-clause-equations c =
    let first = c.end_of_term-right.ensures in
    let last = c.end_of_term-end.ensures in
    pairs_next c.args.words.now _ (sides_found c.args.words.now _ c.requires.there c.requires.twos first.after first.within first.rest last.after last.within last.rest)

pub returns-clause-twos : goal.returns-clause-twos
returns-clause-twos c =
    let first = c.end_of_term-right.ensures in
    let last = c.end_of_term-end.ensures in
    twos_next c.args.words.now _ (sides_found c.args.words.now (record { left = c.args.place; right = c.end_of_term-right.result; end = c.end_of_term-end.result }) c.requires.there c.requires.twos first.after first.within first.rest last.after last.within last.rest) c.requires.twos
