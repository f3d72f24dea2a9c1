use Rattle.std.proofs.Common.{◌≡◌, ◌-◌, List, take, drop, length, ap, subst, arith}
use Rattle.ic_flat.specs.declared.word.Word.{Word}
use Rattle.ic_flat.specs.Words.{tree_words}
use Rattle.ic_flat_round.specs.inner.Room.{Appended}
use Rattle.ic_flat_rules.specs.Standing.{tree_at}
use Rattle.ic_flat_rules.specs.lemmas.WordPlaces.{term_at, slice_at}
use Rattle.ic_flat_round.proofs.firing.put_argument.Goals as goal
use Rattle.ic_flat_round.proofs.firing.put_argument.Goals.{After-end_of_term-end}

-- the words that are copied are those of the argument
copied : (c : After-end_of_term-end)
    → take (c.end_of_term-end.result - c.args.place) (drop c.args.place c.args.words.now) ≡ tree_words (tree_at c.args.words.now c.args.place)
copied c =
    let end = c.end_of_term-end.ensures in
    slice_at c.args.words.now c.args.place c.end_of_term-end.result c.requires.whole
    (term_at c.args.words.now c.args.place c.end_of_term-end.result c.requires.there end.after end.within end.rest)

pub put_copied-requires : goal.put_copied-requires
put_copied-requires c =
    let room = c.requires.room in
    omega (arith, room, ap length (copied (goal.at.put_copied-requires c).After-end_of_term-end))

pub returns-clause-put : goal.returns-clause-put
returns-clause-put c =
    subst (λ (l : List Word). Appended c.args.out.now c.put_copied.new.out l) (copied (goal.at.returns-clause-put c).After-end_of_term-end) c.put_copied.ensures
