use Rattle.std.proofs.Common.{◌≡◌, ◌∙◌, ◌+◌, None, length, ap, arith}
use Rattle.std.specs.List.{flat_map}
use Rattle.ic_term.specs.Tree.{names}
use Rattle.ic_settle.specs.lemmas.Containers.{noted_in, noted_equations}
use Rattle.ic_settle.specs.lemmas.Spots.{noted_after}
use Rattle.ic_flat_rules.specs.lemmas.WordPlaces.{whole_words, equations_few, pairs_start, twos_start, within_start}
use Rattle.ic_flat_round.specs.inner.Places.{found}
use Rattle.ic_flat_round.proofs.PassingWords.{names-interface}
use Rattle.ic_flat_round.proofs.containers.Containers.refill.Goals as goal

pub note_equations-requires-clause-whole : goal.note_equations-requires-clause-whole
note_equations-requires-clause-whole c = whole_words c.args.flat.now c.words-words.result.now c.words-words.ensures.words

pub note_equations-requires-clause-within : goal.note_equations-requires-clause-within
note_equations-requires-clause-within c = within_start c.args.flat.now c.words-words.result.now c.args.from c.words-words.ensures.words c.requires.within

pub note_equations-requires-clause-twos : goal.note_equations-requires-clause-twos
note_equations-requires-clause-twos c = twos_start c.args.flat.now c.words-words.result.now c.args.from c.words-words.ensures.words c.requires.equations

pub overflow_add-count : goal.overflow_add-count
overflow_add-count c =
    let few = equations_few c.args.flat.now c.equations_len-count.ensures.sound in
    omega (arith, few, c.equations_len-count.ensures.equations)

pub returns-clause-places : goal.returns-clause-places
returns-clause-places c = λ y.
    let flat = c.args.flat.now in
    let ws = c.words-words.result.now in
    let start = c.requires in
    let n = c.equations_len-count.result in
    let count : n ≡ 0 + length flat.equations = omega (arith, c.equations_len-count.ensures.equations) in
    let pairs = pairs_start flat ws c.args.from c.words-words.ensures.words start.equations in
    let names_is = names-interface flat ws c.args.from c.words-words.ensures.words start.within start.equations in
    c.in_ok-note_words.ensures y
    ∙ ap (λ l. noted_in y n l (found c.note_equations.new.places y)) names_is
    ∙ ap (noted_in y n (flat_map names flat.interface))
    (c.in_ok-note_equations.ensures y ∙ ap (λ l. noted_equations y 0 l (found c.clear.new.self y)) pairs
    ∙ ap (noted_equations y 0 flat.equations) (c.in_ok-clear.ensures y))
    ∙ ap (λ k. noted_in y k (flat_map names flat.interface) (noted_equations y 0 flat.equations None)) count ∙ noted_after y 0 flat.equations flat.interface None
