use Rattle.std.proofs.Common.{◌&&◌, not, nat_le, refl, sym, ap, ◌∙◌}
use Rattle.ic_term.specs.Configuration.{occurrences}
use Rattle.ic_flat.specs.declared.word.Word.TheVariants.{Name}
use Rattle.ic_flat_rules.specs.lemmas.WordPlaces.{applicable_where}
use Rattle.ic_flat_rules.proofs.ended.is_applicable.Goals as goal

pub returns-then-not-contains : goal.returns-then-not-contains
returns-then-not-contains c =
    ap (λ b. not b && c.is_twice_in.result) (sym c.if-not-contains.true)
    ∙ applicable_where c.args.names.now c.args.words.now c.args.side c.args.other c.args.end c.in-Name.name (Name 0) c.contains.result c.is_twice_in.result
    c.requires.whole c.requires.there c.in-Name.is c.requires.other c.contains.ensures.value c.is_twice_in.ensures

pub returns-else-not-contains : goal.returns-else-not-contains
returns-else-not-contains c =
    let twice = nat_le 2 (occurrences c.in-Name.name c.args.names.now) in
    ap not c.if-not-contains.false ∙ ap (λ b. not b && twice) (sym c.if-not-contains.false)
    ∙ applicable_where c.args.names.now c.args.words.now c.args.side c.args.other c.args.end c.in-Name.name (Name 0) c.contains.result twice
    c.requires.whole c.requires.there c.in-Name.is c.requires.other c.contains.ensures.value refl
