use Rattle.std.proofs.Common.{length, sym, ap, subst, arith}
use Rattle.ic_flat.specs.Words.{forest, IsWhole}
use Rattle.ic_flat.specs.lemmas.WordLaws.{whole-words}
use Rattle.ic_flat.specs.lemmas.FlatLaws.{all_terms, counted-configuration_words}
use Rattle.ic_by_rounds.proofs.stuck.circle_text.Goals as goal

pub circle_text-requires-clause-whole : goal.circle_text-requires-clause-whole
circle_text-requires-clause-whole c = subst (λ l. IsWhole l) (sym c.words.ensures.words) (whole-words (all_terms c.args.flat.now))

pub circle_text-requires-clause-counted : goal.circle_text-requires-clause-counted
circle_text-requires-clause-counted c =
    omega (arith, c.interface_len-terms.ensures.terms, c.equations_len-equations.ensures.equations, ap (λ l. length (forest l)) c.words.ensures.words, counted-configuration_words c.args.flat.now)
