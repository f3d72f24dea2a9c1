use Rattle.std.proofs.Common.{◌∙◌, ap}
use Rattle.ic_state.specs.Words.{number_bytes}
use Rattle.ic_state.proofs.WordLemmas.{last_bytes}
use Rattle.ic_state.proofs.words.bytes_of.Goals as goal

pub returns-clause-some : goal.returns-clause-some
returns-clause-some g c = (
  c.copy_from_slice.ensures.after
      ∙ last_bytes c.args.narrow g.row.N c.in_ok-number.number c.to_be_bytes.result c.requires c.to_be_bytes.ensures
      ∙ ap (number_bytes c.args.narrow) c.in_ok-number.ensures.some.0,
  c.in_ok-number.ensures.some.1,
)
