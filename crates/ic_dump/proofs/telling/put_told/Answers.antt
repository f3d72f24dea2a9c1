use Rattle.std.proofs.Common.{ap, ◌∙◌}
use Rattle.ic_term.specs.Symbol.{is_over}
use Rattle.ic_naming.specs.lemmas.Renumbered.{renumbered-over}
use Rattle.ic_dump.proofs.telling.put_told.Goals as goal

pub put_flat-requires-2 : goal.put_flat-requires-2
put_flat-requires-2 c =
    ap (is_over c.args.symbols.now) c.in_ok-numbered.ensures ∙ renumbered-over c.args.symbols.now c.args.flat.now ∙ c.requires
