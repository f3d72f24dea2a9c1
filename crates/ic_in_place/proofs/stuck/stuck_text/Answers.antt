use Rattle.std.proofs.Common.{List, drop, sym, ap, arith}
use Rattle.std.specs.List.{find}
use Rattle.std.specs.Option.{option_map}
use Rattle.std.proofs.lemmas.List.{drop_all}
use Rattle.ic_term.specs.Tree.{Tree}
use Rattle.ic_flat.specs.Words.{forest}
use Rattle.ic_flat.specs.Flat.{pairs_of}
use Rattle.ic_streams.specs.Stuck.{is_of_agents, pair_text}
use Rattle.ic_in_place.proofs.stuck.stuck_text.Goals as goal

pub returns-then-equations-eq0 : goal.returns-then-equations-eq0
returns-then-equations-eq0 c =
    sym (ap (λ (ts : List Tree). option_map (pair_text c.args.symbols.now) (find is_of_agents (pairs_of ts)))
    (drop_all c.args.terms (forest c.args.words.now) (omega (arith, c.requires.counted, c.if-equations-eq0.true))))
