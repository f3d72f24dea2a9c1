use Rattle.std.proofs.Common.{◌≡◌, List, ℕ, sym, subst}
use Rattle.ic_term.specs.Configuration.{Configuration}
use Rattle.ic_naming.specs.Naming.{renumbered}
use Rattle.ic_reaching.specs.OneNet.{OneNet}
use Rattle.ic_round.specs.Rounds.{iterate}
use Rattle.ic_streams.specs.Streams.{line_of}
use Rattle.ic_in_place_laws.proofs.laws.what_is_appended_by_rounds_is_of_them.Goals as goal

pub returns : goal.returns
returns c = λ limits most asked input line reached s appends either some reads.
    let all = c.a_line_by_rounds_is_the_net_after_them.ensures.net limits most asked input appends.0 reached s appends.1 either some reads in
    subst (λ (l : List ℕ). (answer : Configuration) × (l ≡ line_of s.rules.symbols (renumbered answer))
    × OneNet answer (iterate s.rules.rules reached.rounds s.config)) (sym appends.2) (all.0, all.1, all.2)
