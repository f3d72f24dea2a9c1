use Rattle.std.proofs.Common.{◌≡◌, subst, sym, ◌∙◌, arith}
use Rattle.ic_arena.specs.declared.word.TheConstants.{NAME}
use Rattle.ic_machine.specs.Net.{Net, in_use}
use Rattle.ic_machine.proofs.Standing.{names_few}
use Rattle.ic_machine.proofs.Sweeps.{names_used}
use Rattle.ic_machine.proofs.machine.Machine.names_in_use.Goals as goal

-- (the goal may put `c.used.result` under a cast to u64)
pub returns-clause-count : goal.returns-clause-count
returns-clause-count c =
    let ns = c.self.inside.tables.names.entries in
    let hs = c.self.inside.tables.heaps.items in
    subst (λ (n : Net). c.used.result ≡ in_use NAME n.places) c.self.view_is (c.used.ensures ∙ sym (names_used ns hs))

pub returns-clause-few : goal.returns-clause-few
returns-clause-few c =
    let few = names_few 0 c.self.inside.tables.names.entries in
    omega (arith, few, c.used.ensures, c.self.invariant.names)
