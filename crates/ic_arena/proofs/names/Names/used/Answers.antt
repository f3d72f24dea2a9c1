use Rattle.std.proofs.Common.{◌≡◌, ◌-◌, length, take, subst, arith}
use Rattle.std.proofs.lemmas.List.{length-take-le}
use Rattle.ic_arena.specs.Tables.{Entries, names_pieces}
use Rattle.ic_arena.proofs.Full.{used_and_found}
use Rattle.ic_arena.proofs.names.Names.used.Goals as goal

-- no more are free than there are
pub overflow_sub-result : goal.overflow_sub-result
overflow_sub-result c =
    let old = c.self.inside in
    let all = used_and_found old.unused (take old.count old.entries.items) old.free c.self.invariant.found in
    let long = length-take-le old.count old.entries.items c.self.invariant.there in
    omega (arith, all, long)

pub returns : goal.returns
returns c =
    let old = c.self.inside in
    let all = used_and_found old.unused (take old.count old.entries.items) old.free c.self.invariant.found in
    let long = length-take-le old.count old.entries.items c.self.invariant.there in
    subst (λ (v : Entries). old.count - old.unused ≡ length (names_pieces 0 v.entries)) c.self.view_is
    (omega (arith, all, long))
