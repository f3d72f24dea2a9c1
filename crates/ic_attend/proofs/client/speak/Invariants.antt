use Rattle.std.proofs.Common.{◌≡◌, ◌++◌, map, length}
use Rattle.std.specs.Vec.Iter.{into_iter_items, into_iter_len}
use Rattle.ic_jobs.specs.declared.command.Command.{Command}
use Rattle.ic_jobs.specs.declared.reply.Reply.{Reply}
use Rattle.ic_attend.proofs.client.speak.Given as goal

-- the commands that were answered, and after them those that are left
abbrev pub invariant-loop-command : goal.invariant-loop-command
invariant-loop-command g l =
    (into_iter_len l.command-iterator ≡ length (into_iter_items l.command-iterator))
    × (map (λ (a : Command × Reply). a.0) l.answers.items ++ into_iter_items l.command-iterator ≡ l.fn.script.items)
