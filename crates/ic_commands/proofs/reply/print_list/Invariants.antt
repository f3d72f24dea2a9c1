use Rattle.std.proofs.Common.{◌≡◌, ◌++◌, codes, drop}
use Rattle.std.specs.List.{flat_map}
use Rattle.ic_commands.specs.ReplyText.{listed_text}
use Rattle.ic_commands.proofs.reply.print_list.Given as goal

-- what is written and what is left are the whole
abbrev pub invariant-loop-name : goal.invariant-loop-name
invariant-loop-name l = record {
  whole : l.out.items ++ flat_map listed_text (drop l.name-index l.name-items) ≡ codes "jobs" ++ flat_map listed_text l.jobs;
}
