-- What the rows of the table are made into.
use Rattle.std.specs.Prelude.{◌≡◌, ◌&&◌, Bool, false, List, Option, None, Some, bytes_eq, find, option_map}
use Rattle.std.specs.List.{list_all}
use Rattle.clap.specs.Words.{App, Rule, Text, app_of, built, rule_of}
use Rattle.clap.specs.Walk.{answers_to, idle, subcommand_met}
use Rattle.clap.specs.Simple.{label_of, names_of}
use Rattle.ic_args.specs.Words.{command_line}
use Rattle.ic_args.specs.declared.rows.Entry.{Entry}
use Rattle.clap.specs.declared.builder.arg.Arg.{Arg}
use Rattle.clap.specs.declared.builder.command.Command.{Command}
use Rattle.clap.specs.declared.builder.command.Command.TheViews.{out-Command}

-- the argument has this rule, and is its command's alone
abbrev pub IsRule : Rule → Arg → Type 0
IsRule rule arg = (rule_of arg ≡ rule) × (arg.global ≡ false)

-- the command has this shape, and no argument that is its commands', too
abbrev pub IsMade : App → Command → Type 0
IsMade app command = (app_of command ≡ app) × ((out-Command command).has_globals ≡ false)

-- ---- the command line finds each word by its name, and so do the words below it

abbrev pub is_some_text : Text → Option Text → Bool
is_some_text name None = false
is_some_text name (Some other) = bytes_eq other name

abbrev pub is_met : App → Text → Bool
is_met app name = is_some_text name (subcommand_met (names_of (built app)) idle name)

abbrev pub has_shape : App → Text → Bool
has_shape app name =
    is_some_text name (option_map (λ s. s.name) (find (λ s. answers_to name (label_of s)) (built app).subs))

abbrev pub is_found : App → Text → Bool
is_found app name = is_met app name && has_shape app name

abbrev pub are_found : List Entry → Bool
are_found table = (command_line table).top.no_binary_name
    && list_all (λ entry. is_found (command_line table) entry.name.now) table
