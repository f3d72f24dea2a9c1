use Rattle.std.specs.Prelude.{List, ◌++◌, length, map}
use Rattle.std.specs.List.{flat_map}
use Rattle.ic_term.specs.declared.term.Cell.{Cell, out-Cell}
use Rattle.ic_term.specs.Tree.{Tree, names}
use Rattle.ic_term.specs.Term.{tree}
use Rattle.ic_rules.specs.Rule.{Rule}
use Rattle.ic_rules.specs.Renaming.{first_occurrences}

-- the arguments of an agent as plain data
abbrev pub args_of : Cell → List Tree
args_of cell = map tree (out-Cell cell).args.items

-- a rule as it is written: its left agent and its right agent, the names as they stand
abbrev pub written : Cell × Cell → Rule
written p = record {
  left = (out-Cell p.0).sym;
  right = (out-Cell p.1).sym;
  left_args = args_of p.0;
  right_args = args_of p.1;
  names = length (first_occurrences (flat_map names (args_of p.0) ++ flat_map names (args_of p.1)));
}
