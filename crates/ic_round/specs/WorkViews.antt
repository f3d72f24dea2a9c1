-- Works and their results as plain data, without where their terms lie in memory.
use Rattle.std.specs.Prelude.{map}
use Rattle.ic_term.specs.Term.{cell_tree, pair}
use Rattle.ic_round.specs.declared.work.Work.{Work}
use Rattle.ic_round.specs.declared.work.Fired.{Fired}
use Rattle.ic_round.specs.Works.{PlainWork, PlainFired}

abbrev pub work_of : Work → PlainWork
work_of w = record {
  place = w.place;
  base = w.base;
  active = record { rule = w.rule; left = cell_tree w.left.value; right = cell_tree w.right.value };
}

abbrev pub fired_of : Fired → PlainFired
fired_of f = record { place = f.place; products = map pair f.products.items }
