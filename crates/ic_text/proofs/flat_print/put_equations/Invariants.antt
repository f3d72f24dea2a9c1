use Rattle.std.proofs.Common.{◌≡◌, ◌+◌, ◌*◌, ◌++◌, [], length, take, drop}
use Rattle.ic_flat.specs.Words.{forest}
use Rattle.ic_flat.specs.Flat.{pairs_of}
use Rattle.ic_text.specs.inner.Printing.{equations_text}
use Rattle.ic_text.proofs.flat_print.put_equations.Given as goal

-- so many equations are written
abbrev pub invariant-loop-i : goal.invariant-loop-i
invariant-loop-i l = record {
  text : l.out.items ≡ l.fn.out.items ++ equations_text l.symbols (take l.i (pairs_of (forest (drop l.place l.words))));
  rest : pairs_of (forest (drop l.end l.words)) ≡ drop l.i (pairs_of (forest (drop l.place l.words)));
  counted : length (forest (drop l.end l.words)) + 2 * l.i ≡ 2 * l.count;
  none_open : l.due.items ≡ [];
}
