use Rattle.std.proofs.Common.{◌≡◌, ◌++◌, [], take, drop}
use Rattle.ic_flat.specs.Words.{forest}
use Rattle.ic_text.specs.inner.Printing.{terms_text}
use Rattle.ic_text.proofs.flat_print.put_interface.Given as goal

-- so many terms are written
abbrev pub invariant-loop-i : goal.invariant-loop-i
invariant-loop-i l = record {
  text : l.out.items ≡ l.fn.out.items ++ terms_text l.symbols (take l.i (forest l.words));
  rest : forest (drop l.end l.words) ≡ drop l.i (forest l.words);
  none_open : l.due.items ≡ [];
}
