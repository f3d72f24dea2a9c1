use Rattle.std.proofs.Common.{◌≡◌, length, map}
use Rattle.std.specs.List.{fold}
use Rattle.ic_term.specs.Symbol.{texts}
use Rattle.ic_expand.specs.declared.spot.Spot.TheVariants.{Elsewhere}
use Rattle.ic_expand.specs.Pieces.{pieces}
use Rattle.ic_expand.specs.Reading.{asked, noted}
use Rattle.ic_expand.specs.inner.Sheets.{symbol_in}
use Rattle.ic_expand.proofs.reading.note_asked.Given as goal

-- with what is left the symbols so far, whose texts are known, become those with all that are asked for
abbrev pub invariant-loop-rest : goal.invariant-loop-rest
invariant-loop-rest l = record {
  symbols : fold noted (map symbol_in l.symbols.items) (asked l.spot (pieces l.rest))
      ≡ fold noted (map symbol_in l.fn.symbols.items) (asked Elsewhere (pieces l.text));
  known : l.known ≡ texts (map symbol_in l.symbols.items);
}

abbrev pub decreases-loop-rest : goal.decreases-loop-rest
decreases-loop-rest l = length l.rest
