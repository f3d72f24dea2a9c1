use Rattle.ic_term.proofs.SymbolsMade.{AreSymbols-numbered, AreSymbols-earlier, is_symbol_text-last, numbered-last, with_symbol-last}
use Rattle.ic_term.proofs.laws.numbering_makes_exactly_such_symbols.Goals as goal

pub returns-clause-kept : goal.returns-clause-kept
returns-clause-kept c = AreSymbols-numbered

pub returns-clause-earlier : goal.returns-clause-earlier
returns-clause-earlier c = AreSymbols-earlier

pub returns-clause-last : goal.returns-clause-last
returns-clause-last c = numbered-last

pub returns-clause-made : goal.returns-clause-made
returns-clause-made c = with_symbol-last

pub returns-clause-text : goal.returns-clause-text
returns-clause-text c = is_symbol_text-last
