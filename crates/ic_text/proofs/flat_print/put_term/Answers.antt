use Rattle.std.proofs.Common.{reverse, rules}
use Rattle.ic_flat.specs.declared.word.Word.TheVariants.{Name}
use Rattle.ic_text.proofs.WordTextLemmas.{IsPrinting-start, IsPrinting-within, IsPrinting-next, IsPrinting-text, IsPrinting-rest, IsPrinting-none}
use Rattle.ic_text.proofs.flat_print.put_term.Goals as goal

pub loop-more-init : goal.loop-more-init
loop-more-init c =
    IsPrinting-start c.args.symbols.now c.args.words.now c.args.place c.args.due.now.items c.args.out.now.items c.requires.whole c.requires.there c.requires.none_open

pub bounds-words-end : goal.bounds-words-end
bounds-words-end c = IsPrinting-within c.loop-more.invariant c.loop-more-test.true

pub offset_bounds-words-end : goal.offset_bounds-words-end
offset_bounds-words-end c = let inside = IsPrinting-within c.loop-more.invariant c.loop-more-test.true in search rules

pub overflow_add-end : goal.overflow_add-end
overflow_add-end c = let inside = IsPrinting-within c.loop-more.invariant c.loop-more-test.true in search rules

pub loop-more-smaller : goal.loop-more-smaller
loop-more-smaller c = let inside = IsPrinting-within c.loop-more.invariant c.loop-more-test.true in search rules

pub loop-more-preserved : goal.loop-more-preserved
loop-more-preserved c =
    IsPrinting-next (Name 0) c.in_ok-more.more (reverse c.put_word.new.due.items) c.put_word.new.out.items c.requires.whole c.loop-more.invariant c.loop-more-test.true c.in_ok-more.ensures

pub returns-clause-text : goal.returns-clause-text
returns-clause-text c = IsPrinting-text c.loop-more.invariant c.loop-more-test.false

pub returns-clause-rest : goal.returns-clause-rest
returns-clause-rest c = IsPrinting-rest c.loop-more.invariant c.loop-more-test.false

pub returns-clause-none_open : goal.returns-clause-none_open
returns-clause-none_open c = IsPrinting-none c.loop-more.due.items c.loop-more.invariant c.loop-more-test.false
