use Rattle.std.proofs.Common.{◌≡◌, Ok, Err}
use Rattle.ic_commands.specs.declared.line.Line.TheVariants.{Blank}
use Rattle.ic_serving.specs.declared.fault.ServeFault.TheVariants.{Book, Pool, Memory}
use Rattle.ic_serving_laws.proofs.PartLemmas.{asks_rounds, at_line, comes_for}
use Rattle.ic_serving_laws.proofs.laws.a_serving_ends_for_what_a_line_asks.Goals as goal

pub returns-clause-book : goal.returns-clause-book
returns-clause-book c = λ fault most all front rest t u kept old new is.
    let at = at_line is.between rest u (Book fault) is.says in (
      at.0,
      at.1,
      at.2,
      λ reads. (let bad : Book fault ≡ Memory = comes_for c.one_line_reading.ensures.answer is.between at.0 (Ok Blank) u (Book fault) reads at.3 in cc),
      λ why reads. (let bad : Book fault ≡ Memory = comes_for c.one_line_reading.ensures.answer is.between at.0 (Err why) u (Book fault) reads at.3 in cc),
    )

pub returns-clause-pool : goal.returns-clause-pool
returns-clause-pool c = λ fault most all front rest t u kept old new is.
    let at = at_line is.between rest u (Pool fault) is.says in
    let here = at.3 in
    let asks = asks_rounds is.between at.0 here.reading u fault here.read here.comes in (
      at.0,
      at.1,
      asks.0,
      is.answered.answers,
      is.between,
      at.2,
      asks.1,
      is.answered.served,
      asks.2,
      asks.3,
    )
