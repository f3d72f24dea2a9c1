use Rattle.std.proofs.Common.{refl, sym, subst}
use Rattle.ic_text.specs.declared.syntax.Part.TheVariants.{Start}
use Rattle.ic_text.specs.SystemSource.{IsSystemPhrase, system_words}
use Rattle.ic_text.specs.inner.Survey.{Tells}
use Rattle.ic_text.proofs.OneSystem.{told_systems}
use Rattle.ic_text.proofs.Surveying.{surveyed_tells}
use Rattle.ic_text.proofs.survey.survey_system.Goals as goal

pub returns-clause-counts : goal.returns-clause-counts
returns-clause-counts c =
    let text = c.args.text.now in
    subst (Tells IsSystemPhrase system_words text) (sym c.survey.ensures.counts) (surveyed_tells IsSystemPhrase system_words told_systems Start (λ ts. refl) text)
