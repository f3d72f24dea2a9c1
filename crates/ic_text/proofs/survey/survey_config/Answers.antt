use Rattle.std.proofs.Common.{refl, sym, subst}
use Rattle.ic_text.specs.declared.syntax.Part.TheVariants.{Begin}
use Rattle.ic_text.specs.Source.{IsPhrase, phrase_words}
use Rattle.ic_text.specs.inner.Survey.{Tells}
use Rattle.ic_text.proofs.OneReading.{told}
use Rattle.ic_text.proofs.Surveying.{surveyed_tells}
use Rattle.ic_text.proofs.survey.survey_config.Goals as goal

pub returns-clause-counts : goal.returns-clause-counts
returns-clause-counts c =
    let text = c.args.text.now in
    subst (Tells IsPhrase phrase_words text) (sym c.survey.ensures.counts) (surveyed_tells IsPhrase phrase_words told Begin (λ ts. refl) text)
