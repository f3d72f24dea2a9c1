use Rattle.std.proofs.Common.{◌≡◌, ◌≢◌, ℕ, List, [], Bool, false, cond, refl, sym, ap, ◌∙◌, subst}
use Rattle.ic_in_place.specs.Reducing.{EndsBy}
use Rattle.ic_in_place.specs.Reductions.{is_written, line_reached}
use Rattle.ic_in_place.specs.declared.running.End.{End}
use Rattle.ic_in_place.specs.declared.running.End.TheVariants.{Steps}
use Rattle.ic_in_place.specs.declared.stream.Asked.{Asked}
use Rattle.ic_in_place.specs.declared.stream.Asked.TheVariants.{Answer, AlsoPart, Nothing}
use Rattle.ic_in_place_laws.proofs.laws.a_cut_is_told_as_it_stands.Goals as goal

asked_for : (asked : Asked) → asked ≢ Nothing → (line : List ℕ) → cond (is_written asked Steps) line [] ≡ line
asked_for Answer some line = refl
asked_for AlsoPart some line = refl
asked_for Nothing some line = absurd (some refl)

pub returns-clause-cut : goal.returns-clause-cut
returns-clause-cut c = λ limits bounds asked input line outcome is cut some.
    let told = is.ends in
    let ended = subst (λ (x : End). EndsBy is.system.rules.rules bounds told.answer outcome.interactions x) cut told.reached.ended in (
      is.system,
      told.answer,
      told.reached.fired,
      is.reads,
      told.reached.reached,
      sym told.reached.counted ∙ ended.0,
      ended.2,
      told.prints ∙ ap (λ (x : End). line_reached asked x is.system.rules.symbols told.answer) cut ∙ asked_for asked some _,
    )

pub returns-clause-nothing : goal.returns-clause-nothing
returns-clause-nothing c = λ limits bounds input line outcome is. is.ends.prints

unwritten : (b : Bool) (line : List ℕ) → b ≡ false → cond b line [] ≡ []
unwritten b line e = ap (λ (x : Bool). cond x line []) e

pub returns-clause-unwritten : goal.returns-clause-unwritten
returns-clause-unwritten c = λ limits bounds asked input line outcome is e. is.ends.prints ∙ unwritten (is_written asked outcome.end) _ e
