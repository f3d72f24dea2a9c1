use Rattle.std.proofs.Common.{List, ℕ, subst}
use Rattle.ic_check.specs.Files.{content_of, text, script, unmeant, unread}
use Rattle.ic_check.specs.declared.files.Given.{Given}
use Rattle.ic_check.specs.declared.files.Verdict.TheVariants.{Faulty, Unread}
use Rattle.ic_check.specs.inner.Verdicts.{ContentHasFault, verdict_by}
use Rattle.ic_check.proofs.Looks.{found_by, over_one}
use Rattle.ic_check.proofs.files.check_file.Goals as goal

pub returns-in-Text-clause-looked : goal.returns-in-Text-clause-looked
returns-in-Text-clause-looked g c =
    let Gives = g.S.Source.gives c.args.source.now in
    let path = c.args.path.now in
    let bytes = c.in-Text.text.items in
    let faulty = c.in_ok-is_faulty-in-Text.is_faulty in
    let given : Gives path (text bytes) = subst (λ (v : Given). Gives path (content_of v)) c.in-Text.is c.in_ok-given.ensures.given in
    let has : ContentHasFault (text bytes) faulty = subst (λ (b : List ℕ). ContentHasFault (text b) faulty) c.deref-in-Text.ensures.value c.in_ok-is_faulty-in-Text.ensures.faulty in
    rw c.verdict_of.ensures (over_one Gives path (text bytes) (verdict_by faulty) given (found_by (text bytes) faulty has))

pub returns-in-Script-clause-looked : goal.returns-in-Script-clause-looked
returns-in-Script-clause-looked g c =
    let Gives = g.S.Source.gives c.args.source.now in
    let path = c.args.path.now in
    let bytes = c.in-Script.text.items in
    let faulty = c.in_ok-is_faulty-in-Script.is_faulty in
    let given : Gives path (script bytes) = subst (λ (v : Given). Gives path (content_of v)) c.in-Script.is c.in_ok-given.ensures.given in
    let has : ContentHasFault (script bytes) faulty = subst (λ (b : List ℕ). ContentHasFault (script b) faulty) c.deref-in-Script.ensures.value c.in_ok-is_faulty-in-Script.ensures.faulty in
    rw c.verdict_of-in-Script.ensures (over_one Gives path (script bytes) (verdict_by faulty) given (found_by (script bytes) faulty has))

pub returns-in-Refused-clause-looked : goal.returns-in-Refused-clause-looked
returns-in-Refused-clause-looked g c =
    let Gives = g.S.Source.gives c.args.source.now in
    let path = c.args.path.now in
    let given : Gives path unmeant = subst (λ (v : Given). Gives path (content_of v)) c.in-Refused.is c.in_ok-given.ensures.given in
    over_one Gives path unmeant Faulty given tt

pub returns-clause-looked : goal.returns-clause-looked
returns-clause-looked g c =
    let Gives = g.S.Source.gives c.args.source.now in
    let path = c.args.path.now in
    let given : Gives path unread = subst (λ (v : Given). Gives path (content_of v)) c.in-Unread.is c.in_ok-given.ensures.given in
    over_one Gives path unread Unread given tt
