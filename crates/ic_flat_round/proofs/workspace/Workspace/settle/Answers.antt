use Rattle.std.proofs.Common.{◌≡◌, ◌∙◌, ap, sym, subst}
use Rattle.ic_term.specs.Symbol.{is_over}
use Rattle.ic_term.specs.Configuration.{Configuration}
use Rattle.ic_settle.specs.Settling.{settled}
use Rattle.ic_settle.specs.NameSteps.{NameStep, NameSteps}
use Rattle.ic_settle.specs.lemmas.Reached.{settled_steps, settled_ends}
use Rattle.ic_round.specs.lemmas.SettledLemmas.{settled_over}
use Rattle.ic_flat.specs.Flat.{configuration_of}
use Rattle.ic_flat_round.proofs.workspace.Workspace.settle.Goals as goal

pub returns : goal.returns
returns c =
    let flat = c.args.flat.now in
    let made : c.with_place.result ≡ settled flat =
    c.with_place.ensures ∙ (λ i. configuration_of (c.replace-words.ensures.value i).items (c.interface_len-terms.ensures.terms i) (c.next.ensures.next i))
    ∙ c.in_ok-place.ensures.settled in
    let R : Configuration → Type 0 = λ d. NameSteps flat d in
    let N : Configuration → Type 0 = λ d. (e : Configuration) → ¬ NameStep d e in
    record {
      settled = made;
      reached = subst R (sym made) (settled_steps flat);
      ended = subst N (sym made) (settled_ends flat);
      over = λ ss is. ap (is_over ss) made ∙ settled_over ss flat is;
    }
