use Rattle.std.proofs.Common.{◌≡◌, ◌==◌, length, unwrap_or, ap, ◌∙◌, arith}
use Rattle.ic_rules.specs.Renaming.{number_among}
use Rattle.ic_rules.proofs.RenamingLemmas.{place_or_length}
use Rattle.ic_rules.proofs.firsts.Firsts.number.Goals as goal

pub returns : goal.returns
returns c =
    let names = c.self.inside.names.items in
    let name = c.args.name in
    let len : c.len.result ≡ length names = omega (arith, c.len.ensures) in
    let place = c.copied.ensures ∙ c.get.ensures.value ∙ c.self.invariant name in
    c.unwrap_or.ensures ∙ (λ i. unwrap_or (place i) (len i)) ∙ place_or_length (λ m. name == m) names ∙ ap (λ ns. number_among ns name) c.self.view_is
