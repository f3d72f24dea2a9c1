use Rattle.std.proofs.Common.{length, sym, ap, ◌∙◌}
use Rattle.std.proofs.lemmas.List.{length-map}
use Rattle.ic_term.specs.Term.{tree, pair}
use Rattle.ic_flat.specs.Flat.{configuration_of}
use Rattle.ic_flat.specs.lemmas.FlatLaws.{IsFlat-configuration_words, configuration_of-words}
use Rattle.ic_flat.proofs.flat.Flat.from_config.Goals as goal

pub from_parts-requires : goal.from_parts-requires
from_parts-requires c =
    let config = c.args.config.now in
    let terms = sym (length-map c.interface-terms.result.now tree) ∙ ap length c.interface-terms.ensures.terms in
    let equations = sym (length-map c.equations-equations.result.now pair) ∙ ap length c.equations-equations.ensures.equations in
    rw (c.in_ok-words.ensures, terms, equations, c.next.ensures.next) (IsFlat-configuration_words config c.next.ensures.sound)

pub returns : goal.returns
returns c =
    let config = c.args.config.now in
    let terms = sym (length-map c.interface-terms.result.now tree) ∙ ap length c.interface-terms.ensures.terms in
    c.from_parts.ensures ∙ (λ i. configuration_of (c.in_ok-words.ensures i) (terms i) (c.next.ensures.next i)) ∙ configuration_of-words config
