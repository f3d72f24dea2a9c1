use Rattle.std.proofs.Common.{◌≡◌, map, length, sym, ap, ◌∙◌, subst}
use Rattle.std.proofs.lemmas.List.{with_items_is}
use Rattle.std.proofs.lemmas.Option.{same_Some}
use Rattle.ic_term.specs.Term.{pair}
use Rattle.ic_term.specs.Configuration.{Configuration, IsConfiguration}
use Rattle.ic_term.specs.Symbol.{is_over}
use Rattle.ic_reference.specs.inner.Replacing.{applied_at}
use Rattle.ic_reference.proofs.Applying.{applies-once, applies-kept, applies-over, removed-others, applied-made}
use Rattle.ic_reference.proofs.steps.apply_at.Goals as goal
use Rattle.ic_reference.proofs.steps.apply_at.Goals.{After-from_parts}

pub substitute-requires : goal.substitute-requires
substitute-requires c =
    let parts = c.into_parts-interface.ensures in
    let es = ap (map pair) c.remove-equation.ensures.items ∙ removed-others c.into_parts-interface.result.1.items c.args.place c.args.config.equations parts.equations in
    rw (c.deref_mut.ensures.value, c.deref_mut-2.ensures.value, parts.interface, es) (applies-once c.args.config c.args.place c.args.applicable c.requires parts.sound)

pub from_parts-requires : goal.from_parts-requires
from_parts-requires c =
    let parts = c.into_parts-interface.ensures in
    let step = c.substitute.ensures in
    let same_interface : length c.substitute.new.interface ≡ c.into_parts-interface.result.0.len = c.substitute.auto.interface ∙ c.deref_mut.ensures.len in
    let same_equations : length c.substitute.new.equations ≡ c.remove-equation.new.self.len = c.substitute.auto.equations ∙ c.deref_mut-2.ensures.len in
    let made = applied-made c.args.config c.args.place c.args.applicable c.requires.equation c.into_parts-interface.result.0.items c.substitute.new.interface
    c.into_parts-interface.result.1.items c.remove-equation.new.self.items c.substitute.new.equations c.into_parts-interface.result.2 c.remove-equation.result _
    c.requires.there parts.interface parts.equations parts.next c.remove-equation.ensures.items c.remove-equation.ensures.value c.other_side-term.ensures
    (rw c.deref_mut.ensures.value at step.interface) (rw c.deref_mut-2.ensures.value at step.equations) in
    let P : Configuration → Type 0 = IsConfiguration in
    rw (
      with_items_is c.into_parts-interface.result.0 c.substitute.new.interface same_interface,
      with_items_is c.remove-equation.new.self c.substitute.new.equations same_equations,
    )
    (subst P (sym made) (applies-kept c.args.config c.args.place c.args.applicable c.requires parts.sound))

stepped : (c : After-from_parts) → c.from_parts.result ≡ applied_at c.args.config c.args.place c.args.applicable c.requires.equation
stepped c =
    let parts = c.into_parts-interface.ensures in
    let step = c.substitute.ensures in
    let same_interface : length c.substitute.new.interface ≡ c.into_parts-interface.result.0.len = c.substitute.auto.interface ∙ c.deref_mut.ensures.len in
    let same_equations : length c.substitute.new.equations ≡ c.remove-equation.new.self.len = c.substitute.auto.equations ∙ c.deref_mut-2.ensures.len in
    let made = applied-made c.args.config c.args.place c.args.applicable c.requires.equation c.into_parts-interface.result.0.items c.substitute.new.interface
    c.into_parts-interface.result.1.items c.remove-equation.new.self.items c.substitute.new.equations c.into_parts-interface.result.2 c.remove-equation.result _
    c.requires.there parts.interface parts.equations parts.next c.remove-equation.ensures.items c.remove-equation.ensures.value c.other_side-term.ensures
    (rw c.deref_mut.ensures.value at step.interface) (rw c.deref_mut-2.ensures.value at step.equations) in
    let result = rw (
      with_items_is c.into_parts-interface.result.0 c.substitute.new.interface same_interface,
      with_items_is c.remove-equation.new.self c.substitute.new.equations same_equations,
    ) at c.from_parts.ensures in
    result ∙ made

pub returns-clause-step : goal.returns-clause-step
returns-clause-step c p there =
    let same = same_Some c.requires.equation p (sym c.requires.there ∙ there) in
    stepped c ∙ ap (applied_at c.args.config c.args.place c.args.applicable) same

pub returns-clause-over : goal.returns-clause-over
returns-clause-over c symbols over = ap (is_over symbols) (stepped c) ∙ applies-over symbols c.args.config c.args.place c.args.applicable c.requires over
