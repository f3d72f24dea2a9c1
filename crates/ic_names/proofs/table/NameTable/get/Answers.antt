use Rattle.std.proofs.Common.{◌≡◌, None, Some, cond, sym, ap, ◌∙◌}
use Rattle.std.specs.Ordering.{nat_cmp}
use Rattle.std.specs.BTreeMap.{get}
use Rattle.std.proofs.lemmas.Bool.{eq-eqb, ne_eqb}
use Rattle.ic_names.specs.declared.row.TheConstants.{NONE}
use Rattle.ic_names.specs.Table.{found, slot_of, told}
use Rattle.ic_names.proofs.table.NameTable.get.Goals as goal

pub returns-in-Some : goal.returns-in-Some
unfolding found
returns-in-Some c =
    let n = c.in-Some.number in
    let here : slot_of c.args.self.now.rows.items c.args.name ≡ Some n = ap (λ rows. slot_of rows c.args.name) (sym c.deref.ensures.value) ∙ sym c.slot.ensures ∙ c.in-Some.is in
    sym (ap (λ o. told o (get nat_cmp c.args.self.now.others c.args.name)) here ∙ ap (λ b. cond b None (Some n)) (eq-eqb n NONE c.if-number.true))

pub returns-in-Some-2 : goal.returns-in-Some-2
unfolding found
returns-in-Some-2 c =
    let n = c.in-Some.number in
    let here : slot_of c.args.self.now.rows.items c.args.name ≡ Some n = ap (λ rows. slot_of rows c.args.name) (sym c.deref.ensures.value) ∙ sym c.slot.ensures ∙ c.in-Some.is in
    sym (ap (λ o. told o (get nat_cmp c.args.self.now.others c.args.name)) here ∙ ap (λ b. cond b None (Some n)) (ne_eqb n NONE c.if-number.false))

pub returns-in-None : goal.returns-in-None
unfolding found
returns-in-None c =
    let here : slot_of c.args.self.now.rows.items c.args.name ≡ None = ap (λ rows. slot_of rows c.args.name) (sym c.deref.ensures.value) ∙ sym c.slot.ensures ∙ c.in-None.is in
    c.get_other.ensures ∙ sym (ap (λ o. told o (get nat_cmp c.args.self.now.others c.args.name)) here)
