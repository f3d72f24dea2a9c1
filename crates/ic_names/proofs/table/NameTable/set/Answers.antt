use Rattle.std.proofs.Common.{◌==◌, sym, ap}
use Rattle.std.specs.Ordering.{nat_cmp}
use Rattle.std.specs.BTreeMap.{get}
use Rattle.std.proofs.lemmas.Bool.{eqb-true}
use Rattle.ic_names.specs.Table.{found, slot_of}
use Rattle.ic_names.proofs.Numbers.{on_err, told_filled, told_besides, told_kept}
use Rattle.ic_names.proofs.table.NameTable.set.Goals as goal

pub returns-in_err-set_other-clause-refused : goal.returns-in_err-set_other-clause-refused
unfolding found
returns-in_err-set_other-clause-refused c =
    let m = c.args.self.now.others in
    on_err c.from_residual.result (λ x.
    told_kept (slot_of c.args.self.now.rows.items x) (slot_of c.fill.new.rows.items x) (get nat_cmp m x) (get nat_cmp c.set_other.new.others x)
    c.args.number c.fill.result (c.args.name == x) c.if-not-fill.true (c.fill.ensures.filled x) (c.in_err-set_other.ensures.refused x))

pub returns-in_ok-set_other-clause-set : goal.returns-in_ok-set_other-clause-set
unfolding found
returns-in_ok-set_other-clause-set c = λ x.
    let rows = c.args.self.now.rows.items in
    let name = c.args.name in
    told_besides (slot_of rows x) (slot_of c.fill.new.rows.items x) (slot_of rows name) (get nat_cmp c.args.self.now.others x) (get nat_cmp c.set_other.new.others x)
    c.args.number c.fill.result (name == x) c.if-not-fill.true c.fill.ensures.there (λ e. ap (slot_of rows) (sym (eqb-true name x e)))
    (c.fill.ensures.filled x) (c.in_ok-set_other.ensures.set x)

pub returns-else-not-fill-clause-set : goal.returns-else-not-fill-clause-set
unfolding found
returns-else-not-fill-clause-set c = λ x.
    told_filled (slot_of c.args.self.now.rows.items x) (slot_of c.fill.new.rows.items x) (get nat_cmp c.args.self.now.others x)
    c.args.number c.fill.result (c.args.name == x) c.requires c.if-not-fill.false (c.fill.ensures.filled x)
