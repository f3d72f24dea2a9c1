use Rattle.std.proofs.Common.{◌≡◌, None, rules}
use Rattle.std.specs.Ordering.{nat_cmp}
use Rattle.std.specs.BTreeMap.{get}
use Rattle.ic_names.specs.Table.{found}
use Rattle.ic_names.proofs.Numbers.{none_told}
use Rattle.ic_names.proofs.table.NameTable.new.Goals as goal

pub returns : goal.returns
unfolding found
returns c = λ x.
    let none : get nat_cmp c.new-others.result x ≡ None = search rules in
    none_told c.in_ok-rows.rows.items c.in_ok-rows.ensures x (get nat_cmp c.new-others.result x) none
