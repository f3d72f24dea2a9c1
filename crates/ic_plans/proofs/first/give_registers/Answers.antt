use Rattle.std.proofs.Common.{◌≡◌, ◌+◌, ◌-◌, count_by, length, map, get_or, not, ap, ◌∙◌, arith}
use Rattle.ic_plans.specs.inner.Given.{numbers_from, singles}
use Rattle.ic_plans.proofs.ListedLemmas.{parts-length, registers-are, unset-length}
use Rattle.ic_plans.proofs.first.give_registers.Goals as goal

pub list_names-requires : goal.list_names-requires
list_names-requires c = omega (arith, c.requires)

pub singles_of-requires : goal.singles_of-requires
singles_of-requires c = omega (arith, ap length c.as_slice-marks.ensures.value, ap length c.as_slice-different.ensures.value, c.in_ok-firsts.ensures.same)

pub overflow_sub-others : goal.overflow_sub-others
overflow_sub-others c =
    let given = ap length (c.in_ok-given.ensures ∙ (λ i. singles (c.as_slice-different.ensures.value i) (c.as_slice-marks.ensures.value i))) in
    omega (arith, given, parts-length c.in_ok-firsts.field-0.firsts.items c.in_ok-firsts.field-0.single.items c.in_ok-firsts.ensures.same)

pub number_marks-requires-clause-first : goal.number_marks-requires-clause-first
number_marks-requires-clause-first c =
    omega (arith, ap length c.as_slice-marks.ensures.value, c.in_ok-firsts.ensures.same, c.in_ok-firsts.ensures.few, c.requires)

pub number_marks-requires-clause-other : goal.number_marks-requires-clause-other
number_marks-requires-clause-other c =
    let given = ap length (c.in_ok-given.ensures ∙ (λ i. singles (c.as_slice-different.ensures.value i) (c.as_slice-marks.ensures.value i))) in
    let unset = ap (count_by (λ mark. not mark)) c.as_slice-marks.ensures.value ∙ unset-length c.in_ok-firsts.field-0.firsts.items c.in_ok-firsts.field-0.single.items c.in_ok-firsts.ensures.same in
    omega (arith, given, unset, c.len-3.ensures, c.requires, c.in_ok-firsts.ensures.few, parts-length c.in_ok-firsts.field-0.firsts.items c.in_ok-firsts.field-0.single.items c.in_ok-firsts.ensures.same)

pub overflow_cast-middle : goal.overflow_cast-middle
overflow_cast-middle c =
    let given = ap length (c.in_ok-given.ensures ∙ (λ i. singles (c.as_slice-different.ensures.value i) (c.as_slice-marks.ensures.value i))) in
    omega (arith, given, c.len-3.ensures, c.requires, c.in_ok-firsts.ensures.few, parts-length c.in_ok-firsts.field-0.firsts.items c.in_ok-firsts.field-0.single.items c.in_ok-firsts.ensures.same)

pub overflow_add-middle : goal.overflow_add-middle
overflow_add-middle c =
    let given = ap length (c.in_ok-given.ensures ∙ (λ i. singles (c.as_slice-different.ensures.value i) (c.as_slice-marks.ensures.value i))) in
    omega (arith, given, c.len-3.ensures, c.requires, c.in_ok-firsts.ensures.few, parts-length c.in_ok-firsts.field-0.firsts.items c.in_ok-firsts.field-0.single.items c.in_ok-firsts.ensures.same)

pub returns : goal.returns
returns c =
    let given : c.in_ok-given.given.items ≡ singles c.in_ok-firsts.field-0.firsts.items c.in_ok-firsts.field-0.single.items =
    c.in_ok-given.ensures ∙ (λ i. singles (c.as_slice-different.ensures.value i) (c.as_slice-marks.ensures.value i)) in
    let many = parts-length c.in_ok-firsts.field-0.firsts.items c.in_ok-firsts.field-0.single.items c.in_ok-firsts.ensures.same in
    let middle : c.args.start + c.len-3.result ≡ c.args.start + length c.in_ok-given.given.items = omega (arith, c.len-3.ensures) in
    registers-are c.args.names.now c.in_ok-firsts.field-0.firsts.items c.in_ok-firsts.field-0.single.items c.in_ok-firsts.field-0.places.items c.in_ok-firsts.ensures c.args.start
    c.in_ok-given.given.items (c.len.result - c.len-2.result) c.in_ok-registers.registers.items given
    (omega (arith, c.len.ensures, c.len-2.ensures, many, ap length given))
    (c.in_ok-registers.ensures
    ∙ (λ i. map (λ k. get_or ((c.as_slice-table.ensures.value ∙ c.in_ok-numbers.ensures ∙ (λ j. numbers_from c.args.start (middle j) (c.as_slice-marks.ensures.value j))) i) k 0) (c.as_slice-stands.ensures.value i)))
