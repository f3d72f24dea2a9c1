use Rattle.std.proofs.Common.{◌≡◌, ℕ, ◌+◌, ◌<◌, ◌++◌, List, length, map, sum_by, subst, sym, ap, ◌∙◌, arith}
use Rattle.std.specs.List.{flat_map, AllByRecursion}
use Rattle.std.proofs.lemmas.List.{length-map, length-append}
use Rattle.ic_term.specs.Tree.{nodes}
use Rattle.ic_term.specs.Term.{tree}
use Rattle.ic_term.specs.Symbol.{Symbol}
use Rattle.ic_rules.specs.Rule.{rule_names}
use Rattle.ic_flat.specs.Words.{forest, tree_words, word_names, IsWhole}
use Rattle.ic_flat.specs.lemmas.WordLaws.{forest-words, whole-words, nodes-forest}
use Rattle.ic_machine.specs.Plan.{made_of}
use Rattle.ic_meaning.specs.Plans.{arguments_from, rule_arguments}
use Rattle.ic_plans.specs.inner.Registers.{AreFreshNames, AreRegisters, IsPlanFor, links_of, register_of}
use Rattle.ic_plans.specs.inner.Flattening.{WouldBeFlat}
use Rattle.ic_plans.proofs.PlanLemmas.{rule_planned}
use Rattle.ic_plans.proofs.rule.plan_of_arguments.Goals as goal

pub flatten-requires-clause-whole : goal.flatten-requires-clause-whole
flatten-requires-clause-whole c =
    let all = map tree c.args.left.now ++ map tree c.args.right.now in
    subst (λ l. IsWhole l) (sym (c.as_slice-sides.ensures.value ∙ c.in_ok-words.ensures)) (whole-words all)

pub flatten-requires-clause-room : goal.flatten-requires-clause-room
flatten-requires-clause-room c =
    let all = map tree c.args.left.now ++ map tree c.args.right.now in
    let counted = ap length (c.as_slice-sides.ensures.value ∙ c.in_ok-words.ensures) ∙ sym (nodes-forest (flat_map tree_words all)) ∙ ap (sum_by nodes) (forest-words all) in
    omega (arith, counted, c.requires.room, c.in_ok-registers.ensures.few)

pub flatten-requires-clause-told : goal.flatten-requires-clause-told
flatten-requires-clause-told c =
    ap length (c.as_slice-told.ensures.value ∙ c.in_ok-reads.ensures) ∙ length-map (flat_map word_names c.as_slice-sides.result.now) (register_of c.in_ok-registers.registers)

pub links_of_sides-requires-clause-counted : goal.links_of_sides-requires-clause-counted
links_of_sides-requires-clause-counted c =
    let left = map tree c.args.left.now in
    let right = map tree c.args.right.now in
    let terms = ap forest (c.as_slice-sides.ensures.value ∙ c.in_ok-words.ensures) ∙ forest-words (left ++ right) in
    let counted = ap length c.deref.ensures.value ∙ c.in_ok-makes.ensures.count ∙ ap length terms in
    omega (arith, counted, length-append left right, length-map c.args.left.now tree, length-map c.args.right.now tree)

pub returns : goal.returns
returns c = λ ss r count_is names_is left_is right_is below paired over.
    let left = map tree c.args.left.now in
    let right = map tree c.args.right.now in
    let arities : List ℕ = map (λ (s : Symbol). s.arity) ss in
    let registers = c.in_ok-registers.registers in
    let fresh = c.in_ok-registers.fresh in
    let made = map made_of c.in_ok-makes.makes.items in
    let operands = c.in_ok-makes.operands.items in
    let ws = c.in_ok-words.words.items in
    let start = c.args.constants + length c.args.left.now + length c.args.right.now in
    let args_are : left ++ right ≡ rule_arguments r = (λ i. sym left_is i ++ sym right_is i) in
    let same : c.args.constants ≡ length arities = sym count_is ∙ sym (length-map ss (λ (s : Symbol). s.arity)) in
    let start_is : start ≡ length arities + length (rule_arguments r) =
    omega (arith, same, ap length args_are, length-append left right, length-map c.args.left.now tree, length-map c.args.right.now tree) in
    let one = subst (λ n. AreRegisters (arguments_from n (left ++ right)) start fresh registers) same c.in_ok-registers.ensures.registers in
    let two = subst (λ l. AreRegisters (arguments_from (length arities) l) start fresh registers) args_are one in
    let regs = subst (λ n. AreRegisters (arguments_from (length arities) (rule_arguments r)) n fresh registers) start_is two in
    let words = c.in_ok-words.ensures ∙ ap (flat_map tree_words) args_are in
    let flat = subst (λ l. WouldBeFlat arities (register_of registers) (start + fresh) l made operands) c.as_slice-sides.ensures.value (c.in_ok-makes.ensures.flat arities (register_of registers) (c.as_slice-told.ensures.value ∙ c.in_ok-reads.ensures)) in
    let would = subst (λ n. WouldBeFlat arities (register_of registers) (n + fresh) ws made operands) start_is flat in
    let all = λ (x : ℕ) (low : x < r.names). c.in_ok-registers.ensures.all x (omega (arith, names_is, low)) in
    let fresh_names = subst (λ n. AreFreshNames n (length arities + length (rule_arguments r)) fresh registers) (sym names_is)
    (subst (λ n. AreFreshNames c.args.names n fresh registers) start_is c.in_ok-registers.ensures.used) in
    let low = subst (λ n. AllByRecursion (λ x. x < n) (rule_names r)) (sym names_is) below in
    let planned = rule_planned ss r registers fresh ws made operands words regs all fresh_names low paired over would in
    let links = c.in_ok-links.ensures ∙ (λ i. links_of (register_of registers) (arguments_from (same i) (args_are i)) (c.deref.ensures.value i)) in
    subst (λ l. IsPlanFor arities r (record { names = fresh; made = made; links = l })) (sym links) planned
