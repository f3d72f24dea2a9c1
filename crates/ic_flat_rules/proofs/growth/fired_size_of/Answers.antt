use Rattle.std.proofs.Common.{◌<◌, min, sum_by, length, get_or, refl, ap, sym, ◌∙◌, arith}
use Rattle.std.proofs.lemmas.Option.{slice_get_read}
use Rattle.ic_term.specs.Tree.{nodes}
use Rattle.ic_round.specs.lemmas.Words.{u64_MAX}
use Rattle.ic_round.specs.lemmas.ActiveRules.{ActiveBy, active_with, rule_within}
use Rattle.ic_flat_rules.specs.Standing.{tree_at, pair_at}
use Rattle.ic_flat_rules.specs.lemmas.WordPlaces.{pair_nodes_at, inert_nodes}
use Rattle.ic_flat_rules.proofs.growth.fired_size_of.Goals as goal
use Rattle.ic_flat_rules.proofs.growth.fired_size_of.Goals.{After-rules, After-names}

within : (c : After-rules) → c.in-Some.place < length c.rules.result.now
within c =
    let ws = c.args.words.now in
    let s = c.args.sides in
    let inside = rule_within c.args.rules.now.rules (tree_at ws s.left) (tree_at ws s.right) c.in-Some.place c.in-Some.field-0-1 (sym c.in-Some.ensures.rule) in
    omega (arith, inside, ap length c.rules.ensures.rules)

pub bounds-rules-place : goal.bounds-rules-place
bounds-rules-place c = within c

pub offset_bounds-rules-place : goal.offset_bounds-rules-place
offset_bounds-rules-place c = let inside = within c in let most = c.rules.type_inv.1 in omega arith

active : (c : After-names) → ActiveBy c.args.rules.now.rules (pair_at c.args.words.now c.args.sides) c.index-rules-place.result
active c =
    let rs = c.args.rules.now.rules in
    let ws = c.args.words.now in
    let s = c.args.sides in
    let r = c.index-rules-place.result in
    let inside = rule_within rs (tree_at ws s.left) (tree_at ws s.right) c.in-Some.place c.in-Some.field-0-1 (sym c.in-Some.ensures.rule) in
    let there = slice_get_read rs (length rs) c.in-Some.place r refl inside (c.index-rules-place.is ∙ ap (λ l. get_or l c.in-Some.place r) c.rules.ensures.rules) in
    active_with c.args.rules.now.symbols rs (pair_at ws s) c.in-Some.place c.in-Some.field-0-1 r c.rules.ensures.sound.fitting c.requires.over (sym c.in-Some.ensures.rule) there

pub returns-in-None-clause-nodes : goal.returns-in-None-clause-nodes
returns-in-None-clause-nodes c =
    let ws = c.args.words.now in
    let s = c.args.sides in
    let count = inert_nodes c.args.rules.now.rules (pair_at ws s) (sym c.in-None.ensures.rule) in
    let here = pair_nodes_at ws s c.requires.sides in
    let small = c.requires.small in
    omega arith

pub returns-in-Some-clause-nodes : goal.returns-in-Some-clause-nodes
returns-in-Some-clause-nodes c =
    let a = active c in
    let count = a.nodes in
    let two = a.two in
    let small = c.requires.small in
    let here = pair_nodes_at c.args.words.now c.args.sides c.requires.sides in
    let less = c.saturating_sub.ensures in
    let left = c.nodes_of_terms.ensures ∙ ap (λ ts. min (sum_by nodes ts) u64_MAX) c.left_args.ensures.args in
    let right = c.nodes_of_terms-in-Some.ensures ∙ ap (λ ts. min (sum_by nodes ts) u64_MAX) c.right_args.ensures.args in
    let first = c.saturating_add.ensures in
    let second = c.saturating_add-in-Some.ensures in
    omega arith

pub returns-in-Some-clause-names : goal.returns-in-Some-clause-names
returns-in-Some-clause-names c = c.names.ensures.names ∙ sym (active c).names
