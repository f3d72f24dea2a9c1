use Rattle.std.proofs.Common.{◌∙◌, length, ap, arith, rules}
use Rattle.std.specs.List.{flat_map}
use Rattle.ic_rules.specs.RuleSet.{Rules}
use Rattle.ic_flat_rules.specs.RuleWords.{rule_words, bounds_from}
use Rattle.ic_flat_rules.proofs.RuleBounds.{length-bounds, bounded_in, bounded_words}
use Rattle.ic_flat_rules.proofs.flat_rules.FlatRules.words.Goals as goal

pub index-begin-requires : goal.index-begin-requires
index-begin-requires c =
    omega (arith, c.requires, ap length (c.self.invariant.2 ∙ ap (λ (s : Rules). bounds_from 0 s.rules) c.self.view_is), length-bounds 0 c.args.self.now.rules)

pub index-end-requires : goal.index-end-requires
index-end-requires c =
    omega (arith, c.requires, ap length (c.self.invariant.2 ∙ ap (λ (s : Rules). bounds_from 0 s.rules) c.self.view_is), length-bounds 0 c.args.self.now.rules)

pub offset_bounds-deref-begin : goal.offset_bounds-deref-begin
offset_bounds-deref-begin c =
    let b =
    bounded_in c.self.inside.words.items c.self.inside.bounds.items c.args.self.now.rules c.args.place c.index-begin.result.now c.index-end.result.now
    (c.self.invariant.1 ∙ ap (λ (s : Rules). flat_map rule_words s.rules) c.self.view_is)
    (c.self.invariant.2 ∙ ap (λ (s : Rules). bounds_from 0 s.rules) c.self.view_is) c.requires c.index-begin.ensures c.index-end.ensures in
    let ordered = b.ordered in
    let within = b.within in
    let all = ap length c.deref.ensures.value in
    let most = c.deref.type_inv.1 in
    omega arith

pub slice_bounds-result-count : goal.slice_bounds-result-count
slice_bounds-result-count c =
    let b =
    bounded_in c.self.inside.words.items c.self.inside.bounds.items c.args.self.now.rules c.args.place c.index-begin.result.now c.index-end.result.now
    (c.self.invariant.1 ∙ ap (λ (s : Rules). flat_map rule_words s.rules) c.self.view_is)
    (c.self.invariant.2 ∙ ap (λ (s : Rules). bounds_from 0 s.rules) c.self.view_is) c.requires c.index-begin.ensures c.index-end.ensures in
    b.ordered

pub slice_bounds-result-start : goal.slice_bounds-result-start
slice_bounds-result-start c =
    let b =
    bounded_in c.self.inside.words.items c.self.inside.bounds.items c.args.self.now.rules c.args.place c.index-begin.result.now c.index-end.result.now
    (c.self.invariant.1 ∙ ap (λ (s : Rules). flat_map rule_words s.rules) c.self.view_is)
    (c.self.invariant.2 ∙ ap (λ (s : Rules). bounds_from 0 s.rules) c.self.view_is) c.requires c.index-begin.ensures c.index-end.ensures in
    let ordered = b.ordered in
    let within = b.within in
    let all = ap length c.deref.ensures.value in
    search rules

pub slice_bounds-result-end : goal.slice_bounds-result-end
slice_bounds-result-end c =
    let b =
    bounded_in c.self.inside.words.items c.self.inside.bounds.items c.args.self.now.rules c.args.place c.index-begin.result.now c.index-end.result.now
    (c.self.invariant.1 ∙ ap (λ (s : Rules). flat_map rule_words s.rules) c.self.view_is)
    (c.self.invariant.2 ∙ ap (λ (s : Rules). bounds_from 0 s.rules) c.self.view_is) c.requires c.index-begin.ensures c.index-end.ensures in
    let ordered = b.ordered in
    let within = b.within in
    let all = ap length c.deref.ensures.value in
    search rules

pub returns : goal.returns
returns c =
    let b =
    bounded_in c.self.inside.words.items c.self.inside.bounds.items c.args.self.now.rules c.args.place c.index-begin.result.now c.index-end.result.now
    (c.self.invariant.1 ∙ ap (λ (s : Rules). flat_map rule_words s.rules) c.self.view_is)
    (c.self.invariant.2 ∙ ap (λ (s : Rules). bounds_from 0 s.rules) c.self.view_is) c.requires c.index-begin.ensures c.index-end.ensures in
    bounded_words b c.deref.ensures.value
