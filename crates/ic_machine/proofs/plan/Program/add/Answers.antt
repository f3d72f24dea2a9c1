use Rattle.std.proofs.Common.{◌≡◌, ℕ, ◌+◌, ◌∷◌, [], ◌++◌, List, Some, IfSome, arith, slice_get, slice_index_or, map, subst, sym, ap, ◌∙◌}
use Rattle.std.proofs.lemmas.List.{map-append}
use Rattle.ic_machine.specs.Plan.{Plans, planned, plan_of}
use Rattle.ic_machine.specs.lemmas.PairLaws.{no_number, plans_added}
use Rattle.ic_machine.specs.inner.Tables.{IsProgram, size_of}
use Rattle.ic_machine.proofs.Needs.{need_added, read_there}
use Rattle.ic_machine.proofs.plan.Program.add.Goals as goal
use Rattle.ic_machine.proofs.plan.Program.add.Goals.{After-push_reserved}

pub push-requires-clause-new : goal.push-requires-clause-new
push-requires-clause-new c =
    let a = c.args.a in
    let b = c.args.b in
    let whole : Plans = record { arities = c.self.inside.arities.items; pairs = c.self.inside.pairs; plans = map planned c.self.inside.plans.items } in
    no_number whole a b c.self.invariant.plans (ap (λ (p : Plans). plan_of p a b) c.self.view_is ∙ c.requires.new)

-- the plans with the new one, as they are held
module _ (c : After-push_reserved) where
  arities : c.args.self.now.arities ≡ c.self.inside.arities.items
  arities = sym (ap (λ (p : Plans). p.arities) c.self.view_is)

  pairs : c.args.self.now.pairs ++ (c.args.a, c.args.b) ∷ [] ≡ c.push.new.self
  pairs = sym (c.in_ok-push.ensures.pushed ∙ ap (λ (p : Plans). p.pairs ++ (c.args.a, c.args.b) ∷ []) c.self.view_is)

  plans : c.args.self.now.plans ++ planned c.args.plan ∷ [] ≡ map planned c.push_reserved.new.self.items
  plans =
      sym (ap (map planned) (c.push_reserved.ensures.items ∙ ap (λ l. l ++ c.args.plan ∷ []) c.reserve.ensures.items)
      ∙ (map-append planned c.self.inside.plans.items (c.args.plan ∷ []) ∙ ap (λ (p : Plans). p.plans ++ planned c.args.plan ∷ []) c.self.view_is))

  kept : IsProgram c.args.self.now c.self.inside.most
  kept = subst (λ (p : Plans). IsProgram p c.self.inside.most) c.self.view_is c.self.invariant

pub invariant_of-self-2 : goal.invariant_of-self-2
invariant_of-self-2 c =
    let p : Plans = c.args.self.now in
    subst (λ (q : Plans). IsProgram q c.greater-self-inside.result) {x = record { arities = p.arities; pairs = p.pairs ++ (c.args.a, c.args.b) ∷ []; plans = p.plans ++ planned c.args.plan ∷ [] }}
    (λ i. record { arities = arities c i; pairs = pairs c i; plans = plans c i })
    (record {
      plans = plans_added p c.args.a c.args.b (planned c.args.plan) (kept c).plans c.requires.a c.requires.b c.requires.new c.requires.plan;
      need = need_added p c.args.a c.args.b (planned c.args.plan) (kept c).plans c.requires.new c.self.inside.most c.need_of.result
          c.greater-self-inside.result (kept c).need
          (λ left right l r.
          let known : (i v d : ℕ) → slice_get p.arities i ≡ Some v → slice_index_or c.self.inside.arities.items i d ≡ v = λ i v d is.
          read_there c.self.inside.arities.items i v d (ap (λ (x : List ℕ). slice_get x i) (sym (arities c)) ∙ is) in
          let one : c.index.result.now ≡ left = c.index.ensures ∙ known c.args.a left c.index.result.now l in
          let two : c.index-2.result.now ≡ right = c.index-2.ensures ∙ known c.args.b right c.index-2.result.now r in
          subst (λ (k : ℕ). IfSome c.need_of.result (λ n. k + size_of (planned c.args.plan) ≡ n)) (omega (arith, one, two)) c.need_of.ensures)
          c.greater-self-inside.ensures.most c.greater-self-inside.ensures.both;
    })

pub returns-clause-sound : goal.returns-clause-sound
returns-clause-sound c = (invariant_of-self-2 c).plans
