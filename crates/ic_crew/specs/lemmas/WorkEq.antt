-- The test of equality of works is equality.
use Rattle.std.specs.Prelude.{◌≡◌, ◌==◌, true, refl}
use Rattle.std.specs.Bool.{Decides}
use Rattle.std.specs.Cmp.{unsigned_Decides}
use Rattle.std.proofs.lemmas.Bool.{and_parts, and_from}
use Rattle.std.proofs.Common.{sym, ◌∙◌, ap}
use Rattle.ic_term.specs.Tree.{tree_eq}
use Rattle.ic_term.specs.lemmas.TreeLaws.{tree_eq-Decides}
use Rattle.ic_rules.specs.RuleSet.{Rules, rules_eq}
use Rattle.ic_rules.specs.lemmas.RuleLaws.{rules_eq-Decides}
use Rattle.ic_round.specs.Works.{PlainWork}
use Rattle.ic_crew.specs.Answers.{AnswerParts}
use Rattle.ic_crew.specs.Matching.{work_eq, is_answer_to}

work_eq-true : (v w : PlainWork) → work_eq v w ≡ true → v ≡ w
work_eq-true v w e =
    let last = and_parts _ (tree_eq v.active.right w.active.right) e in
    let lefts = and_parts _ (tree_eq v.active.left w.active.left) last.0 in
    let rules = and_parts _ (v.active.rule == w.active.rule) lefts.0 in
    let numbers = and_parts (v.place == w.place) (v.base == w.base) rules.0 in
    let place = (unsigned_Decides v.place w.place).0 numbers.0 in
    let base = (unsigned_Decides v.base w.base).0 numbers.1 in
    let rule = (unsigned_Decides v.active.rule w.active.rule).0 rules.1 in
    let left = (tree_eq-Decides v.active.left w.active.left).0 lefts.1 in
    let right = (tree_eq-Decides v.active.right w.active.right).0 last.1 in
    λ i. record { place = place i; base = base i; active = record { rule = rule i; left = left i; right = right i } }

work_eq-refl : (w : PlainWork) → work_eq w w ≡ true
work_eq-refl w =
    and_from _ _ (and_from _ _ (and_from _ _ (and_from _ _ ((unsigned_Decides w.place w.place).1 refl) ((unsigned_Decides w.base w.base).1 refl))
    ((unsigned_Decides w.active.rule w.active.rule).1 refl))
    ((tree_eq-Decides w.active.left w.active.left).1 refl))
    ((tree_eq-Decides w.active.right w.active.right).1 refl)

pub work_eq-Decides : (v w : PlainWork) → Decides (work_eq v w) (v ≡ w)
work_eq-Decides v w = (work_eq-true v w, λ e. ap (work_eq v) (sym e) ∙ work_eq-refl v)

-- an answer to a work has that work and these rules
pub answers_it : (rs : Rules) (w : PlainWork) (a : AnswerParts) → is_answer_to rs w a ≡ true → (w ≡ a.work) × (rs ≡ a.rules)
answers_it rs w a e =
    let parts = and_parts (work_eq w a.work) (rules_eq rs a.rules) e in
    (work_eq-true w a.work parts.0, (rules_eq-Decides rs a.rules).0 parts.1)
