use Rattle.std.proofs.Common.{◌≡◌, ◌∙◌, ◌≤◌, ◌++◌, ◌∷◌, ◌<◌, ℕ, List, Option, [], arith, length, refl, subst, sym}
use Rattle.std.specs.Prelude.{IfSome}
use Rattle.std.specs.List.{AllByRecursion}
use Rattle.ic_machine.specs.Plan.{Plans}
use Rattle.ic_workers.proofs.Desks.{come_same}
use Rattle.ic_workers.proofs.Lists.{all_of_both}
use Rattle.ic_workers.proofs.Workings.{come_on}
use Rattle.ic_workers.specs.declared.desk.Desk.{Desk}
use Rattle.ic_workers.specs.inner.Keeping.{parts_at}
use Rattle.ic_workers.proofs.desk.Desk.feed.Goals as goal
use Rattle.ic_workers.proofs.desk.Desk.feed.Goals.{then-pairs-eq0, else-pairs-eq0+in_ok-to+in-Some+in_ok-share+in_ok-push}

-- parts that have slots have them where there are more slots, too
still : (n m : ℕ) (ks : List ℕ) → n ≤ m → AllByRecursion (λ k. k < n) ks → AllByRecursion (λ k. k < m) ks
still n m [] more all = tt
still n m (k ∷ ks) more all = (let low = all.0 in omega (arith, low, more), still n m ks more all.1)

one_more : (n m : ℕ) (old new : List ℕ) (k : ℕ) → new ≡ old ++ k ∷ [] → n ≤ m → k < m → AllByRecursion (λ j. j < n) old
    → AllByRecursion (λ j. j < m) new
one_more n m old new k is more low all =
    let has : ℕ → Type 0 = λ (j : ℕ). j < m in
    subst (AllByRecursion has) (sym is) (all_of_both has old (k ∷ []) (still n m old more all) (low, tt))

pub loop-init : goal.loop-init
loop-init c = record {
  come = come_same c.args.program.now c.args.self.now c.args.self.now refl;
  desk = c.requires.desk;
  made = refl;
  there = c.in_ok-busy.ensures;
}

pub returns-in_default-clause-come : goal.returns-in_default-clause-come
returns-in_default-clause-come c =
    come_on c.args.program.now (parts_at c.args.self.now) (parts_at c.loop.self) (parts_at c.spare.new.self) c.loop.invariant.come
    c.in_ok-to.ensures.come

pub loop-preserved : goal.loop-preserved
loop-preserved c = elim c.if-pairs-eq0.branch [
  | then-pairs-eq0 w ↦ rw w.self-is (rw w.busy-is c.loop.invariant)
  | else-pairs-eq0+in_ok-to+in-Some+in_ok-share+in_ok-push w ↦
      let p : Plans = c.args.program.now in
      let before : Desk = c.loop.self in
      let more : Desk = w.spare.new.self in
      let after : Desk = w.share.new.self in
      let shared = w.in_ok-share.ensures.come p w.in_ok-to.ensures.desk in
      let len = w.share.ensures.len in
      let least = w.in_ok-to.ensures.more in
      let low : w.in-Some.to < length more.parts.items =
      subst (λ (o : Option ℕ). IfSome o (λ k. k < length more.parts.items)) w.in-Some.is w.in_ok-to.ensures.there in
      rw w.self-is (rw w.busy-is (record {
        come = come_on p (parts_at c.args.self.now) (parts_at before) (parts_at after) c.loop.invariant.come
            (come_on p (parts_at before) (parts_at more) (parts_at after) w.in_ok-to.ensures.come shared.0);
        desk = shared.1;
        made = w.share.ensures.made ∙ (w.in_ok-to.ensures.made ∙ c.loop.invariant.made);
        there = one_more (length before.parts.items) (length after.parts.items) c.loop.busy.items w.push.new.self.items _ w.in_ok-push.ensures.items
            (omega (arith, len, least)) (omega (arith, low, len)) c.loop.invariant.there;
      }))
]
