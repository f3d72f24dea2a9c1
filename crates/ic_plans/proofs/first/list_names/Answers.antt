use Rattle.std.proofs.Common.{◌≡◌, ◌<◌, ◌++◌, ◌∷◌, [], true, length, take, get_or, subst, sym, ap, ◌∙◌, arith}
use Rattle.std.proofs.lemmas.List.{length-append, take_all, take_more}
use Rattle.ic_names.specs.Table.{found}
use Rattle.ic_plans.proofs.ListedLemmas.{AreListedSoFar, listed-none, listed-again, listed-new, listed-all}
use Rattle.ic_plans.proofs.first.list_names.Goals as goal
use Rattle.ic_plans.proofs.first.list_names.Goals.{in-Some+in_ok-push, in_default+in_ok-set+in_ok-push-2+in_ok-push-3+in_ok-push-4}

pub overflow_cast-place : goal.overflow_cast-place
overflow_cast-place c = omega (arith, c.len-place.ensures, c.loop-name.invariant.few, c.requires)

pub set-requires : goal.set-requires
set-requires c = omega (arith, c.len-place.ensures, c.loop-name.invariant.few, c.requires)

pub loop-name-init : goal.loop-name-init
loop-name-init c = record {
  few = rw c.new-firsts.ensures.items (omega arith);
  listed = rw (c.new-firsts.ensures.items, c.new-single.ensures.items, c.in_ok-places.ensures.items) (listed-none (found c.in_ok-table.table) c.in_ok-table.ensures);
}

pub loop-name-preserved : goal.loop-name-preserved
loop-name-preserved c =
    let ns = c.args.names.now in
    let i = c.loop-name.name-index in
    let n = get_or ns i 0 in
    let firsts = c.loop-name.firsts.items in
    let single = c.loop-name.single.items in
    let places = c.loop-name.places.items in
    let none = found c.in_ok-table.table in
    let old = found c.loop-name.table in
    let before = take i ns in
    let within : i < length ns = omega arith in
    let longer = take_more ns i 0 within in
    let few = c.loop-name.invariant.few in
    let listed = c.loop-name.invariant.listed in
    elim c.match-get.branch [
      | in-Some+in_ok-push w ↦
          let here = sym c.get.ensures ∙ w.in-Some.is in
          let again = listed-again before firsts single places none old listed n w.in-Some.place w.note_again.new.single.items here w.note_again.ensures.len w.note_again.ensures.each in
          rw (w.table-is, w.firsts-is, w.single-is, w.places-is) (record {
            few = omega (arith, few);
            listed = subst (λ l. AreListedSoFar l firsts w.note_again.new.single.items w.push.new.self.items none old) (sym longer)
                (subst (λ l. AreListedSoFar (before ++ n ∷ []) firsts w.note_again.new.single.items l none old) (sym w.in_ok-push.ensures.items) again);
          })
      | in_default+in_ok-set+in_ok-push-2+in_ok-push-3+in_ok-push-4 w ↦
          let absent = sym c.get.ensures ∙ w.in_default.is in
          let last = w.in_ok-push-2.ensures.items in
          let new = found w.set.new.self in
          let more = listed-new before firsts single places none old listed n w.len-place.result new absent (omega (arith, w.len-place.ensures)) w.in_ok-set.ensures.set in
          rw (w.table-is, w.firsts-is, w.single-is, w.places-is) (record {
            few = omega (arith, few, ap length last, length-append firsts (n ∷ []));
            listed = subst (λ l. AreListedSoFar l w.push-in_default.new.self.items w.push-in_default-2.new.self.items w.push-in_default-3.new.self.items none new) (sym longer)
                (subst (λ l. AreListedSoFar (before ++ n ∷ []) l w.push-in_default-2.new.self.items w.push-in_default-3.new.self.items none new) (sym last)
                (subst (λ l. AreListedSoFar (before ++ n ∷ []) (firsts ++ n ∷ []) l w.push-in_default-3.new.self.items none new) (sym w.in_ok-push-3.ensures.items)
                (subst (λ l. AreListedSoFar (before ++ n ∷ []) (firsts ++ n ∷ []) (single ++ true ∷ []) l none new) (sym w.in_ok-push-4.ensures.items) more)));
          })
    ]

pub returns : goal.returns
returns c =
    let ns = c.args.names.now in
    let whole : take c.loop-name.name-index ns ≡ ns = take_all c.loop-name.name-index ns c.loop-name-test.false in
    listed-all ns c.loop-name.firsts.items c.loop-name.single.items c.loop-name.places.items (found c.in_ok-table.table) (found c.loop-name.table)
    (subst (λ l. AreListedSoFar l c.loop-name.firsts.items c.loop-name.single.items c.loop-name.places.items (found c.in_ok-table.table) (found c.loop-name.table)) whole c.loop-name.invariant.listed)
    (omega (arith, c.loop-name.invariant.few))
