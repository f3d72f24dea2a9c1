use Rattle.std.proofs.Common.{◌≡◌, ◌==◌, ◌&&◌, ◌||◌, ℕ, Bool, true, false, cond, refl, sym, ap, ap₂, ◌∙◌, arith}
use Rattle.std.specs.declared.cmp.Ordering.{Ordering}
use Rattle.std.specs.declared.cmp.Ordering.TheVariants.{Less, Equal, Greater}
use Rattle.std.specs.Ordering.{nat_cmp, ordering_then, is_eq}
use Rattle.std.specs.BTreeSet.{contains}
use Rattle.std.proofs.lemmas.Bool.Decides.{nat_tests}
use Rattle.ic_expand.specs.inner.Given.{has_place, place_cmp}
use Rattle.ic_expand.proofs.given.note_pair.Goals as goal

same_test : (a b : ℕ) → is_eq (nat_cmp a b) ≡ (b == a)
same_test a b = grind (arith, nat_tests)

then_eq : (o p : Ordering) → is_eq (ordering_then o p) ≡ (is_eq o && is_eq p)
then_eq Less p = refl
then_eq Equal p = refl
then_eq Greater p = refl

as_or : (a c : Bool) → cond a true c ≡ (a || c)
as_or true c = refl
as_or false c = refl

pub returns-in_ok-insert : goal.returns-in_ok-insert
returns-in_ok-insert c = λ i j.
    let one = c.in-Some-Some.one in
    let other = c.in-Some-Some.other in
    let old = contains place_cmp c.args.given.now (i, j) in
    let same = then_eq (nat_cmp one i) (nat_cmp other j) ∙ ap₂ (λ a b. a && b) (same_test one i) (same_test other j)
    ∙ sym (ap₂ (λ a b. has_place i a && has_place j b) c.in-Some-Some.is-0 c.in-Some-Some.is-1) in
    c.in_ok-insert.ensures.updates.0 (i, j) ∙ ap (λ b. cond b true old) same ∙ as_or (has_place i c.args.first && has_place j c.args.second) old
