use Rattle.std.proofs.Common.{◌≡◌, ◌==◌, ◌∷◌, ℕ, false, List, Option, Result, Ok, Err, Some, cond, map, refl, sym, ap, subst, ◌∙◌}
use Rattle.std.specs.Prelude.{OnErr, MatchOption}
use Rattle.std.specs.Map.{lookup, set_value}
use Rattle.std.specs.List.Sorted.{IsPermutation}
use Rattle.std.proofs.lemmas.List.Sorted.{IsPermutation-map, IsPermutation-sym}
use Rattle.ic_machine.specs.declared.borders.Border.{Border}
use Rattle.ic_machine.specs.Moving.{CutEnd, Ends, times}
use Rattle.ic_machine.specs.inner.Borders.{border_at, cut_at, end_of, ends_of}
use Rattle.ic_machine.proofs.Ends.{cut_free, name_free, paired_added, paired_same}
use Rattle.ic_machine.proofs.borders.Borders.add.Goals as goal

on_err : {A E P : Type 0} (r : Result A E) → P → OnErr r P
on_err (Ok a) p = tt
on_err (Err e) p = p

-- a growth of the map of names was refused
pub invariant_of-self : goal.invariant_of-self
invariant_of-self c =
    let m = c.self.inside in
    record {
      paired = paired_same (border_at m.by_cut) (cut_at m.by_name) c.self.invariant.paired (border_at m.by_cut) (cut_at c.reserve.new.self)
          (λ q. refl) (λ q. c.reserve.ensures.entries.2 q);
      unique = c.self.invariant.unique;
      step = c.self.invariant.step;
    }

-- or of the other one
pub invariant_of-self-in_err-insert : goal.invariant_of-self-in_err-insert
invariant_of-self-in_err-insert c =
    let m = c.self.inside in
    record {
      paired = paired_same (border_at m.by_cut) (cut_at m.by_name) c.self.invariant.paired (border_at c.insert.new.self) (cut_at c.reserve.new.self)
          (λ q. ap (λ (es : List (ℕ × Border)). lookup (λ k. q == k) es) c.in_err-insert.ensures.err) (λ q. c.reserve.ensures.entries.2 q);
      unique = c.insert.ensures.unique;
      step = c.self.invariant.step;
    }

pub invariant_of-self-2 : goal.invariant_of-self-2
invariant_of-self-2 c =
    let m = c.self.inside in
    let b : Border = record { name = c.args.name; told = false } in
    let free = cut_free c.args.cut m.by_cut.entries
    (subst (λ (x : Ends). times c.args.cut (map (λ (e : CutEnd). e.cut) x.ends) ≡ 0) (sym c.self.view_is) c.requires.cut) in
    let new = name_free m.by_cut (cut_at m.by_name) c.self.invariant.paired c.args.name
    (subst (λ (x : Ends). times c.args.name (map (λ (e : CutEnd). e.name) x.ends) ≡ 0) (sym c.self.view_is) c.requires.name) in
    record {
      paired = paired_added (border_at m.by_cut) (cut_at m.by_name) c.self.invariant.paired (border_at c.insert.new.self) (cut_at c.insert-2.new.self)
          c.args.cut b free new c.in_ok-insert.ensures.updates.0
          (λ q. c.in_ok-insert-2.ensures.updates.0 q ∙ ap (cond (c.args.name == q) (Some c.args.cut)) (c.reserve.ensures.entries.2 q));
      unique = c.insert.ensures.unique;
      step = c.self.invariant.step;
    }

pub returns-in_err-reserve-clause-same : goal.returns-in_err-reserve-clause-same
returns-in_err-reserve-clause-same c = on_err c.from_residual.result c.self.view_is

pub returns-in_err-insert-clause-same : goal.returns-in_err-insert-clause-same
returns-in_err-insert-clause-same c =
    let m = c.self.inside in
    let ends : map end_of c.insert.new.self.entries ≡ map end_of m.by_cut.entries = ap (map end_of) c.in_err-insert.ensures.err in
    on_err c.from_residual-in_err-insert.result
    (ap (λ (l : List CutEnd). record (ends_of m) { ends = l }) ends ∙ c.self.view_is)

pub returns-clause-added : goal.returns-clause-added
returns-clause-added c =
    let m = c.self.inside in
    let b : Border = record { name = c.args.name; told = false } in
    let es : List (ℕ × Border) = m.by_cut.entries in
    let fs : List (ℕ × Border) = c.insert.new.self.entries in
    let free = cut_free c.args.cut es
    (subst (λ (x : Ends). times c.args.cut (map (λ (e : CutEnd). e.cut) x.ends) ≡ 0) (sym c.self.view_is) c.requires.cut) in
    let put : IsPermutation ((c.args.cut, b) ∷ es) fs =
    subst (λ (o : Option Border). MatchOption o (IsPermutation ((c.args.cut, b) ∷ es) fs) (λ _. fs ≡ set_value (λ k. c.args.cut == k) es b))
    (c.in_ok-insert.ensures.old ∙ free) c.in_ok-insert.ensures.entries in
    subst (λ (x : Ends). IsPermutation (map end_of fs) (record { cut = c.args.cut; name = c.args.name } ∷ x.ends)) c.self.view_is
    (IsPermutation-sym (map end_of ((c.args.cut, b) ∷ es)) (map end_of fs) (IsPermutation-map end_of ((c.args.cut, b) ∷ es) fs put))

pub returns-clause-numbers : goal.returns-clause-numbers
returns-clause-numbers c = ap (λ (x : Ends). record x { ends = map end_of c.insert.new.self.entries }) c.self.view_is
