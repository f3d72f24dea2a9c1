use Rattle.std.proofs.Common.{◌≡◌, ◌==◌, ◌∷◌, ℕ, true, List, Option, Some, map, refl, sym, ap, subst, ◌∙◌}
use Rattle.std.specs.Option.{MatchOption}
use Rattle.std.specs.Map.{lookup, set_value}
use Rattle.std.specs.List.Sorted.{IsPermutation}
use Rattle.ic_machine.specs.declared.borders.Border.{Border}
use Rattle.ic_machine.specs.Moving.{CutEnd}
use Rattle.ic_machine.specs.inner.Borders.{border_at, cut_at, end_of, ends_of}
use Rattle.ic_machine.proofs.Ends.{ends_marked, paired_marked, paired_same}
use Rattle.ic_machine.proofs.borders.Borders.mark.Goals as goal

pub invariant_of-self : goal.invariant_of-self
invariant_of-self c =
    let m = c.self.inside in
    record {
      paired = paired_same (border_at m.by_cut) (cut_at m.by_name) c.self.invariant.paired (border_at c.insert.new.self) (cut_at m.by_name)
          (λ q. ap (λ (es : List (ℕ × Border)). lookup (λ k. q == k) es) c.in_err-insert.ensures.err) (λ q. refl);
      unique = c.insert.ensures.unique;
      step = c.self.invariant.step;
    }

pub invariant_of-self-2 : goal.invariant_of-self-2
invariant_of-self-2 c =
    let m = c.self.inside in
    let b : Border = c.in-Some.border in
    let there : border_at m.by_cut c.args.cut ≡ Some b = sym (c.copied.ensures ∙ c.get.ensures.value) ∙ c.in-Some.is in
    record {
      paired = paired_marked (border_at m.by_cut) (cut_at m.by_name) c.self.invariant.paired (border_at c.insert.new.self) c.args.cut b
          (record { name = b.name; told = true }) there refl c.in_ok-insert.ensures.updates.0;
      unique = c.insert.ensures.unique;
      step = c.self.invariant.step;
    }

pub returns : goal.returns
returns c =
    let m = c.self.inside in
    let b : Border = c.in-Some.border in
    let x : Border = record { name = b.name; told = true } in
    let es : List (ℕ × Border) = m.by_cut.entries in
    let fs : List (ℕ × Border) = c.insert.new.self.entries in
    let there : border_at m.by_cut c.args.cut ≡ Some b = sym (c.copied.ensures ∙ c.get.ensures.value) ∙ c.in-Some.is in
    let put : fs ≡ set_value (λ k. c.args.cut == k) es x =
    subst (λ (o : Option Border). MatchOption o (IsPermutation ((c.args.cut, x) ∷ es) fs) (λ _. fs ≡ set_value (λ k. c.args.cut == k) es x))
    (c.in_ok-insert.ensures.old ∙ there) c.in_ok-insert.ensures.entries in
    let ends : map end_of fs ≡ map end_of es = ap (map end_of) put ∙ ends_marked c.args.cut b x es there refl in
    ap (λ (l : List CutEnd). record (ends_of m) { ends = l }) ends ∙ c.self.view_is
