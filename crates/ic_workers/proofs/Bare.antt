-- Lemmas: a part with nothing in it.
use Rattle.std.proofs.Common.{◌≡◌, ℕ, zero, suc, ◌++◌, List, [], ◌∷◌, length, map, slice_index_or, refl, ap, sym, subst, ◌∙◌, arith, inr}
use Rattle.std.specs.List.{AllByRecursion}
use Rattle.std.proofs.lemmas.List.{length-map}
use Rattle.ic_machine.specs.Moving.{CutEnd, end_word}
use Rattle.ic_machine.specs.Net.{Net, pieces, IsStuck}
use Rattle.ic_machine.specs.Plan.{Plans}
use Rattle.ic_machine.specs.Separate.{IsSeparate}
use Rattle.ic_workers.specs.Parts.{Part}
use Rattle.ic_workers.specs.inner.HandsOn.{IsBare}
use Rattle.ic_workers.specs.inner.Keeping.{IsKept}

-- what a machine holds that holds nothing
abbrev pub empty_net : Plans → Net
empty_net p = record {
  arities = p.arities;
  interface = [];
  pending = [];
  aside = [];
  places = [];
  interactions = 0;
  names = 0;
  agents = map (λ k. 0) p.arities;
  counts = map (λ plan. 0) p.plans;
}

zero_counts : {X : Type 0} (xs : List X) (i : ℕ) → ◌≡◌ {A = ℕ} (slice_index_or (map (λ x. 0) xs) i 0) 0
zero_counts [] i = refl
zero_counts (x ∷ xs) zero = refl
zero_counts (x ∷ xs) (suc i) = zero_counts xs i

pub empty_bare : (p : Plans) (q : Part) → q.net ≡ empty_net p → q.borders.ends ≡ [] → IsBare q
empty_bare p q net ends = record {
  pieces = ap pieces net;
  interface = ap (λ (n : Net). n.interface) net;
  ends = ends;
  interactions = ap (λ (n : Net). n.interactions) net;
  counts = λ i. ap (λ (n : Net). slice_index_or n.counts i 0) net ∙ zero_counts p.plans i;
}

pub empty_kept : (p : Plans) (q : Part) → q.net ≡ empty_net p → q.borders.ends ≡ [] → IsKept p q
empty_kept p q net ends = record {
  arities = ap (λ (n : Net). n.arities) net;
  plans = ap (λ (n : Net). length n.counts) net ∙ length-map p.plans (λ plan. 0);
  bordered = subst (λ (es : List CutEnd). IsSeparate q.net.arities (q.net.interface ++ map end_word es) (pieces q.net)) (sym ends)
      (subst (λ (n : Net). IsSeparate n.arities (n.interface ++ []) (pieces n)) (sym net) (record { each = λ w place. omega arith }));
  interface = inr (ap (λ (n : Net). n.interface) net);
  aside = subst (λ (n : Net). AllByRecursion (IsStuck p) n.aside) (sym net) tt;
}
