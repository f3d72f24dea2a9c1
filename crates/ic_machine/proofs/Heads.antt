-- Links at the head whose registers hold no names.
use Rattle.std.proofs.Common.{◌≡◌, ℕ, zero, suc, ◌+◌, ◌<◌, ◌≤◌, inl, inr, List, [], ◌∷◌, ◌++◌, length, map, take, slice_index_or, ap, refl, sym, subst, ◌∙◌, append_assoc, arith}
use Rattle.std.specs.List.{AllByRecursion}
use Rattle.std.proofs.Math.Seq.{take-suc}
use Rattle.std.proofs.lemmas.Bool.Decides.{leb_tells}
use Rattle.std.proofs.lemmas.List.{append-nil, map-append}
use Rattle.ic_arena.specs.declared.word.Word.{Word}
use Rattle.ic_machine.specs.declared.equation.Equation.{Equation}
use Rattle.ic_machine.specs.declared.plan.Link.{Link}
use Rattle.ic_machine.specs.Net.{IsPair}
use Rattle.ic_machine.specs.Runs.{HaveHead, equation_at}
use Rattle.ic_machine.specs.inner.Linking.{Pushed}
use Rattle.ic_machine.proofs.Fresh.{all_back, all_front}

-- what holds of the first elements holds of fewer
fewer : {X : Type 0} (P : X → Type 0) (xs : List X) (m n : ℕ) → m ≤ n → AllByRecursion P (take n xs)
    → AllByRecursion P (take m xs)
fewer P [] zero n le h = tt
fewer P [] (suc m) n le h = tt
fewer P (x ∷ xs) zero n le h = tt
fewer P (x ∷ xs) (suc m) zero le h = absurd (omega arith)
fewer P (x ∷ xs) (suc m) (suc n) le h = (h.0, fewer P xs m n (omega arith) h.1)

-- all elements are the first ones, if as many are asked for
all_taken : {X : Type 0} (xs : List X) (m n : ℕ) → length xs ≤ m → length xs ≤ n → take m xs ≡ take n xs
all_taken [] zero zero a b = refl
all_taken [] zero (suc n) a b = refl
all_taken [] (suc m) zero a b = refl
all_taken [] (suc m) (suc n) a b = refl
all_taken (x ∷ xs) zero n a b = absurd (omega arith)
all_taken (x ∷ xs) (suc m) zero a b = absurd (omega arith)
all_taken {X} (x ∷ xs) (suc m) (suc n) a b = ap (λ (l : List X). x ∷ l) (all_taken xs m n (omega arith) (omega arith))

-- that a link's registers hold no names
abbrev pub AreOfPairs : List Word → List Link → Type 0
AreOfPairs rs ls = AllByRecursion (λ l. IsPair (equation_at rs l)) ls

-- what is known as so many links were linked: of fewer at the head, and of all
pub record HeadSoFar (links : List Link) (rs : List Word) (i : ℕ) (old new : List Equation) : Type 0 where
  pub head : (n : ℕ) → n ≤ i → AreOfPairs rs (take n links)
      → (more : List Equation) × (new ≡ old ++ (map (equation_at rs) (take n links) ++ more))
  pub all : AreOfPairs rs (take i links) → new ≡ old ++ map (equation_at rs) (take i links)

pub no_head : (links : List Link) (rs : List Word) (old : List Equation) → HeadSoFar links rs 0 old old
no_head links rs old = record {
  head = λ n le all.
      let none : n ≡ 0 = omega arith in
      ([], sym (ap (λ (k : ℕ). old ++ (map (equation_at rs) (take k links) ++ [])) none ∙ whole links));
  all = λ all. sym (bare links);
}
  where
    bare : (links : List Link) → old ++ map (equation_at rs) (take 0 links) ≡ old
    bare [] = append-nil old
    bare (l ∷ ls) = append-nil old

    whole : (links : List Link) → old ++ (map (equation_at rs) (take 0 links) ++ []) ≡ old
    whole [] = append-nil old
    whole (l ∷ ls) = append-nil old

pub one_more : (links : List Link) (rs : List Word) (i : ℕ) (d : Link) (old mid new : List Equation) → i < length links
    → HeadSoFar links rs i old mid → Pushed mid new
    → (IsPair (equation_at rs (slice_index_or links i d)) → new ≡ mid ++ equation_at rs (slice_index_or links i d) ∷ [])
    → HeadSoFar links rs (i + 1) old new
one_more links rs i d old mid new lt so pushed pair =
    let e : Equation = equation_at rs (slice_index_or links i d) in
    let f : List Link → List Equation = λ (l : List Link). map {B = Equation} (equation_at rs) l in
    let next : take (suc i) links ≡ take i links ++ slice_index_or links i d ∷ [] = take-suc links i d lt in
    let whole : AreOfPairs rs (take (suc i) links) → new ≡ old ++ f (take (suc i) links) = λ h.
    let parts = subst (AreOfPairs rs) next h in
    let front = all_front (λ l. IsPair (equation_at rs l)) (take i links) (slice_index_or links i d ∷ []) parts in
    let own = (all_back (λ l. IsPair (equation_at rs l)) (take i links) (slice_index_or links i d ∷ []) parts).0 in
    pair own ∙ (ap (λ (l : List Equation). l ++ e ∷ []) (so.all front) ∙ (append_assoc old (f (take i links)) (e ∷ [])
    ∙ ap (λ (l : List Equation). old ++ l) (sym (ap f next ∙ map-append (equation_at rs) (take i links) (slice_index_or links i d ∷ []))))) in
    let one : suc i ≡ i + 1 = omega arith in
    record {
      head = λ n le h. elim (leb_tells n i) [
        | inl t ↦ (let before = so.head n t.1 h in (
          before.0 ++ pushed.more,
          pushed.after ∙ (ap (λ (l : List Equation). l ++ pushed.more) before.1
              ∙ (append_assoc old (f (take n links) ++ before.0) pushed.more
              ∙ ap (λ (l : List Equation). old ++ l) (append_assoc (f (take n links)) before.0 pushed.more))),
        ))
        | inr t ↦ (let same : n ≡ suc i = (let above = t.1 in omega arith) in (
          [],
          whole (subst (λ (k : ℕ). AreOfPairs rs (take k links)) same h)
              ∙ ap (λ (l : List Equation). old ++ l) (sym (append-nil (f (take (suc i) links)))
              ∙ ap (λ (k : ℕ). f (take k links) ++ []) (sym same)),
        ))
      ];
      all = subst (λ (k : ℕ). AreOfPairs rs (take k links) → new ≡ old ++ f (take k links)) one whole;
    }

-- all links were linked
pub head_known : (links : List Link) (rs : List Word) (i : ℕ) (old new : List Equation) → length links ≤ i
    → HeadSoFar links rs i old new → HaveHead links rs old new
head_known links rs i old new le so = λ n h. elim (leb_tells n i) [
  | inl t ↦ so.head n t.1 h
  | inr t ↦ (let same : take n links ≡ take i links = (let above = t.1 in all_taken links n i (omega arith) le) in (
    [],
    so.all (subst (AreOfPairs rs) same h)
        ∙ ap (λ (l : List Equation). old ++ l) (sym (append-nil (map (equation_at rs) (take i links)))
        ∙ ap (λ (l : List Link). map (equation_at rs) l ++ []) (sym same)),
  ))
]
