-- Lemmas: a word waits for an end of a cut, or none does.
use Rattle.std.proofs.Common.{◌≡◌, ◌⊎◌, ℕ, zero, suc, ◌+◌, ◌<◌, ◌≤◌, ◌==◌, inl, inr, List, [], ◌∷◌, Bool, true, false, cond, Contains, length, map, slice_index_or, refl, ap, sym, subst, ◌∙◌, arith}
use Rattle.std.proofs.lemmas.Bool.Decides.{eqb_tells}
use Rattle.std.proofs.lemmas.List.Sorted.{Contains-permutation, IsPermutation-sym}
use Rattle.std.proofs.lemmas.List.Sums.{sum_by-cons}
use Rattle.ic_arena.specs.declared.word.Word.{Word}
use Rattle.ic_arena.specs.declared.word.TheConstants.{NAME}
use Rattle.ic_arena.specs.Word.{name_word}
use Rattle.ic_arena.specs.Piece.{Piece, equated, idle, waits, agent_of}
use Rattle.ic_machine.specs.declared.telling.Told.{Told}
use Rattle.ic_machine.specs.Moving.{CutEnd, Ends, Ships, end_word, side_of, times, IsTold, NothingWaits}
use Rattle.ic_machine.specs.Net.{Net}
use Rattle.ic_machine.proofs.Ends.{is_same}

first_times : (c m : ℕ) (ms : List ℕ) → times c (m ∷ ms) ≡ cond {A = ℕ} (m == c) 1 0 + times c ms
first_times c m ms = sum_by-cons (λ (k : ℕ). cond {A = ℕ} (k == c) 1 0) m ms

later : {X : Type 0} (y : X) (ys : List X) (x : X) → Contains ys x → Contains (y ∷ ys) x
later y ys x there = (suc there.0, omega (arith, there.1), there.2)

-- what is in no other place is the first
first_or_later : {X : Type 0} (y : X) (ys : List X) (x : X) → Contains (y ∷ ys) x → (y ≡ x) ⊎ Contains ys x
first_or_later y ys x there = at there.0 there.1 there.2
  where
    at : (k : ℕ) → k < length (y ∷ ys) → slice_index_or (y ∷ ys) k x ≡ x → (y ≡ x) ⊎ Contains ys x
    at zero lt is = inl is
    at (suc k) lt is = inr (k, omega arith, is)

-- ---- a word waits for a name

abbrev Waiting : ℕ → List Piece → Type 0
Waiting n ps = (w : Word) × Contains ps (waits (name_word n) w)

abbrev NoneWaits : ℕ → List Piece → Type 0
NoneWaits n ps = (w : Word) → ¬ Contains ps (waits (name_word n) w)

this_waits : (n : ℕ) (p : Piece) → ((w : Word) × (p ≡ waits (name_word n) w)) ⊎ ((w : Word) → ¬ (p ≡ waits (name_word n) w))
this_waits n (equated l r) = inr (λ w e. cc)
this_waits n (idle x) = inr (λ w e. cc)
this_waits n (waits x u) = elim (eqb_tells x.tag NAME) [
  | inl tag ↦ elim (eqb_tells x.index n) [
    | inl index ↦ inl (u, λ i. waits (record { tag = tag.1 i; index = index.1 i }) u)
    | inr apart ↦ inr (λ w e. apart.1 (ap (λ (p : Piece). number_in x p) e))
  ]
  | inr apart ↦ inr (λ w e. apart.1 (ap (λ (p : Piece). tag_in x p) e))
]
  where
    number_in : Word → Piece → ℕ
    number_in v (equated l r) = v.index
    number_in v (idle y) = v.index
    number_in v (waits y t) = y.index
    number_in v (agent_of a ws) = v.index

    tag_in : Word → Piece → ℕ
    tag_in v (equated l r) = v.tag
    tag_in v (idle y) = v.tag
    tag_in v (waits y t) = y.tag
    tag_in v (agent_of a ws) = v.tag
this_waits n (agent_of a ws) = inr (λ w e. cc)

waiting_or_none : (n : ℕ) (ps : List Piece) → Waiting n ps ⊎ NoneWaits n ps
waiting_or_none n [] = inr (λ w there. absurd (let lt : there.0 < 0 = there.1 in omega arith))
waiting_or_none n (p ∷ ps) = by (this_waits n p) (waiting_or_none n ps)
  where
    by : ((w : Word) × (p ≡ waits (name_word n) w)) ⊎ ((w : Word) → ¬ (p ≡ waits (name_word n) w)) → Waiting n ps ⊎ NoneWaits n ps
        → Waiting n (p ∷ ps) ⊎ NoneWaits n (p ∷ ps)
    by (inl here) rest = inl (here.0, (0, omega arith, here.1))
    by (inr not_here) (inl rest) = inl (rest.0, later p ps (waits (name_word n) rest.0) rest.1)
    by (inr not_here) (inr none) = inr (λ w there. elim (first_or_later p ps (waits (name_word n) w) there) [
      | inl here ↦ not_here w here
      | inr after ↦ none w after
    ])

-- ---- an end of a cut

abbrev HasEnd : ℕ → List CutEnd → Type 0
HasEnd c es = (n : ℕ) × Contains es (record { cut = c; name = n })

end_or_none : (c : ℕ) (es : List CutEnd) → HasEnd c es ⊎ (times c (map (λ e. e.cut) es) ≡ 0)
end_or_none c [] = inr refl
end_or_none c (e ∷ es) = by (eqb_tells e.cut c) (end_or_none c es)
  where
    parts : times c (e.cut ∷ map (λ (d : CutEnd). d.cut) es) ≡ cond {A = ℕ} (e.cut == c) 1 0 + times c (map (λ (d : CutEnd). d.cut) es)
    parts = first_times c e.cut (map (λ (d : CutEnd). d.cut) es)

    by : (((e.cut == c) ≡ true) × (e.cut ≡ c)) ⊎ (((e.cut == c) ≡ false) × (e.cut ≡ c → ⊥))
        → HasEnd c es ⊎ (times c (map (λ d. d.cut) es) ≡ 0) → HasEnd c (e ∷ es) ⊎ (times c (map (λ d. d.cut) (e ∷ es)) ≡ 0)
    by (inl same) rest = inl (e.name, (0, omega arith, λ i. record { cut = same.1 i; name = e.name }))
    by (inr apart) (inl rest) = inl (rest.0, later e es (record { cut = c; name = rest.0 }) rest.1)
    by (inr apart) (inr none) =
        let here : cond {A = ℕ} (e.cut == c) 1 0 ≡ 0 = ap (λ (b : Bool). cond {A = ℕ} b 1 0) apart.0 in
        inr (omega (arith, parts, here, none))

-- an end of a cut is counted
end_counted : (c n : ℕ) (es : List CutEnd) → Contains es (record { cut = c; name = n }) → 1 ≤ times c (map (λ e. e.cut) es)
end_counted c n [] there = absurd (let lt : there.0 < 0 = there.1 in omega arith)
end_counted c n (e ∷ es) there = by (first_or_later e es (record { cut = c; name = n }) there) (λ after. end_counted c n es after)
  where
    parts : times c (e.cut ∷ map (λ (d : CutEnd). d.cut) es) ≡ cond {A = ℕ} (e.cut == c) 1 0 + times c (map (λ (d : CutEnd). d.cut) es)
    parts = first_times c e.cut (map (λ (d : CutEnd). d.cut) es)

    by : (e ≡ record { cut = c; name = n }) ⊎ Contains es (record { cut = c; name = n })
        → (Contains es (record { cut = c; name = n }) → 1 ≤ times c (map (λ d. d.cut) es)) → 1 ≤ times c (map (λ d. d.cut) (e ∷ es))
    by (inl same) rest =
        let here : cond {A = ℕ} (e.cut == c) 1 0 ≡ 1 = ap (λ (b : Bool). cond {A = ℕ} b 1 0) (is_same e.cut c (ap (λ (d : CutEnd). d.cut) same)) in
        omega (arith, parts, here)
    by (inr after) rest = let some = rest after in omega (arith, parts, some)

-- a cut has one end, by one name
one_name : (c m n : ℕ) (es : List CutEnd) → times c (map (λ e. e.cut) es) ≤ 1 → Contains es (record { cut = c; name = m })
    → Contains es (record { cut = c; name = n }) → m ≡ n
one_name c m n [] once a b = absurd (let lt : a.0 < 0 = a.1 in omega arith)
one_name c m n (e ∷ es) once a b =
    by (first_or_later e es (record { cut = c; name = m }) a) (first_or_later e es (record { cut = c; name = n }) b) (λ less x y. one_name c m n es less x y)
  where
    parts : times c (e.cut ∷ map (λ (d : CutEnd). d.cut) es) ≡ cond {A = ℕ} (e.cut == c) 1 0 + times c (map (λ (d : CutEnd). d.cut) es)
    parts = first_times c e.cut (map (λ (d : CutEnd). d.cut) es)

    first : (k : ℕ) → e ≡ record { cut = c; name = k } → cond {A = ℕ} (e.cut == c) 1 0 ≡ 1
    first k same = ap (λ (b : Bool). cond {A = ℕ} b 1 0) (is_same e.cut c (ap (λ (d : CutEnd). d.cut) same))

    by : (e ≡ record { cut = c; name = m }) ⊎ Contains es (record { cut = c; name = m })
        → (e ≡ record { cut = c; name = n }) ⊎ Contains es (record { cut = c; name = n })
        → (times c (map (λ d. d.cut) es) ≤ 1 → Contains es (record { cut = c; name = m }) → Contains es (record { cut = c; name = n }) → m ≡ n)
        → m ≡ n
    by (inl x) (inl y) rest = ap (λ (d : CutEnd). d.name) (sym x ∙ y)
    by (inl x) (inr y) rest = let later_one = end_counted c n es y in absurd (omega (arith, parts, first m x, once, later_one))
    by (inr x) (inl y) rest = let later_one = end_counted c m es x in absurd (omega (arith, parts, first n y, once, later_one))
    by (inr x) (inr y) rest = rest (omega (arith, parts, once)) x y

-- ---- the law

pub told_or_nothing : (n : Net) (b : Ends) (t : Told) → IsTold n b t ⊎ NothingWaits t.cut (side_of n b)
told_or_nothing n b t = by (end_or_none t.cut b.ends)
  where
    of_end : (name : ℕ) → Contains b.ends (record { cut = t.cut; name = name }) → Waiting name n.places ⊎ NoneWaits name n.places
        → IsTold n b t ⊎ NothingWaits t.cut (side_of n b)
    of_end name end (inl w) = inl (record { name = name; end = end; word = w.0; waiting = w.1 })
    of_end name end (inr none) = inr (inr (name, end, none))

    by : HasEnd t.cut b.ends ⊎ (times t.cut (map (λ e. e.cut) b.ends) ≡ 0) → IsTold n b t ⊎ NothingWaits t.cut (side_of n b)
    by (inl end) = of_end end.0 end.1 (waiting_or_none end.0 n.places)
    by (inr none) = inr (inl none)

pub never_both : (n : Net) (b : Ends) (t : Told) → times t.cut (map (λ e. e.cut) b.ends) ≤ 1 → IsTold n b t
    → ¬ NothingWaits t.cut (side_of n b)
never_both n b t once told nothing = by nothing
  where
    by : NothingWaits t.cut (side_of n b) → ⊥
    by (inl none) = let some = end_counted t.cut told.name b.ends told.end in absurd (omega (arith, some, none))
    by (inr other) =
        let same : told.name ≡ other.0 = one_name t.cut told.name other.0 b.ends once told.end other.1 in
        other.2 told.word (subst (λ (k : ℕ). Contains n.places (waits (name_word k) told.word)) same told.waiting)

pub shipped_told : (n m : Net) (b d : Ends) (cut size : ℕ) (before after : List Word)
    → Ships n.arities cut (side_of n b) (side_of m d) before after → IsTold n b (record { cut = cut; size = size })
shipped_told n m b d cut size before after s = record {
  name = s.end.name;
  end = Contains-permutation (s.end ∷ s.middle.ends) b.ends (record { cut = cut; name = s.end.name })
      (IsPermutation-sym b.ends (s.end ∷ s.middle.ends) s.cut)
      (0, omega arith, λ i. record { cut = s.is i; name = s.end.name });
  word = s.word;
  waiting = Contains-permutation (waits (end_word s.end) s.word ∷ s.middle.places) n.places (waits (end_word s.end) s.word)
      (IsPermutation-sym n.places (waits (end_word s.end) s.word ∷ s.middle.places) s.taken) (0, omega arith, refl);
}
