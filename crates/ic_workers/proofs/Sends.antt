-- Lemmas: two parts of a desk, of which one sends the other one words.
use Rattle.std.proofs.Common.{◌≡◌, ℕ, zero, suc, ◌<◌, ◌≤◌, List, [], ◌∷◌, ◌++◌, length, map, take, get_or, refl, sym, ap, subst, arith, ◌∙◌, take-append-drop}
use Rattle.std.proofs.Math.ListN.{set}
use Rattle.std.specs.Prelude.{IsPermutation}
use Rattle.std.specs.List.{flat_map, AllByRecursion}
use Rattle.std.proofs.lemmas.List.Sorted.{IsPermutation-append_right, IsPermutation-cons, IsPermutation-sym, IsPermutation-trans}
use Rattle.ic_arena.specs.declared.word.Word.{Word}
use Rattle.ic_machine.specs.declared.equation.Equation.{Equation}
use Rattle.ic_machine.specs.Moving.{times, KeepWorth}
use Rattle.ic_machine.specs.Net.{Net}
use Rattle.ic_machine.specs.Plan.{Plans}
use Rattle.ic_workers.specs.Parts.{Part}
use Rattle.ic_workers.specs.inner.HandsOn.{Come, HandsOn, handed, ordered, stayed}
use Rattle.ic_workers.specs.inner.Keeping.{parts_at, slot, slots_at, Changes, GivesOut, IsDesk, IsKept, ShipsOut, TakesIn}
use Rattle.ic_workers.specs.inner.Sent.{Gave, SameBut, SameCounts, Shipped, Took}
use Rattle.ic_workers.proofs.Contracts.{gave, ship, took, took_counts}
use Rattle.ic_workers.specs.declared.desk.Desk.{Desk}
use Rattle.ic_workers.proofs.Lists.{all_of_permutation, flat_of_map, one_in, one_out, others, to_front_of}

-- ---- slots of which two are set

-- what all slots have
abbrev pub all : {Q : Type 0} → List (List Q) → List Q
all xs = flat_map (λ ps. ps) xs

same_default : {X : Type 0} (xs : List X) (i : ℕ) (d e : X) → i < length xs → get_or xs i d ≡ get_or xs i e
same_default [] i d e lt = absurd (omega (arith, lt))
same_default (x ∷ xs) zero d e lt = refl
same_default (x ∷ xs) (suc i) d e lt = same_default xs i d e (omega (arith, lt))

pub other_stays : {X : Type 0} (xs : List X) (i j : ℕ) (n d : X) → (i ≡ j → ⊥) → get_or (set xs i n) j d ≡ get_or xs j d
other_stays [] i j n d other = refl
other_stays (x ∷ xs) zero zero n d other = absurd (other refl)
other_stays (x ∷ xs) zero (suc j) n d other = refl
other_stays (x ∷ xs) (suc i) zero n d other = refl
other_stays (x ∷ xs) (suc i) (suc j) n d other = other_stays xs i j n d (λ e. other (ap suc e))

-- What is in one slot and what is in another one stand first among all, before both are set and after it.
pub two_slots : {Q : Type 0} (xs : List (List Q)) (i j : ℕ) (a b c d : Q) → i < length xs → j < length xs → (i ≡ j → ⊥)
    → get_or xs i [] ≡ a ∷ [] → get_or xs j [] ≡ b ∷ []
    → (rest : List Q) × IsPermutation (all xs) (a ∷ b ∷ rest) × IsPermutation (all (set (set xs i (c ∷ [])) j (d ∷ []))) (c ∷ d ∷ rest)
two_slots [] i j a b c d low also other first second = absurd (omega (arith, low))
two_slots (x ∷ xs) zero zero a b c d low also other first second = absurd (other refl)
two_slots {Q} (x ∷ xs) zero (suc j) a b c d low also other first second =
    let rest : List Q = others (λ ps. ps) xs j in
    let lt : j < length xs = omega (arith, also) in
    let out : IsPermutation (all xs) (b ∷ rest) = one_out (λ ps. ps) xs j (b ∷ []) lt (sym second ∙ same_default xs j [] (b ∷ []) lt) in (
      rest,
      subst (λ (y : List Q). IsPermutation (y ++ all xs) (a ∷ b ∷ rest)) (sym first) (IsPermutation-cons a (all xs) (b ∷ rest) out),
      IsPermutation-cons c (all (set xs j (d ∷ []))) (d ∷ rest) (one_in (λ ps. ps) xs j (d ∷ []) lt),
    )
two_slots {Q} (x ∷ xs) (suc i) zero a b c d low also other first second =
    let rest : List Q = others (λ ps. ps) xs i in
    let lt : i < length xs = omega (arith, low) in
    let out : IsPermutation (all xs) (a ∷ rest) = one_out (λ ps. ps) xs i (a ∷ []) lt (sym first ∙ same_default xs i [] (a ∷ []) lt) in
    let before : IsPermutation (b ∷ all xs) (a ∷ b ∷ rest) =
    IsPermutation-trans (b ∷ all xs) (b ∷ a ∷ rest) (a ∷ b ∷ rest) (IsPermutation-cons b (all xs) (a ∷ rest) out) (to_front_of (b ∷ []) (a ∷ []) rest) in (
      rest,
      subst (λ (y : List Q). IsPermutation (y ++ all xs) (a ∷ b ∷ rest)) (sym second) before,
      IsPermutation-trans (d ∷ all (set xs i (c ∷ []))) (d ∷ c ∷ rest) (c ∷ d ∷ rest)
          (IsPermutation-cons d (all (set xs i (c ∷ []))) (c ∷ rest) (one_in (λ ps. ps) xs i (c ∷ []) lt)) (to_front_of (d ∷ []) (c ∷ []) rest),
    )
two_slots {Q} (x ∷ xs) (suc i) (suc j) a b c d low also other first second =
    let inner = two_slots xs i j a b c d (omega (arith, low)) (omega (arith, also)) (λ e. other (ap suc e)) first second in
    let rest : List Q = inner.0 in
    let ys : List (List Q) = set (set xs i (c ∷ [])) j (d ∷ []) in (
      x ++ rest,
      IsPermutation-trans (x ++ all xs) (x ++ (a ∷ b ∷ rest)) (a ∷ b ∷ (x ++ rest))
          (IsPermutation-append_right x (all xs) (a ∷ b ∷ rest) inner.1) (to_front_of x (a ∷ b ∷ []) rest),
      IsPermutation-trans (x ++ all ys) (x ++ (c ∷ d ∷ rest)) (c ∷ d ∷ (x ++ rest))
          (IsPermutation-append_right x (all ys) (c ∷ d ∷ rest) inner.2) (to_front_of x (c ∷ d ∷ []) rest),
    )

-- ---- what one part sends another one

-- One part changed, and then another one: so the parts came here, if what both did is to hand on.
pub hands_over : (p : Plans) (from to : ℕ) (P R : Part → Part → Type 0) (old mid new : List (List Part)) → (from ≡ to → ⊥)
    → AllByRecursion (IsKept p) (all old) → Changes from P old mid → Changes to R mid new
    → ((a b c d : Part) (qs : List Part) → IsKept p b → P a c → R b d → c.number ≡ a.number → d.number ≡ b.number
    → HandsOn p.arities (a ∷ b ∷ qs) (c ∷ d ∷ qs)) → Come p (all old) (all new)
hands_over p from to P R old mid new other kept first second hands =
    let a : Part = first.part in
    let b : Part = second.part in
    let c : Part = first.after in
    let d : Part = second.after in
    let also : get_or old to [] ≡ b ∷ [] =
    sym (other_stays old from to (c ∷ []) [] other) ∙ (ap (λ (xs : List (List Part)). get_or xs to []) (sym first.now) ∙ second.before) in
    let there : to < length old = subst (λ (n : ℕ). to < n) (ap length first.now ∙ long old from (c ∷ [])) second.there in
    let two = two_slots old from to a b c d first.there there other first.before also in
    let is : new ≡ set (set old from (c ∷ [])) to (d ∷ []) = second.now ∙ ap (λ (xs : List (List Part)). set xs to (d ∷ [])) first.now in
    let after : IsPermutation (all new) (c ∷ d ∷ two.0) = subst (λ (xs : List (List Part)). IsPermutation (all xs) (c ∷ d ∷ two.0)) (sym is) two.2 in
    let each = all_of_permutation (IsKept p) (all old) (a ∷ b ∷ two.0) two.1 kept in
    let moves = hands a b c d two.0 each.1.0 first.how second.how first.same second.same in
    ordered (all old) (c ∷ d ∷ two.0) (all new)
    (handed (all old) (a ∷ b ∷ two.0) (c ∷ d ∷ two.0) (stayed (all old) (a ∷ b ∷ two.0) two.1) moves)
    (IsPermutation-sym (all new) (c ∷ d ∷ two.0) after)
  where
    long : {X : Type 0} (xs : List X) (i : ℕ) (n : X) → length (set xs i n) ≡ length xs
    long [] i n = refl
    long (x ∷ xs) zero n = refl
    long (x ∷ xs) (suc i) n = ap suc (long xs i n)

-- the same of desks
pub desk_hands_over : (p : Plans) (from to : ℕ) (P R : Part → Part → Type 0) (d m e : Desk) → (from ≡ to → ⊥) → IsDesk p d
    → Changes from P (slots_at d) (slots_at m) → Changes to R (slots_at m) (slots_at e)
    → ((a b c d : Part) (qs : List Part) → IsKept p b → P a c → R b d → c.number ≡ a.number → d.number ≡ b.number
    → HandsOn p.arities (a ∷ b ∷ qs) (c ∷ d ∷ qs)) → Come p (parts_at d) (parts_at e)
desk_hands_over p from to P R d m e other desk first second hands =
    let old : all (slots_at d) ≡ parts_at d = flat_of_map slot d.parts.items in
    let new : all (slots_at e) ≡ parts_at e = flat_of_map slot e.parts.items in
    subst (λ (qs : List Part). Come p qs (parts_at e)) old
    (subst (λ (rs : List Part). Come p (all (slots_at d)) rs) new
    (hands_over p from to P R (slots_at d) (slots_at m) (slots_at e) other (subst (AllByRecursion (IsKept p)) (sym old) desk.each) first second hands))

-- what is said by law of what a part gives
abbrev pub LawOfGiven : Type 0
LawOfGiven = (arities : List ℕ) (a c b d : Part) (qs : List Part) (es : List Equation) (words : List Word)
    → Gave arities es words a c → SameCounts a c → Took arities words b d → SameCounts b d
    → KeepWorth a.borders c.borders [] words → KeepWorth b.borders d.borders words []
    → ((x : ℕ) → times x (map (λ e. e.cut) c.borders.ends) ≤ 1) → ((x : ℕ) → times x (map (λ e. e.cut) d.borders.ends) ≤ 1)
    → HandsOn arities (a ∷ b ∷ qs) (c ∷ d ∷ qs)

-- and of what waits for a cut
abbrev pub LawOfShipped : Type 0
LawOfShipped = (arities : List ℕ) (a c b d : Part) (qs : List Part) (words : List Word)
    → Shipped arities words a c → SameCounts a c → Took arities words b d → SameCounts b d
    → KeepWorth a.borders c.borders [] words → KeepWorth b.borders d.borders words []
    → ((x : ℕ) → times x (map (λ e. e.cut) c.borders.ends) ≤ 1) → ((x : ℕ) → times x (map (λ e. e.cut) d.borders.ends) ≤ 1)
    → HandsOn arities (a ∷ b ∷ qs) (c ∷ d ∷ qs)

pub given_on : LawOfGiven → (p : Plans) (words : List Word) (a b c d : Part) (qs : List Part) → IsKept p b → GivesOut p.arities words a c → TakesIn words b d
    → c.number ≡ a.number → d.number ≡ b.number → HandsOn p.arities (a ∷ b ∷ qs) (c ∷ d ∷ qs)
given_on law p words a b c d qs kept gives takes same number =
    let es : List Equation = take gives.pairs a.net.pending in
    let counts : SameCounts a c = record {
      interactions = ap (λ (n : Net). n.interactions) gives.same;
      counts = ap (λ (n : Net). n.counts) gives.same;
    } in
    let but : SameBut a c = record {
      number = same;
      interface = ap (λ (n : Net). n.interface) gives.same;
      same_arities = ap (λ (n : Net). n.arities) gives.same;
    } in
    let pending : a.net.pending ≡ es ++ c.net.pending =
    sym (take-append-drop gives.pairs a.net.pending) ∙ ap (λ (l : List Equation). es ++ l) (sym gives.pending) in
    law p.arities a c b d qs es words (gave p.arities es words a c but pending (ap (λ (n : Net). n.aside) gives.same) gives.packs) counts
    (took p.arities words b d number kept.arities takes.unpacks) (took_counts words b d takes.unpacks) gives.worth takes.worth gives.once takes.once

pub shipped_on : LawOfShipped → (p : Plans) (cut : ℕ) (words : List Word) (a b c d : Part) (qs : List Part) → IsKept p b → ShipsOut p.arities cut words a c
    → TakesIn words b d → c.number ≡ a.number → d.number ≡ b.number
    → HandsOn p.arities (a ∷ b ∷ qs) (c ∷ d ∷ qs)
shipped_on law p cut words a b c d qs kept ships takes same number =
    let counts : SameCounts a c = record {
      interactions = ap (λ (n : Net). n.interactions) ships.same;
      counts = ap (λ (n : Net). n.counts) ships.same;
    } in
    let but : SameBut a c = record {
      number = same;
      interface = ap (λ (n : Net). n.interface) ships.same;
      same_arities = ap (λ (n : Net). n.arities) ships.same;
    } in
    law p.arities a c b d qs words
    (ship p.arities cut words a c but (ap (λ (n : Net). n.pending) ships.same) (ap (λ (n : Net). n.aside) ships.same) ships.ships) counts
    (took p.arities words b d number kept.arities takes.unpacks) (took_counts words b d takes.unpacks) ships.worth takes.worth ships.once takes.once
