-- The different names of a list, and the registers of all its names.
use Rattle.std.proofs.Common.{◌≡◌, ◌⊎◌, ℕ, zero, suc, ◌+◌, ◌≤◌, ◌==◌, List, [], ◌∷◌, ◌++◌, Bool, true, false, cond, Option, None, Some, length, map, count_by, get_or, not, slice_get, true≢false, refl, sym, ap, subst, ◌∙◌, arith, inl, inr}
use Rattle.std.specs.Prelude.{unwrap_or}
use Rattle.std.proofs.lemmas.Bool.{ne_eqb}
use Rattle.std.proofs.lemmas.List.{length-append, get_or_append_left}
use Rattle.std.proofs.lemmas.List.Sums.{sum_by-cons}
use Rattle.std.proofs.lemmas.Option.{none-some, slice_get_within, slice_get-get_or, get_or_from_slice_get, same_Some}
use Rattle.std.proofs.Math.Seq.{get_or-append_seam}
use Rattle.std.specs.Cmp.{unsigned_Decides}
use Rattle.ic_term.specs.Configuration.{occurrences}
use Rattle.ic_plans.specs.inner.Given.{AreGiven, AreFresh, AreListed, HaveRegisters, Numbers, StandAt, number_in, numbers_from, register_in, repeated, singles}
use Rattle.ic_plans.proofs.FlatLemmas.{count-append, count-cons, count-other, count-same}
use Rattle.ic_plans.proofs.GivenLemmas.{there_more, occurrences-more, fresh-kept, fresh-more}
use Rattle.ic_plans.proofs.NetLemmas.{at-one-place, occurs-there, there-back, there-either, there-occurs}
use Rattle.ic_plans.proofs.RegisterLemmas.{there_front, there_last}
use Rattle.ic_plans.proofs.RuleLemmas.{not_same}

-- ---- at which places names stand

stand-front : (firsts : List ℕ) (n : ℕ) (ks ns : List ℕ) → StandAt firsts ks ns → StandAt (firsts ++ n ∷ []) ks ns
stand-front firsts n [] [] all = tt
stand-front firsts n (k ∷ ks) (m ∷ ns) all = (there_front firsts (n ∷ []) k m all.0, stand-front firsts n ks ns all.1)
stand-front firsts n _ _ all = absurd all

stand-more : (firsts : List ℕ) (k n : ℕ) (ks ns : List ℕ) → slice_get firsts k ≡ Some n → StandAt firsts ks ns → StandAt firsts (ks ++ k ∷ []) (ns ++ n ∷ [])
stand-more firsts k n [] [] here all = (here, tt)
stand-more firsts k n (j ∷ ks) (m ∷ ns) here all = (all.0, stand-more firsts k n ks ns here all.1)
stand-more firsts k n _ _ here all = absurd all

-- what each place has, where it is what the name there has
stand-map : (firsts : List ℕ) (f g : ℕ → ℕ) (ks ns : List ℕ) → ((k n : ℕ) → slice_get firsts k ≡ Some n → f k ≡ g n) → StandAt firsts ks ns → map f ks ≡ map g ns
stand-map firsts f g [] [] same all = refl
stand-map firsts f g (k ∷ ks) (m ∷ ns) same all = λ i. same k m all.0 i ∷ stand-map firsts f g ks ns same all.1 i
stand-map firsts f g _ _ same all = absurd all

-- ---- names one after another

-- The names so far, each numbered by its place, whether it stands there once, and where each of them stands.
pub record AreListedSoFar (before firsts : List ℕ) (single : List Bool) (stands : List ℕ) (none places : Numbers) : Type 0 where
  pub numbered : AreFresh before 0 firsts none places
  pub empty : (x : ℕ) → number_in none x ≡ None
  pub same : length single ≡ length firsts
  pub once : (j x : ℕ) → slice_get firsts j ≡ Some x → get_or single j false ≡ (occurrences x before == 1)
  pub stand : StandAt firsts stands before

module _ (before firsts : List ℕ) (single : List Bool) (stands : List ℕ) (none places : Numbers) (so_far : AreListedSoFar before firsts single stands none places) where
  place-there : (x r : ℕ) → number_in places x ≡ Some r → slice_get firsts r ≡ Some x
  place-there x r here = at ((so_far.numbered.registers_are x r).0 here)
    where
      at : (number_in none x ≡ Some r) ⊎ ((j : ℕ) × (slice_get firsts j ≡ Some x) × (r ≡ 0 + j)) → slice_get firsts r ≡ Some x
      at (inl p) = absurd (none-some r (sym (so_far.empty x) ∙ p))
      at (inr w) = let place : r ≡ w.0 = omega (arith, w.2) in ap (slice_get firsts) place ∙ w.1

  there-place : (x j : ℕ) → slice_get firsts j ≡ Some x → number_in places x ≡ Some j
  there-place x j there = (so_far.numbered.registers_are x j).1 (inr (j, there, omega arith))

  apart-places : (x i j : ℕ) → slice_get firsts i ≡ Some x → slice_get firsts j ≡ Some x → i ≡ j
  apart-places x i j a b = same_Some i j (sym (there-place x i a) ∙ there-place x j b)

  there-before : (x j : ℕ) → slice_get firsts j ≡ Some x → 1 ≤ occurrences x before
  there-before x j there = ((so_far.numbered.others x).1 (j, there)).1

  before-there : (x : ℕ) → 1 ≤ occurrences x before → (j : ℕ) × (slice_get firsts j ≡ Some x)
  before-there x some = (so_far.numbered.others x).0 (so_far.empty x, some)

  -- a name that stands there already
  pub listed-again : (n r : ℕ) (after : List Bool) → number_in places n ≡ Some r → length after ≡ length single
      → ((j : ℕ) → get_or after j false ≡ cond (r == j) false (get_or single j false))
      → AreListedSoFar (before ++ n ∷ []) firsts after (stands ++ r ∷ []) none places
  listed-again n r after here len each = record {
    numbered = fresh-kept before 0 firsts none places n r here so_far.numbered;
    empty = so_far.empty;
    same = len ∙ so_far.same;
    once = λ j x there. at j x there (r == j) refl;
    stand = stand-more firsts r n stands before (place-there n r here) so_far.stand;
  }
    where
      at : (j x : ℕ) → slice_get firsts j ≡ Some x → (b : Bool) → (r == j) ≡ b → get_or after j false ≡ (occurrences x (before ++ n ∷ []) == 1)
      at j x there true e =
          let place : r ≡ j = (unsigned_Decides r j).0 e in
          let is : n ≡ x = same_Some n x (sym (place-there n r here) ∙ ap (slice_get firsts) place ∙ there) in
          let some = there-before x j there in
          let one = occurrences-more x before n in
          let more = count-same n x is in
          let other : (occurrences x (before ++ n ∷ []) == 1) ≡ false = ne_eqb (occurrences x (before ++ n ∷ [])) 1 (λ s. omega arith) in
          each j ∙ ap (λ b. cond b false (get_or single j false)) e ∙ sym other
      at j x there false e =
          let other = λ (s : n ≡ x). not_same r j e (same_Some r j (sym here ∙ ap (number_in places) s ∙ there-place x j there)) in
          let one = occurrences-more x before n in
          let none_more = count-other n x other in
          let same : occurrences x before ≡ occurrences x (before ++ n ∷ []) = omega arith in
          each j ∙ ap (λ b. cond b false (get_or single j false)) e ∙ so_far.once j x there ∙ ap (λ k. k == 1) same

  -- a name that stands there for the first time
  pub listed-new : (n m : ℕ) (after : Numbers) → number_in places n ≡ None → m ≡ length firsts
      → ((q : ℕ) → number_in after q ≡ cond (n == q) (Some m) (number_in places q))
      → AreListedSoFar (before ++ n ∷ []) (firsts ++ n ∷ []) (single ++ true ∷ []) (stands ++ m ∷ []) none after
  listed-new n m after absent place updated = record {
    numbered = fresh-more before 0 firsts none places after n m absent (omega (arith, place)) updated so_far.numbered;
    empty = so_far.empty;
    same = omega (arith, length-append single (true ∷ []), length-append firsts (n ∷ []), so_far.same);
    once = λ j x there. at j x (there_more firsts n j x there);
    stand = stand-more (firsts ++ n ∷ []) m n stands before (ap (slice_get (firsts ++ n ∷ [])) place ∙ there_last firsts n) (stand-front firsts n stands before so_far.stand);
  }
    where
      never : 1 ≤ occurrences n before → ⊥
      never some = let w = before-there n some in none-some w.0 (sym absent ∙ there-place n w.0 w.1)

      none_before : occurrences n before ≡ 0
      none_before = omega (arith, never)

      at : (j x : ℕ) → (slice_get firsts j ≡ Some x) ⊎ ((n ≡ x) × (j ≡ length firsts)) → get_or (single ++ true ∷ []) j false ≡ (occurrences x (before ++ n ∷ []) == 1)
      at j x (inl there) =
          let within = slice_get_within firsts j x there in
          let other = λ (s : n ≡ x). none-some j (sym absent ∙ ap (number_in places) s ∙ there-place x j there) in
          let one = occurrences-more x before n in
          let none_more = count-other n x other in
          let same : occurrences x before ≡ occurrences x (before ++ n ∷ []) = omega arith in
          get_or_append_left single (true ∷ []) false j (omega (arith, within, so_far.same)) ∙ so_far.once j x there ∙ ap (λ k. k == 1) same
      at j x (inr w) =
          let last : j ≡ length single = omega (arith, w.1, so_far.same) in
          let one = occurrences-more x before n in
          let more = count-same n x w.0 in
          let zero_before = ap (λ y. occurrences y before) (sym w.0) ∙ none_before in
          let single_is : occurrences x (before ++ n ∷ []) ≡ 1 = omega arith in
          ap (λ k. get_or (single ++ true ∷ []) k false) last ∙ get_or-append_seam single true [] false
          ∙ sym ((unsigned_Decides (occurrences x (before ++ n ∷ [])) 1).1 single_is)

  -- all of them
  pub listed-all : length firsts ≤ length before → AreListed before firsts single stands
  listed-all few = record {
    few = few;
    same = so_far.same;
    apart = λ x. at-one-place x firsts (apart-places x);
    all = λ x. (
      (λ some. let w = before-there x some in there-occurs x firsts w.0 w.1),
      (λ some. let w = occurs-there x firsts some in there-before x w.0 w.1),
    );
    once = λ j x there. slice_get-get_or single j false (omega (arith, slice_get_within firsts j x there, so_far.same)) ∙ ap Some (so_far.once j x there);
    stand = so_far.stand;
  }

-- no names
pub listed-none : (none : Numbers) → ((x : ℕ) → number_in none x ≡ None) → AreListedSoFar [] [] [] [] none none
listed-none none empty = record {
  numbered = record {
    others = λ x. ((λ w. absurd (omega (arith, w.1))), (λ w. absurd (none-some x (w.1))));
    registers_are = λ x r. ((λ e. inl e), (λ o. at x r o));
  };
  empty = empty;
  same = refl;
  once = λ j x there. absurd (none-some x there);
  stand = tt;
}
  where
    at : (x r : ℕ) → (number_in none x ≡ Some r) ⊎ ((j : ℕ) × (slice_get {X = ℕ} [] j ≡ Some x) × (r ≡ 0 + j)) → number_in none x ≡ Some r
    at x r (inl e) = e
    at x r (inr w) = absurd (none-some x w.1)

-- ---- names that are marked, and the others

pub singles-step : (b : Bool) (n : ℕ) (ns : List ℕ) (cs : List Bool) → singles (n ∷ ns) (b ∷ cs) ≡ cond b (n ∷ singles ns cs) (singles ns cs)
singles-step true n ns cs = refl
singles-step false n ns cs = refl

pub numbers-step : (b : Bool) (i j : ℕ) (cs : List Bool) → numbers_from i j (b ∷ cs) ≡ cond b (i ∷ numbers_from (i + 1) j cs) (j ∷ numbers_from i (j + 1) cs)
numbers-step true i j cs = refl
numbers-step false i j cs = refl

pub unset-step : (b : Bool) (cs : List Bool) → count_by (λ mark. not mark) (b ∷ cs) ≡ cond b 0 1 + count_by (λ mark. not mark) cs
unset-step true cs = sum_by-cons (λ (mark : Bool). cond (not mark) 1 0) true cs
unset-step false cs = sum_by-cons (λ (mark : Bool). cond (not mark) 1 0) false cs

-- a marked name stands among the marked ones, and its number is by its place there
single-there : (ns : List ℕ) (cs : List Bool) (i j k x : ℕ) → slice_get ns k ≡ Some x → slice_get cs k ≡ Some true
    → (m : ℕ) × (slice_get (singles ns cs) m ≡ Some x) × (slice_get (numbers_from i j cs) k ≡ Some (i + m))
single-there [] cs i j k x there is = absurd (none-some x there)
single-there (n ∷ ns) [] i j k x there is = absurd (none-some true is)
single-there (n ∷ ns) (true ∷ cs) i j zero x there is = (0, there, ap Some (omega arith))
single-there (n ∷ ns) (false ∷ cs) i j zero x there is = absurd (true≢false (sym (same_Some false true is)))
single-there (n ∷ ns) (true ∷ cs) i j (suc k) x there is =
    let w = single-there ns cs (i + 1) j k x there is in
    (suc w.0, w.1, w.2 ∙ ap Some (omega arith))
single-there (n ∷ ns) (false ∷ cs) i j (suc k) x there is =
    let w = single-there ns cs i (j + 1) k x there is in
    (w.0, w.1, w.2)

-- and so it is with the others
repeated-there : (ns : List ℕ) (cs : List Bool) (i j k x : ℕ) → slice_get ns k ≡ Some x → slice_get cs k ≡ Some false
    → (m : ℕ) × (slice_get (repeated ns cs) m ≡ Some x) × (slice_get (numbers_from i j cs) k ≡ Some (j + m))
repeated-there [] cs i j k x there is = absurd (none-some x there)
repeated-there (n ∷ ns) [] i j k x there is = absurd (none-some false is)
repeated-there (n ∷ ns) (false ∷ cs) i j zero x there is = (0, there, ap Some (omega arith))
repeated-there (n ∷ ns) (true ∷ cs) i j zero x there is = absurd (true≢false (same_Some true false is))
repeated-there (n ∷ ns) (false ∷ cs) i j (suc k) x there is =
    let w = repeated-there ns cs i (j + 1) k x there is in
    (suc w.0, w.1, w.2 ∙ ap Some (omega arith))
repeated-there (n ∷ ns) (true ∷ cs) i j (suc k) x there is =
    let w = repeated-there ns cs (i + 1) j k x there is in
    (w.0, w.1, w.2)

-- what stands among the marked ones is marked
single-back : (ns : List ℕ) (cs : List Bool) (m x : ℕ) → slice_get (singles ns cs) m ≡ Some x → (k : ℕ) × (slice_get ns k ≡ Some x) × (slice_get cs k ≡ Some true)
single-back [] cs m x there = absurd (none-some x there)
single-back (n ∷ ns) [] m x there = absurd (none-some x there)
single-back (n ∷ ns) (true ∷ cs) zero x there = (0, there, refl)
single-back (n ∷ ns) (true ∷ cs) (suc m) x there = let w = single-back ns cs m x there in (suc w.0, w.1, w.2)
single-back (n ∷ ns) (false ∷ cs) m x there = let w = single-back ns cs m x there in (suc w.0, w.1, w.2)

repeated-back : (ns : List ℕ) (cs : List Bool) (m x : ℕ) → slice_get (repeated ns cs) m ≡ Some x → (k : ℕ) × (slice_get ns k ≡ Some x) × (slice_get cs k ≡ Some false)
repeated-back [] cs m x there = absurd (none-some x there)
repeated-back (n ∷ ns) [] m x there = absurd (none-some x there)
repeated-back (n ∷ ns) (false ∷ cs) zero x there = (0, there, refl)
repeated-back (n ∷ ns) (false ∷ cs) (suc m) x there = let w = repeated-back ns cs m x there in (suc w.0, w.1, w.2)
repeated-back (n ∷ ns) (true ∷ cs) m x there = let w = repeated-back ns cs m x there in (suc w.0, w.1, w.2)

-- there are as many of both as there are names
pub parts-length : (ns : List ℕ) (cs : List Bool) → length cs ≡ length ns → length (singles ns cs) + length (repeated ns cs) ≡ length ns
parts-length [] cs same = refl
parts-length (n ∷ ns) [] same = absurd (omega (arith, same))
parts-length (n ∷ ns) (true ∷ cs) same = let rest = parts-length ns cs (omega (arith, same)) in omega arith
parts-length (n ∷ ns) (false ∷ cs) same = let rest = parts-length ns cs (omega (arith, same)) in omega arith

pub unset-length : (ns : List ℕ) (cs : List Bool) → length cs ≡ length ns → count_by (λ mark. not mark) cs ≡ length (repeated ns cs)
unset-length [] [] same = refl
unset-length (n ∷ ns) (true ∷ cs) same = let rest = unset-length ns cs (omega (arith, same)) in let one = unset-step true cs in omega arith
unset-length (n ∷ ns) (false ∷ cs) same = let rest = unset-length ns cs (omega (arith, same)) in let one = unset-step false cs in omega arith
unset-length _ _ same = absurd (omega (arith, same))

-- no name stands more often in both
parts-few : (x : ℕ) (ns : List ℕ) (cs : List Bool) → occurrences x (singles ns cs) + occurrences x (repeated ns cs) ≤ occurrences x ns
parts-few x [] cs = omega arith
parts-few x (n ∷ ns) [] = omega arith
parts-few x (n ∷ ns) (true ∷ cs) = let rest = parts-few x ns cs in let one = count-cons x n (singles ns cs) in let all = count-cons x n ns in omega arith
parts-few x (n ∷ ns) (false ∷ cs) = let rest = parts-few x ns cs in let one = count-cons x n (repeated ns cs) in let all = count-cons x n ns in omega arith

-- ---- names numbered by their places in a list

abbrev numbered : ℕ → List ℕ → ℕ → Option ℕ
numbered start [] x = None
numbered start (n ∷ ns) x = cond (n == x) (Some start) (numbered (start + 1) ns x)

numbered-place : (start : ℕ) (ns : List ℕ) (x r : ℕ) → numbered start ns x ≡ Some r → (j : ℕ) × (slice_get ns j ≡ Some x) × (r ≡ start + j)
numbered-place start [] x r e = absurd (none-some r e)
numbered-place start (n ∷ ns) x r e = at (n == x) refl (numbered-place (start + 1) ns x r)
  where
    at : (b : Bool) → (n == x) ≡ b → (numbered (start + 1) ns x ≡ Some r → (j : ℕ) × (slice_get ns j ≡ Some x) × (r ≡ (start + 1) + j))
        → (j : ℕ) × (slice_get (n ∷ ns) j ≡ Some x) × (r ≡ start + j)
    at true is later =
        let here = same_Some start r (sym (ap (λ b. cond b (Some start) (numbered (start + 1) ns x)) is) ∙ e) in
        (0, ap Some ((unsigned_Decides n x).0 is), omega (arith, here))
    at false is later =
        let w = later (sym (ap (λ b. cond b (Some start) (numbered (start + 1) ns x)) is) ∙ e) in
        (suc w.0, w.1, omega (arith, w.2))

place-numbered : (start : ℕ) (ns : List ℕ) (x j : ℕ) → occurrences x ns ≤ 1 → slice_get ns j ≡ Some x → numbered start ns x ≡ Some (start + j)
place-numbered start [] x j apart there = absurd (none-some x there)
place-numbered start (n ∷ ns) x zero apart there =
    ap (λ b. cond b (Some start) (numbered (start + 1) ns x)) ((unsigned_Decides n x).1 (same_Some n x there)) ∙ ap Some (omega arith)
place-numbered start (n ∷ ns) x (suc j) apart there =
    let one = count-cons x n ns in
    let some = there-occurs x ns j there in
    let other : (n == x) ≡ false = ne_eqb n x (λ s. let same = count-same n x s in omega arith) in
    let rest = place-numbered (start + 1) ns x j (omega arith) there in
    ap (λ b. cond b (Some start) (numbered (start + 1) ns x)) other ∙ rest ∙ ap Some (omega arith)

-- ---- the registers of all names of a list

module _ (ns firsts : List ℕ) (single : List Bool) (stands : List ℕ) (listed : AreListed ns firsts single stands) (start : ℕ) where
  abbrev given : List ℕ
  given = singles firsts single

  abbrev others : List ℕ
  others = repeated firsts single

  apart-given : (x : ℕ) → occurrences x given ≤ 1
  apart-given x = omega (arith, parts-few x firsts single, listed.apart x)

  apart-all : (x : ℕ) → occurrences x (given ++ others) ≤ 1
  apart-all x = omega (arith, parts-few x firsts single, listed.apart x, count-append x given others)

  -- the mark at a place of a name
  mark-there : (x k : ℕ) (b : Bool) → slice_get firsts k ≡ Some x → slice_get single k ≡ Some b → (occurrences x ns == 1) ≡ b
  mark-there x k b there is = same_Some (occurrences x ns == 1) b (sym (listed.once k x there) ∙ is)

  given-once : (x : ℕ) → occurrences x ns ≡ 1 → (j : ℕ) × (slice_get given j ≡ Some x)
  given-once x once =
      let w = occurs-there x firsts ((listed.all x).0 (omega (arith, once))) in
      let is = listed.once w.0 x w.1 ∙ ap Some ((unsigned_Decides (occurrences x ns) 1).1 once) in
      let v = single-there firsts single 0 0 w.0 x w.1 is in
      (v.0, v.1)

  once-given : (x j : ℕ) → slice_get given j ≡ Some x → occurrences x ns ≡ 1
  once-given x j there =
      let w = single-back firsts single j x there in
      (unsigned_Decides (occurrences x ns) 1).0 (mark-there x w.0 true w.1 w.2)

  given-are : AreGiven ns start given (numbered start given)
  given-are = record {
    once = λ x. ((λ once. given-once x once), (λ w. once-given x w.0 w.1));
    registers_are = λ x r. (
      (λ e. numbered-place start given x r e),
      (λ w. place-numbered start given x w.0 (apart-given x) w.1 ∙ ap Some (sym w.2)),
    );
  }

  other-more : (x j : ℕ) → slice_get others j ≡ Some x → (occurrences x ns == 1) ≡ false
  other-more x j there = let w = repeated-back firsts single j x there in mark-there x w.0 false w.1 w.2

  other-none : (x j : ℕ) → slice_get others j ≡ Some x → numbered start given x ≡ None
  other-none x j there = at (numbered start given x) refl
    where
      at : (o : Option ℕ) → numbered start given x ≡ o → numbered start given x ≡ None
      at None e = e
      at (Some r) e =
          let w = numbered-place start given x r e in
          absurd (true≢false (sym ((unsigned_Decides (occurrences x ns) 1).1 (once-given x w.0 w.1)) ∙ other-more x j there))

  other-occurs : (x j : ℕ) → slice_get others j ≡ Some x → 1 ≤ occurrences x ns
  other-occurs x j there = let w = repeated-back firsts single j x there in (listed.all x).1 (there-occurs x firsts w.0 w.1)

  none-other : (x : ℕ) → numbered start given x ≡ None → 1 ≤ occurrences x ns → (j : ℕ) × (slice_get others j ≡ Some x)
  none-other x none some =
      let w = occurs-there x firsts ((listed.all x).0 some) in
      at w.0 w.1 (occurrences x ns == 1) refl
    where
      at : (k : ℕ) → slice_get firsts k ≡ Some x → (b : Bool) → (occurrences x ns == 1) ≡ b → (j : ℕ) × (slice_get others j ≡ Some x)
      at k there true e =
          let v = single-there firsts single 0 0 k x there (listed.once k x there ∙ ap Some e) in
          absurd (none-some (start + v.0) (sym none ∙ place-numbered start given x v.0 (apart-given x) v.1))
      at k there false e =
          let v = repeated-there firsts single 0 0 k x there (listed.once k x there ∙ ap Some e) in
          (v.0, v.1)

  final-there : (x j : ℕ) → slice_get (given ++ others) j ≡ Some x → numbered start (given ++ others) x ≡ Some (start + j)
  final-there x j there = place-numbered start (given ++ others) x j (apart-all x) there

  fresh-are : AreFresh ns (start + length given) others (numbered start given) (numbered start (given ++ others))
  fresh-are = record {
    others = λ x. ((λ w. none-other x w.0 w.1), (λ w. (other-none x w.0 w.1, other-occurs x w.0 w.1)));
    registers_are = λ x r. ((λ e. there x r e), (λ o. back x r o));
  }
    where
      there : (x r : ℕ) → numbered start (given ++ others) x ≡ Some r
          → (numbered start given x ≡ Some r) ⊎ ((j : ℕ) × (slice_get others j ≡ Some x) × (r ≡ (start + length given) + j))
      there x r e = let w = numbered-place start (given ++ others) x r e in at w.0 w.2 (there-either given others w.0 x w.1)
        where
          at : (j : ℕ) → r ≡ start + j → (slice_get given j ≡ Some x) ⊎ ((i : ℕ) × (j ≡ length given + i) × (slice_get others i ≡ Some x))
              → (numbered start given x ≡ Some r) ⊎ ((i : ℕ) × (slice_get others i ≡ Some x) × (r ≡ (start + length given) + i))
          at j is (inl p) = inl (place-numbered start given x j (apart-given x) p ∙ ap Some (sym is))
          at j is (inr q) = inr (q.0, q.2, omega (arith, is, q.1))

      back : (x r : ℕ) → (numbered start given x ≡ Some r) ⊎ ((j : ℕ) × (slice_get others j ≡ Some x) × (r ≡ (start + length given) + j))
          → numbered start (given ++ others) x ≡ Some r
      back x r (inl e) =
          let w = numbered-place start given x r e in
          final-there x w.0 (there_front given others w.0 x w.1) ∙ ap Some (sym w.2)
      back x r (inr w) =
          let is : start + (length given + w.0) ≡ r = omega (arith, w.2) in
          final-there x (length given + w.0) (there-back given others w.0 x w.1) ∙ ap Some is

  -- the number at a name's place is its register
  number-there : (k x : ℕ) → slice_get firsts k ≡ Some x → get_or (numbers_from start (start + length given) single) k 0 ≡ register_in (numbered start (given ++ others)) x
  number-there k x there = at (occurrences x ns == 1) refl
    where
      at : (b : Bool) → (occurrences x ns == 1) ≡ b → get_or (numbers_from start (start + length given) single) k 0 ≡ register_in (numbered start (given ++ others)) x
      at true e =
          let w = single-there firsts single start (start + length given) k x there (listed.once k x there ∙ ap Some e) in
          get_or_from_slice_get (numbers_from start (start + length given) single) k (start + w.0) 0 w.2
          ∙ sym (ap (λ o. unwrap_or o 0) (final-there x w.0 (there_front given others w.0 x w.1)))
      at false e =
          let w = repeated-there firsts single start (start + length given) k x there (listed.once k x there ∙ ap Some e) in
          let is : (start + length given) + w.0 ≡ start + (length given + w.0) = omega arith in
          get_or_from_slice_get (numbers_from start (start + length given) single) k ((start + length given) + w.0) 0 w.2 ∙ is
          ∙ sym (ap (λ o. unwrap_or o 0) (final-there x (length given + w.0) (there-back given others w.0 x w.1)))

  pub registers-are : (taken : List ℕ) (fresh : ℕ) (registers : List ℕ) → taken ≡ given → fresh + length taken ≡ length firsts
      → registers ≡ map (λ k. get_or (numbers_from start (start + length taken) single) k 0) stands → HaveRegisters ns start taken fresh registers
  registers-are taken fresh registers is few are = record {
    others = others;
    mid = numbered start given;
    final = numbered start (given ++ others);
    are_given = subst (λ l. AreGiven ns start l (numbered start given)) (sym is) given-are;
    are_fresh = subst (λ l. AreFresh ns (start + length l) others (numbered start given) (numbered start (given ++ others))) (sym is) fresh-are;
    fresh_are = omega (arith, few, ap length is, parts-length firsts single listed.same);
    registers_are = are ∙ ap (λ l. map (λ k. get_or (numbers_from start (start + length l) single) k 0) stands) is
        ∙ stand-map firsts (λ k. get_or (numbers_from start (start + length given) single) k 0) (register_in (numbered start (given ++ others))) stands ns (λ k x there. number-there k x there) listed.stand;
  }
