-- Lemmas: what is shipped by machines that are written by hand.
use Rattle.std.proofs.Common.{◌≡◌, ℕ, zero, suc, ◌+◌, ◌<◌, ◌==◌, ◌&&◌, inl, inr, List, [], ◌∷◌, Contains, cond, slice_index_or, refl, ap, sym, subst, arith}
use Rattle.std.proofs.lemmas.List.Sorted.{IsPermutation-refl}
use Rattle.std.proofs.lemmas.List.Sums.{sum_by-cons}
use Rattle.ic_arena.specs.declared.word.Word.{Word}
use Rattle.ic_arena.specs.declared.word.TheConstants.{NAME}
use Rattle.ic_arena.specs.Word.{name_word}
use Rattle.ic_arena.specs.Piece.{Piece, idle, waits, agent_of}
use Rattle.ic_machine.specs.Held.{IsTagOf}
use Rattle.ic_machine.specs.Moving.{CutEnd, Side, Ships, NothingWaits, nothing, follow, opened, plain, cut, spells_cut, times, KeepWorth}
use Rattle.ic_machine.specs.Worked.{arities_by_hand, z_word, s_word, closed_by_hand, empty_by_hand, open_by_hand, cut_by_hand, ends_before, ends_after, closed_words, open_words}

is_s : IsTagOf arities_by_hand 2 1
is_s = record { symbol = 1; is = refl; known = refl; some = omega arith }

-- S(t) is in row 0, and S(Z) in row 1
abbrev both : List Piece
both = agent_of (s_word 0) (name_word 1 ∷ []) ∷ waits (name_word 1) (s_word 1) ∷ agent_of (s_word 1) (z_word ∷ []) ∷ []

abbrev side : List Piece → Side
side ps = record { places = ps; ends = [] }

pub closed_ships : Ships arities_by_hand 7 closed_by_hand empty_by_hand [] closed_words
closed_ships = record {
  end = record { cut = 7; name = 0 };
  is = refl;
  word = s_word 0;
  middle = side both;
  taken = IsPermutation-refl closed_by_hand.places;
  cut = IsPermutation-refl closed_by_hand.ends;
  more = s_word 0 ∷ s_word 0 ∷ z_word ∷ [];
  spelled = refl;
  spells =
      opened (side both) (side (waits (name_word 1) (s_word 1) ∷ agent_of (s_word 1) (z_word ∷ []) ∷ [])) empty_by_hand (s_word 0) (name_word 1 ∷ []) []
      (s_word 0 ∷ z_word ∷ []) is_s (IsPermutation-refl both) (IsPermutation-refl [])
      (follow (side (waits (name_word 1) (s_word 1) ∷ agent_of (s_word 1) (z_word ∷ []) ∷ [])) (side (agent_of (s_word 1) (z_word ∷ []) ∷ [])) empty_by_hand
      (name_word 1) (s_word 1) [] (s_word 0 ∷ z_word ∷ []) refl (IsPermutation-refl (waits (name_word 1) (s_word 1) ∷ agent_of (s_word 1) (z_word ∷ []) ∷ []))
      (IsPermutation-refl [])
      (opened (side (agent_of (s_word 1) (z_word ∷ []) ∷ [])) (side []) empty_by_hand (s_word 1) (z_word ∷ []) [] (z_word ∷ []) is_s
      (IsPermutation-refl (agent_of (s_word 1) (z_word ∷ []) ∷ [])) (IsPermutation-refl [])
      (plain (side []) empty_by_hand z_word [] [] refl
      (nothing (side []) empty_by_hand (IsPermutation-refl []) (IsPermutation-refl [])))));
}

pub open_ships : Ships arities_by_hand 7 open_by_hand cut_by_hand [] open_words
open_ships = record {
  end = record { cut = 7; name = 0 };
  is = refl;
  word = s_word 0;
  middle = side (agent_of (s_word 0) (name_word 1 ∷ []) ∷ idle (name_word 1) ∷ []);
  taken = IsPermutation-refl open_by_hand.places;
  cut = IsPermutation-refl open_by_hand.ends;
  more = s_word 0 ∷ name_word 9 ∷ [];
  spelled = refl;
  spells =
      opened (side (agent_of (s_word 0) (name_word 1 ∷ []) ∷ idle (name_word 1) ∷ [])) (side (idle (name_word 1) ∷ [])) cut_by_hand (s_word 0)
      (name_word 1 ∷ []) [] (name_word 9 ∷ []) is_s
      (IsPermutation-refl (agent_of (s_word 0) (name_word 1 ∷ []) ∷ idle (name_word 1) ∷ [])) (IsPermutation-refl [])
      (cut (side (idle (name_word 1) ∷ [])) cut_by_hand cut_by_hand (record { cut = 9; name = 1 }) [] []
      (IsPermutation-refl (idle (name_word 1) ∷ [])) (IsPermutation-refl cut_by_hand.ends)
      (nothing cut_by_hand cut_by_hand (IsPermutation-refl cut_by_hand.places) (IsPermutation-refl cut_by_hand.ends)));
}

-- the numbers of cuts that are spelled, and those that are spare
pub open_worth : KeepWorth ends_before ends_after [] open_words
open_worth c =
    let f : Word → ℕ = (λ w. cond {A = ℕ} (w.tag == NAME && w.index == c) 1 0) in
    let one : spells_cut c open_words ≡ cond {A = ℕ} (7 == c) 1 0 + spells_cut c (s_word 0 ∷ name_word 9 ∷ []) =
    sum_by-cons f (name_word 7) (s_word 0 ∷ name_word 9 ∷ []) in
    let two : spells_cut c (s_word 0 ∷ name_word 9 ∷ []) ≡ 0 + spells_cut c (name_word 9 ∷ []) = sum_by-cons f (s_word 0) (name_word 9 ∷ []) in
    let three : spells_cut c (name_word 9 ∷ []) ≡ cond {A = ℕ} (9 == c) 1 0 + 0 = sum_by-cons f (name_word 9) [] in
    let seven : times c (7 ∷ []) ≡ cond {A = ℕ} (7 == c) 1 0 + 0 = sum_by-cons (λ (k : ℕ). cond {A = ℕ} (k == c) 1 0) 7 [] in
    let nine : times c (9 ∷ []) ≡ cond {A = ℕ} (9 == c) 1 0 + 0 = sum_by-cons (λ (k : ℕ). cond {A = ℕ} (k == c) 1 0) 9 [] in
    omega (arith, one, two, three, seven, nine)

no_idle : (w : Word) → Contains cut_by_hand.places (waits (name_word 1) w) → ⊥
no_idle w there = at there.0 there.1 there.2
  where
    at : (k : ℕ) → k < 1 → slice_index_or cut_by_hand.places k (waits (name_word 1) w) ≡ waits (name_word 1) w → ⊥
    at zero lt is = cc
    at (suc k) lt is = absurd (omega arith)

pub open_waits : (¬ NothingWaits 7 open_by_hand) × NothingWaits 9 open_by_hand × NothingWaits 9 cut_by_hand
open_waits = (seven, inl refl, inr (1, (0, omega arith, refl), no_idle))
  where
    one : (n : ℕ) → Contains open_by_hand.ends (record { cut = 7; name = n }) → n ≡ 0
    one n there = at there.0 there.1 there.2
      where
        at : (k : ℕ) → k < 1 → slice_index_or open_by_hand.ends k (record { cut = 7; name = n }) ≡ record { cut = 7; name = n } → n ≡ 0
        at zero lt is = sym (ap (λ (e : CutEnd). e.name) is)
        at (suc k) lt is = absurd (omega arith)

    seven : NothingWaits 7 open_by_hand → ⊥
    seven (inl none) = cc
    seven (inr other) =
        let same = one other.0 other.1 in
        other.2 (s_word 0) (subst (λ (k : ℕ). Contains open_by_hand.places (waits (name_word k) (s_word 0))) (sym same) (0, omega arith, refl))
