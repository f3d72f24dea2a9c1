-- Writes that are laid over one another.
use Rattle.std.proofs.Common.{◌≡◌, ◌⊎◌, inl, inr, ⊎_elim, ℕ, ◌+◌, ◌-◌, ◌<◌, ◌≤◌, List, [], ◌∷◌, length, get_or, sym, ◌∙◌, ap, subst, arith}
use Rattle.std.proofs.lemmas.List.{ext_get_or}
use Rattle.std.proofs.lemmas.Bool.{cases_lt}
use Rattle.std.proofs.lemmas.Grind.{get_or_head, get_or_tail}
use Rattle.ic_disk.specs.Content.{laid}
use Rattle.ic_disk.specs.lemmas.ContentLaws.{length-laid, laid-before, laid-inside, laid-after}
use Rattle.ic_frames.specs.declared.slot.Slot.{Slot}
use Rattle.ic_frames.specs.Places.{place}
use Rattle.ic_frames.specs.Fields.{IsMade}
use Rattle.ic_frames.specs.Layout.{after_gate, slot_bytes}

-- A write that covers a former one hides it.
pub laid_hides : (at : ℕ) (bytes under file : List ℕ) → length under ≤ length bytes → laid at bytes (laid at under file) ≡ laid at bytes file
laid_hides at bytes under file covers = ext_get_or 0 (laid at bytes below) (laid at bytes file)
    (omega (arith, covers, length-laid at bytes below, length-laid at under file, length-laid at bytes file))
    (λ i inside. each i)
  where
    below : List ℕ
    below = laid at under file

    each : (i : ℕ) → get_or (laid at bytes below) i 0 ≡ get_or (laid at bytes file) i 0
    each i = ⊎_elim
        (λ before. laid-before at bytes below i before ∙ laid-before at under file i before ∙ sym (laid-before at bytes file i before))
        (λ from. ⊎_elim
        (λ until. laid-inside at bytes below i from until ∙ sym (laid-inside at bytes file i from until))
        (λ past. laid-after at bytes below i past ∙ laid-after at under file i (omega (arith, past, covers)) ∙ sym (laid-after at bytes file i past))
        (cases_lt i (at + length bytes)))
        (cases_lt i at)

-- A byte and those after it are one write.
pub laid_joined : (at byte : ℕ) (bytes file : List ℕ) → laid at (byte ∷ []) (laid (at + 1) bytes file) ≡ laid at (byte ∷ bytes) file
laid_joined at byte bytes file = ext_get_or 0 (laid at (byte ∷ []) after) (laid at (byte ∷ bytes) file)
    (omega (arith, length-laid at (byte ∷ []) after, length-laid (at + 1) bytes file, length-laid at (byte ∷ bytes) file))
    (λ i inside. each i)
  where
    after : List ℕ
    after = laid (at + 1) bytes file

    first : (i : ℕ) → at ≤ i → i < at + 1 → get_or (laid at (byte ∷ []) after) i 0 ≡ get_or (laid at (byte ∷ bytes) file) i 0
    first i from until =
        let here : i - at ≡ 0 = omega (arith, from, until) in
        laid-inside at (byte ∷ []) after i from (omega (arith, until))
        ∙ get_or_head byte [] (i - at) 0 here
        ∙ sym (get_or_head byte bytes (i - at) 0 here)
        ∙ sym (laid-inside at (byte ∷ bytes) file i from (omega (arith, until)))

    rest : (i : ℕ) → at + 1 ≤ i → get_or (laid at (byte ∷ []) after) i 0 ≡ get_or (laid at (byte ∷ bytes) file) i 0
    rest i from = ⊎_elim
        (λ until.
        let there : i - at - 1 ≡ i - (at + 1) = omega (arith, from) in
        laid-after at (byte ∷ []) after i (omega (arith, from))
        ∙ laid-inside (at + 1) bytes file i from until
        ∙ ap (λ (k : ℕ). get_or bytes k 0) (sym there)
        ∙ sym (get_or_tail byte bytes (i - at) 0 (omega (arith, from)))
        ∙ sym (laid-inside at (byte ∷ bytes) file i (omega (arith, from)) (omega (arith, until))))
        (λ past.
        laid-after at (byte ∷ []) after i (omega (arith, from))
        ∙ laid-after (at + 1) bytes file i past
        ∙ sym (laid-after at (byte ∷ bytes) file i (omega (arith, past))))
        (cases_lt i (at + 1 + length bytes))

    each : (i : ℕ) → get_or (laid at (byte ∷ []) after) i 0 ≡ get_or (laid at (byte ∷ bytes) file) i 0
    each i = ⊎_elim
        (λ before.
        laid-before at (byte ∷ []) after i before
        ∙ laid-before (at + 1) bytes file i (omega (arith, before))
        ∙ sym (laid-before at (byte ∷ bytes) file i before))
        (λ from. ⊎_elim (λ here. first i from here) (λ past. rest i past) (cases_lt i (at + 1)))
        (cases_lt i at)

-- the first byte written once more
pub laid_again : (at byte gate : ℕ) (bytes file : List ℕ) → laid at (byte ∷ []) (laid at (gate ∷ bytes) file) ≡ laid at (byte ∷ bytes) file
laid_again at byte gate bytes file =
    ap (λ (f : List ℕ). laid at (byte ∷ []) f) (sym (laid_joined at gate bytes file))
    ∙ laid_hides at (byte ∷ []) (gate ∷ []) (laid (at + 1) bytes file) (omega arith)
    ∙ laid_joined at byte bytes file

-- The three writes of a keep, of which the first may be left out, are one of the whole slot.
slot_written : (at : ℕ) (bytes c0 c1 c2 c3 : List ℕ) → (c1 ≡ c0) ⊎ (c1 ≡ laid at (0 ∷ []) c0) → (c2 ≡ laid (at + 1) bytes c1) ⊎ (c2 ≡ laid at (0 ∷ bytes) c1)
    → c3 ≡ laid at (1 ∷ []) c2 → c3 ≡ laid at (1 ∷ bytes) c0
slot_written at bytes c0 c1 c2 c3 first second third =
    third
    ∙ ⊎_elim
    (λ after. ap (λ (f : List ℕ). laid at (1 ∷ []) f) after ∙ laid_joined at 1 bytes c1)
    (λ whole. ap (λ (f : List ℕ). laid at (1 ∷ []) f) whole ∙ laid_again at 1 0 bytes c1)
    second
    ∙ ⊎_elim
    (λ same. ap (λ (f : List ℕ). laid at (1 ∷ bytes) f) same)
    (λ closed. ap (λ (f : List ℕ). laid at (1 ∷ bytes) f) closed ∙ laid_hides at (1 ∷ bytes) (0 ∷ []) c0 (omega arith))
    first

pub keep_written : (t0 t1 t2 : Slot) (n0 n1 : ℕ) (body c0 c1 c2 c3 : List ℕ) → t1 ≡ t0 → t2 ≡ t1 → n1 ≡ n0
    → (c1 ≡ c0) ⊎ (c1 ≡ laid (place t0) (0 ∷ []) c0)
    → (IsMade c1 → c2 ≡ laid (place t1 + 1) (after_gate (n1 + 1) body) c1)
    → (¬ IsMade c1 → c2 ≡ laid (place t1) (0 ∷ after_gate (n1 + 1) body) c1)
    → c3 ≡ laid (place t2) (1 ∷ []) c2 → c3 ≡ laid (place t0) (slot_bytes (n0 + 1) body) c0
keep_written t0 t1 t2 n0 n1 body c0 c1 c2 c3 same_slot still_same same_number first made not_made third =
    slot_written (place t0) (after_gate (n0 + 1) body) c0 c1 c2 c3 first
    (⊎_elim
    (λ cut. inr (subst (λ (t : Slot). c2 ≡ laid (place t) (0 ∷ after_gate (n0 + 1) body) c1) same_slot
    (subst (λ (n : ℕ). c2 ≡ laid (place t1) (0 ∷ after_gate (n + 1) body) c1) same_number (not_made (λ is. omega (arith, is, cut))))))
    (λ long. inl (subst (λ (t : Slot). c2 ≡ laid (place t + 1) (after_gate (n0 + 1) body) c1) same_slot
    (subst (λ (n : ℕ). c2 ≡ laid (place t1 + 1) (after_gate (n + 1) body) c1) same_number (made long))))
    (cases_lt (length c1) 4194317))
    (subst (λ (t : Slot). c3 ≡ laid (place t) (1 ∷ []) c2) (still_same ∙ same_slot) third)
