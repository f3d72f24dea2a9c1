-- The lines of a text.
use Rattle.std.proofs.Common.{◌≡◌, ℕ, ◌==◌, List, [], ◌∷◌, ◌++◌, false, refl, sym, ap, ◌∙◌, inl, inr}
use Rattle.std.specs.List.{AllByRecursion, flat_map, onto_first}
use Rattle.std.proofs.lemmas.Bool.{cases_Bool, or_parts, or_from, eqb-true}
use Rattle.ic_lines.specs.Lines.{has_feed, ended, lines}

-- a text with a byte has a line
pub record HasLine (ls : List (List ℕ)) : Type 0 where
  pub line : List ℕ
  pub rest : List (List ℕ)
  pub is : ls ≡ line ∷ rest

onto_some : (b : ℕ) (ls : List (List ℕ)) → HasLine (onto_first b ls)
onto_some b [] = record { line = b ∷ []; rest = []; is = refl }
onto_some b (l ∷ ls) = record { line = b ∷ l; rest = ls; is = refl }

pub some_line : (b : ℕ) (bs : List ℕ) → HasLine (lines (b ∷ bs))
some_line b bs = elim (cases_Bool (b == 10)) [
  | inl e ↦ record { line = []; rest = lines bs; is = rw e refl }
  | inr e ↦ (let h = onto_some b (lines bs) in record { line = h.line; rest = h.rest; is = rw e h.is })
]

some_line_ended : (bs : List ℕ) → HasLine (lines (ended bs))
some_line_ended [] = some_line 10 []
some_line_ended (b ∷ bs) = some_line b (ended bs)

pub lines_first : (line rest : List ℕ) → has_feed line ≡ false → lines (line ++ 10 ∷ rest) ≡ line ∷ lines rest
lines_first [] rest unfed = refl
lines_first (b ∷ bs) rest unfed =
    let parts = or_parts (b == 10) (has_feed bs) unfed in
    rw (parts.0, lines_first bs rest parts.1) refl

pub lines_last : (b : ℕ) (line : List ℕ) → has_feed (b ∷ line) ≡ false → lines (b ∷ line) ≡ (b ∷ line) ∷ []
lines_last b [] unfed = let parts = or_parts (b == 10) (has_feed []) unfed in rw parts.0 refl
lines_last b (c ∷ cs) unfed =
    let parts = or_parts (b == 10) (has_feed (c ∷ cs)) unfed in
    let rest : lines (c ∷ cs) ≡ (c ∷ cs) ∷ [] = lines_last c cs parts.1 in
    let first : lines (b ∷ c ∷ cs) ≡ onto_first b (lines (c ∷ cs)) = rw parts.0 refl in
    first ∙ ap (onto_first b) rest

-- a front without a line feed begins the first line
pub record Begins (front : List ℕ) (ls : List (List ℕ)) : Type 0 where
  pub more : List ℕ
  pub rest : List (List ℕ)
  pub is : ls ≡ (front ++ more) ∷ rest

onto_begins : (b : ℕ) (ls : List (List ℕ)) → Begins (b ∷ []) (onto_first b ls)
onto_begins b [] = record { more = []; rest = []; is = refl }
onto_begins b (l ∷ ls) = record { more = l; rest = ls; is = refl }

pub lines_begin : (b : ℕ) (front rest : List ℕ) → has_feed (b ∷ front) ≡ false → Begins (b ∷ front) (lines ((b ∷ front) ++ rest))
lines_begin b [] rest unfed =
    let parts = or_parts (b == 10) (has_feed []) unfed in
    let h = onto_begins b (lines rest) in
    record { more = h.more; rest = h.rest; is = rw parts.0 h.is }
lines_begin b (c ∷ cs) rest unfed =
    let parts = or_parts (b == 10) (has_feed (c ∷ cs)) unfed in
    let h = lines_begin c cs rest parts.1 in
    let first : lines ((b ∷ c ∷ cs) ++ rest) ≡ onto_first b (lines ((c ∷ cs) ++ rest)) = rw parts.0 refl in
    record { more = h.more; rest = h.rest; is = first ∙ ap (onto_first b) h.is }

abbrev Open : List ℕ → Type 0
Open line = has_feed line ≡ false

onto_open : (b : ℕ) (ls : List (List ℕ)) → (b == 10) ≡ false → AllByRecursion Open ls → AllByRecursion Open (onto_first b ls)
onto_open b [] e all = (or_from (b == 10) false e refl, tt)
onto_open b (l ∷ ls) e all = (or_from (b == 10) (has_feed l) e all.0, all.1)

pub lines_open : (text : List ℕ) → AllByRecursion (λ line. has_feed line ≡ false) (lines text)
lines_open [] = tt
lines_open (b ∷ bs) = elim (cases_Bool (b == 10)) [
  | inl e ↦ rw e (refl, lines_open bs)
  | inr e ↦ rw e (onto_open b (lines bs) e (lines_open bs))
]

-- ---- a text that ends with a line feed

onto_whole : (b : ℕ) (ls : List (List ℕ)) → HasLine ls → flat_map ended (onto_first b ls) ≡ b ∷ flat_map ended ls
onto_whole b [] h = let e = h.is in cc
onto_whole b (l ∷ ls) h = refl

pub lines_whole : (text : List ℕ) → flat_map ended (lines (ended text)) ≡ ended text
lines_whole [] = refl
lines_whole (b ∷ bs) = elim (cases_Bool (b == 10)) [
  | inl e ↦ (let first : lines (ended (b ∷ bs)) ≡ [] ∷ lines (ended bs) = rw e refl in
      ap (flat_map ended) first ∙ ap (λ xs. 10 ∷ xs) (lines_whole bs) ∙ ap (λ x. x ∷ ended bs) (sym (eqb-true b 10 e)))
  | inr e ↦ (let first : lines (ended (b ∷ bs)) ≡ onto_first b (lines (ended bs)) = rw e refl in
      ap (flat_map ended) first ∙ onto_whole b (lines (ended bs)) (some_line_ended bs) ∙ ap (λ xs. b ∷ xs) (lines_whole bs))
]

onto_joined : (b : ℕ) (ls more : List (List ℕ)) → HasLine ls → onto_first b (ls ++ more) ≡ onto_first b ls ++ more
onto_joined b [] more h = let e = h.is in cc
onto_joined b (l ∷ ls) more h = refl

pub lines_joined : (text more : List ℕ) → lines (ended text ++ more) ≡ lines (ended text) ++ lines more
lines_joined [] more = refl
lines_joined (b ∷ bs) more = elim (cases_Bool (b == 10)) [
  | inl e ↦ (let first : lines (ended (b ∷ bs)) ≡ [] ∷ lines (ended bs) = rw e refl in
      let both : lines (ended (b ∷ bs) ++ more) ≡ [] ∷ lines (ended bs ++ more) = rw e refl in
      both ∙ ap (λ ls. [] ∷ ls) (lines_joined bs more) ∙ ap (λ ls. ls ++ lines more) (sym first))
  | inr e ↦ (let first : lines (ended (b ∷ bs)) ≡ onto_first b (lines (ended bs)) = rw e refl in
      let both : lines (ended (b ∷ bs) ++ more) ≡ onto_first b (lines (ended bs ++ more)) = rw e refl in
      both ∙ ap (onto_first b) (lines_joined bs more) ∙ onto_joined b (lines (ended bs)) (lines more) (some_line_ended bs)
      ∙ ap (λ ls. ls ++ lines more) (sym first))
]
