-- Lists of tokens with a mark between them, as they are written one after the other.
use Rattle.std.proofs.Common.{◌≡◌, ℕ, zero, suc, ◌+◌, ◌<◌, ◌≤◌, List, [], ◌∷◌, ◌++◌, length, get_or, drop, drop-cons, add-one, sym, ap, ◌∙◌, append_assoc, arith}
use Rattle.std.specs.List.{flat_map}
use Rattle.std.proofs.lemmas.Grind.{flat_map-append}
use Rattle.ic_text.specs.declared.token.Mark.{Mark}
use Rattle.ic_text.specs.declared.token.Mark.TheVariants.{Semicolon}
use Rattle.ic_text.specs.Token.{Token, mark, mark_byte, token_text}
use Rattle.ic_text.specs.Source.{separated}
use Rattle.ic_text.specs.Text.{text_of}

pub text_of-append : (ts us : List Token) → text_of (ts ++ us) ≡ text_of ts ++ text_of us
text_of-append ts us = flat_map-append token_text ts us

-- the mark between rules, for crates that cannot name it
abbrev pub between_rules : Mark
between_rules = Semicolon

-- lists of tokens, each after a mark
abbrev pub each_after : Mark → List (List Token) → List Token
each_after m tss = flat_map (λ us. mark m ∷ us) tss

-- what is left of lists with a mark between them from a place on
abbrev pub separated_from : Mark → ℕ → List (List Token) → List Token
separated_from m zero tss = separated m tss
separated_from m (suc n) tss = each_after m tss

-- a mark stands before each but the first
abbrev pub Begun : Mark → ℕ → List ℕ → List ℕ → Type 0
Begun m zero out begun = begun ≡ out
Begun m (suc n) out begun = begun ≡ out ++ mark_byte m ∷ []

pub begun_first : (m : Mark) (n : ℕ) (out begun : List ℕ) → n ≤ 0 → begun ≡ out → Begun m n out begun
begun_first m zero out begun none is = is
begun_first m (suc n) out begun none is = absurd (omega (arith, none))

pub begun_further : (m : Mark) (n : ℕ) (out begun : List ℕ) → 0 < n → begun ≡ out ++ mark_byte m ∷ [] → Begun m n out begun
begun_further m zero out begun some is = absurd (omega (arith, some))
begun_further m (suc n) out begun some is = is

pub next_of : {A : Type 0} (n : ℕ) (xs : List A) (x : A) → n < length xs → x ≡ get_or xs n x → drop n xs ≡ x ∷ drop (n + 1) xs
next_of n xs x below is = rw add-one (drop-cons xs n x below ∙ ap (λ y. y ∷ drop (suc n) xs) (sym is))

further_text : (m : Mark) (n : ℕ) (rest : List (List Token)) → text_of (separated_from m (n + 1) rest) ≡ text_of (each_after m rest)
further_text m n rest = let next : n + 1 ≡ suc n = omega arith in ap (λ k. text_of (separated_from m k rest)) next

next_list : (m : Mark) (n : ℕ) (ts : List Token) (rest : List (List Token)) (out begun new whole : List ℕ) → Begun m n out begun → new ≡ begun ++ text_of ts
    → out ++ text_of (separated_from m n (ts ∷ rest)) ≡ whole → new ++ text_of (separated_from m (n + 1) rest) ≡ whole
next_list m zero ts rest out begun new whole is put all =
    (λ k. put k ++ further_text m 0 rest k)
    ∙ ap (λ l. (l ++ text_of ts) ++ text_of (each_after m rest)) is
    ∙ append_assoc out (text_of ts) (text_of (each_after m rest))
    ∙ ap (λ l. out ++ l) (sym (text_of-append ts (each_after m rest))) ∙ all
next_list m (suc n) ts rest out begun new whole is put all =
    (λ k. put k ++ further_text m (suc n) rest k)
    ∙ ap (λ l. (l ++ text_of ts) ++ text_of (each_after m rest)) is
    ∙ append_assoc (out ++ mark_byte m ∷ []) (text_of ts) (text_of (each_after m rest))
    ∙ append_assoc out (mark_byte m ∷ []) (text_of ts ++ text_of (each_after m rest))
    ∙ ap (λ l. out ++ mark_byte m ∷ l) (sym (text_of-append ts (each_after m rest))) ∙ all

-- one more list is written, where what is left begins with it
pub next_listed : {A : Type 0} (m : Mark) (lists : List A → List (List Token)) (spell : A → List Token) → ((x : A) (xs : List A) → lists (x ∷ xs) ≡ spell x ∷ lists xs)
    → (n : ℕ) (xs : List A) (x : A) (out begun new whole : List ℕ) → n < length xs → x ≡ get_or xs n x → Begun m n out begun → new ≡ begun ++ text_of (spell x)
    → out ++ text_of (separated_from m n (lists (drop n xs))) ≡ whole → new ++ text_of (separated_from m (n + 1) (lists (drop (n + 1) xs))) ≡ whole
next_listed m lists spell more n xs x out begun new whole below is started put all =
    next_list m n (spell x) (lists (drop (n + 1) xs)) out begun new whole started put
    (ap (λ l. out ++ text_of (separated_from m n l)) (sym (ap lists (next_of n xs x below is) ∙ more x (drop (n + 1) xs))) ∙ all)
