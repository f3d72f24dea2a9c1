-- Words of terms, and how many terms are due after them.
use Rattle.std.proofs.Common.{◌≡◌, ℕ, zero, suc, ◌+◌, ◌-◌, ◌<◌, ◌≤◌, List, [], ◌∷◌, ◌++◌, length, refl, sym, ap, subst, ◌∙◌, append_assoc, append-nil, arith}
use Rattle.std.proofs.lemmas.List.{length-append, drop_at}
use Rattle.ic_flat.specs.declared.word.Word.{Word}
use Rattle.ic_flat.specs.declared.word.Word.TheVariants.{Name, Agent}
use Rattle.ic_flat.specs.Words.{arguments, forest, IsWhole}
use Rattle.ic_flat.specs.lemmas.WordLaws.{length-forest, forest-append, whole-drop}

-- Of so many terms, this many are due after words: where what follows writes these, the whole writes those, and it does only then.
pub record IsDue (count due : ℕ) (ws : List Word) : Type 0 where
  pub enough : (zs : List Word) → IsWhole zs → due ≤ length (forest zs) → IsWhole (ws ++ zs) × (length (forest (ws ++ zs)) + due ≡ length (forest zs) + count)
  pub needed : (zs : List Word) → IsWhole (ws ++ zs) → count ≤ length (forest (ws ++ zs)) → due ≤ length (forest zs)

pub IsDue-next : {count due : ℕ} {ws : List Word} (w : Word) → IsDue count due ws → 0 < due → IsDue count (due - 1 + arguments w) (ws ++ w ∷ [])
IsDue-next {count} {due} {ws} w is some = record {
  enough = λ zs whole there.
      let split = append_assoc ws (w ∷ []) zs in
      let one : arguments w ≤ length (forest zs) = omega (arith, there) in
      let more = length-forest w zs one in
      let all = is.enough (w ∷ zs) (one, whole) (omega (arith, more, there, some)) in
      (subst (λ l. IsWhole l) (sym split) all.0, omega (arith, ap (λ l. length (forest l)) split, all.1, more, some));
  needed = λ zs whole there.
      let split = append_assoc ws (w ∷ []) zs in
      let joined = subst (λ l. IsWhole l) split whole in
      let after = subst (λ l. IsWhole l) (drop_at ws (w ∷ zs) (length ws) refl) (whole-drop (length ws) (ws ++ w ∷ zs) joined) in
      let more = length-forest w zs after.0 in
      let old = is.needed (w ∷ zs) joined (omega (arith, there, ap (λ l. length (forest l)) split)) in
      omega (arith, old, more, some);
}

-- once none is due, the words are whole
pub IsDue-end : (count : ℕ) (ws : List Word) → IsDue count 0 ws → IsWhole ws × (length (forest ws) ≡ count)
IsDue-end count ws is =
    let all = is.enough [] tt (omega arith) in
    (subst (λ l. IsWhole l) (append-nil ws) all.0, omega (arith, all.1, ap (λ l. length (forest l)) (append-nil ws)))

-- ---- words that go on

-- so many names
abbrev fill : ℕ → List Word
fill zero = []
fill (suc n) = Name 0 ∷ fill n

fill-count : (n : ℕ) → length (forest (fill n)) ≡ n
fill-count zero = refl
fill-count (suc n) = ap suc (fill-count n)

fill-whole : (n : ℕ) → IsWhole (fill n)
fill-whole zero = tt
fill-whole (suc n) = (omega arith, fill-whole n)

-- where there are words there is a term
some-terms : (w : Word) (ws : List Word) → 1 ≤ length (forest (w ∷ ws))
some-terms (Name n) ws = omega arith
some-terms (Agent s arity) ws = omega arith

some-filled : (zs : List Word) (n : ℕ) → 0 < n → 1 ≤ length (forest (zs ++ fill n))
some-filled [] zero some = absurd (omega arith)
some-filled [] (suc n) some = some-terms (Name 0) (fill n)
some-filled (z ∷ zs) n some = some-terms z (zs ++ fill n)

-- while terms are due, the words don't begin with words of all terms
pub goes_on : {count due : ℕ} {ws : List Word} (us zs : List Word) → IsDue count due ws → 0 < due → IsWhole us → length (forest us) ≡ count → ws ≡ us ++ zs → ⊥
goes_on {count} {due} {ws} us zs is some whole many e =
    let all = (is.enough (fill due) (fill-whole due) (omega (arith, fill-count due))).1 in
    let split : ws ++ fill due ≡ us ++ (zs ++ fill due) = ap (λ l. l ++ fill due) e ∙ append_assoc us zs (fill due) in
    let joined = forest-append us (zs ++ fill due) whole in
    omega (arith, all, fill-count due, ap (λ l. length (forest l)) split, ap length joined, length-append (forest us) (forest (zs ++ fill due)), some-filled zs due some, many)

-- words that go on after whole words write more terms
pub no_more : (us zs : List Word) → IsWhole us → length (forest (us ++ zs)) ≡ length (forest us) → zs ≡ []
no_more us [] whole same = refl
no_more us (z ∷ zs) whole same =
    absurd (omega (arith, same, ap length (forest-append us (z ∷ zs) whole), length-append (forest us) (forest (z ∷ zs)), some-terms z zs))
