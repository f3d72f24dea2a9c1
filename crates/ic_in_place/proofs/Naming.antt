-- Lemmas: the names of what was read back are numbered otherwise.
use Rattle.std.proofs.Common.{◌≡◌, ℕ, zero, suc, ◌+◌, ◌*◌, ◌^◌, ◌<◌, ◌≤◌, ◌==◌, ◌/◌, ◌%◌, List, [], ◌∷◌, Bool, true, false, Some, length, map, cond, slice_get, slice_index_or, refl, sym, ap, ◌∙◌, arith, subst as transport}
use Rattle.std.specs.Cmp.{unsigned_Decides}
use Rattle.std.specs.List.{flat_map, AllByRecursion}
use Rattle.std.proofs.lemmas.Bool.{and_parts}
use Rattle.std.proofs.lemmas.List.Sums.{sum_by-cons}
use Rattle.std.proofs.lemmas.Nat.{div-mul-add, mod-mul-add}
use Rattle.ic_term.specs.Configuration.{occurrences}
use Rattle.ic_arena.specs.declared.word.Word.{Word}
use Rattle.ic_arena.specs.declared.word.TheConstants.{GIVEN}
use Rattle.ic_arena.specs.Word.{word_eq}
use Rattle.ic_flat.specs.declared.word.Word.TheVariants.{Name as FlatName, Agent as FlatAgent}
use Rattle.ic_flat.specs.Words.{word_names}
use Rattle.ic_meaning.specs.Words.{Numbers, AreNumbers}
use Rattle.ic_readback.specs.declared.token.Token.{Token}
use Rattle.ic_readback.specs.declared.token.Token.TheVariants.{Name, Agent}
use Rattle.ic_text.specs.declared.limits.TheConstants.{MAX_NAME}
use Rattle.ic_readback.specs.Reading.{number_of, flat_words}
use Rattle.ic_naming.specs.Naming.{IsOneToOne, RenamesUntold, renamed_word}
use Rattle.ic_in_place.specs.inner.Numbering.{written_numbers, HasNumber}

-- ---- numbers that tell words apart

given_number : (n : Numbers) (w : Word) → (w.tag == GIVEN) ≡ true → number_of n w ≡ slice_index_or n.given w.index 0
given_number n w is = ap (λ t. cond t (slice_index_or n.given w.index 0) (n.of_place w)) is

place_number : (n : Numbers) (w : Word) → (w.tag == GIVEN) ≡ false → number_of n w ≡ n.of_place w
place_number n w is = ap (λ t. cond t (slice_index_or n.given w.index 0) (n.of_place w)) is

there : (xs : List ℕ) (i : ℕ) → i < length xs → slice_get xs i ≡ Some (slice_index_or xs i 0)
there [] i low = absurd (omega (arith, low))
there (x ∷ xs) zero low = refl
there (x ∷ xs) (suc i) low = there xs i (omega (arith, low))

is_given : (w : Word) → (w.tag == GIVEN) ≡ true → w.tag ≡ GIVEN
is_given w is = (unsigned_Decides w.tag GIVEN).0 is

same_words : (v w : Word) → v.tag ≡ w.tag → v.index ≡ w.index → v ≡ w
same_words v w tags indices = λ i. record { tag = tags i; index = indices i }

pub eq_words : (v w : Word) → word_eq v w ≡ true → v ≡ w
eq_words v w is =
    let parts = and_parts (v.tag == w.tag) (v.index == w.index) is in
    same_words v w ((unsigned_Decides v.tag w.tag).0 parts.0) ((unsigned_Decides v.index w.index).0 parts.1)

-- two given words have the same number by all numbers
given_alike : (n k : Numbers) (v w : Word) → k.given ≡ n.given → (v.tag == GIVEN) ≡ true → (w.tag == GIVEN) ≡ true
    → number_of n v ≡ number_of n w → number_of k v ≡ number_of k w
given_alike n k v w given va wb same =
    given_number k v va ∙ ap (λ (g : List ℕ). slice_index_or g v.index 0) given ∙ sym (given_number n v va) ∙ same
    ∙ given_number n w wb ∙ sym (ap (λ (g : List ℕ). slice_index_or g w.index 0) given) ∙ sym (given_number k w wb)

-- a given name has no place's number
apart_from_places : (n : Numbers) (v w : Word) → AreNumbers n → HasNumber n.given v → (v.tag == GIVEN) ≡ true → (w.tag == GIVEN) ≡ false
    → ¬ (number_of n v ≡ number_of n w)
apart_from_places n v w are has v_given w_place same =
    are.not_given v.index (slice_index_or n.given v.index 0) w (there n.given v.index (has.in_range (is_given v v_given)))
    (sym (place_number n w w_place) ∙ sym same ∙ given_number n v v_given)

-- Words of which the names have one number have one by any numbers.
same_number : (n k : Numbers) (v w : Word) → k.given ≡ n.given → AreNumbers n → HasNumber n.given v → HasNumber n.given w
    → number_of n v ≡ number_of n w → number_of k v ≡ number_of k w
same_number n k v w given are has_v has_w same = by (v.tag == GIVEN) (w.tag == GIVEN) refl refl
  where
    by : (a b : Bool) → (v.tag == GIVEN) ≡ a → (w.tag == GIVEN) ≡ b → number_of k v ≡ number_of k w
    by true true va wb = given_alike n k v w given va wb same
    by true false va wb = absurd (apart_from_places n v w are has_v va wb same)
    by false true va wb = absurd (apart_from_places n w v are has_w wb va (sym same))
    by false false va wb =
        ap (number_of k) (eq_words v w (are.apart v w (sym (place_number n v va) ∙ same ∙ place_number n w wb)))

index_below : (xs : List ℕ) (i bound : ℕ) → 0 < bound → AllByRecursion (λ x. x < bound) xs → slice_index_or xs i 0 < bound
index_below [] i bound some all = some
index_below (x ∷ xs) zero bound some all = all.0
index_below (x ∷ xs) (suc i) bound some all = index_below xs i bound some all.1

-- the number of a place that is written
place_written : (arities given : List ℕ) (w : Word) → (w.tag == GIVEN) ≡ false → number_of (written_numbers arities given) w ≡ 2 ^ 62 + (w.tag * 2 ^ 32 + w.index)
place_written arities given w is = place_number (written_numbers arities given) w is

apart_written : (arities given : List ℕ) (v w : Word) → AllByRecursion (λ x. x < 2 ^ 62) given → (v.tag == GIVEN) ≡ true → (w.tag == GIVEN) ≡ false
    → ¬ (number_of (written_numbers arities given) v ≡ number_of (written_numbers arities given) w)
apart_written arities given v w below va wb same =
    let low : slice_index_or given v.index 0 < 2 ^ 62 = index_below given v.index (2 ^ 62) (omega arith) below in
    let is : slice_index_or given v.index 0 ≡ 2 ^ 62 + (w.tag * 2 ^ 32 + w.index) = sym (given_number (written_numbers arities given) v va) ∙ same ∙ place_written arities given w wb in
    omega (arith, low, is)

one_place : (s i t j : ℕ) → i < 2 ^ 32 → j < 2 ^ 32 → s * 2 ^ 32 + i ≡ t * 2 ^ 32 + j → (s ≡ t) × (i ≡ j)
one_place s i t j low low_too same = (
  sym (div-mul-add s (2 ^ 32) i low) ∙ ap (λ x. x / 2 ^ 32) same ∙ div-mul-add t (2 ^ 32) j low_too,
  sym (mod-mul-add s (2 ^ 32) i low) ∙ ap (λ x. x % 2 ^ 32) same ∙ mod-mul-add t (2 ^ 32) j low_too,
)

-- and back: words that are written as one name are one name
same_written : (n : Numbers) (arities : List ℕ) (v w : Word) → AllByRecursion (λ x. x < 2 ^ 62) n.given → HasNumber n.given v → HasNumber n.given w
    → number_of (written_numbers arities n.given) v ≡ number_of (written_numbers arities n.given) w → number_of n v ≡ number_of n w
same_written n arities v w below has_v has_w same = by (v.tag == GIVEN) (w.tag == GIVEN) refl refl
  where
    by : (a b : Bool) → (v.tag == GIVEN) ≡ a → (w.tag == GIVEN) ≡ b → number_of n v ≡ number_of n w
    by true true va wb = given_alike (written_numbers arities n.given) n v w refl va wb same
    by true false va wb = absurd (apart_written arities n.given v w below va wb same)
    by false true va wb = absurd (apart_written arities n.given w v below wb va (sym same))
    by false false va wb =
        let is : 2 ^ 62 + (v.tag * 2 ^ 32 + v.index) ≡ 2 ^ 62 + (w.tag * 2 ^ 32 + w.index) = sym (place_written arities n.given v va) ∙ same ∙ place_written arities n.given w wb in
        let one = one_place v.tag v.index w.tag w.index has_v.fits has_w.fits (omega (arith, is)) in
        ap (number_of n) (same_words v w one.0 one.1)

-- ---- from the numbers of names to others

abbrev turned : (n k : Numbers) → List Word → ℕ → ℕ
turned n k [] x = x
turned n k (w ∷ ws) x = cond (number_of n w == x) (number_of k w) (turned n k ws x)

abbrev pub token_names : Token → List Word
token_names (Name w) = w ∷ []
token_names (Agent s) = []

abbrev pub names_of : List Token → List Word
names_of ts = flat_map token_names ts

both : {X : Type 0} (P Q : X → Type 0) (xs : List X) → AllByRecursion P xs → AllByRecursion Q xs → AllByRecursion (λ x. P x × Q x) xs
both P Q [] a b = tt
both P Q (x ∷ xs) a b = ((a.0, b.0), both P Q xs a.1 b.1)

each : {X : Type 0} (P Q : X → Type 0) (xs : List X) → ((x : X) → P x → Q x) → AllByRecursion P xs → AllByRecursion Q xs
each P Q [] f a = tt
each P Q (x ∷ xs) f a = (f x a.0, each P Q xs f a.1)

mapped : {X Y : Type 0} (P : Y → Type 0) (g : X → Y) (xs : List X) → AllByRecursion (λ x. P (g x)) xs → AllByRecursion P (map g xs)
mapped P g [] a = tt
mapped P g (x ∷ xs) a = (a.0, mapped P g xs a.1)

-- of a word that is looked up
abbrev Turns : (n k : Numbers) → List Word → Word → Type 0
Turns n k ws w = turned n k ws (number_of n w) ≡ number_of k w

turns_first : (n k : Numbers) (v : Word) (vs : List Word) → Turns n k (v ∷ vs) v
turns_first n k v vs = ap (λ t. cond t (number_of k v) (turned n k vs (number_of n v))) ((unsigned_Decides (number_of n v) (number_of n v)).1 refl)

turns_later : (n k : Numbers) (v : Word) (vs : List Word) (w : Word) → k.given ≡ n.given → AreNumbers n → HasNumber n.given v → HasNumber n.given w
    → Turns n k vs w → Turns n k (v ∷ vs) w
turns_later n k v vs w given are has_v has_w later = by (number_of n v == number_of n w) refl
  where
    by : (b : Bool) → (number_of n v == number_of n w) ≡ b → cond (number_of n v == number_of n w) (number_of k v) (turned n k vs (number_of n w)) ≡ number_of k w
    by true is =
        ap (λ t. cond t (number_of k v) (turned n k vs (number_of n w))) is ∙ same_number n k v w given are has_v has_w ((unsigned_Decides (number_of n v) (number_of n w)).0 is)
    by false is = ap (λ t. cond t (number_of k v) (turned n k vs (number_of n w))) is ∙ later

turns_all : (n k : Numbers) (ws : List Word) → k.given ≡ n.given → AreNumbers n → AllByRecursion (HasNumber n.given) ws → AllByRecursion (Turns n k ws) ws
turns_all n k [] given are has = tt
turns_all n k (v ∷ vs) given are has = (
  turns_first n k v vs,
  each (λ w. HasNumber n.given w × Turns n k vs w) (Turns n k (v ∷ vs)) vs (λ w facts. turns_later n k v vs w given are has.0 facts.0 facts.1)
      (both (HasNumber n.given) (Turns n k vs) vs has.1 (turns_all n k vs given are has.1)),
)

-- the words of tokens, with their names turned
turns_words : (n k : Numbers) (f : ℕ → ℕ) (ts : List Token) → k.arities ≡ n.arities → AllByRecursion (λ w. f (number_of n w) ≡ number_of k w) (names_of ts)
    → map (renamed_word f) (flat_words n ts) ≡ flat_words k ts
turns_words n k f [] arities all = refl
turns_words n k f (Name w ∷ ts) arities all = λ i. FlatName (all.0 i) ∷ turns_words n k f ts arities all.1 i
turns_words n k f (Agent s ∷ ts) arities all = λ i. FlatAgent s (slice_index_or (sym arities i) s 0) ∷ turns_words n k f ts arities all i

names_read : (n : Numbers) (ts : List Token) → flat_map word_names (flat_words n ts) ≡ map (number_of n) (names_of ts)
names_read n [] = refl
names_read n (Name w ∷ ts) = ap (λ l. number_of n w ∷ l) (names_read n ts)
names_read n (Agent s ∷ ts) = names_read n ts

this_or : (n : Numbers) (P : Word → Type 0) (m : ℕ) (w : Word) → P w → (others : ℕ) → 1 ≤ cond (number_of n w == m) 1 0 + others
    → (1 ≤ others → (v : Word) × P v × (number_of n v ≡ m)) → (v : Word) × P v × (number_of n v ≡ m)
this_or n P m w is_so others some later = by (number_of n w == m) refl
  where
    by : (b : Bool) → (number_of n w == m) ≡ b → (v : Word) × P v × (number_of n v ≡ m)
    by true is = (w, is_so, (unsigned_Decides (number_of n w) m).0 is)
    by false is = later (omega (arith, some, ap {B = ℕ} (λ (t : Bool). cond t 1 0) is))

count_more : (n : Numbers) (m : ℕ) (w : Word) (ws : List Word) → occurrences m (map (number_of n) (w ∷ ws)) ≡ cond (number_of n w == m) 1 0 + occurrences m (map (number_of n) ws)
count_more n m w ws = sum_by-cons (λ x. cond (x == m) 1 0) (number_of n w) (map (number_of n) ws)

-- a number that occurs is that of a word
word_of_number : (n : Numbers) (P : Word → Type 0) (m : ℕ) (ws : List Word) → AllByRecursion P ws → 1 ≤ occurrences m (map (number_of n) ws)
    → (w : Word) × P w × (number_of n w ≡ m)
word_of_number n P m [] all some = absurd (omega (arith, some))
word_of_number n P m (w ∷ ws) all some = this_or n P m w all.0 (occurrences m (map (number_of n) ws)) (transport (λ k. 1 ≤ k) (count_more n m w ws) some) (λ more. word_of_number n P m ws all.1 more)

-- a name that is given has the same number however names are written
kept_number : (n k : Numbers) (w : Word) (m j : ℕ) → k.given ≡ n.given → AreNumbers n → number_of n w ≡ m → slice_get n.given j ≡ Some m → number_of k w ≡ m
kept_number n k w m j given are is found = by (w.tag == GIVEN) refl
  where
    by : (b : Bool) → (w.tag == GIVEN) ≡ b → number_of k w ≡ m
    by true at = given_number k w at ∙ ap (λ (g : List ℕ). slice_index_or g w.index 0) given ∙ sym (given_number n w at) ∙ is
    by false at = absurd (are.not_given j m w found (sym (place_number n w at) ∙ is))

-- Tokens by any numbers are those that are written, with their names turned into others so that a text tells nothing of it.
pub record Rewrites (n : Numbers) (written : Numbers) (ts : List Token) : Type 0 where
  pub turn : ℕ → ℕ
  pub untold : RenamesUntold turn (flat_map word_names (flat_words n ts))
  pub words : map (renamed_word turn) (flat_words n ts) ≡ flat_words written ts

pub rewrites : (n : Numbers) (ts : List Token) → AreNumbers n → AllByRecursion (λ x. x < 2 ^ 62) n.given → AllByRecursion (HasNumber n.given) (names_of ts)
    → ((m : ℕ) → occurrences m (flat_map word_names (flat_words n ts)) ≡ 1 → (j : ℕ) × (slice_get n.given j ≡ Some m))
    → Rewrites n (written_numbers n.arities n.given) ts
rewrites n ts are below has once =
    let k = written_numbers n.arities n.given in
    let ws = names_of ts in
    let f : ℕ → ℕ = turned n k ws in
    let Fact : Word → Type 0 = (λ w. HasNumber n.given w × (f (number_of n w) ≡ number_of k w)) in
    let turns : AllByRecursion (Turns n k ws) ws = turns_all n k ws refl are has in
    let facts : AllByRecursion Fact ws = both (HasNumber n.given) (Turns n k ws) ws has turns in
    let ns : List ℕ = map (number_of n) ws in
    let back : (v w : Word) → Fact v → Fact w → f (number_of n v) ≡ f (number_of n w) → number_of n v ≡ number_of n w =
    (λ v w fv fw same. same_written n n.arities v w below fv.0 fw.0 (sym fv.1 ∙ same ∙ fw.1)) in
    let One : ℕ → ℕ → Type 0 = (λ m x. f m ≡ f x → m ≡ x) in
    let one : IsOneToOne f ns =
    mapped (λ m. AllByRecursion (One m) ns) (number_of n) ws
    (each Fact (λ v. AllByRecursion (One (number_of n v)) ns) ws
    (λ v fv. mapped (One (number_of n v)) (number_of n) ws (each Fact (λ w. One (number_of n v) (number_of n w)) ws (λ w fw. back v w fv fw) facts)) facts) in
    let kept : (m : ℕ) → occurrences m ns ≡ 1 → f m ≡ m =
    (λ m is.
    let found = word_of_number n Fact m ws facts (omega (arith, is)) in
    let given = once m (ap (occurrences m) (names_read n ts) ∙ is) in
    ap f (sym found.2) ∙ found.1.1 ∙ kept_number n k found.0 m given.0 refl are found.2 given.1) in
    record {
      turn = f;
      untold = transport (RenamesUntold f) (sym (names_read n ts)) (record {
        one_to_one = one;
        kept = λ m is low. kept m is;
        great = λ m is high. transport (λ x. MAX_NAME < x) (sym (kept m is)) high;
      });
      words = turns_words n k f ts refl turns;
    }
