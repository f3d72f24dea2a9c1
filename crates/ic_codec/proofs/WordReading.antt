-- Which words bytes begin with, and when they begin with none.
use Rattle.std.proofs.Common.{◌≡◌, ◌≢◌, ℕ, ◌+◌, ◌-◌, ◌<◌, ◌≤◌, ⊎_elim, List, [], ◌∷◌, ◌++◌, length, Some, refl, sym, ap, subst, ◌∙◌, append_assoc, append-nil, arith}
use Rattle.std.specs.Prelude.{slice_get}
use Rattle.std.specs.List.{flat_map, AllByRecursion}
use Rattle.std.proofs.lemmas.List.{length-append}
use Rattle.std.proofs.lemmas.Bool.{cases_lt}
use Rattle.ic_term.specs.Symbol.{Symbol, has_arity, symbol_arity}
use Rattle.ic_flat.specs.declared.word.Word.{Word}
use Rattle.ic_flat.specs.declared.word.Word.TheVariants.{Name, Agent}
use Rattle.ic_flat.specs.Words.{arguments, forest, IsWhole}
use Rattle.ic_flat.specs.lemmas.WordLaws.{forest-le}
use Rattle.ic_codec.specs.Numbers.{eight_bytes}
use Rattle.ic_codec.specs.inner.Fronts.{BeginsWith, BeginsWithNone}
use Rattle.ic_codec.specs.inner.WordFronts.{word_bytes, HasWordBytes, BeginsWithWords, BeginsWithNoWords}
use Rattle.ic_codec.proofs.NumberLemmas.{length-eight_bytes}
use Rattle.ic_codec.proofs.TermLemmas.{known_below, one_arity}
use Rattle.ic_codec.proofs.TermReading.{arity_known}
use Rattle.ic_codec.proofs.Items.{Tells, items_split, flat_map-push, all_push}
use Rattle.ic_codec.proofs.Unique.{eight_front, all_right}
use Rattle.ic_codec.proofs.WordLists.{IsDue, IsDue-next, IsDue-end, goes_on, no_more}

-- ---- one word

pub word_tells : (ss : List Symbol) → length ss ≤ 64 → Tells (HasWordBytes ss) word_bytes
word_tells ss few (Name m) (Name n) a b v w e =
    let tails : eight_bytes m ++ a ≡ eight_bytes n ++ b = cc in
    let parts = eight_front m n a b v.names.0 w.names.0 tails in
    (ap (λ (k : ℕ). Name k) parts.0, parts.1)
word_tells ss few (Name m) (Agent s c) a b v w e =
    let below = known_below ss s c (slice_get ss s) refl w.over in
    let same : 255 ≡ s = cc in
    absurd (omega arith)
word_tells ss few (Agent s c) (Name n) a b v w e =
    let below = known_below ss s c (slice_get ss s) refl v.over in
    let same : s ≡ 255 = cc in
    absurd (omega arith)
word_tells ss few (Agent s c) (Agent r d) a b v w e =
    let symbols : s ≡ r = cc in
    let tails : a ≡ b = cc in
    let arities = one_arity c d (slice_get ss s) v.over (ap (λ k. has_arity d (slice_get ss k)) symbols ∙ w.over) in
    ((λ i. Agent (symbols i) (arities i)), tails)

pub none_without_bytes : (ss : List Symbol) (bytes : List ℕ) → bytes ≡ [] → BeginsWithNone (HasWordBytes ss) word_bytes bytes
none_without_bytes ss bytes none (Name n) rest has e = let clash : [] ≡ 255 ∷ eight_bytes n ++ rest = sym none ∙ e in absurd cc
none_without_bytes ss bytes none (Agent s c) rest has e = let clash : [] ≡ s ∷ rest = sym none ∙ e in absurd cc

pub none_without_number : (ss : List Symbol) (bytes after : List ℕ) → length ss ≤ 64 → bytes ≡ 255 ∷ after → length after < 8
    → BeginsWithNone (HasWordBytes ss) word_bytes bytes
none_without_number ss bytes after little first short (Name n) rest has e =
    let same : 255 ∷ after ≡ 255 ∷ eight_bytes n ++ rest = sym first ∙ e in
    let tails : after ≡ eight_bytes n ++ rest = cc in
    omega (arith, ap length tails, length-append (eight_bytes n) rest, length-eight_bytes n)
none_without_number ss bytes after little first short (Agent s c) rest has e =
    let same : 255 ∷ after ≡ s ∷ rest = sym first ∙ e in
    let symbols : 255 ≡ s = cc in
    let below = known_below ss s c (slice_get ss s) refl has.over in
    omega arith

pub none_without_symbol : (ss : List Symbol) (s : ℕ) (bytes after : List ℕ) → bytes ≡ s ∷ after → s ≢ 255 → length ss ≤ s
    → BeginsWithNone (HasWordBytes ss) word_bytes bytes
none_without_symbol ss s bytes after first other unknown (Name n) rest has e =
    let same : s ∷ after ≡ 255 ∷ eight_bytes n ++ rest = sym first ∙ e in
    other cc
none_without_symbol ss s bytes after first other unknown (Agent r c) rest has e =
    let same : s ∷ after ≡ r ∷ rest = sym first ∙ e in
    let symbols : s ≡ r = cc in
    let below = known_below ss r c (slice_get ss r) refl has.over in
    omega arith

pub agent_begins : (ss : List Symbol) (s c : ℕ) (bytes rest : List ℕ) → bytes ≡ s ∷ rest → symbol_arity ss s ≡ Some c
    → BeginsWith (HasWordBytes ss) word_bytes bytes (Agent s c) rest
agent_begins ss s c bytes rest first arity = record {
  parts = first;
  valid = record { over = arity_known c (slice_get ss s) arity; names = tt };
}

-- ---- words one after the other

-- the longer of two lists of words that bytes begin with goes on after the other
prefix : (ss : List Symbol) → length ss ≤ 64 → (vs ws : List Word) (a b : List ℕ) → AllByRecursion (HasWordBytes ss) vs → AllByRecursion (HasWordBytes ss) ws
    → length ws ≤ length vs → flat_map word_bytes vs ++ a ≡ flat_map word_bytes ws ++ b → (zs : List Word) × (vs ≡ ws ++ zs)
prefix ss few vs [] a b all also longer e = (vs, refl)
prefix ss few [] (w ∷ ws) a b all also longer e = absurd (omega arith)
prefix ss few (v ∷ vs) (w ∷ ws) a b all also longer e =
    let joined : word_bytes v ++ (flat_map word_bytes vs ++ a) ≡ word_bytes w ++ (flat_map word_bytes ws ++ b) =
    sym (append_assoc (word_bytes v) (flat_map word_bytes vs) a) ∙ e ∙ append_assoc (word_bytes w) (flat_map word_bytes ws) b in
    let first = word_tells ss few v w (flat_map word_bytes vs ++ a) (flat_map word_bytes ws ++ b) all.0 also.0 joined in
    let rest = prefix ss few vs ws a b all.1 also.1 (omega arith) first.1 in
    (rest.0, λ i. first.0 i ∷ rest.1 i)

longer_front : (ss : List Symbol) → length ss ≤ 64 → (vs ws : List Word) (a b : List ℕ) → AllByRecursion (HasWordBytes ss) vs → AllByRecursion (HasWordBytes ss) ws
    → IsWhole ws → length (forest vs) ≡ length (forest ws) → length ws ≤ length vs → flat_map word_bytes vs ++ a ≡ flat_map word_bytes ws ++ b → vs ≡ ws
longer_front ss few vs ws a b all also whole many longer e =
    let on = prefix ss few vs ws a b all also longer e in
    on.1 ∙ ap (λ l. ws ++ l) (no_more ws on.0 whole (sym (ap (λ l. length (forest l)) on.1) ∙ many)) ∙ append-nil ws

-- whole words of as many terms that bytes begin with are the same
pub whole_front : (ss : List Symbol) → length ss ≤ 64 → (vs ws : List Word) (a b : List ℕ) → AllByRecursion (HasWordBytes ss) vs → AllByRecursion (HasWordBytes ss) ws
    → IsWhole vs → IsWhole ws → length (forest vs) ≡ length (forest ws) → flat_map word_bytes vs ++ a ≡ flat_map word_bytes ws ++ b → vs ≡ ws
whole_front ss few vs ws a b all also whole_vs whole_ws many e =
    ⊎_elim (λ less. sym (longer_front ss few ws vs b a also all whole_vs (sym many) (omega (arith, less)) (sym e)))
    (λ not. longer_front ss few vs ws a b all also whole_ws many not e) (cases_lt (length vs) (length ws))

-- Words have been read, after which so many terms are due; so many further words may come.
pub record IsReading (ss : List Symbol) (count : ℕ) (bytes : List ℕ) (ws : List Word) (due spare : ℕ) (rest : List ℕ) : Type 0 where
  pub parts : bytes ≡ flat_map word_bytes ws ++ rest
  pub has_bytes : AllByRecursion (HasWordBytes ss) ws
  pub open_terms : IsDue count due ws
  pub few : length ws + due + spare ≡ 8192

pub IsReading-next : {ss : List Symbol} {count : ℕ} {bytes : List ℕ} {ws : List Word} {due spare : ℕ} {rest rest' : List ℕ} (w : Word)
    → IsReading ss count bytes ws due spare rest → 0 < due → BeginsWith (HasWordBytes ss) word_bytes rest w rest' → arguments w ≤ spare
    → IsReading ss count bytes (ws ++ w ∷ []) (due - 1 + arguments w) (spare - arguments w) rest'
IsReading-next {ss} {count} {bytes} {ws} {due} {spare} {rest} {rest'} w is some begins fits = record {
  parts = is.parts ∙ ap (λ (bs : List ℕ). flat_map word_bytes ws ++ bs) begins.parts
      ∙ sym (append_assoc (flat_map word_bytes ws) (word_bytes w) rest') ∙ ap (λ (bs : List ℕ). bs ++ rest') (sym (flat_map-push word_bytes ws w));
  has_bytes = all_push (HasWordBytes ss) ws w is.has_bytes begins.valid;
  open_terms = IsDue-next w is.open_terms some;
  few = omega (arith, is.few, length-append ws (w ∷ []), some, fits);
}

pub words_begin : {ss : List Symbol} {count : ℕ} {bytes : List ℕ} {ws : List Word} {due spare : ℕ} {rest : List ℕ} → IsReading ss count bytes ws due spare rest
    → due ≤ 0 → BeginsWithWords ss count bytes ws rest
words_begin {ss} {count} {bytes} {ws} {due} is none =
    let zero_due : due ≡ 0 = omega (arith, none) in
    let end = IsDue-end count ws (subst (λ n. IsDue count n ws) zero_due is.open_terms) in
    record { parts = is.parts; has_bytes = is.has_bytes; whole = end.0; many = end.1 }

-- while terms are due, words of all terms go on with a further word
further : {ss : List Symbol} {count : ℕ} {bytes : List ℕ} {ws : List Word} {due spare : ℕ} {rest : List ℕ} (us : List Word) (rest' : List ℕ) → length ss ≤ 64
    → IsReading ss count bytes ws due spare rest → 0 < due → AllByRecursion (HasWordBytes ss) us → IsWhole us → length (forest us) ≡ count
    → bytes ≡ flat_map word_bytes us ++ rest' → (u : Word) × ((zs : List Word) × ((us ≡ ws ++ u ∷ zs) × (rest ≡ word_bytes u ++ (flat_map word_bytes zs ++ rest'))))
further {ss} {count} {bytes} {ws} {due} {spare} {rest} us rest' few is some all whole many e =
    let joined = sym is.parts ∙ e in
    ⊎_elim (λ less. items_split (HasWordBytes ss) word_bytes (word_tells ss few) ws us rest rest' is.has_bytes all less joined)
    (λ not. let front = prefix ss few ws us rest rest' is.has_bytes all not joined in absurd (goes_on us front.0 is.open_terms some whole many front.1))
    (cases_lt (length ws) (length us))

pub none_without_word : {ss : List Symbol} {count : ℕ} {bytes : List ℕ} {ws : List Word} {due spare : ℕ} {rest : List ℕ} → length ss ≤ 64
    → IsReading ss count bytes ws due spare rest → 0 < due → BeginsWithNone (HasWordBytes ss) word_bytes rest → BeginsWithNoWords ss count 8192 bytes
none_without_word {ss} {ws = ws} few is some none us rest' all whole many within e =
    let on = further us rest' few is some all whole many e in
    let has = all_right (HasWordBytes ss) ws (on.0 ∷ on.1.0) (subst (λ l. AllByRecursion (HasWordBytes ss) l) on.1.1.0 all) in
    none on.0 (flat_map word_bytes on.1.0 ++ rest') has.0 on.1.1.1

pub none_without_room : {ss : List Symbol} {count : ℕ} {bytes : List ℕ} {ws : List Word} {due spare : ℕ} {rest after : List ℕ} (w : Word) → length ss ≤ 64
    → IsReading ss count bytes ws due spare rest → 0 < due → BeginsWith (HasWordBytes ss) word_bytes rest w after → spare < arguments w → BeginsWithNoWords ss count 8192 bytes
none_without_room {ss} {count} {ws = ws} {due} {spare} {after = after} w few is some begins great us rest' all whole many within e =
    let on = further us rest' few is some all whole many e in
    let u = on.0 in
    let zs = on.1.0 in
    let has = all_right (HasWordBytes ss) ws (u ∷ zs) (subst (λ l. AllByRecursion (HasWordBytes ss) l) on.1.1.0 all) in
    let same = (word_tells ss few w u after (flat_map word_bytes zs ++ rest') begins.valid has.0 (sym begins.parts ∙ on.1.1.1)).0 in
    let split : us ≡ (ws ++ w ∷ []) ++ zs = on.1.1.0 ∙ ap (λ (x : Word). ws ++ x ∷ zs) (sym same) ∙ sym (append_assoc ws (w ∷ []) zs) in
    let next = IsDue-next w is.open_terms some in
    let left = next.needed zs (subst (λ l. IsWhole l) split whole) (omega (arith, many, ap (λ l. length (forest l)) split)) in
    omega (arith, left, forest-le zs, within, ap length on.1.1.0, length-append ws (u ∷ zs), is.few, great, some)

pub none_too_many : (ss : List Symbol) (count : ℕ) (bytes : List ℕ) → 8192 < count → BeginsWithNoWords ss count 8192 bytes
none_too_many ss count bytes great us rest' all whole many within e = omega (arith, many, within, forest-le us, great)
