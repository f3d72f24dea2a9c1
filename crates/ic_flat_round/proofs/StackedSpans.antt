-- Spans of terms, and a stack of them.
use Rattle.std.proofs.Common.{◌≡◌, ℕ, suc, ◌+◌, ◌-◌, ◌<◌, ◌≤◌, List, [], ◌∷◌, ◌++◌, Option, Some, length, map, take, drop, get_or, zero, sym, ap, ◌∙◌, arith, subst as transport}
use Rattle.std.specs.List.{flat_map, AllByRecursion}
use Rattle.std.specs.Option.{option_to_list}
use Rattle.std.proofs.lemmas.List.{reverse-append, drop_more, length-drop, length-take-le}
use Rattle.ic_term.specs.Tree.{Tree, name, agent, trees_of}
use Rattle.ic_flat.specs.declared.word.Word.{Word}
use Rattle.ic_flat.specs.declared.word.Word.TheVariants.{Name, Agent}
use Rattle.ic_flat.specs.Words.{with_word, forest, IsWhole}
use Rattle.ic_flat.specs.Flat.{sides}
use Rattle.ic_flat.specs.lemmas.WordLaws.{forest-le, whole-drop}
use Rattle.ic_flat_round.specs.declared.rebuilding.Span.{Span}
use Rattle.ic_flat_round.specs.declared.pass.Kept.{Kept}
use Rattle.ic_flat_round.specs.inner.Waits.{kept_at, IsKeptWithin}
use Rattle.ic_flat_rules.specs.Standing.{tree_at}
use Rattle.ic_flat_round.specs.inner.Rebuilding.{span_terms, IsSpan, span_of, stacked}
use Rattle.ic_flat_rules.specs.lemmas.WordPlaces.{some_terms, first-rest}

-- ---- lists of which each element is so

pub all_push : {X : Type 0} (P : X → Type 0) (xs : List X) (x : X) → AllByRecursion P xs → P x → AllByRecursion P (xs ++ x ∷ [])
all_push P [] x all one = (one, tt)
all_push P (y ∷ ys) x all one = (all.0, all_push P ys x all.1 one)

pub all_front : {X : Type 0} (P : X → Type 0) (xs : List X) (x : X) → AllByRecursion P (xs ++ x ∷ []) → AllByRecursion P xs × P x
all_front P [] x all = (tt, all.0)
all_front P (y ∷ ys) x all = let rest = all_front P ys x all.1 in ((all.0, rest.0), rest.1)

pub all_at : {X : Type 0} (P : X → Type 0) (xs : List X) (i : ℕ) (d : X) → AllByRecursion P xs → i < length xs → P (get_or xs i d)
all_at P [] i d all within = absurd (omega (arith, within))
all_at P (x ∷ xs) zero d all within = all.0
all_at P (x ∷ xs) (suc i) d all within = all_at P xs i d all.1 (omega (arith, within))

-- ---- a stack of spans

-- what is put on a stack is on top
pub stacked-push : (ws : List Word) (stack : List Span) (s : Span) → stacked ws (stack ++ s ∷ []) ≡ span_terms ws s ++ stacked ws stack
stacked-push ws stack s = ap (flat_map (span_terms ws)) (reverse-append stack (s ∷ []))

-- what is taken from a stack was on top
pub stacked-pop : (ws : List Word) (old new : List Span) (o : Option Span) (s : Span) → old ≡ new ++ option_to_list o → o ≡ Some s
    → (old ≡ new ++ s ∷ []) × (stacked ws old ≡ span_terms ws s ++ stacked ws new)
stacked-pop ws old new o s items is =
    let all : old ≡ new ++ s ∷ [] = items ∙ ap (λ x. new ++ option_to_list x) is in
    (all, ap (stacked ws) all ∙ stacked-push ws new s)

-- ---- one span

-- where a span has a term, there is a word
pub span_there : (ws : List Word) (s : Span) → IsSpan ws s → 0 < s.count → s.place < length ws
span_there ws s is some = omega (arith, is, some, forest-le (drop s.place ws), length-drop s.place ws)

-- the term at a place, as a span
pub span_of-one : (ws : List Word) (place : ℕ) → place < length ws → IsSpan ws (span_of place) × (span_terms ws (span_of place) ≡ tree_at ws place ∷ [])
span_of-one ws place there =
    let some : 1 ≤ length (forest (drop place ws)) = some_terms (drop place ws) (omega (arith, length-drop place ws, there)) in
    (some, ap (take 1) (first-rest (forest (drop place ws)) some))

pub span_none : (ws : List Word) (s : Span) → s.count ≤ 0 → span_terms ws s ≡ []
span_none ws s none = let nothing : s.count ≡ 0 = omega (arith, none) in ap (λ n. take n (forest (drop s.place ws))) nothing

-- ---- a span by its first word

abbrev after : List Word → Span → List Tree
after ws s = forest (drop (s.place + 1) ws)

by_word : (ws : List Word) (s : Span) (d : Word) → s.place < length ws → forest (drop s.place ws) ≡ with_word (get_or ws s.place d) (after ws s)
by_word ws s d there = ap forest (drop_more ws s.place d there)

-- a name, and after it the rest of the span
pub span-name : (ws : List Word) (s : Span) (d : Word) (x : ℕ) → IsSpan ws s → 0 < s.count → get_or ws s.place d ≡ Name x
    → IsSpan ws (record { place = s.place + 1; count = s.count - 1 })
    × (span_terms ws s ≡ name x ∷ span_terms ws (record { place = s.place + 1; count = s.count - 1 }))
span-name ws s d x is some word =
    let there = span_there ws s is some in
    let all : forest (drop s.place ws) ≡ name x ∷ after ws s = by_word ws s d there ∙ ap (λ w. with_word w (after ws s)) word in
    let one : s.count ≡ suc (s.count - 1) = omega (arith, some) in
    let enough : s.count - 1 ≤ length (after ws s) = omega (arith, is, some, ap length all) in
    (enough, λ i. take (one i) (all i))

pub take-sum : (n a : ℕ) (ts : List Tree) → a ≤ length ts → take a ts ++ take n (drop a ts) ≡ take (n + a) ts
take-sum n zero ts enough = let same : n ≡ n + 0 = omega arith in ap (λ k. take k ts) same
take-sum n (suc a) [] enough = absurd (omega (arith, enough))
take-sum n (suc a) (t ∷ ts) enough =
    let same : suc (n + a) ≡ n + suc a = omega arith in
    ap (λ l. t ∷ l) (take-sum n a ts (omega (arith, enough))) ∙ ap (λ k. take k (t ∷ ts)) same

-- an agent, whose arguments stand before the rest of the span
pub span-agent : (ws : List Word) (s : Span) (d : Word) (sym_of arity : ℕ) → IsWhole ws → IsSpan ws s → 0 < s.count → get_or ws s.place d ≡ Agent sym_of arity
    → (ts : List Tree) × (rest : List Tree) × (length ts ≡ arity) × (span_terms ws s ≡ agent sym_of (trees_of ts) ∷ rest)
    × (span_terms ws (record { place = s.place + 1; count = (s.count - 1) + arity }) ≡ ts ++ rest)
    × IsSpan ws (record { place = s.place + 1; count = (s.count - 1) + arity })
span-agent ws s d sym_of arity whole is some word =
    let there = span_there ws s is some in
    let f = after ws s in
    let all : forest (drop s.place ws) ≡ agent sym_of (trees_of (take arity f)) ∷ drop arity f = by_word ws s d there ∙ ap (λ w. with_word w f) word in
    let one : s.count ≡ suc (s.count - 1) = omega (arith, some) in
    let W : List Word → Type 0 = λ l. IsWhole l in
    let A : Word → Type 0 = λ w. IsWhole (w ∷ drop (s.place + 1) ws) in
    let fits = (transport A word (transport W (drop_more ws s.place d there) (whole-drop s.place ws whole))).0 in
    let enough : (s.count - 1) + arity ≤ length f = omega (arith, is, some, fits, ap length all, length-drop arity f) in (
      take arity f,
      take (s.count - 1) (drop arity f),
      length-take-le arity f fits,
      (λ i. take (one i) (all i)),
      sym (take-sum (s.count - 1) arity f fits),
      enough,
    )

-- ---- the places of an equation's sides

pub kept_there : (ws : List Word) (kept : List Kept) (i : ℕ) (d : Kept) → AllByRecursion (IsKeptWithin ws) kept → i < length kept
    → ((get_or kept i d).left < length ws) × ((get_or kept i d).right < length ws)
kept_there ws kept i d all within = all_at (IsKeptWithin ws) kept i d all within

-- the first sides that are left
pub sides-more : (ws : List Word) (kept : List Kept) (i : ℕ) (d : Kept) → i < length kept
    → sides (map (kept_at ws) (drop i kept))
    ≡ tree_at ws (get_or kept i d).left ∷ tree_at ws (get_or kept i d).right ∷ sides (map (kept_at ws) (drop (i + 1) kept))
sides-more ws kept i d within = ap (λ l. sides (map (kept_at ws) l)) (drop_more kept i d within)
