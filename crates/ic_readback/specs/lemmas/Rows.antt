-- Lemmas: the terms that words write before other terms.
use Rattle.std.proofs.Common.{◌≡◌, ℕ, zero, suc, ◌*◌, ◌≤◌, List, [], ◌∷◌, ◌++◌, length, map, take, drop, refl, sym, ap, ◌∙◌, arith, append_assoc, subst as transport}
use Rattle.std.proofs.lemmas.List.{length-drop, take-append-drop, take_at, drop_at, take-map, drop-map, take-append-le, drop-append-le}
use Rattle.std.proofs.lemmas.List.Concat.{flat_map-append}
use Rattle.std.specs.List.{flat_map}
use Rattle.ic_term.specs.Tree.{Tree, name, agent, more_trees, trees_of, names, names_of, pair_names}
use Rattle.ic_term.specs.Configuration.{occurrences}
use Rattle.ic_settle.specs.Settling.{subst, subst_all, subst_pair}
use Rattle.ic_settle.specs.lemmas.SubstitutionLaws.{occurrences-append, subst-absent}
use Rattle.ic_flat.specs.declared.word.Word.{Word}
use Rattle.ic_flat.specs.declared.word.Word.TheVariants.{Name, Agent}
use Rattle.ic_flat.specs.Words.{arguments, with_word, forest, IsWhole, word_names}
use Rattle.ic_flat.specs.Flat.{pairs_of}

-- the terms that words write before these
abbrev pub over : List Word → List Tree → List Tree
over [] ts = ts
over (w ∷ ws) ts = with_word w (over ws ts)

-- each agent has all its arguments after it
abbrev pub WholeOver : List Word → List Tree → Type 0
WholeOver [] ts = Unit {0}
WholeOver (w ∷ ws) ts = (arguments w ≤ length (over ws ts)) × WholeOver ws ts

pub over-nil : (ws : List Word) → over ws [] ≡ forest ws
over-nil [] = refl
over-nil (w ∷ ws) = ap (with_word w) (over-nil ws)

pub whole-nil : (ws : List Word) → WholeOver ws [] → IsWhole ws
whole-nil [] whole = tt
whole-nil (w ∷ ws) whole = (transport (λ (l : List Tree). arguments w ≤ length l) (over-nil ws) whole.0, whole-nil ws whole.1)

pub over-append : (vs ws : List Word) (ts : List Tree) → over (vs ++ ws) ts ≡ over vs (over ws ts)
over-append [] ws ts = refl
over-append (v ∷ vs) ws ts = ap (with_word v) (over-append vs ws ts)

pub whole-append : (vs ws : List Word) (ts : List Tree) → WholeOver vs (over ws ts) → WholeOver ws ts → WholeOver (vs ++ ws) ts
whole-append [] ws ts first second = second
whole-append (v ∷ vs) ws ts first second =
    (transport (λ (l : List Tree). arguments v ≤ length l) (sym (over-append vs ws ts)) first.0, whole-append vs ws ts first.1 second)

-- ---- how many

length-with : (w : Word) (ts us : List Tree) → length ts ≡ length us → length (with_word w ts) ≡ length (with_word w us)
length-with (Name n) ts us same = omega arith
length-with (Agent s k) ts us same = omega (arith, length-drop k ts, length-drop k us)

pub length-over : (ws : List Word) (ts us : List Tree) → length ts ≡ length us → length (over ws ts) ≡ length (over ws us)
length-over [] ts us same = same
length-over (w ∷ ws) ts us same = length-with w (over ws ts) (over ws us) (length-over ws ts us same)

pub whole-over : (ws : List Word) (ts us : List Tree) → length ts ≡ length us → WholeOver ws ts → WholeOver ws us
whole-over [] ts us same whole = tt
whole-over (w ∷ ws) ts us same whole =
    (let as_many = length-over ws ts us same in let there = whole.0 in let h : arguments w ≤ length (over ws us) = omega arith in h, whole-over ws ts us same whole.1)

-- ---- terms after those that words take

with-more : (w : Word) (ts us : List Tree) → arguments w ≤ length ts → with_word w (ts ++ us) ≡ with_word w ts ++ us
with-more (Name n) ts us there = refl
with-more (Agent s k) ts us there =
    let first : take k (ts ++ us) ≡ take k ts = take-append-le k ts us there in
    let rest : drop k (ts ++ us) ≡ drop k ts ++ us = drop-append-le k ts us there in
    λ i. agent s (trees_of (first i)) ∷ rest i

pub over-more : (ws : List Word) (ts us : List Tree) → WholeOver ws ts → over ws (ts ++ us) ≡ over ws ts ++ us
over-more [] ts us whole = refl
over-more (w ∷ ws) ts us whole = ap (with_word w) (over-more ws ts us whole.1) ∙ with-more w (over ws ts) us whole.0

-- an agent takes exactly its arguments
pub over-agent : (s k : ℕ) (ts us : List Tree) → length ts ≡ k → with_word (Agent s k) (ts ++ us) ≡ agent s (trees_of ts) ∷ us
over-agent s k ts us counted =
    let first = take_at ts us k counted in
    let rest = drop_at ts us k counted in
    λ i. agent s (trees_of (first i)) ∷ rest i

-- ---- names

pub names_of-trees : (ts : List Tree) → names_of (trees_of ts) ≡ flat_map names ts
names_of-trees [] = refl
names_of-trees (t ∷ ts) = ap (λ l. names t ++ l) (names_of-trees ts)

pub over-names : (ws : List Word) (ts : List Tree) → flat_map names (over ws ts) ≡ flat_map word_names ws ++ flat_map names ts
over-names [] ts = refl
over-names (Name n ∷ ws) ts = ap (λ l. n ∷ l) (over-names ws ts)
over-names (Agent s k ∷ ws) ts =
    let args : List Tree = take k (over ws ts) in
    let us : List Tree = drop k (over ws ts) in
    ap (λ l. l ++ flat_map names us) (names_of-trees args)
    ∙ (sym (flat_map-append names args us) ∙ (ap (flat_map names) (take-append-drop k (over ws ts)) ∙ over-names ws ts))

-- ---- a term put for a name

subst-trees : (x : ℕ) (u : Tree) (ts : List Tree) → subst_all x u (trees_of ts) ≡ trees_of (map (subst x u) ts)
subst-trees x u [] = refl
subst-trees x u (t ∷ ts) = ap (more_trees (subst x u t)) (subst-trees x u ts)

pub subst-over : (x : ℕ) (u : Tree) (ws : List Word) (ts : List Tree) → occurrences x (flat_map word_names ws) ≡ 0
    → map (subst x u) (over ws ts) ≡ over ws (map (subst x u) ts)
subst-over x u [] ts none = refl
subst-over x u (Name n ∷ ws) ts none =
    let parts = occurrences-append x (n ∷ []) (flat_map word_names ws) in
    let here : occurrences x (names (name n)) ≡ 0 = omega (arith, parts, none) in
    let rest : occurrences x (flat_map word_names ws) ≡ 0 = omega (arith, parts, none) in
    let same = subst-absent x u (name n) here in
    let later = subst-over x u ws ts rest in
    λ i. same i ∷ later i
subst-over x u (Agent s k ∷ ws) ts none =
    let later = subst-over x u ws ts none in
    let first : subst_all x u (trees_of (take k (over ws ts))) ≡ trees_of (take k (over ws (map (subst x u) ts))) =
    subst-trees x u (take k (over ws ts)) ∙ (ap trees_of (sym (take-map (subst x u) k (over ws ts))) ∙ ap (λ l. trees_of (take k l)) later) in
    let rest : map (subst x u) (drop k (over ws ts)) ≡ drop k (over ws (map (subst x u) ts)) =
    sym (drop-map (subst x u) k (over ws ts)) ∙ ap (drop k) later in
    λ i. agent s (first i) ∷ rest i

-- ---- terms two by two

pub pairs-subst : (x : ℕ) (u : Tree) (ts : List Tree) → map (subst_pair x u) (pairs_of ts) ≡ pairs_of (map (subst x u) ts)
pairs-subst x u (t ∷ s ∷ ts) = ap (λ l. record { left = subst x u t; right = subst x u s } ∷ l) (pairs-subst x u ts)
pairs-subst x u _ = refl

pub pairs-names : (ts : List Tree) (k : ℕ) → length ts ≡ 2 * k → flat_map pair_names (pairs_of ts) ≡ flat_map names ts
pairs-names [] k even = refl
pairs-names (t ∷ []) k even = absurd (omega arith)
pairs-names (t ∷ u ∷ ts) zero even = absurd (omega arith)
pairs-names (t ∷ u ∷ ts) (suc k) even =
    ap (λ l. (names t ++ names u) ++ l) (pairs-names ts k (omega arith)) ∙ append_assoc (names t) (names u) (flat_map names ts)

pub pairs-more : (ts us : List Tree) (k : ℕ) → length ts ≡ 2 * k → pairs_of (ts ++ us) ≡ pairs_of ts ++ pairs_of us
pairs-more [] us k even = refl
pairs-more (t ∷ []) us k even = absurd (omega arith)
pairs-more (t ∷ u ∷ ts) us zero even = absurd (omega arith)
pairs-more (t ∷ u ∷ ts) us (suc k) even = ap (λ l. record { left = t; right = u } ∷ l) (pairs-more ts us k (omega arith))

pub pairs-length : (ts : List Tree) (k : ℕ) → length ts ≡ 2 * k → length (pairs_of ts) ≡ k
pairs-length [] k even = omega arith
pairs-length (t ∷ []) k even = absurd (omega arith)
pairs-length (t ∷ u ∷ ts) zero even = absurd (omega arith)
pairs-length (t ∷ u ∷ ts) (suc k) even = let rest = pairs-length ts k (omega arith) in omega arith
