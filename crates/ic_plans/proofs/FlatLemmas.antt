-- Terms as agents that are made one after another: what a word more does.
use Rattle.std.proofs.Common.{◌≡◌, ℕ, zero, suc, ◌+◌, ◌≤◌, ◌<◌, ◌==◌, List, [], ◌∷◌, ◌++◌, Bool, true, false, cond, Some, length, map, take, drop, slice_get, nat_lt, count_by, true≢false, refl, sym, ap, subst, ◌∙◌, arith, append_assoc, append-nil}
use Rattle.std.proofs.lemmas.Bool.{ne_eqb, ltb-true, ltb-false, lt-ltb, le-ltb}
use Rattle.std.proofs.lemmas.List.{length-take-le, take-append-drop, length_push}
use Rattle.std.proofs.lemmas.List.Concat.{flat_map-append}
use Rattle.std.proofs.lemmas.List.Sums.{sum_by-cons, sum_by-append}
use Rattle.std.proofs.lemmas.Option.{none-some}
use Rattle.std.specs.Cmp.{unsigned_Decides}
use Rattle.std.specs.List.{flat_map, AllByRecursion}
use Rattle.ic_term.specs.Tree.{Tree, name, agent, more_trees, trees_of}
use Rattle.ic_settle.specs.lemmas.SubstitutionLaws.{All-append, All-front, All-back}
use Rattle.ic_flat.specs.declared.word.Word.{Word}
use Rattle.ic_flat.specs.declared.word.Word.TheVariants.{Name, Agent}
use Rattle.ic_flat.specs.Words.{forest, word_names}
use Rattle.ic_machine.specs.Plan.{Made, AreMade}
use Rattle.ic_meaning.specs.Plans.{filled, filled_all, held_with, held_made}
use Rattle.ic_plans.specs.inner.Flattening.{IsRead, times_made, made_operands, AreFlat, WouldBeFlat}

-- ---- lists

take_map : {X Y : Type 0} (f : X → Y) (n : ℕ) (xs : List X) → map f (take n xs) ≡ take n (map f xs)
take_map f zero xs = refl
take_map f (suc n) [] = refl
take_map f (suc n) (x ∷ xs) = ap (λ l. f x ∷ l) (take_map f n xs)

drop_map : {X Y : Type 0} (f : X → Y) (n : ℕ) (xs : List X) → map f (drop n xs) ≡ drop n (map f xs)
drop_map f zero xs = refl
drop_map f (suc n) [] = refl
drop_map f (suc n) (x ∷ xs) = drop_map f n xs

pub all_imply : (P Q : ℕ → Type 0) (ns : List ℕ) → ((n : ℕ) → P n → Q n) → AllByRecursion P ns → AllByRecursion Q ns
all_imply P Q [] f all = tt
all_imply P Q (n ∷ ns) f all = (f n all.0, all_imply P Q ns f all.1)

-- an element more in the middle
All-between : (P : ℕ → Type 0) (ms ns : List ℕ) (n : ℕ) → P n → AllByRecursion P (ms ++ ns) → AllByRecursion P (ms ++ n ∷ ns)
All-between P ms ns n p all = All-append P ms (n ∷ ns) (All-front P ms ns all) (p, All-back P ms ns all)

pub count-cons : (k n : ℕ) (ns : List ℕ) → count_by (λ m. m == k) (n ∷ ns) ≡ cond (n == k) 1 0 + count_by (λ m. m == k) ns
count-cons k n ns = sum_by-cons (λ m. cond (m == k) 1 0) n ns

pub count-append : (k : ℕ) (ms ns : List ℕ) → count_by (λ m. m == k) (ms ++ ns) ≡ count_by (λ m. m == k) ms + count_by (λ m. m == k) ns
count-append k ms ns = sum_by-append (λ m. cond (m == k) 1 0) ms ns

count-between : (k n : ℕ) (ms ns : List ℕ) → count_by (λ m. m == k) (ms ++ n ∷ ns) ≡ cond (n == k) 1 0 + count_by (λ m. m == k) (ms ++ ns)
count-between k n ms ns = omega (arith, count-append k ms (n ∷ ns), count-append k ms ns, count-cons k n ns)

-- ---- what registers hold

-- an agent that is made leaves the registers before its own
pub held_with_other : (k : ℕ) (t : Tree) (held : ℕ → Tree) (j : ℕ) → j < k → held_with k t held j ≡ held j
held_with_other k t held j low = let other : (j == k) ≡ false = ne_eqb j k (λ e. omega arith) in ap (λ b. cond b t (held j)) other

pub held_with_same : (k : ℕ) (t : Tree) (held : ℕ → Tree) → held_with k t held k ≡ t
held_with_same k t held = let same : (k == k) ≡ true = (unsigned_Decides k k).1 refl in ap (λ b. cond b t (held k)) same

pub held_below : (k : ℕ) (ms : List Made) (held : ℕ → Tree) (j : ℕ) → j < k → held_made k ms held j ≡ held j
held_below k [] held j low = refl
held_below k (m ∷ ms) held j low =
    held_below (k + 1) ms (held_with k (agent m.symbol (trees_of (map held m.operands))) held) j (omega arith)
    ∙ held_with_other k (agent m.symbol (trees_of (map held m.operands))) held j low

-- the term of an agent, of what registers hold
abbrev pub made_term : (ℕ → Tree) → Made → Tree
made_term held m = agent m.symbol (trees_of (map held m.operands))

-- one more agent is made
pub held_more : (k : ℕ) (ms : List Made) (m : Made) (held : ℕ → Tree)
    → held_made k (ms ++ m ∷ []) held ≡ held_with (k + length ms) (made_term (held_made k ms held) m) (held_made k ms held)
held_more k [] m held = let same : k ≡ k + 0 = omega arith in ap (λ j. held_with j (made_term held m) held) same
held_more k (n ∷ ms) m held =
    let next : ℕ → Tree = held_with k (made_term held n) held in
    let same : (k + 1) + length ms ≡ k + length (n ∷ ms) = omega arith in
    held_more (k + 1) ms m next
    ∙ ap (λ j. held_with j (made_term (held_made (k + 1) ms next) m) (held_made (k + 1) ms next)) same

map_same : (f g : ℕ → Tree) (ns : List ℕ) → AllByRecursion (λ n. f n ≡ g n) ns → map f ns ≡ map g ns
map_same f g [] all = refl
map_same f g (n ∷ ns) all = λ i. all.0 i ∷ map_same f g ns all.1 i

filled_trees : (f : ℕ → Tree) (ts : List Tree) → filled_all f (trees_of ts) ≡ trees_of (map (filled f) ts)
filled_trees f [] = refl
filled_trees f (t ∷ ts) = ap (more_trees (filled f t)) (filled_trees f ts)

-- ---- agents that are made

made-more : (arities : List ℕ) (k : ℕ) (ms : List Made) (m : Made) → AreMade arities k ms
    → slice_get arities m.symbol ≡ Some (length m.operands) → 1 ≤ length m.operands
    → AllByRecursion (λ o. o < k + length ms) m.operands → AreMade arities k (ms ++ m ∷ [])
made-more arities k [] m made arity some within =
    ((arity, some, all_imply (λ o. o < k + 0) (λ o. o < k) m.operands (λ o low. omega arith) within), tt)
made-more arities k (n ∷ ms) m made arity some within = (
  made.0,
  made-more arities (k + 1) ms m made.1 arity some
      (all_imply (λ o. o < k + length (n ∷ ms)) (λ o. o < (k + 1) + length ms) m.operands (λ o low. omega arith) within),
)

pub times-below : (first count k : ℕ) → k < first → times_made first count k ≡ 0
times-below first count k low = ap (λ b. cond b 0 (cond (nat_lt k (first + count)) 1 0)) (lt-ltb k first low)

pub times-within : (first count k : ℕ) → first ≤ k → k < first + count → times_made first count k ≡ 1
times-within first count k high low = λ i. cond (le-ltb k first high i) 0 (cond (lt-ltb k (first + count) low i) 1 0)

pub times-above : (first count k : ℕ) → first + count ≤ k → times_made first count k ≡ 0
times-above first count k high =
    let above : first ≤ k = omega arith in
    λ i. cond (le-ltb k first above i) 0 (cond (le-ltb k (first + count) high i) 1 0)

pub count-other : (n k : ℕ) → (n ≡ k → ⊥) → ◌≡◌ {A = ℕ} (cond (n == k) 1 0) 0
count-other n k other = ap (λ b. cond b 1 0) (ne_eqb n k other)

pub count-same : (n k : ℕ) → n ≡ k → ◌≡◌ {A = ℕ} (cond (n == k) 1 0) 1
count-same n k same = ap (λ b. cond b 1 0) ((unsigned_Decides n k).1 same)

times-more : (first count k : ℕ) → times_made first (count + 1) k ≡ times_made first count k + cond (first + count == k) 1 0
times-more first count k = at (nat_lt k first) (nat_lt k (first + count)) (first + count == k) refl refl refl
  where
    at : (a b e : Bool) → nat_lt k first ≡ a → nat_lt k (first + count) ≡ b → (first + count == k) ≡ e
        → times_made first (count + 1) k ≡ times_made first count k + cond (first + count == k) 1 0
    at true b e p q r =
        let low = ltb-true k first p in
        omega (arith, times-below first (count + 1) k low, times-below first count k low, count-other (first + count) k (λ s. omega arith))
    at false true e p q r =
        let high = ltb-false k first p in
        let low = ltb-true k (first + count) q in
        omega (arith, times-within first (count + 1) k high (omega arith), times-within first count k high low, count-other (first + count) k (λ s. omega arith))
    at false false true p q r =
        let same = (unsigned_Decides (first + count) k).0 r in
        omega (arith, times-within first (count + 1) k (omega arith) (omega arith), times-above first count k (omega arith), count-same (first + count) k same)
    at false false false p q r =
        let high = ltb-false k (first + count) q in
        let other = λ (s : first + count ≡ k). absurd (true≢false (sym ((unsigned_Decides (first + count) k).1 s) ∙ r)) in
        omega (arith, times-above first (count + 1) k (above high other), times-above first count k high, count-other (first + count) k other)
      where
        above : first + count ≤ k → (first + count ≡ k → ⊥) → first + (count + 1) ≤ k
        above high other = omega arith

operands-more : (ms : List Made) (m : Made) → made_operands (ms ++ m ∷ []) ≡ made_operands ms ++ m.operands
operands-more ms m = flat_map-append (λ (m : Made). m.operands) ms (m ∷ []) ∙ ap (λ l. made_operands ms ++ l) (append-nil m.operands)

-- ---- a word more

module _ (arities : List ℕ) (registers : ℕ → ℕ) (first : ℕ) (after : length arities ≤ first) where
  module _ (ws : List Word) (made : List Made) (operands : List ℕ) (flat : AreFlat arities registers first ws made operands) where
    -- one more register that holds a term already
    module _ (r : ℕ) (t : Tree) (low : r < first) (constant : r < length arities → slice_get arities r ≡ Some 0) where
      one_within : AllByRecursion (λ k. k < first + length made) (r ∷ operands)
      one_within = (omega arith, flat.within)

      one_constant : AllByRecursion (λ k. k < length arities → slice_get arities k ≡ Some 0) (made_operands made ++ r ∷ operands)
      one_constant = All-between (λ k. k < length arities → slice_get arities k ≡ Some 0) (made_operands made) operands r constant flat.constant

      one_held : (held : ℕ → Tree) → held_made first made held r ≡ held r
      one_held held = held_below first made held r low

    pub flat-name : (x : ℕ) → IsRead arities registers first (Name x) → AreFlat arities registers first (Name x ∷ ws) made (registers x ∷ operands)
    flat-name x read = record {
      agents = flat.agents;
      within = one_within (registers x) (name x) read.1 (λ low. absurd (omega (arith, read.0)));
      constant = one_constant (registers x) (name x) read.1 (λ low. absurd (omega (arith, read.0)));
      used = λ k high.
          omega (arith, count-between k (registers x) (made_operands made) operands, flat.used k high, sum_by-cons (λ y. cond (registers y == k) 1 0) x (flat_map word_names ws));
      terms = λ held holds i. one_held (registers x) (name x) read.1 (λ low. absurd (omega (arith, read.0))) held i ∷ flat.terms held holds i;
    }

    pub flat-constant : (s : ℕ) → slice_get arities s ≡ Some 0 → s < length arities → AreFlat arities registers first (Agent s 0 ∷ ws) made (s ∷ operands)
    flat-constant s arity low = record {
      agents = flat.agents;
      within = one_within s (name s) (omega arith) (λ low. arity);
      constant = one_constant s (name s) (omega arith) (λ low. arity);
      used = λ k high. omega (arith, count-between k s (made_operands made) operands, flat.used k high, count-other s k (λ e. omega arith));
      terms = λ held holds. λ i. (one_held s (name s) (omega arith) (λ low. arity) held ∙ holds s low) i ∷ flat.terms held holds i;
    }

    -- an agent of the registers on top
    pub flat-agent : (s n : ℕ) → slice_get arities s ≡ Some n → 1 ≤ n → n ≤ length operands
        → AreFlat arities registers first (Agent s n ∷ ws) (made ++ record { symbol = s; operands = take n operands } ∷ []) ((first + length made) ∷ drop n operands)
    flat-agent s n arity some there = record {
      agents = made-more arities first made m flat.agents (arity ∙ ap Some (sym counted)) (omega (arith, counted)) taken_within;
      within = (
        omega (arith, length_push made m),
        all_imply (λ k. k < first + length made) (λ k. k < first + length (made ++ m ∷ [])) (drop n operands) (λ k low. omega (arith, low, length_push made m)) left_within,
      );
      constant = subst (λ l. AllByRecursion (λ k. k < length arities → slice_get arities k ≡ Some 0) (l ++ (first + length made) ∷ drop n operands)) (sym (operands-more made m))
          (All-between (λ k. k < length arities → slice_get arities k ≡ Some 0) (made_operands made ++ take n operands) (drop n operands) (first + length made)
          (λ low. absurd (omega arith)) (subst (AllByRecursion (λ k. k < length arities → slice_get arities k ≡ Some 0)) (sym whole) flat.constant));
      used = λ k high. omega (
        arith,
        ap (λ l. count_by (λ o. o == k) (l ++ (first + length made) ∷ drop n operands)) (operands-more made m),
        count-between k (first + length made) (made_operands made ++ take n operands) (drop n operands),
        ap (count_by (λ o. o == k)) whole,
        flat.used k high,
        ap (λ c. times_made first c k) (length_push made m),
        times-more first (length made) k,
      );
      terms = λ held holds. terms held (flat.terms held holds);
    }
      where
        m : Made
        m = record { symbol = s; operands = take n operands }

        counted : length (take n operands) ≡ n
        counted = length-take-le n operands there

        parts : AllByRecursion (λ k. k < first + length made) (take n operands ++ drop n operands)
        parts = rw (take-append-drop n operands) flat.within

        taken_within : AllByRecursion (λ k. k < first + length made) (take n operands)
        taken_within = All-front (λ k. k < first + length made) (take n operands) (drop n operands) parts

        left_within : AllByRecursion (λ k. k < first + length made) (drop n operands)
        left_within = All-back (λ k. k < first + length made) (take n operands) (drop n operands) parts

        whole : (made_operands made ++ take n operands) ++ drop n operands ≡ made_operands made ++ operands
        whole = append_assoc (made_operands made) (take n operands) (drop n operands) ∙ ap (λ l. made_operands made ++ l) (take-append-drop n operands)

        terms : (held : ℕ → Tree)
            → map (held_made first made held) operands ≡ map (filled (λ x. held (registers x))) (forest ws)
            → map (held_made first (made ++ m ∷ []) held) ((first + length made) ∷ drop n operands)
            ≡ map (filled (λ x. held (registers x))) (forest (Agent s n ∷ ws))
        terms held before =
            let old : ℕ → Tree = held_made first made held in
            let f : Tree → Tree = filled (λ x. held (registers x)) in
            let t : Tree = made_term old m in
            let new : List Tree = map (held_with (first + length made) t old) (drop n operands) in
            let own : held_with (first + length made) t old (first + length made) ≡ t = held_with_same (first + length made) t old in
            let rest : new ≡ map old (drop n operands) =
            map_same (held_with (first + length made) t old) old (drop n operands)
            (all_imply (λ k. k < first + length made) (λ k. held_with (first + length made) t old k ≡ old k) (drop n operands) (λ k low. held_with_other (first + length made) t old k low) left_within) in
            let args : trees_of (map old (take n operands)) ≡ filled_all (λ x. held (registers x)) (trees_of (take n (forest ws))) =
            ap trees_of (take_map old n operands ∙ ap (take n) before ∙ sym (take_map f n (forest ws))) ∙ sym (filled_trees (λ x. held (registers x)) (take n (forest ws))) in
            ap (λ h. map h ((first + length made) ∷ drop n operands)) (held_more first made m held)
            ∙ (λ i. (own ∙ ap (agent s) args) i ∷ (rest ∙ drop_map old n operands ∙ ap (drop n) before ∙ sym (drop_map f n (forest ws))) i)

-- ---- as the stack has it

slice_get-below : (xs : List ℕ) (i x : ℕ) → slice_get xs i ≡ Some x → i < length xs
slice_get-below [] i x there = absurd (none-some x there)
slice_get-below (y ∷ ys) zero x there = omega arith
slice_get-below (y ∷ ys) (suc i) x there = let low = slice_get-below ys i x there in omega arith

pub put-name : (arities : List ℕ) (registers : ℕ → ℕ) (first : ℕ) (ws : List Word) (made : List Made) (operands after : List ℕ) (word : Word) (x : ℕ)
    → word ≡ Name x → after ≡ registers x ∷ operands
    → WouldBeFlat arities registers first ws made operands → WouldBeFlat arities registers first (word ∷ ws) made after
put-name arities registers first ws made operands after word x is put would fits read =
    rw (put, is) (flat-name arities registers first fits ws made operands (would fits read.1) x (subst (IsRead arities registers first) is read.0))

pub put-constant : (arities : List ℕ) (registers : ℕ → ℕ) (first : ℕ) (ws : List Word) (made : List Made) (operands after : List ℕ) (word : Word) (s : ℕ)
    → word ≡ Agent s 0 → after ≡ s ∷ operands
    → WouldBeFlat arities registers first ws made operands → WouldBeFlat arities registers first (word ∷ ws) made after
put-constant arities registers first ws made operands after word s is put would fits read =
    let there : slice_get arities s ≡ Some 0 = subst (IsRead arities registers first) is read.0 in
    rw (put, is) (flat-constant arities registers first fits ws made operands (would fits read.1) s there (slice_get-below arities s 0 there))

pub put-agent : (arities : List ℕ) (registers : ℕ → ℕ) (first : ℕ) (ws : List Word) (made more : List Made) (operands after : List ℕ) (word : Word) (s n : ℕ)
    → word ≡ Agent s n → 1 ≤ n → n ≤ length operands → more ≡ made ++ record { symbol = s; operands = take n operands } ∷ []
    → after ≡ (first + length made) ∷ drop n operands
    → WouldBeFlat arities registers first ws made operands → WouldBeFlat arities registers first (word ∷ ws) more after
put-agent arities registers first ws made more operands after word s n is some enough one put would fits read =
    rw (put, one, is) (flat-agent arities registers first fits ws made operands (would fits read.1) s n (subst (IsRead arities registers first) is read.0) some enough)
