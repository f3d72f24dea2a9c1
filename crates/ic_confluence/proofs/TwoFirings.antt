-- Lemmas: two interactions from one configuration.
use Rattle.std.proofs.Common.{◌≡◌, ◌⊎◌, ℕ, ◌+◌, ◌-◌, ◌≤◌, ◌<◌, List, [], ◌∷◌, ◌++◌, cond, ltb, Some, map, refl, sym, ap, ◌∙◌, append_assoc, arith, inl, inr, subst as transport}
use Rattle.std.proofs.lemmas.Bool.{cases_lt, lt-ltb, le-ltb}
use Rattle.std.proofs.lemmas.List.{map-append}
use Rattle.std.proofs.lemmas.Option.{same_Some}
use Rattle.std.specs.List.{flat_map}
use Rattle.ic_term.specs.Tree.{Tree, name, agent, Trees, no_trees, more_trees, names, names_of, Pair, pair_names}
use Rattle.ic_term.specs.Configuration.{Configuration, configuration_names, names_in, occurrences}
use Rattle.ic_rules.specs.Renaming.{renamed, renamed_trees}
use Rattle.ic_rules.specs.Rule.{Rule}
use Rattle.ic_rules.specs.RuleSet.{Rules, IsRuleSet}
use Rattle.ic_settle.specs.lemmas.SubstitutionLaws.{occurrences-append}
use Rattle.ic_settle.specs.lemmas.StepLaws.{itself_once as alone_itself}
use Rattle.ic_round.specs.Firing.{Active, active_pair, products_by, count_of}
use Rattle.ic_round.specs.Naming.{HasNames}
use Rattle.ic_round.specs.lemmas.FreshNames.{absent_above}
use Rattle.ic_confluence.specs.Sameness.{renamed_pair, Same, renaming}
use Rattle.ic_confluence.specs.lemmas.Counts.{in_configuration, in_pair, in_more, below_next}
use Rattle.ic_confluence.specs.lemmas.Equivalence.{Same-refl, Same-sym}
use Rattle.ic_confluence.specs.lemmas.Replacing.{replaced_at, replaced_after, PlaceOf, place_of, in_both}
use Rattle.ic_confluence.specs.lemmas.Actives.{HasRule, older_products, later_products, fresh_products, renamed_active, renamed_products}
use Rattle.ic_confluence.proofs.Firings.{fired_in, Firing, Sound, rule_of}

-- ---- two blocks of names exchanged

-- the names from a base on: the first block after the second one, and back
abbrev pub block : ℕ → ℕ → ℕ → ℕ → ℕ
block base k l n = cond (ltb n base) n (cond (ltb n (base + k)) (n + l) (cond (ltb n (base + k + l)) (n - k) n))

pub block_low : (base k l n : ℕ) → n < base → block base k l n ≡ n
block_low base k l n low = rw (lt-ltb n base low) refl

block_one : (base k l n : ℕ) → base ≤ n → n < base + k → block base k l n ≡ n + l
block_one base k l n high low = rw (le-ltb n base high, lt-ltb n (base + k) low) refl

block_two : (base k l n : ℕ) → base + k ≤ n → n < base + k + l → block base k l n ≡ n - k
block_two base k l n high low = rw (le-ltb n base (omega (arith, high)), le-ltb n (base + k) high, lt-ltb n (base + k + l) low) refl

pub block_high : (base k l n : ℕ) → base + k + l ≤ n → block base k l n ≡ n
block_high base k l n high = rw (le-ltb n base (omega (arith, high)), le-ltb n (base + k) (omega (arith, high)), le-ltb n (base + k + l) high) refl

pub block_first : (base k l n : ℕ) → n < k → block base k l (base + n) ≡ base + l + n
block_first base k l n low =
    let moved = block_one base k l (base + n) (omega arith) (omega (arith, low)) in
    omega (arith, moved)

pub block_second : (base k l n : ℕ) → n < l → block base k l (base + k + n) ≡ base + n
block_second base k l n low =
    let moved = block_two base k l (base + k + n) (omega arith) (omega (arith, low)) in
    omega (arith, moved)

block_there : (base k l n : ℕ) → (n < base) ⊎ (base ≤ n) → (n < base + k) ⊎ (base + k ≤ n) → (n < base + k + l) ⊎ (base + k + l ≤ n)
    → block base l k (block base k l n) ≡ n
block_there base k l n (inl low) b c = ap (block base l k) (block_low base k l n low) ∙ block_low base l k n low
block_there base k l n (inr high) (inl low) c =
    let back = block_two base l k (n + l) (omega (arith, high)) (omega (arith, low)) in
    ap (block base l k) (block_one base k l n high low) ∙ (back ∙ (omega arith))
block_there base k l n (inr high) (inr more) (inl low) =
    let back = block_one base l k (n - k) (omega (arith, more)) (omega (arith, low, more)) in
    ap (block base l k) (block_two base k l n more low) ∙ (back ∙ (omega (arith, more)))
block_there base k l n (inr high) (inr more) (inr most) =
    ap (block base l k) (block_high base k l n most) ∙ block_high base l k n (omega (arith, most))

pub block_back : (base k l n : ℕ) → block base l k (block base k l n) ≡ n
block_back base k l n = block_there base k l n (cases_lt n base) (cases_lt n (base + k)) (cases_lt n (base + k + l))

-- ---- names that stay

mutual
  pub renamed_stays : (f : ℕ → ℕ) (t : Tree) → ((n : ℕ) → 1 ≤ occurrences n (names t) → f n ≡ n) → renamed f t ≡ t
  renamed_stays f (name n) each = ap name (each n (let one = alone_itself n in omega (arith, one)))
  renamed_stays f (agent s ts) each = ap (agent s) (renamed_trees_stay f ts each)

  renamed_trees_stay : (f : ℕ → ℕ) (ts : Trees) → ((n : ℕ) → 1 ≤ occurrences n (names_of ts) → f n ≡ n) → renamed_trees f ts ≡ ts
  renamed_trees_stay f no_trees each = refl
  renamed_trees_stay f (more_trees t ts) each =
      let here = renamed_stays f t (λ n some. each n (let both = occurrences-append n (names t) (names_of ts) in omega (arith, both, some))) in
      let rest = renamed_trees_stay f ts (λ n some. each n (let both = occurrences-append n (names t) (names_of ts) in omega (arith, both, some))) in
      λ i. more_trees (here i) (rest i)

pub renamed_terms_stay : (f : ℕ → ℕ) (ts : List Tree) → ((n : ℕ) → 1 ≤ occurrences n (flat_map names ts) → f n ≡ n) → map (renamed f) ts ≡ ts
renamed_terms_stay f [] each = refl
renamed_terms_stay f (t ∷ ts) each =
    let here = renamed_stays f t (λ n some. each n (let both = occurrences-append n (names t) (flat_map names ts) in omega (arith, both, some))) in
    let rest = renamed_terms_stay f ts (λ n some. each n (let both = occurrences-append n (names t) (flat_map names ts) in omega (arith, both, some))) in
    λ i. here i ∷ rest i

pub renamed_pair_stays : (f : ℕ → ℕ) (p : Pair) → ((n : ℕ) → 1 ≤ occurrences n (pair_names p) → f n ≡ n) → renamed_pair f p ≡ p
renamed_pair_stays f p each =
    let left = renamed_stays f p.left (λ n some. each n (let both = in_pair n p in omega (arith, both, some))) in
    let right = renamed_stays f p.right (λ n some. each n (let both = in_pair n p in omega (arith, both, some))) in
    λ i. record { left = left i; right = right i }

pub renamed_pairs_stay : (f : ℕ → ℕ) (es : List Pair) → ((n : ℕ) → 1 ≤ occurrences n (flat_map pair_names es) → f n ≡ n) → map (renamed_pair f) es ≡ es
renamed_pairs_stay f [] each = refl
renamed_pairs_stay f (p ∷ es) each =
    let here = renamed_pair_stays f p (λ n some. each n (let both = in_more n p es in omega (arith, both, some))) in
    let rest = renamed_pairs_stay f es (λ n some. each n (let both = in_more n p es in omega (arith, both, some))) in
    λ i. here i ∷ rest i

-- an active equation's own sides stay where its names do
pub active_stays : (rs : List Rule) (p : Pair) (a : Active) → HasRule rs p a → (f : ℕ → ℕ) → ((n : ℕ) → 1 ≤ occurrences n (pair_names p) → f n ≡ n) → renamed_active f a ≡ a
active_stays rs p a h f each = by h.sides
  where
    left_fixed : renamed f p.left ≡ p.left
    left_fixed = renamed_stays f p.left (λ n some. each n (let both = in_pair n p in omega (arith, both, some)))

    right_fixed : renamed f p.right ≡ p.right
    right_fixed = renamed_stays f p.right (λ n some. each n (let both = in_pair n p in omega (arith, both, some)))

    by : ((a.left ≡ p.left) × (a.right ≡ p.right)) ⊎ ((a.left ≡ p.right) × (a.right ≡ p.left)) → renamed_active f a ≡ a
    by (inl (l, r)) =
        let one = ap (renamed f) l ∙ (left_fixed ∙ sym l) in
        let other = ap (renamed f) r ∙ (right_fixed ∙ sym r) in
        λ i. record { rule = a.rule; left = one i; right = other i }
    by (inr (l, r)) =
        let one = ap (renamed f) l ∙ (right_fixed ∙ sym l) in
        let other = ap (renamed f) r ∙ (left_fixed ∙ sym r) in
        λ i. record { rule = a.rule; left = one i; right = other i }

-- ---- two active equations of a list

-- two steps that fire what the other one has left, to the same net
pub record FiredBoth (rs : List Rule) (d e : Configuration) (i j : ℕ) : Type 0 where
  pub end : Configuration
  pub other : Configuration
  pub one : Firing rs d end
  pub two : Firing rs e other
  pub rule_one : one.active.rule ≡ j
  pub rule_two : two.active.rule ≡ i
  pub same : Same end other

turned_both : (rs : List Rule) (d e : Configuration) (i j : ℕ) → FiredBoth rs d e i j → FiredBoth rs e d j i
turned_both rs d e i j b = record { end = b.other; other = b.end; one = b.two; two = b.one; rule_one = b.rule_two; rule_two = b.rule_one; same = Same-sym b.end b.other b.same }

-- the products of both, with names from two bases on
abbrev filled : List Rule → List Pair → List Pair → List Pair → Active → Active → ℕ → ℕ → List Pair
filled rs before middle after a b m n = before ++ (products_by rs m a ++ (middle ++ (products_by rs n b ++ after)))

filled_counts : (rs : List Rule) (before middle after : List Pair) (a b : Active) (m n x : ℕ)
    → occurrences x (flat_map pair_names (filled rs before middle after a b m n))
    ≡ occurrences x (flat_map pair_names before) + (occurrences x (flat_map pair_names (products_by rs m a))
    + (occurrences x (flat_map pair_names middle) + (occurrences x (flat_map pair_names (products_by rs n b)) + occurrences x (flat_map pair_names after))))
filled_counts rs before middle after a b m n x =
    let first = in_both x before (products_by rs m a ++ (middle ++ (products_by rs n b ++ after))) in
    let second = in_both x (products_by rs m a) (middle ++ (products_by rs n b ++ after)) in
    let third = in_both x middle (products_by rs n b ++ after) in
    let fourth = in_both x (products_by rs n b) after in
    omega (arith, first, second, third, fourth)

filled_renamed : (rs : List Rule) (before middle after : List Pair) (a b : Active) (m n : ℕ) (f : ℕ → ℕ)
    → map (renamed_pair f) (filled rs before middle after a b m n)
    ≡ map (renamed_pair f) before ++ (map (renamed_pair f) (products_by rs m a) ++ (map (renamed_pair f) middle ++ (map (renamed_pair f) (products_by rs n b) ++ map (renamed_pair f) after)))
filled_renamed rs before middle after a b m n f =
    let g = renamed_pair f in
    map-append g before (products_by rs m a ++ (middle ++ (products_by rs n b ++ after)))
    ∙ ap (λ es. map g before ++ es) (map-append g (products_by rs m a) (middle ++ (products_by rs n b ++ after))
    ∙ ap (λ es. map g (products_by rs m a) ++ es) (map-append g middle (products_by rs n b ++ after)
    ∙ ap (λ es. map g middle ++ es) (map-append g (products_by rs n b) after)))

-- where both active equations stand
record BothActive (rs : List Rule) (c : Configuration) (before middle after : List Pair) (p q : Pair) (a b : Active) : Type 0 where
  named : HasNames c
  given : c.equations ≡ before ++ p ∷ (middle ++ q ∷ after)
  active_p : active_pair rs p ≡ Some a
  active_q : active_pair rs q ≡ Some b
  rule_p : HasRule rs p a
  rule_q : HasRule rs q b

-- how often a name occurs in the parts
given_counts : (rs : List Rule) (c : Configuration) (before middle after : List Pair) (p q : Pair) (a b : Active) → BothActive rs c before middle after p q a b
    → (n : ℕ) → occurrences n (configuration_names c)
    ≡ occurrences n (flat_map names c.interface) + (occurrences n (flat_map pair_names before) + (occurrences n (pair_names p)
    + (occurrences n (flat_map pair_names middle) + (occurrences n (pair_names q) + occurrences n (flat_map pair_names after)))))
given_counts rs c before middle after p q a b w n =
    let whole = in_configuration n c.interface c.equations in
    let is = ap (λ es. occurrences n (flat_map pair_names es)) w.given in
    let first = in_both n before (p ∷ (middle ++ q ∷ after)) in
    let second = in_more n p (middle ++ q ∷ after) in
    let third = in_both n middle (q ∷ after) in
    let fourth = in_more n q after in
    omega (arith, whole, is, first, second, third, fourth)

-- no name that is new occurs once
not_once : (rs : List Rule) (c : Configuration) (before middle after : List Pair) (p q : Pair) (a b : Active) → BothActive rs c before middle after p q a b
    → (n : ℕ) → c.next ≤ n → (n < c.next + count_of rs a.rule) ⊎ (c.next + count_of rs a.rule ≤ n)
    → occurrences n (names_in c.interface (filled rs before middle after a b c.next (c.next + count_of rs a.rule))) ≡ 1 → ⊥
not_once rs c before middle after p q a b w n high (inl low) once =
    let none = absent_above n c.next (configuration_names c) w.named.below high in
    let parts = given_counts rs c before middle after p q a b w n in
    let whole = in_configuration n c.interface (filled rs before middle after a b c.next (c.next + count_of rs a.rule)) in
    let split = filled_counts rs before middle after a b c.next (c.next + count_of rs a.rule) n in
    let older = older_products rs q b w.rule_q (c.next + count_of rs a.rule) n low in
    fresh_products rs p a w.rule_p c.next n high (omega (arith, none, parts)) (omega (arith, none, parts, whole, split, older, once))
not_once rs c before middle after p q a b w n high (inr more) once =
    let none = absent_above n c.next (configuration_names c) w.named.below high in
    let parts = given_counts rs c before middle after p q a b w n in
    let whole = in_configuration n c.interface (filled rs before middle after a b c.next (c.next + count_of rs a.rule)) in
    let split = filled_counts rs before middle after a b c.next (c.next + count_of rs a.rule) n in
    let later = later_products rs p a w.rule_p c.next n more in
    fresh_products rs q b w.rule_q (c.next + count_of rs a.rule) n more (omega (arith, none, parts)) (omega (arith, none, parts, whole, split, later, once))

free_at : (rs : List Rule) (c : Configuration) (before middle after : List Pair) (p q : Pair) (a b : Active) → BothActive rs c before middle after p q a b
    → (n : ℕ) → occurrences n (names_in c.interface (filled rs before middle after a b c.next (c.next + count_of rs a.rule))) ≡ 1
    → (n < c.next) ⊎ (c.next ≤ n) → block c.next (count_of rs a.rule) (count_of rs b.rule) n ≡ n
free_at rs c before middle after p q a b w n once (inl low) = block_low c.next (count_of rs a.rule) (count_of rs b.rule) n low
free_at rs c before middle after p q a b w n once (inr high) =
    absurd (not_once rs c before middle after p q a b w n high (cases_lt n (c.next + count_of rs a.rule)) once)

both_same : (rs : List Rule) (c : Configuration) (before middle after : List Pair) (p q : Pair) (a b : Active) → BothActive rs c before middle after p q a b
    → Same
    (record { interface = c.interface; equations = filled rs before middle after a b c.next (c.next + count_of rs a.rule); next = (c.next + count_of rs a.rule) + count_of rs b.rule })
    (record { interface = c.interface; equations = filled rs before middle after a b (c.next + count_of rs b.rule) c.next; next = (c.next + count_of rs b.rule) + count_of rs a.rule })
both_same rs c before middle after p q a b w =
    let k = count_of rs a.rule in
    let l = count_of rs b.rule in
    let f = block c.next k l in
    let fixed : (n : ℕ) → 1 ≤ occurrences n (configuration_names c) → f n ≡ n = λ n some. block_low c.next k l n (below_next c w.named n some) in
    let parts = given_counts rs c before middle after p q a b w in
    let terms = renamed_terms_stay f c.interface (λ n some. fixed n (let all = parts n in omega (arith, all, some))) in
    let front = renamed_pairs_stay f before (λ n some. fixed n (let all = parts n in omega (arith, all, some))) in
    let mid = renamed_pairs_stay f middle (λ n some. fixed n (let all = parts n in omega (arith, all, some))) in
    let back = renamed_pairs_stay f after (λ n some. fixed n (let all = parts n in omega (arith, all, some))) in
    let own = active_stays rs p a w.rule_p f (λ n some. fixed n (let all = parts n in omega (arith, all, some))) in
    let others = active_stays rs q b w.rule_q f (λ n some. fixed n (let all = parts n in omega (arith, all, some))) in
    let first = renamed_products rs p a w.rule_p c.next (c.next + l) f (λ j low. block_first c.next k l j low) ∙ ap (products_by rs (c.next + l)) own in
    let second = renamed_products rs q b w.rule_q (c.next + k) c.next f (λ j low. block_second c.next k l j low) ∙ ap (products_by rs c.next) others in
    let equations = filled_renamed rs before middle after a b c.next (c.next + k) f ∙ (λ i. front i ++ (first i ++ (mid i ++ (second i ++ back i)))) in
    let tops : (c.next + l) + k ≡ (c.next + k) + l = omega arith in
    renaming _ _ (record {
      to = f;
      from = block c.next l k;
      there_and_back = block_back c.next k l;
      back_and_there = block_back c.next l k;
      free = λ n once. free_at rs c before middle after p q a b w n once (cases_lt n c.next);
      fresh = λ n high. block_high c.next k l n high;
      result = λ i. record { interface = sym terms i; equations = sym equations i; next = tops i };
    })

both_fired : (rs : List Rule) (c : Configuration) (before middle after : List Pair) (p q : Pair) (a b : Active) → BothActive rs c before middle after p q a b
    → FiredBoth rs (fired_in rs c (before ++ (products_by rs c.next a ++ (middle ++ q ∷ after))) a)
    (fired_in rs c (before ++ p ∷ (middle ++ (products_by rs c.next b ++ after))) b) a.rule b.rule
both_fired rs c before middle after p q a b w =
    let k = count_of rs a.rule in
    let l = count_of rs b.rule in
    let out = products_by rs c.next a in
    let next_out = products_by rs (c.next + k) b in
    record {
      end = record { interface = c.interface; equations = filled rs before middle after a b c.next (c.next + k); next = (c.next + k) + l };
      other = record { interface = c.interface; equations = filled rs before middle after a b (c.next + l) c.next; next = (c.next + l) + k };
      one = record {
        equation = q;
        active = b;
        others = filled rs before middle after a b c.next (c.next + k);
        at = replaced_after q next_out before (out ++ (middle ++ q ∷ after)) (out ++ (middle ++ (next_out ++ after)))
            (replaced_after q next_out out (middle ++ q ∷ after) (middle ++ (next_out ++ after)) (replaced_at q next_out middle after));
        has_rule = w.active_q;
        result = refl;
      };
      two = record {
        equation = p;
        active = a;
        others = filled rs before middle after a b (c.next + l) c.next;
        at = replaced_at p (products_by rs (c.next + l) a) before (middle ++ (products_by rs c.next b ++ after));
        has_rule = w.active_p;
        result = refl;
      };
      rule_one = refl;
      rule_two = refl;
      same = both_same rs c before middle after p q a b w;
    }

-- ---- two places of one list

-- the same place, or one before the other
abbrev Places : List Pair → List Pair → Pair → Pair → List Pair → List Pair → Type 0
Places front start p q back end =
    ((front ≡ start) × (p ≡ q) × (back ≡ end))
    ⊎ (((middle : List Pair) × (start ≡ front ++ p ∷ middle) × (back ≡ middle ++ q ∷ end))
    ⊎ ((middle : List Pair) × (front ≡ start ++ q ∷ middle) × (end ≡ middle ++ p ∷ back)))

later_places : (h j : Pair) (front start : List Pair) (p q : Pair) (back end : List Pair) → h ≡ j → Places front start p q back end → Places (h ∷ front) (j ∷ start) p q back end
later_places h j front start p q back end e (inl (same, equal, rest)) = inl ((λ i. e i ∷ same i), equal, rest)
later_places h j front start p q back end e (inr (inl (middle, one, two))) = inr (inl (middle, (λ i. sym e i ∷ one i), two))
later_places h j front start p q back end e (inr (inr (middle, one, two))) = inr (inr (middle, (λ i. e i ∷ one i), two))

abbrev head_or : Pair → List Pair → Pair
head_or d [] = d
head_or d (p ∷ ps) = p

abbrev tail_of : List Pair → List Pair
tail_of [] = []
tail_of (p ∷ ps) = ps

places : (front start : List Pair) (p q : Pair) (back end : List Pair) → front ++ p ∷ back ≡ start ++ q ∷ end → Places front start p q back end
places [] [] p q back end e = inl (refl, ap (head_or p) e, ap tail_of e)
places [] (j ∷ start) p q back end e = inr (inl (start, (λ i. sym (ap (head_or p) e) i ∷ start), ap tail_of e))
places (h ∷ front) [] p q back end e = inr (inr (front, (λ i. ap (head_or h) e i ∷ front), sym (ap tail_of e)))
places (h ∷ front) (j ∷ start) p q back end e = later_places h j front start p q back end (ap (head_or h) e) (places front start p q back end (ap tail_of e))

-- ---- two interactions

-- The same one, or each is still there after the other and leads to the same net.
abbrev pub TwoFired : List Rule → Configuration → Configuration → ℕ → ℕ → Type 0
TwoFired rs d e i j = ((i ≡ j) × Same d e) ⊎ FiredBoth rs d e i j

pub two_firings : (rs : Rules) (c d e : Configuration) → IsRuleSet rs → Sound rs c → (s : Firing rs.rules c d) → (r : Firing rs.rules c e)
    → TwoFired rs.rules d e s.active.rule r.active.rule
two_firings rs c d e set sound s r = at (places one.before two.before s.equation r.equation one.after two.after (sym one.given ∙ two.given))
  where
    one : PlaceOf s.equation (products_by rs.rules c.next s.active) c.equations s.others
    one = place_of s.equation (products_by rs.rules c.next s.active) c.equations s.others s.at

    two : PlaceOf r.equation (products_by rs.rules c.next r.active) c.equations r.others
    two = place_of r.equation (products_by rs.rules c.next r.active) c.equations r.others r.at

    at : Places one.before two.before s.equation r.equation one.after two.after → TwoFired rs.rules d e s.active.rule r.active.rule
    at (inl (front, equal, back)) =
        let act = same_Some s.active r.active (sym s.has_rule ∙ (ap (active_pair rs.rules) equal ∙ r.has_rule)) in
        let there = s.result ∙ ((λ i. fired_in rs.rules c (one.result i) s.active)
        ∙ ((λ i. fired_in rs.rules c (front i ++ (products_by rs.rules c.next (act i) ++ back i)) (act i))
        ∙ ((λ i. fired_in rs.rules c (sym two.result i) r.active) ∙ sym r.result))) in
        let P : Configuration → Type 0 = Same d in
        inl (ap (λ (a : Active). a.rule) act, transport P there (Same-refl d))
    at (inr (inl (middle, start, back))) =
        let p = s.equation in
        let out = products_by rs.rules c.next s.active in
        let more = products_by rs.rules c.next r.active in
        let is_d : d ≡ fired_in rs.rules c (one.before ++ (out ++ (middle ++ r.equation ∷ two.after))) s.active =
        s.result ∙ ap (λ es. fired_in rs.rules c es s.active) (one.result ∙ ap (λ es. one.before ++ (out ++ es)) back) in
        let is_e : e ≡ fired_in rs.rules c (one.before ++ p ∷ (middle ++ (more ++ two.after))) r.active =
        r.result ∙ ap (λ es. fired_in rs.rules c es r.active) (two.result ∙ (ap (λ es. es ++ (more ++ two.after)) start ∙ append_assoc one.before (p ∷ middle) (more ++ two.after))) in
        let P : Configuration → Type 0 = λ z. FiredBoth rs.rules z e s.active.rule r.active.rule in
        let Q : Configuration → Type 0 = λ z. FiredBoth rs.rules (fired_in rs.rules c (one.before ++ (out ++ (middle ++ r.equation ∷ two.after))) s.active) z s.active.rule r.active.rule in
        inr (transport P (sym is_d) (transport Q (sym is_e) (both_fired rs.rules c one.before middle two.after p r.equation s.active r.active (record {
          named = sound.named;
          given = one.given ∙ ap (λ es. one.before ++ p ∷ es) back;
          active_p = s.has_rule;
          active_q = r.has_rule;
          rule_p = rule_of rs c d set sound s;
          rule_q = rule_of rs c e set sound r;
        }))))
    at (inr (inr (middle, front, end))) =
        let q = r.equation in
        let out = products_by rs.rules c.next s.active in
        let more = products_by rs.rules c.next r.active in
        let is_e : e ≡ fired_in rs.rules c (two.before ++ (more ++ (middle ++ s.equation ∷ one.after))) r.active =
        r.result ∙ ap (λ es. fired_in rs.rules c es r.active) (two.result ∙ ap (λ es. two.before ++ (more ++ es)) end) in
        let is_d : d ≡ fired_in rs.rules c (two.before ++ q ∷ (middle ++ (out ++ one.after))) s.active =
        s.result ∙ ap (λ es. fired_in rs.rules c es s.active) (one.result ∙ (ap (λ es. es ++ (out ++ one.after)) front ∙ append_assoc two.before (q ∷ middle) (out ++ one.after))) in
        let P : Configuration → Type 0 = λ z. FiredBoth rs.rules z d r.active.rule s.active.rule in
        let Q : Configuration → Type 0 = λ z. FiredBoth rs.rules (fired_in rs.rules c (two.before ++ (more ++ (middle ++ s.equation ∷ one.after))) r.active) z r.active.rule s.active.rule in
        let met = transport P (sym is_e) (transport Q (sym is_d) (both_fired rs.rules c two.before middle one.after q s.equation r.active s.active (record {
          named = sound.named;
          given = two.given ∙ ap (λ es. two.before ++ q ∷ es) end;
          active_p = r.has_rule;
          active_q = s.has_rule;
          rule_p = rule_of rs c e set sound r;
          rule_q = rule_of rs c d set sound s;
        }))) in
        inr (turned_both rs.rules e d r.active.rule s.active.rule met)
