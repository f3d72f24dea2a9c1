-- Lemmas: an active equation turned round. It has the same rule and the same products, but for a rule of a symbol with
-- itself: that is its own mirror.
use Rattle.std.proofs.Common.{◌≡◌, ◌⊎◌, ℕ, zero, suc, ◌+◌, ◌-◌, ◌≤◌, ◌<◌, ◌==◌, ◌&&◌, List, [], ◌∷◌, ◌++◌, Bool, true, false, not, cond, ltb, Option, None, Some, IfSome, slice_get, length, map, refl, sym, ap, ◌∙◌, arith, inl, inr, subst as transport}
use Rattle.std.proofs.lemmas.Bool.{and_from, and_parts, or_left, or_right, cases_lt, lt-ltb, le-ltb, true≢false}
use Rattle.std.proofs.lemmas.List.{map-append}
use Rattle.std.proofs.lemmas.Option.{same_Some}
use Rattle.std.specs.Cmp.{unsigned_Decides}
use Rattle.std.specs.List.{flat_map, list_any, position_from}
use Rattle.ic_term.specs.Tree.{Tree, name, agent, Trees, names, Pair}
use Rattle.ic_term.specs.Configuration.{occurrences}
use Rattle.ic_rules.specs.Renaming.{renamed, first_occurrences, number_among}
use Rattle.ic_rules.specs.Rule.{Rule, IsRule, rule_names, rule_eq, swapped, numbered, is_lopsided, stands_for}
use Rattle.ic_rules.specs.RuleSet.{Rules, IsRuleSet, first_repeated, found_or, rule_for, has_pair}
use Rattle.ic_rules.specs.lemmas.FindLaws.{rule_for-found, single_pair}
use Rattle.ic_rules.specs.lemmas.RuleLaws.{rule_eq-Decides}
use Rattle.ic_rules.specs.lemmas.RenamingLaws.{flat_names-renamed, Through, terms-through}
use Rattle.ic_settle.specs.Settling.{occurs}
use Rattle.ic_settle.specs.lemmas.SubstitutionLaws.{occurrences-append, occurrences-cons, occurs_none, occurrences_some}
use Rattle.std.specs.Option.{option_map_or}
use Rattle.ic_round.specs.Instance.{inst}
use Rattle.ic_round.specs.Firing.{Active, oriented, active_pair, arguments, against, products, products_by}
use Rattle.ic_round.specs.lemmas.FreshNames.{rule_below, absent_above}
use Rattle.ic_confluence.specs.Sameness.{turned, renamed_pair}
use Rattle.ic_confluence.specs.lemmas.Counts.{All_from}
use Rattle.ic_confluence.proofs.Putting.{occurs_some}
use Rattle.ic_confluence.specs.lemmas.Actives.{HasRule, renamed_active, renamed_against, renamed_arguments}

-- ---- one rule of a pair

-- what stands before the later one of two places of a list
record Split (rs : List Rule) (earlier later : Rule) : Type 0 where
  before : List Rule
  after : List Rule
  parts : rs ≡ before ++ later ∷ after
  found : (P : Rule → Bool) → P earlier ≡ true → list_any P before ≡ true

split_at : (rs : List Rule) (j : ℕ) (q : Rule) → slice_get rs j ≡ Some q → (before : List Rule) × (after : List Rule) × (rs ≡ before ++ q ∷ after)
split_at [] j q e = cc
split_at (r ∷ rs) zero q e = ([], rs, ap (λ s. s ∷ rs) (same_Some r q e))
split_at (r ∷ rs) (suc j) q e = let rest = split_at rs j q e in (r ∷ rest.0, rest.1, ap (λ l. r ∷ l) rest.2)

split_both : (rs : List Rule) (i j : ℕ) (p q : Rule) → slice_get rs i ≡ Some p → slice_get rs j ≡ Some q → i < j → Split rs p q
split_both [] i j p q e f low = cc
split_both (r ∷ rs) i zero p q e f low = absurd (omega (arith, low))
split_both (r ∷ rs) zero (suc j) p q e f low =
    let rest = split_at rs j q f in
    record {
      before = r ∷ rest.0;
      after = rest.1;
      parts = ap (λ l. r ∷ l) rest.2;
      found = λ P yes. or_left (P r) (list_any P rest.0) (ap P (same_Some r p e) ∙ yes);
    }
split_both (r ∷ rs) (suc i) (suc j) p q e f low =
    let rest = split_both rs i j p q e f (omega (arith, low)) in
    record {
      before = r ∷ rest.before;
      after = rest.after;
      parts = ap (λ l. r ∷ l) rest.parts;
      found = λ P yes. or_right (P r) (list_any P rest.before) (rest.found P yes);
    }

mirrored_pair : (s z : ℕ) (p q : Rule) → stands_for s z p ≡ true → stands_for z s q ≡ true → has_pair q.left q.right p ≡ true
mirrored_pair s z p q e f =
    let one = and_parts (p.left == s) (p.right == z) e in
    let other = and_parts (q.left == z) (q.right == s) f in
    let left : p.left ≡ q.right = (unsigned_Decides p.left s).0 one.0 ∙ sym ((unsigned_Decides q.right s).0 other.1) in
    let right : p.right ≡ q.left = (unsigned_Decides p.right z).0 one.1 ∙ sym ((unsigned_Decides q.left z).0 other.0) in
    or_right (stands_for q.left q.right p) (stands_for q.right q.left p) (both (p.left == q.right) (p.right == q.left) ((unsigned_Decides p.left q.right).1 left) ((unsigned_Decides p.right q.left).1 right))
  where
    both : (a b : Bool) → a ≡ true → b ≡ true → (a && b) ≡ true
    both a b x y = rw (x, y) refl

no_earlier : (rs : List Rule) (i j s z : ℕ) (p q : Rule) → first_repeated rs ≡ None → slice_get rs i ≡ Some p → slice_get rs j ≡ Some q
    → stands_for s z p ≡ true → stands_for z s q ≡ true → i < j → ⊥
no_earlier rs i j s z p q single e f one other low =
    let parts = split_both rs i j p q e f low in
    let P : List Rule → Type 0 = λ l. first_repeated l ≡ None in
    let none = single_pair parts.before parts.after q (transport P parts.parts single) in
    true≢false (sym (parts.found (has_pair q.left q.right) (mirrored_pair s z p q one other)) ∙ none)

one_place : (rs : List Rule) (i j s z : ℕ) (p q : Rule) → first_repeated rs ≡ None → slice_get rs i ≡ Some p → slice_get rs j ≡ Some q
    → stands_for s z p ≡ true → stands_for z s q ≡ true → (i < j) ⊎ (j ≤ i) → (j < i) ⊎ (i ≤ j) → i ≡ j
one_place rs i j s z p q single e f one other (inl low) b = absurd (no_earlier rs i j s z p q single e f one other low)
one_place rs i j s z p q single e f one other (inr a) (inl low) = absurd (no_earlier rs j i z s q p single f e other one low)
one_place rs i j s z p q single e f one other (inr a) (inr b) = omega (arith, a, b)

-- ---- the equation turned round

abbrev pub turned_active : Active → Active
turned_active a = record { rule = a.rule; left = a.right; right = a.left }

-- it is active by the same rule, as before or turned round, and this for a rule of a symbol with itself only
abbrev pub TurnedActive : List Rule → Pair → Active → Type 0
TurnedActive rs p a =
    (active_pair rs (turned p) ≡ Some a)
    ⊎ ((active_pair rs (turned p) ≡ Some (turned_active a)) × ((r : Rule) → slice_get rs a.rule ≡ Some r → r.left ≡ r.right))

none_some : (r : Rule) → None ≡ Some r → ⊥
none_some r e = cc

there_at : (rs : List Rule) (s z i : ℕ) → rule_for rs s z ≡ Some (i, false) → (r : Rule) × ((slice_get rs i ≡ Some r) × (stands_for s z r ≡ true))
there_at rs s z i e =
    let found = rule_for-found rs s z i false e in
    get (slice_get rs i) refl found.of_pair (at rs i found.there)
  where
    at : (xs : List Rule) (k : ℕ) → k < length xs → (x : Rule) × (slice_get xs k ≡ Some x)
    at [] k low = absurd (omega (arith, low))
    at (x ∷ xs) zero low = (x, refl)
    at (x ∷ xs) (suc k) low = at xs k (omega (arith, low))

    get : (o : Option Rule) → slice_get rs i ≡ o → IfSome o (λ r. stands_for s z r ≡ true) → (x : Rule) × (slice_get rs i ≡ Some x) → (r : Rule) × ((slice_get rs i ≡ Some r) × (stands_for s z r ≡ true))
    get None e holds there = absurd (none_some there.0 (sym e ∙ there.1))
    get (Some r) e holds there = (r, (e, holds))

turn_agents : (rs : List Rule) (s z : ℕ) (ts us : Trees) (a : Active) → first_repeated rs ≡ None → (m n : Option ℕ)
    → position_from (stands_for s z) 0 rs ≡ m → position_from (stands_for z s) 0 rs ≡ n
    → oriented (agent s ts) (agent z us) (found_or false m (found_or true n None)) ≡ Some a
    → (oriented (agent z us) (agent s ts) (found_or false n (found_or true m None)) ≡ Some a)
    ⊎ ((oriented (agent z us) (agent s ts) (found_or false n (found_or true m None)) ≡ Some (turned_active a)) × ((r : Rule) → slice_get rs a.rule ≡ Some r → r.left ≡ r.right))
turn_agents rs s z ts us a single None None e f g = cc
turn_agents rs s z ts us a single (Some i) (Some j) e f g =
    let one = there_at rs s z i (ap (λ o. found_or false o (found_or true (position_from (stands_for z s) 0 rs) None)) e) in
    let other = there_at rs z s j (ap (λ o. found_or false o (found_or true (position_from (stands_for s z) 0 rs) None)) f) in
    let same : i ≡ j = one_place rs i j s z one.0 other.0 single one.1.0 other.1.0 one.1.1 other.1.1 (cases_lt i j) (cases_lt j i) in
    let is = same_Some (record { rule = i; left = agent s ts; right = agent z us }) a g in
    let P : Active → Type 0 = λ b. (Some (record { rule = j; left = agent z us; right = agent s ts }) ≡ Some (turned_active b)) × ((r : Rule) → slice_get rs b.rule ≡ Some r → r.left ≡ r.right) in
    inr (transport P is (
      (λ k. Some (record { rule = sym same k; left = agent z us; right = agent s ts })),
      (λ r there.
          let first = same_Some one.0 r (sym one.1.0 ∙ there) in
          let second = same_Some other.0 r (sym other.1.0 ∙ (ap (slice_get rs) (sym same) ∙ there)) in
          let left = and_parts (one.0.left == s) (one.0.right == z) one.1.1 in
          let right = and_parts (other.0.left == z) (other.0.right == s) other.1.1 in
          ap (λ (x : Rule). x.left) (sym second) ∙ ((unsigned_Decides other.0.left z).0 right.0 ∙ (sym ((unsigned_Decides one.0.right z).0 left.1) ∙ ap (λ (x : Rule). x.right) first))),
    ))
turn_agents rs s z ts us a single _ _ e f g = inl g

turn_sides : (rs : List Rule) (t u : Tree) (a : Active) → first_repeated rs ≡ None → active_pair rs (record { left = t; right = u }) ≡ Some a → TurnedActive rs (record { left = t; right = u }) a
turn_sides rs (name n) u a single e = cc
turn_sides rs (agent s ts) (name n) a single e = cc
turn_sides rs (agent s ts) (agent z us) a single e =
    turn_agents rs s z ts us a single (position_from (stands_for s z) 0 rs) (position_from (stands_for z s) 0 rs) refl refl e

pub turn_active : (rs : Rules) (p : Pair) (a : Active) → IsRuleSet rs → active_pair rs.rules p ≡ Some a → TurnedActive rs.rules p a
turn_active rs p a set e = turn_sides rs.rules p.left p.right a set.single e

-- ---- a rule that is its own mirror

-- a renaming that turns its left arguments into the right ones and these into the left ones
pub record Mirrors (r : Rule) : Type 0 where
  pub to : ℕ → ℕ
  pub left : map (renamed to) r.right_args ≡ r.left_args
  pub right : map (renamed to) r.left_args ≡ r.right_args

pub mirrors : (r : Rule) → IsRule r → r.left ≡ r.right → Mirrors r
mirrors r is self = at (rule_eq r (numbered (swapped r))) refl
  where
    same : (r.left == r.right) ≡ true
    same = (unsigned_Decides r.left r.right).1 self

    at : (b : Bool) → rule_eq r (numbered (swapped r)) ≡ b → Mirrors r
    at true e =
        let equal = (rule_eq-Decides r (numbered (swapped r))).0 e in
        record {
          to = number_among (first_occurrences (rule_names (swapped r)));
          left = ap (λ (x : Rule). x.left_args) (sym equal);
          right = ap (λ (x : Rule). x.right_args) (sym equal);
        }
    at false e = absurd (true≢false (sym (lopsided e) ∙ is.level))
      where
        lopsided : rule_eq r (numbered (swapped r)) ≡ false → is_lopsided r ≡ true
        lopsided e = and_from (r.left == r.right) (not (rule_eq r (numbered (swapped r)))) same (ap not e)

-- the names of one side are those of the other one, renamed
left_names : (r : Rule) (m : Mirrors r) → map m.to (flat_map names r.right_args) ≡ flat_map names r.left_args
left_names r m = sym (flat_names-renamed m.to r.right_args) ∙ ap (flat_map names) m.left

right_names : (r : Rule) (m : Mirrors r) → map m.to (flat_map names r.left_args) ≡ flat_map names r.right_args
right_names r m = sym (flat_names-renamed m.to r.left_args) ∙ ap (flat_map names) m.right

abbrev rest_of : List ℕ → List ℕ
rest_of [] = []
rest_of (k ∷ ks) = ks

abbrev first_of : List ℕ → ℕ
first_of [] = 0
first_of (k ∷ ks) = k

fixed_where : (f : ℕ → ℕ) (ns : List ℕ) → map f ns ≡ ns → (n : ℕ) → 1 ≤ occurrences n ns → f n ≡ n
fixed_where f [] e n some = absurd (let nothing : occurrences n [] ≡ 0 = refl in omega (arith, some, nothing))
fixed_where f (m ∷ ns) e n some = at (m == n) refl (fixed_where f ns (ap rest_of e) n)
  where
    at : (b : Bool) → (m == n) ≡ b → (1 ≤ occurrences n ns → f n ≡ n) → f n ≡ n
    at true is rest = let same = (unsigned_Decides m n).0 is in ap f (sym same) ∙ (ap first_of e ∙ same)
    at false is rest =
        let first = occurrences-cons n m ns in
        let other : ◌≡◌ {A = ℕ} (cond (m == n) 1 0) 0 = rw is refl in
        rest (omega (arith, first, other, some))

map_twice : (f : ℕ → ℕ) (ns : List ℕ) → map f (map f ns) ≡ map (λ n. f (f n)) ns
map_twice f [] = refl
map_twice f (n ∷ ns) = ap (λ ms. f (f n) ∷ ms) (map_twice f ns)

mapped_in : (f : ℕ → ℕ) (ns : List ℕ) (n : ℕ) → 1 ≤ occurrences n ns → 1 ≤ occurrences (f n) (map f ns)
mapped_in f [] n some = absurd (let nothing : occurrences n [] ≡ 0 = refl in omega (arith, some, nothing))
mapped_in f (m ∷ ns) n some = at (m == n) refl (mapped_in f ns n)
  where
    at : (b : Bool) → (m == n) ≡ b → (1 ≤ occurrences n ns → 1 ≤ occurrences (f n) (map f ns)) → 1 ≤ occurrences (f n) (map f (m ∷ ns))
    at true is rest =
        let same = (unsigned_Decides m n).0 is in
        let yes : (f m == f n) ≡ true = (unsigned_Decides (f m) (f n)).1 (ap f same) in
        let first = occurrences-cons (f n) (f m) (map f ns) in
        let one : ◌≡◌ {A = ℕ} (cond (f m == f n) 1 0) 1 = rw yes refl in
        omega (arith, first, one)
    at false is rest =
        let first = occurrences-cons n m ns in
        let other : ◌≡◌ {A = ℕ} (cond (m == n) 1 0) 0 = rw is refl in
        let more = occurrences-cons (f n) (f m) (map f ns) in
        let below = rest (omega (arith, first, other, some)) in
        omega (arith, more, below)

-- twice is back, and the names stay those of the rule
record MirrorAt (r : Rule) (m : Mirrors r) (n : ℕ) : Type 0 where
  back : m.to (m.to n) ≡ n
  there : 1 ≤ occurrences (m.to n) (rule_names r)

in_either : (r : Rule) (n : ℕ) → occurrences n (rule_names r) ≡ occurrences n (flat_map names r.left_args) + occurrences n (flat_map names r.right_args)
in_either r n = occurrences-append n (flat_map names r.left_args) (flat_map names r.right_args)

mirror_left : (r : Rule) (m : Mirrors r) (n : ℕ) → 1 ≤ occurrences n (flat_map names r.left_args) → MirrorAt r m n
mirror_left r m n some = record {
  back = fixed_where (λ k. m.to (m.to k)) (flat_map names r.left_args)
      (sym (map_twice m.to (flat_map names r.left_args)) ∙ (ap (map m.to) (right_names r m) ∙ left_names r m)) n some;
  there =
      let moved = mapped_in m.to (flat_map names r.left_args) n some in
      let same = ap (occurrences (m.to n)) (right_names r m) in
      let all = in_either r (m.to n) in
      omega (arith, moved, same, all);
}

mirror_right : (r : Rule) (m : Mirrors r) (n : ℕ) → 1 ≤ occurrences n (flat_map names r.right_args) → MirrorAt r m n
mirror_right r m n some = record {
  back = fixed_where (λ k. m.to (m.to k)) (flat_map names r.right_args)
      (sym (map_twice m.to (flat_map names r.right_args)) ∙ (ap (map m.to) (left_names r m) ∙ right_names r m)) n some;
  there =
      let moved = mapped_in m.to (flat_map names r.right_args) n some in
      let same = ap (occurrences (m.to n)) (left_names r m) in
      let all = in_either r (m.to n) in
      omega (arith, moved, same, all);
}

mirror_at : (r : Rule) (m : Mirrors r) (n : ℕ) → 1 ≤ occurrences n (rule_names r) → MirrorAt r m n
mirror_at r m n some = by (cases_lt 0 (occurrences n (flat_map names r.left_args)))
  where
    by : (0 < occurrences n (flat_map names r.left_args)) ⊎ (occurrences n (flat_map names r.left_args) ≤ 0) → MirrorAt r m n
    by (inl low) = mirror_left r m n (omega (arith, low))
    by (inr none) = mirror_right r m n (let all = in_either r n in omega (arith, none, all, some))

-- the renaming of the rule's names alone, and of the names of its copy from a base on
abbrev pub mirrored : (r : Rule) → Mirrors r → ℕ → ℕ
mirrored r m n = cond (occurs n (rule_names r)) (m.to n) n

abbrev pub mirrored_from : (r : Rule) → Mirrors r → ℕ → ℕ → ℕ
mirrored_from r m base n = cond (ltb n base) n (base + mirrored r m (n - base))

pub mirrored_there : (r : Rule) (m : Mirrors r) (n : ℕ) → 1 ≤ occurrences n (rule_names r) → mirrored r m n ≡ m.to n
mirrored_there r m n some = rw (occurs_some n (rule_names r) some) refl

mirrored_other : (r : Rule) (m : Mirrors r) (n : ℕ) → occurs n (rule_names r) ≡ false → mirrored r m n ≡ n
mirrored_other r m n none = rw none refl

mirrored_back : (r : Rule) (m : Mirrors r) (n : ℕ) → mirrored r m (mirrored r m n) ≡ n
mirrored_back r m n = by (occurs n (rule_names r)) refl
  where
    by : (b : Bool) → occurs n (rule_names r) ≡ b → mirrored r m (mirrored r m n) ≡ n
    by true e =
        let some = occurrences_some n (rule_names r) e in
        let at = mirror_at r m n some in
        ap (mirrored r m) (mirrored_there r m n some) ∙ (mirrored_there r m (m.to n) at.there ∙ at.back)
    by false e = ap (mirrored r m) (mirrored_other r m n e) ∙ mirrored_other r m n e

pub from_low : (r : Rule) (m : Mirrors r) (base n : ℕ) → n < base → mirrored_from r m base n ≡ n
from_low r m base n low = rw (lt-ltb n base low) refl

pub from_high : (r : Rule) (m : Mirrors r) (base k : ℕ) → mirrored_from r m base (base + k) ≡ base + mirrored r m k
from_high r m base k =
    let less : (base + k) - base ≡ k = omega arith in
    rw (le-ltb (base + k) base (omega arith)) (ap (λ j. base + mirrored r m j) less)

pub mirrored_from_back : (r : Rule) (m : Mirrors r) (base n : ℕ) → mirrored_from r m base (mirrored_from r m base n) ≡ n
mirrored_from_back r m base n = by (cases_lt n base)
  where
    by : (n < base) ⊎ (base ≤ n) → mirrored_from r m base (mirrored_from r m base n) ≡ n
    by (inl low) = ap (mirrored_from r m base) (from_low r m base n low) ∙ from_low r m base n low
    by (inr high) =
        let split : base + (n - base) ≡ n = omega (arith, high) in
        let P : ℕ → Type 0 = λ k. mirrored_from r m base (mirrored_from r m base k) ≡ k in
        transport P split
        (ap (mirrored_from r m base) (from_high r m base (n - base)) ∙ (from_high r m base (mirrored r m (n - base)) ∙ ap (λ k. base + k) (mirrored_back r m (n - base))))

pub mirrored_from_fresh : (r : Rule) (m : Mirrors r) → IsRule r → (base n : ℕ) → base + r.names ≤ n → mirrored_from r m base n ≡ n
mirrored_from_fresh r m is base n high =
    let split : base + (n - base) ≡ n = omega (arith, high) in
    let none = absent_above (n - base) r.names (rule_names r) (rule_below r is) (omega (arith, high)) in
    let P : ℕ → Type 0 = λ k. mirrored_from r m base k ≡ k in
    transport P split (from_high r m base (n - base) ∙ ap (λ k. base + k) (mirrored_other r m (n - base) (occurs_none (n - base) (rule_names r) none)))

-- ---- products turned round

-- the copy of one side, renamed, is that of the other one
pub copies_mirrored : (r : Rule) (m : Mirrors r) (base : ℕ) (ts us : List Tree) → ((n : ℕ) → 1 ≤ occurrences n (flat_map names ts) → 1 ≤ occurrences n (rule_names r))
    → map (renamed m.to) ts ≡ us → map (renamed (mirrored_from r m base)) (map (renamed (λ k. base + k)) ts) ≡ map (renamed (λ k. base + k)) us
copies_mirrored r m base ts us among e =
    let through : Through (λ k. base + k) (mirrored_from r m base) (λ k. base + m.to k) (flat_map names ts) =
    All_from (λ n. mirrored_from r m base (base + n) ≡ base + m.to n) (flat_map names ts) (λ n some. from_high r m base n ∙ ap (λ k. base + k) (mirrored_there r m n (among n some))) in
    let direct : Through m.to (λ k. base + k) (λ k. base + m.to k) (flat_map names ts) = All_from (λ n. base + m.to n ≡ base + m.to n) (flat_map names ts) (λ n some. refl) in
    terms-through (λ k. base + k) (mirrored_from r m base) (λ k. base + m.to k) ts through
    ∙ (sym (terms-through m.to (λ k. base + k) (λ k. base + m.to k) ts direct) ∙ ap (map (renamed (λ k. base + k))) e)

pub mirrored_products : (rs : List Rule) (p : Pair) (a : Active) (h : HasRule rs p a) (m : Mirrors h.rule) (base : ℕ) → renamed_active (mirrored_from h.rule m base) a ≡ a
    → map (renamed_pair (mirrored_from h.rule m base)) (products_by rs base (turned_active a))
    ≡ against (arguments a.right) (inst h.rule base).right_args ++ against (arguments a.left) (inst h.rule base).left_args
mirrored_products rs p a h m base fixed =
    let r = h.rule in
    let f = mirrored_from r m base in
    let copy = inst r base in
    let given : products_by rs base (turned_active a) ≡ products copy a.right a.left = ap (λ o. option_map_or (λ z. products (inst z base) a.right a.left) o []) h.there in
    let lefts = copies_mirrored r m base r.left_args r.right_args (λ n some. let all = in_either r n in omega (arith, all, some)) m.right in
    let rights = copies_mirrored r m base r.right_args r.left_args (λ n some. let all = in_either r n in omega (arith, all, some)) m.left in
    let own_left = sym (renamed_arguments f a.left) ∙ ap (λ (b : Active). arguments b.left) fixed in
    let own_right = sym (renamed_arguments f a.right) ∙ ap (λ (b : Active). arguments b.right) fixed in
    let apart = map-append (renamed_pair f) (against (arguments a.right) copy.left_args) (against (arguments a.left) copy.right_args) in
    let one = renamed_against f (arguments a.right) copy.left_args ∙ (λ i. against (own_right i) (lefts i)) in
    let other = renamed_against f (arguments a.left) copy.right_args ∙ (λ i. against (own_left i) (rights i)) in
    ap (map (renamed_pair f)) given ∙ (apart ∙ (λ i. one i ++ other i))
