-- A name's number is how many names stand first before it; and what is said of the first rule whose pair comes again.
use Rattle.std.proofs.Common.{◌≡◌, ℕ, ◌==◌, Bool, true, false, ◌||◌, cond, List, [], ◌∷◌, ◌++◌, Some, length, refl, sym, ap, ◌∙◌, append_assoc, append-nil, arith}
use Rattle.std.proofs.lemmas.List.Folds.{list_any-append}
use Rattle.std.specs.Cmp.{unsigned_Decides}
use Rattle.std.specs.List.{list_any}
use Rattle.std.proofs.lemmas.Bool.{or_parts}
use Rattle.ic_rules.specs.Renaming.{first_after, first_occurrences, number_among}
use Rattle.ic_rules.specs.Rule.{Rule, same_pair}
use Rattle.ic_rules.specs.RuleSet.{repeated_after, first_repeated}
use Rattle.ic_rules.specs.FirstRepeated.{IsFirstRepeated}
use Rattle.ic_rules.specs.lemmas.NumberingLaws.{self_eq}

-- whether a name is there
abbrev is_in : ℕ → List ℕ → Bool
is_in n ns = list_any (λ m. n == m) ns

or_false : (b : Bool) → b ≡ (b || false)
or_false true = refl
or_false false = refl

or_assoc : (a b c : Bool) → ((a || b) || c) ≡ (a || (b || c))
or_assoc true b c = refl
or_assoc false b c = refl

pub first_after-append : (xs ys seen : List ℕ) → first_after seen (xs ++ ys) ≡ first_after (first_after seen xs) ys
first_after-append [] ys seen = refl
first_after-append (x ∷ xs) ys seen = by_test (is_in x seen) (first_after-append xs ys seen) (first_after-append xs ys (seen ++ x ∷ []))
  where
    by_test : (b : Bool) → first_after seen (xs ++ ys) ≡ first_after (first_after seen xs) ys
        → first_after (seen ++ x ∷ []) (xs ++ ys) ≡ first_after (first_after (seen ++ x ∷ []) xs) ys
        → cond b (first_after seen (xs ++ ys)) (first_after (seen ++ x ∷ []) (xs ++ ys)) ≡ first_after (cond b (first_after seen xs) (first_after (seen ++ x ∷ []) xs)) ys
    by_test true old new = old
    by_test false old new = new

pub grows : (ns seen : List ℕ) → (more : List ℕ) × (first_after seen ns ≡ seen ++ more)
grows [] seen = ([], sym (append-nil seen))
grows (n ∷ ns) seen = by_test (is_in n seen) (grows ns seen) (grows ns (seen ++ n ∷ []))
  where
    by_test : (b : Bool) → (more : List ℕ) × (first_after seen ns ≡ seen ++ more) → (more : List ℕ) × (first_after (seen ++ n ∷ []) ns ≡ (seen ++ n ∷ []) ++ more)
        → (more : List ℕ) × (cond b (first_after seen ns) (first_after (seen ++ n ∷ []) ns) ≡ seen ++ more)
    by_test true old new = old
    by_test false old new = (n ∷ new.0, new.1 ∙ append_assoc seen (n ∷ []) new.0)

known_again : (n m : ℕ) (seen : List ℕ) → is_in m seen ≡ true → is_in n seen ≡ (is_in n seen || n == m)
known_again n m seen known = by_test (n == m) refl
  where
    by_test : (b : Bool) → (n == m) ≡ b → is_in n seen ≡ (is_in n seen || b)
    by_test true e = let there : is_in n seen ≡ true = ap (λ k. is_in k seen) ((unsigned_Decides n m).0 e) ∙ known in there ∙ sym (ap (λ b. b || true) there)
    by_test false e = or_false (is_in n seen)

-- the first occurrences are the names of the list
in_first : (n : ℕ) (ns seen : List ℕ) → is_in n (first_after seen ns) ≡ (is_in n seen || is_in n ns)
in_first n [] seen = or_false (is_in n seen)
in_first n (m ∷ ns) seen = by_test (is_in m seen) refl (in_first n ns seen) (in_first n ns (seen ++ m ∷ []))
  where
    by_test : (b : Bool) → is_in m seen ≡ b → is_in n (first_after seen ns) ≡ (is_in n seen || is_in n ns)
        → is_in n (first_after (seen ++ m ∷ []) ns) ≡ (is_in n (seen ++ m ∷ []) || is_in n ns)
        → is_in n (cond b (first_after seen ns) (first_after (seen ++ m ∷ []) ns)) ≡ (is_in n seen || (n == m || is_in n ns))
    by_test true known old new = old ∙ ap (λ b. b || is_in n ns) (known_again n m seen known) ∙ or_assoc (is_in n seen) (n == m) (is_in n ns)
    by_test false known old new =
        new
        ∙ ap (λ b. b || is_in n ns) (list_any-append (λ k. n == k) seen (m ∷ []) ∙ ap (λ b. is_in n seen || b) (sym (or_false (n == m))))
        ∙ or_assoc (is_in n seen) (n == m) (is_in n ns)

-- a name after others has their number as its own
number_after : (firsts more : List ℕ) (n : ℕ) → is_in n firsts ≡ false → number_among (firsts ++ n ∷ more) n ≡ length firsts
number_after [] more n new = rw (self_eq n) refl
number_after (m ∷ ms) more n new =
    let parts = or_parts (n == m) (is_in n ms) new in
    rw (parts.0, number_after ms more n parts.1) (omega arith)

-- a name that stands nowhere before has as its number how many names stand before
pub number_of_first : (before after : List ℕ) (n : ℕ) → is_in n before ≡ false → number_among (first_occurrences (before ++ n ∷ after)) n ≡ length (first_occurrences before)
number_of_first before after n new =
    let firsts = first_occurrences before in
    let none : is_in n firsts ≡ false = in_first n before [] ∙ new in
    let added : first_after firsts (n ∷ after) ≡ first_after (firsts ++ n ∷ []) after = rw none refl in
    let rest = grows after (firsts ++ n ∷ []) in
    let whole : first_occurrences (before ++ n ∷ after) ≡ firsts ++ n ∷ rest.0 = first_after-append before (n ∷ after) [] ∙ added ∙ rest.1 ∙ append_assoc firsts (n ∷ []) rest.0 in
    ap (λ l. number_among l n) whole ∙ number_after firsts rest.0 n none

-- one more rule in front of what was found
further : (seen rs : List Rule) (s : Rule) (i : ℕ) → list_any (same_pair s) seen ≡ false → IsFirstRepeated (seen ++ s ∷ []) rs i → IsFirstRepeated seen (s ∷ rs) i
further seen rs s i new found = record {
  before = s ∷ found.before;
  rule = found.rule;
  after = found.after;
  parts = ap (λ l. s ∷ l) found.parts;
  counted = ap length (sym (append_assoc seen (s ∷ []) found.before)) ∙ found.counted;
  again = ap (list_any (same_pair found.rule)) (sym (append_assoc seen (s ∷ []) found.before)) ∙ found.again;
  single = rw new found.single;
}

repeated_at : (rs seen : List Rule) (i : ℕ) → repeated_after seen rs ≡ Some i → IsFirstRepeated seen rs i
repeated_at [] seen i found = cc
repeated_at (s ∷ rs) seen i found = by_test (list_any (same_pair s) seen) refl found (repeated_at rs (seen ++ s ∷ []) i)
  where
    by_test : (b : Bool) → list_any (same_pair s) seen ≡ b → cond b (Some (length seen)) (repeated_after (seen ++ s ∷ []) rs) ≡ Some i
        → (repeated_after (seen ++ s ∷ []) rs ≡ Some i → IsFirstRepeated (seen ++ s ∷ []) rs i) → IsFirstRepeated seen (s ∷ rs) i
    by_test true is e below = record {
      before = [];
      rule = s;
      after = rs;
      parts = refl;
      counted = ap length (append-nil seen) ∙ cc;
      again = ap (list_any (same_pair s)) (append-nil seen) ∙ is;
      single = refl;
    }
    by_test false is e below = further seen rs s i is (below e)

-- the rule that is found has a pair that an earlier one has, and none before it has such a pair
pub first_repeated-Some : (rs : List Rule) (i : ℕ) → first_repeated rs ≡ Some i → IsFirstRepeated [] rs i
first_repeated-Some rs i found = repeated_at rs [] i found
