-- The rules that are read where the rules of a rule set are written have none of the faults of rules.
use Rattle.std.proofs.Common.{◌≡◌, ◌↔◌, ℕ, ◌+◌, ◌==◌, Bool, true, false, not, ◌&&◌, ◌||◌, cond, List, [], ◌∷◌, ◌++◌, None, Some, map, length, slice_get, inl, inr, refl, sym, ap, subst, ◌∙◌}
use Rattle.std.specs.Prelude.{unwrap_or}
use Rattle.std.specs.List.{flat_map, list_any, position_from, AllByRecursion}
use Rattle.std.proofs.lemmas.Bool.{cases_eq, eq-eqb, ne_eqb}
use Rattle.std.proofs.lemmas.List.{length-map, map-append}
use Rattle.std.proofs.lemmas.Option.{same_Some}
use Rattle.ic_term.specs.Symbol.{Symbol, AreSymbols, has_arity}
use Rattle.ic_term.specs.Tree.{Trees, list_of, trees_of}
use Rattle.ic_term.specs.lemmas.TreeLaws.{list_of-trees_of}
use Rattle.ic_rules.specs.Renaming.{renamed, are_paired}
use Rattle.ic_rules.specs.Rule.{Rule, IsRule, rule_names, numbered, is_lopsided, same_pair}
use Rattle.ic_rules.specs.RuleSet.{IsRuleOver, first_uncounted, repeated_after, first_repeated, first_lopsided}
use Rattle.ic_rules.specs.Mirror.{IsOwnMirror}
use Rattle.ic_rules.specs.lemmas.NumberingLaws.{numbered-same}
use Rattle.ic_text.specs.Source.{count_of, source_symbols}
use Rattle.ic_text.specs.SystemSource.{agent_source, rule_symbols}
use Rattle.ic_text.specs.Sense.{number_in_table}
use Rattle.ic_text.specs.Text.{text_or_none, sources_of}
use Rattle.ic_dump.specs.Telling.{agent_of, rule_of}
use Rattle.ic_dump.proofs.Lists.{All-join, All-split}
use Rattle.ic_dump.proofs.Known.{symbol_there, one_place}
use Rattle.ic_dump.proofs.Table.{Placed}
use Rattle.ic_dump.proofs.Turned.{turned, turned_rule, list_turned, list_renamed_turned, rule_names_turned}

pub none_from : {X : Type 0} (p : X → Bool) (k : ℕ) (xs : List X) → AllByRecursion (λ x. p x ≡ false) xs → position_from p k xs ≡ None
none_from p k [] all = refl
none_from p k (x ∷ xs) all = ap (λ b. cond b (Some k) (position_from p (k + 1) xs)) all.0 ∙ none_from p (k + 1) xs all.1

-- a symbol's number in one table and in the other
pub record Moved (table read : List Symbol) (n : ℕ) : Type 0 where
  pub symbol : Symbol
  pub before : slice_get table n ≡ Some symbol
  pub after : slice_get read (number_in_table read (text_or_none (slice_get table n))) ≡ Some symbol

module _ (table read : List Symbol) where
  moved_of : (n : ℕ) (ts : Trees) → has_arity (length (list_of ts)) (slice_get table n) ≡ true
      → Placed read (record { text = text_or_none (slice_get table n); arity = count_of (sources_of table ts) }) → Moved table read n
  moved_of n ts has placed = record {
    symbol = record { text = text_or_none (slice_get table n); arity = count_of (sources_of table ts) };
    before = symbol_there table n ts has;
    after = ap (λ o. slice_get read (unwrap_or o 0)) placed.is ∙ placed.there;
  }

  abbrev pub BothMoved : Rule → Type 0
  BothMoved r = Moved table read r.left × Moved table read r.right

  rule_moved : (r : Rule) → IsRuleOver table r → AllByRecursion (Placed read) (rule_symbols (rule_of table r)) → BothMoved r
  rule_moved r over placed =
      let sides = All-split (Placed read) (source_symbols (agent_source (agent_of table r.left r.left_args))) (source_symbols (agent_source (agent_of table r.right r.right_args))) placed in
      let left : has_arity (length (list_of (trees_of r.left_args))) (slice_get table r.left) ≡ true = ap (λ l. has_arity (length l) (slice_get table r.left)) (list_of-trees_of r.left_args) ∙ over.left in
      let right : has_arity (length (list_of (trees_of r.right_args))) (slice_get table r.right) ≡ true = ap (λ l. has_arity (length l) (slice_get table r.right)) (list_of-trees_of r.right_args) ∙ over.right in
      (moved_of r.left (trees_of r.left_args) left sides.0.0, moved_of r.right (trees_of r.right_args) right sides.1.0)

  pub rules_moved : (rs : List Rule) → AllByRecursion (IsRuleOver table) rs → AllByRecursion (Placed read) (flat_map rule_symbols (map (rule_of table) rs)) → AllByRecursion BothMoved rs
  rules_moved [] over placed = tt
  rules_moved (r ∷ rs) over placed =
      let parts = All-split (Placed read) (rule_symbols (rule_of table r)) (flat_map rule_symbols (map (rule_of table) rs)) placed in
      (rule_moved r over.0 parts.0, rules_moved rs over.1 parts.1)

  uncounted : (rs : List Rule) → AllByRecursion IsRule rs → AllByRecursion (λ r. not (are_paired (rule_names r)) ≡ false) (map (turned_rule table read) rs)
  uncounted [] are = tt
  uncounted (r ∷ rs) are = (ap (λ ns. not (are_paired ns)) (rule_names_turned table read r) ∙ ap not are.0.paired, uncounted rs are.1)

  pub none_uncounted : (rs : List Rule) → AllByRecursion IsRule rs → first_uncounted (map (turned_rule table read) rs) ≡ None
  none_uncounted rs are = none_from (λ r. not (are_paired (rule_names r))) 0 (map (turned_rule table read) rs) (uncounted rs are)

  module _ (ss_are : AreSymbols table) where
    abbrev number : ℕ → ℕ
    number n = number_in_table read (text_or_none (slice_get table n))

    one_number : (m n : ℕ) → Moved table read m → Moved table read n → number m ≡ number n → m ≡ n
    one_number m n here there same =
        let symbols : here.symbol ≡ there.symbol = same_Some here.symbol there.symbol (sym here.after ∙ ap (slice_get read) same ∙ there.after) in
        one_place table ss_are m n here.symbol there.symbol here.before there.before (ap (λ (s : Symbol). s.text) symbols)

    same_number : (m n : ℕ) → Moved table read m → Moved table read n → (number m == number n) ≡ (m == n)
    same_number m n here there = elim (cases_eq m n) [
      | inl e ↦ eq-eqb (number m) (number n) (ap number e) ∙ sym (eq-eqb m n e)
      | inr differ ↦ ne_eqb (number m) (number n) (λ e. differ (one_number m n here there e)) ∙ sym (ne_eqb m n differ)
    ]

    pair_same : (r q : Rule) → BothMoved r → BothMoved q → same_pair (turned_rule table read r) (turned_rule table read q) ≡ same_pair r q
    pair_same r q mr mq =
        λ i. (same_number q.left r.left mq.0 mr.0 i && same_number q.right r.right mq.1 mr.1 i)
        || (same_number q.left r.right mq.0 mr.1 i && same_number q.right r.left mq.1 mr.0 i)

    any_same : (r : Rule) (qs : List Rule) → BothMoved r → AllByRecursion BothMoved qs → list_any (same_pair (turned_rule table read r)) (map (turned_rule table read) qs) ≡ list_any (same_pair r) qs
    any_same r [] mr ms = refl
    any_same r (q ∷ qs) mr ms = λ i. pair_same r q mr ms.0 i || any_same r qs mr ms.1 i

    repeated_same : (seen rs : List Rule) → AllByRecursion BothMoved seen → AllByRecursion BothMoved rs
        → repeated_after (map (turned_rule table read) seen) (map (turned_rule table read) rs) ≡ repeated_after seen rs
    repeated_same seen [] ms mr = refl
    repeated_same seen (r ∷ rs) ms mr =
        let rest : repeated_after (map (turned_rule table read) seen ++ turned_rule table read r ∷ []) (map (turned_rule table read) rs) ≡ repeated_after (seen ++ r ∷ []) rs =
        ap (λ l. repeated_after l (map (turned_rule table read) rs)) (sym (map-append (turned_rule table read) seen (r ∷ [])))
        ∙ repeated_same (seen ++ r ∷ []) rs (All-join BothMoved seen (r ∷ []) ms (mr.0, tt)) mr.1 in
        λ i. cond (any_same r seen mr.0 ms i) (Some (length-map seen (turned_rule table read) i)) (rest i)

    pub none_repeated : (rs : List Rule) → AllByRecursion BothMoved rs → first_repeated rs ≡ None → first_repeated (map (turned_rule table read) rs) ≡ None
    none_repeated rs moved none = repeated_same [] rs tt moved ∙ none

    module _ (same : (r : Rule) → r.left ≡ r.right → (is_lopsided (numbered r) ≡ false) ↔ IsOwnMirror r) (two : (r : Rule) → (r.left ≡ r.right → ⊥) → is_lopsided (numbered r) ≡ false) where
      level : (r : Rule) → IsRule r → BothMoved r → is_lopsided (numbered (turned_rule table read r)) ≡ false
      level r is moved = elim (cases_eq (number r.left) (number r.right)) [
        | inl e ↦ (same (turned_rule table read r) e).1 (mirrored ((same r (one_number r.left r.right moved.0 moved.1 e)).0 (ap is_lopsided (numbered-same r is.in_order) ∙ is.level)))
        | inr differ ↦ two (turned_rule table read r) differ
      ]
        where
          mirrored : IsOwnMirror r → IsOwnMirror (turned_rule table read r)
          mirrored mirror = record {
            rename = mirror.rename;
            one_to_one = subst (λ (ns : List ℕ). AllByRecursion (λ m. AllByRecursion (λ n. mirror.rename m ≡ mirror.rename n → m ≡ n) ns) ns) (sym (rule_names_turned table read r)) mirror.one_to_one;
            left = ap (map (renamed mirror.rename)) (list_turned table read r.right_args) ∙ list_renamed_turned table read mirror.rename r.right_args
                ∙ ap (map (turned table read)) mirror.left ∙ sym (list_turned table read r.left_args);
            right = ap (map (renamed mirror.rename)) (list_turned table read r.left_args) ∙ list_renamed_turned table read mirror.rename r.left_args
                ∙ ap (map (turned table read)) mirror.right ∙ sym (list_turned table read r.right_args);
          }

      levels : (rs : List Rule) → AllByRecursion IsRule rs → AllByRecursion BothMoved rs → AllByRecursion (λ r. is_lopsided r ≡ false) (map numbered (map (turned_rule table read) rs))
      levels [] are moved = tt
      levels (r ∷ rs) are moved = (level r are.0 moved.0, levels rs are.1 moved.1)

      pub none_lopsided : (rs : List Rule) → AllByRecursion IsRule rs → AllByRecursion BothMoved rs → first_lopsided (map (turned_rule table read) rs) ≡ None
      none_lopsided rs are moved = none_from is_lopsided 0 (map numbered (map (turned_rule table read) rs)) (levels rs are moved)
