-- Lemmas: equations that fire one after another, with any fresh names, make the net in which all of them have fired at once.
use Rattle.std.proofs.Common.{◌≡◌, ◌⊎◌, ℕ, ◌+◌, ◌-◌, ◌≤◌, ◌<◌, List, [], ◌∷◌, ◌++◌, true, Option, None, Some, cond, ltb, map, is_none, is_some, refl, sym, ap, ◌∙◌, append_assoc, arith, inl, inr, subst as transport}
use Rattle.std.proofs.lemmas.Bool.{cases_lt, lt-ltb, le-ltb, and_parts}
use Rattle.std.proofs.lemmas.List.{map-append}
use Rattle.std.proofs.lemmas.List.Folds.{list_all-append}
use Rattle.std.proofs.lemmas.List.Sorted.{IsPermutation-refl, IsPermutation-sym, IsPermutation-trans, IsPermutation-append_left, IsPermutation-append_right, IsPermutation-filter_both}
use Rattle.std.specs.Prelude.{IsPermutation, filter}
use Rattle.std.specs.List.{flat_map, list_all}
use Rattle.std.specs.Option.{option_map_or}
use Rattle.ic_term.specs.Tree.{Tree, names, Pair}
use Rattle.ic_term.specs.Configuration.{Configuration, configuration_names, occurrences}
use Rattle.ic_term.specs.Symbol.{is_tree_over, is_pair_over}
use Rattle.ic_rules.specs.Rule.{Rule, rule_names}
use Rattle.ic_rules.specs.RuleSet.{Rules, IsRuleSet}
use Rattle.ic_rules.specs.lemmas.RenamingLaws.{Through, through-append, terms-through}
use Rattle.ic_round.specs.Firing.{Active, active_pair, arguments, against, products, products_by, count_of, names_taken, fired_pair, fired_from, next_after, fired}
use Rattle.ic_round.specs.Instance.{inst}
use Rattle.ic_round.specs.Interactions.{active_equations}
use Rattle.ic_round.specs.Naming.{HasNames}
use Rattle.ic_round.specs.lemmas.FiredNames.{All-mono}
use Rattle.ic_round.specs.lemmas.FreshNames.{absent_above, rule_below}
use Rattle.ic_round.specs.lemmas.IdleLemmas.{idle}
use Rattle.ic_confluence.specs.Sameness.{renamed_pair, renamed_in, Same}
use Rattle.ic_confluence.specs.lemmas.Actives.{HasRule, has_rule, count_is, products_are, renamed_active, renamed_against, renamed_arguments}
use Rattle.ic_confluence.specs.lemmas.Counts.{in_configuration, in_more, below_next}
use Rattle.ic_confluence.specs.lemmas.Equivalence.{Same-sym}
use Rattle.ic_confluence.specs.lemmas.Over.{same_over}
use Rattle.ic_reaching.specs.FreshNames.{copied, products_with, AreFresh, Fires}
use Rattle.ic_reaching.specs.OneNet.{SameButNext}
use Rattle.ic_reaching.specs.lemmas.Orders.{permuted, permuted_counts}
use Rattle.ic_generations.specs.Firings.{FireInTurn}
use Rattle.ic_generations.proofs.Given.{Sound, NetLaws, FiringLaws}
use Rattle.ic_generations.proofs.Renamed.{terms_stay, pairs_stay}
use Rattle.ic_generations.proofs.Fired.{made_of, fired_among, in_whole, Moves, moved_net, active_stays, renamed_fired}
use Rattle.ic_generations.proofs.Lists.{all_moved, same_first, behind, behind_too, other_test, filter_all}

-- ---- products with any fresh names are those with the next ones, renamed

renamed_with : (rs : List Rule) (p : Pair) (a : Active) (h : HasRule rs p a) (base : ℕ) (u f : ℕ → ℕ) → renamed_active f a ≡ a → ((k : ℕ) → k < count_of rs a.rule → f (base + k) ≡ u k)
    → map (renamed_pair f) (products_by rs base a) ≡ products_with rs u a
renamed_with rs p a h base u f own moves =
    let r = h.rule in
    let copy = inst r base in
    let count = count_is rs p a h in
    let through : Through (λ k. base + k) f u (rule_names r) =
    All-mono (λ n. n < r.names) (λ n. f (base + n) ≡ u n) (λ n low. moves n (omega (arith, low, count))) (rule_names r) (rule_below r h.is_rule) in
    let parts = through-append (λ k. base + k) f u (flat_map names r.left_args) (flat_map names r.right_args) through in
    let lefts = terms-through (λ k. base + k) f u r.left_args parts.0 in
    let rights = terms-through (λ k. base + k) f u r.right_args parts.1 in
    let given = ap (map (renamed_pair f)) (products_are rs p a h base) in
    let apart = map-append (renamed_pair f) (against (arguments a.left) copy.left_args) (against (arguments a.right) copy.right_args) in
    let own_left = sym (renamed_arguments f a.left) ∙ ap (λ (b : Active). arguments b.left) own in
    let own_right = sym (renamed_arguments f a.right) ∙ ap (λ (b : Active). arguments b.right) own in
    let left = renamed_against f (arguments a.left) copy.left_args ∙ (λ i. against (own_left i) (lefts i)) in
    let right = renamed_against f (arguments a.right) copy.right_args ∙ (λ i. against (own_right i) (rights i)) in
    let there = ap (λ o. option_map_or (λ z. products (copied z u) a.left a.right) o []) (sym h.there) in
    given ∙ (apart ∙ ((λ i. left i ++ right i) ∙ there))

-- ---- fresh names, turned into any others

abbrev pub to_fresh : ℕ → ℕ → (ℕ → ℕ) → ℕ → ℕ → ℕ
to_fresh next count u top n = cond (ltb n next) n (cond (ltb n (next + count)) (u (n - next)) (top + (n - (next + count))))

pub fresh_low : (next count : ℕ) (u : ℕ → ℕ) (top n : ℕ) → n < next → to_fresh next count u top n ≡ n
fresh_low next count u top n low = rw (lt-ltb n next low) refl

fresh_mid : (next count : ℕ) (u : ℕ → ℕ) (top n : ℕ) → next ≤ n → n < next + count → to_fresh next count u top n ≡ u (n - next)
fresh_mid next count u top n high low = rw (le-ltb n next high, lt-ltb n (next + count) low) refl

fresh_high : (next count : ℕ) (u : ℕ → ℕ) (top n : ℕ) → next + count ≤ n → to_fresh next count u top n ≡ top + (n - (next + count))
fresh_high next count u top n high = rw (le-ltb n next (omega (arith, high)), le-ltb n (next + count) high) refl

fresh_at : (next count : ℕ) (u : ℕ → ℕ) (top k : ℕ) → k < count → to_fresh next count u top (next + k) ≡ u k
fresh_at next count u top k low =
    let same : next + k - next ≡ k = omega arith in
    fresh_mid next count u top (next + k) (omega arith) (omega (arith, low)) ∙ ap u same

pub fresh_after : (next count : ℕ) (u : ℕ → ℕ) (top j : ℕ) → to_fresh next count u top (next + count + j) ≡ top + j
fresh_after next count u top j =
    let same = fresh_high next count u top (next + count + j) (omega arith) in
    omega (arith, same)

pub fresh_moves : (ts : List Tree) (now rest : List Pair) (next count : ℕ) (u : ℕ → ℕ) (top : ℕ) → HasNames (made_of ts now rest next) → AreFresh (made_of ts now rest next) count top u → next ≤ top
    → Moves ts now rest next (to_fresh next count u top)
fresh_moves ts now rest next count u top named fresh higher = record {
  low = fresh_low next count u top;
  apart = λ m n one other same. apart m n one other same (cases_lt m (next + count)) (cases_lt n (next + count));
  absent = λ m n some high same. absent m n some high same (cases_lt n (next + count));
}
  where
    apart : (m n : ℕ) → next ≤ m → next ≤ n → to_fresh next count u top m ≡ to_fresh next count u top n → (m < next + count) ⊎ (next + count ≤ m) → (n < next + count) ⊎ (next + count ≤ n) → m ≡ n
    apart m n one other same (inl low) (inl less) =
        let equal = sym (fresh_mid next count u top m one low) ∙ (same ∙ fresh_mid next count u top n other less) in
        let places = fresh.apart (m - next) (n - next) (omega (arith, one, low)) (omega (arith, other, less)) equal in
        omega (arith, places, one, other)
    apart m n one other same (inl low) (inr more) =
        let equal = sym (fresh_mid next count u top m one low) ∙ (same ∙ fresh_high next count u top n more) in
        let below = fresh.below (m - next) (omega (arith, one, low)) in
        absurd (omega (arith, equal, below))
    apart m n one other same (inr high) (inl less) =
        let equal = sym (fresh_mid next count u top n other less) ∙ (sym same ∙ fresh_high next count u top m high) in
        let below = fresh.below (n - next) (omega (arith, other, less)) in
        absurd (omega (arith, equal, below))
    apart m n one other same (inr high) (inr more) =
        let equal = sym (fresh_high next count u top m high) ∙ (same ∙ fresh_high next count u top n more) in
        omega (arith, equal, high, more)

    absent : (m n : ℕ) → 1 ≤ occurrences m (configuration_names (made_of ts now rest next)) → next ≤ n → m ≡ to_fresh next count u top n → (n < next + count) ⊎ (next + count ≤ n) → ⊥
    absent m n some high same (inl low) =
        let equal = same ∙ fresh_mid next count u top n high low in
        let none = ap (λ k. occurrences k (configuration_names (made_of ts now rest next))) equal ∙ fresh.absent (n - next) (omega (arith, high, low)) in
        omega (arith, none, some)
    absent m n some high same (inr more) =
        let equal = same ∙ fresh_high next count u top n more in
        let below = below_next (made_of ts now rest next) named m some in
        omega (arith, equal, below, higher)

-- ---- the first equation fires before the others

module _ (laws : NetLaws) (rs : Rules) (set : IsRuleSet rs) (ts : List Tree) (p : Pair) (ps rest : List Pair) (next : ℕ) (a : Active) (u : ℕ → ℕ) (top : ℕ)
    (over : list_all (is_pair_over rs.symbols) (p ∷ ps) ≡ true) (named : HasNames (made_of ts (p ∷ ps) rest next)) (is : active_pair rs.rules p ≡ Some a)
    (fresh : AreFresh (made_of ts (p ∷ ps) rest next) (count_of rs.rules a.rule) top u) (higher : next ≤ top) where
  abbrev count : ℕ
  count = count_of rs.rules a.rule

  abbrev turns : ℕ → ℕ
  turns = to_fresh next count u top

  abbrev out : List Pair
  out = products_with rs.rules u a

  abbrev others : List Pair
  others = fired_from rs.rules top ps

  both : (is_pair_over rs.symbols p ≡ true) × (list_all (is_pair_over rs.symbols) ps ≡ true)
  both = and_parts (is_pair_over rs.symbols p) (list_all (is_pair_over rs.symbols) ps) over

  stays : (n : ℕ) → 1 ≤ occurrences n (configuration_names (made_of ts (p ∷ ps) rest next)) → turns n ≡ n
  stays n some = fresh_low next count u top n (below_next (made_of ts (p ∷ ps) rest next) named n some)

  abbrev turned_net : Configuration
  turned_net = record { interface = ts; equations = (out ++ others) ++ rest; next = next_after rs.rules top ps }

  arrives : record (renamed_in turns (fired_among rs.rules ts (p ∷ ps) rest next)) { next = next_after rs.rules top ps } ≡ turned_net
  arrives =
      let r = renamed_pair turns in
      let all = λ (n : ℕ). in_whole n ts (p ∷ ps) rest next in
      let more = λ (n : ℕ). in_more n p ps in
      let terms = terms_stay turns ts (λ n some. stays n (let w = all n in omega (arith, w, some))) in
      let back = pairs_stay turns rest (λ n some. stays n (let w = all n in omega (arith, w, some))) in
      let own = active_stays rs.rules p a turns is (λ n some. stays n (let w = all n in let m = more n in omega (arith, w, m, some))) in
      let h = has_rule rs p a set both.0 is in
      let here : fired_pair rs.rules next p ≡ products_by rs.rules next a = ap (λ o. option_map_or (products_by rs.rules next) o (p ∷ [])) is in
      let taken : names_taken rs.rules p ≡ count = ap (λ o. option_map_or (λ z. count_of rs.rules z.rule) o 0) is in
      let one = ap (map r) here ∙ renamed_with rs.rules p a h next u turns own (λ k low. fresh_at next count u top k low) in
      let other = renamed_fired rs (next + names_taken rs.rules p) top ps turns set both.1 (λ n some. stays n (let w = all n in let m = more n in omega (arith, w, m, some)))
      (λ j. (let same : next + names_taken rs.rules p + j ≡ next + count + j = omega (arith, taken) in ap turns same) ∙ fresh_after next count u top j) in
      let split = map-append r (fired_pair rs.rules next p ++ fired_from rs.rules (next + names_taken rs.rules p) ps) rest
      ∙ ap (λ l. l ++ map r rest) (map-append r (fired_pair rs.rules next p) (fired_from rs.rules (next + names_taken rs.rules p) ps)) in
      let equations = split ∙ (λ i. (one i ++ other i) ++ back i) in
      λ i. record { interface = terms i; equations = equations i; next = next_after rs.rules top ps }

  pub one_fires : SameButNext (fired_among rs.rules ts (p ∷ ps) rest next) (fired_among rs.rules ts ps (out ++ rest) top)
  one_fires =
      let start = fired_among rs.rules ts (p ∷ ps) rest next in
      let moved = moved_net rs ts (p ∷ ps) rest next (next_after rs.rules top ps) turns set over named (fresh_moves ts (p ∷ ps) rest next count u top named fresh higher) in
      let P : Configuration → Type 0 = SameButNext start in
      laws.through start turned_net (fired_among rs.rules ts ps (out ++ rest) top) (transport P arrives moved)
      (laws.same turned_net (fired_among rs.rules ts ps (out ++ rest) top) (permuted turned_net (others ++ (out ++ rest)) (behind out others rest)))

-- ---- all of them, one after another

pub over_first : (rs : Rules) (ps rest : List Pair) → list_all (is_pair_over rs.symbols) (ps ++ rest) ≡ true → list_all (is_pair_over rs.symbols) ps ≡ true
over_first rs ps rest over = (and_parts (list_all (is_pair_over rs.symbols) ps) (list_all (is_pair_over rs.symbols) rest) (sym (list_all-append (is_pair_over rs.symbols) ps rest) ∙ over)).0

pub in_turn : FiringLaws → (rs : Rules) (ps rest : List Pair) (c d : Configuration) → IsRuleSet rs → Sound rs c → IsPermutation c.equations (ps ++ rest) → FireInTurn rs.rules ps c d
    → SameButNext (fired_among rs.rules c.interface ps rest c.next) d
in_turn laws rs [] rest c d set sound moved is =
    let nets = laws.nets in
    let start = fired_among rs.rules c.interface [] rest c.next in
    transport (SameButNext start) is (nets.same start c (Same-sym c start (permuted c rest moved)))
in_turn laws rs (p ∷ ps) rest c d set sound moved (mid, rule, s, same, more) =
    let nets = laws.nets in
    let ts = c.interface in
    let front = made_of ts (p ∷ ps) rest c.next in
    let alike : Same c front = permuted c (p ∷ (ps ++ rest)) moved in
    let named = nets.names c front alike sound.named in
    let over = (and_parts (list_all (is_tree_over rs.symbols) ts) (list_all (is_pair_over rs.symbols) (p ∷ (ps ++ rest))) (same_over rs.symbols c front alike sound.over)).1 in
    let a = s.active in
    let is : active_pair rs.rules p ≡ Some a = ap (active_pair rs.rules) (sym same) ∙ s.has_rule in
    let counts = λ (n : ℕ). permuted_counts c.equations (p ∷ (ps ++ rest)) moved n in
    let P : ℕ → Type 0 = λ i. AreFresh c (count_of rs.rules i) mid.next s.names in
    let given = transport P (sym s.by_rule) s.fresh in
    let fresh : AreFresh front (count_of rs.rules a.rule) mid.next s.names = record {
      absent = λ k low.
          let none = given.absent k low in
          let before = in_configuration (s.names k) ts c.equations in
          let after = in_configuration (s.names k) ts (p ∷ (ps ++ rest)) in
          let equal = counts (s.names k) in
          omega (arith, none, before, after, equal);
      apart = given.apart;
      below = given.below;
    } in
    let out = products_with rs.rules s.names a in
    let first = one_fires nets rs set ts p ps rest c.next a s.names mid.next (over_first rs (p ∷ ps) rest over) named is fresh s.higher in
    let others = same_first p s.others (ps ++ rest)
    (IsPermutation-trans (p ∷ s.others) c.equations (p ∷ (ps ++ rest))
    (IsPermutation-sym c.equations (p ∷ s.others) (transport (λ q. IsPermutation c.equations (q ∷ s.others)) same s.given)) moved) in
    let there = IsPermutation-trans mid.equations (out ++ s.others) (ps ++ (out ++ rest)) (IsPermutation-sym (out ++ s.others) mid.equations s.equations)
    (IsPermutation-trans (out ++ s.others) (out ++ (ps ++ rest)) (ps ++ (out ++ rest)) (IsPermutation-append_right out s.others (ps ++ rest) others) (behind_too out ps rest)) in
    let later = in_turn laws rs ps (out ++ rest) mid d set (laws.sound rs c mid rule set sound s) there more in
    let Q : List Tree → Type 0 = λ us. SameButNext (fired_among rs.rules us ps (out ++ rest) mid.next) d in
    nets.through (fired_among rs.rules ts (p ∷ ps) rest c.next) (fired_among rs.rules ts ps (out ++ rest) mid.next) d first (transport Q s.interface later)

-- whichever fresh names one takes
pub either_fires : FiringLaws → (rs : Rules) (c d e : Configuration) (i j : ℕ) → IsRuleSet rs → Sound rs c → (s : Fires rs.rules c d i) (t : Fires rs.rules c e j) → s.equation ≡ t.equation → SameButNext d e
either_fires laws rs c d e i j set sound s t same =
    let nets = laws.nets in
    let start = fired_among rs.rules c.interface (s.equation ∷ []) s.others c.next in
    let one = in_turn laws rs (s.equation ∷ []) s.others c d set sound s.given (d, i, s, refl, refl) in
    let other = in_turn laws rs (s.equation ∷ []) s.others c e set sound s.given (e, j, t, sym same, refl) in
    nets.through d start e (nets.other_way start d one) other

-- ---- the active equations of a configuration, and the others

pub fired-append : (rs : List Rule) (m : ℕ) (ps qs : List Pair) → fired_from rs m (ps ++ qs) ≡ fired_from rs m ps ++ fired_from rs (next_after rs m ps) qs
fired-append rs m [] qs = refl
fired-append rs m (p ∷ ps) qs =
    ap (λ es. fired_pair rs m p ++ es) (fired-append rs (m + names_taken rs p) ps qs)
    ∙ sym (append_assoc (fired_pair rs m p) (fired_from rs (m + names_taken rs p) ps) (fired_from rs (next_after rs (m + names_taken rs p) ps) qs))

pub after-append : (rs : List Rule) (m : ℕ) (ps qs : List Pair) → next_after rs m (ps ++ qs) ≡ next_after rs (next_after rs m ps) qs
after-append rs m [] qs = refl
after-append rs m (p ∷ ps) qs = after-append rs (m + names_taken rs p) ps qs

-- where no other is active, firing those fires all
pub fired_is : (rs : List Rule) (ts : List Tree) (now rest : List Pair) (next : ℕ) → list_all (λ p. is_none (active_pair rs p)) rest ≡ true
    → fired rs (made_of ts now rest next) ≡ fired_among rs ts now rest next
fired_is rs ts now rest next inert =
    let top = next_after rs next now in
    let still = idle rs (record { interface = ts; equations = rest; next = top }) inert in
    let equations = fired-append rs next now rest ∙ ap (λ (c : Configuration). fired_from rs next now ++ c.equations) still in
    let tops = after-append rs next now rest ∙ ap (λ (c : Configuration). c.next) still in
    λ i. record { interface = ts; equations = equations i; next = tops i }

pub any_order_fires : FiringLaws → (rs : Rules) (es : List Pair) (c d : Configuration) → IsRuleSet rs → Sound rs c → IsPermutation (active_equations rs.rules c) es → FireInTurn rs.rules es c d
    → SameButNext d (fired rs.rules c)
any_order_fires laws rs es c d set sound moved steps =
    let nets = laws.nets in
    let rules = rs.rules in
    let ts = c.interface in
    let rest = filter (λ p. is_none (active_pair rules p)) c.equations in
    let front = made_of ts es rest c.next in
    let given = IsPermutation-trans c.equations (active_equations rules c ++ rest) (es ++ rest)
    (IsPermutation-filter_both (λ p. is_some (active_pair rules p)) (λ p. is_none (active_pair rules p)) (λ p. other_test (active_pair rules p)) c.equations)
    (IsPermutation-append_left rest (active_equations rules c) es moved) in
    let alike : Same c front = permuted c (es ++ rest) given in
    let at_once = laws.fired rs c front set sound.over sound.named alike in
    let P : Configuration → Type 0 = λ z. SameButNext z d in
    let one = transport P (sym (fired_is rules ts es rest c.next (filter_all (λ p. is_none (active_pair rules p)) c.equations))) (in_turn laws rs es rest c d set sound given steps) in
    nets.other_way (fired rules c) d (nets.through (fired rules c) (fired rules front) d (nets.same (fired rules c) (fired rules front) at_once) one)

-- ---- each order is possible

found_active : (o : Option Active) → is_some o ≡ true → (a : Active) × (o ≡ Some a)
found_active None is = cc
found_active (Some a) is = (a, refl)

each_fires : FiringLaws → (rs : Rules) (ps rest : List Pair) (c : Configuration) → IsRuleSet rs → Sound rs c → IsPermutation c.equations (ps ++ rest) → list_all (λ p. is_some (active_pair rs.rules p)) ps ≡ true
    → (d : Configuration) × FireInTurn rs.rules ps c d
each_fires laws rs [] rest c set sound moved active = (c, refl)
each_fires laws rs (p ∷ ps) rest c set sound moved active =
    let both = and_parts (is_some (active_pair rs.rules p)) (list_all (λ q. is_some (active_pair rs.rules q)) ps) active in
    let found = found_active (active_pair rs.rules p) both.0 in
    let a = found.0 in
    let count = count_of rs.rules a.rule in
    let names : ℕ → ℕ = λ k. c.next + k in
    let out = products_with rs.rules names a in
    let mid : Configuration = record { interface = c.interface; equations = out ++ (ps ++ rest); next = c.next + count } in
    let s : Fires rs.rules c mid a.rule = record {
      equation = p;
      others = ps ++ rest;
      active = a;
      names = names;
      given = moved;
      has_rule = found.1;
      by_rule = refl;
      fresh = record {
        absent = λ k low. absent_above (c.next + k) c.next (configuration_names c) sound.named.below (omega arith);
        apart = λ j k low less same. omega (arith, same);
        below = λ k low. omega (arith, low);
      };
      higher = omega arith;
      interface = refl;
      equations = IsPermutation-refl (out ++ (ps ++ rest));
    } in
    let later = each_fires laws rs ps (out ++ rest) mid set (laws.sound rs c mid a.rule set sound s) (behind_too out ps rest) both.1 in
    (later.0, (mid, a.rule, s, refl, later.1))

pub any_order_is_possible : FiringLaws → (rs : Rules) (es : List Pair) (c : Configuration) → IsRuleSet rs → Sound rs c → IsPermutation (active_equations rs.rules c) es → (d : Configuration) × FireInTurn rs.rules es c d
any_order_is_possible laws rs es c set sound moved =
    let rules = rs.rules in
    let rest = filter (λ p. is_none (active_pair rules p)) c.equations in
    let given = IsPermutation-trans c.equations (active_equations rules c ++ rest) (es ++ rest)
    (IsPermutation-filter_both (λ p. is_some (active_pair rules p)) (λ p. is_none (active_pair rules p)) (λ p. other_test (active_pair rules p)) c.equations)
    (IsPermutation-append_left rest (active_equations rules c) es moved) in
    each_fires laws rs es rest c set sound given
    (all_moved (λ p. is_some (active_pair rules p)) (active_equations rules c) es moved (filter_all (λ p. is_some (active_pair rules p)) c.equations))
