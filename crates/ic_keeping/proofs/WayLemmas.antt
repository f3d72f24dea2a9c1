-- A reduction goes on: what was reached, and what is reached from there.
use Rattle.std.proofs.Common.{◌≡◌, ◌⊎◌, ⊎_elim, inl, inr, ℕ, zero, suc, ◌+◌, ◌*◌, ◌<◌, ◌≤◌, ◌==◌, List, [], ◌∷◌, ◌++◌, true, false, Ok, length, max, count_by, refl, sym, ap, subst, ◌∙◌, arith}
use Rattle.std.proofs.lemmas.List.{ext_get_or, length-append, length-map}
use Rattle.std.proofs.lemmas.List.Sums.{count_by-le-length, sum_by-append}
use Rattle.std.proofs.lemmas.Bool.{and_parts, cases_lt, leb-true}
use Rattle.std.specs.Prelude.{◌↔◌, ◌^◌, Bool, IsTrue, nat_le, slice_get, slice_index_or}
use Rattle.std.specs.Cmp.{unsigned_Decides}
use Rattle.std.specs.List.{AllByRecursion, flat_map, list_all}
use Rattle.ic_naming.specs.lemmas.Occurring.{occurrences-other}
use Rattle.ic_term.specs.Configuration.{Configuration, IsWide, configuration_names, configuration_nodes, occurrences, one_above}
use Rattle.ic_term.specs.declared.limits.TheConstants.{MAX_ARITY, MAX_SYMBOL_TEXT, MAX_WIDE_NODES, MAX_WIDE_SYMBOLS}
use Rattle.ic_term.specs.Symbol.{AreSymbols, Symbol, fits_limits, has_arity, is_over, is_symbol_text}
use Rattle.ic_rules.specs.RuleSet.{Rules, IsRuleSet}
use Rattle.ic_rules.specs.Rule.{Rule}
use Rattle.ic_rules.specs.System.{SystemParts}
use Rattle.ic_flat.specs.declared.word.Word.{Word}
use Rattle.ic_flat.specs.declared.word.Word.TheVariants.{Name, Agent}
use Rattle.ic_flat.specs.Flat.{configuration_of, configuration_words}
use Rattle.ic_flat.specs.Words.{forest, is_word_over, word_names, IsWhole}
use Rattle.ic_flat.specs.lemmas.FlatLaws.{nodes-configuration_of, nodes-words}
use Rattle.ic_round.specs.Naming.{HasNames}
use Rattle.ic_reaching.specs.OneNet.{OneNet}
use Rattle.ic_reaching.specs.Reaching.{Reaches}
use Rattle.ic_naming.specs.Naming.{renamed_word, renumbered, told_name}
use Rattle.ic_text.specs.declared.limits.TheConstants.{MAX_NAME}
use Rattle.ic_in_place.specs.declared.running.Bounds.{Bounds}
use Rattle.ic_in_place.specs.declared.running.End.{End}
use Rattle.ic_in_place.specs.declared.running.End.TheVariants.{Quiet, Steps, Nodes, Limit, Memory}
use Rattle.ic_in_place.specs.Counting.{AreCounts}
use Rattle.ic_in_place.specs.Reducing.{EndsBy, IsPutTogether, IsReached}
use Rattle.ic_text.specs.SystemText.{ReadsSystemWithin}
use Rattle.ic_text.specs.declared.limits.Limits.TheVariants.{Wide}
use Rattle.ic_round.specs.Quiet.{IsQuiet}
use Rattle.ic_state.specs.State.{Kept}
use Rattle.ic_state.specs.Words.{IsKeptWord}
use Rattle.ic_keeping.specs.inner.Pieces.{ComesTogether, IsWritten}
use Rattle.ic_keeping.specs.Way.{AreSums, ComesPastLimits, EndsWithin, IsAfterRounds, IsAnswer, IsOnWay, IsReachedFrom, IsSound, IsStateOf}
use Rattle.ic_keeping.proofs.LowNames.{TellingLaws, low_words}
use Rattle.ic_keeping.proofs.Quiet.{QuietLaws, quiet_too}

-- what laws of names say that this one builds on
pub record NamingLaws : Type 0 where
  pub next : (c : Configuration) (next : ℕ) → HasNames c → HasNames (record c { next = next }) → OneNet c (record c { next = next })
  pub net : (c d : Configuration) → HasNames c → AllByRecursion (λ x. x < d.next) (configuration_names d)
      → ((x : ℕ) → occurrences x (configuration_names c) ≡ 1 → x ≤ MAX_NAME)
      → d.interface ≡ (renumbered c).interface → d.equations ≡ (renumbered c).equations → OneNet c d

-- what is of each name is of one that occurs
at_name : (P : ℕ → Type 0) (n m : ℕ) (ms : List ℕ) (b : Bool) → (m == n) ≡ b → P m → (1 ≤ occurrences n ms → P n) → 1 ≤ occurrences n (m ∷ ms) → P n
at_name P n m ms true e one rest some = subst P ((unsigned_Decides m n).0 e) one
at_name P n m ms false e one rest some = rest (omega (arith, some, occurrences-other n m ms e))

occurring : (P : ℕ → Type 0) (n : ℕ) (ns : List ℕ) → AllByRecursion P ns → 1 ≤ occurrences n ns → P n
occurring P n [] all some = absurd (omega (arith, some))
occurring P n (m ∷ ms) all some = at_name P n m ms (m == n) refl all.0 (occurring P n ms all.1) some

-- what is given by laws of the crates below
pub record ReachingLaws : Type 0 where
  pub names : (rs : List Rule) (c d : Configuration) (fired : List ℕ) → Reaches rs c d fired → HasNames d
  pub over : (rs : Rules) (c d : Configuration) (fired : List ℕ) → IsRuleSet rs → IsTrue (is_over rs.symbols c) → HasNames c → Reaches rs.rules c d fired → IsTrue (is_over rs.symbols d)
  pub net : (rs : List Rule) (c d e : Configuration) (fired : List ℕ) → Reaches rs c d fired → OneNet d e → Reaches rs c e fired
  pub reached : (rs : Rules) (c d e : Configuration) (fired also : List ℕ) → IsRuleSet rs → IsTrue (is_over rs.symbols c) → HasNames c → Reaches rs.rules c d fired
      → Reaches rs.rules d e also → Reaches rs.rules c e (fired ++ also)
  pub free : (rs : Rules) (c d : Configuration) (fired : List ℕ) → IsRuleSet rs → IsTrue (is_over rs.symbols c) → HasNames c → Reaches rs.rules c d fired → (n : ℕ)
      → (occurrences n (configuration_names c) ≡ 1) ↔ (occurrences n (configuration_names d) ≡ 1)
  pub above : (ns : List ℕ) → AllByRecursion (λ n. n < one_above ns) ns

pub count_by-append : (p : ℕ → Bool) (xs ys : List ℕ) → count_by p (xs ++ ys) ≡ count_by p xs + count_by p ys
count_by-append p xs ys = sum_by-append _ xs ys

pub counts_add : (rules : ℕ) (fired also some more sums : List ℕ) → AreCounts rules fired some → AreCounts rules also more → AreSums some more sums → AreCounts rules (fired ++ also) sums
counts_add rules fired also some more sums first second adds = record {
  all = adds.all ∙ first.all;
  each = λ i below.
      adds.each i (omega (arith, below, first.all))
      ∙ ap (λ (k : ℕ). k + slice_index_or more i 0) (first.each i below)
      ∙ ap (λ (k : ℕ). count_by (λ j. j == i) fired + k) (second.each i below)
      ∙ sym (count_by-append (λ j. j == i) fired also);
}

-- no rule fired more often than all did
pub counts_within : (rules : ℕ) (fired by_rule : List ℕ) → AreCounts rules fired by_rule → (i : ℕ) → i < rules → slice_index_or by_rule i 0 ≤ length fired
counts_within rules fired by_rule counts i below = subst (λ (n : ℕ). n ≤ length fired) (sym (counts.each i below)) (count_by-le-length (λ j. j == i) fired)

-- where no interaction was made the counts stay
pub counts_stay : (rules : ℕ) (fired some more sums : List ℕ) → length fired ≡ 0 → AreCounts rules fired more → AreSums some more sums → sums ≡ some
counts_stay rules [] some more sums none counts adds = ext_get_or 0 sums some adds.all (λ i inside.
    omega (arith, adds.each i (omega (arith, inside, adds.all)), counts.each i (omega (arith, inside, adds.all, adds.long, counts.all))))
counts_stay rules (x ∷ fired) some more sums none counts adds = absurd (omega (arith, none))

pub same_parts : (c d : Configuration) → c.interface ≡ d.interface → c.equations ≡ d.equations → c.next ≡ d.next → c ≡ d
same_parts c d one two three = λ i. record { interface = one i; equations = two i; next = three i }

module _ (naming : NamingLaws) (laws : ReachingLaws) (s t : SystemParts) (sound : IsSound s) (c : Configuration) (before : List ℕ) (was : Reaches s.rules.rules s.config c before)
    (rules : t.rules ≡ s.rules) (interface : t.config.interface ≡ c.interface) (equations : t.config.equations ≡ c.equations) (names : HasNames t.config) where
  begun_as : record c { next = t.config.next } ≡ t.config
  begun_as = same_parts (record c { next = t.config.next }) t.config (sym interface) (sym equations) refl

  begun : Reaches s.rules.rules s.config t.config before
  begun = laws.net s.rules.rules s.config c t.config before was
      (subst (λ (e : Configuration). OneNet c e) begun_as
      (naming.next c t.config.next (laws.names s.rules.rules s.config c before was) (subst (λ (e : Configuration). HasNames e) (sym begun_as) names)))

  module _ (bounds : Bounds) (answer : Configuration) (end : End) (j : ℕ) (more : List ℕ) (r : IsReached t bounds answer end j more) where
    onward : Reaches s.rules.rules t.config answer r.fired
    onward = subst (λ (rs : Rules). Reaches rs.rules t.config answer r.fired) rules r.reached

    pub further : Reaches s.rules.rules s.config answer (before ++ r.fired)
    further = laws.reached s.rules s.config t.config answer before r.fired sound.rules sound.over sound.names begun onward

    -- and so is its net with its names numbered anew, from some number on
    module _ (low : t.config.next ≤ MAX_NAME + 1) (words : List Word) (terms : ℕ) (written : configuration_of words terms (MAX_NAME + 1) ≡ renumbered answer) where
      abbrev kept : ℕ → Configuration
      kept next = configuration_of words terms next

      abbrev above : ℕ
      above = one_above (configuration_names (kept 0))

      pub free_low : (x : ℕ) → occurrences x (configuration_names answer) ≡ 1 → x ≤ MAX_NAME
      free_low x once =
          let first = (laws.free s.rules s.config answer (before ++ r.fired) sound.rules sound.over sound.names further x).1 once in
          let begins = (laws.free s.rules s.config t.config before sound.rules sound.over sound.names begun x).0 first in
          let below = occurring (λ (m : ℕ). m < t.config.next) x (configuration_names t.config) names.below (omega (arith, begins)) in
          omega (arith, below, low)

      pub kept_reached : Reaches s.rules.rules s.config (kept above) (before ++ r.fired)
      kept_reached = laws.net s.rules.rules s.config answer (kept above) (before ++ r.fired) further
          (naming.net answer (kept above) (laws.names s.rules.rules s.config answer (before ++ r.fired) further) (laws.above (configuration_names (kept 0))) free_low
          (ap (λ (e : Configuration). e.interface) written) (ap (λ (e : Configuration). e.equations) written))

      pub kept_quiet : QuietLaws → IsQuiet s.rules.rules answer → IsQuiet s.rules.rules (kept above)
      kept_quiet quiet_laws quiet = subst (λ (e : Configuration). IsQuiet s.rules.rules (record e { next = above })) (sym written)
          (quiet_too quiet_laws s.rules answer (laws.names s.rules.rules s.config answer (before ++ r.fired) further) sound.rules
          (laws.over s.rules s.config answer (before ++ r.fired) sound.rules sound.over sound.names further) free_low quiet above)

-- a piece within some bounds has ended so, and these are the bounds of the run
ends_within : (rs : List Rule) (piece most : Bounds) (c : Configuration) (j n : ℕ) (end : End) → EndsBy rs piece c j end
    → (end ≡ Steps → most.steps ≤ n) → (j < piece.steps → n < most.steps) → EndsWithin rs most c n end
ends_within rs piece most c j n Quiet is steps early = is.0
ends_within rs piece most c j n Steps is steps early = (is.1, steps refl)
ends_within rs piece most c j n Nodes is steps early = early is
ends_within rs piece most c j n Limit is steps early = early is
ends_within rs piece most c j n Memory is steps early = tt

-- A state, a system that has its configuration, and the state after a piece.
module _ (naming : NamingLaws) (laws : ReachingLaws) (s t : SystemParts) (sound : IsSound s) (k new : Kept) (is : IsStateOf s k)
    (rules : t.rules ≡ s.rules) (interface : t.config.interface ≡ (configuration_of k.words k.terms 0).interface) (equations : t.config.equations ≡ (configuration_of k.words k.terms 0).equations)
    (names : HasNames t.config) (low : t.config.next ≤ MAX_NAME + 1) (bounds : Bounds) (answer : Configuration) (end : End) (j : ℕ) (more : List ℕ)
    (r : IsReached t bounds answer end j more) (together : IsPutTogether answer) (words : List Word) (terms : ℕ)
    (written : configuration_of words terms (MAX_NAME + 1) ≡ renumbered answer)
    (same_text : new.text ≡ k.text) (same_words : new.words ≡ words) (same_terms : new.terms ≡ terms) (sum : new.interactions ≡ k.interactions + j) (adds : AreSums k.by_rule more new.by_rule) where
  abbrev fired : List ℕ
  fired = is.way.fired ++ r.fired

  pub new_written : configuration_of new.words new.terms (MAX_NAME + 1) ≡ renumbered answer
  new_written =
      ap (λ (ws : List Word). configuration_of ws new.terms (MAX_NAME + 1)) same_words
      ∙ ap (λ (n : ℕ). configuration_of words n (MAX_NAME + 1)) same_terms
      ∙ written

  all_counted : new.interactions ≡ length fired
  all_counted = omega (arith, sum, is.way.counted, r.counted, length-append is.way.fired r.fired)

  all_counts : AreCounts (length s.rules.rules) fired new.by_rule
  all_counts = counts_add (length s.rules.rules) is.way.fired r.fired k.by_rule more new.by_rule is.way.counts
      (subst (λ (rs : Rules). AreCounts (length rs.rules) r.fired more) rules r.counts) adds

  on_way : IsOnWay s answer new.interactions new.by_rule
  on_way = record {
    fired = fired;
    reached = further naming laws s t sound (configuration_of k.words k.terms is.next) is.way.fired is.way.reached rules interface equations names bounds answer end j more r;
    counted = all_counted;
    counts = all_counts;
  }

  ended_by : EndsBy s.rules.rules bounds answer j end
  ended_by = subst (λ (rs : Rules). EndsBy rs.rules bounds answer j end) rules r.ended

  pub answer_of : (most : Bounds) → k.interactions + bounds.steps ≤ max most.steps k.interactions → (end ≡ Steps → most.steps ≤ new.interactions)
      → IsAnswer s most end new
  answer_of most few steps = record {
    sound = sound;
    answer = answer;
    way = on_way;
    ended = ends_within s.rules.rules bounds most answer j new.interactions end ended_by steps (λ early. omega (arith, few, sum, early));
    together = together;
    written = new_written;
  }

  -- the same, by an end that is known otherwise: it is this answer
  pub answer_with : (most : Bounds) → k.interactions + bounds.steps ≤ max most.steps k.interactions → (end ≡ Steps → most.steps ≤ new.interactions) → (last : End) → end ≡ last
      → (is : IsAnswer s most last new) × (is.answer ≡ answer)
  answer_with most few steps last same = (
    record {
      sound = sound;
      answer = answer;
      way = on_way;
      ended = subst (λ (e : End). EndsWithin s.rules.rules most answer new.interactions e) same
          (ends_within s.rules.rules bounds most answer j new.interactions end ended_by steps (λ early. omega (arith, few, sum, early)));
      together = together;
      written = new_written;
    },
    refl,
  )

  answer_quiet : end ≡ Quiet → IsQuiet s.rules.rules answer
  answer_quiet ended = (subst (λ (e : End). EndsBy s.rules.rules bounds answer j e) ended ended_by).0

  abbrev pub new_next : ℕ
  new_next = one_above (configuration_names (configuration_of new.words new.terms 0))

  -- from an earlier state, too
  module _ (first : Kept) (from : IsReachedFrom s first k) where
    abbrev middle : SystemParts
    middle = record { rules = s.rules; config = configuration_of first.words first.terms from.was.next }

    middle_sound : IsSound middle
    middle_sound = record {
      rules = sound.rules;
      over = laws.over s.rules s.config middle.config from.was.way.fired sound.rules sound.over sound.names from.was.way.reached;
      names = laws.names s.rules.rules s.config middle.config from.was.way.fired from.was.way.reached;
    }

    pub reached_from : QuietLaws → TellingLaws → k.millis ≤ new.millis → (new.ended ≡ true → end ≡ Quiet) → IsWhole new.words → (n : ℕ) → length (forest new.words) ≡ new.terms + 2 * n
        → IsAfterRounds s new.rounds (configuration_of new.words new.terms new_next) new.interactions new.by_rule → IsReachedFrom s first new
    reached_from quiet_laws telling later ended whole n counted rounds = record {
      was = from.was;
      is = record {
        sound = sound;
        read = is.read;
        reads = subst (λ (text : List ℕ). ReadsSystemWithin Wide text (Ok is.read)) (sym same_text) is.reads;
        rules = is.rules;
        next = new_next;
        way = record {
          fired = fired;
          reached = kept_reached naming laws s t sound (configuration_of k.words k.terms is.next) is.way.fired is.way.reached rules interface equations names bounds answer end j more r
              low new.words new.terms new_written;
          counted = all_counted;
          counts = all_counts;
        };
        low = λ few. low_words telling answer new.words new.terms n counted new_written few;
        quiet = λ has_ended. kept_quiet naming laws s t sound (configuration_of k.words k.terms is.next) is.way.fired is.way.reached rules interface equations names bounds answer end j more r
            low new.words new.terms new_written quiet_laws (answer_quiet (ended has_ended));
        whole = whole;
        equations = n;
        counted = counted;
        rounds = rounds;
      };
      more = from.more ++ r.fired;
      reached = kept_reached naming laws middle t middle_sound (configuration_of k.words k.terms from.is.next) from.more from.reached rules interface equations names bounds answer end j more r
          low new.words new.terms new_written;
      counted = omega (arith, sum, from.counted, r.counted, length-append from.more r.fired);
      text = same_text ∙ from.text;
      millis = omega (arith, from.millis, later);
    }

-- ---- what is past a limit

below_all : (ns : List ℕ) (n : ℕ) → AllByRecursion (λ m. m < n) ns → one_above ns ≤ n
below_all [] n all = omega arith
below_all (m ∷ ns) n all = omega (arith, all.0, below_all ns n all.1)

-- words are too many, or one of their names is too high: there are too many of them
pub past_words : (s : SystemParts) (k : Kept) → ((rs : List Rule) (c d : Configuration) (fired : List ℕ) → Reaches rs c d fired → HasNames d) → IsStateOf s k
    → (MAX_WIDE_NODES < configuration_nodes (configuration_of k.words k.terms 0)) ⊎ (MAX_NAME + 1 < one_above (configuration_names (configuration_of k.words k.terms 0)))
    → MAX_WIDE_NODES < length k.words
past_words s k names is past =
    let there = configuration_of k.words k.terms is.next in
    let nodes = nodes-configuration_of k.words k.terms is.equations is.next is.counted in
    let below = (names s.rules.rules s.config there is.way.fired is.way.reached).below in
    ⊎_elim
    (λ many. omega (arith, many, nodes))
    (λ high. ⊎_elim
    (λ many. many)
    (λ few. absurd (omega (arith, high, below_all (configuration_names there) is.next below, is.low few)))
    (cases_lt MAX_WIDE_NODES (length k.words)))
    past

-- a state that has them, or what a piece has led to
pub past_state : (s : SystemParts) (first k : Kept) → IsReachedFrom s first first → (k ≡ first) ⊎ ComesTogether s first k → MAX_WIDE_NODES < length k.words → ComesPastLimits s first
past_state s first k itself (inl same) many = record {
  is = itself.was;
  net = configuration_of first.words first.terms itself.is.next;
  more = itself.more;
  reached = itself.reached;
  together = inl (itself.is.next, refl);
  past = inl (omega (arith, many, ap (λ (x : Kept). length x.words) same, nodes-configuration_of first.words first.terms itself.is.equations itself.is.next itself.is.counted));
}
past_state s first k itself (inr comes) many = record {
  is = comes.is;
  net = comes.answer;
  more = comes.more;
  reached = comes.reached;
  together = inr comes.together;
  past = inl (omega (arith, many, comes.nodes));
}

-- or too many interactions, after so many pieces that have made some
pub past_count : (s : SystemParts) (first k : Kept) → (k ≡ first) ⊎ ComesTogether s first k → 2 ^ 64 ≤ k.interactions + 1 → first.interactions < k.interactions → ComesPastLimits s first
past_count s first k (inl same) many later = absurd (omega (arith, later, ap (λ (x : Kept). x.interactions) same))
past_count s first k (inr comes) many later = record {
  is = comes.is;
  net = comes.answer;
  more = comes.more;
  reached = comes.reached;
  together = inr comes.together;
  past = inr (omega (arith, many, comes.counted));
}

module _ (s : SystemParts) (first k : Kept) (from : IsReachedFrom s first k) where
  abbrev there : Configuration
  there = configuration_of k.words k.terms from.is.next

  -- or what a piece makes of them
  module _ (naming : NamingLaws) (laws : ReachingLaws) (t : SystemParts) (sound : IsSound s) (rules : t.rules ≡ s.rules)
      (interface : t.config.interface ≡ (configuration_of k.words k.terms 0).interface) (equations : t.config.equations ≡ (configuration_of k.words k.terms 0).equations) (names : HasNames t.config)
      (bounds : Bounds) (answer : Configuration) (end : End) (j : ℕ) (more : List ℕ) (r : IsReached t bounds answer end j more) (together : IsPutTogether answer) where
    abbrev starts : SystemParts
    starts = record { rules = s.rules; config = configuration_of first.words first.terms from.was.next }

    starts_sound : IsSound starts
    starts_sound = record {
      rules = sound.rules;
      over = laws.over s.rules s.config starts.config from.was.way.fired sound.rules sound.over sound.names from.was.way.reached;
      names = laws.names s.rules.rules s.config starts.config from.was.way.fired from.was.way.reached;
    }

    onto_answer : Reaches s.rules.rules starts.config answer (from.more ++ r.fired)
    onto_answer = further naming laws starts t starts_sound there from.more from.reached rules interface equations names bounds answer end j more r

    as_many : length s.rules.rules ≡ length more
    as_many = sym (r.counts.all ∙ ap (λ (rs : Rules). length rs.rules) rules)

    one_past : (i : ℕ) → i < length more → 2 ^ 64 ≤ slice_index_or k.by_rule i 0 + slice_index_or more i 0 → 2 ^ 64 ≤ k.interactions + j
    one_past i inside many =
        let ours = counts_within (length s.rules.rules) from.is.way.fired k.by_rule from.is.way.counts i (omega (arith, inside, as_many)) in
        let also = counts_within (length t.rules.rules) r.fired more r.counts i (omega (arith, inside, r.counts.all)) in
        omega (arith, many, ours, also, from.is.way.counted, r.counted)

    pub past_sums : (2 ^ 64 ≤ k.interactions + j) ⊎ ((i : ℕ) × (i < length more) × (2 ^ 64 ≤ slice_index_or k.by_rule i 0 + slice_index_or more i 0)) → ComesPastLimits s first
    past_sums past =
        let many : 2 ^ 64 ≤ k.interactions + j = ⊎_elim (λ all. all) (λ one. one_past one.0 one.1 one.2) past in
        record {
          is = from.was;
          net = answer;
          more = from.more ++ r.fired;
          reached = onto_answer;
          together = inr together;
          past = inr (omega (arith, many, from.counted, r.counted, length-append from.more r.fired));
        }

    -- what a piece leads to
    pub comes : (new : Kept) → new.interactions ≡ k.interactions + j → configuration_nodes answer ≡ length new.words → ComesTogether s first new
    comes new sum nodes = record {
      is = from.was;
      answer = answer;
      more = from.more ++ r.fired;
      reached = onto_answer;
      together = together;
      counted = omega (arith, sum, from.counted, r.counted, length-append from.more r.fired);
      nodes = nodes;
    }

-- ---- words that were numbered anew

-- words that write a net with its names numbered anew are as many as its nodes
pub as_many_nodes : TellingLaws → (c : Configuration) (words : List Word) (terms n : ℕ) → length (forest words) ≡ terms + 2 * n → configuration_of words terms (MAX_NAME + 1) ≡ renumbered c
    → configuration_nodes c ≡ length words
as_many_nodes telling c words terms n counted written =
    sym (nodes-words c)
    ∙ sym (length-map (configuration_words c) (renamed_word (told_name (flat_map word_names (configuration_words c)))))
    ∙ ap (λ (ws : List Word). length ws) (sym (telling.words c))
    ∙ nodes-words (renumbered c)
    ∙ ap (λ (d : Configuration). configuration_nodes d) (sym written)
    ∙ nodes-configuration_of words terms n (MAX_NAME + 1) counted

agent_numbered : (ss : List Symbol) (most n arity : ℕ) → length ss ≤ most → AllByRecursion (λ s. IsTrue (is_symbol_text s.text) × IsTrue (fits_limits s.text s.arity)) ss
    → has_arity arity (slice_get ss n) ≡ true → (n < most) × (arity ≤ MAX_ARITY)
agent_numbered [] most n arity few each has = cc (has)
agent_numbered (s ∷ ss) most zero arity few each has =
    let fits = and_parts (nat_le (length s.text) MAX_SYMBOL_TEXT) (nat_le s.arity MAX_ARITY) each.0.1 in
    (omega (arith, few), omega (arith, leb-true s.arity MAX_ARITY fits.1, (unsigned_Decides s.arity arity).0 has))
agent_numbered (s ∷ ss) most (suc n) arity few each has =
    let rest = agent_numbered ss (length ss) n arity (omega arith) each.1 has in
    (omega (arith, few, rest.0), rest.1)

-- words over symbols, with low names, have numbers of their own
pub words_numbered : (ss : List Symbol) → AreSymbols ss → (ws : List Word) → list_all (is_word_over ss) ws ≡ true → one_above (flat_map word_names ws) ≤ MAX_NAME + 1 → AllByRecursion (IsKeptWord false) ws
words_numbered ss are [] over low = tt
words_numbered ss are (Name n ∷ ws) over low = (omega (arith, low), words_numbered ss are ws over (omega (arith, low)))
words_numbered ss are (Agent s arity ∷ ws) over low =
    let both = and_parts (has_arity arity (slice_get ss s)) (list_all (is_word_over ss) ws) over in
    let small = agent_numbered ss MAX_WIDE_SYMBOLS s arity are.few are.each both.0 in
    ((omega (arith, small.0), omega (arith, small.1)), words_numbered ss are ws both.1 low)

-- and so they have in the narrow form, where that is chosen
pub numbered_so : (narrow : Bool) (ws : List Word) → (narrow ≡ true) ↔ AllByRecursion (IsKeptWord true) ws → AllByRecursion (IsKeptWord false) ws → AllByRecursion (IsKeptWord narrow) ws
numbered_so true ws chosen wide = chosen.0 refl
numbered_so false ws chosen wide = wide

-- a state is reached from itself
pub itself_reached : ((rs : List Rule) (c : Configuration) → HasNames c → Reaches rs c c []) → ((rs : List Rule) (c d : Configuration) (fired : List ℕ) → Reaches rs c d fired → HasNames d)
    → (s : SystemParts) (k : Kept) → IsStateOf s k → IsReachedFrom s k k
itself_reached itself names s k is = record {
  was = is;
  is = is;
  more = [];
  reached = itself s.rules.rules (configuration_of k.words k.terms is.next)
      (names s.rules.rules s.config (configuration_of k.words k.terms is.next) is.way.fired is.way.reached);
  counted = omega arith;
  text = refl;
  millis = omega arith;
}

-- rules that are those of each reading of its text are those of its system
pub are_rules : (s : SystemParts) (k : Kept) (rules : Rules) → IsStateOf s k → ((read : SystemParts) → ReadsSystemWithin Wide k.text (Ok read) → rules ≡ read.rules) → rules ≡ s.rules
are_rules s k rules is told = told is.read is.reads ∙ is.rules

-- A text from which no interaction was made.
pub begun_on_way : (s : SystemParts) (by : List ℕ) → ((rs : List Rule) (c : Configuration) → HasNames c → Reaches rs c c []) → HasNames s.config → length by ≡ length s.rules.rules
    → ((i : ℕ) → slice_index_or by i 0 ≡ 0) → IsOnWay s s.config 0 by
begun_on_way s by itself names long none = record {
  fired = [];
  reached = itself s.rules.rules s.config names;
  counted = refl;
  counts = record { all = long; each = λ i below. none i };
}

pub names_of : (c : Configuration) → IsWide c → HasNames c
names_of c is = record { below = is.below; twice = is.twice }

-- what a piece has reached from a system is written by its words
pub reached_written : (naming : NamingLaws) (laws : ReachingLaws) → ((rs : List Rule) (c : Configuration) → HasNames c → Reaches rs c c []) → (t : SystemParts) → IsSound t
    → (bounds : Bounds) (answer : Configuration) (end : End) (j : ℕ) (more : List ℕ) → IsReached t bounds answer end j more → t.config.next ≤ MAX_NAME + 1
    → (words : List Word) (terms : ℕ) → configuration_of words terms (MAX_NAME + 1) ≡ renumbered answer → IsWhole words → (n : ℕ) → length (forest words) ≡ terms + 2 * n
    → IsWritten t.rules.symbols words terms
reached_written naming laws itself t sound bounds answer end j more r low words terms written whole n counted =
    let reached = kept_reached naming laws t t sound t.config [] (itself t.rules.rules t.config sound.names) refl refl refl sound.names bounds answer end j more r
    low words terms written in
    let now = configuration_of words terms (one_above (configuration_names (configuration_of words terms 0))) in
    record {
      whole = whole;
      equations = n;
      counted = counted;
      twice = (laws.names t.rules.rules t.config now _ reached).twice;
      over = laws.over t.rules t.config now _ sound.rules sound.over sound.names reached;
    }
