-- Rounds go on from the net of other rounds.
use Rattle.std.proofs.Common.{◌≡◌, ◌⊎◌, ⊎_elim, inl, inr, ◌∙◌, ℕ, ◌+◌, ◌-◌, ◌<◌, ◌≤◌, List, ◌++◌, Option, None, Some, length, refl, sym, ap, subst, append_assoc, append-nil, arith}
use Rattle.std.proofs.lemmas.Bool.{cases_lt}
use Rattle.std.proofs.lemmas.List.{length-append}
use Rattle.std.proofs.lemmas.List.Sorted.{IsPermutation-append, IsPermutation-refl, IsPermutation-sym, IsPermutation-trans, length_permutation}
use Rattle.std.specs.Prelude.{IsPermutation, IsTrue}
use Rattle.ic_term.specs.Configuration.{Configuration, configuration_names, occurrences}
use Rattle.ic_term.specs.Symbol.{is_over}
use Rattle.ic_rules.specs.Rule.{Rule}
use Rattle.ic_rules.specs.RuleSet.{Rules, IsRuleSet}
use Rattle.ic_rules.specs.System.{SystemParts}
use Rattle.ic_settle.specs.NameSteps.{no_step}
use Rattle.ic_flat.specs.declared.word.Word.{Word}
use Rattle.ic_flat.specs.Flat.{configuration_of}
use Rattle.ic_naming.specs.Naming.{renumbered}
use Rattle.ic_round.specs.Naming.{HasNames}
use Rattle.ic_round.specs.Quiet.{IsQuiet}
use Rattle.ic_round.specs.Rounds.{iterate}
use Rattle.ic_generations.specs.Firings.{rules_of}
use Rattle.ic_reaching.specs.OneNet.{OneNet, SameButNext}
use Rattle.ic_text.specs.declared.limits.TheConstants.{MAX_NAME}
use Rattle.ic_in_place.specs.declared.running.End.{End}
use Rattle.ic_in_place.specs.declared.running.End.TheVariants.{Quiet, Steps}
use Rattle.ic_in_place.specs.declared.reducing.Reduced.{Reduced}
use Rattle.ic_in_place.specs.declared.running.Bounds.{Bounds}
use Rattle.ic_in_place.specs.Reductions.{IsReducedTo}
use Rattle.ic_in_place.specs.Counting.{AreCounts, AreOfRounds, rules_in}
use Rattle.ic_in_place.specs.Rounds.{IsRoundedTo, MakesRounds}
use Rattle.ic_in_place.specs.lemmas.RoundsOn.{rounds_on, rules_after}
use Rattle.ic_state.specs.State.{Kept}
use Rattle.ic_keeping.specs.inner.Pieces.{IsMade}
use Rattle.ic_keeping.specs.Way.{AreAlike, AreRoundsTo, AreSums, IsAfterRounds, IsReachedFrom, IsSound}
use Rattle.ic_keeping.proofs.Orders.{counts_moved}
use Rattle.ic_keeping.proofs.Quiet.{QuietLaws, quiet_same}
use Rattle.ic_keeping.proofs.WayLemmas.{counts_add, same_parts}

-- what laws of rounds and of nets say that this one builds on
pub record RoundLaws : Type 0 where
  pub over : (rs : Rules) (n : ℕ) (c : Configuration) → IsRuleSet rs → IsTrue (is_over rs.symbols c) → IsTrue (is_over rs.symbols (iterate rs.rules n c))
  pub names : (rs : Rules) (n : ℕ) (c : Configuration) → IsRuleSet rs → IsTrue (is_over rs.symbols c) → HasNames c → HasNames (iterate rs.rules n c)
  pub rounds : (rs : Rules) (n : ℕ) (c d : Configuration) → IsRuleSet rs → IsTrue (is_over rs.symbols c) → HasNames c → HasNames d → SameButNext c d
      → SameButNext (iterate rs.rules n c) (iterate rs.rules n d)
  pub rules : (rs : Rules) (c d : Configuration) → IsRuleSet rs → IsTrue (is_over rs.symbols c) → HasNames c → SameButNext c d
      → IsPermutation (rules_of rs.rules c.equations) (rules_of rs.rules d.equations)
  pub next : (c : Configuration) (next : ℕ) → SameButNext c (record c { next = next })
  pub other_way : (c d : Configuration) → SameButNext c d → SameButNext d c
  pub through : (c d e : Configuration) → SameButNext c d → SameButNext d e → SameButNext c e
  pub net_other_way : (c d : Configuration) → OneNet c d → OneNet d c
  pub net_through : (c d e : Configuration) → OneNet c d → OneNet d e → OneNet c e

-- the same net is one net
one_of_same : (c d : Configuration) → HasNames c → HasNames d → SameButNext c d → OneNet c d
one_of_same c d named named_too same = record { names = named; names_too = named_too; end = c; end_too = d; steps = no_step c; steps_too = no_step d; same = same }

pub after_rounds : (s : SystemParts) (c : Configuration) (interactions : ℕ) (by_rule : List ℕ) (o : Option ℕ) → ((n : ℕ) → o ≡ Some n → AreRoundsTo s n c interactions by_rule)
    → IsAfterRounds s o c interactions by_rule
after_rounds s c interactions by_rule None each = tt
after_rounds s c interactions by_rule (Some n) each = each n refl

pub rounds_there : (s : SystemParts) (c : Configuration) (interactions : ℕ) (by_rule : List ℕ) (o : Option ℕ) (n : ℕ) → o ≡ Some n → IsAfterRounds s o c interactions by_rule
    → AreRoundsTo s n c interactions by_rule
rounds_there s c interactions by_rule None n same is = cc (same)
rounds_there s c interactions by_rule (Some m) n same is =
    let one : m ≡ n = cc (same) in subst (λ (k : ℕ). AreRoundsTo s k c interactions by_rule) one is

-- between two rounds no pair has fired since
pub none_since : {rs : List Rule} {c : Configuration} {rounds : ℕ} {end : End} {interactions : ℕ} {by_rule : List ℕ} → (of : AreOfRounds rs c rounds end interactions by_rule) → (end ≡ Quiet) ⊎ (end ≡ Steps)
    → rules_in rs rounds c ++ of.since ≡ rules_in rs rounds c
none_since {rs} {c} {rounds} {end} {interactions} {by_rule} of either = ap (λ (l : List ℕ). rules_in rs rounds c ++ l) (of.whole either) ∙ append-nil (rules_in rs rounds c)

-- A configuration after rounds, a system that has it, and what was made of that by more of them.
module _ (laws : RoundLaws) (quiet_laws : QuietLaws) (s t : SystemParts) (sound : IsSound s) (rules : t.rules ≡ s.rules) (d : Configuration)
    (interface : t.config.interface ≡ d.interface) (equations : t.config.equations ≡ d.equations) (names : HasNames t.config) (over_symbols : IsTrue (is_over t.rules.symbols t.config))
    (over before : ℕ) (before_by : List ℕ) (was : AreRoundsTo s over d before before_by) (left made : ℕ) (end : End) (answer : Configuration) (more : MakesRounds t left made end answer) where
  abbrev rs : Rules
  rs = s.rules

  begun : SameButNext (iterate rs.rules over s.config) t.config
  begun = laws.through (iterate rs.rules over s.config) d t.config was.net
      (subst (λ (e : Configuration). SameButNext d e) (same_parts (record d { next = t.config.next }) t.config (sym interface) (sym equations) refl) (laws.next d t.config.next))

  is_over_here : IsTrue (is_over rs.symbols t.config)
  is_over_here = subst (λ (r : Rules). IsTrue (is_over r.symbols t.config)) rules over_symbols

  net_then : (n : ℕ) → SameButNext (iterate rs.rules (n + over) s.config) (iterate rs.rules n t.config)
  net_then n = subst (λ (e : Configuration). SameButNext e (iterate rs.rules n t.config)) (sym (rounds_on rs.rules n over s.config))
      (laws.rounds rs n (iterate rs.rules over s.config) t.config sound.rules (laws.over rs over s.config sound.rules sound.over) (laws.names rs over s.config sound.rules sound.over sound.names) names begun)

  rules_at : (n : ℕ) → IsPermutation (rules_of rs.rules (iterate rs.rules (n + over) s.config).equations) (rules_of rs.rules (iterate rs.rules n t.config).equations)
  rules_at n = laws.rules rs (iterate rs.rules (n + over) s.config) (iterate rs.rules n t.config) sound.rules (laws.over rs (n + over) s.config sound.rules sound.over)
      (laws.names rs (n + over) s.config sound.rules sound.over sound.names) (net_then n)

  -- what fires in the rounds that were over, and then in these
  rules_then : (n : ℕ) → IsPermutation (rules_in rs.rules over s.config ++ rules_in rs.rules n t.config) (rules_in rs.rules (n + over) s.config)
  rules_then n = rules_after rs.rules over s.config t.config rules_at n

  late : (n : ℕ) → over ≤ n → n < over + made → IsQuiet rs.rules (iterate rs.rules n s.config) → ⊥
  late n low high quiet =
      let j : ℕ = n - over in
      let same : n ≡ j + over = omega (arith, low) in
      let there = subst (λ (k : ℕ). IsQuiet rs.rules (iterate rs.rules k s.config)) same quiet in
      let here = quiet_same quiet_laws rs (iterate rs.rules (j + over) s.config) (iterate rs.rules j t.config) (laws.names rs (j + over) s.config sound.rules sound.over sound.names) sound.rules
      (laws.over rs (j + over) s.config sound.rules sound.over) (net_then j) there in
      more.needed j (omega (arith, high, same)) (subst (λ (r : Rules). IsQuiet r.rules (iterate r.rules j t.config)) (sym rules) here)

  pub all_needed : (n : ℕ) → n < over + made → IsQuiet rs.rules (iterate rs.rules n s.config) → ⊥
  all_needed n high quiet = ⊎_elim (λ early. was.needed n early quiet) (λ low. late n low high quiet) (cases_lt n over)

  turned_sum : made + over ≡ over + made
  turned_sum = omega arith

  pub net_after : (end ≡ Quiet) ⊎ (end ≡ Steps) → OneNet answer (iterate rs.rules (over + made) s.config)
  net_after either =
      let last = iterate rs.rules made t.config in
      let here = subst (λ (r : Rules). OneNet answer (iterate r.rules made t.config)) rules (more.net either) in
      let all = one_of_same (iterate rs.rules (made + over) s.config) last (laws.names rs (made + over) s.config sound.rules sound.over sound.names) (laws.names rs made t.config sound.rules is_over_here names) (net_then made) in
      subst (λ (n : ℕ). OneNet answer (iterate rs.rules n s.config)) turned_sum
      (laws.net_through answer last (iterate rs.rules (made + over) s.config) here (laws.net_other_way (iterate rs.rules (made + over) s.config) last all))

  same_after : (end ≡ Quiet) ⊎ (end ≡ Steps) → 1 ≤ left → SameButNext (iterate rs.rules (over + made) s.config) answer
  same_after either one =
      let last = iterate rs.rules made t.config in
      let here = subst (λ (r : Rules). SameButNext answer (iterate r.rules made t.config)) rules (more.same either one) in
      subst (λ (n : ℕ). SameButNext (iterate rs.rules n s.config) answer) turned_sum
      (laws.through (iterate rs.rules (made + over) s.config) last answer (net_then made) (laws.other_way answer last here))

  -- the interactions of all lives are those of all rounds
  module _ (j : ℕ) (fired : List ℕ) (of : AreOfRounds t.rules.rules t.config made end j fired) (total : ℕ) (sums : List ℕ) (sum : total ≡ before + j) (adds : AreSums before_by fired sums) where
    abbrev all_rules : List ℕ
    all_rules = rules_in rs.rules (made + over) s.config ++ of.since

    moved : IsPermutation (rules_in rs.rules over s.config ++ (rules_in t.rules.rules made t.config ++ of.since)) all_rules
    moved =
        let front = rules_in rs.rules over s.config in
        let own = rules_in rs.rules made t.config in
        let all = IsPermutation-append (front ++ own) (rules_in rs.rules (made + over) s.config) of.since of.since (rules_then made) (IsPermutation-refl of.since) in
        subst (λ (r : Rules). IsPermutation (front ++ (rules_in r.rules made t.config ++ of.since)) all_rules) (sym rules)
        (subst (λ (l : List ℕ). IsPermutation l all_rules) (append_assoc front own of.since) all)

    pub all_fired : AreOfRounds rs.rules s.config (over + made) end total sums
    all_fired =
        let front = rules_in rs.rules over s.config in
        let own = rules_in t.rules.rules made t.config ++ of.since in
        let here = of.all in
        let then_too = was.all in
        let long = length-append front own in
        let many = length_permutation (front ++ own) all_rules moved in
        let counts = subst (λ (r : Rules). AreCounts (length r.rules) own fired) rules of.counts in
        let next = rules_of rs.rules (iterate rs.rules made t.config).equations in
        let there = rules_of rs.rules (iterate rs.rules (made + over) s.config).equations in
        let part = subst (λ (r : Rules). IsPermutation (of.since ++ of.rest) (rules_of r.rules (iterate r.rules made t.config).equations)) rules of.part in
        subst (λ (n : ℕ). AreOfRounds rs.rules s.config n end total sums) turned_sum (record {
          since = of.since;
          all = omega (arith, sum, here, then_too, long, many);
          counts = counts_moved (length rs.rules) (front ++ own) all_rules sums moved (counts_add (length rs.rules) front own before_by fired sums was.counts counts adds);
          rest = of.rest;
          part = IsPermutation-trans (of.since ++ of.rest) next there part (IsPermutation-sym there next (rules_at made));
          whole = of.whole;
        })

  -- and so is the net with its names numbered anew
  pub rounds_to : (end ≡ Quiet) ⊎ (end ≡ Steps) → 1 ≤ left → ((x : ℕ) → occurrences x (configuration_names answer) ≡ 1 → x ≤ MAX_NAME) → (words : List Word) (terms next : ℕ)
      → configuration_of words terms (MAX_NAME + 1) ≡ renumbered answer → (total : ℕ) (sums : List ℕ) → AreOfRounds rs.rules s.config (over + made) end total sums
      → AreRoundsTo s (over + made) (configuration_of words terms next) total sums
  rounds_to either one low words terms next written total sums fired =
      let kept = configuration_of words terms next in
      let numbered : SameButNext (renumbered answer) kept = subst (λ (e : Configuration). SameButNext e kept) written (laws.next (configuration_of words terms (MAX_NAME + 1)) next) in
      record {
        net = laws.through (iterate rs.rules (over + made) s.config) answer kept (same_after either one) (laws.through answer (renumbered answer) kept (quiet_laws.renumbered answer low) numbered);
        needed = all_needed;
        all = fired.all ∙ ap (λ (l : List ℕ). length l) (none_since fired either);
        counts = subst (λ (l : List ℕ). AreCounts (length rs.rules) l sums) (none_since fired either) fired.counts;
      }

-- ---- whether both go by rounds

pub alike_itself : (o : Option ℕ) → AreAlike o o
alike_itself None = tt
alike_itself (Some n) = omega arith

pub alike_on : (a b c : Option ℕ) → AreAlike a b → AreAlike b c → AreAlike a c
alike_on None None None one two = tt
alike_on None None (Some c) one two = two
alike_on None (Some b) c one two = absurd one
alike_on (Some a) None c one two = absurd one
alike_on (Some a) (Some b) None one two = two
alike_on (Some a) (Some b) (Some c) one two = omega (arith, one, two)

pub alike_of : (old new : Option ℕ) → (old ≡ None → new ≡ None) → ((m n : ℕ) → old ≡ Some m → new ≡ Some n → m ≤ n) → (old ≡ None) ⊎ ((n : ℕ) × (new ≡ Some n)) → AreAlike old new
alike_of None None any more whole = tt
alike_of None (Some n) any more whole = cc (any refl)
alike_of (Some m) None any more (inl none) = cc (none)
alike_of (Some m) None any more (inr some) = cc (some.1)
alike_of (Some m) (Some n) any more whole = more m n refl refl

alike_some : (a b : Option ℕ) (m n : ℕ) → a ≡ Some m → b ≡ Some n → AreAlike a b → m ≤ n
alike_some None b m n some other alike = cc (some)
alike_some (Some k) None m n some other alike = absurd alike
alike_some (Some k) (Some l) m n some other alike =
    let one : k ≡ m = cc (some) in
    let two : l ≡ n = cc (other) in
    omega (arith, one, two, alike)

-- where more interactions were made, more rounds are over
pub more_over : (s : SystemParts) (k next : Kept) (m n : ℕ) → IsReachedFrom s k next → AreAlike k.rounds next.rounds → k.rounds ≡ Some m → next.rounds ≡ Some n → k.interactions < next.interactions → m < n
more_over s k next m n from alike some other later =
    let low = alike_some k.rounds next.rounds m n some other alike in
    let was = rounds_there s (configuration_of k.words k.terms from.was.next) k.interactions k.by_rule k.rounds m some from.was.rounds in
    let is = rounds_there s (configuration_of next.words next.terms from.is.next) next.interactions next.by_rule next.rounds n other from.is.rounds in
    ⊎_elim
    (λ less. less)
    (λ no_less.
    let same : m ≡ n = omega (arith, low, no_less) in
    let count : length (rules_in s.rules.rules m s.config) ≡ length (rules_in s.rules.rules n s.config) = ap (λ (j : ℕ). length (rules_in s.rules.rules j s.config)) same in
    let before = was.all in
    let after = is.all in
    absurd (omega (arith, count, before, after, later)))
    (cases_lt m n)

-- by the order in which a reduction goes
pub by_order : {P : Type 0} (o : Option ℕ) → (o ≡ None → P) → ((m : ℕ) → o ≡ Some m → P) → P
by_order None any rounds = any refl
by_order (Some m) any rounds = rounds m refl

-- ---- what a piece has made

pub made_by_rounds : (s : SystemParts) (bounds : Bounds) (most enough over left : ℕ) (rounds : Option ℕ) (reduced : Reduced) (made : ℕ) → rounds ≡ Some over → left ≡ most - over
    → IsRoundedTo s left enough made reduced → IsMade s bounds most rounds reduced made
made_by_rounds s bounds most enough over left rounds reduced made at same is = record {
  within = is.bounds;
  bounded = λ none. absurd (cc (sym at ∙ none));
  answer = is.answer;
  reached = is.reached;
  together = is.together;
  writes = is.writes;
  by_rounds = λ n there.
      let one : over ≡ n = cc (sym at ∙ there) in
      subst (λ (k : ℕ). MakesRounds s (most - k) made reduced.end is.answer) one (subst (λ (l : ℕ). MakesRounds s l made reduced.end is.answer) same is.made);
  fired = λ n there. is.fired;
}

pub made_by_threads : (s : SystemParts) (bounds : Bounds) (most : ℕ) (rounds : Option ℕ) (reduced : Reduced) → rounds ≡ None → IsReducedTo s bounds reduced → IsMade s bounds most rounds reduced 0
made_by_threads s bounds most rounds reduced at is = record {
  within = bounds;
  bounded = λ none. refl;
  answer = is.0;
  reached = is.1;
  together = is.2;
  writes = is.4;
  by_rounds = λ n there. absurd (cc (sym at ∙ there));
  fired = λ n there. absurd (cc (sym at ∙ there));
}
