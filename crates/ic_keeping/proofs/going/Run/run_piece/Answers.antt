use Rattle.std.proofs.Common.{◌≡◌, ◌⊎◌, ⊎_elim, inl, inr, ◌∙◌, ℕ, ◌+◌, ◌-◌, ◌*◌, ◌<◌, ◌≤◌, List, None, Some, max, length, refl, sym, ap, subst, arith}
use Rattle.std.proofs.lemmas.Result.{err_from_is_err_and}
use Rattle.std.specs.Prelude.{◌↔◌, IsTrue, true, false}
use Rattle.std.specs.Arc.{arc_value}
use Rattle.std.specs.List.{AllByRecursion, list_all}
use Rattle.ic_rules.specs.RuleSet.{Rules}
use Rattle.ic_term.specs.Configuration.{Configuration, configuration_names, configuration_nodes, occurrences, one_above}
use Rattle.ic_term.specs.declared.limits.TheConstants.{MAX_WIDE_NODES}
use Rattle.ic_text.specs.declared.limits.TheConstants.{MAX_NAME}
use Rattle.ic_term.specs.Symbol.{is_over}
use Rattle.ic_flat.specs.declared.word.Word.{Word}
use Rattle.ic_flat.specs.Flat.{configuration_of}
use Rattle.ic_flat.specs.Words.{forest, is_word_over, IsWhole}
use Rattle.ic_flat.specs.lemmas.FlatLaws.{names-configuration_of}
use Rattle.ic_in_place.specs.declared.running.End.{End}
use Rattle.ic_in_place.specs.declared.running.End.TheVariants.{Quiet, Steps}
use Rattle.ic_in_place.specs.declared.running.Bounds.{Bounds}
use Rattle.ic_naming.specs.Naming.{renumbered}
use Rattle.ic_reaching.specs.OneNet.{OneNet}
use Rattle.ic_round.specs.Rounds.{iterate}
use Rattle.ic_rules.specs.System.{SystemParts}
use Rattle.std.proofs.lemmas.Bool.{cases_lt}
use Rattle.ic_in_place.specs.Counting.{AreOfRounds}
use Rattle.ic_in_place.specs.Reducing.{EndsBy}
use Rattle.ic_state.specs.State.{kept_by}
use Rattle.ic_state.specs.Words.{IsKeptWord}
use Rattle.ic_keeping.specs.inner.Pieces.{IsWritten}
use Rattle.ic_keeping.specs.Way.{AreRoundsTo, IsAfterRounds, IsAnswer, IsStateOf}
use Rattle.ic_keeping.proofs.ByRounds.{RoundLaws, after_rounds, all_fired, all_needed, by_order, net_after, rounds_there, rounds_to}
use Rattle.ic_keeping.proofs.Refusing.{not_unsound, piece_without_memory}
use Rattle.ic_keeping.proofs.LowNames.{TellingLaws, low_words}
use Rattle.ic_keeping.proofs.Quiet.{QuietLaws}
use Rattle.ic_keeping.proofs.WayLemmas.{NamingLaws, ReachingLaws, answer_of, answer_with, free_low, as_many_nodes, comes, counts_stay, numbered_so, past_sums, past_words, reached_from, reached_written, words_numbered}
use Rattle.ic_keeping.proofs.going.Run.run_piece.Goals as goal
use Rattle.ic_keeping.proofs.going.Run.run_piece.Goals.{In_ok-piece, In_ok-system}

-- what the laws say that are called first
naming_here : (g : _) → In_ok-system g → NamingLaws
naming_here g c = record { next = c.a_name_step_leads_to_one_net.ensures.next; net = c.a_renumbered_net_is_the_same_net.ensures.net }

laws_here : (g : _) → In_ok-system g → ReachingLaws
laws_here g c = record {
  names = c.what_is_reached_is_one_net.ensures.names;
  over = c.what_is_reached_is_one_net.ensures.over;
  net = c.what_is_reached_is_one_net.ensures.net;
  reached = c.what_is_reached_goes_on.ensures.reached;
  free = c.free_names_stay.ensures.reached;
  above = c.next_is_one_above_the_greatest_name.ensures.above;
}

telling_here : (g : _) → In_ok-system g → TellingLaws
telling_here g c = record {
  words = c.renumbered_words_write_the_renumbered_configuration.ensures.words;
  names = c.renamed_words_write_renamed_terms.ensures.names;
  low = c.names_are_told_apart.ensures.low;
}

quiet_here : (g : _) → In_ok-system g → QuietLaws
quiet_here g c = record {
  test = c.quiet_is_no_step.ensures;
  same = c.same_nets_take_the_same_steps.ensures.quiet;
  renumbered = c.a_renumbered_net_is_the_same_net.ensures.same;
}

whole : (words made : List Word) → words ≡ made → IsWhole made → IsWhole words
whole words made same is = subst (λ (ws : List Word). IsWhole ws) (sym same) is

-- what laws say of rounds
round_here : (g : _) → In_ok-system g → RoundLaws
round_here g c = record {
  over = λ rs n d set over. c.chains_are_steps.ensures.over rs d (iterate rs.rules n d) set over (c.rounds_are_steps.ensures.iterate rs.rules n d);
  names = λ rs n d set over named. c.chains_are_steps.ensures.names rs d (iterate rs.rules n d) set over named (c.rounds_are_steps.ensures.iterate rs.rules n d);
  rounds = c.where_names_begin_is_no_matter_to_rounds.ensures.rounds;
  rules = c.where_names_begin_is_no_matter_to_rounds.ensures.rules;
  next = c.where_names_begin_is_no_matter.ensures.next;
  other_way = c.where_names_begin_is_no_matter.ensures.other_way;
  through = c.where_names_begin_is_no_matter.ensures.through;
  net_other_way = c.one_net_is_an_equivalence.ensures.other_way;
  net_through = c.one_net_is_an_equivalence.ensures.through;
}

-- how many rounds are over in all
over_here : (g : _) (c : In_ok-piece g) (m : ℕ) → c.args.state.now.rounds ≡ Some m → c.rounds_over-over.result ≡ Some (m + c.in_ok-reduced.made)
over_here g c m before = c.rounds_over-over.ensures.over m before (c.in_ok-reduced.ensures.few m before)

sum_here : (g : _) (c : In_ok-piece g) (m n : ℕ) → c.args.state.now.rounds ≡ Some m → c.take_in.new.state.rounds ≡ Some n → n ≡ m + c.in_ok-reduced.made
sum_here g c m n before after =
    let only = c.rounds_between-state.ensures.only n (sym c.in_ok-piece.ensures.between ∙ after) in
    let same : Some n ≡ Some (m + c.in_ok-reduced.made) = sym only.0 ∙ over_here g c m before in
    cc (same)

-- the words that were taken in write the answer
new_written_here : (g : _) (c : In_ok-piece g) → configuration_of c.take_in.new.state.words.items c.take_in.new.state.terms (MAX_NAME + 1) ≡ renumbered c.in_ok-reduced.ensures.made.answer
new_written_here g c =
    let piece = c.in_ok-piece.ensures in
    ap (λ (ws : List Word). configuration_of ws c.take_in.new.state.terms (MAX_NAME + 1)) piece.words
    ∙ ap (λ (n : ℕ). configuration_of c.in_ok-reduced.reduced.words.items n (MAX_NAME + 1)) piece.terms
    ∙ c.in_ok-reduced.ensures.made.writes.written

-- the interactions of all lives are those of all rounds, and of what fired since
fired_here : (g : _) (c : In_ok-piece g) → In_ok-system g → (s : SystemParts) → arc_value c.args.rules.now ≡ s.rules → (is : IsStateOf s (kept_by c.args.state.now)) → (m : ℕ) → c.args.state.now.rounds ≡ Some m
    → AreOfRounds s.rules.rules s.config (m + c.in_ok-reduced.made) c.in_ok-reduced.reduced.end c.take_in.new.state.interactions c.take_in.new.state.by_rule.items
fired_here g c at s rules is m before =
    let old = c.args.state.now in
    let t = c.in_ok-system.system in
    let reduced = c.in_ok-reduced.reduced in
    let made = c.in_ok-reduced.ensures.made in
    let words : c.replace-words.result.items ≡ old.words.items = ap (λ ws. ws.items) c.replace-words.ensures.value in
    let interface = c.in_ok-system.ensures.interface ∙ ap (λ (ws : List Word). (configuration_of ws old.terms 0).interface) words in
    let equations = c.in_ok-system.ensures.equations ∙ ap (λ (ws : List Word). (configuration_of ws old.terms 0).equations) words in
    let piece = c.in_ok-piece.ensures in
    let there : Configuration = configuration_of old.words.items old.terms is.next in
    all_fired (round_here g at) (quiet_here g at) s t is.sound (c.in_ok-system.ensures.rules ∙ rules) there interface equations c.in_ok-system.ensures.names c.systems_are_sound.ensures.sound.over
    m old.interactions old.by_rule.items (rounds_there s there old.interactions old.by_rule.items old.rounds m before is.rounds) (c.args.self.now.rounds - m) c.in_ok-reduced.made reduced.end made.answer
    (made.by_rounds m before) reduced.interactions reduced.by_rule.items (made.fired m before) c.take_in.new.state.interactions c.take_in.new.state.by_rule.items piece.interactions piece.by_rule

-- what was reached is the net after them
rounds_here : (g : _) (c : In_ok-piece g) → In_ok-system g → (s : SystemParts) → arc_value c.args.rules.now ≡ s.rules → (is : IsStateOf s (kept_by c.args.state.now))
    → IsAfterRounds s c.take_in.new.state.rounds (configuration_of c.take_in.new.state.words.items c.take_in.new.state.terms
    (one_above (configuration_names (configuration_of c.take_in.new.state.words.items c.take_in.new.state.terms 0)))) c.take_in.new.state.interactions c.take_in.new.state.by_rule.items
rounds_here g c at s rules is =
    let old = c.args.state.now in
    let new = c.take_in.new.state in
    let t = c.in_ok-system.system in
    let reduced = c.in_ok-reduced.reduced in
    let made = c.in_ok-reduced.ensures.made in
    let words : c.replace-words.result.items ≡ old.words.items = ap (λ ws. ws.items) c.replace-words.ensures.value in
    let interface = c.in_ok-system.ensures.interface ∙ ap (λ (ws : List Word). (configuration_of ws old.terms 0).interface) words in
    let equations = c.in_ok-system.ensures.equations ∙ ap (λ (ws : List Word). (configuration_of ws old.terms 0).equations) words in
    let piece = c.in_ok-piece.ensures in
    let there : Configuration = configuration_of old.words.items old.terms is.next in
    let next : ℕ = one_above (configuration_names (configuration_of new.words.items new.terms 0)) in
    let reached : Configuration = configuration_of new.words.items new.terms next in
    let same = c.in_ok-system.ensures.rules ∙ rules in
    let written = new_written_here g c in
    after_rounds s reached new.interactions new.by_rule.items new.rounds (λ n after. by_order old.rounds
    (λ any. absurd (let none : Some n ≡ None = sym after ∙ (piece.between ∙ c.rounds_between-state.ensures.any any) in cc (none)))
    (λ m before.
    let only = c.rounds_between-state.ensures.only n (sym piece.between ∙ after) in
    let low = free_low (naming_here g at) (laws_here g at) s t is.sound there is.way.fired is.way.reached same interface equations c.in_ok-system.ensures.names
    made.within made.answer reduced.end reduced.interactions reduced.by_rule.items made.reached c.in_ok-system.ensures.low new.words.items new.terms written in
    let to = rounds_to (round_here g at) (quiet_here g at) s t is.sound same there interface equations c.in_ok-system.ensures.names c.systems_are_sound.ensures.sound.over
    m old.interactions old.by_rule.items (rounds_there s there old.interactions old.by_rule.items old.rounds m before is.rounds) (c.args.self.now.rounds - m) c.in_ok-reduced.made reduced.end made.answer
    (made.by_rounds m before) only.1 (omega (arith, only.2 m before)) low new.words.items new.terms next written new.interactions new.by_rule.items (fired_here g c at s rules is m before) in
    subst (λ (k : ℕ). AreRoundsTo s k reached new.interactions new.by_rule.items) (sym (sum_here g c m n before after)) to))

-- where no more might be made, all are
all_made : (g : _) (c : In_ok-piece g) (m : ℕ) → c.args.state.now.rounds ≡ Some m → c.in_ok-reduced.reduced.end ≡ Steps → c.take_in.new.state.rounds ≡ None
    → c.args.self.now.rounds ≤ m + c.in_ok-reduced.made
all_made g c m before steps none = ⊎_elim
    (λ low. let there = sym none ∙ (c.in_ok-piece.ensures.between ∙ (c.rounds_between-state.ensures.between m before low (inr steps) ∙ over_here g c m before)) in cc (there))
    (λ high. omega (arith, high))
    (cases_lt m c.args.self.now.rounds)

pub returns-clause-further : goal.returns-clause-further
returns-clause-further g c s first rules from =
    let at = (goal.at.returns-clause-further g c).In_ok-system in
    let old = c.args.state.now in
    let t = c.in_ok-system.system in
    let reduced = c.in_ok-reduced.reduced in
    let made = c.in_ok-reduced.ensures.made in
    let words : c.replace-words.result.items ≡ old.words.items = ap (λ ws. ws.items) c.replace-words.ensures.value in
    let interface = c.in_ok-system.ensures.interface ∙ ap (λ (ws : List Word). (configuration_of ws old.terms 0).interface) words in
    let equations = c.in_ok-system.ensures.equations ∙ ap (λ (ws : List Word). (configuration_of ws old.terms 0).equations) words in
    let piece = c.in_ok-piece.ensures in
    let sound = from.is.sound in (
      reached_from (naming_here g at) (laws_here g at) s t sound (kept_by old) (kept_by c.take_in.new.state) from.is (c.in_ok-system.ensures.rules ∙ rules) interface equations c.in_ok-system.ensures.names c.in_ok-system.ensures.low
          made.within made.answer reduced.end reduced.interactions reduced.by_rule.items made.reached made.together reduced.words.items reduced.terms made.writes.written
          piece.text piece.words piece.terms piece.interactions piece.by_rule first from (quiet_here g at) (telling_here g at) piece.millis piece.ended.0
          (whole c.take_in.new.state.words.items reduced.words.items piece.words made.writes.whole) reduced.equations
          (ap (λ (ws : List Word). length (forest ws)) piece.words ∙ made.writes.counted ∙ omega (arith, piece.terms))
          (rounds_here g (goal.at.returns-clause-further g c).In_ok-piece at s rules from.is),
      comes s first (kept_by old) from (naming_here g at) (laws_here g at) t sound (c.in_ok-system.ensures.rules ∙ rules) interface equations c.in_ok-system.ensures.names
          made.within made.answer reduced.end reduced.interactions reduced.by_rule.items made.reached made.together
          (kept_by c.take_in.new.state) piece.interactions
          (as_many_nodes (telling_here g at) made.answer reduced.words.items reduced.terms reduced.equations made.writes.counted made.writes.written ∙ ap (λ (ws : List Word). length ws) (sym piece.words)),
    )

pub returns-clause-answer : goal.returns-clause-answer
returns-clause-answer g c s most rules is any few = λ steps.
    let at = (goal.at.returns-clause-answer g c).In_ok-system in
    let old = c.args.state.now in
    let t = c.in_ok-system.system in
    let reduced = c.in_ok-reduced.reduced in
    let made = c.in_ok-reduced.ensures.made in
    let words : c.replace-words.result.items ≡ old.words.items = ap (λ ws. ws.items) c.replace-words.ensures.value in
    let interface = c.in_ok-system.ensures.interface ∙ ap (λ (ws : List Word). (configuration_of ws old.terms 0).interface) words in
    let equations = c.in_ok-system.ensures.equations ∙ ap (λ (ws : List Word). (configuration_of ws old.terms 0).equations) words in
    let piece = c.in_ok-piece.ensures in
    let bounded : made.within ≡ c.args.bounds = made.bounded any in
    let enough : old.interactions + made.within.steps ≤ max most.steps old.interactions = subst (λ (b : Bounds). old.interactions + b.steps ≤ max most.steps old.interactions) (sym bounded) few in
    subst (λ (e : End). IsAnswer s most e (kept_by c.take_in.new.state)) (sym piece.end)
    (answer_of (naming_here g at) (laws_here g at) s t is.sound (kept_by old) (kept_by c.take_in.new.state) is (c.in_ok-system.ensures.rules ∙ rules) interface equations c.in_ok-system.ensures.names c.in_ok-system.ensures.low
    made.within made.answer reduced.end reduced.interactions reduced.by_rule.items made.reached made.together reduced.words.items reduced.terms made.writes.written
    piece.text piece.words piece.terms piece.interactions piece.by_rule most enough (λ ended. steps (piece.end ∙ ended)))

pub returns-clause-piece : goal.returns-clause-piece
returns-clause-piece g c =
    let at = (goal.at.returns-clause-piece g c).In_ok-system in
    let t = c.in_ok-system.system in
    let reduced = c.in_ok-reduced.reduced in
    let made = c.in_ok-reduced.ensures.made in
    let r = made.reached in
    let piece = c.in_ok-piece.ensures in
    let new = c.take_in.new.state in
    let over = subst (λ (rs : Rules). IsTrue (list_all (is_word_over rs.symbols) reduced.words.items)) c.in_ok-system.ensures.rules made.writes.over in
    let is = reached_written (naming_here g at) (laws_here g at) c.what_is_reached_is_one_net.ensures.itself t c.systems_are_sound.ensures.sound
    made.within made.answer reduced.end reduced.interactions reduced.by_rule.items made.reached c.in_ok-system.ensures.low
    reduced.words.items reduced.terms made.writes.written made.writes.whole reduced.equations made.writes.counted in
    record {
      later = omega (arith, piece.interactions);
      within = λ any. omega (arith, piece.interactions, r.within, ap (λ (b : Bounds). b.steps) (made.bounded any));
      steps = λ any same.
          let ended = subst (λ (e : End). EndsBy t.rules.rules made.within made.answer reduced.interactions e) (sym piece.end ∙ same) r.ended in
          omega (arith, ended.0, piece.interactions, ap (λ (b : Bounds). b.steps) (made.bounded any));
      any = λ any. piece.between ∙ c.rounds_between-state.ensures.any any;
      untold = λ any. piece.rounds ∙ c.rounds_over-over.ensures.any any;
      more = λ m n before after.
          let only = c.rounds_between-state.ensures.only n (sym piece.between ∙ after) in
          let more = made.by_rounds m before in
          let sum : n ≡ m + c.in_ok-reduced.made = sum_here g (goal.at.returns-clause-piece g c).In_ok-piece m n before after in
          let left : 1 ≤ c.args.self.now.rounds - m = omega (arith, only.2 m before) in
          (omega (arith, sum), λ ended. omega (arith, sum, more.some (sym piece.end ∙ ended) left));
      stays = λ same. counts_stay _ r.fired c.args.state.now.by_rule.items reduced.by_rule.items new.by_rule.items
          (omega (arith, same, piece.interactions, r.counted)) r.counts piece.by_rule;
      millis = piece.millis;
      ended = subst (λ (e : End). (new.ended ≡ true) ↔ (e ≡ Quiet)) (sym piece.end) piece.ended;
      numbered = λ few.
          let short = subst (λ (ws : List Word). length ws ≤ MAX_WIDE_NODES) piece.words few in
          let low = low_words (telling_here g at) made.answer reduced.words.items reduced.terms reduced.equations made.writes.counted made.writes.written short in
          let names = names-configuration_of reduced.words.items reduced.terms reduced.equations 0 made.writes.counted in
          numbered_so new.narrow new.words.items piece.narrow (subst (λ (ws : List Word). AllByRecursion (IsKeptWord false) ws) (sym piece.words)
          (words_numbered t.rules.symbols c.systems_are_sound.ensures.symbols reduced.words.items made.writes.over
          (subst (λ (ns : List ℕ). one_above ns ≤ MAX_NAME + 1) names low)));
      written = subst (λ (ws : List Word). IsWritten (arc_value c.args.rules.now).symbols ws new.terms) (sym piece.words)
          (subst (λ (n : ℕ). IsWritten (arc_value c.args.rules.now).symbols reduced.words.items n) (sym piece.terms)
          (subst (λ (rs : Rules). IsWritten rs.symbols reduced.words.items reduced.terms) c.in_ok-system.ensures.rules is));
      printed = record {
        whole = whole new.words.items reduced.words.items piece.words made.writes.whole;
        over = subst (λ (ws : List Word). IsTrue (list_all (is_word_over (arc_value c.args.rules.now).symbols) ws)) (sym piece.words) over;
        counted = ap (λ (ws : List Word). length (forest ws)) piece.words ∙ made.writes.counted ∙ omega (arith, piece.terms, piece.equations);
      };
    }

pub returns-in_err-system-clause-sound : goal.returns-in_err-system-clause-sound
returns-in_err-system-clause-sound g c is =
    let old = c.args.state.now in
    let words : c.replace-words.result.items ≡ old.words.items = ap (λ ws. ws.items) c.replace-words.ensures.value in
    let e = err_from_is_err_and c.from_residual.result c.from_residual.ensures.1 in
    let here = subst (λ (ws : List Word). IsWritten (arc_value c.args.rules.now).symbols ws old.terms) (sym words) is in
    rw (e.1, e.2) (not_unsound c.in_err-system.field-0.0
    (c.in_err-system.ensures.refused here.equations here.whole here.counted here.twice here.over))

pub returns-in_err-system-clause-refused : goal.returns-in_err-system-clause-refused
returns-in_err-system-clause-refused g c s first rules from =
    let old = c.args.state.now in
    let is = from.is in
    let sound = is.sound in
    let words : c.replace-words.result.items ≡ old.words.items = ap (λ ws. ws.items) c.replace-words.ensures.value in
    let there = configuration_of old.words.items old.terms is.next in
    let names = c.what_is_reached_is_one_net.ensures.names s.rules.rules s.config there is.way.fired is.way.reached in
    let over = c.what_is_reached_is_one_net.ensures.over s.rules s.config there is.way.fired sound.rules sound.over sound.names is.way.reached in
    let twice = subst (λ (ws : List Word). (n : ℕ) → occurrences n (configuration_names (configuration_of ws old.terms 0)) ≤ 2) (sym words) names.twice in
    let e = err_from_is_err_and c.from_residual.result c.from_residual.ensures.1 in
    rw (e.1, e.2) (record {
      stops = c.in_err-system.ensures.refused is.equations
          (whole c.replace-words.result.items old.words.items words is.whole)
          (subst (λ (ws : List Word). length (forest ws) ≡ old.terms + 2 * is.equations) (sym words) is.counted)
          twice
          (subst (λ (ws : List Word). IsTrue (is_over (arc_value c.args.rules.now).symbols (configuration_of ws old.terms 0))) (sym words)
          (subst (λ (rs : Rules). IsTrue (is_over rs.symbols there)) (sym rules) over));
      limit = λ limit. inl (past_words s (kept_by old) c.what_is_reached_is_one_net.ensures.names is
          (subst (λ (ws : List Word). (MAX_WIDE_NODES < configuration_nodes (configuration_of ws old.terms 0)) ⊎ (MAX_NAME + 1 < one_above (configuration_names (configuration_of ws old.terms 0)))) words
          (c.in_err-system.ensures.limit twice limit)));
    })

pub returns-in_err-piece-clause-refused : goal.returns-in_err-piece-clause-refused
returns-in_err-piece-clause-refused g c s first rules from =
    let at = (goal.at.returns-in_err-piece-clause-refused g c).In_ok-system in
    let old = c.args.state.now in
    let t = c.in_ok-system.system in
    let reduced = c.in_ok-reduced.reduced in
    let made = c.in_ok-reduced.ensures.made in
    let words : c.replace-words.result.items ≡ old.words.items = ap (λ ws. ws.items) c.replace-words.ensures.value in
    let interface = c.in_ok-system.ensures.interface ∙ ap (λ (ws : List Word). (configuration_of ws old.terms 0).interface) words in
    let equations = c.in_ok-system.ensures.equations ∙ ap (λ (ws : List Word). (configuration_of ws old.terms 0).equations) words in
    let same = c.in_ok-system.ensures.rules ∙ rules in
    let long : length old.by_rule.items ≡ length reduced.by_rule.items = from.is.way.counts.all ∙ sym (made.reached.counts.all ∙ ap (λ (rs : Rules). length rs.rules) same) in
    let e = err_from_is_err_and c.from_residual-in_err-piece.result c.from_residual-in_err-piece.ensures.1 in
    rw (e.1, e.2) (record {
      stops = inr c.in_err-piece.ensures.refused;
      limit = λ limit. inr (past_sums s first (kept_by old) from (naming_here g at) (laws_here g at) t from.is.sound same interface equations c.in_ok-system.ensures.names
          made.within made.answer reduced.end reduced.interactions reduced.by_rule.items made.reached made.together (c.in_err-piece.ensures.limit long));
    })

pub returns-in_err-reduced-clause-refused : goal.returns-in_err-reduced-clause-refused
returns-in_err-reduced-clause-refused g c s first rules from =
    let e = err_from_is_err_and c.from_residual-in_err-reduced.result c.from_residual-in_err-reduced.ensures.1 in
    rw (e.1, e.2) (piece_without_memory s first c.args.state.now _ refl)

pub returns-in_err-system-clause-only : goal.returns-in_err-system-clause-only
returns-in_err-system-clause-only g c =
    let e = err_from_is_err_and c.from_residual.result c.from_residual.ensures.1 in
    rw (e.1, e.2) c.in_err-system.ensures.only

pub returns-clause-by_rounds : goal.returns-clause-by_rounds
returns-clause-by_rounds g c s over rules is before =
    let at = (goal.at.returns-clause-by_rounds g c).In_ok-system in
    let last = (goal.at.returns-clause-by_rounds g c).In_ok-piece in
    let old = c.args.state.now in
    let new = c.take_in.new.state in
    let t = c.in_ok-system.system in
    let reduced = c.in_ok-reduced.reduced in
    let made = c.in_ok-reduced.ensures.made in
    let words : c.replace-words.result.items ≡ old.words.items = ap (λ ws. ws.items) c.replace-words.ensures.value in
    let interface = c.in_ok-system.ensures.interface ∙ ap (λ (ws : List Word). (configuration_of ws old.terms 0).interface) words in
    let equations = c.in_ok-system.ensures.equations ∙ ap (λ (ws : List Word). (configuration_of ws old.terms 0).equations) words in
    let piece = c.in_ok-piece.ensures in
    let there = configuration_of old.words.items old.terms is.next in
    let same = c.in_ok-system.ensures.rules ∙ rules in
    let within : Bounds = record { steps = old.interactions + made.within.steps; nodes = made.within.nodes } in
    let ended = λ (at_steps : reduced.end ≡ Steps). subst (λ (e : End). EndsBy t.rules.rules made.within made.answer reduced.interactions e) at_steps made.reached.ended in
    let answer = answer_with (naming_here g at) (laws_here g at) s t is.sound (kept_by old) (kept_by new) is same interface equations c.in_ok-system.ensures.names c.in_ok-system.ensures.low
    made.within made.answer reduced.end reduced.interactions reduced.by_rule.items made.reached made.together reduced.words.items reduced.terms made.writes.written
    piece.text piece.words piece.terms piece.interactions piece.by_rule within (omega arith) (λ at_steps. omega (arith, piece.interactions, (ended at_steps).0))
    c.in_ok-piece.piece.end (sym piece.end) in
    let more = made.by_rounds over before in
    let after = rounds_there s there old.interactions old.by_rule.items old.rounds over before is.rounds in
    let net = net_after (round_here g at) (quiet_here g at) s t is.sound same there interface equations c.in_ok-system.ensures.names c.systems_are_sound.ensures.sound.over
    over old.interactions old.by_rule.items after (c.args.self.now.rounds - over) c.in_ok-reduced.made reduced.end made.answer more in
    let needed = all_needed (round_here g at) (quiet_here g at) s t is.sound same there interface equations c.in_ok-system.ensures.names c.systems_are_sound.ensures.sound.over
    over old.interactions old.by_rule.items after (c.args.self.now.rounds - over) c.in_ok-reduced.made reduced.end made.answer more in (
      within,
      answer.0,
      record {
        rounds = over + c.in_ok-reduced.made;
        told = piece.rounds ∙ over_here g last over before;
        within = omega (arith, more.within);
        later = omega arith;
        net = λ either. subst (λ (d : Configuration). OneNet d (iterate s.rules.rules (over + c.in_ok-reduced.made) s.config)) (sym answer.1)
            (net (subst (λ (e : End). (e ≡ Quiet) ⊎ (e ≡ Steps)) piece.end either));
        needed = needed;
        fired = subst (λ (e : End). AreOfRounds s.rules.rules s.config (over + c.in_ok-reduced.made) e new.interactions new.by_rule.items) (sym piece.end) (fired_here g last at s rules is over before);
        all = λ steps none. all_made g last over before (sym piece.end ∙ steps) none;
        same = λ n is_now. sum_here g last over n before is_now;
        between = λ few either. last.in_ok-piece.ensures.between ∙ (last.rounds_between-state.ensures.between over before few
            (subst (λ (e : End). (e ≡ Quiet) ⊎ (e ≡ Steps)) piece.end either) ∙ over_here g last over before);
      },
    )
