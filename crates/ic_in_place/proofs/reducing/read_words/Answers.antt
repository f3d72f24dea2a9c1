use Rattle.std.proofs.Common.{◌≡◌, ℕ, ◌+◌, ◌^◌, ◌<◌, List, IsTrue, ◌++◌, length, map, drop, reverse, refl, sym, ap, ◌∙◌, subst, arith}
use Rattle.ic_arena.specs.declared.word.TheConstants.{GIVEN}
use Rattle.ic_flat.specs.Words.{forest}
use Rattle.ic_flat.specs.Flat.{pairs_of}
use Rattle.std.specs.List.{AllByRecursion}
use Rattle.std.proofs.lemmas.List.{length-reverse}
use Rattle.std.proofs.lemmas.List.Sorted.{IsPermutation-reverse}
use Rattle.std.specs.Prelude.{SomeIff}
use Rattle.ic_term.specs.Configuration.{Configuration}
use Rattle.ic_term.specs.Symbol.{is_over}
use Rattle.ic_rules.specs.RuleSet.{Rules}
use Rattle.ic_round.specs.Naming.{HasNames}
use Rattle.ic_round.specs.Quiet.{IsQuiet}
use Rattle.ic_machine.specs.Net.{Net, pieces, HasNext, IsPair, IsStuck}
use Rattle.ic_meaning.specs.Nets.{net_of, AreNetPieces}
use Rattle.ic_readback.specs.declared.token.Token.{Token}
use Rattle.ic_readback.specs.Reading.{flat_words, configuration_read, AreCirclesAfter}
use Rattle.ic_readback.specs.lemmas.Orders.{all_order}
use Rattle.ic_in_place.specs.Holding.{AreGiven}
use Rattle.ic_in_place.specs.Reducing.{IsPutTogether}
use Rattle.ic_in_place.specs.inner.Numbering.{written_numbers, IsNumbered}
use Rattle.ic_in_place.proofs.Answering.{AnswerLaws, answered_so, quiet_so, retold}
use Rattle.ic_in_place.proofs.Interacts.{can_interact}
use Rattle.ic_in_place.proofs.InRange.{in_range}
use Rattle.ic_in_place.specs.declared.running.End.TheVariants.{Quiet}
use Rattle.ic_in_place.specs.Counting.{AreNameSteps}
use Rattle.ic_in_place.specs.Summing.{made_from}
use Rattle.ic_reaching.specs.Reaching.{Reaches}
use Rattle.ic_in_place.proofs.NameSteps.{CountLaws, name_steps_so, tells_so}
use Rattle.ic_in_place.proofs.Together.{all_pairs, put_together, quiet_read}
use Rattle.ic_in_place.proofs.reducing.read_words.Goals as goal

pub returns-clause-read : goal.returns-clause-read
returns-clause-read c = λ bounds stopped.
    let s = c.args.system in
    let m = c.args.stopped.machine in
    let end = c.args.stopped.end in
    let given = c.args.stopped.given.items in
    let read = c.in_ok-read.read in
    let held = stopped.held in
    let n = held.numbers in
    let sound = stopped.sound in
    let symbols : c.symbols-symbols.result.now ≡ s.rules.symbols = c.symbols-symbols.ensures.symbols ∙ ap (λ (r : Rules). r.symbols) (c.deref.ensures ∙ c.into_parts-rules.ensures.rules) in
    let laws : AnswerLaws = record {
      other_way = c.one_net_is_an_equivalence.ensures.other_way;
      through = c.one_net_is_an_equivalence.ensures.through;
      net = c.what_is_reached_is_one_net.ensures.net;
      over = c.what_is_reached_is_one_net.ensures.over;
      free = c.what_is_reached_has_the_same_free_names.ensures;
      forgets = c.what_is_renumbered_forgets_names.ensures;
    } in
    let arities : n.arities ≡ m.arities = held.arities ∙ stopped.arities ∙ sym stopped.own_arities in
    let over : IsTrue (is_over s.rules.symbols (net_of n m.interface (pieces m))) =
    laws.over s.rules s.config (net_of n m.interface (pieces m)) stopped.fired sound.rules sound.over sound.names held.reached in
    let are : AreNetPieces n.arities m.interface (pieces m) = subst (λ (a : List ℕ). AreNetPieces a m.interface (pieces m)) (sym held.arities) held.are_pieces in
    let ranged = in_range s.rules.symbols n m.interface (pieces m) sound.few held.sound.few over in
    let net = c.in_ok-read.ensures.net n arities held.sound are ranged held.has_names in
    let next = (λ (has : HasNext stopped.plans m.pending).
    can_interact s.rules stopped.rule_numbers stopped.plans n m.interface m.pending (reverse m.aside) (forest (flat_words n read.tokens.items)) (configuration_read n read.tokens.items read.terms)
    stopped.compiled.of_rules (subst (λ (a : List ℕ). length a < GIVEN) held.arities held.sound.few) has (c.in_ok-read.ensures.heads n arities are ranged)
    (ap (λ k. pairs_of (drop k (forest (flat_words n read.tokens.items)))) c.in_ok-read.ensures.terms)) in
    let heads = c.in_ok-read.ensures.heads n arities are ranged in
    let circles = c.in_ok-read.ensures.circles n arities held.sound are ranged in
    let d : Configuration = configuration_read n read.tokens.items read.terms in
    let turned : Net = record m { aside = reverse m.aside } in
    let stuck : AllByRecursion (IsStuck stopped.plans) (reverse m.aside) =
    all_order (IsStuck stopped.plans) m.aside (reverse m.aside) (IsPermutation-reverse m.aside) stopped.aside in
    let pairs : AllByRecursion IsPair (m.pending ++ reverse m.aside) =
    all_pairs stopped.plans m.pending (reverse m.aside) stopped.pairs stuck in
    let as_many : length (reverse m.aside) ≡ length m.aside = length-reverse m.aside in
    let around : AreCirclesAfter n (length m.pending + length (reverse m.aside)) (configuration_read n read.tokens.items read.terms) =
    subst (λ (k : ℕ). AreCirclesAfter n (length m.pending + k) (configuration_read n read.tokens.items read.terms)) (sym as_many) circles in
    let quiet : HasNames d → AreGiven n.given d → (AllByRecursion (IsStuck stopped.plans) m.pending → IsQuiet s.rules.rules d) × IsPutTogether d =
    (λ named free. (
      (λ none. quiet_read c.what_is_read_of_stuck_pairs_is_quiet.ensures s.rules stopped.rule_numbers stopped.plans n turned read.tokens.items read.terms read.equations
          sound.rules stopped.compiled.of_rules held.sound none stuck c.in_ok-read.ensures.terms heads (c.in_ok-read.ensures.counted n arities) around named free),
      put_together n turned read.tokens.items read.terms held.sound pairs c.in_ok-read.ensures.terms heads around named free,
    )) in
    let written = c.in_ok-words.ensures.words
    ∙ (λ i. flat_words (written_numbers (map (λ x. x.arity) (symbols i)) (c.deref-2.ensures.value i)) (c.deref-3.ensures.value i)) in
    let numbered : AllByRecursion (IsNumbered given) read.tokens.items =
    subst (λ (g : List ℕ). AllByRecursion (IsNumbered g) read.tokens.items) c.deref-2.ensures.value
    (subst (λ (ts : List Token). AllByRecursion (IsNumbered c.deref-2.result.now) ts) c.deref-3.ensures.value c.in_ok-words.ensures.numbered) in
    let answer = answered_so laws s bounds given m end c.args.stopped.by_rule.items stopped read.tokens.items read.terms read.equations c.in_ok-words.words.items
    net next quiet (c.in_ok-read.ensures.whole n arities) (c.in_ok-read.ensures.counted n arities) numbered written in
    let fired : List ℕ = answer.0.fired in
    let by_rule : List ℕ = c.args.stopped.by_rule.items in
    let rs : Rules = s.rules in
    let interactions : c.interactions-interactions.result ≡ length fired = c.interactions-interactions.ensures ∙ answer.0.counted in
    let given_equations : c.equations_len-equations.result ≡ length s.config.equations =
    c.equations_len-equations.ensures.equations ∙ ap (λ (d : Configuration). length d.equations) c.into_parts-rules.ensures.config in
    let rules_are : c.rules.result.now ≡ rs.rules =
    c.rules.ensures.rules ∙ ap (λ (r : Rules). r.rules) (c.deref-4.ensures ∙ c.into_parts-rules.ensures.rules) in
    let by_rule_is : c.deref-5.result.now ≡ by_rule = c.deref-5.ensures.value in
    let reached : Reaches rs.rules s.config d fired = answer.0.reached in
    let counting : CountLaws = record {
      itself = c.what_is_reached_is_one_net.ensures.itself;
      names = c.what_is_reached_is_one_net.ensures.names;
      over = c.what_is_reached_is_one_net.ensures.over;
      chain = c.what_is_reached_goes_on.ensures.chain;
    } in
    let told : end ≡ Quiet → (n : ℕ) × AreNameSteps rs.rules s.config n
    × SomeIff c.name_steps_at-name_steps.result (n + c.interactions-interactions.result + length d.equations < 2 ^ 64) n =
    (λ at.
    let still : IsQuiet rs.rules d = quiet_so rs.rules bounds d m.interactions end answer.0.ended at in
    let steps = name_steps_so counting c.where_names_begin_is_all_that_differs.ensures.equations rs s.config d fired by_rule
    sound.rules sound.over sound.names
    (c.what_is_reached_quiet_is_the_end_of_every_order.ensures.end rs s.config d fired sound.rules sound.over sound.names reached still)
    answer.0.counts in
    let made : made_from c.rules.result.now c.deref-5.result.now 0 ≡ made_from rs.rules by_rule 0 =
    (λ i. made_from (rules_are i) (by_rule_is i) 0) in
    let left = answer.2 in (
      steps.0,
      steps.1,
      subst (λ (k : ℕ). SomeIff c.name_steps_at-name_steps.result (steps.0 + c.interactions-interactions.result + k < 2 ^ 64) steps.0) (sym left)
          (c.name_steps_at-name_steps.ensures.quiet at steps.0 (omega (arith, steps.2, interactions, left, given_equations, made))),
    )) in (
      d,
      retold s bounds d end end c.interactions-interactions.result m.interactions by_rule by_rule refl c.interactions-interactions.ensures refl answer.0,
      answer.1,
      tells_so rs.rules s.config c.interactions-interactions.result (length d.equations) end c.name_steps_at-name_steps.result told
          c.name_steps_at-name_steps.ensures.other,
      answer.3,
      net,
    )

pub returns-clause-interactions : goal.returns-clause-interactions
returns-clause-interactions c = c.interactions-interactions.ensures
