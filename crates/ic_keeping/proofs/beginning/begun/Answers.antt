use Rattle.std.proofs.Common.{◌≡◌, ◌∙◌, ℕ, ◌+◌, ◌≤◌, List, Bool, true, false, if◌then◌else◌, Option, None, Some, length, refl, sym, ap, subst, arith}
use Rattle.std.proofs.lemmas.Result.{err_from_is_err_and}
use Rattle.std.specs.Prelude.{slice_index_or}
use Rattle.ic_term.specs.Configuration.{Configuration, configuration_names, one_above}
use Rattle.ic_term.specs.Symbol.{is_over}
use Rattle.ic_rules.specs.RuleSet.{Rules}
use Rattle.ic_flat.specs.Flat.{configuration_of}
use Rattle.ic_flat.specs.lemmas.FlatLaws.{names-configuration_of, over-configuration_of}
use Rattle.ic_text.specs.declared.limits.Limits.TheVariants.{Wide}
use Rattle.ic_text.specs.declared.limits.TheConstants.{MAX_NAME}
use Rattle.ic_rules.specs.System.{SystemParts}
use Rattle.ic_reaching.specs.OneNet.{SameButNext}
use Rattle.ic_keeping.specs.Way.{IsAfterRounds, IsOnWay}
use Rattle.ic_keeping.proofs.LowNames.{low_begun}
use Rattle.ic_keeping.proofs.WayLemmas.{begun_on_way, numbered_so, words_numbered}
use Rattle.ic_keeping.proofs.beginning.begun.Goals as goal

-- no round is over
begun_rounds : ((c : Configuration) (next : ℕ) → SameButNext c (record c { next = next })) → (s : SystemParts) (there : Configuration) → there ≡ s.config → (by : List ℕ) → length by ≡ length s.rules.rules
    → ((i : ℕ) → slice_index_or by i 0 ≡ 0) → (b : Bool) → IsAfterRounds s (if b then Some 0 else None) there 0 by
begun_rounds next s there config by long none true = record {
  net = subst (λ (d : Configuration). SameButNext s.config d) (sym config) (next s.config s.config.next);
  needed = λ n low. absurd (omega (arith, low));
  all = refl;
  counts = record { all = long; each = λ i below. none i };
}
begun_rounds next s there config by long none false = tt

pub returns-clause-read : goal.returns-clause-read
returns-clause-read c =
    let s = c.in_ok-system.system in
    let by = c.in_ok-by_rule.by_rule.items in
    let words = c.into_parts-words.result.0.items in
    let terms = c.into_parts-words.result.1 in
    let rules = c.rules.ensures.rules ∙ ap (λ (r : Rules). r.rules) (c.deref.ensures ∙ c.into_parts-rules.ensures.rules) in
    let whole : configuration_of words terms c.into_parts-words.result.3 ≡ s.config = c.into_parts-words.ensures.same ∙ c.into_parts-rules.ensures.config in
    let config : configuration_of words terms s.config.next ≡ s.config =
    subst (λ (n : ℕ). configuration_of words terms n ≡ s.config) (ap (λ (d : Configuration). d.next) whole) whole in
    let given : c.deref-3.result.now ≡ s.rules = c.deref-3.ensures ∙ c.into_parts-rules.ensures.rules in
    let kept = c.in_ok-kept.ensures.read s c.in_ok-system.ensures.read (sym given) in (
      s,
      c.in_ok-system.ensures.read,
      record {
        state = record {
          sound = c.systems_are_sound.ensures.sound;
          read = kept.0;
          reads = kept.1;
          rules = kept.2 ∙ given;
          next = s.config.next;
          way = subst (λ (d : Configuration). IsOnWay s d 0 by) (sym config)
              (begun_on_way s by c.what_is_reached_is_one_net.ensures.itself c.systems_are_sound.ensures.sound.names (c.in_ok-by_rule.ensures.long ∙ ap length rules) c.in_ok-by_rule.ensures.none);
          low = λ few. low_begun c.args.text.now s c.in_ok-system.ensures.read c.in_ok-system.ensures.spelled;
          quiet = λ ended. cc;
          whole = c.into_parts-words.ensures.flat.whole;
          equations = c.into_parts-words.result.2;
          counted = c.into_parts-words.ensures.flat.counted;
          rounds = subst (λ (o : Option ℕ). IsAfterRounds s o (configuration_of words terms s.config.next) 0 by) (sym c.rounds_begun.ensures)
              (begun_rounds c.where_names_begin_is_no_matter.ensures.next s (configuration_of words terms s.config.next) config by (c.in_ok-by_rule.ensures.long ∙ ap length rules)
              c.in_ok-by_rule.ensures.none c.args.by_rounds);
        };
        config = config;
        none = refl;
        goes_on = refl;
        millis = refl;
      },
      c.into_parts-rules.ensures.rules,
    )

pub returns-in_err-system-clause-refused : goal.returns-in_err-system-clause-refused
returns-in_err-system-clause-refused c =
    let e = err_from_is_err_and c.from_residual.result c.from_residual.ensures.1 in
    rw (e.1, e.2) c.in_err-system.ensures.refused

pub returns-in_err-by_rule-clause-refused : goal.returns-in_err-by_rule-clause-refused
returns-in_err-by_rule-clause-refused c =
    let e = err_from_is_err_and c.from_residual-in_err-by_rule.result c.from_residual-in_err-by_rule.ensures.1 in
    rw (e.1, e.2) (λ other. absurd (other refl))

pub returns-in_err-kept-clause-refused : goal.returns-in_err-kept-clause-refused
returns-in_err-kept-clause-refused c =
    let e = err_from_is_err_and c.from_residual-in_err-kept.result c.from_residual-in_err-kept.ensures.1 in
    rw (e.1, e.2) (λ other. absurd (other refl))

pub returns-clause-numbered : goal.returns-clause-numbered
returns-clause-numbered c =
    let s = c.in_ok-system.system in
    let words = c.into_parts-words.result.0.items in
    let terms = c.into_parts-words.result.1 in
    let flat = c.into_parts-words.ensures.flat in
    let whole : configuration_of words terms c.into_parts-words.result.3 ≡ s.config = c.into_parts-words.ensures.same ∙ c.into_parts-rules.ensures.config in
    let over = sym (over-configuration_of words terms c.into_parts-words.result.2 c.into_parts-words.result.3 flat.counted s.rules.symbols flat.whole) ∙ ap (λ (d : Configuration). is_over s.rules.symbols d) whole
    ∙ c.systems_are_sound.ensures.sound.over in
    let names = ap (λ (d : Configuration). configuration_names d) (sym whole) ∙ names-configuration_of words terms c.into_parts-words.result.2 c.into_parts-words.result.3 flat.counted in
    let low = low_begun c.args.text.now s c.in_ok-system.ensures.read c.in_ok-system.ensures.spelled in
    numbered_so c.are_narrow-narrow.result words (rw c.deref-2.ensures.value at c.are_narrow-narrow.ensures) (words_numbered s.rules.symbols c.systems_are_sound.ensures.symbols words over
    (subst (λ (ns : List ℕ). one_above ns ≤ MAX_NAME + 1) names
    (subst (λ (n : ℕ). n ≤ MAX_NAME + 1) (c.next_is_one_above_the_names.ensures.system Wide c.args.text.now s c.in_ok-system.ensures.read) low)))
