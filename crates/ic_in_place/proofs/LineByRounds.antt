-- Lemmas: a line of a text that was reduced by rounds is the net after as many rounds.
use Rattle.std.proofs.Common.{◌≡◌, ◌⊎◌, ℕ, zero, suc, ◌≤◌, ◌≢◌, List, [], ◌∷◌, true, false, cond, Option, length, refl, sym, ap, ◌∙◌, arith, inl, inr, subst as transport}
use Rattle.ic_term.specs.Configuration.{Configuration}
use Rattle.ic_rules.specs.Rule.{Rule}
use Rattle.ic_settle.specs.NameSteps.{NameStep, NameSteps, no_step, one_more}
use Rattle.ic_settle.specs.lemmas.Reached.{settled_ends}
use Rattle.ic_round.specs.Firing.{fired}
use Rattle.ic_round.specs.Naming.{HasNames}
use Rattle.ic_round.specs.Rounds.{iterate}
use Rattle.ic_confluence.specs.Kinds.{Kind, naming, firing, Chain}
use Rattle.ic_confluence.specs.Sameness.{Same}
use Rattle.ic_reaching.specs.OneNet.{OneNet, SameButNext}
use Rattle.ic_reaching.specs.Reaching.{Reaches, rules_fired}
use Rattle.ic_naming.specs.Naming.{renumbered}
use Rattle.ic_text.specs.declared.limits.Limits.{Limits}
use Rattle.ic_streams.specs.Streams.{line_of}
use Rattle.ic_machine.specs.Net.{pieces}
use Rattle.ic_meaning.specs.Nets.{net_of}
use Rattle.ic_in_place.specs.Reducing.{IsPutTogether}
use Rattle.ic_in_place.specs.Reductions.{is_written, line_reached}
use Rattle.ic_rules.specs.System.{SystemParts}
use Rattle.ic_in_place.specs.Rounds.{EndsByRounds, stands_still}
use Rattle.ic_in_place.proofs.MadeRounds.{Made, put_together_then}
use Rattle.ic_in_place.specs.declared.rounded.Rounded.{Rounded}
use Rattle.ic_in_place.specs.declared.running.End.{End}
use Rattle.ic_in_place.specs.declared.running.End.TheVariants.{Quiet, Steps}
use Rattle.ic_in_place.specs.declared.stream.Asked.{Asked}
use Rattle.ic_in_place.specs.declared.stream.Asked.TheVariants.{Answer, AlsoPart, Nothing}
use Rattle.ic_in_place.proofs.Still.{still_none, still_or_not}
use Rattle.ic_in_place.proofs.Written.{asked_for}

first_of_all : (c d e : Configuration) → NameStep c d → NameSteps d e → NameSteps c e
first_of_all c d e step (no_step x) = one_more c c x (no_step c) step
first_of_all c d e step (one_more x y z steps last) = one_more c y z (first_of_all c x y step steps) last

some_rule : {i : ℕ} {is : List ℕ} → i ∷ is ≡ [] → ⊥
some_rule e = cc

-- a chain in which nothing fires is of name steps
named_chain : (rs : List Rule) (kinds : List Kind) (c d : Configuration) → rules_fired kinds ≡ [] → Chain rs kinds c d → NameSteps c d
named_chain rs [] c d none chain = transport (NameSteps c) chain (no_step c)
named_chain rs (naming ∷ kinds) c d none (e, step, rest) = first_of_all c e d step (named_chain rs kinds e d none rest)
named_chain rs (firing i ∷ kinds) c d none chain = absurd (some_rule none)

-- what the laws say that this one builds on
pub record LineLaws : Type 0 where
  pub through : (c d e : Configuration) → OneNet c d → OneNet d e → OneNet c e
  pub other_way : (c d : Configuration) → OneNet c d → OneNet d c
  pub itself : (c : Configuration) → Same c c
  pub same : (c d : Configuration) → Same c d → SameButNext c d

-- what is reached by no interaction is one net
pub reached_by_none : LineLaws → (rs : List Rule) (c d : Configuration) → HasNames c → Reaches rs c d [] → OneNet c d
reached_by_none laws rs c d named r =
    let first : OneNet c r.end = record {
      names = named;
      names_too = r.net.names;
      end = r.end;
      end_too = r.end;
      steps = named_chain rs r.kinds c r.end r.interactions r.chain;
      steps_too = no_step r.end;
      same = laws.same r.end r.end (laws.itself r.end);
    } in
    laws.through c r.end d first r.net

none_made : (c d : Configuration) → ((f : Configuration) → NameStep c f → ⊥) → NameSteps c d → d ≡ c
none_made c d none (no_step x) = refl
none_made c d none (one_more x y z steps s) =
    let same = none_made x y none steps in
    absurd (none z (transport (λ w. NameStep w z) same s))

-- one net of two in which no name step is possible
pub settled_nets : (c d : Configuration) → OneNet c d → ((f : Configuration) → NameStep c f → ⊥) → ((f : Configuration) → NameStep d f → ⊥) → SameButNext c d
settled_nets c d net none other =
    transport (SameButNext c) (none_made d net.end_too other net.steps_too)
    (transport (λ w. SameButNext w net.end_too) (none_made c net.end none net.steps) net.same)

pub a_round_is_settled : (rs : List Rule) (k : ℕ) (c f : Configuration) → 1 ≤ k → NameStep (iterate rs k c) f → ⊥
a_round_is_settled rs zero c f some step = absurd (omega (arith, some))
a_round_is_settled rs (suc k) c f some step = settled_ends (fired rs (iterate rs k c)) f step

-- ---- of a system

pub nothing_fired : (fired : List ℕ) (n : ℕ) → n ≡ length fired → n ≡ 0 → fired ≡ []
nothing_fired [] n same none = refl
nothing_fired (i ∷ is) n same none = absurd (omega (arith, same, none))

module _ (laws : LineLaws) (together : (c d : Configuration) → HasNames c → IsPutTogether c → NameStep c d → ⊥) (s : SystemParts) (most rounds : ℕ) (answer : Configuration) (end : End)
    (interactions : ℕ) (by_rule : List ℕ) (told : Option ℕ) (e : Made s most rounds answer end interactions by_rule told) (either : (end ≡ Quiet) ⊎ (end ≡ Steps)) where
  abbrev c : Configuration
  c = s.config

  abbrev rs : List Rule
  rs = s.rules.rules

  taken_net : OneNet answer (iterate rs e.taken c)
  taken_net =
      let n = e.rounded.come.held.numbers in
      let m = e.machine in
      laws.through answer (net_of n m.interface (pieces m)) (iterate rs e.taken c) (laws.other_way (net_of n m.interface (pieces m)) answer e.net) (e.rounded.net either)

  as_taken : rounds ≡ e.taken → OneNet answer (iterate rs rounds c)
  as_taken same = transport (λ (k : ℕ). OneNet answer (iterate rs k c)) (sym same) taken_net

  as_it_stood : interactions ≡ 0 → rounds ≡ 0 → OneNet answer (iterate rs rounds c)
  as_it_stood none zero_rounds =
      let fired = nothing_fired e.reached.fired interactions e.reached.counted none in
      let r : Reaches rs c answer [] = transport (Reaches rs c answer) fired e.reached.reached in
      transport (λ (k : ℕ). OneNet answer (iterate rs k c)) (sym zero_rounds) (laws.other_way c answer (reached_by_none laws rs c answer e.rounded.come.sound.names r))

  pub net : OneNet answer (iterate rs rounds c)
  net = by (still_or_not end interactions told)
    where
      by : (stands_still end interactions told ≡ true)
          ⊎ (stands_still end interactions told ≡ false) → OneNet answer (iterate rs rounds c)
      by (inl is) = as_it_stood (still_none end interactions told is) (e.count.none is)
      by (inr isnt) = as_taken (e.count.all isnt)

  pub same : 1 ≤ rounds → SameButNext answer (iterate rs rounds c)
  same one =
      settled_nets answer (iterate rs rounds c) net (λ f step. together answer f net.names (put_together_then s most rounds answer end interactions by_rule told e either) step)
      (λ f step. a_round_is_settled rs rounds c f one step)

-- ---- of a text

asked_for_cut : (asked : Asked) → asked ≢ Nothing → (line : List ℕ) → cond (is_written asked Steps) line [] ≡ line
asked_for_cut Answer some line = refl
asked_for_cut AlsoPart some line = refl
asked_for_cut Nothing some line = absurd (some refl)

module _ (limits : Limits) (most : ℕ) (asked : Asked) (input line : List ℕ) (reached : Rounded)
    (e : EndsByRounds limits most asked input reached line) (either : (reached.outcome.end ≡ Quiet) ⊎ (reached.outcome.end ≡ Steps)) (some : asked ≢ Nothing) where
  abbrev answer : Configuration
  answer = e.ends.answer

  pub printed : line ≡ line_of e.system.rules.symbols (renumbered answer)
  printed = by either
    where
      by : (reached.outcome.end ≡ Quiet) ⊎ (reached.outcome.end ≡ Steps) → line ≡ line_of e.system.rules.symbols (renumbered answer)
      by (inl quiet) = e.ends.prints ∙ (ap (λ (x : End). line_reached asked x e.system.rules.symbols answer) quiet ∙ asked_for asked some _)
      by (inr steps) = e.ends.prints ∙ (ap (λ (x : End). line_reached asked x e.system.rules.symbols answer) steps ∙ asked_for_cut asked some _)
