-- Lemmas: whatever order steps have, they end in the same net.
use Rattle.std.proofs.Common.{◌≡◌, ◌⊎◌, ℕ, ◌≤◌, List, [], ◌∷◌, ◌++◌, true, length, refl, sym, ap, ◌∙◌, length-append, arith, inl, inr}
use Rattle.std.specs.Prelude.{IsPermutation}
use Rattle.std.proofs.lemmas.List.Sorted.{length_permutation}
use Rattle.ic_term.specs.Configuration.{Configuration}
use Rattle.ic_term.specs.Symbol.{is_over}
use Rattle.ic_rules.specs.Rule.{Rule}
use Rattle.ic_rules.specs.RuleSet.{Rules, IsRuleSet}
use Rattle.ic_settle.specs.NameSteps.{NameStep}
use Rattle.ic_round.specs.Firing.{Active}
use Rattle.ic_round.specs.Naming.{HasNames}
use Rattle.ic_round.specs.Quiet.{IsQuiet}
use Rattle.ic_round.specs.Steps.{Interaction, Step, interaction, indirection, collect, no_steps, then_step}
use Rattle.ic_round.specs.lemmas.ChainLemmas.{steps-over, steps-names}
use Rattle.ic_round.specs.lemmas.NameStepLemmas.{name_step, indirection_step, collect_step}
use Rattle.ic_confluence.specs.Kinds.{Kind, naming, firing, StepOf, Chain}
use Rattle.ic_confluence.specs.Sameness.{Same, renaming, rearranging, through}
use Rattle.ic_confluence.specs.lemmas.Equivalence.{Same-refl, Same-sym}
use Rattle.ic_confluence.proofs.Putting.{Putting, from_step, to_step}
use Rattle.ic_confluence.proofs.Moving.{taken_too}
use Rattle.ic_confluence.proofs.Meeting.{two_puttings}
use Rattle.ic_confluence.proofs.Firings.{Firing, from_interaction, to_interaction, Sound, put_and_fire}
use Rattle.ic_confluence.proofs.TwoFirings.{TwoFired, two_firings}
use Rattle.ic_confluence.proofs.FiringToo.{same_sound, fired_too}
use Rattle.ic_confluence.proofs.Strip.{Meeting, Chain as Way, Ended, same_end, goes_on}

-- ---- steps of each kind, with and without places

pub step_of : (rs : List Rule) (k : Kind) (c d : Configuration) → StepOf rs k c d → Step rs c d
step_of rs naming c d step = name_step rs c d step
step_of rs (firing i) c d step = interaction c d step.0 step.1

pub kind_of : (rs : List Rule) (c d : Configuration) → Step rs c d → (k : Kind) × StepOf rs k c d
kind_of rs c d (interaction x y place step) = (firing step.active.rule, (place, step, refl))
kind_of rs c d (indirection x y place step) = (naming, indirection_step x y place step)
kind_of rs c d (collect x y place step) = (naming, collect_step x y place step)

-- a step without its place
abbrev Taken : List Rule → Kind → Configuration → Configuration → Type 0
Taken rs naming c d = Putting c d
Taken rs (firing i) c d = (step : Firing rs c d) × (step.active.rule ≡ i)

from_kind : (rs : List Rule) (k : Kind) (c d : Configuration) → StepOf rs k c d → Taken rs k c d
from_kind rs naming c d step = from_step c d step
from_kind rs (firing i) c d step = (from_interaction rs c d step.0 step.1, step.2)

to_kind : (rs : List Rule) (k : Kind) (c d : Configuration) → Taken rs k c d → StepOf rs k c d
to_kind rs naming c d step = to_step c d step
to_kind rs (firing i) c d step =
    let placed = to_interaction rs c d step.0 in
    (placed.0, placed.1, ap (λ (a : Active). a.rule) placed.2 ∙ step.1)

-- ---- what is asked of the steps

sound_step : (rs : Rules) (k : Kind) (c d : Configuration) → IsRuleSet rs → Sound rs c → StepOf rs.rules k c d → Sound rs d
sound_step rs k c d set sound step =
    let chain = then_step c c d (no_steps c) (step_of rs.rules k c d step) in
    record { over = steps-over rs c d set sound.over chain; named = steps-names rs c d set sound.over sound.named chain }

too_of : (rs : Rules) (k : Kind) (c d after : Configuration) → IsRuleSet rs → Sound rs c → Same c d → Taken rs.rules k c after
    → (end : Configuration) × Taken rs.rules k d end × Same after end
too_of rs naming c d after set sound same step = let too = taken_too c d after sound.named same step in (too.end, too.step, too.same)
too_of rs (firing i) c d after set sound same step = let too = fired_too rs c d after set sound same step.0 in (too.end, (too.step, too.rule ∙ step.1), too.same)

abbrev Meets : List Rule → Kind → Kind → Configuration → Configuration → Type 0
Meets rs k l d e = ((k ≡ l) × Same d e) ⊎ ((f : Configuration) × (g : Configuration) × Taken rs l d f × Taken rs k e g × Same f g)

two_named : (rs : List Rule) (d e : Configuration) → Same d e ⊎ ((f : Configuration) × Putting d f × Putting e f) → Meets rs naming naming d e
two_named rs d e (inl same) = inl (refl, same)
two_named rs d e (inr (f, one, other)) = inr (f, f, one, other, Same-refl f)

two_fired : (rs : List Rule) (d e : Configuration) (i j m n : ℕ) → m ≡ i → n ≡ j → TwoFired rs d e m n → Meets rs (firing i) (firing j) d e
two_fired rs d e i j m n p q (inl (same, net)) = inl (ap firing (sym p ∙ (same ∙ q)), net)
two_fired rs d e i j m n p q (inr b) = inr (b.end, b.other, (b.one, b.rule_one ∙ q), (b.two, b.rule_two ∙ p), b.same)

meet_of : (rs : Rules) (k l : Kind) (c d e : Configuration) → IsRuleSet rs → Sound rs c → Taken rs.rules k c d → Taken rs.rules l c e → Meets rs.rules k l d e
meet_of rs naming naming c d e set sound s r = two_named rs.rules d e (two_puttings c d e sound.named s r)
meet_of rs naming (firing j) c d e set sound s r =
    let met = put_and_fire rs c e d set sound r.0 s in
    inr (met.0, met.0, (met.2, met.3 ∙ r.1), met.1, Same-refl met.0)
meet_of rs (firing i) naming c d e set sound s r =
    let met = put_and_fire rs c d e set sound s.0 r in
    inr (met.0, met.0, met.1, (met.2, met.3 ∙ s.1), Same-refl met.0)
meet_of rs (firing i) (firing j) c d e set sound s r =
    two_fired rs.rules d e i j s.0.active.rule r.0.active.rule s.1 r.1 (two_firings rs c d e set sound s.0 r.0)

pub two_meet : (rs : Rules) (k l : Kind) (c d e : Configuration) → IsRuleSet rs → is_over rs.symbols c ≡ true → HasNames c → StepOf rs.rules k c d → StepOf rs.rules l c e
    → ((k ≡ l) × Same d e) ⊎ ((f : Configuration) × (g : Configuration) × StepOf rs.rules l d f × StepOf rs.rules k e g × Same f g)
two_meet rs k l c d e set over named s r =
    by (meet_of rs k l c d e set (record { over = over; named = named }) (from_kind rs.rules k c d s) (from_kind rs.rules l c e r))
  where
    by : Meets rs.rules k l d e → ((k ≡ l) × Same d e) ⊎ ((f : Configuration) × (g : Configuration) × StepOf rs.rules l d f × StepOf rs.rules k e g × Same f g)
    by (inl same) = inl same
    by (inr (f, g, one, other, same)) = inr (f, g, to_kind rs.rules l d f one, to_kind rs.rules k e g other, same)

pub step_too : (rs : Rules) (k : Kind) (c d after : Configuration) → IsRuleSet rs → is_over rs.symbols c ≡ true → HasNames c → Same c d → StepOf rs.rules k c after
    → (end : Configuration) × StepOf rs.rules k d end × Same after end
step_too rs k c d after set over named same step =
    let too = too_of rs k c d after set (record { over = over; named = named }) same (from_kind rs.rules k c after step) in
    (too.0, to_kind rs.rules k d too.0 too.1, too.2)

pub all_laws : (rs : Rules) → IsRuleSet rs → Meeting Kind Configuration (Sound rs) (StepOf rs.rules) Same
all_laws rs set = record {
  itself = Same-refl;
  other_way = Same-sym;
  through = through;
  good_step = λ k c d sound step. sound_step rs k c d set sound step;
  good_same = λ c d sound same. same_sound rs c d same sound;
  taken_too = λ k c d e sound same step. step_too rs k c d e set sound.over sound.named same step;
  meets = λ k l c d e sound s r. two_meet rs k l c d e set sound.over sound.named s r;
}

-- ---- chains

pub way_of : (rs : Rules) (set : IsRuleSet rs) (ks : List Kind) (c d : Configuration) → Chain rs.rules ks c d → Way Kind Configuration (Sound rs) (StepOf rs.rules) Same (all_laws rs set) ks c d
way_of rs set [] c d w = w
way_of rs set (k ∷ ks) c d w = (w.0, w.1, way_of rs set ks w.0 d w.2)

pub chain_of : (rs : Rules) (set : IsRuleSet rs) (ks : List Kind) (c d : Configuration) → Way Kind Configuration (Sound rs) (StepOf rs.rules) Same (all_laws rs set) ks c d → Chain rs.rules ks c d
chain_of rs set [] c d w = w
chain_of rs set (k ∷ ks) c d w = (w.0, w.1, chain_of rs set ks w.0 d w.2)

ended : (rs : Rules) (set : IsRuleSet rs) (d : Configuration) → IsQuiet rs.rules d → Ended Kind Configuration (Sound rs) (StepOf rs.rules) Same (all_laws rs set) d
ended rs set d quiet k e step = quiet e (step_of rs.rules k d e step)

pub same_ends : (rs : Rules) (ks ls : List Kind) (c d e : Configuration) → IsRuleSet rs → is_over rs.symbols c ≡ true → HasNames c
    → Chain rs.rules ks c d → IsQuiet rs.rules d → Chain rs.rules ls c e → IsQuiet rs.rules e → Same d e × IsPermutation ks ls
same_ends rs ks ls c d e set over named one quiet other also =
    let both = same_end Kind Configuration (Sound rs) (StepOf rs.rules) Same (all_laws rs set) ks ls c d e (record { over = over; named = named })
    (way_of rs set ks c d one) (ended rs set d quiet) (way_of rs set ls c e other) (ended rs set e also) in
    (both.1, both.0)

pub go_on : (rs : Rules) (ks ls : List Kind) (c d e : Configuration) → IsRuleSet rs → is_over rs.symbols c ≡ true → HasNames c
    → Chain rs.rules ks c d → IsQuiet rs.rules d → Chain rs.rules ls c e
    → (rest : List Kind) × (end : Configuration) × Chain rs.rules rest e end × Same d end × IsPermutation ks (ls ++ rest)
go_on rs ks ls c d e set over named one quiet other =
    let on = goes_on Kind Configuration (Sound rs) (StepOf rs.rules) Same (all_laws rs set) ls ks c d e (record { over = over; named = named })
    (way_of rs set ks c d one) (ended rs set d quiet) (way_of rs set ls c e other) in
    (on.others, on.end, chain_of rs set on.others e on.end on.chain, on.same, on.labels)

pub longest : (rs : Rules) (ks ls : List Kind) (c d e : Configuration) → IsRuleSet rs → is_over rs.symbols c ≡ true → HasNames c
    → Chain rs.rules ks c d → IsQuiet rs.rules d → Chain rs.rules ls c e → length ls ≤ length ks
longest rs ks ls c d e set over named one quiet other =
    let on = go_on rs ks ls c d e set over named one quiet other in
    let same = length_permutation ks (ls ++ on.0) on.4 in
    let sum = length-append ls on.0 in
    omega (arith, same, sum)

pub same_next : (c d : Configuration) → Same c d → d.next ≡ c.next
same_next c d (renaming x y r) = ap (λ (e : Configuration). e.next) r.result
same_next c d (rearranging x y r) = ap (λ (e : Configuration). e.next) r.result
same_next c d (through x y z first second) = same_next y z second ∙ same_next x y first

pub quiet_too : (rs : Rules) (c d : Configuration) → IsRuleSet rs → is_over rs.symbols c ≡ true → HasNames c → Same c d → IsQuiet rs.rules c → IsQuiet rs.rules d
quiet_too rs c d set over named same quiet e step =
    let sound = same_sound rs c d same (record { over = over; named = named }) in
    let kind = kind_of rs.rules d e step in
    let back = step_too rs kind.0 d c e set sound.over sound.named (Same-sym c d same) kind.1 in
    quiet back.0 (step_of rs.rules kind.0 c back.0 back.1)

-- ---- an interaction and a step that puts a term for a name

pub commutes : (rs : Rules) (c d e : Configuration) (place : ℕ) → IsRuleSet rs → is_over rs.symbols c ≡ true → HasNames c → NameStep c d → Interaction rs.rules c e place
    → (f : Configuration) × (later : ℕ) × Interaction rs.rules d f later × NameStep e f
commutes rs c d e place set over named step fire =
    let met = put_and_fire rs c e d set (record { over = over; named = named }) (from_interaction rs.rules c e place fire) (from_step c d step) in
    let placed = to_interaction rs.rules d met.0 met.2 in
    (met.0, placed.0, placed.1, to_step e met.0 met.1)
