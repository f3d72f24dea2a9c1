-- Lemmas: what rounds of a system have come to, of a text or not.
use Rattle.std.proofs.Common.{◌≡◌, ◌⊎◌, inl, inr, ℕ, ◌≤◌, List, Option, None, Some, length, arith, subst as transport}
use Rattle.ic_term.specs.Configuration.{Configuration}
use Rattle.ic_rules.specs.System.{SystemParts}
use Rattle.ic_machine.specs.Net.{Net}
use Rattle.ic_in_place.specs.Counting.{TellsNameSteps}
use Rattle.ic_in_place.specs.Holding.{IsNetOf}
use Rattle.ic_in_place.specs.Reducing.{EndsBy, IsPutTogether, IsReached}
use Rattle.ic_in_place.specs.Rounds.{CountsRounds, EndsByRounds, HasRounded, MayEnd}
use Rattle.ic_in_place.specs.declared.rounded.Rounded.{Rounded}
use Rattle.ic_in_place.specs.declared.running.End.{End}
use Rattle.ic_in_place.specs.declared.running.End.TheVariants.{Quiet, Steps}
use Rattle.ic_in_place.specs.declared.stream.Asked.{Asked}
use Rattle.ic_text.specs.declared.limits.Limits.{Limits}

-- A machine has made rounds of a system, and this was read back of it.
pub record Made (s : SystemParts) (most rounds : ℕ) (answer : Configuration) (end : End) (interactions : ℕ) (by_rule : List ℕ) (told : Option ℕ) : Type 0 where
  pub given : List ℕ
  pub machine : Net
  pub taken : ℕ
  pub rounded : HasRounded s most taken given by_rule machine end
  pub reached : IsReached s rounded.bounds answer end interactions by_rule
  pub name_steps : TellsNameSteps s.rules.rules s.config interactions (length answer.equations) end told
  pub net : IsNetOf rounded.come.held.numbers machine answer
  pub count : CountsRounds end interactions told taken rounds

-- of a text
abbrev pub made_of : (limits : Limits) (most : ℕ) (asked : Asked) (input line : List ℕ) (reached : Rounded) → (e : EndsByRounds limits most asked input reached line)
    → Made e.system most reached.rounds e.ends.answer reached.outcome.end reached.outcome.interactions reached.outcome.by_rule.items reached.outcome.name_steps
made_of limits most asked input line reached e = record {
  given = e.given;
  machine = e.machine;
  taken = e.taken;
  rounded = e.rounded;
  reached = e.ends.reached;
  name_steps = e.ends.name_steps;
  net = e.net;
  count = e.count;
}

-- as it ends between two rounds, nothing is left that could be put for a name
pub put_together_then : (s : SystemParts) (most rounds : ℕ) (answer : Configuration) (end : End) (interactions : ℕ) (by_rule : List ℕ) (told : Option ℕ)
    → (e : Made s most rounds answer end interactions by_rule told) → (end ≡ Quiet) ⊎ (end ≡ Steps) → IsPutTogether answer
put_together_then s most rounds answer end interactions by_rule told e (inl quiet) =
    (transport (λ (x : End). EndsBy s.rules.rules e.rounded.bounds answer interactions x) quiet e.reached.ended).1
put_together_then s most rounds answer end interactions by_rule told e (inr steps) =
    (transport (λ (x : End). EndsBy s.rules.rules e.rounded.bounds answer interactions x) steps e.reached.ended).2

-- where no interactions are enough, as many rounds may be made as are said
pub all_may : (rounds most n : ℕ) → MayEnd rounds None most n → most ≡ rounds
all_may rounds most n (inl same) = same
all_may rounds most n (inr cut) = absurd (cc (cut.2.1))

pub may_within : (rounds most n : ℕ) (enough : Option ℕ) → MayEnd rounds enough most n → most ≤ rounds
may_within rounds most n enough (inl same) = omega (arith, same)
may_within rounds most n enough (inr cut) = cut.1

pub may_some : (rounds most n : ℕ) (enough : Option ℕ) → MayEnd rounds enough most n → 1 ≤ rounds → 1 ≤ most
may_some rounds most n enough (inl same) some = omega (arith, same, some)
may_some rounds most n enough (inr cut) some = cut.0

pub may_cut : (rounds most n enough taken : ℕ) → MayEnd rounds (Some enough) most n → taken ≡ most → (taken ≡ rounds) ⊎ (enough ≤ n)
may_cut rounds most n enough taken (inl same) all = inl (omega (arith, same, all))
may_cut rounds most n enough taken (inr cut) all = let same : enough ≡ cut.2.0 = cc (cut.2.1) in inr (omega (arith, same, cut.2.2))
