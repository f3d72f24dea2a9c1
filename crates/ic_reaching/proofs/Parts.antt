-- Lemmas: what a part reaches, the whole reaches.
use Rattle.std.proofs.Common.{◌⊎◌, ℕ, ◌+◌, ◌≤◌, ◌<◌, List, [], ◌∷◌, max, refl, arith, inl, inr, subst as transport}
use Rattle.std.proofs.lemmas.Bool.{cases_lt}
use Rattle.std.specs.List.{AllByRecursion}
use Rattle.ic_term.specs.Tree.{Tree, Pair}
use Rattle.ic_term.specs.Configuration.{Configuration, configuration_names, occurrences, one_above}
use Rattle.ic_rules.specs.Rule.{Rule}
use Rattle.ic_rules.specs.RuleSet.{Rules, IsRuleSet}
use Rattle.ic_round.specs.Naming.{HasNames}
use Rattle.ic_round.specs.lemmas.FreshNames.{absent_above}
use Rattle.ic_round.specs.lemmas.FiredNames.{All-mono}
use Rattle.ic_confluence.specs.Kinds.{Kind, naming, firing, Chain}
use Rattle.ic_reaching.specs.OneNet.{SameButNext, OneNet}
use Rattle.ic_reaching.specs.Reaching.{Reaches}
use Rattle.ic_reaching.specs.Beside.{beside, IsApart}
use Rattle.ic_reaching.proofs.Given.{SettlingLaws, StepLaws}
use Rattle.ic_reaching.proofs.ButNext.{but_next_other_way, next_is_no_matter, step_too}
use Rattle.ic_reaching.proofs.Nets.{from_but_next, from_next, net_other_way, net_through}
use Rattle.ic_reaching.proofs.Firing.{Sound, sound_step, fires_but_next}
use Rattle.ic_reaching.proofs.Reached.{chain_sound}
use Rattle.ic_reaching.proofs.Beside.{Rest, rest_names, with_rest, ApartFrom, RestBelow, counts_beside, chain_beside}
use Rattle.ic_reaching.proofs.Frames.{ShapeLaws, beginning, net_beside}

-- ---- a chain from where fresh names begin elsewhere

pub record Elsewhere (rs : List Rule) (ks : List Kind) (c d : Configuration) : Type 0 where
  pub end : Configuration
  pub chain : Chain rs ks c end
  pub same : SameButNext d end

chain_elsewhere : StepLaws → (rs : Rules) → IsRuleSet rs → (ks : List Kind) (c d e : Configuration) → Sound rs c → Sound rs d → SameButNext c d → Chain rs.rules ks c e → Elsewhere rs.rules ks d e
chain_elsewhere laws rs set [] c d e sound also s chain =
    let P : Configuration → Type 0 = λ x. SameButNext x d in
    record { end = d; chain = refl; same = transport P chain s }
chain_elsewhere laws rs set (naming ∷ ks) c d e sound also s (x, step, chain) =
    let too = step_too laws.nets c d x sound.named s step in
    let rest = chain_elsewhere laws rs set ks x too.0 e (sound_step rs naming c x set sound step) (sound_step rs naming d too.0 set also too.1) too.2 chain in
    record { end = rest.end; chain = (too.0, too.1, rest.chain); same = rest.same }
chain_elsewhere laws rs set (firing i ∷ ks) c d e sound also s (x, step, chain) =
    let too = fires_but_next laws rs set i d c x also sound (but_next_other_way laws.nets c d s) step in
    let rest = chain_elsewhere laws rs set ks x too.end e (sound_step rs (firing i) c x set sound step) (sound_step rs (firing i) d too.end set also too.step)
    (but_next_other_way laws.nets too.end x too.same) chain in
    record { end = rest.end; chain = (too.end, too.step, rest.chain); same = rest.same }

reaches_elsewhere : StepLaws → SettlingLaws → (rs : Rules) → IsRuleSet rs → (c d : Configuration) (fired : List ℕ) (next : ℕ) → Sound rs c → HasNames (beginning next c) → Reaches rs.rules c d fired
    → Reaches rs.rules (beginning next c) d fired
reaches_elsewhere laws nets rs set c d fired next sound named r =
    let also : Sound rs (beginning next c) = record { over = sound.over; named = named } in
    let there = chain_elsewhere laws rs set r.kinds c (beginning next c) r.end sound also (next_is_no_matter laws.nets c next) r.chain in
    let end_named = (chain_sound rs r.kinds (beginning next c) there.end set also there.chain).named in
    record {
      kinds = r.kinds;
      end = there.end;
      chain = there.chain;
      interactions = r.interactions;
      net = net_through nets there.end r.end d (from_but_next there.end r.end end_named r.net.names (but_next_other_way laws.nets r.end there.end there.same)) r.net;
    }

-- ---- fresh names from above those of the rest

abbrev pub above : Rest → Configuration → Configuration
above r c = beginning (max c.next (one_above (rest_names r))) c

higher_all : (low high : ℕ) (ns : List ℕ) → low ≤ high → AllByRecursion (λ n. n < low) ns → AllByRecursion (λ n. n < high) ns
higher_all low high ns le all = All-mono (λ n. n < low) (λ n. n < high) (λ n less. omega (arith, less, le)) ns all

all_below : (ns : List ℕ) → AllByRecursion (λ n. n < one_above ns) ns
all_below [] = tt
all_below (n ∷ ns) = ((let h : n < max (n + 1) (one_above ns) = omega arith in h), higher_all (one_above ns) (max (n + 1) (one_above ns)) ns (omega arith) (all_below ns))

some_below : (ns : List ℕ) (n : ℕ) → 1 ≤ occurrences n ns → n < one_above ns
some_below ns n some = elim (cases_lt n (one_above ns)) [
  | inl low ↦ low
  | inr high ↦ let none = absent_above n (one_above ns) ns (all_below ns) high in absurd (omega (arith, none, some))
]

pub names_above : (r : Rest) (c : Configuration) → HasNames c → HasNames (above r c)
names_above r c named = record {
  below = higher_all c.next (max c.next (one_above (rest_names r))) (configuration_names c) (omega arith) named.below;
  twice = named.twice;
}

pub rest_below_above : (r : Rest) (c : Configuration) → RestBelow r (max c.next (one_above (rest_names r)))
rest_below_above r c n some = let low = some_below (rest_names r) n some in omega (arith, low)

net_above : StepLaws → (r : Rest) (c : Configuration) → HasNames c → OneNet c (above r c)
net_above laws r c named = from_next laws.nets c (max c.next (one_above (rest_names r))) named (names_above r c named)

-- each name occurs at most twice in the whole
abbrev pub Few : Rest → Configuration → Type 0
Few r c = (n : ℕ) → occurrences n (configuration_names c) + occurrences n (rest_names r) ≤ 2

-- ---- the frame laws

pub net_of_wholes : StepLaws → SettlingLaws → ShapeLaws → (r : Rest) (c d : Configuration) → OneNet c d → ApartFrom r c → ApartFrom r d → Few r c
    → OneNet (with_rest r (above r c)) (with_rest r (above r d))
net_of_wholes laws nets shapes r c d net apart apart_too few =
    let one = net_other_way laws.nets c (above r c) (net_above laws r c net.names) in
    let other = net_above laws r d net.names_too in
    net_beside shapes r (above r c) (above r d) (net_through nets (above r c) c (above r d) one (net_through nets c d (above r d) net other)) apart apart_too
    (rest_below_above r c) (rest_below_above r d) few

pub whole_reaches : StepLaws → SettlingLaws → ShapeLaws → (rs : Rules) → IsRuleSet rs → (r : Rest) (c d : Configuration) (fired : List ℕ) → Sound rs c → Reaches rs.rules c d fired
    → ApartFrom r c → ApartFrom r d → Few r c → Reaches rs.rules (with_rest r (above r c)) (with_rest r (above r d)) fired
whole_reaches laws nets shapes rs set r c d fired sound reached apart apart_too few =
    let high = max c.next (one_above (rest_names r)) in
    let begun = above r c in
    let named = names_above r c sound.named in
    let sound_begun : Sound rs begun = record { over = sound.over; named = named } in
    let there = reaches_elsewhere laws nets rs set c d fired high sound named reached in
    let low = rest_below_above r c in
    let whole = chain_beside rs r there.kinds begun there.end set sound_begun apart low there.chain in
    let end_named = (chain_sound rs there.kinds begun there.end set sound_begun there.chain).named in
    record {
      kinds = there.kinds;
      end = with_rest r there.end;
      chain = whole.chain;
      interactions = there.interactions;
      net = net_beside shapes r there.end (above r d)
          (net_through nets there.end d (above r d) there.net (net_above laws r d there.net.names_too))
          (λ n some. let fewer = whole.fewer n (low n some) in let once = apart n some in omega (arith, fewer, once))
          apart_too
          (λ n some. let less = low n some in let more = whole.higher in omega (arith, less, more))
          (rest_below_above r d)
          (λ n. few_at n there.end end_named whole.fewer (cases_lt 0 (occurrences n (rest_names r))));
    }
  where
    few_at : (n : ℕ) (end : Configuration) → HasNames end
        → ((k : ℕ) → k < max c.next (one_above (rest_names r)) → occurrences k (configuration_names end) ≤ occurrences k (configuration_names c))
        → (0 < occurrences n (rest_names r)) ⊎ (occurrences n (rest_names r) ≤ 0) → occurrences n (configuration_names end) + occurrences n (rest_names r) ≤ 2
    few_at n end named fewer (inr none) = let two = named.twice n in omega (arith, none, two)
    few_at n end named fewer (inl some) =
        let less = fewer n (rest_below_above r c n (omega (arith, some))) in
        let all = few n in
        omega (arith, less, all)

-- ---- terms and equations at the end

abbrev pub at_end : List Tree → List Pair → Rest
at_end ts es = record { before = []; after = ts; equations = es }

pub few_of : (c : Configuration) (ts : List Tree) (es : List Pair) → HasNames (beside c ts es) → Few (at_end ts es) c
few_of c ts es named n =
    let all = counts_beside (at_end ts es) (above (at_end ts es) c) n in
    let two = named.twice n in
    omega (arith, all, two)

-- where that is so, a name of them occurs at most once in the configuration
pub apart_by : (r : Rest) (c : Configuration) → Few r c → ApartFrom r c
apart_by r c few n some = let two = few n in omega (arith, two, some)

pub net_frame : StepLaws → SettlingLaws → ShapeLaws → (c d : Configuration) (ts : List Tree) (es : List Pair) → OneNet c d → HasNames (beside c ts es) → IsApart d ts es
    → OneNet (beside c ts es) (beside d ts es)
net_frame laws nets shapes c d ts es net named apart =
    let few = few_of c ts es named in
    net_of_wholes laws nets shapes (at_end ts es) c d net (apart_by (at_end ts es) c few) apart.once few

pub reaches_frame : StepLaws → SettlingLaws → ShapeLaws → (rs : Rules) → IsRuleSet rs → (c d : Configuration) (ts : List Tree) (es : List Pair) (fired : List ℕ) → Sound rs c
    → Reaches rs.rules c d fired → HasNames (beside c ts es) → IsApart d ts es → Reaches rs.rules (beside c ts es) (beside d ts es) fired
reaches_frame laws nets shapes rs set c d ts es fired sound reached named apart =
    let few = few_of c ts es named in
    whole_reaches laws nets shapes rs set (at_end ts es) c d fired sound reached (apart_by (at_end ts es) c few) apart.once few
