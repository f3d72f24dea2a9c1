-- Lemmas: where fresh names begin is no matter to firing, to settling and to rounds.
use Rattle.std.proofs.Common.{◌≡◌, ℕ, zero, suc, ◌+◌, ◌≤◌, ◌<◌, List, [], ◌++◌, true, Option, None, Some, length, refl, sym, ap, ◌∙◌, append-nil, arith, subst as transport}
use Rattle.std.proofs.lemmas.Bool.{and_parts}
use Rattle.std.proofs.lemmas.List.{map-append}
use Rattle.std.specs.List.{list_all}
use Rattle.std.specs.Option.{option_map, option_map_or}
use Rattle.ic_term.specs.Tree.{Tree, Pair}
use Rattle.ic_term.specs.Configuration.{Configuration, configuration_names, occurrences}
use Rattle.ic_term.specs.Symbol.{is_over, is_tree_over, is_pair_over}
use Rattle.ic_rules.specs.RuleSet.{Rules, IsRuleSet}
use Rattle.ic_settle.specs.Settling.{Choice, first_choice, applied, settled_in, settled}
use Rattle.ic_round.specs.Firing.{fired_from, next_after, fired}
use Rattle.ic_round.specs.Naming.{HasNames}
use Rattle.ic_round.specs.Rounds.{round, iterate}
use Rattle.ic_round.specs.lemmas.ChainLemmas.{steps-over, steps-names}
use Rattle.ic_round.specs.lemmas.FiredNames.{All-mono}
use Rattle.ic_round.specs.lemmas.StepsLemmas.{fired_reached, round_reached}
use Rattle.ic_confluence.specs.Sameness.{renamed_pair, Same}
use Rattle.ic_confluence.specs.lemmas.Counts.{below_next}
use Rattle.ic_confluence.specs.lemmas.Over.{same_over}
use Rattle.ic_reaching.specs.FreshNames.{AreFresh}
use Rattle.ic_reaching.specs.OneNet.{SameButNext, raised}
use Rattle.ic_generations.proofs.Given.{Sound, FiringLaws}
use Rattle.ic_generations.proofs.Renamed.{terms_stay, pairs_stay}
use Rattle.ic_generations.proofs.Fired.{made_of, fired_among, in_whole, moved_net, renamed_fired}
use Rattle.ic_generations.proofs.InTurn.{to_fresh, fresh_low, fresh_after, fresh_moves}

-- ---- the fresh names of some equations, counted on from any number that is high enough

pub any_base : (rs : Rules) (ts : List Tree) (now rest : List Pair) (next top : ℕ) → IsRuleSet rs → list_all (is_pair_over rs.symbols) now ≡ true → HasNames (made_of ts now rest next) → next ≤ top
    → SameButNext (fired_among rs.rules ts now rest next) (fired_among rs.rules ts now rest top)
any_base rs ts now rest next top set over named higher =
    let turns = to_fresh next 0 (λ n. n) top in
    let fresh : AreFresh (made_of ts now rest next) 0 top (λ n. n) = record {
      absent = λ k low. absurd (omega (arith, low));
      apart = λ j k low less same. absurd (omega (arith, low));
      below = λ k low. absurd (omega (arith, low));
    } in
    let moved = moved_net rs ts now rest next (next_after rs.rules top now) turns set over named (fresh_moves ts now rest next 0 (λ n. n) top named fresh higher) in
    let all = λ (n : ℕ). in_whole n ts now rest next in
    let stays : (n : ℕ) → 1 ≤ occurrences n (configuration_names (made_of ts now rest next)) → turns n ≡ n = λ n some. fresh_low next 0 (λ n. n) top n (below_next (made_of ts now rest next) named n some) in
    let terms = terms_stay turns ts (λ n some. stays n (let w = all n in omega (arith, w, some))) in
    let back = pairs_stay turns rest (λ n some. stays n (let w = all n in omega (arith, w, some))) in
    let front = renamed_fired rs next top now turns set over (λ n some. stays n (let w = all n in omega (arith, w, some)))
    (λ j. (let same : next + j ≡ next + 0 + j = omega arith in ap turns same) ∙ fresh_after next 0 (λ n. n) top j) in
    let equations = map-append (renamed_pair turns) (fired_from rs.rules next now) rest ∙ (λ i. front i ++ back i) in
    let P : Configuration → Type 0 = SameButNext (fired_among rs.rules ts now rest next) in
    transport P (λ i. record { interface = terms i; equations = equations i; next = next_after rs.rules top now }) moved

-- ---- a configuration with its fresh names further on

pub raised_names : (more : ℕ) (c : Configuration) → HasNames c → HasNames (raised more c)
raised_names more c named = record {
  below = All-mono (λ n. n < c.next) (λ n. n < c.next + more) (λ n low. omega (arith, low)) (configuration_names c) named.below;
  twice = named.twice;
}

pub equations_over : (rs : Rules) (c : Configuration) → is_over rs.symbols c ≡ true → list_all (is_pair_over rs.symbols) c.equations ≡ true
equations_over rs c over = (and_parts (list_all (is_tree_over rs.symbols) c.interface) (list_all (is_pair_over rs.symbols) c.equations) over).1

raised_fires : (rs : Rules) (more : ℕ) (c : Configuration) → IsRuleSet rs → Sound rs c → SameButNext (fired rs.rules c) (fired rs.rules (raised more c))
raised_fires rs more c set sound =
    let ts = c.interface in
    let es = c.equations in
    let alone : made_of ts es [] c.next ≡ c = ap (λ l. record c { equations = l }) (append-nil es) in
    let named = transport HasNames (sym alone) sound.named in
    let moved = any_base rs ts es [] c.next (c.next + more) set (equations_over rs c sound.over) named (omega arith) in
    let is = λ (n : ℕ). ap {B = Configuration} (λ l. record { interface = ts; equations = l; next = next_after rs.rules n es }) (append-nil (fired_from rs.rules n es)) in
    let P : Configuration → Type 0 = λ z. SameButNext z (fired_among rs.rules ts es [] (c.next + more)) in
    transport (SameButNext (fired rs.rules c)) (is (c.next + more)) (transport P (is c.next) moved)

settled_one : (more n : ℕ) (c : Configuration) (found : Option Choice) → ((choice : Choice) → settled_in n (applied (raised more c) choice) ≡ raised more (settled_in n (applied c choice)))
    → option_map_or (settled_in n) (option_map (applied (raised more c)) found) (raised more c) ≡ raised more (option_map_or (settled_in n) (option_map (applied c) found) c)
settled_one more n c None rest = refl
settled_one more n c (Some choice) rest = rest choice

settled_raised : (more n : ℕ) (c : Configuration) → settled_in n (raised more c) ≡ raised more (settled_in n c)
settled_raised more zero c = refl
settled_raised more (suc n) c = settled_one more n c (first_choice c.interface [] c.equations) (λ choice. settled_raised more n (applied c choice))

-- ---- what is the same but for where fresh names begin

pub record RoundLaws : Type 0 where
  pub firing : FiringLaws
  pub settled : (c d : Configuration) → HasNames c → Same c d → Same (settled c) (settled d)

pub over_too : (rs : Rules) (c d : Configuration) → SameButNext c d → is_over rs.symbols c ≡ true → is_over rs.symbols d ≡ true
over_too rs c d s over = same_over rs.symbols (raised s.more c) (raised s.others d) s.same over

pub settled_but_next : RoundLaws → (c d : Configuration) → HasNames c → SameButNext c d → SameButNext (settled c) (settled d)
settled_but_next laws c d named s =
    let ends = laws.settled (raised s.more c) (raised s.others d) (raised_names s.more c named) s.same in
    let one = settled_raised s.more (length c.equations) c in
    let other = settled_raised s.others (length d.equations) d in
    record {
      more = s.more;
      others = s.others;
      same = transport (Same (raised s.more (settled c))) other (transport (λ z. Same z (settled (raised s.others d))) one ends);
    }

pub fired_but_next : RoundLaws → (rs : Rules) (c d : Configuration) → IsRuleSet rs → Sound rs c → HasNames d → SameButNext c d → SameButNext (fired rs.rules c) (fired rs.rules d)
fired_but_next laws rs c d set sound named s =
    let nets = laws.firing.nets in
    let rules = rs.rules in
    let high = raised s.more c in
    let high_too = raised s.others d in
    let at_once = laws.firing.fired rs high high_too set sound.over (raised_names s.more c sound.named) s.same in
    nets.through (fired rules c) (fired rules high) (fired rules d) (raised_fires rs s.more c set sound)
    (nets.through (fired rules high) (fired rules high_too) (fired rules d) (nets.same (fired rules high) (fired rules high_too) at_once)
    (nets.other_way (fired rules d) (fired rules high_too) (raised_fires rs s.others d set (record { over = over_too rs c d s sound.over; named = named }))))

pub fired_sound : (rs : Rules) (c : Configuration) → IsRuleSet rs → Sound rs c → Sound rs (fired rs.rules c)
fired_sound rs c set sound = record {
  over = steps-over rs c (fired rs.rules c) set sound.over (fired_reached rs.rules c);
  named = steps-names rs c (fired rs.rules c) set sound.over sound.named (fired_reached rs.rules c);
}

pub round_sound : (rs : Rules) (c : Configuration) → IsRuleSet rs → Sound rs c → Sound rs (round rs.rules c)
round_sound rs c set sound = record {
  over = steps-over rs c (round rs.rules c) set sound.over (round_reached rs.rules c);
  named = steps-names rs c (round rs.rules c) set sound.over sound.named (round_reached rs.rules c);
}

pub round_but_next : RoundLaws → (rs : Rules) (c d : Configuration) → IsRuleSet rs → Sound rs c → HasNames d → SameButNext c d → SameButNext (round rs.rules c) (round rs.rules d)
round_but_next laws rs c d set sound named s =
    settled_but_next laws (fired rs.rules c) (fired rs.rules d) (fired_sound rs c set sound).named (fired_but_next laws rs c d set sound named s)

pub iterate_sound : (rs : Rules) (n : ℕ) (c : Configuration) → IsRuleSet rs → Sound rs c → Sound rs (iterate rs.rules n c)
iterate_sound rs zero c set sound = sound
iterate_sound rs (suc n) c set sound = round_sound rs (iterate rs.rules n c) set (iterate_sound rs n c set sound)

pub rounds_but_next : RoundLaws → (rs : Rules) (n : ℕ) (c d : Configuration) → IsRuleSet rs → Sound rs c → HasNames d → SameButNext c d → SameButNext (iterate rs.rules n c) (iterate rs.rules n d)
rounds_but_next laws rs zero c d set sound named s = s
rounds_but_next laws rs (suc n) c d set sound named s =
    let also : Sound rs d = record { over = over_too rs c d s sound.over; named = named } in
    round_but_next laws rs (iterate rs.rules n c) (iterate rs.rules n d) set (iterate_sound rs n c set sound) (iterate_sound rs n d set also).named (rounds_but_next laws rs n c d set sound named s)
