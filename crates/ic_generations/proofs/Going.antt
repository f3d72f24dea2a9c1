-- Lemmas: a generation goes on until none of its equations is left, and then has made the net in which all of them have fired at once.
use Rattle.std.proofs.Common.{◌≡◌, ◌⊎◌, ℕ, ◌+◌, ◌≤◌, ◌<◌, List, [], ◌∷◌, ◌++◌, true, None, max, is_none, refl, sym, ap, ◌∙◌, append-nil, arith, inl, inr, subst as transport}
use Rattle.std.proofs.lemmas.Bool.{cases_lt, and_parts}
use Rattle.std.proofs.lemmas.List.Folds.{list_all-append}
use Rattle.std.proofs.lemmas.List.Sorted.{IsPermutation-trans, IsPermutation-append_left, IsPermutation-append_comm}
use Rattle.std.specs.Prelude.{IsPermutation}
use Rattle.std.specs.List.{AllByRecursion, flat_map, list_all}
use Rattle.std.specs.Option.{option_map_or}
use Rattle.ic_term.specs.Tree.{Tree, names, Pair}
use Rattle.ic_term.specs.Configuration.{Configuration, configuration_names, names_in, occurrences, one_above}
use Rattle.ic_term.specs.Symbol.{is_over, is_tree_over, is_pair_over}
use Rattle.ic_rules.specs.Rule.{Rule}
use Rattle.ic_rules.specs.RuleSet.{Rules, IsRuleSet}
use Rattle.ic_settle.specs.NameSteps.{NameSteps, no_step}
use Rattle.ic_settle.specs.lemmas.Reached.{settled_steps}
use Rattle.ic_settle.specs.lemmas.SubstitutionLaws.{and_both}
use Rattle.ic_round.specs.Firing.{Active, active_pair, products_by, count_of, names_taken, fired_pair, fired_from, next_after, fired}
use Rattle.ic_round.specs.Naming.{HasNames}
use Rattle.ic_round.specs.Rounds.{round}
use Rattle.ic_round.specs.lemmas.FreshNames.{absent_above}
use Rattle.ic_round.specs.lemmas.FiredNames.{All-mono}
use Rattle.ic_confluence.specs.Sameness.{Same}
use Rattle.ic_confluence.specs.lemmas.Counts.{All_from, below_next, in_configuration}
use Rattle.ic_confluence.specs.lemmas.Equivalence.{Same-refl}
use Rattle.ic_confluence.specs.lemmas.Over.{same_over}
use Rattle.ic_confluence.specs.lemmas.Replacing.{in_both}
use Rattle.ic_reaching.specs.Beside.{beside, IsApart}
use Rattle.ic_reaching.specs.FreshNames.{products_with, AreFresh, Fires}
use Rattle.ic_reaching.specs.OneNet.{OneNet, SameButNext}
use Rattle.ic_reaching.specs.lemmas.Orders.{permuted, permuted_counts}
use Rattle.ic_generations.specs.Generations.{Generation, whole, without_now, OneFires, OnePasses, RestChanges, Goes, ended, fires, passes, changes}
use Rattle.ic_generations.proofs.Given.{Sound, NetLaws, FiringLaws}
use Rattle.ic_generations.proofs.Fired.{count_in, made_of, fired_among, in_whole, fired_older}
use Rattle.ic_generations.proofs.Lists.{behind, behind_too}
use Rattle.ic_generations.proofs.InTurn.{one_fires, fired_is}
use Rattle.ic_generations.proofs.Anywhere.{RoundLaws, any_base, fired_but_next, fired_sound, over_too}
use Rattle.ic_generations.proofs.Settling.{how_many, steps_fire, steps_sound}
use Rattle.ic_generations.proofs.Aside.{PartsOver, fired_in_order, fired_names}

-- what the laws below say of one net
pub record GenerationLaws : Type 0 where
  pub rounds : RoundLaws
  pub next : (c : Configuration) (next : ℕ) → SameButNext c (record c { next = next })
  pub other_way : (c d : Configuration) → OneNet c d → OneNet d c
  pub in_turn : (c d e : Configuration) → OneNet c d → OneNet d e → OneNet c e
  pub over : (rs : Rules) (c d : Configuration) → IsRuleSet rs → Sound rs c → OneNet c d → is_over rs.symbols d ≡ true
  pub beside : (c d : Configuration) (ts : List Tree) (es : List Pair) → OneNet c d → HasNames (beside c ts es) → IsApart d ts es → OneNet (beside c ts es) (beside d ts es)

-- ---- one net

from_but_next : (c d : Configuration) → HasNames c → HasNames d → SameButNext c d → OneNet c d
from_but_next c d named also s = record { names = named; names_too = also; end = c; end_too = d; steps = no_step c; steps_too = no_step d; same = s }

from_steps : NetLaws → (c d : Configuration) → HasNames c → HasNames d → NameSteps c d → OneNet c d
from_steps laws c d named also steps = record { names = named; names_too = also; end = d; end_too = d; steps = steps; steps_too = no_step d; same = laws.same d d (Same-refl d) }

-- ---- a generation with all its equations fired

abbrev pub at_once : List Rule → Generation → Configuration
at_once rs g = fired_among rs g.interface g.now g.rest g.next

parts_over : (rs : Rules) (ts : List Tree) (now rest : List Pair) (next : ℕ) → is_over rs.symbols (made_of ts now rest next) ≡ true → PartsOver rs ts now rest
parts_over rs ts now rest next over =
    let ss = rs.symbols in
    let all = and_parts (list_all (is_tree_over ss) ts) (list_all (is_pair_over ss) (now ++ rest)) over in
    let both = and_parts (list_all (is_pair_over ss) now) (list_all (is_pair_over ss) rest) (sym (list_all-append (is_pair_over ss) now rest) ∙ all.1) in
    record { terms = all.0; now_over = both.0; rest_over = both.1 }

once_names : (rs : Rules) (g : Generation) → IsRuleSet rs → Sound rs (whole g) → HasNames (at_once rs.rules g)
once_names rs g set sound = fired_names rs g.interface g.now g.rest g.next set (parts_over rs g.interface g.now g.rest g.next sound.over) sound.named

-- ---- an equation fires, or has no rule

abbrev pub Onward : Rules → Generation → Generation → Type 0
Onward rs g h = SameButNext (at_once rs.rules g) (at_once rs.rules h) × Sound rs (whole h)

fires_so : FiringLaws → (rs : Rules) (g h : Generation) (rule : ℕ) → IsRuleSet rs → Sound rs (whole g) → OneFires rs.rules g h rule → Onward rs g h
fires_so laws rs g h rule set sound s =
    let nets = laws.nets in
    let rules = rs.rules in
    let ts = g.interface in
    let p = s.equation in
    let a = s.active in
    let out = products_with rules s.names a in
    let over = parts_over rs ts g.now g.rest g.next sound.over in
    let ordered = fired_in_order laws rs ts g.now (p ∷ s.later) g.rest g.next set over sound.named s.given in
    let front = made_of ts (p ∷ s.later) g.rest g.next in
    let turn : IsPermutation (g.now ++ g.rest) (p ∷ (s.later ++ g.rest)) = IsPermutation-append_left g.rest g.now (p ∷ s.later) s.given in
    let alike : Same (whole g) front = permuted (whole g) (p ∷ (s.later ++ g.rest)) turn in
    let named = nets.names (whole g) front alike sound.named in
    let front_over = parts_over rs ts (p ∷ s.later) g.rest g.next (same_over rs.symbols (whole g) front alike sound.over) in
    let P : ℕ → Type 0 = λ i. AreFresh (whole g) (count_of rules i) h.next s.names in
    let given = transport P (sym s.by_rule) s.fresh in
    let counts = λ (n : ℕ). permuted_counts (g.now ++ g.rest) (p ∷ (s.later ++ g.rest)) turn n in
    let fresh : AreFresh front (count_of rules a.rule) h.next s.names = record {
      absent = λ k low.
          let none = given.absent k low in
          let before = in_configuration (s.names k) ts (g.now ++ g.rest) in
          let after = in_configuration (s.names k) ts (p ∷ (s.later ++ g.rest)) in
          let equal = counts (s.names k) in
          omega (arith, none, before, after, equal);
      apart = given.apart;
      below = given.below;
    } in
    let one = one_fires nets rs set ts p s.later g.rest g.next a s.names h.next front_over.now_over named s.has_rule fresh s.higher in
    let end = fired_among rules ts s.later (out ++ g.rest) h.next in
    let arrives : end ≡ at_once rules h = λ i. fired_among rules (sym s.interface i) (sym s.now i) (sym s.rest i) h.next in
    let step : Fires rules (whole g) (made_of ts s.later (out ++ g.rest) h.next) rule = record {
      equation = p;
      others = s.later ++ g.rest;
      active = a;
      names = s.names;
      given = turn;
      has_rule = s.has_rule;
      by_rule = s.by_rule;
      fresh = s.fresh;
      higher = s.higher;
      interface = refl;
      equations = behind_too out s.later g.rest;
    } in
    let there : made_of ts s.later (out ++ g.rest) h.next ≡ whole h = λ i. made_of (sym s.interface i) (sym s.now i) (sym s.rest i) h.next in (
      nets.through (at_once rules g) (fired_among rules ts (p ∷ s.later) g.rest g.next) (at_once rules h)
          (nets.same (at_once rules g) (fired_among rules ts (p ∷ s.later) g.rest g.next) ordered)
          (transport (SameButNext (fired_among rules ts (p ∷ s.later) g.rest g.next)) arrives one),
      transport (Sound rs) there (laws.sound rs (whole g) (made_of ts s.later (out ++ g.rest) h.next) rule set sound step),
    )

-- an equation that isn't active, fired and not fired
passed_on : (rs : List Rule) (ts : List Tree) (p : Pair) (later rest : List Pair) (next : ℕ) → active_pair rs p ≡ None → Same (fired_among rs ts (p ∷ later) rest next) (fired_among rs ts later (p ∷ rest) next)
passed_on rs ts p later rest next none =
    let own : fired_pair rs next p ≡ p ∷ [] = ap (λ o. option_map_or (products_by rs next) o (p ∷ [])) none in
    let taken : names_taken rs p ≡ 0 = ap (λ o. option_map_or (λ (a : Active). count_of rs a.rule) o 0) none in
    let stays : next + names_taken rs p ≡ next = omega (arith, taken) in
    let others = fired_from rs next later in
    let is : fired_among rs ts (p ∷ later) rest next ≡ record { interface = ts; equations = ((p ∷ []) ++ others) ++ rest; next = next_after rs next later } =
    λ i. record { interface = ts; equations = (own i ++ fired_from rs (stays i) later) ++ rest; next = next_after rs (stays i) later } in
    transport (λ z. Same z (fired_among rs ts later (p ∷ rest) next)) (sym is)
    (permuted (record { interface = ts; equations = ((p ∷ []) ++ others) ++ rest; next = next_after rs next later }) (others ++ p ∷ rest) (behind (p ∷ []) others rest))

to_rest : (now later : List Pair) (p : Pair) (rest : List Pair) → IsPermutation now (p ∷ later) → IsPermutation (now ++ rest) (later ++ p ∷ rest)
to_rest now later p rest given =
    IsPermutation-trans (now ++ rest) ((p ∷ later) ++ rest) (later ++ p ∷ rest) (IsPermutation-append_left rest now (p ∷ later) given) (behind (p ∷ []) later rest)

passes_so : FiringLaws → (rs : Rules) (g h : Generation) → IsRuleSet rs → Sound rs (whole g) → OnePasses rs.rules g h → Onward rs g h
passes_so laws rs g h set sound s =
    let nets = laws.nets in
    let rules = rs.rules in
    let ts = g.interface in
    let p = s.equation in
    let over = parts_over rs ts g.now g.rest g.next sound.over in
    let ordered = fired_in_order laws rs ts g.now (p ∷ s.later) g.rest g.next set over sound.named s.given in
    let end : Generation = record { interface = ts; now = s.later; rest = p ∷ g.rest; next = g.next } in
    let one = passed_on rules ts p s.later g.rest g.next s.no_rule in
    let middle = fired_among rules ts (p ∷ s.later) g.rest g.next in
    let turn = to_rest g.now s.later p g.rest s.given in
    let alike : Same (whole g) (whole end) = permuted (whole g) (s.later ++ p ∷ g.rest) turn in
    let both : Onward rs g end = (
      nets.through (at_once rules g) middle (at_once rules end) (nets.same (at_once rules g) middle ordered) (nets.same middle (at_once rules end) one),
      record { over = same_over rs.symbols (whole g) (whole end) alike sound.over; named = nets.names (whole g) (whole end) alike sound.named },
    ) in
    transport (Onward rs g) (sym s.result) both

-- ---- the rest changes

below_one_above : (n : ℕ) (ns : List ℕ) → AllByRecursion (λ m. m < one_above ns) ns
below_one_above n [] = tt
below_one_above n (m ∷ ns) =
    ((let h : m < max (m + 1) (one_above ns) = omega arith in h), All-mono (λ k. k < one_above ns) (λ k. k < max (m + 1) (one_above ns)) (λ k low. let h : k < max (m + 1) (one_above ns) = omega (arith, low) in h) ns (below_one_above n ns))

below_top : (n : ℕ) (ns : List ℕ) → 1 ≤ occurrences n ns → n < one_above ns
below_top n ns some = elim (cases_lt n (one_above ns)) [
  | inl low ↦ low
  | inr high ↦ let none = absent_above n (one_above ns) ns (below_one_above n ns) high in absurd (omega (arith, none, some))
]

-- a part with other equations beside it is all of them together
beside_is : GenerationLaws → (c : Configuration) (es : List Pair) (next : ℕ) → SameButNext (beside c [] es) (made_of c.interface es c.equations next)
beside_is laws c es next =
    let nets = laws.rounds.firing.nets in
    let start = beside c [] es in
    let ordered : Configuration = record { interface = c.interface ++ []; equations = es ++ c.equations; next = start.next } in
    let placed : Configuration = record { interface = c.interface ++ []; equations = es ++ c.equations; next = next } in
    let same = permuted start (es ++ c.equations) (IsPermutation-append_comm c.equations es) in
    let P : List Tree → Type 0 = λ ts. SameButNext start (record { interface = ts; equations = es ++ c.equations; next = next }) in
    transport P (append-nil c.interface) (nets.through start ordered placed (nets.same start ordered same) (laws.next ordered next))

beside_counts : (c : Configuration) (es : List Pair) (n : ℕ) → occurrences n (configuration_names (beside c [] es)) ≡ occurrences n (configuration_names c) + count_in n es
beside_counts c es n =
    let all = in_configuration n (c.interface ++ []) (c.equations ++ es) in
    let both = in_both n c.equations es in
    let terms = ap (λ ts. occurrences n (flat_map names ts)) (append-nil c.interface) in
    let own = in_configuration n c.interface c.equations in
    omega (arith, all, both, terms, own)

beside_names : (c : Configuration) (es : List Pair) → HasNames c → ((n : ℕ) → occurrences n (configuration_names c) + count_in n es ≤ 2) → HasNames (beside c [] es)
beside_names c es named few = record {
  below = All_from (λ n. n < (beside c [] es).next) (configuration_names (beside c [] es)) (λ n some. by n some (cases_lt 0 (occurrences n (configuration_names c))));
  twice = λ n. let counts = beside_counts c es n in let two = few n in omega (arith, counts, two);
}
  where
    by : (n : ℕ) → 1 ≤ occurrences n (configuration_names (beside c [] es)) → (0 < occurrences n (configuration_names c)) ⊎ (occurrences n (configuration_names c) ≤ 0) → n < max c.next (one_above (names_in [] es))
    by n some (inl here) = let low = below_next c named n (omega (arith, here)) in omega (arith, low)
    by n some (inr none) =
        let counts = beside_counts c es n in
        let split = in_configuration n [] es in
        let nothing : occurrences n (flat_map names []) ≡ 0 = refl in
        let low = below_top n (names_in [] es) (omega (arith, split, nothing, counts, some, none)) in
        omega (arith, low)

module _ (laws : GenerationLaws) (rs : Rules) (set : IsRuleSet rs) (g h : Generation) (sound : Sound rs (whole g)) (s : RestChanges g h) where
  abbrev top : ℕ
  top = g.next + h.next

  abbrev out : List Pair
  out = fired_from rs.rules top g.now

  over : PartsOver rs g.interface g.now g.rest
  over = parts_over rs g.interface g.now g.rest g.next sound.over

  part_sound : Sound rs (without_now g)
  part_sound = record { over = and_both over.terms over.rest_over; named = s.net.names }

  part_over : is_over rs.symbols (without_now h) ≡ true
  part_over = laws.over rs (without_now g) (without_now h) set part_sound s.net

  -- what is left to fire, with the other rest
  named_too : HasNames (made_of h.interface g.now h.rest h.next)
  named_too = transport (λ (l : List Pair). HasNames (made_of h.interface l h.rest h.next)) s.now s.names

  over_too_parts : PartsOver rs h.interface g.now h.rest
  over_too_parts =
      let both = and_parts (list_all (is_tree_over rs.symbols) h.interface) (list_all (is_pair_over rs.symbols) h.rest) part_over in
      record { terms = both.0; now_over = over.now_over; rest_over = both.1 }

  pub changed_sound : Sound rs (whole h)
  changed_sound =
      let ss = rs.symbols in
      let all = over_too_parts in
      let now_over = ap (list_all (is_pair_over ss)) s.now ∙ all.now_over in
      record { over = and_both all.terms (list_all-append (is_pair_over ss) h.now h.rest ∙ (rw (now_over, all.rest_over) refl)); named = s.names }

  one_part : SameButNext (at_once rs.rules g) (beside (without_now g) [] out)
  one_part =
      let nets = laws.rounds.firing.nets in
      let moved = any_base rs g.interface g.now g.rest g.next top set over.now_over sound.named (omega arith) in
      let there = fired_among rs.rules g.interface g.now g.rest top in
      nets.through (at_once rs.rules g) there (beside (without_now g) [] out) moved
      (nets.other_way (beside (without_now g) [] out) there (beside_is laws (without_now g) out (next_after rs.rules top g.now)))

  other_part : SameButNext (fired_among rs.rules h.interface g.now h.rest h.next) (beside (without_now h) [] out)
  other_part =
      let nets = laws.rounds.firing.nets in
      let moved = any_base rs h.interface g.now h.rest h.next top set over.now_over named_too (omega arith) in
      let there = fired_among rs.rules h.interface g.now h.rest top in
      nets.through (fired_among rs.rules h.interface g.now h.rest h.next) there (beside (without_now h) [] out) moved
      (nets.other_way (beside (without_now h) [] out) there (beside_is laws (without_now h) out (next_after rs.rules top g.now)))

  -- the equations that fire, from high above all names
  out_names : (c : Generation) → HasNames (made_of c.interface g.now c.rest c.next) → PartsOver rs c.interface g.now c.rest → c.next ≤ top → HasNames (fired_among rs.rules c.interface g.now c.rest top)
  out_names c named all high =
      let higher : HasNames (made_of c.interface g.now c.rest top) = record {
        below = All-mono (λ n. n < c.next) (λ n. n < top) (λ n low. let h : n < top = omega (arith, low, high) in h) (configuration_names (made_of c.interface g.now c.rest c.next)) named.below;
        twice = named.twice;
      } in
      fired_names rs c.interface g.now c.rest top set all higher

  part_names : (c : Generation) → HasNames (without_now c) → HasNames (fired_among rs.rules c.interface g.now c.rest top) → HasNames (beside (without_now c) [] out)
  part_names c own named = beside_names (without_now c) out own (λ n.
      let two = named.twice n in
      let all = in_whole n c.interface out c.rest (next_after rs.rules top g.now) in
      let part = in_configuration n c.interface c.rest in
      omega (arith, two, all, part))

  apart : IsApart (without_now h) [] out
  apart = record { once = λ n some. by n some (cases_lt n top) }
    where
      by : (n : ℕ) → 1 ≤ occurrences n (names_in [] out) → (n < top) ⊎ (top ≤ n) → occurrences n (configuration_names (without_now h)) ≤ 1
      by n some (inl low) =
          let split = in_configuration n [] out in
          let nothing : occurrences n (flat_map names []) ≡ 0 = refl in
          let older = fired_older rs top n g.now set over.now_over low in
          let two = named_too.twice n in
          let all = in_whole n h.interface g.now h.rest h.next in
          let part = in_configuration n h.interface h.rest in
          omega (arith, some, split, nothing, older, two, all, part)
      by n some (inr high) =
          let none = absent_above n h.next (configuration_names (without_now h)) s.net.names_too.below (omega (arith, high)) in
          omega (arith, none)

  pub changes_so : OneNet (at_once rs.rules g) (at_once rs.rules h)
  changes_so =
      let one = without_now g in
      let other = without_now h in
      let here = once_names rs g set sound in
      let there = fired_names rs h.interface g.now h.rest h.next set over_too_parts named_too in
      let beside_one = part_names g s.net.names (out_names g sound.named over (omega arith)) in
      let beside_other = part_names h s.net.names_too (out_names h named_too over_too_parts (omega arith)) in
      let framed = laws.beside one other [] out s.net beside_one apart in
      let end = fired_among rs.rules h.interface g.now h.rest h.next in
      let to = from_but_next (at_once rs.rules g) (beside one [] out) here beside_one one_part in
      let back = laws.other_way end (beside other [] out) (from_but_next end (beside other [] out) there beside_other other_part) in
      let net = laws.in_turn (at_once rs.rules g) (beside one [] out) end to (laws.in_turn (beside one [] out) (beside other [] out) end framed back) in
      transport (λ (l : List Pair). OneNet (at_once rs.rules g) (fired_among rs.rules h.interface l h.rest h.next)) (sym s.now) net

-- ---- to the end

pub goes_so : GenerationLaws → (rs : Rules) (rules : List ℕ) (g e : Generation) → IsRuleSet rs → Sound rs (whole g) → Goes rs.rules rules g e → OneNet (at_once rs.rules g) (at_once rs.rules e) × Sound rs (whole e)
goes_so laws rs rules g e set sound (ended x) =
    let named = once_names rs x set sound in
    (from_steps laws.rounds.firing.nets (at_once rs.rules x) (at_once rs.rules x) named named (no_step (at_once rs.rules x)), sound)
goes_so laws rs rules g e set sound (fires rule more x y z step later) =
    let one = fires_so laws.rounds.firing rs x y rule set sound step in
    let rest = goes_so laws rs more y z set one.1 later in
    let net = from_but_next (at_once rs.rules x) (at_once rs.rules y) (once_names rs x set sound) (once_names rs y set one.1) one.0 in
    (laws.in_turn (at_once rs.rules x) (at_once rs.rules y) (at_once rs.rules z) net rest.0, rest.1)
goes_so laws rs rules g e set sound (passes more x y z step later) =
    let one = passes_so laws.rounds.firing rs x y set sound step in
    let rest = goes_so laws rs more y z set one.1 later in
    let net = from_but_next (at_once rs.rules x) (at_once rs.rules y) (once_names rs x set sound) (once_names rs y set one.1) one.0 in
    (laws.in_turn (at_once rs.rules x) (at_once rs.rules y) (at_once rs.rules z) net rest.0, rest.1)
goes_so laws rs rules g e set sound (changes more x y z step later) =
    let also = changed_sound laws rs set x y sound step in
    let rest = goes_so laws rs more y z set also later in
    (laws.in_turn (at_once rs.rules x) (at_once rs.rules y) (at_once rs.rules z) (changes_so laws rs set x y sound step) rest.0, rest.1)

abbrev Done : List Rule → Generation → List Pair → Type 0
Done rs e now = fired_among rs e.interface now e.rest e.next ≡ made_of e.interface now e.rest e.next

pub generation_fires : GenerationLaws → (rs : Rules) (rules : List ℕ) (g e : Generation) → IsRuleSet rs → Sound rs (whole g) → list_all (λ p. is_none (active_pair rs.rules p)) g.rest ≡ true → Goes rs.rules rules g e → e.now ≡ []
    → OneNet (fired rs.rules (whole g)) (whole e)
generation_fires laws rs rules g e set sound inert steps empty =
    let net = (goes_so laws rs rules g e set sound steps).0 in
    let start = fired_is rs.rules g.interface g.now g.rest g.next inert in
    let over : Done rs.rules e e.now = transport (Done rs.rules e) (sym empty) refl in
    transport (OneNet (fired rs.rules (whole g))) over (transport (λ z. OneNet z (at_once rs.rules e)) (sym start) net)

-- name steps that make no equation active, before the generation begins
pub generation_is_round : GenerationLaws → (rs : Rules) (rules : List ℕ) (g e : Generation) (c d : Configuration) → IsRuleSet rs → Sound rs (whole g) → list_all (λ p. is_none (active_pair rs.rules p)) g.rest ≡ true
    → Goes rs.rules rules g e → e.now ≡ [] → NameSteps (whole g) c → how_many rs.rules c.equations ≡ how_many rs.rules (whole g).equations → SameButNext c d → HasNames d → OneNet (round rs.rules d) (whole e)
generation_is_round laws rs rules g e c d set sound inert steps empty names same s named =
    let nets = laws.rounds.firing.nets in
    let all = rs.rules in
    let net = generation_fires laws rs rules g e set sound inert steps empty in
    let sound_c = steps_sound rs (whole g) c set sound names in
    let sound_d : Sound rs d = record { over = over_too rs c d s sound_c.over; named = named } in
    let fired_g = fired_sound rs (whole g) set sound in
    let fired_c = fired_sound rs c set sound_c in
    let fired_d = fired_sound rs d set sound_d in
    let settled_d = steps_sound rs (fired all d) (round all d) set fired_d (settled_steps (fired all d)) in
    let one = from_steps nets (fired all (whole g)) (fired all c) fired_g.named fired_c.named (steps_fire rs (whole g) c set sound names same) in
    let two = from_but_next (fired all c) (fired all d) fired_c.named fired_d.named (fired_but_next laws.rounds rs c d set sound_c named s) in
    let three = from_steps nets (fired all d) (round all d) fired_d.named settled_d.named (settled_steps (fired all d)) in
    let back = laws.other_way (fired all (whole g)) (round all d) (laws.in_turn (fired all (whole g)) (fired all c) (round all d) one (laws.in_turn (fired all c) (fired all d) (round all d) two three)) in
    laws.in_turn (round all d) (fired all (whole g)) (whole e) back net
