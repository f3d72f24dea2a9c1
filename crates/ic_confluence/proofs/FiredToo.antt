-- Lemmas: configurations of one net are one net with all active equations fired, settled, and after rounds.
use Rattle.std.proofs.Common.{◌≡◌, ℕ, zero, suc, ◌+◌, ◌≤◌, ◌<◌, List, [], ◌∷◌, ◌++◌, true, Option, None, Some, map, refl, sym, ap, ◌∙◌, append_assoc, append-nil, arith, inl, inr, subst as transport}
use Rattle.std.proofs.lemmas.Bool.{and_parts}
use Rattle.std.proofs.lemmas.List.{map-append}
use Rattle.std.specs.List.{flat_map, list_all}
use Rattle.std.specs.Option.{option_map, option_map_or}
use Rattle.ic_term.specs.Tree.{Tree, names, Pair, pair_names}
use Rattle.ic_term.specs.Configuration.{Configuration, configuration_names, occurrences}
use Rattle.ic_term.specs.Symbol.{is_over, is_tree_over, is_pair_over}
use Rattle.ic_rules.specs.Renaming.{renamed}
use Rattle.ic_rules.specs.Rule.{Rule}
use Rattle.ic_rules.specs.RuleSet.{Rules, IsRuleSet}
use Rattle.ic_settle.specs.Settling.{settled}
use Rattle.ic_settle.specs.NameSteps.{NameStep}
use Rattle.ic_round.specs.Firing.{Active, oriented, rule_of_sides, active_pair, products_by, count_of, names_taken, fired_pair, fired_from, next_after, fired}
use Rattle.ic_round.specs.Naming.{HasNames}
use Rattle.ic_round.specs.Rounds.{round, iterate}
use Rattle.ic_round.specs.Steps.{Steps}
use Rattle.ic_round.specs.lemmas.ChainLemmas.{steps-over, steps-names}
use Rattle.ic_round.specs.lemmas.StepsLemmas.{iterate_reached}
use Rattle.ic_confluence.specs.Sameness.{turned, Alike, itself, exchanged, rotated, in_turn, Rearranged, nothing, kept, swapped, one_by_one, renamed_pair, renamed_in, Renames, Same, renaming, rearranging, through}
use Rattle.ic_confluence.specs.lemmas.Counts.{in_configuration, in_more, below_next}
use Rattle.ic_confluence.specs.lemmas.Equivalence.{Rearranged-refl, Same-refl, Same-sym, same_equations}
use Rattle.ic_confluence.specs.lemmas.Replacing.{in_both}
use Rattle.ic_confluence.proofs.Moving.{same_names}
use Rattle.ic_settle.specs.lemmas.Reached.{settled_steps, settled_ends}
use Rattle.ic_confluence.proofs.Strip.{Chain as Way, chain_too, good_chain}
use Rattle.ic_confluence.proofs.NameOrder.{Labelled, name_laws, way_of, steps_of, settles_so, step_too}
use Rattle.ic_confluence.specs.lemmas.Actives.{HasRule, has_rule, count_is, renamed_active, renamed_products, oriented_renamed, sides_renamed}
use Rattle.ic_confluence.proofs.Firings.{Sound}
use Rattle.ic_confluence.proofs.TwoFirings.{block, block_low, block_high, block_first, block_second, block_back, renamed_terms_stay, renamed_pairs_stay, active_stays}
use Rattle.ic_confluence.proofs.Mirrored.{turned_active, turn_active, Mirrors, mirrors, mirrored_from, from_low, mirrored_from_back, mirrored_from_fresh, mirrored_products}
use Rattle.ic_confluence.proofs.FiringToo.{same_sound, arranged_after, arranged_before, arranged_comm, other_products, other_arranged}
use Rattle.ic_confluence.proofs.FireFirst.{taken, after_is, renamed_found, renamed_fired, among, fire_part, free_since, over_both}

-- ---- settled

no_step_left : (c d : Configuration) → HasNames c → Same c d → ((f : Configuration) → NameStep c f → ⊥) → (f : Configuration) → NameStep d f → ⊥
no_step_left c d named same none f step = let back = step_too d c f (same_names c d same named) (Same-sym c d same) step in none back.0 back.1

names_still : (c d : Configuration) → HasNames c → (ls : List ℕ) → (w : Way ℕ Configuration HasNames Labelled Same name_laws ls c d) → HasNames d
names_still c d named ls w = good_chain ℕ Configuration HasNames Labelled Same name_laws ls c d named w

pub settled_too : (c d : Configuration) → HasNames c → Same c d → Same (settled c) (settled d)
settled_too c d named same =
    let whole = way_of c (settled c) (settled_steps c) in
    let moved = chain_too ℕ Configuration HasNames Labelled Same name_laws whole.0 c d (settled c) named same whole.1 in
    let named_end = names_still c (settled c) named whole.0 whole.1 in
    let none = no_step_left (settled c) moved.0 named_end moved.2 (settled_ends c) in
    through (settled c) moved.0 (settled d) moved.2
    (settles_so d moved.0 (same_names c d same named) (steps_of whole.0 d moved.0 moved.1) none)

-- ---- some equations to be fired after others

-- before they are fired, and once they are
abbrev before : List Tree → List Pair → List Pair → ℕ → Configuration
before ts done es base = record { interface = ts; equations = done ++ es; next = base }

abbrev after : List Rule → List Tree → List Pair → List Pair → ℕ → Configuration
after rs ts done es base = record { interface = ts; equations = done ++ fired_from rs base es; next = next_after rs base es }

they_fire : (rs : List Rule) (ts : List Tree) (done es : List Pair) (base : ℕ) → Steps rs (before ts done es base) (after rs ts done es base)
they_fire rs ts done es base =
    let P : List Pair → Type 0 = λ l. Steps rs (record { interface = ts; equations = done ++ l; next = base }) (after rs ts done es base) in
    let Q : List Pair → Type 0 = λ l. Steps rs (among ts done es [] base) (record { interface = ts; equations = done ++ l; next = next_after rs base es }) in
    transport P (append-nil es) (transport Q (append-nil (fired_from rs base es)) (fire_part rs ts done es [] base))

one_fires : (rs : List Rule) (ts : List Tree) (done : List Pair) (p : Pair) (es : List Pair) (base : ℕ)
    → Steps rs (before ts done (p ∷ es) base) (before ts (done ++ fired_pair rs base p) es (base + names_taken rs p))
one_fires rs ts done p es base =
    let out = fired_pair rs base p in
    let P : List Pair → Type 0 = λ l. Steps rs (before ts done (p ∷ es) base) (record { interface = ts; equations = l; next = base + names_taken rs p }) in
    transport P (ap (λ l. done ++ (l ++ es)) (append-nil out) ∙ sym (append_assoc done out es)) (fire_part rs ts done (p ∷ []) es base)

sound_after : (rs : Rules) (c d : Configuration) → IsRuleSet rs → Sound rs c → Steps rs.rules c d → Sound rs d
sound_after rs c d set sound steps = record { over = steps-over rs c d set sound.over steps; named = steps-names rs c d set sound.over sound.named steps }

-- a renaming that leaves what was there leads to the same net
record Stays (c : Configuration) (top : ℕ) : Type 0 where
  to : ℕ → ℕ
  from : ℕ → ℕ
  there_and_back : (n : ℕ) → from (to n) ≡ n
  back_and_there : (n : ℕ) → to (from n) ≡ n
  low : (n : ℕ) → n < c.next → to n ≡ n
  high : (n : ℕ) → top ≤ n → to n ≡ n

stays_same : (rs : Rules) (c d : Configuration) → IsRuleSet rs → Sound rs c → Steps rs.rules c d → (f : Stays c d.next) → Same d (renamed_in f.to d)
stays_same rs c d set sound steps f = renaming d (renamed_in f.to d) (record {
  to = f.to;
  from = f.from;
  there_and_back = f.there_and_back;
  back_and_there = f.back_and_there;
  free = λ n once. f.low n (below_next c sound.named n (let before_once = free_since rs c d set sound.over sound.named steps n once in omega (arith, before_once)));
  fresh = f.high;
  result = refl;
})

-- what a configuration's parts have of a name
parts_of : (ts : List Tree) (done es : List Pair) (base n : ℕ) → occurrences n (configuration_names (before ts done es base))
    ≡ occurrences n (flat_map names ts) + (occurrences n (flat_map pair_names done) + occurrences n (flat_map pair_names es))
parts_of ts done es base n =
    let whole = in_configuration n ts (done ++ es) in
    let both = in_both n done es in
    omega (arith, whole, both)

over_equations : (rs : Rules) (ts : List Tree) (done es : List Pair) (base : ℕ) → Sound rs (before ts done es base) → list_all (is_pair_over rs.symbols) es ≡ true
over_equations rs ts done es base sound =
    (over_both rs done es (and_parts (list_all (is_tree_over rs.symbols) ts) (list_all (is_pair_over rs.symbols) (done ++ es)) sound.over).1).1

-- ---- two equations exchanged

module _ (rs : Rules) (set : IsRuleSet rs) (ts : List Tree) (done : List Pair) (p q : Pair) (es : List Pair) (base : ℕ) (sound : Sound rs (before ts done (p ∷ q ∷ es) base)) where
  abbrev taken_p : ℕ
  taken_p = names_taken rs.rules p

  abbrev taken_q : ℕ
  taken_q = names_taken rs.rules q

  abbrev exchange : ℕ → ℕ
  exchange = block base taken_p taken_q

  fixed : (n : ℕ) → 1 ≤ occurrences n (configuration_names (before ts done (p ∷ q ∷ es) base)) → exchange n ≡ n
  fixed n some = block_low base taken_p taken_q n (below_next (before ts done (p ∷ q ∷ es) base) sound.named n some)

  in_parts : (n : ℕ) → occurrences n (configuration_names (before ts done (p ∷ q ∷ es) base))
      ≡ occurrences n (flat_map names ts) + (occurrences n (flat_map pair_names done) + (occurrences n (pair_names p) + (occurrences n (pair_names q) + occurrences n (flat_map pair_names es))))
  in_parts n =
      let whole = parts_of ts done (p ∷ q ∷ es) base n in
      let first = in_more n p (q ∷ es) in
      let second = in_more n q es in
      omega (arith, whole, first, second)

  over_p : is_pair_over rs.symbols p ≡ true
  over_p = (and_parts (is_pair_over rs.symbols p) (list_all (is_pair_over rs.symbols) (q ∷ es)) (over_equations rs ts done (p ∷ q ∷ es) base sound)).0

  over_rest : list_all (is_pair_over rs.symbols) (q ∷ es) ≡ true
  over_rest = (and_parts (is_pair_over rs.symbols p) (list_all (is_pair_over rs.symbols) (q ∷ es)) (over_equations rs ts done (p ∷ q ∷ es) base sound)).1

  over_q : is_pair_over rs.symbols q ≡ true
  over_q = (and_parts (is_pair_over rs.symbols q) (list_all (is_pair_over rs.symbols) es) over_rest).0

  over_es : list_all (is_pair_over rs.symbols) es ≡ true
  over_es = (and_parts (is_pair_over rs.symbols q) (list_all (is_pair_over rs.symbols) es) over_rest).1

  same_top : base + taken_p + taken_q ≡ base + taken_q + taken_p
  same_top = omega arith

  abbrev later : List Pair
  later = fired_from rs.rules (base + taken_p + taken_q) es

  -- q after p, the blocks of names exchanged
  abbrev exchanged_net : Configuration
  exchanged_net = record {
    interface = ts;
    equations = done ++ (fired_pair rs.rules (base + taken_q) p ++ (fired_pair rs.rules base q ++ fired_from rs.rules (base + taken_q + taken_p) es));
    next = next_after rs.rules (base + taken_q + taken_p) es;
  }

  top_is : next_after rs.rules (base + taken_p + taken_q) es ≡ base + taken_p + taken_q + taken rs.rules es
  top_is = after_is rs.rules (base + taken_p + taken_q) es

  arrives : renamed_in exchange (after rs.rules ts done (p ∷ q ∷ es) base) ≡ exchanged_net
  arrives =
      let terms = renamed_terms_stay exchange ts (λ n some. fixed n (let all = in_parts n in omega (arith, all, some))) in
      let front = renamed_pairs_stay exchange done (λ n some. fixed n (let all = in_parts n in omega (arith, all, some))) in
      let one = renamed_found rs base (base + taken_q) p exchange (active_pair rs.rules p) set over_p refl (λ n some. fixed n (let all = in_parts n in omega (arith, all, some))) (λ j low. block_first base taken_p taken_q j low) in
      let other = renamed_found rs (base + taken_p) base q exchange (active_pair rs.rules q) set over_q refl (λ n some. fixed n (let all = in_parts n in omega (arith, all, some))) (λ j low. block_second base taken_p taken_q j low) in
      let rest = renamed_fired rs (base + taken_p + taken_q) (base + taken_q + taken_p) es exchange set over_es (λ n some. fixed n (let all = in_parts n in omega (arith, all, some)))
      (λ j low. block_high base taken_p taken_q (base + taken_p + taken_q + j) (omega arith) ∙ (let to : base + taken_p + taken_q + j ≡ base + taken_q + taken_p + j = omega arith in to)) in
      let g = renamed_pair exchange in
      let apart = map-append g done (fired_pair rs.rules base p ++ (fired_pair rs.rules (base + taken_p) q ++ later))
      ∙ ap (λ fs. map g done ++ fs) (map-append g (fired_pair rs.rules base p) (fired_pair rs.rules (base + taken_p) q ++ later)
      ∙ ap (λ fs. map g (fired_pair rs.rules base p) ++ fs) (map-append g (fired_pair rs.rules (base + taken_p) q) later)) in
      let equations = apart ∙ (λ i. front i ++ (one i ++ (other i ++ rest i))) in
      let tops = ap (λ n. next_after rs.rules n es) same_top in
      λ i. record { interface = terms i; equations = equations i; next = tops i }

  pub swapped_fire : Same (after rs.rules ts done (p ∷ q ∷ es) base) (after rs.rules ts done (q ∷ p ∷ es) base)
  swapped_fire =
      let start = before ts done (p ∷ q ∷ es) base in
      let end = after rs.rules ts done (p ∷ q ∷ es) base in
      let high = top_is in
      let P : Configuration → Type 0 = Same end in
      let moved = transport P arrives (stays_same rs start end set sound (they_fire rs.rules ts done (p ∷ q ∷ es) base) (record {
        to = exchange;
        from = block base taken_q taken_p;
        there_and_back = block_back base taken_p taken_q;
        back_and_there = block_back base taken_q taken_p;
        low = block_low base taken_p taken_q;
        high = λ n top. block_high base taken_p taken_q n (omega (arith, top, high));
      })) in
      let out = fired_pair rs.rules (base + taken_q) p in
      let more = fired_pair rs.rules base q in
      let rest = fired_from rs.rules (base + taken_q + taken_p) es in
      let Q : List Pair → Type 0 = λ fs. Rearranged fs (more ++ (out ++ rest)) in
      let R : List Pair → Type 0 = λ fs. Rearranged ((out ++ more) ++ rest) fs in
      let turn = transport Q (append_assoc out more rest) (transport R (append_assoc more out rest) (arranged_before (out ++ more) (more ++ out) rest (arranged_comm out more))) in
      through end exchanged_net (after rs.rules ts done (q ∷ p ∷ es) base) moved
      (same_equations exchanged_net (done ++ (more ++ (out ++ rest))) (arranged_after done (out ++ (more ++ rest)) (more ++ (out ++ rest)) turn))

-- ---- one equation turned round

-- the configuration after it, where this is found of the first equation
abbrev found_after : List Rule → List Tree → List Pair → Pair → List Pair → ℕ → Option Active → Configuration
found_after rs ts done p es base found = record {
  interface = ts;
  equations = done ++ (option_map_or (products_by rs base) found (p ∷ []) ++ fired_from rs (base + option_map_or (λ a. count_of rs a.rule) found 0) es);
  next = next_after rs (base + option_map_or (λ a. count_of rs a.rule) found 0) es;
}

is_after : (rs : List Rule) (ts : List Tree) (done : List Pair) (p : Pair) (es : List Pair) (base : ℕ) (found : Option Active) → active_pair rs p ≡ found
    → after rs ts done (p ∷ es) base ≡ found_after rs ts done p es base found
is_after rs ts done p es base found e = ap (found_after rs ts done p es base) e

alike_before : (ts : List Tree) (done : List Pair) (p q : Pair) (es : List Pair) (base : ℕ) → Alike p q → Same (before ts done (p ∷ es) base) (before ts done (q ∷ es) base)
alike_before ts done p q es base alike =
    same_equations (before ts done (p ∷ es) base) (done ++ q ∷ es) (arranged_after done (p ∷ es) (q ∷ es) (kept p q es es alike (Rearranged-refl es)))

inert_alike : (rs : List Rule) (ts : List Tree) (done : List Pair) (p q : Pair) (es : List Pair) (base : ℕ) → Alike p q → active_pair rs p ≡ None → active_pair rs q ≡ None
    → Same (after rs ts done (p ∷ es) base) (after rs ts done (q ∷ es) base)
inert_alike rs ts done p q es base alike e f =
    let rest = fired_from rs (base + 0) es in
    let P : Configuration → Type 0 = λ z. Same z (after rs ts done (q ∷ es) base) in
    let Q : Configuration → Type 0 = λ z. Same (found_after rs ts done p es base None) z in
    transport P (sym (is_after rs ts done p es base None e)) (transport Q (sym (is_after rs ts done q es base None f))
    (same_equations (found_after rs ts done p es base None) (done ++ q ∷ rest) (arranged_after done (p ∷ rest) (q ∷ rest) (kept p q rest rest alike (Rearranged-refl rest)))))

-- a rule of a symbol with itself, the other way round
module _ (rs : Rules) (set : IsRuleSet rs) (ts : List Tree) (done : List Pair) (p : Pair) (es : List Pair) (base : ℕ) (sound : Sound rs (before ts done (p ∷ es) base))
    (a : Active) (is : active_pair rs.rules p ≡ Some a) (turn : active_pair rs.rules (turned p) ≡ Some (turned_active a)) (h : HasRule rs.rules p a) (m : Mirrors h.rule) where
  abbrev mirror_names : ℕ → ℕ
  mirror_names = mirrored_from h.rule m base

  abbrev count : ℕ
  count = count_of rs.rules a.rule

  abbrev unfired : List Pair
  unfired = fired_from rs.rules (base + count) es

  -- the products as the mirror has them
  abbrev middle_net : Configuration
  middle_net = record { interface = ts; equations = done ++ (other_products rs.rules p a h base ++ unfired); next = next_after rs.rules (base + count) es }

  low_stays : (n : ℕ) → 1 ≤ occurrences n (configuration_names (before ts done (p ∷ es) base)) → mirror_names n ≡ n
  low_stays n some = from_low h.rule m base n (below_next (before ts done (p ∷ es) base) sound.named n some)

  part_names : (n : ℕ) → occurrences n (configuration_names (before ts done (p ∷ es) base))
      ≡ occurrences n (flat_map names ts) + (occurrences n (flat_map pair_names done) + (occurrences n (pair_names p) + occurrences n (flat_map pair_names es)))
  part_names n =
      let whole = parts_of ts done (p ∷ es) base n in
      let first = in_more n p es in
      omega (arith, whole, first)

  over_later : list_all (is_pair_over rs.symbols) es ≡ true
  over_later = (and_parts (is_pair_over rs.symbols p) (list_all (is_pair_over rs.symbols) es) (over_equations rs ts done (p ∷ es) base sound)).1

  high_stays : (n : ℕ) → base + count ≤ n → mirror_names n ≡ n
  high_stays n high = mirrored_from_fresh h.rule m h.is_rule base n (let names_of_rule = count_is rs.rules p a h in omega (arith, high, names_of_rule))

  turned_to_middle : renamed_in mirror_names (found_after rs.rules ts done (turned p) es base (Some (turned_active a))) ≡ middle_net
  turned_to_middle =
      let terms = renamed_terms_stay mirror_names ts (λ n some. low_stays n (let all = part_names n in omega (arith, all, some))) in
      let front = renamed_pairs_stay mirror_names done (λ n some. low_stays n (let all = part_names n in omega (arith, all, some))) in
      let own = active_stays rs.rules p a h mirror_names (λ n some. low_stays n (let all = part_names n in omega (arith, all, some))) in
      let out = mirrored_products rs.rules p a h m base own in
      let rest = renamed_fired rs (base + count) (base + count) es mirror_names set over_later (λ n some. low_stays n (let all = part_names n in omega (arith, all, some)))
      (λ j low. high_stays (base + count + j) (omega arith)) in
      let r = renamed_pair mirror_names in
      let apart = map-append r done (products_by rs.rules base (turned_active a) ++ unfired) ∙ ap (λ fs. map r done ++ fs) (map-append r (products_by rs.rules base (turned_active a)) unfired) in
      let equations = apart ∙ (λ i. front i ++ (out i ++ rest i)) in
      λ i. record { interface = terms i; equations = equations i; next = next_after rs.rules (base + count) es }

  pub mirrored_fire : Same (after rs.rules ts done (p ∷ es) base) (after rs.rules ts done (turned p ∷ es) base)
  mirrored_fire =
      let q = turned p in
      let b = turned_active a in
      let start = before ts done (q ∷ es) base in
      let end = found_after rs.rules ts done q es base (Some b) in
      let first = found_after rs.rules ts done p es base (Some a) in
      let sound_q = same_sound rs (before ts done (p ∷ es) base) start (alike_before ts done p q es base (exchanged p)) sound in
      let P : Configuration → Type 0 = Steps rs.rules start in
      let steps = transport P (is_after rs.rules ts done q es base (Some b) turn) (they_fire rs.rules ts done (q ∷ es) base) in
      let top = after_is rs.rules (base + count) es in
      let Q : Configuration → Type 0 = Same end in
      let moved = transport Q turned_to_middle (stays_same rs start end set sound_q steps (record {
        to = mirror_names;
        from = mirror_names;
        there_and_back = mirrored_from_back h.rule m base;
        back_and_there = mirrored_from_back h.rule m base;
        low = from_low h.rule m base;
        high = λ n high. high_stays n (omega (arith, high, top));
      })) in
      let out = products_by rs.rules base a in
      let mirror = other_products rs.rules p a h base in
      let here = same_equations first (done ++ (mirror ++ unfired)) (arranged_after done (out ++ unfired) (mirror ++ unfired) (arranged_before out mirror unfired (other_arranged rs.rules p a h base))) in
      let R : Configuration → Type 0 = λ z. Same z (after rs.rules ts done (q ∷ es) base) in
      let S : Configuration → Type 0 = λ z. Same first z in
      transport R (sym (is_after rs.rules ts done p es base (Some a) is)) (transport S (sym (is_after rs.rules ts done q es base (Some b) turn))
      (through first middle_net end here (Same-sym end middle_net moved)))

none_some : (a : Active) → None ≡ Some a → ⊥
none_some a e = cc

turned_fire : (rs : Rules) (set : IsRuleSet rs) (ts : List Tree) (done : List Pair) (p : Pair) (es : List Pair) (base : ℕ) → Sound rs (before ts done (p ∷ es) base)
    → (here there : Option Active) → active_pair rs.rules p ≡ here → active_pair rs.rules (turned p) ≡ there
    → Same (after rs.rules ts done (p ∷ es) base) (after rs.rules ts done (turned p ∷ es) base)
turned_fire rs set ts done p es base sound None None e f = inert_alike rs.rules ts done p (turned p) es base (exchanged p) e f
turned_fire rs set ts done p es base sound None (Some b) e f = elim (turn_active rs (turned p) b set f) [
  | inl g ↦ absurd (none_some b (sym e ∙ g))
  | inr g ↦ absurd (none_some (turned_active b) (sym e ∙ g.0))
]
turned_fire rs set ts done p es base sound (Some a) there e f = elim (turn_active rs p a set e) [
  | inl g ↦
      let same = is_after rs.rules ts done p es base (Some a) e ∙ sym (is_after rs.rules ts done (turned p) es base (Some a) g) in
      let P : Configuration → Type 0 = Same (after rs.rules ts done (p ∷ es) base) in
      transport P same (Same-refl (after rs.rules ts done (p ∷ es) base))
  | inr g ↦
      let over = over_equations rs ts done (p ∷ es) base sound in
      let h = has_rule rs p a set (and_parts (is_pair_over rs.symbols p) (list_all (is_pair_over rs.symbols) es) over).0 e in
      mirrored_fire rs set ts done p es base sound a e g.0 h (mirrors h.rule h.is_rule (g.1 h.rule h.there))
]

alike_fire : (rs : Rules) (set : IsRuleSet rs) (ts : List Tree) (done : List Pair) (p q : Pair) (es : List Pair) (base : ℕ) → Alike p q → Sound rs (before ts done (p ∷ es) base)
    → Same (after rs.rules ts done (p ∷ es) base) (after rs.rules ts done (q ∷ es) base)
alike_fire rs set ts done p q es base (itself r) sound = Same-refl (after rs.rules ts done (r ∷ es) base)
alike_fire rs set ts done p q es base (exchanged r) sound =
    turned_fire rs set ts done r es base sound (active_pair rs.rules r) (active_pair rs.rules (turned r)) refl refl
alike_fire rs set ts done p q es base (rotated r s is) sound =
    inert_alike rs.rules ts done r s es base (rotated r s is) (ap (active_pair rs.rules) is.given) (ap (active_pair rs.rules) is.result)
alike_fire rs set ts done p q es base (in_turn r s t one other) sound =
    let sound_s = same_sound rs (before ts done (r ∷ es) base) (before ts done (s ∷ es) base) (alike_before ts done r s es base one) sound in
    through (after rs.rules ts done (r ∷ es) base) (after rs.rules ts done (s ∷ es) base) (after rs.rules ts done (t ∷ es) base)
    (alike_fire rs set ts done r s es base one sound) (alike_fire rs set ts done s t es base other sound_s)

-- ---- all equations, rearranged

arranged_fire : (rs : Rules) (set : IsRuleSet rs) (es fs : List Pair) → Rearranged es fs → (ts : List Tree) (done : List Pair) (base : ℕ) → Sound rs (before ts done es base)
    → Same (after rs.rules ts done es base) (after rs.rules ts done fs base)
arranged_fire rs set es fs nothing ts done base sound = Same-refl (after rs.rules ts done [] base)
arranged_fire rs set es fs (kept p q ps qs alike rest) ts done base sound =
    let out = fired_pair rs.rules base p in
    let next = base + names_taken rs.rules p in
    let sound_later = sound_after rs (before ts done (p ∷ ps) base) (before ts (done ++ out) ps next) set sound (one_fires rs.rules ts done p ps base) in
    let later = arranged_fire rs set ps qs rest ts (done ++ out) next sound_later in
    let P : List Pair → Type 0 = λ l. Same (record { interface = ts; equations = l; next = next_after rs.rules next ps }) (after rs.rules ts done (p ∷ qs) base) in
    let Q : List Pair → Type 0 = λ l. Same (after rs.rules ts (done ++ out) ps next) (record { interface = ts; equations = l; next = next_after rs.rules next qs }) in
    let first = transport P (append_assoc done out (fired_from rs.rules next ps)) (transport Q (append_assoc done out (fired_from rs.rules next qs)) later) in
    let start = before ts done (p ∷ ps) base in
    let moved = same_equations start (done ++ p ∷ qs) (arranged_after done (p ∷ ps) (p ∷ qs) (kept p p ps qs (itself p) rest)) in
    let sound_too = same_sound rs start (before ts done (p ∷ qs) base) moved sound in
    through (after rs.rules ts done (p ∷ ps) base) (after rs.rules ts done (p ∷ qs) base) (after rs.rules ts done (q ∷ qs) base) first
    (alike_fire rs set ts done p q qs base alike sound_too)
arranged_fire rs set es fs (swapped p q ps) ts done base sound = swapped_fire rs set ts done p q ps base sound
arranged_fire rs set es fs (one_by_one ps qs ms first second) ts done base sound =
    let start = before ts done ps base in
    let sound_too = same_sound rs start (before ts done qs base) (same_equations start (done ++ qs) (arranged_after done ps qs first)) sound in
    through (after rs.rules ts done ps base) (after rs.rules ts done qs base) (after rs.rules ts done ms base)
    (arranged_fire rs set ps qs first ts done base sound) (arranged_fire rs set qs ms second ts done base sound_too)

-- ---- all equations, renamed

active_too : (rs : List Rule) (f : ℕ → ℕ) (p : Pair) → active_pair rs (renamed_pair f p) ≡ option_map (renamed_active f) (active_pair rs p)
active_too rs f p = ap (oriented (renamed f p.left) (renamed f p.right)) (sides_renamed rs f p.left p.right) ∙ oriented_renamed f p.left p.right (rule_of_sides rs p.left p.right)

count_too : (rs : List Rule) (f : ℕ → ℕ) (found : Option Active)
    → option_map_or (λ a. count_of rs a.rule) (option_map (renamed_active f) found) 0 ≡ option_map_or (λ a. count_of rs a.rule) found 0
count_too rs f None = refl
count_too rs f (Some a) = refl

taken_too : (rs : List Rule) (f : ℕ → ℕ) (p : Pair) → names_taken rs (renamed_pair f p) ≡ names_taken rs p
taken_too rs f p = ap (λ o. option_map_or (λ a. count_of rs a.rule) o 0) (active_too rs f p) ∙ count_too rs f (active_pair rs p)

products_too : (rs : Rules) (m : ℕ) (p : Pair) (f : ℕ → ℕ) (found : Option Active) → IsRuleSet rs → is_pair_over rs.symbols p ≡ true → active_pair rs.rules p ≡ found
    → ((n : ℕ) → m ≤ n → f n ≡ n)
    → map (renamed_pair f) (option_map_or (products_by rs.rules m) found (p ∷ [])) ≡ option_map_or (products_by rs.rules m) (option_map (renamed_active f) found) (renamed_pair f p ∷ [])
products_too rs m p f None set over is fresh = refl
products_too rs m p f (Some a) set over is fresh = renamed_products rs.rules p a (has_rule rs p a set over is) m m f (λ j low. fresh (m + j) (omega arith))

pair_too : (rs : Rules) (m : ℕ) (p : Pair) (f : ℕ → ℕ) → IsRuleSet rs → is_pair_over rs.symbols p ≡ true → ((n : ℕ) → m ≤ n → f n ≡ n)
    → map (renamed_pair f) (fired_pair rs.rules m p) ≡ fired_pair rs.rules m (renamed_pair f p)
pair_too rs m p f set over fresh =
    products_too rs m p f (active_pair rs.rules p) set over refl fresh
    ∙ ap (λ o. option_map_or (products_by rs.rules m) o (renamed_pair f p ∷ [])) (sym (active_too rs.rules f p))

all_too : (rs : Rules) (m : ℕ) (ps : List Pair) (f : ℕ → ℕ) → IsRuleSet rs → list_all (is_pair_over rs.symbols) ps ≡ true → ((n : ℕ) → m ≤ n → f n ≡ n)
    → (map (renamed_pair f) (fired_from rs.rules m ps) ≡ fired_from rs.rules m (map (renamed_pair f) ps)) × (next_after rs.rules m ps ≡ next_after rs.rules m (map (renamed_pair f) ps))
all_too rs m [] f set over fresh = (refl, refl)
all_too rs m (p ∷ ps) f set over fresh =
    let both = and_parts (is_pair_over rs.symbols p) (list_all (is_pair_over rs.symbols) ps) over in
    let k = names_taken rs.rules p in
    let here = pair_too rs m p f set both.0 fresh in
    let rest = all_too rs (m + k) ps f set both.1 (λ n high. fresh n (omega (arith, high))) in
    let count = sym (taken_too rs.rules f p) in (
      map-append (renamed_pair f) (fired_pair rs.rules m p) (fired_from rs.rules (m + k) ps)
          ∙ ((λ i. here i ++ rest.0 i) ∙ (λ i. fired_pair rs.rules m (renamed_pair f p) ++ fired_from rs.rules (m + count i) (map (renamed_pair f) ps))),
      rest.1 ∙ ap (λ n. next_after rs.rules (m + n) (map (renamed_pair f) ps)) count,
    )

renamed_all_fired : (rs : Rules) (c d : Configuration) → IsRuleSet rs → Sound rs c → Renames c d → Same (fired rs.rules c) (fired rs.rules d)
renamed_all_fired rs c d set sound r =
    let over = (and_parts (list_all (is_tree_over rs.symbols) c.interface) (list_all (is_pair_over rs.symbols) c.equations) sound.over).1 in
    let both = all_too rs c.next c.equations r.to set over r.fresh in
    let end = fired rs.rules c in
    let steps = they_fire rs.rules c.interface [] c.equations c.next in
    let top = after_is rs.rules c.next c.equations in
    let arrives : renamed_in r.to end ≡ fired rs.rules (renamed_in r.to c) = λ i. record { interface = map (renamed r.to) c.interface; equations = both.0 i; next = both.1 i } in
    let P : Configuration → Type 0 = Same end in
    transport P (arrives ∙ ap (fired rs.rules) (sym r.result)) (renaming end (renamed_in r.to end) (record {
      to = r.to;
      from = r.from;
      there_and_back = r.there_and_back;
      back_and_there = r.back_and_there;
      free = λ n once. r.free n (free_since rs c end set sound.over sound.named steps n once);
      fresh = λ n high. r.fresh n (omega (arith, high, top));
      result = refl;
    }))

-- ---- fired, and after rounds

fired_same : (rs : Rules) (c d : Configuration) → IsRuleSet rs → Same c d → Sound rs c → Same (fired rs.rules c) (fired rs.rules d)
fired_same rs c d set (renaming x y r) sound = renamed_all_fired rs x y set sound r
fired_same rs c d set (rearranging x y r) sound =
    let P : Configuration → Type 0 = λ z. Same (fired rs.rules x) (fired rs.rules z) in
    transport P (sym r.result) (arranged_fire rs set x.equations y.equations r.equations x.interface [] x.next sound)
fired_same rs c d set (through x y z first second) sound =
    through (fired rs.rules x) (fired rs.rules y) (fired rs.rules z) (fired_same rs x y set first sound) (fired_same rs y z set second (same_sound rs x y first sound))

pub fired_too : (rs : Rules) (c d : Configuration) → IsRuleSet rs → is_over rs.symbols c ≡ true → HasNames c → Same c d → Same (fired rs.rules c) (fired rs.rules d)
fired_too rs c d set over named same = fired_same rs c d set same (record { over = over; named = named })

pub round_too : (rs : Rules) (c d : Configuration) → IsRuleSet rs → is_over rs.symbols c ≡ true → HasNames c → Same c d → Same (round rs.rules c) (round rs.rules d)
round_too rs c d set over named same =
    let steps = they_fire rs.rules c.interface [] c.equations c.next in
    settled_too (fired rs.rules c) (fired rs.rules d) (steps-names rs c (fired rs.rules c) set over named steps) (fired_too rs c d set over named same)

pub rounds_too : (rs : Rules) (n : ℕ) (c d : Configuration) → IsRuleSet rs → is_over rs.symbols c ≡ true → HasNames c → Same c d → Same (iterate rs.rules n c) (iterate rs.rules n d)
rounds_too rs zero c d set over named same = same
rounds_too rs (suc n) c d set over named same =
    let steps = iterate_reached rs.rules n c in
    round_too rs (iterate rs.rules n c) (iterate rs.rules n d) set (steps-over rs c (iterate rs.rules n c) set over steps) (steps-names rs c (iterate rs.rules n c) set over named steps)
    (rounds_too rs n c d set over named same)
