-- Lemmas: one active equation fired before the others goes on to the fired configuration.
use Rattle.std.proofs.Common.{◌≡◌, ℕ, ◌+◌, ◌≤◌, ◌<◌, List, [], ◌∷◌, ◌++◌, true, Option, None, Some, length, map, refl, sym, ap, ◌∙◌, append_assoc, append-nil, arith, subst as transport}
use Rattle.std.proofs.lemmas.Bool.{and_parts}
use Rattle.std.proofs.lemmas.List.{map-append}
use Rattle.std.proofs.lemmas.List.Folds.{list_all-append}
use Rattle.std.specs.List.{flat_map, list_all}
use Rattle.std.specs.Option.{option_map_or}
use Rattle.ic_term.specs.Tree.{Tree, names, Pair, pair_names}
use Rattle.ic_term.specs.Configuration.{Configuration, configuration_names, occurrences}
use Rattle.ic_term.specs.Symbol.{is_over, is_tree_over, is_pair_over}
use Rattle.ic_rules.specs.Rule.{Rule}
use Rattle.ic_rules.specs.RuleSet.{Rules, IsRuleSet}
use Rattle.ic_settle.specs.lemmas.MiddleLaws.{over-middle}
use Rattle.ic_round.specs.Firing.{Active, active_pair, products_by, count_of, names_taken, fired_pair, fired_from, next_after, fired}
use Rattle.ic_round.specs.Naming.{HasNames}
use Rattle.ic_round.specs.Steps.{Interaction, interaction, Steps, no_steps, then_step}
use Rattle.ic_round.specs.lemmas.ChainLemmas.{steps-over, steps-names}
use Rattle.ic_confluence.specs.Sameness.{renamed_pair, renamed_in, Same, renaming}
use Rattle.ic_confluence.specs.lemmas.Counts.{in_configuration, in_more, below_next}
use Rattle.ic_confluence.specs.lemmas.Replacing.{in_both}
use Rattle.ic_confluence.specs.lemmas.Actives.{has_rule, renamed_products}
use Rattle.ic_confluence.proofs.TwoFirings.{block, block_low, block_high, block_first, block_second, block_back, renamed_terms_stay, renamed_pair_stays, active_stays}
use Rattle.ic_confluence.proofs.Chains.{first_step, step_free}

-- ---- names taken

abbrev pub taken : List Rule → List Pair → ℕ
taken rs [] = 0
taken rs (p ∷ ps) = names_taken rs p + taken rs ps

pub after_is : (rs : List Rule) (m : ℕ) (ps : List Pair) → next_after rs m ps ≡ m + taken rs ps
after_is rs m [] = omega arith
after_is rs m (p ∷ ps) = let rest = after_is rs (m + names_taken rs p) ps in omega (arith, rest)

fired-append : (rs : List Rule) (m : ℕ) (ps qs : List Pair) → fired_from rs m (ps ++ qs) ≡ fired_from rs m ps ++ fired_from rs (next_after rs m ps) qs
fired-append rs m [] qs = refl
fired-append rs m (p ∷ ps) qs =
    ap (λ es. fired_pair rs m p ++ es) (fired-append rs (m + names_taken rs p) ps qs)
    ∙ sym (append_assoc (fired_pair rs m p) (fired_from rs (m + names_taken rs p) ps) (fired_from rs (next_after rs (m + names_taken rs p) ps) qs))

after-append : (rs : List Rule) (m : ℕ) (ps qs : List Pair) → next_after rs m (ps ++ qs) ≡ next_after rs (next_after rs m ps) qs
after-append rs m [] qs = refl
after-append rs m (p ∷ ps) qs = after-append rs (m + names_taken rs p) ps qs

-- ---- fired equations renamed

pub renamed_found : (rs : Rules) (m n : ℕ) (p : Pair) (f : ℕ → ℕ) (found : Option Active) → IsRuleSet rs → is_pair_over rs.symbols p ≡ true → active_pair rs.rules p ≡ found
    → ((k : ℕ) → 1 ≤ occurrences k (pair_names p) → f k ≡ k) → ((j : ℕ) → j < option_map_or (λ a. count_of rs.rules a.rule) found 0 → f (m + j) ≡ n + j)
    → map (renamed_pair f) (option_map_or (products_by rs.rules m) found (p ∷ [])) ≡ option_map_or (products_by rs.rules n) found (p ∷ [])
renamed_found rs m n p f None set over is stays moves = ap (λ q. q ∷ []) (renamed_pair_stays f p stays)
renamed_found rs m n p f (Some a) set over is stays moves =
    let h = has_rule rs p a set over is in
    renamed_products rs.rules p a h m n f moves ∙ ap (products_by rs.rules n) (active_stays rs.rules p a h f stays)

pub renamed_fired : (rs : Rules) (m n : ℕ) (ps : List Pair) (f : ℕ → ℕ) → IsRuleSet rs → list_all (is_pair_over rs.symbols) ps ≡ true
    → ((k : ℕ) → 1 ≤ occurrences k (flat_map pair_names ps) → f k ≡ k) → ((j : ℕ) → j < taken rs.rules ps → f (m + j) ≡ n + j)
    → map (renamed_pair f) (fired_from rs.rules m ps) ≡ fired_from rs.rules n ps
renamed_fired rs m n [] f set over stays moves = refl
renamed_fired rs m n (p ∷ ps) f set over stays moves =
    let both = and_parts (is_pair_over rs.symbols p) (list_all (is_pair_over rs.symbols) ps) over in
    let k = names_taken rs.rules p in
    let here = renamed_found rs m n p f (active_pair rs.rules p) set both.0 refl
    (λ i some. stays i (let split = in_more i p ps in omega (arith, split, some)))
    (λ j low. moves j (omega (arith, low))) in
    let rest = renamed_fired rs (m + k) (n + k) ps f set both.1
    (λ i some. stays i (let split = in_more i p ps in omega (arith, split, some)))
    (λ j low. shifted m n k j f (moves (k + j) (omega (arith, low)))) in
    map-append (renamed_pair f) (fired_pair rs.rules m p) (fired_from rs.rules (m + k) ps) ∙ (λ i. here i ++ rest i)
  where
    shifted : (m n k j : ℕ) (f : ℕ → ℕ) → f (m + (k + j)) ≡ n + (k + j) → f (m + k + j) ≡ n + k + j
    shifted m n k j f e =
        let one : m + k + j ≡ m + (k + j) = omega arith in
        let other : n + (k + j) ≡ n + k + j = omega arith in
        ap f one ∙ (e ∙ other)

-- ---- a part of the equations fired

abbrev pub among : List Tree → List Pair → List Pair → List Pair → ℕ → Configuration
among ts done ps back base = record { interface = ts; equations = done ++ (ps ++ back); next = base }

fire_one : (rs : List Rule) (ts : List Tree) (done : List Pair) (p : Pair) (ps back : List Pair) (base : ℕ) (found : Option Active) (end : Configuration) → active_pair rs p ≡ found
    → Steps rs (among ts (done ++ option_map_or (products_by rs base) found (p ∷ [])) ps back (base + option_map_or (λ a. count_of rs a.rule) found 0)) end
    → Steps rs (among ts done (p ∷ ps) back base) end
fire_one rs ts done p ps back base None end is steps =
    let P : Configuration → Type 0 = λ z. Steps rs z end in
    let same : base + 0 ≡ base = omega arith in
    transport P (λ i. record { interface = ts; equations = append_assoc done (p ∷ []) (ps ++ back) i; next = same i }) steps
fire_one rs ts done p ps back base (Some a) end is steps =
    first_step rs (among ts done (p ∷ ps) back base) (among ts (done ++ products_by rs base a) ps back (base + count_of rs a.rule)) end
    (interaction _ _ (length done) (record {
      before = done;
      equation = p;
      after = ps ++ back;
      active = a;
      stands = record { counted = refl; parts = refl };
      has_rule = is;
      result = ap (λ es. record { interface = ts; equations = es; next = base + count_of rs a.rule }) (append_assoc done (products_by rs base a) (ps ++ back));
    })) steps

pub fire_part : (rs : List Rule) (ts : List Tree) (done ps back : List Pair) (base : ℕ) → Steps rs (among ts done ps back base) (among ts done (fired_from rs base ps) back (next_after rs base ps))
fire_part rs ts done [] back base = no_steps (among ts done [] back base)
fire_part rs ts done (p ∷ ps) back base =
    let out = fired_pair rs base p in
    let k = names_taken rs p in
    let later = fired_from rs (base + k) ps in
    let P : List Pair → Type 0 = λ es. Steps rs (among ts done (p ∷ ps) back base) (record { interface = ts; equations = es; next = next_after rs (base + k) ps }) in
    transport P (append_assoc done out (later ++ back) ∙ ap (λ es. done ++ es) (sym (append_assoc out later back)))
    (fire_one rs ts done p ps back base (active_pair rs p) (among ts (done ++ out) later back (next_after rs (base + k) ps)) refl (fire_part rs ts (done ++ out) ps back (base + k)))

-- ---- one equation first

pub join_steps : (rs : List Rule) (c d e : Configuration) → Steps rs c d → Steps rs d e → Steps rs c e
join_steps rs c d e steps (no_steps x) = steps
join_steps rs c d e steps (then_step x y z more step) = then_step c y z (join_steps rs c x y steps more) step

pub free_since : (rs : Rules) (c d : Configuration) → IsRuleSet rs → is_over rs.symbols c ≡ true → HasNames c → Steps rs.rules c d → (n : ℕ)
    → occurrences n (configuration_names d) ≡ 1 → occurrences n (configuration_names c) ≡ 1
free_since rs c d set over named (no_steps x) n once = once
free_since rs c d set over named (then_step x y z steps step) n once =
    free_since rs x y set over named steps n ((step_free rs y z set (steps-over rs x y set over steps) (steps-names rs x y set over named steps) step n).1 once)

-- the configuration with the equation fired first
abbrev fired_first : List Rule → Configuration → List Pair → List Pair → Active → Configuration
fired_first rs c before after a =
    let k = count_of rs a.rule in
    let middle = next_after rs (c.next + k) before in
    record {
      interface = c.interface;
      equations = fired_from rs (c.next + k) before ++ (products_by rs c.next a ++ fired_from rs middle after);
      next = next_after rs middle after;
    }

others_fire : (rs : List Rule) (c : Configuration) (before after : List Pair) (a : Active)
    → Steps rs (record { interface = c.interface; equations = before ++ (products_by rs c.next a ++ after); next = c.next + count_of rs a.rule }) (fired_first rs c before after a)
others_fire rs c before after a =
    let out = products_by rs c.next a in
    let base = c.next + count_of rs a.rule in
    let front = fired_from rs base before in
    let middle = next_after rs base before in
    let first = fire_part rs c.interface [] before (out ++ after) base in
    let second = fire_part rs c.interface (front ++ out) after [] middle in
    let start : (front ++ out) ++ (after ++ []) ≡ front ++ (out ++ after) = ap (λ es. (front ++ out) ++ es) (append-nil after) ∙ append_assoc front out after in
    let back = fired_from rs middle after in
    let finish : (front ++ out) ++ (back ++ []) ≡ front ++ (out ++ back) = ap (λ es. (front ++ out) ++ es) (append-nil back) ∙ append_assoc front out back in
    let P : List Pair → Type 0 = λ es. Steps rs (record { interface = c.interface; equations = es; next = middle }) (fired_first rs c before after a) in
    let Q : List Pair → Type 0 = λ es. Steps rs (record { interface = c.interface; equations = (front ++ out) ++ (after ++ []); next = middle }) (record { interface = c.interface; equations = es; next = next_after rs middle after }) in
    join_steps rs _ _ _ first (transport P start (transport Q finish second))

part_counts : (c : Configuration) (before after : List Pair) (p : Pair) → c.equations ≡ before ++ p ∷ after → (n : ℕ)
    → occurrences n (configuration_names c) ≡ occurrences n (flat_map names c.interface)
    + (occurrences n (flat_map pair_names before) + (occurrences n (pair_names p) + occurrences n (flat_map pair_names after)))
part_counts c before after p given n =
    let whole = in_configuration n c.interface c.equations in
    let is = ap (λ es. occurrences n (flat_map pair_names es)) given in
    let first = in_both n before (p ∷ after) in
    let second = in_more n p after in
    omega (arith, whole, is, first, second)

pub over_both : (rs : Rules) (before after : List Pair) → list_all (is_pair_over rs.symbols) (before ++ after) ≡ true
    → (list_all (is_pair_over rs.symbols) before ≡ true) × (list_all (is_pair_over rs.symbols) after ≡ true)
over_both rs before after over = and_parts (list_all (is_pair_over rs.symbols) before) (list_all (is_pair_over rs.symbols) after) (sym (list_all-append (is_pair_over rs.symbols) before after) ∙ over)

-- it is the fired configuration, but for the blocks of fresh names
first_same : (rs : Rules) (c : Configuration) (before after : List Pair) (p : Pair) (a : Active) → IsRuleSet rs → is_over rs.symbols c ≡ true → HasNames c
    → c.equations ≡ before ++ p ∷ after → active_pair rs.rules p ≡ Some a → Steps rs.rules c (fired_first rs.rules c before after a)
    → Same (fired_first rs.rules c before after a) (fired rs.rules c)
first_same rs c before after p a set over named given is steps =
    let rules = rs.rules in
    let k = count_of rules a.rule in
    let l = taken rules before in
    let b = c.next in
    let f = block b k l in
    let split = and_parts (list_all (is_tree_over rs.symbols) c.interface) (list_all (is_pair_over rs.symbols) c.equations) over in
    let middle_over = over-middle rs.symbols before p after (ap (list_all (is_pair_over rs.symbols)) (sym given) ∙ split.1) in
    let ends = over_both rs before after middle_over.0 in
    let h = has_rule rs p a set middle_over.1 is in
    let fixed : (n : ℕ) → 1 ≤ occurrences n (configuration_names c) → f n ≡ n = λ n some. block_low b k l n (below_next c named n some) in
    let parts = part_counts c before after p given in
    let terms = renamed_terms_stay f c.interface (λ n some. fixed n (let all = parts n in omega (arith, all, some))) in
    let own = active_stays rules p a h f (λ n some. fixed n (let all = parts n in omega (arith, all, some))) in
    let front_taken = after_is rules (b + k) before in
    let here_taken = after_is rules b before in
    let front = renamed_fired rs (b + k) b before f set ends.0 (λ n some. fixed n (let all = parts n in omega (arith, all, some))) (λ j low. block_second b k l j low) in
    let products = renamed_products rules p a h b (next_after rules b before) f (λ j low. block_first b k l j low ∙ (let to : b + l + j ≡ next_after rules b before + j = omega (arith, here_taken) in to)) ∙ ap (products_by rules (next_after rules b before)) own in
    let middle = next_after rules (b + k) before in
    let back = renamed_fired rs middle (next_after rules b before + k) after f set ends.1 (λ n some. fixed n (let all = parts n in omega (arith, all, some)))
    (λ j low. block_high b k l (middle + j) (omega (arith, front_taken)) ∙ (let to : middle + j ≡ next_after rules b before + k + j = omega (arith, front_taken, here_taken) in to)) in
    let tops : next_after rules middle after ≡ next_after rules (next_after rules b before + k) after =
    ap (λ n. next_after rules n after) (let to : middle ≡ next_after rules b before + k = omega (arith, front_taken, here_taken) in to) in
    let names_p : names_taken rules p ≡ k = ap (λ o. option_map_or (λ z. count_of rules z.rule) o 0) is in
    let out_p : fired_pair rules (next_after rules b before) p ≡ products_by rules (next_after rules b before) a = ap (λ o. option_map_or (products_by rules (next_after rules b before)) o (p ∷ [])) is in
    let arrives : renamed_in f (fired_first rules c before after a) ≡ fired rules c =
    (λ i. record {
      interface = terms i;
      equations = (map-append (renamed_pair f) (fired_from rules (b + k) before) (products_by rules b a ++ fired_from rules middle after)
          ∙ (ap (λ es. map (renamed_pair f) (fired_from rules (b + k) before) ++ es) (map-append (renamed_pair f) (products_by rules b a) (fired_from rules middle after))
          ∙ ((λ j. front j ++ (products j ++ back j))
          ∙ ((λ j. fired_from rules b before ++ (sym out_p j ++ fired_from rules (next_after rules b before + sym names_p j) after))
          ∙ (sym (fired-append rules b before (p ∷ after)) ∙ ap (fired_from rules b) (sym given)))))) i;
      next = (tops ∙ (ap (λ n. next_after rules (next_after rules b before + n) after) (sym names_p)
          ∙ (sym (after-append rules b before (p ∷ after)) ∙ ap (next_after rules b) (sym given)))) i;
    }) in
    let after_taken = after_is rules middle after in
    let P : Configuration → Type 0 = Same (fired_first rules c before after a) in
    transport P arrives (renaming (fired_first rules c before after a) (renamed_in f (fired_first rules c before after a)) (record {
      to = f;
      from = block b l k;
      there_and_back = block_back b k l;
      back_and_there = block_back b l k;
      free = λ n once. fixed n (let before_once = free_since rs c (fired_first rules c before after a) set over named steps n once in omega (arith, before_once));
      fresh = λ n high. block_high b k l n (omega (arith, high, after_taken, front_taken));
      result = refl;
    }))

-- One interaction goes on to the configuration with all active equations fired.
pub fire_first : (rs : Rules) (c d : Configuration) (place : ℕ) → IsRuleSet rs → is_over rs.symbols c ≡ true → HasNames c → Interaction rs.rules c d place
    → (e : Configuration) × Steps rs.rules d e × Same e (fired rs.rules c)
fire_first rs c d place set over named s =
    let end = fired_first rs.rules c s.before s.after s.active in
    let P : Configuration → Type 0 = λ z. Steps rs.rules z end in
    let steps = transport P (sym s.result) (others_fire rs.rules c s.before s.after s.active) in
    (end, steps, first_same rs c s.before s.after s.equation s.active set over named s.stands.parts s.has_rule (first_step rs.rules c d end (interaction c d place s) steps))
