-- The symbols of a sense are those of its configuration.
use Rattle.std.proofs.Common.{◌≡◌, ℕ, Bool, true, false, cond, List, [], ◌∷◌, ◌++◌, Option, None, Some, Result, Ok, Err, map, IsTrue, refl, sym, ap, ◌∙◌}
use Rattle.std.specs.Prelude.{unwrap_or, option_and_then}
use Rattle.std.specs.List.{flat_map, list_all, slice_get}
use Rattle.std.proofs.lemmas.List.Folds.{list_all-append}
use Rattle.std.proofs.lemmas.Bool.{and_parts, and_from, false≢true}
use Rattle.ic_term.specs.Symbol.{Symbol, number_of_text, has_arity, is_tree_over, are_trees_over, is_pair_over, is_over}
use Rattle.ic_term.specs.Configuration.{Configuration, third_occurrence}
use Rattle.ic_text.specs.declared.fault.TextFault.{TextFault}
use Rattle.ic_text.specs.declared.fault.TextFault.TheVariants.{Limit, Arity}
use Rattle.ic_text.specs.declared.limits.Limits.{Limits}
use Rattle.ic_text.specs.Source.{Source, leaf, node, Sources, no_sources, more_sources, Sides, Phrase, source_symbols, symbols_of_sources, phrase_names, phrase_symbols, count_of}
use Rattle.ic_text.specs.Sense.{symbol_table, has_its_arity, is_in_limits_within, numbered_tree, numbered_trees, numbered_pair, numbered_phrase, unless_third_name, sense_within}
use Rattle.ic_text.proofs.BuiltTrees.{length-numbered_trees}

module _ (table : List Symbol) where
  pub found_has : (arity : ℕ) (o : Option ℕ) → has_arity arity (option_and_then (slice_get table) o) ≡ true → has_arity arity (slice_get table (unwrap_or o 0)) ≡ true
  found_has arity None has = absurd (false≢true has)
  found_has arity (Some n) has = has

  mutual
    over-numbered_tree : (t : Source) → list_all (has_its_arity table) (source_symbols t) ≡ true → is_tree_over table (numbered_tree table t) ≡ true
    over-numbered_tree (leaf n) agree = refl
    over-numbered_tree (node text ts) agree =
        let parts = and_parts (has_its_arity table (record { text = text; arity = count_of ts })) _ agree in
        let has : has_arity (count_of ts) (slice_get table (unwrap_or (number_of_text table text) 0)) ≡ true = found_has (count_of ts) (number_of_text table text) parts.0 in
        and_from _ _ (ap (λ n. has_arity n (slice_get table (unwrap_or (number_of_text table text) 0))) (length-numbered_trees table ts) ∙ has) (over-numbered_trees ts parts.1)

    over-numbered_trees : (ts : Sources) → list_all (has_its_arity table) (symbols_of_sources ts) ≡ true → are_trees_over table (numbered_trees table ts) ≡ true
    over-numbered_trees no_sources agree = refl
    over-numbered_trees (more_sources t ts) agree =
        let parts = and_parts _ _ (sym (list_all-append (has_its_arity table) (source_symbols t) (symbols_of_sources ts)) ∙ agree) in
        and_from _ _ (over-numbered_tree t parts.0) (over-numbered_trees ts parts.1)

  over-interface : (ts : List Source) → list_all (has_its_arity table) (flat_map source_symbols ts) ≡ true → list_all (is_tree_over table) (map (numbered_tree table) ts) ≡ true
  over-interface [] agree = refl
  over-interface (t ∷ ts) agree =
      let parts = and_parts _ _ (sym (list_all-append (has_its_arity table) (source_symbols t) (flat_map source_symbols ts)) ∙ agree) in
      and_from _ _ (over-numbered_tree t parts.0) (over-interface ts parts.1)

  over-equations : (es : List Sides) → list_all (has_its_arity table) (flat_map (λ e. source_symbols e.left ++ source_symbols e.right) es) ≡ true → list_all (is_pair_over table) (map (numbered_pair table) es) ≡ true
  over-equations [] agree = refl
  over-equations (e ∷ es) agree =
      let parts = and_parts _ _ (sym (list_all-append (has_its_arity table) (source_symbols e.left ++ source_symbols e.right) (flat_map (λ (x : Sides). source_symbols x.left ++ source_symbols x.right) es)) ∙ agree) in
      let sides = and_parts _ _ (sym (list_all-append (has_its_arity table) (source_symbols e.left) (source_symbols e.right)) ∙ parts.0) in
      and_from _ _ (and_from _ _ (over-numbered_tree e.left sides.0) (over-numbered_tree e.right sides.1)) (over-equations es parts.1)

  pub over-numbered_phrase : (p : Phrase) → list_all (has_its_arity table) (phrase_symbols p) ≡ true → is_over table (numbered_phrase table p) ≡ true
  over-numbered_phrase p agree =
      let parts = and_parts _ _ (sym (list_all-append (has_its_arity table) (flat_map source_symbols p.interface) (flat_map (λ (x : Sides). source_symbols x.left ++ source_symbols x.right) p.equations)) ∙ agree) in
      and_from _ _ (over-interface p.interface parts.0) (over-equations p.equations parts.1)

abbrev value_or : List Symbol × Configuration → Result (List Symbol × Configuration) TextFault → List Symbol × Configuration
value_or d (Ok v) = v
value_or d (Err e) = d

-- what a phrase is where it has a sense
pub record HasSense (p : Phrase) (v : List Symbol × Configuration) : Type 0 where
  pub agree : list_all (has_its_arity (symbol_table p)) (phrase_symbols p) ≡ true
  pub table : symbol_table p ≡ v.0
  pub config : numbered_phrase (symbol_table p) p ≡ v.1

pub has_sense : (limits : Limits) (p : Phrase) (v : List Symbol × Configuration) → sense_within limits p ≡ Ok v → HasSense p v
has_sense limits p v = by_cases (is_in_limits_within limits p) (list_all (has_its_arity (symbol_table p)) (phrase_symbols p)) (third_occurrence (phrase_names p)) refl
  where
    by_cases : (a b : Bool) (o : Option ℕ) → list_all (has_its_arity (symbol_table p)) (phrase_symbols p) ≡ b
        → cond a (cond b (unless_third_name {A = List Symbol × Configuration} (symbol_table p, numbered_phrase (symbol_table p) p) o) (Err Arity)) (Err Limit) ≡ Ok v → HasSense p v
    by_cases false b o agree e = cc
    by_cases true false o agree e = cc
    by_cases true true (Some n) agree e = cc
    by_cases true true None agree e = record {
      agree = agree;
      table = ap (λ r. (value_or (symbol_table p, numbered_phrase (symbol_table p) p) r).0) e;
      config = ap (λ r. (value_or (symbol_table p, numbered_phrase (symbol_table p) p) r).1) e;
    }

-- a sense has a table over which its configuration is
pub sense-over : (limits : Limits) (p : Phrase) (v : List Symbol × Configuration) → sense_within limits p ≡ Ok v → IsTrue (is_over v.0 v.1)
sense-over limits p v e =
    let s = has_sense limits p v e in
    (λ i. is_over (sym s.table i) (sym s.config i)) ∙ over-numbered_phrase (symbol_table p) p s.agree
