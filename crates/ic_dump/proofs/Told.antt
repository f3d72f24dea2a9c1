-- A configuration as it is told is the job's but for the names of its wires.
use Rattle.std.proofs.Common.{◌≡◌, ℕ, ◌≤◌, Bool, true, false, cond, List, [], ◌∷◌, map, refl, sym, ap, ◌∙◌}
use Rattle.std.specs.Prelude.{nat_le}
use Rattle.std.specs.List.{flat_map, list_all, AllByRecursion}
use Rattle.std.proofs.lemmas.List.{map-id}
use Rattle.std.proofs.lemmas.Bool.{and_from, le-leb}
use Rattle.ic_term.specs.Tree.{Tree, names, Pair}
use Rattle.ic_term.specs.Configuration.{Configuration, configuration_names, occurrences}
use Rattle.ic_rules.specs.Renaming.{renamed}
use Rattle.ic_rules.specs.lemmas.NumberingLaws.{Undone, terms-fixed}
use Rattle.ic_jobs.specs.Job.{JobParts, IsJob}
use Rattle.ic_text.specs.declared.limits.TheConstants.{MAX_NAME}
use Rattle.ic_naming.specs.Naming.{renamed_pair, renumbered, told_name}
use Rattle.ic_naming.specs.lemmas.Renumbered.{few_names, renumbered-is, renumbered-over, renumbered-names}
use Rattle.ic_naming.specs.lemmas.ToldNames.{all_low, one_to_one, told_apart}
use Rattle.ic_dump.specs.Telling.{has_names_of_texts, told, told_system}
use Rattle.ic_dump.specs.Submitting.{IsRenaming}
use Rattle.ic_dump.proofs.Sense.{IsWhole}

-- ---- names that stay
same_undone : (ns : List ℕ) → Undone (λ n. n) (λ n. n) ns
same_undone [] = tt
same_undone (n ∷ ns) = (refl, same_undone ns)

kept_interface : (ts : List Tree) → map (renamed (λ n. n)) ts ≡ ts
kept_interface ts = terms-fixed (λ n. n) ts (same_undone (flat_map names ts))

kept_tree : (t : Tree) → renamed (λ n. n) t ≡ t
kept_tree t = let alone = kept_interface (t ∷ []) in cc

kept_equations : (es : List Pair) → map (renamed_pair (λ n. n)) es ≡ es
kept_equations es = (λ i. map (λ (e : Pair). record { left = kept_tree e.left i; right = kept_tree e.right i }) es) ∙ map-id es

-- a renaming, and what it is called by
pub record Renamed (c d : Configuration) : Type 0 where
  pub rename : ℕ → ℕ
  pub is : IsRenaming rename c d

-- free names stay as they are, where they may stand in a text
module _ (keeps : (ns : List ℕ) (n : ℕ) → occurrences n ns ≡ 1 → n ≤ MAX_NAME → told_name ns n ≡ n) where
  renamed_by : (c : Configuration) (b : Bool) → Renamed c (cond b c (renumbered c))
  renamed_by c true = record {
    rename = λ n. n;
    is = record {
      free = λ n once low. refl;
      one_to_one = one_to_one (λ n. n) (λ n. n) (configuration_names c) (same_undone (configuration_names c));
      interface = sym (kept_interface c.interface);
      equations = sym (kept_equations c.equations);
    };
  }
  renamed_by c false = record {
    rename = told_name (configuration_names c);
    is = record {
      free = keeps (configuration_names c);
      one_to_one = told_apart (configuration_names c);
      interface = refl;
      equations = refl;
    };
  }

  pub told_renamed : (c : Configuration) → Renamed c (told c)
  told_renamed c = renamed_by c (has_names_of_texts c)

-- ---- the told configuration is one, with names of texts

low : (ns : List ℕ) → AllByRecursion (λ n. n ≤ MAX_NAME) ns → list_all (λ n. nat_le n MAX_NAME) ns ≡ true
low [] all = refl
low (n ∷ ns) all = and_from _ _ (le-leb n MAX_NAME all.0) (low ns all.1)

whole_by : (j : JobParts) → IsJob j → (b : Bool) → has_names_of_texts j.config ≡ b → IsWhole (record { rules = j.rules; config = cond b j.config (renumbered j.config) })
whole_by j is true e = record { symbols = is.symbols; rules = is.rules; served = is.served; config = is.config; over = is.over; names = e }
whole_by j is false e =
    let ns = configuration_names j.config in
    record {
      symbols = is.symbols;
      rules = is.rules;
      served = is.served;
      config = renumbered-is j.config is.config;
      over = renumbered-over j.rules.symbols j.config ∙ is.over;
      names = ap (list_all (λ n. nat_le n MAX_NAME)) (renumbered-names j.config) ∙ low (map (told_name ns) ns) (all_low ns (few_names j.config is.config));
    }

pub told_whole : (j : JobParts) → IsJob j → IsWhole (told_system j)
told_whole j is = whole_by j is (has_names_of_texts j.config) refl
