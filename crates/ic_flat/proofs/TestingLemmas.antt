-- Which words are restored, and why the others are refused.
use Rattle.std.proofs.Common.{min, ◌^◌, ◌-◌, ⊎_elim, ◌≡◌, ◌⊎◌, ℕ, ◌+◌, ◌*◌, ◌<◌, ◌≤◌, true, false, List, Option, Err, cond, length, nat_lt, sym, ap, ◌∙◌, arith}
use Rattle.std.specs.List.{flat_map, list_all}
use Rattle.std.proofs.lemmas.Bool.{false_from_ne_true, true≢false, cases_lt}
use Rattle.std.proofs.lemmas.Grind.{common_steps}
use Rattle.ic_term.specs.declared.config.ConfigFault.TheVariants.{Limit}
use Rattle.ic_term.specs.declared.limits.TheConstants.{MAX_WIDE_NODES, MAX_NEXT}
use Rattle.ic_term.specs.Configuration.{Configuration, configuration_nodes, configuration_names, is_within_wide, unless_third, third_occurrence, wide_restored, one_above, names_in, configured}
use Rattle.ic_term.specs.Tree.{Tree, Pair}
use Rattle.ic_flat.specs.declared.word.Word.{Word}
use Rattle.ic_flat.specs.Words.{forest, word_names}
use Rattle.ic_flat.specs.Flat.{configuration_of}
use Rattle.ic_flat.specs.lemmas.FlatLaws.{nodes-configuration_of, names-configuration_of}

record Within (c : Configuration) : Type 0 where
  nodes : configuration_nodes c ≤ MAX_WIDE_NODES
  next : c.next ≤ MAX_NEXT
  below : list_all (λ n. nat_lt n c.next) (configuration_names c) ≡ true

within_from : (c : Configuration) → is_within_wide c ≡ true → Within c
within_from c passes = record {
  nodes = grind (arith, common_steps, passes);
  next = grind (arith, common_steps, passes);
  below = grind (arith, common_steps, passes);
}

within_at : (c : Configuration) → Within c → is_within_wide c ≡ true
within_at c is = grind (arith, common_steps, is.nodes, is.next, is.below)

refused : (c : Configuration) → is_within_wide c ≡ false → Err Limit ≡ wide_restored c
refused c out = sym (ap (λ b. cond b (unless_third c (third_occurrence (configuration_names c))) (Err Limit)) out)

module _ (ws : List Word) (terms equations next : ℕ) (counted : length (forest ws) ≡ terms + 2 * equations) where
  -- too many words, or too great a `next`
  pub past_a_limit : (MAX_WIDE_NODES < length ws) ⊎ ((length ws ≤ MAX_WIDE_NODES) × (MAX_NEXT < next))
      → Err Limit ≡ wide_restored (configuration_of ws terms next)
  past_a_limit past =
      refused (configuration_of ws terms next) (false_from_ne_true _ (λ passes.
      let is = within_from (configuration_of ws terms next) passes in
      let nodes = nodes-configuration_of ws terms equations next counted in
      let small = is.nodes in
      let low = is.next in
      omega (arith, past)))

  -- a name at `next` or above it
  pub not_below : list_all (λ n. nat_lt n next) (flat_map word_names ws) ≡ false → Err Limit ≡ wide_restored (configuration_of ws terms next)
  not_below above =
      refused (configuration_of ws terms next) (false_from_ne_true _ (λ passes.
      let is = within_from (configuration_of ws terms next) passes in
      let names = names-configuration_of ws terms equations next counted in
      true≢false (sym is.below ∙ ap (list_all (λ n. nat_lt n next)) names ∙ above)))

  -- what keeps the limits is a configuration, unless a name occurs for the third time
  pub unless_thirdly : length ws ≤ MAX_WIDE_NODES → next ≤ MAX_NEXT
      → list_all (λ n. nat_lt n next) (flat_map word_names ws) ≡ true
      → (third : Option ℕ) → third ≡ third_occurrence (flat_map word_names ws)
      → unless_third (configuration_of ws terms next) third ≡ wide_restored (configuration_of ws terms next)
  unless_thirdly small low below third is =
      let c = configuration_of ws terms next in
      let names = names-configuration_of ws terms equations next counted in
      let nodes = nodes-configuration_of ws terms equations next counted in
      let within = within_at c (record {
        nodes = omega arith;
        next = low;
        below = ap (list_all (λ n. nat_lt n next)) names ∙ below;
      }) in
      ap (unless_third c) (is ∙ ap third_occurrence (sym names))
      ∙ sym (ap (λ b. cond b (unless_third c (third_occurrence (configuration_names c))) (Err Limit)) within)

-- a `next` of 2^64 - 1 that stands for a greater one is refused as that is
pub restored-at_most : (ts : List Tree) (es : List Pair) (next : ℕ) → next ≡ min (one_above (names_in ts es)) (2 ^ 64 - 1)
    → wide_restored (record { interface = ts; equations = es; next = next }) ≡ wide_restored (configured ts es)
restored-at_most ts es next is = ⊎_elim fits past (cases_lt (one_above (names_in ts es)) (2 ^ 64))
  where
    fits : one_above (names_in ts es) < 2 ^ 64 → wide_restored (record { interface = ts; equations = es; next = next }) ≡ wide_restored (configured ts es)
    fits below = let same : next ≡ one_above (names_in ts es) = omega arith in ap (λ n. wide_restored (record { interface = ts; equations = es; next = n })) same

    out : (n : ℕ) → MAX_NEXT < n → Err Limit ≡ wide_restored (record { interface = ts; equations = es; next = n })
    out n above = refused (record { interface = ts; equations = es; next = n }) (false_from_ne_true _ (λ passes.
        let low = (within_from (record { interface = ts; equations = es; next = n }) passes).next in omega arith))

    past : 2 ^ 64 ≤ one_above (names_in ts es) → wide_restored (record { interface = ts; equations = es; next = next }) ≡ wide_restored (configured ts es)
    past above = sym (out next (omega arith)) ∙ out (one_above (names_in ts es)) (omega arith)
