-- Which wide configurations are restored as configurations.
use Rattle.std.proofs.Common.{◌≡◌, ◌⊎◌, inl, inr, ⊎_elim, ℕ, ◌+◌, ◌*◌, List, ◌<◌, ◌≤◌, ◌↔◌, Bool, true, false, IsTrue, Option, Some, None, Ok, Err, cond, length, sym, subst, ap, ◌∙◌, arith}
use Rattle.std.proofs.lemmas.Bool.{true≢false, cases_lt}
use Rattle.ic_term.specs.declared.config.ConfigFault.TheVariants.{Limit}
use Rattle.ic_term.specs.declared.limits.TheConstants.{MAX_NODES, MAX_INTERFACE}
use Rattle.ic_term.specs.Configuration.{Configuration, IsConfiguration, IsWide, configuration_nodes, configuration_names, is_within_wide, third_occurrence, unless_third, restored, wide_restored}
use Rattle.ic_flat.specs.declared.word.Word.{Word}
use Rattle.ic_flat.specs.Words.{forest}
use Rattle.ic_flat.specs.Flat.{configuration_of}
use Rattle.ic_flat.specs.lemmas.FlatLaws.{nodes-configuration_of, length-interface}

-- what is restored is what was given
same_restored : (c d : Configuration) (within : Bool) (third : Option ℕ) → Ok d ≡ cond within (unless_third c third) (Err Limit) → d ≡ c
same_restored c d true None e = cc (e)
same_restored c d true (Some n) e = absurd (cc (e))
same_restored c d false third e = absurd (cc (e))

-- of words that write terms as many as told, and of a configuration of the same size
module _ (ws seen : List Word) (value : seen ≡ ws) (terms equations next : ℕ) (counted : length (forest ws) ≡ terms + 2 * equations)
    (c : Configuration) (sizes : configuration_nodes c ≡ configuration_nodes (configuration_of ws terms next))
    (ts : length c.interface ≡ length (configuration_of ws terms next).interface)
    (over : Bool) (is : IsTrue over ↔ ((MAX_NODES < length seen) ⊎ (MAX_INTERFACE < terms))) where
  nodes : configuration_nodes c ≡ length seen
  nodes = sizes ∙ nodes-configuration_of ws terms equations next counted ∙ ap length (sym value)

  interface : length c.interface ≡ terms
  interface = ts ∙ length-interface ws terms equations next counted

  -- too many words or terms
  pub past : ((d : Configuration) → (MAX_NODES < configuration_nodes d) ⊎ (MAX_INTERFACE < length d.interface) → restored d ≡ Err Limit)
      → over ≡ true → Err Limit ≡ restored c
  past refused so = sym (refused c (⊎_elim (λ many. inl (omega (arith, nodes, many))) (λ long. inr (omega (arith, interface, long))) (is.0 so)))

  out : over ≡ false → ((MAX_NODES < length seen) ⊎ (MAX_INTERFACE < terms)) → ⊥
  out not past = let so = is.1 past in true≢false (sym so ∙ not)

  few : over ≡ false → configuration_nodes c ≤ MAX_NODES
  few not = ⊎_elim (λ many. absurd (out not (inl many))) (λ fits. omega (arith, nodes, fits)) (cases_lt MAX_NODES (length seen))

  short : over ≡ false → length c.interface ≤ MAX_INTERFACE
  short not = ⊎_elim (λ long. absurd (out not (inr long))) (λ fits. omega (arith, interface, fits)) (cases_lt MAX_INTERFACE terms)

  -- what passes no limit is restored alike
  pub alike : ((d : Configuration) → configuration_nodes d ≤ MAX_NODES → length d.interface ≤ MAX_INTERFACE → wide_restored d ≡ restored d)
      → over ≡ false → wide_restored c ≡ restored c
  alike same not = same c (few not) (short not)

  pub kept : ((d : Configuration) → (wide_restored d ≡ Ok d) ↔ IsWide d)
      → ((d : Configuration) → IsWide d → configuration_nodes d ≤ MAX_NODES → length d.interface ≤ MAX_INTERFACE → IsConfiguration d)
      → over ≡ false → (d : Configuration) → Ok d ≡ wide_restored c → IsConfiguration d
  kept takes narrow not d taken =
      let same = same_restored c d (is_within_wide c) (third_occurrence (configuration_names c)) taken in
      let wide = (takes c).0 (sym (sym (ap Ok same) ∙ taken)) in
      subst IsConfiguration (sym same) (narrow c wide (few not) (short not))
