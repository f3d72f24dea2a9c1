-- Two agents as a rule, and rules that are refused.
use Rattle.std.proofs.Common.{◌≡◌, Bool, true, false, cond, [], ◌∷◌, ◌++◌, Option, Result, Ok, Err, map, length, refl, sym, ◌∙◌}
use Rattle.std.specs.Prelude.{IsTrue}
use Rattle.std.specs.List.{flat_map}
use Rattle.std.specs.Result.{result_err}
use Rattle.ic_term.specs.declared.term.Cell.{Cell, out-Cell}
use Rattle.ic_term.specs.Configuration.{Configuration}
use Rattle.ic_term.specs.Tree.{agent, trees_of, names}
use Rattle.ic_term.specs.Symbol.{is_over}
use Rattle.ic_term.specs.Term.{tree, cell_tree}
use Rattle.ic_term.specs.lemmas.TermLaws.{cell_tree-out}
use Rattle.ic_term.specs.lemmas.TreeLaws.{list_of-trees_of}
use Rattle.ic_rules.specs.Renaming.{first_occurrences}
use Rattle.ic_rules.specs.RuleSet.{Rules}
use Rattle.ic_rules.specs.System.{SystemParts}
use Rattle.ic_rules.specs.Written.{written}
use Rattle.ic_rules.specs.declared.rule_set.RuleFault.{RuleFault}
use Rattle.ic_rules.specs.declared.rule_set.RuleFault.TheVariants.{Twice as Repeated, Lopsided as Uneven, Memory as NoRoom}
use Rattle.ic_text.specs.declared.fault.TextFault.{TextFault}
use Rattle.ic_text.specs.declared.fault.TextFault.TheVariants.{Arity, Memory}
use Rattle.ic_text.specs.inner.Built.{rule_in, joined, refusal}
use Rattle.ic_text.specs.inner.Numbered.{Refuses}

-- two agents as a rule, by what they hold
pub written-agents : (l r : Cell) → written (l, r) ∷ [] ≡ rule_in (cell_tree l) (cell_tree r)
written-agents l r =
    let left = sym (list_of-trees_of (map tree (out-Cell l).args.items)) in
    let right = sym (list_of-trees_of (map tree (out-Cell r).args.items)) in
    let plain : written (l, r) ∷ [] ≡ rule_in (agent (out-Cell l).sym (trees_of (map tree (out-Cell l).args.items))) (agent (out-Cell r).sym (trees_of (map tree (out-Cell r).args.items))) = λ i. record {
      left = (out-Cell l).sym;
      right = (out-Cell r).sym;
      left_args = left i;
      right_args = right i;
      names = length (first_occurrences (flat_map names (left i) ++ flat_map names (right i)));
    } ∷ [] in
    plain ∙ (λ i. rule_in (sym (cell_tree-out l) i) (sym (cell_tree-out r) i))

-- ---- rules that are refused

refuses : (fault : TextFault) → Refuses {A = SystemParts} fault (Err fault)
refuses Memory = tt
refuses _ = refl

refuses_both : (fault : RuleFault) (config : Result Configuration TextFault)
    → Refuses (refusal fault (result_err config)) (joined (Err fault) config)
refuses_both (Repeated i) (Err e) = refuses e
refuses_both (Uneven i) (Err e) = refuses e
refuses_both NoRoom config = tt
refuses_both _ _ = refl

pub refuses_joined : (answer : TextFault) (fault : RuleFault) (rules : Result Rules RuleFault) (own : Option TextFault) (config : Result Configuration TextFault)
    → rules ≡ Err fault → own ≡ result_err config → answer ≡ refusal fault own → Refuses answer (joined rules config)
refuses_joined answer fault rules own config is owned same = rw (same, owned, is) (refuses_both fault config)

-- a configuration that isn't over the symbols of the rules has other arities
pub joined-apart : (rules : Result Rules RuleFault) (config : Result Configuration TextFault) (rs : Rules) (c : Configuration)
    → rules ≡ Ok rs → config ≡ Ok c → (IsTrue (is_over rs.symbols c) → ⊥) → Err Arity ≡ joined rules config
joined-apart rules config rs c rules_are config_is apart = rw (rules_are, config_is) (by_test (is_over rs.symbols c) apart)
  where
    by_test : (b : Bool) → (IsTrue b → ⊥) → ◌≡◌ {A = Result SystemParts TextFault} (Err Arity) (cond b (Ok (record { rules = rs; config = c })) (Err Arity))
    by_test true apart = absurd (apart refl)
    by_test false apart = refl
