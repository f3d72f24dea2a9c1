-- A net with its names numbered anew is as quiet, wherever fresh names begin.
use Rattle.std.proofs.Common.{ℕ, ◌+◌, ◌≤◌, ◌≡◌, List, [], Bool, refl, sym, ap, subst}
use Rattle.std.specs.Prelude.{◌↔◌, ◌&&◌, IsTrue, Option, None, Some, is_none, option_map}
use Rattle.ic_term.specs.Configuration.{Configuration, configuration_names, occurrences}
use Rattle.ic_term.specs.Symbol.{is_over}
use Rattle.ic_rules.specs.Rule.{Rule}
use Rattle.ic_rules.specs.RuleSet.{Rules, IsRuleSet}
use Rattle.ic_settle.specs.Settling.{applied, first_choice}
use Rattle.ic_naming.specs.Naming.{renumbered}
use Rattle.ic_round.specs.Naming.{HasNames}
use Rattle.ic_round.specs.Quiet.{is_inert, is_quiet, IsQuiet}
use Rattle.ic_confluence.specs.Sameness.{Same}
use Rattle.ic_reaching.specs.OneNet.{SameButNext, raised}
use Rattle.ic_text.specs.declared.limits.TheConstants.{MAX_NAME}
use Rattle.ic_in_place.specs.lemmas.RoundsOn.{raised_names}

-- what laws of the crates below say of quiet nets
pub record QuietLaws : Type 0 where
  pub test : (rs : List Rule) (c : Configuration) → IsTrue (is_quiet rs c) ↔ IsQuiet rs c
  pub same : (rs : Rules) (c d : Configuration) → IsRuleSet rs → IsTrue (is_over rs.symbols c) → HasNames c → Same c d → IsQuiet rs.rules c → IsQuiet rs.rules d
  pub renumbered : (c : Configuration) → ((x : ℕ) → occurrences x (configuration_names c) ≡ 1 → x ≤ MAX_NAME) → SameButNext c (renumbered c)

either_none : {X Y : Type 0} (f g : X → Y) (o : Option X) → is_none (option_map f o) ≡ is_none (option_map g o)
either_none f g None = refl
either_none f g (Some x) = refl

-- where fresh names begin is no matter to what is quiet
next_test : (rs : List Rule) (next : ℕ) (c : Configuration) → is_quiet rs (record c { next = next }) ≡ is_quiet rs c
next_test rs next c = ap (λ (b : Bool). is_inert rs c && b) (either_none (applied (record c { next = next })) (applied c) (first_choice c.interface [] c.equations))

quiet_from : QuietLaws → (rs : List Rule) (next : ℕ) (c : Configuration) → IsQuiet rs c → IsQuiet rs (record c { next = next })
quiet_from laws rs next c quiet = (laws.test rs (record c { next = next })).0 (subst (λ (b : Bool). IsTrue b) (sym (next_test rs next c)) ((laws.test rs c).1 quiet))

pub quiet_too : QuietLaws → (rs : Rules) (c : Configuration) → HasNames c → IsRuleSet rs → IsTrue (is_over rs.symbols c)
    → ((x : ℕ) → occurrences x (configuration_names c) ≡ 1 → x ≤ MAX_NAME) → IsQuiet rs.rules c → (next : ℕ) → IsQuiet rs.rules (record (renumbered c) { next = next })
quiet_too laws rs c is set over low quiet next =
    let net = laws.renumbered c low in
    quiet_from laws rs.rules next (raised net.others (renumbered c))
    (laws.same rs (raised net.more c) (raised net.others (renumbered c)) set over (raised_names net.more c is) net.same
    (quiet_from laws rs.rules (c.next + net.more) c quiet))

-- and so is each that is the same net, wherever fresh names begin
pub quiet_same : QuietLaws → (rs : Rules) (c d : Configuration) → HasNames c → IsRuleSet rs → IsTrue (is_over rs.symbols c) → SameButNext c d → IsQuiet rs.rules c → IsQuiet rs.rules d
quiet_same laws rs c d is set over net quiet =
    quiet_from laws rs.rules d.next (raised net.others d)
    (laws.same rs (raised net.more c) (raised net.others d) set over (raised_names net.more c is) net.same
    (quiet_from laws rs.rules (c.next + net.more) c quiet))
