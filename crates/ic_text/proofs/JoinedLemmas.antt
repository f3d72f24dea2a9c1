-- The system of rules and a configuration, by what the calls that make both answered.
use Rattle.std.proofs.Common.{Result, Ok, Err, subst}
use Rattle.ic_term.specs.Configuration.{Configuration}
use Rattle.ic_rules.specs.RuleFault.{Answers}
use Rattle.ic_rules.specs.RuleSet.{Rules}
use Rattle.ic_rules.specs.System.{SystemParts}
use Rattle.ic_rules.specs.declared.rule_set.RuleFault.{RuleFault}
use Rattle.ic_rules.specs.declared.rule_set.RuleFault.TheVariants.{Twice as Repeated, Lopsided as Uneven, Memory as NoRoom}
use Rattle.ic_text.specs.declared.fault.TextFault.{TextFault}
use Rattle.ic_text.specs.declared.fault.TextFault.TheVariants.{Memory}
use Rattle.ic_text.specs.inner.Built.{joined}
use Rattle.ic_text.specs.inner.Numbered.{Gives}

-- the system that is answered, or why there is none
abbrev pub GivesSystem : Result SystemParts TextFault → Result SystemParts TextFault → Type 0
GivesSystem result answer = Gives (λ s. s) result answer

abbrev pub GivesConfig : Result Configuration TextFault → Result Configuration TextFault → Type 0
GivesConfig result answer = Gives (λ c. c) result answer

-- where memory ran out, nothing is said
memory_says : (result answer : Result SystemParts TextFault) → GivesSystem result (Err Memory) → GivesSystem result answer
memory_says (Err Memory) answer told = tt
memory_says _ answer told = cc

no_memory : (result : Result SystemParts TextFault) (rules : Result Rules RuleFault) (c : Result Configuration TextFault) → GivesSystem result (joined rules (Err Memory)) → GivesSystem result (joined rules c)
no_memory result (Ok rs) c told = memory_says result (joined (Ok rs) c) told
no_memory result (Err (Repeated i)) c told = memory_says result (joined (Err (Repeated i)) c) told
no_memory result (Err (Uneven i)) c told = memory_says result (joined (Err (Uneven i)) c) told
no_memory result _ c told = told

config_so : (result : Result SystemParts TextFault) (rules : Result Rules RuleFault) (config c : Result Configuration TextFault)
    → GivesConfig config c → GivesSystem result (joined rules config) → GivesSystem result (joined rules c)
config_so result rules (Err Memory) c is told = no_memory result rules c told
config_so result rules _ c is told = subst (λ x. GivesSystem result (joined rules x)) is told

rules_so : (result : Result SystemParts TextFault) (rules r : Result Rules RuleFault) (c : Result Configuration TextFault)
    → Answers rules r → GivesSystem result (joined rules c) → GivesSystem result (joined r c)
rules_so result (Err NoRoom) r c is told = memory_says result (joined r c) told
rules_so result _ r c is told = subst (λ x. GivesSystem result (joined x c)) is told

-- what is made of these rules and this configuration is made of those that they answer for
pub joined_so : (result : Result SystemParts TextFault) (rules r : Result Rules RuleFault) (config c : Result Configuration TextFault)
    → Answers rules r → GivesConfig config c → GivesSystem result (joined rules config) → GivesSystem result (joined r c)
joined_so result rules r config c one two told = rules_so result rules r c one (config_so result rules config c two told)
