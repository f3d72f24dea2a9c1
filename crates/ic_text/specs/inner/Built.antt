-- For private functions: rules and a configuration made of the terms that words write.
use Rattle.std.specs.Prelude.{◌≡◌, ℕ, ◌+◌, ◌*◌, List, [], ◌∷◌, ◌++◌, Option, Result, Ok, Err, length, take, drop, unwrap_or, if◌then◌else◌}
use Rattle.std.specs.List.{flat_map}
use Rattle.ic_term.specs.Tree.{Tree, name, agent, list_of, names}
use Rattle.ic_term.specs.Symbol.{is_over}
use Rattle.ic_term.specs.Configuration.{Configuration, configured}
use Rattle.ic_rules.specs.Renaming.{first_occurrences}
use Rattle.ic_rules.specs.Rule.{Rule}
use Rattle.ic_rules.specs.RuleSet.{Rules}
use Rattle.ic_rules.specs.System.{SystemParts}
use Rattle.ic_rules.specs.declared.rule_set.RuleFault.{RuleFault}
use Rattle.ic_rules.specs.declared.rule_set.RuleFault.TheVariants.{Limit as TooMany, Arity as OtherArity, NameCount as Uncounted, Twice as Repeated, Lopsided as Uneven, Memory as NoRoom}
use Rattle.ic_text.specs.declared.fault.TextFault.{TextFault}
use Rattle.ic_text.specs.declared.fault.TextFault.TheVariants.{Limit, Arity, NameCount, Twice, Lopsided, Memory}
use Rattle.ic_flat.specs.declared.word.Word.{Word}
use Rattle.ic_flat.specs.Words.{forest, IsWhole}
use Rattle.ic_flat.specs.Flat.{pairs_of}

-- Words write the terms of an interface, so many, and those of equations two by two.
pub record IsPaired (ws : List Word) (terms : ℕ) : Type 0 where
  pub whole : IsWhole ws
  pub equations : ℕ
  pub counted : length (forest ws) ≡ terms + 2 * equations

-- the configuration with so many terms of the interface before the sides of its equations
abbrev pub configuration_from : ℕ → List Tree → Configuration
configuration_from terms ts = configured (take terms ts) (pairs_of (drop terms ts))

-- a rule of two agents, its names as they are written; a term that is no agent makes none
abbrev pub rule_in : Tree → Tree → List Rule
rule_in (name n) u = []
rule_in (agent a ts) (name n) = []
rule_in (agent a ts) (agent b us) = record {
  left = a;
  right = b;
  left_args = list_of ts;
  right_args = list_of us;
  names = length (first_occurrences (flat_map names (list_of ts) ++ flat_map names (list_of us)));
} ∷ []

-- the rules of agents two by two
abbrev pub rules_in : List Tree → List Rule
rules_in [] = []
rules_in (t ∷ []) = []
rules_in (t ∷ u ∷ ts) = rule_in t u ++ rules_in ts

-- a refusal, but that of the configuration comes before it
abbrev pub after_config : Result Configuration TextFault → TextFault → Result SystemParts TextFault
after_config (Ok c) fault = Err fault
after_config (Err e) fault = Err e

-- the system of rules and a configuration, or the first refusal of both
abbrev pub joined : Result Rules RuleFault → Result Configuration TextFault
    → Result SystemParts TextFault
joined (Err TooMany) c = Err Limit
joined (Err (OtherArity n)) c = Err Arity
joined (Err (Uncounted i)) c = Err (NameCount i)
joined (Err (Repeated i)) c = after_config c (Twice i)
joined (Err (Uneven i)) c = after_config c (Lopsided i)
joined (Err NoRoom) c = Err Memory
joined (Ok rs) (Err e) = Err e
joined (Ok rs) (Ok c) =
    if is_over rs.symbols c then Ok (record { rules = rs; config = c }) else Err Arity

-- the refusal of rules, but that of the configuration, if any, comes before those of pairs and of lopsided rules
abbrev pub refusal : RuleFault → Option TextFault → TextFault
refusal TooMany config = Limit
refusal (OtherArity n) config = Arity
refusal (Uncounted i) config = NameCount i
refusal (Repeated i) config = unwrap_or config (Twice i)
refusal (Uneven i) config = unwrap_or config (Lopsided i)
refusal NoRoom config = Memory
