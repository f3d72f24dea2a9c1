-- The line that submits a job (this project's choice): its system as it is written, each symbol by its text.
use Rattle.std.specs.Prelude.{Bool, nat_le, if◌then◌else◌, ℕ, List, [], ◌∷◌, ◌++◌, map, slice_get, codes, length, nat_lt}
use Rattle.std.specs.List.{list_all}
use Rattle.ic_term.specs.Configuration.{Configuration, configuration_names}
use Rattle.ic_text.specs.declared.limits.TheConstants.{MAX_NAME, MAX_TEXT}
use Rattle.ic_naming.specs.Naming.{renumbered}
use Rattle.ic_term.specs.Symbol.{Symbol}
use Rattle.ic_term.specs.Tree.{Tree, trees_of}
use Rattle.ic_rules.specs.Rule.{Rule}
use Rattle.ic_rules.specs.RuleSet.{Rules}
use Rattle.ic_rules.specs.System.{SystemParts}
use Rattle.ic_text.specs.SystemSource.{AgentPhrase, RulePhrase, SystemPhrase, rules_words}
use Rattle.ic_text.specs.Text.{text_or_none, sources_of, phrase_of, printed, text_of}
use Rattle.ic_jobs.specs.Job.{JobParts}
use Rattle.ic_commands.specs.LinePlain.{budget_text}

-- whether each name of a configuration may stand in a text
abbrev pub has_names_of_texts : Configuration → Bool
has_names_of_texts c = list_all (λ n. nat_le n MAX_NAME) (configuration_names c)

-- a configuration as it is told: as it is where its names may stand in a text, else renumbered
abbrev pub told : Configuration → Configuration
told c = if has_names_of_texts c then c else renumbered c

-- an agent as it is written, over a table of symbols
abbrev pub agent_of : List Symbol → ℕ → List Tree → AgentPhrase
agent_of table s ts = record {
  text = text_or_none (slice_get table s);
  arguments = sources_of table (trees_of ts);
}

-- a rule as it is written
abbrev pub rule_of : List Symbol → Rule → RulePhrase
rule_of table r = record {
  left = agent_of table r.left r.left_args;
  right = agent_of table r.right r.right_args;
}

-- a system as it is written
abbrev pub system_of : SystemParts → SystemPhrase
system_of s = record {
  rules = map (rule_of s.rules.symbols) s.rules.rules;
  config = phrase_of s.rules.symbols s.config;
}

-- the text of rules: their tokens without blanks, in braces
abbrev pub rules_text : Rules → List ℕ
rules_text rs = 123 ∷ (text_of (rules_words (map (rule_of rs.symbols) rs.rules)) ++ 125 ∷ [])

-- the text of a system: its rules, a space and its configuration
abbrev pub system_text : SystemParts → List ℕ
system_text s = rules_text s.rules ++ 32 ∷ printed s.rules.symbols s.config

-- the system of a job, as it is told
abbrev pub told_system : JobParts → SystemParts
told_system j = record { rules = j.rules; config = told j.config }

-- The line that submits a job, without its end. Its budget is told as it is, whatever rounds were made
-- of it.
abbrev pub job_line : JobParts → List ℕ
job_line j = codes "submit " ++ j.name ++ 32 ∷ (budget_text j.budget ++ system_text (told_system j))

-- the line has more bytes than a line may have
abbrev pub is_too_long : JobParts → Bool
is_too_long j = nat_lt MAX_TEXT (length (job_line j))
