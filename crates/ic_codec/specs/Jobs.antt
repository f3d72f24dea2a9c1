-- Jobs as bytes (this project's choice).
use Rattle.std.specs.Prelude.{ℕ, List, ◌++◌}
use Rattle.ic_jobs.specs.Job.{JobParts}
use Rattle.ic_codec.specs.declared.form.Form.{Form}
use Rattle.ic_codec.specs.Symbols.{symbols_bytes}
use Rattle.ic_codec.specs.Rules.{rules_bytes}
use Rattle.ic_codec.specs.Configurations.{configuration_bytes}
use Rattle.ic_codec.specs.Form.{heading_bytes, heading_of}

-- a job is its heading, its symbols, its rules and its configuration
abbrev pub job_bytes : Form → JobParts → List ℕ
job_bytes form j =
    heading_bytes form (heading_of j)
    ++ (symbols_bytes j.rules.symbols ++ (rules_bytes j.rules.rules ++ configuration_bytes j.config))
