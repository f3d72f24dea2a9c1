-- Which job bytes begin with, and when they begin with none.
use Rattle.std.proofs.Common.{◌≡◌, ℕ, List, ◌++◌, length, ◌≤◌, sym, ap, subst, ◌∙◌}
use Rattle.ic_term.specs.Symbol.{Symbol}
use Rattle.ic_term.specs.Configuration.{Configuration}
use Rattle.ic_rules.specs.RuleSet.{Rules}
use Rattle.ic_jobs.specs.Job.{JobParts, IsJob}
use Rattle.ic_codec.specs.declared.form.Form.{Form}
use Rattle.ic_codec.specs.declared.form.Heading.{Heading}
use Rattle.ic_codec.specs.Symbols.{symbols_bytes}
use Rattle.ic_codec.specs.Configurations.{configuration_bytes}
use Rattle.ic_codec.specs.Form.{heading_bytes, heading_of}
use Rattle.ic_codec.specs.inner.Forms.{HaveSymbolBytes, HasHeadingBytes, HasJobBytes}
use Rattle.ic_codec.specs.Jobs.{job_bytes}
use Rattle.ic_codec.specs.inner.Fronts.{BeginsWith, BeginsWithNone, IsRuleSetOver, set_bytes, IsConfigurationOver}
use Rattle.ic_codec.proofs.Unique.{symbols_front, set_tells, configuration_tells}
use Rattle.ic_codec.proofs.JobLemmas.{after_heading, after_symbols, after_rules, job_spread, heading_has, heading_first, set_of, config_of}

pub job_none_heading : (form : Form) (bytes : List ℕ) → BeginsWithNone (HasHeadingBytes form) (heading_bytes form) bytes → BeginsWithNone (HasJobBytes form) (job_bytes form) bytes
job_none_heading form bytes none j rest is e = none (heading_of j) (after_heading j rest) (heading_has form j is) (e ∙ job_spread form j rest)

pub job_none_symbols : (form : Form) (bytes : List ℕ) (h : Heading) (b : List ℕ) → BeginsWith (HasHeadingBytes form) (heading_bytes form) bytes h b → BeginsWithNone HaveSymbolBytes symbols_bytes b
    → BeginsWithNone (HasJobBytes form) (job_bytes form) bytes
job_none_symbols form bytes h b begins none j rest is e =
    none j.rules.symbols (after_symbols j rest) (record { symbols = is.job.symbols; few = is.job.served.symbols }) (heading_first form h b j rest bytes begins.valid is begins.parts e).after

-- the symbols of a job that bytes begin with are those that were read
same_symbols : (form : Form) (bytes : List ℕ) (h : Heading) (b : List ℕ) (ss : List Symbol) (c : List ℕ) (j : JobParts) (rest : List ℕ) → HasJobBytes form j
    → BeginsWith (HasHeadingBytes form) (heading_bytes form) bytes h b → BeginsWith HaveSymbolBytes symbols_bytes b ss c → bytes ≡ job_bytes form j ++ rest
    → (ss ≡ j.rules.symbols) × (c ≡ after_symbols j rest)
same_symbols form bytes h b ss c j rest is begins second e =
    symbols_front ss j.rules.symbols c (after_symbols j rest) (sym second.parts ∙ (heading_first form h b j rest bytes begins.valid is begins.parts e).after)

pub job_none_rules : (form : Form) (bytes : List ℕ) (h : Heading) (b : List ℕ) (ss : List Symbol) (c : List ℕ) → BeginsWith (HasHeadingBytes form) (heading_bytes form) bytes h b
    → BeginsWith HaveSymbolBytes symbols_bytes b ss c → BeginsWithNone (IsRuleSetOver ss) set_bytes c → BeginsWithNone (HasJobBytes form) (job_bytes form) bytes
job_none_rules form bytes h b ss c begins second none j rest is e =
    let same = same_symbols form bytes h b ss c j rest is begins second e in
    none j.rules (after_rules j rest) (set_of ss j is.job same.0) same.1

-- so are its rules
same_rules : (form : Form) (bytes : List ℕ) (h : Heading) (b : List ℕ) (ss : List Symbol) (c : List ℕ) (set : Rules) (d : List ℕ) (j : JobParts) (rest : List ℕ) → HasJobBytes form j
    → BeginsWith (HasHeadingBytes form) (heading_bytes form) bytes h b → BeginsWith HaveSymbolBytes symbols_bytes b ss c → BeginsWith (IsRuleSetOver ss) set_bytes c set d
    → bytes ≡ job_bytes form j ++ rest → (set ≡ j.rules) × (d ≡ after_rules j rest)
same_rules form bytes h b ss c set d j rest is begins second third e =
    let same = same_symbols form bytes h b ss c j rest is begins second e in
    set_tells ss second.valid.few set j.rules d (after_rules j rest) third.valid (set_of ss j is.job same.0) (sym third.parts ∙ same.1)

pub job_none_config : (form : Form) (bytes : List ℕ) (h : Heading) (b : List ℕ) (ss : List Symbol) (c : List ℕ) (set : Rules) (d : List ℕ) (us : List Symbol)
    → BeginsWith (HasHeadingBytes form) (heading_bytes form) bytes h b → BeginsWith HaveSymbolBytes symbols_bytes b ss c → BeginsWith (IsRuleSetOver ss) set_bytes c set d
    → us ≡ set.symbols → BeginsWithNone (IsConfigurationOver us h.next) configuration_bytes d → BeginsWithNone (HasJobBytes form) (job_bytes form) bytes
job_none_config form bytes h b ss c set d us begins second third over none j rest is e =
    let heading = (heading_first form h b j rest bytes begins.valid is begins.parts e).same in
    let rules = same_rules form bytes h b ss c set d j rest is begins second third e in
    none j.config rest (config_of us h.next j is.job (over ∙ ap (λ (s : Rules). s.symbols) rules.0) (ap (λ (g : Heading). g.next) heading)) rules.1

-- the parts that were read, as a job
abbrev pub job_of : Heading → Rules → Configuration → JobParts
job_of h set config = record { name = h.name; rules = set; config = config; rounds = h.rounds; state = h.state; budget = h.budget }

pub job_none_job : (form : Form) (bytes : List ℕ) (h : Heading) (b : List ℕ) (ss : List Symbol) (c : List ℕ) (set : Rules) (d : List ℕ) (us : List Symbol) (config : Configuration) (after : List ℕ)
    → BeginsWith (HasHeadingBytes form) (heading_bytes form) bytes h b → BeginsWith HaveSymbolBytes symbols_bytes b ss c → BeginsWith (IsRuleSetOver ss) set_bytes c set d
    → us ≡ set.symbols → BeginsWith (IsConfigurationOver us h.next) configuration_bytes d config after → (IsJob (job_of h set config) → ⊥)
    → BeginsWithNone (HasJobBytes form) (job_bytes form) bytes
job_none_job form bytes h b ss c set d us config after begins second third over fourth not j rest is e =
    let heading = (heading_first form h b j rest bytes begins.valid is begins.parts e).same in
    let rules = same_rules form bytes h b ss c set d j rest is begins second third e in
    let symbols = over ∙ ap (λ (s : Rules). s.symbols) rules.0 in
    let few = subst (λ (l : List Symbol). length l ≤ 64) (sym symbols) is.job.served.symbols in
    let configs = (configuration_tells us h.next few config j.config after rest fourth.valid
    (config_of us h.next j is.job symbols (ap (λ (g : Heading). g.next) heading)) (sym fourth.parts ∙ rules.1)).0 in
    let same_set = rules.0 in
    let whole : job_of h set config ≡ j = λ i. job_of (heading i) (same_set i) (configs i) in
    not (subst IsJob (sym whole) is.job)

pub job_begins : (form : Form) (bytes : List ℕ) (h : Heading) (b : List ℕ) (ss : List Symbol) (c : List ℕ) (set : Rules) (d : List ℕ) (us : List Symbol) (config : Configuration) (rest : List ℕ)
    → BeginsWith (HasHeadingBytes form) (heading_bytes form) bytes h b → BeginsWith HaveSymbolBytes symbols_bytes b ss c → BeginsWith (IsRuleSetOver ss) set_bytes c set d
    → BeginsWith (IsConfigurationOver us h.next) configuration_bytes d config rest → IsJob (job_of h set config)
    → BeginsWith (HasJobBytes form) (job_bytes form) bytes (job_of h set config) rest
job_begins form bytes h b ss c set d us config rest begins second third fourth is =
    let j = job_of h set config in
    let nexts : heading_bytes form h ≡ heading_bytes form (heading_of j) =
    ap (λ (n : ℕ). heading_bytes form (record { name = h.name; state = h.state; rounds = h.rounds; budget = h.budget; next = n })) (sym fourth.valid.same_next) in
    let symbols : symbols_bytes ss ≡ symbols_bytes set.symbols = ap symbols_bytes (sym third.valid.over) in
    record {
      parts = begins.parts ∙ ap (λ (bs : List ℕ). bs ++ b) nexts
          ∙ ap (λ (bs : List ℕ). heading_bytes form (heading_of j) ++ bs) (second.parts ∙ ap (λ (bs : List ℕ). bs ++ c) symbols
          ∙ ap (λ (bs : List ℕ). symbols_bytes set.symbols ++ bs) (third.parts ∙ ap (λ (bs : List ℕ). set_bytes set ++ bs) fourth.parts))
          ∙ sym (job_spread form j rest);
      valid = record { job = is; budget = begins.valid.budget };
    }
