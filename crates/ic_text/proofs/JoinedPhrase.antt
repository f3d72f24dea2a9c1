-- A system read as one list of terms: the sides of its rules stand before the interface of its configuration.
use Rattle.std.proofs.Common.{◌≡◌, ◌+◌, ◌*◌, List, [], ◌∷◌, ◌++◌, length, refl, sym, ap, ◌∙◌, append_assoc, arith}
use Rattle.std.specs.Prelude.{sum_by}
use Rattle.std.specs.List.{flat_map, AllByRecursion}
use Rattle.std.proofs.lemmas.Grind.{flat_map-append}
use Rattle.std.proofs.lemmas.List.Sums.{sum_by-cons}
use Rattle.std.proofs.Common.{length-append}
use Rattle.ic_text.specs.Source.{Source, Phrase, IsSource, IsPhrase, source_symbols, source_names, phrase_symbols, phrase_names}
use Rattle.ic_text.specs.SystemSource.{RulePhrase, SystemPhrase, IsRulePhrase, IsSystemPhrase, agent_source, system_symbols, system_names, rule_nodes}
use Rattle.ic_text.specs.inner.Words.{prefix, phrase_prefix, rules_prefix}
use Rattle.ic_text.proofs.PrefixWords.{length-prefix}

-- the sides of rules, one after the other
abbrev pub sides_of_rules : List RulePhrase → List Source
sides_of_rules [] = []
sides_of_rules (r ∷ rs) = agent_source r.left ∷ agent_source r.right ∷ sides_of_rules rs

abbrev pub joined_phrase : SystemPhrase → Phrase
joined_phrase s = record { interface = sides_of_rules s.rules ++ s.config.interface; equations = s.config.equations }

-- what is made of the sides of rules
pub sides_through : {Y : Type 0} (f : Source → List Y) (rs : List RulePhrase)
    → flat_map f (sides_of_rules rs) ≡ flat_map (λ r. f (agent_source r.left) ++ f (agent_source r.right)) rs
sides_through f [] = refl
sides_through f (r ∷ rs) =
    ap (λ l. f (agent_source r.left) ++ (f (agent_source r.right) ++ l)) (sides_through f rs)
    ∙ sym (append_assoc (f (agent_source r.left)) (f (agent_source r.right)) _)

-- what is made of all terms of a system, that of its rules before that of its configuration
through : {Y : Type 0} (f : Source → List Y) (s : SystemPhrase) (others : List Y)
    → flat_map f (sides_of_rules s.rules ++ s.config.interface) ++ others ≡ flat_map (λ r. f (agent_source r.left) ++ f (agent_source r.right)) s.rules ++ (flat_map f s.config.interface ++ others)
through f s others =
    ap (λ l. l ++ others) (flat_map-append f (sides_of_rules s.rules) s.config.interface ∙ ap (λ l. l ++ flat_map f s.config.interface) (sides_through f s.rules))
    ∙ append_assoc _ (flat_map f s.config.interface) others

pub prefix-joined : (s : SystemPhrase) → phrase_prefix (joined_phrase s) ≡ rules_prefix s.rules ++ phrase_prefix s.config
prefix-joined s = through prefix s _

pub symbols-joined : (s : SystemPhrase) → phrase_symbols (joined_phrase s) ≡ system_symbols s
symbols-joined s = through source_symbols s _

pub names-joined : (s : SystemPhrase) → phrase_names (joined_phrase s) ≡ system_names s
names-joined s = through source_names s _

sides_are : (rs : List RulePhrase) (ts : List Source) → AllByRecursion IsRulePhrase rs → AllByRecursion IsSource ts → AllByRecursion IsSource (sides_of_rules rs ++ ts)
sides_are [] ts is are = are
sides_are (r ∷ rs) ts is are = (is.0.0, (is.0.1, sides_are rs ts is.1 are))

pub are-sides : (rs : List RulePhrase) → AllByRecursion IsRulePhrase rs → AllByRecursion IsSource (sides_of_rules rs)
are-sides [] is = tt
are-sides (r ∷ rs) is = (is.0.0, (is.0.1, are-sides rs is.1))

pub is-joined : (s : SystemPhrase) → IsSystemPhrase s → IsPhrase (joined_phrase s)
is-joined s is = record { interface = sides_are s.rules s.config.interface is.rules is.config.interface; equations = is.config.equations }

-- the words of rules are their sides' symbols and the nodes of their arguments
pub length-rules_prefix : (rs : List RulePhrase) → length (rules_prefix rs) ≡ sum_by rule_nodes rs + 2 * length rs
length-rules_prefix [] = refl
length-rules_prefix (r ∷ rs) =
    let left = prefix (agent_source r.left) in
    let right = prefix (agent_source r.right) in
    omega (arith, length-append (left ++ right) (rules_prefix rs), length-append left right, length-prefix (agent_source r.left), length-prefix (agent_source r.right), length-rules_prefix rs, sum_by-cons rule_nodes r rs)
