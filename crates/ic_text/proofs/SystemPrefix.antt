-- A system's sense by the prefix notation of its rules and of its configuration.
use Rattle.std.proofs.Common.{◌≡◌, ℕ, ◌*◌, List, [], ◌∷◌, ◌++◌, Option, Some, length, sym, ap, ◌∙◌, subst}
use Rattle.std.specs.List.{AllByRecursion}
use Rattle.std.proofs.lemmas.List.{map-append, length-map}
use Rattle.ic_text.specs.declared.limits.Limits.{Limits}
use Rattle.ic_text.specs.declared.prefix.Prefix.{Prefix}
use Rattle.ic_text.specs.declared.token.Mark.TheVariants.{LeftBrace}
use Rattle.ic_text.specs.Token.{mark, tokens}
use Rattle.ic_text.specs.Source.{phrase_words}
use Rattle.ic_text.specs.SystemSource.{SystemPhrase, IsSystemPhrase, rules_words, system_words}
use Rattle.ic_text.specs.SystemSense.{system_sense_within}
use Rattle.ic_text.specs.inner.Braces.{split_at_brace}
use Rattle.ic_text.specs.inner.Prefix.{node_of, nodes_of}
use Rattle.ic_text.specs.inner.Words.{rules_prefix, phrase_prefix, system_prefix}
use Rattle.ic_text.specs.declared.excess.Excess.{Excess}
use Rattle.ic_text.specs.inner.Counted.{IsCounted, fits, is_kept}
use Rattle.ic_text.specs.inner.Numbered.{IsWord, counted_words}
use Rattle.ic_text.proofs.GrammarSystem.{in_front, split-rules_words}
use Rattle.ic_text.proofs.JoinedPhrase.{joined_phrase, prefix-joined, is-joined}
use Rattle.ic_text.proofs.PrefixWords.{words-phrase_prefix}
use Rattle.ic_text.proofs.SensingSystem.{finished_system}
use Rattle.ic_text.proofs.Fitting.{system-counted}
use Rattle.ic_text.proofs.SplitText.{Splits, split-text}

-- the tokens of the rules and of the configuration
pub split-system : (text : List ℕ) (s : SystemPhrase) → tokens text ≡ Some (system_words s)
    → (tokens (split_at_brace text).0 ≡ Some (mark LeftBrace ∷ rules_words s.rules)) × (tokens (split_at_brace text).1 ≡ Some (phrase_words s.config))
split-system text s spelled =
    let parts = ap (in_front (mark LeftBrace ∷ [])) (split-rules_words s.rules (phrase_words s.config)) in
    subst (Splits [] (split_at_brace text)) parts (split-text text (system_words s) spelled)

-- the words of the rules and of the configuration of a system
pub record Known (s : SystemPhrase) (rules config : Prefix) : Type 0 where
  pub rules_are : nodes_of rules.nodes.items ≡ rules_prefix s.rules
  pub agents_are : rules.terms ≡ 2 * length s.rules
  pub config_are : nodes_of config.nodes.items ≡ phrase_prefix s.config
  pub terms_are : config.terms ≡ length s.config.interface

module _ (s : SystemPhrase) (rules config : Prefix) (known : Known s rules config) where
  -- how many words are those of the rules
  pub rules_before : length rules.nodes.items ≡ length (rules_prefix s.rules)
  rules_before = sym (length-map rules.nodes.items node_of) ∙ ap length known.rules_are

  -- all words of the system
  pub all_words : nodes_of (rules.nodes.items ++ config.nodes.items) ≡ phrase_prefix (joined_phrase s)
  all_words = map-append node_of rules.nodes.items config.nodes.items ∙ (λ i. known.rules_are i ++ known.config_are i) ∙ sym (prefix-joined s)

  pub system_words_are : nodes_of (rules.nodes.items ++ config.nodes.items) ≡ system_prefix s
  system_words_are = all_words ∙ prefix-joined s

  pub words_are : IsSystemPhrase s → AllByRecursion IsWord (nodes_of (rules.nodes.items ++ config.nodes.items))
  words_are is = rw all_words (words-phrase_prefix (joined_phrase s) (is-joined s is))

  -- which are counted
  pub counted : IsCounted s (nodes_of (rules.nodes.items ++ config.nodes.items)) (length rules.nodes.items) rules.terms config.terms
  counted = record { words = system_words_are; before = rules_before; sides = known.agents_are; interface = known.terms_are }

  -- the sense is that of the words as far as they are counted
  pub sense-known : (limits : Limits) → IsSystemPhrase s → (o : Option Excess) → is_kept o ≡ fits limits s → system_sense_within limits s ≡ finished_system (length rules.nodes.items) config.terms (counted_words limits o (nodes_of (rules.nodes.items ++ config.nodes.items)))
  sense-known limits is o kept =
      system-counted limits s is o kept ∙ (λ i. finished_system (sym rules_before i) (sym known.terms_are i) (counted_words limits o (sym all_words i)))
