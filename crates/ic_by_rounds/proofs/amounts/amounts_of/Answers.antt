use Rattle.std.proofs.Common.{◌≡◌, List, length, ap, ◌∙◌, arith}
use Rattle.std.specs.List.{flat_map}
use Rattle.ic_term.specs.Configuration.{Configuration, configuration_names, configuration_nodes}
use Rattle.ic_confluence.specs.Agents.{configuration_symbols}
use Rattle.ic_flat.specs.Flat.{configuration_words}
use Rattle.ic_flat.specs.Words.{word_names}
use Rattle.ic_flat.specs.declared.word.Word.{Word}
use Rattle.ic_by_rounds.proofs.RowsTold.{ones}
use Rattle.ic_by_rounds.proofs.amounts.amounts_of.Goals as goal

pub returns-clause-arities : goal.returns-clause-arities
returns-clause-arities c =
    let d : Configuration = c.args.system.now.config in
    let same = c.config-config.ensures.config in
    let nodes = c.nodes-nodes.ensures.nodes ∙ ap configuration_nodes same in
    let terms = c.interface_len.ensures.terms ∙ ap (λ (e : Configuration). length e.interface) same in
    let equations = c.equations_len.ensures.equations ∙ ap (λ (e : Configuration). length e.equations) same in
    let all = c.figures_add_up_over_agents.ensures.nodes c.args.system.now.rules.symbols d c.config-config.ensures.sound in
    let low = c.nodes-nodes.type_inv in
    omega (arith, nodes, terms, equations, all, low)

pub returns-clause-agents : goal.returns-clause-agents
returns-clause-agents c =
    let d : Configuration = c.args.system.now.config in
    let same = c.config-config.ensures.config in
    let nodes = c.nodes-nodes.ensures.nodes ∙ ap configuration_nodes same in
    let words : c.words.result.now ≡ configuration_words d = c.words.ensures.words ∙ ap configuration_words same in
    let named : c.names_among.result ≡ length (configuration_names d) =
    c.names_among.ensures ∙ (ap (λ (ws : List Word). length (flat_map word_names ws)) words ∙ ap length (c.words_say_what_their_configuration_says.ensures.names d)) in
    let all = c.figures_add_up_over_agents.ensures.names d in
    let counted = ones (configuration_symbols d) in
    let low = c.nodes-nodes.type_inv in
    omega (arith, nodes, named, all, counted, low)
