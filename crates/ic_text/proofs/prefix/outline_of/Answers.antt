use Rattle.std.proofs.Common.{ap, ◌∙◌}
use Rattle.ic_text.specs.inner.Prefix.{Scanned, head_word, head_words}
use Rattle.ic_text.proofs.Scanning.{scan-phrase_words, map-reverse}
use Rattle.ic_text.proofs.ScanningRules.{scan-rules_inside}
use Rattle.ic_text.proofs.prefix.outline_of.Goals as goal

pub returns-clause-nodes : goal.returns-clause-nodes
returns-clause-nodes c = λ p spelled.
    ap (head_words c.args.text.now) c.reverse.ensures.items ∙ map-reverse (head_word c.args.text.now) c.in_ok-scan.scan.heads.items ∙ ap (λ (s : Scanned). s.nodes) (c.in_ok-scan.ensures _ spelled ∙ scan-phrase_words p)

pub returns-clause-terms : goal.returns-clause-terms
returns-clause-terms c = λ p spelled. ap (λ (s : Scanned). s.terms) (c.in_ok-scan.ensures _ spelled ∙ scan-phrase_words p)

pub returns-clause-rules : goal.returns-clause-rules
returns-clause-rules c = λ rs spelled.
    ap (head_words c.args.text.now) c.reverse.ensures.items ∙ map-reverse (head_word c.args.text.now) c.in_ok-scan.scan.heads.items ∙ ap (λ (s : Scanned). s.nodes) (c.in_ok-scan.ensures _ spelled ∙ scan-rules_inside rs)

pub returns-clause-agents : goal.returns-clause-agents
returns-clause-agents c = λ rs spelled. ap (λ (s : Scanned). s.terms) (c.in_ok-scan.ensures _ spelled ∙ scan-rules_inside rs)
