use Rattle.std.proofs.Common.{◌≡◌, ◌+◌, false, [], ◌∷◌, Ok, is_some, drop, sym, subst, ap, ◌∙◌}
use Rattle.ic_text.specs.inner.Numbered.{IsWord}
use Rattle.ic_text.specs.inner.Prefix.{head_word, head_words, node_of}
use Rattle.ic_text.proofs.Heads.{go_after}
use Rattle.ic_text.proofs.Numbering.{go}
use Rattle.ic_text.proofs.NumberedSoFar.{goes_on, is_word_seen, none_seen, rest_seen}
use Rattle.ic_text.proofs.number.number_heads.Goals as goal

pub take-requires-clause-word : goal.take-requires-clause-word
take-requires-clause-word c =
    subst IsWord (sym c.node-node.ensures) (is_word_seen (head_word c.args.text.now) c.args.heads.now c.loop-head.head-index _ c.loop-head-test.true c.requires.words)

pub loop-head-preserved : goal.loop-head-preserved
loop-head-preserved c =
    let ws = head_words c.args.text.now c.args.heads.now in
    let k = c.loop-head.head-index in
    let w = node_of c.node-node.result in
    let rest : drop k ws ≡ w ∷ drop (k + 1) ws = rest_seen (head_word c.args.text.now) c.args.heads.now k _ c.loop-head-test.true ∙ ap (λ v. v ∷ drop (k + 1) ws) (sym c.node-node.ensures) in
    goes_on c.args.limits (go c.args.limits c.args.symbols false c.args.words.items ws) ws k w rest c.loop-head.numbering c.loop-head.invariant _ c.in_ok-take.ensures.went

pub returns : goal.returns
returns c = λ ws e.
    let hs = head_words c.args.text.now c.args.heads.now in
    let n = c.loop-head.numbering in
    let end : drop c.loop-head.head-index hs ≡ [] = none_seen (head_word c.args.text.now) c.args.heads.now c.loop-head.head-index c.loop-head-test.false in
    let done : Ok (n.symbols, n.words.items) ≡ go c.args.limits c.args.symbols false c.args.words.items hs =
    sym (λ i. go c.args.limits n.symbols (is_some (c.in-None.is i)) n.words.items (end i)) ∙ c.loop-head.invariant.same in
    done ∙ go_after c.args.limits ws hs (c.args.symbols, c.args.words.items) e
