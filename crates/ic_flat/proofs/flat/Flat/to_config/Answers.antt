use Rattle.std.proofs.Common.{◌≡◌, ℕ, List, length, sym, ap, ◌∙◌, subst, take, drop}
use Rattle.ic_term.specs.Tree.{Tree, Pair}
use Rattle.ic_term.specs.Configuration.{Configuration, IsConfiguration}
use Rattle.ic_flat.specs.declared.word.Word.{Word}
use Rattle.ic_flat.specs.Words.{forest}
use Rattle.ic_flat.specs.Flat.{configuration_words, pairs_of}
use Rattle.ic_flat.specs.lemmas.FlatLaws.{configuration_of-words}
use Rattle.ic_flat.proofs.flat.Flat.to_config.Goals as goal

-- the terms of a configuration's words, so many of them and then the others two by two, make it
made : (d : Configuration) (ws : List Word) (terms next : ℕ) (stack left ts : List Tree) (es : List Pair) → ws ≡ configuration_words d
    → terms ≡ length d.interface → next ≡ d.next → stack ≡ forest ws → ts ≡ take terms stack → left ≡ drop terms stack → es ≡ pairs_of left
    → d ≡ record { interface = ts; equations = es; next = next }
made d ws terms next stack left ts es words count number all taken rest paired =
    let read = all ∙ ap forest words in
    let interface = taken ∙ (λ i. take (count i) (read i)) in
    let equations = paired ∙ ap pairs_of (rest ∙ (λ i. drop (count i) (read i))) in
    sym ((λ i. record { interface = interface i; equations = equations i; next = number i }) ∙ configuration_of-words d)

-- src/flat.rt:55:12
pub from_parts-requires : goal.from_parts-requires
from_parts-requires c =
    subst IsConfiguration
    (made c.args.self.now c.words.result.now c.interface_len.result c.next.result _ _ _ _ c.words.ensures.words c.interface_len.ensures.terms
    c.next.ensures.next c.in_ok-stack.ensures c.in_ok-interface.ensures.taken c.in_ok-interface.ensures.left c.in_ok-equations.ensures)
    c.next.ensures.sound

-- src/flat.rt:49:5
pub returns : goal.returns
returns c =
    c.from_parts.ensures
    ∙ sym
    (made c.args.self.now c.words.result.now c.interface_len.result c.next.result _ _ _ _ c.words.ensures.words c.interface_len.ensures.terms
    c.next.ensures.next c.in_ok-stack.ensures c.in_ok-interface.ensures.taken c.in_ok-interface.ensures.left c.in_ok-equations.ensures)
