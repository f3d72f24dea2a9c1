use Rattle.std.proofs.Common.{◌≡◌, ◌+◌, ◌<◌, ◌≤◌, ℕ, List, ◌++◌, drop, length, map, take, get_or, slice_set, add-one, ap, sym, ◌∙◌, arith}
use Rattle.std.proofs.lemmas.List.{append-nil, drop_all, take_all}
use Rattle.ic_flat.specs.declared.word.Word.{Word}
use Rattle.ic_naming.specs.inner.Numbering.{told_by}
use Rattle.ic_naming.specs.Naming.{renamed_word}
use Rattle.ic_naming.proofs.InPlace.{part_length, part_read, part_set}
use Rattle.ic_naming.proofs.numbering.number_words.Goals as goal

pub loop-place-preserved : goal.loop-place-preserved
loop-place-preserved c =
    let f = renamed_word (told_by c.args.numbering.now) in
    let ws : List Word = c.args.words.now.items in
    let i : ℕ = c.loop-place.place in
    let d : Word = c.index.result.now in
    let is = c.loop-place.invariant in
    let all = ap length is ∙ part_length f i ws in
    let read = c.index.ensures ∙ (ap (λ (l : List Word). get_or l i d) is ∙ part_read f i ws d) in
    ap (λ (l : List Word). slice_set l i c.number_word.result) is
    ∙ part_set f i ws c.number_word.result d (omega arith) (c.number_word.ensures ∙ ap f read)
    ∙ ap (λ (k : ℕ). map f (take k ws) ++ drop k ws) (sym (add-one i))

pub returns : goal.returns
returns c =
    let f = renamed_word (told_by c.args.numbering.now) in
    let ws : List Word = c.args.words.now.items in
    let i : ℕ = c.loop-place.place in
    let is = c.loop-place.invariant in
    let all = ap length is ∙ part_length f i ws in
    let past : length ws ≤ i = omega arith in
    is ∙ (ap (λ (l : List Word). map f l ++ drop i ws) (take_all i ws past) ∙ (ap (λ (l : List Word). map f ws ++ l) (drop_all i ws past) ∙ append-nil (map f ws)))
