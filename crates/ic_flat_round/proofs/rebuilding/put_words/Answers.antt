use Rattle.std.proofs.Common.{◌≡◌, List, [], ◌++◌, ap, ◌∙◌, sym, arith, append-nil, subst as transport}
use Rattle.ic_flat.specs.declared.word.Word.{Word}
use Rattle.ic_flat_round.specs.inner.Rebuilding.{PutsOn, on_stack, words_between}
use Rattle.ic_flat_round.proofs.RunWords.{between-none}
use Rattle.ic_flat_round.proofs.rebuilding.put_words.Goals as goal

pub returns-then-rest-span-clause-puts : goal.returns-then-rest-span-clause-puts
returns-then-rest-span-clause-puts c = λ stack.
    let ws = c.args.words.now in
    let es = c.args.bound.now.entries in
    let out = c.args.out.now.items in
    let rest = c.after_words-rest.result in
    let ahead = c.after_words-rest.ensures.ahead in
    let same : c.args.span.place ≡ rest.place = omega (arith, ahead, c.if-rest-span.true) in
    let nothing : words_between ws c.args.span.place rest.place ≡ [] = ap (λ k. words_between ws k rest.place) same ∙ between-none ws rest.place in
    transport (λ (l : List Word). PutsOn (on_stack ws es out c.args.span stack) (on_stack ws es l rest stack)) (ap (λ l. out ++ l) nothing ∙ append-nil out)
    (c.after_words-rest.ensures.puts out stack)

pub returns-clause-puts : goal.returns-clause-puts
returns-clause-puts c = λ stack.
    let ws = c.args.words.now in
    let es = c.args.bound.now.entries in
    let out = c.args.out.now.items in
    transport (λ (l : List Word). PutsOn (on_stack ws es out c.args.span stack) (on_stack ws es l c.after_words-rest.result stack))
    (sym (c.put_copied.ensures.items ∙ ap (λ l. l ++ words_between ws c.args.span.place c.after_words-rest.result.place) c.in_ok-reserve.ensures.items))
    (c.after_words-rest.ensures.puts out stack)
