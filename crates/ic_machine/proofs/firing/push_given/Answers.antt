use Rattle.std.proofs.Common.{◌≡◌, ◌+◌, ℕ, List, [], ◌∷◌, ◌++◌, ap, sym, ◌∙◌, append_assoc, arith}
use Rattle.std.proofs.lemmas.List.FromFn.{map-range_with_len_more}
use Rattle.ic_arena.specs.declared.word.Word.{Word}
use Rattle.ic_arena.specs.declared.word.TheConstants.{GIVEN}
use Rattle.ic_machine.specs.Runs.{given_words}
use Rattle.ic_machine.proofs.firing.push_given.Goals as goal

pub loop-index-preserved : goal.loop-index-preserved
loop-index-preserved c =
    let i : ℕ = c.loop-index.index in
    let before : List Word = c.args.registers.now.items in
    let w : Word = record { tag = GIVEN; index = i } in
    let more : given_words (i + 1) ≡ given_words i ++ w ∷ [] =
    map-range_with_len_more (λ j. record { tag = GIVEN; index = j }) 0 i i (omega arith) in
    record {
      pushed = c.push_reserved.ensures.items
          ∙ (ap (λ (l : List Word). l ++ w ∷ []) c.loop-index.invariant.pushed
          ∙ (append_assoc before (given_words i) (w ∷ []) ∙ ap (λ (l : List Word). before ++ l) (sym more)));
      len = omega (arith, c.push_reserved.ensures.len);
      capacity = c.push_reserved.ensures.capacity ∙ c.loop-index.invariant.capacity;
    }
