use Rattle.std.proofs.Common.{inl, inr, ℕ, List, ◌++◌, refl, sym, subst, ◌∙◌, arith}
use Rattle.std.proofs.lemmas.Bool.Decides.{eqb_tells}
use Rattle.std.proofs.lemmas.List.Sorted.{IsPermutation-refl}
use Rattle.ic_arena.specs.Piece.{Piece}
use Rattle.ic_arena.specs.Tables.{names_pieces}
use Rattle.ic_machine.specs.Steps.{no_step}
use Rattle.ic_machine.specs.inner.Sweeping.{IsThrough}
use Rattle.ic_machine.proofs.Links.{steps_on}
use Rattle.ic_machine.proofs.sweeping.sweep.Goals as goal

pub loop-name-init : goal.loop-name-init
loop-name-init c = record {
  steps = λ p rest.
      let xs : List Piece = names_pieces 0 c.args.names.now.entries ++ rest in
      no_step xs xs (IsPermutation-refl xs);
  room = c.requires.room;
  through = λ i lt. absurd (omega arith);
  fewer = omega arith;
  names = refl;
  memory = refl;
}

pub loop-name-preserved : goal.loop-name-preserved
loop-name-preserved c =
    let n : ℕ = c.loop-name.name in
    let new = c.put_through.new.names.entries in
    record {
      steps = λ p rest. steps_on p (names_pieces 0 c.loop-name.names.entries ++ rest) (c.loop-name.invariant.steps p rest) (c.put_through.ensures.steps p rest);
      room = c.put_through.ensures.room;
      through = λ i lt. elim (eqb_tells i n) [
        | inl here ↦ subst (λ (k : ℕ). IsThrough new k) (sym here.1) c.put_through.ensures.through
        | inr there ↦ (let other = there.1 in c.put_through.ensures.others i (c.loop-name.invariant.through i (omega (arith, lt, other))))
      ];
      fewer = omega (arith, c.put_through.ensures.fewer, c.loop-name.invariant.fewer);
      names = c.put_through.ensures.names ∙ c.loop-name.invariant.names;
      memory = c.put_through.ensures.memory ∙ c.loop-name.invariant.memory;
    }
