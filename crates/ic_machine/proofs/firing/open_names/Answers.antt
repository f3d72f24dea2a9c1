use Rattle.std.proofs.Common.{◌+◌, ◌≤◌, ℕ, List, [], ◌∷◌, ◌++◌, length, refl, ap, sym, subst, ◌∙◌, arith}
use Rattle.std.proofs.Math.Nat.{max-eq_left}
use Rattle.ic_arena.specs.declared.word.Word.{Word}
use Rattle.ic_arena.specs.Word.{name_word}
use Rattle.ic_arena.specs.Piece.{idle}
use Rattle.ic_arena.specs.Tables.{names_pieces}
use Rattle.ic_machine.specs.inner.Firing.{Opened}
use Rattle.ic_machine.proofs.Fresh.{opened_more, opened_none}
use Rattle.ic_machine.proofs.InUse.{greatest_on, one_longer, one_more}
use Rattle.ic_machine.proofs.Standing.{names_few}
use Rattle.ic_machine.proofs.firing.open_names.Goals as goal

pub loop-opened-preserved : goal.loop-opened-preserved
loop-opened-preserved c =
    let n : ℕ = c.loop-opened.opened in
    let old : List Word = c.args.names.now.entries in
    let mid : List Word = c.loop-opened.names.entries in
    let new : List Word = c.open-name.new.self.entries in
    let before : List Word = c.args.registers.now.items in
    let after : List Word = c.loop-opened.registers.items in
    let pushed = c.push_reserved.ensures.items ∙ ap (λ (v : Word). after ++ v ∷ []) c.name.ensures in
    let longer = one_longer (idle (name_word c.open-name.result)) (names_pieces 0 mid) (names_pieces 0 new) c.open-name.ensures.opened in
    let once = one_more (length new) (length mid) (length (names_pieces 0 mid)) (length (names_pieces 0 new)) c.open-name.ensures.len longer
    (names_few 0 mid) in
    let few : length mid ≤ length old + n = c.loop-opened.invariant.few in
    record {
      opened = subst (λ (l : List Word). Opened (n + 1) old new before l) (sym pushed)
          (opened_more n old mid new before after c.open-name.result c.loop-opened.invariant.opened
          c.open-name.ensures.opened c.open-name.ensures.fresh);
      few = omega arith;
      places = greatest_on (length mid) (length new) (length old) (length (names_pieces 0 mid)) (length (names_pieces 0 new))
          c.loop-opened.invariant.places c.open-name.ensures.len (omega arith);
      memory = c.open-name.ensures.capacity ∙ c.loop-opened.invariant.memory;
      len = omega (arith, c.push_reserved.ensures.len);
      capacity = c.push_reserved.ensures.capacity ∙ c.loop-opened.invariant.capacity;
    }

pub loop-opened-init : goal.loop-opened-init
loop-opened-init c =
    let old : List Word = c.args.names.now.entries in
    record {
      opened = opened_none old c.args.registers.now.items;
      few = omega arith;
      places = sym (max-eq_left (names_few 0 old));
      memory = refl;
      len = omega arith;
      capacity = refl;
    }
