use Rattle.std.proofs.Common.{◌≡◌, ◌+◌, ◌≤◌, ◌<◌, ℕ, List, [], ◌∷◌, ◌++◌, length, take, refl, ap, sym, subst, ◌∙◌, arith}
use Rattle.std.proofs.Math.Nat.{max-eq_left}
use Rattle.std.proofs.lemmas.List.{length-set, take_more_set}
use Rattle.ic_arena.specs.declared.word.Word.{Word}
use Rattle.ic_arena.specs.Word.{name_word}
use Rattle.ic_arena.specs.Piece.{idle}
use Rattle.ic_arena.specs.Tables.{names_pieces}
use Rattle.ic_machine.specs.inner.Firing.{Opened}
use Rattle.ic_machine.proofs.Fresh.{opened_more, opened_none}
use Rattle.ic_machine.proofs.InUse.{greatest_on, one_longer, one_more}
use Rattle.ic_machine.proofs.Standing.{names_few}
use Rattle.ic_machine.proofs.firing.open_into.Goals as goal

pub loop-opened-preserved : goal.loop-opened-preserved
loop-opened-preserved c =
    let n : ℕ = c.loop-opened.opened in
    let k : ℕ = c.loop-opened.next in
    let old : List Word = c.args.names.now.entries in
    let mid : List Word = c.loop-opened.names.entries in
    let new : List Word = c.open.new.self.entries in
    let rs : List Word = c.loop-opened.registers in
    let before : List Word = take c.args.filled c.args.registers.now in
    let there : k < length rs = omega (arith, c.requires.registers, c.loop-opened.invariant.next, c.loop-opened.invariant.len, c.loop-opened-test.true) in
    let pushed = take_more_set rs k c.name.result there ∙ ap (λ (v : Word). take k rs ++ v ∷ []) c.name.ensures in
    let longer = one_longer (idle (name_word c.open.result)) (names_pieces 0 mid) (names_pieces 0 new) c.open.ensures.opened in
    let once = one_more (length new) (length mid) (length (names_pieces 0 mid)) (length (names_pieces 0 new)) c.open.ensures.len longer
    (names_few 0 mid) in
    let few : length mid ≤ length old + n = c.loop-opened.invariant.few in
    let next : k ≡ c.args.filled + n = c.loop-opened.invariant.next in
    record {
      next = omega arith;
      opened = subst (λ (l : List Word). Opened (n + 1) old new before l) (sym pushed)
          (opened_more n old mid new before (take k rs) c.open.result c.loop-opened.invariant.opened
          c.open.ensures.opened c.open.ensures.fresh);
      few = omega arith;
      places = greatest_on (length mid) (length new) (length old) (length (names_pieces 0 mid)) (length (names_pieces 0 new))
          c.loop-opened.invariant.places c.open.ensures.len (omega arith);
      memory = c.open.ensures.capacity ∙ c.loop-opened.invariant.memory;
      len = length-set rs k c.name.result ∙ c.loop-opened.invariant.len;
    }

pub loop-opened-init : goal.loop-opened-init
loop-opened-init c =
    let old : List Word = c.args.names.now.entries in
    record {
      next = omega arith;
      opened = opened_none old (take c.args.filled c.args.registers.now);
      few = omega arith;
      places = sym (max-eq_left (names_few 0 old));
      memory = refl;
      len = refl;
    }
