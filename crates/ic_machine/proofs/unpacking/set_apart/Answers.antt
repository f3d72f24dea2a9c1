use Rattle.std.proofs.Common.{◌<◌, List, [], ◌∷◌, ◌++◌, length, refl, ap, sym, subst, ◌∙◌, arith}
use Rattle.std.specs.List.{AllByRecursion}
use Rattle.std.proofs.lemmas.List.{append-nil}
use Rattle.ic_arena.specs.declared.word.Word.{Word}
use Rattle.ic_arena.specs.declared.word.TheConstants.{IDLE}
use Rattle.ic_arena.specs.Word.{name_word}
use Rattle.ic_arena.specs.Piece.{idle}
use Rattle.ic_machine.specs.inner.Unpacking.{stays}
use Rattle.ic_machine.proofs.Apart.{last_one, opened_idle, opened_there, same_apart, waits_apart}
use Rattle.ic_machine.proofs.Putting.{opened_few}
use Rattle.ic_machine.proofs.unpacking.set_apart.Goals as goal

pub returns-in_default-clause-apart : goal.returns-in_default-clause-apart
returns-in_default-clause-apart c = stays c.args.names.now.entries c.args.stack.now.items

pub returns-then-len-ge-MAX_ENTRIES-clause-apart : goal.returns-then-len-ge-MAX_ENTRIES-clause-apart
returns-then-len-ge-MAX_ENTRIES-clause-apart c = stays c.args.names.now.entries c.args.stack.now.items

pub returns-then-is_err-clause-apart : goal.returns-then-is_err-clause-apart
returns-then-is_err-clause-apart c =
    same_apart c.args.names.now.entries c.reserve.new.self.entries c.args.stack.now.items c.args.stack.now.items c.reserve.ensures.entries refl

pub returns-in_default-pop-clause-apart : goal.returns-in_default-pop-clause-apart
returns-in_default-pop-clause-apart c =
    same_apart c.args.names.now.entries c.reserve.new.self.entries c.args.stack.now.items c.pop.new.self.items c.reserve.ensures.entries
    (sym (c.in_default-pop.ensures.items ∙ append-nil c.pop.new.self.items))

pub put-requires-clause-there : goal.put-requires-clause-there
put-requires-clause-there c =
    opened_there c.reserve.new.self.entries c.open-name.new.self.entries c.open-name.result c.open-name.ensures.opened

pub put-requires-clause-idle : goal.put-requires-clause-idle
put-requires-clause-idle c =
    opened_idle c.reserve.new.self.entries c.open-name.new.self.entries c.open-name.result c.open-name.ensures.fresh c.open-name.ensures.opened

pub put-requires-clause-word : goal.put-requires-clause-word
put-requires-clause-word c =
    last_one (λ w. w.tag < IDLE) c.pop.new.self.items c.in-Some-pop.word
    (subst (λ (l : List Word). AllByRecursion (λ w. w.tag < IDLE) l) c.in-Some-pop.ensures.items c.requires.words)

pub returns-clause-apart : goal.returns-clause-apart
returns-clause-apart c =
    waits_apart c.args.names.now.entries c.reserve.new.self.entries c.open-name.new.self.entries c.put.new.self.entries c.open-name.result
    c.in-Some-pop.word c.pop.new.self.items c.args.stack.now.items c.push_reserved.new.self.items c.reserve.ensures.entries
    c.open-name.ensures.opened c.open-name.ensures.len c.put.ensures.put c.put.ensures.len c.in-Some-pop.ensures.items
    (c.push_reserved.ensures.items ∙ ap (λ (v : Word). c.pop.new.self.items ++ v ∷ []) c.name.ensures)

pub returns-clause-few : goal.returns-clause-few
returns-clause-few c =
    let most = opened_few c.reserve.new.self.entries c.open-name.new.self.entries (idle (name_word c.open-name.result)) c.open-name.ensures.opened
    c.open-name.ensures.len in
    let same = ap length c.reserve.ensures.entries in
    omega (arith, most, same, c.len.ensures, c.put.ensures.len, c.if-len-ge-MAX_ENTRIES.false)
