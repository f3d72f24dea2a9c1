use Rattle.std.proofs.Common.{◌≡◌, ℕ, List, [], ◌∷◌, length, map, ap, sym, subst, arith}
use Rattle.std.specs.List.Sorted.{IsPermutation}
use Rattle.ic_arena.specs.declared.word.Word.{Word}
use Rattle.ic_arena.specs.declared.word.TheConstants.{FREE}
use Rattle.ic_arena.specs.Word.{name_word}
use Rattle.ic_arena.specs.Piece.{idle}
use Rattle.ic_arena.specs.Tables.{entry, names_pieces, Replaced}
use Rattle.ic_machine.specs.Moving.{end_word, spares, CutEnd, Ends}
use Rattle.ic_machine.specs.inner.Unpacking.{begun, met, AreKept}
use Rattle.ic_machine.proofs.Ends.{worth_added, worth_ended}
use Rattle.ic_machine.proofs.Grown.{names_opened, names_stay}
use Rattle.ic_machine.proofs.NameRooms.{free_room}
use Rattle.ic_machine.proofs.Putting.{opened_few}
use Rattle.ic_machine.proofs.Unpacked.{end_dropped, kept_same, name_idle, on_err}
use Rattle.ic_machine.proofs.unpacking.unpack_name.Goals as goal

pub add-requires-clause-name : goal.add-requires-clause-name
add-requires-clause-name c =
    let old : List Word = c.args.names.now.entries in
    let n : ℕ = c.open-name.result in
    let free : (entry old n).tag ≡ FREE = subst (λ (l : List Word). (entry l n).tag ≡ FREE) c.reserve.ensures.entries c.open-name.ensures.fresh in
    let none = free_room old n free in
    let few = c.requires.room n in
    omega (arith, none, few)

-- the other end was here
pub returns-in-Some-clause-unpacked : goal.returns-in-Some-clause-unpacked
returns-in-Some-clause-unpacked c =
    let e : CutEnd = record { cut = c.args.cut; name = c.in-Some.name } in
    met c.args.names.now.entries c.args.borders.now.ends c.spare.new.self.ends
    (subst (λ (l : List CutEnd). IsPermutation c.args.borders.now.ends (e ∷ l)) (sym c.spare.ensures.ends) c.remove.ensures.removed)

pub returns-in-Some-clause-worth : goal.returns-in-Some-clause-worth
returns-in-Some-clause-worth c = λ k.
    let e : CutEnd = record { cut = c.args.cut; name = c.in-Some.name } in
    let same : spares k c.args.borders.now ≡ spares k c.remove.new.self = sym (ap (spares k) c.remove.ensures.numbers) in
    let one = worth_added k c.remove.new.self c.args.borders.now e same c.remove.ensures.removed in
    let two = worth_ended k c.args.cut c.remove.new.self c.spare.new.self c.in_ok-spare.ensures.spare in
    omega (arith, one, two)

pub returns-in_err-spare-clause-kept : goal.returns-in_err-spare-clause-kept
returns-in_err-spare-clause-kept c =
    let e : CutEnd = record { cut = c.args.cut; name = c.in-Some.name } in
    let kept : (arities : List ℕ) → AreKept arities (map end_word c.args.borders.now.ends) (map end_word c.spare.new.self.ends)
    (names_pieces 0 c.args.names.now.entries) (names_pieces 0 c.args.names.now.entries) =
    (λ arities. end_dropped arities c.args.borders.now.ends c.spare.new.self.ends e (names_pieces 0 c.args.names.now.entries)
    (subst (λ (l : List CutEnd). IsPermutation c.args.borders.now.ends (e ∷ l)) (sym c.spare.ensures.ends) c.remove.ensures.removed)) in
    on_err c.from_residual.result kept

-- it is begun
pub returns-clause-unpacked : goal.returns-clause-unpacked
returns-clause-unpacked c =
    begun c.args.names.now.entries c.open-name.new.self.entries c.args.borders.now.ends c.add.new.self.ends c.in_ok-add.ensures.added
    (subst (λ (l : List Word). Replaced [] (idle (name_word c.open-name.result) ∷ []) (names_pieces 0 l) (names_pieces 0 c.open-name.new.self.entries))
    c.reserve.ensures.entries c.open-name.ensures.opened)

pub returns-clause-worth : goal.returns-clause-worth
returns-clause-worth c = λ k.
    let e : CutEnd = record { cut = c.args.cut; name = c.open-name.result } in
    worth_added k c.args.borders.now c.add.new.self e (ap (spares k) c.add.ensures.numbers) c.in_ok-add.ensures.added

pub returns-clause-few : goal.returns-clause-few
returns-clause-few c =
    let most = opened_few c.reserve.new.self.entries c.open-name.new.self.entries (idle (name_word c.open-name.result)) c.open-name.ensures.opened
    c.open-name.ensures.len in
    let same = ap length c.reserve.ensures.entries in
    omega (arith, most, same, c.len.ensures, c.if-len-ge-MAX_ENTRIES.false)

pub returns-in_err-add-clause-few : goal.returns-in_err-add-clause-few
returns-in_err-add-clause-few c =
    let most = opened_few c.reserve.new.self.entries c.open-name.new.self.entries (idle (name_word c.open-name.result)) c.open-name.ensures.opened
    c.open-name.ensures.len in
    let same = ap length c.reserve.ensures.entries in
    omega (arith, most, same, c.len.ensures, c.if-len-ge-MAX_ENTRIES.false)

pub returns-in_err-add-clause-kept : goal.returns-in_err-add-clause-kept
returns-in_err-add-clause-kept c =
    let ends : List Word = map end_word c.args.borders.now.ends in
    let opened : Replaced [] (idle (name_word c.open-name.result) ∷ []) (names_pieces 0 c.args.names.now.entries) (names_pieces 0 c.open-name.new.self.entries) =
    subst (λ (l : List Word). Replaced [] (idle (name_word c.open-name.result) ∷ []) (names_pieces 0 l) (names_pieces 0 c.open-name.new.self.entries))
    c.reserve.ensures.entries c.open-name.ensures.opened in
    let kept : (arities : List ℕ) → AreKept arities ends (map end_word c.add.new.self.ends)
    (names_pieces 0 c.args.names.now.entries) (names_pieces 0 c.open-name.new.self.entries) =
    (λ arities. subst (λ (b : Ends). AreKept arities ends (map end_word b.ends)
    (names_pieces 0 c.args.names.now.entries) (names_pieces 0 c.open-name.new.self.entries)) (sym c.in_err-add.ensures.same)
    (name_idle arities ends (name_word c.open-name.result) (names_pieces 0 c.args.names.now.entries) (names_pieces 0 c.open-name.new.self.entries) opened)) in
    on_err c.from_residual-in_err-add.result kept

pub returns-in_err-reserve-clause-kept : goal.returns-in_err-reserve-clause-kept
returns-in_err-reserve-clause-kept c =
    let ends : List Word = map end_word c.args.borders.now.ends in
    let kept : (arities : List ℕ) → AreKept arities ends ends (names_pieces 0 c.args.names.now.entries) (names_pieces 0 c.reserve.new.self.entries) =
    (λ arities. subst (λ (l : List Word). AreKept arities ends ends (names_pieces 0 c.args.names.now.entries) (names_pieces 0 l))
    (sym c.reserve.ensures.entries) (kept_same arities ends (names_pieces 0 c.args.names.now.entries))) in
    on_err c.from_residual-in_err-reserve.result kept

pub returns-in-Some-clause-grow : goal.returns-in-Some-clause-grow
returns-in-Some-clause-grow c = names_stay c.args.names.now.entries

pub returns-clause-grow : goal.returns-clause-grow
returns-clause-grow c =
    names_opened c.args.names.now.entries c.reserve.new.self.entries c.open-name.new.self.entries c.open-name.result c.reserve.ensures.entries
    c.open-name.ensures.opened c.open-name.ensures.len
