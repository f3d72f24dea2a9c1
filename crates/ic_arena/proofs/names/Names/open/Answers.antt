use Rattle.std.proofs.Common.{◌≡◌, ◌-◌, ◌+◌, ◌<◌, ℕ, suc, List, [], ◌∷◌, ◌++◌, length, take, sym, subst, arith, max, slice_set}
use Rattle.std.proofs.lemmas.List.{length-take-le, take_more_set}
use Rattle.ic_arena.specs.declared.word.Word.{Word}
use Rattle.ic_arena.specs.declared.word.TheConstants.{IDLE}
use Rattle.ic_arena.specs.Word.{name_word}
use Rattle.ic_arena.specs.Piece.{idle}
use Rattle.ic_arena.specs.Tables.{Entries, Replaced, names_pieces}
use Rattle.ic_arena.specs.inner.Free.{AreFound, AreHeld}
use Rattle.ic_arena.proofs.Found.{held_some, held_used}
use Rattle.ic_arena.proofs.Front.{front_below, front_set}
use Rattle.ic_arena.proofs.Full.{names_again, names_more}
use Rattle.ic_arena.proofs.NamesPieces.{opened_again, opened_after}
use Rattle.ic_arena.proofs.names.Names.open.Goals as goal

pub returns-then-self-eq0-clause-opened : goal.returns-then-self-eq0-clause-opened
returns-then-self-eq0-clause-opened c =
    let old = c.self.inside in
    let ws : List Word = take old.count old.entries.items in
    let mark : Word = record { tag = IDLE; index = c.index_mut.result.now.index } in
    let long : length ws ≡ old.count = length-take-le old.count old.entries.items c.self.invariant.there in
    let room : length ws < length old.entries.items = subst (λ (v : Entries). length v.entries < v.capacity) (sym c.self.view_is) c.requires.room in
    let after : Replaced [] (idle (name_word old.count) ∷ []) (names_pieces 0 ws) (names_pieces 0 (ws ++ mark ∷ [])) =
    subst (λ (n : ℕ). Replaced [] (idle (name_word n) ∷ []) (names_pieces 0 ws) (names_pieces 0 (ws ++ mark ∷ []))) long (opened_after ws c.index_mut.result.now.index) in
    subst (λ (v : Entries). Replaced [] (idle (name_word old.count) ∷ []) (names_pieces 0 v.entries)
    (names_pieces 0 (take (old.count + 1) (slice_set old.entries.items old.count mark)))) c.self.view_is
    (subst (λ (l : List Word). Replaced [] (idle (name_word old.count) ∷ []) (names_pieces 0 ws) (names_pieces 0 l))
    (sym (take_more_set old.entries.items old.count mark (omega arith))) after)

pub returns-then-self-eq0-clause-len : goal.returns-then-self-eq0-clause-len
returns-then-self-eq0-clause-len c =
    let old = c.self.inside in
    let ws : List Word = take old.count old.entries.items in
    let mark : Word = record { tag = IDLE; index = c.index_mut.result.now.index } in
    let long : length ws ≡ old.count = length-take-le old.count old.entries.items c.self.invariant.there in
    let room : length ws < length old.entries.items = subst (λ (v : Entries). length v.entries < v.capacity) (sym c.self.view_is) c.requires.room in
    let none : AreFound 0 ws old.free = subst (λ (n : ℕ). AreFound n ws old.free) c.if-self-eq0.true c.self.invariant.found in
    subst (λ (v : Entries). length (take (old.count + 1) (slice_set old.entries.items old.count mark))
    ≡ max (length v.entries) (length (names_pieces 0 (take (old.count + 1) (slice_set old.entries.items old.count mark))))) c.self.view_is
    (subst (λ (l : List Word). length l ≡ max (length ws) (length (names_pieces 0 l)))
    (sym (take_more_set old.entries.items old.count mark (omega arith))) (names_more ws mark (λ e. omega arith) none.1))

pub invariant_of-self-2 : goal.invariant_of-self-2
invariant_of-self-2 c =
    let old = c.self.inside in
    subst (λ (w : Word). AreHeld old.count (old.unused - 1) (slice_set old.entries.items old.free (record { tag = IDLE; index = c.index_mut-2.result.now.index })) w.index)
    (sym c.index.ensures)
    (held_used old.count old.unused old.entries.items old.free (record { tag = IDLE; index = c.index_mut-2.result.now.index }) c.index.result.now
    (λ e. omega arith) c.self.invariant c.if-self-eq0.false)

pub returns-clause-opened : goal.returns-clause-opened
returns-clause-opened c =
    let old = c.self.inside in
    let ws : List Word = take old.count old.entries.items in
    let mark : Word = record { tag = IDLE; index = c.index_mut-2.result.now.index } in
    let found : AreFound (suc (old.unused - 1)) ws old.free =
    held_some old.count old.unused old.entries.items old.free c.self.invariant c.if-self-eq0.false in
    let there : old.free < old.count = front_below old.count old.free old.entries.items found.0 in
    subst (λ (v : Entries). Replaced [] (idle (name_word old.free) ∷ []) (names_pieces 0 v.entries)
    (names_pieces 0 (take old.count (slice_set old.entries.items old.free mark)))) c.self.view_is
    (subst (λ (l : List Word). Replaced [] (idle (name_word old.free) ∷ []) (names_pieces 0 ws) (names_pieces 0 l))
    (sym (front_set old.count old.free old.entries.items mark there)) (opened_again ws old.free c.index_mut-2.result.now.index found.0 found.1))

pub returns-clause-len : goal.returns-clause-len
returns-clause-len c =
    let old = c.self.inside in
    let ws : List Word = take old.count old.entries.items in
    let mark : Word = record { tag = IDLE; index = c.index_mut-2.result.now.index } in
    let found : AreFound (suc (old.unused - 1)) ws old.free =
    held_some old.count old.unused old.entries.items old.free c.self.invariant c.if-self-eq0.false in
    let there : old.free < old.count = front_below old.count old.free old.entries.items found.0 in
    let new : List Word = take old.count (slice_set old.entries.items old.free mark) in
    subst (λ (v : Entries). length new ≡ max (length v.entries) (length (names_pieces 0 new))) c.self.view_is
    (subst (λ (l : List Word). length l ≡ max (length ws) (length (names_pieces 0 l)))
    (sym (front_set old.count old.free old.entries.items mark there)) (names_again ws old.free mark))
