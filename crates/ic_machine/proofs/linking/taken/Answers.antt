use Rattle.std.proofs.Common.{◌≡◌, ◌<◌, ◌≤◌, ℕ, List, [], ◌∷◌, sym, subst, arith, sum_by}
use Rattle.ic_arena.specs.declared.word.Word.{Word}
use Rattle.ic_arena.specs.declared.word.TheConstants.{FREE, IDLE}
use Rattle.ic_arena.specs.Word.{name_word}
use Rattle.ic_arena.specs.Piece.{waits, room}
use Rattle.ic_arena.specs.Tables.{Replaced, entry, names_pieces}
use Rattle.ic_machine.proofs.NameRooms.{as_name, has_entry, not_free}
use Rattle.ic_machine.proofs.linking.taken.Goals as goal

pub get-waiting-requires : goal.get-waiting-requires
get-waiting-requires c =
    let ns : List Word = c.args.names.now.entries in
    let is : c.args.word ≡ name_word c.args.word.index = as_name c.args.word c.if-word-ne-NAME.false in
    has_entry ns c.args.word.index (subst (λ (w : Word). 1 ≤ sum_by (room w) (names_pieces 0 ns)) is (c.requires.room c.if-word-ne-NAME.false))

pub free-requires-clause-there : goal.free-requires-clause-there
free-requires-clause-there c =
    let ns : List Word = c.args.names.now.entries in
    let is : c.args.word ≡ name_word c.args.word.index = as_name c.args.word c.if-word-ne-NAME.false in
    has_entry ns c.args.word.index (subst (λ (w : Word). 1 ≤ sum_by (room w) (names_pieces 0 ns)) is (c.requires.room c.if-word-ne-NAME.false))

-- a word that waits for a name which has room is no mark
waiting_word : (ns : List Word) (i : ℕ) (w : Word) → 1 ≤ sum_by (room (name_word i)) (names_pieces 0 ns) → w ≡ entry ns i
    → (w.tag ≡ IDLE → ⊥) → w.tag ≤ FREE → w.tag < IDLE
waiting_word ns i w roomy is some most =
    let not_marked : w.tag ≡ FREE → ⊥ = λ e. not_free ns i roomy (subst (λ (v : Word). v.tag ≡ FREE) is e) in
    omega arith

pub free-requires-clause-waits : goal.free-requires-clause-waits
free-requires-clause-waits c =
    let ns : List Word = c.args.names.now.entries in
    let is : c.args.word ≡ name_word c.args.word.index = as_name c.args.word c.if-word-ne-NAME.false in
    subst (λ (v : Word). v.tag < IDLE) c.get-waiting.ensures
    (waiting_word ns c.args.word.index c.get-waiting.result
    (subst (λ (w : Word). 1 ≤ sum_by (room w) (names_pieces 0 ns)) is (c.requires.room c.if-word-ne-NAME.false))
    c.get-waiting.ensures c.if-waiting.false (omega arith))

pub returns-clause-taken : goal.returns-clause-taken
returns-clause-taken c =
    let ns : List Word = c.args.names.now.entries in
    let new : List Word = c.free.new.self.entries in
    let is : c.args.word ≡ name_word c.args.word.index = as_name c.args.word c.if-word-ne-NAME.false in
    record {
      named = c.if-word-ne-NAME.false;
      word = waiting_word ns c.args.word.index c.get-waiting.result
          (subst (λ (w : Word). 1 ≤ sum_by (room w) (names_pieces 0 ns)) is (c.requires.room c.if-word-ne-NAME.false))
          c.get-waiting.ensures c.if-waiting.false (omega arith);
      gone = subst (λ (x : Word). Replaced (waits x c.get-waiting.result ∷ []) [] (names_pieces 0 ns) (names_pieces 0 new)) (sym is)
          (subst (λ (v : Word). Replaced (waits (name_word c.args.word.index) v ∷ []) [] (names_pieces 0 ns) (names_pieces 0 new))
          (sym c.get-waiting.ensures) c.free.ensures.freed);
    }
