use Rattle.std.proofs.Common.{◌≡◌, ℕ, ◌<◌, ◌≤◌, inr, List, [], ◌∷◌, ◌++◌, Contains, length, map, refl, ap, sym, subst, ◌∙◌, append_assoc, arith}
use Rattle.std.specs.List.Sorted.{IsPermutation}
use Rattle.ic_arena.specs.declared.word.Word.{Word}
use Rattle.ic_arena.specs.declared.word.TheConstants.{FREE, IDLE}
use Rattle.ic_arena.specs.Word.{name_word}
use Rattle.ic_arena.specs.Piece.{waits}
use Rattle.ic_arena.specs.Tables.{Entries, Replaced, entry, names_pieces}
use Rattle.ic_machine.specs.declared.tables.Tables.{Tables}
use Rattle.ic_machine.specs.Moving.{CutEnd, Ends, end_word}
use Rattle.ic_machine.specs.inner.Firing.{arities_of, heaps_pieces}
use Rattle.ic_machine.specs.inner.Moving.{side_in, AreInHand, PacksTree}
use Rattle.ic_machine.proofs.Firings.{taken_first}
use Rattle.ic_machine.proofs.NameRooms.{has_entry}
use Rattle.ic_machine.proofs.Packing.{count_append, end_named, few_kept, first_name, named_there, shipped_hand, shipped_worth, worth_on}
use Rattle.ic_machine.proofs.Reading.{nothing_waits}
use Rattle.ic_machine.proofs.moving.ship_from.Goals as goal

-- the name of an end of a cut has an entry
end_entry : (t : Tables) (b : Ends) (e : CutEnd) → Contains b.ends e → AreInHand [] [] t b → e.name < length t.names.entries
end_entry t b e there hand =
    let named = end_named b.ends e there in
    let more = count_append (end_word e) (map end_word b.ends) [] in
    has_entry t.names.entries e.name
    (named_there (arities_of t.heaps.items) e.name (map end_word b.ends ++ []) t.names.entries t.heaps.items (omega arith) hand)

pub get-waiting-requires : goal.get-waiting-requires
get-waiting-requires c =
    end_entry c.args.tables.now c.args.borders.now (record { cut = c.args.cut; name = c.in-Some.name }) c.in-Some.ensures.found c.requires.named

-- the word that waits, with what is left
taken : (n : ℕ) (u : Word) (es fs : List Word) → u ≡ entry es n → Replaced (waits (name_word n) (entry es n) ∷ []) [] (names_pieces 0 es) (names_pieces 0 fs)
    → IsPermutation (names_pieces 0 es) (waits (name_word n) u ∷ names_pieces 0 fs)
taken n u es fs is freed =
    taken_first (waits (name_word n) u ∷ []) (names_pieces 0 es) (names_pieces 0 fs)
    (subst (λ (v : Word). Replaced (waits (name_word n) v ∷ []) [] (names_pieces 0 es) (names_pieces 0 fs)) (sym is) freed)

in_hand : (t : Tables) (ns : Entries) (b b' : Ends) (k n : ℕ) (u : Word) (others : List Word) → u ≡ entry t.names.entries n
    → Replaced (waits (name_word n) (entry t.names.entries n) ∷ []) [] (names_pieces 0 t.names.entries) (names_pieces 0 ns.entries)
    → IsPermutation b.ends (record { cut = k; name = n } ∷ b'.ends) → AreInHand [] others t b
    → AreInHand (u ∷ []) others (record t { names = ns }) b'
in_hand t ns b b' k n u others is freed less hand =
    shipped_hand (arities_of t.heaps.items) (record { cut = k; name = n }) u t.names.entries ns.entries (heaps_pieces 0 t.heaps.items) b.ends b'.ends
    others (taken n u t.names.entries ns.entries is freed) less hand

written : (before mid after : List Word) (k : ℕ) → mid ≡ before → after ≡ mid ++ name_word k ∷ [] → after ≡ before ++ name_word k ∷ []
written before mid after k same more = more ∙ ap (λ (l : List Word). l ++ name_word k ∷ []) same

pub pack-requires-clause-numbers : goal.pack-requires-clause-numbers
pack-requires-clause-numbers c =
    few_kept c.args.borders.now c.remove.new.self c.args.parcel.now.words.items c.push_reserved.new.self.items
    (shipped_worth c.args.cut c.in-Some.name c.args.borders.now c.remove.new.self c.args.parcel.now.words.items c.push_reserved.new.self.items
    c.remove.ensures.removed c.remove.ensures.numbers
    (written c.args.parcel.now.words.items c.reserve.new.self.items c.push_reserved.new.self.items c.args.cut c.in_ok-reserve.ensures.items
    c.push_reserved.ensures.items)) c.requires.numbers

pub pack-requires-clause-named : goal.pack-requires-clause-named
pack-requires-clause-named c =
    in_hand c.args.tables.now c.free.new.self c.args.borders.now c.remove.new.self c.args.cut c.in-Some.name c.get-waiting.result []
    c.get-waiting.ensures c.free.ensures.freed c.remove.ensures.removed c.requires.named

pub returns-then-waiting-ge-IDLE-clause-none : goal.returns-then-waiting-ge-IDLE-clause-none
returns-then-waiting-ge-IDLE-clause-none c = λ e. inr (
  c.in-Some.name,
  c.in-Some.ensures.found,
  λ w. nothing_waits c.args.tables.now.names.entries c.args.tables.now.heaps.items c.in-Some.name w
      (subst (λ (x : Word). IDLE ≤ x.tag) c.get-waiting.ensures c.if-waiting-ge-IDLE.true)
      (subst (λ (x : Word). x.tag ≤ FREE) c.get-waiting.ensures (omega arith)),
)

pub returns-in_err-pack-clause-left : goal.returns-in_err-pack-clause-left
returns-in_err-pack-clause-left c = λ others hand.
    c.in_err-pack.ensures.left others
    (in_hand c.args.tables.now c.free.new.self c.args.borders.now c.remove.new.self c.args.cut c.in-Some.name c.get-waiting.result others
    c.get-waiting.ensures c.free.ensures.freed c.remove.ensures.removed hand)

pub returns-clause-ships : goal.returns-clause-ships
returns-clause-ships c = λ e.
    let t : Tables = c.args.tables.now in
    let tree : PacksTree (arities_of t.heaps.items) c.get-waiting.result (side_in (record t { names = c.free.new.self }) c.remove.new.self)
    (side_in c.pack.new.tables c.pack.new.borders) c.push_reserved.new.self.items c.pack.new.parcel.words.items = c.in_ok-pack.ensures.packs in
    let words : List Word = c.args.parcel.now.words.items in
    record {
      end = record { cut = c.args.cut; name = c.in-Some.name };
      is = refl;
      word = c.get-waiting.result;
      middle = side_in (record t { names = c.free.new.self }) c.remove.new.self;
      taken = first_name t.names.entries c.free.new.self.entries (heaps_pieces 0 t.heaps.items)
          (waits (name_word c.in-Some.name) c.get-waiting.result) (taken c.in-Some.name c.get-waiting.result t.names.entries c.free.new.self.entries c.get-waiting.ensures c.free.ensures.freed);
      cut = c.remove.ensures.removed;
      more = tree.more;
      spelled = tree.spelled ∙ (ap (λ (l : List Word). l ++ tree.more) (written words c.reserve.new.self.items c.push_reserved.new.self.items c.args.cut
          c.in_ok-reserve.ensures.items c.push_reserved.ensures.items)
          ∙ append_assoc words (name_word c.args.cut ∷ []) tree.more);
      spells = tree.spells;
    }

pub returns-clause-named : goal.returns-clause-named
returns-clause-named c = λ others hand.
    c.in_ok-pack.ensures.named others
    (in_hand c.args.tables.now c.free.new.self c.args.borders.now c.remove.new.self c.args.cut c.in-Some.name c.get-waiting.result others
    c.get-waiting.ensures c.free.ensures.freed c.remove.ensures.removed hand)

pub returns-clause-left : goal.returns-clause-left
returns-clause-left c = λ others hand.
    c.in_ok-pack.ensures.left others
    (in_hand c.args.tables.now c.free.new.self c.args.borders.now c.remove.new.self c.args.cut c.in-Some.name c.get-waiting.result others
    c.get-waiting.ensures c.free.ensures.freed c.remove.ensures.removed hand)

pub returns-clause-worth : goal.returns-clause-worth
returns-clause-worth c =
    worth_on c.args.borders.now c.remove.new.self c.pack.new.borders c.args.parcel.now.words.items c.push_reserved.new.self.items
    c.pack.new.parcel.words.items
    (shipped_worth c.args.cut c.in-Some.name c.args.borders.now c.remove.new.self c.args.parcel.now.words.items c.push_reserved.new.self.items
    c.remove.ensures.removed c.remove.ensures.numbers
    (written c.args.parcel.now.words.items c.reserve.new.self.items c.push_reserved.new.self.items c.args.cut c.in_ok-reserve.ensures.items
    c.push_reserved.ensures.items)) c.in_ok-pack.ensures.worth
