use Rattle.std.proofs.Common.{◌≡◌, ℕ, List, [], ◌∷◌, ◌++◌, length, map, refl, ap, sym, subst, ◌∙◌, arith}
use Rattle.ic_arena.specs.declared.word.Word.{Word}
use Rattle.ic_arena.specs.declared.word.TheConstants.{NAME}
use Rattle.ic_arena.specs.Word.{name_word}
use Rattle.ic_arena.specs.Piece.{Piece}
use Rattle.ic_arena.specs.Tables.{Blocks, names_pieces}
use Rattle.ic_machine.specs.declared.tables.Tables.{Tables}
use Rattle.ic_machine.specs.Moving.{Ends, end_word}
use Rattle.ic_machine.specs.Separate.{IsSeparate}
use Rattle.ic_machine.specs.inner.Firing.{arities_of, heaps_pieces}
use Rattle.ic_machine.specs.inner.Moving.{places_in, side_in, AreInHand, AreLeft, IsUnderWay, PacksAgent}
use Rattle.ic_machine.proofs.NameRooms.{as_name}
use Rattle.ic_machine.proofs.Packing.{agent_goes, agent_in_hand, agent_lighter, agent_there, agent_worth, hand_left, last_named, name_goes, name_in_hand, name_lighter, named_there, way_ended, worth_on}
use Rattle.ic_machine.proofs.moving.pack.Goals as goal

-- the name that is on top
turned : (next : Word) (stack ss : List Word) → stack ≡ ss ++ next ∷ [] → next.tag ≡ NAME → stack ≡ ss ++ name_word next.index ∷ []
turned next stack ss popped tag = subst (λ (w : Word). stack ≡ ss ++ w ∷ []) (as_name next tag) popped

pub pack_name-requires-clause-there : goal.pack_name-requires-clause-there
pack_name-requires-clause-there c =
    let t : Tables = c.loop-next.tables in
    let i : ℕ = c.in-Some.next.index in
    let ss : List Word = c.pop.new.self.items in
    let rest : List Word = map end_word c.loop-next.borders.ends ++ [] in
    let hand = subst (λ (l : List Word). IsSeparate (arities_of t.heaps.items) (l ++ rest) (places_in t))
    (turned c.in-Some.next c.loop-next.parcel.stack.items ss c.in-Some.ensures.items c.if-next-eq-NAME.true)
    (c.loop-next.invariant.named [] c.requires.named) in
    named_there (arities_of t.heaps.items) i ((ss ++ name_word i ∷ []) ++ rest) t.names.entries t.heaps.items
    (last_named (name_word i) ss rest) hand

pub pack_agent-requires-clause-there : goal.pack_agent-requires-clause-there
pack_agent-requires-clause-there c = λ place.
    let t : Tables = c.loop-next.tables in
    let a : Word = c.in-Some.next in
    let ss : List Word = c.pop.new.self.items in
    let rest : List Word = map end_word c.loop-next.borders.ends ++ [] in
    let other : a.tag ≡ 0 → ⊥ = c.if-next-eq-NAME.false in
    let hand = subst (λ (l : List Word). IsSeparate (arities_of t.heaps.items) (l ++ rest) (places_in t)) c.in-Some.ensures.items
    (c.loop-next.invariant.named [] c.requires.named) in
    agent_there (arities_of t.heaps.items) a ((ss ++ a ∷ []) ++ rest) t.names.entries t.heaps.items (omega arith) place
    (last_named a ss rest) hand

-- a name was packed
pub loop-next-preserved-in-Continue-branch-2 : goal.loop-next-preserved-in-Continue-branch-2
loop-next-preserved-in-Continue-branch-2 c =
    let t : Tables = c.loop-next.tables in
    let first : Tables = c.args.tables.now in
    let old : Ends = c.loop-next.borders in
    let new : Ends = c.pack_name.new.borders in
    let i : ℕ = c.in-Some.next.index in
    let es : List Word = t.names.entries in
    let fs : List Word = c.pack_name.new.names.entries in
    let h : List Piece = heaps_pieces 0 t.heaps.items in
    let ws : List Word = c.loop-next.parcel.words.items in
    let vs : List Word = c.pack_name.new.parcel.words.items in
    let ss : List Word = c.pop.new.self.items in
    let ts : List Word = c.pack_name.new.parcel.stack.items in
    let start : List Word = c.args.parcel.now.words.items in
    let top = turned c.in-Some.next c.loop-next.parcel.stack.items ss c.in-Some.ensures.items c.if-next-eq-NAME.true in
    let packed = c.in_ok-pack_name.ensures.packed in
    record {
      spells = name_goes (arities_of first.heaps.items) (side_in first c.args.borders.now) c.args.word start i es fs h old.ends new.ends
          ws vs ss ts packed
          (subst (λ (l : List Word). IsUnderWay (arities_of first.heaps.items) (side_in first c.args.borders.now) (side_in t old) c.args.word start ws l)
          top c.loop-next.invariant.spells);
      named = λ others hand.
          name_in_hand (arities_of t.heaps.items) i es fs h old.ends new.ends ws vs ss ts others packed
          (subst (λ (l : List Word). IsSeparate (arities_of t.heaps.items) (l ++ (map end_word old.ends ++ others)) (places_in t)) top
          (c.loop-next.invariant.named others hand));
      worth = worth_on c.args.borders.now old new start ws vs c.loop-next.invariant.worth c.in_ok-pack_name.ensures.worth;
      size = record {
        names = c.in_ok-pack_name.ensures.len ∙ c.loop-next.invariant.size.names;
        blocks = c.loop-next.invariant.size.blocks;
        arities = c.loop-next.invariant.size.arities;
        pending = c.loop-next.invariant.size.pending;
        registers = c.loop-next.invariant.size.registers;
        spare = c.loop-next.invariant.size.spare;
      };
    }

pub loop-next-smaller-in-Continue-branch-2 : goal.loop-next-smaller-in-Continue-branch-2
loop-next-smaller-in-Continue-branch-2 c =
    let t : Tables = c.loop-next.tables in
    let ss : List Word = c.pop.new.self.items in
    let top = turned c.in-Some.next c.loop-next.parcel.stack.items ss c.in-Some.ensures.items c.if-next-eq-NAME.true in
    let long = ap (length {A = Word}) top in
    let less = name_lighter c.in-Some.next.index t.names.entries c.pack_name.new.names.entries (heaps_pieces 0 t.heaps.items)
    c.loop-next.borders.ends c.pack_name.new.borders.ends c.loop-next.parcel.words.items c.pack_name.new.parcel.words.items ss
    c.pack_name.new.parcel.stack.items c.in_ok-pack_name.ensures.packed in
    omega arith

-- an agent was packed
pub loop-next-preserved : goal.loop-next-preserved
loop-next-preserved c =
    let t : Tables = c.loop-next.tables in
    let first : Tables = c.args.tables.now in
    let b : Ends = c.loop-next.borders in
    let a : Word = c.in-Some.next in
    let n : List Piece = names_pieces 0 t.names.entries in
    let hs : List Blocks = t.heaps.items in
    let gs : List Blocks = c.pack_agent.new.heaps.items in
    let ws : List Word = c.loop-next.parcel.words.items in
    let vs : List Word = c.pack_agent.new.parcel.words.items in
    let ss : List Word = c.pop.new.self.items in
    let ts : List Word = c.pack_agent.new.parcel.stack.items in
    let start : List Word = c.args.parcel.now.words.items in
    let packed = c.in_ok-pack_agent.ensures.packed in
    let same = c.loop-next.invariant.size.arities in
    record {
      spells = agent_goes (arities_of first.heaps.items) (side_in first c.args.borders.now) c.args.word start a n
          (heaps_pieces 0 hs) (heaps_pieces 0 gs) b.ends ws vs ss ts
          (subst (λ (l : List ℕ). PacksAgent a l (heaps_pieces 0 hs) (heaps_pieces 0 gs) ws vs ss ts) same packed)
          (subst (λ (l : List Word). IsUnderWay (arities_of first.heaps.items) (side_in first c.args.borders.now) (side_in t b) c.args.word start ws l)
          c.in-Some.ensures.items c.loop-next.invariant.spells);
      named = λ others hand.
          subst (λ (l : List ℕ). IsSeparate l (ts ++ (map end_word b.ends ++ others)) (n ++ heaps_pieces 0 gs)) (sym c.in_ok-pack_agent.ensures.arities)
          (agent_in_hand (arities_of hs) a n (heaps_pieces 0 hs) (heaps_pieces 0 gs) ws vs ss ts (map end_word b.ends ++ others) packed
          (subst (λ (l : List Word). IsSeparate (arities_of hs) (l ++ (map end_word b.ends ++ others)) (places_in t)) c.in-Some.ensures.items
          (c.loop-next.invariant.named others hand)));
      worth = worth_on c.args.borders.now b b start ws vs c.loop-next.invariant.worth
          (agent_worth (arities_of hs) a (heaps_pieces 0 hs) (heaps_pieces 0 gs) b ws vs ss ts c.if-next-eq-NAME.false packed);
      size = record {
        names = c.loop-next.invariant.size.names;
        blocks = c.in_ok-pack_agent.ensures.counts ∙ c.loop-next.invariant.size.blocks;
        arities = c.in_ok-pack_agent.ensures.arities ∙ same;
        pending = c.loop-next.invariant.size.pending;
        registers = c.loop-next.invariant.size.registers;
        spare = c.loop-next.invariant.size.spare;
      };
    }

pub loop-next-smaller : goal.loop-next-smaller
loop-next-smaller c =
    let t : Tables = c.loop-next.tables in
    let ss : List Word = c.pop.new.self.items in
    let long = ap (length {A = Word}) c.in-Some.ensures.items in
    let less = agent_lighter (arities_of t.heaps.items) c.in-Some.next (names_pieces 0 t.names.entries) (heaps_pieces 0 t.heaps.items)
    (heaps_pieces 0 c.pack_agent.new.heaps.items) c.loop-next.parcel.words.items c.pack_agent.new.parcel.words.items ss
    c.pack_agent.new.parcel.stack.items c.in_ok-pack_agent.ensures.packed in
    omega arith

-- what is left where memory ran out
left_over : (words others : List Word) (t : Tables) (b : Ends) → AreInHand words others t b → AreLeft others t
left_over words others t b = hand_left (arities_of t.heaps.items) words (map end_word b.ends) others (places_in t)

pub returns-in_err-pack_name-clause-left : goal.returns-in_err-pack_name-clause-left
returns-in_err-pack_name-clause-left c = λ others hand.
    let t : Tables = c.loop-next.tables in
    subst (λ n. AreLeft others (record t { names = n })) (sym c.in_err-pack_name.ensures.same)
    (left_over c.loop-next.parcel.stack.items others t c.loop-next.borders (c.loop-next.invariant.named others hand))

pub returns-in_err-pack_agent-clause-left : goal.returns-in_err-pack_agent-clause-left
returns-in_err-pack_agent-clause-left c = λ others hand.
    let t : Tables = c.loop-next.tables in
    subst (λ h. AreLeft others (record t { heaps = h })) (sym c.in_err-pack_agent.ensures.same)
    (left_over c.loop-next.parcel.stack.items others t c.loop-next.borders (c.loop-next.invariant.named others hand))

-- nothing is on the stack
no_words : (ws : List Word) → length ws ≡ 0 → ws ≡ []
no_words [] e = refl
no_words (w ∷ ws) e = absurd (omega arith)

pub returns-clause-packs : goal.returns-clause-packs
returns-clause-packs c =
    let first : Tables = c.args.tables.now in
    let none : c.loop-next.parcel.stack.items ≡ [] =
    no_words c.loop-next.parcel.stack.items (omega (arith, c.in_default.ensures.cases.0, c.loop-next.parcel.stack.ok)) in
    way_ended (arities_of first.heaps.items) (side_in first c.args.borders.now) (side_in c.loop-next.tables c.loop-next.borders) c.args.word
    c.args.parcel.now.words.items c.loop-next.parcel.words.items c.loop-next.parcel.stack.items none c.loop-next.invariant.spells

pub returns-clause-left : goal.returns-clause-left
returns-clause-left c = λ others hand.
    left_over c.loop-next.parcel.stack.items others c.loop-next.tables c.loop-next.borders (c.loop-next.invariant.named others hand)
