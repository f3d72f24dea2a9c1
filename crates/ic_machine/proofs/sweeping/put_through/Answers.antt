use Rattle.std.proofs.Common.{◌≡◌, ◌≢◌, ℕ, List, [], ◌∷◌, ◌++◌, refl, sym, subst, ◌∙◌, arith}
use Rattle.std.proofs.lemmas.List.Sorted.{IsPermutation-refl}
use Rattle.ic_arena.specs.declared.word.Word.{Word}
use Rattle.ic_arena.specs.Word.{name_word}
use Rattle.ic_arena.specs.Piece.{Piece, waits}
use Rattle.ic_arena.specs.Tables.{Replaced, entry, names_pieces}
use Rattle.ic_machine.specs.Steps.{no_step}
use Rattle.ic_machine.proofs.Links.{steps_on}
use Rattle.ic_machine.proofs.NameRooms.{as_name}
use Rattle.ic_machine.proofs.Sweeps.{Joining, joining_fewer, joining_room, joining_steps, joining_through, named_entry}
use Rattle.ic_machine.proofs.sweeping.put_through.Goals as goal

pub join-init : goal.join-init
join-init c = record {
  steps = λ p rest.
      let xs : List Piece = names_pieces 0 c.args.names.now.entries ++ rest in
      no_step xs xs (IsPermutation-refl xs);
  room = c.requires.room;
  others = λ i h. h;
  fewer = omega arith;
  names = refl;
  memory = refl;
}

-- names of the facts of the two tests as in Places.has; to be read off the goals
pub get-waiting-requires : goal.get-waiting-requires
get-waiting-requires c =
    let there = c.requires.there in
    let same = c.join.invariant.names in
    named_entry c.join.names.entries c.args.name c.get-between.result.index c.join.invariant.room (omega (arith, there, same))
    (sym c.get-between.ensures ∙ as_name c.get-between.result c.if-between-ne-NAME.false)

-- what one turn does
joining : (c : goal.After-replace) → Joining c.args.name c.get-between.result.index c.get-waiting.result
    c.join.names.entries c.free.new.self.entries c.replace.new.self.entries
joining c =
    let old : List Word = c.join.names.entries in
    let mid : List Word = c.free.new.self.entries in
    let j : ℕ = c.get-between.result.index in
    let apart : j ≢ c.args.name = c.if-between-name.false in
    let is : entry old c.args.name ≡ name_word j = sym c.get-between.ensures ∙ as_name c.get-between.result c.if-between-ne-NAME.false in
    let kept : entry mid c.args.name ≡ entry old c.args.name = c.free.ensures.others c.args.name (λ same. apart (sym same)) in
    record {
      apart = apart;
      waits_for = is;
      is_waiting = sym c.get-waiting.ensures;
      word = omega (arith, c.if-waiting-ge-IDLE.false);
      gone = subst (λ (w : Word). Replaced (waits (name_word j) w ∷ []) [] (names_pieces 0 old) (names_pieces 0 mid))
          (sym c.get-waiting.ensures) c.free.ensures.freed;
      put = subst (λ (w : Word). Replaced (waits (name_word c.args.name) w ∷ []) (waits (name_word c.args.name) c.get-waiting.result ∷ [])
          (names_pieces 0 mid) (names_pieces 0 c.replace.new.self.entries)) (kept ∙ is) c.replace.ensures.replaced;
      free = c.free.ensures.is;
      kept = c.free.ensures.others;
      is_put = c.replace.ensures.is;
      stays = c.replace.ensures.others;
    }

pub join-preserved : goal.join-preserved
join-preserved c =
    let n : ℕ = c.args.name in
    let j : ℕ = c.get-between.result.index in
    let u : Word = c.get-waiting.result in
    let old : List Word = c.join.names.entries in
    let mid : List Word = c.free.new.self.entries in
    let new : List Word = c.replace.new.self.entries in
    let less = joining_fewer n j u old mid new (joining c) in
    record {
      steps = λ p rest. steps_on p (names_pieces 0 old ++ rest) (c.join.invariant.steps p rest) (joining_steps n j u old mid new (joining c) p rest);
      room = joining_room n j u old mid new (joining c) c.join.invariant.room;
      others = λ i h. joining_through n j u old mid new (joining c) i (c.join.invariant.others i h);
      fewer = omega (arith, less, c.join.invariant.fewer);
      names = c.replace.ensures.len ∙ c.free.ensures.len ∙ c.join.invariant.names;
      memory = c.replace.ensures.capacity ∙ c.free.ensures.capacity ∙ c.join.invariant.memory;
    }

pub join-smaller : goal.join-smaller
join-smaller c =
    let less = joining_fewer c.args.name c.get-between.result.index c.get-waiting.result c.join.names.entries c.free.new.self.entries
    c.replace.new.self.entries (joining c) in
    omega (arith, less)
