use Rattle.std.proofs.Common.{◌≡◌, List, [], ◌∷◌, ◌++◌, map, ap, subst, sym, ◌∙◌, refl}
use Rattle.std.proofs.lemmas.List.Sorted.{IsPermutation-refl}
use Rattle.ic_arena.specs.declared.word.Word.{Word}
use Rattle.ic_arena.specs.Piece.{Piece, equated, waits}
use Rattle.ic_arena.specs.Tables.{Entries, Replaced, names_pieces}
use Rattle.ic_machine.specs.declared.equation.Equation.{Equation}
use Rattle.ic_machine.specs.Net.{equated_of}
use Rattle.ic_machine.specs.Plan.{Plans}
use Rattle.ic_machine.specs.Steps.{Steps, no_step}
use Rattle.ic_machine.specs.inner.Linking.{Meeting}
use Rattle.ic_machine.proofs.Links.{meeting, meets_right, named_turned, side_room, steps_on}
use Rattle.ic_machine.proofs.linking.link.Goals as goal

pub follow-init : goal.follow-init
follow-init g c = record {
  steps = λ p rest.
      let xs : List Piece = equated_of c.args.equation ∷ (names_pieces 0 c.args.names.now.entries ++ rest) in
      no_step xs xs (IsPermutation-refl xs);
  pair = λ e. (refl, refl);
  named = c.requires.named;
  names = refl;
  memory = refl;
  pending = refl;
  len = refl;
  capacity = refl;
}

pub taken-requires : goal.taken-requires
taken-requires g c = record { room = side_room c.follow.left c.follow.right c.follow.names.entries c.follow.invariant.named }

-- what waited for the left side takes its place
pub follow-preserved-in-Some : goal.follow-preserved-in-Some
follow-preserved-in-Some g c =
    let l : Word = c.follow.left in
    let r : Word = c.follow.right in
    let u : Word = c.in-Some.waiting in
    let old : List Word = c.follow.names.entries in
    let new : List Word = c.taken.new.names.entries in
    let met : Meeting l r u old new = meeting l r u old new c.follow.invariant.named c.in-Some.ensures.taken.word c.in-Some.ensures.taken.gone in
    record {
      steps = λ p rest. steps_on p (equated l r ∷ (names_pieces 0 old ++ rest)) (c.follow.invariant.steps p rest) (met.steps p rest);
      pair = λ e. absurd (e.0 (ap (λ (w : Word). w.tag) (sym (c.follow.invariant.pair e).0) ∙ c.in-Some.ensures.taken.named));
      named = met.named;
      names = c.taken.ensures.names ∙ c.follow.invariant.names;
      memory = c.taken.ensures.memory ∙ c.follow.invariant.memory;
      pending = c.follow.invariant.pending;
      len = c.follow.invariant.len;
      capacity = c.follow.invariant.capacity;
    }

pub taken-requires-then-left-eq-NAME : goal.taken-requires-then-left-eq-NAME
taken-requires-then-left-eq-NAME g c =
    let l : Word = c.follow.left in
    let r : Word = c.follow.right in
    record {
      room = rw c.in_default.ensures.same
          (side_room r l c.follow.names.entries (named_turned l r c.follow.names.entries c.follow.invariant.named));
    }

pub taken-requires-then-right-eq-NAME : goal.taken-requires-then-right-eq-NAME
taken-requires-then-right-eq-NAME g c =
    let l : Word = c.follow.left in
    let r : Word = c.follow.right in
    record { room = side_room r l c.follow.names.entries (named_turned l r c.follow.names.entries c.follow.invariant.named) }

-- what waited for the right side does
pub follow-preserved-in-Some-taken : goal.follow-preserved-in-Some-taken
follow-preserved-in-Some-taken g c =
    let l : Word = c.follow.left in
    let r : Word = c.follow.right in
    let u : Word = c.in-Some-taken.waiting in
    let old : List Word = c.follow.names.entries in
    let new : List Word = c.taken-then-left-eq-NAME.new.names.entries in
    let met : Meeting r l u old new = meeting r l u old new (named_turned l r old c.follow.invariant.named)
    c.in-Some-taken.ensures.taken.word
    (subst (λ (n : Entries). Replaced (waits r u ∷ []) [] (names_pieces 0 n.entries) (names_pieces 0 new)) c.in_default.ensures.same
    c.in-Some-taken.ensures.taken.gone) in
    record {
      steps = λ p rest. steps_on p (equated l r ∷ (names_pieces 0 old ++ rest)) (c.follow.invariant.steps p rest)
          (meets_right p l r u (names_pieces 0 old) (names_pieces 0 new) rest met.steps);
      pair = λ e. absurd (e.1 (ap (λ (w : Word). w.tag) (sym (c.follow.invariant.pair e).1) ∙ c.in-Some-taken.ensures.taken.named));
      named = named_turned u l new met.named;
      names = c.taken-then-left-eq-NAME.ensures.names ∙ c.taken.ensures.names ∙ c.follow.invariant.names;
      memory = c.taken-then-left-eq-NAME.ensures.memory ∙ c.taken.ensures.memory ∙ c.follow.invariant.memory;
      pending = c.follow.invariant.pending;
      len = c.follow.invariant.len;
      capacity = c.follow.invariant.capacity;
    }

pub follow-preserved : goal.follow-preserved
follow-preserved g c =
    let l : Word = c.follow.left in
    let r : Word = c.follow.right in
    let u : Word = c.in-Some-taken-2.waiting in
    let old : List Word = c.follow.names.entries in
    let new : List Word = c.taken-then-right-eq-NAME.new.names.entries in
    let met : Meeting r l u old new = meeting r l u old new (named_turned l r old c.follow.invariant.named)
    c.in-Some-taken-2.ensures.taken.word c.in-Some-taken-2.ensures.taken.gone in
    record {
      steps = λ p rest. steps_on p (equated l r ∷ (names_pieces 0 old ++ rest)) (c.follow.invariant.steps p rest)
          (meets_right p l r u (names_pieces 0 old) (names_pieces 0 new) rest met.steps);
      pair = λ e. absurd (e.1 (ap (λ (w : Word). w.tag) (sym (c.follow.invariant.pair e).1) ∙ c.in-Some-taken-2.ensures.taken.named));
      named = named_turned u l new met.named;
      names = c.taken-then-right-eq-NAME.ensures.names ∙ c.follow.invariant.names;
      memory = c.taken-then-right-eq-NAME.ensures.memory ∙ c.follow.invariant.memory;
      pending = c.follow.invariant.pending;
      len = c.follow.invariant.len;
      capacity = c.follow.invariant.capacity;
    }

-- ---- ends: the names are those with which the loop began, and so are the pending pairs

module _ (p : Plans) (l r : Word) (xs : List Piece) (ns ms : Entries) (same : ms ≡ ns) (end : List Piece) where
  pub settled : (es fs : List Equation) (rest : List Piece) → fs ≡ es
      → Steps p [] xs (equated l r ∷ (names_pieces 0 ns.entries ++ (map equated_of es ++ rest)))
      → Steps p [] (equated l r ∷ (names_pieces 0 ms.entries ++ (map equated_of fs ++ rest))) end → Steps p [] xs end
  settled es fs rest pending before after =
      let ys : List Piece = equated l r ∷ (names_pieces 0 ns.entries ++ (map equated_of es ++ rest)) in
      steps_on p ys before
      (subst (λ (e : List Equation). Steps p [] (equated l r ∷ (names_pieces 0 ns.entries ++ (map equated_of e ++ rest))) end) pending
      (subst (λ (n : Entries). Steps p [] (equated l r ∷ (names_pieces 0 n.entries ++ (map equated_of fs ++ rest))) end) same after))

pub returns-then-left-eq-NAME-clause-steps : goal.returns-then-left-eq-NAME-clause-steps
returns-then-left-eq-NAME-clause-steps g c = λ p rest.
    settled p c.follow.left c.follow.right _ c.follow.names _ (c.in_default-taken.ensures.same ∙ c.in_default.ensures.same) _
    c.args.pending.now.items c.follow.pending.items rest c.follow.invariant.pending
    (c.follow.invariant.steps p (map equated_of c.args.pending.now.items ++ rest)) (c.settle.ensures.steps p rest)

pub returns-then-left-eq-NAME-clause-bare : goal.returns-then-left-eq-NAME-clause-bare
returns-then-left-eq-NAME-clause-bare g c = λ p rest more is.
    settled p c.follow.left c.follow.right _ c.follow.names _ (c.in_default-taken.ensures.same ∙ c.in_default.ensures.same) _
    [] [] rest refl (c.follow.invariant.steps p rest)
    (c.settle.ensures.bare p rest more (is ∙ ap (λ (e : List Equation). e ++ more) (sym c.follow.invariant.pending)))

pub returns-then-right-eq-NAME-clause-steps : goal.returns-then-right-eq-NAME-clause-steps
returns-then-right-eq-NAME-clause-steps g c = λ p rest.
    settled p c.follow.left c.follow.right _ c.follow.names _ c.in_default-taken-2.ensures.same _
    c.args.pending.now.items c.follow.pending.items rest c.follow.invariant.pending
    (c.follow.invariant.steps p (map equated_of c.args.pending.now.items ++ rest)) (c.settle-then-right-eq-NAME.ensures.steps p rest)

pub returns-then-right-eq-NAME-clause-bare : goal.returns-then-right-eq-NAME-clause-bare
returns-then-right-eq-NAME-clause-bare g c = λ p rest more is.
    settled p c.follow.left c.follow.right _ c.follow.names _ c.in_default-taken-2.ensures.same _
    [] [] rest refl (c.follow.invariant.steps p rest)
    (c.settle-then-right-eq-NAME.ensures.bare p rest more (is ∙ ap (λ (e : List Equation). e ++ more) (sym c.follow.invariant.pending)))

pub returns-in-follow-clause-steps : goal.returns-in-follow-clause-steps
returns-in-follow-clause-steps g c = λ p rest.
    settled p c.follow.left c.follow.right _ c.follow.names c.follow.names refl _
    c.args.pending.now.items c.follow.pending.items rest c.follow.invariant.pending
    (c.follow.invariant.steps p (map equated_of c.args.pending.now.items ++ rest)) (c.settle-in-follow.ensures.steps p rest)

pub returns-in-follow-clause-bare : goal.returns-in-follow-clause-bare
returns-in-follow-clause-bare g c = λ p rest more is.
    settled p c.follow.left c.follow.right _ c.follow.names c.follow.names refl _
    [] [] rest refl (c.follow.invariant.steps p rest)
    (c.settle-in-follow.ensures.bare p rest more (is ∙ ap (λ (e : List Equation). e ++ more) (sym c.follow.invariant.pending)))
