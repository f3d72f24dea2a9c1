-- Lemmas: what one call does is a step.
use Rattle.std.proofs.Common.{◌≡◌, ℕ, suc, ◌+◌, ◌-◌, ◌<◌, ◌==◌, List, [], ◌∷◌, ◌++◌, true, false, Option, None, Some, length, reverse, slice_get, refl, sym, ap, ◌∙◌, arith, subst as transport, true≢false as true_false}
use Rattle.std.specs.Prelude.{Contains, IsPermutation}
use Rattle.std.specs.List.{AllByRecursion}
use Rattle.std.specs.Option.{option_map_or}
use Rattle.std.specs.Cmp.{unsigned_Decides}
use Rattle.std.proofs.lemmas.List.{reverse-append, reverse-reverse}
use Rattle.std.proofs.lemmas.Option.{slice_get_within, slice_get_past, slice_get-get_or}
use Rattle.std.proofs.lemmas.List.Elements.{All-contains, All-from_recursion}
use Rattle.ic_arena.specs.declared.word.Word.{Word}
use Rattle.ic_arena.specs.declared.word.TheConstants.{NAME, GIVEN}
use Rattle.ic_arena.specs.Word.{name_word}
use Rattle.ic_arena.specs.Piece.{Piece, waits, agent_of}
use Rattle.ic_machine.specs.Held.{Held, IsTagOf, IsHeld, ArgumentsTaken}
use Rattle.ic_machine.specs.Separate.{is_constant_tag}
use Rattle.ic_meaning.specs.Nets.{IsAgentOf}
use Rattle.ic_readback.specs.declared.token.Token.{Token}
use Rattle.ic_readback.specs.declared.token.Token.TheVariants.{Name, Agent}
use Rattle.ic_readback.specs.inner.Expanding.{State, state, IsName, Step, follow, opened, plain, named, Steps}
use Rattle.ic_readback.proofs.Chains.{step_last}
use Rattle.ic_round.specs.lemmas.AnyOrder.{each_permuted as all_order}

pub all_there : {X : Type 0} (P : X → Type 0) (xs : List X) (x : X) → AllByRecursion P xs → Contains xs x → P x
all_there P xs x all there = All-contains P xs x (All-from_recursion P xs all) there

pub name_is : (w : Word) → w.tag ≡ NAME → w ≡ name_word w.index
name_is w e = λ i. record { tag = e i; index = w.index }

pub pushed : {X : Type 0} (xs : List X) (x : X) → reverse (xs ++ x ∷ []) ≡ x ∷ reverse xs
pushed xs x = reverse-append xs (x ∷ [])

pub follow_step : (arities : List ℕ) (ts : List Token) (w u : Word) (st new : List Word) (ps qs : List Piece) → w.tag ≡ NAME
    → IsPermutation ps (waits (name_word w.index) u ∷ qs) → new ≡ st ++ u ∷ []
    → Step arities (state ts (w ∷ reverse st) ps) (state ts (reverse new) qs)
follow_step arities ts w u st new ps qs tag taken stack =
    transport (λ l. Step arities (state ts (w ∷ reverse st) ps) (state ts l qs)) (sym (ap reverse stack ∙ pushed st u))
    (follow ts w u (reverse st) ps qs tag (transport (λ (v : Word). IsPermutation ps (waits v u ∷ qs)) (sym (name_is w tag)) taken))

pub agent_held : (arities : List ℕ) (ps qs : List Piece) (a : Word) (vs : List Word) → AllByRecursion (IsHeld arities) ps → IsPermutation ps (agent_of a vs ∷ qs)
    → IsAgentOf arities a.tag (length vs)
agent_held arities ps qs a vs held taken =
    let is : IsTagOf arities a.tag (length vs) = (all_order (IsHeld arities) ps (agent_of a vs ∷ qs) taken held).0 in
    record { symbol = is.symbol; is = is.is; known = is.known; some = is.some }

pub open_step : (ts new_ts : List Token) (w : Word) (st new_st : List Word) (old new : Held) → ArgumentsTaken w old new st new_st
    → AllByRecursion (IsHeld old.arities) old.pieces → new_ts ≡ ts ++ Agent (w.tag - 1) ∷ []
    → Step old.arities (state ts (w ∷ reverse st) old.pieces) (state new_ts (reverse new_st) new.pieces)
open_step ts new_ts w st new_st old new a held tokens =
    let vs : List Word = a.arguments in
    let stack : reverse new_st ≡ vs ++ reverse st =
    ap reverse a.pushed ∙ (reverse-append st (reverse vs) ∙ ap (λ l. l ++ reverse st) (reverse-reverse vs)) in
    transport (λ l. Step old.arities (state ts (w ∷ reverse st) old.pieces) (state l (reverse new_st) new.pieces)) (sym tokens)
    (transport (λ l. Step old.arities (state ts (w ∷ reverse st) old.pieces) (state (ts ++ Agent (w.tag - 1) ∷ []) l new.pieces)) (sym stack)
    (opened ts w vs (reverse st) old.pieces new.pieces (agent_held old.arities old.pieces new.pieces w vs held a.taken) a.taken))

pub plain_step : (arities : List ℕ) (ts new_ts : List Token) (w : Word) (ws : List Word) (ps : List Piece) → ¬ (w.tag ≡ NAME) → slice_get arities (w.tag - 1) ≡ Some 0
    → new_ts ≡ ts ++ Agent (w.tag - 1) ∷ [] → Step arities (state ts (w ∷ ws) ps) (state new_ts ws ps)
plain_step arities ts new_ts w ws ps other known tokens =
    let tag : w.tag ≡ (w.tag - 1) + 1 = (let differ : w.tag ≡ 0 → ⊥ = other in omega arith) in
    transport (λ l. Step arities (state ts (w ∷ ws) ps) (state l ws ps)) (sym tokens) (plain ts (w.tag - 1) w ws ps tag known)

pub name_step : (arities : List ℕ) (ts new_ts : List Token) (w : Word) (ws : List Word) (ps : List Piece) → IsName arities ps w
    → new_ts ≡ ts ++ Name w ∷ [] → Step arities (state ts (w ∷ ws) ps) (state new_ts ws ps)
name_step arities ts new_ts w ws ps is tokens = transport (λ l. Step arities (state ts (w ∷ ws) ps) (state l ws ps)) (sym tokens) (named ts w ws ps is)

-- ---- what is written as a name

pub idle_name : (arities : List ℕ) (w : Word) (ps : List Piece) → w.tag ≡ NAME → ((u : Word) → ¬ Contains ps (waits (name_word w.index) u)) → IsName arities ps w
idle_name arities w ps tag none = record {
  given = λ e. absurd (true_false (sym e ∙ not_constant));
  waits_not = λ same u. transport (λ (v : Word). ¬ Contains ps (waits v u)) (sym (name_is w tag)) (none u);
  agent_not = λ other. absurd (other tag);
}
  where
    not_constant : is_constant_tag arities w.tag ≡ false
    not_constant = rw tag refl

pub unknown_name : (arities : List ℕ) (w : Word) (ps : List Piece) → ¬ (w.tag ≡ NAME) → length arities < w.tag → AllByRecursion (IsHeld arities) ps → IsName arities ps w
unknown_name arities w ps other high held = record {
  given = λ e. (unsigned_Decides w.tag GIVEN).0 (sym unknown ∙ e);
  waits_not = λ same. absurd (other same);
  agent_not = λ differ vs there. not_there vs there;
}
  where
    tag : w.tag ≡ suc (w.tag - 1)
    tag = let differ : w.tag ≡ 0 → ⊥ = other in omega arith

    unknown : is_constant_tag arities w.tag ≡ (w.tag == GIVEN)
    unknown =
        ap (is_constant_tag arities) tag
        ∙ (ap (λ (o : Option ℕ). option_map_or (λ k. k == 0) o (suc (w.tag - 1) == GIVEN)) (slice_get_past arities (w.tag - 1) (omega (arith, high, tag)))
        ∙ ap (λ (t : ℕ). t == GIVEN) (sym tag))

    not_there : (vs : List Word) → ¬ Contains ps (agent_of w vs)
    not_there vs there =
        let is : IsTagOf arities w.tag (length vs) = held_there (agent_of w vs) there in
        let low = slice_get_within arities is.symbol (length vs) is.known in
        let e = is.is in
        absurd (omega arith)
      where
        held_there : (p : Piece) → Contains ps p → IsHeld arities p
        held_there p here = all_there (IsHeld arities) ps p held here

pub agent_name : (arities : List ℕ) (w : Word) (ps : List Piece) → ¬ (w.tag ≡ NAME) → ¬ (length arities < w.tag) → ¬ (slice_get arities (w.tag - 1) ≡ Some 0)
    → ((vs : List Word) → ¬ Contains ps (agent_of w vs)) → IsName arities ps w
agent_name arities w ps other known not_plain none = record {
  given = λ e. absurd (known_one (slice_get arities (w.tag - 1)) refl (sym (ap (is_constant_tag arities) tag) ∙ e));
  waits_not = λ same. absurd (other same);
  agent_not = λ differ. none;
}
  where
    tag : w.tag ≡ suc (w.tag - 1)
    tag = let differ : w.tag ≡ 0 → ⊥ = other in omega arith

    known_one : (o : Option ℕ) → slice_get arities (w.tag - 1) ≡ o → option_map_or (λ k. k == 0) (slice_get arities (w.tag - 1)) (suc (w.tag - 1) == GIVEN) ≡ true → ⊥
    known_one None e is = none_some (sym e ∙ slice_get-get_or arities (w.tag - 1) 0 (let low = known in omega (arith, low, tag)))
      where
        none_some : {k : ℕ} → None ≡ Some k → ⊥
        none_some e = cc
    known_one (Some k) e is =
        let zero_one : (k == 0) ≡ true = ap (λ (o : Option ℕ). option_map_or (λ k. k == 0) o (suc (w.tag - 1) == GIVEN)) (sym e) ∙ is in
        not_plain (e ∙ ap Some ((unsigned_Decides k 0).0 zero_one))

-- where places and the stack are as they were
pub same_places : (arities : List ℕ) (ts new_ts : List Token) (w : Word) (ws new_ws : List Word) (old new : Held) → new ≡ old
    → Step arities (state ts (w ∷ ws) old.pieces) (state new_ts new_ws old.pieces) → Step arities (state ts (w ∷ ws) old.pieces) (state new_ts new_ws new.pieces)
same_places arities ts new_ts w ws new_ws old new same step =
    transport (λ (h : Held). Step arities (state ts (w ∷ ws) old.pieces) (state new_ts new_ws h.pieces)) (sym same) step

pub same_all : (arities : List ℕ) (ts new_ts : List Token) (w : Word) (st new_st : List Word) (old new : Held) → new ≡ old → new_st ≡ st
    → Step arities (state ts (w ∷ reverse st) old.pieces) (state new_ts (reverse st) old.pieces)
    → Step arities (state ts (w ∷ reverse st) old.pieces) (state new_ts (reverse new_st) new.pieces)
same_all arities ts new_ts w st new_st old new same stack step =
    transport (λ l. Step arities (state ts (w ∷ reverse st) old.pieces) (state new_ts (reverse l) new.pieces)) (sym stack)
    (same_places arities ts new_ts w (reverse st) (reverse st) old new same step)

-- a word that is popped is the first of those that are to be put together
pub popped_step : (arities : List ℕ) (ts : List Token) (w : Word) (st rest : List Word) (ps : List Piece) (t : State) → st ≡ rest ++ w ∷ []
    → Step arities (state ts (w ∷ reverse rest) ps) t → Step arities (state ts (reverse st) ps) t
popped_step arities ts w st rest ps t stack step =
    transport (λ l. Step arities (state ts l ps) t) (sym (ap reverse stack ∙ pushed rest w)) step

pub steps_popped : (arities as_before : List ℕ) (s : State) (ts : List Token) (w : Word) (st rest : List Word) (ps : List Piece) (t : State) → as_before ≡ arities
    → st ≡ rest ++ w ∷ [] → Steps arities s (state ts (reverse st) ps) → Step as_before (state ts (w ∷ reverse rest) ps) t → Steps arities s t
steps_popped arities as_before s ts w st rest ps t same stack steps step =
    step_last arities s (state ts (reverse st) ps) t steps
    (popped_step arities ts w st rest ps t stack (transport (λ a. Step a (state ts (w ∷ reverse rest) ps) t) same step))
