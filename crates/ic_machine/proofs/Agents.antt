-- Agents that are taken out of their places, and spelled.
use Rattle.std.proofs.Common.{◌≡◌, ℕ, suc, ◌+◌, ◌<◌, ◌≤◌, ◌==◌, List, [], ◌∷◌, ◌++◌, Bool, true, false, Option, Some, length, take, drop, reverse, refl, ap, sym, subst, ◌∙◌, add-one, arith, sum_by}
use Rattle.std.specs.Option.{option_map_or}
use Rattle.std.proofs.Math.Seq.{take-append_seam, drop-append_seam}
use Rattle.ic_arena.specs.declared.word.Word.{Word}
use Rattle.ic_arena.specs.declared.word.TheConstants.{GIVEN}
use Rattle.ic_arena.specs.Piece.{Piece, agent_of, agent_with, room}
use Rattle.ic_arena.specs.Tables.{Blocks, Replaced}
use Rattle.ic_machine.specs.Held.{IsTagOf}
use Rattle.ic_machine.specs.Moving.{spelled_agent}
use Rattle.ic_machine.specs.Separate.{is_constant_tag}
use Rattle.ic_machine.specs.inner.Firing.{arities_of, heaps_pieces, table, Taken}
use Rattle.ic_machine.specs.inner.Moving.{PacksAgent}
use Rattle.ic_machine.proofs.Firings.{agent_tag, taken_first}
use Rattle.ic_machine.proofs.Heaps.{arity_at, tables_elsewhere}

pub not_both : (b : Bool) → b ≡ true → b ≡ false → ⊥
not_both b t f = cc

-- an agent whose symbol isn't known is at no place
pub unknown_nowhere : (hs : List Blocks) (a : Word) → length hs < a.tag → sum_by (room a) (heaps_pieces 0 hs) ≡ 0
unknown_nowhere hs a past = tables_elsewhere a 0 hs (λ k le lt q. omega arith)

-- one whose arity is 0 has no place
pub known_constant : (hs : List Blocks) (a : Word) (s : ℕ) → a.tag ≡ s + 1 → s < length hs → (table hs s).arity ≡ 0
    → is_constant_tag (arities_of hs) a.tag ≡ true
known_constant hs a s tag lt none =
    ap (is_constant_tag (arities_of hs)) (tag ∙ add-one s)
    ∙ ap (λ (o : Option ℕ). option_map_or (λ k. k == 0) o (suc s == GIVEN)) (arity_at hs s lt ∙ ap Some none)

-- and any other has one
pub known_agent : (hs : List Blocks) (a : Word) (s k : ℕ) → a.tag ≡ s + 1 → s < length hs → (table hs s).arity ≡ k → 1 ≤ k
    → IsTagOf (arities_of hs) a.tag k
known_agent hs a s k tag lt is some = record { symbol = s; is = tag; known = arity_at hs s lt ∙ ap Some is; some = some }

-- an agent without arguments is written as it is
pub plain_packed : (a : Word) (arities : List ℕ) (xs : List Piece) (ws vs ss : List Word)
    → (is_constant_tag arities a.tag ≡ false → ⊥) → vs ≡ ws ++ a ∷ [] → PacksAgent a arities xs xs ws vs ss ss
plain_packed a arities xs ws vs ss constant written = record {
  plain = λ e. (refl, written, refl);
  opened = λ e. absurd (constant e);
}

-- an agent with arguments is written before them
pub agent_packed : (hs gs : List Blocks) (a : Word) (s k : ℕ) (ws vs before mid after : List Word) → a.tag ≡ s + 1 → s < length hs
    → (table hs s).arity ≡ k → 1 ≤ k → Taken a k (heaps_pieces 0 hs) (heaps_pieces 0 gs) before mid
    → after ≡ take (length before) mid ++ reverse (drop (length before) mid) → vs ≡ ws ++ spelled_agent a ∷ []
    → PacksAgent a (arities_of hs) (heaps_pieces 0 hs) (heaps_pieces 0 gs) ws vs before after
agent_packed hs gs a s k ws vs before mid after tag lt is some t turned written = record {
  plain = λ e. absurd (not_both (is_constant_tag (arities_of hs) a.tag) e place);
  opened = λ e. (
    t.args,
    subst (λ (n : ℕ). IsTagOf (arities_of hs) a.tag n) (sym t.count) (known_agent hs a s k tag lt is some),
    taken_first (agent_of a t.args ∷ []) (heaps_pieces 0 hs) (heaps_pieces 0 gs) gone,
    written,
    turned ∙ (ap (λ (l : List Word). take (length before) l ++ reverse (drop (length before) l)) t.pushed
        ∙ (rw (take-append_seam before t.args, drop-append_seam before t.args) refl)),
  );
}
  where
    place : is_constant_tag (arities_of hs) a.tag ≡ false
    place = agent_tag (arities_of hs) a.tag s k tag (arity_at hs s lt ∙ ap Some is) some

    with_some : (vs : List Word) → 1 ≤ length vs → agent_with a vs ≡ agent_of a vs ∷ []
    with_some [] h = absurd (omega arith)
    with_some (v ∷ vs) h = refl

    gone : Replaced (agent_of a t.args ∷ []) [] (heaps_pieces 0 hs) (heaps_pieces 0 gs)
    gone =
        let count : length t.args ≡ k = t.count in
        subst (λ (l : List Piece). Replaced l [] (heaps_pieces 0 hs) (heaps_pieces 0 gs)) (with_some t.args (omega arith)) t.gone
