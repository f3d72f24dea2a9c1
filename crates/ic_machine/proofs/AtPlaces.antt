-- What the tables say is at places.
use Rattle.std.proofs.Common.{ℕ, zero, suc, ◌+◌, ◌==◌, List, [], ◌∷◌, ◌++◌, Bool, true, false, cond, drop, map, take}
use Rattle.std.specs.List.{AllByRecursion}
use Rattle.ic_arena.specs.declared.word.Word.{Word}
use Rattle.ic_arena.specs.declared.word.TheConstants.{IDLE, FREE}
use Rattle.ic_arena.specs.Word.{name_word, agent_word}
use Rattle.ic_arena.specs.Piece.{Piece, equated, idle, waits, agent_of}
use Rattle.ic_arena.specs.Tables.{Blocks, block_piece, blocks_from, blocks_pieces, entry_piece, names_pieces}
use Rattle.ic_machine.specs.declared.equation.Equation.{Equation}
use Rattle.ic_machine.specs.Net.{equated_of, IsAtPlace, IsPair, IsPairPiece}
use Rattle.ic_machine.specs.inner.Firing.{heaps_pieces}
use Rattle.ic_machine.specs.lemmas.FiringKeeps.{all_append, all_of}

either : (b : Bool) (xs ys : List Piece) → AllByRecursion IsAtPlace xs → AllByRecursion IsAtPlace ys
    → AllByRecursion IsAtPlace (cond b xs ys)
either true xs ys h k = h
either false xs ys h k = k

at_name : (i : ℕ) (w : Word) → AllByRecursion IsAtPlace (entry_piece i w)
at_name i w =
    either (w.tag == FREE) [] (cond (w.tag == IDLE) (idle (name_word i) ∷ []) (waits (name_word i) w ∷ [])) tt
    (either (w.tag == IDLE) (idle (name_word i) ∷ []) (waits (name_word i) w ∷ []) (tt, tt) (tt, tt))

at_names : (i : ℕ) (ws : List Word) → AllByRecursion IsAtPlace (names_pieces i ws)
at_names i [] = tt
at_names i (w ∷ ws) =
    all_append IsAtPlace (entry_piece i w) (names_pieces (i + 1) ws) (at_name i w) (at_names (i + 1) ws)

at_block : (a : Word) (ws : List Word) → AllByRecursion IsAtPlace (block_piece a ws)
at_block a [] = tt
at_block a (w ∷ ws) = either (w.tag == FREE) [] (agent_of a (w ∷ ws) ∷ []) tt (tt, tt)

at_blocks : (s k i n : ℕ) (ws : List Word) → AllByRecursion IsAtPlace (blocks_from s k i n ws)
at_blocks s k i zero ws = tt
at_blocks s k i (suc n) ws =
    all_append IsAtPlace (block_piece (agent_word s i) (take k ws)) (blocks_from s k (i + 1) n (drop k ws))
    (at_block (agent_word s i) (take k ws)) (at_blocks s k (i + 1) n (drop k ws))

at_agents : (s : ℕ) (hs : List Blocks) → AllByRecursion IsAtPlace (heaps_pieces s hs)
at_agents s [] = tt
at_agents s (b ∷ bs) =
    all_append IsAtPlace (blocks_pieces s b) (heaps_pieces (s + 1) bs)
    (at_blocks s b.arity 0 b.count b.words) (at_agents (s + 1) bs)

-- what is at a place is no equation
at_place : (p : Piece) → IsAtPlace p → IsPairPiece p
at_place (equated l r) h = absurd h
at_place (idle x) h = tt
at_place (waits x u) h = tt
at_place (agent_of a ws) h = tt

pairs_among : (es : List Equation) → AllByRecursion IsPair es → AllByRecursion IsPairPiece (map equated_of es)
pairs_among [] h = tt
pairs_among (e ∷ es) h = (h.0, pairs_among es h.1)

-- what the tables say, and pairs after it
pub tables_of_pairs : (ws : List Word) (hs : List Blocks) (ps us : List Equation) → AllByRecursion IsPair ps → AllByRecursion IsPair us
    → AllByRecursion IsPairPiece (names_pieces 0 ws ++ (heaps_pieces 0 hs ++ (map equated_of ps ++ map equated_of us)))
tables_of_pairs ws hs ps us h k =
    all_append IsPairPiece (names_pieces 0 ws) (heaps_pieces 0 hs ++ (map equated_of ps ++ map equated_of us))
    (all_of IsAtPlace IsPairPiece (names_pieces 0 ws) at_place (at_names 0 ws))
    (all_append IsPairPiece (heaps_pieces 0 hs) (map equated_of ps ++ map equated_of us)
    (all_of IsAtPlace IsPairPiece (heaps_pieces 0 hs) at_place (at_agents 0 hs))
    (all_append IsPairPiece (map equated_of ps) (map equated_of us) (pairs_among ps h) (pairs_among us k)))

-- the tables hold no equation
pub tables_at_places : (ws : List Word) (hs : List Blocks)
    → AllByRecursion IsAtPlace (names_pieces 0 ws ++ heaps_pieces 0 hs)
tables_at_places ws hs =
    all_append IsAtPlace (names_pieces 0 ws) (heaps_pieces 0 hs) (at_names 0 ws) (at_agents 0 hs)
