-- Lemmas: the symbols of the first equation of two agents are known, and its text is told by them.
use Rattle.std.proofs.Common.{◌≡◌, ℕ, ◌<◌, List, [], ◌∷◌, ◌++◌, ◌&&◌, true, Option, None, Some, IsTrue, cond, length, refl, sym, ap, ◌∙◌, subst}
use Rattle.std.specs.Prelude.{option_map, codes}
use Rattle.std.specs.Option.{option_map_or}
use Rattle.std.specs.List.{slice_get, find, list_all}
use Rattle.std.proofs.lemmas.Option.{slice_get_within}
use Rattle.std.proofs.lemmas.Bool.{and_parts, false≢true}
use Rattle.ic_term.specs.Symbol.{Symbol, symbol_text, has_arity, is_over, is_tree_over, is_pair_over, are_trees_over}
use Rattle.ic_term.specs.Configuration.{Configuration}
use Rattle.ic_term.specs.Tree.{Tree, Trees, name, agent, list_of, Pair}
use Rattle.ic_text.specs.Text.{text_or_none}
use Rattle.ic_flat_round.specs.Facing.{symbols_of, first_facing}
use Rattle.ic_streams.specs.Stuck.{is_agent, is_of_agents, pair_text, stuck_text, symbol_of}

known : (ss : List Symbol) (s n : ℕ) → has_arity n (slice_get ss s) ≡ true → s < length ss
known ss s n fits = at (slice_get ss s) refl
  where
    at : (o : Option Symbol) → slice_get ss s ≡ o → s < length ss
    at None e = absurd (false≢true (sym (ap (has_arity n) e) ∙ fits))
    at (Some x) e = slice_get_within ss s x e

agent_known : (ss : List Symbol) (s : ℕ) (ts : Trees) → is_tree_over ss (agent s ts) ≡ true → s < length ss
agent_known ss s ts over = known ss s (length (list_of ts)) (and_parts (has_arity (length (list_of ts)) (slice_get ss s)) (are_trees_over ss ts) over).0

-- both symbols of two agents are known
abbrev pub AreKnown : List Symbol → ℕ × ℕ → Type 0
AreKnown ss s = (s.0 < length ss) × (s.1 < length ss)

-- these symbols, or else others
abbrev first_of : Option (ℕ × ℕ) → Option (ℕ × ℕ) → Option (ℕ × ℕ)
first_of o rest = option_map_or (λ (x : ℕ × ℕ). Some x) o rest

known_of : (ss : List Symbol) (t u : Tree) (s : ℕ × ℕ) (rest : Option (ℕ × ℕ)) → is_tree_over ss t ≡ true → is_tree_over ss u ≡ true
    → (rest ≡ Some s → AreKnown ss s) → first_of (symbols_of t u) rest ≡ Some s → AreKnown ss s
known_of ss (name n) u s rest left right later e = later e
known_of ss (agent a ts) (name n) s rest left right later e = later e
known_of ss (agent a ts) (agent b us) s rest left right later e =
    let first : a ≡ s.0 = ap (λ (o : Option (ℕ × ℕ)). option_map_or (λ (x : ℕ × ℕ). x.0) o a) e in
    let second : b ≡ s.1 = ap (λ (o : Option (ℕ × ℕ)). option_map_or (λ (x : ℕ × ℕ). x.1) o b) e in
    (subst (λ (n : ℕ). n < length ss) first (agent_known ss a ts left), subst (λ (n : ℕ). n < length ss) second (agent_known ss b us right))

known_in : (ss : List Symbol) (s : ℕ × ℕ) (ps : List Pair) → list_all (is_pair_over ss) ps ≡ true → first_facing ps ≡ Some s → AreKnown ss s
known_in ss s [] over e = cc
known_in ss s (p ∷ ps) over e =
    let all = and_parts (is_pair_over ss p) (list_all (is_pair_over ss) ps) over in
    let both = and_parts (is_tree_over ss p.left) (is_tree_over ss p.right) all.0 in
    known_of ss p.left p.right s (first_facing ps) both.0 both.1 (known_in ss s ps all.1) e

-- the symbols of the first equation of two agents are known
pub facing_known : (ss : List Symbol) (c : Configuration) (s : ℕ × ℕ) → IsTrue (is_over ss c) → Some s ≡ first_facing c.equations → AreKnown ss s
facing_known ss c s over e = known_in ss s c.equations (and_parts (list_all (is_tree_over ss) c.interface) (list_all (is_pair_over ss) c.equations) over).1 (sym e)

-- the text of two symbols
abbrev pub facing_text : List Symbol → ℕ × ℕ → List ℕ
facing_text ss s = text_or_none (slice_get ss s.0) ++ codes "><" ++ text_or_none (slice_get ss s.1)

-- the text of an equation of two agents, or else another
told_of : (ss : List Symbol) (t u : Tree) (p : Pair) (rest : Option (ℕ × ℕ)) (later : Option Pair) → p.left ≡ t → p.right ≡ u
    → option_map (facing_text ss) rest ≡ option_map (pair_text ss) later
    → option_map (facing_text ss) (first_of (symbols_of t u) rest) ≡ option_map (pair_text ss) (cond (is_agent t && is_agent u) (Some p) later)
told_of ss (name n) u p rest later l r same = same
told_of ss (agent a ts) (name n) p rest later l r same = same
told_of ss (agent a ts) (agent b us) p rest later l r same = λ i. Some (symbol_of ss (sym l i) ++ codes "><" ++ symbol_of ss (sym r i))

told_by : (ss : List Symbol) (ps : List Pair) → option_map (facing_text ss) (first_facing ps) ≡ option_map (pair_text ss) (find is_of_agents ps)
told_by ss [] = refl
told_by ss (p ∷ ps) = told_of ss p.left p.right p (first_facing ps) (find is_of_agents ps) refl refl (told_by ss ps)

-- the text of the first equation of two agents is told by its symbols
pub stuck_by : (ss : List Symbol) (c : Configuration) (found : Option (ℕ × ℕ)) → found ≡ first_facing c.equations → option_map (facing_text ss) found ≡ stuck_text ss c
stuck_by ss c found is = ap (option_map (facing_text ss)) is ∙ told_by ss c.equations

text_known : (o : Option Symbol) (text : List ℕ) → option_map (λ (s : Symbol). s.text) o ≡ Some text → text_or_none o ≡ text
text_known None text e = cc
text_known (Some s) text e = cc

pub symbol_known : (ss : List Symbol) (s : ℕ) (text : List ℕ) → symbol_text ss s ≡ Some text → text_or_none (slice_get ss s) ≡ text
symbol_known ss s text e = text_known (slice_get ss s) text e
