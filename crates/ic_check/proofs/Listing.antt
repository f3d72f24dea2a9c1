-- A list that is written item by item.
use Rattle.std.proofs.Common.{◌≡◌, ℕ, suc, ◌+◌, ◌<◌, List, [], ◌∷◌, ◌++◌, length, drop, drop-cons, get_or, add-one, map, sym, ap, ◌∙◌, append_assoc}
use Rattle.ic_term.specs.Tree.{agent, trees_of}
use Rattle.ic_term.specs.Term.{cell_tree, tree}
use Rattle.ic_term.specs.lemmas.TermLaws.{cell_tree-out}
use Rattle.ic_term.specs.declared.term.Cell.{Cell, out-Cell}
use Rattle.ic_term.specs.declared.term.Term.{Term}
use Rattle.ic_confluence.specs.Agents.{symbols, symbols_of}

pub from_place : {X : Type 0} (xs : List X) (i : ℕ) (x : X) → i < length xs → x ≡ get_or xs i x → drop i xs ≡ x ∷ drop (i + 1) xs
from_place xs i x below is = rw add-one (drop-cons xs i x below ∙ ap (λ y. y ∷ drop (suc i) xs) (sym is))

-- one item more is written, and those after it are left
pub next : {X Z : Type 0} (g : List X → List Z) (h : X → List Z) → ((x : X) (xs : List X) → g (x ∷ xs) ≡ h x ++ g xs)
    → (i : ℕ) (xs : List X) (x : X) (out new whole : List Z) → i < length xs → x ≡ get_or xs i x → new ≡ out ++ h x
    → out ++ g (drop i xs) ≡ whole → new ++ g (drop (i + 1) xs) ≡ whole
next g h step i xs x out new whole below is put all =
    ap (λ l. l ++ g (drop (i + 1) xs)) put ∙ append_assoc out (h x) (g (drop (i + 1) xs))
    ∙ ap (λ l. out ++ l) (sym (step x (drop (i + 1) xs))) ∙ ap (λ l. out ++ g l) (sym (from_place xs i x below is)) ∙ all

-- the symbol of an agent is written, and its arguments are left
pub agent_begun : (cell : Cell) (ts : List Term) (old new : List ℕ) → ts ≡ (out-Cell cell).args.items → new ≡ old ++ (out-Cell cell).sym ∷ []
    → new ++ symbols_of (trees_of (map tree ts)) ≡ old ++ symbols (cell_tree cell)
agent_begun cell ts old new are put =
    ap (λ l. l ++ symbols_of (trees_of (map tree ts))) put ∙ append_assoc old ((out-Cell cell).sym ∷ []) (symbols_of (trees_of (map tree ts)))
    ∙ ap (λ us. old ++ symbols (agent (out-Cell cell).sym (trees_of (map tree us)))) are ∙ ap (λ t. old ++ symbols t) (sym (cell_tree-out cell))
