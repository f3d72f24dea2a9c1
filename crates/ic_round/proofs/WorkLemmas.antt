-- What the firing of a work gives, over the parts of the program.
use Rattle.std.proofs.Common.{◌≡◌, ℕ, suc, ◌+◌, ◌<◌, ◌==◌, ◌&&◌, List, [], ◌∷◌, ◌++◌, true, Some, slice_get, length, map, get_or, drop, min, sym, ap, ◌∙◌, append_assoc, drop-cons, add-one}
use Rattle.std.proofs.lemmas.List.{map-append, length-map}
use Rattle.ic_term.specs.declared.term.Term.{Term}
use Rattle.ic_term.specs.declared.term.Cell.{Cell, out-Cell}
use Rattle.ic_term.specs.declared.term.Equation.{Equation}
use Rattle.ic_term.specs.Tree.{Tree, Pair}
use Rattle.ic_term.specs.Term.{tree, cell_tree, pair}
use Rattle.ic_term.specs.lemmas.TermLaws.{cell_tree-out}
use Rattle.ic_term.specs.lemmas.TreeLaws.{list_of-trees_of}
use Rattle.ic_rules.specs.Renaming.{renamed}
use Rattle.ic_rules.specs.Rule.{Rule, IsRule}
use Rattle.ic_round.specs.Firing.{arguments, against, products_by}
use Rattle.ic_round.specs.Works.{PlainWork, is_agent_of, suits}
use Rattle.ic_round.specs.lemmas.Products.{products_of_suiting}
use Rattle.ic_round.specs.lemmas.Words.{u64_MAX}

pub is_agent_of-cell : (s n : ℕ) (cell : Cell) → is_agent_of s n (cell_tree cell) ≡ ((out-Cell cell).sym == s && length (out-Cell cell).args.items == n)
is_agent_of-cell s n cell =
    ap (is_agent_of s n) (cell_tree-out cell)
    ∙ ap (λ k. (out-Cell cell).sym == s && k == n)
    (ap length (list_of-trees_of (map tree (out-Cell cell).args.items)) ∙ length-map (out-Cell cell).args.items tree)

pub arguments-cell : (cell : Cell) → arguments (cell_tree cell) ≡ map tree (out-Cell cell).args.items
arguments-cell cell = ap arguments (cell_tree-out cell) ∙ list_of-trees_of (map tree (out-Cell cell).args.items)

-- ---- the loop over a rule's terms

pub against-next : (f : Tree → Tree) (es more : List Equation) (e : Equation) (args rest : List Term) (a : Term) (ts : List Term) (i : ℕ) (t : Term) (whole : List Pair)
    → i < length ts → t ≡ get_or ts i t → args ≡ a ∷ rest → more ≡ es ++ e ∷ [] → e.left ≡ a → tree e.right ≡ f (tree t)
    → map pair es ++ against (map tree args) (map f (map tree (drop i ts))) ≡ whole
    → map pair more ++ against (map tree rest) (map f (map tree (drop (i + 1) ts))) ≡ whole
against-next f es more e args rest a ts i t whole within at_i first pushed left right so_far =
    let split : drop i ts ≡ t ∷ drop (i + 1) ts = drop-cons ts i t within ∙ ap (λ d. d ∷ drop (suc i) ts) (sym at_i) ∙ ap (λ k. t ∷ drop k ts) (sym (add-one i)) in
    let here : pair e ≡ record { left = tree a; right = f (tree t) } = λ j. record { left = tree (left j); right = right j } in
    ap (λ l. l ++ against (map tree rest) (map f (map tree (drop (i + 1) ts)))) (ap (map pair) pushed ∙ map-append pair es (e ∷ []))
    ∙ append_assoc (map pair es) (pair e ∷ []) (against (map tree rest) (map f (map tree (drop (i + 1) ts))))
    ∙ ap (λ p. map pair es ++ p ∷ against (map tree rest) (map f (map tree (drop (i + 1) ts)))) here
    ∙ sym ((λ j. map pair es ++ against (map tree (first j)) (map f (map tree (split j)))))
    ∙ so_far

-- the products of a work, from those that the program appends in two parts
pub products_of_work : (rs : List Rule) (w : PlainWork) (r : Rule) (left right : Cell) (out half : List Pair)
    → slice_get rs w.active.rule ≡ Some r → IsRule r → suits rs w ≡ true → w.active.left ≡ cell_tree left → w.active.right ≡ cell_tree right
    → half ≡ against (map tree (out-Cell left).args.items) (map (renamed (λ k. min (w.base + k) u64_MAX)) r.left_args)
    → out ≡ half ++ against (map tree (out-Cell right).args.items) (map (renamed (λ k. min (w.base + k) u64_MAX)) r.right_args)
    → out ≡ products_by rs w.base w.active
products_of_work rs w r left right out half there is holds l m first both =
    let f : ℕ → ℕ = λ k. min (w.base + k) u64_MAX in
    let left_arguments = sym (arguments-cell left) ∙ ap arguments (sym l) in
    let right_arguments = sym (arguments-cell right) ∙ ap arguments (sym m) in
    products_of_suiting rs w r out half there is holds
    (first ∙ ap (λ ts. against ts (map (renamed f) r.left_args)) left_arguments)
    (both ∙ ap (λ ts. half ++ against ts (map (renamed f) r.right_args)) right_arguments)
