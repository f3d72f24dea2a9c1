-- Warnings that are found one after the other.
use Rattle.std.proofs.Common.{◌≡◌, ℕ, ◌+◌, ◌<◌, ◌≤◌, List, [], ◌∷◌, ◌++◌, Bool, false, is_some, length, drop, get_or, refl, sym, ap, ◌∙◌, append-nil, append_assoc}
use Rattle.std.proofs.lemmas.List.{drop_all}
use Rattle.ic_rules.specs.Rule.{Rule}
use Rattle.ic_rules.specs.RuleSet.{rule_for}
use Rattle.ic_term.specs.Term.{cell_tree}
use Rattle.ic_term.specs.lemmas.TermLaws.{cell_tree-out}
use Rattle.ic_term.specs.declared.term.Cell.{Cell, out-Cell}
use Rattle.ic_check.specs.Warnings.{ruleless, unused, unused_rules}
use Rattle.ic_check.proofs.Listing.{from_place}

-- nothing is left
pub all_written : {X Z : Type 0} (g : List X → List Z) → g [] ≡ [] → (xs : List X) (i : ℕ) (out whole : List Z) → length xs ≤ i → out ++ g (drop i xs) ≡ whole → out ≡ whole
all_written g none xs i out whole past all =
    sym (append-nil out) ∙ ap (λ l. out ++ l) (sym none) ∙ ap (λ l. out ++ g l) (sym (drop_all i xs past)) ∙ all

pub unused_next : (among : ℕ → Bool) (rs : List Rule) (i : ℕ) (r : Rule) (out new whole : List ℕ) → i < length rs → r ≡ get_or rs i r
    → new ≡ out ++ unused among i r → out ++ unused_rules among i (drop i rs) ≡ whole → new ++ unused_rules among (i + 1) (drop (i + 1) rs) ≡ whole
unused_next among rs i r out new whole below at put so_far =
    let rest : List ℕ = unused_rules among (i + 1) (drop (i + 1) rs) in
    ap (λ l. l ++ rest) put ∙ append_assoc out (unused among i r) rest
    ∙ ap (λ l. out ++ unused_rules among i l) (sym (from_place rs i r below at)) ∙ so_far

pub unused_end : (among : ℕ → Bool) (rs : List Rule) (i : ℕ) (out whole : List ℕ) → length rs ≤ i → out ++ unused_rules among i (drop i rs) ≡ whole → out ≡ whole
unused_end among rs i out whole past so_far = all_written (unused_rules among i) refl rs i out whole past so_far

-- two agents that face each other without a rule
pub facing : (rs : List Rule) (left right : Cell) → is_some (rule_for rs (out-Cell left).sym (out-Cell right).sym) ≡ false
    → ruleless rs (cell_tree left) (cell_tree right) ≡ ((out-Cell left).sym, (out-Cell right).sym) ∷ []
facing rs left right none = rw (cell_tree-out left, cell_tree-out right) (rw none refl)
