-- What makes a rule: its names numbered, each of them twice, and not lopsided.
use Rattle.std.proofs.Common.{◌≡◌, ℕ, ◌==◌, Bool, true, false, not, ◌&&◌, List, ◌++◌, length, map, refl, sym, ap, ◌∙◌}
use Rattle.std.proofs.lemmas.List.{map-append}
use Rattle.std.specs.List.{flat_map, range_with_len}
use Rattle.std.specs.Cmp.{unsigned_Decides}
use Rattle.ic_term.specs.Tree.{Tree, names}
use Rattle.ic_rules.specs.Renaming.{renamed, number_among, first_occurrences, are_paired}
use Rattle.ic_rules.specs.Rule.{Rule, IsRule, is_lopsided, rule_names}
use Rattle.ic_rules.specs.inner.Arguments.{firsts_in, is_own_swap}
use Rattle.ic_rules.specs.lemmas.RenamingLaws.{flat_names-renamed}
use Rattle.ic_rules.specs.lemmas.NumberingLaws.{are_paired-numbered, first_occurrences-numbered}

-- the test of the code is that of the definition
pub lopsided_test : (r : Rule) → (r.left == r.right && not (is_own_swap r.left_args r.right_args r.names)) ≡ is_lopsided r
lopsided_test r = by_test (r.left == r.right) refl
  where
    by_test : (b : Bool) → (r.left == r.right) ≡ b → (r.left == r.right && not (is_own_swap r.left_args r.right_args r.names)) ≡ is_lopsided r
    by_test true is =
        let turned : (r.right == r.left) ≡ true = (unsigned_Decides r.right r.left).1 (sym ((unsigned_Decides r.left r.right).0 is)) in
        rw (is, turned) refl
    by_test false is = rw is refl

numbered_names : (f : ℕ → ℕ) (ts us : List Tree) → flat_map names (map (renamed f) ts) ++ flat_map names (map (renamed f) us) ≡ map f (flat_map names ts ++ flat_map names us)
numbered_names f ts us = rw (flat_names-renamed f ts, flat_names-renamed f us) (sym (map-append f (flat_map names ts) (flat_map names us)))

pub numbered_is_rule : (a b : ℕ) (ts us : List Tree)
    → are_paired (flat_map names ts ++ flat_map names us) ≡ true
    → (r : Rule) → r.left_args ≡ map (renamed (number_among (firsts_in ts us))) ts → r.right_args ≡ map (renamed (number_among (firsts_in ts us))) us
    → r.names ≡ length (firsts_in ts us) → is_lopsided r ≡ false → IsRule r
numbered_is_rule a b ts us paired r lefts rights count level =
    let ns = flat_map names ts ++ flat_map names us in
    let same : rule_names r ≡ map (number_among (first_occurrences ns)) ns =
    (λ i. flat_map names (lefts i) ++ flat_map names (rights i)) ∙ numbered_names (number_among (first_occurrences ns)) ts us in
    record {
      paired = ap are_paired same ∙ are_paired-numbered ns ∙ paired;
      in_order = ap first_occurrences same ∙ first_occurrences-numbered ns ∙ ap (range_with_len 0) (sym count);
      level = level;
    }
