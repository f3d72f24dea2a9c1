use Rattle.std.proofs.Common.{List, ◌∷◌, ◌++◌, [], ap, sym, subst}
use Rattle.std.specs.List.{flat_map}
use Rattle.ic_term.specs.Tree.{Tree}
use Rattle.ic_codec.specs.Terms.{tree_bytes}
use Rattle.ic_codec.specs.inner.Room.{Fits}
use Rattle.ic_codec.proofs.Appending.{rest_fits}
use Rattle.ic_codec.proofs.rules.put_rule.Goals as goal

pub put_terms-requires-2 : goal.put_terms-requires-2
put_terms-requires-2 c =
    let r = c.args.rule.now in
    let terms = flat_map tree_bytes r.left_args ++ flat_map tree_bytes r.right_args in
    let after = rest_fits (r.left ∷ []) (r.right ∷ terms) _ (ap (λ b. b ∷ []) c.left.ensures.left) c.requires c.put_byte.ensures in
    let left = rest_fits (r.right ∷ []) terms _ (ap (λ b. b ∷ []) c.right.ensures.right) after c.put_byte-2.ensures in
    let last = rest_fits (flat_map tree_bytes r.left_args) (flat_map tree_bytes r.right_args) _ (ap (flat_map tree_bytes) c.left_args.ensures.args) left c.put_terms.ensures in
    subst (λ (ts : List Tree). Fits c.put_terms.new.out (flat_map tree_bytes ts)) (sym c.right_args.ensures.args) last
