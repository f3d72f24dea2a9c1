use Rattle.std.proofs.Common.{◌∙◌, ◌++◌, List, ℕ, None, Some, sym, ap}
use Rattle.std.specs.Prelude.{codes, slice_get}
use Rattle.ic_text.specs.Text.{text_or_none}
use Rattle.ic_by_rounds.proofs.Symbols.{facing_known, stuck_by, symbol_known}
use Rattle.ic_by_rounds.proofs.stuck.stuck_text.Goals as goal

pub returns-in_default : goal.returns-in_default
returns-in_default c = stuck_by c.args.symbols.now c.args.flat.now None (sym c.in_default.is ∙ c.facing.ensures)

pub text-requires : goal.text-requires
text-requires c = (facing_known c.args.symbols.now c.args.flat.now (c.in-Some.left, c.in-Some.right) c.requires c.in-Some.ensures).0

pub text-requires-2 : goal.text-requires-2
text-requires-2 c = (facing_known c.args.symbols.now c.args.flat.now (c.in-Some.left, c.in-Some.right) c.requires c.in-Some.ensures).1

pub returns : goal.returns
returns c =
    let ss = c.args.symbols.now in
    let right = c.text-2.result.now in
    let told = text_or_none (slice_get ss c.in-Some.left) in
    let first = c.in_ok-text.ensures.items_if_clones_equal (λ x y same. same) ∙ sym (symbol_known ss c.in-Some.left c.text.result.now c.text.ensures) in
    let second = sym (symbol_known ss c.in-Some.right right c.text-2.ensures) in
    ap Some (c.in_ok-extend_from_slice-2.ensures.items ∙ ap (λ (l : List ℕ). l ++ right) c.in_ok-extend_from_slice.ensures.items
    ∙ ap (λ (l : List ℕ). l ++ codes "><" ++ right) first ∙ ap (λ (l : List ℕ). told ++ codes "><" ++ l) second)
    ∙ stuck_by ss c.args.flat.now (Some (c.in-Some.left, c.in-Some.right)) c.in-Some.ensures
