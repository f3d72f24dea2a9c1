use Rattle.std.proofs.Common.{◌≡◌, ◌+◌, ◌++◌, ◌<◌, List, map, min, Some, length, get_or, slice_get, refl, sym, ap, ◌∙◌}
use Rattle.std.proofs.lemmas.Option.{slice_get_read}
use Rattle.ic_term.specs.Tree.{Pair}
use Rattle.ic_term.specs.declared.term.Equation.{Equation}
use Rattle.ic_term.specs.Term.{tree, cell_tree, pair}
use Rattle.ic_rules.specs.Renaming.{renamed}
use Rattle.ic_round.specs.Firing.{against}
use Rattle.ic_round.specs.Works.{PlainFired}
use Rattle.ic_round.specs.WorkViews.{work_of}
use Rattle.ic_round.specs.lemmas.Words.{u64_MAX}
use Rattle.ic_round.proofs.WorkLemmas.{products_of_work}
use Rattle.ic_round.specs.lemmas.Products.{suits_within}
use Rattle.ic_round.proofs.firing.fire.Goals as goal

pub returns : goal.returns
returns c =
    let rs = c.args.rules.now.rules in
    let w = work_of c.args.work in
    let r = c.index-rules-work.result in
    let within : c.args.work.rule < length rs = suits_within rs w c.requires in
    let there : slice_get rs c.args.work.rule ≡ Some r = slice_get_read rs (length rs) c.args.work.rule r refl within (c.index-rules-work.is ∙ ap (λ l. get_or l c.args.work.rule r) c.rules.ensures.rules) in
    let half : map pair c.append_products.new.products.items ≡ against (map tree c.into_inner-left.result.args.items) (map (renamed (λ k. min (w.base + k) u64_MAX)) r.left_args) =
    c.in_ok-append_products.ensures ∙ ap (λ (es : List Equation). map pair es ++ against (map tree c.into_inner-left.result.args.items) (map (renamed (λ k. min (w.base + k) u64_MAX)) (map tree c.left_args.result.now))) c.in_ok-products.ensures.items
    ∙ ap (λ ts. against (map tree c.into_inner-left.result.args.items) (map (renamed (λ k. min (w.base + k) u64_MAX)) ts)) c.left_args.ensures.args in
    let out : map pair c.append_products-2.new.products.items ≡ map pair c.append_products.new.products.items ++ against (map tree c.into_inner-right.result.args.items) (map (renamed (λ k. min (w.base + k) u64_MAX)) r.right_args) =
    c.in_ok-append_products-2.ensures
    ∙ ap (λ ts. map pair c.append_products.new.products.items ++ against (map tree c.into_inner-right.result.args.items) (map (renamed (λ k. min (w.base + k) u64_MAX)) ts)) c.right_args.ensures.args in
    let products = products_of_work rs w r c.into_inner-left.result c.into_inner-right.result _ _ there c.left_args.ensures.sound c.requires (ap cell_tree (sym c.into_inner-left.ensures)) (ap cell_tree (sym c.into_inner-right.ensures)) half out in
    ap (λ (ps : List Pair). let f : PlainFired = record { place = c.args.work.place; products = ps } in f) products
