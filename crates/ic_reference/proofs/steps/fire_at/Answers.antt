use Rattle.std.proofs.Common.{◌≡◌, ◌+◌, ◌++◌, Some, IfSome, map, take, drop, get_or, ap, ◌∙◌}
use Rattle.std.proofs.lemmas.List.{map-append}
use Rattle.std.specs.List.{remove}
use Rattle.ic_term.specs.Term.{pair}
use Rattle.ic_reference.specs.inner.Replacing.{IsReady}
use Rattle.ic_reference.proofs.FiringAt.{first_there, rest_from, fired_at-made}
use Rattle.ic_reference.proofs.steps.fire_at.Goals as goal

pub products_of-requires : goal.products_of-requires
products_of-requires c =
    let es = c.args.equations.items in
    let e = c.remove.result in
    let first = c.remove.ensures.value ∙ ap (λ l. get_or l 0 e) c.in_ok-after.ensures.tail in
    let ready : IfSome (Some (pair e)) (IsReady c.args.rules.now.rules c.args.base c.args.place) = rw (first_there es c.args.place e c.requires.there first) at c.requires.ready in
    ready

pub returns : goal.returns
returns c =
    let es = c.args.equations.items in
    let e = c.remove.result in
    let first = c.remove.ensures.value ∙ ap (λ l. get_or l 0 e) c.in_ok-after.ensures.tail in
    let products = c.in_ok-products.products.items in
    let half : map pair c.append.new.self.items ≡ map pair (take c.args.place es) ++ map pair products =
    ap (map pair) c.in_ok-append.ensures.items ∙ map-append pair c.split_off.new.self.items products ∙ ap (λ l. map pair l ++ map pair products) c.in_ok-after.ensures.items in
    let whole : c.append-2.new.self.items ≡ c.append.new.self.items ++ drop (c.args.place + 1) es =
    c.in_ok-append-2.ensures.items ∙ ap (λ l. c.append.new.self.items ++ l)
    (c.remove.ensures.items ∙ ap (λ l. remove l 0) c.in_ok-after.ensures.tail ∙ rest_from es c.args.place e c.requires.there) in
    fired_at-made c.args.rules.now.rules c.args.base es c.args.place (pair e) (map pair products) _ _ (first_there es c.args.place e c.requires.there first)
    c.in_ok-products.ensures half whole
