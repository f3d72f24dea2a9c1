use Rattle.std.proofs.Common.{◌≡◌, ◌<◌, ◌∙◌, Some, length, map, slice_get, ap, sym, arith}
use Rattle.std.proofs.lemmas.List.{length-map}
use Rattle.std.proofs.lemmas.Option.{slice_get_within, slice_get-get_or}
use Rattle.ic_readback.specs.declared.loose.Loose.{Loose}
use Rattle.ic_readback.specs.inner.Writing.{key_of}
use Rattle.ic_readback.proofs.Writers.{none_of, indexed_more}
use Rattle.ic_readback.proofs.loose.index_places.Goals as goal

pub loop-index-init : goal.loop-index-init
loop-index-init c = λ j w low there. absurd (omega (arith, low))

pub loop-index-preserved : goal.loop-index-preserved
loop-index-preserved c =
    let ls = c.args.loose.now in
    let l : Loose = c.index-loose-index.result in
    let low : c.loop-index.index < length ls = omega (arith, c.loop-index-test.true) in
    let at : slice_get ls c.loop-index.index ≡ Some l = slice_get-get_or ls c.loop-index.index l low ∙ ap Some (sym c.index-loose-index.is) in
    indexed_more ls c.loop-index.index c.key.result l c.loop-index.indices c.insert.new.self at (c.key.ensures ∙ ap (λ (l : Loose). key_of l.place) (sym c.index-loose-index.is))
    (sym c.in_ok-before.ensures.old ∙ none_of c.in_ok-before.before (sym c.is_some.ensures ∙ c.if-is_some.false)) c.in_ok-before.ensures.updates.0 c.loop-index.invariant

pub returns : goal.returns
returns c = λ i w there.
    let low = slice_get_within (map (λ (l : Loose). l.place) c.args.loose.now) i w there in
    let long = length-map c.args.loose.now (λ (l : Loose). l.place) in
    c.loop-index.invariant i w (omega (arith, low, long, c.loop-index-test.false)) there
