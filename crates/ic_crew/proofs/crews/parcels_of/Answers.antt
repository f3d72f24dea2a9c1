use Rattle.std.proofs.Common.{◌≡◌, All, IsTrue, Vec, length, ap, arith}
use Rattle.std.proofs.lemmas.List.Elements.{All-rest}
use Rattle.std.specs.Arc.{arc_value}
use Rattle.std.specs.declared.alloc.Global.{Global}
use Rattle.std.specs.Vec.Iter.{into_iter_items, into_iter_len}
use Rattle.ic_round.specs.declared.work.Work.{Work}
use Rattle.ic_round.specs.Works.{suits}
use Rattle.ic_round.specs.WorkViews.{work_of}
use Rattle.ic_crew.proofs.crews.parcels_of.Goals as goal

pub loop-works-preserved : goal.loop-works-preserved
loop-works-preserved c =
    let first = c.in-Some.ensures.steps.0 in
    let counted : into_iter_len c.next.new.self ≡ length (into_iter_items c.next.new.self) = omega (arith, c.in-Some.ensures.steps.1, c.loop-works.invariant.0, ap length first) in (
      counted,
      All-rest (λ (part : Vec Work Global). All (λ (w : Work). IsTrue (suits (arc_value c.args.rules.now).rules (work_of w))) part.items)
          c.in-Some.works (into_iter_items c.next.new.self) (into_iter_items c.loop-works.works-iterator) first c.loop-works.invariant.1,
    )
