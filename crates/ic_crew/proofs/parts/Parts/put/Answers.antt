use Rattle.std.proofs.Common.{◌<◌, ℕ, List, length, subst, arith}
use Rattle.ic_crew.specs.Dealing.{IsLeast}
use Rattle.ic_crew.proofs.Puts.{works_put, sizes_put}
use Rattle.ic_crew.proofs.parts.Parts.put.Goals as goal

pub returns : goal.returns
returns c =
    let parts = c.args.self.now in
    let i = c.place_of_least-place.result in
    let least : IsLeast parts.sizes.items i = let P : List ℕ → Type 0 = λ l. IsLeast l i in subst P c.deref.ensures.value c.place_of_least-place.ensures in
    let within = least.within in
    let also : i < length parts.works.items = omega (arith, within, parts.even, parts.sizes.ok.0, parts.works.ok.0) in
    record {
      place = i;
      least = least;
      sizes = sizes_put parts.sizes.items i c.args.weighed.size c.index.result.now c.saturating_add.result within c.index.ensures c.saturating_add.ensures;
      works = works_put parts.works.items i c.index_mut.result.now c.push.new.self c.args.weighed.work also c.index_mut.ensures.value c.in_ok-push.ensures.items;
    }
