use Rattle.std.proofs.Common.{◌∷◌, ◌∙◌, [], length, ap, refl, arith}
use Rattle.std.proofs.lemmas.List.{length-append, length-map}
use Rattle.ic_readback.specs.declared.loose.Loose.{Loose}
use Rattle.ic_readback.specs.declared.writer.Writer.{Writer}
use Rattle.ic_readback.proofs.Writers.{no_mends, mends_next, mends_few, indexed_popped, same_indexed}
use Rattle.ic_readback.proofs.writer.Writer.write_all.Goals as goal

pub loop-term-init : goal.loop-term-init
loop-term-init c = record { mends = no_mends c.args.self.now c.requires.empty; indexed = c.requires.indexed }

pub write_term-requires-clause-few : goal.write_term-requires-clause-few
write_term-requires-clause-few c = mends_few c.args.self.now c.loop-term.self c.loop-term.invariant.mends c.requires.few

pub write_term-requires-clause-empty : goal.write_term-requires-clause-empty
write_term-requires-clause-empty c = c.loop-term.invariant.mends.empty

pub write_term-requires-clause-indexed : goal.write_term-requires-clause-indexed
write_term-requires-clause-indexed c =
    indexed_popped c.loop-term.self.indices c.loop-term.self.loose.items c.pop.new.self.items c.in-Some.term c.in-Some.ensures.items c.loop-term.invariant.indexed

pub loop-term-preserved : goal.loop-term-preserved
loop-term-preserved c =
    let now : Writer = c.loop-term.self in
    let mid : Writer = record now { loose = c.pop.new.self } in
    let new : Writer = c.write_term.new.self in
    record {
      mends = mends_next c.args.self.now now mid new c.in-Some.term c.loop-term.invariant.mends c.in-Some.ensures.items refl refl c.in_ok-write_term.ensures;
      indexed = same_indexed mid new c.in_ok-write_term.ensures.same
          (indexed_popped now.indices now.loose.items c.pop.new.self.items c.in-Some.term c.in-Some.ensures.items c.loop-term.invariant.indexed);
    }

pub loop-term-smaller : goal.loop-term-smaller
loop-term-smaller c =
    let now : Writer = c.loop-term.self in
    let mid : Writer = record now { loose = c.pop.new.self } in
    let new : Writer = c.write_term.new.self in
    let popped = ap length c.in-Some.ensures.items ∙ length-append c.pop.new.self.items (c.in-Some.term ∷ []) in
    let same = ap length c.in_ok-write_term.ensures.same.places in
    let a = length-map new.loose.items (λ (l : Loose). l.place) in
    let b = length-map mid.loose.items (λ (l : Loose). l.place) in
    omega (arith, popped, same, a, b)
