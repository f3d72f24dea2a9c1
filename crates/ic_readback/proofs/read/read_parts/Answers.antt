use Rattle.std.proofs.Common.{ap, arith, length, map, refl, subst}
use Rattle.ic_readback.specs.declared.reader.Reader.{Reader}
use Rattle.ic_readback.specs.inner.Mending.{WritesLoose}
use Rattle.ic_readback.specs.inner.Writing.{part_of}
use Rattle.ic_readback.proofs.Results.{reads_net}
use Rattle.ic_readback.proofs.read.read_parts.Goals as goal

pub write_loose-requires : goal.write_loose-requires
write_loose-requires c =
    let same = c.in_ok-read_left.ensures.read.equations in
    let tokens = ap (λ v. length v.items) c.replace-tokens.ensures.value in
    let few = c.in_ok-expand_all.ensures.few in
    omega (arith, same, tokens, few)

pub returns : goal.returns
returns c = λ m parted.
    let old : Reader = record { places = c.args.places; stack = c.new.result; tokens = c.list_for-tokens.result; equations = 0 } in
    let mid : Reader = c.expand_all.new.self in
    reads_net m c.args.interface.now c.args.pending.now c.args.aside.now old mid _ c.read_left.new.self _ c.read_left.new.loose.items c.in_ok-written.written
    parted c.list_for-tokens.ensures refl c.in_ok-expand_all.ensures.read c.in_ok-expand_all.ensures.counted refl refl c.new-loose.ensures.items c.in_ok-read_left.ensures.read
    c.in_ok-read_left.ensures.idle
    (subst (λ v. WritesLoose (map part_of c.read_left.new.loose.items) v.items c.read_left.new.self.equations c.in_ok-written.written) c.replace-tokens.ensures.value c.in_ok-written.ensures)
