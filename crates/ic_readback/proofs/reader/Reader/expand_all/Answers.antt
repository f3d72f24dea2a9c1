use Rattle.std.proofs.Common.{◌++◌, List, arith}
use Rattle.ic_arena.specs.declared.word.Word.{Word}
use Rattle.ic_readback.specs.Reading.{sides_of}
use Rattle.ic_readback.proofs.Readers.{read_on, read_few, sides_many}
use Rattle.ic_readback.proofs.reader.Reader.expand_all.Goals as goal

pub expand_sides-requires-clause-few : goal.expand_sides-requires-clause-few
expand_sides-requires-clause-few c =
    let few = c.requires.few in
    let long = read_few c.args.interface.now c.args.self.now c.expand_each.new.self c.in_ok-expand_each.ensures.read in
    omega (arith, few, long, c.in_ok-expand_each.ensures.equations)

pub expand_sides-requires-2-clause-few : goal.expand_sides-requires-2-clause-few
expand_sides-requires-2-clause-few c =
    let few = c.requires.few in
    let one = read_few c.args.interface.now c.args.self.now c.expand_each.new.self c.in_ok-expand_each.ensures.read in
    let two = read_few (sides_of c.args.pending.now) c.expand_each.new.self c.expand_sides.new.self c.in_ok-expand_sides.ensures.read in
    let many = sides_many c.args.pending.now in
    omega (arith, few, one, two, many, c.in_ok-expand_each.ensures.equations, c.in_ok-expand_sides.ensures.equations)

pub returns-clause-read : goal.returns-clause-read
returns-clause-read c =
    let es : List Word = sides_of c.args.pending.now in
    let fs : List Word = sides_of c.args.aside.now in
    read_on c.args.interface.now (es ++ fs) c.args.self.now c.expand_each.new.self c.expand_sides-2.new.self c.in_ok-expand_each.ensures.read
    (read_on es fs c.expand_each.new.self c.expand_sides.new.self c.expand_sides-2.new.self c.in_ok-expand_sides.ensures.read c.in_ok-expand_sides-2.ensures.read)

pub returns-clause-counted : goal.returns-clause-counted
returns-clause-counted c = omega (arith, c.in_ok-expand_each.ensures.equations, c.in_ok-expand_sides.ensures.equations, c.in_ok-expand_sides-2.ensures.equations)

pub returns-clause-few : goal.returns-clause-few
returns-clause-few c =
    let few = c.requires.few in
    let one = read_few c.args.interface.now c.args.self.now c.expand_each.new.self c.in_ok-expand_each.ensures.read in
    let two = read_few (sides_of c.args.pending.now) c.expand_each.new.self c.expand_sides.new.self c.in_ok-expand_sides.ensures.read in
    let three = read_few (sides_of c.args.aside.now) c.expand_sides.new.self c.expand_sides-2.new.self c.in_ok-expand_sides-2.ensures.read in
    let many = sides_many c.args.pending.now in
    let more = sides_many c.args.aside.now in
    omega (arith, few, one, two, three, many, more, c.in_ok-expand_each.ensures.equations, c.in_ok-expand_sides.ensures.equations, c.in_ok-expand_sides-2.ensures.equations)
