use Rattle.std.proofs.Common.{arith, rules}
use Rattle.std.proofs.lemmas.List.{length-take}
use Rattle.ic_inspect.proofs.ReadLemmas.{TakesFront, front_of, taken_more}
use Rattle.ic_inspect.proofs.reading.read_front.Goals as goal

pub returns-then-len-limit-clause-front : goal.returns-then-len-limit-clause-front
returns-then-len-limit-clause-front g c =
    let takes : TakesFront c.args.limit c.loop.front.items (g.R.Read.remaining c.args.reader.now) (g.R.Read.remaining c.loop.reader) = search rules in
    front_of c.args.limit c.loop.front.items (g.R.Read.remaining c.args.reader.now) (g.R.Read.remaining c.loop.reader) takes

pub returns-in-Ok-eq0-clause-front : goal.returns-in-Ok-eq0-clause-front
returns-in-Ok-eq0-clause-front g c =
    let takes : TakesFront c.args.limit c.loop.front.items (g.R.Read.remaining c.args.reader.now) (g.R.Read.remaining c.read.new.self) = search rules in
    front_of c.args.limit c.loop.front.items (g.R.Read.remaining c.args.reader.now) (g.R.Read.remaining c.read.new.self) takes

pub returns-in_err-extend_from_slice-in-Ok-clause-few : goal.returns-in_err-extend_from_slice-in-Ok-clause-few
returns-in_err-extend_from_slice-in-Ok-clause-few g c =
    taken_more c.args.limit _ _ _ _ _ c.loop.invariant.0 c.in-Ok.ensures.bytes.0
    (omega (arith, c.in-Ok.ensures.bound, c.read.auto.buf, length-take c.min-room.result c.loop.chunk))
