use Rattle.std.proofs.Common.{List, ℕ, sym, subst}
use Rattle.ic_codec.specs.Numbers.{eight_bytes}
use Rattle.ic_codec.specs.inner.Room.{Fits, Appended}
use Rattle.ic_codec.proofs.fields.put_eight_bytes.Goals as goal

pub put_bytes-requires : goal.put_bytes-requires
unfolding eight_bytes
put_bytes-requires c = subst (λ (bs : List ℕ). Fits c.args.out.now bs) (sym c.to_be_bytes.ensures) c.requires

pub returns : goal.returns
unfolding eight_bytes
returns c = subst (λ (bs : List ℕ). Appended c.args.out.now c.put_bytes.new.out bs) c.to_be_bytes.ensures c.put_bytes.ensures
