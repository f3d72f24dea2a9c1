use Rattle.std.proofs.Common.{[], ◌∷◌, length, ap, arith}
use Rattle.std.proofs.lemmas.List.{length-append}
use Rattle.std.proofs.lemmas.Result.{err_from_is_err_and}
use Rattle.std.specs.List.{flat_map}
use Rattle.ic_state.specs.Numbers.{eight_bytes}
use Rattle.ic_state.proofs.NumberLemmas.{length-eight_bytes}
use Rattle.ic_state.proofs.ListLemmas.{read_more, all_push, length-spelled}
use Rattle.ic_state.proofs.StateLemmas.{IsSmall}
use Rattle.ic_state.proofs.fields.numbers_at.Goals as goal

pub returns-in_err-number-clause-refused : goal.returns-in_err-number-clause-refused
returns-in_err-number-clause-refused c =
    let e = err_from_is_err_and c.from_residual-in_err-number.result c.from_residual-in_err-number.ensures.1 in
    rw (e.1, e.2) (λ same. omega (
      arith,
      c.in_err-number.ensures.refused.1,
      c.loop.invariant.count,
      ap length c.loop.invariant.read,
      length-append (flat_map eight_bytes c.loop.numbers.items) c.loop.rest.now,
      length-spelled eight_bytes 8 length-eight_bytes c.loop.numbers.items,
    ))

pub loop-preserved : goal.loop-preserved
loop-preserved c = record {
  count = omega (arith, ap length c.in_ok-push.ensures.items, length-append c.loop.numbers.items (c.in_ok-number.number ∷ []), c.loop.invariant.count);
  read = read_more eight_bytes c.loop.numbers.items c.push.new.self.items c.in_ok-number.number c.args.bytes.now c.loop.rest.now c.in_ok-number.now_rest.now
      c.loop.invariant.read c.in_ok-number.ensures.read c.in_ok-push.ensures.items;
  small = rw c.in_ok-push.ensures.items (all_push IsSmall c.loop.numbers.items c.in_ok-number.number c.loop.invariant.small c.in_ok-number.ensures.small);
}
