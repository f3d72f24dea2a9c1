use Rattle.std.proofs.Common.{sym}
use Rattle.ic_flat.specs.Flat.{configuration_of, IsWideFlat}
use Rattle.ic_flat.proofs.wide.WideFlat.restore.Goals as goal

pub invariant_of-result : goal.invariant_of-result
invariant_of-result c =
    let taken = rw c.deref.ensures.value at c.in_ok-test_words.ensures in
    let flat : IsWideFlat c.args.words.items c.args.terms c.args.equations c.args.next = record {
      whole = c.requires.whole;
      counted = c.requires.counted;
      sound = (c.wide_ones_are_configurations_but_for_their_limits.ensures.taken (configuration_of c.args.words.items c.args.terms c.args.next)).0 (sym taken);
    } in
    (flat, rw c.deref-2.ensures.value at c.end_of_terms-place.ensures)
