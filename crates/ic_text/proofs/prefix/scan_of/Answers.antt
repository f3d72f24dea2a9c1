use Rattle.std.proofs.Common.{◌+◌, ◌-◌, ◌<◌, ◌≡◌, length, reverse, sym, ◌∙◌, refl, arith}
use Rattle.ic_text.specs.inner.Prefix.{head_words, scanned}
use Rattle.ic_text.proofs.ScanningText.{all_scanned, byte_ended, byte_of_run, counts_room_after, longest_whole, nothing_scanned, one_back, terms_room, whole_run}
use Rattle.ic_text.proofs.prefix.scan_of.Goals as goal

pub loop-place-init : goal.loop-place-init
loop-place-init c = record {
  fits = omega arith;
  so_far = nothing_scanned c.args.text.now _ (λ i. record { nodes = reverse (head_words c.args.text.now (c.in_ok-heads.ensures.items i)); counts = reverse (c.in_ok-counts.ensures.items i); arity = 0; terms = 0 });
}

pub take_run-requires : goal.take_run-requires
take_run-requires c =
    let l = c.loop-place in
    terms_room c.args.text.now (l.place - 1 + 1) l.end (scanned c.args.text.now l.scan) (one_back _ _ _ _ (omega (arith, c.loop-place-test.true)) l.invariant.so_far) _ refl l.invariant.fits

pub take_byte-requires : goal.take_byte-requires
take_byte-requires c =
    let l = c.loop-place in
    let so_far = one_back c.args.text.now l.place l.end (scanned c.args.text.now l.scan) (omega (arith, c.loop-place-test.true)) l.invariant.so_far in
    counts_room_after c.args.text.now (l.place - 1 + 1) l.end (scanned c.args.text.now l.scan) so_far _ refl _ (c.in_ok-take_run.ensures c.args.text.now so_far.longest) l.invariant.fits (omega arith)

pub loop-place-preserved-in-Continue-branch-4 : goal.loop-place-preserved-in-Continue-branch-4
loop-place-preserved-in-Continue-branch-4 c =
    let l = c.loop-place in
    let inside : l.place - 1 < length c.args.text.now = omega (arith, c.loop-place-test.true, l.invariant.so_far.ordered, l.invariant.so_far.few) in
    let so_far = one_back c.args.text.now l.place l.end (scanned c.args.text.now l.scan) (omega (arith, c.loop-place-test.true)) l.invariant.so_far in
    let apart = sym c.is_word_byte.ensures ∙ c.if-not-is_word_byte.true in
    record {
      fits = l.invariant.fits;
      so_far = byte_ended c.args.text.now (l.place - 1) l.end (scanned c.args.text.now l.scan) inside so_far apart c.requires.0 c.requires.1 _ _ (c.in_ok-take_run.ensures c.args.text.now so_far.longest) (c.in_ok-take_byte.ensures c.args.text.now);
    }

pub loop-place-preserved : goal.loop-place-preserved
loop-place-preserved c =
    let l = c.loop-place in
    let inside : l.place - 1 < length c.args.text.now = omega (arith, c.loop-place-test.true, l.invariant.so_far.ordered, l.invariant.so_far.few) in
    record {
      fits = l.invariant.fits;
      so_far = byte_of_run c.args.text.now (l.place - 1) l.end (scanned c.args.text.now l.scan) inside (one_back _ _ _ _ (omega (arith, c.loop-place-test.true)) l.invariant.so_far) (sym c.is_word_byte.ensures ∙ c.if-not-is_word_byte.false);
    }

pub take_run-requires-2 : goal.take_run-requires-2
take_run-requires-2 c =
    let l = c.loop-place in
    terms_room c.args.text.now l.place l.end (scanned c.args.text.now l.scan) l.invariant.so_far _ (whole_run c.args.text.now l.place l.end (omega (arith, c.loop-place-test.false))) l.invariant.fits

pub returns : goal.returns
returns c =
    let l = c.loop-place in
    let none : l.place ≡ 0 = omega (arith, c.loop-place-test.false) in
    all_scanned c.args.text.now l.place l.end (scanned c.args.text.now l.scan) _ l.invariant.so_far none
    (c.in_ok-take_run-2.ensures c.args.text.now (longest_whole c.args.text.now l.place l.end none l.invariant.so_far.longest))
