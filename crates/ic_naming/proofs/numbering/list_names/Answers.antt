use Rattle.std.proofs.Common.{◌+◌, ◌<◌, ◌∷◌, [], true, length, get_or, subst, sym, ap, ◌∙◌, arith}
use Rattle.std.specs.Prelude.{is_some}
use Rattle.std.proofs.lemmas.List.{drop_more, drop_all, length-append, take_all}
use Rattle.ic_names.specs.Table.{found}
use Rattle.ic_naming.proofs.Marks.{AreMarksSoFar, mark_again, mark_new, marks_all, marks_none}
use Rattle.ic_naming.proofs.Places.{place_kept, place_more, places_all, places_none}
use Rattle.ic_naming.proofs.numbering.list_names.Goals as goal
use Rattle.ic_naming.proofs.numbering.list_names.Goals.{in-Some, in_default+in_ok-set+in_ok-push}

pub loop-name-init : goal.loop-name-init
loop-name-init c = record {
  few = omega arith;
  many = rw c.new-single.ensures.items (omega arith);
  places = places_none c.args.names.now (found c.in_ok-places.places) c.in_ok-places.ensures;
  marks = rw c.new-single.ensures.items (marks_none c.args.names.now (found c.in_ok-places.places) c.in_ok-places.ensures);
}

pub loop-name-preserved : goal.loop-name-preserved
loop-name-preserved c =
    let names = c.args.names.now in
    let i = c.loop-name.name-index in
    let n = get_or names i 0 in
    let firsts = c.loop-name.firsts in
    let single = c.loop-name.single.items in
    let old = found c.loop-name.places in
    let within : i < length names = omega arith in
    let split = drop_more names i 0 within in
    let is = c.loop-name.invariant in
    elim c.match-get.branch [
      | in-Some w ↦
          let here = sym c.get.ensures ∙ w.in-Some.is in
          rw (w.places-is, w.firsts-is, w.single-is) (record {
            few = omega (arith, is.few);
            many = is.many ∙ sym w.note_again.ensures.len;
            places = place_kept names i n firsts old split (ap is_some here) is.places;
            marks = mark_again names i within w.in-Some.place old single w.note_again.new.single.items here w.note_again.ensures.len w.note_again.ensures.each is.marks;
          })
      | in_default+in_ok-set+in_ok-push w ↦
          let absent = sym c.get.ensures ∙ w.in_default.is in
          let new = found w.set.new.self in
          let updated = w.in_ok-set.ensures.set in
          let longer = w.in_ok-push.ensures.items in
          rw (w.places-is, w.firsts-is, w.single-is) (record {
            few = omega (arith, is.few);
            many = omega (arith, is.many, ap length longer, length-append single (true ∷ []));
            places = place_more names i n firsts old new split (ap is_some absent) updated is.places;
            marks = subst (AreMarksSoFar names (i + 1) new) (sym longer) (mark_new names i within firsts old new single absent is.many updated is.marks);
          })
    ]

pub returns : goal.returns
returns c =
    let names = c.args.names.now in
    let i = c.loop-name.name-index in
    let ends = drop_all i names c.loop-name-test.false in
    let whole = take_all i names c.loop-name-test.false in
    let is = c.loop-name.invariant in
    record {
      places = places_all names i c.loop-name.firsts c.loop-name.places ends is.places;
      single = marks_all names i c.loop-name.firsts (found c.loop-name.places) c.loop-name.single.items whole is.many is.marks;
    }
