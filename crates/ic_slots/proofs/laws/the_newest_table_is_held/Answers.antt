use Rattle.std.proofs.Common.{⊎_elim, inl, inr, arith}
use Rattle.std.proofs.lemmas.Bool.{cases_Bool}
use Rattle.ic_frames.specs.Places.{place}
use Rattle.ic_frames.specs.Fields.{is_whole, body}
use Rattle.ic_slots.proofs.laws.the_newest_table_is_held.Goals as goal

pub returns-clause-held : goal.returns-clause-held
returns-clause-held c slot file t newest whole sound form =
    (sound, record { body = body (place slot) file; held = c.the_newest_slot_is_held.ensures.held slot file newest whole; form = form })

pub returns-clause-spoiled : goal.returns-clause-spoiled
returns-clause-spoiled c slot file newest none = ⊎_elim
    (λ whole. inr (body (place slot) file, c.the_newest_slot_is_held.ensures.held slot file newest whole, none))
    (λ spoiled. inl (c.the_newest_slot_is_held.ensures.damaged slot file newest spoiled))
    (cases_Bool (is_whole (place slot) file))

pub returns-clause-long : goal.returns-clause-long
returns-clause-long c slot file newest long = ⊎_elim
    (λ whole. inr (
      body (place slot) file,
      c.the_newest_slot_is_held.ensures.held slot file newest whole,
      λ t sound form. absurd (omega (arith, long, c.a_slot_is_open_or_whole.ensures.long (place slot) file whole, c.forms_are_short.ensures.either t (body (place slot) file) sound form)),
    ))
    (λ spoiled. inl (c.the_newest_slot_is_held.ensures.damaged slot file newest spoiled))
    (cases_Bool (is_whole (place slot) file))
