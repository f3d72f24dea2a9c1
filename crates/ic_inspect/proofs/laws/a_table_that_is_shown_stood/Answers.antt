use Rattle.ic_inspect.specs.Slots.{file_of, slot_read}
use Rattle.ic_inspect.proofs.MomentLemmas.{stood_between}
use Rattle.ic_inspect.proofs.ReadingLemmas.{both_read, seen_of}
use Rattle.ic_inspect.proofs.laws.a_table_that_is_shown_stood.Goals as goal

pub returns-clause-looked : goal.returns-clause-looked
returns-clause-looked g c = λ one two i1 i2.
    seen_of c.look.result c.in_ok-slots.slots.first.items c.in_ok-slots.slots.second.items one two
    (g.R.Read.remaining c.args.first.now) (g.S.Read.remaining c.args.second.now)
    c.in_ok-slots.ensures.first c.in_ok-slots.ensures.second i1 i2 c.look.ensures.looked

pub returns-clause-stood : goal.returns-clause-stood
returns-clause-stood g c = λ at from between later until one two one_later two_later t served i1 i2 i3 i4 slots after again held.
    let opened = c.a_slot_is_open_or_whole.ensures in
    stood_between opened.opened opened.whole opened.long c.the_newest_table_is_held.ensures.held c.the_newest_slot_is_held.ensures.only c.look.result at from until served
    (file_of (slot_read one) (slot_read two)) t held
    (both_read opened.whole c.look.result at from between later until
    c.in_ok-slots.slots.first.items c.in_ok-slots.slots.second.items one two one_later two_later
    (g.R.Read.remaining c.args.first.now) (g.S.Read.remaining c.args.second.now) (g.T.Read.remaining c.args.first_again.now) (g.U.Read.remaining c.args.second_again.now)
    c.in_ok-slots.ensures.first c.in_ok-slots.ensures.second i1 i2 i3 i4 slots after again c.look.ensures.first c.look.ensures.second c.look.ensures.one_file)
