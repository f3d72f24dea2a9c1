use Rattle.std.proofs.Common.{◌≡◌, ◌+◌, ◌^◌, ◌<◌, length, arith, ◌≤◌}
use Rattle.std.proofs.lemmas.List.{length-map}
use Rattle.ic_machine.specs.declared.tables.Tables.{Tables}
use Rattle.ic_machine.specs.Plan.{Planned, made_of, planned}
use Rattle.ic_machine.specs.inner.Tables.{HasRoomFor}
use Rattle.ic_machine.proofs.Heaps.{same_all}
use Rattle.ic_machine.proofs.Spare.{memory_kept, room_for_plan, same_on}
use Rattle.ic_machine.proofs.tables.Tables.prepare.Goals as goal

pub returns-then-arguments-size-clause-heaps : goal.returns-then-arguments-size-clause-heaps
returns-then-arguments-size-clause-heaps c = same_all c.args.self.now.heaps.items

pub returns-then-arguments-size-clause-memory : goal.returns-then-arguments-size-clause-memory
returns-then-arguments-size-clause-memory c =
    let t : Tables = c.args.self.now in
    let p : Planned = planned c.args.plan.now in
    let room : HasRoomFor t.spare t = c.requires.spare (omega (arith, c.if-size-self.true)) in
    let made : length p.made ≡ length c.args.plan.now.makes.items = length-map c.args.plan.now.makes.items made_of in
    let makes = c.args.plan.now.makes.ok.0 in
    let links = c.args.plan.now.links.ok.0 in
    let registers = t.registers.ok.0 in
    let heaps = t.heaps.ok.0 in
    let wide = c.requires.wide in
    let names_room : length t.names.entries + t.spare ≤ t.names.capacity = room.names in
    let few : length t.names.entries + t.spare < 2 ^ 32 = room.few in
    let pending_room : length t.pending.items + t.spare ≤ t.pending.capacity = room.pending in
    record {
      names = omega (arith, c.if-size-self.true, c.len.ensures);
      few = omega (arith, c.if-size-self.true, c.len.ensures);
      pending = omega (arith, c.if-size-self.true, c.if-links-self.true, c.len.ensures, c.len-links.ensures);
      registers = omega (arith, c.if-arguments-size.true, c.len.ensures, c.len-2.ensures, c.len-3.ensures);
      heaps = room_for_plan t.spare p t.heaps.items (omega (arith, c.if-size-self.true, c.len.ensures)) room.heaps c.requires.known;
    }

pub returns-clause-heaps : goal.returns-clause-heaps
returns-clause-heaps c =
    same_on c.args.self.now.heaps.items c.reserve.new.self.heaps.items c.take_spare-self.new.self.heaps.items
    c.reserve.ensures.heaps c.take_spare-self.ensures.heaps

pub returns-clause-memory : goal.returns-clause-memory
returns-clause-memory c =
    let u : Tables = record c.take_spare-self.new.self { spare = c.take_spare-self.result } in
    memory_kept (planned c.args.plan.now) c.args.arguments c.reserve.new.self u c.take_spare-self.ensures.names
    c.take_spare-self.ensures.more_names c.take_spare-self.ensures.pending c.take_spare-self.ensures.more_pending
    c.take_spare-self.ensures.registers c.take_spare-self.ensures.heaps c.in_ok-reserve.ensures.memory
