use Rattle.std.proofs.Common.{◌≡◌, ◌+◌, ◌-◌, ◌≤◌, ℕ, List, [], ◌∷◌, length, map, ap, refl, sym, subst, ◌∙◌, arith}
use Rattle.std.specs.List.{AllByRecursion}
use Rattle.std.proofs.lemmas.Result.{err_from_is_err_and}
use Rattle.ic_arena.specs.Tables.{Blocks}
use Rattle.ic_machine.specs.declared.equation.Equation.{Equation}
use Rattle.ic_machine.specs.declared.tables.Tables.{Tables}
use Rattle.ic_machine.specs.Plan.{Planned, planned}
use Rattle.ic_machine.specs.Net.{equated_of, IsPair}
use Rattle.ic_machine.specs.inner.Firing.{arities_of}
use Rattle.ic_machine.specs.inner.Linking.{Pushed}
use Rattle.ic_machine.specs.inner.Pairs.{CanFire}
use Rattle.ic_machine.specs.inner.Tables.{FiresBy, HasMemory, HasRoomFor, arguments_of, held, size_at, size_of}
use Rattle.ic_machine.specs.lemmas.FiringKeeps.{all_append}
use Rattle.ic_machine.proofs.Fired.{fires_before, first_apart, left_table, right_table, separate_apart}
use Rattle.ic_machine.proofs.Heaps.{made_known, same_arities, same_at, same_length, same_pieces}
use Rattle.ic_machine.proofs.InUse.{same_size}
use Rattle.ic_machine.proofs.Registers.{first_kept, wide_enough}
use Rattle.ic_machine.proofs.tables.Tables.fire_first.Goals as goal
use Rattle.ic_machine.proofs.tables.Tables.fire_first.Goals.{After-take_first}

-- what is left is known
same_left : (others left : List Equation) (e : Equation) → e ∷ left ≡ e ∷ others → left ≡ others
same_left others left e is = cc

module _ (c : After-take_first) where
  -- the pair is taken out
  out : c.args.self.now.pending.items ≡ c.args.pair ∷ c.take_first.new.self.items
  out = sym c.prepare.ensures.pending ∙ c.take_first.ensures.items c.args.pair (record { rest = c.requires.first.rest; is = c.prepare.ensures.pending ∙ c.requires.first.is })

pub arguments-arguments-requires-clause-left : goal.arguments-arguments-requires-clause-left
arguments-arguments-requires-clause-left c =
    let below = (left_table c.args.self.now.heaps.items c.args.pair (planned c.args.plan.now) c.requires.plan).0 in
    (omega (arith, c.requires.plan.left_tag), omega (arith, c.requires.plan.left_tag))

pub arguments-arguments-requires-clause-right : goal.arguments-arguments-requires-clause-right
arguments-arguments-requires-clause-right c =
    let below = (right_table c.args.self.now.heaps.items c.args.pair (planned c.args.plan.now) c.requires.plan).0 in
    (omega (arith, c.requires.plan.right_tag), omega (arith, c.requires.plan.right_tag))

pub prepare-requires-clause-known : goal.prepare-requires-clause-known
prepare-requires-clause-known c =
    let p : Planned = planned c.args.plan.now in
    let hs : List Blocks = c.args.self.now.heaps.items in
    let can = c.requires.plan in
    made_known hs (length (arities_of hs) + (can.left_args + can.right_args) + p.names) p.made can.is_plan.made

pub fire-requires-clause-symbols : goal.fire-requires-clause-symbols
fire-requires-clause-symbols c =
    let few = c.requires.symbols in
    let len = same_length c.args.self.now.heaps.items c.prepare.new.self.heaps.items c.prepare.ensures.heaps in
    omega arith

pub prepare-requires-clause-wide : goal.prepare-requires-clause-wide
prepare-requires-clause-wide c =
    wide_enough (length c.args.self.now.heaps.items) c.args.self.now.registers.items c.requires.registers

pub fire-requires-clause-registers : goal.fire-requires-clause-registers
fire-requires-clause-registers c =
    first_kept (length c.args.self.now.heaps.items) (length c.prepare.new.self.heaps.items) c.prepare.new.self.registers.items
    (same_length c.args.self.now.heaps.items c.prepare.new.self.heaps.items c.prepare.ensures.heaps)
    (c.prepare.ensures.registers ∙ c.requires.registers)

pub fire-requires-clause-plan : goal.fire-requires-clause-plan
fire-requires-clause-plan c =
    subst (λ (a : List ℕ). CanFire a c.args.pair (planned c.args.plan.now))
    (sym (same_arities c.args.self.now.heaps.items c.prepare.new.self.heaps.items c.prepare.ensures.heaps)) c.requires.plan

pub fire-requires-clause-separate : goal.fire-requires-clause-separate
fire-requires-clause-separate c =
    let t : Tables = c.args.self.now in
    let d = (goal.at.fire-requires-clause-separate c).After-take_first in
    separate_apart t (record c.prepare.new.self { pending = c.take_first.new.self }) c.args.pair c.prepare.ensures.names c.prepare.ensures.heaps
    (first_apart t c.args.pair c.take_first.new.self.items [] (out d)) c.requires.separate

pub fire-requires-clause-memory : goal.fire-requires-clause-memory
fire-requires-clause-memory c =
    let t : Tables = c.prepare.new.self in
    let p : Planned = planned c.args.plan.now in
    let e : Equation = c.args.pair in
    let hs : List Blocks = c.args.self.now.heaps.items in
    let memory = c.in_ok-prepare.ensures.memory in
    let links : length t.pending.items + length p.links ≤ t.pending.capacity = memory.pending in
    let less = c.take_first.ensures.len in
    let left = (same_at hs t.heaps.items c.prepare.ensures.heaps (e.left.tag - 1)).0 in
    let right = (same_at hs t.heaps.items c.prepare.ensures.heaps (e.right.tag - 1)).0 in
    let count : c.arguments-arguments.result ≡ arguments_of e t.heaps.items =
    c.arguments-arguments.ensures.count ∙ (λ i. sym left i + sym right i) in
    let same = subst (λ (k : ℕ). HasMemory p k t) count memory in
    record {
      names = same.names;
      few = same.few;
      pending = omega (arith, c.take_first.ensures.capacity);
      registers = same.registers;
      heaps = same.heaps;
    }

pub returns-clause-spare : goal.returns-clause-spare
returns-clause-spare c = λ some.
    let t : Tables = c.prepare.new.self in
    let p : Planned = planned c.args.plan.now in
    let same : c.fire.new.self.spare ≡ t.spare = c.fire.ensures.spare in
    let room : HasRoomFor (t.spare + size_of p) t = c.in_ok-prepare.ensures.spare (omega arith) in
    let pending : length t.pending.items + (t.spare + size_of p) ≤ t.pending.capacity = room.pending in
    let less = c.take_first.ensures.len in
    subst (λ (k : ℕ). HasRoomFor k c.fire.new.self) (sym same) (c.fire.ensures.room t.spare (record {
      names = room.names;
      few = room.few;
      pending = omega (arith, c.take_first.ensures.capacity);
      heaps = room.heaps;
    }))

pub returns-in_err-prepare-clause-spare : goal.returns-in_err-prepare-clause-spare
returns-in_err-prepare-clause-spare c = λ some. absurd (omega (arith, c.in_err-prepare.ensures.none))

pub returns-in_err-prepare-clause-same : goal.returns-in_err-prepare-clause-same
returns-in_err-prepare-clause-same c =
    let pieces = same_pieces c.args.self.now.heaps.items c.prepare.new.self.heaps.items 0 c.prepare.ensures.heaps in
    let same : (rest : List Equation) → held c.prepare.new.self (map equated_of rest) ≡ held c.args.self.now (map equated_of rest) =
    λ rest. rw (c.prepare.ensures.names, pieces, c.prepare.ensures.pending) refl in
    let e = err_from_is_err_and c.from_residual.result c.from_residual.ensures.1 in
    rw e.1 same

pub returns-in_err-prepare-clause-places : goal.returns-in_err-prepare-clause-places
returns-in_err-prepare-clause-places c =
    let same : (kind : ℕ) → size_at kind c.prepare.new.self ≡ size_at kind c.args.self.now =
    same_size c.args.self.now c.prepare.new.self (ap length c.prepare.ensures.names)
    (λ s. (same_at c.args.self.now.heaps.items c.prepare.new.self.heaps.items c.prepare.ensures.heaps s).1) in
    let e = err_from_is_err_and c.from_residual.result c.from_residual.ensures.1 in
    rw e.1 same

pub returns-in_err-prepare-clause-arities : goal.returns-in_err-prepare-clause-arities
returns-in_err-prepare-clause-arities c =
    same_arities c.args.self.now.heaps.items c.prepare.new.self.heaps.items c.prepare.ensures.heaps

pub returns-in_err-prepare-clause-registers : goal.returns-in_err-prepare-clause-registers
returns-in_err-prepare-clause-registers c =
    first_kept (length c.args.self.now.heaps.items) (length c.prepare.new.self.heaps.items)
    c.prepare.new.self.registers.items
    (same_length c.args.self.now.heaps.items c.prepare.new.self.heaps.items c.prepare.ensures.heaps)
    (c.prepare.ensures.registers ∙ c.requires.registers)

pub returns-clause-fires : goal.returns-clause-fires
returns-clause-fires c = λ q i a b others rest left_tag right_tag arities number pending aside is.
    let d = (goal.at.returns-clause-fires c).After-take_first in
    let t : Tables = c.args.self.now in
    let u : Tables = record c.prepare.new.self { pending = c.take_first.new.self } in
    let left : c.take_first.new.self.items ≡ others = same_left others c.take_first.new.self.items c.args.pair (sym (out d) ∙ is) in
    let pairs = (subst (AllByRecursion IsPair) (out d) pending).1 in
    let by = c.fire.ensures.fires q i a b rest left_tag right_tag
    (arities ∙ sym (same_arities t.heaps.items c.prepare.new.self.heaps.items c.prepare.ensures.heaps)) number pairs aside in
    subst (λ (l : List Equation). FiresBy q c.args.pair i t c.fire.new.self l rest) left
    (fires_before q c.args.pair i t u c.fire.new.self c.take_first.new.self.items rest c.prepare.ensures.names c.prepare.ensures.heaps by)

pub returns-clause-pairs : goal.returns-clause-pairs
returns-clause-pairs c = λ pending.
    let d = (goal.at.returns-clause-pairs c).After-take_first in
    let more = c.fire.ensures.pushed in
    subst (AllByRecursion IsPair) (sym more.after) (all_append IsPair c.take_first.new.self.items more.more (subst (AllByRecursion IsPair) (out d) pending).1 more.pairs)

pub returns-clause-pushed : goal.returns-clause-pushed
returns-clause-pushed c = λ others is.
    let d = (goal.at.returns-clause-pushed c).After-take_first in
    subst (λ (l : List Equation). Pushed l c.fire.new.self.pending.items)
    (same_left others c.take_first.new.self.items c.args.pair (sym (out d) ∙ is)) c.fire.ensures.pushed

pub returns-clause-arities : goal.returns-clause-arities
returns-clause-arities c =
    c.fire.ensures.arities ∙ same_arities c.args.self.now.heaps.items c.prepare.new.self.heaps.items c.prepare.ensures.heaps
