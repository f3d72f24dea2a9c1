use Rattle.std.proofs.Common.{◌≡◌, ◌+◌, ◌-◌, ◌^◌, ◌<◌, ℕ, List, [], ◌∷◌, ◌++◌, Some, length, slice_get, refl, ap, sym, subst, ◌∙◌, arith}
use Rattle.std.specs.List.{AllByRecursion}
use Rattle.std.proofs.lemmas.List.{length_push}
use Rattle.ic_arena.specs.declared.word.Word.{Word}
use Rattle.ic_arena.specs.declared.word.TheConstants.{IDLE, GIVEN}
use Rattle.ic_arena.specs.Piece.{Piece}
use Rattle.ic_arena.specs.Tables.{Blocks}
use Rattle.ic_machine.specs.declared.building.Builder.TheInside.{Inside}
use Rattle.ic_machine.specs.Building.{Building, Builds}
use Rattle.ic_machine.specs.Plan.{Made}
use Rattle.ic_machine.specs.inner.Building.{building_of}
use Rattle.ic_machine.specs.inner.Firing.{heaps_pieces}
use Rattle.ic_machine.specs.inner.Making.{MakesOne}
use Rattle.ic_machine.proofs.Built.{builds_more, full_same, grown_sound, made_sound}
use Rattle.ic_machine.proofs.Heaps.{arity_known, same_all, same_arities, same_at, same_length, same_pieces}
use Rattle.ic_machine.proofs.building.Builder.make.Goals as goal

pub reserve_one-requires-clause-known : goal.reserve_one-requires-clause-known
reserve_one-requires-clause-known c =
    let m : Inside = c.self.inside in
    (arity_known m.tables.heaps.items c.args.symbol (length c.args.operands.now)
    (subst (λ (b : Building). slice_get b.arities c.args.symbol ≡ Some (length c.args.operands.now)) (sym c.self.view_is) c.requires.arity)).0

pub reserve_one-requires-clause-few : goal.reserve_one-requires-clause-few
reserve_one-requires-clause-few c =
    let m : Inside = c.self.inside in
    let few = subst (λ (b : Building). length b.registers < 2 ^ 32 - 1) (sym c.self.view_is) c.requires.few in
    let count = c.self.invariant.few c.args.symbol in
    omega arith

pub make_one-requires-clause-arity : goal.make_one-requires-clause-arity
make_one-requires-clause-arity c =
    let m : Inside = c.self.inside in
    subst (λ (a : List ℕ). slice_get a c.args.symbol ≡ Some (length c.args.operands.now))
    (sym (same_arities m.tables.heaps.items c.reserve_one.new.heaps.items c.reserve_one.ensures.same))
    (subst (λ (b : Building). slice_get b.arities c.args.symbol ≡ Some (length c.args.operands.now)) (sym c.self.view_is) c.requires.arity)

pub make_one-requires-clause-filled : goal.make_one-requires-clause-filled
make_one-requires-clause-filled c =
    subst (λ (l : List Word). AllByRecursion (λ k. k < length l) c.args.operands.now) (sym c.reserve.ensures.items)
    (subst (λ (b : Building). AllByRecursion (λ k. k < length b.registers) c.args.operands.now) (sym c.self.view_is) c.requires.filled)

pub make_one-requires-clause-words : goal.make_one-requires-clause-words
make_one-requires-clause-words c =
    subst (λ (l : List Word). AllByRecursion (λ w. w.tag < IDLE) l) (sym c.reserve.ensures.items) c.self.invariant.words

pub make_one-requires-clause-symbols : goal.make_one-requires-clause-symbols
make_one-requires-clause-symbols c =
    subst (λ (k : ℕ). k < GIVEN) (sym (same_length c.self.inside.tables.heaps.items c.reserve_one.new.heaps.items c.reserve_one.ensures.same))
    c.self.invariant.symbols

pub invariant_of-self : goal.invariant_of-self
invariant_of-self c =
    grown_sound c.self.inside c.self.invariant c.self.inside.tables.heaps c.reserve.new.self (same_all c.self.inside.tables.heaps.items) c.reserve.ensures.items

pub invariant_of-self-2 : goal.invariant_of-self-2
invariant_of-self-2 c =
    let m : Inside = c.self.inside in
    let hs : List Blocks = m.tables.heaps.items in
    let gs : List Blocks = c.reserve_one.new.heaps.items in
    let same = c.reserve_one.ensures.same in
    let longer = ap length c.make_one.ensures.made.pushed in
    made_sound m c.self.invariant c.make_one.new.heaps c.make_one.new.registers
    (c.make_one.ensures.arities ∙ same_arities hs gs same) c.make_one.ensures.words
    (c.make_one.ensures.full (full_same hs gs same c.self.invariant.all_blocks))
    (λ s. let more = c.make_one.ensures.count s in let count = (same_at hs gs same s).1 in omega arith)
    (longer ∙ (length_push c.reserve.new.self.items c.make_one.ensures.made.place ∙ ap (λ (l : List Word). length l + 1) c.reserve.ensures.items))

pub returns-clause-made : goal.returns-clause-made
returns-clause-made c =
    let m : Inside = c.self.inside in
    let hs : List Blocks = m.tables.heaps.items in
    let gs : List Blocks = c.reserve_one.new.heaps.items in
    let same = c.reserve_one.ensures.same in
    let n : Made = record { symbol = c.args.symbol; operands = c.args.operands.now } in
    let b : Building = building_of (record m { tables = record m.tables { heaps = c.make_one.new.heaps; registers = c.make_one.new.registers } }) in
    let one : MakesOne n (heaps_pieces 0 hs) (heaps_pieces 0 c.make_one.new.heaps.items) m.tables.registers.items c.make_one.new.registers.items =
    subst (λ (l : List Piece). MakesOne n l (heaps_pieces 0 c.make_one.new.heaps.items) m.tables.registers.items c.make_one.new.registers.items)
    (same_pieces hs gs 0 same)
    (subst (λ (l : List Word). MakesOne n (heaps_pieces 0 gs) (heaps_pieces 0 c.make_one.new.heaps.items) l c.make_one.new.registers.items)
    c.reserve.ensures.items c.make_one.ensures.made) in
    subst (λ (a : Building). (given names : ℕ) (made : List Made) → Builds given names made a → Builds given names (made ++ n ∷ []) b) c.self.view_is
    (λ given names made h. builds_more given names made n (building_of m) b (c.make_one.ensures.arities ∙ same_arities hs gs same) refl one
    (subst (λ (v : Building). AllByRecursion (λ k. k < length v.registers) c.args.operands.now) (sym c.self.view_is) c.requires.filled) h)

pub returns-clause-arities : goal.returns-clause-arities
returns-clause-arities c =
    c.make_one.ensures.arities ∙ (same_arities c.self.inside.tables.heaps.items c.reserve_one.new.heaps.items c.reserve_one.ensures.same
    ∙ ap (λ (v : Building). v.arities) c.self.view_is)

pub returns-clause-registers : goal.returns-clause-registers
returns-clause-registers c =
    ap length c.make_one.ensures.made.pushed ∙ (length_push c.reserve.new.self.items c.make_one.ensures.made.place
    ∙ (ap (λ (l : List Word). length l + 1) c.reserve.ensures.items ∙ ap (λ (v : Building). length v.registers + 1) c.self.view_is))

-- where memory is refused, there is more of it at most
pub invariant_of-self-in_err-reserve_one : goal.invariant_of-self-in_err-reserve_one
invariant_of-self-in_err-reserve_one c =
    grown_sound c.self.inside c.self.invariant c.reserve_one.new.heaps c.reserve.new.self c.reserve_one.ensures.same c.reserve.ensures.items

pub returns-in_err-reserve_one-clause-arities : goal.returns-in_err-reserve_one-clause-arities
returns-in_err-reserve_one-clause-arities c =
    same_arities c.self.inside.tables.heaps.items c.reserve_one.new.heaps.items c.reserve_one.ensures.same
    ∙ ap (λ (v : Building). v.arities) c.self.view_is
