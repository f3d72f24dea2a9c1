use Rattle.std.proofs.Common.{◌≡◌, ◌+◌, ◌^◌, ◌<◌, ◌-◌, ◌≤◌, ℕ, List, [], ◌++◌, length, max, refl, ap, sym, subst, ◌∙◌, arith}
use Rattle.std.specs.List.{AllByRecursion}
use Rattle.std.proofs.Math.Nat.{zero-max}
use Rattle.std.proofs.lemmas.List.{length-append, length-map}
use Rattle.ic_arena.specs.declared.word.Word.{Word}
use Rattle.ic_arena.specs.declared.word.TheConstants.{IDLE, GIVEN}
use Rattle.ic_arena.specs.Tables.{names_pieces}
use Rattle.ic_machine.specs.declared.tables.Tables.{Tables}
use Rattle.ic_machine.specs.Building.{Building, Builds}
use Rattle.ic_machine.specs.Plan.{constants}
use Rattle.ic_machine.specs.Runs.{given_words}
use Rattle.ic_machine.specs.inner.Firing.{arities_of, heaps_pieces}
use Rattle.ic_machine.specs.lemmas.FiringKeeps.{all_append}
use Rattle.ic_machine.proofs.Built.{base, built_count, builds_names, nothing_full}
use Rattle.ic_machine.proofs.Limits.{none_yet}
use Rattle.ic_machine.proofs.Making.{constant_words, name_words}
use Rattle.ic_machine.proofs.Starting.{given_length, given_marks}
use Rattle.ic_machine.proofs.building.Builder.new.Goals as goal
use Rattle.ic_machine.proofs.building.Builder.new.Goals.{After-open_names, After-push_given}

-- what is in registers before the names
given : (c : After-push_given) → c.push_given.new.registers.items ≡ base c.args.program.now.arities c.args.given
given c =
    c.push_given.ensures.pushed ∙ ap (λ (l : List Word). l ++ given_words c.args.given)
    (c.reserve-2.ensures.items ∙ (c.in_ok-tables.ensures.registers ∙ ap (λ (l : List ℕ). constants (length l)) c.arities.ensures.arities))

module _ (c : After-open_names) where
  known : arities_of c.in_ok-tables.tables.heaps.items ≡ c.args.program.now.arities
  known = c.in_ok-tables.ensures.arities ∙ c.arities.ensures.arities

  many : length c.in_ok-tables.tables.heaps.items ≡ length c.args.program.now.arities
  many = sym (length-map c.in_ok-tables.tables.heaps.items (λ x. x.arity)) ∙ ap length known

  none : c.reserve.new.self.entries ≡ []
  none = c.reserve.ensures.entries ∙ c.in_ok-tables.ensures.names

  abbrev built : Building
  built = record {
    arities = arities_of c.in_ok-tables.tables.heaps.items;
    registers = c.open_names.new.registers.items;
    names = names_pieces 0 c.open_names.new.names.entries;
    agents = heaps_pieces 0 c.in_ok-tables.tables.heaps.items;
  }

  builds : Builds c.args.given c.args.names [] built
  builds =
      builds_names c.args.given c.args.names built c.open_names.new.names.entries c.reserve.new.self.entries c.push_given.new.registers.items
      none refl c.in_ok-tables.ensures.heaps
      (given (goal.at.returns-clause-builds c).After-push_given ∙ ap (λ (l : List ℕ). base l c.args.given) (sym known)) c.open_names.ensures.opened

pub open_names-requires-clause-registers : goal.open_names-requires-clause-registers
open_names-requires-clause-registers c =
    let enough = c.in_ok-reserve-2.ensures.ok in
    let before = c.reserve-2.new.self.ok.0 in
    let now = c.push_given.new.registers.ok.0 in
    let len = ap length c.push_given.ensures.pushed ∙ length-append c.reserve-2.new.self.items (given_words c.args.given) in
    let many : length (given_words c.args.given) ≡ c.args.given = given_length c.args.given in
    let capacity = c.push_given.ensures.capacity in
    omega arith

pub returns-clause-arities : goal.returns-clause-arities
returns-clause-arities c = known (goal.at.returns-clause-arities c).After-open_names

pub returns-clause-builds : goal.returns-clause-builds
returns-clause-builds c = builds (goal.at.returns-clause-builds c).After-open_names

pub returns-clause-registers : goal.returns-clause-registers
returns-clause-registers c =
    let d = (goal.at.returns-clause-registers c).After-open_names in
    let all = built_count c.args.given c.args.names [] (built d) (builds d) in
    omega (arith, all, ap length (known d))

pub invariant_of-result : goal.invariant_of-result
invariant_of-result c =
    let d = (goal.at.invariant_of-result c).After-open_names in
    let t : Tables = c.in_ok-tables.tables in
    let n : ℕ = length c.args.program.now.arities in
    let opened = c.open_names.ensures.opened in
    let old : length c.reserve.new.self.entries ≡ 0 = ap length (none d) in
    let few : length c.args.program.now.arities + c.args.given + c.args.names ≤ 2 ^ 32 - 1 = c.requires.few in
    let longest = c.open_names.ensures.few in
    let registers = opened.pushed ∙ ap (λ (l : List Word). l ++ opened.names) (given (goal.at.invariant_of-result c).After-push_given) in
    record {
      names = omega arith;
      symbols = subst (λ (k : ℕ). k < GIVEN) (sym (many d)) c.requires.symbols;
      words = subst (λ (l : List Word). AllByRecursion (λ w. w.tag < IDLE) l) (sym registers)
          (all_append (λ w. w.tag < IDLE) (base c.args.program.now.arities c.args.given) opened.names
          (all_append (λ w. w.tag < IDLE) (constants n) (given_words c.args.given) (constant_words n c.requires.symbols) (given_marks 0 c.args.given))
          (name_words opened.names opened.tags));
      all_names = c.open_names.ensures.places ∙ (ap (λ (k : ℕ). max k (length (names_pieces 0 c.open_names.new.names.entries))) old
          ∙ zero-max (length (names_pieces 0 c.open_names.new.names.entries)));
      all_blocks = nothing_full t.heaps.items c.in_ok-tables.ensures.counts;
      few = λ s. (let zero = none_yet t.heaps.items s c.in_ok-tables.ensures.counts in omega arith);
      pending = c.in_ok-tables.ensures.pending;
      spare = c.in_ok-tables.ensures.spare;
    }
