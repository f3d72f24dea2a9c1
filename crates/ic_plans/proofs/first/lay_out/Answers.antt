use Rattle.std.proofs.Common.{◌≡◌, ◌+◌, ◌<◌, ◌≤◌, ℕ, List, [], length, map, take, drop, refl, subst, sym, ap, ◌∙◌, arith}
use Rattle.std.specs.List.{flat_map, AllByRecursion}
use Rattle.std.proofs.lemmas.List.{length-map}
use Rattle.ic_term.specs.Configuration.{Configuration, IsWide}
use Rattle.ic_term.specs.Symbol.{Symbol}
use Rattle.ic_flat.specs.Words.{word_names, IsWhole}
use Rattle.ic_flat.specs.Flat.{configuration_words}
use Rattle.ic_flat.specs.lemmas.FlatLaws.{all_terms, nodes-words}
use Rattle.ic_flat.specs.lemmas.WordLaws.{whole-words}
use Rattle.ic_rules.specs.RuleSet.{Rules}
use Rattle.ic_machine.specs.Building.{Builds}
use Rattle.ic_machine.specs.Plan.{Planned}
use Rattle.ic_machine.specs.Runs.{IsStart}
use Rattle.ic_meaning.specs.Plans.{StandsForNet}
use Rattle.ic_plans.specs.inner.Given.{AreFresh, HaveRegisters, operand_links, register_in}
use Rattle.ic_plans.specs.inner.Flattening.{IsRead, WouldBeFlat}
use Rattle.ic_plans.specs.inner.Laying.{AreLaid, CanLay, IsLaidOut}
use Rattle.ic_plans.proofs.NetLemmas.{words-few, words-read, enough-operands, given-exactly, first_starts, first_stands}
use Rattle.ic_plans.proofs.RoomLemmas.{names-length, registers-few}
use Rattle.ic_plans.proofs.first.lay_out.Goals as goal
use Rattle.ic_plans.proofs.first.lay_out.Goals.{After-as_slice-reads}

-- the registers of the same names
have-there : {all ns : List ℕ} {start : ℕ} {given : List ℕ} {fresh : ℕ} {registers : List ℕ} → all ≡ ns
    → HaveRegisters all start given fresh registers → HaveRegisters ns start given fresh registers
have-there {all} {ns} {start} {given} {fresh} {registers} same have = subst (λ l. HaveRegisters l start given fresh registers) same have

-- there are no more of them than names
have-few : {ns : List ℕ} {start : ℕ} {given : List ℕ} {fresh : ℕ} {registers : List ℕ} → HaveRegisters ns start given fresh registers
    → length given + fresh ≤ length ns
have-few {ns} {start} {given} {fresh} {registers} have =
    let few = registers-few ns ns start given have.others have.mid have.final have.are_given have.are_fresh (λ x. omega arith) in
    omega (arith, few, have.fresh_are)

pub give_registers-requires : goal.give_registers-requires
give_registers-requires c =
    let few = words-few c.config-config.result.now c.symbols.result.now c.words-words.result.now c.len-count.result c.words-words.ensures.sound c.len-count.ensures.sound c.words-words.ensures.words c.len-count.ensures.len in
    omega (arith, few.0, few.1, ap length (c.as_slice-all.ensures.value ∙ c.in_ok-occurring.ensures), names-length c.words-words.result.now)

-- ---- the builder

pub overflow_cast-len : goal.overflow_cast-len
overflow_cast-len c =
    let few = words-few c.config-config.result.now c.symbols.result.now c.words-words.result.now c.len-count.result c.words-words.ensures.sound c.len-count.ensures.sound c.words-words.ensures.words c.len-count.ensures.len in
    let have = have-there (c.as_slice-all.ensures.value ∙ c.in_ok-occurring.ensures) c.in_ok-given.ensures in
    let together = have-few have in
    omega (arith, few.0, few.1, c.len.ensures, together, names-length c.words-words.result.now)

pub new-requires-clause-few : goal.new-requires-clause-few
new-requires-clause-few c =
    let few = words-few c.config-config.result.now c.symbols.result.now c.words-words.result.now c.len-count.result c.words-words.ensures.sound c.len-count.ensures.sound c.words-words.ensures.words c.len-count.ensures.len in
    let have = have-there (c.as_slice-all.ensures.value ∙ c.in_ok-occurring.ensures) c.in_ok-given.ensures in
    let together = have-few have in
    let symbols = c.len-count.ensures.len ∙ ap length (c.symbols.ensures.symbols ∙ ap (λ (r : Rules). r.symbols) (c.deref.ensures ∙ c.rules.ensures.rules)) in
    let known = ap length c.requires.arities ∙ length-map c.args.system.now.rules.symbols (λ (s : Symbol). s.arity) in
    omega (arith, few.0, few.1, c.len.ensures, together, names-length c.words-words.result.now, symbols, known)

pub new-requires-clause-symbols : goal.new-requires-clause-symbols
new-requires-clause-symbols c =
    let few = words-few c.config-config.result.now c.symbols.result.now c.words-words.result.now c.len-count.result c.words-words.ensures.sound c.len-count.ensures.sound c.words-words.ensures.words c.len-count.ensures.len in
    let symbols = c.len-count.ensures.len ∙ ap length (c.symbols.ensures.symbols ∙ ap (λ (r : Rules). r.symbols) (c.deref.ensures ∙ c.rules.ensures.rules)) in
    let known = ap length c.requires.arities ∙ length-map c.args.system.now.rules.symbols (λ (s : Symbol). s.arity) in
    omega (arith, few.0, symbols, known)

pub lay-requires-clause-whole : goal.lay-requires-clause-whole
lay-requires-clause-whole c =
    subst (λ l. IsWhole l) (sym c.words-words.ensures.words) (whole-words (all_terms c.config-config.result.now))

-- what is known as the builder has its names
abbrev can_lay : (c : After-as_slice-reads) → CanLay c.as_slice-reads.result.now c.words-words.result.now c.in_ok-builder.builder
can_lay c =
    let have = have-there (c.as_slice-all.ensures.value ∙ c.in_ok-occurring.ensures) c.in_ok-given.ensures in
    let ss = c.args.system.now.rules.symbols in
    let config = c.args.system.now.config in
    let arities : List ℕ = map (λ (s : Symbol). s.arity) ss in
    let given = c.in_ok-given.given.items in
    let ws = c.words-words.result.now in
    let words = c.words-words.ensures.words ∙ ap configuration_words c.config-config.ensures.config in
    let symbols = c.len-count.ensures.len ∙ ap length (c.symbols.ensures.symbols ∙ ap (λ (r : Rules). r.symbols) (c.deref.ensures ∙ c.rules.ensures.rules)) in
    let same : c.in_ok-builder.builder.arities ≡ arities = c.in_ok-builder.ensures.arities ∙ c.requires.arities in
    let g : c.len.result ≡ length given = omega (arith, c.len.ensures) in
    let many : length c.in_ok-builder.builder.arities ≡ c.len-count.result =
    ap length same ∙ (length-map ss (λ (s : Symbol). s.arity) ∙ sym symbols) in
    let read : AllByRecursion (IsRead arities (register_in have.final) (c.len-count.result + length given + length have.others)) ws =
    words-read ss config given have.others have.mid have.final ws c.len-count.result (length given) words symbols refl
    c.config-config.ensures.sound have.are_given have.are_fresh in
    let first : c.len-count.result + length given + length have.others ≡ length c.in_ok-builder.builder.arities + length given + c.in_ok-given.names =
    omega (arith, many, have.fresh_are) in
    record {
      given = length given;
      names = c.in_ok-given.names;
      registers = register_in have.final;
      reads_are = c.as_slice-reads.ensures.value ∙ have.registers_are;
      read = subst (λ (a : List ℕ). AllByRecursion (IsRead a (register_in have.final) (length c.in_ok-builder.builder.arities + length given + c.in_ok-given.names)) ws)
          (sym same) (subst (λ (n : ℕ). AllByRecursion (IsRead arities (register_in have.final) n) ws) first read);
      builds = subst (λ (n : ℕ). Builds n c.in_ok-given.names [] c.in_ok-builder.builder) g c.in_ok-builder.ensures.builds;
      count = omega (arith, c.in_ok-builder.ensures.registers, ap length c.in_ok-builder.ensures.arities, g);
    }

pub lay-requires-clause-can : goal.lay-requires-clause-can
lay-requires-clause-can c = can_lay (goal.at.lay-requires-clause-can c).After-as_slice-reads

pub lay-requires-clause-room : goal.lay-requires-clause-room
lay-requires-clause-room c =
    let few = words-few c.config-config.result.now c.symbols.result.now c.words-words.result.now c.len-count.result c.words-words.ensures.sound c.len-count.ensures.sound c.words-words.ensures.words c.len-count.ensures.len in
    let have = have-there (c.as_slice-all.ensures.value ∙ c.in_ok-occurring.ensures) c.in_ok-given.ensures in
    let together = have-few have in
    let symbols = c.len-count.ensures.len ∙ ap length (c.symbols.ensures.symbols ∙ ap (λ (r : Rules). r.symbols) (c.deref.ensures ∙ c.rules.ensures.rules)) in
    let known = ap length c.requires.arities ∙ length-map c.args.system.now.rules.symbols (λ (s : Symbol). s.arity) in
    omega (arith, few.0, few.1, c.len.ensures, together, symbols, known, c.in_ok-builder.ensures.registers)

pub split_operands-requires : goal.split_operands-requires
split_operands-requires c =
    let enough = enough-operands c.config-config.result.now c.words-words.result.now c.in_ok-operands.operands.items c.interface_len.result c.words-words.ensures.words c.in_ok-operands.ensures.count c.interface_len.ensures.terms in
    omega (arith, enough, ap length c.deref-2.ensures.value)

pub returns-clause-laid : goal.returns-clause-laid
returns-clause-laid c =
    let have = have-there (c.as_slice-all.ensures.value ∙ c.in_ok-occurring.ensures) c.in_ok-given.ensures in
    let can = can_lay (goal.at.returns-clause-laid c).After-as_slice-reads in
    let laid = c.in_ok-operands.ensures.laid can in
    let ss = c.args.system.now.rules.symbols in
    let arities : List ℕ = map (λ (s : Symbol). s.arity) ss in
    let config = c.args.system.now.config in
    let given = c.in_ok-given.given.items in
    let operands = c.in_ok-operands.operands.items in
    let ws = c.words-words.result.now in
    let n = c.len-count.result in
    let same = c.config-config.ensures.config in
    let words = c.words-words.ensures.words ∙ ap configuration_words same in
    let symbols = c.len-count.ensures.len ∙ ap length (c.symbols.ensures.symbols ∙ ap (λ (r : Rules). r.symbols) (c.deref.ensures ∙ c.rules.ensures.rules)) in
    let names = have.fresh_are in
    let sound = subst (λ (k : Configuration). IsWide k) same c.words-words.ensures.sound in
    let known : c.in_ok-builder.builder.arities ≡ arities = c.in_ok-builder.ensures.arities ∙ c.requires.arities in
    let first : length c.in_ok-builder.builder.arities + length given + c.in_ok-given.names ≡ n + length given + length have.others =
    omega (arith, ap length known, length-map ss (λ (s : Symbol). s.arity), symbols, names) in
    let would = subst (λ (a : List ℕ). WouldBeFlat a (register_in have.final) (n + length given + length have.others) ws laid.made operands) known
    (subst (λ m. WouldBeFlat c.in_ok-builder.builder.arities (register_in have.final) m ws laid.made operands) first laid.flat) in
    let terms = c.interface_len.ensures.terms ∙ ap (λ (k : Configuration). length k.interface) same in
    let value = c.deref-2.ensures.value in
    let interface = c.in_ok-interface.ensures.interface ∙ (λ i. take (terms i) (value i)) in
    let links = c.in_ok-interface.ensures.links ∙ (λ i. operand_links (drop (terms i) (value i))) in
    record {
      plan = record { names = c.in_ok-given.names; made = laid.made; links = c.in_ok-interface.links.items };
      names_are = refl;
      links_are = refl;
      arities_are = laid.arities_are ∙ known;
      builds = laid.builds;
      start = first_starts ss config given have.others have.mid have.final laid.made operands ws n (length given) words symbols refl sound c.config-config.ensures.sound
          have.are_given have.are_fresh would c.in_ok-operands.ensures.count c.in_ok-given.names c.in_ok-interface.interface.items c.in_ok-interface.links.items names interface links;
      stands = first_stands ss config given have.others have.mid have.final laid.made operands ws n (length given) words symbols refl sound c.config-config.ensures.sound
          have.are_given have.are_fresh would c.in_ok-operands.ensures.count c.in_ok-given.names c.in_ok-interface.interface.items c.in_ok-interface.links.items names interface links;
    }

pub returns-clause-given : goal.returns-clause-given
returns-clause-given c =
    let have = have-there (c.as_slice-all.ensures.value ∙ c.in_ok-occurring.ensures) c.in_ok-given.ensures in
    let config = c.args.system.now.config in
    let words = c.words-words.ensures.words ∙ ap configuration_words c.config-config.ensures.config in
    given-exactly config c.words-words.result.now c.len-count.result c.in_ok-given.given.items have.mid words have.are_given

pub returns-clause-few : goal.returns-clause-few
returns-clause-few c =
    let have = have-there (c.as_slice-all.ensures.value ∙ c.in_ok-occurring.ensures) c.in_ok-given.ensures in
    let together = have-few have in
    let config = c.args.system.now.config in
    let words = c.words-words.ensures.words ∙ ap configuration_words c.config-config.ensures.config in
    omega (arith, together, names-length c.words-words.result.now, ap length words, nodes-words config)
