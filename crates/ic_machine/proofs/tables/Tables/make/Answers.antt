use Rattle.std.specs.Vec.{with_items}
use Rattle.std.proofs.Common.{◌≡◌, ◌+◌, ◌<◌, ℕ, List, [], ◌++◌, length, map, max, take, ap, sym, subst, ◌∙◌, append_assoc, arith}
use Rattle.std.specs.List.{AllByRecursion}
use Rattle.std.proofs.lemmas.List.{length-map}
use Rattle.ic_arena.specs.declared.word.Word.{Word}
use Rattle.ic_arena.specs.declared.word.TheConstants.{IDLE}
use Rattle.ic_arena.specs.Tables.{Blocks, names_pieces}
use Rattle.ic_machine.specs.declared.equation.Equation.{Equation}
use Rattle.ic_machine.specs.declared.plan.Link.{Link}
use Rattle.ic_machine.specs.declared.plan.Make.{Make}
use Rattle.ic_machine.specs.declared.tables.Tables.{Tables}
use Rattle.ic_machine.specs.Plan.{Planned, constants, linked, made_of, pieces_made, planned}
use Rattle.ic_machine.specs.Net.{equated_of, in_use}
use Rattle.ic_machine.specs.Steps.{Steps}
use Rattle.ic_machine.specs.inner.Firing.{arities_of, heaps_pieces, Makes, Opened}
use Rattle.ic_machine.specs.inner.Linking.{AreLinks}
use Rattle.ic_machine.specs.inner.Tables.{size_at}
use Rattle.ic_machine.specs.lemmas.FiringKeeps.{all_append}
use Rattle.ic_machine.proofs.Fresh.{agent_tags}
use Rattle.ic_machine.proofs.InUse.{as_used, made_in_use, used_at}
use Rattle.ic_machine.proofs.Making.{constant_words, made_fresh, made_steps, name_words, plan_links}
use Rattle.ic_machine.proofs.Registers.{written, written_twice}
use Rattle.ic_machine.proofs.tables.Tables.make.Goals as goal
use Rattle.ic_machine.proofs.tables.Tables.make.Goals.{After-deref_mut-2, After-deref-3}

-- ---- the words in the registers

module _ (g : _) (c : After-deref_mut-2 g) where
  -- the names that are opened are after those that were filled
  opened : Opened c.args.plan.now.names c.args.self.now.names.entries c.open_into-opened.new.names.entries
      (take c.args.filled c.args.self.now.registers.items) (take c.open_into-opened.result c.open_into-opened.new.registers)
  opened =
      subst (λ (l : List Word). Opened c.args.plan.now.names c.args.self.now.names.entries c.open_into-opened.new.names.entries
      (take c.args.filled l) (take c.open_into-opened.result c.open_into-opened.new.registers))
      c.deref_mut.ensures.value c.open_into-opened.ensures.opened

  wide : length c.open_into-opened.new.registers ≡ length c.args.self.now.registers.items
  wide = c.open_into-opened.ensures.len ∙ ap length c.deref_mut.ensures.value

  second : c.deref_mut-2.result.now ≡ c.open_into-opened.new.registers
  second = c.deref_mut-2.ensures.value ∙ written c.args.self.now.registers c.open_into-opened.new.registers wide

module _ (g : _) (c : After-deref-3 g) where
  -- and the agents after these
  makes : Makes (planned c.args.plan.now).made (heaps_pieces 0 c.args.self.now.heaps.items)
      (heaps_pieces 0 c.make_into-made.new.heaps.items) (take c.open_into-opened.result c.open_into-opened.new.registers)
      (take c.make_into-made.result c.make_into-made.new.registers)
  makes =
      subst (λ (l : List Make). Makes (map made_of l) (heaps_pieces 0 c.args.self.now.heaps.items)
      (heaps_pieces 0 c.make_into-made.new.heaps.items) (take c.open_into-opened.result c.open_into-opened.new.registers)
      (take c.make_into-made.result c.make_into-made.new.registers)) c.deref.ensures.value
      (subst (λ (l : List Word). Makes (map made_of c.deref.result.now) (heaps_pieces 0 c.args.self.now.heaps.items)
      (heaps_pieces 0 c.make_into-made.new.heaps.items) (take c.open_into-opened.result l)
      (take c.make_into-made.result c.make_into-made.new.registers))
      (second g (goal.at.link_all-requires-clause-links g c).After-deref_mut-2) c.make_into-made.ensures.made)

  third : take c.make_into-made.result c.deref-3.result.now ≡ take c.make_into-made.result c.make_into-made.new.registers
  third =
      let d = (goal.at.link_all-requires-clause-links g c).After-deref_mut-2 in
      let len : length c.make_into-made.new.registers ≡ length c.open_into-opened.new.registers =
      c.make_into-made.ensures.len ∙ ap length (second g d) in
      ap (take c.make_into-made.result) (c.deref-3.ensures.value
      ∙ written_twice c.args.self.now.registers c.open_into-opened.new.registers c.make_into-made.new.registers (wide g d) len)

  -- all that are filled then
  filled : take c.make_into-made.result c.make_into-made.new.registers
      ≡ take c.args.filled c.args.self.now.registers.items
      ++ ((opened g (goal.at.link_all-requires-clause-links g c).After-deref_mut-2).names ++ makes.places)
  filled =
      let o = opened g (goal.at.link_all-requires-clause-links g c).After-deref_mut-2 in
      makes.pushed ∙ (ap (λ (l : List Word). l ++ makes.places) o.pushed
      ∙ append_assoc (take c.args.filled c.args.self.now.registers.items) o.names makes.places)

pub make_into-made-requires-clause-words : goal.make_into-made-requires-clause-words
make_into-made-requires-clause-words g c =
    let t : Tables = c.args.self.now in
    let ready = c.requires.ready in
    let o = opened g c in
    let symbols : ℕ = length t.heaps.items in
    let is = ap (take c.open_into-opened.result) (second g c) ∙ (o.pushed ∙ ap (λ (l : List Word). l ++ o.names) ready.words_are) in
    subst (λ (l : List Word). AllByRecursion (λ w. w.tag < IDLE) l) (sym is)
    (all_append (λ w. w.tag < IDLE) (constants symbols ++ ready.args) o.names
    (all_append (λ w. w.tag < IDLE) (constants symbols) ready.args (constant_words symbols ready.symbols) ready.words)
    (name_words o.names o.tags))

pub link_all-requires-clause-links : goal.link_all-requires-clause-links
link_all-requires-clause-links g c =
    let t : Tables = c.args.self.now in
    let p : Planned = planned c.args.plan.now in
    let ready = c.requires.ready in
    let o = opened g (goal.at.link_all-requires-clause-links g c).After-deref_mut-2 in
    let m = makes g c in
    let symbols : ℕ = length t.heaps.items in
    let arities : length (arities_of t.heaps.items) ≡ symbols = length-map t.heaps.items (λ b. b.arity) in
    let is = filled g c
    ∙ (ap (λ (l : List Word). l ++ (o.names ++ m.places)) ready.words_are
    ∙ (append_assoc (constants symbols) ready.args (o.names ++ m.places)
    ∙ ap (λ (k : ℕ). constants k ++ (ready.args ++ (o.names ++ m.places))) (sym arities))) in
    subst (λ (l : List Link). AreLinks l (take c.make_into-made.result c.deref-3.result.now) c.open_into-opened.new.names.entries)
    (sym c.deref-2.ensures.value)
    (subst (λ (l : List Word). AreLinks p.links l c.open_into-opened.new.names.entries) (sym (third g c ∙ is))
    (plan_links (arities_of t.heaps.items) p ready.args o.names m.places t.names.entries
    c.open_into-opened.new.names.entries ready.plan o.count m.count (agent_tags p.made m.places m.tags)
    (subst (λ (l : List Word). AllByRecursion (λ w. w.tag < IDLE) l) is c.make_into-made.ensures.words)
    o.pieces ready.named))

pub returns-clause-made : goal.returns-clause-made
returns-clause-made g c =
    let d = (goal.at.returns-clause-made g c).After-deref-3 in
    let e = (goal.at.returns-clause-made g c).After-deref_mut-2 in
    let t : Tables = c.args.self.now in
    let p : Planned = planned c.args.plan.now in
    let all : List Word = c.make_into-made.new.registers in
    let r0 : List Word = take c.args.filled t.registers.items in
    let r1 : List Word = take c.open_into-opened.result c.open_into-opened.new.registers in
    let r2 : List Word = take c.make_into-made.result all in
    let ns : List Word = t.names.entries in
    let ns' : List Word = c.open_into-opened.new.names.entries in
    let ns'' : List Word = c.link_all.new.names.entries in
    let hs : List Blocks = t.heaps.items in
    let hs' : List Blocks = c.make_into-made.new.heaps.items in
    let ps : List Equation = t.pending.items in
    let qs : List Equation = c.link_all.new.pending.items in
    let o : Opened p.names ns ns' r0 r1 = opened g e in
    let m : Makes p.made (heaps_pieces 0 hs) (heaps_pieces 0 hs') r1 r2 = makes g d in
    let is : r2 ≡ r0 ++ (o.names ++ m.places) = filled g d in
    let last = written_twice t.registers c.open_into-opened.new.registers all (wide g e)
    (c.make_into-made.ensures.len ∙ ap length (second g e)) in
    let many : length c.deref.result.now ≡ length p.made =
    ap length c.deref.ensures.value ∙ sym (length-map c.args.plan.now.makes.items made_of) in
    let end : c.args.filled + (p.names + length p.made) ≡ c.make_into-made.result =
    omega (arith, c.open_into-opened.ensures.filled, c.make_into-made.ensures.filled) in
    record {
      names = o.names;
      made = m.places;
      names_count = o.count;
      made_count = m.count;
      name_tags = o.tags;
      made_tags = m.tags;
      registers = (λ i. take (end i) (last i)) ∙ is;
      fresh = λ rest. made_fresh p.names p.made ns ns' hs (heaps_pieces 0 hs') r0 r1 r2 ps rest o m;
      steps = λ q rest. subst (λ (l : List Word). Steps q []
          (pieces_made p l o.names m.places
          ++ (names_pieces 0 ns ++ (heaps_pieces 0 hs ++ (map equated_of ps ++ rest))))
          (names_pieces 0 ns'' ++ (heaps_pieces 0 hs' ++ (map equated_of qs ++ rest)))) is
          (made_steps q p p.names ns ns' ns'' hs hs' r0 r1 r2 (map equated_of ps) (map equated_of qs) rest o m
          (λ others. subst (λ (l : List Link). Steps q []
          (map (linked r2) l ++ (names_pieces 0 ns' ++ (map equated_of ps ++ others)))
          (names_pieces 0 ns'' ++ (map equated_of qs ++ others))) c.deref-2.ensures.value
          (subst (λ (l : List Word). Steps q []
          (map (linked l) c.deref-2.result.now ++ (names_pieces 0 ns' ++ (map equated_of ps ++ others)))
          (names_pieces 0 ns'' ++ (map equated_of qs ++ others))) (third g d)
          (c.link_all.ensures.steps q others))));
      bare = λ q rest more is'. subst (λ (l : List Word). Steps q []
          (pieces_made p l o.names m.places ++ (names_pieces 0 ns ++ (heaps_pieces 0 hs ++ rest)))
          (names_pieces 0 ns'' ++ (heaps_pieces 0 hs' ++ (map equated_of more ++ rest)))) is
          (made_steps q p p.names ns ns' ns'' hs hs' r0 r1 r2 [] (map equated_of more) rest o m
          (λ others. subst (λ (l : List Link). Steps q []
          (map (linked r2) l ++ (names_pieces 0 ns' ++ others)) (names_pieces 0 ns'' ++ (map equated_of more ++ others)))
          c.deref-2.ensures.value
          (subst (λ (l : List Word). Steps q []
          (map (linked l) c.deref-2.result.now ++ (names_pieces 0 ns' ++ others))
          (names_pieces 0 ns'' ++ (map equated_of more ++ others))) (third g d)
          (c.link_all.ensures.bare q others more is'))));
      places = λ kind rest. as_used t (record { names = c.link_all.new.names; heaps = c.make_into-made.new.heaps; pending = c.link_all.new.pending; registers = with_items (with_items t.registers c.open_into-opened.new.registers) all; spare = t.spare; stamps = c.link_all.new.stamps }) ns' hs' (c.link_all.ensures.names ∙ c.open_into-opened.ensures.places)
          c.make_into-made.ensures.places kind
          ∙ ap (max (size_at kind t))
          (sym (subst (λ (l : List Word). in_use kind (pieces_made p l o.names m.places
          ++ (names_pieces 0 ns ++ (heaps_pieces 0 hs ++ (map equated_of ps ++ map equated_of rest)))) ≡ used_at kind ns' hs') is
          (made_in_use kind p p.names ns ns' hs hs' r0 r1 r2 ps rest o m)));
    }
