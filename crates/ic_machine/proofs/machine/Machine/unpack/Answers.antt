use Rattle.std.proofs.Common.{◌≡◌, ◌+◌, ◌^◌, ◌<◌, ◌≤◌, ℕ, inl, inr, List, [], ◌++◌, Err, length, map, reverse, refl, ap, sym, subst, ◌∙◌}
use Rattle.std.specs.List.{AllByRecursion}
use Rattle.std.proofs.lemmas.Result.{err_from_is_err_and}
use Rattle.ic_arena.specs.declared.word.Word.{Word}
use Rattle.ic_arena.specs.Piece.{Piece}
use Rattle.ic_arena.specs.Tables.{names_pieces}
use Rattle.ic_machine.specs.declared.equation.Equation.{Equation}
use Rattle.ic_machine.specs.declared.machine.Machine.TheInside.{Inside}
use Rattle.ic_machine.specs.declared.machine.MachineFault.TheVariants.{Limit}
use Rattle.ic_machine.specs.declared.tables.Tables.{Tables}
use Rattle.ic_machine.specs.Moving.{end_word, side_of, AreBordered, AreSpelled, KeepWorth, Spells, Unpacks}
use Rattle.ic_machine.specs.Net.{Net, equated_of, pieces, IsPair}
use Rattle.ic_machine.specs.Plan.{Plans}
use Rattle.ic_machine.specs.Separate.{IsSeparate}
use Rattle.ic_machine.specs.Steps.{Steps}
use Rattle.ic_machine.specs.inner.Firing.{arities_of, heaps_pieces}
use Rattle.ic_machine.specs.inner.Machine.{net_of}
use Rattle.ic_machine.specs.inner.Moving.{side_in}
use Rattle.ic_machine.specs.inner.Unpacking.{pairs_on, AreEntered}
use Rattle.ic_machine.specs.lemmas.FiringKeeps.{all_append}
use Rattle.ic_machine.proofs.Grown.{net_full, net_room}
use Rattle.ic_machine.proofs.Limits.{same_fault}
use Rattle.ic_machine.proofs.LinkPairs.{entered}
use Rattle.ic_machine.proofs.Unpacked.{separate_kept, separate_less}
use Rattle.ic_machine.proofs.UnpackedNet.{places_separate, places_sound, put_bordered, put_unpacked, tables_sound}
use Rattle.ic_machine.proofs.machine.Machine.unpack.Goals as goal

pub put_words-requires-clause-spelled : goal.put_words-requires-clause-spelled
put_words-requires-clause-spelled c =
    subst (λ (l : List Word). AreSpelled (arities_of c.self.inside.tables.heaps.items) l) (sym c.deref.ensures.value)
    (subst (λ (n : Net). AreSpelled n.arities c.args.parcel.now.words.items) (sym c.self.view_is) c.requires.spelled)

pub put_words-requires-clause-separate : goal.put_words-requires-clause-separate
put_words-requires-clause-separate c =
    let m : Inside = c.self.inside in
    places_separate (arities_of m.tables.heaps.items) m.interface.items (map end_word c.args.borders.now.ends) m.tables.pending.items m.aside.items
    (net_of m).places (subst (λ (n : Net). AreBordered n c.args.borders.now) (sym c.self.view_is) c.requires.bordered)

pub link_pairs-requires-clause-entered : goal.link_pairs-requires-clause-entered
link_pairs-requires-clause-entered c =
    let m : Inside = c.self.inside in
    let a : List ℕ = arities_of m.tables.heaps.items in
    let t : Tables = c.put_words.new.tables in
    let ws : List Word = c.put_words.new.stack.items in
    let e : List Word = map end_word c.put_words.new.borders.ends in
    let before : IsSeparate a (map end_word c.args.borders.now.ends) (net_of m).places =
    places_separate a m.interface.items (map end_word c.args.borders.now.ends) m.tables.pending.items m.aside.items
    (net_of m).places (subst (λ (n : Net). AreBordered n c.args.borders.now) (sym c.self.view_is) c.requires.bordered) in
    subst (λ (l : List Word). AreEntered l t.names.entries) (sym c.deref-2.ensures.value)
    (entered a ws e t.names.entries t.heaps.items c.put_words.ensures.words
    (separate_kept a [] (map end_word c.args.borders.now.ends) (ws ++ e) [] (net_of m).places
    (names_pieces 0 t.names.entries ++ heaps_pieces 0 t.heaps.items) before c.put_words.ensures.kept))

pub invariant_of-self : goal.invariant_of-self
invariant_of-self c =
    places_sound c.self.inside c.put_words.new.tables c.args.borders.now c.put_words.new.borders c.put_words.new.stack.items c.self.invariant
    c.put_words.ensures.arities (λ i. (c.put_words.ensures.same.0 i).items) (λ i. (c.put_words.ensures.same.1 i).items)
    c.put_words.ensures.few c.put_words.ensures.same.2
    (subst (λ (n : Net). AreBordered n c.args.borders.now) (sym c.self.view_is) c.requires.bordered) c.put_words.ensures.kept

pub invariant_of-self-in_err-reserve : goal.invariant_of-self-in_err-reserve
invariant_of-self-in_err-reserve c =
    places_sound c.self.inside (record c.put_words.new.tables { pending = c.reserve.new.self }) c.args.borders.now c.put_words.new.borders
    c.put_words.new.stack.items c.self.invariant c.put_words.ensures.arities
    (c.reserve.ensures.items ∙ (λ i. (c.put_words.ensures.same.0 i).items)) (λ i. (c.put_words.ensures.same.1 i).items)
    c.put_words.ensures.few c.put_words.ensures.same.2
    (subst (λ (n : Net). AreBordered n c.args.borders.now) (sym c.self.view_is) c.requires.bordered) c.put_words.ensures.kept

pub invariant_of-self-2 : goal.invariant_of-self-2
invariant_of-self-2 c =
    let m : Inside = c.self.inside in
    let t : Tables = record c.put_words.new.tables { pending = c.reserve.new.self } in
    let links : (p : Plans) (rest : List Piece) → Steps p []
    (map equated_of (pairs_on c.put_words.new.stack.items)
    ++ (names_pieces 0 t.names.entries ++ (map equated_of t.pending.items ++ rest)))
    (names_pieces 0 c.link_pairs.new.tables.names.entries ++ (map equated_of c.link_pairs.new.tables.pending.items ++ rest)) =
    (λ p rest. subst (λ (l : List Word). Steps p []
    (map equated_of (pairs_on l) ++ (names_pieces 0 t.names.entries ++ (map equated_of t.pending.items ++ rest)))
    (names_pieces 0 c.link_pairs.new.tables.names.entries ++ (map equated_of c.link_pairs.new.tables.pending.items ++ rest)))
    c.deref-2.ensures.value (c.link_pairs.ensures.steps p rest)) in
    let bordered : IsSeparate (arities_of m.tables.heaps.items) (m.interface.items ++ map end_word c.args.borders.now.ends) (pieces (net_of m)) =
    subst (λ (n : Net). AreBordered n c.args.borders.now) (sym c.self.view_is) c.requires.bordered in
    let separate : IsSeparate (arities_of m.tables.heaps.items) (m.interface.items ++ map end_word c.put_words.new.borders.ends)
    (pieces (net_of (record m { tables = c.link_pairs.new.tables }))) =
    put_bordered c.self.inside (record c.put_words.new.tables { pending = c.reserve.new.self }) c.link_pairs.new.tables c.args.borders.now
    c.put_words.new.borders c.put_words.new.stack.items c.args.parcel.now.words.items c.put_words.ensures.arities
    (λ i. (c.link_pairs.ensures.same.0 i).items) (c.reserve.ensures.items ∙ (λ i. (c.put_words.ensures.same.0 i).items)) links bordered c.put_words.ensures.kept in
    let known : arities_of c.link_pairs.new.tables.heaps.items ≡ arities_of m.tables.heaps.items =
    (λ i. arities_of (c.link_pairs.ensures.same.0 i).items) ∙ c.put_words.ensures.arities in
    let before : AllByRecursion IsPair t.pending.items =
    subst (λ (l : List Equation). AllByRecursion IsPair l) (sym (c.reserve.ensures.items ∙ (λ i. (c.put_words.ensures.same.0 i).items))) c.self.invariant.pairs in
    let pairs : AllByRecursion IsPair c.link_pairs.new.tables.pending.items =
    subst (λ (l : List Equation). AllByRecursion IsPair l) (sym c.link_pairs.ensures.pushed.after)
    (all_append IsPair t.pending.items c.link_pairs.ensures.pushed.more before c.link_pairs.ensures.pushed.pairs) in
    tables_sound m c.link_pairs.new.tables c.self.invariant known
    (separate_less (arities_of m.tables.heaps.items) m.interface.items (map end_word c.put_words.new.borders.ends)
    (pieces (net_of (record m { tables = c.link_pairs.new.tables }))) separate) pairs
    (subst (λ (n : ℕ). n < 2 ^ 32) (sym c.link_pairs.ensures.names) c.put_words.ensures.few)
    ((λ i. (c.link_pairs.ensures.same.1 i).items) ∙ (λ i. (c.put_words.ensures.same.1 i).items))
    (c.link_pairs.ensures.same.2 ∙ c.put_words.ensures.same.2)

pub returns-clause-unpacks : goal.returns-clause-unpacks
returns-clause-unpacks c =
    let m : Inside = c.self.inside in
    let t : Tables = record c.put_words.new.tables { pending = c.reserve.new.self } in
    let links : (p : Plans) (rest : List Piece) → Steps p []
    (map equated_of (pairs_on c.put_words.new.stack.items)
    ++ (names_pieces 0 t.names.entries ++ (map equated_of t.pending.items ++ rest)))
    (names_pieces 0 c.link_pairs.new.tables.names.entries ++ (map equated_of c.link_pairs.new.tables.pending.items ++ rest)) =
    (λ p rest. subst (λ (l : List Word). Steps p []
    (map equated_of (pairs_on l) ++ (names_pieces 0 t.names.entries ++ (map equated_of t.pending.items ++ rest)))
    (names_pieces 0 c.link_pairs.new.tables.names.entries ++ (map equated_of c.link_pairs.new.tables.pending.items ++ rest)))
    c.deref-2.ensures.value (c.link_pairs.ensures.steps p rest)) in
    let spelled : AreSpelled (arities_of m.tables.heaps.items) c.args.parcel.now.words.items =
    subst (λ (n : Net). AreSpelled n.arities c.args.parcel.now.words.items) (sym c.self.view_is) c.requires.spelled in
    subst (λ (n : Net). Unpacks c.args.parcel.now.words.items n (net_of (record m { tables = c.link_pairs.new.tables }))
    c.args.borders.now c.put_words.new.borders) c.self.view_is
    (put_unpacked c.self.inside (record c.put_words.new.tables { pending = c.reserve.new.self }) c.link_pairs.new.tables c.args.borders.now
    c.put_words.new.borders c.put_words.new.stack.items c.args.parcel.now.words.items c.put_words.ensures.arities
    (λ i. (c.link_pairs.ensures.same.0 i).items) (c.reserve.ensures.items ∙ (λ i. (c.put_words.ensures.same.0 i).items)) links spelled
    (subst (λ (l : List Word). Spells (arities_of m.tables.heaps.items) (side_in t c.put_words.new.borders)
    (side_of (net_of m) c.args.borders.now) (reverse c.put_words.new.stack.items) l) c.deref.ensures.value c.in_ok-put_words.ensures.spells)
    (net_room m (record m.tables { spare = 0 }) c.put_words.new.tables c.link_pairs.new.tables refl refl c.link_pairs.ensures.names
    (λ i. (c.link_pairs.ensures.same.0 i).items) c.in_ok-put_words.ensures.grow))

pub returns-clause-bordered : goal.returns-clause-bordered
returns-clause-bordered c =
    let m : Inside = c.self.inside in
    let t : Tables = record c.put_words.new.tables { pending = c.reserve.new.self } in
    let links : (p : Plans) (rest : List Piece) → Steps p []
    (map equated_of (pairs_on c.put_words.new.stack.items)
    ++ (names_pieces 0 t.names.entries ++ (map equated_of t.pending.items ++ rest)))
    (names_pieces 0 c.link_pairs.new.tables.names.entries ++ (map equated_of c.link_pairs.new.tables.pending.items ++ rest)) =
    (λ p rest. subst (λ (l : List Word). Steps p []
    (map equated_of (pairs_on l) ++ (names_pieces 0 t.names.entries ++ (map equated_of t.pending.items ++ rest)))
    (names_pieces 0 c.link_pairs.new.tables.names.entries ++ (map equated_of c.link_pairs.new.tables.pending.items ++ rest)))
    c.deref-2.ensures.value (c.link_pairs.ensures.steps p rest)) in
    let bordered : IsSeparate (arities_of m.tables.heaps.items) (m.interface.items ++ map end_word c.args.borders.now.ends) (pieces (net_of m)) =
    subst (λ (n : Net). AreBordered n c.args.borders.now) (sym c.self.view_is) c.requires.bordered in
    let separate : IsSeparate (arities_of m.tables.heaps.items) (m.interface.items ++ map end_word c.put_words.new.borders.ends)
    (pieces (net_of (record m { tables = c.link_pairs.new.tables }))) =
    put_bordered c.self.inside (record c.put_words.new.tables { pending = c.reserve.new.self }) c.link_pairs.new.tables c.args.borders.now
    c.put_words.new.borders c.put_words.new.stack.items c.args.parcel.now.words.items c.put_words.ensures.arities
    (λ i. (c.link_pairs.ensures.same.0 i).items) (c.reserve.ensures.items ∙ (λ i. (c.put_words.ensures.same.0 i).items)) links bordered c.put_words.ensures.kept in
    let known : arities_of c.link_pairs.new.tables.heaps.items ≡ arities_of m.tables.heaps.items =
    (λ i. arities_of (c.link_pairs.ensures.same.0 i).items) ∙ c.put_words.ensures.arities in
    subst (λ (a : List ℕ). IsSeparate a (m.interface.items ++ map end_word c.put_words.new.borders.ends)
    (pieces (net_of (record m { tables = c.link_pairs.new.tables })))) (sym known) separate

pub returns-clause-pairs : goal.returns-clause-pairs
returns-clause-pairs c =
    let t : Tables = record c.put_words.new.tables { pending = c.reserve.new.self } in
    let before : AllByRecursion IsPair t.pending.items =
    subst (λ (l : List Equation). AllByRecursion IsPair l) (sym (c.reserve.ensures.items ∙ (λ i. (c.put_words.ensures.same.0 i).items))) c.self.invariant.pairs in
    let pairs : AllByRecursion IsPair c.link_pairs.new.tables.pending.items =
    subst (λ (l : List Equation). AllByRecursion IsPair l) (sym c.link_pairs.ensures.pushed.after)
    (all_append IsPair t.pending.items c.link_pairs.ensures.pushed.more before c.link_pairs.ensures.pushed.pairs) in
    pairs

pub returns-clause-worth : goal.returns-clause-worth
returns-clause-worth c =
    subst (λ (l : List Word). KeepWorth c.args.borders.now c.put_words.new.borders l []) c.deref.ensures.value c.in_ok-put_words.ensures.worth

pub returns-in_err-put_words-clause-limit : goal.returns-in_err-put_words-clause-limit
returns-in_err-put_words-clause-limit c = λ e.
    let given = err_from_is_err_and c.from_residual.result c.from_residual.ensures.1 in
    let fault = c.in_err-put_words.ensures.limit
    (ap Err (same_fault c.from_residual.result given.0 c.in_err-put_words.field-0.0 Limit given.1 given.2 e)) in
    elim fault [
      | inl many ↦ inl (subst (λ (l : List Word). 2 ^ 32 ≤ length l + 1) c.deref.ensures.value many)
      | inr full ↦ inr (net_full c.self.inside c.put_words.new.tables c.put_words.new.tables refl refl full)
    ]
