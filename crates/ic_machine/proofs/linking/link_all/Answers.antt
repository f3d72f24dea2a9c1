use Rattle.std.proofs.Common.{◌≡◌, ◌+◌, ℕ, List, [], ◌∷◌, ◌++◌, map, drop, slice_index_or, ap, subst, sym, ◌∙◌, refl, append_assoc, arith}
use Rattle.std.specs.List.Sorted.{IsPermutation}
use Rattle.std.proofs.lemmas.List.{append-nil, append_cancel_left, map-append}
use Rattle.std.proofs.lemmas.List.Sorted.{IsPermutation-append_right, IsPermutation-refl}
use Rattle.ic_arena.specs.declared.word.Word.{Word}
use Rattle.ic_arena.specs.Piece.{Piece}
use Rattle.ic_arena.specs.Tables.{names_pieces}
use Rattle.ic_machine.specs.declared.equation.Equation.{Equation}
use Rattle.ic_machine.specs.declared.plan.Link.{Link}
use Rattle.ic_machine.specs.Plan.{linked}
use Rattle.ic_machine.specs.Net.{equated_of}
use Rattle.ic_machine.specs.Steps.{Steps, no_step}
use Rattle.ic_machine.specs.inner.Linking.{AreLinks}
use Rattle.ic_machine.specs.lemmas.Orders.{to_front}
use Rattle.ic_machine.specs.lemmas.StepsOn.{steps_to}
use Rattle.ic_machine.proofs.Heads.{head_known, no_head, one_more}
use Rattle.ic_machine.proofs.Links.{linked_on, links_first, links_from, links_on, links_past, pushed_none, pushed_twice}
use Rattle.ic_machine.proofs.linking.link_all.Goals as goal

pub loop-each-init : goal.loop-each-init
loop-each-init g c = record {
  steps = λ p rest.
      let xs : List Piece = map (linked c.args.registers.now) c.args.links.now
      ++ (names_pieces 0 c.args.names.now.entries ++ (map equated_of c.args.pending.now.items ++ rest)) in
      no_step xs xs (IsPermutation-refl xs);
  links = c.requires.links;
  bare = λ p rest more is.
      let start : List Piece = map (linked c.args.registers.now) c.args.links.now ++ (names_pieces 0 c.args.names.now.entries ++ rest) in
      let none : [] ≡ more = append_cancel_left c.args.pending.now.items [] more (append-nil c.args.pending.now.items ∙ is) in
      subst (λ (m : List Equation). Steps p [] start (map (linked c.args.registers.now) c.args.links.now
      ++ (names_pieces 0 c.args.names.now.entries ++ (map equated_of m ++ rest)))) none
      (no_step start start (IsPermutation-refl start));
  head = no_head c.args.links.now c.args.registers.now c.args.pending.now.items;
  pushed = pushed_none c.args.pending.now.items;
  len = omega arith;
  capacity = refl;
  memory = refl;
  names = refl;
}

pub link-requires-clause-named : goal.link-requires-clause-named
link-requires-clause-named g c =
    let i : ℕ = c.loop-each.each-index in
    let none : Link = record { left = 0; right = 0 } in
    let l : Link = slice_index_or c.args.links.now i none in
    links_first l (drop (i + 1) c.args.links.now) c.args.registers.now c.loop-each.names.entries
    (subst (λ (ls : List Link). AreLinks ls c.args.registers.now c.loop-each.names.entries)
    (links_from c.args.links.now i none c.loop-each-test.true) c.loop-each.invariant.links)

pub loop-each-preserved : goal.loop-each-preserved
loop-each-preserved g c =
    let i : ℕ = c.loop-each.each-index in
    let none : Link = record { left = 0; right = 0 } in
    let rs : List Word = c.args.registers.now in
    let l : Link = slice_index_or c.args.links.now i none in
    let ls : List Link = drop (i + 1) c.args.links.now in
    let ns : List Piece = names_pieces 0 c.loop-each.names.entries in
    let ps : List Piece = map equated_of c.loop-each.pending.items in
    let next : drop i c.args.links.now ≡ l ∷ ls = links_from c.args.links.now i none c.loop-each-test.true in
    record {
      steps = λ p rest.
          let start : List Piece = map (linked rs) c.args.links.now
          ++ (names_pieces 0 c.args.names.now.entries ++ (map equated_of c.args.pending.now.items ++ rest)) in
          linked_on p start (linked rs l) (map (linked rs) ls) ns ps
          (names_pieces 0 c.link.new.names.entries) (map equated_of c.link.new.pending.items) rest
          (subst (λ (x : List Link). Steps p [] start (map (linked rs) x ++ (ns ++ (ps ++ rest)))) next
          (c.loop-each.invariant.steps p rest))
          (λ others. c.link.ensures.steps p others);
      links = links_on l ls rs c.loop-each.names.entries c.link.new.names.entries
          c.loop-each.pending.items c.link.new.pending.items (λ p rest. c.link.ensures.steps p rest)
          c.link.ensures.pushed
          (subst (λ (x : List Link). AreLinks x rs c.loop-each.names.entries) next c.loop-each.invariant.links);
      bare = λ p rest more is.
          let before = c.loop-each.invariant.pushed in
          let then = c.link.ensures.pushed in
          let start : List Piece = map (linked rs) c.args.links.now ++ (names_pieces 0 c.args.names.now.entries ++ rest) in
          let all : before.more ++ then.more ≡ more = append_cancel_left c.args.pending.now.items (before.more ++ then.more) more
          (sym (then.after ∙ (ap (λ (l : List Equation). l ++ then.more) before.after
          ∙ append_assoc c.args.pending.now.items before.more then.more)) ∙ is) in
          let ms : List Piece = names_pieces 0 c.link.new.names.entries in
          let one : List Piece = map equated_of before.more in
          let two : List Piece = map equated_of then.more in
          subst (λ (m : List Equation). Steps p [] start (map (linked rs) ls ++ (ms ++ (map equated_of m ++ rest)))) all
          (linked_on p start (linked rs l) (map (linked rs) ls) ns one ms (map equated_of (before.more ++ then.more)) rest
          (subst (λ (x : List Link). Steps p [] start (map (linked rs) x ++ (ns ++ (one ++ rest)))) next
          (c.loop-each.invariant.bare p rest before.more before.after))
          (λ others. steps_to p [] (linked rs l ∷ (ns ++ (one ++ others))) (ms ++ (two ++ (one ++ others)))
          (ms ++ (map equated_of (before.more ++ then.more) ++ others)) (c.link.ensures.bare p (one ++ others) then.more then.after)
          (IsPermutation-append_right ms (two ++ (one ++ others)) (map equated_of (before.more ++ then.more) ++ others)
          (subst (λ (v : List Piece). IsPermutation (two ++ (one ++ others)) v)
          (sym (append_assoc one two others) ∙ ap (λ (v : List Piece). v ++ others) (sym (map-append equated_of before.more then.more)))
          (to_front two one others)))));
      head = one_more c.args.links.now rs i none c.args.pending.now.items c.loop-each.pending.items c.link.new.pending.items
          c.loop-each-test.true c.loop-each.invariant.head c.link.ensures.pushed c.link.ensures.pair;
      pushed = pushed_twice c.args.pending.now.items c.loop-each.pending.items c.link.new.pending.items
          c.loop-each.invariant.pushed c.link.ensures.pushed;
      len = omega arith;
      capacity = c.link.ensures.capacity ∙ c.loop-each.invariant.capacity;
      memory = c.link.ensures.memory ∙ c.loop-each.invariant.memory;
      names = c.link.ensures.names ∙ c.loop-each.invariant.names;
    }

pub returns-clause-steps : goal.returns-clause-steps
returns-clause-steps g c = λ p rest.
    let i : ℕ = c.loop-each.each-index in
    let rs : List Word = c.args.registers.now in
    let tables : List Piece = names_pieces 0 c.loop-each.names.entries
    ++ (map equated_of c.loop-each.pending.items ++ rest) in
    let start : List Piece = map (linked rs) c.args.links.now
    ++ (names_pieces 0 c.args.names.now.entries ++ (map equated_of c.args.pending.now.items ++ rest)) in
    subst (λ (x : List Link). Steps p [] start (map (linked rs) x ++ tables))
    (links_past c.args.links.now i c.loop-each-test.false) (c.loop-each.invariant.steps p rest)

pub returns-clause-head : goal.returns-clause-head
returns-clause-head g c =
    head_known c.args.links.now c.args.registers.now c.loop-each.each-index c.args.pending.now.items c.loop-each.pending.items
    c.loop-each-test.false c.loop-each.invariant.head

pub returns-clause-bare : goal.returns-clause-bare
returns-clause-bare g c = λ p rest more is.
    let rs : List Word = c.args.registers.now in
    let tables : List Piece = names_pieces 0 c.loop-each.names.entries ++ (map equated_of more ++ rest) in
    let start : List Piece = map (linked rs) c.args.links.now ++ (names_pieces 0 c.args.names.now.entries ++ rest) in
    subst (λ (x : List Link). Steps p [] start (map (linked rs) x ++ tables))
    (links_past c.args.links.now c.loop-each.each-index c.loop-each-test.false) (c.loop-each.invariant.bare p rest more is)
