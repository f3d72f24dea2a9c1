use Rattle.std.proofs.Common.{◌≡◌, ◌∙◌, ℕ, ◌+◌, ◌≤◌, ◌++◌, List, [], length, refl, sym, ap, subst, arith}
use Rattle.ic_arena.specs.declared.word.Word.{Word}
use Rattle.ic_machine.specs.declared.equation.Equation.{Equation}
use Rattle.ic_machine.specs.Moving.{side_of, spells_cut, worth, AreBordered, AreSpelled, GivesAll, KeepWorth, Side}
use Rattle.ic_machine.specs.Net.{Net}
use Rattle.ic_machine.specs.Plan.{Plans}
use Rattle.ic_workers.specs.Parts.{Part}
use Rattle.ic_workers.specs.inner.Keeping.{part_of}
use Rattle.ic_workers.proofs.Gathering.{gathers, gives_spelled}
use Rattle.ic_workers.proofs.Lists.{ok_then, ok_three}
use Rattle.ic_workers.proofs.desk.handing.gather.Goals as goal

pub give_all-requires : goal.give_all-requires
give_all-requires c = record {
  bordered = c.requires.kept.2.bordered;
  numbers = λ k.
      let nothing_yet : spells_cut k [] ≡ 0 = refl in
      let few = c.requires.kept.3 k in
      subst (λ (ws : List Word). worth k c.args.part.borders + spells_cut k ws ≤ 2) (sym c.new-parcel.ensures) (omega (arith, few, nothing_yet));
}

pub count_also-requires : goal.count_also-requires
count_also-requires c = record {
  few = let same = ap (λ (n : Net). n.interactions) c.in_ok-give_all.ensures.same in omega (arith, c.requires.few, same);
  plans = ap (λ (n : Net). length n.counts) c.in_ok-give_all.ensures.same ∙ (c.requires.kept.2.plans ∙ sym c.requires.kept.1.plans);
}

pub unpack-requires : goal.unpack-requires
unpack-requires c =
    let p : Plans = c.requires.kept.0 in
    let es : List Equation = c.args.part.machine.pending ++ c.args.part.machine.aside in
    let s : Side = side_of c.args.part.machine c.args.part.borders in
    let t : Side = side_of c.give_all.new.self c.give_all.new.borders in
    let words : List Word = c.give_all.new.parcel.words.items in
    let gives : GivesAll p.arities es s t [] words =
    subst (λ (ws : List Word). GivesAll p.arities es s t ws words) c.new-parcel.ensures
    (subst (λ (l : List ℕ). GivesAll l es s t c.new-parcel.result.words.items words) c.requires.kept.2.arities c.in_ok-give_all.ensures.gives) in
    record {
      bordered = subst (λ (n : Net). AreBordered n c.args.first.now.borders) (sym c.count_also.ensures.same) c.requires.kept.1.bordered;
      spelled = subst (λ (l : List ℕ). AreSpelled l words) (sym (ap (λ (n : Net). n.arities) c.count_also.ensures.same ∙ c.requires.kept.1.arities))
          (gives_spelled p.arities es s t words gives);
    }

pub returns-clause-gathers : goal.returns-clause-gathers
returns-clause-gathers c = ok_three c.unpack.result (λ unpacks bordered worths. λ p kept_b kept_a.
    let a : Part = part_of c.args.part in
    let b : Part = part_of c.args.first.now in
    let left : Part = record { number = c.args.part.number; net = c.give_all.new.self; borders = c.give_all.new.borders } in
    let es : List Equation = a.net.pending ++ a.net.aside in
    let s : Side = side_of a.net a.borders in
    let t : Side = side_of left.net left.borders in
    let words : List Word = c.give_all.new.parcel.words.items in
    let gives : GivesAll p.arities es s t [] words =
    subst (λ (ws : List Word). GivesAll p.arities es s t ws words) c.new-parcel.ensures
    (subst (λ (l : List ℕ). GivesAll l es s t c.new-parcel.result.words.items words) kept_a.arities c.in_ok-give_all.ensures.gives) in
    let given_worth : KeepWorth a.borders left.borders [] words =
    (λ (k : ℕ). subst (λ (ws : List Word). worth k left.borders + spells_cut k words ≡ worth k a.borders + spells_cut k ws) c.new-parcel.ensures
    (c.in_ok-give_all.ensures.worth k)) in
    gathers c.what_a_part_sends_stays_one_net.ensures.gathered p words a left b c.count_also.new.self (part_of c.unpack.new.part) kept_a kept_b c.requires.later
    (record {
      number = refl;
      gives = gives;
      idle = c.in_ok-give_all.ensures.all.2;
      once = c.what_borders_hold.ensures.names;
      worth = given_worth;
      interactions = ap (λ (n : Net). n.interactions) c.in_ok-give_all.ensures.same;
      counts = ap (λ (n : Net). n.counts) c.in_ok-give_all.ensures.same;
    })
    (record {
      same = c.count_also.ensures.same;
      interactions = c.count_also.ensures.interactions;
      counts = c.count_also.ensures.counts;
      plans = c.count_also.ensures.plans;
      number = c.unpack.ensures.number;
      unpacks = unpacks;
      bordered = bordered;
      worth = worths;
      once = c.unpack.ensures.once;
    })) c.unpack.ensures.unpacks c.unpack.ensures.bordered c.unpack.ensures.worth

pub returns-clause-worth : goal.returns-clause-worth
returns-clause-worth c = ok_then c.unpack.result (λ worths. λ k.
    let nothing_yet : spells_cut k c.new-parcel.result.words.items ≡ 0 = ap (spells_cut k) c.new-parcel.ensures in
    let given = c.in_ok-give_all.ensures.worth k in
    let taken = worths k in
    omega (arith, nothing_yet, given, taken)) c.unpack.ensures.worth
