use Rattle.std.proofs.Common.{◌≡◌, ℕ, ◌+◌, ◌*◌, ◌/◌, ◌<◌, ◌≤◌, ◌++◌, List, length, take, drop, sym, ap, subst, ◌∙◌, arith}
use Rattle.std.specs.Prelude.{IsPermutation}
use Rattle.std.specs.List.{AllByRecursion}
use Rattle.ic_machine.specs.Plan.{Plans}
use Rattle.ic_workers.specs.Parts.{Part}
use Rattle.ic_workers.specs.declared.desk.Due.{Due}
use Rattle.ic_workers.specs.declared.kept.Hand.{Hand}
use Rattle.ic_workers.specs.inner.HandsOn.{Come}
use Rattle.ic_workers.specs.inner.Keeping.{parts_at, parts_in_all, AreApart, AreWithin, HandsWorked, IsDesk, IsIdle, IsReady}
use Rattle.ic_workers.proofs.HandSteps.{all_worked, dealt, dealt_ready, in_hands_apart, in_hands_within, made_of, made_within, one_within, shared_within, step_desk}
use Rattle.ic_workers.proofs.Lists.{all_mapped, written}
use Rattle.ic_workers.proofs.Workings.{come_on}
use Rattle.ic_workers.proofs.desk.Desk.take_step.Goals as goal
use Rattle.ic_workers.proofs.desk.Desk.take_step.Goals.{After-run_hands, After-take_all_back, In_ok-deal}

-- ---- what was dealt

moved : (g : _) (c : In_ok-deal g) → IsPermutation (parts_in_all c.deal.new.hands ++ parts_at c.deal.new.self) (parts_at c.args.self.now)
moved g c =
    dealt c.deal.new.hands c.deref_mut.result.now (parts_at c.deal.new.self) (parts_at c.args.self.now)
    (ap parts_in_all c.deref_mut.ensures.value ∙ c.in_ok-hands.ensures.none) c.in_ok-deal.ensures.moved

idle : (g : _) (c : In_ok-deal g) → AllByRecursion (IsIdle c.min-budget.result) c.deal.new.hands
idle g c =
    c.deal.ensures.idle c.min-budget.result
    (subst (AllByRecursion (IsIdle c.min-budget.result)) (sym c.deref_mut.ensures.value) c.in_ok-hands.ensures.idle)

long : (g : _) (c : In_ok-deal g) → length c.deal.new.hands ≡ c.in_ok-hands.hands.len
long g c = c.deal.auto.hands ∙ c.deref_mut.ensures.len

-- as many hands as were asked for, at least one
many : (g : _) (c : In_ok-deal g) → length c.deal.new.hands ≡ c.min-count.result
many g c = long g c ∙ (c.in_ok-hands.hands.ok.0 ∙ c.in_ok-hands.ensures.len)

some : (g : _) (c : In_ok-deal g) → 1 ≤ c.min-count.result
some g c = omega (arith, c.min-count.ensures, c.requires.workers, c.requires.some)

all_few : (g : _) (c : In_ok-deal g) → c.min-count.result * c.min-budget.result ≤ c.args.left
all_few g c =
    let share : ℕ = c.args.left / c.max.result in
    let one : c.max.result ≡ c.min-count.result = omega (arith, c.max.ensures, some g c) in
    shared_within c.min-count.result c.args.left share c.min-budget.result (ap (λ (n : ℕ). c.args.left / n) one) (omega (arith, c.min-budget.ensures))

-- ---- what hands have done

ran : (g : _) (c : After-run_hands g) → HandsWorked c.args.program.now c.deal.new.hands c.run_hands.new.hands
ran g c =
    subst (λ (hs : List Hand). HandsWorked c.args.program.now hs c.run_hands.new.hands)
    (c.deref_mut-2.ensures.value ∙ written c.in_ok-hands.hands.len c.in_ok-hands.hands.items c.deal.new.hands (c.deal.auto.hands ∙ c.deref_mut.ensures.len))
    c.run_hands.ensures

-- what the hands hold after that
abbrev left_in : (g : _) (c : After-run_hands g) → List Hand
left_in g c =
    take c.in_ok-hands.hands.len (c.run_hands.new.hands ++ drop (length c.run_hands.new.hands)
    (take c.in_ok-hands.hands.len (c.deal.new.hands ++ drop (length c.deal.new.hands) c.in_ok-hands.hands.items)))

are_left : (g : _) (c : After-run_hands g) → left_in g c ≡ c.run_hands.new.hands
are_left g c =
    written c.in_ok-hands.hands.len (take c.in_ok-hands.hands.len (c.deal.new.hands ++ drop (length c.deal.new.hands) c.in_ok-hands.hands.items))
    c.run_hands.new.hands (c.run_hands.auto.hands ∙ c.deref_mut-2.ensures.len)

-- ---- the desk where all parts are back

back : (g : _) (c : After-take_all_back g) → IsPermutation (parts_in_all c.deal.new.hands ++ parts_at c.deal.new.self) (parts_at c.args.self.now)
    → HandsWorked c.args.program.now c.deal.new.hands c.run_hands.new.hands
    → take c.in_ok-hands.hands.len (c.run_hands.new.hands ++ drop (length c.run_hands.new.hands)
    (take c.in_ok-hands.hands.len (c.deal.new.hands ++ drop (length c.deal.new.hands) c.in_ok-hands.hands.items))) ≡ c.run_hands.new.hands
    → IsDesk c.args.program.now c.take_all_back.new.self × Come c.args.program.now (parts_at c.args.self.now) (parts_at c.take_all_back.new.self)
back g c dealt worked left =
    let back : IsPermutation (parts_at c.take_all_back.new.self) (parts_in_all c.run_hands.new.hands ++ parts_at c.deal.new.self) =
    subst (λ (hs : List Hand). IsPermutation (parts_at c.take_all_back.new.self) (parts_in_all hs ++ parts_at c.deal.new.self)) left
    c.take_all_back.ensures.moved in
    let made : c.take_all_back.new.self.made ≡ c.deal.new.self.made + made_of c.run_hands.new.hands =
    subst (λ (hs : List Hand). c.take_all_back.new.self.made ≡ c.deal.new.self.made + made_of hs) left c.take_all_back.ensures.made in
    step_desk c.args.program.now c.args.self.now c.deal.new.self c.take_all_back.new.self c.deal.new.hands c.run_hands.new.hands c.requires.desk dealt
    worked back c.take_all_back.ensures.slots (c.take_all_back.ensures.len ∙ c.deal.ensures.len) (omega (arith, made, c.deal.ensures.made))

pub run_hands-requires-clause-ready : goal.run_hands-requires-clause-ready
run_hands-requires-clause-ready g c κs within =
    let at = (goal.at.run_hands-requires-clause-ready g c).In_ok-deal in
    let same : c.deref_mut-2.result.now ≡ c.deal.new.hands =
    c.deref_mut-2.ensures.value ∙ written c.in_ok-hands.hands.len c.in_ok-hands.hands.items c.deal.new.hands (long g at) in
    subst (AllByRecursion (IsReady c.args.program.now)) (sym same)
    (dealt_ready c.args.program.now c.args.self.now c.deal.new.hands (parts_at c.deal.new.self) c.min-budget.result c.args.left c.requires.desk (moved g at)
    (idle g at) (one_within c.min-count.result c.args.left c.min-budget.result (some g at) (all_few g at)) c.requires.few)

pub take_all_back-requires-clause-few : goal.take_all_back-requires-clause-few
take_all_back-requires-clause-few g c =
    let at = goal.at.take_all_back-requires-clause-few g c in
    let left = are_left g at.After-run_hands in
    let same : made_of (left_in g at.After-run_hands) ≡ made_of c.run_hands.new.hands = ap made_of left in
    let made = made_within c.args.program.now c.min-budget.result c.deal.new.hands c.run_hands.new.hands (ran g at.After-run_hands) (idle g at.In_ok-deal) in
    let each : length c.deal.new.hands * c.min-budget.result ≡ c.min-count.result * c.min-budget.result =
    ap (λ (n : ℕ). n * c.min-budget.result) (many g at.In_ok-deal) in
    omega (arith, same, made, each, all_few g at.In_ok-deal, c.deal.ensures.made, c.requires.few)

pub take_all_back-requires-clause-within : goal.take_all_back-requires-clause-within
take_all_back-requires-clause-within g c =
    let at = goal.at.take_all_back-requires-clause-within g c in
    let p : Plans = c.args.program.now in
    let gs : List Part = parts_in_all c.deal.new.hands in
    let hs : List Part = parts_in_all c.run_hands.new.hands in
    subst (λ (l : List Hand). AreWithin (length c.deal.new.self.parts.items) (parts_in_all l)) (sym (are_left g at.After-run_hands))
    (subst (λ (n : ℕ). AreWithin n hs) (sym c.deal.ensures.len)
    (in_hands_within p c.args.self.now gs hs (parts_at c.deal.new.self) c.requires.desk (moved g at.In_ok-deal)
    (all_worked p c.deal.new.hands c.run_hands.new.hands (ran g at.After-run_hands))))

pub take_all_back-requires-clause-apart : goal.take_all_back-requires-clause-apart
take_all_back-requires-clause-apart g c =
    let at = goal.at.take_all_back-requires-clause-apart g c in
    let p : Plans = c.args.program.now in
    let gs : List Part = parts_in_all c.deal.new.hands in
    let hs : List Part = parts_in_all c.run_hands.new.hands in
    subst (λ (l : List Hand). AreApart (parts_in_all l ++ parts_at c.deal.new.self)) (sym (are_left g at.After-run_hands))
    (in_hands_apart p c.args.self.now gs hs (parts_at c.deal.new.self) c.requires.desk (moved g at.In_ok-deal)
    (all_worked p c.deal.new.hands c.run_hands.new.hands (ran g at.After-run_hands)))

pub meet-requires-clause-desk : goal.meet-requires-clause-desk
meet-requires-clause-desk g c =
    let at = goal.at.meet-requires-clause-desk g c in
    (c.args.program.now, (back g at.After-take_all_back (moved g at.In_ok-deal) (ran g at.After-run_hands) (are_left g at.After-run_hands)).0)

pub meet-requires-clause-there : goal.meet-requires-clause-there
meet-requires-clause-there g c =
    let len : length c.take_all_back.new.self.parts.items ≡ length c.args.self.now.parts.items = c.take_all_back.ensures.len ∙ c.deal.ensures.len in
    subst (λ (n : ℕ). AllByRecursion (λ (k : ℕ). k < n) c.in_ok-parts.parts.items) (sym len)
    (subst (AllByRecursion (λ (k : ℕ). k < length c.args.self.now.parts.items)) (sym c.in_ok-parts.ensures)
    (all_mapped (λ (d : Due). d.part) (λ (k : ℕ). k < length c.args.self.now.parts.items) c.args.due.now c.requires.there))

pub returns-clause-come : goal.returns-clause-come
returns-clause-come g c =
    let at = goal.at.returns-clause-come g c in
    let b = back g at.After-take_all_back (moved g at.In_ok-deal) (ran g at.After-run_hands) (are_left g at.After-run_hands) in
    come_on c.args.program.now (parts_at c.args.self.now) (parts_at c.take_all_back.new.self) (parts_at c.meet.new.self) b.1
    (c.in_ok-meet.ensures.come c.args.program.now b.0).0

pub returns-clause-desk : goal.returns-clause-desk
returns-clause-desk g c =
    let at = goal.at.returns-clause-desk g c in
    let b = back g at.After-take_all_back (moved g at.In_ok-deal) (ran g at.After-run_hands) (are_left g at.After-run_hands) in
    (c.in_ok-meet.ensures.come c.args.program.now b.0).1

pub returns-clause-within : goal.returns-clause-within
returns-clause-within g c =
    let at = goal.at.returns-clause-within g c in
    let same : made_of (left_in g at.After-run_hands) ≡ made_of c.run_hands.new.hands = ap made_of (are_left g at.After-run_hands) in
    let made = made_within c.args.program.now c.min-budget.result c.deal.new.hands c.run_hands.new.hands (ran g at.After-run_hands) (idle g at.In_ok-deal) in
    let each : length c.deal.new.hands * c.min-budget.result ≡ c.min-count.result * c.min-budget.result =
    ap (λ (n : ℕ). n * c.min-budget.result) (many g at.In_ok-deal) in
    omega (
      arith,
      same,
      made,
      each,
      all_few g at.In_ok-deal,
      c.deal.ensures.made,
      c.take_all_back.ensures.made,
      c.meet.ensures.made,
    )
