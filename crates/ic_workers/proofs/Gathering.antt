-- Lemmas: all that a part gives is spelled, and a part that has taken it in has what both had.
use Rattle.std.proofs.Common.{◌≡◌, ◌≢◌, inl, inr, ℕ, ◌+◌, ◌≤◌, List, [], ◌∷◌, ◌++◌, Option, None, Some, append_assoc, length, map, sum_by, slice_index_or, refl, sym, ap, subst, arith, ◌∙◌}
use Rattle.std.specs.List.{flat_map, AllByRecursion}
use Rattle.std.specs.List.Sorted.{IsPermutation}
use Rattle.std.proofs.lemmas.List.{append-nil}
use Rattle.std.proofs.lemmas.List.Concat.{flat_map-append}
use Rattle.std.proofs.lemmas.List.Sums.{sum_by-cons}
use Rattle.std.proofs.lemmas.List.Sorted.{IsPermutation-append_comm, IsPermutation-append_left, IsPermutation-refl}
use Rattle.ic_arena.specs.declared.word.Word.{Word}
use Rattle.ic_arena.specs.Word.{name_word}
use Rattle.ic_arena.specs.Piece.{agent_of, waits}
use Rattle.ic_machine.specs.declared.equation.Equation.{Equation}
use Rattle.ic_machine.specs.Moving.{side_of, sides_of, times, worth, AreBordered, AreOpened, AreShipped, AreSpelled, GivesAll, IsIdle, KeepWorth, Packs, Ships, Side, Spells, Unpacks}
use Rattle.ic_machine.specs.Moving.{cut, follow, gone, no_more, none_opened, nothing, one_opened, opened, passed, plain, shipped}
use Rattle.ic_machine.specs.Net.{Net, IsStuck}
use Rattle.ic_machine.specs.Plan.{Plans}
use Rattle.ic_machine.specs.lemmas.Spelled.{spells_from, spells_none, spells_on}
use Rattle.ic_workers.specs.Parts.{Part}
use Rattle.ic_workers.specs.inner.HandsOn.{Gathers, HandsOn, handed, stayed}
use Rattle.ic_workers.specs.declared.kept.Kept.{Kept}
use Rattle.ic_workers.specs.declared.desk.Desk.{Desk}
use Rattle.ic_workers.specs.inner.Keeping.{interactions_of, part_of, parts_at, slot, AreAt, AreLeft, AreOnce, IsDesk, IsKept}
use Rattle.ic_workers.specs.inner.Sent.{CountsAlso, GaveAll, Took}
use Rattle.ic_workers.proofs.Contracts.{took}
use Rattle.ic_workers.proofs.Parcelled.{ship_spelled}
use Rattle.ic_workers.proofs.Slots.{full_most}

-- ---- what is spelled with more beside it

abbrev beside : Side → Side → Side
beside s x = record { places = s.places ++ x.places; ends = s.ends ++ x.ends }

wider : (a : List ℕ) (f r x : Side) (ws ts : List Word) → Spells a f r ws ts → Spells a (beside f x) (beside r x) ws ts
wider a b c x ws ts (nothing f r same also) =
    nothing (beside f x) (beside r x) (IsPermutation-append_left x.places f.places r.places same) (IsPermutation-append_left x.ends f.ends r.ends also)
wider a b c x ws ts (follow f n r name word vs us tag taken also rest) =
    follow (beside f x) (beside n x) (beside r x) name word vs us tag
    (IsPermutation-append_left x.places f.places (waits name word ∷ n.places) taken) (IsPermutation-append_left x.ends f.ends n.ends also)
    (wider a n r x (word ∷ vs) us rest)
wider a b c x ws ts (opened f n r agent args vs us is taken also rest) =
    opened (beside f x) (beside n x) (beside r x) agent args vs us is
    (IsPermutation-append_left x.places f.places (agent_of agent args ∷ n.places) taken) (IsPermutation-append_left x.ends f.ends n.ends also)
    (wider a n r x (args ++ vs) us rest)
wider a b c x ws ts (plain f r w vs us is rest) = plain (beside f x) (beside r x) w vs us is (wider a f r x vs us rest)
wider a b c x ws ts (cut f n r e vs us same also rest) =
    cut (beside f x) (beside n x) (beside r x) e vs us (IsPermutation-append_left x.places f.places n.places same)
    (IsPermutation-append_left x.ends (e ∷ f.ends) n.ends also) (wider a n r x vs us rest)
wider a b c x ws ts (gone f n r e vs us taken also rest) =
    gone (beside f x) (beside n x) (beside r x) e vs us (IsPermutation-append_left x.places f.places _ taken)
    (IsPermutation-append_left x.ends f.ends _ also) (wider a n r x vs us rest)

none_spelled : (a : List ℕ) → AreSpelled a []
none_spelled a =
    let none : Side = record { places = []; ends = [] } in
    record { full = none; rest = none; equations = []; spells = spells_none a none }

-- words that are spelled, one after another
pub spelled_both : (a : List ℕ) (ws vs : List Word) → AreSpelled a ws → AreSpelled a vs → AreSpelled a (ws ++ vs)
spelled_both a ws vs one two =
    let f : Side = beside one.full two.full in
    let m : Side = beside one.rest two.full in
    let r : Side = beside two.rest one.rest in
    let other : Side = beside two.full one.rest in
    let first : Spells a f m (sides_of one.equations) ws = wider a one.full one.rest two.full (sides_of one.equations) ws one.spells in
    let second : Spells a other r (sides_of two.equations) vs = wider a two.full two.rest one.rest (sides_of two.equations) vs two.spells in
    let turned : Spells a m r (sides_of two.equations) vs =
    spells_from a m other r (sides_of two.equations) vs (IsPermutation-append_comm one.rest.places two.full.places)
    (IsPermutation-append_comm one.rest.ends two.full.ends) second in
    record {
      full = f;
      rest = r;
      equations = one.equations ++ two.equations;
      spells = subst (λ (l : List Word). Spells a f r l (ws ++ vs)) (sym (flat_map-append (λ (e : Equation). e.left ∷ e.right ∷ []) one.equations two.equations))
          (spells_on a f m r (sides_of one.equations) ws (sides_of two.equations) vs first turned);
    }

-- ---- what was spelled after other words is spelled

abbrev IsMore : List ℕ → (before after : List Word) → Type 0
IsMore a before after = (more : List Word) × (after ≡ before ++ more) × AreSpelled a more

none_more : (a : List ℕ) (ws : List Word) → IsMore a ws ws
none_more a ws = ([], sym (append-nil ws), none_spelled a)

more_on : (a : List ℕ) (us vs ws : List Word) → IsMore a us vs → IsMore a vs ws → IsMore a us ws
more_on a us vs ws first second = (
  first.0 ++ second.0,
  second.1 ∙ (ap (λ (l : List Word). l ++ second.0) first.1 ∙ append_assoc us first.0 second.0),
  spelled_both a first.0 second.0 first.2 second.2,
)

ships_more : (a : List ℕ) (n : ℕ) (s t : Side) (us vs : List Word) → Ships a n s t us vs → IsMore a us vs
ships_more a n s t us vs ship =
    let more : List Word = name_word n ∷ ship.more in
    let alone : Ships a n s t [] more = record {
      end = ship.end;
      is = ship.is;
      word = ship.word;
      middle = ship.middle;
      taken = ship.taken;
      cut = ship.cut;
      more = ship.more;
      spelled = refl;
      spells = ship.spells;
    } in
    (more, ship.spelled, ship_spelled a n s t more alone)

all_ships : (a : List ℕ) (ns : List ℕ) (s t : Side) (us vs : List Word) → AreShipped a ns s t us vs → IsMore a us vs
all_ships a ns s t us vs (no_more b ws) = none_more a ws
all_ships a ns s t us vs (shipped m ms b c d xs ys zs ship more) = more_on a xs ys zs (ships_more a m b c xs ys ship) (all_ships a ms c d ys zs more)
all_ships a ns s t us vs (passed m ms b c xs ys none more) = all_ships a ms b c xs ys more

packs_more : (a : List ℕ) (es : List Equation) (s t : Side) (us vs : List Word) → Packs a es s t us vs → IsMore a us vs
packs_more a es s t us vs packs = (packs.more, packs.spelled, record { full = s; rest = t; equations = es; spells = packs.spells })

all_opens : (a : List ℕ) (s t : Side) (us vs : List Word) → AreOpened a s t us vs → IsMore a us vs
all_opens a s t us vs (none_opened b ws) = none_more a ws
all_opens a s t us vs (one_opened b c d xs ys zs first opens) =
    more_on a xs ys zs (all_opens a b c xs ys first) (packs_more a _ _ d ys zs opens.packs)

-- All that was given is spelled.
pub gives_spelled : (a : List ℕ) (es : List Equation) (s t : Side) (words : List Word) → GivesAll a es s t [] words → AreSpelled a words
gives_spelled a es s t words gives =
    let more : IsMore a [] words =
    more_on a [] gives.with_equations words
    (more_on a [] gives.with_cuts gives.with_equations (all_ships a _ s gives.first [] gives.with_cuts gives.shipped)
    (packs_more a es gives.first gives.second gives.with_cuts gives.with_equations gives.packs))
    (all_opens a gives.second t gives.with_equations words gives.opened) in
    subst (AreSpelled a) (sym more.1) more.2

-- ---- one part has what both had

abbrev pub LawOfGathered : Type 0
LawOfGathered = (arities : List ℕ) (a c b d : Part) (qs : List Part) (words : List Word)
    → GaveAll arities words a c → KeepWorth a.borders c.borders [] words → Took arities words b d → KeepWorth b.borders d.borders words []
    → CountsAlso b a d → ((x : ℕ) → times x (map (λ e. e.cut) d.borders.ends) ≤ 1) → HandsOn arities (b ∷ a ∷ qs) (d ∷ qs)

-- What a part has given, by the contract of its machine.
pub record HasGiven (arities : List ℕ) (words : List Word) (a c : Part) : Type 0 where
  pub number : c.number ≡ a.number
  pub gives : GivesAll arities (a.net.pending ++ a.net.aside) (side_of a.net a.borders) (side_of c.net c.borders) [] words
  pub idle : AllByRecursion IsIdle c.net.places
  pub once : (x : ℕ) → times x (map (λ e. e.name) c.borders.ends) ≤ 1
  pub worth : KeepWorth a.borders c.borders [] words
  pub interactions : c.net.interactions ≡ a.net.interactions
  pub counts : c.net.counts ≡ a.net.counts

-- What a machine counts also, and what its part has taken in.
pub record HasTaken (words : List Word) (b c : Part) (m : Net) (d : Part) : Type 0 where
  pub same : m ≡ record b.net { interactions = m.interactions; counts = m.counts }
  pub interactions : m.interactions ≡ b.net.interactions + c.net.interactions
  pub counts : (i : ℕ) → slice_index_or m.counts i 0 ≡ slice_index_or b.net.counts i 0 + slice_index_or c.net.counts i 0
  pub plans : length m.counts ≡ length b.net.counts
  pub number : d.number ≡ b.number
  pub unpacks : Unpacks words m d.net b.borders d.borders
  pub bordered : AreBordered d.net d.borders
  pub worth : KeepWorth b.borders d.borders words []
  pub once : AreOnce d.borders

pub gathers : LawOfGathered → (p : Plans) (words : List Word) (a c b : Part) (m : Net) (d : Part) → IsKept p a → IsKept p b → (a.number ≡ 0 → ⊥)
    → HasGiven p.arities words a c → HasTaken words b c m d → Gathers p.arities a b d × IsKept p d
gathers law p words a c b m d kept_a kept_b later given taken =
    let middle : Net = record b.net { interactions = m.interactions; counts = m.counts } in
    let between : Part = record b { net = middle } in
    let unpacks : Unpacks words middle d.net b.borders d.borders =
    subst (λ (n : Net). Unpacks words n d.net b.borders d.borders) taken.same taken.unpacks in
    let took_in : Took p.arities words between d = took p.arities words between d taken.number kept_b.arities unpacks in
    let none : a.net.interface ≡ [] = elim kept_a.interface [
      | inl own ↦ absurd (later own)
      | inr none ↦ none
    ] in
    let gave : GaveAll p.arities words a c = record {
      number = given.number;
      interface = none;
      gives = given.gives;
      idle = given.idle;
      once = given.once;
    } in
    let has_taken : Took p.arities words b d = record {
      number = took_in.number;
      interface = took_in.interface;
      same_arities = took_in.same_arities;
      equations = took_in.equations;
      places = took_in.places;
      spells = took_in.spells;
      once = took_in.once;
      linked = took_in.linked;
    } in
    let also : CountsAlso b a d = record {
      interactions = unpacks.interactions ∙ (taken.interactions ∙ ap (λ (k : ℕ). b.net.interactions + k) given.interactions);
      counts = λ i. ap (λ (l : List ℕ). slice_index_or l i 0) unpacks.counts
          ∙ (taken.counts i ∙ ap (λ (l : List ℕ). slice_index_or b.net.counts i 0 + slice_index_or l i 0) given.counts);
      plans = ap length unpacks.counts ∙ taken.plans;
    } in (
      (λ qs. law p.arities a c b d qs words gave given.worth has_taken taken.worth also taken.once),
      record {
        arities = unpacks.arities ∙ kept_b.arities;
        plans = ap length unpacks.counts ∙ (taken.plans ∙ kept_b.plans);
        bordered = taken.bordered;
        interface = elim kept_b.interface [
          | inl own ↦ inl (taken.number ∙ own)
          | inr none ↦ inr (unpacks.interface ∙ none)
        ];
        aside = subst (AllByRecursion (IsStuck p)) (sym unpacks.aside) kept_b.aside;
      },
    )

-- ---- all parts, one after another

pub left_one_less : (p : Plans) (qs : List Part) (made : ℕ) (first a new : Part) (others : List Part) → AreLeft p qs made first (a ∷ others)
    → Gathers p.arities a first new → IsKept p new → new.number ≡ first.number
    → ((c : ℕ) → worth c new.borders ≤ worth c first.borders + worth c a.borders) → AreLeft p qs made new others
left_one_less p qs made first a new others left gathers kept number worths = record {
  come = handed qs (first ∷ a ∷ others) (new ∷ others) left.come (gathers others);
  kept = (kept, left.kept.1.1);
  is_first = number ∙ left.is_first;
  later = left.later.1;
  two = λ c.
      let f : Part → ℕ = λ (q : Part). worth c q.borders in
      let before = left.two c in
      let x = sum_by-cons f first (a ∷ others) in
      let y = sum_by-cons f a others in
      let z = sum_by-cons f new others in
      let few = worths c in
      omega (arith, before, x, y, z, few);
  counted = (gathers others).alike.interactions ∙ left.counted;
}

-- no part in a slot after the first has the first number
above : (xs : List (Option Kept)) (j : ℕ) → 1 ≤ j → AreAt j (map slot xs) → AllByRecursion (λ q. q.number ≢ 0) (flat_map slot xs)
above [] j low at = tt
above (None ∷ xs) j low at = above xs (j + 1) (omega (arith, low)) at.1
above (Some q ∷ xs) j low at =
    let own : q.number ≡ j = at.0.0 in
    ((λ none. absurd (omega (arith, low, own, none))), above xs (j + 1) (omega (arith, low)) at.1)

at_first : (xs : List (Option Kept)) (first : Part) (others : List Part) → AreAt 0 (map slot xs) → length (flat_map slot xs) ≡ length xs
    → flat_map slot xs ≡ first ∷ others → (first.number ≡ 0) × AllByRecursion (λ q. q.number ≢ 0) others
at_first [] first others at full is = cc
at_first (None ∷ xs) first others at full is = let most = full_most xs in absurd (omega (arith, full, most))
at_first (Some q ∷ xs) first others at full is =
    let own : part_of q ≡ first = cc in
    let rest : flat_map slot xs ≡ others = cc in
    (sym (ap (λ (r : Part). r.number) own) ∙ at.0.0, subst (AllByRecursion (λ (r : Part). r.number ≢ 0)) rest (above xs 1 (omega arith) at.1))

-- as gathering begins, all parts but the first are left
pub left_begun : (p : Plans) (d : Desk) (first : Part) (others : List Part) → IsDesk p d → parts_at d ≡ first ∷ others
    → AreLeft p (parts_at d) d.made first others
left_begun p d first others desk parts =
    let numbers = at_first d.parts.items first others desk.slots desk.full parts in
    record {
      come = stayed (parts_at d) (first ∷ others) (subst (IsPermutation (parts_at d)) parts (IsPermutation-refl (parts_at d)));
      kept = subst (AllByRecursion (IsKept p)) parts desk.each;
      is_first = numbers.0;
      later = numbers.1;
      two = λ c.
          let few = desk.two c in
          let same = ap (λ (qs : List Part). sum_by (λ q. worth c q.borders) qs) parts in
          omega (arith, few, same);
      counted = sym (ap interactions_of parts) ∙ desk.counted;
    }
