-- How packing goes on, tree by tree, and what the tables of a machine keep.
use Rattle.std.proofs.Common.{◌≡◌, ℕ, zero, suc, ◌+◌, ◌^◌, ◌<◌, ◌≤◌, List, [], ◌∷◌, ◌++◌, Global, Vec, length, map, take, drop, slice_index_or, refl, ap, sym, subst, ◌∙◌, append_assoc, arith, sum_by}
use Rattle.std.specs.List.{AllByRecursion}
use Rattle.std.specs.List.Sorted.{IsPermutation}
use Rattle.std.proofs.lemmas.List.{append-nil, at_drop_more, map-append, take-append-drop, take_more}
use Rattle.std.proofs.lemmas.List.Concat.{flat_map-append}
use Rattle.std.proofs.lemmas.List.Sums.{sum_by-append, sum_by-cons}
use Rattle.ic_arena.specs.declared.word.Word.{Word}
use Rattle.ic_arena.specs.declared.word.TheConstants.{GIVEN}
use Rattle.ic_arena.specs.Word.{count}
use Rattle.ic_arena.specs.Piece.{Piece, uses}
use Rattle.ic_machine.specs.declared.equation.Equation.{Equation}
use Rattle.ic_machine.specs.declared.machine.Machine.TheInside.{Inside}
use Rattle.ic_machine.specs.declared.tables.Tables.{Tables}
use Rattle.ic_machine.specs.Moving.{Ends, Side, Spells, AreBordered, Packs, end_word, sides_of}
use Rattle.ic_machine.specs.Net.{Net, equated_of, pieces, IsPair}
use Rattle.ic_machine.specs.Plan.{constants}
use Rattle.ic_machine.specs.Separate.{IsSeparate}
use Rattle.ic_machine.specs.inner.Firing.{arities_of}
use Rattle.ic_machine.specs.inner.Machine.{net_of, IsSound}
use Rattle.ic_machine.specs.inner.Moving.{places_in, AreInHand, AreLeft, HasMoreNames, IsAsLarge, PacksTree}
use Rattle.ic_machine.specs.inner.Queue.{Queued}
use Rattle.ic_machine.specs.lemmas.Balance.{equations_room}
use Rattle.ic_machine.specs.lemmas.Spelled.{spells_from, spells_none, spells_on}
use Rattle.ic_machine.proofs.Heaps.{as_many}
use Rattle.ic_machine.proofs.Packing.{reordered}

-- ---- sizes

pub large : (t : Tables) → IsAsLarge t t
large t = record { names = refl; blocks = refl; arities = refl; pending = refl; registers = refl; spare = refl }

pub large_on : (a b c : Tables) → IsAsLarge a b → IsAsLarge b c → IsAsLarge a c
large_on a b c p q = record {
  names = q.names ∙ p.names;
  blocks = q.blocks ∙ p.blocks;
  arities = q.arities ∙ p.arities;
  pending = q.pending ∙ p.pending;
  registers = q.registers ∙ p.registers;
  spare = q.spare ∙ p.spare;
}

pub same_names : (t : Tables) → length t.names.entries < 2 ^ 32 → HasMoreNames t t
same_names t few = record {
  names = omega arith;
  few = few;
  blocks = refl;
  arities = refl;
  pending = refl;
  registers = refl;
  spare = refl;
}

pub more_names_on : (a b c : Tables) → HasMoreNames a b → HasMoreNames b c → HasMoreNames a c
more_names_on a b c p q = record {
  names = let first = p.names in let second = q.names in omega arith;
  few = q.few;
  blocks = q.blocks ∙ p.blocks;
  arities = q.arities ∙ p.arities;
  pending = q.pending ∙ p.pending;
  registers = q.registers ∙ p.registers;
  spare = q.spare ∙ p.spare;
}

-- ---- what is spelled

pub tree_then : (arities : List ℕ) (e : Equation) (a b c : Side) (us vs ws : List Word) → PacksTree arities e.left a b us vs
    → PacksTree arities e.right b c vs ws → Packs arities (e ∷ []) a c us ws
tree_then arities e a b c us vs ws p q = record {
  more = p.more ++ q.more;
  spelled = q.spelled ∙ (ap (λ (l : List Word). l ++ q.more) p.spelled ∙ append_assoc us p.more q.more);
  spells = spells_on arities a b c (e.left ∷ []) p.more (e.right ∷ []) q.more p.spells q.spells;
}

pub packs_none : (arities : List ℕ) (a : Side) (ws : List Word) → Packs arities [] a a ws ws
packs_none arities a ws = record { more = []; spelled = sym (append-nil ws); spells = spells_none arities a }

pub packs_then : (arities : List ℕ) (es fs : List Equation) (a b c : Side) (us vs ws : List Word) → Packs arities es a b us vs
    → Packs arities fs b c vs ws → Packs arities (es ++ fs) a c us ws
packs_then arities es fs a b c us vs ws p q = record {
  more = p.more ++ q.more;
  spelled = q.spelled ∙ (ap (λ (l : List Word). l ++ q.more) p.spelled ∙ append_assoc us p.more q.more);
  spells = subst (λ (l : List Word). Spells arities a c l (p.more ++ q.more))
      (sym (flat_map-append (λ (e : Equation). e.left ∷ e.right ∷ []) es fs))
      (spells_on arities a b c (sides_of es) p.more (sides_of fs) q.more p.spells q.spells);
}

-- one more of some equations
pub packs_more : (arities : List ℕ) (es : List Equation) (i : ℕ) (d : Equation) (a b c : Side) (us vs ws : List Word) → i < length es
    → Packs arities (take i es) a b us vs → Packs arities (slice_index_or es i d ∷ []) b c vs ws
    → Packs arities (take (i + 1) es) a c us ws
packs_more arities es i d a b c us vs ws lt p q =
    subst (λ (l : List Equation). Packs arities l a c us ws) (sym (take_more es i d lt))
    (packs_then arities (take i es) (slice_index_or es i d ∷ []) a b c us vs ws p q)

-- the sides of what is left of some equations
pub sides_from : (es : List Equation) (i : ℕ) (d : Equation) → i < length es
    → sides_of (drop i es) ≡ (slice_index_or es i d).left ∷ (slice_index_or es i d).right ∷ sides_of (drop (i + 1) es)
sides_from es i d lt = at_drop_more sides_of es i d lt

-- ---- equations among the pieces, and their sides in hand

pub equations_use : (w : Word) (es : List Equation) → sum_by (uses w) (map equated_of es) ≡ count w (sides_of es)
equations_use w [] = refl
equations_use w (e ∷ es) =
    let a = sum_by-cons (uses w) (equated_of e) (map equated_of es) in
    let later = equations_use w es in
    omega (arith, sum_by-append {X = Word})

-- some of the pending equations are taken in hand
pub to_hand : (arities : List ℕ) (interface ends : List Word) (given rest aside : List Equation) (ps : List Piece)
    → IsSeparate arities (interface ++ ends) (map equated_of (given ++ rest) ++ (map equated_of aside ++ ps))
    → IsSeparate arities (sides_of given ++ (ends ++ (interface ++ (sides_of rest ++ sides_of aside)))) ps
to_hand arities interface ends given rest aside ps s = record {
  each = λ w place.
      let before = s.each w place in
      let u3 = ap (sum_by (uses w)) (map-append equated_of given rest) in
      let a = equations_use w given in
      let b = equations_use w rest in
      let c = equations_use w aside in
      let none = equations_room w (given ++ rest) in
      let nothing = equations_room w aside in
      omega (arith, sum_by-append {X = Piece}, sum_by-append {X = Word});
}

-- what is left of them is among the pieces
pub from_hand : (arities : List ℕ) (interface ends : List Word) (rest aside : List Equation) (ps : List Piece)
    → IsSeparate arities (ends ++ (interface ++ (sides_of rest ++ sides_of aside))) ps
    → IsSeparate arities (interface ++ ends) (map equated_of rest ++ (map equated_of aside ++ ps))
from_hand arities interface ends rest aside ps s = record {
  each = λ w place.
      let before = s.each w place in
      let b = equations_use w rest in
      let c = equations_use w aside in
      let none = equations_room w rest in
      let nothing = equations_room w aside in
      omega (arith, sum_by-append {X = Piece}, sum_by-append {X = Word});
}

-- the same without ends of cuts
pub from_left : (arities : List ℕ) (interface : List Word) (rest aside : List Equation) (ps : List Piece)
    → IsSeparate arities (interface ++ (sides_of rest ++ sides_of aside)) ps
    → IsSeparate arities interface (map equated_of rest ++ (map equated_of aside ++ ps))
from_left arities interface rest aside ps s =
    subst (λ (l : List Word). IsSeparate arities l (map equated_of rest ++ (map equated_of aside ++ ps))) (append-nil interface)
    (from_hand arities interface [] rest aside ps s)

-- the oldest of the pending equations
pub given_hand : (arities : List ℕ) (interface ends : List Word) (pending aside : List Equation) (k : ℕ) (ps : List Piece)
    → IsSeparate arities (interface ++ ends) (map equated_of pending ++ (map equated_of aside ++ ps))
    → IsSeparate arities (sides_of (take k pending) ++ (ends ++ (interface ++ (sides_of (drop k pending) ++ sides_of aside)))) ps
given_hand arities interface ends pending aside k ps s =
    to_hand arities interface ends (take k pending) (drop k pending) aside ps
    (subst (λ (l : List Equation). IsSeparate arities (interface ++ ends) (map equated_of l ++ (map equated_of aside ++ ps)))
    (sym (take-append-drop k pending)) s)

-- ---- what a machine keeps

pub items_of : (v w : Vec Equation Global) → v ≡ w → v.items ≡ w.items
items_of v w e = ap (λ (x : Vec Equation Global). x.items) e

pub queued_of : (v w : Queued) → v ≡ w → v.items ≡ w.items
queued_of v w e = ap (λ (q : Queued). q.items) e

pub words_of : (v w : Vec Word Global) → v ≡ w → v.items ≡ w.items
words_of v w e = ap (λ (x : Vec Word Global). x.items) e

pub pairs_drop : (k : ℕ) (es : List Equation) → AllByRecursion IsPair es → AllByRecursion IsPair (drop k es)
pairs_drop zero es all = all
pairs_drop (suc k) [] all = tt
pairs_drop (suc k) (e ∷ es) all = pairs_drop k es all.1

-- some of what a machine held was taken out
pub packed_sound : (m n : Inside) → IsSound m → length n.tables.names.entries < 2 ^ 32
    → arities_of n.tables.heaps.items ≡ arities_of m.tables.heaps.items → n.tables.registers.items ≡ m.tables.registers.items
    → n.tables.spare ≡ 0 → AllByRecursion IsPair n.tables.pending.items → AllByRecursion IsPair n.aside.items
    → AllByRecursion (λ k. k ≤ n.interactions) n.counts.items
    → IsSeparate (arities_of n.tables.heaps.items) n.interface.items (pieces (net_of n)) → IsSound n
packed_sound m n sound few arities registers spare pairs aside counts separate =
    let many : length n.tables.heaps.items ≡ length m.tables.heaps.items = as_many m.tables.heaps.items n.tables.heaps.items arities in
    record {
      separate = separate;
      pairs = pairs;
      aside = aside;
      names = few;
      symbols = subst (λ (k : ℕ). k < GIVEN) (sym many) sound.symbols;
      registers = subst (λ (rs : List Word). take (length n.tables.heaps.items) rs ≡ constants (length n.tables.heaps.items)) (sym registers)
          (subst (λ (k : ℕ). take k m.tables.registers.items ≡ constants k) (sym many) sound.registers);
      spare = λ some. absurd (omega (arith, some, spare));
      counts = counts;
    }

-- the words that stay in a machine: of its interface, and of the equations that are neither in hand nor given
abbrev pub words_beside : Inside → ℕ → List Word
words_beside m k = m.interface.items ++ (sides_of (drop k m.tables.pending.items) ++ sides_of m.aside.items)

-- the oldest pairs of a machine in hand
pub machine_hand : (m : Inside) (n : Net) (b : Ends) (k : ℕ) → net_of m ≡ n → AreBordered n b
    → AreInHand (sides_of (take k m.tables.pending.items)) (words_beside m k) m.tables b
machine_hand m n b k is bordered =
    given_hand (arities_of m.tables.heaps.items) m.interface.items (map end_word b.ends) m.tables.pending.items m.aside.items k
    (places_in m.tables) (subst (λ (x : Net). AreBordered x b) (sym is) bordered)

-- a machine whose oldest pairs were given
pub give_sound : (m : Inside) (t : Tables) (k : ℕ) → IsSound m → t.pending.items ≡ drop k m.tables.pending.items
    → length t.names.entries ≡ length m.tables.names.entries → arities_of t.heaps.items ≡ arities_of m.tables.heaps.items
    → t.registers.items ≡ m.tables.registers.items → t.spare ≡ 0 → AreLeft (words_beside m k) t → IsSound (record m { tables = t })
give_sound m t k sound pending names arities registers spare left =
    packed_sound m (record m { tables = t }) sound (subst (λ (j : ℕ). j < 2 ^ 32) (sym names) sound.names) arities registers spare
    (subst (AllByRecursion IsPair) (sym pending) (pairs_drop k m.tables.pending.items sound.pairs)) sound.aside sound.counts
    (subst (λ (l : List Equation). IsSeparate (arities_of t.heaps.items) m.interface.items
    (map equated_of l ++ (map equated_of m.aside.items ++ places_in t))) (sym pending)
    (from_left (arities_of t.heaps.items) m.interface.items (drop k m.tables.pending.items) m.aside.items (places_in t) left))

-- one that nothing was taken out of
pub same_sound : (m : Inside) (t : Tables) → IsSound m → t.pending.items ≡ m.tables.pending.items
    → t.names.entries ≡ m.tables.names.entries → t.heaps.items ≡ m.tables.heaps.items → t.registers.items ≡ m.tables.registers.items
    → t.spare ≡ 0 → IsSound (record m { tables = t })
same_sound m t sound pending entries items registers spare =
    packed_sound m (record m { tables = t }) sound (subst (λ (l : List Word). length l < 2 ^ 32) (sym entries) sound.names) (ap arities_of items)
    registers spare
    (subst (AllByRecursion IsPair) (sym pending) sound.pairs) sound.aside sound.counts
    (rw (pending, entries, items) sound.separate)

-- the ends of cuts that a machine has then
pub give_bordered : (m : Inside) (t : Tables) (b : Ends) (k : ℕ) → t.pending.items ≡ drop k m.tables.pending.items
    → AreInHand [] (words_beside m k) t b → AreBordered (net_of (record m { tables = t })) b
give_bordered m t b k pending hand =
    subst (λ (l : List Equation). IsSeparate (arities_of t.heaps.items) (m.interface.items ++ map end_word b.ends)
    (map equated_of l ++ (map equated_of m.aside.items ++ places_in t))) (sym pending)
    (from_hand (arities_of t.heaps.items) m.interface.items (map end_word b.ends) (drop k m.tables.pending.items) m.aside.items (places_in t) hand)

-- all equations of a machine in hand
pub all_hand : (m : Inside) (n : Net) (b : Ends) (es us : List Equation) → net_of m ≡ n → AreBordered n b → es ≡ m.tables.pending.items
    → us ≡ m.aside.items → AreInHand [] (sides_of es ++ (sides_of us ++ m.interface.items)) m.tables b
all_hand m n b es us is bordered pending aside =
    let i : List Word = m.interface.items in
    let p : List Word = sides_of m.tables.pending.items in
    let q : List Word = sides_of m.aside.items in
    let e : List Word = map end_word b.ends in
    let a : List ℕ = arities_of m.tables.heaps.items in
    subst (λ (l : List Equation). IsSeparate a (e ++ (sides_of l ++ (sides_of us ++ i))) (places_in m.tables)) (sym pending)
    (subst (λ (l : List Equation). IsSeparate a (e ++ (p ++ (sides_of l ++ i))) (places_in m.tables)) (sym aside)
    (reordered a (e ++ (i ++ (p ++ q))) (e ++ (p ++ (q ++ i))) (places_in m.tables) (λ w.
    omega (arith, sum_by-append {X = Word})) (machine_hand m n b 0 is bordered)))

-- a machine of which all was taken out
pub empty_sound : (m : Inside) (t : Tables) (aside : Vec Equation Global) → IsSound m → t.pending.items ≡ [] → aside.items ≡ []
    → length t.names.entries < 2 ^ 32 → arities_of t.heaps.items ≡ arities_of m.tables.heaps.items
    → t.registers.items ≡ m.tables.registers.items → t.spare ≡ 0 → AreLeft m.interface.items t
    → IsSound (record m { aside = aside; tables = t })
empty_sound m t aside sound pending none few arities registers spare left =
    packed_sound m (record m { aside = aside; tables = t }) sound few arities registers spare
    (subst (AllByRecursion IsPair) (sym pending) tt) (subst (AllByRecursion IsPair) (sym none) tt) sound.counts
    (subst (λ (l : List Equation). IsSeparate (arities_of t.heaps.items) m.interface.items
    (map equated_of l ++ (map equated_of aside.items ++ places_in t))) (sym pending)
    (subst (λ (l : List Equation). IsSeparate (arities_of t.heaps.items) m.interface.items (map equated_of l ++ places_in t)) (sym none) left))

pub empty_bordered : (m : Inside) (t : Tables) (aside : Vec Equation Global) (b : Ends) → t.pending.items ≡ [] → aside.items ≡ []
    → AreInHand [] m.interface.items t b → AreBordered (net_of (record m { aside = aside; tables = t })) b
empty_bordered m t aside b pending none hand =
    let i : List Word = m.interface.items in
    let e : List Word = map end_word b.ends in
    subst (λ (l : List Equation). IsSeparate (arities_of t.heaps.items) (i ++ e) (map equated_of l ++ (map equated_of aside.items ++ places_in t)))
    (sym pending)
    (subst (λ (l : List Equation). IsSeparate (arities_of t.heaps.items) (i ++ e) (map equated_of l ++ places_in t)) (sym none)
    (reordered (arities_of t.heaps.items) (e ++ i) (i ++ e) (places_in t) (λ w.
    omega (arith, sum_by-append {X = Word})) hand))

-- what is spelled of sides whose pieces stand in another order
pub packs_from : (arities : List ℕ) (es : List Equation) (a b c : Side) (us vs : List Word) → IsPermutation c.places a.places
    → IsPermutation c.ends a.ends → Packs arities es a b us vs → Packs arities es c b us vs
packs_from arities es a b c us vs places ends p = record {
  more = p.more;
  spelled = p.spelled;
  spells = spells_from arities c a b (sides_of es) p.more places ends p.spells;
}
