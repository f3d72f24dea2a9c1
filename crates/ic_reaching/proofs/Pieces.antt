-- Lemmas: a term as a piece of its own.
use Rattle.std.proofs.Common.{◌≡◌, ℕ, ◌*◌, ◌≤◌, ◌<◌, ◌==◌, List, [], ◌∷◌, Bool, true, false, cond, map, refl, sym, eq-eqb, arith, inl, subst as transport}
use Rattle.std.proofs.lemmas.Bool.{true_from_ne_false}
use Rattle.std.specs.Cmp.{unsigned_Decides}
use Rattle.std.specs.List.{flat_map}
use Rattle.std.specs.Prelude.{IsPermutation}
use Rattle.ic_term.specs.Tree.{Tree, names, Pair, pair_names}
use Rattle.ic_term.specs.Configuration.{Configuration, configuration_names, names_in, occurrences}
use Rattle.ic_settle.specs.Settling.{subst, subst_pair, subst_in, occurs}
use Rattle.ic_settle.specs.NameSteps.{NameStep}
use Rattle.ic_settle.specs.lemmas.SubstitutionLaws.{occurrences-append, occurrences-cons, occurrences_none}
use Rattle.ic_settle.specs.lemmas.PutEach.{occurrences-exact_in as occurrences-put_in}
use Rattle.ic_round.specs.Naming.{HasNames}
use Rattle.ic_confluence.specs.Sameness.{turned, exchanged, kept, rearranging}
use Rattle.ic_confluence.specs.lemmas.Counts.{occurrences-gone_in, All_from, below_next}
use Rattle.ic_confluence.specs.lemmas.Puts.{terms_absent, pairs_absent}
use Rattle.ic_reaching.specs.OneNet.{OneNet}
use Rattle.ic_reaching.specs.Pieces.{piece}
use Rattle.ic_reaching.proofs.Given.{NetLaws, SettlingLaws}
use Rattle.ic_reaching.proofs.Nets.{from_same, from_step, from_next, net_other_way, net_through}
use Rattle.ic_reaching.specs.lemmas.Orders.{permuted, rearranged_itself}
use Rattle.ic_reaching.proofs.FreshNets.{in_front}
use Rattle.ic_reaching.proofs.Firing.{names_in_front, counts_in_front}

-- ---- how often names occur where a term is put for a name

-- ---- where a name doesn't occur

pub occurs_some : (n : ℕ) (ns : List ℕ) → 1 ≤ occurrences n ns → occurs n ns ≡ true
occurs_some n ns some = true_from_ne_false (occurs n ns) (λ e. let none = occurrences_none n ns e in absurd (omega (arith, none, some)))

-- ---- putting a piece

-- a term put for a name in some equations, and its piece gone
abbrev pub put_in : ℕ → Tree → Configuration → List Pair → Configuration
put_in x t c others = subst_in x t (record c { equations = others })

pub put_step : (c : Configuration) (x : ℕ) (t : Tree) (others : List Pair) → c.equations ≡ piece x t ∷ others → 1 ≤ occurrences x (names_in c.interface others) → NameStep c (put_in x t c others)
put_step c x t others given some = record {
  before = [];
  equation = piece x t;
  after = others;
  bound = record { name = x; term = t };
  place = given;
  side = inl refl;
  outside = occurs_some x (names_in c.interface others) some;
  result = refl;
}

pub put_anywhere : SettlingLaws → (c : Configuration) (x : ℕ) (t : Tree) (others : List Pair) → HasNames c → IsPermutation c.equations (piece x t ∷ others)
    → 1 ≤ occurrences x (names_in c.interface others) → OneNet c (put_in x t c others)
put_anywhere laws c x t others named moved some =
    let front : Configuration = record c { equations = piece x t ∷ others } in
    let first = from_same laws.nets c front named (permuted c (piece x t ∷ others) moved) in
    let step = put_step front x t others refl some in
    net_through laws c front (put_in x t c others) first (from_step laws.nets front (put_in x t c others) (names_in_front c (piece x t ∷ others) moved named) step)

pub put_in_one : SettlingLaws → (c : Configuration) (x : ℕ) (t : Tree) (q : Pair) (rest : List Pair) → HasNames c → IsPermutation c.equations (piece x t ∷ q ∷ rest)
    → 1 ≤ occurrences x (pair_names q) → OneNet c (record c { equations = subst_pair x t q ∷ rest })
put_in_one laws c x t q rest named moved some =
    let net = put_anywhere laws c x t (q ∷ rest) named moved (let all = in_front x c.interface q rest in omega (arith, all, some)) in
    let total = in_front x c.interface (piece x t) (q ∷ rest) in
    let same = counts_in_front c (piece x t ∷ q ∷ rest) moved x in
    let two = named.twice x in
    let own = occurrences-cons x x (names t) in
    let itself : ◌≡◌ {A = ℕ} (cond (x == x) 1 0) 1 = rw (eq-eqb x x refl) refl in
    let more = occurrences-append x (pair_names q) (flat_map pair_names rest) in
    let terms = terms_absent x t c.interface (omega (arith, total, same, two, own, itself, more, some)) in
    let equations = pairs_absent x t rest (omega (arith, total, same, two, own, itself, more, some)) in
    let P : Configuration → Type 0 = OneNet c in
    let is : put_in x t c (q ∷ rest) ≡ record c { equations = subst_pair x t q ∷ rest } = (λ i. record { interface = terms i; equations = subst_pair x t q ∷ equations i; next = c.next }) in
    transport P is net

pub put_in_interface : SettlingLaws → (c : Configuration) (x : ℕ) (t : Tree) (rest : List Pair) → HasNames c → IsPermutation c.equations (piece x t ∷ rest)
    → 1 ≤ occurrences x (flat_map names c.interface) → OneNet c (record c { interface = map (subst x t) c.interface; equations = rest })
put_in_interface laws c x t rest named moved some =
    let net = put_anywhere laws c x t rest named moved (let all = occurrences-append x (flat_map names c.interface) (flat_map pair_names rest) in omega (arith, all, some)) in
    let total = in_front x c.interface (piece x t) rest in
    let same = counts_in_front c (piece x t ∷ rest) moved x in
    let two = named.twice x in
    let own = occurrences-cons x x (names t) in
    let itself : ◌≡◌ {A = ℕ} (cond (x == x) 1 0) 1 = rw (eq-eqb x x refl) refl in
    let equations = pairs_absent x t rest (omega (arith, total, same, two, own, itself, some)) in
    let P : Configuration → Type 0 = OneNet c in
    let is : put_in x t c rest ≡ record c { interface = map (subst x t) c.interface; equations = rest } = (λ i. record { interface = map (subst x t) c.interface; equations = equations i; next = c.next }) in
    transport P is net

-- ---- taking a piece out

-- The names of what a term is put into, where the term becomes a piece.
pub taken_counts : (n x : ℕ) (t : Tree) (ts : List Tree) (es : List Pair) → (x == n) ≡ false → occurrences x (names_in ts es) ≡ 1
    → occurrences n (names_in ts (piece x t ∷ es)) ≡ occurrences n (names_in (map (subst x t) ts) (map (subst_pair x t) es))
taken_counts n x t ts es apart once =
    let put = occurrences-put_in n x t ts es apart in
    let one : occurrences x (names_in ts es) * occurrences n (names t) ≡ occurrences n (names t) = rw once (omega arith) in
    let whole = in_front n ts (piece x t) es in
    let own = occurrences-cons n x (names t) in
    let other : ◌≡◌ {A = ℕ} (cond (x == n) 1 0) 0 = rw apart refl in
    let rest = occurrences-append n (flat_map names ts) (flat_map pair_names es) in
    omega (arith, put, one, whole, own, other, rest)

own_counts : (x : ℕ) (t : Tree) (ts : List Tree) (es : List Pair) → occurrences x (names_in ts es) ≡ 1 → occurrences x (names t) ≡ 0 → occurrences x (names_in ts (piece x t ∷ es)) ≡ 2
own_counts x t ts es once none =
    let whole = in_front x ts (piece x t) es in
    let own = occurrences-cons x x (names t) in
    let itself : ◌≡◌ {A = ℕ} (cond (x == x) 1 0) 1 = rw (eq-eqb x x refl) refl in
    let rest = occurrences-append x (flat_map names ts) (flat_map pair_names es) in
    omega (arith, whole, own, itself, rest, once, none)

pub taken_names : (c : Configuration) (x next : ℕ) (t : Tree) (ts : List Tree) (es : List Pair) → HasNames c → c.interface ≡ map (subst x t) ts → c.equations ≡ map (subst_pair x t) es
    → occurrences x (names_in ts es) ≡ 1 → occurrences x (configuration_names c) ≡ 0 → c.next ≤ next → x < next
    → HasNames (record { interface = ts; equations = piece x t ∷ es; next = next })
taken_names c x next t ts es named terms equations once none high low = record {
  below = All_from (λ n. n < next) (names_in ts (piece x t ∷ es)) (λ n some. low_at n some (x == n) refl);
  twice = λ n. few n (x == n) refl;
}
  where
    given : (n : ℕ) → occurrences n (configuration_names c) ≡ occurrences n (names_in (map (subst x t) ts) (map (subst_pair x t) es))
    given n = λ i. occurrences n (names_in (terms i) (equations i))

    absent : occurrences x (names t) ≡ 0
    absent =
        let gone = occurrences-gone_in x t ts es in
        let one : occurrences x (names_in ts es) * occurrences x (names t) ≡ occurrences x (names t) = rw once (omega arith) in
        let is = given x in
        omega (arith, gone, one, is, none)

    low_at : (n : ℕ) → 1 ≤ occurrences n (names_in ts (piece x t ∷ es)) → (b : Bool) → (x == n) ≡ b → n < next
    low_at n some true e = let same = (unsigned_Decides x n).0 e in omega (arith, same, low)
    low_at n some false e =
        let counts = taken_counts n x t ts es e once in
        let is = given n in
        let below = below_next c named n (omega (arith, counts, is, some)) in
        omega (arith, below, high)

    few : (n : ℕ) → (b : Bool) → (x == n) ≡ b → occurrences n (names_in ts (piece x t ∷ es)) ≤ 2
    few n true e =
        let same = (unsigned_Decides x n).0 e in
        let P : ℕ → Type 0 = λ z. occurrences z (names_in ts (piece x t ∷ es)) ≤ 2 in
        let two = own_counts x t ts es once absent in
        transport P same (omega (arith, two))
    few n false e =
        let counts = taken_counts n x t ts es e once in
        let is = given n in
        let two = named.twice n in
        omega (arith, counts, is, two)

pub taken_anywhere : SettlingLaws → (c : Configuration) (x next : ℕ) (t : Tree) (ts : List Tree) (es : List Pair) → HasNames c → c.interface ≡ map (subst x t) ts → c.equations ≡ map (subst_pair x t) es
    → occurrences x (names_in ts es) ≡ 1 → occurrences x (configuration_names c) ≡ 0 → c.next ≤ next → x < next
    → OneNet c (record { interface = ts; equations = piece x t ∷ es; next = next })
taken_anywhere laws c x next t ts es named terms equations once none high low =
    let d : Configuration = record { interface = ts; equations = piece x t ∷ es; next = next } in
    let after : Configuration = record c { next = next } in
    let named_d = taken_names c x next t ts es named terms equations once none high low in
    let step = put_step d x t es refl (omega (arith, once)) in
    let is : put_in x t d es ≡ after = (λ i. record { interface = sym terms i; equations = sym equations i; next = next }) in
    let P : Configuration → Type 0 = OneNet d in
    let back = transport P is (from_step laws.nets d (put_in x t d es) named_d step) in
    net_through laws c after d (from_next laws.nets c next named back.names_too) (net_other_way laws.nets d after back)

-- a term of one equation
pub taken_from_one : SettlingLaws → (c : Configuration) (x next : ℕ) (t : Tree) (q : Pair) (rest : List Pair) → HasNames c → IsPermutation c.equations (subst_pair x t q ∷ rest)
    → occurrences x (pair_names q) ≡ 1 → occurrences x (configuration_names c) ≡ 0 → c.next ≤ next → x < next
    → OneNet c (record { interface = c.interface; equations = piece x t ∷ q ∷ rest; next = next })
taken_from_one laws c x next t q rest named moved once none high low =
    let front : Configuration = record c { equations = subst_pair x t q ∷ rest } in
    let same = counts_in_front c (subst_pair x t q ∷ rest) moved x in
    let total = in_front x c.interface (subst_pair x t q) rest in
    let terms = terms_absent x t c.interface (omega (arith, same, total, none)) in
    let equations = pairs_absent x t rest (omega (arith, same, total, none)) in
    let one = in_front x c.interface q rest in
    let first = from_same laws.nets c front named (permuted c (subst_pair x t q ∷ rest) moved) in
    net_through laws c front (record { interface = c.interface; equations = piece x t ∷ q ∷ rest; next = next }) first
    (taken_anywhere laws front x next t c.interface (q ∷ rest) first.names_too (sym terms) (λ i. subst_pair x t q ∷ sym equations i)
    (omega (arith, one, once, same, total, none)) (omega (arith, same, none)) high low)

-- a term of the interface
pub taken_from_interface : SettlingLaws → (c : Configuration) (x next : ℕ) (t : Tree) (ts : List Tree) → HasNames c → c.interface ≡ map (subst x t) ts
    → occurrences x (flat_map names ts) ≡ 1 → occurrences x (configuration_names c) ≡ 0 → c.next ≤ next → x < next
    → OneNet c (record { interface = ts; equations = piece x t ∷ c.equations; next = next })
taken_from_interface laws c x next t ts named terms once none high low =
    let total = occurrences-append x (flat_map names c.interface) (flat_map pair_names c.equations) in
    let equations = pairs_absent x t c.equations (omega (arith, total, none)) in
    let one = occurrences-append x (flat_map names ts) (flat_map pair_names c.equations) in
    taken_anywhere laws c x next t ts c.equations named terms (sym equations) (omega (arith, one, once, total, none)) none high low

-- ---- equations in any order, and turned round

pub in_any_order : NetLaws → (c : Configuration) (es : List Pair) → HasNames c → IsPermutation c.equations es → OneNet c (record c { equations = es })
in_any_order laws c es named moved = from_same laws c (record c { equations = es }) named (permuted c es moved)

pub turned_round : SettlingLaws → (c : Configuration) (p : Pair) (others : List Pair) → HasNames c → IsPermutation c.equations (p ∷ others) → OneNet c (record c { equations = turned p ∷ others })
turned_round laws c p others named moved =
    let front : Configuration = record c { equations = p ∷ others } in
    let after : Configuration = record c { equations = turned p ∷ others } in
    let first = in_any_order laws.nets c (p ∷ others) named moved in
    net_through laws c front after first (from_same laws.nets front after first.names_too
    (rearranging front after (record { equations = kept p (turned p) others others (exchanged p) (rearranged_itself others); result = refl })))
