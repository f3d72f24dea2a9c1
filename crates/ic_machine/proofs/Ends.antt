-- Lemmas: the ends of cuts, found by their cuts and by their names, and the numbers that are spare.
use Rattle.std.proofs.Common.{◌≡◌, ℕ, zero, suc, ◌+◌, ◌-◌, ◌*◌, ◌/◌, ◌%◌, ◌<◌, ◌≤◌, ◌==◌, ◌&&◌, inl, inr, Bool, true, false, cond, List, [], ◌∷◌, ◌++◌, Option, None, Some, Contains, length, map, nat_le, slice_get, slice_index_or, refl, ap, sym, subst, ◌∙◌, arith}
use Rattle.std.specs.Cmp.{unsigned_Decides}
use Rattle.std.specs.Option.{unwrap_or}
use Rattle.std.specs.Map.{keys_of, lookup, remove_entry, set_value}
use Rattle.std.specs.HashMap.{IsUnique}
use Rattle.std.specs.List.Sorted.{IsPermutation}
use Rattle.std.proofs.Math.Nat.{zero-mul}
use Rattle.std.proofs.lemmas.Bool.{ne_eqb}
use Rattle.std.proofs.lemmas.Bool.Decides.{eqb_tells, leb_tells}
use Rattle.std.proofs.lemmas.Cmp.{nat_eq_equiv}
use Rattle.std.proofs.lemmas.List.Sorted.{IsPermutation-refl, IsPermutation-trans, IsPermutation-cons, IsPermutation-swap, IsPermutation-map, sum_by-IsPermutation}
use Rattle.std.proofs.lemmas.List.Sums.{sum_by-cons, sum_by-append}
use Rattle.std.proofs.lemmas.Map.Entries.{lookup_from_place}
use Rattle.std.proofs.lemmas.Nat.{div-add-mod', mod_below, mod-mul-add}
use Rattle.ic_machine.specs.declared.borders.Border.{Border}
use Rattle.ic_machine.specs.Moving.{CutEnd, Ends, spares, times, worth}
use Rattle.ic_machine.specs.inner.Borders.{border_at, cut_at, end_of, ArePaired, ByCut, ByName}

pub same_some : {X : Type 0} (x y : X) → ◌≡◌ {A = Option X} (Some x) (Some y) → x ≡ y
same_some x y e = ap (λ o. unwrap_or o x) e

pub none_some : {X : Type 0} (x : X) → ◌≡◌ {A = Option X} None (Some x) → ⊥
none_some x e = cc

pub differs : (a b : ℕ) → (a == b) ≡ false → a ≡ b → ⊥
differs a b e same = let t = (unsigned_Decides a b).1 same in let z = sym t ∙ e in cc

pub is_same : (a b : ℕ) → a ≡ b → (a == b) ≡ true
is_same a b e = (unsigned_Decides a b).1 e

pub from_same : (a b : ℕ) → (a == b) ≡ true → a ≡ b
from_same a b e = (unsigned_Decides a b).0 e

module _ (fs : ℕ → Option Border) (gs : ℕ → Option ℕ) (are : ArePaired fs gs) where
  pub paired_same : (fs' : ℕ → Option Border) (gs' : ℕ → Option ℕ) → ((q : ℕ) → fs' q ≡ fs q) → ((q : ℕ) → gs' q ≡ gs q)
      → ArePaired fs' gs'
  paired_same fs' gs' f g = record {
    named = λ c b is. g b.name ∙ are.named c b (sym (f c) ∙ is);
    bordered = λ n c is. let x = are.bordered n c (sym (g n) ∙ is) in (x.0, f c ∙ x.1, x.2);
  }

  -- a border that is new
  pub paired_added : (fs' : ℕ → Option Border) (gs' : ℕ → Option ℕ) (cut : ℕ) (b : Border) → fs cut ≡ None → gs b.name ≡ None
      → ((q : ℕ) → fs' q ≡ cond (cut == q) (Some b) (fs q)) → ((q : ℕ) → gs' q ≡ cond (b.name == q) (Some cut) (gs q))
      → ArePaired fs' gs'
  paired_added fs' gs' cut b free new puts gives = record {
    named = λ c x is. named_by c x (cut == c) refl (sym (puts c) ∙ is);
    bordered = λ n c is. bordered_by n c (b.name == n) refl (sym (gives n) ∙ is);
  }
    where
      named_by : (c : ℕ) (x : Border) (t : Bool) → (cut == c) ≡ t → cond t (Some b) (fs c) ≡ Some x → gs' x.name ≡ Some c
      named_by c x true e is =
          let one : b ≡ x = same_some b x is in
          gives x.name ∙ (ap (λ t. cond t (Some cut) (gs x.name)) (is_same b.name x.name (ap (λ (y : Border). y.name) one)) ∙ ap Some (from_same cut c e))
      named_by c x false e is =
          let old : gs x.name ≡ Some c = are.named c x is in
          let apart : b.name ≡ x.name → ⊥ = (λ p. none_some c (sym new ∙ (ap gs p ∙ old))) in
          gives x.name ∙ (ap (λ t. cond t (Some cut) (gs x.name)) (ne_eqb b.name x.name apart) ∙ old)

      bordered_by : (n c : ℕ) (t : Bool) → (b.name == n) ≡ t → cond t (Some cut) (gs n) ≡ Some c
          → (x : Border) × (fs' c ≡ Some x) × (x.name ≡ n)
      bordered_by n c true e is =
          let one : cut ≡ c = same_some cut c is in
          (b, puts c ∙ ap (λ t. cond t (Some b) (fs c)) (is_same cut c one), from_same b.name n e)
      bordered_by n c false e is =
          let old = are.bordered n c is in
          let apart : cut ≡ c → ⊥ = (λ p. none_some old.0 (sym free ∙ (ap fs p ∙ old.1))) in
          (old.0, puts c ∙ (ap (λ t. cond t (Some b) (fs c)) (ne_eqb cut c apart) ∙ old.1), old.2)

  -- a border that is gone
  pub paired_taken : (fs' : ℕ → Option Border) (gs' : ℕ → Option ℕ) (cut : ℕ) (b : Border) → fs cut ≡ Some b
      → ((q : ℕ) → fs' q ≡ cond (cut == q) None (fs q)) → ((q : ℕ) → gs' q ≡ cond (b.name == q) None (gs q))
      → ArePaired fs' gs'
  paired_taken fs' gs' cut b there takes drops = record {
    named = λ c x is. named_by c x (cut == c) refl (sym (takes c) ∙ is);
    bordered = λ n c is. bordered_by n c (b.name == n) refl (sym (drops n) ∙ is);
  }
    where
      named_by : (c : ℕ) (x : Border) (t : Bool) → (cut == c) ≡ t → cond t None (fs c) ≡ Some x → gs' x.name ≡ Some c
      named_by c x true e is = absurd (none_some x is)
      named_by c x false e is =
          let old : gs x.name ≡ Some c = are.named c x is in
          let own : gs b.name ≡ Some cut = are.named cut b there in
          let apart : b.name ≡ x.name → ⊥ = (λ p. differs cut c e (same_some cut c (sym own ∙ (ap gs p ∙ old)))) in
          drops x.name ∙ (ap (λ t. cond t None (gs x.name)) (ne_eqb b.name x.name apart) ∙ old)

      bordered_by : (n c : ℕ) (t : Bool) → (b.name == n) ≡ t → cond t None (gs n) ≡ Some c
          → (x : Border) × (fs' c ≡ Some x) × (x.name ≡ n)
      bordered_by n c true e is = absurd (none_some c is)
      bordered_by n c false e is =
          let old = are.bordered n c is in
          let apart : cut ≡ c → ⊥ =
          (λ p. differs b.name n e (ap (λ (y : Border). y.name) (same_some b old.0 (sym there ∙ (ap fs p ∙ old.1))) ∙ old.2)) in
          (old.0, takes c ∙ (ap (λ t. cond t None (fs c)) (ne_eqb cut c apart) ∙ old.1), old.2)

  -- another border with the same name in its place
  pub paired_marked : (fs' : ℕ → Option Border) (cut : ℕ) (b x : Border) → fs cut ≡ Some b → x.name ≡ b.name
      → ((q : ℕ) → fs' q ≡ cond (cut == q) (Some x) (fs q)) → ArePaired fs' gs
  paired_marked fs' cut b x there same puts = record {
    named = λ c y is. named_by c y (cut == c) refl (sym (puts c) ∙ is);
    bordered = λ n c is. bordered_by n c (are.bordered n c is) (cut == c) refl;
  }
    where
      named_by : (c : ℕ) (y : Border) (t : Bool) → (cut == c) ≡ t → cond t (Some x) (fs c) ≡ Some y → gs y.name ≡ Some c
      named_by c y true e is =
          let one : y.name ≡ b.name = ap (λ (z : Border). z.name) (sym (same_some x y is)) ∙ same in
          ap gs one ∙ (are.named cut b there ∙ ap Some (from_same cut c e))
      named_by c y false e is = are.named c y is

      bordered_by : (n c : ℕ) → ((y : Border) × (fs c ≡ Some y) × (y.name ≡ n)) → (t : Bool) → (cut == c) ≡ t
          → (y : Border) × (fs' c ≡ Some y) × (y.name ≡ n)
      bordered_by n c old true e =
          let one : b ≡ old.0 = same_some b old.0 (sym there ∙ (ap fs (from_same cut c e) ∙ old.1)) in
          (x, puts c ∙ ap (λ t. cond t (Some x) (fs c)) e, same ∙ (ap (λ (z : Border). z.name) one ∙ old.2))
      bordered_by n c old false e = (old.0, puts c ∙ (ap (λ t. cond t (Some x) (fs c)) e ∙ old.1), old.2)

abbrev pub cuts_in : List (ℕ × Border) → List ℕ
cuts_in es = map (λ (e : CutEnd). e.cut) (map end_of es)

abbrev pub names_in : List (ℕ × Border) → List ℕ
names_in es = map (λ (e : CutEnd). e.name) (map end_of es)

abbrev is_it : ℕ → ℕ → ℕ
is_it c m = cond (m == c) 1 0

pub once : (c m : ℕ) → times c (m ∷ []) ≡ cond (m == c) 1 0
once c m = sum_by-cons (is_it c) m [] ∙ omega arith

-- a cut that isn't found is none of them
pub cut_none : (c : ℕ) (es : List (ℕ × Border)) → lookup (λ k. c == k) es ≡ None → times c (cuts_in es) ≡ 0
cut_none c [] h = refl
cut_none c (e ∷ es) h = by (cut_none c es) (c == e.0) refl h
  where
    by : (lookup (λ k. c == k) es ≡ None → times c (cuts_in es) ≡ 0) → (t : Bool) → (c == e.0) ≡ t
        → cond t (Some e.1) (lookup (λ k. c == k) es) ≡ None → times c (cuts_in (e ∷ es)) ≡ 0
    by more true p h = absurd (none_some e.1 (sym h))
    by more false p h =
        let other : (e.0 == c) ≡ false = ne_eqb e.0 c (λ q. differs c e.0 p (sym q)) in
        let rest : times c (cuts_in es) ≡ 0 = more h in
        sum_by-cons (is_it c) e.0 (cuts_in es) ∙ (rw (other, rest) refl)

-- and one that is none of them isn't found
pub cut_free : (c : ℕ) (es : List (ℕ × Border)) → times c (cuts_in es) ≡ 0 → lookup (λ k. c == k) es ≡ None
cut_free c [] h = refl
cut_free c (e ∷ es) h = by (cut_free c es) (c == e.0) refl
  where
    sum : times c (cuts_in (e ∷ es)) ≡ cond (e.0 == c) 1 0 + times c (cuts_in es)
    sum = sum_by-cons (is_it c) e.0 (cuts_in es)

    by : (times c (cuts_in es) ≡ 0 → lookup (λ k. c == k) es ≡ None) → (t : Bool) → (c == e.0) ≡ t
        → cond t (Some e.1) (lookup (λ k. c == k) es) ≡ None
    by more true p =
        let head : ◌≡◌ {A = ℕ} (cond (e.0 == c) 1 0) 1 = ap (λ (t : Bool). cond t 1 0) (is_same e.0 c (sym (from_same c e.0 p))) in
        absurd (omega (arith, h, sum, head))
    by more false p = more (omega (arith, h, sum))

-- the end of a cut that is found is among them
pub end_found : (c : ℕ) (b : Border) (es : List (ℕ × Border)) → lookup (λ k. c == k) es ≡ Some b
    → Contains (map end_of es) (record { cut = c; name = b.name })
end_found c b [] h = absurd (none_some b h)
end_found c b (e ∷ es) h = by (end_found c b es) (c == e.0) refl h
  where
    by : (lookup (λ k. c == k) es ≡ Some b → Contains (map end_of es) (record { cut = c; name = b.name })) → (t : Bool) → (c == e.0) ≡ t → cond t (Some e.1) (lookup (λ k. c == k) es) ≡ Some b
        → Contains (map end_of (e ∷ es)) (record { cut = c; name = b.name })
    by more true p h =
        let cut : e.0 ≡ c = sym (from_same c e.0 p) in
        let is : e.1 ≡ b = same_some e.1 b h in
        (0, omega arith, λ i. record { cut = cut i; name = (is i).name })
    by more false p h = let at = more h in (suc at.0, (let lt = at.1 in omega arith), at.2)

-- and its name is one of them
pub name_found : (c : ℕ) (b : Border) (es : List (ℕ × Border)) → lookup (λ k. c == k) es ≡ Some b
    → 1 ≤ times b.name (names_in es)
name_found c b [] h = absurd (none_some b h)
name_found c b (e ∷ es) h = by (name_found c b es) (c == e.0) refl h
  where
    sum : times b.name (names_in (e ∷ es)) ≡ cond (e.1.name == b.name) 1 0 + times b.name (names_in es)
    sum = sum_by-cons (is_it b.name) e.1.name (names_in es)

    by : (lookup (λ k. c == k) es ≡ Some b → 1 ≤ times b.name (names_in es)) → (t : Bool) → (c == e.0) ≡ t
        → cond t (Some e.1) (lookup (λ k. c == k) es) ≡ Some b → 1 ≤ times b.name (names_in (e ∷ es))
    by more true p h =
        let one : e.1.name ≡ b.name = ap (λ (y : Border). y.name) (same_some e.1 b h) in
        let head : ◌≡◌ {A = ℕ} (cond (e.1.name == b.name) 1 0) 1 = ap (λ (t : Bool). cond t 1 0) (is_same e.1.name b.name one) in
        omega (arith, sum, head)
    by more false p h = let rest = more h in omega (arith, sum, rest)

-- a name that no border has is none of them
name_none : (n : ℕ) (es : List (ℕ × Border)) → ((i k : ℕ) (x : Border) → slice_get es i ≡ Some (k, x) → x.name ≡ n → ⊥)
    → times n (names_in es) ≡ 0
name_none n [] h = refl
name_none n (e ∷ es) h =
    let other : (e.1.name == n) ≡ false = ne_eqb e.1.name n (h 0 e.0 e.1 refl) in
    let rest : times n (names_in es) ≡ 0 = name_none n es (λ i. h (suc i)) in
    sum_by-cons (is_it n) e.1.name (names_in es) ∙ (rw (other, rest) refl)

module _ (m : ByCut) (gs : ℕ → Option ℕ) (are : ArePaired (border_at m) gs) where
  -- a name that isn't found is none of them
  pub name_absent : (n : ℕ) → IsUnique (λ a b. a == b) m → gs n ≡ None → times n (names_in m.entries) ≡ 0
  name_absent n unique h = name_none n m.entries (λ i k x at same.
      none_some k (sym h ∙ (ap gs (sym same) ∙ are.named k x (lookup_from_place nat_eq_equiv m.entries i k x unique at))))

  -- and one that is none of them isn't found
  pub name_free : (n : ℕ) → times n (names_in m.entries) ≡ 0 → gs n ≡ None
  name_free n h = by (gs n) refl
    where
      by : (o : Option ℕ) → gs n ≡ o → o ≡ None
      by None e = refl
      by (Some c) e =
          let at = are.bordered n c e in
          let some : 1 ≤ times at.0.name (names_in m.entries) = name_found c at.0 m.entries at.1 in
          let one : 1 ≤ times n (names_in m.entries) = subst (λ (k : ℕ). 1 ≤ times k (names_in m.entries)) at.2 some in
          absurd (omega (arith, one, h))

  -- the end of a name that is found is among them
  pub name_end : (n c : ℕ) → gs n ≡ Some c → Contains (map end_of m.entries) (record { cut = c; name = n })
  name_end n c h =
      let at = are.bordered n c h in
      subst (λ (k : ℕ). Contains (map end_of m.entries) (record { cut = c; name = k })) at.2 (end_found c at.0 m.entries at.1)

place_of_end : (es : List (ℕ × Border)) (i : ℕ) (d : CutEnd) → i < length (map end_of es) → slice_index_or (map end_of es) i d ≡ d
    → (x : Border) × (slice_get es i ≡ Some (d.cut, x)) × (x.name ≡ d.name)
place_of_end [] i d lt is = absurd (omega arith)
place_of_end (e ∷ es) zero d lt is = (e.1, (λ i. Some ((is i).cut, e.1)), (λ i. (is i).name))
place_of_end (e ∷ es) (suc i) d lt is = place_of_end es i d (omega arith) is

-- an end that is among them is found by its cut
pub looked_up : (m : ByCut) → IsUnique (λ a b. a == b) m → (d : CutEnd) → Contains (map end_of m.entries) d
    → (x : Border) × (border_at m d.cut ≡ Some x) × (x.name ≡ d.name)
looked_up m unique d there =
    let at = place_of_end m.entries there.0 d there.1 there.2 in
    (at.0, lookup_from_place nat_eq_equiv m.entries there.0 d.cut at.0 unique at.1, at.2)

-- an entry goes to the front as it is taken out
pub end_taken : (c : ℕ) (b : Border) (es : List (ℕ × Border)) → lookup (λ k. c == k) es ≡ Some b
    → IsPermutation (map end_of es) (record { cut = c; name = b.name } ∷ map end_of (remove_entry (λ k. c == k) es))
end_taken c b [] h = absurd (none_some b h)
end_taken c b (e ∷ es) h = by (end_taken c b es) (c == e.0) refl h
  where
    d : CutEnd
    d = record { cut = c; name = b.name }

    by : (lookup (λ k. c == k) es ≡ Some b → IsPermutation (map end_of es) (d ∷ map end_of (remove_entry (λ k. c == k) es)))
        → (t : Bool) → (c == e.0) ≡ t → cond t (Some e.1) (lookup (λ k. c == k) es) ≡ Some b
        → IsPermutation (map end_of (e ∷ es)) (d ∷ map end_of (cond t es (e ∷ remove_entry (λ k. c == k) es)))
    by more true p h =
        let same : end_of e ≡ d = (λ i. record { cut = sym (from_same c e.0 p) i; name = (same_some e.1 b h i).name }) in
        subst (λ (x : CutEnd). IsPermutation (map end_of (e ∷ es)) (x ∷ map end_of es)) same (IsPermutation-refl (map end_of (e ∷ es)))
    by more false p h =
        let rest : List CutEnd = map end_of (remove_entry (λ k. c == k) es) in
        IsPermutation-trans (map end_of (e ∷ es)) (end_of e ∷ d ∷ rest) (d ∷ end_of e ∷ rest)
        (IsPermutation-cons (end_of e) (map end_of es) (d ∷ rest) (more h))
        (IsPermutation-swap (end_of e ∷ d ∷ rest) (d ∷ end_of e ∷ rest) 0 1 (omega arith) (omega arith) refl)

-- ends stay where a border is marked
pub ends_marked : (c : ℕ) (b x : Border) (es : List (ℕ × Border)) → lookup (λ k. c == k) es ≡ Some b → x.name ≡ b.name
    → map end_of (set_value (λ k. c == k) es x) ≡ map end_of es
ends_marked c b x [] h same = refl
ends_marked c b x (e ∷ es) h same = by (λ g. ends_marked c b x es g same) (c == e.0) refl h
  where
    by : (lookup (λ k. c == k) es ≡ Some b → map end_of (set_value (λ k. c == k) es x) ≡ map end_of es) → (t : Bool) → (c == e.0) ≡ t → cond t (Some e.1) (lookup (λ k. c == k) es) ≡ Some b
        → map end_of (cond t ((e.0, x) ∷ es) (e ∷ set_value (λ k. c == k) es x)) ≡ map end_of (e ∷ es)
    by more true p h =
        let name : x.name ≡ e.1.name = same ∙ ap (λ (y : Border). y.name) (sym (same_some e.1 b h)) in
        (λ i. record { cut = e.0; name = name i } ∷ map end_of es)
    by more false p h = ap (λ (l : List CutEnd). end_of e ∷ l) (more h)

-- one end more, and what it is worth
pub worth_added : (c : ℕ) (old new : Ends) (d : CutEnd) → spares c new ≡ spares c old → IsPermutation new.ends (d ∷ old.ends)
    → worth c new ≡ worth c old + times c (d.cut ∷ [])
worth_added c old new d same perm =
    let cuts : times c (map (λ (e : CutEnd). e.cut) (d ∷ old.ends)) ≡ times c (map (λ (e : CutEnd). e.cut) new.ends) =
    sum_by-IsPermutation (is_it c) (map (λ (e : CutEnd). e.cut) new.ends) (map (λ (e : CutEnd). e.cut) (d ∷ old.ends))
    (IsPermutation-map (λ (e : CutEnd). e.cut) new.ends (d ∷ old.ends) perm) in
    let first = sum_by-cons (is_it c) d.cut (map (λ (e : CutEnd). e.cut) old.ends) in
    let one = once c d.cut in
    omega (arith, cuts, first, one, same)

-- The number that comes next is spare, once.
next_row : (q s : ℕ) → (q + 1) * s ≡ q * s + s
next_row q s = omega arith

later_of : (x s q r : ℕ) → q * s + r ≡ x → r < s → (x + s) % s ≡ r
later_of x s q r whole below =
    let more : (q + 1) * s ≡ q * s + s = next_row q s in
    let sum : x + s ≡ (q + 1) * s + r = omega (arith, whole, more) in
    ap (λ (n : ℕ). n % s) sum ∙ mod-mul-add (q + 1) s r below

later : (x s : ℕ) → 1 ≤ s → (x + s) % s ≡ x % s
later x s h = later_of x s (x / s) (x % s) (div-add-mod' x s) (mod_below x s h)

small : (x s : ℕ) → x < s → x % s ≡ x
small x s h =
    let none : 0 * s ≡ 0 = zero-mul s in
    let sum : x ≡ 0 * s + x = omega (arith, none) in
    ap (λ (n : ℕ). n % s) sum ∙ mod-mul-add 0 s x h

abbrev pub is_spare : ℕ → ℕ → ℕ → ℕ
is_spare next step c = cond (nat_le next c && (c - next) % step == 0) 1 0

spare_below : (next step c : ℕ) → c < next → is_spare next step c ≡ 0
spare_below next step c h = elim (leb_tells next c) [
  | inl t ↦ (let over = t.1 in absurd (omega arith))
  | inr t ↦ rw t.0 refl
]

at_or_past : (next step c r : ℕ) → next ≤ c → (c - next) % step ≡ r → is_spare next step c ≡ cond (r == 0) 1 0
at_or_past next step c r h is = elim (leb_tells next c) [
  | inl t ↦ rw (t.0, is) refl
  | inr t ↦ (let under = t.1 in absurd (omega arith))
]

pub opened_once : (next step c : ℕ) → 1 ≤ step
    → is_spare (next + step) step c + times c (next ∷ []) ≡ is_spare next step c
opened_once next step c h = elim (leb_tells (next + step) c) [
  | inl t ↦
      (let past : next + step ≤ c = t.1 in
      let far : next ≤ c = omega arith in
      let sum : c - next ≡ (c - (next + step)) + step = omega arith in
      let first = at_or_past (next + step) step c ((c - (next + step)) % step) past refl in
      let second = at_or_past next step c ((c - (next + step)) % step) far
      (ap (λ (n : ℕ). n % step) sum ∙ later (c - (next + step)) step h) in
      let other = once c next in
      let none : ◌≡◌ {A = ℕ} (cond (next == c) 1 0) 0 = ap (λ (b : Bool). cond b 1 0) (ne_eqb next c (λ e. omega (arith, e, past, h))) in
      omega (arith, first, second, other, none))
  | inr t ↦ near (let under = t.1 in under)
]
  where
    near : c < next + step → is_spare (next + step) step c + times c (next ∷ []) ≡ is_spare next step c
    near under = elim (leb_tells next c) [
      | inl t ↦
          (let there : next ≤ c = t.1 in
          let first = spare_below (next + step) step c under in
          let rest : (c - next) % step ≡ c - next = small (c - next) step (omega (arith, there, under)) in
          let second = at_or_past next step c (c - next) there rest in
          let other = once c next in
          let same : ◌≡◌ {A = ℕ} (cond (next == c) 1 0) (cond (c - next == 0) 1 0) =
          ap (λ (b : Bool). cond b 1 0) (both there) in
          omega (arith, first, second, other, same))
      | inr t ↦
          (let low : c < next = t.1 in
          let first = spare_below (next + step) step c under in
          let second = spare_below next step c low in
          let other = once c next in
          let none : ◌≡◌ {A = ℕ} (cond (next == c) 1 0) 0 = ap (λ (b : Bool). cond b 1 0) (ne_eqb next c (λ e. omega (arith, e, low))) in
          omega (arith, first, second, other, none))
    ]
      where
        both : next ≤ c → (next == c) ≡ (c - next == 0)
        both there = elim (eqb_tells next c) [
          | inl t ↦ t.0 ∙ sym (is_same (c - next) 0 (let e = t.1 in omega arith))
          | inr t ↦ t.0 ∙ sym (ne_eqb (c - next) 0 (λ e. t.1 (omega (arith, e, there))))
        ]

-- no borders
pub paired_empty : (m : ByCut) (n : ByName) → m.entries ≡ [] → n.entries ≡ [] → ArePaired (border_at m) (cut_at n)
paired_empty m n e f = record {
  named = λ c b is. absurd (none_some b (sym (ap (λ (es : List (ℕ × Border)). lookup (λ k. c == k) es) e) ∙ is));
  bordered = λ k c is. absurd (none_some c (sym (ap (λ (es : List (ℕ × ℕ)). lookup (λ j. k == j) es) f) ∙ is));
}

pub keys_cuts : (es : List (ℕ × Border)) → keys_of es ≡ cuts_in es
keys_cuts [] = refl
keys_cuts (e ∷ es) = ap (λ (l : List ℕ). e.0 ∷ l) (keys_cuts es)

-- a border that is taken out
module _ (m n : ByCut) (g h : ByName) (cut name : ℕ) (unique : IsUnique (λ a b. a == b) m)
    (there : Contains (map end_of m.entries) (record { cut = cut; name = name })) where
  pub end_removed : IsPermutation (remove_entry (λ k. cut == k) m.entries) n.entries
      → IsPermutation (map end_of m.entries) (record { cut = cut; name = name } ∷ map end_of n.entries)
  end_removed entries =
      let at = looked_up m unique (record { cut = cut; name = name }) there in
      let rest : List (ℕ × Border) = remove_entry (λ k. cut == k) m.entries in
      let d : CutEnd = record { cut = cut; name = name } in
      let front : IsPermutation (map end_of m.entries) (d ∷ map end_of rest) =
      subst (λ (k : ℕ). IsPermutation (map end_of m.entries) (record { cut = cut; name = k } ∷ map end_of rest)) at.2
      (end_taken cut at.0 m.entries at.1) in
      IsPermutation-trans (map end_of m.entries) (d ∷ map end_of rest) (d ∷ map end_of n.entries) front
      (IsPermutation-cons d (map end_of rest) (map end_of n.entries) (IsPermutation-map end_of rest n.entries entries))

  pub removed_paired : ArePaired (border_at m) (cut_at g) → ((q : ℕ) → border_at n q ≡ cond (cut == q) None (border_at m q))
      → ((q : ℕ) → cut_at h q ≡ cond (name == q) None (cut_at g q)) → ArePaired (border_at n) (cut_at h)
  removed_paired are takes drops =
      let at = looked_up m unique (record { cut = cut; name = name }) there in
      paired_taken (border_at m) (cut_at g) are (border_at n) (cut_at h) cut at.0 at.1 takes
      (λ q. drops q ∙ ap (λ (k : ℕ). cond (k == q) None (cut_at g q)) (sym at.2))

-- worth, where a number is spare no longer, or again
pub worth_popped : (c cut : ℕ) (old new : Ends) → new.ends ≡ old.ends → new.next ≡ old.next → new.step ≡ old.step
    → old.ended ≡ new.ended ++ cut ∷ [] → worth c new + 2 * times c (cut ∷ []) ≡ worth c old
worth_popped c cut old new ends next step ended =
    let cuts : times c (map (λ (e : CutEnd). e.cut) new.ends) ≡ times c (map (λ (e : CutEnd). e.cut) old.ends) =
    ap (λ (l : List CutEnd). times c (map (λ (e : CutEnd). e.cut) l)) ends in
    let rows : is_spare new.next new.step c ≡ is_spare old.next old.step c = (λ i. is_spare (next i) (step i) c) in
    let sum : times c old.ended ≡ times c (new.ended ++ cut ∷ []) = ap (times c) ended in
    let parts = sum_by-append (is_it c) new.ended (cut ∷ []) in
    omega (arith, cuts, rows, sum, parts)

pub worth_opened : (c : ℕ) (old new : Ends) → new ≡ record old { next = old.next + old.step } → 1 ≤ old.step
    → worth c new + 2 * times c (old.next ∷ []) ≡ worth c old
worth_opened c old new is some =
    let same : worth c new ≡ worth c (record old { next = old.next + old.step }) = ap (worth c) is in
    let once = opened_once old.next old.step c some in
    omega (arith, same, once)

pub worth_ended : (c cut : ℕ) (old new : Ends) → new ≡ record old { ended = old.ended ++ cut ∷ [] }
    → worth c new ≡ worth c old + 2 * times c (cut ∷ [])
worth_ended c cut old new is =
    let same : worth c new ≡ worth c (record old { ended = old.ended ++ cut ∷ [] }) = ap (worth c) is in
    let parts = sum_by-append (is_it c) old.ended (cut ∷ []) in
    omega (arith, same, parts)
