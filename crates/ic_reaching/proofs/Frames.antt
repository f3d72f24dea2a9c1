-- Lemmas: with a rest beside them, configurations that are one net are one net.
use Rattle.std.proofs.Common.{◌≡◌, ◌⊎◌, ℕ, ◌+◌, ◌≤◌, ◌<◌, ◌==◌, ◌++◌, Bool, true, false, not, map, refl, sym, ap, ◌∙◌, arith, inl, inr, subst as transport}
use Rattle.std.proofs.lemmas.Bool.{cases_lt}
use Rattle.std.proofs.lemmas.List.{map-append}
use Rattle.std.specs.Cmp.{unsigned_Decides}
use Rattle.std.specs.List.{flat_map}
use Rattle.std.specs.Prelude.{◌↔◌}
use Rattle.ic_term.specs.Tree.{names, pair_names}
use Rattle.ic_term.specs.Configuration.{Configuration, configuration_names, occurrences}
use Rattle.ic_rules.specs.Renaming.{renamed}
use Rattle.ic_rules.specs.lemmas.RenamingLaws.{Through, terms-through}
use Rattle.ic_settle.specs.NameSteps.{NameSteps, no_step, one_more}
use Rattle.ic_settle.specs.lemmas.SubstitutionLaws.{All-front, All-back}
use Rattle.ic_round.specs.Naming.{HasNames}
use Rattle.ic_round.specs.lemmas.FreshNames.{apart_false}
use Rattle.ic_confluence.specs.Sameness.{renamed_pair, renamed_in, Renames, Rearranges, Same, renaming, rearranging, through}
use Rattle.ic_confluence.specs.lemmas.Counts.{All_from, below_next}
use Rattle.ic_confluence.specs.lemmas.Puts.{OneToOne, undone_is_one_to_one, occurrences-renamed_in}
use Rattle.ic_reaching.specs.OneNet.{raised, SameButNext, OneNet}
use Rattle.ic_reaching.proofs.Given.{NetLaws}
use Rattle.ic_reaching.proofs.ButNext.{but_next, but_next_other_way, but_next_through, next_is_no_matter, raised_names, steps_names}
use Rattle.ic_reaching.proofs.Copies.{renamed_terms_stay, renamed_pairs_stay}
use Rattle.ic_reaching.proofs.FarNames.{far, top_of, far_back, far_keeps, far_moves, far_above}
use Rattle.ic_reaching.proofs.Renamings.{all_are, pairs-through, arranged_renamed}
use Rattle.ic_reaching.proofs.Beside.{Rest, rest_names, with_rest, ApartFrom, RestBelow, counts_of_rest, counts_beside, names_beside, steps_counts, singles_kept, singles_before, steps_beside}

-- what the laws of the order of steps say of nets
pub record ShapeLaws : Type 0 where
  pub nets : NetLaws
  pub next : (c d : Configuration) → Same c d → d.next ≡ c.next
  pub free : (c d : Configuration) → Same c d → (n : ℕ) → (occurrences n (configuration_names c) ≡ 1) ↔ (occurrences n (configuration_names d) ≡ 1)

-- ---- a rest beside a renamed configuration

-- a configuration whose names are renamed and whose fresh names begin at a number, and a rest beside it
abbrev pub moved : Rest → (ℕ → ℕ) → ℕ → Configuration → Configuration
moved r f top c = record {
  interface = r.before ++ (map (renamed f) c.interface ++ r.after);
  equations = map (renamed_pair f) c.equations ++ r.equations;
  next = top;
}

-- the names of a rest stay
abbrev pub RestStays : Rest → (ℕ → ℕ) → Type 0
RestStays r f = (n : ℕ) → 1 ≤ occurrences n (rest_names r) → f n ≡ n

before_stays : (r : Rest) (f : ℕ → ℕ) → RestStays r f → map (renamed f) r.before ≡ r.before
before_stays r f stay = renamed_terms_stay f r.before (All_from (λ n. f n ≡ n) (flat_map names r.before) (λ n some. stay n (let all = counts_of_rest r n in omega (arith, all, some))))

after_stays : (r : Rest) (f : ℕ → ℕ) → RestStays r f → map (renamed f) r.after ≡ r.after
after_stays r f stay = renamed_terms_stay f r.after (All_from (λ n. f n ≡ n) (flat_map names r.after) (λ n some. stay n (let all = counts_of_rest r n in omega (arith, all, some))))

pairs_stay : (r : Rest) (f : ℕ → ℕ) → RestStays r f → map (renamed_pair f) r.equations ≡ r.equations
pairs_stay r f stay = renamed_pairs_stay f r.equations (All_from (λ n. f n ≡ n) (flat_map pair_names r.equations) (λ n some. stay n (let all = counts_of_rest r n in omega (arith, all, some))))

-- a configuration whose fresh names begin here
abbrev pub beginning : ℕ → Configuration → Configuration
beginning next c = record c { next = next }

-- a renaming of the whole is one of the configuration, where it keeps the names of the rest
renamed_whole : (r : Rest) (f : ℕ → ℕ) (top : ℕ) (c : Configuration) → RestStays r f → renamed_in f (beginning top (with_rest r c)) ≡ moved r f top c
renamed_whole r f top c stay = λ i. record { interface = terms i; equations = equations i; next = top }
  where
    middle : map (renamed f) (c.interface ++ r.after) ≡ map (renamed f) c.interface ++ r.after
    middle = map-append (renamed f) c.interface r.after ∙ ap (λ us. map (renamed f) c.interface ++ us) (after_stays r f stay)

    terms : map (renamed f) (r.before ++ (c.interface ++ r.after)) ≡ r.before ++ (map (renamed f) c.interface ++ r.after)
    terms = map-append (renamed f) r.before (c.interface ++ r.after) ∙ (λ i. before_stays r f stay i ++ middle i)

    equations : map (renamed_pair f) (c.equations ++ r.equations) ≡ map (renamed_pair f) c.equations ++ r.equations
    equations = map-append (renamed_pair f) c.equations r.equations ∙ ap (λ fs. map (renamed_pair f) c.equations ++ fs) (pairs_stay r f stay)

-- two renamings, one after the other
moved_twice : (r : Rest) (f g h : ℕ → ℕ) (top : ℕ) (c : Configuration) → RestStays r g → Through f g h (configuration_names c) → renamed_in g (moved r f top c) ≡ moved r h top c
moved_twice r f g h top c stay each =
    renamed_whole r g top (renamed_in f c) stay
    ∙ (λ i. record {
      interface = r.before ++ (terms-through f g h c.interface (All-front (λ n. g (f n) ≡ h n) (flat_map names c.interface) (flat_map pair_names c.equations) each) i ++ r.after);
      equations = pairs-through f g h c.equations (All-back (λ n. g (f n) ≡ h n) (flat_map names c.interface) (flat_map pair_names c.equations) each) i ++ r.equations;
      next = top;
    })

moved_counts : (r : Rest) (f : ℕ → ℕ) (top : ℕ) (c : Configuration) → OneToOne f → (n : ℕ)
    → occurrences (f n) (configuration_names (moved r f top c)) ≡ occurrences n (configuration_names c) + occurrences (f n) (rest_names r)
moved_counts r f top c one n =
    let all = counts_beside r (renamed_in f c) (f n) in
    let own = occurrences-renamed_in f one n c in
    omega (arith, all, own)

-- ---- all names but the free ones far away

-- these are the names that occur once
pub record Frees (keeps : ℕ → Bool) (c : Configuration) : Type 0 where
  pub kept : (n : ℕ) → keeps n ≡ true → occurrences n (configuration_names c) ≡ 1
  pub only : (n : ℕ) → occurrences n (configuration_names c) ≡ 1 → keeps n ≡ true

abbrev pub frees_of : Configuration → ℕ → Bool
frees_of c n = occurrences n (configuration_names c) == 1

pub are_frees : (c : Configuration) → Frees (frees_of c) c
are_frees c = record {
  kept = λ n e. (unsigned_Decides (occurrences n (configuration_names c)) 1).0 e;
  only = λ n e. (unsigned_Decides (occurrences n (configuration_names c)) 1).1 e;
}

same_frees : ShapeLaws → (keeps : ℕ → Bool) (c d : Configuration) → Same c d → Frees keeps c → Frees keeps d
same_frees laws keeps c d same frees = record {
  kept = λ n e. (laws.free c d same n).0 (frees.kept n e);
  only = λ n e. frees.only n ((laws.free c d same n).1 e);
}

-- where a renaming is made between two that move names away, it keeps all that is below
abbrev between : (ℕ → ℕ) → (ℕ → Bool) → ℕ → ℕ → ℕ
between f keeps bound n = far keeps bound (f (far keeps bound n))

between_stays : (f : ℕ → ℕ) (keeps : ℕ → Bool) (bound : ℕ) → ((n : ℕ) → bound ≤ n → f n ≡ n) → ((n : ℕ) → keeps n ≡ true → f n ≡ n) → (n : ℕ) → n < bound → between f keeps bound n ≡ n
between_stays f keeps bound fresh free n low = at (keeps n) refl
  where
    at : (b : Bool) → keeps n ≡ b → far keeps bound (f (far keeps bound n)) ≡ n
    at true e = ap (λ k. far keeps bound (f k)) (far_keeps keeps bound n low e) ∙ (ap (far keeps bound) (free n e) ∙ far_keeps keeps bound n low e)
    at false e =
        let there = far_moves keeps bound n low e in
        let P : ℕ → Type 0 = λ k. f k ≡ k in
        let still = transport P (sym there) (fresh (bound + n) (omega arith)) in
        ap (far keeps bound) still ∙ far_back keeps bound n

between_back : (f g : ℕ → ℕ) (keeps : ℕ → Bool) (bound : ℕ) → ((n : ℕ) → g (f n) ≡ n) → (n : ℕ) → between g keeps bound (between f keeps bound n) ≡ n
between_back f g keeps bound back n =
    ap (λ k. far keeps bound (g k)) (far_back keeps bound (f (far keeps bound n))) ∙ (ap (far keeps bound) (back (far keeps bound n)) ∙ far_back keeps bound n)

-- a name that occurs once in the whole is kept, or is one of the rest
single_whole : (r : Rest) (keeps : ℕ → Bool) (c : Configuration) → HasNames c → Frees keeps c → (n : ℕ)
    → occurrences n (configuration_names (moved r (far keeps c.next) (top_of c.next) c)) ≡ 1 → (1 ≤ occurrences n (rest_names r)) ⊎ ((n < c.next) × (keeps n ≡ true))
single_whole r keeps c named frees n once = at (cases_lt 0 (occurrences n (rest_names r)))
  where
    s : ℕ → ℕ
    s = far keeps c.next

    back : (k : ℕ) → s (s k) ≡ k
    back = far_back keeps c.next

    counts : occurrences n (configuration_names (moved r s (top_of c.next) c)) ≡ occurrences (s n) (configuration_names c) + occurrences n (rest_names r)
    counts =
        let P : ℕ → Type 0 = λ k. occurrences k (configuration_names (moved r s (top_of c.next) c)) ≡ occurrences (s n) (configuration_names c) + occurrences k (rest_names r) in
        transport P (back n) (moved_counts r s (top_of c.next) c (undone_is_one_to_one s s back) (s n))

    at : (0 < occurrences n (rest_names r)) ⊎ (occurrences n (rest_names r) ≤ 0) → (1 ≤ occurrences n (rest_names r)) ⊎ ((n < c.next) × (keeps n ≡ true))
    at (inl some) = inl (omega (arith, some))
    at (inr none) =
        let single : occurrences (s n) (configuration_names c) ≡ 1 = omega (arith, counts, none, once) in
        let low = below_next c named (s n) (omega (arith, single)) in
        let kept = frees.only (s n) single in
        let still = sym (back n) ∙ far_keeps keeps c.next (s n) low kept in
        let P : ℕ → Type 0 = λ k. (k < c.next) × (keeps k ≡ true) in
        inr (transport P (sym still) (low, kept))

renames_moved : (r : Rest) (keeps : ℕ → Bool) (c d : Configuration) → HasNames c → RestBelow r c.next → Frees keeps c → Renames c d
    → Renames (moved r (far keeps c.next) (top_of c.next) c) (moved r (far keeps c.next) (top_of c.next) d)
renames_moved r keeps c d named low frees is = record {
  to = between is.to keeps bound;
  from = between is.from keeps bound;
  there_and_back = between_back is.to is.from keeps bound is.there_and_back;
  back_and_there = between_back is.from is.to keeps bound is.back_and_there;
  free = λ n once. free n (single_whole r keeps c named frees n once);
  fresh = λ n high.
      let above = far_above keeps bound n high in
      ap (λ k. far keeps bound (is.to k)) above ∙ (ap (far keeps bound) (is.fresh n (omega (arith, high))) ∙ above);
  result = ap (moved r (far keeps bound) (top_of bound)) is.result ∙ (sym alone ∙ sym together);
}
  where
    bound : ℕ
    bound = c.next

    stays : (n : ℕ) → n < bound → between is.to keeps bound n ≡ n
    stays = between_stays is.to keeps bound is.fresh (λ n e. is.free n (frees.kept n e))

    free : (n : ℕ) → (1 ≤ occurrences n (rest_names r)) ⊎ ((n < c.next) × (keeps n ≡ true)) → between is.to keeps bound n ≡ n
    free n (inl some) = stays n (low n some)
    free n (inr both) = stays n both.0

    after : ℕ → ℕ
    after n = far keeps bound (is.to n)

    together : renamed_in (between is.to keeps bound) (moved r (far keeps bound) (top_of bound) c) ≡ moved r after (top_of bound) c
    together = moved_twice r (far keeps bound) (between is.to keeps bound) after (top_of bound) c (λ n some. stays n (low n some))
        (all_are (λ n. between is.to keeps bound (far keeps bound n) ≡ after n) (λ n. ap (λ k. far keeps bound (is.to k)) (far_back keeps bound n)) (configuration_names c))

    alone : moved r after (top_of bound) c ≡ moved r (far keeps bound) (top_of bound) (renamed_in is.to c)
    alone = λ i. record {
      interface = r.before ++ (sym (terms-through is.to (far keeps bound) after c.interface (all_are (λ n. far keeps bound (is.to n) ≡ after n) (λ n. refl) (flat_map names c.interface))) i ++ r.after);
      equations = sym (pairs-through is.to (far keeps bound) after c.equations (all_are (λ n. far keeps bound (is.to n) ≡ after n) (λ n. refl) (flat_map pair_names c.equations))) i ++ r.equations;
      next = top_of bound;
    }

rearranges_moved : (r : Rest) (f : ℕ → ℕ) (top : ℕ) (c d : Configuration) → OneToOne f → Rearranges c d → Rearranges (moved r f top c) (moved r f top d)
rearranges_moved r f top c d one is = record {
  equations = arranged_renamed f one r.equations c.equations d.equations is.equations;
  result = ap (moved r f top) is.result;
}

moved_same : ShapeLaws → (r : Rest) (keeps : ℕ → Bool) (bound : ℕ) (c d : Configuration) → Same c d → HasNames c → RestBelow r bound → Frees keeps c → c.next ≡ bound
    → Same (moved r (far keeps bound) (top_of bound) c) (moved r (far keeps bound) (top_of bound) d)
moved_same laws r keeps bound c d (renaming x y is) named low frees equal =
    let P : ℕ → Type 0 = λ b. Same (moved r (far keeps b) (top_of b) x) (moved r (far keeps b) (top_of b) y) in
    transport P equal (renaming (moved r (far keeps x.next) (top_of x.next) x) (moved r (far keeps x.next) (top_of x.next) y)
    (renames_moved r keeps x y named (λ n some. let less = low n some in omega (arith, less, equal)) frees is))
moved_same laws r keeps bound c d (rearranging x y is) named low frees equal =
    rearranging (moved r (far keeps bound) (top_of bound) x) (moved r (far keeps bound) (top_of bound) y)
    (rearranges_moved r (far keeps bound) (top_of bound) x y (undone_is_one_to_one (far keeps bound) (far keeps bound) (far_back keeps bound)) is)
moved_same laws r keeps bound c d (through x y z first second) named low frees equal =
    through (moved r (far keeps bound) (top_of bound) x) (moved r (far keeps bound) (top_of bound) y) (moved r (far keeps bound) (top_of bound) z)
    (moved_same laws r keeps bound x y first named low frees equal)
    (moved_same laws r keeps bound y z second (laws.nets.names x y first named) low (same_frees laws keeps x y first frees) (laws.next x y first ∙ equal))

-- ---- and back, where the rest has none of the names that occur twice

-- a name that doesn't occur twice
abbrev no_pair : Configuration → ℕ → Bool
no_pair c n = not (occurrences n (configuration_names c) == 2)

pair_moves : (c : Configuration) (n : ℕ) → occurrences n (configuration_names c) ≡ 2 → no_pair c n ≡ false
pair_moves c n two = ap not ((unsigned_Decides (occurrences n (configuration_names c)) 2).1 two)

others_stay : (c : Configuration) (n : ℕ) → (occurrences n (configuration_names c) ≡ 2 → ⊥) → no_pair c n ≡ true
others_stay c n never = ap not (apart_false (occurrences n (configuration_names c)) 2 never)

unchanged : (c : Configuration) → renamed_in (λ n. n) c ≡ c
unchanged c = λ i. record {
  interface = renamed_terms_stay (λ n. n) c.interface (all_are (λ (n : ℕ). n ≡ n) (λ n. refl) (flat_map names c.interface)) i;
  equations = renamed_pairs_stay (λ n. n) c.equations (all_are (λ (n : ℕ). n ≡ n) (λ n. refl) (flat_map pair_names c.equations)) i;
  next = c.next;
}

moved_back : (r : Rest) (keeps : ℕ → Bool) (c : Configuration) → HasNames c → ApartFrom r c → RestBelow r c.next → Frees keeps c
    → Same (moved r (far keeps c.next) (top_of c.next) c) (beginning (top_of c.next) (with_rest r c))
moved_back r keeps c named apart low frees = renaming (moved r (far keeps c.next) (top_of c.next) c) (beginning (top_of c.next) (with_rest r c)) (record {
  to = far (no_pair c) bound;
  from = far (no_pair c) bound;
  there_and_back = far_back (no_pair c) bound;
  back_and_there = far_back (no_pair c) bound;
  free = λ n once. free n (single_whole r keeps c named frees n once);
  fresh = far_above (no_pair c) bound;
  result = sym (moved_twice r (far keeps bound) (far (no_pair c) bound) (λ n. n) (top_of bound) c rest_stays each ∙ unmoved);
})
  where
    bound : ℕ
    bound = c.next

    rest_stays : RestStays r (far (no_pair c) bound)
    rest_stays n some = far_keeps (no_pair c) bound n (low n some) (others_stay c n (λ two. let once = apart n some in omega (arith, two, once)))

    free : (n : ℕ) → (1 ≤ occurrences n (rest_names r)) ⊎ ((n < c.next) × (keeps n ≡ true)) → far (no_pair c) bound n ≡ n
    free n (inl some) = rest_stays n some
    free n (inr both) = far_keeps (no_pair c) bound n both.0 (others_stay c n (λ two. let once = frees.kept n both.1 in omega (arith, two, once)))

    back_at : (n : ℕ) → 1 ≤ occurrences n (configuration_names c) → (b : Bool) → keeps n ≡ b → far (no_pair c) bound (far keeps bound n) ≡ n
    back_at n some true e =
        let less = below_next c named n some in
        let once = frees.kept n e in
        ap (far (no_pair c) bound) (far_keeps keeps bound n less e) ∙ far_keeps (no_pair c) bound n less (others_stay c n (λ two. omega (arith, two, once)))
    back_at n some false e =
        let less = below_next c named n some in
        let few = named.twice n in
        let two = pair_of n some few (λ once. let bad : true ≡ false = sym (frees.only n once) ∙ e in cc) in
        let gone = far_moves (no_pair c) bound n less (pair_moves c n two) in
        ap (far (no_pair c) bound) (far_moves keeps bound n less e) ∙ (ap (far (no_pair c) bound) (sym gone) ∙ far_back (no_pair c) bound n)
      where
        pair_of : (k : ℕ) → 1 ≤ occurrences k (configuration_names c) → occurrences k (configuration_names c) ≤ 2 → (occurrences k (configuration_names c) ≡ 1 → ⊥) → occurrences k (configuration_names c) ≡ 2
        pair_of k one two never = elim (cases_lt 1 (occurrences k (configuration_names c))) [
          | inl more ↦ omega (arith, more, two)
          | inr less ↦ absurd (never (omega (arith, one, less)))
        ]

    each : Through (far keeps bound) (far (no_pair c) bound) (λ n. n) (configuration_names c)
    each = All_from (λ n. far (no_pair c) bound (far keeps bound n) ≡ n) (configuration_names c) (λ n some. back_at n some (keeps n) refl)

    unmoved : moved r (λ n. n) (top_of bound) c ≡ beginning (top_of bound) (with_rest r c)
    unmoved = sym (renamed_whole r (λ n. n) (top_of bound) c (λ n some. refl)) ∙ unchanged (beginning (top_of bound) (with_rest r c))

-- ---- the same net

same_beside : ShapeLaws → (r : Rest) (c d : Configuration) → HasNames c → HasNames d → ApartFrom r c → ApartFrom r d → RestBelow r c.next → Same c d
    → Same (beginning (top_of c.next) (with_rest r c)) (beginning (top_of c.next) (with_rest r d))
same_beside laws r c d named also apart apart_too low same =
    let keeps = frees_of c in
    let bound = c.next in
    let next = laws.next c d same in
    let frees = same_frees laws keeps c d same (are_frees c) in
    let there = moved r (far keeps bound) (top_of bound) c in
    let here = moved r (far keeps bound) (top_of bound) d in
    let P : ℕ → Type 0 = λ b. Same (moved r (far keeps b) (top_of b) d) (beginning (top_of b) (with_rest r d)) in
    let back = transport P next (moved_back r keeps d also apart_too (λ n some. let less = low n some in omega (arith, less, next)) frees) in
    through (beginning (top_of bound) (with_rest r c)) there (beginning (top_of bound) (with_rest r d))
    (laws.nets.other_way there (beginning (top_of bound) (with_rest r c)) (moved_back r keeps c named apart low (are_frees c)))
    (through there here (beginning (top_of bound) (with_rest r d)) (moved_same laws r keeps bound c d same named low (are_frees c) refl) back)

but_next_beside : ShapeLaws → (r : Rest) (c d : Configuration) → HasNames c → HasNames d → ApartFrom r c → ApartFrom r d → RestBelow r c.next → SameButNext c d
    → SameButNext (with_rest r c) (with_rest r d)
but_next_beside laws r c d named also apart apart_too low s =
    let top = top_of (c.next + s.more) in
    let one = beginning top (with_rest r c) in
    let other = beginning top (with_rest r d) in
    let same = same_beside laws r (raised s.more c) (raised s.others d) (raised_names s.more c named) (raised_names s.others d also) apart apart_too
    (λ n some. let less = low n some in omega (arith, less)) s.same in
    but_next_through (with_rest r c) one (with_rest r d) (next_is_no_matter laws.nets (with_rest r c) top)
    (but_next_through one other (with_rest r d) (but_next one other same)
    (but_next_other_way laws.nets (with_rest r d) other (next_is_no_matter laws.nets (with_rest r d) top)))

-- ---- one net

steps_next : (c d : Configuration) → NameSteps c d → d.next ≡ c.next
steps_next c d (no_step x) = refl
steps_next c d (one_more x y z steps step) = ap (λ (e : Configuration). e.next) step.result ∙ steps_next x y steps

-- a name that occurs once in one of them occurs once in the other
pub net_singles : ShapeLaws → (c d : Configuration) → OneNet c d → (n : ℕ) → occurrences n (configuration_names d) ≡ 1 → occurrences n (configuration_names c) ≡ 1
net_singles laws c d net n once =
    singles_before c net.end net.names net.steps n
    ((laws.free (raised net.same.more net.end) (raised net.same.others net.end_too) net.same.same n).1 (singles_kept d net.end_too net.names_too net.steps_too n once))

pub net_beside : ShapeLaws → (r : Rest) (c d : Configuration) → OneNet c d → ApartFrom r c → ApartFrom r d → RestBelow r c.next → RestBelow r d.next
    → ((n : ℕ) → occurrences n (configuration_names c) + occurrences n (rest_names r) ≤ 2) → OneNet (with_rest r c) (with_rest r d)
net_beside laws r c d net apart apart_too low low_too few = record {
  names = names_beside r c net.names low few;
  names_too = names_beside r d net.names_too low_too (λ n. few_too n (cases_lt 0 (occurrences n (rest_names r))) (cases_lt 0 (occurrences n (configuration_names d))));
  end = with_rest r net.end;
  end_too = with_rest r net.end_too;
  steps = steps_beside r c net.end net.names apart net.steps;
  steps_too = steps_beside r d net.end_too net.names_too apart_too net.steps_too;
  same = but_next_beside laws r net.end net.end_too (steps_names c net.end net.steps net.names) (steps_names d net.end_too net.steps_too net.names_too)
      (λ n some. let fewer = steps_counts c net.end net.names net.steps n in let once = apart n some in omega (arith, fewer, once))
      (λ n some. let fewer = steps_counts d net.end_too net.names_too net.steps_too n in let once = apart_too n some in omega (arith, fewer, once))
      (λ n some. let less = low n some in let next = steps_next c net.end net.steps in omega (arith, less, next))
      net.same;
}
  where
    few_too : (n : ℕ) → (0 < occurrences n (rest_names r)) ⊎ (occurrences n (rest_names r) ≤ 0) → (0 < occurrences n (configuration_names d)) ⊎ (occurrences n (configuration_names d) ≤ 0)
        → occurrences n (configuration_names d) + occurrences n (rest_names r) ≤ 2
    few_too n (inr none) here = let two = net.names_too.twice n in omega (arith, none, two)
    few_too n (inl some) (inr none) = let all = few n in omega (arith, all, none)
    few_too n (inl some) (inl here) =
        let once = apart_too n (omega (arith, some)) in
        let there = net_singles laws c d net n (omega (arith, once, here)) in
        let all = few n in
        omega (arith, all, once, there)
