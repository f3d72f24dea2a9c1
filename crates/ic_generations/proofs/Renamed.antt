-- Lemmas: names turned into others, no two into one, make the same net but for where fresh names begin.
use Rattle.std.proofs.Common.{◌≡◌, ℕ, suc, ◌+◌, ◌≤◌, ◌==◌, List, [], ◌∷◌, Bool, true, false, cond, map, refl, sym, ap, ◌∙◌, eq-eqb, arith}
use Rattle.std.specs.Cmp.{unsigned_Decides}
use Rattle.std.specs.List.{flat_map}
use Rattle.ic_term.specs.Tree.{Tree, name, agent, Trees, no_trees, more_trees, names, names_of, Pair, pair_names}
use Rattle.ic_term.specs.Configuration.{Configuration, configuration_names, occurrences}
use Rattle.ic_rules.specs.Renaming.{renamed, renamed_trees}
use Rattle.ic_settle.specs.lemmas.SubstitutionLaws.{occurrences-append, occurrences-cons}
use Rattle.ic_round.specs.lemmas.FreshNames.{apart_false}
use Rattle.ic_confluence.specs.Sameness.{renamed_pair, renamed_in, renaming}
use Rattle.ic_confluence.specs.lemmas.Counts.{in_pair, in_more, in_configuration}
use Rattle.ic_confluence.specs.lemmas.Swaps.{swap, swap_left, swap_other, swap_back}
use Rattle.ic_reaching.specs.OneNet.{SameButNext}

-- ---- a function that keeps some names apart, as a renaming of all names one-to-one

-- no two of these names are turned into one
abbrev pub KeepsApart : (ℕ → ℕ) → List ℕ → Type 0
KeepsApart g ns = (m n : ℕ) → 1 ≤ occurrences m ns → 1 ≤ occurrences n ns → g m ≡ g n → m ≡ n

record Extension (g : ℕ → ℕ) (ns : List ℕ) : Type 0 where
  to : ℕ → ℕ
  from : ℕ → ℕ
  there_and_back : (n : ℕ) → from (to n) ≡ n
  back_and_there : (n : ℕ) → to (from n) ≡ n
  top : ℕ
  agrees : (n : ℕ) → 1 ≤ occurrences n ns → to n ≡ g n
  above : (n : ℕ) → top ≤ n → to n ≡ n

-- one more name
more_agrees : (g : ℕ → ℕ) (x : ℕ) (ns : List ℕ) → KeepsApart g (x ∷ ns) → (e : Extension g ns) (n : ℕ) → 1 ≤ occurrences n (x ∷ ns) → (b : Bool) → (x == n) ≡ b
    → swap (e.to x) (g x) (e.to n) ≡ g n
more_agrees g x ns apart e n some true is =
    let same = (unsigned_Decides x n).0 is in
    ap (λ k. swap (e.to x) (g x) (e.to k)) (sym same) ∙ (swap_left (e.to x) (g x) ∙ ap g same)
more_agrees g x ns apart e n some false is =
    let first = occurrences-cons n x ns in
    let other : ◌≡◌ {A = ℕ} (cond (x == n) 1 0) 0 = rw is refl in
    let later : 1 ≤ occurrences n ns = omega (arith, first, other, some) in
    let here : 1 ≤ occurrences x (x ∷ ns) =
    let own = occurrences-cons x x ns in
    let one : ◌≡◌ {A = ℕ} (cond (x == x) 1 0) 1 = rw (eq-eqb x x refl) refl in
    omega (arith, own, one) in
    let differ : n ≡ x → ⊥ = λ same. let yes = (unsigned_Decides x n).1 (sym same) in let bad : true ≡ false = sym yes ∙ is in cc in
    swap_other (e.to x) (g x) (e.to n)
    (apart_false (e.to n) (e.to x) (λ same. differ (sym (e.there_and_back n) ∙ (ap e.from same ∙ e.there_and_back x))))
    (apart_false (e.to n) (g x) (λ same. differ (apart n x some here (sym (e.agrees n later) ∙ same))))
    ∙ e.agrees n later

one_more : (g : ℕ → ℕ) (x : ℕ) (ns : List ℕ) → KeepsApart g (x ∷ ns) → Extension g ns → Extension g (x ∷ ns)
one_more g x ns apart e = record {
  to = λ n. swap (e.to x) (g x) (e.to n);
  from = λ n. e.from (swap (e.to x) (g x) n);
  there_and_back = λ n. ap e.from (swap_back (e.to x) (g x) (e.to n)) ∙ e.there_and_back n;
  back_and_there = λ n. ap (swap (e.to x) (g x)) (e.back_and_there (swap (e.to x) (g x) n)) ∙ swap_back (e.to x) (g x) n;
  top = e.top + (suc x + suc (g x));
  agrees = λ n some. more_agrees g x ns apart e n some (x == n) refl;
  above = λ n high.
      let stays = e.above n (omega (arith, high)) in
      let own : n ≡ e.to x → ⊥ = λ same.
      let equal = sym (e.there_and_back n) ∙ (ap e.from (stays ∙ same) ∙ e.there_and_back x) in omega (arith, equal, high) in
      ap (swap (e.to x) (g x)) stays ∙ swap_other (e.to x) (g x) n (apart_false n (e.to x) own) (apart_false n (g x) (λ same. omega (arith, same, high)));
}

extension : (g : ℕ → ℕ) (ns : List ℕ) → KeepsApart g ns → Extension g ns
extension g [] apart = record {
  to = λ n. n;
  from = λ n. n;
  there_and_back = λ n. refl;
  back_and_there = λ n. refl;
  top = 0;
  agrees = λ n some. absurd (let nothing : occurrences n [] ≡ 0 = refl in omega (arith, some, nothing));
  above = λ n high. refl;
}
extension g (x ∷ ns) apart =
    one_more g x ns apart (extension g ns (λ m n one other same.
    let first = occurrences-cons m x ns in
    let second = occurrences-cons n x ns in
    apart m n (omega (arith, first, one)) (omega (arith, second, other)) same))

-- ---- functions that agree on the names there are

abbrev pub Agree : (ℕ → ℕ) → (ℕ → ℕ) → List ℕ → Type 0
Agree f g ns = (n : ℕ) → 1 ≤ occurrences n ns → f n ≡ g n

mutual
  alike_tree : (f g : ℕ → ℕ) (t : Tree) → Agree f g (names t) → renamed f t ≡ renamed g t
  alike_tree f g (name n) agree =
      ap name (agree n (let own = occurrences-cons n n [] in let one : ◌≡◌ {A = ℕ} (cond (n == n) 1 0) 1 = rw (eq-eqb n n refl) refl in omega (arith, own, one)))
  alike_tree f g (agent s ts) agree = ap (agent s) (alike_trees f g ts agree)

  alike_trees : (f g : ℕ → ℕ) (ts : Trees) → Agree f g (names_of ts) → renamed_trees f ts ≡ renamed_trees g ts
  alike_trees f g no_trees agree = refl
  alike_trees f g (more_trees t ts) agree =
      let here = alike_tree f g t (λ n some. agree n (let both = occurrences-append n (names t) (names_of ts) in omega (arith, both, some))) in
      let rest = alike_trees f g ts (λ n some. agree n (let both = occurrences-append n (names t) (names_of ts) in omega (arith, both, some))) in
      λ i. more_trees (here i) (rest i)

pub alike_terms : (f g : ℕ → ℕ) (ts : List Tree) → Agree f g (flat_map names ts) → map (renamed f) ts ≡ map (renamed g) ts
alike_terms f g [] agree = refl
alike_terms f g (t ∷ ts) agree =
    let here = alike_tree f g t (λ n some. agree n (let both = occurrences-append n (names t) (flat_map names ts) in omega (arith, both, some))) in
    let rest = alike_terms f g ts (λ n some. agree n (let both = occurrences-append n (names t) (flat_map names ts) in omega (arith, both, some))) in
    λ i. here i ∷ rest i

pub alike_pair : (f g : ℕ → ℕ) (p : Pair) → Agree f g (pair_names p) → renamed_pair f p ≡ renamed_pair g p
alike_pair f g p agree =
    let left = alike_tree f g p.left (λ n some. agree n (let both = in_pair n p in omega (arith, both, some))) in
    let right = alike_tree f g p.right (λ n some. agree n (let both = in_pair n p in omega (arith, both, some))) in
    λ i. record { left = left i; right = right i }

pub alike_pairs : (f g : ℕ → ℕ) (es : List Pair) → Agree f g (flat_map pair_names es) → map (renamed_pair f) es ≡ map (renamed_pair g) es
alike_pairs f g [] agree = refl
alike_pairs f g (p ∷ es) agree =
    let here = alike_pair f g p (λ n some. agree n (let both = in_more n p es in omega (arith, both, some))) in
    let rest = alike_pairs f g es (λ n some. agree n (let both = in_more n p es in omega (arith, both, some))) in
    λ i. here i ∷ rest i

-- ---- names that stay

mutual
  unmoved_tree : (t : Tree) → renamed (λ n. n) t ≡ t
  unmoved_tree (name n) = refl
  unmoved_tree (agent s ts) = ap (agent s) (unmoved_trees ts)

  unmoved_trees : (ts : Trees) → renamed_trees (λ n. n) ts ≡ ts
  unmoved_trees no_trees = refl
  unmoved_trees (more_trees t ts) = λ i. more_trees (unmoved_tree t i) (unmoved_trees ts i)

unmoved_terms : (ts : List Tree) → map (renamed (λ n. n)) ts ≡ ts
unmoved_terms [] = refl
unmoved_terms (t ∷ ts) = λ i. unmoved_tree t i ∷ unmoved_terms ts i

unmoved_pair : (p : Pair) → renamed_pair (λ n. n) p ≡ p
unmoved_pair p = λ i. record { left = unmoved_tree p.left i; right = unmoved_tree p.right i }

unmoved_pairs : (es : List Pair) → map (renamed_pair (λ n. n)) es ≡ es
unmoved_pairs [] = refl
unmoved_pairs (p ∷ es) = λ i. unmoved_pair p i ∷ unmoved_pairs es i

-- a function leaves these names
abbrev pub Stay : (ℕ → ℕ) → List ℕ → Type 0
Stay f ns = Agree f (λ n. n) ns

pub terms_stay : (f : ℕ → ℕ) (ts : List Tree) → Stay f (flat_map names ts) → map (renamed f) ts ≡ ts
terms_stay f ts stay = alike_terms f (λ n. n) ts stay ∙ unmoved_terms ts

pub pair_stays : (f : ℕ → ℕ) (p : Pair) → Stay f (pair_names p) → renamed_pair f p ≡ p
pair_stays f p stay = alike_pair f (λ n. n) p stay ∙ unmoved_pair p

pub pairs_stay : (f : ℕ → ℕ) (es : List Pair) → Stay f (flat_map pair_names es) → map (renamed_pair f) es ≡ es
pairs_stay f es stay = alike_pairs f (λ n. n) es stay ∙ unmoved_pairs es

-- ---- the same net but for where fresh names begin

pub renamed_net : (c : Configuration) (g : ℕ → ℕ) (next : ℕ) → KeepsApart g (configuration_names c) → ((n : ℕ) → occurrences n (configuration_names c) ≡ 1 → g n ≡ n)
    → SameButNext c (record (renamed_in g c) { next = next })
renamed_net c g next apart free =
    let e = extension g (configuration_names c) apart in
    let sum : next + (e.top + c.next) ≡ c.next + (e.top + next) = omega arith in
    let terms = alike_terms g e.to c.interface (λ n some. sym (e.agrees n (let all = in_configuration n c.interface c.equations in omega (arith, all, some)))) in
    let equations = alike_pairs g e.to c.equations (λ n some. sym (e.agrees n (let all = in_configuration n c.interface c.equations in omega (arith, all, some)))) in
    record {
      more = e.top + next;
      others = e.top + c.next;
      same = renaming _ _ (record {
        to = e.to;
        from = e.from;
        there_and_back = e.there_and_back;
        back_and_there = e.back_and_there;
        free = λ n once. e.agrees n (omega (arith, once)) ∙ free n once;
        fresh = λ n high. e.above n (omega (arith, high));
        result = λ i. record { interface = terms i; equations = equations i; next = sum i };
      });
    }
