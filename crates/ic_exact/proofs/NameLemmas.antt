-- Lemmas of names that are written as others.
use Rattle.std.proofs.Common.{◌≡◌, ℕ, ◌+◌, ◌≤◌, ◌==◌, Bool, true, false, List, [], ◌∷◌, ◌++◌, map, refl, sym, ◌∙◌, ap, cond, arith, subst}
use Rattle.std.specs.Prelude.{Contains, IsTrue}
use Rattle.std.specs.List.{flat_map, AllByRecursion}
use Rattle.std.specs.Cmp.{unsigned_Decides}
use Rattle.std.proofs.lemmas.Bool.{eqb-true, ne_eqb}
use Rattle.std.proofs.lemmas.List.Elements.{All-contains, All-from_recursion}
use Rattle.std.proofs.lemmas.List.{map-append}
use Rattle.ic_term.specs.Tree.{Pair, names, pair_names}
use Rattle.ic_term.specs.Configuration.{Configuration, configuration_names, occurrences}
use Rattle.ic_rules.specs.lemmas.RenamingLaws.{names-renamed, flat_names-renamed}
use Rattle.ic_text.specs.Name.{is_name}
use Rattle.ic_naming.specs.Naming.{renamed_pair}
use Rattle.ic_naming.specs.lemmas.Occurring.{occurrences-cons, occurrences-other}
use Rattle.ic_expand.specs.Names.{IsRenaming as IsWritten}
use Rattle.ic_dump.specs.Submitting.{IsRenaming}

all_there : {X : Type 0} (P : X → Type 0) (xs : List X) (x : X) → AllByRecursion P xs → Contains xs x → P x
all_there P xs x all there = All-contains P xs x (All-from_recursion P xs all) there

pub kept_apart : (f : List ℕ → List ℕ) (ns : List (List ℕ)) → IsWritten f ns → (v w : List ℕ) → Contains ns v → Contains ns w → IsTrue (is_name v)
    → f w ≡ v → w ≡ v
kept_apart f ns is v w there also named same =
    let row = all_there (λ a. AllByRecursion (λ b. f a ≡ f b → a ≡ b) ns) ns w is.apart also in
    all_there (λ b. f w ≡ f b → w ≡ b) ns v row there (same ∙ sym (is.kept v named))

pub written_again : (f : List ℕ → List ℕ) (ns : List (List ℕ)) → IsWritten f ns → (n : List ℕ) → Contains ns n → f (f n) ≡ f n
written_again f ns is n there = is.kept (f n) (all_there (λ m. IsTrue (is_name (f m))) ns n is.told there)

-- what holds of all names holds of one that occurs
of_one : (P : ℕ → Type 0) (n : ℕ) (ns : List ℕ) → AllByRecursion P ns → 1 ≤ occurrences n ns → P n
of_one P n [] all some = absurd (omega (arith, some))
of_one P n (m ∷ ns) all some = at (m == n) refl (of_one P n ns all.1)
  where
    at : (b : Bool) → (m == n) ≡ b → (1 ≤ occurrences n ns → P n) → P n
    at true is rest = subst P (eqb-true m n is) all.0
    at false is rest = rest (let less = occurrences-other n m ns is in omega (arith, some, less))

-- a name whose new one no other has occurs as often under that
as_often : (f : ℕ → ℕ) (n : ℕ) (ns : List ℕ) → AllByRecursion (λ m. f n ≡ f m → n ≡ m) ns → occurrences (f n) (map f ns) ≡ occurrences n ns
as_often f n [] apart = refl
as_often f n (m ∷ ns) apart =
    occurrences-cons (f n) (f m) (map f ns)
    ∙ (λ i. cond (tested i) 1 0 + as_often f n ns apart.1 i)
    ∙ sym (occurrences-cons n m ns)
  where
    at : (b : Bool) → (m == n) ≡ b → (f m == f n) ≡ b
    at true is = (unsigned_Decides (f m) (f n)).1 (ap f (eqb-true m n is))
    at false is = ne_eqb (f m) (f n) (λ same. let equal = apart.0 (sym same) in let e = sym is ∙ (unsigned_Decides m n).1 (sym equal) in cc)

    tested : (f m == f n) ≡ (m == n)
    tested = at (m == n) refl

pair_names-renamed : (f : ℕ → ℕ) (es : List Pair) → flat_map pair_names (map (renamed_pair f) es) ≡ map f (flat_map pair_names es)
pair_names-renamed f [] = refl
pair_names-renamed f (e ∷ es) =
    let sides : pair_names (renamed_pair f e) ≡ map f (pair_names e) =
    (λ i. names-renamed f e.left i ++ names-renamed f e.right i) ∙ sym (map-append f (names e.left) (names e.right)) in
    (λ i. sides i ++ pair_names-renamed f es i) ∙ sym (map-append f (pair_names e) (flat_map pair_names es))

names_are : (f : ℕ → ℕ) (c d : Configuration) → IsRenaming f c d → configuration_names d ≡ map f (configuration_names c)
names_are f c d is =
    (λ i. flat_map names (is.interface i) ++ flat_map pair_names (is.equations i))
    ∙ (λ i. flat_names-renamed f c.interface i ++ pair_names-renamed f c.equations i)
    ∙ sym (map-append f (flat_map names c.interface) (flat_map pair_names c.equations))

pub occurs_so : (f : ℕ → ℕ) (c d : Configuration) → IsRenaming f c d → (n : ℕ) → 1 ≤ occurrences n (configuration_names c)
    → occurrences (f n) (configuration_names d) ≡ occurrences n (configuration_names c)
occurs_so f c d is n some =
    let ns = configuration_names c in
    let apart = of_one (λ m. AllByRecursion (λ k. f m ≡ f k → m ≡ k) ns) n ns is.one_to_one some in
    ap (occurrences (f n)) (names_are f c d is) ∙ as_often f n ns apart
