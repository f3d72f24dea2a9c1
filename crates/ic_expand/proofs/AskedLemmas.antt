-- What is known of a copier or an eraser that isn't refused, and the rules that it gets.
use Rattle.std.proofs.Common.{◌≡◌, ℕ, suc, ◌&&◌, ◌||◌, not, Bool, true, false, cond, List, [], ◌∷◌, ◌++◌, Option, None, Some, option_map, is_some, filter, slice_get, refl, sym, ap, ◌∙◌, subst, append_assoc}
use Rattle.std.specs.List.{list_any, position, AllByRecursion}
use Rattle.std.specs.Str.{bytes_eq}
use Rattle.std.specs.Cmp.Lexicographic.{bytes_decides}
use Rattle.ic_term.specs.Symbol.{Symbol, fits_limits, texts}
use Rattle.ic_expand.specs.declared.fault.Reason.{Reason}
use Rattle.ic_expand.specs.declared.fault.Reason.TheVariants.{Again, NoRules}
use Rattle.ic_expand.specs.declared.spot.Kind.{Kind}
use Rattle.ic_expand.specs.declared.spot.Spot.TheVariants.{Asked}
use Rattle.ic_expand.specs.declared.writing.Sheet.{Sheet as Found}
use Rattle.ic_expand.specs.Names.{is_among}
use Rattle.ic_expand.specs.Generic.{is_of, is_wanted}
use Rattle.ic_expand.specs.Expanding.{Sheet, arity_in, is_for, lack_of, refused_at, unless_some, wanted}
use Rattle.ic_expand.specs.inner.Sheets.{IsSheet, gives, is_missing, sheet_in}
use Rattle.ic_expand.proofs.Placed.{any_position, position-cons}
use Rattle.ic_expand.proofs.GivenLemmas.{given_is}

-- ---- the arity of a symbol

abbrev pub arity_at : List Symbol → Option ℕ → Option ℕ
arity_at ss None = None
arity_at ss (Some k) = option_map (λ (t : Symbol). t.arity) (slice_get ss k)

pub arity_found : (ss : List Symbol) (s : List ℕ) → arity_in ss s ≡ arity_at ss (position (bytes_eq s) (texts ss))
arity_found [] s = refl
arity_found (t ∷ ts) s = by (bytes_eq s t.text) (position (bytes_eq s) (texts ts)) (arity_found ts s) ∙ ap (arity_at (t ∷ ts)) (sym (position-cons (bytes_eq s) t.text (texts ts)))
  where
    by : (b : Bool) (o : Option ℕ) → arity_in ts s ≡ arity_at ts o → cond b (Some t.arity) (arity_in ts s) ≡ arity_at (t ∷ ts) (cond b (Some 0) (option_map suc o))
    by true o later = refl
    by false None later = later
    by false (Some k) later = later

some_arity : (ss : List Symbol) (s : List ℕ) → is_some (arity_in ss s) ≡ is_some (position (bytes_eq s) (texts ss))
some_arity [] s = refl
some_arity (t ∷ ts) s = by (bytes_eq s t.text) (position (bytes_eq s) (texts ts)) (some_arity ts s) ∙ ap is_some (sym (position-cons (bytes_eq s) t.text (texts ts)))
  where
    by : (b : Bool) (o : Option ℕ) → is_some (arity_in ts s) ≡ is_some o → is_some (cond b (Some t.arity) (arity_in ts s)) ≡ is_some (cond b (Some 0) (option_map suc o))
    by true o later = refl
    by false None later = later
    by false (Some k) later = later

-- a symbol of known arity has a place
pub no_place : (ss : List Symbol) (s : List ℕ) → is_some (arity_in ss s) ≡ true → position (bytes_eq s) (texts ss) ≡ None → ⊥
no_place ss s is none = let z : false ≡ true = sym (some_arity ss s ∙ ap is_some none) ∙ is in cc

-- ---- each symbol is known

or_true : (a b : Bool) → b ≡ true → (a || b) ≡ true
or_true true b is = refl
or_true false b is = is

any_mid : (p : List ℕ → Bool) (front : List (List ℕ)) (x : List ℕ) (rest : List (List ℕ)) → p x ≡ true → list_any p (front ++ x ∷ rest) ≡ true
any_mid p [] x rest is = ap (λ b. b || list_any p rest) is
any_mid p (y ∷ front) x rest is = or_true (p y) (list_any p (front ++ x ∷ rest)) (any_mid p front x rest is)

all_known : (front : List (List ℕ)) (ss : List Symbol) → AllByRecursion (λ (t : Symbol). list_any (bytes_eq t.text) (front ++ texts ss) ≡ true) ss
all_known front [] = tt
all_known front (t ∷ ts) = (
  any_mid (bytes_eq t.text) front t.text (texts ts) ((bytes_decides t.text t.text).1 refl),
  subst (λ ws. AllByRecursion (λ (u : Symbol). list_any (bytes_eq u.text) ws ≡ true) ts) (append_assoc front (t.text ∷ []) (texts ts)) (all_known (front ++ t.text ∷ []) ts),
)

-- ---- the rules that are wanted

filter_same : (p q : Symbol → Bool) (is : Symbol → Type 0) → ((t : Symbol) → is t → p t ≡ q t) → (ss : List Symbol) → AllByRecursion is ss → filter p ss ≡ filter q ss
filter_same p q is same [] all = refl
filter_same p q is same (t ∷ ts) all = (λ i. cond (same t all.0 i) (t ∷ filter_same p q is same ts all.1 i) (filter_same p q is same ts all.1 i))

module _ (s : Found) (sheet : IsSheet s) (earlier : List (List ℕ)) (g : List ℕ) (i : ℕ) (at : position (bytes_eq g) (texts (sheet_in s).symbols) ≡ Some i) (fresh : is_among g earlier ≡ false) where
  at_known : position (bytes_eq g) s.known ≡ Some i
  at_known = ap (position (bytes_eq g)) sheet.known ∙ at

  gives_is : (t : Symbol) (o : Option ℕ) → position (bytes_eq t.text) s.known ≡ o → is_some o ≡ true → gives s.given i o ≡ list_any (is_of g t.text) (sheet_in s).pairs
  gives_is t None at_t some = let z : false ≡ true = some in cc
  gives_is t (Some j) at_t some = given_is s.given s.known (sheet_in s).pairs g t.text i j sheet.given at_known at_t

  shuffled : (fits among given : Bool) → (fits && not among && not given) ≡ (fits && not given && not false && not among)
  shuffled true true true = refl
  shuffled true true false = refl
  shuffled true false true = refl
  shuffled true false false = refl
  shuffled false among given = refl

  missing_is : (t : Symbol) → list_any (bytes_eq t.text) (texts (sheet_in s).symbols) ≡ true → is_missing s earlier i t ≡ is_wanted (sheet_in s).pairs earlier g t
  missing_is t there =
      let some : is_some (position (bytes_eq t.text) s.known) ≡ true =
      sym (any_position (bytes_eq t.text) s.known) ∙ ap (list_any (bytes_eq t.text)) sheet.known ∙ there in
      ap (λ b. fits_limits t.text t.arity && not (is_among t.text earlier) && not b) (gives_is t (position (bytes_eq t.text) s.known) refl some)
      ∙ shuffled (fits_limits t.text t.arity) (is_among t.text earlier) (list_any (is_of g t.text) (sheet_in s).pairs)
      ∙ ap (λ b. fits_limits t.text t.arity && not (list_any (is_of g t.text) (sheet_in s).pairs) && not b && not (is_among t.text earlier)) (sym fresh)

  -- those that are missing
  pub wanted_are : filter (is_missing s earlier i) (sheet_in s).symbols ≡ wanted (sheet_in s) earlier g
  wanted_are = filter_same (is_missing s earlier i) (is_wanted (sheet_in s).pairs earlier g) (λ t. list_any (bytes_eq t.text) (texts (sheet_in s).symbols) ≡ true) missing_is (sheet_in s).symbols
      (all_known [] (sheet_in s).symbols)

-- ---- refusals

unwanted : (fits given among : Bool) → (fits && not given && not true && not among) ≡ false
unwanted true true among = refl
unwanted true false among = refl
unwanted false given among = refl

-- for one symbol twice none is wanted
none_again : (pairs : List (List ℕ × List ℕ)) (earlier : List (List ℕ)) (g : List ℕ) → is_among g earlier ≡ true → (ss : List Symbol) → filter (is_wanted pairs earlier g) ss ≡ []
none_again pairs earlier g again [] = refl
none_again pairs earlier g again (t ∷ ts) =
    let no = ap (λ b. fits_limits t.text t.arity && not (list_any (is_of g t.text) pairs) && not b && not (is_among t.text earlier)) again
    ∙ unwanted (fits_limits t.text t.arity) (list_any (is_of g t.text) pairs) (is_among t.text earlier) in
    ap (λ b. cond b (t ∷ filter (is_wanted pairs earlier g) ts) (filter (is_wanted pairs earlier g) ts)) no ∙ none_again pairs earlier g again ts

pub lack_again : (sheet : Sheet) (earlier : List (List ℕ)) (g : List ℕ) → is_among g earlier ≡ true → Some Again ≡ unless_some (is_among g earlier) (wanted sheet earlier g)
lack_again sheet earlier g again = sym ((λ i. unless_some (again i) (none_again sheet.pairs earlier g again sheet.symbols i)))

abbrev pub lack_by : Bool → Option Reason
lack_by true = None
lack_by false = Some NoRules

lack_any : (p : Symbol → Bool) (ss : List Symbol) → lack_by (list_any p ss) ≡ unless_some false (filter p ss)
lack_any p [] = refl
lack_any p (t ∷ ts) = by (p t) (lack_any p ts)
  where
    by : (b : Bool) → lack_by (list_any p ts) ≡ unless_some false (filter p ts) → lack_by (b || list_any p ts) ≡ unless_some false (cond b (t ∷ filter p ts) (filter p ts))
    by true later = refl
    by false later = later

module _ (s : Found) (sheet : IsSheet s) (earlier : List (List ℕ)) (g : List ℕ) (i : ℕ) (at : position (bytes_eq g) (texts (sheet_in s).symbols) ≡ Some i) (fresh : is_among g earlier ≡ false) where
  pub lack_wanted : (b : Bool) → list_any (is_missing s earlier i) (sheet_in s).symbols ≡ b → lack_by b ≡ unless_some (is_among g earlier) (wanted (sheet_in s) earlier g)
  lack_wanted b is =
      ap lack_by (sym is) ∙ lack_any (is_missing s earlier i) (sheet_in s).symbols
      ∙ (λ k. unless_some (sym fresh k) (wanted_are s sheet earlier g i at fresh k))

-- one that isn't refused has its arguments and is fresh
pub asked_fine : (sheet : Sheet) (earlier : List (List ℕ)) (kind : Kind) (g : List ℕ) → refused_at sheet earlier (Asked kind) g ≡ None
    → (is_some (arity_in sheet.symbols g) ≡ true) × (is_among g earlier ≡ false)
asked_fine sheet earlier kind g fine = by (arity_in sheet.symbols g) fine
  where
    again : (b : Bool) → is_among g earlier ≡ b → unless_some (is_among g earlier) (wanted sheet earlier g) ≡ None → b ≡ false
    again true is none = let z : Some Again ≡ None = lack_again sheet earlier g is ∙ none in cc
    again false is none = refl

    test : (t : Bool) (o : Option ℕ) → cond t (unless_some (is_among g earlier) (wanted sheet earlier g)) (Some (lack_of kind g o)) ≡ None → is_among g earlier ≡ false
    test true o none = again (is_among g earlier) refl none
    test false o none = let z : Some (lack_of kind g o) ≡ None = none in cc

    by : (o : Option ℕ) → cond (is_for kind o) (unless_some (is_among g earlier) (wanted sheet earlier g)) (Some (lack_of kind g o)) ≡ None
        → (is_some o ≡ true) × (is_among g earlier ≡ false)
    by None none = let z : Some (lack_of kind g None) ≡ None = none in cc
    by (Some n) none = (refl, test (is_for kind (Some n)) (Some n) none)

pub is_for_some : (kind : Kind) (o : Option ℕ) → is_for kind o ≡ true → is_some o ≡ true
is_for_some kind None is = let z : false ≡ true = is in cc
is_for_some kind (Some n) is = refl
