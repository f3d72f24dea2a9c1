-- Which body a file holds.
use Rattle.std.proofs.Common.{◌≡◌, ⊎_elim, ℕ, ◌<◌, Bool, true, false, List, refl, sym, ◌∙◌, ap, arith}
use Rattle.std.proofs.lemmas.Bool.{cases_Bool, ne_eqb, lt-ltb, le-ltb, false≢true}
use Rattle.std.specs.Prelude.{◌==◌, nat_lt, if◌then◌else◌}
use Rattle.ic_frames.specs.declared.slot.Slot.{Slot}
use Rattle.ic_frames.specs.declared.slot.Slot.TheVariants.{First, Second}
use Rattle.ic_frames.specs.Places.{place}
use Rattle.ic_frames.specs.Fields.{number, body, is_open, is_whole, IsMade}
use Rattle.ic_frames.specs.Held.{Held, the_body, damaged, body_of, body_held, IsNewest, HasBody, Holds}
use Rattle.ic_frames.specs.inner.Standing.{Stands}

-- which of four bodies two tests choose
pub both_open : (a b : Bool) (x y z w : Held) → a ≡ true → b ≡ true → (if a then (if b then x else y) else (if b then z else w)) ≡ x
both_open a b x y z w this that = rw (this, that) refl

first_alone : (a b : Bool) (x y z w : Held) → a ≡ true → b ≡ false → (if a then (if b then x else y) else (if b then z else w)) ≡ y
first_alone a b x y z w this that = rw (this, that) refl

second_alone : (a b : Bool) (x y z w : Held) → a ≡ false → b ≡ true → (if a then (if b then x else y) else (if b then z else w)) ≡ z
second_alone a b x y z w this that = rw (this, that) refl

pub none_open : (a b : Bool) (x y z w : Held) → a ≡ false → b ≡ false → (if a then (if b then x else y) else (if b then z else w)) ≡ w
none_open a b x y z w this that = rw (this, that) refl

-- and which of three
pub are_alike : (same less : Bool) (x y z : Held) → same ≡ true → (if same then x else (if less then y else z)) ≡ x
are_alike same less x y z this = rw this refl

first_newer : (same less : Bool) (x y z : Held) → same ≡ false → less ≡ true → (if same then x else (if less then y else z)) ≡ y
first_newer same less x y z this that = rw (this, that) refl

second_newer : (same less : Bool) (x y z : Held) → same ≡ false → less ≡ false → (if same then x else (if less then y else z)) ≡ z
second_newer same less x y z this that = rw (this, that) refl

-- the file holds the body of its newest slot
pub newest_held : (slot : Slot) (file : List ℕ) → IsNewest slot file → body_held file ≡ body_of slot file
unfolding body_held
newest_held First file newest = ⊎_elim
    (λ both.
    let less : number 4194304 file < number 0 file = newest.newer both in
    both_open (is_open 0 file) (is_open 4194304 file) _ _ _ _ newest.opened both
    ∙ first_newer (number 0 file == number 4194304 file) (nat_lt (number 4194304 file) (number 0 file)) _ _ _ (ne_eqb _ _ (λ same. omega (arith, less, same))) (lt-ltb _ _ less))
    (λ alone. first_alone (is_open 0 file) (is_open 4194304 file) _ _ _ _ newest.opened alone)
    (cases_Bool (is_open 4194304 file))
newest_held Second file newest = ⊎_elim
    (λ both.
    let less : number 0 file < number 4194304 file = newest.newer both in
    both_open (is_open 0 file) (is_open 4194304 file) _ _ _ _ both newest.opened
    ∙ second_newer (number 0 file == number 4194304 file) (nat_lt (number 4194304 file) (number 0 file)) _ _ _ (ne_eqb _ _ (λ same. omega (arith, less, same))) (le-ltb _ _ (omega (arith, less))))
    (λ alone. second_alone (is_open 0 file) (is_open 4194304 file) _ _ _ _ alone newest.opened)
    (cases_Bool (is_open 0 file))

-- and so it is that body where it is whole, and damaged where it isn't
pub whole_held : (slot : Slot) (file : List ℕ) → IsNewest slot file → is_whole (place slot) file ≡ true → body_held file ≡ the_body (body (place slot) file)
whole_held slot file newest whole = newest_held slot file newest ∙ rw whole refl

pub spoiled_held : (slot : Slot) (file : List ℕ) → IsNewest slot file → is_whole (place slot) file ≡ false → body_held file ≡ damaged
spoiled_held slot file newest spoiled = newest_held slot file newest ∙ rw spoiled refl

-- a file whose slots stand so has the newest as its newest
pub stands_newest : (slot : Slot) (n : ℕ) (closed : Bool) (kept file : List ℕ) → Stands slot n closed kept file → IsNewest slot file
stands_newest slot n true kept file stands = record { opened = stands.opened; newer = λ is. absurd (false≢true (sym (stands.shut refl) ∙ is)) }
stands_newest slot n false kept file stands = record { opened = stands.opened; newer = λ is. omega (arith, stands.older refl, stands.number_is) }

pub stands_has : (slot : Slot) (n : ℕ) (closed : Bool) (kept file : List ℕ) → Stands slot n closed kept file → HasBody kept file
stands_has slot n closed kept file stands = whole_held slot file (stands_newest slot n closed kept file stands) stands.whole ∙ ap the_body stands.body_is

pub stands_holds : (slot : Slot) (n : ℕ) (closed : Bool) (kept file : List ℕ) → Stands slot n closed kept file → IsMade file → Holds kept file
stands_holds slot n closed kept file stands made = record { made = made; held = stands_has slot n closed kept file stands }
