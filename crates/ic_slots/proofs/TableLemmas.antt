-- What is said of bodies, said of the tables of which they are byte forms.
use Rattle.std.proofs.Common.{◌≡◌, inl, inr, ⊎_elim, ℕ, ◌+◌, List, Result, Ok, Err, OnOk, refl, subst}
use Rattle.ic_disk.specs.Images.{Within}
use Rattle.ic_jobs.specs.Job.{JobParts}
use Rattle.ic_jobs.specs.Table.{IsTable}
use Rattle.ic_codec.specs.Tables.{table_bytes, old_table_bytes, HasNoBudgets, IsFormOf}
use Rattle.ic_frames.specs.declared.slot.Slot.{Slot}
use Rattle.ic_frames.specs.Places.{other}
use Rattle.ic_frames.specs.Held.{HasBody, Holds, HoldsEither}
use Rattle.ic_frames.specs.Staged.{IsStaged}
use Rattle.ic_slots.specs.Held.{HasTable, HoldsTable, HoldsEitherTable, IsHeld, IsStagedTable, the_table}

-- the form that is written is one
pub written_form : (t : List JobParts) → IsFormOf t (table_bytes t)
written_form t = inl refl

-- and so is the old one, of a table without budgets
pub old_form : (t : List JobParts) → HasNoBudgets t → IsFormOf t (old_table_bytes t)
old_form t none = inr (record { unbudgeted = none; bytes_are = refl })

-- a file that has a form of a table has the table
pub has_table : (t : List JobParts) (body file : List ℕ) → IsTable t → IsFormOf t body → HasBody body file → HasTable t file
has_table t body file sound form has = (sound, record { body = body; held = has; form = form })

-- and one that holds it holds the table
pub table_holds : (t : List JobParts) (body file : List ℕ) → IsTable t → IsFormOf t body → Holds body file → HoldsTable t file
table_holds t body file sound form holds = record { made = holds.made; held = has_table t body file sound form holds.held }

pub bytes_staged : (slot : Slot) (n : ℕ) (t : List JobParts) (image : List ℕ → Type 0) → Within image (IsStagedTable slot n t) → Within image (IsStaged slot n (table_bytes t))
bytes_staged slot n t image staged file is = (staged file is).1

-- what is held at a moment of which there is an image is a table
pub sound_of : (t : List JobParts) (image : List ℕ → Type 0) (file : List ℕ) → image file → Within image (HoldsTable t) → IsTable t
sound_of t image file is holds = (holds file is).held.0

pub either_table : (old new : List JobParts) (one other file : List ℕ) → IsTable old → IsTable new → IsFormOf old one → IsFormOf new other
    → HoldsEither one other file → HoldsEitherTable old new file
either_table old new one other file sound_old sound_new form_old form_new either =
    ⊎_elim (λ is. inl (table_holds old one file sound_old form_old is)) (λ is. inr (table_holds new other file sound_new form_new is)) either

-- what follows from what holds at Ok
pub on_ok : {T E : Type 0} (r : Result T E) (P Q : Type 0) → (P → Q) → OnOk r P → OnOk r Q
on_ok (Ok value) P Q f is = f is
on_ok (Err fault) P Q f is = tt

-- What holds at Ok of the form that is written holds of the table.
pub ok_holds : {T E : Type 0} (r : Result T E) (t : List JobParts) (image : List ℕ → Type 0) → IsTable t → OnOk r (Within image (Holds (table_bytes t))) → OnOk r (Within image (HoldsTable t))
ok_holds r t image sound holds =
    on_ok r (Within image (Holds (table_bytes t))) (Within image (HoldsTable t)) (λ all file there. table_holds t (table_bytes t) file sound (written_form t) (all file there)) holds

-- also of what reads give
pub ok_held : {T E : Type 0} (r : Result T E) (t : List JobParts) (file : List ℕ) → IsTable t → OnOk r (HasBody (table_bytes t) file) → OnOk r (IsHeld (the_table t) file)
ok_held r t file sound held = on_ok r (HasBody (table_bytes t) file) (IsHeld (the_table t) file) (λ is. has_table t (table_bytes t) file sound (written_form t) is) held

-- and of the slot that is written next
pub ok_staged : {T E : Type 0} (r : Result T E) (newest : Slot) (n : ℕ) (t : List JobParts) (body : List ℕ) (image : List ℕ → Type 0) → IsTable t → body ≡ table_bytes t
    → OnOk r (Within image (IsStaged (other newest) (n + 1) body)) → OnOk r (Within image (IsStagedTable (other newest) (n + 1) t))
ok_staged r newest n t body image sound same staged =
    on_ok r (Within image (IsStaged (other newest) (n + 1) body)) (Within image (IsStagedTable (other newest) (n + 1) t))
    (λ all file there. (sound, subst (λ (b : List ℕ). IsStaged (other newest) (n + 1) b file) same (all file there))) staged
