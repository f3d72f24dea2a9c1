-- What a book keeps on its disk, as its calls change it, and what a crash in them leaves.
use Rattle.std.proofs.Common.{◌≡◌, inl, inr, ⊎_elim, ℕ, ◌≤◌, List, Bool, true, false, sym, ◌∙◌, subst}
use Rattle.std.specs.Coded.{le_prop}
use mathlib.Core.Logic.{∥∥₁_elim}
use Rattle.ic_disk.specs.Images.{Only, Within}
use Rattle.ic_disk.specs.Time.{LeavesOnly, LeftSince}
use Rattle.ic_disk.specs.lemmas.Moments.{started}
use Rattle.ic_jobs.specs.declared.event.Entry.{Entry}
use Rattle.ic_jobs.specs.Job.{JobParts}
use Rattle.ic_jobs.specs.Table.{IsTable}
use Rattle.ic_jobs.specs.History.{replay}
use Rattle.ic_frames.specs.Fields.{IsMade}
use Rattle.ic_slots.specs.Held.{HoldsTable, HoldsEitherTable, IsHeld, the_table}
use Rattle.ic_slots.specs.lemmas.OneTable.{table_or_not}
use Rattle.ic_book.specs.Kept.{IsOnDisk}
use Rattle.ic_book.specs.Left.{HoldsKeptOrAll, table_kept}
use Rattle.ic_book.specs.lemmas.OneProof.{HoldsTable-prop}

-- ---- which of two tables a file holds

-- where it holds one of the two, it can be told which
pub either_told : (a b : List JobParts) (file : List ℕ) → IsTable a → ∥ HoldsEitherTable a b file ∥₁ → HoldsEitherTable a b file
either_told a b file sound either = ⊎_elim
    (λ here. inl (record {
      made = ∥∥₁_elim either le_prop (⊎_elim (λ (h : HoldsTable a file). h.made) (λ (h : HoldsTable b file). h.made));
      held = here;
    }))
    (λ other. inr (∥∥₁_elim either (HoldsTable-prop b file)
    (⊎_elim (λ (h : HoldsTable a file). absurd (other h.held)) (λ (h : HoldsTable b file). h))))
    (table_or_not a file sound)

-- ---- what is on the disk

module _ (content : List ℕ) (image : List ℕ → Type 0) (start : List JobParts) (log : List Entry) (kept : ℕ) (broken : Bool) (is : IsOnDisk content image start log kept broken) where
  -- each image holds the table that is kept
  pub holds_now : broken ≡ false → Within image IsMade → Within image (HoldsTable (table_kept start log kept))
  holds_now ready all file there = record { made = all file there; held = is.holds ready file there }

  -- whatever entries come
  pub kept_alone : broken ≡ false → Within image IsMade → (new_log : List Entry) → table_kept start new_log kept ≡ table_kept start log kept → Within image (HoldsKeptOrAll start new_log kept)
  kept_alone ready all new_log same file there = inl (subst (λ (t : List JobParts). HoldsTable t file) (sym same) (holds_now ready all file there))

  -- what is kept stays the same table, and nothing has broken
  pub same_kept : broken ≡ false → (new_start : List JobParts) (new_log : List Entry) (new_kept : ℕ)
      → table_kept new_start new_log new_kept ≡ table_kept start log kept → IsOnDisk content image new_start new_log new_kept broken
  same_kept ready new_start new_log new_kept same = record {
    held = λ whole. subst (λ (t : List JobParts). IsHeld (the_table t) content) (sym same) (is.held whole);
    holds = λ whole file there. subst (λ (t : List JobParts). IsHeld (the_table t) file) (sym same) (is.holds whole file there);
    either = λ all file there. ∣ inl (subst (λ (t : List JobParts). HoldsTable t file) (sym same) (holds_now ready all file there)) ∣₁;
  }

  -- each image is one of the two tables
  pub either_now : IsTable (table_kept start log kept) → Within image IsMade → Within image (HoldsKeptOrAll start log kept)
  either_now sound all file there = either_told (table_kept start log kept) (replay start log) file sound (is.either all file there)

-- a table was found, which a history begins with
pub found_now : (before content : List ℕ) (image : List ℕ → Type 0) (start : List JobParts) (log : List Entry) (broken : Bool) (table : List JobParts)
    → start ≡ table → content ≡ before → IsHeld (the_table table) before → Only before image → IsOnDisk content image start log 0 broken
found_now before content image start log broken table is same held only =
    let begun : IsHeld (the_table start) before = subst (λ (t : List JobParts). IsHeld (the_table t) before) (sym is) held in
    let all : Within image (IsHeld (the_table start)) = λ file there. subst (λ (f : List ℕ). IsHeld (the_table start) f) (sym (only.no_other file there)) begun in
    record {
      held = λ _. subst (λ (f : List ℕ). IsHeld (the_table start) f) (sym same) begun;
      holds = λ _. all;
      either = λ made file there. ∣ inl (record { made = made file there; held = all file there }) ∣₁;
    }

-- a table was kept
pub kept_now : (content : List ℕ) (image : List ℕ → Type 0) (start : List JobParts) (log : List Entry) (kept : ℕ) (broken : Bool) (table : List JobParts)
    → table_kept start log kept ≡ table → IsHeld (the_table table) content → Within image (HoldsTable table) → IsOnDisk content image start log kept broken
kept_now content image start log kept broken table same held holds =
    let all = subst (λ (t : List JobParts). Within image (HoldsTable t)) (sym same) holds in record {
      held = λ _. subst (λ (t : List JobParts). IsHeld (the_table t) content) (sym same) held;
      holds = λ _ file there. (all file there).held;
      either = λ _ file there. ∣ inl (all file there) ∣₁;
    }

-- a keep has failed
pub keep_failed : (content : List ℕ) (image : List ℕ → Type 0) (start : List JobParts) (log : List Entry) (kept : ℕ) (broken : Bool)
    → broken ≡ true → (Within image IsMade → Within image (HoldsKeptOrAll start log kept)) → IsOnDisk content image start log kept broken
keep_failed content image start log kept broken broke either = record {
  held = λ whole. let never : true ≡ false = sym broke ∙ whole in cc;
  holds = λ whole. let never : true ≡ false = sym broke ∙ whole in cc;
  either = λ all file there. ∣ either all file there ∣₁;
}

-- a keep of the table after all entries, of which there may be new ones: what each image holds
pub keep_holds : (images new_images : List ℕ → Type 0) (start : List JobParts) (log new_log : List Entry) (kept : ℕ) (table : List JobParts)
    → table_kept start new_log kept ≡ table_kept start log kept → replay start new_log ≡ table → Within images (IsHeld (the_table (table_kept start log kept)))
    → ((t : List JobParts) → Within images (IsHeld (the_table t)) → Within new_images (HoldsEitherTable t table)) → Within new_images (HoldsKeptOrAll start new_log kept)
keep_holds images new_images start log new_log kept table same all holds run =
    subst (λ (t : List JobParts). Within new_images (HoldsEitherTable t (replay start new_log))) (sym same)
    (subst (λ (t : List JobParts). Within new_images (HoldsEitherTable (table_kept start log kept) t)) (sym all) (run (table_kept start log kept) holds))

-- ---- what a crash leaves

module _ {D : Type 0} (clock : D → ℕ) (left : D → ℕ → List ℕ → Type 0) (image : D → List ℕ → Type 0) where
  -- where no call was made
  pub no_call : (disk : D) (P : List ℕ → Type 0) → ((file : List ℕ) → LeftSince (left disk) (clock disk) file → image disk file) → Within (image disk) P → LeavesOnly clock left disk disk P
  no_call disk P law here = started clock left disk P (λ file is. here file (law file is))

  -- at the end of a run that leaves tables each image is made
  pub made_after : (old new : D) (start : List JobParts) (log : List Entry) (kept : ℕ) → ((file : List ℕ) → clock old ≤ clock new → image new file → LeftSince (left new) (clock old) file)
      → LeavesOnly clock left old new (HoldsKeptOrAll start log kept) → Within (image new) IsMade
  made_after old new start log kept law run file there = ⊎_elim
      (λ (h : HoldsTable (table_kept start log kept) file). h.made) (λ (h : HoldsTable (replay start log) file). h.made)
      (run.each file (law file run.later there))

-- and what a crash in it leaves
pub keep_leaves : {D : Type 0} (clock : D → ℕ) (left : D → ℕ → List ℕ → Type 0) (old new : D) (images : List ℕ → Type 0) (start : List JobParts) (log new_log : List Entry) (kept : ℕ) (table : List JobParts)
    → table_kept start new_log kept ≡ table_kept start log kept → replay start new_log ≡ table → Within images (HoldsTable (table_kept start log kept))
    → ((t : List JobParts) → Within images (HoldsTable t) → LeavesOnly clock left old new (HoldsEitherTable t table)) → LeavesOnly clock left old new (HoldsKeptOrAll start new_log kept)
keep_leaves clock left old new images start log new_log kept table same all holds run =
    subst (λ (t : List JobParts). LeavesOnly clock left old new (HoldsEitherTable t (replay start new_log))) (sym same)
    (subst (λ (t : List JobParts). LeavesOnly clock left old new (HoldsEitherTable (table_kept start log kept) t)) (sym all) (run (table_kept start log kept) holds))
