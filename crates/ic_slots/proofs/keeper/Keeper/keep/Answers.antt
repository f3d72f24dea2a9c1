use Rattle.std.proofs.Common.{◌≡◌, ◌∙◌, List, ℕ, inl, drop, ap, subst}
use Rattle.ic_codec.specs.Tables.{table_bytes}
use Rattle.ic_frames.specs.Crashes.{CrashInKeeping}
use Rattle.ic_frames.specs.Held.{HasBody, Holds, HoldsEither}
use Rattle.ic_frames.specs.Keeping.{WritesSlot}
use Rattle.ic_slots.specs.Held.{HoldsEitherTable}
use Rattle.ic_slots.proofs.TableLemmas.{sound_of, either_table, ok_holds, ok_held, written_form}
use Rattle.ic_slots.proofs.FormLemmas.{leaves_form, images_form}
use Rattle.ic_slots.proofs.keeper.Keeper.keep.Goals as goal

pub returns-clause-slot : goal.returns-clause-slot
returns-clause-slot g c =
    let laid : drop 13 c.deref_mut.result.now ≡ table_bytes c.args.table.now = ap (λ (l : List ℕ). drop 13 l) c.deref_mut.ensures.value ∙ c.lay.ensures.body in
    subst (λ (b : List ℕ). WritesSlot b c.keep.result c.args.self.now.frames c.keep.new.self) laid c.keep.ensures.slot

pub returns-clause-crash : goal.returns-clause-crash
returns-clause-crash g c =
    let disk = g.D.Disk in
    let old = c.args.self.now.frames in
    let new = c.keep.new.self in
    let next = c.args.table.now in
    let fault = c.keep.ensures.fault in
    let one = c.one_body_is_kept.ensures in
    let now = g.met.D.Disk.content_is_image old.disk in
    let laid : drop 13 c.deref_mut.result.now ≡ table_bytes next = ap (λ (l : List ℕ). drop 13 l) c.deref_mut.ensures.value ∙ c.lay.ensures.body in
    let crash = subst (λ (b : List ℕ). CrashInKeeping Holds HasBody b c.keep.result old new) laid c.keep.ensures.crash in
    record {
      keeps = crash.keeps;
      any_moment = λ kept keeps holds.
          leaves_form c.keep.result old new fault one keeps now (g.met.D.Disk.left_is_image old.disk) kept (λ (body : List ℕ). HoldsEither body (table_bytes next)) (HoldsEitherTable kept next) holds
          (λ body all. crash.any_moment body keeps all)
          (λ body file form is. either_table kept next body (table_bytes next) file (sound_of kept (disk.image old.disk) (disk.content old.disk) now holds) c.lay.ensures.sound
          form (written_form next) is)
          (λ file is. inl is);
      either_if_made = λ kept keeps has made.
          images_form c.keep.result old new fault one keeps now kept (λ (body : List ℕ). HoldsEither body (table_bytes next)) (HoldsEitherTable kept next) has
          (λ body all. crash.either_if_made body keeps all made)
          (λ body file form is. either_table kept next body (table_bytes next) file (has (disk.content old.disk) now).0 c.lay.ensures.sound form (written_form next) is)
          (λ file there is. inl (record { made = made file there; held = is }));
      holds = λ keeps. ok_holds c.keep.result next (disk.image new.disk) c.lay.ensures.sound (crash.holds keeps);
      held = λ keeps. ok_held c.keep.result next (disk.content new.disk) c.lay.ensures.sound (crash.held keeps);
      newest = crash.newest;
    }

pub returns-clause-bodies : goal.returns-clause-bodies
returns-clause-bodies g c =
    let laid : drop 13 c.deref_mut.result.now ≡ table_bytes c.args.table.now = ap (λ (l : List ℕ). drop 13 l) c.deref_mut.ensures.value ∙ c.lay.ensures.body in
    subst (λ (b : List ℕ). CrashInKeeping Holds HasBody b c.keep.result c.args.self.now.frames c.keep.new.self) laid c.keep.ensures.crash
