use Rattle.std.proofs.Common.{◌≡◌, ◌∙◌, List, ℕ, drop, ap, subst}
use Rattle.ic_codec.specs.Tables.{table_bytes}
use Rattle.ic_frames.specs.Crashes.{CrashInWriting}
use Rattle.ic_frames.specs.Held.{HasBody, Holds}
use Rattle.ic_frames.specs.Staged.{IsStaged}
use Rattle.ic_frames.specs.Keeping.{WritesBody}
use Rattle.ic_slots.specs.Held.{HoldsTable}
use Rattle.ic_slots.proofs.TableLemmas.{sound_of, table_holds, ok_staged}
use Rattle.ic_slots.proofs.FormLemmas.{leaves_form, images_form}
use Rattle.ic_slots.proofs.keeper.Keeper.write_body.Goals as goal

pub returns-clause-writes : goal.returns-clause-writes
returns-clause-writes g c =
    let laid : drop 13 c.deref_mut.result.now ≡ table_bytes c.args.table.now = ap (λ (l : List ℕ). drop 13 l) c.deref_mut.ensures.value ∙ c.lay.ensures.body in
    subst (λ (b : List ℕ). WritesBody b c.write_body.result c.args.self.now.frames c.write_body.new.self) laid c.write_body.ensures.writes

pub returns-clause-crash : goal.returns-clause-crash
returns-clause-crash g c =
    let disk = g.D.Disk in
    let old = c.args.self.now.frames in
    let new = c.write_body.new.self in
    let fault = c.write_body.ensures.fault in
    let one = c.one_body_is_kept.ensures in
    let now = g.met.D.Disk.content_is_image old.disk in
    let crash = c.write_body.ensures.crash in
    let laid : drop 13 c.deref_mut.result.now ≡ table_bytes c.args.table.now = ap (λ (l : List ℕ). drop 13 l) c.deref_mut.ensures.value ∙ c.lay.ensures.body in
    record {
      keeps = crash.keeps;
      any_moment = λ kept keeps holds.
          leaves_form c.write_body.result old new fault one keeps now (g.met.D.Disk.left_is_image old.disk) kept (λ (body : List ℕ). Holds body) (HoldsTable kept) holds
          (λ body all. crash.any_moment body keeps all)
          (λ body file form is. table_holds kept body file (sound_of kept (disk.image old.disk) (disk.content old.disk) now holds) form is) (λ file is. is);
      whole = λ keeps. ok_staged c.write_body.result new.newest new.number c.args.table.now (drop 13 c.deref_mut.result.now) (disk.image new.disk) c.lay.ensures.sound laid (crash.whole keeps);
      made = crash.made;
      holds_if_made = λ kept keeps has made.
          images_form c.write_body.result old new fault one keeps now kept (λ (body : List ℕ). Holds body) (HoldsTable kept) has
          (λ body all. crash.holds_if_made body keeps all made)
          (λ body file form is. table_holds kept body file (has (disk.content old.disk) now).0 form is) (λ file there is. record { made = made file there; held = is });
    }

pub returns-clause-bodies : goal.returns-clause-bodies
returns-clause-bodies g c =
    let laid : drop 13 c.deref_mut.result.now ≡ table_bytes c.args.table.now = ap (λ (l : List ℕ). drop 13 l) c.deref_mut.ensures.value ∙ c.lay.ensures.body in
    subst (λ (b : List ℕ). CrashInWriting Holds HasBody IsStaged b c.write_body.result c.args.self.now.frames c.write_body.new.self) laid c.write_body.ensures.crash
