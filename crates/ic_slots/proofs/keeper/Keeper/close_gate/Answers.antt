use Rattle.std.proofs.Common.{ℕ, List}
use Rattle.ic_frames.specs.Held.{HasBody, Holds}
use Rattle.ic_slots.specs.Held.{HasTable, HoldsTable}
use Rattle.ic_slots.proofs.TableLemmas.{has_table, table_holds, sound_of}
use Rattle.ic_slots.proofs.FormLemmas.{leaves_form, images_form}
use Rattle.ic_slots.proofs.keeper.Keeper.close_gate.Goals as goal

pub returns-clause-crash : goal.returns-clause-crash
returns-clause-crash g c =
    let disk = g.D.Disk in
    let old = c.args.self.now.frames in
    let new = c.close_gate.new.self in
    let fault = c.close_gate.ensures.fault in
    let one = c.one_body_is_kept.ensures in
    let now = g.met.D.Disk.content_is_image old.disk in
    let crash = c.close_gate.ensures.crash in
    record {
      keeps = crash.keeps;
      any_moment = λ kept keeps holds.
          leaves_form c.close_gate.result old new fault one keeps now (g.met.D.Disk.left_is_image old.disk) kept (λ (body : List ℕ). Holds body) (HoldsTable kept) holds
          (λ body all. crash.any_moment body keeps all)
          (λ body file form is. table_holds kept body file (sound_of kept (disk.image old.disk) (disk.content old.disk) now holds) form is) (λ file is. is);
      shut = crash.shut;
      stays = λ kept keeps has.
          images_form c.close_gate.result old new fault one keeps now kept (λ (body : List ℕ). HasBody body) (HasTable kept) has
          (λ body all. crash.stays body keeps all) (λ body file form is. has_table kept body file (has (disk.content old.disk) now).0 form is) (λ file there is. is);
    }
