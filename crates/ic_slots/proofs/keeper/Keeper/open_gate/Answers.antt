use Rattle.std.proofs.Common.{ℕ, ◌+◌, List, inl}
use Rattle.ic_codec.specs.Tables.{table_bytes}
use Rattle.ic_frames.specs.Places.{other}
use Rattle.ic_frames.specs.Held.{HoldsEither}
use Rattle.ic_slots.specs.Held.{HoldsEitherTable}
use Rattle.ic_slots.proofs.TableLemmas.{bytes_staged, sound_of, either_table, ok_holds, written_form}
use Rattle.ic_slots.proofs.FormLemmas.{leaves_form}
use Rattle.ic_slots.proofs.keeper.Keeper.open_gate.Goals as goal

pub returns-clause-crash : goal.returns-clause-crash
returns-clause-crash g c =
    let disk = g.D.Disk in
    let frames = c.args.self.now.frames in
    let old = frames.disk in
    let new = c.open_gate.new.self in
    let now = g.met.D.Disk.content_is_image old in
    let crash = c.open_gate.ensures.crash in
    record {
      keeps = crash.keeps;
      any_moment = λ kept next keeps holds staged.
          leaves_form c.open_gate.result frames new c.open_gate.ensures.fault c.one_body_is_kept.ensures keeps now (g.met.D.Disk.left_is_image old)
          kept (λ (body : List ℕ). HoldsEither body (table_bytes next)) (HoldsEitherTable kept next) holds
          (λ body all. crash.any_moment body (table_bytes next) keeps all (bytes_staged (other frames.newest) (frames.number + 1) next (disk.image old) staged))
          (λ body file form is. either_table kept next body (table_bytes next) file (sound_of kept (disk.image old) (disk.content old) now holds) (staged (disk.content old) now).0
          form (written_form next) is)
          (λ file is. inl is);
      holds = λ next keeps staged.
          ok_holds c.open_gate.result next (disk.image new.disk) (staged (disk.content old) now).0
          (crash.holds (table_bytes next) keeps (bytes_staged (other frames.newest) (frames.number + 1) next (disk.image old) staged));
      newest = crash.newest;
    }
