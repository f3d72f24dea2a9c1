use Rattle.std.proofs.Common.{◌≡◌, ◌∙◌, ⊎_elim, inl, inr, List, ℕ, OnOk, subst}
use Rattle.ic_disk.specs.Fuse.{torn_bytes}
use Rattle.ic_disk.specs.Model.{write_of}
use Rattle.ic_disk.specs.History.{with_call, with_failure}
use Rattle.ic_disk.proofs.FuseLemmas.{either}
use Rattle.ic_disk.proofs.fuse.tear.Goals as goal

pub returns-in-Ok : goal.returns-in-Ok
returns-in-Ok c =
    let old = c.args.disk.now in
    let new = c.write_at.new.self in
    let same : c.deref.result.now ≡ torn_bytes c.args.n c.args.bytes.now = c.deref.ensures.value ∙ c.in-Ok.ensures in
    let made = subst (λ (bytes : List ℕ). OnOk c.write_at.result (new ≡ with_call (write_of c.args.at bytes) old)) same c.write_at.ensures.ok in
    ⊎_elim (λ done. inl done) (λ failed. inr (inr failed))
    (either c.write_at.result (new ≡ with_call (write_of c.args.at (torn_bytes c.args.n c.args.bytes.now)) old) (new ≡ with_failure old) made c.write_at.ensures.err)
