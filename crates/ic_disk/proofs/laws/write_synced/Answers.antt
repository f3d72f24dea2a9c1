use Rattle.std.proofs.Common.{◌≡◌, ◌⊎◌, inl, inr, ⊎_elim, ◌∙◌, ℕ, List, length, Result, Ok, Err, OnErr, subst}
use Rattle.ic_disk.specs.Content.{laid}
use Rattle.ic_disk.specs.Images.{Only, Within}
use Rattle.ic_disk.specs.lemmas.ImageLaws.{within_torn}
use Rattle.ic_disk.specs.lemmas.Moments.{goes_on, started}
use Rattle.ic_disk.proofs.laws.write_synced.Goals as goal

-- what holds anyhow holds at Err
on_err : {T E : Type 0} (r : Result T E) (P : Type 0) → P → OnErr r P
on_err (Ok value) P is = tt
on_err (Err fault) P is = is

pub returns-in_err-write_at-clause-failed : goal.returns-in_err-write_at-clause-failed
returns-in_err-write_at-clause-failed g c keeps = on_err c.from_residual.result _ (inl (c.write_at.ensures.writes keeps).stay)

-- where the sync failed, what stood after the write stays or is the only image
unsynced : {T E : Type 0} (r : Result T E) (old mid new : List ℕ → Type 0) (file content : List ℕ) → Within old mid → file ≡ content
    → OnErr r (Within mid new ⊎ Only file new) → OnErr r (Within old new ⊎ Only content new)
unsynced (Ok value) old mid new file content stay same either = tt
unsynced (Err fault) old mid new file content stay same either = ⊎_elim
    (λ still. inl (λ image there. still image (stay image there)))
    (λ only. inr (subst (λ (f : List ℕ). Only f new) same only))
    either

pub returns-clause-failed : goal.returns-clause-failed
returns-clause-failed g c keeps =
    let disk = g.D.Disk in
    let old = c.args.disk.now in
    let mid = c.write_at.new.self in
    let keeps_once = c.write_at.ensures.keeps ∙ keeps in
    unsynced c.sync.result (disk.image old) (disk.image mid) (disk.image c.sync.new.self) (disk.content mid)
    (laid c.args.at c.args.bytes.now (disk.content old))
    (c.write_at.ensures.writes keeps).stay (c.in_ok-write_at.ensures.writes keeps).written (c.sync.ensures.syncs keeps_once).failed

-- the write, torn or not
pub returns-in_err-write_at-clause-any_moment : goal.returns-in_err-write_at-clause-any_moment
returns-in_err-write_at-clause-any_moment g c keeps =
    let disk = g.D.Disk in
    let old = c.args.disk.now in
    let n = length c.args.bytes.now in
    goes_on disk.clock disk.left old old c.write_at.new.self _ _
    (started disk.clock disk.left old _ (λ file left. within_torn c.args.at n (disk.image old) file (g.met.D.Disk.left_is_image old file left)))
    (c.write_at.ensures.writes keeps).time (λ file is. is)

-- and the sync after it
pub returns-clause-any_moment : goal.returns-clause-any_moment
returns-clause-any_moment g c keeps =
    let disk = g.D.Disk in
    let old = c.args.disk.now in
    let mid = c.write_at.new.self in
    let n = length c.args.bytes.now in
    goes_on disk.clock disk.left old mid c.sync.new.self _ _
    (goes_on disk.clock disk.left old old mid _ _
    (started disk.clock disk.left old _ (λ file left. within_torn c.args.at n (disk.image old) file (g.met.D.Disk.left_is_image old file left)))
    (c.write_at.ensures.writes keeps).time (λ file is. is))
    (c.sync.ensures.syncs (c.write_at.ensures.keeps ∙ keeps)).time (c.write_at.ensures.writes keeps).images
