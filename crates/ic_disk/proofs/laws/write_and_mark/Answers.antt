use Rattle.std.proofs.Common.{inl, inr, ℕ, List, length, ◌∙◌, subst}
use Rattle.ic_disk.specs.Images.{Torn}
use Rattle.ic_disk.proofs.AgreeLemmas.{torn_once, torn_twice, agrees_settled}
use Rattle.ic_disk.specs.lemmas.Moments.{leaves_weaker, then_runs}
use Rattle.ic_disk.proofs.laws.write_and_mark.Goals as goal

pub returns-clause-any_moment : goal.returns-clause-any_moment
returns-clause-any_moment g c keeps =
    let disk = g.D.Disk in
    let old = c.args.disk.now in
    let mid = c.write_synced.new.disk in
    let n = length c.args.bytes.now in
    let first = c.write_synced.ensures.any_moment keeps in
    let second = c.write_synced-2.ensures.any_moment (c.write_synced.ensures.keeps ∙ keeps) in
    then_runs disk.clock disk.left old mid c.write_synced-2.new.disk _ _
    (leaves_weaker disk.clock disk.left old mid _ _ first (torn_once c.args.at n c.args.mark_at 1 (disk.image old)))
    second
    (torn_twice c.args.at n c.args.mark_at 1 (disk.image old) (disk.image mid) (λ file image. first.each file (g.met.D.Disk.image_is_left mid (disk.clock old) file first.later image)))

pub returns-clause-settled : goal.returns-clause-settled
returns-clause-settled g c keeps only =
    let disk = g.D.Disk in
    leaves_weaker disk.clock disk.left c.args.disk.now c.write_synced-2.new.disk _ _ (returns-clause-any_moment g c keeps)
    (agrees_settled c.args.at (length c.args.bytes.now) c.args.mark_at 1 (disk.content c.args.disk.now) (disk.image c.args.disk.now) only)

pub returns-clause-ordered : goal.returns-clause-ordered
returns-clause-ordered g c keeps =
    let disk = g.D.Disk in
    let old = c.args.disk.now in
    let mid = c.write_synced.new.disk in
    let only = c.in_ok-write_synced.ensures.durable keeps in
    then_runs disk.clock disk.left old mid c.write_synced-2.new.disk _ _
    (leaves_weaker disk.clock disk.left old mid _ _ (c.write_synced.ensures.any_moment keeps) (λ file torn. inl torn))
    (c.write_synced-2.ensures.any_moment (c.write_synced.ensures.keeps ∙ keeps))
    (λ file torn. inr (subst (λ (image : List ℕ). Torn c.args.mark_at 1 image file) (only.no_other torn.0 torn.1) torn.2))

-- where the first write failed
pub returns-in_err-write_synced-clause-any_moment : goal.returns-in_err-write_synced-clause-any_moment
returns-in_err-write_synced-clause-any_moment g c keeps =
    let disk = g.D.Disk in
    leaves_weaker disk.clock disk.left c.args.disk.now c.write_synced.new.disk _ _ (c.write_synced.ensures.any_moment keeps)
    (torn_once c.args.at (length c.args.bytes.now) c.args.mark_at 1 (disk.image c.args.disk.now))

pub returns-in_err-write_synced-clause-settled : goal.returns-in_err-write_synced-clause-settled
returns-in_err-write_synced-clause-settled g c keeps only =
    let disk = g.D.Disk in
    leaves_weaker disk.clock disk.left c.args.disk.now c.write_synced.new.disk _ _ (returns-in_err-write_synced-clause-any_moment g c keeps)
    (agrees_settled c.args.at (length c.args.bytes.now) c.args.mark_at 1 (disk.content c.args.disk.now) (disk.image c.args.disk.now) only)

pub returns-in_err-write_synced-clause-ordered : goal.returns-in_err-write_synced-clause-ordered
returns-in_err-write_synced-clause-ordered g c keeps =
    let disk = g.D.Disk in
    leaves_weaker disk.clock disk.left c.args.disk.now c.write_synced.new.disk _ _ (c.write_synced.ensures.any_moment keeps) (λ file torn. inl torn)
