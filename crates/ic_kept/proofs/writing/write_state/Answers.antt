use Rattle.std.proofs.Common.{◌∙◌, ◌^◌, ◌<◌, length, refl, arith}
use Rattle.ic_kept.specs.Sheet.{IsAfterGate, IsShut}
use Rattle.ic_kept.proofs.SheetLemmas.{laid_after}
use Rattle.ic_kept.proofs.WriteLemmas.{shut_run, images_after, run_then, of_only}
use Rattle.ic_kept.proofs.writing.write_state.Goals as goal

pub returns-in_err-write_synced-clause-any_moment : goal.returns-in_err-write_synced-clause-any_moment
returns-in_err-write_synced-clause-any_moment g c keeps all =
    let disk = g.D.Disk in
    shut_run disk.content disk.image disk.clock disk.left 17 (length c.args.state.now) c.args.disk.now c.write_synced.new.disk (omega arith) all (c.write_synced.ensures.any_moment keeps)

pub returns-in_err-write_synced-2-clause-any_moment : goal.returns-in_err-write_synced-2-clause-any_moment
returns-in_err-write_synced-2-clause-any_moment g c keeps all =
    let disk = g.D.Disk in
    let old = c.args.disk.now in
    let one = c.write_synced.new.disk in
    let two = c.write_synced-2.new.disk in
    let first = shut_run disk.content disk.image disk.clock disk.left 17 (length c.args.state.now) old one (omega arith) all (c.write_synced.ensures.any_moment keeps) in
    let shut = images_after disk.content disk.image disk.clock disk.left old one IsShut first (λ file later there. g.met.D.Disk.image_is_left one (disk.clock old) file later there) in
    run_then disk.content disk.image disk.clock disk.left old one two IsShut first
    (shut_run disk.content disk.image disk.clock disk.left 9 _ one two (omega arith) shut (c.write_synced-2.ensures.any_moment (c.write_synced.ensures.keeps ∙ keeps)))

pub returns-in_err-write_synced-3-clause-any_moment : goal.returns-in_err-write_synced-3-clause-any_moment
returns-in_err-write_synced-3-clause-any_moment g c keeps all =
    let disk = g.D.Disk in
    let old = c.args.disk.now in
    let one = c.write_synced.new.disk in
    let two = c.write_synced-2.new.disk in
    let three = c.write_synced-3.new.disk in
    let first = shut_run disk.content disk.image disk.clock disk.left 17 (length c.args.state.now) old one (omega arith) all (c.write_synced.ensures.any_moment keeps) in
    let shut = images_after disk.content disk.image disk.clock disk.left old one IsShut first (λ file later there. g.met.D.Disk.image_is_left one (disk.clock old) file later there) in
    let second = run_then disk.content disk.image disk.clock disk.left old one two IsShut first
    (shut_run disk.content disk.image disk.clock disk.left 9 _ one two (omega arith) shut (c.write_synced-2.ensures.any_moment (c.write_synced.ensures.keeps ∙ keeps))) in
    let still = images_after disk.content disk.image disk.clock disk.left old two IsShut second (λ file later there. g.met.D.Disk.image_is_left two (disk.clock old) file later there) in
    run_then disk.content disk.image disk.clock disk.left old two three IsShut second
    (shut_run disk.content disk.image disk.clock disk.left 1 _ two three (omega arith) still (c.write_synced-3.ensures.any_moment (c.write_synced-2.ensures.keeps ∙ c.write_synced.ensures.keeps ∙ keeps)))

pub returns-clause-any_moment : goal.returns-clause-any_moment
returns-clause-any_moment g c keeps all =
    let disk = g.D.Disk in
    let old = c.args.disk.now in
    let one = c.write_synced.new.disk in
    let two = c.write_synced-2.new.disk in
    let three = c.write_synced-3.new.disk in
    let first = shut_run disk.content disk.image disk.clock disk.left 17 (length c.args.state.now) old one (omega arith) all (c.write_synced.ensures.any_moment keeps) in
    let shut = images_after disk.content disk.image disk.clock disk.left old one IsShut first (λ file later there. g.met.D.Disk.image_is_left one (disk.clock old) file later there) in
    let second = run_then disk.content disk.image disk.clock disk.left old one two IsShut first
    (shut_run disk.content disk.image disk.clock disk.left 9 _ one two (omega arith) shut (c.write_synced-2.ensures.any_moment (c.write_synced.ensures.keeps ∙ keeps))) in
    let still = images_after disk.content disk.image disk.clock disk.left old two IsShut second (λ file later there. g.met.D.Disk.image_is_left two (disk.clock old) file later there) in
    run_then disk.content disk.image disk.clock disk.left old two three IsShut second
    (shut_run disk.content disk.image disk.clock disk.left 1 _ two three (omega arith) still (c.write_synced-3.ensures.any_moment (c.write_synced-2.ensures.keeps ∙ c.write_synced.ensures.keeps ∙ keeps)))

pub returns-clause-shut : goal.returns-clause-shut
returns-clause-shut g c keeps all =
    let disk = g.D.Disk in
    let old = c.args.disk.now in
    let three = c.write_synced-3.new.disk in
    images_after disk.content disk.image disk.clock disk.left old three IsShut (returns-clause-any_moment g c keeps all)
    (λ file later there. g.met.D.Disk.image_is_left three (disk.clock old) file later there)

pub returns-clause-after : goal.returns-clause-after
returns-clause-after g c keeps all =
    let disk = g.D.Disk in
    let old = c.args.disk.now in
    let file = disk.content old in
    let once = c.write_synced.ensures.keeps ∙ keeps in
    let twice = c.write_synced-2.ensures.keeps ∙ once in
    let short : length c.args.state.now < 2 ^ 64 = omega arith in
    let fits : c.args.number < 2 ^ 64 = omega arith in
    of_only (IsAfterGate c.args.number c.args.state.now) _ (disk.image c.write_synced-3.new.disk) (c.in_ok-write_synced-3.ensures.durable twice)
    (laid_after c.args.number c.args.state.now _ _ file (disk.content c.write_synced.new.disk) (disk.content c.write_synced-2.new.disk) _ fits short (all file (g.met.D.Disk.content_is_image old)).made
    (c.in_ok-write_synced.ensures.written keeps) c.to_be_bytes.ensures (c.in_ok-write_synced-2.ensures.written once) c.to_be_bytes-2.ensures refl)
