use Rattle.std.proofs.Common.{◌∙◌}
use Rattle.ic_frames.proofs.ReadLemmas.{reads_once, reads_then}
use Rattle.ic_frames.proofs.opening.look.Goals as goal

pub returns-in_err-first-clause-reads : goal.returns-in_err-first-clause-reads
returns-in_err-first-clause-reads g c keeps =
    let disk = g.D.Disk in
    let old = c.args.disk.now in
    let mid = c.sync.new.self in
    let keeps_once = c.sync.ensures.keeps ∙ keeps in
    let keeps_twice = c.len.ensures.keeps ∙ keeps_once in
    let sync = c.sync.ensures.syncs keeps in
    let len = c.len.ensures.unchanged keeps_once in
    let synced = reads_once disk.content disk.image disk.clock disk.left old mid (λ file left. g.met.D.Disk.left_is_image old file left) sync.same sync.images sync.time in
    let measured = reads_once disk.content disk.image disk.clock disk.left mid c.len.new.self (λ file left. g.met.D.Disk.left_is_image mid file left) len.same len.images len.time in
    reads_then disk.content disk.image disk.clock disk.left old c.len.new.self c.read_head.new.disk
    (reads_then disk.content disk.image disk.clock disk.left old mid c.len.new.self synced measured)
    (c.read_head.ensures.reads keeps_twice)

pub returns-in_err-second-clause-reads : goal.returns-in_err-second-clause-reads
returns-in_err-second-clause-reads g c keeps =
    let disk = g.D.Disk in
    let old = c.args.disk.now in
    let mid = c.sync.new.self in
    let keeps_once = c.sync.ensures.keeps ∙ keeps in
    let keeps_twice = c.len.ensures.keeps ∙ keeps_once in
    let keeps_last = c.read_head.ensures.keeps ∙ keeps_twice in
    let sync = c.sync.ensures.syncs keeps in
    let len = c.len.ensures.unchanged keeps_once in
    let synced = reads_once disk.content disk.image disk.clock disk.left old mid (λ file left. g.met.D.Disk.left_is_image old file left) sync.same sync.images sync.time in
    let measured = reads_once disk.content disk.image disk.clock disk.left mid c.len.new.self (λ file left. g.met.D.Disk.left_is_image mid file left) len.same len.images len.time in
    reads_then disk.content disk.image disk.clock disk.left old c.read_head.new.disk c.read_head-2.new.disk
    (reads_then disk.content disk.image disk.clock disk.left old c.len.new.self c.read_head.new.disk
    (reads_then disk.content disk.image disk.clock disk.left old mid c.len.new.self synced measured)
    (c.read_head.ensures.reads keeps_twice))
    (c.read_head-2.ensures.reads keeps_last)

pub returns-clause-reads : goal.returns-clause-reads
returns-clause-reads g c keeps =
    let disk = g.D.Disk in
    let old = c.args.disk.now in
    let mid = c.sync.new.self in
    let keeps_once = c.sync.ensures.keeps ∙ keeps in
    let keeps_twice = c.len.ensures.keeps ∙ keeps_once in
    let keeps_last = c.read_head.ensures.keeps ∙ keeps_twice in
    let sync = c.sync.ensures.syncs keeps in
    let len = c.len.ensures.unchanged keeps_once in
    let synced = reads_once disk.content disk.image disk.clock disk.left old mid (λ file left. g.met.D.Disk.left_is_image old file left) sync.same sync.images sync.time in
    let measured = reads_once disk.content disk.image disk.clock disk.left mid c.len.new.self (λ file left. g.met.D.Disk.left_is_image mid file left) len.same len.images len.time in
    reads_then disk.content disk.image disk.clock disk.left old c.read_head.new.disk c.read_head-2.new.disk
    (reads_then disk.content disk.image disk.clock disk.left old c.len.new.self c.read_head.new.disk
    (reads_then disk.content disk.image disk.clock disk.left old mid c.len.new.self synced measured)
    (c.read_head.ensures.reads keeps_twice))
    (c.read_head-2.ensures.reads keeps_last)
