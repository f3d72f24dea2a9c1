use Rattle.std.proofs.Common.{◌∙◌}
use Rattle.ic_kept.proofs.ReadLemmas.{reads_once, reads_then}
use Rattle.ic_kept.proofs.finding.measure.Goals as goal

pub returns-in_err-sync-clause-reads : goal.returns-in_err-sync-clause-reads
returns-in_err-sync-clause-reads g c keeps =
    let disk = g.D.Disk in
    let old = c.args.disk.now in
    let sync = c.sync.ensures.syncs keeps in
    reads_once disk.keeps disk.content disk.image disk.clock disk.left old c.sync.new.self (λ file left. g.met.D.Disk.left_is_image old file left) c.sync.ensures.keeps sync.same sync.images sync.time

pub returns-in_err-len-clause-reads : goal.returns-in_err-len-clause-reads
returns-in_err-len-clause-reads g c keeps =
    let disk = g.D.Disk in
    let old = c.args.disk.now in
    let mid = c.sync.new.self in
    let sync = c.sync.ensures.syncs keeps in
    let len = c.len.ensures.unchanged (c.sync.ensures.keeps ∙ keeps) in
    let synced = reads_once disk.keeps disk.content disk.image disk.clock disk.left old mid (λ file left. g.met.D.Disk.left_is_image old file left) c.sync.ensures.keeps sync.same sync.images sync.time in
    let measured = reads_once disk.keeps disk.content disk.image disk.clock disk.left mid c.len.new.self (λ file left. g.met.D.Disk.left_is_image mid file left) c.len.ensures.keeps len.same len.images len.time in
    reads_then disk.keeps disk.content disk.image disk.clock disk.left old mid c.len.new.self synced measured

pub returns-clause-reads : goal.returns-clause-reads
returns-clause-reads g c keeps =
    let disk = g.D.Disk in
    let old = c.args.disk.now in
    let mid = c.sync.new.self in
    let sync = c.sync.ensures.syncs keeps in
    let len = c.len.ensures.unchanged (c.sync.ensures.keeps ∙ keeps) in
    let synced = reads_once disk.keeps disk.content disk.image disk.clock disk.left old mid (λ file left. g.met.D.Disk.left_is_image old file left) c.sync.ensures.keeps sync.same sync.images sync.time in
    let measured = reads_once disk.keeps disk.content disk.image disk.clock disk.left mid c.len.new.self (λ file left. g.met.D.Disk.left_is_image mid file left) c.len.ensures.keeps len.same len.images len.time in
    reads_then disk.keeps disk.content disk.image disk.clock disk.left old mid c.len.new.self synced measured
