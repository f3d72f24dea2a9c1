use Rattle.std.proofs.Common.{◌⊎◌, ◌∙◌, ℕ, ◌+◌, ◌<◌, ◌≤◌, List, drop, sym, ap, subst}
use Rattle.std.proofs.lemmas.Bool.{leb-true, leb-false}
use Rattle.std.proofs.lemmas.Result.{err_from_is_err_and}
use Rattle.ic_disk.specs.Content.{bytes_at}
use Rattle.ic_frames.specs.declared.found.Newest.{Newest}
use Rattle.ic_frames.specs.Places.{place}
use Rattle.ic_frames.specs.Held.{body_held}
use Rattle.ic_frames.specs.inner.Finding.{IsChosen}
use Rattle.ic_frames.proofs.FoundLemmas.{found_whole, found_spoiled, damage_answers}
use Rattle.ic_frames.proofs.ReadLemmas.{reads_then}
use Rattle.ic_frames.proofs.opening.find.Goals as goal

pub returns-in_err-whole-clause-refused : goal.returns-in_err-whole-clause-refused
returns-in_err-whole-clause-refused g c keeps =
    let file = g.D.Disk.content c.args.disk.now in
    let newest = c.in_ok-newest.newest in
    let chosen = c.in_ok-newest.ensures.chosen file (c.in_ok-len.ensures.first keeps) (c.in_ok-len.ensures.second keeps) in
    let p = err_from_is_err_and c.from_residual-in_err-whole.result c.from_residual-in_err-whole.ensures.1 in
    let damage = found_spoiled newest file chosen
    (subst (λ (n : ℕ). (3036677 < newest.head.size) ⊎ (n < place newest.slot + 13 + newest.head.size)) (c.in_ok-len.ensures.length keeps) c.in_err-whole.ensures.err) in
    rw (p.1, p.2) (damage_answers c.in_err-whole.field-0.0 (body_held file) c.in_err-whole.ensures.cause damage)

pub returns-clause-found : goal.returns-clause-found
returns-clause-found g c keeps =
    let file = g.D.Disk.content c.args.disk.now in
    let whole = c.in_ok-whole.whole in
    let size = whole.head.size in
    let long = c.in_ok-len.ensures.length keeps in
    let chosen = subst (λ (n : Newest). IsChosen n file) (sym c.in_ok-whole.ensures.same) (c.in_ok-newest.ensures.chosen file (c.in_ok-len.ensures.first keeps) (c.in_ok-len.ensures.second keeps)) in
    let within = c.in_ok-whole.ensures.ok in
    let read = c.in_ok-frame.ensures.body (c.look.ensures.keeps ∙ keeps) ∙ ap (λ (f : List ℕ). bytes_at (place whole.slot + 13) size f) (c.look.ensures.reads keeps).same in
    let both = found_whole whole file (drop 13 c.in_ok-frame.frame.items) chosen (within.0, subst (λ (n : ℕ). place whole.slot + 13 + size ≤ n) long within.1) read in
    record {
      chosen = chosen;
      whole = both.0;
      body_is = both.1;
      made = λ e. subst (λ (n : ℕ). 4194317 ≤ n) long (leb-true 4194317 c.in_ok-len.len e);
      not_made = λ e. subst (λ (n : ℕ). n < 4194317) long (leb-false 4194317 c.in_ok-len.len e);
    }

pub returns-in_err-frame-clause-reads : goal.returns-in_err-frame-clause-reads
returns-in_err-frame-clause-reads g c keeps =
    let disk = g.D.Disk in
    reads_then disk.content disk.image disk.clock disk.left c.args.disk.now c.look.new.disk c.read_frame.new.disk
    (c.look.ensures.reads keeps) (c.read_frame.ensures.reads (c.look.ensures.keeps ∙ keeps))

pub returns-clause-reads : goal.returns-clause-reads
returns-clause-reads g c keeps =
    let disk = g.D.Disk in
    reads_then disk.content disk.image disk.clock disk.left c.args.disk.now c.look.new.disk c.read_frame.new.disk
    (c.look.ensures.reads keeps) (c.read_frame.ensures.reads (c.look.ensures.keeps ∙ keeps))
