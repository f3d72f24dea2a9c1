use Rattle.std.proofs.Common.{◌≡◌, ◌∙◌, ℕ, ◌≤◌, List, length, sym, subst, arith}
use Rattle.ic_slots.specs.Unused.{IsFirst}
use Rattle.ic_slots.proofs.UnusedLemmas.{then-looks, whole_bytes}
use Rattle.ic_slots.proofs.unused.is_begun.Goals as goal

pub returns-clause-begun : goal.returns-clause-begun
returns-clause-begun g c keeps =
    let file = g.D.Disk.content c.args.disk.now in
    let now = g.D.Disk.content c.len.new.self in
    let stays : now ≡ file = (c.len.ensures.unchanged keeps).same in
    let long : c.in_ok-len.len ≡ length file = c.in_ok-len.ensures.length keeps in
    let long_now : c.in_ok-len.len ≡ length now = subst (λ (f : List ℕ). c.in_ok-len.len ≡ length f) (sym stays) long in
    let short : length file ≤ 4194317 = omega (arith, long) in
    let same : c.deref.result.now ≡ file =
    c.deref.ensures.value ∙ c.in_ok-bytes.ensures.bytes (c.len.ensures.keeps ∙ keeps) ∙ whole_bytes c.in_ok-len.len now long_now ∙ stays in (
      λ is. (short, subst (λ (l : List ℕ). IsFirst l) same (c.is_first.ensures.0 is)),
      λ begun. c.is_first.ensures.1 (subst (λ (l : List ℕ). IsFirst l) (sym same) begun.1),
    )

pub returns-in_err-bytes-clause-leaves : goal.returns-in_err-bytes-clause-leaves
returns-in_err-bytes-clause-leaves g c keeps =
    then-looks g.D.Disk.clock g.D.Disk.left g.D.Disk.image g.D.Disk.content c.args.disk.now c.len.new.self c.read_whole.new.disk
    (g.met.D.Disk.left_is_image c.args.disk.now) (c.len.ensures.unchanged keeps) (c.read_whole.ensures.leaves (c.len.ensures.keeps ∙ keeps))

pub returns-clause-leaves : goal.returns-clause-leaves
returns-clause-leaves g c keeps =
    then-looks g.D.Disk.clock g.D.Disk.left g.D.Disk.image g.D.Disk.content c.args.disk.now c.len.new.self c.read_whole.new.disk
    (g.met.D.Disk.left_is_image c.args.disk.now) (c.len.ensures.unchanged keeps) (c.read_whole.ensures.leaves (c.len.ensures.keeps ∙ keeps))
