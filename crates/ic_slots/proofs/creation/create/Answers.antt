use Rattle.std.proofs.Common.{◌≡◌, inl, ◌-◌, ◌++◌, List, ℕ, [], length, take, drop, ap, subst, ◌∙◌, arith}
use Rattle.std.proofs.lemmas.List.{drop_at, length-replicate}
use Rattle.std.specs.Prelude.{replicate}
use Rattle.ic_codec.specs.Tables.{table_bytes}
use Rattle.ic_disk.specs.Time.{LeavesOnly}
use Rattle.ic_disk.specs.lemmas.ImageLaws.{torn_same}
use Rattle.ic_disk.specs.lemmas.Moments.{started}
use Rattle.ic_frames.specs.Creation.{writes_of_create, IsInOneOf, IsTornBy, KeepPace}
use Rattle.ic_slots.proofs.creation.create.Goals as goal

-- what is written after a head of zeros is the body
laid_body : (out head bytes old : List ℕ) (n : ℕ) → out ≡ head ++ bytes → head ≡ take 13 old ++ replicate (13 - n) 0 → old ≡ [] → n ≡ 0 → drop 13 out ≡ bytes
laid_body out head bytes old n is filled none len =
    let some : length (take 13 old ++ replicate (13 - n) 0) ≡ length {A = ℕ} (replicate (13 - n) 0) = ap (λ (l : List ℕ). length (take 13 l ++ replicate (13 - n) 0)) none in
    let long : length head ≡ 13 = omega (arith, ap length filled, some, length-replicate {A = ℕ} (13 - n) 0, len) in
    ap (λ (l : List ℕ). drop 13 l) is ∙ drop_at head bytes 13 long

pub returns-in_err-frame-clause-ordered : goal.returns-in_err-frame-clause-ordered
returns-in_err-frame-clause-ordered g c keeps =
    let disk = g.D.Disk in
    let old = c.args.disk.now in
    started disk.clock disk.left old (IsInOneOf IsTornBy (writes_of_create (table_bytes [])) (disk.content old) (disk.image old))
    (λ file left. inl (file, g.met.D.Disk.left_is_image old file left, torn_same 4194304 13 file))

pub returns-in_err-resize-clause-ordered : goal.returns-in_err-resize-clause-ordered
returns-in_err-resize-clause-ordered g c keeps =
    let disk = g.D.Disk in
    let old = c.args.disk.now in
    started disk.clock disk.left old (IsInOneOf IsTornBy (writes_of_create (table_bytes [])) (disk.content old) (disk.image old))
    (λ file left. inl (file, g.met.D.Disk.left_is_image old file left, torn_same 4194304 13 file))

pub returns-in_err-create-clause-ordered : goal.returns-in_err-create-clause-ordered
returns-in_err-create-clause-ordered g c keeps =
    let disk = g.D.Disk in
    let old = c.args.disk.now in
    let body : drop 13 c.deref_mut.result.now ≡ table_bytes [] =
    ap (λ (l : List ℕ). drop 13 l) c.deref_mut.ensures.value
    ∙ laid_body c.encode_into-2.new.out.items c.resize.new.self.items (table_bytes c.new.result) c.in_ok-frame.frame.items c.in_ok-frame.frame.len
    c.encode_into-2.ensures.bytes c.in_ok-resize.ensures.items c.in_ok-frame.ensures.items c.in_ok-frame.ensures.len
    ∙ ap table_bytes c.new.ensures in
    subst (λ (b : List ℕ). LeavesOnly disk.clock disk.left old c.create.new.disk (IsInOneOf IsTornBy (writes_of_create b) (disk.content old) (disk.image old))) body
    (c.create.ensures.ordered keeps)

pub returns-clause-ordered : goal.returns-clause-ordered
returns-clause-ordered g c keeps =
    let disk = g.D.Disk in
    let old = c.args.disk.now in
    let body : drop 13 c.deref_mut.result.now ≡ table_bytes [] =
    ap (λ (l : List ℕ). drop 13 l) c.deref_mut.ensures.value
    ∙ laid_body c.encode_into-2.new.out.items c.resize.new.self.items (table_bytes c.new.result) c.in_ok-frame.frame.items c.in_ok-frame.frame.len
    c.encode_into-2.ensures.bytes c.in_ok-resize.ensures.items c.in_ok-frame.ensures.items c.in_ok-frame.ensures.len
    ∙ ap table_bytes c.new.ensures in
    subst (λ (b : List ℕ). LeavesOnly disk.clock disk.left old c.create.new.disk (IsInOneOf IsTornBy (writes_of_create b) (disk.content old) (disk.image old))) body
    (c.create.ensures.ordered keeps)

pub returns-clause-paced : goal.returns-clause-paced
returns-clause-paced g c keeps =
    let disk = g.D.Disk in
    let old = c.args.disk.now in
    let body : drop 13 c.deref_mut.result.now ≡ table_bytes [] =
    ap (λ (l : List ℕ). drop 13 l) c.deref_mut.ensures.value
    ∙ laid_body c.encode_into-2.new.out.items c.resize.new.self.items (table_bytes c.new.result) c.in_ok-frame.frame.items c.in_ok-frame.frame.len
    c.encode_into-2.ensures.bytes c.in_ok-resize.ensures.items c.in_ok-frame.ensures.items c.in_ok-frame.ensures.len
    ∙ ap table_bytes c.new.ensures in
    subst (λ (b : List ℕ). KeepPace (disk.left c.create.new.disk) (disk.clock old) (writes_of_create b) (disk.content old) (disk.image old)) body
    (c.in_ok-create.ensures.paced keeps)
