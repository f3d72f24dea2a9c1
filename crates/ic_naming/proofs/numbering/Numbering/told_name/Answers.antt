use Rattle.std.proofs.Common.{◌≡◌, ℕ, false, get_or, rules, sym, ap, ◌∙◌}
use Rattle.std.proofs.lemmas.Option.{unwrap_or-slice_get}
use Rattle.ic_naming.specs.inner.Numbering.{is_listed_kept}
use Rattle.ic_naming.proofs.numbering.Numbering.told_name.Goals as goal

pub returns : goal.returns
returns c =
    let n = c.args.self.now in
    let unkept : is_listed_kept n.listed c.args.name ≡ false = sym c.is_kept.ensures ∙ c.if-is_kept.false in
    let spare : c.unwrap_or.result ≡ get_or n.spare.items c.place-place.result 0 = search (rules, unwrap_or-slice_get) in
    rw unkept (spare ∙ ap (λ (k : ℕ). get_or n.spare.items k 0) c.place-place.ensures)
