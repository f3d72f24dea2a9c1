use Rattle.std.proofs.Common.{◌≡◌, ◌∙◌, ◌++◌, Global, Vec, List, ℕ, true, filter, map, sym, ap, subst}
use Rattle.std.specs.Prelude.{OnOk}
use Rattle.std.specs.List.{position}
use Rattle.std.specs.Str.{bytes_eq}
use Rattle.ic_expand.specs.Generic.{generic_rule, in_row}
use Rattle.ic_expand.specs.inner.Sheets.{is_missing, sheet_in}
use Rattle.ic_expand.proofs.AskedLemmas.{asked_fine, no_place, wanted_are}
use Rattle.ic_expand.proofs.writing.Sheet.put_rules.Goals as goal

pub returns-in-None : goal.returns-in-None
returns-in-None c =
    let sheet = sheet_in c.args.self.now in
    let g = c.args.generic.now in
    let at = sym (ap (position (bytes_eq g)) c.requires.sheet.known) ∙ sym c.place.ensures ∙ c.in-None.is in
    absurd (no_place sheet.symbols g (asked_fine sheet c.args.earlier.now c.args.kind g c.requires.asked).0 at)

pub returns-in_ok-rules-in-Some : goal.returns-in_ok-rules-in-Some
returns-in_ok-rules-in-Some c =
    let s = c.args.self.now in
    let g = c.args.generic.now in
    let earlier = c.args.earlier.now in
    let at = sym (ap (position (bytes_eq g)) c.requires.sheet.known) ∙ sym c.place.ensures ∙ c.in-Some.is in
    let fresh = (asked_fine (sheet_in s) earlier c.args.kind g c.requires.asked).1 in
    let rules = ap (λ (rs : List (Vec ℕ Global)). map (λ r. r.items) rs) c.deref.ensures.value ∙ c.in_ok-rules-in-Some.ensures
    ∙ ap (λ ts. map (generic_rule c.args.kind g) (filter (is_missing s earlier c.in-Some.place) ts)) c.requires.sheet.symbols
    ∙ ap (map (generic_rule c.args.kind g)) (wanted_are s c.requires.sheet earlier g c.in-Some.place at fresh) in
    subst (λ (rs : List (List ℕ)). OnOk c.put_in_row.result (c.put_in_row.new.out.items ≡ c.args.out.now.items ++ in_row true rs)) rules c.put_in_row.ensures
