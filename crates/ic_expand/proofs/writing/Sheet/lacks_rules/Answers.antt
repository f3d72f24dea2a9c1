use Rattle.std.proofs.Common.{◌∙◌, true, false, sym, ap}
use Rattle.std.specs.List.{list_any, position}
use Rattle.std.specs.Str.{bytes_eq}
use Rattle.ic_expand.specs.inner.Sheets.{is_missing, sheet_in}
use Rattle.ic_expand.proofs.AskedLemmas.{lack_again, lack_wanted, no_place}
use Rattle.ic_expand.proofs.writing.Sheet.lacks_rules.Goals as goal

pub returns-then-has : goal.returns-then-has
returns-then-has c = lack_again (sheet_in c.args.self.now) c.args.earlier.now c.args.generic.now (sym c.has.ensures ∙ c.if-has.true)

pub returns-in-None : goal.returns-in-None
returns-in-None c =
    let g = c.args.generic.now in
    let at = sym (ap (position (bytes_eq g)) c.requires.sheet.known) ∙ sym c.place.ensures ∙ c.in-None.is in
    absurd (no_place (sheet_in c.args.self.now).symbols g c.requires.known at)

pub returns-then-wants_some : goal.returns-then-wants_some
returns-then-wants_some c =
    let s = c.args.self.now in
    let g = c.args.generic.now in
    let earlier = c.args.earlier.now in
    let at = sym (ap (position (bytes_eq g)) c.requires.sheet.known) ∙ sym c.place.ensures ∙ c.in-Some.is in
    let some = ap (list_any (is_missing s earlier c.in-Some.place)) (sym c.requires.sheet.symbols) ∙ sym c.wants_some.ensures ∙ c.if-wants_some.true in
    lack_wanted s c.requires.sheet earlier g c.in-Some.place at (sym c.has.ensures ∙ c.if-has.false) true some

pub returns-else-wants_some : goal.returns-else-wants_some
returns-else-wants_some c =
    let s = c.args.self.now in
    let g = c.args.generic.now in
    let earlier = c.args.earlier.now in
    let at = sym (ap (position (bytes_eq g)) c.requires.sheet.known) ∙ sym c.place.ensures ∙ c.in-Some.is in
    let some = ap (list_any (is_missing s earlier c.in-Some.place)) (sym c.requires.sheet.symbols) ∙ sym c.wants_some.ensures ∙ c.if-wants_some.false in
    lack_wanted s c.requires.sheet earlier g c.in-Some.place at (sym c.has.ensures ∙ c.if-has.false) false some
