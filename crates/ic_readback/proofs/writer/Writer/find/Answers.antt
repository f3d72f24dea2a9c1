use Rattle.std.proofs.Common.{◌≡◌, ◌∙◌, ℕ, ◌<◌, Some, None, length, ap, sym, arith}
use Rattle.std.proofs.lemmas.Option.{slice_get_within, slice_get-get_or, same_Some}
use Rattle.ic_arena.specs.declared.word.Word.{Word}
use Rattle.ic_readback.specs.declared.loose.Loose.{Loose}
use Rattle.ic_readback.specs.inner.Writing.{found, key_of}
use Rattle.ic_readback.proofs.Writers.{none_some, open_found, same_at}
use Rattle.ic_readback.proofs.writer.Writer.find.Goals as goal
use Rattle.ic_readback.proofs.writer.Writer.find.Goals.{then-term-via-then-term, then-term-via-else-term+then-term-name, then-term-via-else-term+else-term-name+then-term-name-2}

pub returns-in_err-index-clause-none : goal.returns-in_err-index-clause-none
returns-in_err-index-clause-none c = λ none there.
    let at : found c.args.self.now.indices (key_of c.args.name) ≡ None = ap (found c.args.self.now.indices) (sym c.key.ensures) ∙ sym c.in_err-index.ensures.value in
    let is = open_found c.args.self.now.indices c.args.name c.args.self.now.loose.items c.requires there in
    none_some (sym at ∙ is.1)

pub returns-then-len-index-clause-none : goal.returns-then-len-index-clause-none
returns-then-len-index-clause-none c = λ none there.
    let i : ℕ = c.in_ok-index.field-0.now in
    let at : found c.args.self.now.indices (key_of c.args.name) ≡ Some i = ap (found c.args.self.now.indices) (sym c.key.ensures) ∙ sym c.in_ok-index.ensures.value in
    let is = open_found c.args.self.now.indices c.args.name c.args.self.now.loose.items c.requires there in
    let same : is.0 ≡ i = same_Some is.0 i (sym is.1 ∙ at) in
    let low = slice_get_within c.args.self.now.loose.items is.0 is.2.loose is.2.there in
    absurd (omega (arith, same, low, c.if-len-index.true, c.len.ensures, c.args.self.now.loose.ok))

pub returns-then-term-clause-none : goal.returns-then-term-clause-none
returns-then-term-clause-none c = λ none there.
    let i : ℕ = c.in_ok-index.field-0.now in
    let term : Loose = c.index-term.result.now in
    let at : found c.args.self.now.indices (key_of c.args.name) ≡ Some i = ap (found c.args.self.now.indices) (sym c.key.ensures) ∙ sym c.in_ok-index.ensures.value in
    let is = open_found c.args.self.now.indices c.args.name c.args.self.now.loose.items c.requires there in
    let same : is.2.loose ≡ term = same_at c.args.self.now.loose.items is.0 i is.2.loose term is.2.there (same_Some is.0 i (sym is.1 ∙ at)) c.index-term.ensures in
    let written = ap (λ (l : Loose). l.written) same in
    let tag = ap (λ (l : Loose). l.place.tag) same in
    let index = ap (λ (l : Loose). l.place.index) same in
    let place_tag = ap (λ (v : Word). v.tag) is.2.place in
    let place_index = ap (λ (v : Word). v.index) is.2.place in
    elim c.then-term.branch [
      | then-term-via-then-term w ↦ cc (written, is.2.unwritten, w.if-term.true)
      | then-term-via-else-term+then-term-name w ↦ omega (arith, tag, place_tag, w.if-term-name.true)
      | then-term-via-else-term+else-term-name+then-term-name-2 w ↦ omega (arith, index, place_index, w.if-term-name-2.true)
    ]

pub returns-clause-there : goal.returns-clause-there
returns-clause-there c =
    let term : Loose = c.index-term.result.now in
    let tag : term.place.tag ≡ c.args.name.tag = omega (arith, c.if-term-name.false) in
    let index : term.place.index ≡ c.args.name.index = omega (arith, c.if-term-name-2.false) in
    let low : c.in_ok-index.field-0.now < length c.args.self.now.loose.items = omega (arith, c.if-len-index.false, c.len.ensures, c.args.self.now.loose.ok) in
    record {
      loose = term;
      there = slice_get-get_or c.args.self.now.loose.items c.in_ok-index.field-0.now term low ∙ ap Some (sym c.index-term.ensures);
      unwritten = c.if-term.false;
      place = λ i. record { tag = tag i; index = index i };
    }
