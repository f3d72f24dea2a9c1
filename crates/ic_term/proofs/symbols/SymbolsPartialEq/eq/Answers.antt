use Rattle.std.proofs.Common.{◌+◌, ◌<◌, ◌&&◌, length, drop, ap, sym, ◌∙◌, arith}
use Rattle.std.specs.Cmp.Lexicographic.{pointwise}
use Rattle.ic_term.specs.Symbol.{symbol_eq}
use Rattle.ic_term.proofs.SymbolLemmas.{pointwise-drop}
use Rattle.ic_term.proofs.symbols.SymbolsPartialEq.eq.Goals as goal

pub returns-then-not-has_same : goal.returns-then-not-has_same
returns-then-not-has_same c =
    let ss = c.args.self.now in
    let ts = c.args.other.now in
    let i = c.loop-sym.sym in
    let here : i < length ss = omega arith in
    let there : i < length ts = omega arith in
    let rest = pointwise symbol_eq (drop (i + 1) ss) (drop (i + 1) ts) in
    sym (ap (λ b. b && rest) c.if-not-has_same.true)
    ∙ sym (pointwise-drop symbol_eq ss ts i c.has_same.result here there c.has_same.ensures) ∙ c.loop-sym.invariant.0

pub loop-sym-preserved : goal.loop-sym-preserved
loop-sym-preserved c =
    let ss = c.args.self.now in
    let ts = c.args.other.now in
    let i = c.loop-sym.sym in
    let here : i < length ss = omega arith in
    let there : i < length ts = omega arith in
    let rest = pointwise symbol_eq (drop (i + 1) ss) (drop (i + 1) ts) in (
      sym (ap (λ b. b && rest) c.if-not-has_same.false)
          ∙ sym (pointwise-drop symbol_eq ss ts i c.has_same.result here there c.has_same.ensures) ∙ c.loop-sym.invariant.0,
      c.loop-sym.invariant.1,
    )
