use Rattle.std.proofs.Common.{◌≡◌, ◌∙◌, List, [], ℕ, Vec, Global, if◌then◌else◌, sym, ap, subst}
use Rattle.std.specs.Option.{option_map}
use Rattle.ic_streams.specs.Stuck.{stuck_text}
use Rattle.ic_flat.specs.Flat.{configuration_of}
use Rattle.ic_in_place.specs.declared.running.End.TheVariants.{Quiet}
use Rattle.ic_in_place.specs.Reductions.{is_written}
use Rattle.ic_rules.specs.RuleSet.{Rules}
use Rattle.ic_streams.specs.Streams.{line_of}
use Rattle.ic_term.specs.Symbol.{Symbol}
use Rattle.ic_keeping.specs.inner.Pieces.{IsPrinted}
use Rattle.ic_keeping.proofs.going.end_of.Goals as goal

pub line_of-requires : goal.line_of-requires
line_of-requires c = subst (λ (ss : List Symbol). IsPrinted ss c.args.state c.args.run.equations) (sym (c.symbols-symbols.ensures.symbols ∙ ap (λ (r : Rules). r.symbols) c.deref.ensures)) c.requires

pub stuck_of-requires : goal.stuck_of-requires
stuck_of-requires c = subst (λ (ss : List Symbol). IsPrinted ss c.args.state c.args.run.equations) (sym (c.symbols-symbols.ensures.symbols ∙ ap (λ (r : Rules). r.symbols) c.deref.ensures)) c.requires

pub circle_of-requires : goal.circle_of-requires
circle_of-requires c = subst (λ (ss : List Symbol). IsPrinted ss c.args.state c.args.run.equations) (sym (c.symbols-symbols.ensures.symbols ∙ ap (λ (r : Rules). r.symbols) c.deref.ensures)) c.requires

pub returns-clause-told : goal.returns-clause-told
returns-clause-told c s rules =
    let symbols : c.symbols-symbols.result.now ≡ s.rules.symbols = c.symbols-symbols.ensures.symbols ∙ ap (λ (r : Rules). r.symbols) (c.deref.ensures ∙ rules) in
    let reached = configuration_of c.args.state.words.items c.args.state.terms 0 in
    record {
      rules = rules;
      line = subst (λ (ss : List Symbol). c.in_ok-line.line.items ≡ if is_written c.args.asked c.args.run.end then line_of ss reached else []) symbols c.in_ok-line.ensures.line;
      stuck = subst (λ (ss : List Symbol). c.args.run.end ≡ Quiet → option_map (λ (text : Vec ℕ Global). text.items) c.in_ok-stuck.stuck ≡ stuck_text ss reached) symbols
          c.in_ok-stuck.ensures.stuck;
      unstuck = c.in_ok-stuck.ensures.unstuck;
    }
