use Rattle.std.proofs.Common.{◌≡◌, ◌<◌, ◌==◌, true, false, length, get_or, sym, ◌∙◌, arith}
use Rattle.std.proofs.lemmas.Grind.{common_steps}
use Rattle.ic_term.specs.Configuration.{occurrences}
use Rattle.ic_rules.proofs.RenamingLemmas.{list_all-here, list_all-more}
use Rattle.ic_rules.proofs.renaming.are_paired.Goals as goal

pub returns-then-unwrap_or-ne2 : goal.returns-then-unwrap_or-ne2
returns-then-unwrap_or-ne2 c =
    let names = c.args.names.now in
    let i = c.loop-name.name-index in
    let counted = c.in_ok-counts.ensures (get_or names i 0) in
    let within : i < length names = omega arith in
    let no : (occurrences (get_or names i 0) names == 2) ≡ false = grind (arith, common_steps, counted) in
    sym (list_all-here (λ n. occurrences n names == 2) names i within no) ∙ c.loop-name.invariant

pub loop-name-preserved : goal.loop-name-preserved
loop-name-preserved c =
    let names = c.args.names.now in
    let i = c.loop-name.name-index in
    let counted = c.in_ok-counts.ensures (get_or names i 0) in
    let within : i < length names = omega arith in
    let yes : (occurrences (get_or names i 0) names == 2) ≡ true = grind (arith, common_steps, counted) in
    sym (list_all-more (λ n. occurrences n names == 2) names i within yes) ∙ c.loop-name.invariant
