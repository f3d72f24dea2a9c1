use Rattle.std.proofs.Common.{◌≡◌, ◌==◌, ◌++◌, ◌∙◌, List, ℕ, map, sym, ap, subst}
use Rattle.std.specs.List.{flat_map, list_all}
use Rattle.ic_term.specs.Term.{pair}
use Rattle.ic_check.specs.Warnings.{pair_sides}
use Rattle.ic_check.specs.inner.Tallies.{IsTally, tallied}
use Rattle.ic_check.proofs.Idle.{apart_found}
use Rattle.ic_check.proofs.meeting.are_apart.Goals as goal

pub returns : goal.returns
returns c =
    let es = map pair c.args.equations.now in
    let sides = c.put_all_sides.new.out.items in
    let counts = c.in_ok-counts.counts in
    let all : sides ≡ flat_map pair_sides es = c.in_ok-put_all_sides.ensures ∙ ap (λ (l : List ℕ). l ++ flat_map pair_sides es) c.new-sides.ensures.items in
    let tallies : IsTally sides counts = subst (λ (l : List ℕ). IsTally l counts) c.deref.ensures.value c.in_ok-counts.ensures in
    apart_found es sides counts c.are_counted_once.result (sym c.any_joins.ensures ∙ c.if-any_joins.false) all tallies
    (c.are_counted_once.ensures ∙ ap (list_all (λ n. tallied counts n == 1)) c.deref-2.ensures.value)
