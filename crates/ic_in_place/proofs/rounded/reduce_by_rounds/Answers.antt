use Rattle.std.proofs.Common.{◌≡◌, ℕ, List, subst, sym}
use Rattle.ic_in_place.specs.Rounds.{HasRounded}
use Rattle.ic_in_place.specs.Told.{RoundOver}
use Rattle.ic_in_place.specs.lemmas.ByRounds.{told_so}
use Rattle.ic_in_place.proofs.MadeRounds.{all_may}
use Rattle.ic_in_place.proofs.rounded.reduce_by_rounds.Goals as goal

pub stopped_line-requires : goal.stopped_line-requires
stopped_line-requires g c = (c.in_ok-stopped.ensures.made.2.bounds, c.in_ok-stopped.ensures.made.2.come)

pub returns-clause-line : goal.returns-clause-line
returns-clause-line g c =
    let P : List ℕ → List RoundOver → Type 0 = λ numbers told. g.S.Rows.tells c.in-Ok.found numbers c.args.rows.now c.round_system.new.rows
    (g.W.Write.contents c.args.writer.now) (g.W.Write.contents c.round_system.new.writer) told in
    let any = c.in_ok-stopped.ensures.made in
    let most : any.0 ≡ c.args.bounds.rounds = all_may c.args.bounds.rounds any.0 c.in_ok-stopped.stopped.machine.interactions any.1 in
    let made = subst (λ (n : ℕ). (rounded : HasRounded c.in-Ok.found n c.in_ok-stopped.rounds c.in_ok-stopped.stopped.given.items c.in_ok-stopped.stopped.by_rule.items
    c.in_ok-stopped.stopped.machine c.in_ok-stopped.stopped.end) × P rounded.come.rule_numbers rounded.ends.told) most (any.2, any.4) in
    let of = c.in_ok-line.ensures.of made.0.bounds made.0.come in
    let told = told_so P c.in-Ok.found c.args.bounds.rounds c.in_ok-stopped.rounds c.in_ok-stopped.stopped.given.items c.in_ok-stopped.stopped.machine c.args.asked
    c.in_ok-line.outcome c.in_ok-line.line.items c.in_ok-stopped.stopped.by_rule.items c.in_ok-line.outcome.by_rule.items c.in_ok-stopped.stopped.end c.in_ok-line.outcome.end
    (sym c.in_ok-line.ensures.by_rule) (sym c.in_ok-line.ensures.end) (made.0, of.0, of.1, made.1) in (
      record {
        system = c.in-Ok.found;
        reads = c.in-Ok.ensures.read;
        given = c.in_ok-stopped.stopped.given.items;
        machine = c.in_ok-stopped.stopped.machine;
        taken = c.in_ok-stopped.rounds;
        rounded = told.0;
        ends = told.1;
        net = told.2;
        count = c.rounds_made-rounds.ensures;
      },
      told.3,
    )
