use Rattle.std.proofs.Common.{◌≡◌, ℕ, None, false, length, refl, sym, ◌∙◌, subst}
use Rattle.ic_term.specs.Configuration.{Configuration}
use Rattle.ic_machine.specs.Net.{pieces}
use Rattle.ic_meaning.specs.Nets.{net_of}
use Rattle.ic_in_place.specs.Counting.{TellsNameSteps}
use Rattle.ic_in_place.proofs.Answering.{come_so, retold, unread_so}
use Rattle.ic_in_place.proofs.stream.unwritten.Goals as goal

pub read_unwritten-requires : goal.read_unwritten-requires
read_unwritten-requires c = c.requires

pub returns-clause-told : goal.returns-clause-told
returns-clause-told c = λ bounds come.
    let s = c.args.system in
    let m = c.args.stopped in
    let unwritten : c.is_written.result ≡ false = cc c.if-is_written.false in
    let unread = unread_so s bounds m.given.items m.machine m.end m.by_rule.items come (sym c.is_written.ensures ∙ unwritten) in
    let answer : Configuration = net_of come.held.numbers m.machine.interface (pieces m.machine) in (
      record {
        answer = answer;
        reached = retold s bounds answer m.end m.end c.interactions.result _ m.by_rule.items m.by_rule.items refl c.interactions.ensures refl
            (come_so s bounds m.given.items m.machine m.end m.by_rule.items answer come come.held.reached unread.ended);
        name_steps = subst (λ (k : ℕ). TellsNameSteps s.rules.rules s.config k (length answer.equations) m.end None) (sym c.interactions.ensures) unread.name_steps;
        stuck = unread.stuck;
        rules = c.into_parts-rules.ensures.rules;
      },
      c.one_net_is_an_equivalence.ensures.itself answer come.held.has_names,
    )
