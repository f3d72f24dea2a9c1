use Rattle.std.proofs.Common.{◌≡◌, true, false, arith, sym, ap, ◌∙◌}
use Rattle.std.proofs.lemmas.Bool.{ne_eqb}
use Rattle.ic_jobs.specs.declared.command.Command.{Command}
use Rattle.ic_jobs.specs.declared.event.Event.TheVariants.{Command as by_command}
use Rattle.ic_jobs.specs.declared.reply.Reply.{Reply}
use Rattle.ic_attend.proofs.Exact.{command_of, next_own}
use Rattle.ic_attend.proofs.PartLemmas.{one_more_own, one_more_other, answer_to-round, answer_to-other}
use Rattle.ic_attend.proofs.comparing.is_part.Goals as goal
use Rattle.ic_attend.proofs.comparing.is_part.Goals.{then-entry-who+then-not-is_round+else-given-answers+else-not-is_answer, else-entry-who, else-entry-who-via-then-entry-who+else-not-is_round, else-entry-who-via-else-entry-who, then-given-answers-via-then-given-answers, then-given-answers-via-else-given-answers+then-not-is_answer}

pub loop-entry-preserved : goal.loop-entry-preserved
loop-entry-preserved c =
    let who = c.args.who in
    let es = c.args.entries.now in
    let answers = c.args.answers.now in
    let i = c.loop-entry.entry-index in
    let given = c.loop-entry.given in
    let e = c.entry-item.result in
    let so = c.loop-entry.invariant.1 in
    elim c.if-entry-who.branch [
      | then-entry-who+then-not-is_round+else-given-answers+else-not-is_answer w ↦
          let a = w.index-answers-given.result in
          let told = w.is_answer.ensures.0 w.if-not-is_answer.false in
          rw w.given-is (
            omega (arith, w.if-given-answers.false),
            one_more_own who es answers i given e a c.loop-entry-test.true c.entry-item.is w.if-entry-who.true w.if-given-answers.false w.index-answers-given.is told.0 told.1 so,
          )
      | else-entry-who w ↦ rw w.given-is (
        c.loop-entry.invariant.0,
        elim w.else-entry-who.branch [
          | else-entry-who-via-then-entry-who+else-not-is_round w' ↦
              one_more_other who es answers i given e c.loop-entry-test.true c.entry-item.is (answer_to-round who e (sym w'.is_round.ensures ∙ w'.if-not-is_round.false)) so
          | else-entry-who-via-else-entry-who w' ↦
              one_more_other who es answers i given e c.loop-entry-test.true c.entry-item.is (answer_to-other who e (ne_eqb _ _ w'.if-entry-who.false)) so
        ],
      )
    ]

pub returns-then-given-answers : goal.returns-then-given-answers
returns-then-given-answers c = (
  λ no. absurd (let it : false ≡ true = no in cc),
  λ whole.
      let who = c.args.who in
      let es = c.args.entries.now in
      let answers = c.args.answers.now in
      let i = c.loop-entry.entry-index in
      let given = c.loop-entry.given in
      let e = c.entry-item.result in
      let so = c.loop-entry.invariant in
      let of = command_of e.event (sym c.is_round.ensures ∙ c.if-not-is_round.true) in
      let next = next_own who es answers i given e of.0 c.loop-entry-test.true c.entry-item.is c.if-entry-who.true of.1 so.0 so.1 whole in
      elim c.then-given-answers.branch [
        | then-given-answers-via-then-given-answers w ↦ absurd (omega (arith, w.if-given-answers.true, next.0))
        | then-given-answers-via-else-given-answers+then-not-is_answer w ↦
            let a = w.index-answers-given.result in
            let same : a ≡ (of.0, e.reply) = w.index-answers-given.is ∙ next.1 a in
            let yes : w.is_answer.result ≡ true =
            w.is_answer.ensures.1 (
              of.1 ∙ ap (λ (p : Command × Reply). by_command p.0) (sym same),
              ap (λ (p : Command × Reply). p.1) (sym same),
            ) in
            absurd (let no : true ≡ false = sym yes ∙ w.if-not-is_answer.true in cc)
      ],
)
