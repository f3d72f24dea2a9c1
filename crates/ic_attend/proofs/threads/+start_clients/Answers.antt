use Rattle.std.proofs.Common.{◌≡◌, List, [], ◌∷◌, ◌++◌, not, map, ap, sym, subst, ◌∙◌, vec_items, vec_len, length, ◌+◌}
use Rattle.std.proofs.lemmas.List.{map-append, length_push}
use Rattle.ic_jobs.specs.declared.command.Command.{Command}
use Rattle.std.specs.List.{All}
use Rattle.std.proofs.lemmas.Bool.{and_parts}
use Rattle.ic_attend.specs.Clients.{Follows, KeepsTo}
use Rattle.ic_attend.specs.Ends.{EndMayBe}
use Rattle.ic_attend.proofs.PartLemmas.{keeps_to, runs_more}
use Rattle.ic_attend.proofs.threads.+start_clients.Goals as goal

pub returns-clause-gathered : goal.returns-clause-gathered
returns-clause-gathered g t c =
    let old = c.start_clients-gathered.result in
    let rec = c.start_clients-gathered.ensures.gathered in
    let script = c.in-Some.script in
    let before = map vec_items c.pop.new.self.items in
    let all : map vec_items c.args.scripts.items ≡ before ++ script.items ∷ [] =
    ap (map vec_items) c.in-Some.ensures.items ∙ map-append vec_items c.pop.new.self.items (script ∷ []) in
    let run = c.hear-speech.result.run in
    let speaks = c.hear-speech.ensures in
    let same : c.of-commands.result.value.items ≡ script.items = ap (λ v. v.items) c.of-commands.ensures in
    record {
      ends = ap (λ v. length v.items) c.add_speech.ensures.ends ∙ rec.ends;
      ends_len = ap vec_len c.add_speech.ensures.ends ∙ rec.ends_len;
      may_be = subst (λ v. All (EndMayBe c.args.duty.turns c.args.duty.workers) v.items) (sym c.add_speech.ensures.ends) rec.may_be;
      answers_len = c.add_speech.ensures.len ∙ ap (λ n. n + 1) rec.answers_len ∙ sym (ap length all ∙ length_push before script.items);
      followed =
          let said : Follows script.items run = subst (λ (l : List Command). Follows l run) same speaks.follows in
          rw (all, c.add_speech.ensures.answers) (runs_more Follows before old.answers.items script.items run rec.followed said);
      runs = λ complete.
          let parts = and_parts old.complete (not c.hear-speech.result.stopped) (sym c.add_speech.ensures.complete ∙ complete) in
          let one : KeepsTo script.items run = keeps_to c.of-commands.result.value.items script.items c.hear-speech.result same speaks parts.1 in
          rw (all, c.add_speech.ensures.answers) (runs_more KeepsTo before old.answers.items script.items run (rec.runs parts.0) one);
    }
