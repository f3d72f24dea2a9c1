use Rattle.std.proofs.Common.{◌≡◌, ℕ, true, false, sym, subst, ◌∙◌, inr}
use Rattle.ic_book.specs.Book.{log_of}
use Rattle.ic_attend.specs.Parts.{AreOfClients}
use Rattle.ic_attend.proofs.Exact.{agrees_of}
use Rattle.ic_attend.proofs.PartLemmas.{runs_counted}
use Rattle.ic_attend.proofs.attending.attend_book.Goals as goal

pub returns-clause-history : goal.returns-clause-history
returns-clause-history g c =
    let history = c.facts.ensures.history in
    let agrees = (c.is_borne_out.ensures.0 c.if-not-is_borne_out.false).0 in
    let gathered = c.gather-gathered.ensures in
    let runs = gathered.runs c.if-not-is_complete.false in
    let clients = agrees.clients in
    record {
      legal = history.legal;
      replayed = history.replayed;
      clients = subst (λ (n : ℕ). AreOfClients n (log_of c.finish.result)) (runs_counted _ _ runs) clients;
      answers = agrees.answers;
      after = agrees.after;
      failed = agrees.failed;
      scripts_kept = runs;
      counted = gathered.ends;
      ends = agrees.ends;
    }

pub returns-then-not-is_borne_out-clause-torn : goal.returns-then-not-is_borne_out-clause-torn
returns-then-not-is_borne_out-clause-torn g c =
    let gathered = c.gather-gathered.ensures in
    inr (record {
      scripts_kept = gathered.runs c.if-not-is_complete.false;
      counted = gathered.ends;
      may_be = gathered.may_be;
      differs = λ start history told.
          let yes : c.is_borne_out.result ≡ true = c.is_borne_out.ensures.1 (agrees_of _ _ _ _ _ start history, told) in
          let no : true ≡ false = sym yes ∙ c.if-not-is_borne_out.true in
          cc;
    })
