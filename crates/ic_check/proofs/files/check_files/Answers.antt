use Rattle.std.proofs.Common.{◌∷◌, [], List, ℕ, refl, subst}
use Rattle.std.specs.Prelude.{string_bytes}
use Rattle.ic_check.specs.Files.{LooksOver}
use Rattle.ic_check.proofs.Looks.{over_more}
use Rattle.ic_check.proofs.Written.{grows_more, grows_none}
use Rattle.ic_check.proofs.files.check_files.Goals as goal

pub loop-path-init : goal.loop-path-init
loop-path-init g c = record {
  looked = record { each = []; found = tt; together = refl };
  grows = grows_none (g.W.Write.contents c.args.writer.now);
}

pub returns-in_err-verdict-clause-grows : goal.returns-in_err-verdict-clause-grows
returns-in_err-verdict-clause-grows g c =
    grows_more (g.W.Write.contents c.args.writer.now) (g.W.Write.contents c.loop-path.writer) (g.W.Write.contents c.check_file.new.writer) c.loop-path.invariant.grows c.in_err-verdict.ensures.grows

pub loop-path-preserved : goal.loop-path-preserved
loop-path-preserved g c =
    let Gives = g.S.Source.gives c.args.source.now in
    let path = c.path-item.result in
    let verdict = c.in_ok-verdict.verdict in
    let here : LooksOver Gives (string_bytes path ∷ []) verdict = subst (λ (p : List ℕ). LooksOver Gives (p ∷ []) verdict) c.as_str.ensures.value c.in_ok-verdict.ensures.looked in
    record {
      looked = rw c.worse-worst.ensures
          (over_more Gives string_bytes c.args.paths.now c.loop-path.path-index path c.loop-path.worst verdict c.loop-path-test.true c.path-item.is
          c.loop-path.invariant.looked here);
      grows = grows_more (g.W.Write.contents c.args.writer.now) (g.W.Write.contents c.loop-path.writer) (g.W.Write.contents c.check_file.new.writer) c.loop-path.invariant.grows c.in_ok-verdict.ensures.grows;
    }
