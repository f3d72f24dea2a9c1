use Rattle.std.proofs.Common.{◌⊎◌, inl, ◌+◌, refl, arith}
use Rattle.std.proofs.lemmas.Result.{err_from_is_err_and}
use Rattle.ic_disk.specs.lemmas.Moments.{started, leaves_weaker}
use Rattle.ic_kept.specs.Held.{HoldEither}
use Rattle.ic_kept.specs.Sheet.{IsNewest, IsOlder}
use Rattle.ic_kept.proofs.SheetLemmas.{beside_older}
use Rattle.ic_kept.proofs.HeldLemmas.{either_left, newest_below}
use Rattle.ic_kept.proofs.keeper.Keeper.keep.Goals as goal

pub returns-in_err-check_usable-clause-crash : goal.returns-in_err-check_usable-clause-crash
returns-in_err-check_usable-clause-crash g c =
    let disk = g.D.Disk in
    let old = c.args.self.now in
    let e = err_from_is_err_and c.from_residual.result c.from_residual.ensures.1 in
    rw e.1 (record {
      spared = refl;
      any_moment = λ state model keeps a there. started disk.clock disk.left old.other (HoldEither old.number state c.args.state.now a)
          (λ file left. either_left old.number state c.args.state.now a file (keeps.newest a there)
          (inl (beside_older old.closed old.number file (keeps.beside file (g.met.D.Disk.left_is_image old.other file left)))));
      kept = λ state model keeps. tt;
    })

pub returns-in_err-write_beside-clause-crash : goal.returns-in_err-write_beside-clause-crash
returns-in_err-write_beside-clause-crash g c =
    let disk = g.D.Disk in
    let old = c.args.self.now in
    let new = c.write_beside.new.disk in
    let e = err_from_is_err_and c.from_residual-in_err-write_beside.result c.from_residual-in_err-write_beside.ensures.1 in
    rw e.1 (record {
      spared = refl;
      any_moment = λ state model keeps a there. leaves_weaker disk.clock disk.left old.other new
          (λ file. IsOlder old.number file ⊎ IsNewest (old.number + 1) c.args.state.now file) (HoldEither old.number state c.args.state.now a)
          (c.write_beside.ensures.any_moment old.number model.1 keeps.beside)
          (λ file is. either_left old.number state c.args.state.now a file (keeps.newest a there) is);
      kept = λ state model keeps. tt;
    })

pub returns-clause-crash : goal.returns-clause-crash
returns-clause-crash g c =
    let disk = g.D.Disk in
    let old = c.args.self.now in
    let new = c.write_beside.new.disk in
    record {
      spared = c.swap.ensures.y_after;
      any_moment = λ state model keeps a there. rw c.swap.ensures.x_after (leaves_weaker disk.clock disk.left old.other new
          (λ file. IsOlder old.number file ⊎ IsNewest (old.number + 1) c.args.state.now file) (HoldEither old.number state c.args.state.now a)
          (c.write_beside.ensures.any_moment old.number model.1 keeps.beside)
          (λ file is. either_left old.number state c.args.state.now a file (keeps.newest a there) is));
      kept = λ state model keeps. record {
        newest = rw c.swap.ensures.x_after (c.in_ok-write_beside.ensures.written old.number model.1 keeps.beside);
        beside = rw c.swap.ensures.y_after (λ file there. newest_below old.number state file (keeps.newest file there));
      };
    }

pub returns-in_err-check_usable-clause-calls : goal.returns-in_err-check_usable-clause-calls
returns-in_err-check_usable-clause-calls g c =
    let e = err_from_is_err_and c.from_residual.result c.from_residual.ensures.1 in
    rw e.1 (omega arith)

pub returns-in_err-check_usable-clause-few_calls : goal.returns-in_err-check_usable-clause-few_calls
returns-in_err-check_usable-clause-few_calls g c closed =
    let e = err_from_is_err_and c.from_residual.result c.from_residual.ensures.1 in
    rw e.1 (omega arith)

pub returns-in_err-write_beside-clause-calls : goal.returns-in_err-write_beside-clause-calls
returns-in_err-write_beside-clause-calls g c =
    let e = err_from_is_err_and c.from_residual-in_err-write_beside.result c.from_residual-in_err-write_beside.ensures.1 in
    rw e.1 c.write_beside.ensures.calls

pub returns-in_err-write_beside-clause-few_calls : goal.returns-in_err-write_beside-clause-few_calls
returns-in_err-write_beside-clause-few_calls g c closed =
    let e = err_from_is_err_and c.from_residual-in_err-write_beside.result c.from_residual-in_err-write_beside.ensures.1 in
    rw e.1 (c.write_beside.ensures.few_calls closed)

pub returns-clause-calls : goal.returns-clause-calls
returns-clause-calls g c = rw c.swap.ensures.x_after c.write_beside.ensures.calls

pub returns-clause-few_calls : goal.returns-clause-few_calls
returns-clause-few_calls g c closed = rw c.swap.ensures.x_after (c.write_beside.ensures.few_calls closed)
