use Rattle.std.proofs.Common.{inl, refl, arith}
use Rattle.ic_kept.proofs.keeper.Keeper.made.Goals as goal

pub returns-clause-opened : goal.returns-clause-opened
returns-clause-opened g c = λ state keeps keeps_too newest shut.
    let disk = g.D.Disk in
    let met = g.met.D.Disk in
    let beside = shut (disk.content c.args.second) (met.content_is_image c.args.second) in record {
      held = (
        1,
        inl (record {
          newest = newest (disk.content c.args.first) (met.content_is_image c.args.first);
          older = record { made = beside.made; older = λ opened. absurd (beside.shut opened) };
        }),
      );
      model = (keeps, keeps_too);
      keeps = record { newest = newest; beside = shut };
      reads = inl (
        record {
          keeps = refl;
          same = refl;
          images = λ file left. left;
          leaves = record { later = omega arith; each = met.left_is_image c.args.first; before = λ t file early left. left };
        },
        record {
          keeps = refl;
          same = refl;
          images = λ file left. left;
          leaves = record { later = omega arith; each = met.left_is_image c.args.second; before = λ t file early left. left };
        },
      );
    }
