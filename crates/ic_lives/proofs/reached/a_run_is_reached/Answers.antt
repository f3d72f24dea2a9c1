use Rattle.std.proofs.Common.{ℕ, List, refl, sym, subst, arith}
use Rattle.ic_disk.specs.History.{History, clock_of, content_of, image_of}
use Rattle.ic_lives.proofs.MemLemmas.{image_now}
use Rattle.ic_book.specs.Book.{disk_of}
use Rattle.ic_book.specs.Server.{down, up}
use Rattle.ic_lives.proofs.reached.a_run_is_reached.Goals as goal

pub returns : goal.returns
returns c =
    let book = c.command.new.self in
    let found = c.in-Ok-crash.found in
    let here = subst (λ (disk : History). image_of disk (content_of found)) c.close.ensures.step.same c.in-Ok-crash.ensures.image in (
      c.in-Ok-command._reply,
      record {
        disk = c.create.new.disk;
        keeps = refl;
        created = c.in-Ok.ensures.holds refl;
        runs = (
          down found,
          (
            up book,
            (up c.in-Ok-open.book, (down c.create.new.disk, refl, c.in-Ok-open.ensures.step), c.in-Ok-command.ensures.step.answered),
            (
              up book,
              c.facts.ensures.step,
              record {
                keeps = refl;
                moment = clock_of (disk_of book);
                since = omega arith;
                left = λ file image. image_now (disk_of book) file
                    (subst (λ (f : List ℕ). image_of (disk_of book) f) (sym (c.in-Ok-crash.ensures.settled.no_other file image)) here);
              },
            ),
          ),
          c.in-Ok-open-2.ensures.step,
        );
      },
    )
