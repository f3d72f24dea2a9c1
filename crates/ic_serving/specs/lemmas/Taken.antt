-- What commands are answered that are taken in turn, and what they leave.
use Rattle.std.proofs.Common.{◌≡◌, ℕ, List, [], ◌∷◌, ◌++◌, Ok, map, ap, ap₂, ◌∙◌}
use Rattle.ic_disk.specs.declared.disk.Disk.{Ghosts}
use Rattle.ic_jobs.specs.Job.{JobParts}
use Rattle.ic_jobs.specs.declared.command.Command.{Command}
use Rattle.ic_commands.specs.declared.line.Line.TheVariants.{Command as Asks}
use Rattle.ic_lines.specs.Answers.{after, out}
use Rattle.ic_book.specs.declared.book.Book.{Book}
use Rattle.ic_book.specs.Book.{table_of}
use Rattle.ic_serving.specs.Answered.{AreTaken}

pub taken_out : {D : Type 0} {ghosts : Ghosts D} (cs : List Command) (bytes : List ℕ) (first last : Book D ghosts) → AreTaken cs bytes first last
    → (bytes ≡ out (table_of first) (map (λ (c : Command). Ok (Asks c)) cs)) × (table_of last ≡ after (table_of first) (map (λ (c : Command). Ok (Asks c)) cs))
taken_out [] bytes first last x = (x.0, x.1)
taken_out (c ∷ cs) bytes first last x =
    let rest = taken_out cs x.2 x.0 last x.5 in
    let rs = map (λ (d : Command). Ok (Asks d)) cs in (
      x.3 ∙ ap₂ (λ (a b : List ℕ). a ++ b) x.4.answer (rest.0 ∙ ap (λ (t : List JobParts). out t rs) x.4.table),
      rest.1 ∙ ap (λ (t : List JobParts). after t rs) x.4.table,
    )
