-- Lines that were answered one after the other, and the moves that they made.
use Rattle.std.specs.Prelude.{◌≡◌, ◌≤◌, ℕ, List, [], ◌∷◌, ◌++◌, Ok, Err, flat_map, length}
use Rattle.std.specs.List.{AllByRecursion}
use Rattle.ic_disk.specs.declared.disk.Disk.{Ghosts}
use Rattle.ic_commands.specs.declared.line.Line.TheVariants.{Blank, Command, Run}
use Rattle.ic_lines.specs.Answers.{Reading}
use Rattle.ic_book.specs.declared.book.Book.{Book}
use Rattle.ic_jobs.specs.declared.event.Entry.{Entry}
use Rattle.ic_book.specs.Entries.{command_entry}
use Rattle.ic_book.specs.Moves.{Move}
use Rattle.ic_book.specs.ByCalls.{IsByCalls}
use Rattle.ic_jobs.specs.declared.command.Command.{Command as Asked}
use Rattle.ic_serving.specs.Answered.{AreAnsweredAtOnce, by_group, by_line, AreTaken, IsDoneFor}

-- the calls of a book by which a line was done
abbrev pub calls_for : {D : Type 0} {ghosts : Ghosts D} (reading : Reading) (bytes : List ℕ)
    (old new : Book D ghosts) → IsDoneFor reading bytes old new → IsByCalls old new
calls_for (Ok Blank) bytes old new done = done
calls_for (Ok (Command command)) bytes old new done = done.made.done
calls_for (Ok (Run count)) bytes old new done = done.done
calls_for (Err fault) bytes old new done = done

-- the command that a line was, with the reply that answered it
abbrev pub reply_for : {D : Type 0} {ghosts : Ghosts D} (reading : Reading) (bytes : List ℕ)
    (old new : Book D ghosts) → IsDoneFor reading bytes old new → List Entry
reply_for (Ok Blank) bytes old new done = []
reply_for (Ok (Command command)) bytes old new done = command_entry 0 command done.reply ∷ []
reply_for (Ok (Run count)) bytes old new done = []
reply_for (Err fault) bytes old new done = []

-- ---- of commands that are taken

-- the calls by which they were taken, the newest first
abbrev pub moves_taken : {D : Type 0} {ghosts : Ghosts D} (commands : List Asked) (bytes : List ℕ)
    (first last : Book D ghosts) → AreTaken commands bytes first last → List Move
moves_taken [] bytes first last taken = taken.2.moves
moves_taken (command ∷ commands) bytes first last taken =
    moves_taken commands taken.2 taken.0 last taken.5 ++ taken.4.done.moves

-- the commands with the replies that they are answered, in order
abbrev pub replies_taken : {D : Type 0} {ghosts : Ghosts D} (commands : List Asked) (bytes : List ℕ)
    (first last : Book D ghosts) → AreTaken commands bytes first last → List Entry
replies_taken [] bytes first last taken = []
replies_taken (command ∷ commands) bytes first last taken =
    command_entry 0 command taken.4.reply ∷ replies_taken commands taken.2 taken.0 last taken.5

-- ---- of lines that are answered at once

-- their moves, the newest first: those of a group end with its keep
abbrev pub moves_at_once : {D : Type 0} {ghosts : Ghosts D} (limit : ℕ) (ls : List (List ℕ)) (bytes : List ℕ)
    (old new : Book D ghosts) → AreAnsweredAtOnce limit ls bytes old new → List Move
moves_at_once limit ls bytes old new (by_line line one is) =
    (calls_for is.reading bytes old new is.done).moves
moves_at_once limit ls bytes old new (by_group group) = group.kept.done.moves
    ++ moves_taken group.commands bytes old group.between group.taken

-- the commands that they were, with the replies that answered them, in order
abbrev pub replies_at_once : {D : Type 0} {ghosts : Ghosts D} (limit : ℕ) (ls : List (List ℕ)) (bytes : List ℕ)
    (old new : Book D ghosts) → AreAnsweredAtOnce limit ls bytes old new → List Entry
replies_at_once limit ls bytes old new (by_line line one is) =
    reply_for is.reading bytes old new is.done
replies_at_once limit ls bytes old new (by_group group) =
    replies_taken group.commands bytes old group.between group.taken

-- ---- of groups

-- These groups of lines were answered over a book, one after the other, each at once.
abbrev pub AreAnsweredInTurn : {D : Type 0} {ghosts : Ghosts D} → (limit : ℕ)
    → List (List (List ℕ)) → (first last : Book D ghosts) → Type 0
AreAnsweredInTurn limit [] first last = last ≡ first
AreAnsweredInTurn {D} {ghosts} limit (group ∷ groups) first last =
    (next : Book D ghosts) × (bytes : List ℕ) × AreAnsweredAtOnce limit group bytes first next
    × AreAnsweredInTurn limit groups next last

-- their moves, the newest first
abbrev pub moves_in_turn : {D : Type 0} {ghosts : Ghosts D} (limit : ℕ) (groups : List (List (List ℕ)))
    (first last : Book D ghosts) → AreAnsweredInTurn limit groups first last → List Move
moves_in_turn limit [] first last turns = []
moves_in_turn limit (group ∷ groups) first last turns = moves_in_turn limit groups turns.0 last turns.3
    ++ moves_at_once limit group turns.1 first turns.0 turns.2

-- the commands of these lines with the replies that answered them, in order
abbrev pub replies_in_turn : {D : Type 0} {ghosts : Ghosts D} (limit : ℕ) (groups : List (List (List ℕ)))
    (first last : Book D ghosts) → AreAnsweredInTurn limit groups first last → List Entry
replies_in_turn limit [] first last turns = []
replies_in_turn limit (group ∷ groups) first last turns =
    replies_at_once limit group turns.1 first turns.0 turns.2
    ++ replies_in_turn limit groups turns.0 last turns.3

-- These lines were answered in turn, in groups of at most so many, and all that was done after them is
-- calls of the book.
pub record AreServedInTurn {D : Type 0} {ghosts : Ghosts D} (limit most : ℕ) (ls : List (List ℕ))
    (old new : Book D ghosts) : Type 0 where
  pub groups : List (List (List ℕ))
  pub parted : ls ≡ flat_map (λ group. group) groups
  pub small : AllByRecursion (λ group. length group ≤ most) groups
  pub between : Book D ghosts
  pub answered : AreAnsweredInTurn limit groups old between
  pub after : IsByCalls between new
