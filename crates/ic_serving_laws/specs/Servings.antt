-- Servings of lines and other moves of a server, one after the other.
use Rattle.std.specs.Prelude.{◌≡◌, ℕ, List, [], ◌∷◌, ◌++◌, Option, Result}
use Rattle.ic_disk.specs.declared.disk.Disk.{Ghosts}
use Rattle.ic_jobs.specs.declared.command.Command.{Command}
use Rattle.ic_jobs.specs.declared.event.Entry.{Entry}
use Rattle.ic_jobs.specs.declared.reply.Reply.{Reply}
use Rattle.ic_book.specs.Entries.{command_entry}
use Rattle.ic_book.specs.declared.book.Book.{Book}
use Rattle.ic_book.specs.Book.{disk_of}
use Rattle.ic_book.specs.ByCalls.{IsByCalls}
use Rattle.ic_book.specs.Moves.{Move}
use Rattle.ic_book.specs.Server.{Server, down, up, IsFound, Runs}
use Rattle.ic_serving.specs.declared.fault.ServeFault.{ServeFault}
use Rattle.ic_serving.specs.Answered.{AreAnsweredAtOnce}
use Rattle.ic_serving.specs.InTurn.{AreAnsweredInTurn, moves_in_turn, replies_in_turn}
use Rattle.ic_serving.specs.Serving.{IsServing}
use Rattle.ic_lives.specs.Histories.{answered}
use Rattle.ic_serving_laws.specs.Served.{IsCutShort}

-- the entries of these commands with these replies
abbrev pub entries_of : List Command → List Reply → List Entry
entries_of [] replies = []
entries_of (command ∷ commands) [] = []
entries_of (command ∷ commands) (reply ∷ replies) =
    command_entry 0 command reply ∷ entries_of commands replies

-- A group of lines was answered between others: those in front of it led to the book `before`, and those
-- after it on from the book `after`.
pub record IsAnsweredBetween {D : Type 0} {ghosts : Ghosts D} (limit : ℕ) (front : List (List (List ℕ)))
    (group : List (List ℕ)) (back : List (List (List ℕ))) (first last : Book D ghosts) : Type 0 where
  pub before : Book D ghosts
  pub after : Book D ghosts
  pub bytes : List ℕ
  pub in_front : AreAnsweredInTurn limit front first before
  pub answered : AreAnsweredAtOnce limit group bytes before after
  pub later : AreAnsweredInTurn limit back after last

-- A serving is what a call of `serve_lines` says of its two books, or would say. Some of the groups of
-- lines that it answers come first, and lead to the book `answering`; the others lead on from there.
pub record Serving {D : Type 0} (ghosts : Ghosts D) : Type 0 where
  pub old : Book D ghosts
  pub new : Book D ghosts
  pub limit : ℕ
  pub most : ℕ
  pub result : Result (Unit {0}) ServeFault
  pub ls : List (List ℕ)
  pub before : Option (List ℕ)
  pub after : Option (List ℕ)
  pub serves : IsServing limit most result ls old new before after
  pub front : List (List (List ℕ))
  pub more : List (List (List ℕ))
  pub parted : serves.turns.groups ≡ front ++ more
  pub answering : Book D ghosts
  pub first_lines : AreAnsweredInTurn limit front old answering
  pub other_lines : AreAnsweredInTurn limit more answering serves.turns.between

-- A part of a run: a serving that has ended, a serving in which a stop came after its first lines, or
-- any other moves, which lead to this server.
pub data Part {D : Type 0} (ghosts : Ghosts D) : Type 0 where
  ended : Serving ghosts → Part ghosts
  stopped : Serving ghosts → (found : D) → Part ghosts
  other : List Move → Server ghosts → Part ghosts

-- These parts lead from one server to another, each from where the one before it led. The newest is
-- first.
abbrev pub ArePartsOf : {D : Type 0} {ghosts : Ghosts D}
    → List (Part ghosts) → (first last : Server ghosts) → Type 0
ArePartsOf [] first last = last ≡ first
ArePartsOf (ended s ∷ parts) first last =
    ArePartsOf parts first (up s.old) × (last ≡ up s.new)
ArePartsOf {ghosts = g} (stopped s found ∷ parts) first last =
    ArePartsOf parts first (up s.old) × IsFound g (disk_of s.answering) (disk_of s.new) found
    × (last ≡ down found)
ArePartsOf {ghosts = g} (other moves server ∷ parts) first last =
    (before : Server g) × ArePartsOf parts first before × Runs moves before server
    × (last ≡ server)

-- the moves of the first lines of a serving
abbrev pub line_moves : {D : Type 0} {ghosts : Ghosts D} → Serving ghosts → List Move
line_moves s = moves_in_turn s.limit s.front s.old s.answering s.first_lines

-- the commands of these lines with the replies that answered them, in order
abbrev pub line_replies : {D : Type 0} {ghosts : Ghosts D} → Serving ghosts → List Entry
line_replies s = replies_in_turn s.limit s.front s.old s.answering s.first_lines

-- The moves of these parts. In a serving those of its first lines come first; after them it makes
-- calls of the book, or a stop cuts these short.
abbrev pub AreMovesOf : {D : Type 0} {ghosts : Ghosts D}
    → List (Part ghosts) → List Move → Type 0
AreMovesOf [] moves = moves ≡ []
AreMovesOf (ended s ∷ parts) moves = (earlier : List Move) × AreMovesOf parts earlier
    × (later : IsByCalls s.answering s.new)
    × (moves ≡ later.moves ++ (line_moves s ++ earlier))
AreMovesOf (stopped s found ∷ parts) moves = (earlier : List Move) × AreMovesOf parts earlier
    × (later : IsByCalls s.answering s.new) × (cut : List Move) × IsCutShort later.moves cut
    × (moves ≡ cut ++ (line_moves s ++ earlier))
AreMovesOf (other more server ∷ parts) moves = (earlier : List Move) × AreMovesOf parts earlier
    × (moves ≡ more ++ earlier)

-- The commands that these parts have answered, with their replies, in order: of servings those of the
-- first lines.
abbrev pub answered_by : {D : Type 0} {ghosts : Ghosts D} → List (Part ghosts) → List Entry
answered_by [] = []
answered_by (ended s ∷ parts) = answered_by parts ++ line_replies s
answered_by (stopped s found ∷ parts) = answered_by parts ++ line_replies s
answered_by (other moves server ∷ parts) = answered_by parts ++ answered moves
