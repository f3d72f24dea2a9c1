-- The moves of a server. The commands of all clients and the rounds of all jobs are one list of
-- moves. This project's choice.
use Rattle.std.specs.Prelude.{ℕ, List, [], ◌∷◌, Bool, true, false, Result, Ok, Err}
use Rattle.ic_jobs.specs.declared.command.Command.{Command}
use Rattle.ic_jobs.specs.declared.event.Entry.{Entry}
use Rattle.ic_jobs.specs.declared.landed.Landed.{Landed}
use Rattle.ic_jobs.specs.declared.landed.Landed.TheVariants.{Moved, Stale}
use Rattle.ic_jobs.specs.declared.reply.Reply.{Reply}
use Rattle.ic_frames.specs.declared.faults.OpenCause.{OpenCause}
use Rattle.ic_book.specs.Entries.{command_entry, round_entry}

-- One move of a server:
-- - the disk is opened, or the opening is refused;
-- - a command is answered, or the disk fails at it, and nobody is told the reply;
-- - a command is taken, and what it is answered isn't told before a later move keeps it;
-- - a round is landed, or its job is halted;
-- - all that has come is kept, as by a keep or for a new page;
-- - nothing comes to the history, as at a stale round, a refusal, a look, or a keep at which the
--   disk fails (which breaks the book);
-- - the disk is closed;
-- - a stop comes in the midst of a move.
pub data Move : Type 0 where
  opens : Move
  refuses : OpenCause → Move
  answers : (who : ℕ) (command : Command) (reply : Reply) → Move
  fails : (who : ℕ) (command : Command) (reply : Reply) → Move
  takes : (who : ℕ) (command : Command) (reply : Reply) → Move
  rounds : (name : List ℕ) (reply : Reply) → Move
  keeps : Move
  stays : Move
  closes : Move
  stops : Move → Move

-- what a move brings to the history, or would have brought where it is stopped
abbrev pub brings : Move → List Entry
brings opens = []
brings (refuses cause) = []
brings (answers who command reply) = command_entry who command reply ∷ []
brings (fails who command reply) = command_entry who command reply ∷ []
brings (takes who command reply) = command_entry who command reply ∷ []
brings (rounds name reply) = round_entry name reply ∷ []
brings keeps = []
brings stays = []
brings closes = []
brings (stops move) = brings move

-- which move it is where a round has come
abbrev pub round_move : {E : Type 0} → (name : List ℕ) (reply : Reply) → Result Landed E → Move
round_move name reply (Ok Moved) = rounds name reply
round_move name reply (Ok Stale) = stays
round_move name reply (Err fault) = stays

-- What is answered of a round in its job's own lists, as of one that comes from outside: it has
-- landed where it was made, and else nothing comes, as at a stale one.
abbrev pub as_landed : {E : Type 0} → Result Bool E → Result Landed E
as_landed (Ok true) = Ok Moved
as_landed (Ok false) = Ok Stale
as_landed (Err fault) = Err fault

-- which move a keep is
abbrev pub keep_move : {T E : Type 0} → Result T E → Move
keep_move (Ok value) = keeps
keep_move (Err fault) = stays
