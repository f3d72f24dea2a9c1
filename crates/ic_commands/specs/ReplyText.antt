-- The lines that answer (this project's choice).
use Rattle.std.specs.Prelude.{ℕ, List, [], ◌∷◌, ◌++◌, map, codes}
use Rattle.std.specs.List.{flat_map, join_with_byte}
use Rattle.std.specs.Fmt.{decimal}
use Rattle.ic_jobs.specs.declared.state.State.{State}
use Rattle.ic_jobs.specs.declared.state.State.TheVariants.{Running, Paused, Done, Halted as halted_state, Spent}
use Rattle.ic_jobs.specs.declared.reply.Refusal.{Refusal}
use Rattle.ic_jobs.specs.declared.reply.Refusal.TheVariants.{Taken, Full, NoJob, NotRunning, NotPaused}
use Rattle.ic_jobs.specs.declared.reply.Reply.{Reply}
use Rattle.ic_jobs.specs.declared.reply.Reply.TheVariants.{Accepted, Okay, Shown, Listed, Refused, Moved, Halted}
use Rattle.ic_jobs.specs.Shown.{ShownParts}
use Rattle.ic_text.specs.Text.{printed}

abbrev pub state_text : State → List ℕ
state_text Running = codes "running"
state_text Paused = codes "paused"
state_text Done = codes "done"
state_text halted_state = codes "halted"
state_text Spent = codes "spent"

abbrev pub refusal_text : Refusal → List ℕ
refusal_text Taken = codes "taken"
refusal_text Full = codes "full"
refusal_text NoJob = codes "nojob"
refusal_text NotRunning = codes "notrunning"
refusal_text NotPaused = codes "notpaused"

-- a job's name, state and rounds, with a byte between them
abbrev pub job_text : ℕ → List ℕ → State → ℕ → List ℕ
job_text between name state rounds =
    name ++ between ∷ (state_text state ++ between ∷ decimal rounds)

-- `NAME STATE ROUNDS CONFIG`
abbrev pub shown_text : ShownParts → List ℕ
shown_text job =
    job_text 32 job.name job.state job.rounds ++ 32 ∷ printed job.rules.symbols job.config

-- a space, and `NAME:STATE:ROUNDS`
abbrev pub listed_text : List ℕ × State × ℕ → List ℕ
listed_text job = 32 ∷ job_text 58 job.0 job.1 job.2

-- the line of a reply
abbrev pub reply_text : Reply → List ℕ
reply_text Accepted = codes "accepted"
reply_text Okay = codes "ok"
reply_text (Shown job) = shown_text job
reply_text (Listed jobs) = codes "jobs" ++ flat_map listed_text jobs
reply_text (Refused refusal) = codes "refused " ++ refusal_text refusal
reply_text Moved = codes "moved"
reply_text Halted = codes "halted"

-- `NAME:STATE:ROUNDS`
abbrev pub listed_word : List ℕ × State × ℕ → List ℕ
listed_word job = join_with_byte 58 (job.0 ∷ state_text job.1 ∷ decimal job.2 ∷ [])

-- the words of a reply's line
abbrev pub reply_words : Reply → List (List ℕ)
reply_words Accepted = codes "accepted" ∷ []
reply_words Okay = codes "ok" ∷ []
reply_words (Shown job) =
    job.name ∷ state_text job.state ∷ decimal job.rounds ∷ printed job.rules.symbols job.config
    ∷ []
reply_words (Listed jobs) = codes "jobs" ∷ map listed_word jobs
reply_words (Refused refusal) = codes "refused" ∷ refusal_text refusal ∷ []
reply_words Moved = codes "moved" ∷ []
reply_words Halted = codes "halted" ∷ []
