-- In what the two forms differ, their letters and the budget, and what both have before a job's
-- symbols (this project's choice).
use Rattle.std.specs.Prelude.{ℕ, List, [], ◌∷◌, ◌++◌, Option, None, Some}
use Rattle.ic_jobs.specs.Job.{JobParts}
use Rattle.ic_jobs.specs.declared.state.State.{State}
use Rattle.ic_jobs.specs.declared.state.State.TheVariants.{Running, Paused, Done, Halted, Spent}
use Rattle.ic_jobs.specs.State.{state_number}
use Rattle.ic_codec.specs.declared.form.Form.{Form}
use Rattle.ic_codec.specs.declared.form.Form.TheVariants.{Ict1, Ict2}
use Rattle.ic_codec.specs.declared.form.Heading.{Heading}
use Rattle.ic_codec.specs.Numbers.{eight_bytes}
use Rattle.ic_codec.specs.Texts.{text_bytes}

-- the digit in a form's name: `1` or `2`
abbrev pub form_digit : Form → ℕ
form_digit Ict1 = 49
form_digit Ict2 = 50

-- the letters `ICT1` or `ICT2`
abbrev pub form_head : Form → List ℕ
form_head form = 73 ∷ 67 ∷ 84 ∷ form_digit form ∷ []

-- all states, in the order of their numbers
abbrev pub all_states : List State
all_states = Running ∷ Paused ∷ Done ∷ Halted ∷ Spent ∷ []

-- a budget as a number: 0 for none
abbrev pub budget_number : Option ℕ → ℕ
budget_number None = 0
budget_number (Some n) = n

-- a budget in eight bytes, for which the old form has no place
abbrev pub budget_bytes : Form → Option ℕ → List ℕ
budget_bytes Ict1 budget = []
budget_bytes Ict2 budget = eight_bytes (budget_number budget)

-- a heading is a job's name, its state in one byte, its rounds, its budget, and the `next` of its
-- configuration
abbrev pub heading_bytes : Form → Heading → List ℕ
heading_bytes form h =
    text_bytes h.name ++ (state_number h.state
    ∷ (eight_bytes h.rounds ++ (budget_bytes form h.budget ++ eight_bytes h.next)))

-- the heading of a job
abbrev pub heading_of : JobParts → Heading
heading_of j = record {
  name = j.name;
  state = j.state;
  rounds = j.rounds;
  budget = j.budget;
  next = j.config.next;
}
