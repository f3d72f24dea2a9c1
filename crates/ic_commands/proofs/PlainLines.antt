-- Lines in their plainest form.
use Rattle.std.proofs.Common.{◌≡◌, ℕ, List, [], ◌∷◌, ◌++◌, ◌≤◌, None, Some, Ok, length, refl, sym, ap, subst, arith, append-nil, append_assoc, ◌∙◌}
use Rattle.std.specs.Prelude.{codes, map, false, Contains, IsTrue}
use Rattle.std.specs.List.{flat_map, join_with_byte}
use Rattle.std.specs.Fmt.{decimal}
use Rattle.ic_jobs.specs.declared.command.Command.{Command}
use Rattle.ic_jobs.specs.declared.command.Command.TheVariants as command
use Rattle.ic_jobs.specs.Memory.{is_submit}
use Rattle.ic_jobs.specs.Names.{command_names}
use Rattle.ic_rules.specs.JobName.{is_job_name}
use Rattle.ic_jobs.specs.declared.state.State.{State}
use Rattle.ic_jobs.specs.declared.state.State.TheVariants.{Running, Paused, Done, Halted as halted_state, Spent}
use Rattle.ic_jobs.specs.declared.reply.Refusal.{Refusal}
use Rattle.ic_jobs.specs.declared.reply.Refusal.TheVariants.{Taken, Full, NoJob, NotRunning, NotPaused}
use Rattle.ic_jobs.specs.declared.reply.Reply.{Reply}
use Rattle.ic_jobs.specs.declared.reply.Reply.TheVariants.{Shown, Listed}
use Rattle.ic_text.specs.Token.{words_among}
use Rattle.ic_text.specs.declared.limits.TheConstants.{MAX_TEXT}
use Rattle.ic_commands.specs.declared.line.Line.{Line}
use Rattle.ic_commands.specs.declared.line.Line.TheVariants.{Blank, Command as Asks, Run}
use Rattle.ic_commands.specs.declared.line.Verb.{Verb}
use Rattle.ic_commands.specs.declared.line.Verb.TheVariants.{Pause, Resume, Cancel, Fetch}
use Rattle.ic_commands.specs.LineSource.{LinePhrase, submit, line_words}
use Rattle.ic_commands.specs.LineText.{ReadsLine}
use Rattle.ic_commands.specs.LinePlain.{IsOfJob, IsCopyOf, AsksPlainly, IsPlainly, phrase_texts}
use Rattle.ic_commands.specs.ReplyText.{listed_text, listed_word, reply_text, reply_words}
use Rattle.ic_commands.proofs.LineLaws.{about_text, copy_text, submit_without, submit_with, list_text, run_text, blank_text}

plain_command : (c : Command) (text : List ℕ) → AsksPlainly c text → ReadsLine text (Ok (Asks c))
plain_command (command.Submit name system None) text is =
    let short = subst (λ t. length t ≤ MAX_TEXT) is.written is.short in
    subst (λ t. ReadsLine t (Ok (Asks (command.Submit name system None)))) (sym is.written)
    (submit_without name is.system_text (Ok system) is.named short is.reads (λ e. cc))
plain_command (command.Submit name system (Some n)) text is =
    let same : text ≡ codes "submit " ++ name ++ 32 ∷ (decimal n ++ 32 ∷ is.system_text) =
    is.written ∙ ap (λ t. codes "submit " ++ name ++ 32 ∷ t) (append_assoc (decimal n) (32 ∷ []) is.system_text) in
    let short = subst (λ t. length t ≤ MAX_TEXT) same is.short in
    subst (λ t. ReadsLine t (Ok (Asks (command.Submit name system (Some n))))) (sym same)
    (submit_with name is.system_text n (Ok system) is.named is.budget short is.reads)
plain_command (command.CopyJob old new) text is =
    subst (λ t. ReadsLine t (Ok (Asks (command.CopyJob old new)))) (sym is.written) (copy_text old new is.first is.second)
plain_command (command.Pause name) text is =
    subst (λ t. ReadsLine t (Ok (Asks (command.Pause name)))) (sym is.written) (about_text Pause name refl (omega arith) is.named)
plain_command (command.Resume name) text is =
    subst (λ t. ReadsLine t (Ok (Asks (command.Resume name)))) (sym is.written) (about_text Resume name refl (omega arith) is.named)
plain_command (command.Cancel name) text is =
    subst (λ t. ReadsLine t (Ok (Asks (command.Cancel name)))) (sym is.written) (about_text Cancel name refl (omega arith) is.named)
plain_command (command.Fetch name) text is =
    subst (λ t. ReadsLine t (Ok (Asks (command.Fetch name)))) (sym is.written) (about_text Fetch name refl (omega arith) is.named)
plain_command command.List text is = subst (λ t. ReadsLine t (Ok (Asks command.List))) (sym is) list_text

-- a line that asks for this
abbrev HasLine : Command → Type 0
HasLine c = (text : List ℕ) × ReadsLine text (Ok (Asks c))

of_job : (c : Command) (word name : List ℕ) → (IsOfJob word name (word ++ name) → AsksPlainly c (word ++ name)) → IsTrue (is_job_name name) → HasLine c
of_job c word name asks named = (word ++ name, plain_command c (word ++ name) (asks (record { named = named; written = refl })))

pub has_line : (c : Command) → is_submit c ≡ false → ((name : List ℕ) → Contains (command_names c) name → IsTrue (is_job_name name)) → HasLine c
has_line (command.Submit name system most) other named = cc
has_line (command.CopyJob old new) other named =
    let text = codes "copy " ++ old ++ 32 ∷ new in
    let names : IsCopyOf old new text = record { first = named old (0, omega arith, refl); second = named new (1, omega arith, refl); written = refl } in
    (text, plain_command (command.CopyJob old new) text names)
has_line (command.Pause name) other named = of_job (command.Pause name) (codes "pause ") name (λ is. is) (named name (0, omega arith, refl))
has_line (command.Resume name) other named = of_job (command.Resume name) (codes "resume ") name (λ is. is) (named name (0, omega arith, refl))
has_line (command.Cancel name) other named = of_job (command.Cancel name) (codes "cancel ") name (λ is. is) (named name (0, omega arith, refl))
has_line (command.Fetch name) other named = of_job (command.Fetch name) (codes "fetch ") name (λ is. is) (named name (0, omega arith, refl))
has_line command.List other named = (codes "list", plain_command command.List (codes "list") refl)

pub plain_line : (line : Line) (text : List ℕ) → IsPlainly line text → ReadsLine text (Ok line)
plain_line Blank text is = blank_text text is.0 is.1
plain_line (Asks c) text is = plain_command c text is
plain_line (Run n) text is = subst (λ t. ReadsLine t (Ok (Run n))) (sym is.1) (run_text n is.0)

pub phrase_texts_are : (p : LinePhrase) → words_among (line_words p) ≡ phrase_texts p
phrase_texts_are (submit name None s) = refl
phrase_texts_are _ = refl

pub all_verbs : (verb : Verb) → Contains (Pause ∷ Resume ∷ Cancel ∷ Fetch ∷ []) verb
all_verbs Pause = (0, omega arith, refl)
all_verbs Resume = (1, omega arith, refl)
all_verbs Cancel = (2, omega arith, refl)
all_verbs Fetch = (3, omega arith, refl)

-- ---- answers

pub all_states : (s : State) → Contains (Running ∷ Paused ∷ Done ∷ halted_state ∷ Spent ∷ []) s
all_states Running = (0, omega arith, refl)
all_states Paused = (1, omega arith, refl)
all_states Done = (2, omega arith, refl)
all_states halted_state = (3, omega arith, refl)
all_states Spent = (4, omega arith, refl)

pub all_refusals : (r : Refusal) → Contains (Taken ∷ Full ∷ NoJob ∷ NotRunning ∷ NotPaused ∷ []) r
all_refusals Taken = (0, omega arith, refl)
all_refusals Full = (1, omega arith, refl)
all_refusals NoJob = (2, omega arith, refl)
all_refusals NotRunning = (3, omega arith, refl)
all_refusals NotPaused = (4, omega arith, refl)

-- words of jobs after a word
listed_joined : (first : List ℕ) (js : List (List ℕ × State × ℕ)) → first ++ flat_map listed_text js ≡ join_with_byte 32 (first ∷ map listed_word js)
listed_joined first [] = append-nil first
listed_joined first (j ∷ js) = ap (λ x. first ++ 32 ∷ x) (listed_joined (listed_word j) js)

pub reply_joined : (r : Reply) → reply_text r ≡ join_with_byte 32 (reply_words r)
reply_joined (Shown job) = simp append_assoc
reply_joined (Listed jobs) = listed_joined (codes "jobs") jobs
reply_joined _ = refl
