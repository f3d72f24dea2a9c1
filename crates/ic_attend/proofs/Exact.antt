-- Where something differs, the comparison says so.
use Rattle.std.proofs.Common.{◌≡◌, ℕ, ◌+◌, ◌<◌, ◌≤◌, suc, arith, List, [], ◌∷◌, ◌++◌, Option, Some, true, false, length, take, drop, refl, sym, ap, subst, ◌∙◌, inl, inr}
use Rattle.std.specs.Prelude.{◌↔◌, IsSomeAnd, IsTrue, slice_index_or, slice_get}
use Rattle.std.specs.Cmp.{unsigned_Decides}
use Rattle.std.specs.List.{All, cons_option}
use Rattle.std.proofs.Math.Seq.{drop-cons, get_or-append_seam}
use Rattle.std.proofs.lemmas.Bool.{cases_lt}
use Rattle.std.proofs.lemmas.List.{get_or_default, length_push, length-append, length-take-le, same_from_push, take-append-drop}
use Rattle.std.proofs.lemmas.List.Elements.{All-from_recursion, recursion_from_All}
use Rattle.std.proofs.lemmas.Option.{slice_get_read}
use Rattle.ic_disk.specs.declared.disk.Disk.{Ghosts}
use Rattle.ic_jobs.specs.declared.command.Command.{Command}
use Rattle.ic_jobs.specs.declared.event.Event.{Event}
use Rattle.ic_jobs.specs.declared.event.Event.TheVariants.{Command as by_command, Round}
use Rattle.ic_jobs.specs.declared.event.Entry.{Entry}
use Rattle.ic_jobs.specs.declared.reply.Reply.{Reply}
use Rattle.ic_jobs.specs.Job.{JobParts}
use Rattle.ic_book.specs.Entries.{is_round, AreRounds}
use Rattle.ic_attend.specs.declared.attended.Attended.{Attended}
use Rattle.ic_attend.specs.declared.attended.ClientRun.{ClientRun}
use Rattle.ic_book.specs.Book.{start_of, log_of}
use Rattle.ic_attend.specs.Parts.{answer_to, part, AreOfClients}
use Rattle.ic_attend.specs.Clients.{MayStandAfter}
use Rattle.ic_attend.specs.inner.Lasts.{MayBeLast}
use Rattle.ic_attend.specs.OneHistory.{Agrees, IsOneHistory}
use Rattle.ic_attend.proofs.PartLemmas.{answer_to-own, part-append, runs_counted}

-- what holds of the elements before one and of it holds of those up to it
pub one_more : {X : Type 0} (P : X → Type 0) (xs : List X) (i : ℕ) (e : X) → i < length xs
    → ((k : ℕ) (d : X) → k < i → P (slice_index_or xs k d)) → P (slice_index_or xs i e)
    → (k : ℕ) (d : X) → k < i + 1 → P (slice_index_or xs k d)
one_more P xs i e within before here k d below =
    elim (cases_lt k i) [
      | inl h ↦ before k d h
      | inr h ↦
          let same : i ≡ k = omega (arith, h, below) in
          subst (λ (n : ℕ). P (slice_index_or xs n d)) same (subst P (get_or_default xs i e d within) here)
    ]

-- the same where an index has its element
pub one_more_at : {X : Type 0} (P : ℕ → X → Type 0) (xs : List X) (n i : ℕ) (e : X) → n ≡ length xs → i < n → e ≡ slice_index_or xs i e
    → ((k : ℕ) (x : X) → k < i → slice_get xs k ≡ Some x → P k x) → P i e
    → (k : ℕ) (x : X) → k < i + 1 → slice_get xs k ≡ Some x → P k x
one_more_at P xs n i e count within item before here k x below is =
    elim (cases_lt k i) [
      | inl h ↦ before k x h is
      | inr h ↦
          let same : i ≡ k = omega (arith, h, below) in
          let both : Some e ≡ Some x = sym (slice_get_read xs n i e count within item) ∙ ap (slice_get xs) same ∙ is in
          let one : e ≡ x = cc in
          subst (λ (m : ℕ). P m x) same (subst (P i) one here)
    ]

-- an event that is no round is a command's
pub command_of : (event : Event) → is_round event ≡ false → (c : Command) × (event ≡ by_command c)
command_of (by_command c) is = (c, refl)
command_of (Round name) is = absurd (let no : true ≡ false = is in cc)

-- Where so many answers are the part of the entries so far, and all answers that of all entries, the
-- next answer is that of the client's next entry.
pub next_own : (who : ℕ) (es : List Entry) (answers : List (Command × Reply)) (i given : ℕ) (e : Entry) (c : Command)
    → i < length es → e ≡ slice_index_or es i e → e.who ≡ who → e.event ≡ by_command c
    → given ≤ length answers → take given answers ≡ part who (take i es) → answers ≡ part who es
    → (given < length answers) × ((d : Command × Reply) → slice_index_or answers given d ≡ (c, e.reply))
next_own who es answers i given e c below item own event within so whole =
    let a : Command × Reply = (c, e.reply) in
    let rest : List (Command × Reply) = part who (drop (suc i) es) in
    let cut : es ≡ take i es ++ e ∷ drop (suc i) es =
    sym (take-append-drop i es)
    ∙ ap (λ (l : List Entry). take i es ++ l) (drop-cons es i e below ∙ ap (λ (x : Entry). x ∷ drop (suc i) es) (sym item)) in
    let told : answer_to who e ≡ Some a = answer_to-own who e c e.reply ((unsigned_Decides e.who who).1 own) event refl in
    let split : answers ≡ take given answers ++ a ∷ rest =
    whole ∙ ap (part who) cut ∙ part-append who (take i es) (e ∷ drop (suc i) es)
    ∙ ap (λ (o : Option (Command × Reply)). part who (take i es) ++ cons_option o rest) told
    ∙ ap (λ (l : List (Command × Reply)). l ++ a ∷ rest) (sym so) in
    let len : length (take given answers) ≡ given = length-take-le given answers within in
    let count : length answers ≡ length (take given answers) + length (a ∷ rest) =
    ap length split ∙ length-append (take given answers) (a ∷ rest) in
    let short : given < length answers = omega (arith, count, len) in (
      short,
      λ (d : Command × Reply).
          ap (λ (l : List (Command × Reply)). slice_index_or l given d) split
          ∙ ap (λ (k : ℕ). slice_index_or (take given answers ++ a ∷ rest) k d) (sym len)
          ∙ get_or-append_seam (take given answers) a rest d,
    )

-- two lists that are the same end alike
pub same_last : (xs ys : List Entry) (x y : Entry) → xs ++ x ∷ [] ≡ ys ++ y ∷ [] → x ≡ y
same_last xs ys x y is =
    let n : length xs ≡ length ys = omega (arith, ap length is, length_push xs x, length_push ys y) in
    sym (get_or-append_seam xs x [] x) ∙ ap (λ (l : List Entry). slice_index_or l (length xs) x) is
    ∙ ap (λ (k : ℕ). slice_index_or (ys ++ y ∷ []) k x) n ∙ get_or-append_seam ys y [] x

-- what may stand after the kept entries: rounds, and one last entry that may be it
pub stands_after : (runs : List ClientRun) (es front : List Entry) (last : Entry) → es ≡ front ++ last ∷ []
    → MayStandAfter runs es ↔ (All (λ e. IsTrue (is_round e.event)) front × MayBeLast runs last)
stands_after runs es front last is = (there, λ may. back may.0 may.1)
  where
    parts : (xs : List Entry) → AreRounds (xs ++ last ∷ []) → AreRounds xs × IsTrue (is_round last.event)
    parts [] rounds = (tt, rounds.0)
    parts (e ∷ xs) rounds = let rest = parts xs rounds.1 in ((rounds.0, rest.0), rest.1)

    push : (xs : List Entry) → AreRounds xs → IsTrue (is_round last.event) → AreRounds (xs ++ last ∷ [])
    push [] rounds round = (round, tt)
    push (e ∷ xs) rounds round = (rounds.0, push xs rounds.1 round)

    there : MayStandAfter runs es → All (λ (e : Entry). IsTrue (is_round e.event)) front × MayBeLast runs last
    there (inl rounds) =
        let both = parts front (subst AreRounds is rounds) in
        (All-from_recursion (λ (e : Entry). IsTrue (is_round e.event)) front both.0, inl both.1)
    there (inr ends) =
        let same = same_from_push front ends.front last ends.last (sym is ∙ ends.entries) in (
          All-from_recursion (λ (e : Entry). IsTrue (is_round e.event)) front (subst AreRounds (sym same.0) ends.rounds),
          inr (
            ends.client,
            ap (λ (e : Entry). slice_get runs e.who) same.1 ∙ ends.sender,
            ends.failed,
            subst (λ (e : Entry). IsSomeAnd ends.client.refused (λ c. e.event ≡ by_command c)) (sym same.1) ends.refused,
          ),
        )

    back : All (λ (e : Entry). IsTrue (is_round e.event)) front → MayBeLast runs last → MayStandAfter runs es
    back rounds (inl round) = inl (subst AreRounds (sym is) (push front (recursion_from_All (λ (e : Entry). IsTrue (is_round e.event)) front rounds) round))
    back rounds (inr found) = inr (record {
      front = front;
      last = last;
      client = found.0;
      entries = is;
      rounds = recursion_from_All (λ (e : Entry). IsTrue (is_round e.event)) front rounds;
      sender = found.1;
      failed = found.2;
      refused = found.3;
    })

-- what is one history of scripts agrees with what was gathered
pub agrees_of : {D : Type 0} {ghosts : Ghosts D} (opening : List JobParts) (scripts : List (List Command)) (runners turns : ℕ)
    (a : Attended D ghosts) → start_of a.book ≡ opening → IsOneHistory scripts runners turns a → Agrees opening turns a
agrees_of opening scripts runners turns a start history =
    let counted = runs_counted scripts a.answers.items history.scripts_kept in
    record {
      start = start;
      clients = subst (λ (n : ℕ). AreOfClients n (log_of a.book)) (sym counted) history.clients;
      answers = history.answers;
      after = history.after;
      failed = history.failed;
      ends = history.ends;
    }
