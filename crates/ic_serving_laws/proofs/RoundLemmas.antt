-- Tables before rounds: in a legal history, and along a run.
use Rattle.std.proofs.Common.{◌≡◌, ◌⊎◌, inl, inr, ⊎_elim, ℕ, ◌+◌, List, [], ◌∷◌, ◌++◌, map, false, Some, refl, sym, ap, subst, ◌∙◌}
use Rattle.std.specs.List.{AllByRecursion}
use Rattle.ic_flights.specs.Flight.{FlightParts, is_blocked}
use Rattle.ic_jobs.specs.declared.event.Entry.{Entry}
use Rattle.ic_jobs.specs.declared.event.Event.{Event}
use Rattle.ic_jobs.specs.declared.event.Event.TheVariants.{Round}
use Rattle.ic_jobs.specs.declared.reply.Reply.{Reply}
use Rattle.ic_jobs.specs.declared.reply.Reply.TheVariants.{Moved, Halted}
use Rattle.ic_jobs.specs.Job.{JobParts}
use Rattle.ic_jobs.specs.Table.{IsTable}
use Rattle.ic_jobs.specs.History.{replay, reply_to, table_after, IsLegal}
use Rattle.ic_jobs.specs.Landing.{Awaits}
use Rattle.ic_lines.specs.Turns.{turns}
use Rattle.ic_serving.specs.Parts.{IsBeforeRound}
use Rattle.ic_serving.specs.lemmas.Making.{before_first, before_later, before_parts, due_free, due_moves, none_before}

-- ---- in a legal history

-- an entry that says `Moved`, after entries that lead to this table
abbrev MovesFrom : (t u : List JobParts) (h : List Entry) → Type 0
MovesFrom t u h = (front : List Entry) × (e : Entry) × (rest : List Entry) × (h ≡ front ++ e ∷ rest) × (e.reply ≡ Moved) × (u ≡ replay t front)

same_reply : (t : List JobParts) (e : Event) (a b : Reply) → reply_to t e ≡ Some a → reply_to t e ≡ Some b → a ≡ b
same_reply t e a b one other = let both : Some a ≡ Some b = sym one ∙ other in cc

some_reply : (r : Reply) → r ≡ Moved → Some r ≡ Some Moved
some_reply r is = cc

one_later : (t u : List JobParts) (x : Entry) (h : List Entry) → MovesFrom (table_after t x.event) u h → MovesFrom t u (x ∷ h)
one_later t u x h later = (x ∷ later.0, later.1, later.2, ap (λ (l : List Entry). x ∷ l) later.3, later.4, later.5)

pub history_says : (t u : List JobParts) (h : List Entry) → IsLegal t h → IsBeforeRound t (map (λ (e : Entry). e.event) h) u → MovesFrom t u h
history_says t u [] legal r = absurd (none_before t u r)
history_says t u (x ∷ h) legal r = ⊎_elim
    (λ (now : (u ≡ t) × (reply_to t x.event ≡ Some Moved)). ([], x, h, refl, same_reply t x.event x.reply Moved legal.0 now.1, now.0))
    (λ (later : IsBeforeRound (table_after t x.event) (map (λ (e : Entry). e.event) h) u). one_later t u x h (history_says (table_after t x.event) u h legal.1 later))
    (before_parts t u x.event (map (λ (e : Entry). e.event) h) r)

has_at : (front : List Entry) (t u : List JobParts) (e : Entry) (rest : List Entry) → IsLegal t (front ++ e ∷ rest) → e.reply ≡ Moved → u ≡ replay t front
    → IsBeforeRound t (map (λ (x : Entry). x.event) (front ++ e ∷ rest)) u
has_at [] t u e rest legal moves left = before_first t u e.event (map (λ (x : Entry). x.event) rest) left (legal.0 ∙ some_reply e.reply moves)
has_at (x ∷ front) t u e rest legal moves left =
    before_later t u x.event (map (λ (y : Entry). y.event) (front ++ e ∷ rest)) (has_at front (table_after t x.event) u e rest legal.1 moves left)

pub history_has : (t u : List JobParts) (h : List Entry) → IsLegal t h → MovesFrom t u h → IsBeforeRound t (map (λ (e : Entry). e.event) h) u
history_has t u h legal m = subst (λ (l : List Entry). IsBeforeRound t (map (λ (e : Entry). e.event) l) u) (sym m.3)
    (has_at m.0 t u m.1 m.2 (subst (λ (l : List Entry). IsLegal t l) m.3 legal) m.4 m.5)

halted_moved : (r : Reply) → r ≡ Moved → r ≡ Halted → ⊥
halted_moved r moves halts = let bad : Moved ≡ Halted = sym moves ∙ halts in cc

pub halts_have_none : (t u : List JobParts) (h : List Entry) → IsLegal t h → AllByRecursion (λ (e : Entry). e.reply ≡ Halted) h
    → IsBeforeRound t (map (λ (e : Entry). e.event) h) u → ⊥
halts_have_none t u [] legal halts r = none_before t u r
halts_have_none t u (x ∷ h) legal halts r = ⊎_elim
    (λ (now : (u ≡ t) × (reply_to t x.event ≡ Some Moved)). halted_moved x.reply (same_reply t x.event x.reply Moved legal.0 now.1) halts.0)
    (λ (later : IsBeforeRound (table_after t x.event) (map (λ (e : Entry). e.event) h) u). halts_have_none (table_after t x.event) u h legal.1 halts.1 later)
    (before_parts t u x.event (map (λ (e : Entry). e.event) h) r)

-- ---- along a run

-- what comes after the first of a run
abbrev after_first : (k : ℕ) (f : FlightParts) → List JobParts → List Event
after_first k f v = turns k (f.place + 1) v

pub run_says : (t u v : List JobParts) (f : FlightParts) (k place : ℕ) → turns (k + 1) place t ≡ Round f.name ∷ after_first k f (table_after t (Round f.name))
    → Awaits t f.name f.rules f.config f.rounds → v ≡ table_after t (Round f.name) → IsBeforeRound t (turns (k + 1) place t) u
    → ((u ≡ t) × (is_blocked f ≡ false)) ⊎ IsBeforeRound v (after_first k f v) u
run_says t u v f k place first awaits left r = ⊎_elim
    (λ (now : (u ≡ t) × (reply_to t (Round f.name) ≡ Some Moved)). inl (now.0, due_free t f awaits now.1))
    (λ (later : IsBeforeRound (table_after t (Round f.name)) (after_first k f (table_after t (Round f.name))) u).
    inr (subst (λ (x : List JobParts). IsBeforeRound x (after_first k f x) u) (sym left) later))
    (before_parts t u (Round f.name) (after_first k f (table_after t (Round f.name))) (subst (λ (es : List Event). IsBeforeRound t es u) first r))

pub run_has : (t u v : List JobParts) (f : FlightParts) (k place : ℕ) → turns (k + 1) place t ≡ Round f.name ∷ after_first k f (table_after t (Round f.name))
    → IsTable t → Awaits t f.name f.rules f.config f.rounds → v ≡ table_after t (Round f.name)
    → ((u ≡ t) × (is_blocked f ≡ false)) ⊎ IsBeforeRound v (after_first k f v) u → IsBeforeRound t (turns (k + 1) place t) u
run_has t u v f k place first sound awaits left (inl now) = subst (λ (es : List Event). IsBeforeRound t es u) (sym first)
    (before_first t u (Round f.name) (after_first k f (table_after t (Round f.name))) now.0 (due_moves t f sound awaits now.1))
run_has t u v f k place first sound awaits left (inr later) = subst (λ (es : List Event). IsBeforeRound t es u) (sym first)
    (before_later t u (Round f.name) (after_first k f (table_after t (Round f.name))) (subst (λ (x : List JobParts). IsBeforeRound x (after_first k f x) u) left later))
