-- Entries of a history, for laws.
use Rattle.std.proofs.Common.{◌≡◌, ◌↔◌, ◌⊎◌, inl, inr, ◌∙◌, ℕ, List, [], ◌∷◌, ◌++◌, Bool, true, false, Option, None, Some, refl, sym, ap, subst, if◌then◌else◌}
use Rattle.std.specs.Prelude.{IsTrue}
use Rattle.std.specs.List.{AllByRecursion}
use Rattle.std.specs.Option.{option_map, option_map_or}
use Rattle.ic_jobs.specs.declared.event.Entry.{Entry}
use Rattle.ic_jobs.specs.declared.event.Event.{Event}
use Rattle.ic_jobs.specs.declared.event.Event.TheVariants.{Command as by_command, Round}
use Rattle.ic_jobs.specs.declared.reply.Reply.{Reply}
use Rattle.ic_jobs.specs.declared.reply.Reply.TheVariants.{Moved, Halted}
use Rattle.ic_jobs.specs.declared.state.State.TheVariants as state
use Rattle.ic_jobs.specs.Job.{JobParts, can_move, in_state, moved}
use Rattle.ic_jobs.specs.State.{is_running}
use Rattle.ic_jobs.specs.Table.{job_named, with_changed}
use Rattle.ic_jobs.specs.Events.{Outcome, apply, after_round, outcome, where_running}
use Rattle.ic_jobs.specs.History.{replay, table_after, reply_to, IsLegal}
use Rattle.ic_book.specs.Entries.{Adds, AreRounds, IsRoundEntry, RoundHasSenderZero, is_round}
use Rattle.ic_book.specs.Kept.{IsHistory}
use Rattle.ic_book.proofs.HistoryLemmas.{IsLegal-push, replay-push}

-- ---- an entry at a place

all_at : {X : Type 0} (P : X → Type 0) (front back : List X) (x : X) → AllByRecursion P (front ++ x ∷ back) → P x
all_at P [] back x all = all.0
all_at P (y ∷ front) back x all = all_at P front back x all.1

at_all : {X : Type 0} (P : X → Type 0) (xs : List X) → ((front back : List X) (x : X) → xs ≡ front ++ x ∷ back → P x) → AllByRecursion P xs
at_all P [] each = tt
at_all {X} P (x ∷ xs) each = (each [] xs x refl, at_all P xs (λ front back y is. each (x ∷ front) back y (ap (λ (l : List X). x ∷ l) is)))

-- it is answered from the table in front of it
legal_at : (t : List JobParts) (front back : List Entry) (e : Entry) → IsLegal t (front ++ e ∷ back) → (u : List JobParts) × (reply_to u e.event ≡ Some e.reply)
legal_at t [] back e legal = (t, legal.0)
legal_at t (x ∷ front) back e legal = legal_at (table_after t x.event) front back e legal.1

-- ---- rounds

named : (v : Event) → IsTrue (is_round v) → (name : List ℕ) × (v ≡ Round name)
named (by_command c) round = let never : false ≡ true = round in cc
named (Round name) round = (name, refl)

pub rounds_named : (es : List Entry) → AreRounds es
    ↔ ((front back : List Entry) (e : Entry) → es ≡ front ++ e ∷ back → (name : List ℕ) × (e.event ≡ Round name))
rounds_named es = (
  λ all front back e is. named e.event (all_at (λ (x : Entry). IsTrue (is_round x.event)) front back e (subst AreRounds is all)),
  λ each. at_all (λ (x : Entry). IsTrue (is_round x.event)) es (λ front back e is. ap is_round (each front back e is).1),
)

pub nobody_named : (e : Entry) → RoundHasSenderZero e ↔ ((name : List ℕ) → e.event ≡ Round name → e.who ≡ 0)
nobody_named e = (
  λ nobody name is. nobody (ap is_round is),
  λ each round. let n = named e.event round in each n.0 n.1,
)

told_by : (b : Bool) (x y : Outcome) (r : Reply) → x.reply ≡ Moved → y.reply ≡ Halted → option_map (λ (o : Outcome). o.reply) (Some (if b then x else y)) ≡ Some r
    → (r ≡ Moved) ⊎ (r ≡ Halted)
told_by true x y r first second is = inl (let same : x.reply ≡ r = cc in sym same ∙ first)
told_by false x y r first second is = inr (let same : y.reply ≡ r = cc in sym same ∙ second)

told_where : (b : Bool) (o : Outcome) (r : Reply) → option_map (λ (p : Outcome). p.reply) (if b then Some o else None) ≡ Some r
    → option_map (λ (p : Outcome). p.reply) (Some o) ≡ Some r
told_where true o r is = is
told_where false o r is = let never : None ≡ Some r = is in cc

told : (t : List JobParts) (name : List ℕ) (j : Option JobParts) (r : Reply) → option_map (λ (o : Outcome). o.reply) (where_running (after_round t name) j) ≡ Some r
    → (r ≡ Moved) ⊎ (r ≡ Halted)
told t name None r is = let never : None ≡ Some r = is in cc
told t name (Some j) r is =
    told_by (can_move j) (outcome (with_changed name moved t) Moved) (outcome (with_changed name (in_state state.Halted) t) Halted) r refl refl
    (told_where (is_running j.state) (after_round t name j) r is)

-- a round of a legal history
round_at : (t : List JobParts) (log front back : List Entry) (e : Entry) (name : List ℕ) → IsLegal t log → AllByRecursion RoundHasSenderZero log
    → log ≡ front ++ e ∷ back → e.event ≡ Round name → IsRoundEntry e
round_at t log front back e name legal nobody is event =
    let here = legal_at t front back e (subst (λ (es : List Entry). IsLegal t es) is legal) in
    let sent = all_at RoundHasSenderZero front back e (subst (λ (es : List Entry). AllByRecursion RoundHasSenderZero es) is nobody) in
    record {
      name = name;
      event = event;
      who = sent (ap is_round event);
      reply = told here.0 name (job_named name here.0) e.reply (ap (λ (v : Event). reply_to here.0 v) (sym event) ∙ here.1);
    }

module _ (start : List JobParts) (log : List Entry) (table : List JobParts) (kept : ℕ) (broken : Bool) (is : IsHistory start log table kept broken) where
  pub round_anywhere : (front back : List Entry) (e : Entry) (name : List ℕ) → log ≡ front ++ e ∷ back → e.event ≡ Round name → IsRoundEntry e
  round_anywhere front back e name at event = round_at start log front back e name is.legal is.round_senders at event

-- ---- one entry more

legal_last : (t : List JobParts) (h : List Entry) (e : Entry) → IsLegal t (h ++ e ∷ []) → reply_to (replay t h) e.event ≡ Some e.reply
legal_last t [] e legal = legal.0
legal_last t (x ∷ h) e legal = legal_last (table_after t x.event) h e legal.1

left : (o : Option Outcome) (u t : List JobParts) (r : Reply) → option_map (λ (p : Outcome). p.reply) o ≡ Some r → option_map_or (λ (p : Outcome). p.table) o u ≡ t
    → o ≡ Some (outcome t r)
left None u t r told leaves = let never : None ≡ Some r = told in cc
left (Some p) u t r told leaves = let replied : p.reply ≡ r = cc in λ i. Some (outcome (leaves i) (replied i))

pub added : (start t : List JobParts) (h k : List Entry) (e : Entry) → IsLegal start h → Adds e h k (replay start h) t
    ↔ ((k ≡ h ++ e ∷ []) × IsLegal start k × (replay start k ≡ t))
added start t h k e legal = (
  λ adds. (
    adds.entry,
    subst (λ (es : List Entry). IsLegal start es) (sym adds.entry) (IsLegal-push start h e legal (ap (option_map (λ (o : Outcome). o.reply)) adds.event)),
    ap (replay start) adds.entry ∙ replay-push start h e ∙ ap (λ (o : Option Outcome). option_map_or (λ (p : Outcome). p.table) o (replay start h)) adds.event,
  ),
  λ grows. record {
    entry = grows.0;
    event = left (apply (replay start h) e.event) (replay start h) t e.reply
        (legal_last start h e (subst (λ (es : List Entry). IsLegal start es) grows.0 grows.1))
        (sym (replay-push start h e) ∙ ap (replay start) (sym grows.0) ∙ grows.2);
  },
)
