-- What a book keeps in memory, as its calls change it.
use Rattle.std.proofs.Common.{◌≡◌, ℕ, ◌+◌, ◌<◌, List, [], ◌∷◌, ◌++◌, ◌⊎◌, inl, inr, ⊎_elim, Bool, true, false, Option, Some, Result, Ok, IfOk, length, take, refl, sym, ◌∙◌, ap, subst, arith}
use Rattle.std.specs.List.{AllByRecursion}
use Rattle.std.specs.Option.{option_map, option_map_or}
use Rattle.std.proofs.lemmas.List.{length_push, take_all, take-append-le}
use Rattle.ic_jobs.specs.declared.command.Command.{Command}
use Rattle.ic_jobs.specs.declared.event.Entry.{Entry}
use Rattle.ic_jobs.specs.declared.landed.Landed.{Landed}
use Rattle.ic_jobs.specs.declared.landed.Landed.TheVariants.{Moved}
use Rattle.ic_jobs.specs.declared.reply.Reply.{Reply}
use Rattle.ic_jobs.specs.Job.{JobParts}
use Rattle.ic_jobs.specs.Table.{IsTable}
use Rattle.ic_jobs.specs.Events.{Outcome, apply, outcome}
use Rattle.ic_jobs.specs.History.{replay, table_after, reply_to, IsLegal}
use Rattle.ic_book.specs.declared.limits.TheConstants.{MAX_ENTRIES}
use Rattle.ic_book.specs.Entries.{Adds, RoundHasSenderZero, command_entry}
use Rattle.ic_book.specs.inner.Entering.{IsStale}
use Rattle.ic_book.specs.Kept.{IsHistory}
use Rattle.ic_book.specs.Left.{table_kept}

all_push : {X : Type 0} (P : X → Type 0) (xs : List X) (x : X) → AllByRecursion P xs → P x → AllByRecursion P (xs ++ x ∷ [])
all_push P [] x all here = (here, tt)
all_push P (y ∷ xs) x all here = (all.0, all_push P xs x all.1 here)

pub replay-push : (t : List JobParts) (es : List Entry) (e : Entry) → replay t (es ++ e ∷ []) ≡ table_after (replay t es) e.event
replay-push t [] e = refl
replay-push t (x ∷ es) e = replay-push (table_after t x.event) es e

pub IsLegal-push : (t : List JobParts) (es : List Entry) (e : Entry) → IsLegal t es → reply_to (replay t es) e.event ≡ Some e.reply → IsLegal t (es ++ e ∷ [])
IsLegal-push t [] e legal here = (here, tt)
IsLegal-push t (x ∷ es) e legal here = (legal.0, IsLegal-push (table_after t x.event) es e legal.1 here)

-- ---- one entry more

module _ (start : List JobParts) (log new_log : List Entry) (table new : List JobParts) (kept : ℕ) (broken : Bool) (e : Entry)
    (is : IsHistory start log table kept broken) (ready : broken ≡ false) (adds : Adds e log new_log table new) (room : length log < MAX_ENTRIES) (nobody : RoundHasSenderZero e) where
  event_here : apply (replay start log) e.event ≡ Some (outcome new e.reply)
  event_here = ap (λ (t : List JobParts). apply t e.event) is.replayed ∙ adds.event

  legal_after : IsLegal start new_log
  legal_after = subst (λ (es : List Entry). IsLegal start es) (sym adds.entry)
      (IsLegal-push start log e is.legal (ap (option_map (λ (o : Outcome). o.reply)) event_here))

  pub replayed_after : replay start new_log ≡ new
  replayed_after =
      ap (replay start) adds.entry ∙ replay-push start log e ∙ ap (λ (o : Option Outcome). option_map_or (λ (p : Outcome). p.table) o (replay start log)) event_here

  pub length_after : length new_log ≡ length log + 1
  length_after = ap length adds.entry ∙ length_push log e

  pub taken_after : take kept new_log ≡ take kept log
  taken_after = ap (take kept) adds.entry ∙ take-append-le kept log (e ∷ []) is.within

  pub table_kept_after : table_kept start new_log kept ≡ table_kept start log kept
  table_kept_after = ap (replay start) taken_after

  nobody_after : AllByRecursion RoundHasSenderZero new_log
  nobody_after = subst (λ (es : List Entry). AllByRecursion RoundHasSenderZero es) (sym adds.entry) (all_push RoundHasSenderZero log e is.round_senders nobody)

  sound_after : IsTable (table_kept start new_log kept)
  sound_after = subst IsTable (sym table_kept_after) is.sound

  -- any entry, which isn't kept
  pub unkept_after : (now : Bool) → IsHistory start new_log new kept now
  unkept_after now = record {
    legal = legal_after;
    replayed = replayed_after;
    short = omega (arith, room, length_after);
    within = omega (arith, is.within, length_after);
    round_senders = nobody_after;
    sound = sound_after;
  }

  pub table_all_after : (n : ℕ) → n ≡ length new_log → table_kept start new_log n ≡ new
  table_all_after n count = ap (table_kept start new_log) count ∙ ap (replay start) (take_all (length new_log) new_log (omega arith)) ∙ replayed_after

  -- any entry, where all is kept now
  pub all_kept_after : (now : Bool) (n : ℕ) → n ≡ length new_log → IsTable new → IsHistory start new_log new n now
  all_kept_after now n count sound = record {
    legal = legal_after;
    replayed = replayed_after;
    short = omega (arith, room, length_after);
    within = omega arith;
    round_senders = nobody_after;
    sound = subst IsTable (sym (table_all_after n count)) sound;
  }

  -- the table that was kept is the one after all, where that has stayed
  pub same_table_after : (n : ℕ) → n ≡ length new_log → new ≡ table → kept ≡ length log → table_kept start new_log n ≡ table_kept start log kept
  same_table_after n count same all =
      table_all_after n count ∙ same ∙ sym is.replayed ∙ sym (ap (replay start) (take_all (length log) log (omega arith))) ∙ ap (table_kept start log) (sym all)

  sound_if_same : new ≡ table → kept ≡ length log → IsTable new
  sound_if_same same all = subst IsTable (sym (same_table_after (length new_log) refl same all) ∙ table_all_after (length new_log) refl) is.sound

  -- an entry that leaves the table, where all was kept
  pub idle_after : (n : ℕ) → n ≡ length new_log → new ≡ table → kept ≡ length log → IsHistory start new_log new n broken
  idle_after n count same all = all_kept_after broken n count (sound_if_same same all)

-- a client's command may be sent by anybody
pub command_sent : (who : ℕ) (command : Command) (reply : Reply) → RoundHasSenderZero (command_entry who command reply)
command_sent who command reply round = let never : false ≡ true = round in cc

-- ---- a round, or no entry more

-- what a round leaves: one entry more, or nothing
abbrev pub Entered : Entry → (log new_log : List Entry) (table new : List JobParts) → Type 0
Entered e log new_log table new = ((new_log ≡ log) × (new ≡ table)) ⊎ Adds e log new_log table new

pub entered : {E : Type 0} (r : Result Landed E) (e : Entry) (log new_log : List Entry) (table new : List JobParts)
    → IfOk r (λ landed. landed ≡ Moved → Adds e log new_log table new) → (IsStale r → new_log ≡ log) → (IsStale r → new ≡ table) → Entered e log new_log table new
entered (Ok Moved) e log new_log table new moved same_log same_table = inr (moved refl)
entered _ e log new_log table new moved same_log same_table = inl (same_log tt, same_table tt)

module _ (start : List JobParts) (log new_log : List Entry) (table new : List JobParts) (kept : ℕ) (broken : Bool) (e : Entry)
    (is : IsHistory start log table kept broken) (ready : broken ≡ false) (room : length log < MAX_ENTRIES) (nobody : RoundHasSenderZero e) where
  pub round_entered : Entered e log new_log table new → IsHistory start new_log new kept broken
  round_entered = ⊎_elim
      (λ same. subst (λ (t : List JobParts). IsHistory start new_log t kept broken) (sym same.1) (subst (λ (es : List Entry). IsHistory start es table kept broken) (sym same.0) is))
      (λ adds. unkept_after start log new_log table new kept broken e is ready adds room nobody broken)

  pub table_kept_entered : Entered e log new_log table new → table_kept start new_log kept ≡ table_kept start log kept
  table_kept_entered = ⊎_elim
      (λ same. ap (λ (es : List Entry). table_kept start es kept) same.0)
      (λ adds. table_kept_after start log new_log table new kept broken e is ready adds room nobody)

-- ---- no entry more

module _ (start : List JobParts) (log : List Entry) (table : List JobParts) (kept : ℕ) (broken : Bool) (is : IsHistory start log table kept broken) where
  pub table_all : table_kept start log (length log) ≡ table
  table_all = ap (replay start) (take_all (length log) log (omega arith)) ∙ is.replayed

  -- all is kept now
  pub all_kept : (now : Bool) → IsTable table → IsHistory start log table (length log) now
  all_kept now sound = record {
    legal = is.legal;
    replayed = is.replayed;
    short = is.short;
    within = omega arith;
    round_senders = is.round_senders;
    sound = subst IsTable (sym table_all) sound;
  }

  -- the book broke
  pub broke_now : (now : Bool) → IsHistory start log table kept now
  broke_now now = record {
    legal = is.legal;
    replayed = is.replayed;
    short = is.short;
    within = is.within;
    round_senders = is.round_senders;
    sound = is.sound;
  }
