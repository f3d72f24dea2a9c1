-- How the page of a book goes on.
use Rattle.std.proofs.Common.{◌≡◌, inl, inr, ⊎_elim, ℕ, ◌+◌, ◌-◌, ◌<◌, ◌≤◌, List, [], ◌∷◌, ◌++◌, Some, refl, sym, ap, ap₂, subst, ◌∙◌, arith, append-nil, append_assoc, map}
use Rattle.std.specs.List.{AllByRecursion}
use Rattle.std.proofs.lemmas.List.{map-append}
use Rattle.ic_disk.specs.declared.disk.Disk.{Ghosts}
use Rattle.ic_flights.specs.Flight.{FlightParts}
use Rattle.ic_jobs.specs.Job.{JobParts}
use Rattle.ic_jobs.specs.declared.event.Event.{Event}
use Rattle.ic_jobs.specs.declared.command.Command.{Command}
use Rattle.ic_jobs.specs.declared.event.Event.TheVariants.{Command as by_command, Round}
use Rattle.ic_jobs.specs.declared.event.Entry.{Entry}
use Rattle.ic_jobs.specs.declared.reply.Reply.{Reply}
use Rattle.ic_jobs.specs.History.{table_after}
use Rattle.ic_jobs.specs.Landing.{due}
use Rattle.ic_book.specs.declared.book.Book.{Book}
use Rattle.ic_book.specs.Book.{start_of, log_of, table_of}
use Rattle.ic_book.specs.Entries.{command_entry, round_entry}
use Rattle.ic_book.specs.Weight.{weigh, weight_of}
use Rattle.ic_book.specs.lemmas.Weights.{weigh_both, weigh_on}
use Rattle.ic_lines.specs.Turns.{turns}
use Rattle.ic_serving.specs.Booked.{last_kept, Advances, MakesRound, StaysPut}
use Rattle.ic_serving.specs.Grown.{IsSamePage, BeginsPage, GoesOn, GoesOnWithin, HasRoom, HasSpare}
use Rattle.ic_serving.proofs.RunLemmas.{turns_step}

senders_both : (a b : List Entry) → AllByRecursion (λ (e : Entry). e.who ≡ 0) a → AllByRecursion (λ (e : Entry). e.who ≡ 0) b → AllByRecursion (λ (e : Entry). e.who ≡ 0) (a ++ b)
senders_both [] b p q = q
senders_both (e ∷ es) b p q = (p.0, senders_both es b p.1 q)

-- ---- room, in numbers

spare : {limit : ℕ} (log more : ℕ) → log + more < limit → log < limit
spare log more room = omega (arith, room)

left_over : {limit : ℕ} (old all front rest log : ℕ) → old + all < limit → log ≡ old + front → all ≡ front + rest → log < limit
left_over old all front rest log room grown sum = omega (arith, room, grown, sum)

pub room_both : {limit : ℕ} (old all front rest : ℕ) → old + all < limit → all ≡ front + rest → old + front < limit
room_both old all front rest room sum = omega (arith, room, sum)

pub room_then : {limit : ℕ} (old all front rest log : ℕ) → old + all < limit → all ≡ front + rest → log ≡ old + front → log + rest < limit
room_then old all front rest log room sum grown = omega (arith, room, sum, grown)

pub one_more : {limit : ℕ} (old more new : ℕ) → old < limit → new ≡ old + more → new < limit + more
one_more old more new room grown = omega (arith, room, grown)

-- ---- pages

module _ {D : Type 0} {ghosts : Ghosts D} where
  pub goes_none : (book : Book D ghosts) → GoesOn [] book book
  goes_none book = record { entries = []; start = refl; log = sym (append-nil (log_of book)); events = refl; senders = tt }

  pub goes_same : (es : List Event) (old mid new : Book D ghosts) → GoesOn es old mid → IsSamePage mid new → GoesOn es old new
  goes_same es old mid new first same = record {
    entries = first.entries;
    start = same.start ∙ first.start;
    log = same.log ∙ first.log;
    events = first.events;
    senders = first.senders;
  }

  pub goes_after : (es : List Event) (old mid new : Book D ghosts) → IsSamePage old mid → GoesOn es mid new → GoesOn es old new
  goes_after es old mid new same more = record {
    entries = more.entries;
    start = more.start ∙ same.start;
    log = more.log ∙ ap (λ (h : List Entry). h ++ more.entries) same.log;
    events = more.events;
    senders = more.senders;
  }

  pub goes_then : (xs ys : List Event) (old mid new : Book D ghosts) → GoesOn xs old mid → GoesOn ys mid new → GoesOn (xs ++ ys) old new
  goes_then xs ys old mid new first more = record {
    entries = first.entries ++ more.entries;
    start = more.start ∙ first.start;
    log = more.log ∙ ap (λ (h : List Entry). h ++ more.entries) first.log ∙ append_assoc (log_of old) first.entries more.entries;
    events = map-append (λ (e : Entry). e.event) first.entries more.entries ∙ ap₂ (λ (a b : List Event). a ++ b) first.events more.events;
    senders = senders_both first.entries more.entries first.senders more.senders;
  }

  pub within_all : (es : List Event) (old new : Book D ghosts) → GoesOn es old new → GoesOnWithin es old new
  within_all es old new goes = record { front = es; rest = []; parted = sym (append-nil es); goes = goes }

  pub within_front : (front rest : List Event) (old new : Book D ghosts) → GoesOn front old new → GoesOnWithin (front ++ rest) old new
  within_front front rest old new goes = record { front = front; rest = rest; parted = refl; goes = goes }

  pub within_none : (es : List Event) (old new : Book D ghosts) → IsSamePage old new → GoesOnWithin es old new
  within_none es old new same = within_front [] es old new (goes_same [] old old new (goes_none old) same)

  pub same_then : (old mid new : Book D ghosts) → IsSamePage old mid → start_of new ≡ start_of mid → log_of new ≡ log_of mid → IsSamePage old new
  same_then old mid new same start log = record { start = start ∙ same.start; log = log ∙ same.log }

  -- a command, after a page that stays
  pub one_room : {limit : ℕ} (book : Book D ghosts) (c : Command) → HasRoom limit (by_command c ∷ []) book → HasSpare limit book
  one_room book c room = spare (weight_of (log_of book)) (weigh (by_command c ∷ [])) room

  pub command_goes : (c : Command) (reply : Reply) (old mid new : Book D ghosts) → IsSamePage old mid → start_of new ≡ start_of mid
      → log_of new ≡ log_of mid ++ command_entry 0 c reply ∷ [] → GoesOn (by_command c ∷ []) old new
  command_goes c reply old mid new same start log = goes_after (by_command c ∷ []) old mid new same
      (record { entries = command_entry 0 c reply ∷ []; start = start; log = log; events = refl; senders = (refl, tt) })

  -- one event, on a new page
  pub begins_page : (event : Event) (entry : Entry) (old mid new : Book D ghosts) → entry.event ≡ event → entry.who ≡ 0 → log_of mid ≡ [] → start_of mid ≡ table_of mid
      → table_of mid ≡ table_of old → start_of new ≡ start_of mid → log_of new ≡ log_of mid ++ entry ∷ [] → BeginsPage (event ∷ []) old new
  begins_page event entry old mid new is own none begun table start log =
      let one : log_of new ≡ entry ∷ [] = log ∙ ap (λ (h : List Entry). h ++ entry ∷ []) none in
      record {
        start = start ∙ begun ∙ table;
        events = ap (λ (h : List Entry). map (λ (e : Entry). e.event) h) one ∙ ap (λ (e : Event). e ∷ []) is;
        senders = subst (λ (h : List Entry). AllByRecursion (λ (e : Entry). e.who ≡ 0) h) (sym one) (own, tt);
      }

  -- what the log weighs after these events
  pub weighs_after : (es : List Event) (old new : Book D ghosts) → GoesOn es old new → weight_of (log_of new) ≡ weight_of (log_of old) + weigh es
  weighs_after es old new goes = weigh_on (log_of old) (log_of new) goes.entries es goes.log goes.events

  -- where there is room for all events, there is room after a front of them
  pub room_after : {limit : ℕ} (all front rest : List Event) (old book : Book D ghosts) → all ≡ front ++ rest → HasRoom limit all old → GoesOn front old book → HasSpare limit book
  room_after all front rest old book parted room goes =
      left_over (weight_of (log_of old)) (weigh all) (weigh front) (weigh rest) (weight_of (log_of book)) room (weighs_after front old book goes) (ap weigh parted ∙ weigh_both front rest)

  -- a round was made after a page that was begun or stays
  pub makes_round : {limit : ℕ} (after place : ℕ) (old mid new : Book D ghosts) (f : FlightParts) (reply : Reply) → due (table_of old) after ≡ Some f → place ≡ f.place
      → StaysPut limit old mid → (limit ≤ weight_of (log_of old) → log_of mid ≡ []) → (limit ≤ weight_of (log_of old) → start_of mid ≡ table_of mid)
      → Advances (Round f.name) mid new → start_of new ≡ start_of mid → log_of new ≡ log_of mid ++ round_entry f.name reply ∷ []
      → MakesRound limit after place old new
  makes_round after place old mid new f reply is_due here stays none begun advances start log = record {
    flight = f;
    is_due = is_due;
    here = here;
    advances = record {
      table = advances.table ∙ ap (λ (t : List JobParts). table_after t (Round f.name)) stays.table;
      kept = ⊎_elim
          (λ (a : last_kept new ≡ last_kept mid). ⊎_elim (λ (b : last_kept mid ≡ last_kept old). inl (a ∙ b)) (λ (b : last_kept mid ≡ table_of old). inr (a ∙ b)) stays.kept)
          (λ (a : last_kept new ≡ table_of mid). inr (a ∙ stays.table)) advances.kept;
    };
    page = λ room. goes_after (Round f.name ∷ []) old mid new (stays.page room)
        (record { entries = round_entry f.name reply ∷ []; start = start; log = log; events = refl; senders = (refl, tt) });
    turned = λ full. begins_page (Round f.name) (round_entry f.name reply) old mid new refl refl (none full) (begun full) stays.table start log;
  }

  -- ---- a run

  -- so many rounds of a run stand in the page, and the next is due from this place on
  pub record PageInRun (limit count made place : ℕ) (first book : Book D ghosts) : Type 0 where
    pub events : List Event
    pub parted : turns count 0 (table_of first) ≡ events ++ turns (count - made) place (table_of book)
    pub goes : HasRoom limit (turns count 0 (table_of first)) first → GoesOn events first book

  pub page_first : {limit : ℕ} (count : ℕ) (book : Book D ghosts) → PageInRun limit count 0 0 book book
  page_first count book = record {
    events = [];
    parted = (let same : count ≡ count - 0 = omega arith in ap (λ n. turns n 0 (table_of book)) same);
    goes = λ room. goes_none book;
  }

  module _ {limit : ℕ} (count made place : ℕ) (first book : Book D ghosts) (p : PageInRun limit count made place first book) where
    pub left : HasRoom limit (turns count 0 (table_of first)) first → HasSpare limit book
    left room = room_after (turns count 0 (table_of first)) p.events (turns (count - made) place (table_of book)) first book p.parted room (p.goes room)

    -- one round more, after which the page stays
    pub page_more : (f : FlightParts) (mid new : Book D ghosts) → made < count → due (table_of book) place ≡ Some f → table_of mid ≡ table_after (table_of book) (Round f.name)
        → (HasSpare limit book → GoesOn (Round f.name ∷ []) book mid) → table_of new ≡ table_of mid → IsSamePage mid new
        → PageInRun limit count (made + 1) (f.place + 1) first new
    page_more f mid new less is moved one table same =
        let next = turns_step count made place (table_of book) (table_of new) f less is (table ∙ moved) in
        record {
          events = p.events ++ Round f.name ∷ [];
          parted = p.parted ∙ ap (λ (xs : List Event). p.events ++ xs) next ∙ sym (append_assoc p.events (Round f.name ∷ []) (turns (count - (made + 1)) (f.place + 1) (table_of new)));
          goes = λ room. goes_same (p.events ++ Round f.name ∷ []) first mid new
              (goes_then p.events (Round f.name ∷ []) first book mid (p.goes room) (one (left room))) same;
        }

    -- the run is over
    pub page_whole : (new : Book D ghosts) → turns (count - made) place (table_of book) ≡ [] → IsSamePage book new → HasRoom limit (turns count 0 (table_of first)) first
        → GoesOn (turns count 0 (table_of first)) first new
    page_whole new none same room =
        let all : turns count 0 (table_of first) ≡ p.events = p.parted ∙ ap (λ (xs : List Event). p.events ++ xs) none ∙ append-nil p.events in
        subst (λ (es : List Event). GoesOn es first new) (sym all) (goes_same p.events first book new (p.goes room) same)

    -- a fault came
    pub page_within : (new : Book D ghosts) → (HasSpare limit book → IsSamePage book new) → HasRoom limit (turns count 0 (table_of first)) first
        → GoesOnWithin (turns count 0 (table_of first)) first new
    page_within new stays room =
        subst (λ (es : List Event). GoesOnWithin es first new) (sym p.parted)
        (within_front p.events (turns (count - made) place (table_of book)) first new (goes_same p.events first book new (p.goes room) (stays (left room))))
