-- What a crash in the midst of a call leaves, call by call.
use Rattle.std.proofs.Common.{true, false, Result, Ok, Err, ◌≡◌, ◌≢◌, ◌⊎◌, inl, inr, ⊎_elim, ℕ, ◌≤◌, List, [], ◌∷◌, ◌++◌, Option, length, refl, sym, ap, subst, ◌∙◌, arith, append-nil, append_assoc}
use Rattle.std.specs.Prelude.{IsTrue, IfErr, flat_map}
use Rattle.std.specs.List.{AllByRecursion}
use Rattle.std.specs.Result.{IsErrAnd}
use Rattle.std.specs.Io.KnownBytes.{Keeps}
use Rattle.std.proofs.lemmas.Bool.{cases_lt}
use Rattle.ic_disk.specs.declared.disk.Disk.{Ghosts}
use Rattle.ic_disk.specs.Images.{Within}
use Rattle.ic_disk.specs.Time.{LeavesOnly, LeftSince}
use Rattle.ic_disk.specs.lemmas.Moments.{leaves_weaker}
use Rattle.ic_jobs.specs.declared.command.Command.{Command}
use Rattle.ic_jobs.specs.declared.event.Entry.{Entry}
use Rattle.ic_jobs.specs.declared.event.Event.{Event}
use Rattle.ic_jobs.specs.declared.event.Event.TheVariants.{Command as by_command}
use Rattle.ic_jobs.specs.declared.reply.Reply.{Reply}
use Rattle.ic_jobs.specs.Job.{JobParts}
use Rattle.ic_jobs.specs.History.{table_after, replay}
use Rattle.ic_frames.specs.Fields.{IsMade}
use Rattle.ic_slots.specs.declared.keeper.Keeper.{Keeper}
use Rattle.ic_slots.specs.Held.{HoldsTable, HoldsEitherTable}
use Rattle.ic_slots.specs.Keeper as keeper_parts
use Rattle.ic_commands.specs.LineText.{ReadsLine}
use Rattle.ic_lines.specs.Turns.{after_events, turns}
use Rattle.ic_lines.specs.Answers.{Reading, events}
use Rattle.ic_lines.specs.Taking.{HasNoLine}
use Rattle.ic_book.specs.declared.book.Book.{Book}
use Rattle.ic_book.specs.Book.{is_broken, start_of, log_of, table_of, kept_of, keeper_of, disk_of, IsUnchanged}
use Rattle.ic_book.specs.Entries.{AddsCommand, command_entry}
use Rattle.ic_book.specs.Left.{HoldsKeptOrAll, table_kept}
use Rattle.ic_serving.specs.Booked.{last_kept, IsAllKept, StaysPut}
use Rattle.ic_serving.specs.Parts.{IsKeptWithin, IsInFew}
use Rattle.ic_serving.specs.Stopped.{HoldsOne, IsReached, MayStand}
use Rattle.ic_book.specs.ByCalls.{IsByCalls}
use Rattle.ic_serving.specs.Moments.{FaultLeaves, Leaves, IsKeptOrNow, IsKeptInLine}
use Rattle.ic_serving.specs.declared.fault.ServeFault.{ServeFault}
use Rattle.ic_serving.specs.declared.fault.ServeFault.TheVariants.{Read, Write, TooManyLines, Book as by_book, Pool, LongLine, Memory}
use Rattle.ic_text.specs.declared.limits.TheConstants.{MAX_TEXT}
use Rattle.ic_serving.specs.Faults.{ComesInLine, MayCome, CountsServe}
use Rattle.ic_serving.specs.Served.{OfLines, SaysOf, IsEnded, IsCut}
use Rattle.ic_serving.specs.Serving.{IsServing}
use Rattle.ic_serving.specs.Answered.{AreAnsweredAtOnce}
use Rattle.ic_serving.specs.InTurn.{AreAnsweredInTurn, AreServedInTurn}
use Rattle.ic_lines.specs.Serving.{IsServed}
use Rattle.ic_serving.specs.inner.Progress.{AreFirst, AreToCome, IsUnderWay, IsUntaken}
use Rattle.ic_book.specs.lemmas.Chains.{by_calls_then}
use Rattle.ic_serving.specs.lemmas.Leaving.{leaves_more, leaves_then, leaves_nothing}
use Rattle.ic_serving.proofs.LineLemmas.{kept_after}
use Rattle.ic_serving.proofs.RunLemmas.{InRun, run_begun}
use Rattle.ic_serving.specs.lemmas.Reaching.{SomeWay, reached_now, reached_longer}
use Rattle.ic_serving.proofs.TurnLemmas.{turns_more}
use Rattle.ic_serving.proofs.ServeLemmas.{Joined, of_lines, none_ahead, over, ended_at, cut_before, few_first, few_reached, left_first, may_come, counts_as}

-- ---- which tables

-- before any of some events
pub kept_or_now : (t kept : List JobParts) (es : List Event) (u : List JobParts) → (u ≡ kept) ⊎ (u ≡ t) → IsKeptWithin t kept es u
kept_or_now t kept es u (inl stays) = inl stays
kept_or_now t kept es u (inr now) = inr (record { front = []; rest = es; parted = refl; leaves = now })

-- after all of them
pub kept_or_all : (t kept : List JobParts) (es : List Event) (v w u : List JobParts) → v ≡ after_events t es → IsKeptWithin t kept es w
    → (u ≡ w) ⊎ (u ≡ v) → IsKeptWithin t kept es u
kept_or_all t kept es v w u all within (inl stays) = rw stays within
kept_or_all t kept es v w u all within (inr now) = inr (record { front = es; rest = []; parted = sym (append-nil es); leaves = now ∙ all })

-- in the midst of a run
pub kept_in_run : (t kept : List JobParts) (count made place : ℕ) (v w u : List JobParts) → InRun t kept count made place v w
    → (u ≡ w) ⊎ (u ≡ v) → IsKeptWithin t kept (turns count 0 t) u
kept_in_run t kept count made place v w u run either = (run_begun t kept count made place v w v u run refl either).1

-- within a line that is read so
pub kept_in_line : (t kept : List JobParts) (line : List ℕ) (r : Reading) (u : List JobParts) → ReadsLine line r → IsKeptWithin t kept (events t r) u
    → IsKeptInLine t kept line u
kept_in_line t kept line r u reads (inl stays) = inl stays
kept_in_line t kept line r u reads (inr part) = inr (record { reading = r; read = reads; part = part })

replay_more : (t : List JobParts) (h : List Entry) (e : Entry) → replay t (h ++ e ∷ []) ≡ table_after (replay t h) e.event
replay_more t [] e = refl
replay_more t (x ∷ xs) e = replay_more (table_after t x.event) xs e

pub all_or_not : (m n : ℕ) → (m ≡ n) ⊎ (m ≢ n)
all_or_not m n = ⊎_elim
    (λ less. inr (λ same. omega (arith, less, same)))
    (λ more. ⊎_elim (λ less. inr (λ same. omega (arith, less, same))) (λ fewer. inl (omega (arith, more, fewer))) (cases_lt n m))
    (cases_lt m n)

may_longer : SomeWay → (all : Type 0) (kept t : List JobParts) (ls more : List (List ℕ)) (u : List JobParts) → MayStand all kept t ls u → MayStand all kept t (ls ++ more) u
may_longer law all kept t ls more u (inl r) = inl (reached_longer law t ls more u r)
may_longer law all kept t ls more u (inr put) = inr put

-- ---- groups

small_more : (most : ℕ) (groups : List (List (List ℕ))) (ls : List (List ℕ)) → AllByRecursion (λ (group : List (List ℕ)). length group ≤ most) groups → length ls ≤ most
    → AllByRecursion (λ (group : List (List ℕ)). length group ≤ most) (groups ++ ls ∷ [])
small_more most [] ls small here = (here, tt)
small_more most (g ∷ gs) ls small here = (small.0, small_more most gs ls small.1 here)

flat_more : (groups : List (List (List ℕ))) (ls : List (List ℕ)) → flat_map (λ (group : List (List ℕ)). group) groups ++ ls ≡ flat_map (λ (group : List (List ℕ)). group) (groups ++ ls ∷ [])
flat_more [] ls = sym (append-nil ls)
flat_more (g ∷ gs) ls = append_assoc g (flat_map (λ (group : List (List ℕ)). group) gs) ls ∙ ap (λ (xs : List (List ℕ)). g ++ xs) (flat_more gs ls)

-- ---- calls

module _ {D : Type 0} {ghosts : Ghosts D} where
  -- a call after which the disk is the same
  pub leaves_still : (old mid new : Book D ghosts) (P : List JobParts → Type 0) → Leaves old mid P → keeper_of new ≡ keeper_of mid
      → IsByCalls mid new → Leaves old new P
  leaves_still old mid new P run keeper done =
      let disk : disk_of new ≡ disk_of mid = ap (λ (k : Keeper D ghosts). keeper_parts.disk_of k) keeper in
      record {
        keeps = ap ghosts.keeps disk ∙ run.keeps;
        stays = λ is. (ap ghosts.keeps disk ∙ (run.stays is).0, subst (λ (d : D). Within (ghosts.image d) IsMade) (sym disk) (run.stays is).1);
        any_moment = λ is. subst (λ (d : D). LeavesOnly ghosts.clock ghosts.left (disk_of old) d (HoldsOne P)) (sym disk) (run.any_moment is);
        done = by_calls_then old mid new run.done done;
      }

  -- a call of the book
  pub leaves_call : (old new : Book D ghosts) (a b : List JobParts) (P : List JobParts → Type 0)
      → ghosts.keeps (disk_of new) ≡ ghosts.keeps (disk_of old) → (IsTrue (ghosts.keeps (disk_of old)) → Within (ghosts.image (disk_of old)) IsMade → Within (ghosts.image (disk_of new)) IsMade)
      → (IsTrue (ghosts.keeps (disk_of old)) → Within (ghosts.image (disk_of old)) IsMade → LeavesOnly ghosts.clock ghosts.left (disk_of old) (disk_of new) (HoldsEitherTable a b))
      → IsByCalls old new → P a → P b → Leaves old new P
  leaves_call old new a b P keeps made run done first second = record {
    keeps = keeps;
    stays = λ is. (keeps ∙ is.0, made is.0 is.1);
    any_moment = λ is. leaves_weaker ghosts.clock ghosts.left (disk_of old) (disk_of new) (HoldsEitherTable a b) (HoldsOne P) (run is.0 is.1)
        (λ file holds. ⊎_elim (λ (h : HoldsTable a file). (a, first, h)) (λ (h : HoldsTable b file). (b, second, h)) holds);
    done = done;
  }

  -- a command that stands in the book
  pub leaves_command : {limit : ℕ} (old mid new : Book D ghosts) (c : Command) (r : Reply) → Leaves old mid (IsKeptOrNow old) → StaysPut limit old mid
      → replay (start_of mid) (log_of mid) ≡ table_of mid → kept_of mid ≤ length (log_of mid)
      → AddsCommand 0 c r (log_of mid) (log_of new) (table_of mid) (table_of new)
      → ghosts.keeps (disk_of new) ≡ ghosts.keeps (disk_of mid) → (IsTrue (ghosts.keeps (disk_of mid)) → Within (ghosts.image (disk_of mid)) IsMade → Within (ghosts.image (disk_of new)) IsMade)
      → (IsTrue (ghosts.keeps (disk_of mid)) → Within (ghosts.image (disk_of mid)) IsMade
      → LeavesOnly ghosts.clock ghosts.left (disk_of mid) (disk_of new) (HoldsKeptOrAll (start_of mid) (log_of new) (kept_of mid)))
      → IsByCalls mid new → Leaves old new (IsKeptWithin (table_of old) (last_kept old) (by_command c ∷ []))
  leaves_command old mid new c r so_far put replayed within adds keeps made run done =
      let kept_there : table_kept (start_of mid) (log_of new) (kept_of mid) ≡ last_kept mid =
      kept_after (start_of mid) (start_of mid) (log_of mid) (log_of new) (command_entry 0 c r) (kept_of mid) (kept_of mid) refl adds.entry refl within in
      let all_there : replay (start_of mid) (log_of new) ≡ table_after (table_of old) (by_command c) =
      ap (replay (start_of mid)) adds.entry ∙ replay_more (start_of mid) (log_of mid) (command_entry 0 c r)
      ∙ ap (λ y. table_after y (by_command c)) (replayed ∙ put.table) in
      leaves_then old mid new (IsKeptWithin (table_of old) (last_kept old) (by_command c ∷ [])) (IsKeptWithin (table_of old) (last_kept old) (by_command c ∷ []))
      (leaves_more old mid (IsKeptOrNow old) (IsKeptWithin (table_of old) (last_kept old) (by_command c ∷ [])) so_far
      (kept_or_now (table_of old) (last_kept old) (by_command c ∷ [])))
      (leaves_call mid new (table_kept (start_of mid) (log_of new) (kept_of mid)) (replay (start_of mid) (log_of new))
      (IsKeptWithin (table_of old) (last_kept old) (by_command c ∷ [])) keeps made run done
      (subst (IsKeptWithin (table_of old) (last_kept old) (by_command c ∷ [])) (sym kept_there) (kept_or_now (table_of old) (last_kept old) (by_command c ∷ []) (last_kept mid) put.kept))
      (inr (record { front = by_command c ∷ []; rest = []; parted = refl; leaves = all_there })))
      (λ u is. is)

  -- one step of a run
  pub leaves_in_run : (first book new : Book D ghosts) (count made place : ℕ) → InRun (table_of first) (last_kept first) count made place (table_of book) (last_kept book)
      → Leaves first book (IsKeptWithin (table_of first) (last_kept first) (turns count 0 (table_of first))) → Leaves book new (IsKeptOrNow book)
      → Leaves first new (IsKeptWithin (table_of first) (last_kept first) (turns count 0 (table_of first)))
  leaves_in_run first book new count made place run so_far step = leaves_then first book new
      (IsKeptWithin (table_of first) (last_kept first) (turns count 0 (table_of first))) (IsKeptOrNow book) so_far step
      (λ u either. kept_in_run (table_of first) (last_kept first) count made place (table_of book) (last_kept book) u run either)

  -- ---- lines

  -- a crash since the first book leaves what these lines reach
  abbrev pub LeavesServed : (first new : Book D ghosts) → List (List ℕ) → Type 0
  LeavesServed first new ls = Leaves first new (MayStand (IsAllKept first) (last_kept first) (table_of first) ls)

  -- groups of lines were answered in turn, each of at most so many
  pub record InGroups (limit most : ℕ) (front : List (List ℕ)) (first book : Book D ghosts) : Type 0 where
    pub groups : List (List (List ℕ))
    pub parted : front ≡ flat_map (λ (group : List (List ℕ)). group) groups
    pub small : AllByRecursion (λ (group : List (List ℕ)). length group ≤ most) groups
    pub answered : AreAnsweredInTurn limit groups first book

  pub groups_first : {limit : ℕ} (most : ℕ) (book : Book D ghosts) → InGroups limit most [] book book
  groups_first most book = record { groups = []; parted = refl; small = tt; answered = refl }

  pub groups_more : {limit : ℕ} (most : ℕ) (front ls : List (List ℕ)) (bytes : List ℕ) (first book new : Book D ghosts) → InGroups limit most front first book → length ls ≤ most
      → AreAnsweredAtOnce limit ls bytes book new → InGroups limit most (front ++ ls) first new
  groups_more most front ls bytes first book new g small is = record {
    groups = g.groups ++ ls ∷ [];
    parted = ap (λ (xs : List (List ℕ)). xs ++ ls) g.parted ∙ flat_more g.groups ls;
    small = small_more most g.groups ls g.small small;
    answered = turns_more g.groups ls bytes first book new g.answered is;
  }

  -- some lines were served, so many more may be, and what a crash leaves since the first book
  pub record Serves (limit most : ℕ) (text rest : Option (List ℕ)) (count left : ℕ) (first book : Book D ghosts) (old new : Option (List ℕ)) : Type 0 where
    pub way : IsUnderWay text rest left (table_of first) (table_of book) old new
    pub steps : count ≤ length way.front
    pub kept : IsAllKept first → IsAllKept book
    pub counted : ghosts.failures (disk_of book) ≡ ghosts.failures (disk_of first)
    pub ready : is_broken first ≡ false → is_broken book ≡ false
    pub broken : is_broken first ≡ true → is_broken book ≡ true
    pub last : IsAllKept book ⊎ (last_kept book ≡ last_kept first)
    pub turns : InGroups limit most way.front first book
    pub moments : LeavesServed first book way.front

  pub stops_first : SomeWay → (book : Book D ghosts)
      → ((file : List ℕ) → LeftSince (ghosts.left (disk_of book)) (ghosts.clock (disk_of book)) file → ghosts.image (disk_of book) file)
      → (IsTrue (ghosts.keeps (disk_of book)) → Within (ghosts.image (disk_of book)) IsMade → Within (ghosts.image (disk_of book)) (HoldsKeptOrAll (start_of book) (log_of book) (kept_of book)))
      → replay (start_of book) (log_of book) ≡ table_of book → IsByCalls book book → (IsAllKept book → last_kept book ≡ table_of book) → LeavesServed book book []
  stops_first law book images either replayed done whole = leaves_nothing book (MayStand (IsAllKept book) (last_kept book) (table_of book) []) images either replayed done
      (⊎_elim (λ all. inl (subst (IsReached (table_of book) []) (sym (whole all)) (reached_now law (table_of book) []))) (λ less. inr (less, refl))
      (all_or_not (kept_of book) (length (log_of book))))
      (inl (reached_now law (table_of book) []))

  -- more lines come
  pub stops_longer : SomeWay → (first new : Book D ghosts) (front more : List (List ℕ)) → LeavesServed first new front → LeavesServed first new (front ++ more)
  stops_longer law first new front more run =
      leaves_more first new (MayStand (IsAllKept first) (last_kept first) (table_of first) front) (MayStand (IsAllKept first) (last_kept first) (table_of first) (front ++ more)) run
      (may_longer law (IsAllKept first) (last_kept first) (table_of first) front more)

  -- the table that was kept, or one within the next lines
  abbrev pub IsKeptInFew : (most : ℕ) (book : Book D ghosts) → List (List ℕ) → List JobParts → Type 0
  IsKeptInFew most book ls u = (u ≡ last_kept book) ⊎ IsInFew most (table_of book) ls u

  pub stops_more : {limit : ℕ} → Joined → SomeWay → (most n : ℕ) (text rest : Option (List ℕ)) (count left : ℕ) (first book new : Book D ghosts) (old mid : Option (List ℕ)) (ls more : List (List ℕ))
      → (s : Serves limit most text rest count left first book old mid) → 1 ≤ n → n ≤ left → AllByRecursion (λ line. length line ≤ MAX_TEXT) ls
      → (IsAllKept book → last_kept book ≡ table_of book) → Leaves book new (IsKeptInFew n book ls) → LeavesServed first new (s.way.front ++ (ls ++ more))
  stops_more joined law most n text rest count left first book new old mid ls more s one few short whole step =
      leaves_then first book new (MayStand (IsAllKept first) (last_kept first) (table_of first) (s.way.front ++ (ls ++ more))) (IsKeptInFew n book ls)
      (stops_longer law first book s.way.front (ls ++ more) s.moments)
      step stands
    where
      within : (u : List JobParts) → IsInFew n (table_of book) ls u → IsReached (table_of first) (s.way.front ++ (ls ++ more)) u
      within u r = few_reached joined n left (table_of first) (table_of book) u s.way.front ls more s.way.answered.answers law s.way.answered.within s.way.counted few short
          s.way.answered.served r

      at_table : (u : List JobParts) → u ≡ table_of book → MayStand (IsAllKept first) (last_kept first) (table_of first) (s.way.front ++ (ls ++ more)) u
      at_table u same = inl (within u (few_first law n (table_of book) u ls one same))

      stands : (u : List JobParts) → IsKeptInFew n book ls u → MayStand (IsAllKept first) (last_kept first) (table_of first) (s.way.front ++ (ls ++ more)) u
      stands u (inr r) = inl (within u r)
      stands u (inl same) = ⊎_elim
          (λ (all : IsAllKept book). at_table u (same ∙ whole all))
          (λ (put : last_kept book ≡ last_kept first). ⊎_elim
          (λ all. at_table u (same ∙ whole (s.kept all)))
          (λ less. inr (less, same ∙ put))
          (all_or_not (kept_of first) (length (log_of first))))
          s.last

  pub same_lines : (front ls more : List (List ℕ)) (first new : Book D ghosts) → LeavesServed first new (front ++ (ls ++ more)) → LeavesServed first new ((front ++ ls) ++ more)
  same_lines front ls more first new run = subst (λ (xs : List (List ℕ)). LeavesServed first new xs) (sym (append_assoc front ls more)) run

  pub same_front : (front ls : List (List ℕ)) (first new : Book D ghosts) → LeavesServed first new (front ++ (ls ++ [])) → LeavesServed first new (front ++ ls)
  same_front front ls first new run = subst (λ (xs : List (List ℕ)). LeavesServed first new (front ++ xs)) (append-nil ls) run

  -- ---- the end of a serving

  in_turn : {limit : ℕ} (most : ℕ) (front : List (List ℕ)) (first book new : Book D ghosts) → InGroups limit most front first book → IsByCalls book new → AreServedInTurn limit most front first new
  in_turn most front first book new g after = record { groups = g.groups; parted = g.parted; small = g.small; between = book; answered = g.answered; after = after }

  -- all lines are answered
  pub serving_over : {limit : ℕ} {T : Type 0} (v : T) → SomeWay → (most : ℕ) (text rest : Option (List ℕ)) (count left : ℕ) (first book : Book D ghosts) (old mid new : Option (List ℕ))
      → Serves limit most text rest count left first book old mid → HasNoLine rest → Keeps mid new → IsByCalls book book
      → OfLines text (λ ls. IsServing {T = T} limit most (Ok v) ls first book old new)
  serving_over {limit} {T} v law most text rest count left first book old mid new s none kept idle =
      of_lines text rest s.way.front [] (λ ls. IsServing {T = T} limit most (Ok v) ls first book old new) s.way.first (none_ahead rest none) (record {
        front = s.way.front;
        rest = [];
        parted = refl;
        all = refl;
        turns = in_turn most s.way.front first book book s.turns idle;
        served = over s.way.front (table_of first) (table_of book) old mid new s.way.answered kept;
        kept = s.kept;
        ended = tt;
        cut = λ is. cc;
        kept_at_cut = λ is. cc;
        crash = stops_longer law first book s.way.front [] s.moments;
      })

  -- a fault came after these lines, and before those that are to come
  pub serving_err : {limit : ℕ} {T : Type 0} (r : Result T ServeFault) (fault : ServeFault) → IsErrAnd r (λ x. x ≡ fault)
      → (most : ℕ) (text rest : Option (List ℕ)) (front more : List (List ℕ)) (first book new : Book D ghosts) (old now : Option (List ℕ))
      → AreFirst text front rest → AreToCome rest more
      → (fault ≢ Write → IsEnded fault most (IsAllKept first) front more (table_of first) (table_of new) (last_kept new) old now)
      → (fault ≡ Write → IsCut most front (table_of first) (table_of new) old now) → (fault ≡ Write → IsAllKept first → IsAllKept new)
      → LeavesServed first new (front ++ more) → InGroups limit most front first book → IsByCalls book new → OfLines text (λ ls. IsServing limit most r ls first new old now)
  serving_err (Ok v) fault is most text rest front more first book new old now begins coming ended cut kept run turns after = absurd is
  serving_err {limit} {T} (Err e) fault is most text rest front more first book new old now begins coming ended cut kept run turns after =
      let same : e ≡ fault = is in
      of_lines text rest front more (λ ls. IsServing {T = T} limit most (Err e) ls first new old now) begins coming (record {
        front = front;
        rest = more;
        parted = refl;
        all = tt;
        turns = in_turn most front first book new turns after;
        served = tt;
        kept = tt;
        ended = λ other. subst (λ f. IsEnded f most (IsAllKept first) front more (table_of first) (table_of new) (last_kept new) old now) (sym same) (ended (λ write. other (same ∙ write)));
        cut = λ write. cut (let w : e ≡ Write = cc in sym same ∙ w);
        kept_at_cut = λ write. kept (let w : e ≡ Write = cc in sym same ∙ w);
        crash = run;
      })

  -- where no line is taken
  pub serving_untaken : {limit : ℕ} {T : Type 0} (r : Result T ServeFault) (fault : ServeFault) → IsErrAnd r (λ x. x ≡ fault) → SomeWay
      → (most : ℕ) (text rest : Option (List ℕ)) (count left : ℕ) (first book : Book D ghosts) (old mid new : Option (List ℕ)) (more : List (List ℕ)) → 1 ≤ most
      → (s : Serves limit most text rest count left first book old mid) → Keeps mid new → AreToCome rest more → SaysOf fault (table_of book) (table_of book) s.way.front more
      → (IsAllKept book → last_kept book ≡ table_of book) → IsByCalls book book
      → OfLines text (λ ls. IsServing limit most r ls first book old new)
  serving_untaken r fault is law most text rest count left first book old mid new more one s kept coming says whole idle =
      serving_err r fault is most text rest s.way.front more first book book old new s.way.first coming
      (λ other. ended_at fault most (IsAllKept first) s.way.front more (table_of first) (table_of book) (table_of book) (last_kept book) old mid new s.way.answered kept says
      (left_first law fault most (table_of book) (table_of book) more one refl) (λ all. left_first law fault most (table_of book) (last_kept book) more one (whole (s.kept all))))
      (λ write. cut_before most s.way.front (table_of first) (table_of book) old mid new s.way.answered kept)
      (λ write. s.kept)
      (stops_longer law first book s.way.front more s.moments) s.turns idle

  -- ---- the fault of a call

  -- a call after others that went well
  pub fault_after : {T U : Type 0} (r : Result T ServeFault) (fault : ServeFault) → IsErrAnd r (λ x. x ≡ fault) → (first book new : Book D ghosts)
      → ghosts.failures (disk_of book) ≡ ghosts.failures (disk_of first) → (is_broken first ≡ false → is_broken book ≡ false)
      → FaultLeaves {T = U} ComesInLine (Err fault) book new → FaultLeaves MayCome r first new
  fault_after (Ok v) fault is first book new counted ready left = absurd is
  fault_after {T} {U} (Err e) fault is first book new counted ready left =
      let same : e ≡ fault = is in
      let counts : CountsServe {T = T} (Err fault) (ghosts.failures (disk_of first)) (ghosts.failures (disk_of new)) =
      subst (λ n. CountsServe {T = T} (Err fault) n (ghosts.failures (disk_of new))) counted (counts_as U T fault (ghosts.failures (disk_of book)) (ghosts.failures (disk_of new)) left.counted) in
      rw same (record { causes = may_come fault left.causes; counted = counts; ready = λ whole. tt; breaks = λ whole. left.breaks (ready whole) })

  -- where no line is taken
  pub fault_untaken : {T : Type 0} (r : Result T ServeFault) (f : ServeFault) (left : ℕ) (rest : Option (List ℕ)) → IsErrAnd r (λ x. x ≡ f) → IsUntaken left f rest → (first book : Book D ghosts)
      → ghosts.failures (disk_of book) ≡ ghosts.failures (disk_of first) → (is_broken first ≡ false → is_broken book ≡ false)
      → FaultLeaves MayCome r first book
  fault_untaken (Ok v) f left rest is why first book counted ready = absurd is
  fault_untaken (Err e) Read left rest is why first book counted ready =
      let same : e ≡ Read = is in rw same (record { causes = tt; counted = counted; ready = λ whole. tt; breaks = ready })
  fault_untaken (Err e) Write left rest is why first book counted ready =
      let same : e ≡ Write = is in rw same (record { causes = tt; counted = counted; ready = λ whole. tt; breaks = ready })
  fault_untaken (Err e) TooManyLines left rest is why first book counted ready =
      let same : e ≡ TooManyLines = is in rw same (record { causes = tt; counted = counted; ready = λ whole. tt; breaks = ready })
  fault_untaken (Err e) LongLine left rest is why first book counted ready =
      let same : e ≡ LongLine = is in rw same (record { causes = tt; counted = counted; ready = λ whole. tt; breaks = ready })
  fault_untaken (Err e) Memory left rest is why first book counted ready =
      let same : e ≡ Memory = is in rw same (record { causes = tt; counted = counted; ready = λ whole. tt; breaks = ready })
  fault_untaken (Err e) (by_book b) left rest is why first book counted ready = absurd why
  fault_untaken (Err e) (Pool p) left rest is why first book counted ready = absurd why

  -- where an answer isn't written
  pub fault_unwritten : {T : Type 0} (r : Result T ServeFault) (fault : ServeFault) → IsErrAnd r (λ x. x ≡ fault) → fault ≡ Write → (first book : Book D ghosts)
      → ghosts.failures (disk_of book) ≡ ghosts.failures (disk_of first) → (is_broken first ≡ false → is_broken book ≡ false)
      → FaultLeaves MayCome r first book
  fault_unwritten (Ok v) fault is write first book counted ready = absurd is
  fault_unwritten (Err e) fault is write first book counted ready =
      let equal : e ≡ fault = is in
      let same : e ≡ Write = equal ∙ write in
      rw same (record { causes = tt; counted = counted; ready = λ whole. tt; breaks = ready })

  pub fault_memory : {T : Type 0} (r : Result T ServeFault) (book : Book D ghosts) → IfErr r (λ f. f ≡ Memory) → FaultLeaves ComesInLine r book book
  fault_memory (Ok v) book is = record { causes = tt; counted = refl; ready = λ whole. whole; breaks = λ whole. tt }
  fault_memory (Err f) book is = record { causes = rw is tt; counted = rw is refl; ready = λ whole. tt; breaks = λ whole. rw is whole }

  -- what a line leaves keeps
  pub still_all : (old new : Book D ghosts) → IsAllKept new ⊎ IsUnchanged old new → IsAllKept old → IsAllKept new
  still_all old new (inl all) was = all
  still_all old new (inr same) was = same.same_kept ∙ was ∙ ap length (sym same.same_log)

  pub still_last : (first old new : Book D ghosts) → IsAllKept new ⊎ IsUnchanged old new → IsAllKept old ⊎ (last_kept old ≡ last_kept first)
      → IsAllKept new ⊎ (last_kept new ≡ last_kept first)
  still_last first old new (inl all) was = inl all
  still_last first old new (inr same) (inl was) = inl (still_all old new (inr same) was)
  still_last first old new (inr same) (inr was) = inr (last_same ∙ was)
    where
      last_same : last_kept new ≡ last_kept old
      last_same = let s = same.same_start in let l = same.same_log in let k = same.same_kept in cc
