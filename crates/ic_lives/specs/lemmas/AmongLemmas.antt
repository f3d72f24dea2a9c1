-- What was answered stands among what a past has, and this among what has come.
use Rattle.std.proofs.Common.{◌≡◌, inl, inr, ℕ, ◌+◌, ◌≤◌, List, [], ◌∷◌, ◌++◌, length, take, drop, refl, sym, ap, subst, ◌∙◌, arith, append-nil, append_assoc}
use Rattle.std.proofs.lemmas.List.{take-append-drop, take-take, take_all, take-append-le, length-append}
use Rattle.ic_jobs.specs.declared.event.Entry.{Entry}
use Rattle.ic_jobs.specs.Job.{JobParts}
use Rattle.ic_jobs.specs.History.{replay}
use Rattle.ic_slots.specs.Held.{HoldsTable}
use Rattle.ic_book.specs.Entries.{command_entry, round_entry}
use Rattle.ic_book.specs.Moves.{Move, opens, refuses, answers, fails, takes, rounds, keeps, stays, closes, stops, brings}
use Rattle.ic_lives.specs.Past.{Past, Next, IsPast}
use Rattle.ic_lives.specs.Headline.{IsTableAfter, HoldsPrefixAfter}
use Rattle.ic_lives.specs.Histories.{answered, come, taken, StandAmong, IsHistoryOf}
use Rattle.ic_lives.specs.lemmas.RunLemmas.{Joins, legal_front}

-- ---- among others

pub among_self : (es : List Entry) → StandAmong es es
among_self [] = tt
among_self (e ∷ es) = inl (refl, among_self es)

pub among_after : (others es : List Entry) → StandAmong es (others ++ es)
among_after [] es = among_self es
among_after (o ∷ others) [] = tt
among_after (o ∷ others) (e ∷ es) = inr (among_after others (e ∷ es))

among_both : (es others more : List Entry) → StandAmong es others → StandAmong (es ++ more) (others ++ more)
among_both [] others more is = among_after others more
among_both (e ∷ es) [] more is = absurd is
among_both (e ∷ es) (o ∷ others) more (inl here) = inl (here.0, among_both es others more here.1)
among_both (e ∷ es) (o ∷ others) more (inr later) = inr (among_both (e ∷ es) others more later)

pub among_longer : (es others more : List Entry) → StandAmong es others → StandAmong es (others ++ more)
among_longer [] others more is = tt
among_longer (e ∷ es) [] more is = absurd is
among_longer (e ∷ es) (o ∷ others) more (inl here) = inl (here.0, among_longer es others more here.1)
among_longer (e ∷ es) (o ∷ others) more (inr later) = inr (among_longer (e ∷ es) others more later)

pub among_join : (es more others rest : List Entry) → StandAmong es others → StandAmong more rest → StandAmong (es ++ more) (others ++ rest)
among_join [] [] others rest is so = tt
among_join [] (m ∷ more) [] rest is so = so
among_join [] (m ∷ more) (o ∷ others) rest is so = inr (among_join [] (m ∷ more) others rest tt so)
among_join (e ∷ es) more [] rest is so = absurd is
among_join (e ∷ es) more (o ∷ others) rest (inl here) so = inl (here.0, among_join es more others rest here.1 so)
among_join (e ∷ es) more (o ∷ others) rest (inr later) so = inr (among_join (e ∷ es) more others rest later so)

pub among_trans : (es others all : List Entry) → StandAmong es others → StandAmong others all → StandAmong es all
among_trans [] others all is so = tt
among_trans (e ∷ es) [] all is so = absurd is
among_trans (e ∷ es) (o ∷ others) [] is so = absurd so
among_trans (e ∷ es) (o ∷ others) (a ∷ all) is (inr later) = inr (among_trans (e ∷ es) (o ∷ others) all is later)
among_trans (e ∷ es) (o ∷ others) (a ∷ all) (inl here) (inl there) = inl (here.0 ∙ there.0, among_trans es others all here.1 there.1)
among_trans (e ∷ es) (o ∷ others) (a ∷ all) (inr later) (inl there) = inr (among_trans (e ∷ es) others all later there.1)

among_first : (es rest others : List Entry) → StandAmong (es ++ rest) others → StandAmong es others
among_first [] rest others is = tt
among_first (e ∷ es) rest [] is = absurd is
among_first (e ∷ es) rest (o ∷ others) (inl here) = inl (here.0, among_first es rest others here.1)
among_first (e ∷ es) rest (o ∷ others) (inr later) = inr (among_first (e ∷ es) rest others later)

-- a front of what stands among others
among_front : (n : ℕ) (es others : List Entry) → StandAmong es others → StandAmong (take n es) others
among_front n es others is = among_first (take n es) (drop n es) others (subst (λ (l : List Entry). StandAmong l others) (sym (take-append-drop n es)) is)

-- among a longer front
among_more : (es others : List Entry) (m n : ℕ) → m ≤ n → StandAmong es (take m others) → StandAmong es (take n others)
among_more es others m n below is = subst (λ (l : List Entry). StandAmong es l) (take-append-drop m (take n others))
    (among_longer es (take m (take n others)) (drop m (take n others)) (subst (λ (l : List Entry). StandAmong es l) (sym (take-take m n others below)) is))

-- among all
among_all : (es others : List Entry) (m : ℕ) → StandAmong es (take m others) → StandAmong es others
among_all es others m is = subst (λ (l : List Entry). StandAmong es l) (take-append-drop m others) (among_longer es (take m others) (drop m others) is)

-- ---- what moves have answered

module _ (earlier : List Move) where
  -- what moves after others have answered stands in what all have, and so does what they have taken too
  record Joined (later : List Move) : Type 0 where
    answers : StandAmong (answered earlier ++ answered later) (answered (later ++ earlier))
    takes_too : StandAmong (answered earlier ++ (answered later ++ taken later)) (answered (later ++ earlier) ++ taken (later ++ earlier))

  -- one entry more at the end of both
  one_more : (later : List Move) (e : Entry) → Joined later
      → StandAmong (answered earlier ++ (answered later ++ (taken later ++ e ∷ []))) (answered (later ++ earlier) ++ (taken (later ++ earlier) ++ e ∷ []))
  one_more later e is =
      let old : answered earlier ++ (answered later ++ (taken later ++ e ∷ [])) ≡ (answered earlier ++ (answered later ++ taken later)) ++ e ∷ [] =
      ap (λ (l : List Entry). answered earlier ++ l) (sym (append_assoc (answered later) (taken later) (e ∷ [])))
      ∙ sym (append_assoc (answered earlier) (answered later ++ taken later) (e ∷ [])) in
      let new : answered (later ++ earlier) ++ (taken (later ++ earlier) ++ e ∷ []) ≡ (answered (later ++ earlier) ++ taken (later ++ earlier)) ++ e ∷ [] =
      sym (append_assoc (answered (later ++ earlier)) (taken (later ++ earlier)) (e ∷ [])) in
      subst (λ (l : List Entry). StandAmong l (answered (later ++ earlier) ++ (taken (later ++ earlier) ++ e ∷ []))) (sym old)
      (subst (λ (l : List Entry). StandAmong ((answered earlier ++ (answered later ++ taken later)) ++ e ∷ []) l) (sym new)
      (among_both (answered earlier ++ (answered later ++ taken later)) (answered (later ++ earlier) ++ taken (later ++ earlier)) (e ∷ []) is.takes_too))

  -- nothing is left that was taken and isn't answered
  none_taken : (es others : List Entry) → StandAmong (answered earlier ++ es) others → StandAmong (answered earlier ++ (es ++ [])) (others ++ [])
  none_taken es others is = subst (λ (l : List Entry). StandAmong (answered earlier ++ l) (others ++ [])) (sym (append-nil es))
      (subst (λ (l : List Entry). StandAmong (answered earlier ++ es) l) (sym (append-nil others)) is)

  joined : (later : List Move) → Joined later
  joined [] = record {
    answers = subst (λ (l : List Entry). StandAmong l (answered earlier)) (sym (append-nil (answered earlier))) (among_self (answered earlier));
    takes_too = subst (λ (l : List Entry). StandAmong l (answered earlier ++ taken earlier)) (sym (append-nil (answered earlier)))
        (among_longer (answered earlier) (answered earlier) (taken earlier) (among_self (answered earlier)));
  }
  joined (opens ∷ later) =
      let so = joined later in
      record { answers = so.answers; takes_too = none_taken (answered later) (answered (later ++ earlier)) so.answers }
  joined (refuses cause ∷ later) = let so = joined later in record { answers = so.answers; takes_too = so.takes_too }
  joined (answers who command reply ∷ later) =
      let e = command_entry who command reply in
      let so = one_more later e (joined later) in
      record { answers = so; takes_too = none_taken (answered later ++ (taken later ++ e ∷ [])) (answered (later ++ earlier) ++ (taken (later ++ earlier) ++ e ∷ [])) so }
  joined (fails who command reply ∷ later) = let so = joined later in record { answers = so.answers; takes_too = so.takes_too }
  joined (takes who command reply ∷ later) =
      let so = joined later in record { answers = so.answers; takes_too = one_more later (command_entry who command reply) so }
  joined (rounds name reply ∷ later) = let so = joined later in record { answers = so.answers; takes_too = so.takes_too }
  joined (keeps ∷ later) =
      let so = joined later in
      record { answers = so.takes_too; takes_too = none_taken (answered later ++ taken later) (answered (later ++ earlier) ++ taken (later ++ earlier)) so.takes_too }
  joined (stays ∷ later) = let so = joined later in record { answers = so.answers; takes_too = so.takes_too }
  joined (closes ∷ later) = let so = joined later in record { answers = so.answers; takes_too = so.takes_too }
  joined (stops move ∷ later) = let so = joined later in record { answers = so.answers; takes_too = so.takes_too }

  pub answered_join : (later : List Move) → StandAmong (answered earlier ++ answered later) (answered (later ++ earlier))
  answered_join later = (joined later).answers

  -- where all that was taken is answered, it is just this
  record Parted (later : List Move) : Type 0 where
    answers : answered (later ++ earlier) ≡ answered earlier ++ answered later
    takes_too : taken (later ++ earlier) ≡ taken later

  parted_more : (later : List Move) (e : Entry) → Parted later
      → answered (later ++ earlier) ++ (taken (later ++ earlier) ++ e ∷ []) ≡ answered earlier ++ (answered later ++ (taken later ++ e ∷ []))
  parted_more later e is =
      ap (λ (l : List Entry). l ++ (taken (later ++ earlier) ++ e ∷ [])) is.answers
      ∙ ap (λ (l : List Entry). (answered earlier ++ answered later) ++ (l ++ e ∷ [])) is.takes_too
      ∙ append_assoc (answered earlier) (answered later) (taken later ++ e ∷ [])

  parts : taken earlier ≡ [] → (later : List Move) → Parted later
  parts none [] = record { answers = sym (append-nil (answered earlier)); takes_too = none }
  parts none (opens ∷ later) = record { answers = (parts none later).answers; takes_too = refl }
  parts none (refuses cause ∷ later) = let so = parts none later in record { answers = so.answers; takes_too = so.takes_too }
  parts none (answers who command reply ∷ later) = record { answers = parted_more later (command_entry who command reply) (parts none later); takes_too = refl }
  parts none (fails who command reply ∷ later) = let so = parts none later in record { answers = so.answers; takes_too = so.takes_too }
  parts none (takes who command reply ∷ later) =
      let so = parts none later in record { answers = so.answers; takes_too = ap (λ (l : List Entry). l ++ command_entry who command reply ∷ []) so.takes_too }
  parts none (rounds name reply ∷ later) = let so = parts none later in record { answers = so.answers; takes_too = so.takes_too }
  parts none (keeps ∷ later) =
      let so = parts none later in
      record {
        answers = ap (λ (l : List Entry). l ++ taken (later ++ earlier)) so.answers ∙ ap (λ (l : List Entry). (answered earlier ++ answered later) ++ l) so.takes_too
            ∙ append_assoc (answered earlier) (answered later) (taken later);
        takes_too = refl;
      }
  parts none (stays ∷ later) = let so = parts none later in record { answers = so.answers; takes_too = so.takes_too }
  parts none (closes ∷ later) = let so = parts none later in record { answers = so.answers; takes_too = so.takes_too }
  parts none (stops move ∷ later) = let so = parts none later in record { answers = so.answers; takes_too = so.takes_too }

  pub answered_parts : taken earlier ≡ [] → (later : List Move) → answered (later ++ earlier) ≡ answered earlier ++ answered later
  answered_parts none later = (parts none later).answers

-- ---- of a past

record Tracks (moves : List Move) (past : Past) : Type 0 where
  answers : StandAmong (answered moves) (take past.lasting past.entries)
  takes_too : StandAmong (answered moves ++ taken moves) past.entries
  comes : StandAmong past.entries (come moves)
  within : past.lasting ≤ length past.entries

-- all entries last
tracks_all : (moves : List Move) (past : Past) → past.lasting ≡ length past.entries → taken moves ≡ [] → StandAmong (answered moves) past.entries → StandAmong past.entries (come moves) → Tracks moves past
tracks_all moves past all none there comes = record {
  answers = subst (λ (l : List Entry). StandAmong (answered moves) l) (sym (take_all past.lasting past.entries (omega (arith, all)))) there;
  takes_too = subst (λ (l : List Entry). StandAmong (answered moves ++ l) past.entries) (sym none)
      (subst (λ (l : List Entry). StandAmong l past.entries) (sym (append-nil (answered moves))) there);
  comes = comes;
  within = omega (arith, all);
}

-- entries come, and no more of them last
tracks_more : (move : Move) (moves : List Move) (old new : Past) (more : List Entry) → Tracks moves old → new.entries ≡ old.entries ++ more → new.lasting ≡ old.lasting
    → StandAmong (old.entries ++ more) (come (move ∷ moves)) → answered (move ∷ moves) ≡ answered moves → StandAmong (answered moves ++ taken (move ∷ moves)) (old.entries ++ more)
    → Tracks (move ∷ moves) new
tracks_more move moves old new more is grows same comes none takes_more =
    let long : length (old.entries ++ more) ≡ length old.entries + length more = length-append old.entries more in
    let shorter : take new.lasting new.entries ≡ take old.lasting old.entries =
    ap (λ (l : List Entry). take new.lasting l) grows ∙ ap (λ (n : ℕ). take n (old.entries ++ more)) same ∙ take-append-le old.lasting old.entries more is.within in
    let all : length new.entries ≡ length (old.entries ++ more) = ap length grows in
    record {
      answers = subst (λ (l : List Entry). StandAmong l (take new.lasting new.entries)) (sym none) (subst (λ (l : List Entry). StandAmong (answered moves) l) (sym shorter) is.answers);
      takes_too = subst (λ (l : List Entry). StandAmong (l ++ taken (move ∷ moves)) new.entries) (sym none)
          (subst (λ (l : List Entry). StandAmong (answered moves ++ taken (move ∷ moves)) l) (sym grows) takes_more);
      comes = subst (λ (l : List Entry). StandAmong l (come (move ∷ moves))) (sym grows) comes;
      within = omega (arith, same, is.within, long, all);
    }

-- nothing comes
tracks_still : (move : Move) (moves : List Move) (old new : Past) → Tracks moves old → new ≡ old → brings move ≡ [] → answered (move ∷ moves) ≡ answered moves → taken (move ∷ moves) ≡ taken moves
    → Tracks (move ∷ moves) new
tracks_still move moves old new is same nothing_comes none still = subst (λ (p : Past). Tracks (move ∷ moves) p) (sym same) (record {
  answers = subst (λ (l : List Entry). StandAmong l (take old.lasting old.entries)) (sym none) is.answers;
  takes_too = subst (λ (l : List Entry). StandAmong (l ++ taken (move ∷ moves)) old.entries) (sym none)
      (subst (λ (l : List Entry). StandAmong (answered moves ++ l) old.entries) (sym still) is.takes_too);
  comes = among_longer old.entries (come moves) (brings move) is.comes;
  within = is.within;
})

-- a command comes after what was taken
one_taken : (moves : List Move) (old new : Past) (e : Entry) → Tracks moves old → StandAmong (answered moves ++ (taken moves ++ e ∷ [])) (old.entries ++ e ∷ [])
one_taken moves old new e is = subst (λ (l : List Entry). StandAmong l (old.entries ++ e ∷ [])) (append_assoc (answered moves) (taken moves) (e ∷ []))
    (among_both (answered moves ++ taken moves) old.entries (e ∷ []) is.takes_too)

tracks_next : (move : Move) (moves : List Move) (old new : Past) → Tracks moves old → Next move old new → Tracks (move ∷ moves) new
tracks_next opens moves old new is step =
    tracks_all (opens ∷ moves) new step.lasting refl
    (subst (λ (l : List Entry). StandAmong (answered moves) l) (sym step.entries) (among_more (answered moves) old.entries old.lasting step.found step.spares is.answers))
    (subst (λ (l : List Entry). StandAmong l (come moves ++ [])) (sym step.entries) (among_front step.found old.entries (come moves ++ []) (among_longer old.entries (come moves) [] is.comes)))
tracks_next (refuses cause) moves old new is step = tracks_still (refuses cause) moves old new is step refl refl refl
tracks_next (answers who command reply) moves old new is step =
    let e = command_entry who command reply in
    tracks_all (answers who command reply ∷ moves) new step.1 refl
    (subst (λ (l : List Entry). StandAmong (answered moves ++ (taken moves ++ e ∷ [])) l) (sym step.0) (one_taken moves old new e is))
    (subst (λ (l : List Entry). StandAmong l (come moves ++ e ∷ [])) (sym step.0) (among_both old.entries (come moves) (e ∷ []) is.comes))
tracks_next (fails who command reply) moves old new is step =
    tracks_more (fails who command reply) moves old new (command_entry who command reply ∷ []) is step.0 step.1
    (among_both old.entries (come moves) (command_entry who command reply ∷ []) is.comes) refl
    (among_longer (answered moves ++ taken moves) old.entries (command_entry who command reply ∷ []) is.takes_too)
tracks_next (takes who command reply) moves old new is step =
    tracks_more (takes who command reply) moves old new (command_entry who command reply ∷ []) is step.0 step.1
    (among_both old.entries (come moves) (command_entry who command reply ∷ []) is.comes) refl
    (one_taken moves old new (command_entry who command reply) is)
tracks_next (rounds name reply) moves old new is step =
    tracks_more (rounds name reply) moves old new (round_entry name reply ∷ []) is step.0 step.1 (among_both old.entries (come moves) (round_entry name reply ∷ []) is.comes) refl
    (among_longer (answered moves ++ taken moves) old.entries (round_entry name reply ∷ []) is.takes_too)
tracks_next keeps moves old new is step =
    tracks_all (keeps ∷ moves) new step.1 refl
    (subst (λ (l : List Entry). StandAmong (answered moves ++ taken moves) l) (sym step.0) is.takes_too)
    (subst (λ (l : List Entry). StandAmong l (come moves ++ [])) (sym step.0) (among_longer old.entries (come moves) [] is.comes))
tracks_next stays moves old new is step = tracks_still stays moves old new is step refl refl refl
tracks_next closes moves old new is step = tracks_still closes moves old new is step refl refl refl
tracks_next (stops move) moves old new is step =
    tracks_more (stops move) moves old new (brings move) is step.0 step.1 (among_both old.entries (come moves) (brings move) is.comes) refl
    (among_longer (answered moves ++ taken moves) old.entries (brings move) is.takes_too)

tracks : (moves : List Move) (past : Past) → IsPast moves past → Tracks moves past
tracks [] past is = subst (λ (p : Past). Tracks [] p) (sym is) (record { answers = tt; takes_too = tt; comes = tt; within = omega arith })
tracks (move ∷ moves) past is = tracks_next move moves is.0 past (tracks moves is.0 is.1) is.2

-- ---- the headline by histories

pub table_stands : (moves : List Move) (table : List JobParts) → IsTableAfter moves table → (history : List Entry) × IsHistoryOf moves history × (table ≡ replay [] history)
table_stands moves table is =
    let t = tracks moves is.past is.comes in (
      is.past.entries,
      record { legal = is.tells.legal; answers = among_all (answered moves) is.past.entries is.past.lasting t.answers; comes = t.comes },
      is.tells.replayed,
    )

pub file_stands : Joins → (moves : List Move) (file : List ℕ) → HoldsPrefixAfter moves file → (history : List Entry) × IsHistoryOf moves history × HoldsTable (replay [] history) file
file_stands joins moves file is =
    let t = tracks moves is.past is.comes in (
      take is.tells.prefix is.past.entries,
      record {
        legal = legal_front joins is.past.entries is.tells.prefix is.tells.legal;
        answers = among_more (answered moves) is.past.entries is.past.lasting is.tells.prefix is.tells.lasting t.answers;
        comes = among_front is.tells.prefix is.past.entries (come moves) t.comes;
      },
      is.tells.holds,
    )
