-- What lasts begins each later past.
use Rattle.std.proofs.Common.{◌≡◌, ℕ, ◌+◌, ◌≤◌, List, [], ◌∷◌, ◌++◌, length, take, refl, sym, ap, subst, ◌∙◌, arith}
use Rattle.std.proofs.lemmas.List.{take-take, take_all, take-append-le, length-take-le, length-append}
use Rattle.ic_jobs.specs.declared.command.Command.{Command}
use Rattle.ic_jobs.specs.declared.event.Entry.{Entry}
use Rattle.ic_jobs.specs.declared.reply.Reply.{Reply}
use Rattle.ic_book.specs.Entries.{command_entry, round_entry}
use Rattle.ic_book.specs.Moves.{Move, opens, refuses, answers, fails, takes, rounds, keeps, stays, closes, stops, brings}
use Rattle.ic_lives.specs.Past.{Past, Cuts, Next, Leads, IsPast}

-- all that lasted then begins what has come now, and lasts
record Begins (then now : Past) : Type 0 where
  front : take then.lasting now.entries ≡ take then.lasting then.entries
  lasting : then.lasting ≤ now.lasting
  within : now.lasting ≤ length now.entries

-- entries come
grown : (then old new : Past) (more : List Entry) → Begins then old → new.entries ≡ old.entries ++ more → old.lasting ≤ new.lasting → new.lasting ≤ length new.entries → Begins then new
grown then old new more is grows later within = record {
  front = ap (take then.lasting) grows ∙ take-append-le then.lasting old.entries more (omega (arith, is.lasting, is.within)) ∙ is.front;
  lasting = omega (arith, is.lasting, later);
  within = within;
}

-- no more of them last
passing : (then old new : Past) (more : List Entry) → Begins then old → new.entries ≡ old.entries ++ more → new.lasting ≡ old.lasting → Begins then new
passing then old new more is grows same =
    let long : length new.entries ≡ length old.entries + length more = ap length grows ∙ length-append old.entries more in
    grown then old new more is grows (omega (arith, same)) (omega (arith, same, long, is.within))

-- all of them do
lasting_all : (then old new : Past) (more : List Entry) → Begins then old → new.entries ≡ old.entries ++ more → new.lasting ≡ length new.entries → Begins then new
lasting_all then old new more is grows all =
    let long : length new.entries ≡ length old.entries + length more = ap length grows ∙ length-append old.entries more in
    grown then old new more is grows (omega (arith, all, long, is.within)) (omega (arith, all))

kept : (then old new : Past) → Begins then old → new.entries ≡ old.entries → new.lasting ≡ length new.entries → Begins then new
kept then old new is same all =
    let long : length new.entries ≡ length old.entries = ap length same in
    record {
      front = ap (take then.lasting) same ∙ is.front;
      lasting = omega (arith, is.lasting, is.within, all, long);
      within = omega (arith, all);
    }

-- a prefix is found
cut : (then old new : Past) → Begins then old → Cuts old new → Begins then new
cut then old new is cuts =
    let long : length new.entries ≡ cuts.found = ap length cuts.entries ∙ length-take-le cuts.found old.entries cuts.within in
    record {
      front = ap (take then.lasting) cuts.entries ∙ take-take then.lasting cuts.found old.entries (omega (arith, is.lasting, cuts.spares)) ∙ is.front;
      lasting = omega (arith, is.lasting, cuts.spares, cuts.lasting, long);
      within = omega (arith, cuts.lasting);
    }

next : (move : Move) (then old new : Past) → Begins then old → Next move old new → Begins then new
next opens then old new is step = cut then old new is step
next (refuses cause) then old new is step = subst (Begins then) (sym step) is
next (answers who command reply) then old new is step = lasting_all then old new (command_entry who command reply ∷ []) is step.0 step.1
next (fails who command reply) then old new is step = passing then old new (command_entry who command reply ∷ []) is step.0 step.1
next (takes who command reply) then old new is step = passing then old new (command_entry who command reply ∷ []) is step.0 step.1
next (rounds name reply) then old new is step = passing then old new (round_entry name reply ∷ []) is step.0 step.1
next keeps then old new is step = kept then old new is step.0 step.1
next stays then old new is step = subst (Begins then) (sym step) is
next closes then old new is step = subst (Begins then) (sym step) is
next (stops move) then old new is step = passing then old new (brings move) is step.0 step.1

begins : (later : List Move) (then now : Past) → then.lasting ≤ length then.entries → Leads later then now → Begins then now
begins [] then now within is = subst (Begins then) (sym is) (record { front = refl; lasting = omega arith; within = within })
begins (move ∷ later) then now within is = next move then is.0 now (begins later then is.0 within is.1) is.2

pub lasting_stays : (later : List Move) (then now : Past) → then.lasting ≤ length then.entries → Leads later then now
    → (take then.lasting now.entries ≡ take then.lasting then.entries) × (then.lasting ≤ now.lasting)
lasting_stays later then now within is = let b = begins later then now within is in (b.front, b.lasting)

-- where all lasts, all stays
pub all_stays : (later : List Move) (then now : Past) → then.lasting ≡ length then.entries → Leads later then now
    → take (length then.entries) now.entries ≡ then.entries
all_stays later then now all is =
    let b = begins later then now (omega (arith, all)) is in
    ap (λ (n : ℕ). take n now.entries) (sym all) ∙ b.front ∙ take_all then.lasting then.entries (omega (arith, all))

-- a past of some moves goes on from one of the earlier ones
pub parted : (later earlier : List Move) (first now : Past) → Leads (later ++ earlier) first now → (then : Past) × Leads earlier first then × Leads later then now
parted [] earlier first now is = (now, is, refl)
parted (move ∷ later) earlier first now is =
    let rest = parted later earlier first is.0 is.1 in
    (rest.0, rest.1, (is.0, rest.2, is.2))

pub joined : (later earlier : List Move) (first then now : Past) → Leads earlier first then → Leads later then now → Leads (later ++ earlier) first now
joined [] earlier first then now front back = subst (λ (p : Past). Leads earlier first p) (sym back) front
joined (move ∷ later) earlier first then now front back = (back.0, joined later earlier first then back.0 front back.1, back.2)

pub answer_stays : (later earlier : List Move) (who : ℕ) (command : Command) (reply : Reply) (now : Past) → IsPast (later ++ answers who command reply ∷ earlier) now
    → (then : Past) × IsPast (answers who command reply ∷ earlier) then × (take (length then.entries) now.entries ≡ then.entries)
answer_stays later earlier who command reply now is =
    let there = parted later (answers who command reply ∷ earlier) (record { entries = []; lasting = 0 }) now is in
    (there.0, there.1, all_stays later there.0 now there.1.2.1 there.2)
