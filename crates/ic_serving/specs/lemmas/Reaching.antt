-- Tables that lines reach, and what is kept after a line.
use Rattle.std.proofs.Common.{◌≡◌, ◌⊎◌, inl, inr, ℕ, List, [], ◌∷◌, ◌++◌, Ok, length, refl, sym, ap, subst, ◌∙◌, arith, append_assoc}
use Rattle.std.proofs.lemmas.List.{take_all}
use Rattle.ic_disk.specs.declared.disk.Disk.{Ghosts}
use Rattle.ic_jobs.specs.declared.event.Entry.{Entry}
use Rattle.ic_jobs.specs.Job.{JobParts}
use Rattle.ic_jobs.specs.History.{replay}
use Rattle.ic_commands.specs.declared.line.Line.TheVariants.{Run, Command as Asks}
use Rattle.ic_commands.specs.LineText.{ReadsLine}
use Rattle.ic_lines.specs.Answers.{Reading, events}
use Rattle.ic_lines.specs.Serving.{IsServed}
use Rattle.ic_book.specs.declared.book.Book.{Book}
use Rattle.ic_book.specs.Book.{IsUnchanged}
use Rattle.ic_book.specs.Left.{table_kept}
use Rattle.ic_serving.specs.Answered.{IsKeptFor}
use Rattle.ic_serving.specs.Booked.{IsAllKept}
use Rattle.ic_serving.specs.Parts.{IsInLine, IsInFirst}
use Rattle.ic_serving.specs.Stopped.{IsReached}

-- ---- where a table stands

-- each line is read somehow
abbrev pub SomeWay : Type 0
SomeWay = (text : List ℕ) → (a : Reading) × ReadsLine text a

-- before a line, none of its events has come
pub in_line : SomeWay → (u : List JobParts) (line : List ℕ) → IsInLine u line u
in_line law u line = let r = law line in record {
  reading = r.0;
  read = r.1;
  part = record { front = []; rest = events u r.0; parted = refl; leaves = refl };
}

pub in_first : SomeWay → (u : List JobParts) (ls : List (List ℕ)) → IsInFirst u ls u
in_first law u [] = refl
in_first law u (line ∷ ls) = in_line law u line

-- ---- what is reached

pub served_none : (t : List JobParts) → IsServed t [] [] t
served_none t = record { readings = []; read = tt; answered = refl; leaves = refl }

pub reached_now : SomeWay → (t : List JobParts) (ls : List (List ℕ)) → IsReached t ls t
reached_now law t ls = record {
  front = [];
  rest = ls;
  answers = [];
  between = t;
  parted = refl;
  within = record { few = omega arith; short = tt };
  served = served_none t;
  in_line = in_first law t ls;
}

-- more lines come
pub longer : SomeWay → (between u : List JobParts) (rest more : List (List ℕ)) → IsInFirst between rest u → IsInFirst between (rest ++ more) u
longer law between u [] more here = subst (IsInFirst between more) (sym here) (in_first law between more)
longer law between u (line ∷ rest) more here = here

pub reached_longer : SomeWay → (t : List JobParts) (ls more : List (List ℕ)) (u : List JobParts) → IsReached t ls u → IsReached t (ls ++ more) u
reached_longer law t ls more u r = record {
  front = r.front;
  rest = r.rest ++ more;
  answers = r.answers;
  between = r.between;
  parted = ap (λ xs. xs ++ more) r.parted ∙ append_assoc r.front r.rest more;
  within = r.within;
  served = r.served;
  in_line = longer law r.between u r.rest more r.in_line;
}

-- ---- what is kept

-- where all is kept, it is the table now
pub kept_all : (s t : List JobParts) (h : List Entry) (k : ℕ) → replay s h ≡ t → k ≡ length h → table_kept s h k ≡ t
kept_all s t h k is all = ap (replay s) (take_all k h (omega (arith, all))) ∙ is

module _ {D : Type 0} {ghosts : Ghosts D} where
  -- all is kept, or nothing has changed
  pub kept_or_same : (r : Reading) (old new : Book D ghosts) → IsKeptFor r old new → IsAllKept new ⊎ IsUnchanged old new
  kept_or_same (Ok (Asks command)) old new is = inl is
  kept_or_same (Ok (Run count)) old new is = inl is
  kept_or_same _ old new is = inr is
