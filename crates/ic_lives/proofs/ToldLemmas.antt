-- What moves tell of commands, and where an entry has come.
use Rattle.std.proofs.Common.{◌≡◌, ◌⊎◌, inl, inr, ℕ, List, [], ◌∷◌, ◌++◌, refl, sym, ap, subst, ◌∙◌, append-nil, append_assoc}
use Rattle.ic_jobs.specs.declared.command.Command.{Command}
use Rattle.ic_jobs.specs.declared.event.Entry.{Entry}
use Rattle.ic_jobs.specs.declared.reply.Reply.{Reply}
use Rattle.ic_book.specs.Entries.{command_entry, round_entry}
use Rattle.ic_book.specs.Moves.{Move, opens, refuses, answers, fails, takes, rounds, keeps, stays, closes, stops, brings}
use Rattle.ic_lives.specs.Histories.{answered, come, taken, StandAmong}
use Rattle.ic_lives.specs.lemmas.AmongLemmas.{answered_parts}
use Rattle.ic_lives.proofs.WordLemmas.{among_at}

-- ---- what has come

abbrev tail_of : List Entry → List Entry
tail_of [] = []
tail_of (e ∷ es) = es

abbrev head_or : Entry → List Entry → Entry
head_or first [] = first
head_or first (e ∷ es) = e

none_left : (xs ys : List Entry) (e : Entry) → [] ≡ xs ++ e ∷ ys → ⊥
none_left [] ys e is = let never : [] ≡ e ∷ ys = is in cc
none_left (x ∷ xs) ys e is = let never : [] ≡ x ∷ (xs ++ e ∷ ys) = is in cc

-- an entry of a longer list is the last one, or stands before it
record IsEarlier (xs before after : List Entry) (x e : Entry) : Type 0 where
  rest : List Entry
  back : after ≡ rest ++ x ∷ []
  here : xs ≡ before ++ e ∷ rest

record IsLast (xs before after : List Entry) (x e : Entry) : Type 0 where
  none : after ≡ []
  front : xs ≡ before
  same : x ≡ e

longer : (y b : Entry) (xs before after : List Entry) (x e : Entry) → y ≡ b → IsLast xs before after x e ⊎ IsEarlier xs before after x e
    → IsLast (y ∷ xs) (b ∷ before) after x e ⊎ IsEarlier (y ∷ xs) (b ∷ before) after x e
longer y b xs before after x e first (inl last) = inl (record { none = last.none; front = (λ i. first i ∷ last.front i); same = last.same })
longer y b xs before after x e first (inr earlier) = inr (record { rest = earlier.rest; back = earlier.back; here = (λ i. first i ∷ earlier.here i) })

last_or_earlier : (xs before after : List Entry) (x e : Entry) → xs ++ x ∷ [] ≡ before ++ e ∷ after → IsLast xs before after x e ⊎ IsEarlier xs before after x e
last_or_earlier [] [] after x e is = inl (record { none = sym (ap tail_of is); front = refl; same = ap (head_or x) is })
last_or_earlier [] (b ∷ before) after x e is = absurd (none_left before after e (ap tail_of is))
last_or_earlier (y ∷ xs) [] after x e is = inr (record { rest = xs; back = sym (ap tail_of is); here = ap (λ (z : Entry). z ∷ xs) (ap (head_or y) is) })
last_or_earlier (y ∷ xs) (b ∷ before) after x e is = longer y b xs before after x e (ap (head_or y) is) (last_or_earlier xs before after x e (ap tail_of is))

-- the move that brought an entry, and what has come before and after it
record ComesAt (moves : List Move) (before after : List Entry) (e : Entry) : Type 0 where
  later : List Move
  earlier : List Move
  move : Move
  parted : moves ≡ later ++ move ∷ earlier
  brought : brings move ≡ e ∷ []
  first : come earlier ≡ before
  next : come later ≡ after

abbrev BringsFew : Move → Type 0
BringsFew move = (brings move ≡ []) ⊎ ((x : Entry) × (brings move ≡ x ∷ []))

brings_few : (move : Move) → BringsFew move
brings_few opens = inl refl
brings_few (refuses cause) = inl refl
brings_few (answers who command reply) = inr (command_entry who command reply, refl)
brings_few (fails who command reply) = inr (command_entry who command reply, refl)
brings_few (takes who command reply) = inr (command_entry who command reply, refl)
brings_few (rounds name reply) = inr (round_entry name reply, refl)
brings_few keeps = inl refl
brings_few stays = inl refl
brings_few closes = inl refl
brings_few (stops move) = brings_few move

module _ (m : Move) (ms : List Move) (before after : List Entry) (e : Entry) where
  -- it was brought by an earlier move
  further : (rest more : List Entry) → brings m ≡ more → after ≡ rest ++ more → ComesAt ms before rest e → ComesAt (m ∷ ms) before after e
  further rest more last back is = record {
    later = m ∷ is.later;
    earlier = is.earlier;
    move = is.move;
    parted = ap (λ (l : List Move). m ∷ l) is.parted;
    brought = is.brought;
    first = is.first;
    next = ap (λ (es : List Entry). come is.later ++ es) last ∙ ap (λ (es : List Entry). es ++ more) is.next ∙ sym back;
  }

  by_last : (x : Entry) → brings m ≡ x ∷ [] → IsLast (come ms) before after x e ⊎ IsEarlier (come ms) before after x e
      → ((rest : List Entry) → come ms ≡ before ++ e ∷ rest → ComesAt ms before rest e) → ComesAt (m ∷ ms) before after e
  by_last x one (inl last) so_far = record {
    later = [];
    earlier = ms;
    move = m;
    parted = refl;
    brought = one ∙ ap (λ (y : Entry). y ∷ []) last.same;
    first = last.front;
    next = sym last.none;
  }
  by_last x one (inr earlier) so_far = further earlier.rest (x ∷ []) one earlier.back (so_far earlier.rest earlier.here)

  by_bringing : BringsFew m → come ms ++ brings m ≡ before ++ e ∷ after
      → ((rest : List Entry) → come ms ≡ before ++ e ∷ rest → ComesAt ms before rest e) → ComesAt (m ∷ ms) before after e
  by_bringing (inl none) is so_far =
      let all = sym (append-nil (come ms)) ∙ ap (λ (es : List Entry). come ms ++ es) (sym none) ∙ is in
      further after [] none (sym (append-nil after)) (so_far after all)
  by_bringing (inr one) is so_far =
      by_last one.0 one.1 (last_or_earlier (come ms) before after one.0 e (ap (λ (es : List Entry). come ms ++ es) (sym one.1) ∙ is)) so_far

comes_at : (moves : List Move) (before after : List Entry) (e : Entry) → come moves ≡ before ++ e ∷ after → ComesAt moves before after e
comes_at [] before after e is = absurd (none_left before after e is)
comes_at (m ∷ ms) before after e is = by_bringing m ms before after e (brings_few m) is (λ rest. comes_at ms before rest e)

pub brought_at : (moves : List Move) (front back : List Entry) (e : Entry) → StandAmong (front ++ e ∷ back) (come moves)
    → (later earlier : List Move) × (move : Move) × (moves ≡ later ++ move ∷ earlier) × (brings move ≡ e ∷ [])
    × StandAmong front (come earlier) × StandAmong back (come later)
brought_at moves front back e is =
    let among = among_at front back (come moves) e is in
    let at = comes_at moves among.0 among.1 e among.2 in (
      at.later,
      at.earlier,
      at.move,
      at.parted,
      at.brought,
      subst (λ (es : List Entry). StandAmong front es) (sym at.first) among.3,
      subst (λ (es : List Entry). StandAmong back es) (sym at.next) among.4,
    )

-- ---- what moves have answered

pub answer_told : (later earlier : List Move) (who : ℕ) (command : Command) (reply : Reply)
    → answered (later ++ answers who command reply ∷ earlier) ≡ (answered earlier ++ taken earlier) ++ command_entry who command reply ∷ answered later
answer_told later earlier who command reply =
    let one = command_entry who command reply ∷ [] in
    answered_parts (answers who command reply ∷ earlier) refl later ∙ ap (λ (l : List Entry). l ++ answered later) (sym (append_assoc (answered earlier) (taken earlier) one))
    ∙ append_assoc (answered earlier ++ taken earlier) one (answered later)
