-- What lines and parts tell of commands.
use Rattle.std.specs.Prelude.{flat_map}
use Rattle.std.proofs.Common.{◌≡◌, ℕ, List, [], ◌∷◌, ◌++◌, Ok, Err, refl, sym, ap, ap₂, subst, ◌∙◌, append-nil, append_assoc}
use Rattle.ic_disk.specs.declared.disk.Disk.{Ghosts}
use Rattle.ic_jobs.specs.declared.command.Command.{Command}
use Rattle.ic_jobs.specs.declared.event.Entry.{Entry}
use Rattle.ic_jobs.specs.declared.reply.Reply.{Reply}
use Rattle.ic_commands.specs.declared.line.Line.TheVariants.{Blank, Command as Asks, Run}
use Rattle.ic_commands.specs.LineText.{ReadsLine}
use Rattle.ic_commands.specs.ReplyText.{reply_text}
use Rattle.ic_lines.specs.Answers.{Reading}
use Rattle.ic_lines.specs.Lines.{ended as line_of}
use Rattle.ic_book.specs.declared.book.Book.{Book}
use Rattle.ic_book.specs.Entries.{command_entry}
use Rattle.ic_serving.specs.Answered.{AreAnsweredAtOnce, AreTaken, AskFor, IsAnswered, IsDoneFor, by_group, by_line}
use Rattle.ic_serving.specs.InTurn.{AreAnsweredInTurn, reply_for, replies_at_once, replies_in_turn, replies_taken}
use Rattle.ic_lives.specs.Histories.{answered}
use Rattle.ic_serving_laws.specs.Servings.{IsAnsweredBetween, Part, ended, stopped, other, entries_of, line_replies, answered_by}
use Rattle.ic_serving_laws.proofs.PartLemmas.{OneWay}

-- lines ask for just one list of commands
asks_one : OneWay → (ls : List (List ℕ)) (cs ds : List Command) → AskFor ls cs → AskFor ls ds → cs ≡ ds
asks_one law [] [] [] a b = refl
asks_one law [] (c ∷ cs) ds a b = absurd a
asks_one law [] [] (d ∷ ds) a b = absurd b
asks_one law (l ∷ ls) [] ds a b = absurd a
asks_one law (l ∷ ls) (c ∷ cs) [] a b = absurd b
asks_one law (l ∷ ls) (c ∷ cs) (d ∷ ds) a b =
    let both : Ok (Asks c) ≡ Ok (Asks d) = law l (Ok (Asks c)) (Ok (Asks d)) a.0 b.0 in
    let same : c ≡ d = cc in
    ap₂ (λ (x : Command) (xs : List Command). x ∷ xs) same (asks_one law ls cs ds a.1 b.1)

module _ {D : Type 0} {ghosts : Ghosts D} where
  -- ---- what lines tell

  one_entry : (reading : Reading) (bytes : List ℕ) (old new : Book D ghosts) (done : IsDoneFor reading bytes old new) (command : Command) → reading ≡ Ok (Asks command)
      → (reply : Reply) × (bytes ≡ line_of (reply_text reply)) × (reply_for reading bytes old new done ≡ command_entry 0 command reply ∷ [])
  one_entry reading bytes old new done command same = subst
      (λ (r : Reading). (is : IsDoneFor r bytes old new) → (reply : Reply) × (bytes ≡ line_of (reply_text reply)) × (reply_for r bytes old new is ≡ command_entry 0 command reply ∷ []))
      (sym same) (λ is. (is.reply, is.text, refl)) done

  no_entry : (reading : Reading) (bytes : List ℕ) (old new : Book D ghosts) (done : IsDoneFor reading bytes old new) → ((command : Command) → ¬ (reading ≡ Ok (Asks command)))
      → reply_for reading bytes old new done ≡ []
  no_entry (Ok Blank) bytes old new done none = refl
  no_entry (Ok (Asks command)) bytes old new done none = absurd (none command refl)
  no_entry (Ok (Run count)) bytes old new done none = refl
  no_entry (Err fault) bytes old new done none = refl

  record RepliesAt (limit : ℕ) (front back : List (List (List ℕ))) (group : List (List ℕ)) (first last : Book D ghosts) (turns : AreAnsweredInTurn limit (front ++ group ∷ back) first last) : Type 0 where
    here : IsAnsweredBetween limit front group back first last
    replies : replies_in_turn limit (front ++ group ∷ back) first last turns ≡ replies_in_turn limit front first here.before here.in_front
        ++ (replies_at_once limit group here.bytes here.before here.after here.answered ++ replies_in_turn limit back here.after last here.later)

  replies_at : (limit : ℕ) (front back : List (List (List ℕ))) (group : List (List ℕ)) (first last : Book D ghosts) (turns : AreAnsweredInTurn limit (front ++ group ∷ back) first last)
      → RepliesAt limit front back group first last turns
  replies_at limit [] back group first last turns = record {
    here = record { before = first; after = turns.0; bytes = turns.1; in_front = refl; answered = turns.2; later = turns.3 };
    replies = refl;
  }
  replies_at limit (one ∷ front) back group first last turns =
      let rest = replies_at limit front back group turns.0 last turns.3 in
      let at = rest.here in
      let own = replies_at_once limit one turns.1 first turns.0 turns.2 in
      record {
        here = record { before = at.before; after = at.after; bytes = at.bytes; in_front = (turns.0, turns.1, turns.2, at.in_front); answered = at.answered; later = at.later };
        replies = ap (λ (es : List Entry). own ++ es) rest.replies ∙ sym (append_assoc own (replies_in_turn limit front turns.0 at.before at.in_front)
            (replies_at_once limit group at.bytes at.before at.after at.answered ++ replies_in_turn limit back at.after last at.later));
      }

  -- the commands that are taken, with their replies
  taken_told : (cs : List Command) (bytes : List ℕ) (first last : Book D ghosts) (is : AreTaken cs bytes first last)
      → (replies : List Reply) × (bytes ≡ flat_map (λ (reply : Reply). line_of (reply_text reply)) replies) × (replies_taken cs bytes first last is ≡ entries_of cs replies)
  taken_told [] bytes first last is = ([], is.0, refl)
  taken_told (c ∷ cs) bytes first last is =
      let rest = taken_told cs is.2 is.0 last is.5 in (
        is.4.reply ∷ rest.0,
        is.3 ∙ ap₂ (λ (a b : List ℕ). a ++ b) is.4.text rest.1,
        ap (λ (es : List Entry). command_entry 0 c is.4.reply ∷ es) rest.2,
      )

  one_told : (limit : ℕ) → OneWay → (line bytes : List ℕ) (cs : List Command) (old new : Book D ghosts) (is : IsAnswered limit line bytes old new) → AskFor (line ∷ []) cs
      → (replies : List Reply) × (bytes ≡ flat_map (λ (reply : Reply). line_of (reply_text reply)) replies) × (reply_for is.reading bytes old new is.done ≡ entries_of cs replies)
  one_told limit law line bytes [] old new is asks = absurd asks
  one_told limit law line bytes (c ∷ d ∷ cs) old new is asks = absurd asks.1
  one_told limit law line bytes (c ∷ []) old new is asks =
      let own = one_entry is.reading bytes old new is.done c (law line is.reading (Ok (Asks c)) is.read asks.0) in
      (own.0 ∷ [], own.1 ∙ sym (append-nil (line_of (reply_text own.0))), own.2)

  at_once_told : (limit : ℕ) → OneWay → (group : List (List ℕ)) (bytes : List ℕ) (cs : List Command) (old new : Book D ghosts) (is : AreAnsweredAtOnce limit group bytes old new) → AskFor group cs
      → (replies : List Reply) × (bytes ≡ flat_map (λ (reply : Reply). line_of (reply_text reply)) replies) × (replies_at_once limit group bytes old new is ≡ entries_of cs replies)
  at_once_told limit law group bytes cs old new (by_line line one is) asks = one_told limit law line bytes cs old new is (subst (λ (ls : List (List ℕ)). AskFor ls cs) one asks)
  at_once_told limit law group bytes cs old new (by_group g) asks =
      let own = taken_told g.commands bytes old g.between g.taken in
      (own.0, own.1, own.2 ∙ ap (λ (ds : List Command). entries_of ds own.0) (asks_one law group g.commands cs g.asked asks))

  pub command_told : (limit : ℕ) → OneWay → (front back : List (List (List ℕ))) (group : List (List ℕ)) (commands : List Command)
      (first last : Book D ghosts) (turns : AreAnsweredInTurn limit (front ++ group ∷ back) first last) → AskFor group commands
      → (here : IsAnsweredBetween limit front group back first last) × (replies : List Reply) × (here.bytes ≡ flat_map (λ (reply : Reply). line_of (reply_text reply)) replies)
      × (replies_in_turn limit (front ++ group ∷ back) first last turns
      ≡ replies_in_turn limit front first here.before here.in_front ++ (entries_of commands replies ++ replies_in_turn limit back here.after last here.later))
  command_told limit law front back group commands first last turns asks =
      let is = replies_at limit front back group first last turns in
      let at = is.here in
      let own = at_once_told limit law group at.bytes commands at.before at.after at.answered asks in (
        at,
        own.0,
        own.1,
        is.replies ∙ ap (λ (es : List Entry). replies_in_turn limit front first at.before at.in_front ++ (es ++ replies_in_turn limit back at.after last at.later)) own.2,
      )

  -- a line that asks for no command tells none
  none_told : (limit : ℕ) (group : List (List ℕ)) (line bytes : List ℕ) (old new : Book D ghosts) (is : AreAnsweredAtOnce limit group bytes old new) → group ≡ line ∷ []
      → ((command : Command) → ¬ ReadsLine line (Ok (Asks command))) → replies_at_once limit group bytes old new is ≡ []
  none_told limit group line bytes old new (by_line text one is) same none =
      let alike : text ≡ line = cc in
      no_entry is.reading bytes old new is.done (λ command reads. none command (subst (λ (l : List ℕ). ReadsLine l (Ok (Asks command))) alike (subst (λ (r : Reading). ReadsLine text r) reads is.read)))
  none_told limit group line bytes old new (by_group g) same none = no_command g.commands bytes old g.between g.taken (subst (λ (ls : List (List ℕ)). AskFor ls g.commands) same g.asked)
    where
      no_command : (cs : List Command) (xs : List ℕ) (first last : Book D ghosts) (taken : AreTaken cs xs first last) → AskFor (line ∷ []) cs → replies_taken cs xs first last taken ≡ []
      no_command [] xs first last taken asks = refl
      no_command (c ∷ cs) xs first last taken asks = absurd (none c asks.0)

  pub other_told : (limit : ℕ) (front back : List (List (List ℕ))) (line : List ℕ) (first last : Book D ghosts) (turns : AreAnsweredInTurn limit (front ++ (line ∷ []) ∷ back) first last)
      → ((command : Command) → ¬ ReadsLine line (Ok (Asks command))) → (here : IsAnsweredBetween limit front (line ∷ []) back first last)
      × (replies_in_turn limit (front ++ (line ∷ []) ∷ back) first last turns ≡ replies_in_turn limit front first here.before here.in_front ++ replies_in_turn limit back here.after last here.later)
  other_told limit front back line first last turns none =
      let is = replies_at limit front back (line ∷ []) first last turns in
      let at = is.here in
      let own = none_told limit (line ∷ []) line at.bytes at.before at.after at.answered refl none in (
        at,
        is.replies ∙ ap (λ (es : List Entry). replies_in_turn limit front first at.before at.in_front ++ (es ++ replies_in_turn limit back at.after last at.later)) own,
      )

  -- ---- what parts tell

  pub parts_told : (later earlier : List (Part ghosts)) → answered_by (later ++ earlier) ≡ answered_by earlier ++ answered_by later
  parts_told [] earlier = sym (append-nil (answered_by earlier))
  parts_told (ended s ∷ later) earlier = ap (λ (es : List Entry). es ++ line_replies s) (parts_told later earlier) ∙ append_assoc (answered_by earlier) (answered_by later) (line_replies s)
  parts_told (stopped s found ∷ later) earlier = ap (λ (es : List Entry). es ++ line_replies s) (parts_told later earlier) ∙ append_assoc (answered_by earlier) (answered_by later) (line_replies s)
  parts_told (other moves server ∷ later) earlier = ap (λ (es : List Entry). es ++ answered moves) (parts_told later earlier) ∙ append_assoc (answered_by earlier) (answered_by later) (answered moves)
