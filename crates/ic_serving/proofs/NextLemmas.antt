-- Lines that are answered at once: one line, or a group.
use Rattle.std.proofs.Common.{◌≡◌, ◌⊎◌, inl, inr, ℕ, ◌+◌, ◌<◌, ◌≤◌, List, [], ◌∷◌, Result, Ok, Err, length, map, refl, ◌∙◌, arith}
use Rattle.std.specs.Prelude.{IfErr, IfOk, OnErr, OnOk, false}
use Rattle.ic_disk.specs.declared.disk.Disk.{Ghosts}
use Rattle.ic_jobs.specs.Job.{JobParts}
use Rattle.ic_jobs.specs.declared.command.Command.{Command}
use Rattle.ic_jobs.specs.declared.event.Event.{Event}
use Rattle.ic_commands.specs.LineText.{ReadsLine}
use Rattle.ic_commands.specs.declared.line.Line.TheVariants.{Command as Asks}
use Rattle.ic_lines.specs.Answers.{Reading, events}
use Rattle.ic_lines.specs.Taking.{BufferParts}
use Rattle.ic_book.specs.declared.book.Book.{Book}
use Rattle.ic_book.specs.Book.{is_broken, table_of}
use Rattle.ic_serving.specs.declared.fault.ServeFault.{ServeFault}
use Rattle.ic_serving.specs.Answered.{AskFor, by_group, by_line}
use Rattle.ic_serving.specs.Booked.{last_kept, Begins, IsAllKept}
use Rattle.ic_serving.specs.Faults.{ComesFor, ComesWithoutRound}
use Rattle.ic_serving.specs.Moments.{Leaves}
use Rattle.ic_serving.specs.Parts.{IsInFew, IsKeptWithin}
use Rattle.ic_serving.specs.inner.Group.{IsGroupBegun, IsGroupDone, IsNextAnswered, IsNextBegun, asked}
use Rattle.ic_serving.specs.inner.Reading.{IsAnsweredAs}
use Rattle.ic_serving.specs.lemmas.Leaving.{leaves_more}
use Rattle.ic_serving.specs.lemmas.Reaching.{SomeWay, kept_or_same}
use Rattle.ic_serving.specs.lemmas.Taken.{taken_out}
use Rattle.ic_serving.proofs.GroupLemmas.{passed_none}
use Rattle.ic_serving.proofs.ReadingLemmas.{line_answered}
use Rattle.ic_serving.proofs.ServeLemmas.{Joined, few_group, few_line, served_line}

-- the table that was kept, or one within these lines
line_within : (most : ℕ) (t kept : List JobParts) (line : List ℕ) (r : Reading) → 1 ≤ most → ReadsLine line r → (u : List JobParts) → IsKeptWithin t kept (events t r) u
    → (u ≡ kept) ⊎ IsInFew most t (line ∷ []) u
line_within most t kept line r one reads u (inl same) = inl same
line_within most t kept line r one reads u (inr part) = inr (few_line most t u line r one reads part)

group_within : Joined → SomeWay → (most : ℕ) (t kept : List JobParts) (line : List ℕ) (ls : List (List ℕ)) (c : Command) (cs : List Command) → length ls < most
    → ReadsLine line (Ok (Asks c)) → AskFor ls cs → (u : List JobParts) → IsKeptWithin t kept (asked (c ∷ cs)) u → (u ≡ kept) ⊎ IsInFew most t (line ∷ ls) u
group_within law some most t kept line ls c cs less reads asks u (inl same) = inl same
group_within law some most t kept line ls c cs less reads asks u (inr part) = inr (few_group law some most t u line ls c cs less reads asks part)

module _ {D : Type 0} {ghosts : Ghosts D} where
  module _ (law : Joined) (some : SomeWay) (most : ℕ) (before after : BufferParts) (old new : Book D ghosts) where
    done_answered : {limit : ℕ} (first : Command) (bytes : List ℕ) (count : ℕ) → ReadsLine before.line (Ok (Asks first)) → IsGroupDone limit most first before after bytes count old new
        → IsAllKept new → is_broken new ≡ false → IsNextAnswered limit most before after bytes count old new
    done_answered first bytes count reads d all whole =
        let served = taken_out (first ∷ d.commands) bytes old d.between d.taken in
        let counted = d.counted in
        let few = d.few in
        record {
          more = d.ls;
          took = d.took;
          counted = counted;
          few = few;
          answered = by_group (record {
            commands = first ∷ d.commands;
            asked = (reads, d.asks);
            between = d.between;
            taken = d.taken;
            kept = d.kept;
            table = d.table;
            all = all;
            whole = whole;
            fresh = d.fresh;
            page = d.come.page;
            calls = d.calls;
          });
          served = record {
            readings = map (λ (c : Command). Ok (Asks c)) (first ∷ d.commands);
            read = (reads, d.asks);
            answered = served.0;
            leaves = d.table ∙ served.1;
          };
          kept = inl all;
          crash = leaves_more old new (IsKeptWithin (table_of old) (last_kept old) (asked (first ∷ d.commands)))
              (λ u. (u ≡ last_kept old) ⊎ IsInFew most (table_of old) (before.line ∷ d.ls) u) d.come.crash
              (group_within law some most (table_of old) (last_kept old) before.line d.ls first d.commands (omega (arith, counted, few)) reads d.asks);
        }

    pub group_answered : {V : Type 0} (limit : ℕ) (first : Command) (r : Result V ServeFault) (items : V → List ℕ) (count : V → ℕ) → ReadsLine before.line (Ok (Asks first))
        → IfOk r (λ v. IsGroupDone limit most first before after (items v) (count v) old new) → OnOk r (IsAllKept new) → OnOk r (is_broken new ≡ false)
        → IfOk r (λ v. IsNextAnswered limit most before after (items v) (count v) old new)
    group_answered limit first (Ok v) items count reads done all whole = done_answered first (items v) (count v) reads done all whole
    group_answered limit first (Err e) items count reads done all whole = tt

    pub group_begun : {V : Type 0} (limit : ℕ) (first : Command) (r : Result V ServeFault) → ReadsLine before.line (Ok (Asks first)) → OnErr r (IsGroupBegun limit most first before after old new)
        → IfErr r ComesWithoutRound → IfErr r (λ fault. IsNextBegun most before after fault old new)
    group_begun limit first (Ok v) reads begun comes = tt
    group_begun limit first (Err e) reads b comes =
        let within = group_within law some most (table_of old) (last_kept old) before.line b.ls first b.commands b.few reads b.asks in
        record {
          more = b.ls;
          took = b.took;
          few = b.few;
          comes = record { reading = Ok (Asks first); read = reads; comes = comes };
          within = few_group law some most (table_of old) (table_of new) before.line b.ls first b.commands b.few reads b.asks b.begun.table;
          kept = within (last_kept new) b.begun.kept;
          crash = leaves_more old new (IsKeptWithin (table_of old) (last_kept old) (asked (first ∷ b.commands)))
              (λ u. (u ≡ last_kept old) ⊎ IsInFew most (table_of old) (before.line ∷ b.ls) u) b.crash within;
        }

  module _ (most : ℕ) (one : 1 ≤ most) (lines : BufferParts) (r : Reading) (old new : Book D ghosts) (reads : ReadsLine lines.line r) where
    line_crash : Leaves old new (IsKeptWithin (table_of old) (last_kept old) (events (table_of old) r)) → Leaves old new (λ u. (u ≡ last_kept old) ⊎ IsInFew most (table_of old) (lines.line ∷ []) u)
    line_crash crash = leaves_more old new (IsKeptWithin (table_of old) (last_kept old) (events (table_of old) r))
        (λ u. (u ≡ last_kept old) ⊎ IsInFew most (table_of old) (lines.line ∷ []) u) crash
        (line_within most (table_of old) (last_kept old) lines.line r one reads)

    pub one_answered : {limit : ℕ} (bytes : List ℕ) → IsAnsweredAs limit r bytes old new → Leaves old new (IsKeptWithin (table_of old) (last_kept old) (events (table_of old) r))
        → IsNextAnswered limit most lines lines bytes 1 old new
    one_answered bytes is crash = record {
      more = [];
      took = passed_none lines;
      counted = refl;
      few = one;
      answered = by_line lines.line refl (line_answered lines.line bytes r old new reads is);
      served = served_line (table_of old) lines.line bytes r (table_of new) reads is.answer is.table;
      kept = kept_or_same r old new is.kept;
      crash = line_crash crash;
    }

    pub one_begun : {limit : ℕ} (fault : ServeFault) → Begins limit (events (table_of old) r) old new → ComesFor (table_of old) r (table_of new) fault
        → Leaves old new (IsKeptWithin (table_of old) (last_kept old) (events (table_of old) r)) → IsNextBegun most lines lines fault old new
    one_begun fault begun comes crash = record {
      more = [];
      took = passed_none lines;
      few = omega (arith, one);
      comes = record { reading = r; read = reads; comes = comes };
      within = few_line most (table_of old) (table_of new) lines.line r one reads begun.table;
      kept = line_within most (table_of old) (last_kept old) lines.line r one reads (last_kept new) begun.kept;
      crash = line_crash crash;
    }
