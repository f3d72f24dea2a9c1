-- What two files hold, and that it is one state.
use Rattle.std.proofs.Common.{◌≡◌, ◌⊎◌, inl, inr, ℕ, ◌+◌, ◌<◌, ◌≤◌, Bool, true, false, List, length, sym, ◌∙◌, ap, subst, arith}
use Rattle.ic_disk.specs.Content.{bytes_at}
use Rattle.ic_frames.specs.declared.faults.OpenCause.{OpenCause}
use Rattle.ic_frames.specs.declared.faults.OpenCause.TheVariants.{NoSlot, TwoAlike, Damaged}
use Rattle.ic_kept.specs.declared.head.Head.{Head}
use Rattle.ic_kept.specs.declared.finding.Chosen.{Chosen}
use Rattle.ic_kept.specs.declared.finding.Found.{Found}
use Rattle.ic_kept.specs.Sheet.{gate, number, IsAfterGate, IsNewest, IsOlder, IsBeside, IsBelow}
use Rattle.ic_kept.specs.inner.Finding.{Leads, IsChosen, Finds, IsFound, Spoils, pick}
use Rattle.ic_kept.proofs.SheetLemmas.{beside_older}
use Rattle.ic_kept.specs.Held.{HoldsIn, Hold, HoldEither, AreDamaged, Answers}

-- what stands after a gate is one state
pub one_after : (n m : ℕ) (state other file : List ℕ) → IsAfterGate n state file → IsAfterGate m other file → state ≡ other
one_after n m state other file this that =
    sym this.state_is
    ∙ ap (λ (k : ℕ). bytes_at 17 k file) (sym this.size_is ∙ that.size_is)
    ∙ that.state_is

-- two files can't each be newer than the other
not_both : (n m : ℕ) (state other a b : List ℕ) → HoldsIn n state a b → HoldsIn m other b a → ⊥
not_both n m state other a b this that =
    let older = this.older.older that.newest.opened in
    let newer = that.older.older this.newest.opened in
    omega (arith, older, newer, this.newest.after.number_is, that.newest.after.number_is)

pub one_held : (state other first second : List ℕ) → Hold state first second → Hold other first second → state ≡ other
one_held state other first second (n, inl this) (m, inl that) = one_after n m state other first this.newest.after that.newest.after
one_held state other first second (n, inl this) (m, inr that) = absurd (not_both n m state other first second this that)
one_held state other first second (n, inr this) (m, inl that) = absurd (not_both n m state other second first this that)
one_held state other first second (n, inr this) (m, inr that) = one_after n m state other second this.newest.after that.newest.after

pub either_held : (n : ℕ) (state next newest other held : List ℕ) → HoldEither n state next newest other → Hold held newest other → (held ≡ state) ⊎ (held ≡ next)
either_held n state next newest other held (inl old) is = inl (one_held held state newest other is (n, inl old))
either_held n state next newest other held (inr new) is = inr (one_held held next newest other is (n + 1, inr new))

-- both files have heads, or one is cut off from it
cut_made : (first second : List ℕ) → (length first < 17) ⊎ (length second < 17) → 17 ≤ length first → 17 ≤ length second → ⊥
cut_made first second (inl cut) made too = omega (arith, cut, made)
cut_made first second (inr cut) made too = omega (arith, cut, too)

-- a file is cut off from its head
pub cut_held : (first second : List ℕ) → (length first < 17) ⊎ (length second < 17) → (state : List ℕ) → Hold state first second → ⊥
cut_held first second (inl cut) state (n, inl is) = omega (arith, cut, is.newest.after.within)
cut_held first second (inr cut) state (n, inl is) = omega (arith, cut, is.older.made)
cut_held first second (inl cut) state (n, inr is) = omega (arith, cut, is.older.made)
cut_held first second (inr cut) state (n, inr is) = omega (arith, cut, is.newest.after.within)

pub cut_damaged : (first second : List ℕ) → (length first < 17) ⊎ (length second < 17) → AreDamaged first second
cut_damaged first second cut = record { none = cut_held first second cut; not_shut = λ both. cut_made first second cut both.0.made both.1.made; not_alike = λ alike. cut_made first second cut alike.made.0 alike.made.1 }

-- The file that leads is the one that holds, if one does; so that one isn't cut off in its state.
leads_held : (chosen : Chosen) (newest other : List ℕ) → Leads chosen newest other → length newest < 17 + chosen.head.size → (state : List ℕ) → (n : ℕ) → HoldsIn n state newest other → ⊥
leads_held chosen newest other leads cut state n is = omega (arith, cut, leads.head.size_is, is.newest.after.size_is, is.newest.after.within)

beside_shut : (closed : Bool) (n : ℕ) (file : List ℕ) → IsBeside closed n file → gate file ≡ 1 → number file < n
beside_shut true n file is opened = absurd (is.shut opened)
beside_shut false n file is opened = is.below

leads_other : (chosen : Chosen) (newest other : List ℕ) → Leads chosen newest other → (state : List ℕ) → (n : ℕ) → HoldsIn n state other newest → ⊥
leads_other chosen newest other leads state n is = omega (
  arith,
  beside_shut chosen.closed chosen.head.number other leads.beside is.newest.opened,
  is.older.older leads.head.opened,
  is.newest.after.number_is,
  leads.head.number_is,
)

spoiled_as : (in_second : Bool) (head : Head) (closed : Bool) (first second : List ℕ) → IsChosen (record { in_second = in_second; head = head; closed = closed }) first second
    → length (pick in_second first second) < 17 + head.size → (state : List ℕ) → Hold state first second → ⊥
spoiled_as false head closed first second is cut state (n, inl holds) = leads_held (record { in_second = false; head = head; closed = closed }) first second is cut state n holds
spoiled_as false head closed first second is cut state (n, inr holds) = leads_other (record { in_second = false; head = head; closed = closed }) first second is state n holds
spoiled_as true head closed first second is cut state (n, inl holds) = leads_other (record { in_second = true; head = head; closed = closed }) second first is state n holds
spoiled_as true head closed first second is cut state (n, inr holds) = leads_held (record { in_second = true; head = head; closed = closed }) second first is cut state n holds

-- the one that leads is open, and the other isn't like it
damaged_as : (in_second : Bool) (head : Head) (closed : Bool) (first second : List ℕ) → IsChosen (record { in_second = in_second; head = head; closed = closed }) first second
    → length (pick in_second first second) < 17 + head.size → AreDamaged first second
damaged_as false head closed first second is cut = record {
  none = spoiled_as false head closed first second is cut;
  not_shut = λ both. both.0.shut is.head.opened;
  not_alike = λ alike. omega (arith, beside_shut closed head.number second is.beside alike.opened.1, is.head.number_is, alike.same);
}
damaged_as true head closed first second is cut = record {
  none = spoiled_as true head closed first second is cut;
  not_shut = λ both. both.1.shut is.head.opened;
  not_alike = λ alike. omega (arith, beside_shut closed head.number first is.beside alike.opened.0, is.head.number_is, alike.same);
}

pub spoiled_damaged : (chosen : Chosen) (first second : List ℕ) → IsChosen chosen first second → length (pick chosen.in_second first second) < 17 + chosen.head.size
    → AreDamaged first second
spoiled_damaged chosen first second is cut = damaged_as chosen.in_second chosen.head chosen.closed first second is cut

-- what was found is held
finds_as : (in_second : Bool) (found : Found) (first second : List ℕ) → Finds found (pick in_second first second) (pick in_second second first) → Hold found.state.items first second
finds_as false found first second is = (found.number, inl (record { newest = is.newest; older = beside_older found.closed found.number second is.beside }))
finds_as true found first second is = (found.number, inr (record { newest = is.newest; older = beside_older found.closed found.number first is.beside }))

pub found_held : (found : Found) (first second : List ℕ) → IsFound found first second → Hold found.state.items first second
found_held found first second is = finds_as found.in_second found first second is

-- a file has the newest state, and the next one comes beside it
pub either_left : (n : ℕ) (state next a b : List ℕ) → IsNewest n state a → IsOlder n b ⊎ IsNewest (n + 1) next b → HoldEither n state next a b
either_left n state next a b newest (inl older) = inl (record { newest = newest; older = older })
either_left n state next a b newest (inr new) = inr (record { newest = new; older = record { made = omega (arith, newest.after.within); older = λ opened. omega (arith, newest.after.number_is) } })

-- what was the newest is below the next
pub newest_below : (n : ℕ) (state a : List ℕ) → IsNewest n state a → IsBelow (n + 1) a
newest_below n state a newest = record { made = omega (arith, newest.after.within); below = omega (arith, newest.after.number_is) }

-- a refusal of one file, as one of both
pub spoils_answers : (cause : OpenCause) (lacks : Type 0) (a b : List ℕ) → Spoils cause lacks → (lacks → AreDamaged a b) → Answers cause a b
spoils_answers Damaged lacks a b spoils damaged = damaged spoils
spoils_answers NoSlot lacks a b spoils damaged = absurd spoils
spoils_answers TwoAlike lacks a b spoils damaged = absurd spoils
spoils_answers _ lacks a b spoils damaged = tt

pub spoiled_from : (s : Bool) (chosen : Chosen) (a b : List ℕ) → chosen.in_second ≡ s → IsChosen chosen a b → length (pick s a b) < 17 + chosen.head.size → AreDamaged a b
spoiled_from s chosen a b which is cut = spoiled_damaged chosen a b is (subst (λ (t : Bool). length (pick t a b) < 17 + chosen.head.size) (sym which) cut)

pub either_is : (n : ℕ) (state next newest other : List ℕ) → HoldEither n state next newest other → Hold state newest other ⊎ Hold next newest other
either_is n state next newest other (inl old) = inl (n, inl old)
either_is n state next newest other (inr new) = inr (n + 1, inr new)

pub other_way : (state first second : List ℕ) → Hold state first second → Hold state second first
other_way state first second (n, inl is) = (n, inr is)
other_way state first second (n, inr is) = (n, inl is)
