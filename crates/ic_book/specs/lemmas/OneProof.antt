-- Lemmas: what a book keeps has one proof at most.
use Rattle.std.proofs.Common.{ℕ, ◌≤◌, List, [], ◌∷◌, Bool, Option, None, Some, IfSome}
use Rattle.std.specs.Coded.{Coded-set, coded_list, coded_option, coded_ℕ, le_prop, ×_prop, Unit-prop}
use Rattle.std.proofs.Props.{props}
use Rattle.ic_jobs.specs.contracts.reply.Reply as reply
use Rattle.ic_jobs.specs.contracts.state.State as state
use Rattle.ic_jobs.specs.declared.event.Entry.{Entry}
use Rattle.ic_jobs.specs.declared.reply.Reply.{Reply}
use Rattle.ic_jobs.specs.declared.state.State.{State}
use Rattle.ic_jobs.specs.Budget.{IsBudget}
use Rattle.ic_jobs.specs.Job.{JobParts, IsJob}
use Rattle.ic_jobs.specs.lemmas.Codings.{coded_job}
use Rattle.ic_jobs.specs.Table.{IsTable}
use Rattle.ic_jobs.specs.History.{table_after, IsLegal}
use Rattle.ic_term.specs.Symbol.{AreSymbols}
use Rattle.ic_term.specs.Configuration.{IsConfiguration}
use Rattle.ic_rules.specs.Rule.{Rule, IsRule}
use Rattle.ic_rules.specs.RuleSet.{Rules, AreServed, IsRuleSet}
use Rattle.ic_disk.specs.declared.disk.Disk.{Ghosts}
use Rattle.ic_frames.specs.declared.frames.Frames.{Frames}
use Rattle.ic_frames.specs.Opened.{IsOnNewest}
use Rattle.ic_slots.specs.Held.{HoldsTable}
use Rattle.ic_slots.specs.lemmas.OneTable.{HoldsFormOf-prop}
use Rattle.ic_book.specs.Kept.{IsHistory, IsOnDisk}

Reply-set : IsSet (Option Reply)
Reply-set = Coded-set (coded_option reply.the_row.coded)

State-set : IsSet State
State-set = Coded-set state.the_row.coded

table-set : IsSet (List JobParts)
table-set = Coded-set (coded_list coded_job)

numbers-set : IsSet (List ℕ)
numbers-set = Coded-set (coded_list coded_ℕ)

place-set : IsSet (Option ℕ)
place-set = Coded-set (coded_option coded_ℕ)

AreSymbols-prop : (ss : _) → IsProp (AreSymbols ss)
AreSymbols-prop ss = hlevel props

IsRule-prop : (r : Rule) → IsProp (IsRule r)
IsRule-prop r = hlevel (numbers-set, props)

IsRuleSet-prop : (rs : Rules) → IsProp (IsRuleSet rs)
IsRuleSet-prop rs = hlevel (IsRule-prop, place-set, props)

AreServed-prop : (rs : Rules) → IsProp (AreServed rs)
AreServed-prop rs = hlevel props

IsConfiguration-prop : (c : _) → IsProp (IsConfiguration c)
IsConfiguration-prop c = hlevel props

IsBudget-prop : (n : ℕ) → IsProp (IsBudget n)
IsBudget-prop n = hlevel props

budget-prop : (budget : Option ℕ) → IsProp (IfSome budget IsBudget)
budget-prop None = Unit-prop
budget-prop (Some n) = IsBudget-prop n

within-prop : (rounds : ℕ) (budget : Option ℕ) → IsProp (IfSome budget (λ most. rounds ≤ most))
within-prop rounds None = Unit-prop
within-prop rounds (Some n) = le_prop

IsJob-prop : (j : JobParts) → IsProp (IsJob j)
IsJob-prop j = hlevel (AreSymbols-prop, IsRuleSet-prop, AreServed-prop, IsConfiguration-prop, State-set, place-set, budget-prop, within-prop, props)

pub IsTable-prop : (t : List JobParts) → IsProp (IsTable t)
IsTable-prop t = hlevel (IsJob-prop, props)

IsLegal-prop : (t : List JobParts) (es : List Entry) → IsProp (IsLegal t es)
IsLegal-prop t [] = Unit-prop
IsLegal-prop t (e ∷ es) = ×_prop (Reply-set _ _) (IsLegal-prop (table_after t e.event) es)

pub IsHistory-prop : (start : List JobParts) (log : List Entry) (table : List JobParts) (kept : ℕ) (broken : Bool)
    → IsProp (IsHistory start log table kept broken)
IsHistory-prop start log table kept broken = hlevel (IsLegal-prop, IsTable-prop, table-set, props)

pub HoldsTable-prop : (t : List JobParts) (file : List ℕ) → IsProp (HoldsTable t file)
HoldsTable-prop t file = hlevel (IsTable-prop, HoldsFormOf-prop, props)

pub IsOnDisk-prop : (content : List ℕ) (image : List ℕ → Type 0) (start : List JobParts) (log : List Entry) (kept : ℕ) (broken : Bool)
    → IsProp (IsOnDisk content image start log kept broken)
IsOnDisk-prop content image start log kept broken = hlevel (IsTable-prop, HoldsTable-prop, HoldsFormOf-prop, props)

pub IsOnNewest-prop : {D : Type 0} {ghosts : Ghosts D} (frames : Frames D ghosts) (file : List ℕ) → IsProp (IsOnNewest frames file)
IsOnNewest-prop frames file = hlevel props
