-- Which calls of the disk with a fuse fail, and what they leave.
-- This project's choice.
use Rattle.std.specs.Prelude.{◌≡◌, ◌⊎◌, ◌==◌, ℕ, ◌-◌, nat_lt, if◌then◌else◌, List, ◌++◌, length, take, replicate, Result, IsOk, IsErr, OnOk, OnErr}
use Rattle.ic_disk.specs.Model.{Write, Call, write, sync}
use Rattle.ic_disk.specs.History.{History, with_call, with_failure}
use Rattle.ic_disk.specs.declared.fuse.Blow.{Blow}
use Rattle.ic_disk.specs.declared.fuse.Blow.TheVariants.{Before, After, Torn}
use Rattle.ic_disk.specs.declared.fuse.Then.{Then}
use Rattle.ic_disk.specs.declared.fuse.Then.TheVariants.{Stop, GoOn}
use Rattle.ic_disk.specs.declared.fuse.Turn.{Turn}
use Rattle.ic_disk.specs.declared.fuse.Turn.TheVariants.{Make, Skip, MakeAndFail, Tear}
use Rattle.ic_disk.specs.declared.fuse.Fuse.{Fuse}

-- the call at which the fuse blows fails, and is made all the same or isn't, or is torn
abbrev pub blown : Blow → Turn
blown Before = Skip
blown After = MakeAndFail
blown (Torn n) = Tear n

-- all later calls fail and aren't made, or they go on
abbrev pub later : Then → Turn
later Stop = Skip
later GoOn = Make

-- what becomes of the n-th call, counted from 1
abbrev pub turn_of : ℕ → Fuse → Turn
turn_of n fuse =
    if nat_lt n fuse.at then Make else (if n == fuse.at then blown fuse.blow else later fuse.after)

-- the first n of these bytes, and zeros in place of the rest
abbrev pub torn_bytes : ℕ → List ℕ → List ℕ
torn_bytes n bytes = take n bytes ++ replicate (length bytes - n) 0

-- what is made of a call that is torn: a torn write may be made, and no sync is
abbrev pub IsTorn : ℕ → Call → History → History → Type 0
IsTorn n (write w) old new =
    (new ≡ with_call (write (record { at = w.at; bytes = torn_bytes n w.bytes })) old)
    ⊎ ((new ≡ old) ⊎ (new ≡ with_failure old))
IsTorn n sync old new = new ≡ old

-- A call that changes the disk: made, not made, made and answered Err, or torn. Where the disk behind
-- the fuse has no memory for a write, that isn't made.
abbrev pub Answers : {T E : Type 0} → Turn → Call → Result T E → History → History → Type 0
Answers Make call result old new =
    OnOk result (new ≡ with_call call old) × OnErr result (new ≡ with_failure old)
Answers Skip call result old new = IsErr result × (new ≡ old)
Answers MakeAndFail call result old new =
    IsErr result × ((new ≡ with_call call old) ⊎ (new ≡ with_failure old))
Answers (Tear n) call result old new = IsErr result × IsTorn n call old new

-- a call that changes nothing
abbrev pub AnswersRead : {T E : Type 0} → Turn → Result T E → Type 0
AnswersRead Make result = IsOk result
AnswersRead Skip result = IsErr result
AnswersRead MakeAndFail result = IsErr result
AnswersRead (Tear n) result = IsErr result
