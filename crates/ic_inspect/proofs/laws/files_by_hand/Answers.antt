use Rattle.std.proofs.Common.{◌≡◌, ◌∙◌, ℕ, List, [], ◌∷◌, Option, None, Some, true, false, refl, sym, arith}
use Rattle.std.proofs.lemmas.Bool.{false≢true}
use Rattle.ic_frames.specs.Fields.{number, size, is_open, is_whole}
use Rattle.ic_frames.specs.declared.slot.Slot.TheVariants.{First}
use Rattle.ic_inspect.specs.declared.seen.Body.{Body}
use Rattle.ic_inspect.specs.declared.seen.Body.TheVariants.{TooLong, CutShort, NoTable, Holds}
use Rattle.ic_inspect.specs.declared.seen.Seen.{Seen}
use Rattle.ic_inspect.specs.Seeing.{IsBodySeen, IsSeen}
use Rattle.ic_inspect.proofs.laws.files_by_hand.Goals as goal

-- ---- a body that is cut short
abbrev file : List ℕ
file = 1 ∷ 0 ∷ 0 ∷ 0 ∷ 0 ∷ 0 ∷ 0 ∷ 1 ∷ 2 ∷ 0 ∷ 0 ∷ 0 ∷ 3 ∷ 5 ∷ 6 ∷ []

opened : is_open 0 file ≡ true
unfolding is_open
opened = refl

numbered : number 0 file ≡ 258
unfolding number
numbered = refl

sized : size 0 file ≡ 3
unfolding size
sized = refl

not_whole : is_whole 0 file ≡ false
unfolding is_whole size
not_whole = refl

is_cut : (body : Body) → IsBodySeen 0 body file → body ≡ CutShort
is_cut TooLong long = absurd (omega (arith, long, sized))
is_cut CutShort cut = refl
is_cut NoTable seen = absurd (false≢true (sym not_whole ∙ seen.0))
is_cut (Holds t) seen = absurd (false≢true (sym not_whole ∙ seen.0))

abbrev seen_first : Option Seen
seen_first = Some (record { opened = true; number = 258; size = 3; body = CutShort })

first_seen : (seen : Option Seen) → IsSeen First seen file → seen ≡ seen_first
first_seen None short = absurd (omega (arith, short))
first_seen (Some seen) is =
    let p : seen.opened ≡ true = is.opened ∙ opened in
    let q : seen.number ≡ 258 = is.number_is ∙ numbered in
    let r : seen.size ≡ 3 = is.size_is ∙ sized in
    let s : seen.body ≡ CutShort = is_cut seen.body is.body_is in
    λ i. Some (record { opened = p i; number = q i; size = r i; body = s i })

pub returns-clause-cut_short : goal.returns-clause-cut_short
returns-clause-cut_short c = first_seen

-- ---- a body that is too long
abbrev other : List ℕ
other = 0 ∷ 0 ∷ 0 ∷ 0 ∷ 0 ∷ 0 ∷ 0 ∷ 0 ∷ 1 ∷ 255 ∷ 255 ∷ 255 ∷ 255 ∷ []

other_shut : is_open 0 other ≡ false
unfolding is_open
other_shut = refl

other_numbered : number 0 other ≡ 1
unfolding number
other_numbered = refl

other_sized : size 0 other ≡ 4294967295
unfolding size
other_sized = refl

other_not_whole : is_whole 0 other ≡ false
unfolding is_whole size
other_not_whole = refl

is_long : (body : Body) → IsBodySeen 0 body other → body ≡ TooLong
is_long TooLong long = refl
is_long CutShort cut = absurd (let few = cut.0 in omega (arith, few, other_sized))
is_long NoTable seen = absurd (false≢true (sym other_not_whole ∙ seen.0))
is_long (Holds t) seen = absurd (false≢true (sym other_not_whole ∙ seen.0))

other_seen : (seen : Option Seen) → IsSeen First seen other → seen ≡ Some (record { opened = false; number = 1; size = 4294967295; body = TooLong })
other_seen None short = absurd (omega (arith, short))
other_seen (Some seen) is =
    let p : seen.opened ≡ false = is.opened ∙ other_shut in
    let q : seen.number ≡ 1 = is.number_is ∙ other_numbered in
    let r : seen.size ≡ 4294967295 = is.size_is ∙ other_sized in
    let s : seen.body ≡ TooLong = is_long seen.body is.body_is in
    λ i. Some (record { opened = p i; number = q i; size = r i; body = s i })

pub returns-clause-too_long : goal.returns-clause-too_long
returns-clause-too_long c = other_seen
