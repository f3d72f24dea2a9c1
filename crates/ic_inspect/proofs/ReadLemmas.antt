-- What was taken of a reader is what it had first.
use Rattle.std.proofs.Common.{◌≡◌, ⊎_elim, ℕ, ◌<◌, ◌≤◌, Bool, List, [], ◌++◌, Option, None, Some, ◌+◌, length, take, sym, ap, subst, ◌∙◌, append-nil, arith, length-append}
use Rattle.std.proofs.KnownBytes.{Consumes-trans}
use Rattle.std.proofs.lemmas.List.{length-take-le, take_all, take-append-le}
use Rattle.std.proofs.lemmas.Bool.{cases_lt}
use Rattle.std.specs.Io.KnownBytes.{Consumes, IsAtEnd}
use Rattle.ic_frames.specs.declared.frame.TheConstants.{HEAD}
use Rattle.ic_inspect.specs.Slots.{HasHead, HasOtherHead, IsSlotOf, TakesAtMost, body_room, is_one_file}
use Rattle.ic_inspect.specs.inner.Fronts.{IsFrontOf}
use Rattle.ic_inspect.proofs.SlotLemmas.{no_room, room_of_head, take-append-add}

-- these bytes are taken, which are all there are or as many as are read
abbrev pub TakesFront : ℕ → List ℕ → Option (List ℕ) → Option (List ℕ) → Type 0
TakesFront n bytes old new = Consumes old new bytes × (length bytes ≤ n) × (length bytes < n → IsAtEnd new)

-- as many bytes as are read
at_limit : (n : ℕ) (old new : Option (List ℕ)) (bytes : List ℕ) → Consumes old new bytes → length bytes ≡ n → IsFrontOf n bytes old
at_limit n None new bytes taken all = tt
at_limit n (Some file) None bytes taken all = absurd taken
at_limit n (Some file) (Some rest) bytes taken all = sym (ap (take n) taken ∙ take-append-le n bytes rest (omega (arith, all)) ∙ take_all n bytes (omega (arith, all)))

-- all that there are
at_end : (n : ℕ) (old new : Option (List ℕ)) (bytes : List ℕ) → Consumes old new bytes → length bytes ≤ n → IsAtEnd new → IsFrontOf n bytes old
at_end n None new bytes taken few none = tt
at_end n (Some file) None bytes taken few none = absurd taken
at_end n (Some file) (Some rest) bytes taken few none = sym (ap (take n) (taken ∙ ap (λ r. bytes ++ r) none ∙ append-nil bytes) ∙ take_all n bytes few)

pub differing : (slot later : List ℕ) (all : Option (List ℕ)) → IsFrontOf HEAD later all → (take HEAD slot ≡ later → ⊥) → HasOtherHead slot all
differing slot later None front apart = tt
differing slot later (Some all) front apart = λ e. apart (e ∙ sym front)

pub same_head : (slot later : List ℕ) (all : Option (List ℕ)) → IsFrontOf HEAD later all → take HEAD slot ≡ later → HasHead slot all
same_head slot later None front same = tt
same_head slot later (Some all) front same = same ∙ front

-- the same bytes, by another name
pub head_moved : (slot bytes : List ℕ) (again : Option (List ℕ)) → slot ≡ bytes → HasHead slot again → HasHead bytes again
head_moved slot bytes again same has = subst (λ (b : List ℕ). HasHead b again) same has

pub other_moved : (slot bytes : List ℕ) (again : Option (List ℕ)) → slot ≡ bytes → HasOtherHead slot again → HasOtherHead bytes again
other_moved slot bytes again same has = subst (λ (b : List ℕ). HasOtherHead b again) same has

pub one_moved : (a b first second : List ℕ) (told value : Bool) → a ≡ first → b ≡ second → told ≡ is_one_file a b → told ≡ value → is_one_file first second ≡ value
one_moved a b first second told value p q is e =
    let same : is_one_file a b ≡ is_one_file first second = λ i. is_one_file (p i) (q i) in
    sym same ∙ sym is ∙ e

-- a head and then the body that it tells are a slot
pub slot_of : (head body : List ℕ) (old mid new : Option (List ℕ)) → IsFrontOf HEAD head old → Consumes old mid head → IsFrontOf (body_room head) body mid → IsSlotOf (head ++ body) old
slot_of head body None mid new front taken more = tt
slot_of head body (Some all) None new front taken more = absurd taken
slot_of head body (Some all) (Some rest) new front taken more =
    let room : body_room all ≡ body_room head = sym (ap body_room front ∙ room_of_head all) in
    ⊎_elim
    (λ short.
    let whole : head ≡ all = front ∙ take_all HEAD all (omega (arith, short)) in
    let none : body_room all ≡ 0 = no_room all short in
    let empty : body ≡ [] = more ∙ ap (λ (n : ℕ). take n rest) (sym room ∙ none) in
    ap (λ (b : List ℕ). head ++ b) empty ∙ append-nil head ∙ whole ∙ sym (ap (λ (n : ℕ). take (HEAD + n) all) none ∙ take_all HEAD all (omega (arith, short))))
    (λ long.
    let full : length head ≡ HEAD = ap length front ∙ length-take-le HEAD all long in
    ap (λ (b : List ℕ). head ++ b) more ∙ sym (take-append-add HEAD (body_room head) head rest full) ∙ ap (λ (n : ℕ). take (HEAD + n) (head ++ rest)) (sym room) ∙ ap (take (HEAD + body_room all)) (sym taken))
    (cases_lt (length all) HEAD)

pub front_of : (n : ℕ) (bytes : List ℕ) (old new : Option (List ℕ)) → TakesFront n bytes old new → IsFrontOf n bytes old
front_of n bytes old new takes = ⊎_elim
    (λ fewer. at_end n old new bytes takes.0 takes.1 (takes.2 fewer))
    (λ full. at_limit n old new bytes takes.0 (omega (arith, takes.1, full)))
    (cases_lt (length bytes) n)

-- ---- how many bytes are taken

pub taken_more : (n : ℕ) (a b c : Option (List ℕ)) (xs ys : List ℕ) → Consumes a b xs → Consumes b c ys → length xs + length ys ≤ n → TakesAtMost n a c
taken_more n a b c xs ys p q bound = (xs ++ ys, Consumes-trans a b c xs ys p q, rw length-append bound)

-- two reads, one after the other
pub taken_both : (m k n : ℕ) (a b c : Option (List ℕ)) → m + k ≤ n → TakesAtMost m a b → TakesAtMost k b c → TakesAtMost n a c
taken_both m k n a b c few p q = taken_more n a b c p.0 q.0 p.1 q.1 (omega (arith, few, p.2, q.2))
