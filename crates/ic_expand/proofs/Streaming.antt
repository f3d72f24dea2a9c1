-- What was taken from a reader, and what it says of all that the reader had.
use Rattle.std.proofs.Common.{◌≡◌, ◌≢◌, ℕ, ◌+◌, ◌<◌, ◌≤◌, ◌&&◌, Bool, true, cond, List, [], ◌++◌, Option, None, Some, OnErr, Result, Ok, Err, length, length-append, append-nil, arith, nat_le, false, ◌∙◌, ap, refl, subst, sym, inl, inr}
use Rattle.std.specs.Prelude.{IfErr, OnOk}
use Rattle.std.specs.Result.{IsErrAnd}
use Rattle.std.proofs.KnownBytes.{Consumes-trans}
use Rattle.std.proofs.lemmas.Bool.{cases_lt, false≢true}
use Rattle.std.proofs.lemmas.Bool.Decides.{nat_tests}
use Rattle.std.specs.Io.KnownBytes.{Appends, Consumes}
use Rattle.ic_output.specs.Output.{AppendsFront}
use Rattle.ic_text.specs.declared.fault.TextFault.{TextFault}
use Rattle.ic_streams.specs.Streams.{FaultOf, IsAnswered, OfText}
use Rattle.ic_streams.specs.declared.fault.StreamFault.{StreamFault}
use Rattle.ic_streams.specs.declared.fault.StreamFault.TheVariants.{Text, Write}
use Rattle.ic_streams.specs.lemmas.Reading.{answered_as, answered_cut, answered_refused, answered_written}
use Rattle.ic_expand.specs.declared.fault.Reason.TheVariants.{TextBytes}
use Rattle.ic_expand.specs.declared.fault.ExpandFault.TheVariants.{Refused}
use Rattle.ic_expand.specs.declared.limits.TheConstants.{MAX_RICH_TEXT}
use Rattle.ic_expand.specs.Comments.{uncommented}
use Rattle.ic_expand.specs.Expanding.{body_expanded, expanded}
use Rattle.ic_expand.specs.Forms.{has_form, have_form}
use Rattle.ic_expand.specs.declared.spot.Spot.TheVariants.{Elsewhere}
use Rattle.ic_expand.specs.Pieces.{pieces}
use Rattle.ic_expand.specs.Streams.{Expands, IsRefusedWith, IsWrittenAs, TakesAt, TakesSome, TakesWhole}

-- two reads, one after the other
pub taken_more : {T E : Type 0} (r : Result T E) (a b c : Option (List ℕ)) (xs ys : List ℕ) → Consumes a b xs → Consumes b c ys → length xs + length ys ≤ MAX_RICH_TEXT + 1
    → OnErr r (TakesSome a c)
taken_more (Ok v) a b c xs ys p q bound = tt
taken_more (Err e) a b c xs ys p q bound = (xs ++ ys, Consumes-trans a b c xs ys p q, rw length-append bound)

-- a text that is taken whole, of which a writer fails to write what it stands for
pub taken_unwritten : {T : Type 0} (r : Result T StreamFault) (old new : Option (List ℕ)) (text : List ℕ) → TakesWhole text old new
    → IfErr r (λ fault. fault ≡ Write) → IfErr r (λ fault. TakesAt fault old new)
taken_unwritten (Ok v) old new text takes is = tt
taken_unwritten (Err fault) old new text takes is = subst (λ (f : StreamFault). TakesAt f old new) (sym is) (text, takes)

-- ---- what is so of a front that was taken is so of the text

le-false : (m n : ℕ) → n < m → nat_le m n ≡ false
le-false m n less = grind (arith, nat_tests)

too_long : (text : List ℕ) → MAX_RICH_TEXT < length text → expanded text ≡ Err (Refused TextBytes MAX_RICH_TEXT)
too_long text long = ap (λ (b : Bool). cond b (body_expanded (uncommented text)) (Err (Refused TextBytes MAX_RICH_TEXT))) (le-false (length text) MAX_RICH_TEXT long)

-- a text is expanded as this front of it is, where the front is too long, or the whole text
front_expanded : (front rest : List ℕ) → (length front ≤ MAX_RICH_TEXT → rest ≡ []) → expanded (front ++ rest) ≡ expanded front
front_expanded front rest end = elim (cases_lt MAX_RICH_TEXT (length front)) [
  | inl long ↦ (let more : MAX_RICH_TEXT < length (front ++ rest) = rw length-append (omega arith) in too_long (front ++ rest) more ∙ sym (too_long front long))
  | inr short ↦ ap expanded (ap (λ r. front ++ r) (end short) ∙ append-nil front)
]

-- a text that is too long has no form
formless : (text : List ℕ) → MAX_RICH_TEXT < length text → has_form text ≡ false
formless text long = ap (λ (b : Bool). b && have_form 0 Elsewhere (pieces (uncommented text))) (le-false (length text) MAX_RICH_TEXT long)

front_formed : (front rest : List ℕ) → (length front ≤ MAX_RICH_TEXT → rest ≡ []) → has_form (front ++ rest) ≡ has_form front
front_formed front rest end = elim (cases_lt MAX_RICH_TEXT (length front)) [
  | inl long ↦ (let more : MAX_RICH_TEXT < length (front ++ rest) = rw length-append (omega arith) in formless (front ++ rest) more ∙ sym (formless front long))
  | inr short ↦ ap has_form (ap (λ r. front ++ r) (end short) ∙ append-nil front)
]

-- what some text is expanded to is written of a text with forms, and of any other what it is expanded to
pub written_formed : (text plain output : List ℕ) → has_form text ≡ true → expanded plain ≡ Ok output → IsWrittenAs text output
written_formed text plain output has is = (plain, (λ none. absurd (false≢true (sym none ∙ has))), is)

pub written_formless : (text output : List ℕ) → expanded text ≡ Ok output → IsWrittenAs text output
written_formless text output is = (text, (λ _. refl), is)

written_as : (front text output : List ℕ) → expanded text ≡ expanded front → has_form text ≡ has_form front → IsWrittenAs front output → IsWrittenAs text output
written_as front text output same forms s = by_form (has_form front) refl
  where
    by_form : (b : Bool) → has_form front ≡ b → IsWrittenAs text output
    by_form true has = written_formed text s.0 output (forms ∙ has) s.2
    by_form false none = written_formless text output (same ∙ ap expanded (sym (s.1 none)) ∙ s.2)

refused_as : (front text : List ℕ) (fault : TextFault) → expanded text ≡ expanded front → has_form text ≡ has_form front → IsRefusedWith front fault → IsRefusedWith text fault
refused_as front text fault same forms s = elim s [
  | inl formed ↦ inl (forms ∙ formed.0, formed.1)
  | inr told ↦ inr (told.0, told.1, (same ∙ told.2.0, told.2.1))
]

expands_as : (front text : List ℕ) → expanded text ≡ expanded front → has_form text ≡ has_form front → (answer : Result (List ℕ) StreamFault) → Expands front answer → Expands text answer
expands_as front text same forms (Ok output) s = written_as front text output same forms s
expands_as front text same forms (Err (Text fault)) s = refused_as front text fault same forms s
expands_as front text same forms _ s = absurd s

of_front : (Holds : List ℕ → Type 0) → ((front rest : List ℕ) → (length front ≤ MAX_RICH_TEXT → rest ≡ []) → Holds front → Holds (front ++ rest))
    → (old new : Option (List ℕ)) (front : List ℕ) → TakesWhole front old new → Holds front → OfText old Holds
of_front Holds law None new front takes h = (front, h)
of_front Holds law (Some text) None front takes h = absurd takes.0
of_front Holds law (Some text) (Some rest) front takes h = rw takes.0 (law front rest takes.2 h)

-- a text is expanded as the bytes of it that were taken are
pub expands_whole : (text seen : List ℕ) (new : Option (List ℕ)) (answer : Result (List ℕ) StreamFault)
    → TakesWhole seen (Some text) new → Expands seen answer → Expands text answer
expands_whole text seen new answer takes is =
    of_front (λ t. Expands t answer)
    (λ front rest end h. expands_as front (front ++ rest) (front_expanded front rest end) (front_formed front rest end) answer h) (Some text) new seen takes is

module _ {T : Type 0} where
  of_taken : (r : Result T StreamFault) (old new before after : Option (List ℕ)) (front : List ℕ) → TakesWhole front old new
      → IsAnswered Expands front r before after → OfText old (λ text. IsAnswered Expands text r before after)
  of_taken r old new before after front takes a =
      of_front (λ text. IsAnswered Expands text r before after)
      (λ front rest end h. answered_as Expands r front (front ++ rest) before after (expands_as front (front ++ rest) (front_expanded front rest end) (front_formed front rest end)) h) old new front takes a

  pub refused_of_taken : (r : Result T StreamFault) (old new before after : Option (List ℕ)) (front seen : List ℕ) (fault : StreamFault)
      → TakesWhole front old new → seen ≡ front → FaultOf Expands seen fault → fault ≢ Write → IsErrAnd r (λ e. e ≡ fault)
      → OfText old (λ text. IsAnswered Expands text r before after)
  refused_of_taken (Ok v) old new before after front seen fault takes is refused other fails = absurd fails
  refused_of_taken (Err e) old new before after front seen fault takes is refused other fails =
      of_taken (Err e) old new before after front takes (answered_refused Expands e before after front seen fault is refused other fails)

  -- its text is written, or the writer failed
  pub written_of_taken : (r : Result T StreamFault) (old new before after : Option (List ℕ)) (front seen line given : List ℕ)
      → TakesWhole front old new → seen ≡ front → Expands seen (Ok line) → given ≡ line → OnOk r (Appends before after given)
      → OnErr r (AppendsFront before after [] given) → IfErr r (λ fault. fault ≡ Write) → OfText old (λ text. IsAnswered Expands text r before after)
  written_of_taken (Ok v) old new before after front seen line given takes is has same appends cut fails =
      of_taken (Ok v) old new before after front takes (answered_written Expands v before after front seen line given is has same appends)
  written_of_taken (Err e) old new before after front seen line given takes is has same appends cut fails =
      of_taken (Err e) old new before after front takes (answered_cut Expands e before after front seen line given is has same cut fails)
