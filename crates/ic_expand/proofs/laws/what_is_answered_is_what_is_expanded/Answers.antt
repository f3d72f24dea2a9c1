use Rattle.std.proofs.Common.{◌≡◌, ◌≢◌, ℕ, List, Result, Ok, Err, false, refl, sym, ap, ◌∙◌, inl, inr}
use Rattle.std.proofs.lemmas.Bool.{false≢true}
use Rattle.ic_text.specs.declared.fault.TextFault.TheVariants.{Syntax}
use Rattle.ic_streams.specs.declared.fault.StreamFault.{StreamFault}
use Rattle.ic_streams.specs.declared.fault.StreamFault.TheVariants.{Memory, Read, Round, Text, Write}
use Rattle.ic_expand.specs.declared.fault.ExpandFault.{ExpandFault}
use Rattle.ic_expand.specs.declared.fault.ExpandFault.TheVariants as expand
use Rattle.ic_expand.specs.declared.fault.Reason.{Reason}
use Rattle.ic_expand.specs.declared.fault.Reason.TheVariants.{Again, NoCopier, NoEnd, NoEraser, NoRules, NoSymbol, NoText, NotSymbol, TextBytes}
use Rattle.ic_expand.specs.Expanding.{expanded}
use Rattle.ic_expand.specs.Forms.{has_form}
use Rattle.ic_expand.specs.Streams.{Expands, text_fault}
use Rattle.ic_expand.proofs.laws.what_is_answered_is_what_is_expanded.Goals as goal

pub returns-clause-written : goal.returns-clause-written
returns-clause-written c = λ text output none is. ap expanded (sym (is.1 none)) ∙ is.2

pub returns-clause-formed : goal.returns-clause-formed
returns-clause-formed c = λ text output is. (is.0, is.2)

pub returns-clause-refused : goal.returns-clause-refused
returns-clause-refused c = λ text fault none is. elim is [
  | inl formed ↦ absurd (false≢true (sym none ∙ formed.0))
  | inr told ↦ (told.0, told.1, told.2.0, told.2.1)
]

-- the answer of a text that is expanded so
abbrev answer_of : Result (List ℕ) ExpandFault → Result (List ℕ) StreamFault
answer_of (Ok output) = Ok output
answer_of (Err (expand.Refused reason at)) = Err (Text (text_fault reason))
answer_of (Err expand.Memory) = Err Memory

is_answered : (text : List ℕ) → has_form text ≡ false → (answer : Result (List ℕ) StreamFault) → Expands text answer → answer_of (expanded text) ≡ answer
is_answered text none (Ok output) is = ap answer_of (ap expanded (sym (is.1 none)) ∙ is.2)
is_answered text none (Err (Text fault)) is = elim is [
  | inl formed ↦ absurd (false≢true (sym none ∙ formed.0))
  | inr told ↦ ap answer_of told.2.0 ∙ ap (λ f. Err (Text f)) (sym told.2.1)
]
is_answered text none (Err (Round fault)) is = absurd is
is_answered text none (Err Read) is = absurd is
is_answered text none (Err Memory) is = absurd is
is_answered text none (Err Write) is = absurd is

pub returns-clause-one : goal.returns-clause-one
returns-clause-one c = λ text one other none is also. sym (is_answered text none one is) ∙ is_answered text none other also

is_syntax : (reason : Reason) → reason ≢ TextBytes → text_fault reason ≡ Syntax
is_syntax TextBytes other = absurd (other refl)
is_syntax NoText other = refl
is_syntax NotSymbol other = refl
is_syntax NoSymbol other = refl
is_syntax (NoCopier n) other = refl
is_syntax (NoEraser n) other = refl
is_syntax Again other = refl
is_syntax NoRules other = refl
is_syntax NoEnd other = refl

pub returns-clause-syntax : goal.returns-clause-syntax
returns-clause-syntax c = is_syntax
