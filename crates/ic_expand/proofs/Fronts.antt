-- What is read of a text that may be rich: its front, and all of it.
use Rattle.std.proofs.Common.{◌≡◌, ℕ, ◌≤◌, Bool, true, false, ◌||◌, List, [], ◌∷◌, ◌++◌, Option, None, Some, length, refl, sym, ap, subst, ◌∙◌, append-nil, arith}
use Rattle.std.specs.Io.KnownBytes.{prepend_known}
use Rattle.ic_expand.specs.Marks.{is_marked, is_rich}
use Rattle.ic_expand.specs.Streams.{TakesWhole}
use Rattle.ic_expand.specs.inner.Causes.{TakesFront}

-- whether a text is marked, its first six bytes tell
mark_of_front : (front rest : List ℕ) → 6 ≤ length front → is_marked (front ++ rest) ≡ is_marked front
mark_of_front [] rest long = absurd (omega (arith, long))
mark_of_front (a ∷ []) rest long = absurd (omega (arith, long))
mark_of_front (a ∷ b ∷ []) rest long = absurd (omega (arith, long))
mark_of_front (a ∷ b ∷ c ∷ []) rest long = absurd (omega (arith, long))
mark_of_front (a ∷ b ∷ c ∷ d ∷ []) rest long = absurd (omega (arith, long))
mark_of_front (a ∷ b ∷ c ∷ d ∷ e ∷ []) rest long = absurd (omega (arith, long))
mark_of_front (a ∷ b ∷ c ∷ d ∷ e ∷ f ∷ more) rest long = refl

front_marks : (text : List ℕ) (new : Option (List ℕ)) (front : List ℕ) (whole : Bool) → TakesFront front whole (Some text) new → is_marked text ≡ is_marked front
front_marks text None front whole takes = absurd takes.0
front_marks text (Some rest) front true takes = ap is_marked (takes.0 ∙ ap (λ r. front ++ r) (takes.1 refl) ∙ append-nil front)
front_marks text (Some rest) front false takes = ap is_marked takes.0 ∙ mark_of_front front rest (takes.2 refl)

-- a front that was taken tells whether its text is rich
pub front_tells : (said : Bool) (text : List ℕ) (old new : Option (List ℕ)) (front seen : List ℕ) (whole : Bool) (rich : Bool) → TakesFront front whole old new
    → old ≡ Some text → seen ≡ front → rich ≡ is_rich said seen → is_rich said text ≡ rich
front_tells said text old new front seen whole rich takes is same tells =
    let taken : TakesFront front whole (Some text) new = subst (λ (o : Option (List ℕ)). TakesFront front whole o new) is takes in
    ap (λ (b : Bool). said || b) (front_marks text new front whole taken) ∙ ap (is_rich said) (sym same) ∙ sym tells

left_of_known : (text : List ℕ) (new left : Option (List ℕ)) (front : List ℕ) (whole : Bool) → TakesFront front whole (Some text) new
    → (whole ≡ false → left ≡ prepend_known front new) → (whole ≡ true → left ≡ Some front) → left ≡ Some text
left_of_known text None left front whole takes going all = absurd takes.0
left_of_known text (Some rest) left front true takes going all =
    all refl ∙ ap Some (sym (takes.0 ∙ ap (λ r. front ++ r) (takes.1 refl) ∙ append-nil front))
left_of_known text (Some rest) left front false takes going all = going refl ∙ ap Some (sym takes.0)

-- what is read after it is the text
pub left_whole : (text : List ℕ) (old new left : Option (List ℕ)) (front : List ℕ) (whole : Bool) → TakesFront front whole old new
    → (whole ≡ false → left ≡ prepend_known front new) → (whole ≡ true → left ≡ Some front) → old ≡ Some text → left ≡ Some text
left_whole text old new left front whole takes going all is =
    left_of_known text new left front whole (subst (λ (o : Option (List ℕ)). TakesFront front whole o new) is takes) going all

-- what was read after it was taken from the text
pub takes_left : (text seen : List ℕ) (left new : Option (List ℕ)) → left ≡ Some text → TakesWhole seen left new → TakesWhole seen (Some text) new
takes_left text seen left new is takes = subst (λ (o : Option (List ℕ)). TakesWhole seen o new) is takes
