-- The first equation with an applicable side, found by going on where the last one stood.
use Rattle.std.proofs.Common.{◌≡◌, ℕ, zero, suc, ◌+◌, ◌==◌, List, [], ◌∷◌, ◌++◌, Bool, true, false, cond, Option, None, Some, length, map, refl, sym, ◌∙◌, ap, append_assoc, append-nil, add-one, inl, inr, arith, subst as transport}
use Rattle.std.proofs.lemmas.List.{map-append}
use Rattle.std.proofs.lemmas.Bool.{eqb-true, false_from_ne_true}
use Rattle.std.specs.Option.{option_or}
use Rattle.ic_term.specs.Tree.{Tree, name, agent, Pair, names}
use Rattle.ic_term.specs.Configuration.{Configuration, names_in, occurrences}
use Rattle.ic_settle.specs.Settling.{Binding, Choice, subst, subst_pair, occurs, side_binding, binding, choice_or, first_choice, applied, settled_in, settled, Binds}
use Rattle.ic_settle.specs.lemmas.SubstitutionLaws.{occurrences_none, occurs_none}
use Rattle.ic_settle.specs.lemmas.MiddleLaws.{occurrences-middle}
use Rattle.ic_settle.specs.lemmas.StepLaws.{occurrences-binds, occurrences-subst_in, itself_once}

-- ---- the binding of an equation

-- a side that binds a name is that name, and it occurs outside
abbrev SideBinds : List ℕ → Tree → Tree → Binding → Type 0
SideBinds outside t other b = (t ≡ name b.name) × (other ≡ b.term) × (occurs b.name outside ≡ true)

named_side : (outside : List ℕ) (x : ℕ) (other : Tree) (b : Binding) (found : Bool) → occurs x outside ≡ found
    → cond found (Some (record { name = x; term = other })) None ≡ Some b → SideBinds outside (name x) other b
named_side outside x other b true e f = (cc, cc, cc)
named_side outside x other b false e f = cc

side_binds : (outside : List ℕ) (t other : Tree) (b : Binding) → side_binding outside t other ≡ Some b → SideBinds outside t other b
side_binds outside (name x) other b e = named_side outside x other b (occurs x outside) refl e
side_binds outside (agent s ts) other b e = cc

two_bind : (outside : List ℕ) (p : Pair) (b : Binding) (left right : Option Binding) → side_binding outside p.left p.right ≡ left → side_binding outside p.right p.left ≡ right
    → option_or left right ≡ Some b → Binds p b × (occurs b.name outside ≡ true)
two_bind outside p b (Some c) right e f g =
    let bound = side_binds outside p.left p.right b (e ∙ g) in
    (inl (ap (λ t. record { left = t; right = p.right }) bound.0 ∙ ap (λ t. record { left = name b.name; right = t }) bound.1), bound.2)
two_bind outside p b None right e f g =
    let bound = side_binds outside p.right p.left b (f ∙ g) in
    (inr (ap (λ t. record { left = t; right = p.right }) bound.1 ∙ ap (λ t. record { left = b.term; right = t }) bound.0), bound.2)

pub binding_binds : (outside : List ℕ) (p : Pair) (b : Binding) → binding outside p ≡ Some b → Binds p b × (occurs b.name outside ≡ true)
binding_binds outside p b e = two_bind outside p b (side_binding outside p.left p.right) (side_binding outside p.right p.left) refl refl e

-- ---- an equation that binds no name

parts_none : (left right : Option Binding) → option_or left right ≡ None → (left ≡ None) × (right ≡ None)
parts_none (Some b) right e = cc
parts_none None right e = (refl, e)

both_none : (left right : Option Binding) → left ≡ None → right ≡ None → option_or left right ≡ None
both_none left right e f = rw (e, f) refl

-- no equation that binds a name which occurs outside has no binding
pub binding_some : (outside : List ℕ) (p : Pair) (b : Binding) → Binds p b → occurs b.name outside ≡ true → binding outside p ≡ None → ⊥
binding_some outside p b side found none =
    let parts = parts_none (side_binding outside p.left p.right) (side_binding outside p.right p.left) none in
    elim side [
      | inl e ↦ let bad : cond (occurs b.name outside) (Some (record { name = b.name; term = b.term })) None ≡ None = rw e at parts.0 in
          let worse = rw found at bad in cc
      | inr e ↦ let bad : cond (occurs b.name outside) (Some (record { name = b.name; term = b.term })) None ≡ None = rw e at parts.1 in
          let worse = rw found at bad in cc
    ]

-- a name that didn't occur outside of an equation still doesn't, and isn't the one that is replaced
abbrev Fresher : ℕ → List ℕ → List ℕ → Type 0
Fresher x outside outside' = (y : ℕ) → occurs y outside ≡ false → (occurs y outside' ≡ false) × ((y == x) ≡ false)

absent_side : (outside : List ℕ) (y : ℕ) (other : Tree) (found : Bool) → occurs y outside ≡ found
    → cond {A = Option Binding} found (Some (record { name = y; term = other })) None ≡ None → occurs y outside ≡ false
absent_side outside y other true e f = cc
absent_side outside y other false e f = e

side_kept : (x : ℕ) (u : Tree) (outside outside' : List ℕ) → Fresher x outside outside' → (t other other' : Tree)
    → side_binding outside t other ≡ None → side_binding outside' (subst x u t) other' ≡ None
side_kept x u outside outside' fresh (name y) other other' e =
    let absent = absent_side outside y other (occurs y outside) refl e in
    let kept = fresh y absent in
    rw kept.1 (rw kept.0 refl)
side_kept x u outside outside' fresh (agent s ts) other other' e = refl

binding_kept : (x : ℕ) (u : Tree) (outside outside' : List ℕ) → Fresher x outside outside' → (q : Pair)
    → binding outside q ≡ None → binding outside' (subst_pair x u q) ≡ None
binding_kept x u outside outside' fresh q e =
    let parts = parts_none (side_binding outside q.left q.right) (side_binding outside q.right q.left) e in
    both_none _ _ (side_kept x u outside outside' fresh q.left q.right (subst x u q.right) parts.0)
    (side_kept x u outside outside' fresh q.right q.left (subst x u q.left) parts.1)

fresher_step : (ts : List Tree) (before : List Pair) (p : Pair) (after : List Pair) (b : Binding) → Binds p b
    → Fresher b.name (names_in ts (before ++ p ∷ after)) (names_in (map (subst b.name b.term) ts) (map (subst_pair b.name b.term) (before ++ after)))
fresher_step ts before p after b side y absent =
    let x = b.name in
    let rest = before ++ after in
    let none = occurrences_none y (names_in ts (before ++ p ∷ after)) absent in
    let all = occurrences-middle y ts before p after in
    let here = occurrences-binds y p b side in
    let no_term : occurrences y (names b.term) ≡ 0 = omega arith in
    let no_rest : occurrences y (names_in ts rest) ≡ 0 = omega arith in
    let no_name : occurrences y (b.name ∷ []) ≡ 0 = omega arith in
    let bound = rw (no_term, no_rest) at (occurrences-subst_in y b.name b.term ts rest) in (
      occurs_none y _ (omega arith),
      false_from_ne_true (y == b.name) (λ e.
          let same = eqb-true y b.name e in
          let once = itself_once y in
          let bad : occurrences y (y ∷ []) ≡ 0 = ap (λ m. occurrences y (m ∷ [])) same ∙ no_name in
          absurd (omega arith)),
    )

-- ---- the equations passed over

-- none of the equations, between those before and those after, has an applicable side
abbrev pub NoneApplicable : List Tree → List Pair → List Pair → List Pair → Type 0
NoneApplicable ts before [] after = Unit {0}
NoneApplicable ts before (q ∷ qs) after = (binding (names_in ts (before ++ (qs ++ after))) q ≡ None) × NoneApplicable ts (before ++ q ∷ []) qs after

-- the first choice lies after them
pub first_choice-passed : (ts : List Tree) (before qs after : List Pair) → NoneApplicable ts before qs after
    → first_choice ts before (qs ++ after) ≡ first_choice ts (before ++ qs) after
first_choice-passed ts before [] after none = rw (append-nil before) refl
first_choice-passed ts before (q ∷ qs) after none =
    let rest = first_choice-passed ts (before ++ q ∷ []) qs after none.1 in
    let regrouped : (before ++ q ∷ []) ++ qs ≡ before ++ (q ∷ qs) = append_assoc before (q ∷ []) qs in
    rw none.0 (rest ∙ ap (λ l. first_choice ts l after) regrouped)

-- one more equation is passed over
pub none_more : (ts : List Tree) (before qs : List Pair) (p : Pair) (after : List Pair) → NoneApplicable ts before qs (p ∷ after)
    → binding (names_in ts ((before ++ qs) ++ after)) p ≡ None → NoneApplicable ts before (qs ++ p ∷ []) after
none_more ts before [] p after none here = (rw (append-nil before) at here, tt)
none_more ts before (q ∷ qs) p after none here =
    let regrouped : qs ++ (p ∷ after) ≡ (qs ++ p ∷ []) ++ after = sym (append_assoc qs (p ∷ []) after) in
    let moved : (before ++ (q ∷ qs)) ≡ (before ++ q ∷ []) ++ qs = sym (append_assoc before (q ∷ []) qs) in
    (rw (← regrouped) none.0, none_more ts (before ++ q ∷ []) qs p after none.1 (rw (← moved) here))

-- after a step they still have none
pub none_kept : (ts : List Tree) (before qs : List Pair) (p : Pair) (after : List Pair) (b : Binding) → Binds p b
    → NoneApplicable ts before qs (p ∷ after)
    → NoneApplicable (map (subst b.name b.term) ts) (map (subst_pair b.name b.term) before) (map (subst_pair b.name b.term) qs) (map (subst_pair b.name b.term) after)
none_kept ts before [] p after b side none = tt
none_kept ts before (q ∷ qs) p after b side none =
    let put = subst_pair b.name b.term in
    let here : binding (names_in ts ((before ++ qs) ++ p ∷ after)) q ≡ None = rw (append_assoc before qs (p ∷ after)) none.0 in
    let kept = binding_kept b.name b.term _ _ (fresher_step ts (before ++ qs) p after b side) q here in
    let spread : map put ((before ++ qs) ++ after) ≡ map put before ++ (map put qs ++ map put after) =
    map-append put (before ++ qs) after ∙ ap (λ l. l ++ map put after) (map-append put before qs) ∙ append_assoc (map put before) (map put qs) (map put after) in
    (rw (← spread) kept, rw (← map-append put before (q ∷ [])) (none_kept ts (before ++ q ∷ []) qs p after b side none.1))

-- none of them has one, wherever it stands
pub none_at : (ts : List Tree) (done before : List Pair) (p : Pair) (after rest : List Pair) → NoneApplicable ts done (before ++ p ∷ after) rest
    → binding (names_in ts ((done ++ before) ++ (after ++ rest))) p ≡ None
none_at ts done [] p after rest none = rw (append-nil done) none.0
none_at ts done (q ∷ qs) p after rest none =
    let moved : (done ++ (q ∷ qs)) ≡ (done ++ q ∷ []) ++ qs = sym (append_assoc done (q ∷ []) qs) in
    rw moved (none_at ts (done ++ q ∷ []) qs p after rest none.1)

-- ---- the first choice

-- The equation of a choice stands between those before and those after, and binds what is to be
-- put.
pub record IsChoice (ts : List Tree) (es : List Pair) (choice : Choice) : Type 0 where
  pub equation : Pair
  pub place : es ≡ choice.before ++ equation ∷ choice.after
  pub binds : binding (names_in ts (choice.before ++ choice.after)) equation ≡ Some choice.bound

choice_at : (ts : List Tree) (before : List Pair) (p : Pair) (after : List Pair) (choice : Choice) (here : Option Binding)
    → binding (names_in ts (before ++ after)) p ≡ here
    → choice_or before after here (first_choice ts (before ++ p ∷ []) after) ≡ Some choice
    → (first_choice ts (before ++ p ∷ []) after ≡ Some choice → IsChoice ts ((before ++ p ∷ []) ++ after) choice)
    → IsChoice ts (before ++ p ∷ after) choice
choice_at ts before p after choice (Some b) bound e later =
    let same : record { before = before; after = after; bound = b } ≡ choice = cc in
    let P : Choice → Type 0 = λ d. IsChoice ts (before ++ p ∷ after) d in
    transport P same (record { equation = p; place = refl; binds = bound })
choice_at ts before p after choice None bound e later =
    let P : List Pair → Type 0 = λ es. IsChoice ts es choice in
    transport P (append_assoc before (p ∷ []) after) (later e)

pub is_choice : (ts : List Tree) (before es : List Pair) (choice : Choice) → first_choice ts before es ≡ Some choice
    → IsChoice ts (before ++ es) choice
is_choice ts before [] choice e = cc
is_choice ts before (p ∷ after) choice e =
    choice_at ts before p after choice (binding (names_in ts (before ++ after)) p) refl e (λ f. is_choice ts (before ++ p ∷ []) after choice f)

-- ---- settling

settled_in-step : (n : ℕ) (c : Configuration) (choice : Choice) → first_choice c.interface [] c.equations ≡ Some choice
    → settled_in (suc n) c ≡ settled_in n (applied c choice)
settled_in-step n c choice e = rw e refl

-- a step at the first equation with an applicable side stays on the way to the settled configuration
pub settled-step : (c : Configuration) (choice : Choice) → first_choice c.interface [] c.equations ≡ Some choice
    → length c.equations ≡ length (applied c choice).equations + 1 → settled c ≡ settled (applied c choice)
settled-step c choice e shorter =
    ap (λ n. settled_in n c) (shorter ∙ add-one (length (applied c choice).equations)) ∙ settled_in-step (length (applied c choice).equations) c choice e

settled_in-stop : (n : ℕ) (c : Configuration) → first_choice c.interface [] c.equations ≡ None → settled_in n c ≡ c
settled_in-stop zero c e = refl
settled_in-stop (suc n) c e = rw e refl

-- where no equation has an applicable side, the configuration is settled
pub settled-stop : (c : Configuration) → first_choice c.interface [] c.equations ≡ None → settled c ≡ c
settled-stop c e = settled_in-stop (length c.equations) c e
