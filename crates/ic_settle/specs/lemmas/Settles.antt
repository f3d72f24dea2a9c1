-- A configuration on its way to being settled.
use Rattle.std.proofs.Common.{◌≡◌, ℕ, ◌+◌, List, [], ◌∷◌, ◌++◌, true, None, Some, length, map, refl, sym, ◌∙◌, ap, subst as transport, append_assoc, append-nil, length-append, arith}
use Rattle.std.proofs.lemmas.List.{map-append, length-map}
use Rattle.ic_term.specs.Tree.{Tree, Pair}
use Rattle.ic_term.specs.Configuration.{Configuration, IsConfiguration, names_in}
use Rattle.ic_term.specs.Symbol.{Symbol, is_over}
use Rattle.ic_settle.specs.Settling.{Binding, Choice, binding, first_choice, subst_pair, subst_in, settled}
use Rattle.ic_settle.specs.NameSteps.{NameStep, NameSteps, no_step, one_more}
use Rattle.ic_settle.specs.lemmas.ChoiceLaws.{NoneApplicable, binding_binds, binding_some, first_choice-passed, none_more, none_kept, none_at, settled-step, settled-stop}
use Rattle.ic_settle.specs.lemmas.StepLaws.{configuration_kept, over_kept}

-- The configuration d is reached from c by steps and has the same settled configuration; none of the equations
-- before a place has an applicable side.
pub record Settles (c d : Configuration) (before after : List Pair) : Type 0 where
  pub whole : d.equations ≡ before ++ after
  pub valid : IsConfiguration d
  pub same : settled d ≡ settled c
  pub reached : NameSteps c d
  pub over : (ss : List Symbol) → is_over ss c ≡ true → is_over ss d ≡ true
  pub passed : NoneApplicable d.interface [] before after

pub settles-start : (c : Configuration) → IsConfiguration c → Settles c c [] c.equations
settles-start c valid = record { whole = refl; valid = valid; same = refl; reached = no_step c; over = λ ss h. h; passed = tt }

pub settles-skip : (c d : Configuration) (before : List Pair) (p : Pair) (after : List Pair) → Settles c d before (p ∷ after)
    → binding (names_in d.interface (before ++ after)) p ≡ None → Settles c d (before ++ p ∷ []) after
settles-skip c d before p after s none = record {
  whole = s.whole ∙ sym (append_assoc before (p ∷ []) after);
  valid = s.valid;
  same = s.same;
  reached = s.reached;
  over = s.over;
  passed = none_more d.interface [] before p after s.passed none;
}

-- the first choice, once the equations before are passed over
pub choice_here : (ts : List Tree) (before : List Pair) (p : Pair) (after : List Pair) (b : Binding) → NoneApplicable ts [] before (p ∷ after)
    → binding (names_in ts (before ++ after)) p ≡ Some b
    → first_choice ts [] (before ++ p ∷ after) ≡ Some (record { before = before; after = after; bound = b })
choice_here ts before p after b passed e = first_choice-passed ts [] before (p ∷ after) passed ∙ rw e refl

pub settles-step : (c d : Configuration) (before : List Pair) (p : Pair) (after : List Pair) (b : Binding) → Settles c d before (p ∷ after)
    → binding (names_in d.interface (before ++ after)) p ≡ Some b
    → Settles c (subst_in b.name b.term (record d { equations = before ++ after })) (map (subst_pair b.name b.term) before) (map (subst_pair b.name b.term) after)
settles-step c d before p after b s e =
    let put = subst_pair b.name b.term in
    let bound = binding_binds (names_in d.interface (before ++ after)) p b e in
    let shape : d ≡ record d { equations = before ++ p ∷ after } = ap (λ es. record d { equations = es }) s.whole in
    let choice : Choice = record { before = before; after = after; bound = b } in
    let first = ap (first_choice d.interface []) s.whole ∙ choice_here d.interface before p after b s.passed e in
    let shorter : length d.equations ≡ length (map put (before ++ after)) + 1 =
    ap length s.whole ∙ omega (arith, length-append before (p ∷ after), length-append before after, length-map (before ++ after) put) in
    record {
      whole = map-append put before after;
      valid = configuration_kept d.interface before p after d.next b bound.0 bound.1 (let P : Configuration → Type 0 = IsConfiguration in transport P shape s.valid);
      same = sym (settled-step d choice first shorter) ∙ s.same;
      reached = one_more c d _ s.reached (record {
        before = before;
        equation = p;
        after = after;
        bound = b;
        place = s.whole;
        side = bound.0;
        outside = bound.1;
        result = refl;
      });
      over = λ ss h. over_kept ss d.interface before p after d.next b bound.0 (ap (is_over ss) (sym shape) ∙ s.over ss h);
      passed = none_kept d.interface [] before p after b bound.0 s.passed;
    }

pub settles-end : (c d : Configuration) (before : List Pair) → Settles c d before [] → (d ≡ settled c) × ((e : Configuration) → ¬ NameStep d e)
settles-end c d before s =
    let first = ap (first_choice d.interface []) s.whole ∙ first_choice-passed d.interface [] before [] s.passed in (
      sym (settled-stop d first) ∙ s.same,
      λ e step.
          let split = sym (append-nil before) ∙ sym s.whole ∙ step.place in
          let P : List Pair → Type 0 = λ es. NoneApplicable d.interface [] es [] in
          let none = none_at d.interface [] step.before step.equation step.after [] (transport P split s.passed) in
          binding_some (names_in d.interface (step.before ++ step.after)) step.equation step.bound step.side step.outside (rw (append-nil step.after) at none),
    )

-- ---- the same over the parts of the program

pub settles-parts : (c : Configuration) (ts : List Tree) (es : List Pair) (n : ℕ) → ts ≡ c.interface → es ≡ c.equations → n ≡ c.next
    → IsConfiguration c → Settles c (record { interface = ts; equations = es; next = n }) [] es
settles-parts c ts es n e f g valid = rw (e, f, g) (settles-start c valid)
