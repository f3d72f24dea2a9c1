-- What was kept on the way of a reduction, and what a state leads to.
use Rattle.std.proofs.Common.{◌≡◌, ◌≢◌, ◌⊎◌, inl, inr, ⊎_elim, ◌∙◌, ℕ, ◌<◌, ◌≤◌, Bool, true, List, [], ◌∷◌, ◌++◌, Option, None, Some, Ok, Err, length, max, refl, sym, subst, arith}
use Rattle.std.specs.Prelude.{◌↔◌, IsNone}
use Rattle.std.specs.List.{AllByRecursion}
use Rattle.std.proofs.lemmas.Bool.{cases_lt}
use Rattle.std.proofs.lemmas.List.Sorted.{IsPermutation-refl}
use Rattle.ic_disk.specs.declared.disk.Disk.{Ghosts}
use Rattle.ic_in_place.specs.declared.running.Bounds.{Bounds}
use Rattle.ic_in_place.specs.declared.running.End.{End}
use Rattle.ic_in_place.specs.declared.running.End.TheVariants.{Quiet, Steps}
use Rattle.ic_in_place.specs.declared.stream.Asked.{Asked}
use Rattle.ic_in_place.specs.Counting.{AreCounts, AreOfRounds, rules_in}
use Rattle.ic_kept.specs.lemmas.CourseLaws.{kept_after}
use Rattle.ic_term.specs.Configuration.{Configuration}
use Rattle.ic_round.specs.Quiet.{IsQuiet}
use Rattle.ic_round.specs.Rounds.{iterate}
use Rattle.ic_generations.specs.Firings.{rules_of}
use Rattle.ic_reaching.specs.OneNet.{OneNet}
use Rattle.ic_state.specs.declared.state.State.{State}
use Rattle.ic_frames.specs.declared.faults.KeepFault.{KeepFault}
use Rattle.ic_kept.specs.declared.keeper.Keeper.{Keeper}
use Rattle.ic_kept.specs.Course.{IsKeep, Course, Way, no_keep, one_more, all_answered, last_refused, Leads, stays, goes_on}
use Rattle.ic_rules.specs.Rule.{Rule}
use Rattle.ic_rules.specs.System.{SystemParts}
use Rattle.ic_term.specs.declared.limits.TheConstants.{MAX_WIDE_NODES}
use Rattle.ic_state.specs.State.{Kept, IsKept, kept_by, state_bytes}
use Rattle.ic_state.specs.Words.{IsKeptWord}
use Rattle.ic_keeping.specs.declared.fault.KeepingFault.{KeepingFault}
use Rattle.ic_keeping.specs.declared.fault.KeepingFault.TheVariants.{Limit, Memory}
use Rattle.ic_keeping.specs.declared.going.Ended.{Ended}
use Rattle.ic_keeping.specs.inner.Pieces.{ComesTogether, StopsAPiece}
use Rattle.ic_keeping.specs.Life.{GoesOn, HasAsFar, HasRun, HasState, IsTold, StopsARun, StopsFrom}
use Rattle.ic_keeping.specs.Way.{AreAlike, GoesFurther, IsAnswer, IsAnswerByRounds, IsAsFar, IsFormFrom, IsKeptAfter, IsNoLess, IsReachedFrom, IsStateOf}
use Rattle.ic_keeping.proofs.ByRounds.{alike_itself, alike_on}
use Rattle.ic_keeping.proofs.Refusing.{of_two}
use Rattle.ic_keeping.proofs.WayLemmas.{past_state}

no_less : (n : ℕ) (ended : Bool) (k : Kept) → GoesFurther n ended k → n ≤ k.interactions
no_less n ended k further = ⊎_elim (λ more. omega (arith, more)) (λ same. omega (arith, same.0)) further

pub no_less_itself : (k : Kept) → IsNoLess k k
no_less_itself k = record { interactions = omega arith; alike = alike_itself k.rounds }

pub no_less_on : (from middle k : Kept) → IsNoLess from middle → IsNoLess middle k → IsNoLess from k
no_less_on from middle k one two = record {
  interactions = let first = one.interactions in let then_too = two.interactions in omega (arith, first, then_too);
  alike = alike_on from.rounds middle.rounds k.rounds one.alike two.alike;
}

-- what is led to is a state of the reduction that goes no less far
pub leads_form : ((k other : Kept) → IsKept k → IsKept other → state_bytes k ≡ state_bytes other → k ≡ other) → (s : SystemParts) (first : Kept) → IsKept first → IsStateOf s first
    → (bytes last : List ℕ) → bytes ≡ state_bytes first → Leads (IsKeptAfter s) bytes last → IsFormFrom s first last
leads_form one s first is_kept is bytes last same (stays x) = (first, is_kept, is, no_less_itself first, same)
leads_form one s first is_kept is bytes last same (goes_on x state next leads after) =
    let was = leads_form one s first is_kept is bytes state same leads in
    let before : was.0 ≡ after.before = one was.0 after.before was.1 after.was_kept (sym was.4 ∙ after.old_is) in
    let further : IsNoLess after.before after.after =
    record { interactions = no_less after.before.interactions after.before.ended after.after after.further; alike = after.alike } in (
      after.after,
      after.is_kept,
      after.from.is,
      no_less_on first after.before after.after (subst (λ (x : Kept). IsNoLess first x) before was.3) further,
      after.new_is,
    )

-- What is told of an end, of the state with its last piece.
pub record IsEndOf (s : SystemParts) (bounds : Bounds) (most : ℕ) (k : Kept) (rounds : Option ℕ) (e : End) (state : State) : Type 0 where
  pub within : Bounds
  pub bounded : k.rounds ≡ None → within ≡ bounds
  pub answer : IsAnswer s within e (kept_by state)
  pub onward : IsReachedFrom s k (kept_by state)
  pub by_rounds : (made : ℕ) → k.rounds ≡ Some made → (n : ℕ) × (rounds ≡ Some n) × (n ≤ max most made)
      × IsAnswerByRounds s most n e answer.answer state.interactions state.by_rule.items
  pub no_fewer : (made n : ℕ) → k.rounds ≡ Some made → rounds ≡ Some n → (made ≤ n) ⊎ ((n ≡ 0) × (state.interactions ≡ 0) × (e ≢ Quiet) × (e ≢ Steps))
  pub any_order : k.rounds ≡ None → rounds ≡ None
  pub between : (made : ℕ) → k.rounds ≡ Some made → made < most → (e ≡ Quiet) ⊎ (e ≡ Steps) → state.rounds ≡ rounds

has_run_so : (s : SystemParts) (bounds : Bounds) (most : ℕ) (asked : Asked) (k : Kept) (run : Ended) → IsTold s asked run → IsEndOf s bounds most k run.rounds run.end run.state
    → HasRun s bounds most asked k run
has_run_so s bounds most asked k run told is =
    record { within = is.within; bounded = is.bounded; answer = is.answer; told = told; onward = is.onward; by_rounds = is.by_rounds; no_fewer = is.no_fewer; any_order = is.any_order; between = is.between }

pub run_is : (s : SystemParts) (bounds : Bounds) (most : ℕ) (asked : Asked) (k : Kept) (state : State) (e : End) (run : Ended) → run.state ≡ state → run.end ≡ e
    → IsTold s asked run → IsEndOf s bounds most k run.rounds e state → HasRun s bounds most asked k run
run_is s bounds most asked k state e run same ends told is =
    has_run_so s bounds most asked k run told
    (subst (λ (x : End). IsEndOf s bounds most k run.rounds x run.state) (sym ends) (subst (λ (x : State). IsEndOf s bounds most k run.rounds e x) (sym same) is))

-- no pair has fired, and so none in no round
none_fired : (rs : List Rule) (c : Configuration) (n interactions : ℕ) (e : End) (by_rule : List ℕ) → AreOfRounds rs c n e interactions by_rule → interactions ≡ 0 → AreOfRounds rs c 0 e interactions by_rule
none_fired rs c n interactions e by_rule of none =
    let count = of.all in
    record {
      since = [];
      all = none;
      counts = subst (λ (l : List ℕ). AreCounts (length rs) l by_rule) (nothing (rules_in rs n c ++ of.since) (omega (arith, count, none))) of.counts;
      rest = rules_of rs c.equations;
      part = IsPermutation-refl (rules_of rs c.equations);
      whole = λ either. refl;
    }
  where
    nothing : (l : List ℕ) → length l ≡ 0 → l ≡ []
    nothing [] long = refl
    nothing (i ∷ l) long = absurd (omega (arith, long))

-- how many rounds are told of an end
pub end_by_rounds : (s : SystemParts) (most top : ℕ) (e : End) (answer : Configuration) (interactions : ℕ) (by_rule : List ℕ) (told over : Option ℕ) (n : ℕ) → over ≡ Some n → n ≤ top
    → ((e ≡ Quiet) ⊎ (e ≡ Steps) → told ≡ over) → ((m : ℕ) → over ≡ Some m → (told ≡ Some m) ⊎ ((told ≡ Some 0) × (interactions ≡ 0)))
    → ((e ≡ Quiet) ⊎ (e ≡ Steps) → OneNet answer (iterate s.rules.rules n s.config)) → ((m : ℕ) → m < n → IsQuiet s.rules.rules (iterate s.rules.rules m s.config) → ⊥) → (e ≡ Steps → most ≤ n)
    → AreOfRounds s.rules.rules s.config n e interactions by_rule
    → (l : ℕ) × (told ≡ Some l) × (l ≤ top) × IsAnswerByRounds s most l e answer interactions by_rule
end_by_rounds s most top e answer interactions by_rule told over n is low between some net needed all fired = ⊎_elim
    (λ same. (n, same, low, record { net = net; needed = needed; all = all; fired = fired }))
    (λ none.
    let same : (e ≡ Quiet) ⊎ (e ≡ Steps) → n ≡ 0 = λ either. let one : Some n ≡ Some 0 = sym is ∙ sym (between either) ∙ none.0 in cc (one) in (
      0,
      none.0,
      omega arith,
      record {
        net = λ either. subst (λ (k : ℕ). OneNet answer (iterate s.rules.rules k s.config)) (same either) (net either);
        needed = λ m few. absurd (omega (arith, few));
        all = λ steps. omega (arith, all steps, same (inr steps));
        fired = none_fired s.rules.rules s.config n interactions e by_rule fired none.1;
      },
    ))
    (some n is)

-- they are no fewer than were made before, unless it has ended by a bound or a limit, and no pair has fired
pub no_fewer_told : (told : Option ℕ) (made over n interactions : ℕ) (e : End) → (told ≡ Some over) ⊎ ((told ≡ Some 0) × (interactions ≡ 0)) → ((e ≡ Quiet) ⊎ (e ≡ Steps) → told ≡ Some over)
    → made ≤ over → told ≡ Some n → (made ≤ n) ⊎ ((n ≡ 0) × (interactions ≡ 0) × (e ≢ Quiet) × (e ≢ Steps))
no_fewer_told told made over n interactions e (inl all) between low is = inl (let same : over ≡ n = cc (sym all ∙ is) in omega (arith, low, same))
no_fewer_told told made over n interactions e (inr none) between low is =
    let same : n ≡ 0 = cc (sym none.0 ∙ is) in
    let whole : 0 < made → (e ≡ Quiet) ⊎ (e ≡ Steps) → ⊥ = λ some either. let none_over : over ≡ 0 = cc (sym (between either) ∙ none.0) in omega (arith, none_over, low, some) in
    ⊎_elim
    (λ some. inr (same, none.1, λ quiet. whole some (inl quiet), λ steps. whole some (inr steps)))
    (λ few. inl (omega (arith, few)))
    (cases_lt 0 made)

-- how far a run from any state has gone on with such a state
pub record GoneTo (bounds : Bounds) (old : State) (e : End) (state : State) : Type 0 where
  pub later : old.interactions ≤ state.interactions
  pub within : old.rounds ≡ None → state.interactions ≤ max bounds.steps old.interactions
  pub millis : old.millis ≤ state.millis
  pub ended : (state.ended ≡ true) ↔ (e ≡ Quiet)

pub goes_on_so : (bounds : Bounds) (old state : State) (e : End) (run : Ended) → run.state ≡ state → run.end ≡ e → GoneTo bounds old e state → (run.end ≢ Quiet → IsNone run.stuck) → GoesOn bounds (kept_by old) run
goes_on_so bounds old state e run same ends to unstuck =
    let is = subst (λ (x : End). GoneTo bounds old x run.state) (sym ends) (subst (λ (x : State). GoneTo bounds old e x) (sym same) to) in
    record { later = is.later; within = is.within; millis = is.millis; ended = is.ended; unstuck = unstuck }

module _ {D : Type 0} (keeps_model : D → Bool) (image : D → List ℕ → Type 0) (clock : D → ℕ) (left : D → ℕ → List ℕ → Type 0) (s : SystemParts) (first : Kept) (start : Keeper D) where
  -- A keeper has a state that goes as far as this one, and from which this one is reached. It has ended or not.
  pub record HasKept (k : Kept) (ended : Bool) (keeper : Keeper D) : Type 0 where
    pub kept : Kept
    pub is_kept : IsKept kept
    pub onward : IsReachedFrom s kept k
    pub as_far : IsAsFar kept k
    pub has_ended : kept.ended ≡ ended
    pub alike : AreAlike kept.rounds k.rounds
    pub course : Course keeps_model image clock left (IsKeptAfter s) (state_bytes first) start (state_bytes kept) keeper

  pub begins : IsKept first → IsReachedFrom s first first → HasKept first first.ended start
  begins is_kept itself = record {
    kept = first;
    is_kept = is_kept;
    onward = itself;
    as_far = record { interactions = refl; by_rule = refl; ended = λ e. e };
    has_ended = refl;
    alike = alike_itself first.rounds;
    course = no_keep (state_bytes first) start;
  }

  comes : (k new : Kept) (ended : Bool) (keeper : Keeper D) → (has : HasKept k ended keeper) → IsReachedFrom s has.kept new → IsKept new → GoesFurther k.interactions ended new
      → length new.words ≤ MAX_WIDE_NODES → AreAlike k.rounds new.rounds → IsKeptAfter s (state_bytes has.kept) (state_bytes new)
  comes k new ended keeper has onward is_kept further few alike = record {
    before = has.kept;
    after = new;
    old_is = refl;
    new_is = refl;
    was_kept = has.is_kept;
    is_kept = is_kept;
    from = onward;
    further = subst (λ (n : ℕ). GoesFurther n has.kept.ended new) (sym has.as_far.interactions) (subst (λ (b : Bool). GoesFurther k.interactions b new) (sym has.has_ended) further);
    few = few;
    alike = alike_on has.kept.rounds k.rounds new.rounds has.alike alike;
  }

  keeps_more : (k new : Kept) (ended now_ended : Bool) (keeper now : Keeper D) → (has : HasKept k ended keeper) → IsReachedFrom s has.kept new → IsReachedFrom s new new → IsKept new
      → GoesFurther k.interactions ended new → length new.words ≤ MAX_WIDE_NODES → IsKeep keeps_model image clock left (state_bytes new) (Ok tt) keeper now → now_ended ≡ new.ended
      → AreAlike k.rounds new.rounds → HasKept new now_ended now
  keeps_more k new ended now_ended keeper now has onward itself is_kept further few keep told alike = record {
    kept = new;
    is_kept = is_kept;
    onward = itself;
    as_far = record { interactions = refl; by_rule = refl; ended = λ e. e };
    has_ended = sym told;
    alike = alike_itself new.rounds;
    course = one_more (state_bytes first) (state_bytes has.kept) (state_bytes new) start keeper now has.course (comes k new ended keeper has onward is_kept further few alike) keep;
  }

  keeps_still : (k new : Kept) (ended now_ended : Bool) (keeper now : Keeper D) → (has : HasKept k ended keeper) → IsReachedFrom s has.kept new → k.interactions ≡ new.interactions → new.by_rule ≡ k.by_rule
      → (new.ended ≡ true → ended ≡ true) → now_ended ≡ ended → now ≡ keeper → AreAlike k.rounds new.rounds → HasKept new now_ended now
  keeps_still k new ended now_ended keeper now has onward same counts still told stayed alike = subst (λ (n : Keeper D). HasKept new now_ended n) (sym stayed) (record {
    kept = has.kept;
    is_kept = has.is_kept;
    onward = onward;
    as_far = record { interactions = has.as_far.interactions ∙ same; by_rule = has.as_far.by_rule ∙ sym counts; ended = λ e. has.has_ended ∙ still e };
    has_ended = has.has_ended ∙ sym told;
    alike = alike_on has.kept.rounds k.rounds new.rounds has.alike alike;
    course = has.course;
  })

  -- after a call that was answered
  pub keeps_on : (k new : Kept) (ended now_ended : Bool) (keeper now : Keeper D) → (has : HasKept k ended keeper) → IsReachedFrom s has.kept new → IsReachedFrom s new new
      → (k.interactions ≡ new.interactions → new.by_rule ≡ k.by_rule)
      → (GoesFurther k.interactions ended new × IsKept new × (length new.words ≤ MAX_WIDE_NODES) × IsKeep keeps_model image clock left (state_bytes new) (Ok tt) keeper now × (now_ended ≡ new.ended))
      ⊎ ((k.interactions ≡ new.interactions) × (new.ended ≡ true → ended ≡ true) × (now_ended ≡ ended) × (now ≡ keeper)) → AreAlike k.rounds new.rounds → HasKept new now_ended now
  keeps_on k new ended now_ended keeper now has onward itself counts done alike = ⊎_elim
      (λ more. keeps_more k new ended now_ended keeper now has onward itself more.1 more.0 more.2 more.3 more.4 alike)
      (λ still. keeps_still k new ended now_ended keeper now has onward still.0 (counts still.0) still.1 still.2 still.3 alike)
      done

  pub way_of : (k : Kept) (ended : Bool) (keeper : Keeper D) → HasKept k ended keeper → Way keeps_model image clock left (IsKeptAfter s) (state_bytes first) start keeper
  way_of k ended keeper has = all_answered (state_bytes first) (state_bytes has.kept) start keeper has.course

  -- and after one that was refused
  pub way_refused : (k new : Kept) (ended : Bool) (keeper now : Keeper D) → (has : HasKept k ended keeper) → IsReachedFrom s has.kept new
      → (now ≡ keeper) ⊎ ((fault : KeepFault) × GoesFurther k.interactions ended new × IsKept new × (length new.words ≤ MAX_WIDE_NODES) × IsKeep keeps_model image clock left (state_bytes new) (Err fault) keeper now)
      → AreAlike k.rounds new.rounds → Way keeps_model image clock left (IsKeptAfter s) (state_bytes first) start now
  way_refused k new ended keeper now has onward done alike = ⊎_elim
      (λ same. subst (λ (n : Keeper D). Way keeps_model image clock left (IsKeptAfter s) (state_bytes first) start n) (sym same) (way_of k ended keeper has))
      (λ refused. last_refused (state_bytes first) (state_bytes has.kept) (state_bytes new) start keeper now refused.0 has.course (comes k new ended keeper has onward refused.2 refused.1 refused.3 alike) refused.4)
      done

-- what was kept goes as far as what a run has come to
pub as_far_as : {D : Type 0} (disk : Ghosts D) (s : SystemParts) (first : Kept) (start now : Keeper D) (state : State) (ended : Bool) (run : Ended) → run.state ≡ state
    → HasKept disk.keeps disk.image disk.clock disk.left s first start (kept_by state) ended now → HasState disk first start → HasAsFar disk s (kept_by run.state) now
as_far_as disk s first start now state ended run same has began =
    let after = kept_after disk.keeps disk.image disk.clock disk.left (IsKeptAfter s) start now (state_bytes first) (state_bytes has.kept) began.0 began.1 has.course in
    record {
      kept = has.kept;
      is_kept = has.is_kept;
      onward = subst (λ (x : State). IsReachedFrom s has.kept (kept_by x)) (sym same) has.onward;
      as_far = subst (λ (x : State). IsAsFar has.kept (kept_by x)) (sym same) has.as_far;
      has = (after.0, after.1);
    }

-- a piece that has stopped stops the run, and so does a keep that was refused after one
pub stops_in_piece : (s : SystemParts) (first : Kept) (state : State) (fault : KeepingFault) → IsReachedFrom s first first → (kept_by state ≡ first) ⊎ ComesTogether s first (kept_by state)
    → StopsAPiece s first state fault → StopsFrom s first fault
stops_in_piece s first state fault itself together stops = record {
  stops = of_two fault stops.stops;
  limit = λ limit. ⊎_elim (λ many. past_state s first (kept_by state) itself together many) (λ past. past) (stops.limit limit);
}

pub stops_in_keep : (s : SystemParts) (first : Kept) (state : State) (fault : KeepingFault) → IsReachedFrom s first first → ComesTogether s first (kept_by state)
    → (length state.words.items ≤ MAX_WIDE_NODES → AllByRecursion (IsKeptWord state.narrow) state.words.items) → StopsARun fault
    → (fault ≡ Limit → (MAX_WIDE_NODES < length state.words.items) ⊎ ¬ AllByRecursion (IsKeptWord state.narrow) state.words.items) → StopsFrom s first fault
stops_in_keep s first state fault itself together numbered stops limits = record {
  stops = stops;
  limit = λ limit. ⊎_elim
      (λ many. past_state s first (kept_by state) itself (inr together) many)
      (λ few. ⊎_elim
      (λ many. past_state s first (kept_by state) itself (inr together) many)
      (λ unnumbered. absurd (unnumbered (numbered few)))
      (limits limit))
      (cases_lt MAX_WIDE_NODES (length state.words.items));
}

pub stops_for_memory : (s : SystemParts) (first : Kept) (fault : KeepingFault) → fault ≡ Memory → StopsFrom s first fault
stops_for_memory s first fault memory = record {
  stops = inl memory;
  limit = λ limit. absurd (let e : Memory ≡ Limit = sym memory ∙ limit in cc);
}
