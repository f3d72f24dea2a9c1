-- What is found after any lives of a reduction is one of its states.
use Rattle.std.proofs.Common.{◌≡◌, ◌⊎◌, ⊎_elim, ◌∙◌, ℕ, ◌≤◌, Bool, List, refl, sym, subst}
use Rattle.ic_disk.specs.declared.disk.Disk.{Ghosts}
use Rattle.ic_disk.specs.Images.{Within}
use Rattle.ic_disk.specs.Time.{LeftSince}
use Rattle.ic_in_place.specs.declared.running.Bounds.{Bounds}
use Rattle.ic_in_place.specs.declared.stream.Asked.{Asked}
use Rattle.ic_kept.specs.declared.keeper.Keeper.{Keeper}
use Rattle.ic_kept.specs.Course.{HoldOne}
use Rattle.ic_kept.specs.Held.{Hold}
use Rattle.ic_kept.specs.Lives.{Lives}
use Rattle.ic_kept.specs.Keeper.{newest_of, other_of}
use Rattle.ic_kept.specs.Sheet.{IsNewest, IsShut}
use Rattle.ic_kept.specs.lemmas.CourseLaws.{held_at_end, model_after}
use Rattle.ic_kept.specs.lemmas.LivesLaws.{Stands, stands, opened_is, opened_leads}
use Rattle.ic_rules.specs.System.{SystemParts}
use Rattle.ic_state.specs.State.{Kept, IsKept, kept_by, state_bytes}
use Rattle.ic_keeping.specs.Way.{IsFormFrom, IsKeptAfter, IsNoLess, IsStateOf}
use Rattle.ic_keeping.specs.declared.beginning.ResumeFault.{ResumeFault}
use Rattle.ic_keeping.specs.declared.beginning.Start.{Start}
use Rattle.ic_keeping.specs.declared.going.Ended.{Ended}
use Rattle.ic_keeping.specs.inner.Pieces.{EndsOnWay, StopsOnWay}
use Rattle.ic_keeping.specs.Life.{HandsBack, HasEnded, HoldAState, IsFirstLife, IsLife, IsOpened, IsStartOf, KeepModel, KeepsOn, StopsAt}
use Rattle.ic_keeping.proofs.GoingLemmas.{leads_form, no_less_on}

-- the state that is found is the one that is held
pub held_is : ((state other a b : List ℕ) → Hold state a b → Hold other a b → state ≡ other) → ((k other : Kept) → IsKept k → IsKept other → state_bytes k ≡ state_bytes other → k ≡ other)
    → (s : SystemParts) (from : Kept) (a b : List ℕ) (k : Kept) → IsKept k → Hold (state_bytes k) a b → HoldOne (IsFormFrom s from) a b → IsStateOf s k × IsNoLess from k
held_is one_held one_state s from a b k is_kept found held =
    let form = held.1 in
    let same : form.0 ≡ k = one_state form.0 k form.1 is_kept (sym form.4 ∙ one_held held.0 (state_bytes k) a b held.2 found) in
    (subst (λ (x : Kept). IsStateOf s x) same form.2, subst (λ (x : Kept). IsNoLess from x) same form.3)

module _ {D : Type 0} (keeps_model : D → Bool) (content : D → List ℕ) (image : D → List ℕ → Type 0) (clock : D → ℕ) (left : D → ℕ → List ℕ → Type 0)
    (content_is_image : (disk : D) → image disk (content disk)) (one_held : (state other a b : List ℕ) → Hold state a b → Hold other a b → state ≡ other)
    (one_state : (k other : Kept) → IsKept k → IsKept other → state_bytes k ≡ state_bytes other → k ≡ other)
    (s : SystemParts) (begun : Kept) (kept coming : List ℕ) (one other : D)
    (lives : Lives keeps_model content image clock left (IsKeptAfter s) (state_bytes begun) kept coming one other) where
  pub there : Stands keeps_model content image clock left content_is_image one_held (IsKeptAfter s) (state_bytes begun) kept coming one other
  there = stands keeps_model content image clock left content_is_image one_held (IsKeptAfter s) (state_bytes begun) kept coming one other lives

  module _ (is_kept : IsKept begun) (is : IsStateOf s begun) where
    pub kept_form : IsFormFrom s begun kept
    kept_form = leads_form one_state s begun is_kept is (state_bytes begun) kept refl there.chain

    form_held : (state : List ℕ) → Hold state (content one) (content other) → HoldOne (IsFormFrom s begun) (content one) (content other)
    form_held state held = (
      state,
      leads_form one_state s begun is_kept is (state_bytes begun) state refl
          (opened_leads keeps_model content image clock left content_is_image one_held (IsKeptAfter s) (state_bytes begun) kept coming one other there state held),
      held,
    )

    -- so the files hold one
    pub one_is_held : HoldOne (IsFormFrom s begun) (content one) (content other)
    one_is_held = ⊎_elim
        (λ old. form_held kept old)
        (λ new. form_held coming new)
        (there.holds (content one) (content other) (content_is_image one) (content_is_image other))

    module _ (k : Kept) (k_kept : IsKept k) (held : Hold (state_bytes k) (content one) (content other)) where
      pub found_as : (state_bytes k ≡ kept) ⊎ (state_bytes k ≡ coming)
      found_as = opened_is keeps_model content image clock left content_is_image one_held (IsKeptAfter s) (state_bytes begun) kept coming one other there (state_bytes k) held

      pub found_is : IsStateOf s k × IsNoLess begun k
      found_is = held_is one_held one_state s begun (content one) (content other) k k_kept held one_is_held

-- at the end of a life they hold one, too
pub life_holds : {D : Type 0} (disk : Ghosts D) → ((d : D) (t : ℕ) (file : List ℕ) → t ≤ disk.clock d → disk.image d file → LeftSince (disk.left d) t file) → ((d : D) → disk.image d (disk.content d))
    → ((k other : Kept) → IsKept k → IsKept other → state_bytes k ≡ state_bytes other → k ≡ other)
    → (s : SystemParts) (found : Kept) (first second : D) (k n : Keeper D) → IsLife disk s found first second k n → HoldAState disk s found (newest_of n) (other_of n)
life_holds disk is_left now one s found first second k n life =
    let opened = life.opened in
    let end = held_at_end disk.keeps disk.image disk.clock disk.left (IsKeptAfter s) is_left k n (state_bytes found) opened.model opened.keeps life.way
    (disk.content (newest_of n)) (disk.content (other_of n)) (now (newest_of n)) (now (other_of n)) in
    record {
      model = model_after disk.keeps disk.image disk.clock disk.left (IsKeptAfter s) k n (state_bytes found) opened.model opened.keeps life.way;
      held = (end.0, leads_form one s found life.is_kept life.state (state_bytes found) end.0 refl end.1, end.2);
    }

-- and so do those that a fault hands back
pub holds_back : {D : Type 0} (disk : Ghosts D) (s : SystemParts) (from : Kept) (n : Keeper D) (fault : ResumeFault D) → HandsBack n fault → HoldAState disk s from (newest_of n) (other_of n)
    → HoldAState disk s from fault.first fault.second
holds_back {D} disk s from n fault back holds =
    subst (λ (d : D). HoldAState disk s from d fault.second) (sym back.0) (subst (λ (d : D). HoldAState disk s from (newest_of n) d) (sym back.1) holds)

pub holds_less : {D : Type 0} (disk : Ghosts D) (s : SystemParts) (some from : Kept) (first second : D) → IsNoLess from some → HoldAState disk s some first second → HoldAState disk s from first second
holds_less disk s some from first second less holds =
    let form = holds.held.1 in
    record { model = holds.model; held = (holds.held.0, (form.0, form.1, form.2, no_less_on from some form.0 less form.3, form.4), holds.held.2) }

pub stops_at : {D : Type 0} {disk : Ghosts D} (s : SystemParts) (start : Start) (old new : Keeper D) (fault : ResumeFault D) → IsStartOf s start → StopsOnWay disk start old new fault
    → StopsAt s (kept_by start.state) old new fault
stops_at s start old new fault is stops = record { back = stops.back; why = stops.why s is; tells = stops.tells }

-- a life from a state that was found: it has ended, or stopped
module _ {D : Type 0} (disk : Ghosts D) (s : SystemParts) where
  pub ends_life : (bounds : Bounds) (most : ℕ) (asked : Asked) (from : Kept) (first second : D) (start : Start) (keeper : Keeper D) (run : Ended) (new : Keeper D) → IsStartOf s start → IsKept (kept_by start.state)
      → IsOpened disk (kept_by start.state) first second keeper → IsNoLess from (kept_by start.state) → EndsOnWay disk bounds most asked start keeper run new → HasEnded disk s bounds most asked from first second run new
  ends_life bounds most asked from first second start keeper run new is is_kept opened no_less ends = record {
    found = kept_by start.state;
    keeper = keeper;
    life = record { is_kept = is_kept; state = is.state; opened = opened; way = ends.way s is is_kept };
    no_less = no_less;
    has_run = ends.has_run s is;
    on = ends.on;
    kept = λ between. ends.kept s is is_kept (opened.model, opened.keeps) between;
  }

  pub stops_life : (first second : D) (start : Start) (keeper : Keeper D) (fault : ResumeFault D) → IsStartOf s start → IsKept (kept_by start.state)
      → IsOpened disk (kept_by start.state) first second keeper → (new : Keeper D) × StopsOnWay disk start keeper new fault
      → (found : Kept) × (k : Keeper D) × (n : Keeper D) × IsLife disk s found first second k n × StopsAt s found k n fault
  stops_life first second start keeper fault is is_kept opened stops = (
    kept_by start.state,
    keeper,
    stops.0,
    record { is_kept = is_kept; state = is.state; opened = opened; way = stops.1.way s is is_kept },
    stops_at s start keeper stops.0 fault is stops.1,
  )

  pub begins_life : (start : Start) (first second : D) (keeper new : Keeper D) → IsStartOf s start → IsKept (kept_by start.state) → KeepModel disk first second
      → Within (disk.image first) (IsNewest 1 (state_bytes (kept_by start.state))) → Within (disk.image second) IsShut → IsOpened disk (kept_by start.state) first second keeper
      → KeepsOn disk s (kept_by start.state) keeper new → IsFirstLife disk s (kept_by start.state) new
  begins_life start first second keeper new is is_kept model newest shut opened way = record {
    first = first;
    second = second;
    model = model;
    newest = newest;
    shut = shut;
    keeper = keeper;
    life = record { is_kept = is_kept; state = is.state; opened = opened; way = way };
  }

  pub stops_first : (start : Start) (first second : D) (keeper : Keeper D) (fault : ResumeFault D) → IsStartOf s start → IsKept (kept_by start.state) → KeepModel disk first second
      → Within (disk.image first) (IsNewest 1 (state_bytes (kept_by start.state))) → Within (disk.image second) IsShut → IsOpened disk (kept_by start.state) first second keeper
      → (new : Keeper D) × StopsOnWay disk start keeper new fault
      → (n : Keeper D) × (life : IsFirstLife disk s (kept_by start.state) n) × StopsAt s (kept_by start.state) life.keeper n fault
  stops_first start first second keeper fault is is_kept model newest shut opened stops = (
    stops.0,
    record {
      first = first;
      second = second;
      model = model;
      newest = newest;
      shut = shut;
      keeper = keeper;
      life = record { is_kept = is_kept; state = is.state; opened = opened; way = stops.1.way s is is_kept };
    },
    stops_at s start keeper stops.0 fault is stops.1,
  )
