use Rattle.std.proofs.Common.{◌≡◌, ◌∙◌, ⊎_elim, inr, inl, true, false, refl, subst, sym}
use Rattle.std.proofs.lemmas.Result.{err_from_is_err_and, IfErr-weaker, IfOk-weaker}
use Rattle.std.specs.Arc.{arc_value}
use Rattle.ic_frames.specs.declared.faults.KeepFault.TheVariants.{Broken}
use Rattle.ic_rules.specs.System.{SystemParts}
use Rattle.ic_state.specs.State.{Kept, kept_by, state_bytes}
use Rattle.ic_keeping.specs.declared.beginning.Start.{Start}
use Rattle.ic_keeping.specs.declared.fault.KeepingFault.{KeepingFault}
use Rattle.ic_keeping.specs.Life.{AreRead, IsRead, IsStartOf, KeepModel, RefusesFiles}
use Rattle.ic_keeping.specs.Way.{IsStateOf}
use Rattle.ic_keeping.proofs.LivesLemmas.{ends_life, stops_life}
use Rattle.ic_keeping.proofs.WayLemmas.{are_rules}
use Rattle.ic_keeping.proofs.Refusing.{as_read, opening_keeps_none, run_not_unsound, text_keeps_none, text_opens_none}
use Rattle.ic_keeping.proofs.going.Run.live.Goals as goal
use Rattle.ic_keeping.proofs.going.Run.live.Goals.{In-Ok, After-handed_back}

-- a state that was found, and the rules of its text
abbrev start_here : (g : _) → In-Ok g → Start
start_here g c = record { state = c.in_ok-keeper.state; rules = c.in-Ok.rules }

is_start : (g : _) (c : In-Ok g) (s : SystemParts) → IsStateOf s (kept_by c.in_ok-keeper.state) → IsStartOf s (start_here g c)
is_start g c s is = record {
  rules = are_rules s (kept_by c.in_ok-keeper.state) (arc_value c.in-Ok.rules) is c.in-Ok.ensures.rules;
  state = is;
}

pub returns-in-Ok-clause-ended : goal.returns-in-Ok-clause-ended
returns-in-Ok-clause-ended g c s from hold =
    let at = (goal.at.returns-in-Ok-clause-ended g c).In-Ok in
    let found = c.in_ok-keeper.ensures in
    let is = found.state s from hold in
    IfOk-weaker c.live_on.result _ _
    (λ lived ends. ends_life g.D.Disk s c.args.self.now.bounds c.args.self.now.rounds c.args.self.now.asked from c.args.first c.args.second (start_here g at) c.in_ok-keeper.keeper lived.0 lived.1
    (is_start g at s is.0) found.sound (found.found hold.model) is.1 ends)
    c.live_on.ensures.ended

pub returns-in-Ok-clause-quiet : goal.returns-in-Ok-clause-quiet
returns-in-Ok-clause-quiet g c = IfOk-weaker c.live_on.result _ _ (λ lived ends. ends.on.ended) c.live_on.ensures.ended

pub returns-in-Ok-clause-stopped : goal.returns-in-Ok-clause-stopped
returns-in-Ok-clause-stopped g c s from hold =
    let at = (goal.at.returns-in-Ok-clause-stopped g c).In-Ok in
    let found = c.in_ok-keeper.ensures in
    IfErr-weaker c.live_on.result _ _
    (λ fault stops. inr (stops_life g.D.Disk s c.args.first c.args.second (start_here g at) c.in_ok-keeper.keeper fault
    (is_start g at s (found.state s from hold).0) found.sound (found.found hold.model) stops))
    c.live_on.ensures.stopped

pub returns-in-Ok-clause-device : goal.returns-in-Ok-clause-device
returns-in-Ok-clause-device g c = IfErr-weaker c.live_on.result _ _ (λ fault stops same. absurd (stops.1.tells.unopened _ same)) c.live_on.ensures.stopped

pub returns-in-Ok-clause-usable : goal.returns-in-Ok-clause-usable
returns-in-Ok-clause-usable g c =
    IfErr-weaker c.live_on.result _ _
    (λ fault stops same. let broken : false ≡ true = sym c.in_ok-keeper.ensures.ready ∙ (stops.1.tells.failed Broken same).0 in cc (broken))
    c.live_on.ensures.stopped

pub returns-in-Ok-clause-named : goal.returns-in-Ok-clause-named
returns-in-Ok-clause-named g c model = IfErr-weaker c.live_on.result _ _ (λ fault stops cause same. absurd (stops.1.tells.unopened cause same)) c.live_on.ensures.stopped

pub returns-in-Ok-clause-unsound : goal.returns-in-Ok-clause-unsound
returns-in-Ok-clause-unsound g c model =
    let at = (goal.at.returns-in-Ok-clause-unsound g c).In-Ok in
    let found = c.in_ok-keeper.ensures in
    let k = kept_by c.in_ok-keeper.state in
    IfErr-weaker c.live_on.result _ _
    (λ fault stops same. (
      state_bytes k,
      (found.found model).held,
      λ s form.
          let is = subst (λ (x : Kept). IsStateOf s x) (c.each_state_has_its_own_bytes.ensures form.0 k form.1 found.sound (sym form.3)) form.2 in
          run_not_unsound fault.cause (stops.1.why s (is_start g at s is)).stops same,
    ))
    c.live_on.ensures.stopped

pub returns-in-Ok-clause-reads : goal.returns-in-Ok-clause-reads
returns-in-Ok-clause-reads g c model =
    IfErr-weaker c.live_on.result _ _
    (λ fault stops why. ⊎_elim
    (λ opened. absurd (stops.1.tells.unopened opened.0 opened.1))
    (λ unsound. as_read (IsRead g.D.Disk) c.args.first c.args.second c.in_ok-keeper.keeper stops.0 fault stops.1.back (stops.1.tells.unsound unsound) (c.in_ok-keeper.ensures.found model).reads)
    why)
    c.live_on.ensures.stopped

-- rules that are read are those of some system
pub returns-in-Ok-clause-none : goal.returns-in-Ok-clause-none
returns-in-Ok-clause-none g c model none =
    let found = c.in_ok-keeper.ensures in
    let read = c.in-Ok.ensures.read in
    absurd (none (kept_by c.in_ok-keeper.state) found.sound (found.found model).held read.0 read.1 read.2)

-- a state whose text isn't read was only read
read_here : (g : _) (c : After-handed_back g) → KeepModel g.D.Disk c.args.first c.args.second → AreRead g.D.Disk c.args.first c.args.second c.handed_back.result
read_here g c model = as_read (IsRead g.D.Disk) c.args.first c.args.second c.in_ok-keeper.keeper c.in_ok-keeper.keeper c.handed_back.result c.handed_back.ensures.back refl (c.in_ok-keeper.ensures.found model).reads

pub returns-in-Err-clause-stopped : goal.returns-in-Err-clause-stopped
returns-in-Err-clause-stopped g c s from hold =
    let is = (c.in_ok-keeper.ensures.state s from hold).0 in
    inl (read_here g (goal.at.returns-in-Err-clause-stopped g c).After-handed_back hold.model, inr (inr (c.handed_back.ensures.cause ∙ c.in-Err.ensures.refused s is)))

pub returns-in-Err-clause-device : goal.returns-in-Err-clause-device
returns-in-Err-clause-device g c same = absurd (text_opens_none c.in-Err.cause c.in-Err.ensures.only _ (sym c.handed_back.ensures.cause ∙ same))

pub returns-in-Err-clause-usable : goal.returns-in-Err-clause-usable
returns-in-Err-clause-usable g c same = text_keeps_none c.in-Err.cause c.in-Err.ensures.only Broken (sym c.handed_back.ensures.cause ∙ same)

pub returns-in-Err-clause-named : goal.returns-in-Err-clause-named
returns-in-Err-clause-named g c model cause same = absurd (text_opens_none c.in-Err.cause c.in-Err.ensures.only cause (sym c.handed_back.ensures.cause ∙ same))

pub returns-in-Err-clause-unsound : goal.returns-in-Err-clause-unsound
returns-in-Err-clause-unsound g c model same =
    let found = c.in_ok-keeper.ensures in
    let k = kept_by c.in_ok-keeper.state in (
      state_bytes k,
      (found.found model).held,
      λ s form.
          let memory = c.in-Err.ensures.refused s (subst (λ (x : Kept). IsStateOf s x) (c.each_state_has_its_own_bytes.ensures form.0 k form.1 found.sound (sym form.3)) form.2) in
          let cause = sym c.handed_back.ensures.cause ∙ same in
          cc (cause, memory),
    )

pub returns-in-Err-clause-reads : goal.returns-in-Err-clause-reads
returns-in-Err-clause-reads g c model why = read_here g (goal.at.returns-in-Err-clause-reads g c).After-handed_back model

pub returns-in-Err-clause-none : goal.returns-in-Err-clause-none
returns-in-Err-clause-none g c model none =
    (refl, (read_here g (goal.at.returns-in-Err-clause-none g c).After-handed_back model, subst (λ (x : KeepingFault). RefusesFiles x) (sym c.handed_back.ensures.cause) (inr c.in-Err.ensures.only)))

pub returns-in_err-keeper-clause-stopped : goal.returns-in_err-keeper-clause-stopped
returns-in_err-keeper-clause-stopped g c s from hold =
    let found = c.in_err-keeper.ensures in
    let e = err_from_is_err_and c.from_residual.result c.from_residual.ensures.1 in
    rw (e.1, e.2) (inl (found.reads hold.model, found.refused s from hold))

pub returns-in_err-keeper-clause-device : goal.returns-in_err-keeper-clause-device
returns-in_err-keeper-clause-device g c =
    let e = err_from_is_err_and c.from_residual.result c.from_residual.ensures.1 in
    rw (e.1, e.2) c.in_err-keeper.ensures.device

pub returns-in_err-keeper-clause-usable : goal.returns-in_err-keeper-clause-usable
returns-in_err-keeper-clause-usable g c =
    let e = err_from_is_err_and c.from_residual.result c.from_residual.ensures.1 in
    rw (e.1, e.2) (opening_keeps_none c.in_err-keeper.field-0.0.cause c.in_err-keeper.ensures.only Broken)

pub returns-in_err-keeper-clause-named : goal.returns-in_err-keeper-clause-named
returns-in_err-keeper-clause-named g c model =
    let e = err_from_is_err_and c.from_residual.result c.from_residual.ensures.1 in
    rw (e.1, e.2) (c.in_err-keeper.ensures.named model)

pub returns-in_err-keeper-clause-unsound : goal.returns-in_err-keeper-clause-unsound
returns-in_err-keeper-clause-unsound g c model =
    let e = err_from_is_err_and c.from_residual.result c.from_residual.ensures.1 in
    rw (e.1, e.2) (λ same.
    let held = c.in_err-keeper.ensures.unsound model same in
    (held.0, held.1, λ s form. held.2 form.0 form.1 form.3))

pub returns-in_err-keeper-clause-reads : goal.returns-in_err-keeper-clause-reads
returns-in_err-keeper-clause-reads g c model =
    let e = err_from_is_err_and c.from_residual.result c.from_residual.ensures.1 in
    rw (e.1, e.2) (λ why. c.in_err-keeper.ensures.reads model)

pub returns-in_err-keeper-clause-none : goal.returns-in_err-keeper-clause-none
returns-in_err-keeper-clause-none g c model none =
    let e = err_from_is_err_and c.from_residual.result c.from_residual.ensures.1 in
    rw (e.1, e.2) (refl, (c.in_err-keeper.ensures.reads model, c.in_err-keeper.ensures.only))
