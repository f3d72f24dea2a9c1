use Rattle.std.proofs.Common.{◌≡◌, ◌∙◌, inl, inr, ⊎_elim, true, false, Bool, Err, ap, subst, sym}
use Rattle.std.proofs.lemmas.Result.{IfErr-weaker, IfOk-weaker}
use Rattle.std.specs.Prelude.{IsTrue}
use Rattle.ic_frames.specs.declared.faults.KeepFault.TheVariants.{Broken}
use Rattle.ic_kept.specs.declared.keeper.Keeper.{Keeper}
use Rattle.ic_rules.specs.System.{SystemParts}
use Rattle.ic_state.specs.State.{kept_by, state_bytes}
use Rattle.ic_keeping.specs.Life.{IsFirstLife, IsOpened, IsStartOf, KeepModel, KeepsOn}
use Rattle.ic_keeping.proofs.LivesLemmas.{begins_life, stops_first}
use Rattle.ic_keeping.proofs.Refusing.{run_not_device, run_not_empty}
use Rattle.ic_keeping.proofs.going.Run.live_anew.Goals as goal
use Rattle.ic_keeping.proofs.going.Run.live_anew.Goals.{After-made}

-- the files that were begun keep the model, and are as if they had been opened
model_here : (g : _) (c : After-made g) → KeepModel g.D.Disk c.args.first c.args.second → KeepModel g.D.Disk c.begin.new.first c.begin.new.second
model_here g c model = (
  subst (λ (b : Bool). IsTrue b) (sym c.in-Ok.ensures.keeps_first) model.0,
  subst (λ (b : Bool). IsTrue b) (sym c.in-Ok.ensures.keeps_second) model.1,
)

opened_here : (g : _) (c : After-made g) → KeepModel g.D.Disk c.args.first c.args.second
    → IsOpened g.D.Disk (kept_by c.args.start.state) c.begin.new.first c.begin.new.second c.made.result
opened_here g c model =
    let begun = c.in-Ok.ensures in
    let now = model_here g c model in
    c.made.ensures.opened (state_bytes (kept_by c.args.start.state)) now.0 now.1 (begun.newest model.0) (begun.shut model.1)

life_here : (g : _) (c : After-made g) → KeepModel g.D.Disk c.args.first c.args.second → (s : SystemParts) → IsStartOf s c.args.start
    → (n : Keeper g.row.D.Denot) → KeepsOn g.D.Disk s (kept_by c.args.start.state) c.made.result n → IsFirstLife g.D.Disk s (kept_by c.args.start.state) n
life_here g c model s is n way =
    let begun = c.in-Ok.ensures in
    begins_life g.D.Disk s c.args.start c.begin.new.first c.begin.new.second c.made.result n is begun.sound (model_here g c model) (begun.newest model.0) (begun.shut model.1) (opened_here g c model) way

pub returns-in-Err-clause-stopped : goal.returns-in-Err-clause-stopped
returns-in-Err-clause-stopped g c s is model =
    let begun = c.in-Err.ensures in
    inl (record {
      stops = begun.refused;
      untouched = λ why. begun.untouched (⊎_elim (λ memory. inr (ap Err memory)) (λ limit. inl (ap Err limit)) why);
      spared = λ held. (begun.spares_first model.0 (ap Err held), begun.spares_second model.1 (ap Err held));
    })

pub returns-in-Ok-clause-answer : goal.returns-in-Ok-clause-answer
returns-in-Ok-clause-answer g c s is = IfOk-weaker c.live_on.result _ _ (λ lived ends. ends.has_run s is) c.live_on.ensures.ended

pub returns-in-Ok-clause-on : goal.returns-in-Ok-clause-on
returns-in-Ok-clause-on g c = IfOk-weaker c.live_on.result _ _ (λ lived ends. ends.on) c.live_on.ensures.ended

pub returns-in-Ok-clause-life : goal.returns-in-Ok-clause-life
returns-in-Ok-clause-life g c s is model =
    let at = (goal.at.returns-in-Ok-clause-life g c).After-made in
    let begun = c.in-Ok.ensures in
    let opened = opened_here g at model in
    IfOk-weaker c.live_on.result _ _
    (λ lived ends. (
      begun.empty model.0 model.1,
      life_here g at model s is lived.1 (ends.way s is begun.sound),
      ends.kept s is begun.sound (opened.model, opened.keeps),
    ))
    c.live_on.ensures.ended

pub returns-in-Ok-clause-stopped : goal.returns-in-Ok-clause-stopped
returns-in-Ok-clause-stopped g c s is model =
    let at = (goal.at.returns-in-Ok-clause-stopped g c).After-made in
    let begun = c.in-Ok.ensures in
    IfErr-weaker c.live_on.result _ _
    (λ fault stops. inr (stops_first g.D.Disk s c.args.start c.begin.new.first c.begin.new.second c.made.result fault is begun.sound (model_here g at model) (begun.newest model.0) (begun.shut model.1)
    (opened_here g at model) stops))
    c.live_on.ensures.stopped

pub returns-in-Ok-clause-not_empty : goal.returns-in-Ok-clause-not_empty
returns-in-Ok-clause-not_empty g c model held = absurd (held (c.in-Ok.ensures.empty model.0 model.1))

pub returns-in-Ok-clause-refused_so : goal.returns-in-Ok-clause-refused_so
returns-in-Ok-clause-refused_so g c s is model =
    IfErr-weaker c.live_on.result _ _ (λ fault stops same. absurd (run_not_empty fault.cause (stops.1.why s is).stops same)) c.live_on.ensures.stopped

pub returns-in-Ok-clause-refused : goal.returns-in-Ok-clause-refused
returns-in-Ok-clause-refused g c s is = IfErr-weaker c.live_on.result _ _ (λ fault stops. inr (stops.1.why s is).stops) c.live_on.ensures.stopped

pub returns-in-Ok-clause-limit : goal.returns-in-Ok-clause-limit
returns-in-Ok-clause-limit g c s is = IfErr-weaker c.live_on.result _ _ (λ fault stops limit. inr ((stops.1.why s is).limit limit)) c.live_on.ensures.stopped

pub returns-in-Ok-clause-device : goal.returns-in-Ok-clause-device
returns-in-Ok-clause-device g c s is =
    IfErr-weaker c.live_on.result _ _ (λ fault stops same. absurd (run_not_device fault.cause (stops.1.why s is).stops same)) c.live_on.ensures.stopped

pub returns-in-Ok-clause-usable : goal.returns-in-Ok-clause-usable
returns-in-Ok-clause-usable g c =
    IfErr-weaker c.live_on.result _ _
    (λ fault stops same. let broken : false ≡ true = sym c.made.ensures.ready ∙ (stops.1.tells.failed Broken same).0 in cc (broken))
    c.live_on.ensures.stopped
