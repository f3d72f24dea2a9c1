-- Lemmas: configurations that are one net, wherever terms stand.
use Rattle.std.proofs.Common.{◌≡◌, ℕ, Bool, refl, sym, ◌∙◌}
use Rattle.ic_term.specs.Configuration.{Configuration}
use Rattle.ic_settle.specs.Settling.{settled}
use Rattle.ic_settle.specs.NameSteps.{NameStep, NameSteps, no_step, one_more}
use Rattle.ic_round.specs.Naming.{HasNames}
use Rattle.ic_confluence.specs.Sameness.{Same, through}
use Rattle.ic_reaching.specs.OneNet.{raised, SameButNext, OneNet}
use Rattle.ic_reaching.proofs.Given.{NetLaws, SettlingLaws}
use Rattle.ic_reaching.proofs.ButNext.{but_next, but_next_other_way, but_next_through, next_is_no_matter, steps_names, steps_too, steps_joined}

-- ---- what makes configurations one net

pub from_but_next : (c d : Configuration) → HasNames c → HasNames d → SameButNext c d → OneNet c d
from_but_next c d named also same = record { names = named; names_too = also; end = c; end_too = d; steps = no_step c; steps_too = no_step d; same = same }

pub from_same : NetLaws → (c d : Configuration) → HasNames c → Same c d → OneNet c d
from_same laws c d named same = from_but_next c d named (laws.names c d same named) (but_next c d same)

pub from_steps : NetLaws → (c d : Configuration) → HasNames c → NameSteps c d → OneNet c d
from_steps laws c d named steps = record {
  names = named;
  names_too = steps_names c d steps named;
  end = d;
  end_too = d;
  steps = steps;
  steps_too = no_step d;
  same = but_next d d (laws.itself d);
}

pub from_step : NetLaws → (c d : Configuration) → HasNames c → NameStep c d → OneNet c d
from_step laws c d named step = from_steps laws c d named (one_more c c d (no_step c) step)

pub from_next : NetLaws → (c : Configuration) (next : ℕ) → HasNames c → HasNames (record c { next = next }) → OneNet c (record c { next = next })
from_next laws c next named also = from_but_next c (record c { next = next }) named also (next_is_no_matter laws c next)

-- ---- an equivalence

pub net_itself : NetLaws → (c : Configuration) → HasNames c → OneNet c c
net_itself laws c named = from_same laws c c named (laws.itself c)

pub net_other_way : NetLaws → (c d : Configuration) → OneNet c d → OneNet d c
net_other_way laws c d net = record {
  names = net.names_too;
  names_too = net.names;
  end = net.end_too;
  end_too = net.end;
  steps = net.steps_too;
  steps_too = net.steps;
  same = but_next_other_way laws net.end net.end_too net.same;
}

-- Both chains from the configuration in the middle go on to its settled net, and the ends at the sides
-- go on with them.
pub net_through : SettlingLaws → (c d e : Configuration) → OneNet c d → OneNet d e → OneNet c e
net_through laws c d e one two =
    let nets = laws.nets in
    let left = laws.goes_on d one.end_too one.names_too one.steps_too in
    let right = laws.goes_on d two.end two.names two.steps in
    let more = steps_too nets one.end_too one.end left.0 (steps_names d one.end_too one.steps_too one.names_too) (but_next_other_way nets one.end one.end_too one.same) left.1 in
    let further = steps_too nets two.end two.end_too right.0 (steps_names d two.end two.steps two.names) two.same right.1 in
    let middle = but_next left.0 right.0 (through left.0 (settled d) right.0 (nets.other_way (settled d) left.0 left.2) right.2) in
    record {
      names = one.names;
      names_too = two.names_too;
      end = more.0;
      end_too = further.0;
      steps = steps_joined c one.end more.0 one.steps more.1;
      steps_too = steps_joined e two.end_too further.0 two.steps_too further.1;
      same = but_next_through more.0 left.0 further.0 (but_next_other_way nets left.0 more.0 more.2)
          (but_next_through left.0 right.0 further.0 middle further.2);
    }

-- ---- no other configurations are one net

steps_keep : (holds : Configuration → Bool) → ((c d : Configuration) → NameStep c d → holds c ≡ holds d) → (c d : Configuration) → NameSteps c d → holds c ≡ holds d
steps_keep holds step c d (no_step x) = refl
steps_keep holds step c d (one_more x y z steps last) = steps_keep holds step x y steps ∙ step y z last

pub least : (holds : Configuration → Bool) → ((c d : Configuration) → Same c d → holds c ≡ holds d) → ((c d : Configuration) → NameStep c d → holds c ≡ holds d)
    → ((more : ℕ) (c : Configuration) → holds c ≡ holds (raised more c)) → (c d : Configuration) → OneNet c d → holds c ≡ holds d
least holds same step next c d net =
    steps_keep holds step c net.end net.steps
    ∙ (next net.same.more net.end
    ∙ (same (raised net.same.more net.end) (raised net.same.others net.end_too) net.same.same
    ∙ (sym (next net.same.others net.end_too) ∙ sym (steps_keep holds step d net.end_too net.steps_too))))
