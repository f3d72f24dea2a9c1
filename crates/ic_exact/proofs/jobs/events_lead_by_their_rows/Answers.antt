use Rattle.std.proofs.Common.{Option, Some, refl, subst}
use Rattle.ic_jobs.specs.Events.{outcome}
use Rattle.ic_jobs.specs.Transitions.{CommandLeadsBy, CommandRow, LeadsWhere, Row, leaves, tells}
use Rattle.ic_jobs.specs.declared.event.Event.TheVariants.{Command as by_command, Round}
use Rattle.ic_exact.proofs.jobs.events_lead_by_their_rows.Goals as goal

pub returns-clause-leaves : goal.returns-clause-leaves
returns-clause-leaves c = λ t d r after row.
    let leads : CommandLeadsBy t d (leaves r after) =
    subst (λ (w : CommandRow). CommandLeadsBy t d w) row (c.events_change_states_so.ensures.events t (by_command d)) in
    (leads.outcome, leads.defined, leads.replied, leads.left)

pub returns-clause-tells : goal.returns-clause-tells
returns-clause-tells c = λ t d r row.
    let leads : CommandLeadsBy t d (tells r) =
    subst (λ (w : CommandRow). CommandLeadsBy t d w) row (c.events_change_states_so.ensures.events t (by_command d)) in
    (outcome t r, leads, refl, refl)

pub returns-clause-round : goal.returns-clause-round
returns-clause-round c = λ t name w row.
    let leads : LeadsWhere t (Round name) name (Some w) =
    subst (λ (o : Option Row). LeadsWhere t (Round name) name o) row (c.events_change_states_so.ensures.events t (Round name)) in
    (leads.outcome, leads.defined, leads.replied, leads.left)

pub returns-clause-no_round : goal.returns-clause-no_round
returns-clause-no_round c = λ t name row.
    subst (λ (o : Option Row). LeadsWhere t (Round name) name o) row (c.events_change_states_so.ensures.events t (Round name))
