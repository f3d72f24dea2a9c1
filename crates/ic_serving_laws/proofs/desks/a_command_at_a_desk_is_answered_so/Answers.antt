use Rattle.ic_serving_laws.proofs.desks.a_command_at_a_desk_is_answered_so.Goals as goal

pub returns-clause-ready : goal.returns-clause-ready
returns-clause-ready g c who command reply call = (call.ready, call.start)

pub returns-clause-made : goal.returns-clause-made
returns-clause-made g c who command reply call model changes = call.made_now model changes

pub returns-clause-idle : goal.returns-clause-idle
returns-clause-idle g c who command reply call kept leaves = call.idle kept leaves

pub returns-clause-calls : goal.returns-clause-calls
returns-clause-calls g c who command result call = call.calls

pub returns-clause-crash : goal.returns-clause-crash
returns-clause-crash g c who command result call model made = call.crash.any_moment model made
