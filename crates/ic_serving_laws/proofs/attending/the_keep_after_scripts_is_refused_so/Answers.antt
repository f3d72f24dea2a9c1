use Rattle.ic_serving_laws.proofs.attending.the_keep_after_scripts_is_refused_so.Goals as goal

pub returns-clause-broken : goal.returns-clause-broken
returns-clause-broken g c says = says

pub returns-clause-worn : goal.returns-clause-worn
returns-clause-worn g c says = (says.0.unbroken, says.0.unkept, says.1)

pub returns-clause-device : goal.returns-clause-device
returns-clause-device g c says = (says.0.unbroken, says.0.unkept, says.1)

pub returns-clause-never : goal.returns-clause-never
returns-clause-never g c = (λ never. never, λ never. never)
