use Rattle.std.proofs.Common.{◌∙◌, ◌++◌, ℕ, List, [], Option, append-nil, ap, arith, length, sym}
use Rattle.std.proofs.lemmas.Result.{err_from_is_err_and}
use Rattle.std.specs.List.{flat_map}
use Rattle.ic_state.specs.Numbers.{eight_bytes}
use Rattle.ic_state.specs.State.{kept_by, plain_bytes, rounds_numbers}
use Rattle.ic_state.proofs.StateLemmas.{long_state}
use Rattle.ic_state.proofs.form.decode.Goals as goal

pub returns-clause-state : goal.returns-clause-state
returns-clause-state c =
    let state = c.in_ok-state.state in
    c.in_ok-rounds.ensures.read
    ∙ ap (λ (l : List ℕ). flat_map eight_bytes (rounds_numbers c.in_ok-rounds.rounds) ++ l) c.in_ok-state.ensures.state
    ∙ ap (λ (r : Option ℕ). flat_map eight_bytes (rounds_numbers r) ++ plain_bytes (kept_by state)) (sym c.in_ok-state.ensures.rounds)

pub returns-in_err-rounds-clause-refused : goal.returns-in_err-rounds-clause-refused
returns-in_err-rounds-clause-refused c =
    let e = err_from_is_err_and c.from_residual.result c.from_residual.ensures.1 in
    rw (e.1, e.2) (λ same kept sound is.
    omega (arith, c.in_err-rounds.ensures.refused kept [] sound (append-nil c.args.bytes.now ∙ is), ap length is, long_state kept))

pub returns-in_err-state-clause-refused : goal.returns-in_err-state-clause-refused
returns-in_err-state-clause-refused c =
    let e = err_from_is_err_and c.from_residual-in_err-state.result c.from_residual-in_err-state.ensures.1 in
    rw (e.1, e.2) (λ same kept sound is.
    let told = c.in_ok-rounds.ensures.told kept [] sound (append-nil c.args.bytes.now ∙ is) in
    c.in_err-state.ensures.refused (cc (same)) kept sound (sym (append-nil c.in_ok-rounds.plain.now) ∙ told.1))
