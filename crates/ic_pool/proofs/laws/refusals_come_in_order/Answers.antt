use Rattle.std.proofs.Common.{◌≡◌, Ok, nat_eq, sym, ap}
use Rattle.ic_term.specs.Configuration.{configuration_nodes}
use Rattle.ic_term.specs.declared.limits.TheConstants.{MAX_NODES, MAX_NEXT}
use Rattle.ic_round.specs.Firing.{fired}
use Rattle.ic_round.specs.Rounds.{is_small, names_suffice}
use Rattle.ic_flights.specs.Flight.{FlightParts}
use Rattle.ic_flights.specs.Played.{PlayedParts, round_of}
use Rattle.ic_pool.specs.Played.{played}
use Rattle.ic_flights.specs.declared.limits.TheConstants.{MAX_ROUNDS}
use Rattle.ic_pool.proofs.Refusals.{out_where, overgrown_where, names_out_where, ok_is, equal_where, unequal_where, small_where, large_where}
use Rattle.ic_pool.proofs.laws.refusals_come_in_order.Goals as goal

pub returns-clause-rounds_out : goal.returns-clause-rounds_out
returns-clause-rounds_out c = λ f.
    let out = out_where (nat_eq f.rounds MAX_ROUNDS) (is_small f.rules.rules f.config) (names_suffice f.rules.rules f.config) (round_of f) in
    let same = equal_where f.rounds MAX_ROUNDS in
    (λ e. same.0 (out.0 e), λ h. out.1 (same.1 h))

pub returns-clause-overgrown : goal.returns-clause-overgrown
returns-clause-overgrown c = λ f.
    let grown = overgrown_where (nat_eq f.rounds MAX_ROUNDS) (is_small f.rules.rules f.config) (names_suffice f.rules.rules f.config) (round_of f) in
    let left = unequal_where f.rounds MAX_ROUNDS in
    let large = large_where (configuration_nodes (fired f.rules.rules f.config)) MAX_NODES in
    (λ e. (left.0 (grown.0 e).0, large.0 (grown.0 e).1), λ h. grown.1 (left.1 h.0, large.1 h.1))

pub returns-clause-names_out : goal.returns-clause-names_out
returns-clause-names_out c = λ f.
    let out = names_out_where (nat_eq f.rounds MAX_ROUNDS) (is_small f.rules.rules f.config) (names_suffice f.rules.rules f.config) (round_of f) in
    let left = unequal_where f.rounds MAX_ROUNDS in
    let small = small_where (configuration_nodes (fired f.rules.rules f.config)) MAX_NODES in
    let beyond = large_where (fired f.rules.rules f.config).next MAX_NEXT in
    (λ e. (left.0 (out.0 e).0, small.0 (out.0 e).1.0, beyond.0 (out.0 e).1.1), λ h. out.1 (left.1 h.0, (small.1 h.1, beyond.1 h.2)))

parts : (f : FlightParts) (p : PlayedParts) → played f ≡ Ok p → round_of f ≡ p
parts f p e = ok_is (nat_eq f.rounds MAX_ROUNDS) (is_small f.rules.rules f.config) (names_suffice f.rules.rules f.config) (round_of f) p e

pub returns-clause-name : goal.returns-clause-name
returns-clause-name c = λ f p e. sym (ap (λ (x : PlayedParts). x.name) (parts f p e))

pub returns-clause-rules : goal.returns-clause-rules
returns-clause-rules c = λ f p e. sym (ap (λ (x : PlayedParts). x.rules) (parts f p e))

pub returns-clause-before : goal.returns-clause-before
returns-clause-before c = λ f p e. sym (ap (λ (x : PlayedParts). x.before) (parts f p e))

pub returns-clause-after : goal.returns-clause-after
returns-clause-after c = λ f p e. sym (ap (λ (x : PlayedParts). x.after) (parts f p e))

pub returns-clause-rounds : goal.returns-clause-rounds
returns-clause-rounds c = λ f p e. sym (ap (λ (x : PlayedParts). x.rounds) (parts f p e))
