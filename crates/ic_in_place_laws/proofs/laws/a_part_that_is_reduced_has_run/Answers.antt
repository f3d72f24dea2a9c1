use Rattle.ic_in_place_laws.proofs.laws.a_part_that_is_reduced_has_run.Goals as goal

pub returns : goal.returns
returns c = λ rs run over names reaches. record { over = over; names = names; reaches = reaches }
