use Rattle.std.proofs.Common.{refl}
use Rattle.ic_flat.specs.Flat.{configuration_words}
use Rattle.ic_flat_rules.specs.lemmas.WordPlaces.{equations_after, interface_nodes}
use Rattle.ic_flat_rules.proofs.places.equations_place.Goals as goal

pub returns : goal.returns
returns c =
    let flat = c.args.flat.now in
    let is = c.equations_place.ensures.place in
    let after = equations_after flat (configuration_words flat) _ c.equations_place.result refl refl is.rest in
    record { within = is.within; equations = after; nodes = interface_nodes flat c.equations_place.result is.within after }
