use Rattle.ic_attend.proofs.PartLemmas.{place_of}
use Rattle.ic_attend.proofs.laws.each_answer_has_its_place.Goals as goal

pub returns : goal.returns
returns c = λ who h before after command reply is.
    let place = place_of who h before after command reply is in
    (place.front, place.back, place.split, place.earlier, place.later)
