use Rattle.std.proofs.Common.{[], refl}
use Rattle.ic_lines.proofs.ServingLemmas.{served_once, served_somehow, served_joined}
use Rattle.ic_lines.proofs.laws.lines_are_served_in_one_way.Goals as goal

pub returns-clause-some : goal.returns-clause-some
returns-clause-some c = served_somehow c.one_line_reading.ensures.total

pub returns-clause-answers : goal.returns-clause-answers
returns-clause-answers c = λ t u v ls a b p q. (served_once c.one_line_reading.ensures.answer t u v ls a b p q).0

pub returns-clause-leaves : goal.returns-clause-leaves
returns-clause-leaves c = λ t u v ls a b p q. (served_once c.one_line_reading.ensures.answer t u v ls a b p q).1

pub returns-clause-nothing : goal.returns-clause-nothing
returns-clause-nothing c = λ t. record { readings = []; read = tt; answered = refl; leaves = refl }

pub returns-clause-joined : goal.returns-clause-joined
returns-clause-joined c = served_joined
