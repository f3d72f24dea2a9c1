use Rattle.ic_text.proofs.OneSystem.{told_systems}
use Rattle.ic_text.proofs.laws.systems_are_told_by_their_tokens.Goals as goal

pub returns : goal.returns
returns c = record {
  one = told_systems.injective;
  test = (told_systems.test, λ ts. (told_systems.found ts, told_systems.only ts));
}
