use Rattle.std.proofs.Common.{⊎_elim}
use Rattle.ic_state.specs.State.{state_bytes}
use Rattle.ic_kept.specs.Lives.{none_yet, one_opening, one_more, turned}
use Rattle.ic_keeping.proofs.Resuming.{first_held}
use Rattle.ic_keeping.proofs.laws.lives_go_on.Goals as goal

pub returns-clause-begun : goal.returns-clause-begun
returns-clause-begun g c = λ s begun is_kept is model newest shut. record {
  is_kept = is_kept;
  state = is;
  lives = none_yet c.args.first.now c.args.second.now (record {
    keeps = model.0;
    keeps_too = model.1;
    images = λ one other left left_too. first_held (state_bytes begun) one other (newest one left) (shut other left_too);
  });
}

pub returns-clause-opened : goal.returns-clause-opened
returns-clause-opened g c = λ s begun kept coming one other lived found. record {
  is_kept = lived.is_kept;
  state = lived.state;
  lives = ⊎_elim
      (λ same. one_opening kept coming c.args.first.now c.args.second.now same.0.0 same.1.0 one other lived.lives same.0.1 same.1.1 same.0.2 same.1.2)
      (λ swapped. turned kept coming other one
      (one_opening kept coming c.args.first.now c.args.second.now swapped.0.0 swapped.1.0 other one lived.lives swapped.0.1 swapped.1.1 swapped.0.2 swapped.1.2))
      found;
}

pub returns-clause-more : goal.returns-clause-more
returns-clause-more g c = λ s begun found kept coming last next one other k n lived life left. record {
  is_kept = lived.is_kept;
  state = lived.state;
  lives = one_more kept coming (state_bytes found) last next c.args.first.now c.args.second.now one other k n lived.lives life.opened life.way left;
}

pub returns-clause-turned : goal.returns-clause-turned
returns-clause-turned g c = λ s begun kept coming lived. record {
  is_kept = lived.is_kept;
  state = lived.state;
  lives = turned kept coming c.args.first.now c.args.second.now lived.lives;
}

pub returns-clause-again : goal.returns-clause-again
returns-clause-again g c = λ read now is found. (read, is, found)

pub returns-clause-left : goal.returns-clause-left
returns-clause-left g c = λ s found last next one other k n life are. are
