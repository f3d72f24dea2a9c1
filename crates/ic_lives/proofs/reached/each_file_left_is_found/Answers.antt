use Rattle.std.proofs.Common.{ℕ, List, refl, sym, subst}
use Rattle.ic_disk.specs.History.{IsLeftAt}
use Rattle.ic_disk.specs.lemmas.ImageLaws.{image_settled}
use Rattle.ic_lives.proofs.reached.each_file_left_is_found.Goals as goal

pub returns : goal.returns
returns c file left = record {
  keeps = refl;
  moment = left.0;
  since = left.1;
  left = λ other image. subst (λ (f : List ℕ). IsLeftAt c.args.after.now left.0 f) (sym ((image_settled file).no_other other image)) left.2;
}
