-- Groups of lines that are answered in turn, and the last call that is made for each.
use Rattle.std.proofs.Common.{ℕ, List, [], ◌∷◌, ◌++◌, refl, ap, subst, ◌∙◌}
use Rattle.ic_disk.specs.declared.disk.Disk.{Ghosts}
use Rattle.ic_book.specs.declared.book.Book.{Book}
use Rattle.ic_book.specs.Moves.{Move}
use Rattle.ic_book.specs.ByCalls.{IsByCalls}
use Rattle.ic_book.specs.lemmas.Chains.{by_calls_then, then_moves}
use Rattle.ic_serving.specs.Answered.{AreAnsweredAtOnce, EndsWith}
use Rattle.ic_serving.specs.InTurn.{AreAnsweredInTurn}

module _ {D : Type 0} {ghosts : Ghosts D} where
  -- after other calls
  pub ends_then : (move : Move) (old mid new : Book D ghosts) → IsByCalls old mid → EndsWith move mid new → EndsWith move old new
  ends_then move old mid new first ends = record {
    done = by_calls_then old mid new first ends.done;
    earlier = ends.earlier ++ first.moves;
    last = then_moves old mid new first ends.done ∙ ap (λ (ms : List Move). ms ++ first.moves) ends.last;
  }

  -- one group more
  pub turns_more : {limit : ℕ} (groups : List (List (List ℕ))) (ls : List (List ℕ)) (bytes : List ℕ) (first book new : Book D ghosts) → AreAnsweredInTurn limit groups first book
      → AreAnsweredAtOnce limit ls bytes book new → AreAnsweredInTurn limit (groups ++ ls ∷ []) first new
  turns_more {limit} [] ls bytes first book new turns is = (new, bytes, subst (λ (b : Book D ghosts). AreAnsweredAtOnce limit ls bytes b new) turns is, refl)
  turns_more (group ∷ groups) ls bytes first book new turns is = (turns.0, turns.1, turns.2, turns_more groups ls bytes turns.0 book new turns.3 is)
