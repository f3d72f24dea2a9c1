-- Calls that only read, one after another.
use Rattle.std.proofs.Common.{◌≡◌, ℕ, List, ◌∙◌}
use Rattle.ic_disk.specs.Images.{Within}
use Rattle.ic_disk.specs.Time.{Elapses, LeftSince}
use Rattle.ic_disk.specs.lemmas.Moments.{started, goes_on, then_runs}
use Rattle.ic_frames.specs.inner.Reading.{OnlyReads}

module _ {D : Type 0} (content : D → List ℕ) (image : D → List ℕ → Type 0) (clock : D → ℕ) (left : D → ℕ → List ℕ → Type 0) where
  pub reads_once : (old new : D) → Within (LeftSince (left old) (clock old)) (image old) → content new ≡ content old → Within (image new) (image old) → Elapses (clock old) (clock new) (left old) (left new) (image old)
      → OnlyReads content image clock left old new
  reads_once old new law same images time = record {
    same = same;
    images = images;
    leaves = goes_on clock left old old new (image old) (image old) (started clock left old (image old) law) time (λ file is. is);
  }

  pub reads_then : (old mid new : D) → OnlyReads content image clock left old mid → OnlyReads content image clock left mid new → OnlyReads content image clock left old new
  reads_then old mid new first second = record {
    same = second.same ∙ first.same;
    images = λ file is. first.images file (second.images file is);
    leaves = then_runs clock left old mid new (image old) (image mid) first.leaves second.leaves first.images;
  }
