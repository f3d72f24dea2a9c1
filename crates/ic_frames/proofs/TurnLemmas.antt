-- What a stop leaves of writes that are made in turn.
use Rattle.std.proofs.Common.{◌≡◌, inl, inr, ⊎_elim, ℕ, ◌+◌, ◌≤◌, List, [], ◌∷◌, length, ◌∙◌, arith}
use Rattle.ic_disk.specs.Content.{laid}
use Rattle.ic_disk.specs.Images.{Only, TornFrom, Within}
use Rattle.ic_disk.specs.Model.{Write}
use Rattle.ic_disk.specs.Time.{LeavesOnly, LeftSince}
use Rattle.ic_disk.specs.lemmas.ContentLaws.{laid-before, laid-after}
use Rattle.ic_disk.specs.lemmas.Moments.{leaves_weaker, then_runs}
use Rattle.ic_frames.specs.Creation.{IsInOneOf, IsMadeInPart, IsTornBy, KeepPace}

-- where fewer images are, fewer files are left
in_fewer : (ws : List Write) (content : List ℕ) (images others : List ℕ → Type 0) → Within images others → Within (IsInOneOf IsTornBy ws content images) (IsInOneOf IsTornBy ws content others)
in_fewer [] content images others within file is = absurd is
in_fewer (w ∷ ws) content images others within file is = ⊎_elim (λ one. inl (one.0, within one.0 one.1, one.2)) (λ next. inr next) is

module _ {D : Type 0} (clock : D → ℕ) (left : D → ℕ → List ℕ → Type 0) (image : D → List ℕ → Type 0) where
  -- the first write
  pub in_first : (old new : D) (w : Write) (ws : List Write) (content : List ℕ) → LeavesOnly clock left old new (TornFrom w.at (length w.bytes) (image old))
      → LeavesOnly clock left old new (IsInOneOf IsTornBy (w ∷ ws) content (image old))
  in_first old new w ws content run =
      leaves_weaker clock left old new (TornFrom w.at (length w.bytes) (image old)) (IsInOneOf IsTornBy (w ∷ ws) content (image old)) run (λ file torn. inl torn)

  -- the first write, and then the others
  pub in_next : (old mid new : D) (w : Write) (ws : List Write) (content : List ℕ) → LeavesOnly clock left old mid (TornFrom w.at (length w.bytes) (image old))
      → Only (laid w.at w.bytes content) (image mid) → LeavesOnly clock left mid new (IsInOneOf IsTornBy ws (laid w.at w.bytes content) (image mid))
      → LeavesOnly clock left old new (IsInOneOf IsTornBy (w ∷ ws) content (image old))
  in_next old mid new w ws content first only rest =
      let start = laid w.at w.bytes content in
      then_runs clock left old mid new (IsInOneOf IsTornBy (w ∷ ws) content (image old)) (IsInOneOf IsTornBy ws start (image mid))
      (in_first old mid w ws content first) rest
      (λ file is. inr (in_fewer ws start (image mid) (λ f. f ≡ start) (λ f there. only.no_other f there) file is))

  -- after the last write
  pub pace_ends : (new : D) (t : ℕ) (content : List ℕ) → clock new ≤ t → ((file : List ℕ) → LeftSince (left new) (clock new) file → image new file) → Only content (image new)
      → KeepPace (left new) t [] content (λ f. f ≡ content)
  pace_ends new t content past law only = λ file since. only.no_other file (law file (since.0, omega (arith, since.1, past), since.2))

  -- after each but the last
  pub pace_goes : (mid new : D) (t : ℕ) (w : Write) (ws : List Write) (content : List ℕ) → clock mid ≤ t → LeavesOnly clock left mid new (IsInOneOf IsTornBy (w ∷ ws) content (image mid))
      → Only content (image mid) → KeepPace (left new) (t + 2) ws (laid w.at w.bytes content) (λ f. f ≡ laid w.at w.bytes content)
      → KeepPace (left new) t (w ∷ ws) content (λ f. f ≡ content)
  pace_goes mid new t w ws content past run only rest = (
    λ file since. in_fewer (w ∷ ws) content (image mid) (λ f. f ≡ content) (λ f there. only.no_other f there) file (run.each file (since.0, omega (arith, since.1, past), since.2)),
    rest,
  )

-- a write that is made in part has torn its file
pub part_torn : (w : Write) (old new : List ℕ) → IsMadeInPart w old new → IsTornBy w old new
part_torn w old new part = record {
  no_shorter = part.no_shorter;
  before = λ i inside below. ⊎_elim (λ same. same) (λ made. made ∙ laid-before w.at w.bytes old i below) (part.each i (omega (arith, inside, part.no_shorter)));
  after = λ i inside above. ⊎_elim (λ same. same) (λ made. made ∙ laid-after w.at w.bytes old i above) (part.each i (omega (arith, inside, part.no_shorter)));
}
