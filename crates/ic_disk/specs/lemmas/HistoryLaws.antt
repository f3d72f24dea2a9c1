-- Lemmas: that the laws of a disk hold of a history.
use Rattle.std.proofs.Common.{◌≡◌, ℕ, ◌≤◌, List, [], ◌∷◌, ◌++◌, length, map, refl, sym, ap, subst, arith}
use Rattle.std.proofs.lemmas.List.{take_all, map_push}
use Rattle.ic_disk.specs.Content.{laid}
use Rattle.ic_disk.specs.Images.{TornFrom, Within}
use Rattle.ic_disk.specs.PlainImages.{Range, IsImage}
use Rattle.ic_disk.specs.Model.{Write, Call, write, sync, State, begun, after, range_of, IsImageIn}
use Rattle.ic_disk.specs.History.{History, replay, state, state_at, content_of, IsLeftSince, with_call}
use Rattle.ic_disk.specs.lemmas.ImageLaws.{torn_laid, torn_image, settled_image}

pub replay-append : (xs ys : List Call) (s : State) → replay (xs ++ ys) s ≡ replay ys (replay xs s)
replay-append [] ys s = refl
replay-append (x ∷ xs) ys s = replay-append xs ys (after x s)

pub state-with_call : (call : Call) (h : History) → state (with_call call h) ≡ after call (state h)
state-with_call call h = replay-append h.calls (call ∷ []) (begun h.first)

-- with the write's range pending as well the torn images are images
pub write_reached : (w : Write) (s : State) → Within (TornFrom w.at (length w.bytes) (IsImageIn s)) (IsImageIn (after (write w) s))
write_reached w s file from =
    subst (λ (rs : List Range). IsImage s.synced rs file) (sym (map_push range_of s.pending w)) (torn_image s.synced (map range_of s.pending) (range_of w) file from)

-- what reads give stays an image
after_image : (call : Call) (s : State) → IsImageIn s s.content → IsImageIn (after call s) (after call s).content
after_image (write w) s image = write_reached w s (laid w.at w.bytes s.content) (s.content, image, torn_laid w.at w.bytes s.content)
after_image sync s image = settled_image s.content

replay_image : (calls : List Call) (s : State) → IsImageIn s s.content → IsImageIn (replay calls s) (replay calls s).content
replay_image [] s image = image
replay_image (call ∷ calls) s image = replay_image calls (after call s) (after_image call s image)

pub content_image : (h : History) → IsImageIn (state h) (content_of h)
content_image h = replay_image h.calls (begun h.first) (settled_image h.first)

-- the state after as many calls as there are is the present one
pub state_at_end : (k : ℕ) (h : History) → length h.calls ≤ k → state_at k h ≡ state h
state_at_end k h all = ap (λ (calls : List Call). replay calls (begun h.first)) (take_all k h.calls all)

pub image_left : (h : History) (t : ℕ) (file : List ℕ) → t ≤ length h.calls → IsImageIn (state h) file → IsLeftSince h t file
image_left h t file come image = (length h.calls, come, (omega arith, subst (λ (s : State). IsImageIn s file) (sym (state_at_end (length h.calls) h (omega arith))) image))

pub left_image : (h : History) (file : List ℕ) → IsLeftSince h (length h.calls) file → IsImageIn (state h) file
left_image h file left = subst (λ (s : State). IsImageIn s file) (state_at_end left.0 h left.1) left.2.1
