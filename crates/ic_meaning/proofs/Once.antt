-- Lemmas: steps keep that one piece at most says what is at a place.
use Rattle.std.proofs.Common.{◌≡◌, ◌⊎◌, ℕ, ◌≤◌, List, [], ◌∷◌, ◌++◌, Bool, true, false, cond, length, map, sum_by, refl, ap, ◌∙◌, arith, inl, inr}
use Rattle.std.proofs.lemmas.List.Sums.{sum_by-cons, sum_by-append}
use Rattle.std.proofs.lemmas.List.Sorted.{sum_by-IsPermutation}
use Rattle.ic_arena.specs.declared.word.Word.{Word}
use Rattle.ic_arena.specs.Word.{word_eq, count, agent_word}
use Rattle.ic_arena.specs.Piece.{Piece, equated, idle, waits, agent_of, agent_with, room}
use Rattle.ic_arena.specs.Tables.{register}
use Rattle.ic_machine.specs.declared.plan.Link.{Link}
use Rattle.ic_machine.specs.Plan.{Made, Planned, Plans, ArePlans, constants, made_each, linked, pieces_made}
use Rattle.ic_machine.specs.Steps.{AreFresh, Step, turns, puts, meets, joins, fires, Steps, no_step, one_more}
use Rattle.ic_machine.specs.lemmas.Separation.{sum_of_parts}
use Rattle.ic_machine.specs.lemmas.FiresKeep.{sum_of_pair, steps_keep}
use Rattle.ic_meaning.specs.Nets.{holds, AreNetPieces}
use Rattle.ic_meaning.specs.lemmas.Terms.{same_word}
use Rattle.ic_meaning.proofs.Reached.{steps_pieces}
use Rattle.ic_meaning.specs.lemmas.Rooms.{all_hold_room}

idle_hold : (w : Word) (vs : List Word) → sum_by (holds w) (map idle vs) ≡ count w vs
idle_hold w [] = refl
idle_hold w (v ∷ vs) =
    let a = sum_by-cons (holds w) (idle v) (map idle vs) in
    let b = sum_by-cons (λ u. cond (word_eq w u) 1 0) v vs in
    let rest = idle_hold w vs in
    omega arith

made_hold : (w : Word) (rs : List Word) (ms : List Made) (vs : List Word) → sum_by (holds w) (made_each rs ms vs) ≤ count w vs
made_hold w rs [] vs = omega arith
made_hold w rs (m ∷ ms) [] = omega arith
made_hold w rs (m ∷ ms) (v ∷ vs) =
    let c = sum_by-cons (holds w) (agent_of v (map (register rs) m.operands)) (made_each rs ms vs) in
    let b = sum_by-cons (λ u. cond (word_eq w u) 1 0) v vs in
    let rest = made_hold w rs ms vs in
    omega arith

links_hold : (w : Word) (rs : List Word) (ls : List Link) → sum_by (holds w) (map (linked rs) ls) ≡ 0
links_hold w rs [] = refl
links_hold w rs (l ∷ ls) =
    let a = sum_by-cons (holds w) (linked rs l) (map (linked rs) ls) in
    let rest = links_hold w rs ls in
    omega arith

pub plan_hold : (w : Word) (p : Planned) (rs ns vs : List Word) → sum_by (holds w) (pieces_made p rs ns vs) ≤ count w (ns ++ vs)
plan_hold w p rs ns vs =
    let a = sum_by-append (holds w) (map idle ns) (made_each rs p.made vs ++ map (linked rs) p.links) in
    let b = sum_by-append (holds w) (made_each rs p.made vs) (map (linked rs) p.links) in
    let c = idle_hold w ns in
    let d = made_hold w rs p.made vs in
    let e = links_hold w rs p.links in
    let f = sum_by-append (λ u. cond (word_eq w u) 1 0) ns vs in
    omega arith

-- a word is none of those that are new, or one of them, and nothing else says what is there
pub fresh_or : (w : Word) (vs : List Word) (rest : List Piece) → AreFresh vs rest → (count w vs ≡ 0) ⊎ ((count w vs ≡ 1) × (sum_by (room w) rest ≡ 0))
fresh_or w [] rest fresh = inl refl
fresh_or w (v ∷ vs) rest fresh = at (word_eq w v) refl (fresh_or w vs rest fresh.2)
  where
    at : (b : Bool) → word_eq w v ≡ b → (count w vs ≡ 0) ⊎ ((count w vs ≡ 1) × (sum_by (room w) rest ≡ 0))
        → (count w (v ∷ vs) ≡ 0) ⊎ ((count w (v ∷ vs) ≡ 1) × (sum_by (room w) rest ≡ 0))
    at true e later =
        let same : w ≡ v = same_word w v e in
        let first = sum_by-cons (λ u. cond (word_eq w u) 1 0) v vs in
        let here : ◌≡◌ {A = ℕ} (cond (word_eq w v) 1 0) 1 = rw e refl in
        let none : count w vs ≡ 0 = ap (λ (u : Word). count u vs) same ∙ fresh.1 in
        let free : sum_by (room w) rest ≡ 0 = ap (λ (u : Word). sum_by (room u) rest) same ∙ fresh.0 in
        let one : count w (v ∷ vs) ≡ 1 = omega arith in
        inr (one, free)
    at false e (inl none) =
        let first = sum_by-cons (λ u. cond (word_eq w u) 1 0) v vs in
        let here : ◌≡◌ {A = ℕ} (cond (word_eq w v) 1 0) 0 = rw e refl in
        let all : count w (v ∷ vs) ≡ 0 = omega arith in
        inl all
    at false e (inr found) =
        let first = sum_by-cons (λ u. cond (word_eq w u) 1 0) v vs in
        let here : ◌≡◌ {A = ℕ} (cond (word_eq w v) 1 0) 0 = rw e refl in
        let one = found.0 in
        let all : count w (v ∷ vs) ≡ 1 = omega arith in
        inr (all, found.1)

abbrev pub HoldOnce : List Piece → Type 0
HoldOnce ps = (w : Word) → sum_by (holds w) ps ≤ 1

step_once : (p : Plans) (fired : List ℕ) (xs ys : List Piece) → Step p fired xs ys → HoldOnce xs → HoldOnce ys
step_once p fired xs ys (turns a b s) once w =
    let before = once w in
    let x = sum_of_parts (holds w) a (equated s.left s.right ∷ []) s.rest s.given in
    let y = sum_of_parts (holds w) b (equated s.right s.left ∷ []) s.rest s.result in
    omega arith
step_once p fired xs ys (puts a b s) once w =
    let before = once w in
    let x = sum_of_parts (holds w) a (equated s.named s.other ∷ idle s.named ∷ []) s.rest s.given in
    let y = sum_of_parts (holds w) b (waits s.named s.other ∷ []) s.rest s.result in
    omega arith
step_once p fired xs ys (meets a b s) once w =
    let before = once w in
    let x = sum_of_parts (holds w) a (equated s.named s.other ∷ waits s.named s.waiting ∷ []) s.rest s.given in
    let y = sum_of_parts (holds w) b (equated s.waiting s.other ∷ []) s.rest s.result in
    omega arith
step_once p fired xs ys (joins a b s) once w =
    let before = once w in
    let x = sum_of_parts (holds w) a (waits s.named s.between ∷ waits s.between s.waiting ∷ []) s.rest s.given in
    let y = sum_of_parts (holds w) b (waits s.named s.waiting ∷ []) s.rest s.result in
    omega arith
step_once p fired xs ys (fires place a b f) once w =
    let rs : List Word = constants (length p.arities) ++ (f.left_args ++ (f.right_args ++ (f.names ++ f.made))) in
    let before = once w in
    let x = sum_of_pair (holds w) a (equated (agent_word f.left f.left_place) (agent_word f.right f.right_place))
    (agent_with (agent_word f.left f.left_place) f.left_args) (agent_with (agent_word f.right f.right_place) f.right_args) f.rest f.given in
    let y = sum_of_parts (holds w) b (pieces_made f.plan rs f.names f.made) f.rest f.result in
    let made = plan_hold w f.plan rs f.names f.made in
    let few = all_hold_room w f.rest in
    elim (fresh_or w (f.names ++ f.made) f.rest f.fresh) [
      | inl none ↦ omega arith
      | inr found ↦ (let one = found.0 in let free = found.1 in omega arith)
    ]

steps_once : (p : Plans) (fired : List ℕ) (xs ys : List Piece) → Steps p fired xs ys → HoldOnce xs → HoldOnce ys
steps_once p fired xs ys (no_step a b moved) once w =
    let before = once w in
    let same = sum_by-IsPermutation (holds w) a b moved in
    omega arith
steps_once p fired xs ys (one_more is js a b c steps last) once w = step_once p js b c last (steps_once p is a b steps once) w

pub net_pieces_kept : (p : Plans) (i : List Word) (fired : List ℕ) (xs ys : List Piece) → ArePlans p → AreNetPieces p.arities i xs → Steps p fired xs ys → AreNetPieces p.arities i ys
net_pieces_kept p i fired xs ys plans are steps = record {
  each = steps_pieces p fired xs ys plans steps are.each;
  separate = steps_keep p fired i xs ys plans steps are.separate;
  once = steps_once p fired xs ys steps are.once;
}

-- what a plan makes at places that are different
pub made_once : (p : Planned) (rs ns vs : List Word) → AreFresh (ns ++ vs) [] → HoldOnce (pieces_made p rs ns vs)
made_once p rs ns vs fresh w =
    let made = plan_hold w p rs ns vs in
    elim (fresh_or w (ns ++ vs) [] fresh) [
      | inl none ↦ omega arith
      | inr found ↦ (let one = found.0 in omega arith)
    ]
