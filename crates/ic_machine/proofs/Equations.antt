-- No more equations than plans link.
use Rattle.std.proofs.Common.{◌≡◌, ℕ, ◌+◌, ◌≤◌, List, [], ◌∷◌, ◌++◌, cond, length, map, refl, ◌∙◌, ap, arith, sum_by}
use Rattle.std.specs.List.{AllByRecursion}
use Rattle.std.specs.Option.{option_map_or}
use Rattle.std.proofs.lemmas.List.Sorted.{sum_by-IsPermutation}
use Rattle.std.proofs.lemmas.List.Sums.{sum_by-append, sum_by-cons}
use Rattle.ic_arena.specs.declared.word.Word.{Word}
use Rattle.ic_arena.specs.Word.{agent_word}
use Rattle.ic_arena.specs.Piece.{Piece, agent_of, agent_with, equated, idle, waits}
use Rattle.ic_machine.specs.declared.equation.Equation.{Equation}
use Rattle.ic_machine.specs.declared.plan.Link.{Link}
use Rattle.ic_machine.specs.Plan.{Made, Planned, Plans, constants, linked, links_made, links_made_by, made_at, made_each, pieces_made}
use Rattle.ic_machine.specs.Net.{Net, equated_of, equations_in, equations_left, is_equation, pieces, IsAtPlace}
use Rattle.ic_machine.specs.Runs.{Ran, Starts, Way, first_registers}
use Rattle.ic_machine.specs.Steps.{Fires, Step, turns, puts, meets, joins, fires, Steps, no_step, one_more}
use Rattle.ic_machine.specs.lemmas.Balance.{no_front, no_back}
use Rattle.ic_machine.specs.lemmas.FiresKeep.{sum_of_pair}
use Rattle.ic_machine.specs.lemmas.Separation.{fewer, sum_of_parts}

-- one for an equation
abbrev one : Piece → ℕ
one p = cond (is_equation p) 1 0

-- ---- steps that fire nothing make no equation

step_equations : (p : Plans) (is : List ℕ) (xs ys : List Piece) → is ≡ [] → Step p is xs ys → equations_in ys ≤ equations_in xs
step_equations p is xs ys e (turns a b t) =
    fewer one a (equated t.left t.right ∷ []) b (equated t.right t.left ∷ []) t.rest t.given t.result (omega arith)
step_equations p is xs ys e (puts a b t) =
    fewer one a (equated t.named t.other ∷ idle t.named ∷ []) b (waits t.named t.other ∷ []) t.rest t.given t.result (omega arith)
step_equations p is xs ys e (meets a b t) =
    fewer one a (equated t.named t.other ∷ waits t.named t.waiting ∷ []) b (equated t.waiting t.other ∷ []) t.rest t.given t.result
    (omega arith)
step_equations p is xs ys e (joins a b t) =
    fewer one a (waits t.named t.between ∷ waits t.between t.waiting ∷ []) b (waits t.named t.waiting ∷ []) t.rest t.given t.result
    (omega arith)
step_equations p is xs ys e (fires i a b t) = cc

steps_equations : (p : Plans) (is : List ℕ) (xs ys : List Piece) → is ≡ [] → Steps p is xs ys → equations_in ys ≤ equations_in xs
steps_equations p is xs ys e (no_step a b h) = let same = sum_by-IsPermutation one a b h in omega arith
steps_equations p is xs ys e (one_more m n a b c t u) =
    let first : equations_in b ≤ equations_in a = steps_equations p m a b (no_front m n e) t in
    let last : equations_in c ≤ equations_in b = step_equations p n b c (no_back m n e) u in
    omega arith

-- ---- what a plan makes

links_all : (rs : List Word) (ls : List Link) → equations_in (map (linked rs) ls) ≡ length ls
links_all rs [] = refl
links_all rs (l ∷ ls) = omega (arith, links_all rs ls, sum_by-cons one (linked rs l) (map (linked rs) ls))

names_none : (ws : List Word) → equations_in (map idle ws) ≡ 0
names_none [] = refl
names_none (w ∷ ws) = omega (arith, names_none ws, sum_by-cons one (idle w) (map idle ws))

made_none : (rs : List Word) (ms : List Made) (ws : List Word) → equations_in (made_each rs ms ws) ≡ 0
made_none rs [] ws = refl
made_none rs (m ∷ ms) [] = refl
made_none rs (m ∷ ms) (w ∷ ws) = omega (arith, made_none rs ms ws, sum_by-cons one (made_at rs m w) (made_each rs ms ws))

made_links : (p : Planned) (rs names made : List Word) → equations_in (pieces_made p rs names made) ≡ length p.links
made_links p rs names made =
    let a = sum_by-append one (map idle names) (made_each rs p.made made ++ map (linked rs) p.links) in
    let b = sum_by-append one (made_each rs p.made made) (map (linked rs) p.links) in
    omega (arith, a, b, names_none names, made_none rs p.made made, links_all rs p.links)

agent_none : (w : Word) (vs : List Word) → equations_in (agent_with w vs) ≡ 0
agent_none w [] = refl
agent_none w (v ∷ vs) = omega (arith, sum_by-cons one (agent_of w (v ∷ vs)) [])

-- ---- a pair that fires is one less, and its plan links others

fires_equations : (p : Plans) (i : ℕ) (xs ys : List Piece) → Fires p i xs ys → equations_in ys + 1 ≤ equations_in xs + links_made_by p i
fires_equations p i xs ys f =
    let left : Word = agent_word f.left f.left_place in
    let right : Word = agent_word f.right f.right_place in
    let rs : List Word = constants (length p.arities) ++ (f.left_args ++ (f.right_args ++ (f.names ++ f.made))) in
    let old = sum_of_pair one xs (equated left right) (agent_with left f.left_args) (agent_with right f.right_args) f.rest f.given in
    let new = sum_of_parts one ys (pieces_made f.plan rs f.names f.made) f.rest f.result in
    let made = made_links f.plan rs f.names f.made in
    let is : links_made_by p i ≡ links_made f.plan = ap (λ o. option_map_or links_made o 0) f.has_plan in
    omega (arith, old, new, made, is, agent_none left f.left_args, agent_none right f.right_args)

way_equations : (p : Plans) (is : List ℕ) (ms : List (List Piece)) (xs ys : List Piece) → Way p is ms xs ys
    → equations_in ys + length is ≤ equations_in xs + sum_by (links_made_by p) is
way_equations p [] [] xs ys way = let less = steps_equations p [] xs ys refl way in omega (arith, less)
way_equations p [] (m ∷ ms) xs ys way = absurd way
way_equations p (i ∷ is) [] xs ys way = absurd way
way_equations p (i ∷ is) (m ∷ ms) xs ys way =
    let before = steps_equations p [] xs way.0.before refl way.0.steps in
    let here = fires_equations p i way.0.before m way.0.fires in
    let later = way_equations p is ms m ys way.1 in
    omega (arith, before, here, later, sum_by-cons (links_made_by p) i is)

-- ---- equations that are left

equated_all : (es : List Equation) → equations_in (map equated_of es) ≡ length es
equated_all [] = refl
equated_all (e ∷ es) = omega (arith, equated_all es, sum_by-cons one (equated_of e) (map equated_of es))

places_none : (ps : List Piece) → AllByRecursion IsAtPlace ps → equations_in ps ≡ 0
places_none [] all = refl
places_none (equated l r ∷ ps) all = absurd all.0
places_none (idle x ∷ ps) all = omega (arith, places_none ps all.1, sum_by-cons one (idle x) ps)
places_none (waits x u ∷ ps) all = omega (arith, places_none ps all.1, sum_by-cons one (waits x u) ps)
places_none (agent_of a ws ∷ ps) all = omega (arith, places_none ps all.1, sum_by-cons one (agent_of a ws) ps)

parts_of : (n : Net) → equations_in (pieces n) ≡ equations_left n + equations_in n.places
parts_of n =
    let a = sum_by-append one (map equated_of n.pending) (map equated_of n.aside ++ n.places) in
    let b = sum_by-append one (map equated_of n.aside) n.places in
    omega (arith, a, b, equated_all n.pending, equated_all n.aside)

-- ---- the laws

pub start_equations : (p : Plans) (given : ℕ) (plan : Planned) (operands : List ℕ) (n : Net) → Starts p given plan operands n
    → equations_in (pieces n) ≤ length plan.links
start_equations p given plan operands n s =
    let less = steps_equations p [] s.first (pieces n) refl s.steps in
    let made : equations_in s.first ≡ length plan.links =
    ap equations_in s.begins.pieces ∙ made_links plan (first_registers p.arities given s.begins.names s.begins.made) s.begins.names s.begins.made in
    omega (arith, less, made)

pub run_equations : (p : Plans) (old new : Net) (r : Ran p old new)
    → equations_in (pieces new) + length r.fired ≤ equations_in (pieces old) + sum_by (links_made_by p) r.fired
run_equations p old new r = way_equations p r.fired r.moments (pieces old) (pieces new) r.way

pub left_all : (n : Net) → AllByRecursion IsAtPlace n.places → equations_left n ≡ equations_in (pieces n)
left_all n all = omega (arith, parts_of n, places_none n.places all)

pub left_least : (n : Net) → equations_left n ≤ equations_in (pieces n)
left_least n = omega (arith, parts_of n)
