-- No more places than plans make.
use Rattle.std.proofs.Common.{◌≡◌, ℕ, zero, suc, ◌+◌, ◌≤◌, List, [], ◌∷◌, ◌++◌, Option, None, Some, cond, length, map, max, drop, slice_get, slice_index_or, refl, ◌∙◌, sym, ap, arith, sum, sum_by}
use Rattle.std.specs.List.{AllByRecursion}
use Rattle.std.specs.Option.{option_map_or}
use Rattle.std.proofs.Math.Nat.{max-le}
use Rattle.std.proofs.lemmas.List.Sorted.{sum_by-IsPermutation}
use Rattle.std.proofs.lemmas.List.Sums.{sum_by-append, sum_by-cons}
use Rattle.ic_arena.specs.declared.word.Word.{Word}
use Rattle.ic_arena.specs.declared.word.TheConstants.{NAME}
use Rattle.ic_arena.specs.Word.{agent_word}
use Rattle.ic_arena.specs.Piece.{Piece, agent_with, equated, idle}
use Rattle.ic_machine.specs.Plan.{Made, Planned, Plans, linked, constants, made_at, made_each, pieces_made, places_made, places_made_by}
use Rattle.ic_machine.specs.Net.{Net, all_places, in_use, is_at, pieces, places_of}
use Rattle.ic_machine.specs.Runs.{Ran, Starts, Way, first_registers, greatest}
use Rattle.ic_machine.specs.Steps.{Fires}
use Rattle.ic_machine.specs.lemmas.FiresKeep.{sum_of_pair}
use Rattle.ic_machine.specs.lemmas.FiringKeeps.{all_of}
use Rattle.ic_machine.specs.lemmas.Upto.{bit, bit_same, bit_other, exchanged, hits, upto, upto_both, upto_items, upto_le, upto_none, upto_same}
use Rattle.ic_machine.proofs.InUse.{links_at_none}
use Rattle.ic_machine.proofs.PlaceLaws.{steps_use}

-- ---- what a plan takes of a kind

-- how many agents of a kind these are
abbrev agents_of : ℕ → List Made → ℕ
agents_of kind ms = sum_by (λ m. bit (m.symbol + 1) kind) ms

abbrev takes : ℕ → Planned → ℕ
takes zero p = p.names
takes (suc s) p = agents_of (suc s) p.made

abbrev takes_by : ℕ → Plans → ℕ → ℕ
takes_by kind p i = option_map_or (takes kind) (slice_get p.plans i) 0

by_symbol : (n : ℕ) (ms : List Made) → upto n (λ s. agents_of (suc s) ms) ≡ sum_by (λ m. upto n (λ s. bit (m.symbol + 1) (1 + s))) ms
by_symbol n ms =
    upto_same n (λ s. agents_of (suc s) ms) (λ s. sum_by (λ m. bit (m.symbol + 1) (1 + s)) ms)
    (λ s. let e : suc s ≡ 1 + s = omega arith in ap (λ k. sum_by (λ (m : Made). bit (m.symbol + 1) k) ms) e)
    ∙ exchanged n (λ s m. bit (m.symbol + 1) (1 + s)) ms

agents_most : (n : ℕ) (ms : List Made) → upto n (λ s. agents_of (suc s) ms) ≤ length ms
agents_most n ms = let e = by_symbol n ms in omega (arith, e, few ms)
  where
    few : (ms : List Made) → sum_by (λ m. upto n (λ s. bit (m.symbol + 1) (1 + s))) ms ≤ length ms
    few [] = omega arith
    few (m ∷ ms) =
        let most = (hits n (m.symbol + 1) 1).0 in
        omega (arith, few ms, most, sum_by-cons (λ (m : Made). upto n (λ s. bit (m.symbol + 1) (1 + s))) m ms)

agents_all : (n : ℕ) (ms : List Made) → sum_by (λ m. m.symbol + 1) ms ≤ n → upto n (λ s. agents_of (suc s) ms) ≡ length ms
agents_all n ms h = by_symbol n ms ∙ each ms h
  where
    each : (ms : List Made) → sum_by (λ m. m.symbol + 1) ms ≤ n → sum_by (λ m. upto n (λ s. bit (m.symbol + 1) (1 + s))) ms ≡ length ms
    each [] h = refl
    each (m ∷ ms) h =
        let all = sum_by-cons (λ (m : Made). m.symbol + 1) m ms in
        let once : upto n (λ s. bit (m.symbol + 1) (1 + s)) ≡ 1 = (hits n (m.symbol + 1) 1).1 (omega arith) (omega (arith, all, h)) in
        omega (arith, once, each ms (omega (arith, all, h)), sum_by-cons (λ (m : Made). upto n (λ s. bit (m.symbol + 1) (1 + s))) m ms)

-- ---- what is in use of what a plan makes

names_used : (ws : List Word) → AllByRecursion (λ w. w.tag ≡ NAME) ws → in_use 0 (map idle ws) ≡ length ws
names_used [] h = refl
names_used (w ∷ ws) h =
    let here : cond (is_at 0 (idle w)) 1 0 ≡ 1 = bit_same w.tag 0 h.0 in
    omega (arith, here, names_used ws h.1, sum_by-cons (λ x. cond (is_at 0 x) 1 0) (idle w) (map idle ws))

names_else : (s : ℕ) (ws : List Word) → AllByRecursion (λ w. w.tag ≡ NAME) ws → in_use (suc s) (map idle ws) ≡ 0
names_else s [] h = refl
names_else s (w ∷ ws) h =
    let tag : w.tag ≡ NAME = h.0 in
    let here : cond (is_at (suc s) (idle w)) 1 0 ≡ 0 = bit_other w.tag (suc s) (λ e. omega (arith, e, tag)) in
    omega (arith, here, names_else s ws h.1, sum_by-cons (λ x. cond (is_at (suc s) x) 1 0) (idle w) (map idle ws))

made_used : (kind : ℕ) (rs : List Word) (ms : List Made) (ws : List Word) → map (λ (w : Word). w.tag) ws ≡ map (λ (m : Made). m.symbol + 1) ms
    → in_use kind (made_each rs ms ws) ≡ agents_of kind ms
made_used kind rs [] ws h = refl
made_used kind rs (m ∷ ms) [] h =
    let none : 0 ≡ suc (length (map (λ (m : Made). m.symbol + 1) ms)) = ap length h in absurd (omega (arith, none))
made_used kind rs (m ∷ ms) (w ∷ ws) h =
    let first : w.tag ≡ m.symbol + 1 = ap (λ (l : List ℕ). slice_index_or l 0 0) h in
    let here : bit w.tag kind ≡ bit (m.symbol + 1) kind = ap (λ k. bit k kind) first in
    let rest = made_used kind rs ms ws (ap (drop 1) h) in
    omega (
      arith,
      here,
      rest,
      sum_by-cons (λ x. cond (is_at kind x) 1 0) (made_at rs m w) (made_each rs ms ws),
      sum_by-cons (λ (m : Made). bit (m.symbol + 1) kind) m ms,
    )

no_agent : (ms : List Made) → agents_of 0 ms ≡ 0
no_agent [] = refl
no_agent (m ∷ ms) =
    let here : bit (m.symbol + 1) 0 ≡ 0 = bit_other (m.symbol + 1) 0 (λ e. omega (arith, e)) in
    omega (arith, here, no_agent ms, sum_by-cons (λ (m : Made). bit (m.symbol + 1) 0) m ms)

made_takes : (kind : ℕ) (p : Planned) (rs names made : List Word) → length names ≡ p.names
    → AllByRecursion (λ w. w.tag ≡ NAME) names → map (λ (w : Word). w.tag) made ≡ map (λ (m : Made). m.symbol + 1) p.made
    → in_use kind (pieces_made p rs names made) ≡ takes kind p
made_takes kind p rs names made count tags made_tags = by kind
  where
    parts : (kind : ℕ) → in_use kind (pieces_made p rs names made) ≡ in_use kind (map idle names) + agents_of kind p.made
    parts kind =
        let a = sum_by-append (λ x. cond (is_at kind x) 1 0) (map idle names) (made_each rs p.made made ++ map (linked rs) p.links) in
        let b = sum_by-append (λ x. cond (is_at kind x) 1 0) (made_each rs p.made made) (map (linked rs) p.links) in
        omega (arith, a, b, made_used kind rs p.made made made_tags, links_at_none kind rs p.links)

    by : (kind : ℕ) → in_use kind (pieces_made p rs names made) ≡ takes kind p
    by zero = omega (arith, parts 0, names_used names tags, no_agent p.made, count)
    by (suc s) = omega (arith, parts (suc s), names_else s names tags)

-- ---- what is in use as pairs fire

fires_uses : (p : Plans) (i kind : ℕ) (xs ys : List Piece) → Fires p i xs ys → in_use kind ys ≤ in_use kind xs + takes_by kind p i
fires_uses p i kind xs ys f =
    let left : Word = agent_word f.left f.left_place in
    let right : Word = agent_word f.right f.right_place in
    let rs : List Word = constants (length p.arities) ++ (f.left_args ++ (f.right_args ++ (f.names ++ f.made))) in
    let old = sum_of_pair (λ x. cond (is_at kind x) 1 0) xs (equated left right) (agent_with left f.left_args) (agent_with right f.right_args) f.rest f.given in
    let new = sum_by-IsPermutation (λ x. cond (is_at kind x) 1 0) ys (pieces_made f.plan rs f.names f.made ++ f.rest) f.result in
    let both = sum_by-append (λ x. cond (is_at kind x) 1 0) (pieces_made f.plan rs f.names f.made) f.rest in
    let made = made_takes kind f.plan rs f.names f.made f.names_count f.name_tags f.made_tags in
    let is : takes_by kind p i ≡ takes kind f.plan = ap (λ o. option_map_or (takes kind) o 0) f.has_plan in
    omega (arith, old, new, both, made, is)

way_most : (p : Plans) (is : List ℕ) (kind most : ℕ) (ms : List (List Piece)) (xs ys : List Piece) → Way p is ms xs ys
    → in_use kind xs ≤ most → AllByRecursion (λ k. k ≤ most + sum_by (takes_by kind p) is) (map (in_use kind) ms)
way_most p [] kind most [] xs ys way low = tt
way_most p [] kind most (m ∷ ms) xs ys way low = absurd way
way_most p (i ∷ is) kind most [] xs ys way low = absurd way
way_most p (i ∷ is) kind most (m ∷ ms) xs ys way low =
    let before = steps_use p [] kind xs way.0.before refl way.0.steps in
    let here : in_use kind m ≤ most + takes_by kind p i =
    let grown = fires_uses p i kind way.0.before m way.0.fires in omega (arith, before, grown, low) in
    let all : sum_by (takes_by kind p) (i ∷ is) ≡ takes_by kind p i + sum_by (takes_by kind p) is = sum_by-cons (takes_by kind p) i is in
    let later = way_most p is kind (most + takes_by kind p i) ms m ys way.1 here in (
      omega (arith, here, all),
      all_of (λ k. k ≤ most + takes_by kind p i + sum_by (takes_by kind p) is) (λ k. k ≤ most + sum_by (takes_by kind p) (i ∷ is))
          (map (in_use kind) ms) (λ k le. omega (arith, le, all)) later,
    )

greatest_most : (n most : ℕ) (ns : List ℕ) → n ≤ most → AllByRecursion (λ k. k ≤ most) ns → greatest n ns ≤ most
greatest_most n most [] low all = low
greatest_most n most (k ∷ ns) low all = greatest_most (max n k) most ns (max-le low all.0) all.1

kind_grows : (p : Plans) (old new : Net) (kind : ℕ) (r : Ran p old new) → in_use kind (pieces old) ≤ places_of kind old
    → places_of kind new ≤ places_of kind old + sum_by (takes_by kind p) r.fired
kind_grows p old new kind r low =
    let most = greatest_most (places_of kind old) (places_of kind old + sum_by (takes_by kind p) r.fired) (map (in_use kind) r.moments) (omega arith)
    (way_most p r.fired kind (places_of kind old) r.moments (pieces old) (pieces new) r.way low) in
    omega (arith, most, r.places kind)

-- ---- the laws

pub start_names : (p : Plans) (given : ℕ) (plan : Planned) (operands : List ℕ) (n : Net) → Starts p given plan operands n → n.names ≡ plan.names
start_names p given plan operands n s =
    s.places 0 ∙ (ap (in_use 0) s.begins.pieces
    ∙ made_takes 0 plan (first_registers p.arities given s.begins.names s.begins.made) s.begins.names s.begins.made s.begins.names_count s.begins.name_tags s.begins.made_tags)

pub start_agents : (p : Plans) (given : ℕ) (plan : Planned) (operands : List ℕ) (n : Net) → Starts p given plan operands n
    → sum n.agents ≡ length plan.made
start_agents p given plan operands n s =
    let many : ℕ = length n.agents + sum_by (λ m. m.symbol + 1) plan.made in
    sym (upto_items many n.agents (omega arith))
    ∙ (upto_same many (λ s. slice_index_or n.agents s 0) (λ s. agents_of (suc s) plan.made) each
    ∙ agents_all many plan.made (omega arith))
  where
    each : (k : ℕ) → slice_index_or n.agents k 0 ≡ agents_of (suc k) plan.made
    each k = s.places (suc k) ∙ (ap (in_use (suc k)) s.begins.pieces
        ∙ made_takes (suc k) plan (first_registers p.arities given s.begins.names s.begins.made) s.begins.names s.begins.made s.begins.names_count s.begins.name_tags s.begins.made_tags)

-- what plans take of all kinds
all_taken : (p : Plans) (n : ℕ) (is : List ℕ)
    → sum_by (takes_by 0 p) is + upto n (λ s. sum_by (takes_by (suc s) p) is) ≤ sum_by (places_made_by p) is
all_taken p n is = let e = exchanged n (λ s i. takes_by (suc s) p i) is in omega (arith, e, over is)
  where
    one : (o : Option Planned) → option_map_or (takes 0) o 0 + upto n (λ s. option_map_or (takes (suc s)) o 0) ≤ option_map_or places_made o 0
    one None = let e = upto_none n in omega (arith, e)
    one (Some plan) = let most = agents_most n plan.made in omega (arith, most)

    over : (is : List ℕ) → sum_by (takes_by 0 p) is + sum_by (λ i. upto n (λ s. takes_by (suc s) p i)) is ≤ sum_by (places_made_by p) is
    over [] = omega arith
    over (i ∷ is) =
        let here = one (slice_get p.plans i) in
        omega (arith, here, over is, sum_by-cons (takes_by 0 p) i is, sum_by-cons (λ i. upto n (λ s. takes_by (suc s) p i)) i is, sum_by-cons (places_made_by p) i is)

pub run_made : (p : Plans) (old new : Net) (r : Ran p old new) → ((kind : ℕ) → in_use kind (pieces old) ≤ places_of kind old)
    → all_places new ≤ all_places old + sum_by (places_made_by p) r.fired
run_made p old new r low =
    let n : ℕ = length old.agents in
    let names : new.names ≤ old.names + sum_by (takes_by 0 p) r.fired = kind_grows p old new 0 r (low 0) in
    let later : upto n (λ s. slice_index_or new.agents s 0) ≡ sum new.agents = upto_items n new.agents (let e = r.symbols in omega (arith, e)) in
    let first : upto n (λ s. slice_index_or old.agents s 0) ≡ sum old.agents = upto_items n old.agents (omega arith) in
    let grown = upto_le n (λ s. slice_index_or new.agents s 0) (λ s. slice_index_or old.agents s 0 + sum_by (takes_by (suc s) p) r.fired)
    (λ s. kind_grows p old new (suc s) r (low (suc s))) in
    let both = upto_both n (λ s. slice_index_or old.agents s 0) (λ s. sum_by (takes_by (suc s) p) r.fired) in
    omega (arith, names, later, first, grown, both, all_taken p n r.fired)
