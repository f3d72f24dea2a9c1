-- Lemmas: the equations of a settled net that are no circles are the pairs that a machine has left.
use Rattle.std.proofs.Common.{◌≡◌, ◌⊎◌, inl, inr, ℕ, zero, suc, ◌+◌, ◌*◌, ◌≤◌, ◌==◌, ◌||◌, List, [], ◌∷◌, ◌++◌, Bool, true, false, not, cond, Option, None, Some, length, map, slice_get, sum_by, count_by, refl, sym, ap, ◌∙◌, arith, subst as transport}
use Rattle.std.proofs.lemmas.Bool.{ne_eqb}
use Rattle.std.proofs.lemmas.List.{length-append, length-map}
use Rattle.std.proofs.lemmas.List.Sums.{sum_by-append, sum_by-cons}
use Rattle.std.specs.Cmp.{unsigned_Decides}
use Rattle.std.specs.List.{flat_map, AllByRecursion}
use Rattle.std.specs.Prelude.{◌↔◌}
use Rattle.ic_term.specs.Tree.{Tree, name, agent, Trees, no_trees, more_trees, names, names_of, Pair, pair_names}
use Rattle.ic_term.specs.Configuration.{Configuration, configuration_names, names_in, occurrences}
use Rattle.ic_rules.specs.Renaming.{renamed}
use Rattle.ic_rules.specs.lemmas.RenamingLaws.{names-renamed}
use Rattle.ic_settle.specs.NameSteps.{NameStep, NameSteps}
use Rattle.ic_settle.specs.Settling.{Binding, subst, subst_all}
use Rattle.ic_settle.specs.lemmas.StepLaws.{itself_once as name_itself}
use Rattle.ic_settle.specs.lemmas.SubstitutionLaws.{occurrences-append, occurrences-cons}
use Rattle.ic_round.specs.Naming.{HasNames}
use Rattle.ic_round.specs.lemmas.NameStepLemmas.{name_step}
use Rattle.ic_confluence.specs.Sameness.{Alike, itself, exchanged, rotated, in_turn, Rotated, Rearranged, nothing, kept, swapped, one_by_one, renamed_pair, turned, Renames, Rearranges, Same, renaming, rearranging, through}
use Rattle.ic_confluence.specs.lemmas.Puts.{OneToOne, undone_is_one_to_one, occurrences-renamed}
use Rattle.ic_reaching.specs.OneNet.{OneNet, SameButNext}
use Rattle.ic_reaching.specs.Pieces.{piece_of}
use Rattle.ic_arena.specs.declared.word.Word.{Word}
use Rattle.ic_arena.specs.Piece.{Piece, equated, idle, waits, agent_of}
use Rattle.ic_machine.specs.declared.equation.Equation.{Equation}
use Rattle.ic_machine.specs.Net.{Net, equated_of, equations_left, pieces, IsAtPlace, IsPair, IsPairPiece}
use Rattle.ic_meaning.specs.Circles.{circles, is_circle, is_name_in}
use Rattle.ic_meaning.specs.Words.{Numbers, AreNumbers, term}
use Rattle.ic_meaning.specs.Nets.{net_of, AreNetPieces}
use Rattle.ic_meaning.specs.lemmas.Terms.{flat_names}
use Rattle.ic_meaning.proofs.Ended.{Bound, Circle, IsEnded, Stuck, Settled, in_bindings, quiet_end, side_free, stuck_ends, to_ends}
use Rattle.ic_meaning.proofs.Given.{NetLaws}
use Rattle.ic_meaning.proofs.Quiet.{bindings_of, equated_in, pairs_in_parts, total_of}
use Rattle.ic_meaning.proofs.Rounds.{none_made}

-- ---- circles of a settled net

not_none : (n : ℕ) → 1 ≤ n → not (n == 0) ≡ true
not_none n some = ap (λ (b : Bool). not b) (ne_eqb n 0 (λ is. absurd (omega (arith, some, is))))

circle_is : (total : ℕ → ℕ) (z : Binding) → Circle total z → is_circle (piece_of z) ≡ true
circle_is total z is = ap (λ (b : Bool). b || is_name_in z.term (name z.name)) (not_none (occurrences z.name (names z.term)) is.some)

not_in_right : (total : ℕ → ℕ) (e : Pair) → Stuck [] total [] e → IsEnded [] total e → (t u : Tree) → e.left ≡ t → e.right ≡ u → is_name_in t u ≡ false
not_in_right total e s ended (agent a us) u p q = refl
not_in_right total e s ended (name y) u p q =
    let one = side_free total e.left s.left_symbol y s.left p in
    let all = ended.1 y (inl p) in
    let parts = occurrences-append y (names e.left) (names e.right) in
    let here : occurrences y (names e.left) ≡ 1 = ap (λ (t : Tree). occurrences y (names t)) p ∙ name_itself y in
    let none : occurrences y (names e.right) ≡ 0 = omega (arith, one, all, parts, here) in
    let there : occurrences y (names u) ≡ 0 = ap (λ (t : Tree). occurrences y (names t)) (sym q) ∙ none in
    ap (λ (n : ℕ). not (n == 0)) there

not_in_left : (total : ℕ → ℕ) (e : Pair) → Stuck [] total [] e → IsEnded [] total e → (t u : Tree) → e.right ≡ t → e.left ≡ u → is_name_in t u ≡ false
not_in_left total e s ended (agent a us) u p q = refl
not_in_left total e s ended (name y) u p q =
    let one = side_free total e.right s.right_symbol y s.right p in
    let all = ended.1 y (inr p) in
    let parts = occurrences-append y (names e.left) (names e.right) in
    let here : occurrences y (names e.right) ≡ 1 = ap (λ (t : Tree). occurrences y (names t)) p ∙ name_itself y in
    let none : occurrences y (names e.left) ≡ 0 = omega (arith, one, all, parts, here) in
    let there : occurrences y (names u) ≡ 0 = ap (λ (t : Tree). occurrences y (names t)) (sym q) ∙ none in
    ap (λ (n : ℕ). not (n == 0)) there

end_is_none : (total : ℕ → ℕ) (e : Pair) → Stuck [] total [] e → IsEnded [] total e → is_circle e ≡ false
end_is_none total e s ended =
    let left = not_in_right total e s ended e.left e.right refl refl in
    let right = not_in_left total e s ended e.right e.left refl refl in
    (λ i. left i || right i)

all_circles : (total : ℕ → ℕ) (zs : List Binding) → AllByRecursion (Circle total) zs → count_by is_circle (map piece_of zs) ≡ length zs
all_circles total [] all = refl
all_circles total (z ∷ zs) all =
    let parts = sum_by-cons (λ p. cond (is_circle p) 1 0) (piece_of z) (map piece_of zs) in
    let here : ◌≡◌ {A = ℕ} (cond (is_circle (piece_of z)) 1 0) 1 = ap (λ (b : Bool). cond {A = ℕ} b 1 0) (circle_is total z all.0) in
    let rest = all_circles total zs all.1 in
    omega (arith, parts, here, rest)

no_circles : (total : ℕ → ℕ) (ss : List Pair) → AllByRecursion (Stuck [] total []) ss → AllByRecursion (IsEnded [] total) ss → count_by is_circle ss ≡ 0
no_circles total [] all ended = refl
no_circles total (e ∷ ss) all ended =
    let parts = sum_by-cons (λ p. cond (is_circle p) 1 0) e ss in
    let here : ◌≡◌ {A = ℕ} (cond (is_circle e) 1 0) 0 = ap (λ (b : Bool). cond {A = ℕ} b 1 0) (end_is_none total e all.0 ended.0) in
    let rest = no_circles total ss all.1 ended.1 in
    omega (arith, parts, here, rest)

-- beside its circles a settled net has these equations
circles_beside : (total : ℕ → ℕ) (ts : List Tree) (zs : List Binding) (ss : List Pair) (next : ℕ) → Bound [] total (in_bindings ts [] zs ss next) [] zs ss
    → length ss + circles (in_bindings ts [] zs ss next) ≡ length (in_bindings ts [] zs ss next).equations
circles_beside total ts zs ss next is =
    let ended = stuck_ends [] total (in_bindings ts [] zs ss next) ss is.stuck is.counts inside in
    let all = sum_by-append (λ p. cond (is_circle p) 1 0) (map piece_of zs) ss in
    let some = all_circles total zs is.circles in
    let none = no_circles total ss is.stuck ended in
    let many = length-append (map piece_of zs) ss in
    let count = length-map zs piece_of in
    omega (arith, all, some, none, many, count)
  where
    inside : (n : ℕ) → occurrences n (flat_map pair_names ss) ≤ occurrences n (names_in ts (map piece_of zs ++ ss))
    inside n =
        let one = occurrences-append n (flat_map names ts) (flat_map pair_names (map piece_of zs ++ ss)) in
        let two = ap (occurrences n) (flat_names (map piece_of zs) ss) ∙ occurrences-append n (flat_map pair_names (map piece_of zs)) (flat_map pair_names ss) in
        omega (arith, one, two)

-- ---- circles of the same net

renamed_in_term : (f : ℕ → ℕ) → OneToOne f → (t u : Tree) → is_name_in (renamed f t) (renamed f u) ≡ is_name_in t u
renamed_in_term f one (agent a us) u = refl
renamed_in_term f one (name x) u =
    ap (λ (n : ℕ). not (n == 0)) (ap (occurrences (f x)) (names-renamed f u) ∙ occurrences-renamed f one x (names u))

renamed_circle : (f : ℕ → ℕ) → OneToOne f → (p : Pair) → is_circle (renamed_pair f p) ≡ is_circle p
renamed_circle f one p =
    let left = renamed_in_term f one p.left p.right in
    let right = renamed_in_term f one p.right p.left in
    (λ i. left i || right i)

mutual
  put_stays : (x : ℕ) (u t : Tree) → 1 ≤ occurrences x (names t) → 1 ≤ occurrences x (names u) → 1 ≤ occurrences x (names (subst x u t))
  put_stays x u (name m) there some = at (m == x) refl
    where
      at : (b : Bool) → (m == x) ≡ b → 1 ≤ occurrences x (names (cond b u (name m)))
      at true e = some
      at false e = there
  put_stays x u (agent s ts) there some = put_stays_all x u ts there some

  put_stays_all : (x : ℕ) (u : Tree) (ts : Trees) → 1 ≤ occurrences x (names_of ts) → 1 ≤ occurrences x (names u) → 1 ≤ occurrences x (names_of (subst_all x u ts))
  put_stays_all x u no_trees there some = there
  put_stays_all x u (more_trees t ts) there some = by (occurrences x (names t)) refl (λ more. put_stays x u t more some) (λ more. put_stays_all x u ts more some)
    where
      by : (k : ℕ) → occurrences x (names t) ≡ k → (1 ≤ occurrences x (names t) → 1 ≤ occurrences x (names (subst x u t)))
          → (1 ≤ occurrences x (names_of ts) → 1 ≤ occurrences x (names_of (subst_all x u ts)))
          → 1 ≤ occurrences x (names (subst x u t) ++ names_of (subst_all x u ts))
      by zero is first others =
          let before = occurrences-append x (names t) (names_of ts) in
          let after = occurrences-append x (names (subst x u t)) (names_of (subst_all x u ts)) in
          let rest = others (omega (arith, before, is, there)) in
          omega (arith, after, rest)
      by (suc k) is first others =
          let after = occurrences-append x (names (subst x u t)) (names_of (subst_all x u ts)) in
          let here = first (omega (arith, is)) in
          omega (arith, after, here)

cut_is_circle : (cut : ℕ) (inner outer : Tree) (p : Pair) → occurrences cut (names inner) ≡ 1 → occurrences cut (names outer) ≡ 1
    → p ≡ record { left = name cut; right = subst cut inner outer } → is_circle p ≡ true
cut_is_circle cut inner outer p once also is =
    let more = put_stays cut inner outer (omega (arith, also)) (omega (arith, once)) in
    ap is_circle is ∙ ap (λ (b : Bool). b || is_name_in (subst cut inner outer) (name cut)) (not_none (occurrences cut (names (subst cut inner outer))) more)

or_other : (a b : Bool) → (a || b) ≡ (b || a)
or_other true true = refl
or_other true false = refl
or_other false true = refl
or_other false false = refl

alike_circle : (p q : Pair) → Alike p q → is_circle p ≡ is_circle q
alike_circle p q (itself r) = refl
alike_circle p q (exchanged r) = or_other (is_name_in r.left r.right) (is_name_in r.right r.left)
alike_circle p q (rotated r s turn) =
    cut_is_circle turn.cut turn.inner turn.outer r turn.once_inner turn.once_outer turn.given
    ∙ sym (cut_is_circle turn.cut turn.outer turn.inner s turn.once_outer turn.once_inner turn.result)
alike_circle p q (in_turn a b c one two) = alike_circle a b one ∙ alike_circle b c two

-- as many equations, and as many circles
abbrev AsMany : List Pair → List Pair → Type 0
AsMany es fs = (length es ≡ length fs) × (count_by is_circle es ≡ count_by is_circle fs)

rearranged_many : (es fs : List Pair) → Rearranged es fs → AsMany es fs
rearranged_many es fs nothing = (refl, refl)
rearranged_many es fs (kept p q ds gs alike rest) =
    let more = rearranged_many ds gs rest in
    let one = sum_by-cons (λ p. cond (is_circle p) 1 0) p ds in
    let other = sum_by-cons (λ p. cond (is_circle p) 1 0) q gs in
    let same : ◌≡◌ {A = ℕ} (cond (is_circle p) 1 0) (cond (is_circle q) 1 0) = ap (λ (b : Bool). cond {A = ℕ} b 1 0) (alike_circle p q alike) in
    let lengths = more.0 in
    let counts = more.1 in
    (ap suc lengths, omega (arith, one, other, same, counts))
rearranged_many es fs (swapped p q ds) =
    let a = sum_by-cons (λ p. cond (is_circle p) 1 0) p (q ∷ ds) in
    let b = sum_by-cons (λ p. cond (is_circle p) 1 0) q ds in
    let c = sum_by-cons (λ p. cond (is_circle p) 1 0) q (p ∷ ds) in
    let d = sum_by-cons (λ p. cond (is_circle p) 1 0) p ds in
    (refl, omega (arith, a, b, c, d))
rearranged_many es fs (one_by_one a b c one two) =
    let first = rearranged_many a b one in
    let second = rearranged_many b c two in
    (first.0 ∙ second.0, first.1 ∙ second.1)

renamed_many : (f : ℕ → ℕ) → OneToOne f → (es : List Pair) → AsMany es (map (renamed_pair f) es)
renamed_many f one [] = (refl, refl)
renamed_many f one (p ∷ es) =
    let more = renamed_many f one es in
    let a = sum_by-cons (λ p. cond (is_circle p) 1 0) p es in
    let b = sum_by-cons (λ p. cond (is_circle p) 1 0) (renamed_pair f p) (map (renamed_pair f) es) in
    let same : ◌≡◌ {A = ℕ} (cond (is_circle (renamed_pair f p)) 1 0) (cond (is_circle p) 1 0) = ap (λ (b : Bool). cond {A = ℕ} b 1 0) (renamed_circle f one p) in
    let counts = more.1 in
    (ap suc more.0, omega (arith, a, b, same, counts))

same_many : (c d : Configuration) → Same c d → AsMany c.equations d.equations
same_many c d (renaming a b is) =
    let one = undone_is_one_to_one is.to is.from is.there_and_back in
    transport (λ (w : Configuration). AsMany c.equations w.equations) (sym is.result) (renamed_many is.to one c.equations)
same_many c d (rearranging a b is) = rearranged_many c.equations d.equations is.equations
same_many c d (through a b e one two) =
    let first = same_many a b one in
    let second = same_many b e two in
    (first.0 ∙ second.0, first.1 ∙ second.1)

-- ---- the equations of a machine

others_in : (n : Numbers) (es : List Equation) (places : List Piece) → AllByRecursion IsAtPlace places → length (equated_in n (map equated_of es ++ places)) ≡ length es
others_in n [] [] at = refl
others_in n [] (equated l r ∷ ps) at = absurd at.0
others_in n [] (idle x ∷ ps) at = others_in n [] ps at.1
others_in n [] (waits x u ∷ ps) at = others_in n [] ps at.1
others_in n [] (agent_of a ws ∷ ps) at = others_in n [] ps at.1
others_in n (e ∷ es) places at = ap suc (others_in n es places at)

more_in : (n : Numbers) (es : List Equation) (ps : List Piece) → length (equated_in n (map equated_of es ++ ps)) ≡ length es + length (equated_in n ps)
more_in n [] ps = let none : length {A = Equation} [] ≡ 0 = refl in omega (arith, none)
more_in n (e ∷ es) ps =
    let rest = more_in n es ps in
    let one : length (equated_in n (map equated_of (e ∷ es) ++ ps)) ≡ suc (length (equated_in n (map equated_of es ++ ps))) = refl in
    let two : length (e ∷ es) ≡ suc (length es) = refl in
    omega (arith, rest, one, two)

pairs_too : (es : List Equation) (ps : List Piece) → AllByRecursion IsPair es → AllByRecursion IsPairPiece ps → AllByRecursion IsPairPiece (map equated_of es ++ ps)
pairs_too [] ps all rest = rest
pairs_too (e ∷ es) ps all rest = (all.0, pairs_too es ps all.1 rest)

places_too : (ps : List Piece) → AllByRecursion IsAtPlace ps → AllByRecursion IsPairPiece ps
places_too [] all = tt
places_too (equated l r ∷ ps) all = absurd all.0
places_too (idle x ∷ ps) all = (tt, places_too ps all.1)
places_too (waits x u ∷ ps) all = (tt, places_too ps all.1)
places_too (agent_of a ws ∷ ps) all = (tt, places_too ps all.1)

-- what a machine has left is what a settled net has beside circles
pub left_beside : NetLaws → (n : Numbers) (m : Net) (d : Configuration) → AreNumbers n → AreNetPieces n.arities m.interface (pieces m)
    → HasNames (net_of n m.interface (pieces m))
    → ((x : ℕ) → (occurrences x (configuration_names (net_of n m.interface (pieces m))) ≡ 1) ↔ ((j : ℕ) × (slice_get n.given j ≡ Some x)))
    → AllByRecursion IsPair m.pending → AllByRecursion IsPair m.aside → AllByRecursion IsAtPlace m.places
    → OneNet (net_of n m.interface (pieces m)) d → ((f : Configuration) → NameStep d f → ⊥)
    → ((c e : Configuration) → OneNet c e → OneNet e c)
    → equations_left m + circles d ≡ length d.equations
left_beside laws n m d sound are named free pending aside places net settled other_way =
    let i = m.interface in
    let ps = pieces m in
    let c = net_of n i ps in
    let bs = bindings_of n ps in
    let ss = equated_in n ps in
    let pairs = pairs_too m.pending (map equated_of m.aside ++ m.places) pending (pairs_too m.aside m.places aside (places_too m.places places)) in
    let parts = pairs_in_parts laws n i ps sound are named free pairs in
    let end : Settled [] (total_of n i ps) (map (term n) i) bs [] ss c.next =
    to_ends laws [] (total_of n i ps) (length bs) (map (term n) i) bs [] ss c.next refl parts.first.names_too parts.bound in
    let e : Configuration = in_bindings end.terms [] end.circles end.ends c.next in
    let beside = circles_beside (total_of n i ps) end.terms end.circles end.ends c.next end.bound in
    let to_e : OneNet c e = laws.through c (in_bindings (map (term n) i) bs [] ss c.next) e parts.first end.net in
    let one : OneNet e d = laws.through e c d (other_way c e to_e) net in
    let quiet = quiet_end [] (total_of n i ps) end.terms end.circles end.ends c.next end.bound in
    let still : (f : Configuration) → NameStep e f → ⊥ = λ f step. quiet f (name_step [] e f step) in
    let ends_one : one.end ≡ e = none_made e one.end still one.steps in
    let ends_other : one.end_too ≡ d = none_made d one.end_too settled one.steps_too in
    let many : AsMany e.equations d.equations =
    transport (λ (w : Configuration). AsMany e.equations w.equations) ends_other
    (transport (λ (w : Configuration). AsMany w.equations one.end_too.equations) ends_one (same_many _ _ one.same.same)) in
    let left : length ss ≡ equations_left m =
    more_in n m.pending (map equated_of m.aside ++ m.places) ∙ ap (λ (k : ℕ). length m.pending + k) (others_in n m.aside m.places places) in
    let as_many = end.many in
    let lengths = many.0 in
    let counts = many.1 in
    omega (arith, beside, left, as_many, lengths, counts)
