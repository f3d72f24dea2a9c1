-- What settling replaces, step by step.
use Rattle.std.proofs.Common.{◌≡◌, ◌↔◌, ℕ, zero, suc, ◌+◌, List, [], ◌∷◌, ◌++◌, Bool, true, false, cond, Option, None, Some, option_map, length, map, slice_get, refl, sym, ◌∙◌, ap, eq-eqb, length-append, inl, inr, arith}
use Rattle.std.proofs.lemmas.Bool.{eqb-true}
use Rattle.std.proofs.lemmas.List.{map-append, length-map}
use Rattle.std.specs.List.{AllByRecursion, remove, zip}
use Rattle.std.specs.Option.{option_map_or, option_to_list}
use Rattle.ic_term.specs.Tree.{Tree, name, agent, Pair}
use Rattle.ic_term.specs.Configuration.{Configuration, names_in}
use Rattle.ic_settle.specs.Settling.{Binding, Choice, subst_pair, first_choice, settling_step, applied, settled, Binds}
use Rattle.ic_settle.specs.Bindings.{is_name, replacement, replaced_by, replaced_in, replaced, bound_names, put_into, IsSideIn, ReplacesFirst}
use Rattle.ic_settle.specs.lemmas.ChoiceLaws.{is_choice, binding_binds, settled-step, settled-stop}

-- ---- lists

pub zip_middle : (us vs us' vs' : List Pair) (p q : Pair) → length us ≡ length vs → slice_get (zip (us ++ p ∷ us') (vs ++ q ∷ vs')) (length us) ≡ Some (p, q)
zip_middle [] [] us' vs' p q e = refl
zip_middle (a ∷ us) (b ∷ vs) us' vs' p q e = zip_middle us vs us' vs' p q (omega arith)
zip_middle _ _ us' vs' p q e = absurd (omega arith)

pub remove_middle : (us us' : List Pair) (p : Pair) → remove (us ++ p ∷ us') (length us) ≡ us ++ us'
remove_middle [] us' p = refl
remove_middle (a ∷ us) us' p = ap (λ r. a ∷ r) (remove_middle us us' p)

remove_put : (put : Pair → Pair) (ps : List Pair) (i : ℕ) → remove (map put ps) i ≡ map put (remove ps i)
remove_put put [] zero = refl
remove_put put (p ∷ ps) (suc i) = ap (λ r. put p ∷ r) (remove_put put ps i)
remove_put put _ _ = refl

-- ---- no step

pub stopped : (n : ℕ) (c : Configuration) (given : List Pair) → first_choice c.interface [] c.equations ≡ None → replaced_in n c given ≡ []
stopped zero c given e = refl
stopped (suc n) c given e =
    ap (λ w. option_map_or (λ ch. replaced_by c given ch ++ replaced_in n (applied c ch) (remove given (length ch.before))) w []) e

-- ---- one step

same_name : (x : ℕ) (t : Tree) → is_name x t ≡ true → t ≡ name x
same_name x (name y) e = ap name (eqb-true y x e)
same_name x (agent s ts) e = cc

right_or_left : (x : ℕ) (t : Tree) (is : Bool) → is_name x t ≡ is → cond is (name x) t ≡ t
right_or_left x t true e = sym (same_name x t e)
right_or_left x t false e = refl

-- an equation that is as it was given replaces what it binds
is_bound : (p : Pair) (b : Binding) → Binds p b → replacement b.name (p, p) ≡ b
is_bound p b (inl e) =
    ap (λ q. replacement b.name (q, q)) e ∙ ap (λ is. record { name = b.name; term = cond is b.term (name b.name) }) (eq-eqb b.name b.name refl)
is_bound p b (inr e) =
    ap (λ q. replacement b.name (q, q)) e ∙ ap (λ t. record { name = b.name; term = t }) (right_or_left b.name b.term (is_name b.name b.term) refl)

-- ---- a term put for a name in the given equations

put_by : (b : Binding) (x : ℕ) (es given : List Pair) (i : ℕ)
    → option_to_list (option_map (replacement x) (slice_get (zip es (map (subst_pair b.name b.term) given)) i))
    ≡ map (put_into b) (option_to_list (option_map (replacement x) (slice_get (zip es given) i)))
put_by b x [] given i = refl
put_by b x (e ∷ es) [] i = refl
put_by b x (e ∷ es) (g ∷ given) zero = one (is_name x e.left)
  where
    one : (is : Bool)
        → record { name = x; term = cond is (subst_pair b.name b.term g).right (subst_pair b.name b.term g).left } ∷ []
        ≡ put_into b (record { name = x; term = cond is g.right g.left }) ∷ []
    one true = refl
    one false = refl
put_by b x (e ∷ es) (g ∷ given) (suc i) = put_by b x es given i

put_given : (n : ℕ) (c : Configuration) (b : Binding) (given : List Pair)
    → replaced_in n c (map (subst_pair b.name b.term) given) ≡ map (put_into b) (replaced_in n c given)
put_given zero c b given = refl
put_given (suc n) c b given = at (first_choice c.interface [] c.equations) (λ d g. put_given n d b g)
  where
    put : Pair → Pair
    put = subst_pair b.name b.term

    at : (found : Option Choice) → ((d : Configuration) (g : List Pair) → replaced_in n d (map put g) ≡ map (put_into b) (replaced_in n d g))
        → option_map_or (λ ch. replaced_by c (map put given) ch ++ replaced_in n (applied c ch) (remove (map put given) (length ch.before))) found []
        ≡ map (put_into b) (option_map_or (λ ch. replaced_by c given ch ++ replaced_in n (applied c ch) (remove given (length ch.before))) found [])
    at None rest = refl
    at (Some ch) rest =
        let left = remove given (length ch.before) in
        ap (λ g. replaced_by c (map put given) ch ++ replaced_in n (applied c ch) g) (remove_put put given (length ch.before))
        ∙ ap (λ bs. replaced_by c (map put given) ch ++ bs) (rest (applied c ch) left)
        ∙ ap (λ bs. bs ++ map (put_into b) (replaced_in n (applied c ch) left)) (put_by b ch.bound.name c.equations given (length ch.before))
        ∙ sym (map-append (put_into b) (replaced_by c given ch) (replaced_in n (applied c ch) left))

-- ---- the first step, and all

shorter : (c : Configuration) (choice : Choice) → first_choice c.interface [] c.equations ≡ Some choice
    → length c.equations ≡ suc (length (applied c choice).equations)
shorter c choice e =
    let is = is_choice c.interface [] c.equations choice e in
    let left = choice.before ++ choice.after in
    ap length is.place
    ∙ omega (arith, length-append choice.before (is.equation ∷ choice.after), length-append choice.before choice.after, length-map left (subst_pair choice.bound.name choice.bound.term))

pub replaces_first : (c : Configuration) (choice : Choice) → first_choice c.interface [] c.equations ≡ Some choice → ReplacesFirst c choice
replaces_first c choice e =
    let is = is_choice c.interface [] c.equations choice e in
    let left = choice.before ++ choice.after in
    let n = length (applied c choice).equations in
    let bound = binding_binds (names_in c.interface left) is.equation choice.bound is.binds in
    let found : slice_get (zip c.equations c.equations) (length choice.before) ≡ Some (is.equation, is.equation) =
    ap (λ es. slice_get (zip es es) (length choice.before)) is.place ∙ zip_middle choice.before choice.before choice.after choice.after is.equation is.equation refl in
    let here : replaced_by c c.equations choice ≡ choice.bound ∷ [] =
    ap (λ w. option_to_list (option_map (replacement choice.bound.name) w)) found ∙ ap (λ b. b ∷ []) (is_bound is.equation choice.bound bound.0) in
    let without : remove c.equations (length choice.before) ≡ left =
    ap (λ es. remove es (length choice.before)) is.place ∙ remove_middle choice.before choice.after is.equation in
    let whole : replaced c ≡ choice.bound ∷ replaced_in n (applied c choice) left =
    ap (λ k. replaced_in k c c.equations) (shorter c choice e)
    ∙ ap (λ w. option_map_or (λ ch. replaced_by c c.equations ch ++ replaced_in n (applied c ch) (remove c.equations (length ch.before))) w []) e
    ∙ ap (λ bs. bs ++ replaced_in n (applied c choice) (remove c.equations (length choice.before))) here
    ∙ ap (λ g. choice.bound ∷ replaced_in n (applied c choice) g) without in
    (replaced_in n (applied c choice) left, whole, put_given n (applied c choice) choice.bound left)

names_put : (b : Binding) (bs : List Binding) → bound_names (map (put_into b) bs) ≡ bound_names bs
names_put b [] = refl
names_put b (d ∷ bs) = ap (λ ns. d.name ∷ ns) (names_put b bs)

pub replaced_names : (c : Configuration) (choice : Choice) → first_choice c.interface [] c.equations ≡ Some choice
    → bound_names (replaced c) ≡ choice.bound.name ∷ bound_names (replaced (applied c choice))
replaced_names c choice e =
    let first = replaces_first c choice e in
    ap bound_names first.1 ∙ ap (λ ns. choice.bound.name ∷ ns) (sym (names_put choice.bound first.0) ∙ sym (ap bound_names first.2))

pub none_replaced : (c : Configuration) → (replaced c ≡ []) ↔ (settling_step c ≡ None)
none_replaced c = at (first_choice c.interface [] c.equations) refl
  where
    at : (found : Option Choice) → first_choice c.interface [] c.equations ≡ found → (replaced c ≡ []) ↔ (settling_step c ≡ None)
    at None e = (λ h. ap (option_map (applied c)) e, λ h. stopped (length c.equations) c c.equations e)
    at (Some choice) e = (
      λ h. (let whole = (replaces_first c choice e).1 in cc),
      λ h. (let step = ap (option_map (applied c)) e in cc),
    )

abbrev IsCounted : Configuration → Type 0
IsCounted c = length (replaced c) + length (settled c).equations ≡ length c.equations

counted_none : (c : Configuration) → first_choice c.interface [] c.equations ≡ None → IsCounted c
counted_none c e =
    let nothing = ap length (stopped (length c.equations) c c.equations e) in
    let same = ap (λ d. length d.equations) (settled-stop c e) in omega (arith, nothing, same)

counted_step : (c : Configuration) (choice : Choice) → first_choice c.interface [] c.equations ≡ Some choice → IsCounted (applied c choice) → IsCounted c
counted_step c choice e rest =
    let first = replaces_first c choice e in
    let fewer = shorter c choice e in
    let one = ap length first.1 in
    let others = ap length first.2 ∙ length-map first.0 (put_into choice.bound) in
    let same = ap (λ d. length d.equations) (settled-step c choice e (omega (arith, fewer))) in
    omega (arith, fewer, rest, one, others, same)

counted_in : (n : ℕ) (c : Configuration) → length c.equations ≡ n → IsCounted c
counted_in zero c size = at (first_choice c.interface [] c.equations) refl
  where
    at : (found : Option Choice) → first_choice c.interface [] c.equations ≡ found → IsCounted c
    at None e = counted_none c e
    at (Some choice) e = absurd (omega (arith, size, shorter c choice e))
counted_in (suc n) c size = at (first_choice c.interface [] c.equations) refl (λ d few. counted_in n d few)
  where
    at : (found : Option Choice) → first_choice c.interface [] c.equations ≡ found
        → ((d : Configuration) → length d.equations ≡ n → IsCounted d) → IsCounted c
    at None e rest = counted_none c e
    at (Some choice) e rest = counted_step c choice e (rest (applied c choice) (omega (arith, size, shorter c choice e)))

pub replaced_count : (c : Configuration) → length (replaced c) + length (settled c).equations ≡ length c.equations
replaced_count c = counted_in (length c.equations) c refl

-- ---- terms as they were given

either_side : (p : Pair) (ps : List Pair) (is : Bool) → IsSideIn (p ∷ ps) (cond is p.right p.left)
either_side p ps true = inr (inl refl)
either_side p ps false = inl refl

later_sides : (p : Pair) (ps : List Pair) (bs : List Binding) → AllByRecursion (λ b. IsSideIn ps b.term) bs → AllByRecursion (λ b. IsSideIn (p ∷ ps) b.term) bs
later_sides p ps [] all = tt
later_sides p ps (b ∷ bs) all = (inr (inr all.0), later_sides p ps bs all.1)

given_by : (x : ℕ) (es given : List Pair) (i : ℕ)
    → AllByRecursion (λ b. IsSideIn given b.term) (option_to_list (option_map (replacement x) (slice_get (zip es given) i)))
given_by x [] given i = tt
given_by x (e ∷ es) [] i = tt
given_by x (e ∷ es) (g ∷ given) zero = (either_side g given (is_name x e.left), tt)
given_by x (e ∷ es) (g ∷ given) (suc i) =
    later_sides g given (option_to_list (option_map (replacement x) (slice_get (zip es given) i))) (given_by x es given i)

removed_side : (given : List Pair) (i : ℕ) (t : Tree) → IsSideIn (remove given i) t → IsSideIn given t
removed_side [] zero t is = is
removed_side [] (suc i) t is = is
removed_side (p ∷ ps) zero t is = inr (inr is)
removed_side (p ∷ ps) (suc i) t is = elim is [
  | inl left ↦ inl left
  | inr other ↦ elim other [
    | inl right ↦ inr (inl right)
    | inr later ↦ inr (inr (removed_side ps i t later))
  ]
]

removed_sides : (given : List Pair) (i : ℕ) (bs : List Binding) → AllByRecursion (λ b. IsSideIn (remove given i) b.term) bs
    → AllByRecursion (λ b. IsSideIn given b.term) bs
removed_sides given i [] all = tt
removed_sides given i (b ∷ bs) all = (removed_side given i b.term all.0, removed_sides given i bs all.1)

both_parts : (given : List Pair) (bs ds : List Binding) → AllByRecursion (λ b. IsSideIn given b.term) bs → AllByRecursion (λ b. IsSideIn given b.term) ds
    → AllByRecursion (λ b. IsSideIn given b.term) (bs ++ ds)
both_parts given [] ds first second = second
both_parts given (b ∷ bs) ds first second = (first.0, both_parts given bs ds first.1 second)

given_in : (n : ℕ) (c : Configuration) (given : List Pair) → AllByRecursion (λ b. IsSideIn given b.term) (replaced_in n c given)
given_in zero c given = tt
given_in (suc n) c given = at (first_choice c.interface [] c.equations) (λ d g. given_in n d g)
  where
    at : (found : Option Choice) → ((d : Configuration) (g : List Pair) → AllByRecursion (λ b. IsSideIn g b.term) (replaced_in n d g))
        → AllByRecursion (λ b. IsSideIn given b.term)
        (option_map_or (λ ch. replaced_by c given ch ++ replaced_in n (applied c ch) (remove given (length ch.before))) found [])
    at None rest = tt
    at (Some ch) rest =
        both_parts given (replaced_by c given ch) (replaced_in n (applied c ch) (remove given (length ch.before)))
        (given_by ch.bound.name c.equations given (length ch.before))
        (removed_sides given (length ch.before) _ (rest (applied c ch) (remove given (length ch.before))))

pub replaced_sides : (c : Configuration) → AllByRecursion (λ b. IsSideIn c.equations b.term) (replaced c)
replaced_sides c = given_in (length c.equations) c c.equations
