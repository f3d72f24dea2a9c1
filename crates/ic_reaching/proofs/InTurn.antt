-- Lemmas: pieces put for their names one after another.
use Rattle.std.proofs.Common.{◌≡◌, ℕ, ◌≤◌, ◌<◌, ◌==◌, List, [], ◌∷◌, ◌++◌, Bool, true, false, cond, map, refl, sym, ap, ◌∙◌, eq-eqb, arith, subst as transport}
use Rattle.std.specs.List.{flat_map}
use Rattle.std.specs.Prelude.{IsPermutation}
use Rattle.ic_term.specs.Tree.{names, Pair, pair_names}
use Rattle.ic_term.specs.Configuration.{Configuration, configuration_names, names_in, occurrences}
use Rattle.ic_settle.specs.Settling.{Binding, subst, subst_pair, subst_in}
use Rattle.ic_settle.specs.NameSteps.{NameStep, NameSteps, no_step, one_more}
use Rattle.ic_settle.specs.lemmas.SubstitutionLaws.{occurrences-append, occurrences-cons}
use Rattle.std.proofs.lemmas.List.{map-append}
use Rattle.ic_round.specs.Naming.{HasNames}
use Rattle.ic_round.specs.lemmas.FiredNames.{All-mono}
use Rattle.ic_round.specs.lemmas.NamesLemmas.{name_step-names}
use Rattle.ic_reaching.specs.OneNet.{OneNet}
use Rattle.ic_reaching.specs.Pieces.{piece_of, names_of_pieces, put_in_turn, OccurInTurn, AreNew}
use Rattle.ic_reaching.proofs.Given.{SettlingLaws}
use Rattle.ic_reaching.proofs.Nets.{from_steps, from_next, net_other_way, net_through}
use Rattle.ic_reaching.proofs.ButNext.{steps_joined}
use Rattle.ic_reaching.proofs.FreshNets.{in_front, in_two}
use Rattle.ic_reaching.proofs.Pieces.{put_in, put_step, taken_names, taken_counts, in_any_order}
use Rattle.ic_confluence.specs.lemmas.Puts.{pairs_absent}

-- pieces in front of what they are put into
abbrev pub in_pieces : List Binding → Configuration → Configuration
in_pieces bs c = record c { equations = map piece_of bs ++ c.equations }

-- a piece whose name occurs in what it is put into isn't in another one
piece_alone : (b : Binding) (bs : List Binding) (c : Configuration) → HasNames (in_pieces (b ∷ bs) c) → occurrences b.name (configuration_names c) ≡ 1
    → (occurrences b.name (flat_map pair_names (map piece_of bs)) ≡ 0) × (1 ≤ occurrences b.name (names_in c.interface (map piece_of bs ++ c.equations)))
piece_alone b bs c named once =
    let x = b.name in
    let two = named.twice x in
    let all = in_front x c.interface (piece_of b) (map piece_of bs ++ c.equations) in
    let whole = in_two x c.interface (map piece_of bs) c.equations in
    let plain = occurrences-append x (flat_map names c.interface) (flat_map pair_names (map piece_of bs ++ c.equations)) in
    let own = occurrences-cons x x (names b.term) in
    let itself : ◌≡◌ {A = ℕ} (cond (x == x) 1 0) 1 = rw (eq-eqb x x refl) refl in
    let given = occurrences-append x (flat_map names c.interface) (flat_map pair_names c.equations) in
    (omega (arith, two, all, whole, plain, own, itself, given, once), omega (arith, two, all, whole, plain, own, itself, given, once))

-- one piece put, and the others before what it was put into
pub one_put : (b : Binding) (bs : List Binding) (c : Configuration) → occurrences b.name (flat_map pair_names (map piece_of bs)) ≡ 0
    → put_in b.name b.term (in_pieces (b ∷ bs) c) (map piece_of bs ++ c.equations) ≡ in_pieces bs (subst_in b.name b.term c)
one_put b bs c none =
    let split = map-append (subst_pair b.name b.term) (map piece_of bs) c.equations in
    let stay = pairs_absent b.name b.term (map piece_of bs) none in
    let both = split ∙ ap (λ es. es ++ map (subst_pair b.name b.term) c.equations) stay in
    ap (λ (es : List Pair). record { interface = map (subst b.name b.term) c.interface; equations = es; next = c.next }) both

first_step : (c d e : Configuration) → NameStep c d → NameSteps d e → NameSteps c e
first_step c d e step steps = steps_joined c d e (one_more c c d (no_step c) step) steps

pub put_steps : (bs : List Binding) (c : Configuration) → HasNames (in_pieces bs c) → OccurInTurn bs c → NameSteps (in_pieces bs c) (put_in_turn bs c)
put_steps [] c named turns = no_step c
put_steps (b ∷ bs) c named turns =
    let alone = piece_alone b bs c named turns.0 in
    let P : Configuration → Type 0 = NameStep (in_pieces (b ∷ bs) c) in
    let step = transport P (one_put b bs c alone.0) (put_step (in_pieces (b ∷ bs) c) b.name b.term (map piece_of bs ++ c.equations) refl alone.1) in
    let after = subst_in b.name b.term c in
    first_step (in_pieces (b ∷ bs) c) (in_pieces bs after) (put_in_turn (b ∷ bs) c) step
    (put_steps bs after (name_step-names (in_pieces (b ∷ bs) c) (in_pieces bs after) step named) turns.1)

pub put_so : SettlingLaws → (c : Configuration) (bs : List Binding) (others : List Pair) → HasNames c → IsPermutation c.equations (map piece_of bs ++ others)
    → OccurInTurn bs (record c { equations = others }) → OneNet c (put_in_turn bs (record c { equations = others }))
put_so laws c bs others named moved turns =
    let rest : Configuration = record c { equations = others } in
    let first = in_any_order laws.nets c (map piece_of bs ++ others) named moved in
    net_through laws c (in_pieces bs rest) (put_in_turn bs rest) first
    (from_steps laws.nets (in_pieces bs rest) (put_in_turn bs rest) first.names_too (put_steps bs rest first.names_too turns))

-- ---- and the other way round

not_one : (n x : ℕ) (t : Bool) → (x == n) ≡ t → cond {A = ℕ} t 1 0 ≡ 0 → (x == n) ≡ false
not_one n x true e zero = absurd (omega (arith, zero))
not_one n x false e zero = e

-- a name that no piece has occurs in the pieces and what they are put into as often as in what comes of it
kept_counts : (bs : List Binding) (c : Configuration) (n : ℕ) → OccurInTurn bs c → occurrences n (names_of_pieces bs) ≡ 0
    → occurrences n (configuration_names (in_pieces bs c)) ≡ occurrences n (configuration_names (put_in_turn bs c))
kept_counts [] c n turns none = refl
kept_counts (b ∷ bs) c n turns none =
    let x = b.name in
    let first = occurrences-cons n x (names_of_pieces bs) in
    let apart : (x == n) ≡ false = not_one n x (x == n) refl (omega (arith, first, none)) in
    let more : occurrences n (names_of_pieces bs) ≡ 0 = omega (arith, first, none) in
    let after = subst_in x b.term c in
    let rest = kept_counts bs after n turns.1 more in
    let here = taken_counts n x b.term c.interface c.equations apart turns.0 in
    let one = in_front n c.interface (piece_of b) (map piece_of bs ++ c.equations) in
    let two = in_two n c.interface (map piece_of bs) c.equations in
    let alone = in_front n c.interface (piece_of b) c.equations in
    let plain = occurrences-append n (flat_map names c.interface) (flat_map pair_names (map piece_of bs ++ c.equations)) in
    let put = in_two n after.interface (map piece_of bs) after.equations in
    let whole = occurrences-append n (flat_map names after.interface) (flat_map pair_names after.equations) in
    omega (arith, rest, here, one, two, alone, plain, put, whole)

higher_names : (c : Configuration) (next : ℕ) → HasNames c → c.next ≤ next → HasNames (record c { next = next })
higher_names c next named high = record {
  below = All-mono (λ n. n < c.next) (λ n. n < next) (λ n low. omega (arith, low, high)) (configuration_names c) named.below;
  twice = named.twice;
}

apart_names : (c : Configuration) (next : ℕ) → HasNames c → c.next ≤ next → (bs : List Binding) (rest : Configuration) → c ≡ put_in_turn bs rest → OccurInTurn bs rest → AreNew c next bs
    → HasNames (record (in_pieces bs rest) { next = next })
apart_names c next named high [] rest is turns new =
    let P : Configuration → Type 0 = λ e. HasNames (record e { next = next }) in transport P is (higher_names c next named high)
apart_names c next named high (b ∷ bs) rest is turns new =
    let x = b.name in
    let t = b.term in
    let after = subst_in x t rest in
    let earlier = apart_names c next named high bs after is turns.1 new.3 in
    let counts = kept_counts bs after x turns.1 new.1 in
    let whole = ap (λ (e : Configuration). occurrences x (configuration_names e)) is in
    let none = new.0 in
    let gone : occurrences x (configuration_names (in_pieces bs after)) ≡ 0 = omega (arith, counts, whole, none) in
    let parts = in_two x after.interface (map piece_of bs) after.equations in
    let nowhere : occurrences x (flat_map pair_names (map piece_of bs)) ≡ 0 = omega (arith, parts, gone) in
    let stay = pairs_absent x t (map piece_of bs) nowhere in
    let split = map-append (subst_pair x t) (map piece_of bs) rest.equations in
    let before = in_two x rest.interface (map piece_of bs) rest.equations in
    let own = occurrences-append x (flat_map names rest.interface) (flat_map pair_names rest.equations) in
    let once = turns.0 in
    taken_names (record (in_pieces bs after) { next = next }) x next t rest.interface (map piece_of bs ++ rest.equations) earlier refl
    (sym (split ∙ ap (λ es. es ++ map (subst_pair x t) rest.equations) stay))
    (omega (arith, before, own, once, nowhere)) gone (omega arith) new.2

pub taken_apart : SettlingLaws → (c rest : Configuration) (bs : List Binding) (next : ℕ) → HasNames c → c ≡ put_in_turn bs rest → OccurInTurn bs rest → AreNew c next bs → c.next ≤ next
    → OneNet c (record { interface = rest.interface; equations = map piece_of bs ++ rest.equations; next = next })
taken_apart laws c rest bs next named is turns new high =
    let d : Configuration = record (in_pieces bs rest) { next = next } in
    let named_d = apart_names c next named high bs rest is turns new in
    let high_rest : Configuration = record rest { next = next } in
    let steps = put_steps bs high_rest named_d (turns_higher bs rest next turns) in
    let after : Configuration = record c { next = next } in
    let same : put_in_turn bs high_rest ≡ after = put_higher bs rest next ∙ ap (λ (e : Configuration). record e { next = next }) (sym is) in
    let P : Configuration → Type 0 = OneNet d in
    let back = transport P same (from_steps laws.nets d (put_in_turn bs high_rest) named_d steps) in
    net_through laws c after d (from_next laws.nets c next named back.names_too) (net_other_way laws.nets d after back)
  where
    put_higher : (bs : List Binding) (e : Configuration) (next : ℕ) → put_in_turn bs (record e { next = next }) ≡ record (put_in_turn bs e) { next = next }
    put_higher [] e next = refl
    put_higher (b ∷ bs) e next = put_higher bs (subst_in b.name b.term e) next

    turns_higher : (bs : List Binding) (e : Configuration) (next : ℕ) → OccurInTurn bs e → OccurInTurn bs (record e { next = next })
    turns_higher [] e next turns = tt
    turns_higher (b ∷ bs) e next turns = (turns.0, turns_higher bs (subst_in b.name b.term e) next turns.1)
