-- Lemmas: the equations after those of a machine are circles.
use Rattle.std.proofs.Common.{◌≡◌, ℕ, ◌+◌, ◌*◌, ◌==◌, List, [], ◌∷◌, ◌++◌, Bool, true, false, cond, length, take, drop, slice_index_or, refl, sym, ap, ◌∙◌, arith, append-nil, subst as transport, true≢false as true_false}
use Rattle.std.specs.List.{flat_map, AllByRecursion}
use Rattle.std.specs.Cmp.{unsigned_Decides}
use Rattle.std.proofs.lemmas.Bool.{ne_eqb}
use Rattle.std.proofs.lemmas.List.{length-drop, take-append-drop, drop_at}
use Rattle.std.proofs.lemmas.List.Concat.{flat_map-append}
use Rattle.std.proofs.lemmas.List.Sums.{sum_by-cons}
use Rattle.std.proofs.lemmas.Option.{slice_get-get_or}
use Rattle.ic_term.specs.Tree.{Tree, name, names, Pair, pair_names}
use Rattle.ic_term.specs.Configuration.{configuration_names, occurrences}
use Rattle.ic_settle.specs.lemmas.SubstitutionLaws.{occurrences-append}
use Rattle.ic_arena.specs.declared.word.Word.{Word}
use Rattle.ic_arena.specs.declared.word.TheConstants.{GIVEN}
use Rattle.ic_arena.specs.Word.{word_eq}
use Rattle.ic_machine.specs.Net.{Net, pieces}
use Rattle.ic_machine.specs.lemmas.FiringKeeps.{all_of as all_so, all_append as all_parts}
use Rattle.ic_flat.specs.Words.{forest, word_names}
use Rattle.ic_flat.specs.Flat.{pairs_of}
use Rattle.ic_meaning.specs.Words.{Numbers, AreNumbers}
use Rattle.ic_meaning.specs.Nets.{AreNetPieces}
use Rattle.ic_readback.specs.declared.token.Token.{Token}
use Rattle.ic_readback.specs.declared.token.Token.TheVariants.{Name, Agent}
use Rattle.ic_readback.specs.Reading.{number_of, flat_words, configuration_read, AreGiven, IsCircle, AreCirclesAfter}
use Rattle.ic_readback.specs.inner.Expanding.{State, state}
use Rattle.ic_readback.specs.inner.Writing.{Part}
use Rattle.ic_readback.specs.lemmas.Rows.{over, over-nil, over-names, pairs-names, pairs-length}
use Rattle.ic_readback.proofs.Ends.{first_state, sides_given, once_places, given_steps}
use Rattle.ic_readback.proofs.Puttings.{token_names, EachName, each_both, Not, named_in, MendedSo, mended_so, mended_each, mended_places, equations_in}
use Rattle.ic_readback.proofs.Parts.{IsLeft, steps_untold, gathered_order, gathered_left, gathered_terms, gathered_numbered, gathered_places, steps_numbered, IsNumbered}
use Rattle.ic_readback.proofs.Shapes.{IsTerm, mended_terms, sides_in, term_pair}
use Rattle.ic_readback.specs.inner.Parted.{ReadsNet}
use Rattle.ic_readback.proofs.Results.{with_arities, rows_read, shape_of, result_counted}
use Rattle.ic_meaning.specs.lemmas.Terms.{same_word, word_itself}

-- ---- how often the number of a place occurs

place_number : (n : Numbers) (w : Word) → (w.tag ≡ GIVEN → ⊥) → number_of n w ≡ n.of_place w
place_number n w other = rw (ne_eqb w.tag GIVEN other) refl

-- the numbers of two names are the same only where the names are
one_number : (n : Numbers) (w v : Word) → AreNumbers n → (w.tag ≡ GIVEN → ⊥) → IsNumbered n.given v → number_of n v ≡ n.of_place w → v ≡ w
one_number n w v sound other numbered same = at (v.tag == GIVEN) refl
  where
    at : (b : Bool) → (v.tag == GIVEN) ≡ b → v ≡ w
    at true e =
        let tag = (unsigned_Decides v.tag GIVEN).0 e in
        let number : number_of n v ≡ slice_index_or n.given v.index 0 = rw e refl in
        let found = slice_get-get_or n.given v.index 0 (numbered tag) in
        absurd (sound.not_given v.index (slice_index_or n.given v.index 0) w found (sym same ∙ number))
    at false e =
        let number : number_of n v ≡ n.of_place v = rw e refl in
        same_word v w (sound.apart v w (sym number ∙ same))

one_name : (n : Numbers) (w v : Word) → AreNumbers n → (w.tag ≡ GIVEN → ⊥) → IsNumbered n.given v → ◌≡◌ {A = ℕ} (cond (number_of n v == n.of_place w) 1 0) (cond (word_eq w v) 1 0)
one_name n w v sound other numbered = at (word_eq w v) refl
  where
    at : (b : Bool) → word_eq w v ≡ b → ◌≡◌ {A = ℕ} (cond (number_of n v == n.of_place w) 1 0) (cond (word_eq w v) 1 0)
    at true e =
        let same : w ≡ v = same_word w v e in
        let number : number_of n v ≡ n.of_place w = ap (number_of n) (sym same) ∙ place_number n w other in
        rw (e, (unsigned_Decides (number_of n v) (n.of_place w)).1 number) refl
    at false e =
        let apart : number_of n v ≡ n.of_place w → ⊥ = (λ same. true_false (sym (ap (word_eq w) (one_number n w v sound other numbered same) ∙ word_itself w) ∙ e)) in
        rw (e, ne_eqb (number_of n v) (n.of_place w) apart) refl

counted_names : (n : Numbers) (w : Word) (ts : List Token) → AreNumbers n → (w.tag ≡ GIVEN → ⊥) → EachName (IsNumbered n.given) ts
    → occurrences (n.of_place w) (flat_map word_names (flat_words n ts)) ≡ named_in w ts
counted_names n w [] sound other each = refl
counted_names n w (Name v ∷ ts) sound other each =
    let rest = counted_names n w ts sound other each.1 in
    let a = sum_by-cons (λ k. cond (k == n.of_place w) 1 0) (number_of n v) (flat_map word_names (flat_words n ts)) in
    let b = sum_by-cons (λ v. cond (word_eq w v) 1 0) v (flat_map token_names ts) in
    let one = one_name n w v sound other each.0 in
    omega arith
counted_names n w (Agent s ∷ ts) sound other each = counted_names n w ts sound other each

-- the names of terms are those of their tokens
forest_names : (n : Numbers) (x : ℕ) (ts : List Token) → occurrences x (flat_map names (forest (flat_words n ts))) ≡ occurrences x (flat_map word_names (flat_words n ts))
forest_names n x ts =
    ap (λ l. occurrences x (flat_map names l)) (sym (over-nil (flat_words n ts)))
    ∙ (ap (occurrences x) (over-names (flat_words n ts) []) ∙ ap (occurrences x) (append-nil (flat_map word_names (flat_words n ts))))

-- the names of a configuration that is read are those of its tokens
read_names : (n : Numbers) (x terms k : ℕ) (ts : List Token) → length (forest (flat_words n ts)) ≡ terms + 2 * k
    → occurrences x (configuration_names (configuration_read n ts terms)) ≡ occurrences x (flat_map word_names (flat_words n ts))
read_names n x terms k ts counted =
    let F : List Tree = forest (flat_words n ts) in
    let even : length (drop terms F) ≡ 2 * k = omega (arith, length-drop terms F) in
    let a = occurrences-append x (flat_map names (take terms F)) (flat_map pair_names (pairs_of (drop terms F))) in
    let b = ap (occurrences x) (pairs-names (drop terms F) k even) in
    let d = ap (occurrences x) (sym (flat_map-append names (take terms F) (drop terms F)) ∙ ap (flat_map names) (take-append-drop terms F)) in
    let e = occurrences-append x (flat_map names (take terms F)) (flat_map names (drop terms F)) in
    let f = forest_names n x ts in
    omega arith

-- ---- circles

-- what is said of a term that was written, after these tokens
pub record IsDone (n : Numbers) (ts : List Token) (d : Part) : Type 0 where
  pub other : d.place.tag ≡ GIVEN → ⊥
  pub term : IsTerm n d.tokens
  pub numbered : EachName (IsNumbered n.given) d.tokens
  pub alone : named_in d.place ts ≡ 1 + named_in d.place d.tokens

done_circle : (n : Numbers) (terms k : ℕ) (ts : List Token) (d : Part) → AreNumbers n → length (forest (flat_words n ts)) ≡ terms + 2 * k → EachName (IsNumbered n.given) ts → IsDone n ts d
    → AllByRecursion (IsCircle n (configuration_read n ts terms)) (pairs_of (sides_in n d))
done_circle n terms k ts d sound counted each is =
    let x : ℕ = n.of_place d.place in
    let a = read_names n x terms k ts counted in
    let b = counted_names n d.place ts sound is.other each in
    let e = counted_names n d.place d.tokens sound is.other is.numbered in
    let f = forest_names n x d.tokens in
    let g = ap (λ l. occurrences x (flat_map names l)) is.term.is in
    let h = ap (occurrences x) (append-nil (names is.term.term)) in
    let alone = is.alone in
    transport (AllByRecursion (IsCircle n (configuration_read n ts terms))) (sym (term_pair n d is.term))
    (record { place = d.place; left = ap name (place_number n d.place is.other); alone = omega arith }, tt)

all_flat : {X Y : Type 0} (P : Y → Type 0) (f : X → List Y) (xs : List X) → AllByRecursion (λ x. AllByRecursion P (f x)) xs → AllByRecursion P (flat_map f xs)
all_flat P f [] all = tt
all_flat P f (x ∷ xs) all = all_parts P (f x) (flat_map f xs) all.0 (all_flat P f xs all.1)

all_four : {X : Type 0} (P Q R S T : X → Type 0) (xs : List X) → ((x : X) → P x → Q x → R x → S x → T x) → AllByRecursion P xs → AllByRecursion Q xs → AllByRecursion R xs → AllByRecursion S xs
    → AllByRecursion T xs
all_four P Q R S T [] f a b c d = tt
all_four P Q R S T (x ∷ xs) f a b c d = (f x a.0 b.0 c.0 d.0, all_four P Q R S T xs f a.1 b.1 c.1 d.1)

-- the names of places and of equations
equations_each : (P : Word → Type 0) (ds : List Part) → AllByRecursion (λ d. P d.place) ds → AllByRecursion (λ d. EachName P d.tokens) ds → EachName P (equations_in ds)
equations_each P [] a b = tt
equations_each P (d ∷ ds) a b = (a.0, each_both P d.tokens (equations_in ds) b.0 (equations_each P ds a.1 b.1))

pub result_circles : (m : Net) (ts : List Token) (k : ℕ) → ReadsNet m.arities m ts k → (n : Numbers) → n.arities ≡ m.arities → AreNumbers n → AreNetPieces n.arities m.interface (pieces m)
    → AreGiven n.given m.interface (pieces m) → AreCirclesAfter n (length m.pending + length m.aside) (configuration_read n ts (length m.interface))
result_circles m ts k reads n same sound are given =
    let r = with_arities m ts k n same reads in
    let terms : ℕ = length m.interface in
    let K : ℕ = length m.pending + length m.aside in
    let s : State = first_state m.interface m.pending m.aside m.places in
    let t : State = state r.roots [] r.between in
    let U : List Token = r.roots ++ equations_in r.done in
    let once = r.fewer (once_places m.pending m.aside m.places are.once) in
    let start = sides_given n.given m.interface m.pending m.aside m.places given in
    let left = gathered_left n.arities r.parts r.between r.end r.gathered in
    let untold : AllByRecursion (λ p. EachName (Not p.place) r.roots) r.parts =
    all_so (λ p. IsLeft p.place r.between) (λ p. EachName (Not p.place) r.roots) r.parts (λ p there. steps_untold n.arities p.place s t r.steps there tt) left in
    let so : MendedSo r.roots [] r.done = mended_so r.roots r.parts [] r.done r.mended (gathered_order n.arities r.parts r.between r.end once r.gathered) untold in
    let numbered = gathered_numbered n.arities n.given r.parts r.between r.end r.gathered (given_steps n.arities n.given s t r.steps start) in
    let roots : EachName (IsNumbered n.given) r.roots = steps_numbered n.arities n.given s t r.steps start tt in
    let tokens = (mended_each (IsNumbered n.given) r.parts [] r.done r.mended numbered.0).1 in
    let places = (mended_places (λ w. w.tag ≡ GIVEN → ⊥) r.parts [] r.done r.mended (gathered_places n.arities r.parts r.between r.end sound.few r.gathered)).1 in
    let all = gathered_terms n r.parts r.between r.end r.gathered in
    let done = (mended_terms n r.parts [] r.done r.mended all).1 in
    let each : EachName (IsNumbered n.given) U =
    each_both (IsNumbered n.given) r.roots (equations_in r.done) roots
    (equations_each (IsNumbered n.given) r.done (all_so (λ d. d.place.tag ≡ GIVEN → ⊥) (λ d. IsNumbered n.given d.place) r.done (λ d other tag. absurd (other tag)) places) tokens) in
    let counted : length (forest (flat_words n U)) ≡ terms + 2 * k = ap (λ l. length (forest (flat_words n l))) (sym r.tokens) ∙ result_counted m ts k reads n same in
    let of : AllByRecursion (IsDone n U) r.done =
    all_four (λ d. d.place.tag ≡ GIVEN → ⊥) (λ d. IsTerm n d.tokens) (λ d. EachName (IsNumbered n.given) d.tokens) (λ d. named_in d.place U ≡ 1 + named_in d.place d.tokens) (IsDone n U) r.done
    (λ d a b e f. record { other = a; term = b; numbered = e; alone = f }) places done tokens so.alone in
    let circles : AllByRecursion (IsCircle n (configuration_read n U terms)) (flat_map (λ p. pairs_of (sides_in n p)) r.done) =
    all_flat (IsCircle n (configuration_read n U terms)) (λ p. pairs_of (sides_in n p)) r.done
    (all_so (IsDone n U) (λ d. AllByRecursion (IsCircle n (configuration_read n U terms)) (pairs_of (sides_in n d))) r.done (λ d is. done_circle n terms k U d sound counted each is) of) in
    let shape = shape_of n m r.roots r.done (rows_read n m r.roots r.between r.steps) done in
    let first : List Pair = pairs_of (drop terms (over (flat_words n r.roots) [])) in
    let many : length first ≡ K = pairs-length (drop terms (over (flat_words n r.roots) [])) K shape.first in
    let last : drop K (pairs_of (drop terms (forest (flat_words n U)))) ≡ flat_map (λ p. pairs_of (sides_in n p)) r.done =
    ap (drop K) shape.equations ∙ drop_at first (flat_map (λ p. pairs_of (sides_in n p)) r.done) K many in
    transport (λ l. AreCirclesAfter n K (configuration_read n l terms)) (sym r.tokens)
    (transport (AllByRecursion (IsCircle n (configuration_read n U terms))) (sym last) circles)
