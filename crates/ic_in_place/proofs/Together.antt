-- Lemmas: what is read back where no pair is left is put together.
use Rattle.std.proofs.Common.{◌≡◌, ℕ, zero, suc, ◌+◌, ◌*◌, ◌≤◌, List, [], ◌∷◌, ◌++◌, length, take, drop, refl, sym, arith, ◌∙◌, zero-add, subst as transport}
use Rattle.std.specs.List.{AllByRecursion}
use Rattle.std.proofs.lemmas.List.{length-append, take-append-drop}
use Rattle.std.proofs.lemmas.List.Concat.{flat_map-append}
use Rattle.ic_term.specs.Tree.{Tree, name, names, agent, Pair}
use Rattle.ic_term.specs.Configuration.{Configuration, configuration_names, occurrences}
use Rattle.ic_flat.specs.Words.{forest}
use Rattle.ic_flat.specs.Flat.{pairs_of}
use Rattle.ic_rules.specs.RuleSet.{Rules, IsRuleSet}
use Rattle.ic_round.specs.Naming.{HasNames}
use Rattle.ic_round.specs.Quiet.{IsQuiet}
use Rattle.ic_arena.specs.declared.word.Word.{Word}
use Rattle.ic_machine.specs.declared.equation.Equation.{Equation}
use Rattle.ic_machine.specs.Net.{Net, IsPair, IsStuck}
use Rattle.ic_machine.specs.Plan.{Plans}
use Rattle.ic_meaning.specs.Words.{Numbers, AreNumbers}
use Rattle.ic_meaning.specs.Plans.{ArePlansOf}
use Rattle.ic_readback.specs.declared.token.Token.{Token}
use Rattle.ic_readback.specs.Reading.{flat_words, configuration_read, HeadIs, BeginAs, sides_of, AreCirclesAfter, IsCircle as IsReadCircle}
use Rattle.ic_in_place.specs.Holding.{AreGiven}
use Rattle.ic_in_place.specs.Reducing.{IsAgentOrFree, IsCircle, IsPutTogether}
use Rattle.ic_in_place.proofs.Interacts.{begin_after}
use Rattle.ic_in_place.proofs.Onward.{all_of_both}

-- ---- the pairs

free_head : (n : Numbers) (c : Configuration) (w : Word) (t : Tree) → AreGiven n.given c → HeadIs n w t → IsAgentOrFree c t
free_head n c w (name x) are head = (are x).1 (w.index, head.1)
free_head n c w (agent s ts) are head = tt

all_ends : (n : Numbers) (c : Configuration) (es : List Equation) (ts : List Tree) → AreGiven n.given c → AllByRecursion IsPair es → BeginAs n (sides_of es) ts
    → AllByRecursion (λ e. IsAgentOrFree c e.left × IsAgentOrFree c e.right) (take (length es) (pairs_of ts))
all_ends n c [] ts are pairs begin = tt
all_ends n c (e ∷ es) [] are pairs begin = absurd begin
all_ends n c (e ∷ es) (t ∷ []) are pairs begin = absurd begin.1
all_ends n c (e ∷ es) (t ∷ u ∷ ts) are pairs begin = (
  (free_head n c e.left t are (begin.0 pairs.0.0), free_head n c e.right u are (begin.1.0 pairs.0.1)),
  all_ends n c es ts are pairs.1 begin.1.1,
)

-- pairs, and others that are stuck
pub all_pairs : (p : Plans) (es fs : List Equation) → AllByRecursion IsPair es → AllByRecursion (IsStuck p) fs → AllByRecursion IsPair (es ++ fs)
all_pairs p [] [] pairs stuck = tt
all_pairs p [] (f ∷ fs) pairs stuck = ((stuck.0.left, stuck.0.right), all_pairs p [] fs tt stuck.1)
all_pairs p (e ∷ es) fs pairs stuck = (pairs.0, all_pairs p es fs pairs.1 stuck)

-- ---- the circles

-- a name of a place isn't given, so it doesn't occur once: its equation has it on the right too
circle_so : (n : Numbers) (c : Configuration) (e : Pair) → AreNumbers n → AreGiven n.given c → HasNames c → IsReadCircle n c e → IsCircle e
circle_so n c e sound are named circle =
    let x : ℕ = n.of_place circle.place in
    let other : ¬ (occurrences x (configuration_names c) ≡ 1) =
    (λ once. let found = (are x).0 once in sound.not_given found.0 x circle.place found.1 refl) in
    (x, circle.left, by_count (occurrences x (configuration_names c)) (occurrences x (names e.right)) other (named.twice x) circle.alone)
  where
    by_count : (a b : ℕ) → ¬ (a ≡ 1) → a ≤ 2 → a ≡ 1 + b → b ≡ 1
    by_count zero b other few same = absurd (omega (arith, same))
    by_count (suc zero) b other few same = absurd (other refl)
    by_count (suc (suc zero)) b other few same = omega (arith, same)
    by_count (suc (suc (suc a))) b other few same = absurd (omega (arith, few))

all_circles : (n : Numbers) (c : Configuration) (es : List Pair) → AreNumbers n → AreGiven n.given c → HasNames c → AllByRecursion (IsReadCircle n c) es → AllByRecursion IsCircle es
all_circles n c [] sound are named all = tt
all_circles n c (e ∷ es) sound are named all = (circle_so n c e sound are named all.0, all_circles n c es sound are named all.1)

-- ---- all together

pub put_together : (n : Numbers) (m : Net) (ts : List Token) (terms : ℕ) → AreNumbers n → AllByRecursion IsPair (m.pending ++ m.aside)
    → terms ≡ length m.interface → BeginAs n (m.interface ++ (sides_of m.pending ++ sides_of m.aside)) (forest (flat_words n ts))
    → AreCirclesAfter n (length m.pending + length m.aside) (configuration_read n ts terms)
    → HasNames (configuration_read n ts terms) → AreGiven n.given (configuration_read n ts terms) → IsPutTogether (configuration_read n ts terms)
put_together n m ts terms sound pairs counted begin circles named are =
    let c : Configuration = configuration_read n ts terms in
    let F : List Tree = forest (flat_words n ts) in
    let es : List Equation = m.pending ++ m.aside in
    let K : ℕ = length es in
    let all : BeginAs n (sides_of es) (drop terms F) =
    transport (λ l. BeginAs n l (drop terms F)) (sym (flat_map-append (λ (e : Equation). e.left ∷ e.right ∷ []) m.pending m.aside))
    (transport (λ (k : ℕ). BeginAs n (sides_of m.pending ++ sides_of m.aside) (drop k F)) (sym counted)
    (begin_after n m.interface (sides_of m.pending ++ sides_of m.aside) F begin)) in
    record {
      ends = take K c.equations;
      circles = drop K c.equations;
      parts = sym (take-append-drop K c.equations);
      are_ends = all_ends n c es (drop terms F) are pairs all;
      are_circles = all_circles n c (drop K c.equations) sound are named (transport (λ (k : ℕ). AreCirclesAfter n k c) (sym (length-append m.pending m.aside)) circles);
    }

-- what the law says of what is read of stuck pairs
abbrev pub StuckLaw : Type 0
StuckLaw = (rs : Rules) (numbers : List ℕ) (p : Plans) (n : Numbers) (m : Net) (ts : List Token) (equations : ℕ) → IsRuleSet rs → ArePlansOf rs numbers p → AreNumbers n
    → m.pending ≡ [] → AllByRecursion (IsStuck p) m.aside → BeginAs n (m.interface ++ (sides_of m.pending ++ sides_of m.aside)) (forest (flat_words n ts))
    → length (forest (flat_words n ts)) ≡ length m.interface + 2 * equations → HasNames (configuration_read n ts (length m.interface))
    → AreCirclesAfter n (length m.pending + length m.aside) (configuration_read n ts (length m.interface)) → AreGiven n.given (configuration_read n ts (length m.interface))
    → IsQuiet rs.rules (configuration_read n ts (length m.interface))

-- the sides of pending pairs and of those that are aside, as if all were aside
sides_aside : (es ds : List Equation) → sides_of es ++ sides_of ds ≡ sides_of (es ++ ds)
sides_aside es ds = sym (flat_map-append (λ (e : Equation). e.left ∷ e.right ∷ []) es ds)

-- what was read is quiet
pub quiet_read : StuckLaw → (rs : Rules) (numbers : List ℕ) (p : Plans) (n : Numbers) (m : Net) (ts : List Token) (terms equations : ℕ) → IsRuleSet rs → ArePlansOf rs numbers p → AreNumbers n
    → AllByRecursion (IsStuck p) m.pending → AllByRecursion (IsStuck p) m.aside → terms ≡ length m.interface
    → BeginAs n (m.interface ++ (sides_of m.pending ++ sides_of m.aside)) (forest (flat_words n ts)) → length (forest (flat_words n ts)) ≡ terms + 2 * equations
    → AreCirclesAfter n (length m.pending + length m.aside) (configuration_read n ts terms)
    → HasNames (configuration_read n ts terms) → AreGiven n.given (configuration_read n ts terms) → IsQuiet rs.rules (configuration_read n ts terms)
quiet_read law rs numbers p n m ts terms equations set plans sound pending stuck counted begin long circles named are =
    let all : List Equation = m.pending ++ m.aside in
    let other : Net = record m { pending = []; aside = all } in
    let aside : AllByRecursion (IsStuck p) all = all_of_both (IsStuck p) m.pending m.aside pending stuck in
    let sides : BeginAs n (m.interface ++ sides_of all) (forest (flat_words n ts)) =
    transport (λ ws. BeginAs n (m.interface ++ ws) (forest (flat_words n ts))) (sides_aside m.pending m.aside) begin in
    let many : length m.pending + length m.aside ≡ length {A = Equation} [] + length all = sym (length-append m.pending m.aside) ∙ sym (zero-add (length all)) in
    transport (λ (k : ℕ). length (forest (flat_words n ts)) ≡ k + 2 * equations → AreCirclesAfter n (length {A = Equation} [] + length all) (configuration_read n ts k)
    → HasNames (configuration_read n ts k) → AreGiven n.given (configuration_read n ts k) → IsQuiet rs.rules (configuration_read n ts k)) (sym counted)
    (λ long circles named are. law rs numbers p n other ts equations set plans sound refl aside sides long named circles are) long
    (transport (λ (k : ℕ). AreCirclesAfter n k (configuration_read n ts terms)) many circles) named are
