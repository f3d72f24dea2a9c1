-- One turn of the loop over the equations among words.
use Rattle.std.proofs.Common.{◌≡◌, ℕ, ◌+◌, ◌-◌, ◌≤◌, ◌<◌, List, [], ◌∷◌, ◌++◌, Option, None, Some, length, map, take, drop, sym, ap, ◌∙◌, append-nil, length-append, refl, arith, subst as transport}
use Rattle.std.specs.List.{flat_map}
use Rattle.std.proofs.lemmas.List.{map-append}
use Rattle.ic_term.specs.Tree.{Tree, Pair, names, pair_names}
use Rattle.ic_term.specs.Configuration.{Configuration}
use Rattle.ic_settle.specs.declared.applicability.Side.{Side}
use Rattle.ic_settle.specs.declared.applicability.Side.TheVariants.{Left, Right}
use Rattle.ic_settle.specs.declared.applicability.Applicable.{Applicable}
use Rattle.ic_settle.specs.Sides.{other_side}
use Rattle.ic_settle.specs.lemmas.Waiting.{look, IsAdded, Resolves}
use Rattle.ic_settle.specs.lemmas.Containers.{IsRoot, IsChosen}
use Rattle.ic_settle.specs.lemmas.Passed.{IsPassed}
use Rattle.ic_settle.specs.lemmas.Passing.{IsPassing, passing-end}
use Rattle.ic_settle.specs.lemmas.PassTurns.{turn-none, turn-new, turn-some}
use Rattle.ic_flat.specs.declared.word.Word.{Word}
use Rattle.ic_flat.specs.Words.{forest, IsWhole, tree_words, word_names}
use Rattle.ic_flat.specs.Flat.{sides, configuration_words}
use Rattle.ic_flat.specs.lemmas.WordLaws.{forest-words}
use Rattle.ic_flat.specs.lemmas.WordTests.{names-forest}
use Rattle.ic_flat_rules.specs.declared.places.Sides.{Sides}
use Rattle.ic_flat_round.specs.declared.pass.Kept.{Kept}
use Rattle.ic_flat_rules.specs.Standing.{tree_at, pair_at, pairs_at, AreSides}
use Rattle.ic_flat_round.specs.inner.Waits.{waiting, kept_at, other_place}
use Rattle.ic_flat_rules.specs.lemmas.WordPlaces.{pair_slice}
use Rattle.ic_flat_round.proofs.Interacting.{interface_words}

-- ---- names

names-words_of : (ts : List Tree) → flat_map word_names (flat_map tree_words ts) ≡ flat_map names ts
names-words_of ts = sym (names-forest (flat_map tree_words ts)) ∙ ap (flat_map names) (forest-words ts)

-- the names among the words of an equation
pub names-pair_slice : (ws : List Word) (s : Sides) → IsWhole ws → AreSides ws s
    → flat_map word_names (take (s.end - s.left) (drop s.left ws)) ≡ pair_names (pair_at ws s)
names-pair_slice ws s whole is =
    let p = pair_at ws s in
    ap (flat_map word_names) (pair_slice ws s whole is) ∙ names-words_of (p.left ∷ p.right ∷ []) ∙ ap (λ l. names p.left ++ l) (append-nil (names p.right))

-- those among the words of the interface
pub names-interface : (c : Configuration) (ws : List Word) (place : ℕ) → ws ≡ configuration_words c → place ≤ length (configuration_words c)
    → forest (drop place (configuration_words c)) ≡ sides c.equations → flat_map word_names (take place ws) ≡ flat_map names c.interface
names-interface c ws place is within after = ap (flat_map word_names) (interface_words c ws place is within after) ∙ names-words_of c.interface

-- ---- the pass, where so many equations were passed

pub record IsPassingAt (c : Configuration) (kept : List Pair) (es : List (ℕ × Tree)) (links : List ℕ) (look_up : ℕ → Option (ℕ × ℕ)) (number : ℕ)
    (rest : List Pair) : Type 0 where
  pub chosen : List (Option Applicable)
  pub counted : length chosen ≡ number
  pub passing : IsPassing c kept es links look_up chosen rest

other_is : (ws : List Word) (left right : ℕ) (side : Side)
    → tree_at ws (other_place left right side) ≡ other_side (record { left = tree_at ws left; right = tree_at ws right }) side
other_is ws left right Left = refl
other_is ws left right Right = refl

module _ (c : Configuration) (ws : List Word) (kept : List Kept) (es es' es'' : List (ℕ × ℕ)) (links links' : List ℕ) (look_up : ℕ → Option (ℕ × ℕ)) (number : ℕ)
    (all : List Pair) (s : Sides) (left right : ℕ) (found : Option Applicable) (at : IsPassingAt c (map (kept_at ws) kept) (waiting ws es) links look_up number all)
    (next : all ≡ pair_at ws s ∷ pairs_at ws s.end)
    (first : Resolves (waiting ws es) (waiting ws es') (tree_at ws s.left) (tree_at ws left))
    (second : Resolves (waiting ws es') (waiting ws es'') (tree_at ws s.right) (tree_at ws right))
    (says : (r : ℕ → ℕ) → IsRoot links r → IsChosen r number look_up (record { left = tree_at ws left; right = tree_at ws right }) links' found) where
  abbrev it : Kept
  it = record { left = left; right = right }

  abbrev later : List Pair
  later = pairs_at ws s.end

  at_turn : IsPassing c (map (kept_at ws) kept) (waiting ws es) links look_up at.chosen (pair_at ws s ∷ later)
  at_turn = transport (λ (ps : List Pair). IsPassing c (map (kept_at ws) kept) (waiting ws es) links look_up at.chosen ps) next at.passing

  says_it : (r : ℕ → ℕ) → IsRoot links r → IsChosen r (length at.chosen) look_up (kept_at ws it) links' found
  says_it = transport (λ (n : ℕ). (r : ℕ → ℕ) → IsRoot links r → IsChosen r n look_up (kept_at ws it) links' found) (sym at.counted) says

  one_more : (a : Option Applicable) → length (at.chosen ++ a ∷ []) ≡ number + 1
  one_more a = let same = at.counted in omega (arith, same, length-append at.chosen (a ∷ []))

  pub turned-none : found ≡ None → IsPassingAt c (map (kept_at ws) (kept ++ it ∷ [])) (waiting ws es'') links' look_up (number + 1) later
  turned-none is = record {
    chosen = at.chosen ++ None ∷ [];
    counted = one_more None;
    passing =
        transport (λ (ps : List Pair). IsPassing c ps (waiting ws es'') links' look_up (at.chosen ++ None ∷ []) later) (sym (map-append (kept_at ws) kept (it ∷ [])))
        (turn-none c (map (kept_at ws) kept) (waiting ws es) (waiting ws es') (waiting ws es'') links links' look_up at.chosen (pair_at ws s) later (kept_at ws it) at_turn first second
        found says_it is);
  }

  pub turned-new : (a : Applicable) → found ≡ Some a → look (waiting ws es'') a.name ≡ None
  turned-new a is =
      turn-new c (map (kept_at ws) kept) (waiting ws es) (waiting ws es') (waiting ws es'') links links' look_up at.chosen (pair_at ws s) later (kept_at ws it) at_turn first second
      found says_it a is

  pub turned-some : (a : Applicable) → found ≡ Some a → (after : List (ℕ × ℕ)) → IsAdded (waiting ws es'') (waiting ws after) a.name (tree_at ws (other_place left right a.side))
      → IsPassingAt c (map (kept_at ws) kept) (waiting ws after) links' look_up (number + 1) later
  turned-some a is after added = record {
    chosen = at.chosen ++ Some a ∷ [];
    counted = one_more (Some a);
    passing =
        turn-some c (map (kept_at ws) kept) (waiting ws es) (waiting ws es') (waiting ws es'') links links' look_up at.chosen (pair_at ws s) later (kept_at ws it) at_turn first second
        found says_it a is (waiting ws after) (transport (λ (u : Tree). IsAdded (waiting ws es'') (waiting ws after) a.name u) (other_is ws left right a.side) added);
  }

-- while one is left, fewer were passed than there are
pub number_within : (c : Configuration) (kept : List Pair) (es : List (ℕ × Tree)) (links : List ℕ) (look_up : ℕ → Option (ℕ × ℕ)) (number : ℕ) (all : List Pair)
    (p : Pair) (rest : List Pair) → IsPassingAt c kept es links look_up number all → all ≡ p ∷ rest → number < length c.equations
number_within c kept es links look_up number all p rest at next =
    let chosen = at.counted in
    let front = at.passing.counted in
    omega (arith, chosen, front, ap length at.passing.split, length-append at.passing.front all, ap length next)

-- at the end
pub passed-at : (c : Configuration) (kept : List Pair) (es : List (ℕ × Tree)) (links : List ℕ) (look_up : ℕ → Option (ℕ × ℕ)) (number : ℕ) (rest : List Pair)
    → IsPassingAt c kept es links look_up number rest → rest ≡ [] → IsPassed c kept es
passed-at c kept es links look_up number rest at none =
    (passing-end c kept es links look_up at.chosen (transport (λ (ps : List Pair). IsPassing c kept es links look_up at.chosen ps) none at.passing)).0

-- at the start
pub passing_at-start : (c : Configuration) (ws : List Word) (kept : List Kept) (es : List (ℕ × ℕ)) (links : List ℕ) (look_up : ℕ → Option (ℕ × ℕ)) (rest : List Pair)
    → kept ≡ [] → es ≡ [] → rest ≡ c.equations → IsPassing c [] [] links look_up [] c.equations
    → IsPassingAt c (map (kept_at ws) kept) (waiting ws es) links look_up 0 rest
passing_at-start c ws kept es links look_up rest none nothing all passing = rw (none, nothing, all) (record { chosen = []; counted = refl; passing = passing })

pub other_there : (n left right : ℕ) (side : Side) → left < n → right < n → other_place left right side < n
other_there n left right Left there right_there = right_there
other_there n left right Right there right_there = there
