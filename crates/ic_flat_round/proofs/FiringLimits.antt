-- Equations that are fired while they stay within the limits.
use Rattle.std.proofs.Common.{◌≡◌, ℕ, ◌+◌, ◌≤◌, List, ◌∷◌, ◌++◌, Bool, true, false, nat_le, length, ap, sym, ◌∙◌, arith, inl, inr}
use Rattle.std.specs.Prelude.{Vec, vec_len}
use Rattle.std.proofs.lemmas.Bool.{and_parts, cases_Bool}
use Rattle.std.proofs.lemmas.Grind.{common_steps}
use Rattle.ic_term.specs.Tree.{Pair}
use Rattle.ic_term.specs.declared.limits.TheConstants.{MAX_NODES, MAX_NEXT}
use Rattle.ic_rules.specs.Rule.{Rule}
use Rattle.ic_round.specs.Firing.{fired_pair, fired_from, names_taken}
use Rattle.ic_flat.specs.declared.word.Word.{Word}
use Rattle.ic_flat.specs.Flat.{sides}
use Rattle.ic_flat.specs.lemmas.FlatLaws.{length-sides}
use Rattle.ic_flat.specs.lemmas.WordLaws.{forest-words, forest-le}
use Rattle.ic_flat_rules.specs.RuleWords.{pairs_words}
use Rattle.ic_flat_round.specs.inner.Limits.{is_within, fits_after}
use Rattle.ic_flat_round.proofs.Interacting.{pairs_words-append}

at_most : (m n : ℕ) → nat_le m n ≡ true → m ≤ n
at_most m n e = grind (arith, common_steps, e)

pub within_parts : (nodes next : ℕ) → is_within nodes next ≡ true → (nodes ≤ MAX_NODES) × (next ≤ MAX_NEXT)
within_parts nodes next fit =
    let both = and_parts (nat_le nodes MAX_NODES) (nat_le next MAX_NEXT) fit in
    (at_most nodes MAX_NODES both.0, at_most next MAX_NEXT both.1)

pub within_both : (nodes next : ℕ) → nodes ≤ MAX_NODES → next ≤ MAX_NEXT → is_within nodes next ≡ true
within_both nodes next small low = grind (arith, common_steps, small, low)

-- what is more than too much is too much
pub beyond_more : (nodes next more later : ℕ) → nodes ≤ more → next ≤ later → is_within nodes next ≡ false → is_within more later ≡ false
beyond_more nodes next more later grown after beyond = elim (cases_Bool (is_within more later)) [
  | inl fit ↦ let parts = within_parts more later fit in
      let inside = within_both nodes next (omega (arith, grown, parts.0)) (omega (arith, after, parts.1)) in
      let bad : true ≡ false = sym inside ∙ beyond in cc
  | inr e ↦ e
]

-- what is tested of a count of words and of names, of what has as many
pub tested_after : {Z : Type 0} (out : Vec Word Z) (ps : List Pair) (len count next names taken : ℕ) (answer : Bool) → len ≡ vec_len out → count ≡ length (pairs_words ps) → names ≡ taken
    → answer ≡ is_within (len + count) (next + names) → answer ≡ fits_after out ps (next + taken)
tested_after out ps len count next names taken answer first second third is = is ∙ (λ i. is_within (first i + second i) (next + third i))

-- equations have no fewer words than they are
pub few_equations : (ps : List Pair) → length ps ≤ length (pairs_words ps)
few_equations ps = omega (arith, length-sides ps, ap length (forest-words (sides ps)), forest-le (pairs_words ps))

-- the words of equations that are fired, from those of the first one on
pub fired-first : (rs : List Rule) (next : ℕ) (all ps : List Pair) (p : Pair) → all ≡ p ∷ ps
    → pairs_words (fired_from rs next all) ≡ pairs_words (fired_pair rs next p) ++ pairs_words (fired_from rs (next + names_taken rs p) ps)
fired-first rs next all ps p is =
    ap (λ l. pairs_words (fired_from rs next l)) is ∙ pairs_words-append (fired_pair rs next p) (fired_from rs (next + names_taken rs p) ps)
