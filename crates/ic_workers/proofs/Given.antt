-- What the laws of one net say, as far as it is built on here.
use Rattle.std.proofs.Common.{◌≡◌, ℕ, ◌≤◌, List, [], ◌∷◌, ◌++◌, map}
use Rattle.std.specs.Prelude.{◌↔◌, IsPermutation, IsTrue}
use Rattle.ic_term.specs.Tree.{Tree, Pair, pair_names}
use Rattle.ic_term.specs.Configuration.{Configuration, configuration_names, names_in, occurrences}
use Rattle.ic_term.specs.Symbol.{is_over}
use Rattle.ic_rules.specs.Rule.{Rule}
use Rattle.ic_rules.specs.RuleSet.{Rules, IsRuleSet}
use Rattle.ic_settle.specs.Settling.{subst_in, subst_pair}
use Rattle.ic_round.specs.Naming.{HasNames}
use Rattle.ic_confluence.specs.Sameness.{turned}
use Rattle.ic_reaching.specs.OneNet.{OneNet}
use Rattle.ic_reaching.specs.Pieces.{piece}
use Rattle.ic_reaching.specs.Reaching.{Reaches}
use Rattle.ic_arena.specs.declared.word.Word.{Word}
use Rattle.ic_arena.specs.Piece.{Piece}
use Rattle.ic_machine.specs.Plan.{Plans, ArePlans}
use Rattle.ic_machine.specs.Rooms.{pieces_in, IsOutside}
use Rattle.ic_machine.specs.Steps.{Steps}
use Rattle.ic_meaning.specs.Words.{Numbers, AreNumbers}
use Rattle.ic_meaning.specs.Nets.{net_of, ArePieces, AreNetPieces}
use Rattle.ic_meaning.specs.Plans.{ArePlansOf, rule_number}
use Rattle.ic_readback.specs.lemmas.Given.{NetLaws as RowLaws}

pub record NetLaws : Type 0 where
  pub itself : (c : Configuration) → HasNames c → OneNet c c
  pub other_way : (c d : Configuration) → OneNet c d → OneNet d c
  pub through : (c d e : Configuration) → OneNet c d → OneNet d e → OneNet c e
  pub next : (c : Configuration) (next : ℕ) → HasNames c → HasNames (record c { next = next }) → OneNet c (record c { next = next })
  pub order : (c : Configuration) (es : List Pair) → HasNames c → IsPermutation c.equations es → OneNet c (record c { equations = es })
  pub turned : (c : Configuration) (p : Pair) (others : List Pair) → HasNames c → IsPermutation c.equations (p ∷ others)
      → OneNet c (record c { equations = turned p ∷ others })
  pub anywhere : (c : Configuration) (x : ℕ) (t : Tree) (others : List Pair) → HasNames c → IsPermutation c.equations (piece x t ∷ others)
      → 1 ≤ occurrences x (names_in c.interface others) → OneNet c (subst_in x t (record c { equations = others }))
  pub in_one : (c : Configuration) (x : ℕ) (t : Tree) (p : Pair) (others : List Pair) → HasNames c → IsPermutation c.equations (piece x t ∷ p ∷ others)
      → 1 ≤ occurrences x (pair_names p) → OneNet c (record c { equations = subst_pair x t p ∷ others })

-- those that rows of terms build on
pub row_laws : NetLaws → RowLaws
row_laws laws = record {
  itself = laws.itself;
  through = laws.through;
  next = laws.next;
  order = laws.order;
  anywhere = laws.anywhere;
}

-- steps of the machine in one room are steps of all
abbrev pub InRoom : Type 0
InRoom = (p : Plans) (k : ℕ) (fired : List ℕ) (xs ys others : List Piece) → ArePlans p → IsOutside p.arities k others → Steps p fired xs ys
    → Steps p fired (pieces_in p.arities k xs ++ others) (pieces_in p.arities k ys ++ others)

-- what the laws of steps say
pub record StepLaws : Type 0 where
  pub in_room : InRoom
  pub order : (n : Numbers) (i : List Word) (xs ys : List Piece) → HasNames (net_of n i xs) → IsPermutation xs ys → OneNet (net_of n i xs) (net_of n i ys)
  pub linked : (p : Plans) (n : Numbers) (i : List Word) (xs ys : List Piece) → HasNames (net_of n i xs) → ArePieces n.arities xs → Steps p [] xs ys
      → OneNet (net_of n i xs) (net_of n i ys)
  pub reached : (rs : Rules) (numbers : List ℕ) (p : Plans) (n : Numbers) (c : Configuration) (i : List Word) (fired : List ℕ) (xs ys : List Piece) (before : List ℕ)
      → IsRuleSet rs → IsTrue (is_over rs.symbols c) → HasNames c → ArePlans p → ArePlansOf rs numbers p → AreNumbers n → n.arities ≡ p.arities
      → AreNetPieces n.arities i xs → Reaches rs.rules c (net_of n i xs) before → Steps p fired xs ys
      → Reaches rs.rules c (net_of n i ys) (before ++ map (rule_number numbers) fired)
  pub kept : (p : Plans) (i : List Word) (fired : List ℕ) (xs ys : List Piece) → ArePlans p → AreNetPieces p.arities i xs → Steps p fired xs ys
      → AreNetPieces p.arities i ys
  pub net : (rs : List Rule) (c d e : Configuration) (fired : List ℕ) → Reaches rs c d fired → OneNet d e → Reaches rs c e fired
  pub names : (rs : List Rule) (c d : Configuration) (fired : List ℕ) → Reaches rs c d fired → HasNames d
  pub free : (rs : Rules) (c d : Configuration) (fired : List ℕ) → IsRuleSet rs → IsTrue (is_over rs.symbols c) → HasNames c → Reaches rs.rules c d fired
      → (x : ℕ) → (occurrences x (configuration_names c) ≡ 1) ↔ (occurrences x (configuration_names d) ≡ 1)
