-- What the laws of what is reached say, as far as it is built on here.
use Rattle.std.proofs.Common.{◌≡◌, ℕ, ◌≤◌, List, [], ◌∷◌, ◌++◌, map}
use Rattle.std.specs.Prelude.{IsPermutation, IsTrue}
use Rattle.ic_term.specs.Tree.{Tree, Pair, pair_names}
use Rattle.ic_term.specs.Configuration.{Configuration, names_in, occurrences}
use Rattle.ic_term.specs.Symbol.{is_over}
use Rattle.ic_rules.specs.RuleSet.{Rules, IsRuleSet}
use Rattle.ic_settle.specs.Settling.{Binding, subst_in, subst_pair}
use Rattle.ic_round.specs.Naming.{HasNames}
use Rattle.ic_confluence.specs.Sameness.{turned}
use Rattle.ic_reaching.specs.OneNet.{OneNet}
use Rattle.ic_reaching.specs.Reaching.{Reaches}
use Rattle.ic_reaching.specs.FreshNames.{Fires}
use Rattle.ic_reaching.specs.Pieces.{AreNew, OccurInTurn, piece, piece_of, put_in_turn}

-- of one net
pub record NetLaws : Type 0 where
  pub itself : (c : Configuration) → HasNames c → OneNet c c
  pub through : (c d e : Configuration) → OneNet c d → OneNet d e → OneNet c e
  pub next : (c : Configuration) (next : ℕ) → HasNames c → HasNames (record c { next = next }) → OneNet c (record c { next = next })
  pub order : (c : Configuration) (es : List Pair) → HasNames c → IsPermutation c.equations es → OneNet c (record c { equations = es })
  pub turned : (c : Configuration) (p : Pair) (others : List Pair) → HasNames c → IsPermutation c.equations (p ∷ others)
      → OneNet c (record c { equations = turned p ∷ others })
  pub anywhere : (c : Configuration) (x : ℕ) (t : Tree) (others : List Pair) → HasNames c → IsPermutation c.equations (piece x t ∷ others)
      → 1 ≤ occurrences x (names_in c.interface others) → OneNet c (subst_in x t (record c { equations = others }))
  pub in_one : (c : Configuration) (x : ℕ) (t : Tree) (p : Pair) (others : List Pair) → HasNames c → IsPermutation c.equations (piece x t ∷ p ∷ others)
      → 1 ≤ occurrences x (pair_names p) → OneNet c (record c { equations = subst_pair x t p ∷ others })
  pub taken : (c rest : Configuration) (bs : List Binding) (next : ℕ) → HasNames c → c ≡ put_in_turn bs rest → OccurInTurn bs rest → AreNew c next bs → c.next ≤ next
      → OneNet c (record { interface = rest.interface; equations = map piece_of bs ++ rest.equations; next = next })

-- of what is reached
pub record ReachLaws : Type 0 where
  pub nets : NetLaws
  pub net : (rs : Rules) (c d e : Configuration) (fired : List ℕ) → Reaches rs.rules c d fired → OneNet d e → Reaches rs.rules c e fired
  pub names : (rs : Rules) (c d : Configuration) (fired : List ℕ) → Reaches rs.rules c d fired → HasNames d
  pub over : (rs : Rules) (c d : Configuration) (fired : List ℕ) → IsRuleSet rs → IsTrue (is_over rs.symbols c) → HasNames c → Reaches rs.rules c d fired
      → IsTrue (is_over rs.symbols d)
  pub fires : (rs : Rules) (c d e : Configuration) (fired : List ℕ) (rule : ℕ) → IsRuleSet rs → IsTrue (is_over rs.symbols c) → HasNames c → Reaches rs.rules c d fired
      → Fires rs.rules d e rule → Reaches rs.rules c e (fired ++ rule ∷ [])
