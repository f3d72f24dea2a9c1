-- What the laws of one net say, as far as it is built on here.
use Rattle.std.proofs.Common.{ℕ, ◌≤◌, List, ◌∷◌}
use Rattle.std.specs.Prelude.{IsPermutation}
use Rattle.ic_term.specs.Tree.{Tree, Pair}
use Rattle.ic_term.specs.Configuration.{Configuration, names_in, occurrences}
use Rattle.ic_settle.specs.Settling.{subst_in}
use Rattle.ic_round.specs.Naming.{HasNames}
use Rattle.ic_reaching.specs.OneNet.{OneNet}
use Rattle.ic_reaching.specs.Pieces.{piece}

pub record NetLaws : Type 0 where
  pub itself : (c : Configuration) → HasNames c → OneNet c c
  pub through : (c d e : Configuration) → OneNet c d → OneNet d e → OneNet c e
  pub next : (c : Configuration) (next : ℕ) → HasNames c → HasNames (record c { next = next }) → OneNet c (record c { next = next })
  pub order : (c : Configuration) (es : List Pair) → HasNames c → IsPermutation c.equations es → OneNet c (record c { equations = es })
  pub anywhere : (c : Configuration) (x : ℕ) (t : Tree) (others : List Pair) → HasNames c → IsPermutation c.equations (piece x t ∷ others)
      → 1 ≤ occurrences x (names_in c.interface others) → OneNet c (subst_in x t (record c { equations = others }))
