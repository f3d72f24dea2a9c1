-- A round on its way, one equation at a time, while names are put as well.
use Rattle.std.specs.Prelude.{◌≡◌, ℕ, ◌≤◌, List, [], ◌∷◌, ◌++◌, None, Some, IsPermutation}
use Rattle.ic_term.specs.Tree.{Tree, Pair}
use Rattle.ic_term.specs.Configuration.{Configuration}
use Rattle.ic_rules.specs.Rule.{Rule}
use Rattle.ic_round.specs.Firing.{Active, active_pair, count_of}
use Rattle.ic_round.specs.Naming.{HasNames}
use Rattle.ic_reaching.specs.FreshNames.{products_with, AreFresh}
use Rattle.ic_reaching.specs.OneNet.{OneNet}

-- A net on its way through a round: the equations that are still to fire in it, and the rest.
pub record Generation : Type 0 where
  pub interface : List Tree
  pub now : List Pair
  pub rest : List Pair
  pub next : ℕ

-- all of the net
abbrev pub whole : Generation → Configuration
whole g = record { interface = g.interface; equations = g.now ++ g.rest; next = g.next }

-- the net without the equations that are still to fire
abbrev pub without_now : Generation → Configuration
without_now g = record { interface = g.interface; equations = g.rest; next = g.next }

-- An equation fires by the rule at this place, with any fresh names. Its products join the rest.
pub record OneFires (rs : List Rule) (g h : Generation) (rule : ℕ) : Type 0 where
  pub equation : Pair
  pub later : List Pair
  pub active : Active
  pub names : ℕ → ℕ
  pub given : IsPermutation g.now (equation ∷ later)
  pub has_rule : active_pair rs equation ≡ Some active
  pub by_rule : active.rule ≡ rule
  pub fresh : AreFresh (whole g) (count_of rs rule) h.next names
  pub higher : g.next ≤ h.next
  pub interface : h.interface ≡ g.interface
  pub now : h.now ≡ later
  pub rest : h.rest ≡ products_with rs names active ++ g.rest

-- An equation without a rule joins the rest.
pub record OnePasses (rs : List Rule) (g h : Generation) : Type 0 where
  pub equation : Pair
  pub later : List Pair
  pub given : IsPermutation g.now (equation ∷ later)
  pub no_rule : active_pair rs equation ≡ None
  pub result : h ≡ record g { now = later; rest = equation ∷ g.rest }

-- The rest changes, by itself, to what is one net with it.
pub record RestChanges (g h : Generation) : Type 0 where
  pub now : h.now ≡ g.now
  pub net : OneNet (without_now g) (without_now h)
  pub names : HasNames (whole h)

-- such changes one after another, and the rules by which equations fire, in order
pub data Goes (rs : List Rule) : List ℕ → Generation → Generation → Type 0 where
  ended : (g : Generation) → Goes rs [] g g
  fires : (rule : ℕ) (rules : List ℕ) (g h e : Generation) → OneFires rs g h rule
      → Goes rs rules h e → Goes rs (rule ∷ rules) g e
  passes : (rules : List ℕ) (g h e : Generation) → OnePasses rs g h → Goes rs rules h e
      → Goes rs rules g e
  changes : (rules : List ℕ) (g h e : Generation) → RestChanges g h → Goes rs rules h e
      → Goes rs rules g e
