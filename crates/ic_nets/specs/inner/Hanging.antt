-- For private functions: terms that hang at ports and stand on a stack, the last one on top.
use Rattle.std.specs.Prelude.{ℕ, ◌+◌, List, [], ◌∷◌, ◌++◌, length, map, reverse}
use Rattle.std.specs.List.{flat_map}
use Rattle.std.specs.Borrow.{Bor}
use Rattle.ic_term.specs.declared.term.Term.{Term}
use Rattle.ic_term.specs.Tree.{Tree}
use Rattle.ic_term.specs.Term.{tree}
use Rattle.ic_nets.specs.Nets.{agents_in, hung, inside}
use Rattle.ic_nets.specs.declared.net.Agent.{Agent}
use Rattle.ic_nets.specs.declared.port.Port.{Port}
use Rattle.ic_nets.specs.declared.links.Link.{Link}

-- the terms of a stack as plain data, from the top on
abbrev pub coming : List (Port × Bor Term) → List (Port × Tree)
coming hs = reverse (map (λ h. (h.0, tree h.1.now)) hs)

-- terms at ports that are counted on from a place
abbrev pub hung_at : (ℕ → Port) → ℕ → List Tree → List (Port × Tree)
hung_at port i [] = []
hung_at port i (t ∷ ts) = (port i, t) ∷ hung_at port (i + 1) ts

abbrev pub agents_hung : List (Port × Tree) → List Agent
agents_hung hs = flat_map (λ h. agents_in h.1) hs

-- what joins them, where the first agent has this number
abbrev pub links_hung : ℕ → List (Port × Tree) → List Link
links_hung k [] = []
links_hung k (h ∷ hs) =
    hung h.0 k h.1 ∷ (inside k h.1 ++ links_hung (k + length (agents_in h.1)) hs)
