-- A configuration with a gap at each place that awaits products, and the gaps filled.
use Rattle.std.specs.Prelude.{◌≡◌, ℕ, ◌+◌, ◌==◌, List, [], ◌∷◌, ◌++◌, Bool, not, ◌||◌, Option, None, Some, Result, Ok, Err, count_by, find, map, nat_lt, if◌then◌else◌, refl}
use Rattle.std.specs.List.{list_any}
use Rattle.std.specs.Option.{option_map_or}
use Rattle.std.specs.Coded.{Coded, code_by, coded×, coded_ℕ, coded_list, coded_option}
use Rattle.ic_term.specs.Tree.{Tree, Pair}
use Rattle.ic_term.specs.lemmas.TreeLaws.{coded_tree, coded_pair}
use Rattle.ic_term.specs.Configuration.{Configuration}
use Rattle.ic_rules.specs.Rule.{Rule}
use Rattle.ic_round.specs.Firing.{active_pair, fired}
use Rattle.ic_round.specs.Works.{PlainFired}
use Rattle.ic_round.specs.declared.gather_fault.GatherFault.{GatherFault}
use Rattle.ic_round.specs.declared.gather_fault.GatherFault.TheVariants.{Lost, Stranger, Memory}

-- A configuration whose equations have a gap at each awaited place. `next` is the fired
-- configuration's.
pub record Gapped : Type 0 where
  pub interface : List Tree
  pub equations : List (Option Pair)
  pub next : ℕ

-- the equation, or a gap where it is active
abbrev pub gap_at : List Rule → Pair → Option Pair
gap_at rs p = option_map_or (λ a. None) (active_pair rs p) (Some p)

-- a configuration with its active equations taken out
abbrev pub gapped : List Rule → Configuration → Gapped
gapped rs c = record {
  interface = c.interface;
  equations = map (gap_at rs) c.equations;
  next = (fired rs c).next;
}

-- the places of the gaps of a list, the first of which stands at this place
abbrev pub gaps_from : ℕ → List (Option Pair) → List ℕ
gaps_from i [] = []
gaps_from i (Some p ∷ es) = gaps_from (i + 1) es
gaps_from i (None ∷ es) = i ∷ gaps_from (i + 1) es

-- how many results there are for a place
abbrev pub results_for : ℕ → List PlainFired → ℕ
results_for i fs = count_by (λ f. f.place == i) fs

-- the products that the results have for a place: those of its first result
abbrev pub products_for : ℕ → List PlainFired → List Pair
products_for i fs = option_map_or (λ f. f.products) (find (λ f. f.place == i) fs) []

-- the equations with each gap filled by the products for its place
abbrev pub filled_from : ℕ → List (Option Pair) → List PlainFired → List Pair
filled_from i [] fs = []
filled_from i (Some p ∷ es) fs = p ∷ filled_from (i + 1) es fs
filled_from i (None ∷ es) fs = products_for i fs ++ filled_from (i + 1) es fs

abbrev pub filled : Gapped → List PlainFired → Configuration
filled rest fs = record {
  interface = rest.interface;
  equations = filled_from 0 rest.equations fs;
  next = rest.next;
}

-- an awaited place has no result
abbrev pub is_lost : List ℕ → List PlainFired → Bool
is_lost gaps fs = list_any (λ i. results_for i fs == 0) gaps

-- a result is for a place that isn't awaited, or for one that has another result
abbrev pub is_strange : List ℕ → List PlainFired → Bool
is_strange gaps fs =
    list_any (λ f. not (list_any (λ i. f.place == i) gaps) || nat_lt 1 (results_for f.place fs))
    fs

-- the configuration with its gaps filled, or the first refusal in the order of `GatherFault`
abbrev pub gathered : Gapped → List PlainFired → Result Configuration GatherFault
gathered rest fs =
    if is_lost (gaps_from 0 rest.equations) fs then Err Lost else
    (if is_strange (gaps_from 0 rest.equations) fs then Err Stranger else Ok (filled rest fs))

-- The result is this answer, unless a growth was refused.
abbrev pub Answers : Result Configuration GatherFault → Result Configuration GatherFault → Type 0
Answers (Ok c) answer = Ok c ≡ answer
Answers (Err Lost) answer = Err Lost ≡ answer
Answers (Err Stranger) answer = Err Stranger ≡ answer
Answers (Err Memory) answer = Unit {0}

-- a configuration with gaps is stored as the tuple of its fields
abbrev pub coded_gapped : Coded Gapped
coded_gapped =
    code_by (List Tree × (List (Option Pair) × ℕ))
    (coded× (coded_list coded_tree) (coded× (coded_list (coded_option coded_pair)) coded_ℕ))
    (λ g. (g.interface, (g.equations, g.next)))
    (λ p. record { interface = p.0; equations = p.1.0; next = p.1.1 }) (λ _. refl)
