-- Lemmas: the rows that are told are those of the iterates.
use Rattle.std.proofs.Common.{◌≡◌, ℕ, zero, suc, ◌+◌, ◌-◌, ◌*◌, ◌^◌, ◌%◌, ◌<◌, ◌≤◌, List, [], ◌∷◌, ◌++◌, length, map, sum_by, refl, sym, ap, ◌∙◌, arith, subst}
use Rattle.std.specs.List.{AllByRecursion}
use Rattle.std.proofs.lemmas.List.{map-append}
use Rattle.std.proofs.lemmas.List.Sums.{sum_by-cons}
use Rattle.ic_term.specs.Configuration.{Configuration, configuration_names, configuration_nodes}
use Rattle.ic_rules.specs.Rule.{Rule}
use Rattle.ic_rules.specs.System.{SystemParts}
use Rattle.ic_round.specs.Rounds.{iterate}
use Rattle.ic_confluence.specs.Agents.{configuration_symbols}
use Rattle.ic_generations.specs.Figures.{amount, amount_made, amount_spent, arity_of}
use Rattle.ic_machine.specs.Net.{equations_left}
use Rattle.ic_meaning.specs.Circles.{circles}
use Rattle.ic_in_place.specs.Amounts.{by_counts}
use Rattle.ic_in_place.specs.Told.{RoundFigures, RoundOver, figures_after, figures_by, figures_of}
use Rattle.ic_by_rounds.specs.Tracing.{told_row, told_rows}
use Rattle.ic_by_rounds.specs.inner.Amounts.{Tells, one_each}
use Rattle.ic_by_rounds.specs.inner.Showing.{AreRowsOf, numbers_of}
use Rattle.ic_by_rounds.specs.declared.row.Row.{Row}
use Rattle.ic_by_rounds.proofs.Circles.{as_many_terms, circles_named, few_circles}

-- ---- numbers modulo 2^64

nodes_of_sums : (told terms left equations circled arities spent begun made nodes : ℕ) → told < 2 ^ 64
    → (told + spent) % 2 ^ 64 ≡ (terms + 2 * left + (begun + made)) % 2 ^ 64 → arities + spent ≡ begun + made
    → nodes ≡ terms + 2 * equations + arities → left ≡ equations - circled → circled ≤ equations → told ≡ (nodes - 2 * circled) % 2 ^ 64
nodes_of_sums told terms left equations circled arities spent begun made nodes fits agree sums all rest few = omega arith

names_of_sums : (told told_nodes circled agents spent begun made nodes names : ℕ) → told < 2 ^ 64
    → (told + (begun + made)) % 2 ^ 64 ≡ (told_nodes + spent) % 2 ^ 64 → agents + spent ≡ begun + made
    → told_nodes ≡ (nodes - 2 * circled) % 2 ^ 64 → names + agents ≡ nodes → 2 * circled ≤ names → told ≡ (names - 2 * circled) % 2 ^ 64
names_of_sums told told_nodes circled agents spent begun made nodes names fits agree sums is all few = omega arith

-- each agent counted as one
pub ones : (ss : List ℕ) → sum_by one_each ss ≡ length ss
ones [] = refl
ones (s ∷ ss) = let rest = ones ss in let all = sum_by-cons one_each s ss in omega (arith, rest, all)

-- ---- rows

abbrev head_or : RoundFigures → List RoundFigures → RoundFigures
head_or f [] = f
head_or f (g ∷ fs) = g

abbrev tail_of : List RoundFigures → List RoundFigures
tail_of [] = []
tail_of (f ∷ fs) = fs

-- the row of these figures
abbrev row_by : List Rule → Configuration → RoundFigures → Row
row_by rs c f = let after = iterate rs f.round c in record {
  round = f.round;
  pairs = f.pairs;
  nodes = (configuration_nodes after - 2 * circles after) % 2 ^ 64;
  equations = f.equations;
  names = (length (configuration_names after) - 2 * circles after) % 2 ^ 64;
}

rows_by : (rs : List Rule) (c : Configuration) (n : ℕ) → map (row_by rs c) (figures_by rs c n) ≡ told_rows rs c n
rows_by rs c zero = refl
rows_by rs c (suc n) =
    let later : n + 1 ≡ suc n = omega arith in
    let here : row_by rs c (figures_after rs c n) ≡ told_row rs c n = λ i. record {
      round = n + 1;
      pairs = (figures_after rs c n).pairs;
      nodes = (configuration_nodes (iterate rs (later i) c) - 2 * circles (iterate rs (later i) c)) % 2 ^ 64;
      equations = (figures_after rs c n).equations;
      names = (length (configuration_names (iterate rs (later i) c)) - 2 * circles (iterate rs (later i) c)) % 2 ^ 64;
    } in
    let rest = rows_by rs c n in
    map-append (row_by rs c) (figures_by rs c n) (figures_after rs c n ∷ []) ∙ (λ i. rest i ++ here i ∷ [])

-- the equations of figures are those that are no circles
abbrev LeavesCircles : List Rule → Configuration → RoundFigures → Type 0
LeavesCircles rs c f = f.equations ≡ length (iterate rs f.round c).equations - circles (iterate rs f.round c)

all_push : {X : Type 0} (P : X → Type 0) (xs : List X) (x : X) → AllByRecursion P xs → P x → AllByRecursion P (xs ++ x ∷ [])
all_push P [] x all one = (one, tt)
all_push P (y ∷ xs) x all one = (all.0, all_push P xs x all.1 one)

leaves_circles : (rs : List Rule) (c : Configuration) (n : ℕ) → AllByRecursion (LeavesCircles rs c) (figures_by rs c n)
leaves_circles rs c zero = tt
leaves_circles rs c (suc n) =
    let later : suc n ≡ n + 1 = omega arith in
    let here : LeavesCircles rs c (figures_after rs c n) = ap (λ k. length (iterate rs k c).equations - circles (iterate rs k c)) later in
    all_push (LeavesCircles rs c) (figures_by rs c n) (figures_after rs c n) (leaves_circles rs c n) here

of_mapped : {X Y : Type 0} (P : Y → Type 0) (f : X → Y) (xs : List X) → AllByRecursion P (map f xs) → AllByRecursion (λ x. P (f x)) xs
of_mapped P f [] all = tt
of_mapped P f (x ∷ xs) all = (all.0, of_mapped P f xs all.1)

-- what agents amount to after a round that is told, by what its net counts
abbrev pub TellsAmount : (ℕ → ℕ) → SystemParts → List ℕ → RoundOver → Type 0
TellsAmount f s numbers o = amount f (iterate s.rules.rules o.round s.config) + by_counts (amount_spent f s.rules.rules) numbers o.net.counts 0
    ≡ amount f s.config + by_counts (amount_made f s.rules.rules) numbers o.net.counts 0

-- what laws say of the rounds that were told
pub record AmountLaws (s : SystemParts) (numbers : List ℕ) (told : List RoundOver) : Type 0 where
  pub many : AllByRecursion (λ o. length o.net.counts ≡ length numbers) told
  pub arities : AllByRecursion (TellsAmount (arity_of s.rules.symbols) s numbers) told
  pub agents : AllByRecursion (TellsAmount one_each s numbers) told
  pub nodes : (n : ℕ) → configuration_nodes (iterate s.rules.rules n s.config) ≡ length (iterate s.rules.rules n s.config).interface
      + 2 * length (iterate s.rules.rules n s.config).equations + amount (arity_of s.rules.symbols) (iterate s.rules.rules n s.config)
  pub names : (c : Configuration) → length (configuration_names c) + length (configuration_symbols c) ≡ configuration_nodes c

module _ (s : SystemParts) (numbers : List ℕ) where
  abbrev rs : List Rule
  rs = s.rules.rules

  abbrev c : Configuration
  c = s.config

  row_is : ((n : ℕ) → configuration_nodes (iterate rs n c) ≡ length (iterate rs n c).interface + 2 * length (iterate rs n c).equations + amount (arity_of s.rules.symbols) (iterate rs n c))
      → ((d : Configuration) → length (configuration_names d) + length (configuration_symbols d) ≡ configuration_nodes d)
      → (row : Row) (o : RoundOver) → Tells s numbers (equations_left o.net) o.net.counts row.nodes row.names → TellsAmount (arity_of s.rules.symbols) s numbers o
      → TellsAmount one_each s numbers o → LeavesCircles rs c (figures_of o) → numbers_of row ≡ figures_of o → row ≡ row_by rs c (figures_of o)
  row_is nodes_law names_law row o tells arities agents left same =
      let d : Configuration = iterate rs o.round c in
      let terms = as_many_terms rs o.round c in
      let all = nodes_law o.round in
      let nodes : row.nodes ≡ (configuration_nodes d - 2 * circles d) % 2 ^ 64 =
      nodes_of_sums row.nodes (length c.interface) (equations_left o.net) (length d.equations) (circles d) (amount (arity_of s.rules.symbols) d)
      (by_counts (amount_spent (arity_of s.rules.symbols) rs) numbers o.net.counts 0) (amount (arity_of s.rules.symbols) c)
      (by_counts (amount_made (arity_of s.rules.symbols) rs) numbers o.net.counts 0) (configuration_nodes d)
      tells.nodes_fit tells.nodes_are arities (omega (arith, all, terms)) left (few_circles d) in
      let counted = ones (configuration_symbols d) in
      let each = names_law d in
      let names : row.names ≡ (length (configuration_names d) - 2 * circles d) % 2 ^ 64 =
      names_of_sums row.names row.nodes (circles d) (amount one_each d) (by_counts (amount_spent one_each rs) numbers o.net.counts 0) (amount one_each c)
      (by_counts (amount_made one_each rs) numbers o.net.counts 0) (configuration_nodes d) (length (configuration_names d))
      tells.names_fit tells.names_are agents nodes (omega (arith, counted, each)) (circles_named d) in
      λ i. record { round = (same i).round; pairs = (same i).pairs; nodes = nodes i; equations = (same i).equations; names = names i }

  rows_are : ((n : ℕ) → configuration_nodes (iterate rs n c) ≡ length (iterate rs n c).interface + 2 * length (iterate rs n c).equations + amount (arity_of s.rules.symbols) (iterate rs n c))
      → ((d : Configuration) → length (configuration_names d) + length (configuration_symbols d) ≡ configuration_nodes d)
      → (rows : List Row) (told : List RoundOver) → AreRowsOf s numbers rows told → AllByRecursion (λ o. length o.net.counts ≡ length numbers) told
      → AllByRecursion (TellsAmount (arity_of s.rules.symbols) s numbers) told → AllByRecursion (TellsAmount one_each s numbers) told
      → AllByRecursion (λ o. LeavesCircles rs c (figures_of o)) told → map numbers_of rows ≡ map figures_of told → rows ≡ map (row_by rs c) (map figures_of told)
  rows_are nodes_law names_law [] [] are many arities agents left same = refl
  rows_are nodes_law names_law [] (o ∷ told) are many arities agents left same = absurd are
  rows_are nodes_law names_law (row ∷ rows) [] are many arities agents left same = absurd are
  rows_are nodes_law names_law (row ∷ rows) (o ∷ told) are many arities agents left same =
      let first : ◌≡◌ {A = RoundFigures} (numbers_of row) (figures_of o) = ap (head_or (numbers_of row)) same in
      let others : map numbers_of rows ≡ map figures_of told = ap tail_of same in
      let here = row_is nodes_law names_law row o (are.0 many.0) arities.0 agents.0 left.0 first in
      let rest = rows_are nodes_law names_law rows told are.1 many.1 arities.1 agents.1 left.1 others in
      (λ i. here i ∷ rest i)

  pub rows_of_iterates : (rows : List Row) (told : List RoundOver) → AmountLaws s numbers told → AreRowsOf s numbers rows told → map numbers_of rows ≡ map figures_of told
      → map figures_of told ≡ figures_by rs c (length told) → rows ≡ told_rows rs c (length told)
  rows_of_iterates rows told laws are same fired =
      let left = of_mapped (LeavesCircles rs c) figures_of told (subst (AllByRecursion (LeavesCircles rs c)) (sym fired) (leaves_circles rs c (length told))) in
      rows_are laws.nodes laws.names rows told are laws.many laws.arities laws.agents left same
      ∙ (ap (map (row_by rs c)) fired ∙ rows_by rs c (length told))
