use Rattle.std.specs.Prelude.{◌≡◌, ℕ, ◌+◌, ◌<◌, ◌≤◌, ◌==◌, List, [], ◌∷◌, ◌++◌, Bool, ◌&&◌, Option, None, Some, Result, Ok, Err, length, sum_by, count_by, nat_le, nat_lt, if◌then◌else◌, max}
use Rattle.std.specs.List.{flat_map, list_all, AllByRecursion}
use Rattle.std.specs.Cmp.Lexicographic.{pointwise}
use Rattle.ic_term.specs.Tree.{Tree, Pair, nodes, names, pair_nodes, pair_names, tree_eq, pair_eq}
use Rattle.ic_term.specs.declared.limits.TheConstants.{MAX_NODES, MAX_INTERFACE, MAX_NEXT, MAX_WIDE_NODES}
use Rattle.ic_term.specs.declared.config.ConfigFault.{ConfigFault}
use Rattle.ic_term.specs.declared.config.ConfigFault.TheVariants.{Limit, Name}

-- A configuration `<t1,..,tk|e1,..,em>` as plain data: an interface of terms and a list of equations
-- (Fernández and Mackie 1999, section 2). `next` is a number above each of its names, from which fresh
-- names are taken (this project's choice).
pub record Configuration : Type 0 where
  pub interface : List Tree
  pub equations : List Pair
  pub next : ℕ

-- the names and agents of terms and equations
abbrev pub nodes_in : List Tree → List Pair → ℕ
nodes_in ts es = sum_by nodes ts + sum_by pair_nodes es

-- the names of terms and equations in the order of the text, the interface first, each as often as it occurs
abbrev pub names_in : List Tree → List Pair → List ℕ
names_in ts es = flat_map names ts ++ flat_map pair_names es

abbrev pub configuration_nodes : Configuration → ℕ
configuration_nodes c = nodes_in c.interface c.equations

abbrev pub configuration_names : Configuration → List ℕ
configuration_names c = names_in c.interface c.equations

-- how often a name occurs in a list of names
abbrev pub occurrences : ℕ → List ℕ → ℕ
occurrences n ns = count_by (λ m. m == n) ns

-- the first name of a list that stands twice before: among the names seen, or earlier in the list
abbrev pub third_from : List ℕ → List ℕ → Option ℕ
third_from seen [] = None
third_from seen (n ∷ ns) = if nat_le 2 (occurrences n seen) then Some n
    else third_from (seen ++ n ∷ []) ns

-- the first name of a list that occurs there for the third time
abbrev pub third_occurrence : List ℕ → Option ℕ
third_occurrence ns = third_from [] ns

-- A name occurs in a list for the third time, after names that occur there at most twice.
pub record IsFirstThird (n : ℕ) (ns before after : List ℕ) : Type 0 where
  pub parts : ns ≡ before ++ n ∷ after
  pub twice_before : occurrences n before ≡ 2
  pub none_earlier : (m : ℕ) → occurrences m before ≤ 2

-- What each configuration keeps. A name occurs at most twice (Fernández and Mackie 1999, section 2); the
-- limits are this project's choice.
pub record IsConfiguration (c : Configuration) : Type 0 where
  pub nodes : configuration_nodes c ≤ MAX_NODES
  pub interface : length c.interface ≤ MAX_INTERFACE
  pub next : c.next ≤ MAX_NEXT
  pub below : AllByRecursion (λ n. n < c.next) (configuration_names c)
  pub twice : (n : ℕ) → occurrences n (configuration_names c) ≤ 2

-- What each wide configuration keeps: the same but for the limits, of which that of the nodes is much higher
-- and that of the interface is left out, since each of its terms is a node at least.
pub record IsWide (c : Configuration) : Type 0 where
  pub nodes : configuration_nodes c ≤ MAX_WIDE_NODES
  pub next : c.next ≤ MAX_NEXT
  pub below : AllByRecursion (λ n. n < c.next) (configuration_names c)
  pub twice : (n : ℕ) → occurrences n (configuration_names c) ≤ 2

-- neither the nodes nor the interface terms are too many
abbrev pub is_small_enough : List Tree → List Pair → Bool
is_small_enough ts es = nat_le (nodes_in ts es) MAX_NODES && nat_le (length ts) MAX_INTERFACE

-- the nodes are not too many for a wide configuration
abbrev pub is_wide_enough : List Tree → List Pair → Bool
is_wide_enough ts es = nat_le (nodes_in ts es) MAX_WIDE_NODES

-- `sizes` holds, `next` is within its limit, and each name is below `next`
abbrev pub is_numbered_within : Bool → Configuration → Bool
is_numbered_within sizes c = sizes && nat_le c.next MAX_NEXT
    && list_all (λ n. nat_lt n c.next) (configuration_names c)

-- no limit is passed, and each name is below `next`
abbrev pub is_within : Configuration → Bool
is_within c = is_numbered_within (is_small_enough c.interface c.equations) c

-- the same with the limit of a wide configuration
abbrev pub is_within_wide : Configuration → Bool
is_within_wide c = is_numbered_within (is_wide_enough c.interface c.equations) c

-- the configuration, or its first third occurrence
abbrev pub unless_third : Configuration → Option ℕ → Result Configuration ConfigFault
unless_third c None = Ok c
unless_third c (Some n) = Err (Name n)

-- the configuration, or the first refusal in the order of `ConfigFault`; `within` says whether it
-- keeps the limits
abbrev pub restored_if : Bool → Configuration → Result Configuration ConfigFault
restored_if within c = if within then unless_third c (third_occurrence (configuration_names c))
    else Err Limit

-- the configuration of these parts, or the first refusal in the order of `ConfigFault`
abbrev pub restored : Configuration → Result Configuration ConfigFault
restored c = restored_if (is_within c) c

-- the same with the limit of a wide configuration
abbrev pub wide_restored : Configuration → Result Configuration ConfigFault
wide_restored c = restored_if (is_within_wide c) c

-- one above the greatest number of a list, or 0 for none
abbrev pub one_above : List ℕ → ℕ
one_above [] = 0
one_above (n ∷ ns) = max (n + 1) (one_above ns)

-- terms and equations as a configuration whose `next` is one above its greatest name, or 0 without
-- names
abbrev pub configured : List Tree → List Pair → Configuration
configured ts es = record { interface = ts; equations = es; next = one_above (names_in ts es) }

-- the same terms and equations, in the same order, and the same `next`
abbrev pub configuration_eq : Configuration → Configuration → Bool
configuration_eq c d =
    c.next == d.next && pointwise tree_eq c.interface d.interface && pointwise pair_eq c.equations d.equations
