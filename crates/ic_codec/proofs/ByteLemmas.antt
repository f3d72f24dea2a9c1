-- Each number of a byte form is a byte.
use Rattle.std.proofs.Common.{◌≡◌, ℕ, zero, suc, ◌^◌, ◌<◌, ◌≤◌, ◌/◌, Bool, true, false, ◌&&◌, ◌||◌, ◌==◌, Option, List, [], ◌∷◌, ◌++◌, length, refl, arith}
use Rattle.std.specs.Prelude.{IsTrue, nat_le, slice_get}
use Rattle.std.specs.Int.{byte_at, bytes_high_first, is_in_range}
use Rattle.std.specs.List.{flat_map, list_all, AllByRecursion}
use Rattle.std.specs.Char.{is_ascii_lowercase, is_ascii_uppercase, is_ascii_digit, is_ascii_alphanumeric}
use Rattle.std.proofs.lemmas.Bool.{and_parts, leb-true, eqb-true}
use Rattle.std.proofs.lemmas.Nat.{mod_below}
use Rattle.ic_term.specs.Tree.{Tree, name, agent, Trees, no_trees, more_trees, Pair, list_of}
use Rattle.ic_term.specs.Symbol.{Symbol, is_symbol_text, fits_limits, has_arity, is_tree_over, are_trees_over, is_pair_over}
use Rattle.ic_rules.specs.JobName.{is_job_name}
use Rattle.ic_rules.specs.Rule.{Rule}
use Rattle.ic_rules.specs.RuleSet.{IsRuleOver}
use Rattle.ic_rules.specs.lemmas.FitLaws.{first_unfit-None}
use Rattle.ic_jobs.specs.declared.state.State.{State}
use Rattle.ic_jobs.specs.declared.state.State.TheVariants.{Running}
use Rattle.ic_jobs.specs.State.{state_number}
use Rattle.ic_codec.specs.Form.{form_digit, form_head, budget_bytes, budget_number, heading_bytes, heading_of}
use Rattle.ic_codec.specs.declared.form.Form.{Form}
use Rattle.ic_codec.specs.declared.form.Form.TheVariants.{Ict1, Ict2}
use Rattle.ic_jobs.specs.Job.{JobParts, IsJob}
use Rattle.ic_jobs.specs.Table.{IsTable}
use Rattle.ic_codec.specs.declared.form.Heading.{Heading}
use Rattle.ic_codec.specs.Numbers.{two_bytes, eight_bytes}
use Rattle.ic_codec.specs.Texts.{text_bytes}
use Rattle.ic_codec.specs.Terms.{tree_bytes, trees_bytes, pair_bytes}
use Rattle.ic_codec.specs.Symbols.{symbol_bytes, symbols_bytes}
use Rattle.ic_codec.specs.Rules.{rule_bytes, rules_bytes}
use Rattle.ic_codec.specs.Configurations.{configuration_bytes}
use Rattle.ic_codec.specs.Jobs.{job_bytes}
use Rattle.ic_codec.specs.Tables.{table_bytes_in}
use Rattle.ic_codec.specs.inner.Room.{AreBytes}
use Rattle.ic_codec.proofs.Appending.{bytes_both}
use Rattle.ic_codec.proofs.Sizes.{small_symbol, short_name}
use Rattle.ic_codec.proofs.TermLemmas.{known_below}

byte_small : (i n : ℕ) → byte_at i n < 256
byte_small zero n = mod_below n 256 (omega arith)
byte_small (suc i) n = mod_below (n / 256 ^ suc i) 256 (omega arith)

high_first_bytes : (k n : ℕ) → AreBytes (bytes_high_first k n)
high_first_bytes zero n = tt
high_first_bytes (suc k) n = (byte_small k n, high_first_bytes k n)

two_are_bytes : (n : ℕ) → AreBytes (two_bytes n)
unfolding two_bytes
two_are_bytes n = high_first_bytes 2 n

eight_are_bytes : (n : ℕ) → AreBytes (eight_bytes n)
unfolding eight_bytes
eight_are_bytes n = high_first_bytes 8 n

-- ---- texts

within : (lo hi b : ℕ) → is_in_range lo hi b ≡ true → hi < 256 → b < 256
within lo hi b is small = omega (arith, leb-true b hi (and_parts (nat_le lo b) (nat_le b hi) is).1)

one_of : (P : Type 0) (p q : Bool) → (p || q) ≡ true → (p ≡ true → P) → (q ≡ true → P) → P
one_of P true q e f g = f refl
one_of P false q e f g = g e

alphanumeric_small : (b : ℕ) → is_ascii_alphanumeric b ≡ true → b < 256
alphanumeric_small b is =
    one_of (b < 256) (is_in_range 48 57 b || is_in_range 65 90 b) (is_in_range 97 122 b) is
    (λ e. one_of (b < 256) (is_in_range 48 57 b) (is_in_range 65 90 b) e (λ f. within 48 57 b f (omega arith)) (λ f. within 65 90 b f (omega arith)))
    (λ f. within 97 122 b f (omega arith))

all_small : (p : ℕ → Bool) → ((b : ℕ) → p b ≡ true → b < 256) → (bs : List ℕ) → list_all p bs ≡ true → AreBytes bs
all_small p small [] all = tt
all_small p small (b ∷ bs) all = let parts = and_parts (p b) (list_all p bs) all in (small b parts.0, all_small p small bs parts.1)

symbol_text_bytes : (text : List ℕ) → is_symbol_text text ≡ true → AreBytes text
symbol_text_bytes [] is = cc
symbol_text_bytes (b ∷ bs) is =
    let parts = and_parts (is_ascii_uppercase b || is_ascii_digit b) (list_all is_ascii_alphanumeric bs) is in (
      one_of (b < 256) (is_ascii_uppercase b) (is_ascii_digit b) parts.0 (λ f. within 65 90 b f (omega arith)) (λ f. within 48 57 b f (omega arith)),
      all_small is_ascii_alphanumeric alphanumeric_small bs parts.1,
    )

name_byte_small : (b : ℕ) → (is_ascii_lowercase b || is_ascii_digit b || b == 45) ≡ true → b < 256
name_byte_small b is =
    one_of (b < 256) (is_ascii_lowercase b || is_ascii_digit b) (b == 45) is
    (λ e. one_of (b < 256) (is_ascii_lowercase b) (is_ascii_digit b) e (λ f. within 97 122 b f (omega arith)) (λ f. within 48 57 b f (omega arith)))
    (λ f. omega (arith, eqb-true b 45 f))

name_bytes : (text : List ℕ) → is_job_name text ≡ true → AreBytes text
name_bytes [] is = cc
name_bytes (b ∷ bs) is =
    let parts = and_parts (is_ascii_lowercase b && list_all (λ c. is_ascii_lowercase c || is_ascii_digit c || c == 45) bs) (nat_le (length (b ∷ bs)) 16) is in
    let letters = and_parts (is_ascii_lowercase b) (list_all (λ c. is_ascii_lowercase c || is_ascii_digit c || c == 45) bs) parts.0 in
    (within 97 122 b letters.0 (omega arith), all_small (λ c. is_ascii_lowercase c || is_ascii_digit c || c == 45) name_byte_small bs letters.1)

-- ---- terms

mutual
  tree_are_bytes : (ss : List Symbol) → length ss ≤ 64 → (t : Tree) → is_tree_over ss t ≡ true → AreBytes (tree_bytes t)
  tree_are_bytes ss few (name n) over = (omega arith, eight_are_bytes n)
  tree_are_bytes ss few (agent s ts) over =
      let parts = and_parts (has_arity (length (list_of ts)) (slice_get ss s)) (are_trees_over ss ts) over in
      let below = known_below ss s (length (list_of ts)) (slice_get ss s) refl parts.0 in
      (omega arith, trees_are_bytes ss few ts parts.1)

  trees_are_bytes : (ss : List Symbol) → length ss ≤ 64 → (ts : Trees) → are_trees_over ss ts ≡ true → AreBytes (trees_bytes ts)
  trees_are_bytes ss few no_trees over = tt
  trees_are_bytes ss few (more_trees t ts) over =
      let parts = and_parts (is_tree_over ss t) (are_trees_over ss ts) over in
      bytes_both (tree_bytes t) (trees_bytes ts) (tree_are_bytes ss few t parts.0) (trees_are_bytes ss few ts parts.1)

all_bytes : {X : Type 0} (p : X → Bool) (spell : X → List ℕ) → ((x : X) → p x ≡ true → AreBytes (spell x))
    → (xs : List X) → list_all p xs ≡ true → AreBytes (flat_map spell xs)
all_bytes p spell each [] all = tt
all_bytes p spell each (x ∷ xs) all =
    let parts = and_parts (p x) (list_all p xs) all in
    bytes_both (spell x) (flat_map spell xs) (each x parts.0) (all_bytes p spell each xs parts.1)

each_bytes : {X : Type 0} (P : X → Type 0) (spell : X → List ℕ) → ((x : X) → P x → AreBytes (spell x))
    → (xs : List X) → AllByRecursion P xs → AreBytes (flat_map spell xs)
each_bytes P spell each [] all = tt
each_bytes P spell each (x ∷ xs) all = bytes_both (spell x) (flat_map spell xs) (each x all.0) (each_bytes P spell each xs all.1)

pair_are_bytes : (ss : List Symbol) → length ss ≤ 64 → (p : Pair) → is_pair_over ss p ≡ true → AreBytes (pair_bytes p)
pair_are_bytes ss few p over =
    let parts = and_parts (is_tree_over ss p.left) (is_tree_over ss p.right) over in
    bytes_both (tree_bytes p.left) (tree_bytes p.right) (tree_are_bytes ss few p.left parts.0) (tree_are_bytes ss few p.right parts.1)

-- ---- jobs and tables

symbol_are_bytes : (s : Symbol) → IsTrue (is_symbol_text s.text) × IsTrue (fits_limits s.text s.arity) → AreBytes (symbol_bytes s)
symbol_are_bytes s is =
    let small = small_symbol s.text s.arity is.1 in
    bytes_both (text_bytes s.text) (s.arity ∷ []) (omega (arith, small.0), symbol_text_bytes s.text is.0) (omega (arith, small.1), tt)

rule_are_bytes : (ss : List Symbol) → length ss ≤ 64 → (r : Rule) → IsRuleOver ss r → AreBytes (rule_bytes r)
rule_are_bytes ss few r over =
    let left = known_below ss r.left (length r.left_args) (slice_get ss r.left) refl over.left in
    let right = known_below ss r.right (length r.right_args) (slice_get ss r.right) refl over.right in (
      omega arith,
      (
        omega arith,
        bytes_both (flat_map tree_bytes r.left_args) (flat_map tree_bytes r.right_args)
            (all_bytes (is_tree_over ss) tree_bytes (tree_are_bytes ss few) r.left_args over.left_args)
            (all_bytes (is_tree_over ss) tree_bytes (tree_are_bytes ss few) r.right_args over.right_args),
      ),
    )

state_small : (s : State) → state_number s < 256
state_small Running = omega arith
state_small _ = omega arith

budget_are_bytes : (form : Form) (budget : Option ℕ) → AreBytes (budget_bytes form budget)
budget_are_bytes Ict1 budget = tt
budget_are_bytes Ict2 budget = eight_are_bytes (budget_number budget)

heading_are_bytes : (form : Form) (h : Heading) → is_job_name h.name ≡ true → AreBytes (heading_bytes form h)
heading_are_bytes form h is =
    let after = budget_bytes form h.budget ++ eight_bytes h.next in
    bytes_both (text_bytes h.name) (state_number h.state ∷ (eight_bytes h.rounds ++ after))
    (omega (arith, short_name h.name is), name_bytes h.name is) (
      state_small h.state,
      bytes_both (eight_bytes h.rounds) after (eight_are_bytes h.rounds)
          (bytes_both (budget_bytes form h.budget) (eight_bytes h.next) (budget_are_bytes form h.budget) (eight_are_bytes h.next)),
    )

job_are_bytes : (form : Form) (j : JobParts) → IsJob j → AreBytes (job_bytes form j)
job_are_bytes form j is =
    let ss = j.rules.symbols in
    let c = j.config in
    let over = and_parts (list_all (is_tree_over ss) c.interface) (list_all (is_pair_over ss) c.equations) is.over in
    let rules = rules_bytes j.rules.rules in
    let config = configuration_bytes c in
    let symbols = symbols_bytes ss in
    let rules_are : AreBytes rules = bytes_both (two_bytes (length j.rules.rules)) (flat_map rule_bytes j.rules.rules) (two_are_bytes (length j.rules.rules))
    (each_bytes (IsRuleOver ss) rule_bytes (rule_are_bytes ss is.served.symbols) j.rules.rules ((first_unfit-None ss j.rules.rules).0 is.rules.fitting)) in
    let terms_are : AreBytes (flat_map tree_bytes c.interface ++ flat_map pair_bytes c.equations) =
    bytes_both (flat_map tree_bytes c.interface) (flat_map pair_bytes c.equations)
    (all_bytes (is_tree_over ss) tree_bytes (tree_are_bytes ss is.served.symbols) c.interface over.0)
    (all_bytes (is_pair_over ss) pair_bytes (pair_are_bytes ss is.served.symbols) c.equations over.1) in
    let config_are : AreBytes config = (
      omega (arith, is.config.interface),
      bytes_both (two_bytes (length c.equations)) (flat_map tree_bytes c.interface ++ flat_map pair_bytes c.equations) (two_are_bytes (length c.equations)) terms_are,
    ) in
    let symbols_are : AreBytes symbols = (
      omega (arith, is.served.symbols),
      each_bytes (λ s. IsTrue (is_symbol_text s.text) × IsTrue (fits_limits s.text s.arity)) symbol_bytes symbol_are_bytes ss is.symbols.each,
    ) in
    bytes_both (heading_bytes form (heading_of j)) (symbols ++ (rules ++ config)) (heading_are_bytes form (heading_of j) is.name)
    (bytes_both symbols (rules ++ config) symbols_are (bytes_both rules config rules_are config_are))

digit_small : (form : Form) → form_digit form < 256
digit_small Ict1 = omega arith
digit_small Ict2 = omega arith

pub table_are_bytes : (form : Form) (t : List JobParts) → IsTable t → AreBytes (table_bytes_in form t)
table_are_bytes form t is =
    bytes_both (form_head form) (length t ∷ flat_map (job_bytes form) t) (omega arith, (omega arith, (omega arith, (digit_small form, tt))))
    (omega (arith, is.few), each_bytes IsJob (job_bytes form) (job_are_bytes form) t is.each)
