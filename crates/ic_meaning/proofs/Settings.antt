-- Lemmas: the fresh names of a rule, where a plan reads some of its names from arguments.
use Rattle.std.proofs.Common.{◌≡◌, ◌⊎◌, ℕ, zero, suc, ◌+◌, ◌-◌, ◌≤◌, ◌<◌, ◌==◌, List, [], ◌∷◌, ◌++◌, Bool, true, false, cond, None, Some, length, map, nat_lt, slice_get, refl, sym, ap, ◌∙◌, arith, inl, inr, subst as transport}
use Rattle.std.proofs.lemmas.Bool.{and_parts, lt-ltb, le-ltb, cases_lt}
use Rattle.std.proofs.lemmas.List.{length-append}
use Rattle.std.proofs.lemmas.Option.{slice_get_within}
use Rattle.std.specs.Cmp.{unsigned_Decides}
use Rattle.std.specs.List.{flat_map, list_all, AllByRecursion}
use Rattle.std.proofs.lemmas.Grind.{flat_map-append as flat_parts}
use Rattle.ic_term.specs.Tree.{Tree, name, names, Pair}
use Rattle.ic_term.specs.Configuration.{Configuration, configuration_names, names_in, occurrences, one_above}
use Rattle.ic_rules.specs.Rule.{Rule, rule_names, IsRule}
use Rattle.ic_settle.specs.lemmas.SubstitutionLaws.{occurrences-append, occurrences-cons, All-front, All-back, All-append}
use Rattle.ic_settle.specs.lemmas.StepLaws.{itself_once as occurs_once}
use Rattle.ic_round.specs.Naming.{HasNames}
use Rattle.ic_round.specs.lemmas.FreshNames.{rule_below, absent_above}
use Rattle.ic_reaching.specs.FreshNames.{AreFresh}
use Rattle.ic_arena.specs.declared.word.Word.{Word}
use Rattle.ic_arena.specs.Word.{word_eq, count}
use Rattle.ic_arena.specs.Tables.{register}
use Rattle.ic_machine.specs.Separate.{is_constant_tag}
use Rattle.ic_meaning.specs.Words.{Numbers, AreNumbers, term}
use Rattle.ic_meaning.specs.Plans.{Argument, arguments_from, arguments_of, HasRegister, met_as}
use Rattle.ic_meaning.specs.lemmas.Terms.{word_itself, place_term}
use Rattle.ic_meaning.proofs.Named.{Named, Left, arguments_names}
use Rattle.ic_meaning.proofs.Registers.{register_back, register_front, once_at, place_below, register_names, held_in, registers_of, held_constant, held_later}

-- a place that is new to a configuration, and to the terms and equations that stay
pub record FreeWord (n : Numbers) (d : Configuration) (ts : List Tree) (es : List Pair) (later : List Word) (w : Word) : Type 0 where
  pub place : is_constant_tag n.arities w.tag ≡ false
  pub absent : occurrences (n.of_place w) (configuration_names d) ≡ 0
  pub beside : occurrences (n.of_place w) (names_in ts es) ≡ 0
  pub once : count w later ≤ 1

-- A rule that fires in a configuration: the arguments of its agents, and the new places, of which the first are names.
pub record Setting (n : Numbers) (d : Configuration) (ts : List Tree) (es : List Pair) (args ws : List Word) (rule : Rule) (fresh : ℕ) (registers : ℕ → ℕ) : Type 0 where
  pub sound : AreNumbers n
  pub named : HasNames d
  pub length_is : length args ≡ length (rule.left_args ++ rule.right_args)
  pub enough : fresh ≤ length ws
  pub read : (x : ℕ) → x < rule.names
      → HasRegister (arguments_of (length n.arities) rule) registers (length n.arities + length (rule.left_args ++ rule.right_args)) fresh x
  pub apart : (x y : ℕ) → x < rule.names → y < rule.names → registers x ≡ registers y → x ≡ y
  pub free : (j : ℕ) → j < length ws → FreeWord n d ts es (args ++ ws) (register ws j)
  pub beside : (m : ℕ) → occurrences m (names_in ts es) ≤ occurrences m (configuration_names d)
  pub inside : (m : ℕ) → occurrences m (flat_map names (map (term n) args)) ≤ occurrences m (configuration_names d)

-- the register after those of the arguments
abbrev pub after_arguments : Numbers → Rule → ℕ
after_arguments n rule = length n.arities + length (rule.left_args ++ rule.right_args)

-- a number above all names, and above those of new places
abbrev pub above_all : Numbers → Configuration → List Word → ℕ
above_all n d ws = d.next + one_above (map n.of_place ws)

-- the names of the rule's copy
abbrev pub own_name : Numbers → Configuration → List Word → Rule → (ℕ → ℕ) → ℕ → ℕ
own_name n d ws rule registers x =
    cond (nat_lt (registers x) (after_arguments n rule)) (above_all n d ws + x)
    (n.of_place (register ws (registers x - after_arguments n rule)))

own_read : (n : Numbers) (d : Configuration) (ws : List Word) (rule : Rule) (registers : ℕ → ℕ) (x : ℕ) → registers x < after_arguments n rule
    → own_name n d ws rule registers x ≡ above_all n d ws + x
own_read n d ws rule registers x low = rw (lt-ltb (registers x) (after_arguments n rule) low) refl

own_fresh : (n : Numbers) (d : Configuration) (ws : List Word) (rule : Rule) (registers : ℕ → ℕ) (x : ℕ) → after_arguments n rule ≤ registers x
    → own_name n d ws rule registers x ≡ n.of_place (register ws (registers x - after_arguments n rule))
own_fresh n d ws rule registers x high = rw (le-ltb (registers x) (after_arguments n rule) high) refl

some_argument : {x y : Argument} → Some x ≡ Some y → x ≡ y
some_argument e = cc

-- an argument at a place
argument_at : (k : ℕ) (ts : List Tree) (i a : ℕ) (t : Tree) → slice_get (arguments_from k ts) i ≡ Some (record { register = a; term = t })
    → (a ≡ k + i) × (slice_get ts i ≡ Some t)
argument_at k [] i a t is = absurd (none_some is)
  where
    none_some : {x : Argument} → None ≡ Some x → ⊥
    none_some e = cc
argument_at k (u ∷ ts) zero a t is =
    let both = some_argument is in
    let register_is : k ≡ a = ap (λ (z : Argument). z.register) both in
    let term_is : u ≡ t = ap (λ (z : Argument). z.term) both in
    ((let zero_is : k + 0 ≡ k = omega arith in sym register_is ∙ sym zero_is), ap Some term_is)
argument_at k (u ∷ ts) (suc i) a t is =
    let rest = argument_at (k + 1) ts i a t is in
    ((let next : (k + 1) + i ≡ k + suc i = omega arith in rest.0 ∙ next), rest.1)

-- where a name is read
pub where_read : (n : Numbers) (d : Configuration) (ts : List Tree) (es : List Pair) (args ws : List Word) (rule : Rule) (fresh : ℕ) (registers : ℕ → ℕ)
    → Setting n d ts es args ws rule fresh registers → (x : ℕ) → x < rule.names
    → ((after_arguments n rule ≤ registers x) × (registers x < after_arguments n rule + fresh))
    ⊎ ((length n.arities ≤ registers x) × (registers x < after_arguments n rule) × (slice_get (rule.left_args ++ rule.right_args) (registers x - length n.arities) ≡ Some (name x)))
where_read n d ts es args ws rule fresh registers s x low = at (s.read x low)
  where
    at : HasRegister (arguments_of (length n.arities) rule) registers (after_arguments n rule) fresh x
        → ((after_arguments n rule ≤ registers x) × (registers x < after_arguments n rule + fresh))
        ⊎ ((length n.arities ≤ registers x) × (registers x < after_arguments n rule) × (slice_get (rule.left_args ++ rule.right_args) (registers x - length n.arities) ≡ Some (name x)))
    at (inl here) = inl here
    at (inr (i, is)) =
        let both = argument_at (length n.arities) (rule.left_args ++ rule.right_args) i (registers x) (name x) is in
        let place = both.0 in
        let inside = slice_get_within (rule.left_args ++ rule.right_args) i (name x) both.1 in
        let at_place : registers x - length n.arities ≡ i = omega arith in
        inr (
          (let h : length n.arities ≤ registers x = omega arith in h),
          (let h : registers x < after_arguments n rule = omega arith in h),
          ap (slice_get (rule.left_args ++ rule.right_args)) at_place ∙ both.1,
        )

-- a fresh name is the place that its register holds
pub fresh_held : (n : Numbers) (d : Configuration) (ts : List Tree) (es : List Pair) (args ws : List Word) (rule : Rule) (fresh : ℕ) (registers : ℕ → ℕ)
    → Setting n d ts es args ws rule fresh registers → (x : ℕ) → after_arguments n rule ≤ registers x → registers x < after_arguments n rule + fresh
    → name (own_name n d ws rule registers x) ≡ held_in n (registers_of n (args ++ ws)) (registers x)
fresh_held n d ts es args ws rule fresh registers s x high low =
    let j : ℕ = registers x - after_arguments n rule in
    let length_is = s.length_is in
    let enough = s.enough in
    let inside : j < length ws = omega arith in
    let split : length n.arities + (length args + j) ≡ registers x = omega arith in
    let word = held_later n (args ++ ws) (length args + j) in
    let back = ap (term n) (register_back args ws j) in
    let place = place_term n (register ws j) (s.free j inside).place in
    ap name (own_fresh n d ws rule registers x high)
    ∙ sym (ap (held_in n (registers_of n (args ++ ws))) (sym split) ∙ (word ∙ (back ∙ place)))

pub names_fresh : (n : Numbers) (d : Configuration) (ts : List Tree) (es : List Pair) (args ws : List Word) (rule : Rule) (fresh : ℕ) (registers : ℕ → ℕ)
    → Setting n d ts es args ws rule fresh registers → AreFresh d rule.names (above_all n d ws + rule.names) (own_name n d ws rule registers)
names_fresh n d ts es args ws rule fresh registers s = record {
  absent = absent_at;
  apart = apart_at;
  below = below_at;
}
  where
    inside : (x : ℕ) → x < rule.names → after_arguments n rule ≤ registers x → registers x - after_arguments n rule < length ws
    inside x low high = at (where_read n d ts es args ws rule fresh registers s x low)
      where
        at : ((after_arguments n rule ≤ registers x) × (registers x < after_arguments n rule + fresh))
            ⊎ ((length n.arities ≤ registers x) × (registers x < after_arguments n rule) × (slice_get (rule.left_args ++ rule.right_args) (registers x - length n.arities) ≡ Some (name x)))
            → registers x - after_arguments n rule < length ws
        at (inl here) = let a = here.1 in let enough = s.enough in omega arith
        at (inr here) = let a = here.1 in absurd (omega arith)

    absent_at : (x : ℕ) → x < rule.names → occurrences (own_name n d ws rule registers x) (configuration_names d) ≡ 0
    absent_at x low = elim (cases_lt (registers x) (after_arguments n rule)) [
      | inl less ↦
          ap (λ (y : ℕ). occurrences y (configuration_names d)) (own_read n d ws rule registers x less)
          ∙ absent_above (above_all n d ws + x) d.next (configuration_names d) s.named.below (omega arith)
      | inr high ↦
          ap (λ (y : ℕ). occurrences y (configuration_names d)) (own_fresh n d ws rule registers x high)
          ∙ (s.free (registers x - after_arguments n rule) (inside x low high)).absent
    ]

    low_place : (x : ℕ) → x < rule.names → after_arguments n rule ≤ registers x → own_name n d ws rule registers x < above_all n d ws
    low_place x low high =
        let is = own_fresh n d ws rule registers x high in
        let below = place_below n.of_place ws (registers x - after_arguments n rule) (inside x low high) in
        omega arith

    apart_at : (x y : ℕ) → x < rule.names → y < rule.names → own_name n d ws rule registers x ≡ own_name n d ws rule registers y → x ≡ y
    apart_at x y lx ly same = elim (cases_lt (registers x) (after_arguments n rule)) [
      | inl less ↦ elim (cases_lt (registers y) (after_arguments n rule)) [
        | inl less_too ↦
            let one = own_read n d ws rule registers x less in
            let two = own_read n d ws rule registers y less_too in
            omega arith
        | inr high_too ↦
            let one = own_read n d ws rule registers x less in
            let two = low_place y ly high_too in
            absurd (omega arith)
      ]
      | inr high ↦ elim (cases_lt (registers y) (after_arguments n rule)) [
        | inl less_too ↦
            let one = own_read n d ws rule registers y less_too in
            let two = low_place x lx high in
            absurd (omega arith)
        | inr high_too ↦ both_fresh x y lx ly same high high_too
      ]
    ]
      where
        both_fresh : (x y : ℕ) → x < rule.names → y < rule.names → own_name n d ws rule registers x ≡ own_name n d ws rule registers y
            → after_arguments n rule ≤ registers x → after_arguments n rule ≤ registers y → x ≡ y
        both_fresh x y lx ly same hx hy =
            let i : ℕ = registers x - after_arguments n rule in
            let j : ℕ = registers y - after_arguments n rule in
            let li = inside x lx hx in
            let lj = inside y ly hy in
            let names_same : n.of_place (register ws i) ≡ n.of_place (register ws j) =
            sym (own_fresh n d ws rule registers x hx) ∙ (same ∙ own_fresh n d ws rule registers y hy) in
            let equal = s.sound.apart (register ws i) (register ws j) names_same in
            let once = (s.free i li).once in
            let len = length-append args ws in
            let back_i = register_back args ws i in
            let back_j = register_back args ws j in
            let at_one = once_at (register ws i) (args ++ ws) (length args + i) (length args + j) once (omega arith) (omega arith)
            (ap (word_eq (register ws i)) back_i ∙ word_itself (register ws i)) (ap (word_eq (register ws i)) back_j ∙ equal) in
            s.apart x y lx ly (omega arith)

    below_at : (x : ℕ) → x < rule.names → own_name n d ws rule registers x < above_all n d ws + rule.names
    below_at x low = elim (cases_lt (registers x) (after_arguments n rule)) [
      | inl less ↦ let is = own_read n d ws rule registers x less in omega arith
      | inr high ↦ let is = low_place x low high in omega arith
    ]

pub names_named : (n : Numbers) (d : Configuration) (ts : List Tree) (es : List Pair) (args ws : List Word) (rule : Rule) (fresh : ℕ) (registers : ℕ → ℕ)
    → Setting n d ts es args ws rule fresh registers
    → Named rule.names (after_arguments n rule) (held_in n (registers_of n (args ++ ws))) registers (own_name n d ws rule registers) ts es
names_named n d ts es args ws rule fresh registers s = record {
  apart = s.apart;
  own_apart = (names_fresh n d ts es args ws rule fresh registers s).apart;
  not_held = λ x low less j inside. not_held_at x low j inside;
  not_beside = λ x low less.
      let none = (names_fresh n d ts es args ws rule fresh registers s).absent x low in
      let few = s.beside (own_name n d ws rule registers x) in
      omega arith;
}
  where
    not_held_at : (x : ℕ) → x < rule.names → (j : ℕ) → j < after_arguments n rule
        → occurrences (own_name n d ws rule registers x) (names (held_in n (registers_of n (args ++ ws)) j)) ≡ 0
    not_held_at x low j less = elim (cases_lt j (length n.arities)) [
      | inl constant ↦ ap (λ (t : Tree). occurrences (own_name n d ws rule registers x) (names t)) (held_constant n (registers_of n (args ++ ws)) j constant)
      | inr high ↦
          let i : ℕ = j - length n.arities in
          let length_is = s.length_is in
          let inside : i < length args = omega arith in
          let split : length n.arities + i ≡ j = omega arith in
          let y : ℕ = own_name n d ws rule registers x in
          let is : held_in n (registers_of n (args ++ ws)) j ≡ term n (register args i) =
          ap (held_in n (registers_of n (args ++ ws))) (sym split) ∙ (held_later n (args ++ ws) i ∙ ap (term n) (front i inside)) in
          let same = ap (λ (t : Tree). occurrences y (names t)) is in
          let few = register_names n y args i inside in
          let more = s.inside y in
          let none = (names_fresh n d ts es args ws rule fresh registers s).absent x low in
          omega arith
    ]
      where
        front : (i : ℕ) → i < length args → register (args ++ ws) i ≡ register args i
        front i inside = register_front args ws i inside

-- ---- the names of a rule

two_of_paired : (all ns : List ℕ) → list_all (λ m. occurrences m all == 2) ns ≡ true → (z : ℕ) → 1 ≤ occurrences z ns → occurrences z all ≡ 2
two_of_paired all [] paired z some = absurd (omega arith)
two_of_paired all (m ∷ ns) paired z some =
    let both = and_parts (occurrences m all == 2) (list_all (λ k. occurrences k all == 2) ns) paired in
    let parts = occurrences-cons z m ns in
    at (m == z) refl both.0 parts (two_of_paired all ns both.1 z)
  where
    at : (b : Bool) → (m == z) ≡ b → (occurrences m all == 2) ≡ true → occurrences z (m ∷ ns) ≡ cond (m == z) 1 0 + occurrences z ns
        → (1 ≤ occurrences z ns → occurrences z all ≡ 2) → occurrences z all ≡ 2
    at true e two parts rest =
        let same = (unsigned_Decides m z).0 e in
        ap (λ (y : ℕ). occurrences y all) (sym same) ∙ (unsigned_Decides (occurrences m all) 2).0 two
    at false e two parts rest = let none : ◌≡◌ {A = ℕ} (cond (m == z) 1 0) 0 = rw e refl in rest (omega arith)

some_at : (z : ℕ) (ts : List Tree) (i : ℕ) → slice_get ts i ≡ Some (name z) → 1 ≤ occurrences z (flat_map names ts)
some_at z [] i is = absurd (none_some is)
  where
    none_some : {X : Type 0} {x : X} → None ≡ Some x → ⊥
    none_some e = cc
some_at z (t ∷ ts) zero is =
    let same : t ≡ name z = cc in
    let parts = occurrences-append z (names t) (flat_map names ts) in
    let here : occurrences z (names t) ≡ 1 = ap (λ (u : Tree). occurrences z (names u)) same ∙ occurs_once z in
    omega arith
some_at z (t ∷ ts) (suc i) is =
    let parts = occurrences-append z (names t) (flat_map names ts) in
    let rest = some_at z ts i is in
    omega arith

met_names : (turned : Bool) (r : Rule) (z : ℕ)
    → occurrences z (flat_map names ((met_as turned r).left_args ++ (met_as turned r).right_args)) ≡ occurrences z (rule_names r)
met_names false r z = ap (occurrences z) (flat_parts names r.left_args r.right_args)
met_names true r z =
    let one = occurrences-append z (flat_map names r.right_args) (flat_map names r.left_args) in
    let two = occurrences-append z (flat_map names r.left_args) (flat_map names r.right_args) in
    let all = ap (occurrences z) (flat_parts names r.right_args r.left_args) in
    omega arith

met_below : (turned : Bool) (r : Rule) → IsRule r → AllByRecursion (λ z. z < r.names) (flat_map names ((met_as turned r).left_args ++ (met_as turned r).right_args))
met_below false r is = transport (AllByRecursion (λ z. z < r.names)) (sym (flat_parts names r.left_args r.right_args)) (rule_below r is)
met_below true r is =
    let all = rule_below r is in
    transport (AllByRecursion (λ z. z < r.names)) (sym (flat_parts names r.right_args r.left_args))
    (All-append (λ z. z < r.names) (flat_map names r.right_args) (flat_map names r.left_args)
    (All-back (λ z. z < r.names) (flat_map names r.left_args) (flat_map names r.right_args) all)
    (All-front (λ z. z < r.names) (flat_map names r.left_args) (flat_map names r.right_args) all))

pub met_count : (turned : Bool) (r : Rule) → (met_as turned r).names ≡ r.names
met_count false r = refl
met_count true r = refl

pub arguments_left : (n : Numbers) (d : Configuration) (ts : List Tree) (es : List Pair) (args ws : List Word) (turned : Bool) (r : Rule) (fresh : ℕ) (registers : ℕ → ℕ)
    → IsRule r → Setting n d ts es args ws (met_as turned r) fresh registers
    → Left r.names (after_arguments n (met_as turned r)) registers (length n.arities) ((met_as turned r).left_args ++ (met_as turned r).right_args) []
arguments_left n d ts es args ws turned r fresh registers is s =
    let rule : Rule = met_as turned r in
    let all : List Tree = rule.left_args ++ rule.right_args in
    let k : ℕ = length n.arities in
    let count_is : rule.names ≡ r.names = met_count turned r in
    let found : (z : ℕ) → z < r.names → registers z < after_arguments n rule → slice_get all (registers z - k) ≡ Some (name z) =
    (λ z low less. elim (where_read n d ts es args ws rule fresh registers s z (omega arith)) [
      | inl here ↦ (let a = here.0 in absurd (omega arith))
      | inr here ↦ here.2
    ]) in
    record {
      length_is = refl;
      inside = tt;
      below = transport (AllByRecursion (λ z. z < r.names)) (sym (arguments_names k all)) (met_below turned r is);
      below_too = tt;
      read = λ z low high less. found z low less;
      twice = λ z low high less.
          let same = ap (occurrences z) (arguments_names k all) in
          let names_same = met_names turned r z in
          let some = some_at z all (registers z - k) (found z low less) in
          let two = two_of_paired (rule_names r) (rule_names r) is.paired z (omega arith) in
          omega arith;
    }
