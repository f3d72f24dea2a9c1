-- Lemmas: parts that run side by side.
use Rattle.std.proofs.Common.{◌≡◌, ◌⊎◌, ℕ, ◌+◌, ◌≤◌, ◌<◌, List, [], ◌∷◌, ◌++◌, Bool, true, false, append-nil, refl, sym, ap, ◌∙◌, arith, inl, inr, subst as transport}
use Rattle.std.proofs.lemmas.Bool.{and_parts, cases_lt}
use Rattle.std.proofs.lemmas.List.Folds.{list_all-append}
use Rattle.std.proofs.lemmas.List.Sorted.{IsPermutation-append_comm}
use Rattle.std.specs.List.{list_all}
use Rattle.std.specs.Prelude.{◌↔◌}
use Rattle.ic_term.specs.Configuration.{Configuration, configuration_names, names_in, occurrences}
use Rattle.ic_term.specs.Symbol.{is_tree_over, is_pair_over, is_over}
use Rattle.ic_rules.specs.RuleSet.{Rules, IsRuleSet}
use Rattle.ic_settle.specs.lemmas.SubstitutionLaws.{and_both}
use Rattle.ic_round.specs.Naming.{HasNames}
use Rattle.ic_round.specs.lemmas.FiredNames.{All-mono}
use Rattle.ic_confluence.specs.Kinds.{Kind, StepOf, Chain}
use Rattle.ic_confluence.specs.Sameness.{renamed_in, renaming}
use Rattle.ic_confluence.specs.lemmas.Counts.{below_next}
use Rattle.ic_confluence.specs.lemmas.Puts.{undone_is_one_to_one, occurrences-renamed_in}
use Rattle.ic_reaching.specs.OneNet.{OneNet}
use Rattle.ic_reaching.specs.Reaching.{Reaches}
use Rattle.ic_reaching.specs.Beside.{together, IsApart}
use Rattle.ic_reaching.proofs.Given.{SettlingLaws, StepLaws}
use Rattle.ic_reaching.proofs.Nets.{from_same, from_next, net_other_way, net_through}
use Rattle.ic_reaching.specs.lemmas.Orders.{permuted}
use Rattle.ic_reaching.proofs.FreshNets.{absent_from}
use Rattle.ic_reaching.proofs.Firing.{Sound, sound_step}
use Rattle.ic_reaching.proofs.Reached.{goes_to_net, reaches_joined}
use Rattle.ic_reaching.proofs.FarNames.{far, top_of, far_back, far_keeps, far_moves, far_above}
use Rattle.ic_reaching.proofs.Beside.{Rest, rest_names, with_rest, ApartFrom, names_beside}
use Rattle.ic_reaching.proofs.Frames.{ShapeLaws, frees_of, are_frees, beginning, net_singles}
use Rattle.ic_reaching.proofs.Parts.{above, Few, at_end, few_of, apart_by, net_of_wholes, whole_reaches, names_above, rest_below_above}

-- no step changes which names occur once
abbrev pub FreeStep : Type 0
FreeStep = (rs : Rules) (kind : Kind) (c d : Configuration) → IsRuleSet rs → is_over rs.symbols c ≡ true → HasNames c → StepOf rs.rules kind c d → (n : ℕ)
    → (occurrences n (configuration_names c) ≡ 1) ↔ (occurrences n (configuration_names d) ≡ 1)

chain_singles : FreeStep → (rs : Rules) → IsRuleSet rs → (ks : List Kind) (c d : Configuration) → Sound rs c → Chain rs.rules ks c d → (n : ℕ)
    → occurrences n (configuration_names d) ≡ 1 → occurrences n (configuration_names c) ≡ 1
chain_singles free rs set [] c d sound chain n once = let P : Configuration → Type 0 = λ x. occurrences n (configuration_names x) ≡ 1 in transport P (sym chain) once
chain_singles free rs set (k ∷ ks) c d sound (e, step, chain) n once =
    (free rs k c e set sound.over sound.named step n).1 (chain_singles free rs set ks e d (sound_step rs k c e set sound step) chain n once)

chain_kept : FreeStep → (rs : Rules) → IsRuleSet rs → (ks : List Kind) (c d : Configuration) → Sound rs c → Chain rs.rules ks c d → (n : ℕ)
    → occurrences n (configuration_names c) ≡ 1 → occurrences n (configuration_names d) ≡ 1
chain_kept free rs set [] c d sound chain n once = let P : Configuration → Type 0 = λ x. occurrences n (configuration_names x) ≡ 1 in transport P chain once
chain_kept free rs set (k ∷ ks) c d sound (e, step, chain) n once =
    chain_kept free rs set ks e d (sound_step rs k c e set sound step) chain n ((free rs k c e set sound.over sound.named step n).0 once)

-- the free names of one net, and of what is reached
pub net_free : ShapeLaws → (c d : Configuration) → OneNet c d → (n : ℕ) → (occurrences n (configuration_names c) ≡ 1) ↔ (occurrences n (configuration_names d) ≡ 1)
net_free shapes c d net n = (net_singles shapes d c (net_other_way shapes.nets c d net) n, net_singles shapes c d net n)

pub reached_free : FreeStep → ShapeLaws → (rs : Rules) (c d : Configuration) (fired : List ℕ) → IsRuleSet rs → Sound rs c → Reaches rs.rules c d fired → (n : ℕ)
    → (occurrences n (configuration_names c) ≡ 1) ↔ (occurrences n (configuration_names d) ≡ 1)
reached_free free shapes rs c d fired set sound r n =
    let net = net_free shapes r.end d r.net n in
    (λ once. net.0 (chain_kept free rs set r.kinds c r.end sound r.chain n once), λ once. chain_singles free rs set r.kinds c r.end sound r.chain n (net.1 once))

-- ---- a part whose names are far away, but for the free ones

abbrev away : ℕ → Configuration → Configuration
away bound c = renamed_in (far (frees_of c) bound) (beginning (top_of bound) c)

net_away : StepLaws → SettlingLaws → (bound : ℕ) (c : Configuration) → HasNames c → c.next ≤ bound → OneNet c (away bound c)
net_away laws nets bound c named low =
    let begun = beginning (top_of bound) c in
    let keeps = frees_of c in
    let begun_named : HasNames begun = record {
      below = All-mono (λ n. n < c.next) (λ n. n < top_of bound) (λ n less. omega (arith, less, low)) (configuration_names c) named.below;
      twice = named.twice;
    } in
    net_through nets c begun (away bound c) (from_next laws.nets c (top_of bound) named begun_named)
    (from_same laws.nets begun (away bound c) begun_named (renaming begun (away bound c) (record {
      to = far keeps bound;
      from = far keeps bound;
      there_and_back = far_back keeps bound;
      back_and_there = far_back keeps bound;
      free = λ n once. far_keeps keeps bound n (let less = below_next c named n (omega (arith, once)) in omega (arith, less, low)) ((are_frees c).only n once);
      fresh = far_above keeps bound;
      result = refl;
    })))

-- what is not far away is a free name
free_away : (bound : ℕ) (c : Configuration) → HasNames c → c.next ≤ bound → (n : ℕ) → n < bound → 1 ≤ occurrences n (configuration_names (away bound c))
    → (occurrences n (configuration_names c) ≡ 1) × (occurrences n (configuration_names (away bound c)) ≡ 1)
free_away bound c named low n near some = at (keeps (s n)) refl
  where
    keeps : ℕ → Bool
    keeps = frees_of c

    s : ℕ → ℕ
    s = far keeps bound

    back : (k : ℕ) → s (s k) ≡ k
    back = far_back keeps bound

    counts : occurrences n (configuration_names (away bound c)) ≡ occurrences (s n) (configuration_names c)
    counts =
        let P : ℕ → Type 0 = λ k. occurrences k (configuration_names (away bound c)) ≡ occurrences (s n) (configuration_names c) in
        transport P (back n) (occurrences-renamed_in s (undone_is_one_to_one s s back) (s n) (beginning (top_of bound) c))

    less : s n < bound
    less = let below = below_next c named (s n) (omega (arith, counts, some)) in omega (arith, below, low)

    at : (b : Bool) → keeps (s n) ≡ b → (occurrences n (configuration_names c) ≡ 1) × (occurrences n (configuration_names (away bound c)) ≡ 1)
    at true e =
        let once = (are_frees c).kept (s n) e in
        let still = sym (far_keeps keeps bound (s n) less e) ∙ back n in
        let P : ℕ → Type 0 = λ k. occurrences k (configuration_names c) ≡ 1 in
        (transport P still once, counts ∙ once)
    at false e =
        let gone = far_moves keeps bound (s n) less e in
        let same = back n in
        absurd (omega (arith, gone, same, near))

-- ---- two parts, and each of them the rest of the other

few_of_both : (c d : Configuration) → HasNames c → HasNames d → ((n : ℕ) → 1 ≤ occurrences n (configuration_names d) → occurrences n (configuration_names c) ≤ 1)
    → ((n : ℕ) → 1 ≤ occurrences n (configuration_names c) → occurrences n (configuration_names d) ≤ 1) → (n : ℕ) → occurrences n (configuration_names c) + occurrences n (configuration_names d) ≤ 2
few_of_both c d named also one other n = at (cases_lt 0 (occurrences n (configuration_names c))) (cases_lt 0 (occurrences n (configuration_names d)))
  where
    at : (0 < occurrences n (configuration_names c)) ⊎ (occurrences n (configuration_names c) ≤ 0) → (0 < occurrences n (configuration_names d)) ⊎ (occurrences n (configuration_names d) ≤ 0)
        → occurrences n (configuration_names c) + occurrences n (configuration_names d) ≤ 2
    at (inr none) there = let two = also.twice n in omega (arith, none, two)
    at (inl some) (inr none) = let two = named.twice n in omega (arith, none, two)
    at (inl some) (inl more) = let a = one n (omega (arith, more)) in let b = other n (omega (arith, some)) in omega (arith, a, b)

-- one part at the end, or at the beginning
abbrev pub last : Configuration → Rest
last c = at_end c.interface c.equations

abbrev first : Configuration → Rest
first c = record { before = c.interface; after = []; equations = c.equations }

names_of_first : (c : Configuration) (n : ℕ) → occurrences n (rest_names (first c)) ≡ occurrences n (configuration_names c)
names_of_first c n = ap (λ ts. occurrences n (names_in ts c.equations)) (append-nil c.interface)

pub whole_named : (r : Rest) (c : Configuration) → HasNames c → Few r c → HasNames (with_rest r (above r c))
whole_named r c named few = names_beside r (above r c) (names_above r c named) (rest_below_above r c) few

exchanged_parts : StepLaws → SettlingLaws → (c d : Configuration) → HasNames (with_rest (last d) (above (last d) c)) → HasNames (with_rest (first c) (above (first c) d))
    → OneNet (with_rest (last d) (above (last d) c)) (with_rest (first c) (above (first c) d))
exchanged_parts laws nets c d named also =
    let one = with_rest (last d) (above (last d) c) in
    let middle : Configuration = record { interface = c.interface ++ d.interface; equations = d.equations ++ c.equations; next = one.next } in
    let next = (with_rest (first c) (above (first c) d)).next in
    let order = from_same laws.nets one middle named (permuted one (d.equations ++ c.equations) (IsPermutation-append_comm c.equations d.equations)) in
    let is : with_rest (first c) (above (first c) d) ≡ beginning next middle = (λ i. record {
      interface = c.interface ++ append-nil d.interface i;
      equations = d.equations ++ c.equations;
      next = next;
    }) in
    let P : Configuration → Type 0 = OneNet one in
    transport P (sym is) (net_through nets one middle (beginning next middle) order (from_next laws.nets middle next order.names_too (transport HasNames is also)))

-- ---- both parts run, each by itself

pub over_together : (rs : Rules) (c d : Configuration) → is_over rs.symbols c ≡ true → is_over rs.symbols d ≡ true → is_over rs.symbols (together c d) ≡ true
over_together rs c d over also =
    let ss = rs.symbols in
    let one = and_parts (list_all (is_tree_over ss) c.interface) (list_all (is_pair_over ss) c.equations) over in
    let other = and_parts (list_all (is_tree_over ss) d.interface) (list_all (is_pair_over ss) d.equations) also in
    and_both (list_all-append (is_tree_over ss) c.interface d.interface ∙ and_both one.0 other.0)
    (list_all-append (is_pair_over ss) c.equations d.equations ∙ and_both one.1 other.1)

pub side_by_side : FreeStep → StepLaws → SettlingLaws → ShapeLaws → (rs : Rules) (c d e f : Configuration) (fired also : List ℕ) → IsRuleSet rs → Sound rs c → Sound rs d
    → Reaches rs.rules c e fired → Reaches rs.rules d f also → HasNames (together c d) → IsApart e f.interface f.equations → IsApart f e.interface e.equations
    → Reaches rs.rules (together c d) (together e f) (fired ++ also)
side_by_side free laws nets shapes rs c d e f fired also set sound sound_d one two named apart_ef apart_fe =
    goes_to_net nets rs.rules (together c d) (with_rest (first g) (above (first g) f)) (together e f) (fired ++ also)
    (reaches_joined laws nets rs (together c d) (with_rest (first g) (above (first g) d)) (with_rest (first g) (above (first g) f)) fired also set sound_whole
    (goes_to_net nets rs.rules (together c d) (together g d) (with_rest (first g) (above (first g) d)) fired run_one
    (exchanged_parts laws nets g d (whole_named (last d) g named_g few_gd) (whole_named (first g) d sound_d.named few_dg)))
    run_two)
    (net_through nets (with_rest (first g) (above (first g) f)) (together g f) (together e f)
    (net_other_way laws.nets (together g f) (with_rest (first g) (above (first g) f)) (exchanged_parts laws nets g f (whole_named (last f) g named_g few_gf) (whole_named (first g) f named_f few_fg)))
    (net_of_wholes laws nets shapes (last f) g e (net_other_way laws.nets e g net_g) apart_gf apart_ef.once few_gf))
  where
    named_e : HasNames e
    named_e = one.net.names_too

    named_f : HasNames f
    named_f = two.net.names_too

    bound : ℕ
    bound = e.next + (d.next + f.next)

    g : Configuration
    g = away bound e

    net_g : OneNet e g
    net_g = net_away laws nets bound e named_e (omega arith)

    named_g : HasNames g
    named_g = net_g.names_too

    reached_g : Reaches rs.rules c g fired
    reached_g = goes_to_net nets rs.rules c e g fired one net_g

    near : (n : ℕ) → n < bound → 1 ≤ occurrences n (configuration_names g) → (occurrences n (configuration_names e) ≡ 1) × (occurrences n (configuration_names g) ≡ 1)
    near = free_away bound e named_e (omega arith)

    -- the free names of what is reached are those of the part
    began : (n : ℕ) → occurrences n (configuration_names e) ≡ 1 → occurrences n (configuration_names c) ≡ 1
    began n once = (reached_free free shapes rs c e fired set sound one n).1 once

    below : (x : Configuration) → HasNames x → x.next ≤ bound → (n : ℕ) → 1 ≤ occurrences n (configuration_names x) → occurrences n (configuration_names g) ≤ 1
    below x named low n some = elim (cases_lt 0 (occurrences n (configuration_names g))) [
      | inl here ↦ let both = near n (let less = below_next x named n some in omega (arith, less, low)) (omega (arith, here)) in let once = both.1 in omega (arith, once)
      | inr none ↦ omega (arith, none)
    ]

    few_cd : Few (last d) c
    few_cd = few_of c d.interface d.equations named

    apart_dc : (n : ℕ) → 1 ≤ occurrences n (configuration_names c) → occurrences n (configuration_names d) ≤ 1
    apart_dc n some = let two = few_cd n in omega (arith, two, some)

    apart_gd : ApartFrom (last d) g
    apart_gd = below d sound_d.named (omega arith)

    apart_gf : ApartFrom (last f) g
    apart_gf = below f named_f (omega arith)

    others_dg : (n : ℕ) → 1 ≤ occurrences n (configuration_names g) → occurrences n (configuration_names d) ≤ 1
    others_dg n some = elim (cases_lt n bound) [
      | inl low ↦ let both = near n low some in let once = began n both.0 in apart_dc n (omega (arith, once))
      | inr high ↦ let none = absent_from d sound_d.named n (omega (arith, high)) in omega (arith, none)
    ]

    others_fg : (n : ℕ) → 1 ≤ occurrences n (configuration_names g) → occurrences n (configuration_names f) ≤ 1
    others_fg n some = elim (cases_lt n bound) [
      | inl low ↦ let both = near n low some in let once = both.0 in apart_fe.once n (omega (arith, once))
      | inr high ↦ let none = absent_from f named_f n (omega (arith, high)) in omega (arith, none)
    ]

    apart_dg : ApartFrom (first g) d
    apart_dg n some = let same = names_of_first g n in others_dg n (omega (arith, same, some))

    apart_fg : ApartFrom (first g) f
    apart_fg n some = let same = names_of_first g n in others_fg n (omega (arith, same, some))

    few_gd : Few (last d) g
    few_gd = few_of_both g d named_g sound_d.named apart_gd others_dg

    few_gf : Few (last f) g
    few_gf = few_of_both g f named_g named_f apart_gf others_fg

    few_dg : Few (first g) d
    few_dg n = let same = names_of_first g n in let all = few_gd n in omega (arith, same, all)

    few_fg : Few (first g) f
    few_fg n = let same = names_of_first g n in let all = few_gf n in omega (arith, same, all)

    sound_whole : Sound rs (together c d)
    sound_whole = record { over = over_together rs c d sound.over sound_d.over; named = named }

    run_one : Reaches rs.rules (together c d) (together g d) fired
    run_one = whole_reaches laws nets shapes rs set (last d) c g fired sound reached_g (apart_by (last d) c few_cd) apart_gd few_cd

    run_two : Reaches rs.rules (with_rest (first g) (above (first g) d)) (with_rest (first g) (above (first g) f)) also
    run_two = whole_reaches laws nets shapes rs set (first g) d f also sound_d two apart_dg apart_fg few_dg
