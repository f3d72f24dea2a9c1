-- Lemmas: nets of a row of terms, and pieces that are put into it.
use Rattle.std.proofs.Common.{◌≡◌, ℕ, ◌+◌, ◌*◌, ◌≤◌, ◌<◌, List, [], ◌∷◌, ◌++◌, length, map, take, drop, sum_by, max, refl, sym, ap, ◌∙◌, eq-eqb, arith, append_assoc, subst as transport}
use Rattle.std.specs.List.{flat_map, AllByRecursion}
use Rattle.std.specs.Prelude.{IsPermutation}
use Rattle.std.proofs.lemmas.List.{length-drop, take-append-drop, take-map, drop-map, map-append, take-append-le, drop-append-le}
use Rattle.std.proofs.lemmas.List.Concat.{flat_map-append}
use Rattle.std.proofs.lemmas.List.Sums.{sum_by-cons}
use Rattle.std.proofs.lemmas.List.Sorted.{IsPermutation-trans, IsPermutation-append_right, IsPermutation-middle, sum_by-IsPermutation}
use Rattle.ic_term.specs.Tree.{Tree, name, names, Pair, pair_names}
use Rattle.ic_term.specs.Configuration.{Configuration, configuration_names, configured, names_in, occurrences, one_above}
use Rattle.ic_settle.specs.Settling.{subst, subst_pair, subst_in}
use Rattle.ic_settle.specs.lemmas.SubstitutionLaws.{occurrences-append}
use Rattle.ic_round.specs.Naming.{HasNames}
use Rattle.ic_reaching.specs.OneNet.{OneNet}
use Rattle.ic_reaching.specs.Pieces.{piece}
use Rattle.ic_flat.specs.declared.word.Word.{Word}
use Rattle.ic_flat.specs.Words.{word_names}
use Rattle.ic_flat.specs.Flat.{pairs_of}
use Rattle.ic_readback.specs.lemmas.Given.{NetLaws}
use Rattle.ic_readback.specs.lemmas.Rows.{over, over-names, subst-over, pairs-subst, pairs-names, pairs-more}
use Rattle.ic_confluence.specs.lemmas.Puts.{terms_absent, pairs_absent}

-- terms in a row, so many in the interface and the others two by two as equations, with other equations beside
abbrev pub net_of_row : ℕ → List Tree → List Pair → ℕ → Configuration
net_of_row terms row es next = record {
  interface = take terms row;
  equations = pairs_of (drop terms row) ++ es;
  next = next;
}

-- ---- names

pub row_names : (x terms k : ℕ) (row : List Tree) (es : List Pair) (next : ℕ) → length row ≡ terms + 2 * k
    → occurrences x (configuration_names (net_of_row terms row es next)) ≡ occurrences x (flat_map names row) + occurrences x (flat_map pair_names es)
row_names x terms k row es next even =
    let ps : List Pair = pairs_of (drop terms row) in
    let counted : length (drop terms row) ≡ 2 * k = omega (arith, length-drop terms row) in
    let a = occurrences-append x (flat_map names (take terms row)) (flat_map pair_names (ps ++ es)) in
    let b = ap (occurrences x) (flat_map-append pair_names ps es) ∙ occurrences-append x (flat_map pair_names ps) (flat_map pair_names es) in
    let c = ap (occurrences x) (pairs-names (drop terms row) k counted) in
    let d = ap (occurrences x) (sym (flat_map-append names (take terms row) (drop terms row)) ∙ ap (flat_map names) (take-append-drop terms row)) in
    let e = occurrences-append x (flat_map names (take terms row)) (flat_map names (drop terms row)) in
    omega arith

pairs_count : (x : ℕ) (es : List Pair) → occurrences x (flat_map pair_names es) ≡ sum_by (λ e. occurrences x (pair_names e)) es
pairs_count x [] = refl
pairs_count x (e ∷ es) =
    let parts = occurrences-append x (pair_names e) (flat_map pair_names es) in
    let rest = pairs_count x es in
    let sum = sum_by-cons (λ e. occurrences x (pair_names e)) e es in
    omega arith

pub pairs_in_order : (x : ℕ) (es fs : List Pair) → IsPermutation es fs → occurrences x (flat_map pair_names fs) ≡ occurrences x (flat_map pair_names es)
pairs_in_order x es fs moved =
    pairs_count x fs ∙ (sum_by-IsPermutation (λ e. occurrences x (pair_names e)) es fs moved ∙ sym (pairs_count x es))

-- ---- a piece is put where its name stands

pub put_row : NetLaws → (terms k x next : ℕ) (t : Tree) (ws : List Word) (ts : List Tree) (es fs : List Pair)
    → length (over ws (name x ∷ ts)) ≡ terms + 2 * k
    → HasNames (net_of_row terms (over ws (name x ∷ ts)) es next)
    → IsPermutation es (piece x t ∷ fs)
    → OneNet (net_of_row terms (over ws (name x ∷ ts)) es next) (net_of_row terms (over ws (t ∷ ts)) fs next)
put_row laws terms k x next t ws ts es fs even named moved =
    let row : List Tree = over ws (name x ∷ ts) in
    let put : List Tree = over ws (t ∷ ts) in
    let ps : List Pair = pairs_of (drop terms row) in
    let c : Configuration = net_of_row terms row es next in
    let others : List Pair = ps ++ fs in
    let order : IsPermutation (ps ++ es) (piece x t ∷ (ps ++ fs)) =
    IsPermutation-trans (ps ++ es) (ps ++ piece x t ∷ fs) (piece x t ∷ (ps ++ fs)) (IsPermutation-append_right ps es (piece x t ∷ fs) moved) (IsPermutation-middle ps (piece x t) fs) in
    let all = row_names x terms k row es next even in
    let few = named.twice x in
    let in_row = ap (occurrences x) (over-names ws (name x ∷ ts)) ∙ occurrences-append x (flat_map word_names ws) (x ∷ flat_map names ts) in
    let first = occurrences-append x (x ∷ []) (flat_map names ts) in
    let itself : occurrences x (x ∷ []) ≡ 1 = rw (eq-eqb x x refl) refl in
    let in_es = pairs_in_order x es (piece x t ∷ fs) moved in
    let in_piece = occurrences-append x (x ∷ names t) (flat_map pair_names fs) in
    let piece_first = occurrences-append x (x ∷ []) (names t) in
    let none_ws : occurrences x (flat_map word_names ws) ≡ 0 = omega arith in
    let none_ts : occurrences x (flat_map names ts) ≡ 0 = omega arith in
    let none_fs : occurrences x (flat_map pair_names fs) ≡ 0 = omega arith in
    let with_fs = row_names x terms k row fs next even in
    let there : 1 ≤ occurrences x (names_in (take terms row) others) = omega arith in
    let net = laws.anywhere c x t others named order there in
    let itself_put : subst x t (name x) ≡ t = rw (eq-eqb x x refl) refl in
    let rest_same = terms_absent x t ts none_ts in
    let row_is : map (subst x t) row ≡ put = subst-over x t ws (name x ∷ ts) none_ws ∙ (λ i. over ws (itself_put i ∷ rest_same i)) in
    let interface_is : map (subst x t) (take terms row) ≡ take terms put = sym (take-map (subst x t) terms row) ∙ ap (take terms) row_is in
    let pairs_is : map (subst_pair x t) ps ≡ pairs_of (drop terms put) =
    pairs-subst x t (drop terms row) ∙ ap pairs_of (sym (drop-map (subst x t) terms row) ∙ ap (drop terms) row_is) in
    let fs_is = pairs_absent x t fs none_fs in
    let equations_is : map (subst_pair x t) others ≡ pairs_of (drop terms put) ++ fs = map-append (subst_pair x t) ps fs ∙ (λ i. pairs_is i ++ fs_is i) in
    let is : subst_in x t (record c { equations = others }) ≡ net_of_row terms put fs next =
    (λ i. record { interface = interface_is i; equations = equations_is i; next = next }) in
    transport (OneNet c) is net

-- ---- a piece becomes an equation of the row

pub row_of_piece : NetLaws → (terms k x next : ℕ) (t : Tree) (row : List Tree) (es fs : List Pair) → length row ≡ terms + 2 * k
    → HasNames (net_of_row terms row es next) → IsPermutation es (piece x t ∷ fs)
    → OneNet (net_of_row terms row es next) (net_of_row terms (row ++ name x ∷ t ∷ []) fs next)
row_of_piece laws terms k x next t row es fs even named moved =
    let c : Configuration = net_of_row terms row es next in
    let ps : List Pair = pairs_of (drop terms row) in
    let more : List Tree = name x ∷ t ∷ [] in
    let counted : length (drop terms row) ≡ 2 * k = omega (arith, length-drop terms row) in
    let long : terms ≤ length row = omega arith in
    let interface_is : take terms row ≡ take terms (row ++ more) = sym (take-append-le terms row more long) in
    let pairs_is : ps ++ (piece x t ∷ fs) ≡ pairs_of (drop terms (row ++ more)) ++ fs =
    sym (append_assoc ps (piece x t ∷ []) fs)
    ∙ ap (λ l. l ++ fs) (sym (pairs-more (drop terms row) more k counted) ∙ ap pairs_of (sym (drop-append-le terms row more long))) in
    let net = laws.order c (ps ++ (piece x t ∷ fs)) named (IsPermutation-append_right ps es (piece x t ∷ fs) moved) in
    transport (OneNet c) (λ i. record { interface = interface_is i; equations = pairs_is i; next = next }) net

-- ---- where fresh names begin

higher_all : (a b : ℕ) (ns : List ℕ) → a ≤ b → AllByRecursion (λ n. n < a) ns → AllByRecursion (λ n. n < b) ns
higher_all a b [] high all = tt
higher_all a b (n ∷ ns) high all = ((let low = all.0 in let h : n < b = omega arith in h), higher_all a b ns high all.1)

above_each : (ns : List ℕ) → AllByRecursion (λ n. n < one_above ns) ns
above_each [] = tt
above_each (n ∷ ns) = ((let h : n < max (n + 1) (one_above ns) = omega arith in h), higher_all (one_above ns) (max (n + 1) (one_above ns)) ns (omega arith) (above_each ns))

pub to_configured : NetLaws → (c d : Configuration) → OneNet c d → OneNet c (configured d.interface d.equations)
to_configured laws c d net =
    let named : HasNames (configured d.interface d.equations) =
    record { below = above_each (configuration_names d); twice = net.names_too.twice } in
    laws.through c d (configured d.interface d.equations) net
    (laws.next d (one_above (configuration_names d)) net.names_too named)
