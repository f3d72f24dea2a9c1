-- Lemmas: to be the same net is an equivalence.
use Rattle.std.proofs.Common.{◌≡◌, ℕ, ◌≤◌, List, [], ◌∷◌, refl, sym, ap, ◌∙◌, arith, subst as transport}
use Rattle.ic_term.specs.Tree.{Pair}
use Rattle.ic_term.specs.Configuration.{Configuration, configuration_names, occurrences}
use Rattle.ic_confluence.specs.Sameness.{turned, Alike, itself, exchanged, rotated, in_turn, Rearranged, nothing, kept, swapped, one_by_one, renamed_in, Renames, Rearranges, Same, renaming, rearranging, through}
use Rattle.ic_confluence.specs.lemmas.Puts.{undone_is_one_to_one, occurrences-renamed_in, renamed_in-back}

pub Alike-sym : (p q : Pair) → Alike p q → Alike q p
Alike-sym p q (itself r) = itself r
Alike-sym p q (exchanged r) = exchanged (turned r)
Alike-sym p q (rotated r s is) = rotated s r (record {
  cut = is.cut;
  inner = is.outer;
  outer = is.inner;
  once_inner = is.once_outer;
  once_outer = is.once_inner;
  given = is.result;
  result = is.given;
})
Alike-sym p q (in_turn r s t first second) = in_turn t s r (Alike-sym s t second) (Alike-sym r s first)

pub Rearranged-refl : (es : List Pair) → Rearranged es es
Rearranged-refl [] = nothing
Rearranged-refl (p ∷ es) = kept p p es es (itself p) (Rearranged-refl es)

pub Rearranged-sym : (es fs : List Pair) → Rearranged es fs → Rearranged fs es
Rearranged-sym es fs nothing = nothing
Rearranged-sym es fs (kept p q ps qs alike rest) = kept q p qs ps (Alike-sym p q alike) (Rearranged-sym ps qs rest)
Rearranged-sym es fs (swapped p q ps) = swapped q p ps
Rearranged-sym es fs (one_by_one ps qs rs first second) = one_by_one rs qs ps (Rearranged-sym qs rs second) (Rearranged-sym ps qs first)

pub same_equations : (c : Configuration) (es : List Pair) → Rearranged c.equations es → Same c (record c { equations = es })
same_equations c es is = rearranging c (record c { equations = es }) (record { equations = is; result = refl })

pub Same-refl : (c : Configuration) → Same c c
Same-refl c = rearranging c c (record { equations = Rearranged-refl c.equations; result = refl })

back_free : (c d : Configuration) (r : Renames c d) (n : ℕ) → occurrences n (configuration_names d) ≡ 1 → r.from n ≡ n
back_free c d r n once =
    let one = undone_is_one_to_one r.to r.from r.there_and_back in
    let P : Configuration → Type 0 = λ e. occurrences n (configuration_names e) ≡ 1 in
    let Q : ℕ → Type 0 = λ k. occurrences k (configuration_names (renamed_in r.to c)) ≡ 1 in
    let there : occurrences (r.to (r.from n)) (configuration_names (renamed_in r.to c)) ≡ 1 =
    transport Q (sym (r.back_and_there n)) (transport P r.result once) in
    let stays = r.free (r.from n) (sym (occurrences-renamed_in r.to one (r.from n) c) ∙ there) in
    sym stays ∙ r.back_and_there n

back_fresh : (c d : Configuration) (r : Renames c d) (n : ℕ) → d.next ≤ n → r.from n ≡ n
back_fresh c d r n high =
    let same : d.next ≡ c.next = ap (λ (e : Configuration). e.next) r.result in
    let stays = r.fresh n (omega (arith, high, same)) in
    sym (ap r.from stays) ∙ r.there_and_back n

pub Renames-sym : (c d : Configuration) → Renames c d → Renames d c
Renames-sym c d r = record {
  to = r.from;
  from = r.to;
  there_and_back = r.back_and_there;
  back_and_there = r.there_and_back;
  free = back_free c d r;
  fresh = back_fresh c d r;
  result = sym (renamed_in-back r.to r.from r.there_and_back c) ∙ ap (renamed_in r.from) (sym r.result);
}

pub Rearranges-sym : (c d : Configuration) → Rearranges c d → Rearranges d c
Rearranges-sym c d r = record {
  equations = Rearranged-sym c.equations d.equations r.equations;
  result = ap (λ (e : Configuration). record e { equations = c.equations }) (sym r.result);
}

pub Same-sym : (c d : Configuration) → Same c d → Same d c
Same-sym c d (renaming x y r) = renaming y x (Renames-sym x y r)
Same-sym c d (rearranging x y r) = rearranging y x (Rearranges-sym x y r)
Same-sym c d (through x y z first second) = through z y x (Same-sym y z second) (Same-sym x y first)
