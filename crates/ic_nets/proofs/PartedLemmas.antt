-- Lemmas: configurations of one net have their names turned into others once, and their equations rearranged once.
use Rattle.std.proofs.Common.{◌≡◌, ◌↔◌, ◌==◌, ℕ, List, [], ◌∷◌, Bool, true, false, cond, map, refl, sym, ap, ◌∙◌, arith, subst as transport}
use Rattle.ic_term.specs.Tree.{Tree, name, agent, Trees, no_trees, more_trees, names, Pair}
use Rattle.ic_term.specs.Configuration.{Configuration, configuration_names, occurrences}
use Rattle.ic_rules.specs.Renaming.{renamed, renamed_trees}
use Rattle.ic_rules.specs.lemmas.NumberingLaws.{Undone, occurrences-renamed}
use Rattle.ic_rules.specs.lemmas.RenamingLaws.{names-renamed}
use Rattle.ic_settle.specs.Settling.{subst, subst_all}
use Rattle.ic_confluence.specs.Sameness.{Alike, itself, exchanged, rotated, in_turn, Rearranged, nothing, kept, swapped, one_by_one, renamed_in, renamed_pair, Rearranges, Renames, Same, renaming, rearranging, through}
use Rattle.ic_nets.proofs.LeadLemmas.{as_they_are}
use Rattle.ic_nets.proofs.RenamingLemmas.{same_test}
use Rattle.ic_nets.proofs.SameLemmas.{Renames-refl, renames_through}

-- ---- what is rearranged may be renamed first

module _ (f back : ℕ → ℕ) (undo : (n : ℕ) → back (f n) ≡ n) where
  pushed : (b : Bool) (u : Tree) (n : ℕ) → renamed f (cond b u (name n)) ≡ cond b (renamed f u) (name (f n))
  pushed true u n = refl
  pushed false u n = refl

  mutual
    renamed-put : (x : ℕ) (u t : Tree) → renamed f (subst x u t) ≡ subst (f x) (renamed f u) (renamed f t)
    renamed-put x u (name n) = pushed (n == x) u n ∙ ap (λ (b : Bool). cond b (renamed f u) (name (f n))) (sym (same_test f back undo n x))
    renamed-put x u (agent s ts) = ap (agent s) (renamed-put_all x u ts)

    renamed-put_all : (x : ℕ) (u : Tree) (ts : Trees) → renamed_trees f (subst_all x u ts) ≡ subst_all (f x) (renamed f u) (renamed_trees f ts)
    renamed-put_all x u no_trees = refl
    renamed-put_all x u (more_trees t ts) = λ i. more_trees (renamed-put x u t i) (renamed-put_all x u ts i)

  all_undone : (ns : List ℕ) → Undone f back ns
  all_undone [] = tt
  all_undone (n ∷ ns) = (undo n, all_undone ns)

  as_often : (x : ℕ) (t : Tree) → occurrences (f x) (names (renamed f t)) ≡ occurrences x (names t)
  as_often x t = ap (occurrences (f x)) (names-renamed f t) ∙ occurrences-renamed f back x (names t) (undo x) (all_undone (names t))

  alike-renamed : (p q : Pair) → Alike p q → Alike (renamed_pair f p) (renamed_pair f q)
  alike-renamed p q (itself r) = itself (renamed_pair f r)
  alike-renamed p q (exchanged r) = exchanged (renamed_pair f r)
  alike-renamed p q (rotated r s is) = rotated (renamed_pair f r) (renamed_pair f s) (record {
    cut = f is.cut;
    inner = renamed f is.inner;
    outer = renamed f is.outer;
    once_inner = as_often is.cut is.inner ∙ is.once_inner;
    once_outer = as_often is.cut is.outer ∙ is.once_outer;
    given = ap (renamed_pair f) is.given ∙ (λ i. record { left = name (f is.cut); right = renamed-put is.cut is.inner is.outer i });
    result = ap (renamed_pair f) is.result ∙ (λ i. record { left = name (f is.cut); right = renamed-put is.cut is.outer is.inner i });
  })
  alike-renamed p q (in_turn r s t first second) =
      in_turn (renamed_pair f r) (renamed_pair f s) (renamed_pair f t) (alike-renamed r s first) (alike-renamed s t second)

  rearranged-renamed : (es fs : List Pair) → Rearranged es fs → Rearranged (map (renamed_pair f) es) (map (renamed_pair f) fs)
  rearranged-renamed es fs nothing = nothing
  rearranged-renamed es fs (kept p q ps qs alike rest) =
      kept (renamed_pair f p) (renamed_pair f q) (map (renamed_pair f) ps) (map (renamed_pair f) qs) (alike-renamed p q alike) (rearranged-renamed ps qs rest)
  rearranged-renamed es fs (swapped p q ps) = swapped (renamed_pair f p) (renamed_pair f q) (map (renamed_pair f) ps)
  rearranged-renamed es fs (one_by_one ps qs rs first second) =
      one_by_one (map (renamed_pair f) ps) (map (renamed_pair f) qs) (map (renamed_pair f) rs) (rearranged-renamed ps qs first) (rearranged-renamed qs rs second)

-- ---- the two parts

stays_arranged : (c : Configuration) → Rearranges c c
stays_arranged c = record { equations = as_they_are c.equations; result = refl }

arranged_through : (c d e : Configuration) → Rearranges c d → Rearranges d e → Rearranges c e
arranged_through c d e r s = record {
  equations = one_by_one c.equations d.equations e.equations r.equations s.equations;
  result = s.result ∙ ap (λ (z : Configuration). record z { equations = e.equations }) r.result;
}

abbrev Parted : Configuration → Configuration → Type 0
Parted c d = (e : Configuration) × Renames c e × Rearranges e d

module _ (free : (c d : Configuration) → Same c d → (n : ℕ) → (occurrences n (configuration_names c) ≡ 1) ↔ (occurrences n (configuration_names d) ≡ 1)) where
  -- what is rearranged and renamed then, may be renamed and rearranged then
  renamed_first : (c d e : Configuration) → Rearranges c d → Renames d e → (between : Configuration) × Renames c between × Rearranges between e
  renamed_first c d e r s = (
    renamed_in s.to c,
    record {
      to = s.to;
      from = s.from;
      there_and_back = s.there_and_back;
      back_and_there = s.back_and_there;
      free = λ n once. s.free n ((free c d (rearranging c d r) n).0 once);
      fresh = λ n high. let next : d.next ≡ c.next = ap (λ (z : Configuration). z.next) r.result in s.fresh n (omega (arith, high, next));
      result = refl;
    },
    record {
      equations = transport (λ (es : List Pair). Rearranged (map (renamed_pair s.to) c.equations) es) (sym (ap (λ (z : Configuration). z.equations) s.result))
          (rearranged-renamed s.to s.from s.there_and_back c.equations d.equations r.equations);
      result = s.result ∙ ap (renamed_in s.to) r.result
          ∙ (λ i. record { interface = map (renamed s.to) c.interface; equations = sym (ap (λ (z : Configuration). z.equations) s.result) i; next = c.next });
    },
  )

  pub parted : (c d : Configuration) → Same c d → Parted c d
  parted c d (renaming x y r) = (y, r, stays_arranged y)
  parted c d (rearranging x y r) = (x, Renames-refl x, r)
  parted c d (through x y z first second) =
      let one = parted x y first in
      let other = parted y z second in
      let turn = renamed_first one.0 y other.0 one.2 other.1 in
      (turn.0, renames_through free x one.0 turn.0 (renaming x one.0 one.1) one.1 turn.1, arranged_through turn.0 other.0 z turn.2 other.2)
