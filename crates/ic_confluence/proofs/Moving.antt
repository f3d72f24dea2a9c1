-- Lemmas: a step that puts a term for a name is taken by each configuration of the same net.
use Rattle.std.proofs.Common.{◌≡◌, ℕ, ◌<◌, List, [], map, refl, sym, ap, ◌∙◌, arith, inl, inr, subst as transport}
use Rattle.std.proofs.lemmas.Bool.{cases_lt}
use Rattle.ic_term.specs.Tree.{Tree, Pair}
use Rattle.ic_term.specs.Configuration.{Configuration, configuration_names, names_in, occurrences}
use Rattle.ic_rules.specs.Renaming.{renamed}
use Rattle.ic_settle.specs.Settling.{Binding, subst_pair, Binds}
use Rattle.ic_settle.specs.lemmas.SubstitutionLaws.{occurrences_some}
use Rattle.ic_round.specs.Naming.{HasNames}
use Rattle.ic_confluence.specs.Sameness.{Rearranged, renamed_pair, renamed_in, Renames, Rearranges, Same, renaming, rearranging, through}
use Rattle.ic_confluence.specs.lemmas.Counts.{All_from, names_like, below_next, in_configuration}
use Rattle.ic_confluence.specs.lemmas.Puts.{OneToOne, undone_is_one_to_one, occurrences-renamed_in, renamed_in-subst_in}
use Rattle.ic_confluence.specs.lemmas.Equivalence.{same_equations}
use Rattle.ic_confluence.specs.lemmas.Replacing.{replaced_mapped, removed_counts}
use Rattle.ic_confluence.proofs.Arranged.{arranged_counts, found_alike, alike_binds, put_arranged}
use Rattle.ic_confluence.proofs.Putting.{occurs_some, bound_in, Putting, counted, free_before}

-- ---- what configurations of the same net keep

pub arranged_configuration : (n : ℕ) (ts : List Tree) (es fs : List Pair) → Rearranged es fs → occurrences n (names_in ts es) ≡ occurrences n (names_in ts fs)
arranged_configuration n ts es fs arranged =
    let one = in_configuration n ts es in
    let other = in_configuration n ts fs in
    let equal = arranged_counts n es fs arranged in
    omega (arith, one, other, equal)

stays_low : (c d : Configuration) (r : Renames c d) (m : ℕ) → m < c.next → r.to m < c.next
stays_low c d r m low = elim (cases_lt (r.to m) c.next) [
  | inl less ↦ less
  | inr high ↦
      let one = undone_is_one_to_one r.to r.from r.there_and_back in
      let same = one (r.to m) m (r.fresh (r.to m) high) in
      absurd (omega (arith, same, high, low))
]

renamed_names : (c d : Configuration) → Renames c d → HasNames c → HasNames d
renamed_names c d r named =
    let P : Configuration → Type 0 = HasNames in
    transport P (sym r.result) (record {
      below = All_from (λ n. n < c.next) (configuration_names (renamed_in r.to c)) (λ n some.
          let Q : ℕ → Type 0 = λ k. k < c.next in
          transport Q (r.back_and_there n) (stays_low c d r (r.from n) (below_next c named (r.from n) (let equal = old_count n in omega (arith, equal, some)))));
      twice = λ n. let equal = old_count n in let two = named.twice (r.from n) in omega (arith, equal, two);
    })
  where
    old_count : (n : ℕ) → occurrences n (configuration_names (renamed_in r.to c)) ≡ occurrences (r.from n) (configuration_names c)
    old_count n =
        let one = undone_is_one_to_one r.to r.from r.there_and_back in
        ap (λ k. occurrences k (configuration_names (renamed_in r.to c))) (sym (r.back_and_there n)) ∙ occurrences-renamed_in r.to one (r.from n) c

rearranged_names : (c d : Configuration) → Rearranges c d → HasNames c → HasNames d
rearranged_names c d r named =
    let P : Configuration → Type 0 = HasNames in
    let e : Configuration = record c { equations = d.equations } in
    transport P (sym r.result) (names_like c e refl (λ n. sym (arranged_configuration n c.interface c.equations d.equations r.equations)) named)

pub same_names : (c d : Configuration) → Same c d → HasNames c → HasNames d
same_names c d (renaming x y r) named = renamed_names x y r named
same_names c d (rearranging x y r) named = rearranged_names x y r named
same_names c d (through x y z first second) named = same_names y z second (same_names x y first named)

-- ---- the step of the other configuration

-- a step of that configuration to the same net
pub record TakenToo (d after : Configuration) : Type 0 where
  pub end : Configuration
  pub step : Putting d end
  pub same : Same after end

free_still : (c d after : Configuration) → HasNames c → (r : Renames c d) → (s : Putting c after) → Renames after (renamed_in r.to after)
free_still c d after named r s = record {
  to = r.to;
  from = r.from;
  there_and_back = r.there_and_back;
  back_and_there = r.back_and_there;
  free = λ n once. r.free n (free_before c after named s n once);
  fresh = λ n high. r.fresh n (let same = ap (λ (e : Configuration). e.next) s.result in omega (arith, same, high));
  result = refl;
}

renamed_binds : (f : ℕ → ℕ) (p : Pair) (b : Binding) → Binds p b → Binds (renamed_pair f p) (record { name = f b.name; term = renamed f b.term })
renamed_binds f p b (inl e) = inl (ap (renamed_pair f) e)
renamed_binds f p b (inr e) = inr (ap (renamed_pair f) e)

renamed_putting : (f : ℕ → ℕ) → OneToOne f → (c after : Configuration) → Putting c after → Putting (renamed_in f c) (renamed_in f after)
renamed_putting f one c after s =
    let rest : Configuration = record c { equations = s.others } in
    record {
      equation = renamed_pair f s.equation;
      others = map (renamed_pair f) s.others;
      bound = record { name = f s.bound.name; term = renamed f s.bound.term };
      at = replaced_mapped (renamed_pair f) s.equation [] c.equations s.others s.at;
      side = renamed_binds f s.equation s.bound s.side;
      outside = occurs_some (f s.bound.name) (configuration_names (renamed_in f rest))
          (let equal = occurrences-renamed_in f one s.bound.name rest in
          let some = occurrences_some s.bound.name (configuration_names rest) s.outside in
          omega (arith, equal, some));
      result = ap (renamed_in f) s.result ∙ renamed_in-subst_in f one s.bound.name s.bound.term rest;
    }

renamed_too : (c d after : Configuration) → HasNames c → Renames c d → Putting c after → TakenToo d after
renamed_too c d after named r s =
    let one = undone_is_one_to_one r.to r.from r.there_and_back in
    let P : Configuration → Type 0 = λ e. Putting e (renamed_in r.to after) in
    record {
      end = renamed_in r.to after;
      step = transport P (sym r.result) (renamed_putting r.to one c after s);
      same = renaming after (renamed_in r.to after) (free_still c d after named r s);
    }

arranged_too : (c after : Configuration) (fs : List Pair) → HasNames c → Rearranged c.equations fs → (s : Putting c after) → TakenToo (record c { equations = fs }) after
arranged_too c after fs named arranged s =
    let b = s.bound in
    let found = found_alike s.equation c.equations fs s.others arranged s.at in
    let is = counted c after named s in
    let removed = removed_counts b.name c.interface s.equation c.equations s.others s.at in
    let two = is.twice in
    let once = is.once in
    let moved = arranged_configuration b.name c.interface s.others found.others found.rest_arranged in
    let P : Configuration → Type 0 = λ e. Same e (bound_in c found.others b) in
    record {
      end = bound_in c found.others b;
      step = record {
        equation = found.equation;
        others = found.others;
        bound = b;
        at = found.at;
        side = alike_binds s.equation found.equation b found.alike s.side (omega (arith, removed, two, once));
        outside = occurs_some b.name (names_in c.interface found.others) (omega (arith, moved, once));
        result = refl;
      };
      same = transport P (sym s.result)
          (same_equations (bound_in c s.others b) (map (subst_pair b.name b.term) found.others)
          (put_arranged b.name b.term s.others found.others found.rest_arranged (λ n.
          let total = is.total n in
          let parts = in_configuration n c.interface s.others in
          let few = named.twice n in
          omega (arith, total, parts, few))));
    }

rearranged_too : (c d after : Configuration) → HasNames c → Rearranges c d → Putting c after → TakenToo d after
rearranged_too c d after named r s =
    let P : Configuration → Type 0 = λ e. TakenToo e after in
    transport P (sym r.result) (arranged_too c after d.equations named r.equations s)

pub taken_too : (c d after : Configuration) → HasNames c → Same c d → Putting c after → TakenToo d after
taken_too c d after named (renaming x y r) s = renamed_too x y after named r s
taken_too c d after named (rearranging x y r) s = rearranged_too x y after named r s
taken_too c d after named (through x y z first second) s =
    let one = taken_too x y after named first s in
    let two = taken_too y z one.end (same_names x y first named) second one.step in
    record { end = two.end; step = two.step; same = through after one.end two.end one.same two.same }
