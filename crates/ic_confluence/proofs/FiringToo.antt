-- Lemmas: an interaction is made by each configuration of the same net.
use Rattle.std.proofs.Common.{◌≡◌, ◌⊎◌, ℕ, ◌+◌, ◌≤◌, ◌<◌, List, [], ◌∷◌, ◌++◌, Some, slice_get, refl, sym, ap, ◌∙◌, append-nil, arith, inl, inr, subst as transport}
use Rattle.std.proofs.lemmas.Bool.{cases_lt}
use Rattle.std.proofs.lemmas.List.{map-append}
use Rattle.std.specs.List.{flat_map}
use Rattle.ic_term.specs.Tree.{names, Pair, pair_names}
use Rattle.ic_term.specs.Configuration.{Configuration, names_in, occurrences}
use Rattle.ic_rules.specs.Rule.{Rule}
use Rattle.ic_rules.specs.RuleSet.{Rules, IsRuleSet}
use Rattle.ic_round.specs.Instance.{inst}
use Rattle.ic_round.specs.Firing.{Active, active_pair, arguments, against, products_by, count_of}
use Rattle.ic_round.specs.lemmas.FreshNames.{absent_above}
use Rattle.ic_confluence.specs.Sameness.{turned, Alike, itself, exchanged, rotated, in_turn, Rearranged, nothing, kept, swapped, one_by_one, renamed_pair, renamed_in, Renames, Rearranges, Same, renaming, rearranging, through}
use Rattle.ic_confluence.specs.lemmas.Counts.{in_configuration, below_next}
use Rattle.ic_confluence.specs.lemmas.Equivalence.{Rearranged-refl, Rearranged-sym, Same-sym, same_equations}
use Rattle.ic_confluence.specs.lemmas.Replacing.{Replaced, replaced_counts, in_both}
use Rattle.ic_confluence.proofs.Arranged.{FoundAlike, found_alike}
use Rattle.ic_confluence.proofs.Moving.{same_names}
use Rattle.ic_confluence.specs.lemmas.Over.{same_over}
use Rattle.ic_confluence.specs.lemmas.Actives.{HasRule, products_are, count_is, fresh_products, renamed_active}
use Rattle.ic_confluence.proofs.Firings.{fired_in, Firing, Sound, rule_of, renamed_firing, renames_after_firing, no_Some as none_active}
use Rattle.ic_confluence.proofs.TwoFirings.{renamed_terms_stay, renamed_pairs_stay, active_stays}
use Rattle.ic_confluence.proofs.Mirrored.{turned_active, TurnedActive, turn_active, Mirrors, mirrors, mirrored_from, from_low, mirrored_from_back, mirrored_from_fresh, mirrored_products}

pub same_sound : (rs : Rules) (c d : Configuration) → Same c d → Sound rs c → Sound rs d
same_sound rs c d same sound = record { over = same_over rs.symbols c d same sound.over; named = same_names c d same sound.named }

-- an interaction by this rule to the same net
pub record FiredToo (rs : List Rule) (d after : Configuration) (i : ℕ) : Type 0 where
  pub end : Configuration
  pub step : Firing rs d end
  pub rule : step.active.rule ≡ i
  pub same : Same after end

-- ---- lists of equations, rearranged

pub arranged_after : (front es fs : List Pair) → Rearranged es fs → Rearranged (front ++ es) (front ++ fs)
arranged_after [] es fs r = r
arranged_after (p ∷ front) es fs r = kept p p (front ++ es) (front ++ fs) (itself p) (arranged_after front es fs r)

pub arranged_before : (es fs back : List Pair) → Rearranged es fs → Rearranged (es ++ back) (fs ++ back)
arranged_before es fs back nothing = Rearranged-refl back
arranged_before es fs back (kept p q ps qs alike rest) = kept p q (ps ++ back) (qs ++ back) alike (arranged_before ps qs back rest)
arranged_before es fs back (swapped p q ps) = swapped p q (ps ++ back)
arranged_before es fs back (one_by_one ps qs rs first second) = one_by_one (ps ++ back) (qs ++ back) (rs ++ back) (arranged_before ps qs back first) (arranged_before qs rs back second)

-- an equation moved after others
moved_in : (p : Pair) (out es : List Pair) → Rearranged (p ∷ (out ++ es)) (out ++ p ∷ es)
moved_in p [] es = Rearranged-refl (p ∷ es)
moved_in p (q ∷ out) es = one_by_one (p ∷ q ∷ (out ++ es)) (q ∷ p ∷ (out ++ es)) (q ∷ (out ++ p ∷ es)) (swapped p q (out ++ es))
    (kept q q (p ∷ (out ++ es)) (out ++ p ∷ es) (itself q) (moved_in p out es))

pub arranged_comm : (es fs : List Pair) → Rearranged (es ++ fs) (fs ++ es)
arranged_comm [] fs = let P : List Pair → Type 0 = Rearranged fs in transport P (sym (append-nil fs)) (Rearranged-refl fs)
arranged_comm (p ∷ es) fs = one_by_one (p ∷ (es ++ fs)) (p ∷ (fs ++ es)) (fs ++ p ∷ es) (kept p p (es ++ fs) (fs ++ es) (itself p) (arranged_comm es fs)) (moved_in p fs es)

-- the equation alone taken out, where others stand in its place
record Removed (p : Pair) (out es fs : List Pair) : Type 0 where
  rest : List Pair
  at : Replaced p [] es rest
  arranged : Rearranged fs (out ++ rest)

removed_too : (p : Pair) (out es fs : List Pair) → Replaced p out es fs → Removed p out es fs
removed_too p out [] fs r = absurd r
removed_too p out (q ∷ es) fs (inl (same, is)) =
    let P : List Pair → Type 0 = λ l. Rearranged l (out ++ es) in
    record { rest = es; at = inl (same, refl); arranged = transport P (sym is) (Rearranged-refl (out ++ es)) }
removed_too p out (q ∷ es) fs (inr (more, r, is)) =
    let below = removed_too p out es more r in
    let P : List Pair → Type 0 = λ l. Rearranged l (out ++ q ∷ below.rest) in
    record {
      rest = q ∷ below.rest;
      at = inr (below.rest, below.at, refl);
      arranged = transport P (sym is) (one_by_one (q ∷ more) (q ∷ (out ++ below.rest)) (out ++ q ∷ below.rest)
          (kept q q more (out ++ below.rest) (itself q) below.arranged) (moved_in q out below.rest));
    }

-- others put in its place
record Filled (p : Pair) (out es rest : List Pair) : Type 0 where
  end : List Pair
  at : Replaced p out es end
  arranged : Rearranged end (out ++ rest)

filled_too : (p : Pair) (out es rest : List Pair) → Replaced p [] es rest → Filled p out es rest
filled_too p out [] rest r = absurd r
filled_too p out (q ∷ es) rest (inl (same, is)) =
    let P : List Pair → Type 0 = λ l. Rearranged (out ++ es) (out ++ l) in
    record { end = out ++ es; at = inl (same, refl); arranged = transport P (sym is) (Rearranged-refl (out ++ es)) }
filled_too p out (q ∷ es) rest (inr (more, r, is)) =
    let below = filled_too p out es more r in
    let P : List Pair → Type 0 = λ l. Rearranged (q ∷ below.end) (out ++ l) in
    record {
      end = q ∷ below.end;
      at = inr (below.end, below.at, refl);
      arranged = transport P (sym is) (one_by_one (q ∷ below.end) (q ∷ (out ++ more)) (out ++ q ∷ more)
          (kept q q below.end (out ++ more) (itself q) below.arranged) (moved_in q out more));
    }

-- ---- an equation alike to an active one

abbrev AsOrTurned : Pair → Pair → Type 0
AsOrTurned p q = (q ≡ p) ⊎ (q ≡ turned p)

later_on : (p q r : Pair) → AsOrTurned p r → AsOrTurned r q → AsOrTurned p q
later_on p q r (inl e) (inl f) = inl (f ∙ e)
later_on p q r (inl e) (inr f) = inr (f ∙ ap turned e)
later_on p q r (inr e) (inl f) = inr (f ∙ e)
later_on p q r (inr e) (inr f) = inl (f ∙ ap turned e)

active_again : (rs : Rules) (p r : Pair) (a : Active) → IsRuleSet rs → active_pair rs.rules p ≡ Some a → AsOrTurned p r → (b : Active) × (active_pair rs.rules r ≡ Some b)
active_again rs p r a set is (inl e) = (a, ap (active_pair rs.rules) e ∙ is)
active_again rs p r a set is (inr e) = by (turn_active rs p a set is)
  where
    by : TurnedActive rs.rules p a → (b : Active) × (active_pair rs.rules r ≡ Some b)
    by (inl f) = (a, ap (active_pair rs.rules) e ∙ f)
    by (inr f) = (turned_active a, ap (active_pair rs.rules) e ∙ f.0)

alike_active : (rs : Rules) (p q : Pair) → Alike p q → IsRuleSet rs → (a : Active) → active_pair rs.rules p ≡ Some a → AsOrTurned p q
alike_active rs p q (itself r) set a is = inl refl
alike_active rs p q (exchanged r) set a is = inr refl
alike_active rs p q (rotated r s w) set a is = absurd (none_active a (active_pair rs.rules r) is (ap (active_pair rs.rules) w.given))
alike_active rs p q (in_turn r s t first second) set a is =
    let one = alike_active rs r s first set a is in
    let again = active_again rs r s a set is one in
    later_on r t s one (alike_active rs s t second set again.0 again.1)

-- ---- the same rule and products

fires_as_well : (rs : List Rule) (c : Configuration) (p q : Pair) (a : Active) (others fs more : List Pair) (r : Removed p (products_by rs c.next a) c.equations others)
    → Rearranged r.rest more → Replaced q [] fs more → active_pair rs q ≡ Some a → FiredToo rs (record c { equations = fs }) (fired_in rs c others a) a.rule
fires_as_well rs c p q a others fs more r arranged at is =
    let out = products_by rs c.next a in
    let filled = filled_too q out fs more at in
    record {
      end = fired_in rs (record c { equations = fs }) filled.end a;
      step = record { equation = q; active = a; others = filled.end; at = filled.at; has_rule = is; result = refl };
      rule = refl;
      same = same_equations (fired_in rs c others a) filled.end
          (one_by_one others (out ++ r.rest) filled.end r.arranged
          (one_by_one (out ++ r.rest) (out ++ more) filled.end (arranged_after out r.rest more arranged) (Rearranged-sym filled.end (out ++ more) filled.arranged)));
    }

-- ---- a rule of a symbol with itself, the other way round

record Turned (rs : Rules) (c : Configuration) (p q : Pair) (a : Active) (fs more : List Pair) : Type 0 where
  sound : Sound rs (record c { equations = fs })
  at : Replaced q [] fs more
  is : active_pair rs.rules q ≡ Some (turned_active a)
  rule_p : HasRule rs.rules p a
  rule_q : HasRule rs.rules q (turned_active a)
  mirror : Mirrors rule_p.rule

turned_counts : (rs : Rules) (c : Configuration) (p q : Pair) (a : Active) (fs more : List Pair) → Turned rs c p q a fs more → (n : ℕ)
    → occurrences n (names_in c.interface fs) ≡ occurrences n (flat_map names c.interface) + (occurrences n (flat_map pair_names more) + occurrences n (pair_names q))
turned_counts rs c p q a fs more w n =
    let whole = in_configuration n c.interface fs in
    let counts : occurrences n (flat_map pair_names more) + occurrences n (pair_names q) ≡ occurrences n (flat_map pair_names fs) + 0 = replaced_counts n q [] fs more w.at in
    omega (arith, whole, counts)

turned_free : (rs : Rules) (c : Configuration) (p q : Pair) (a : Active) (fs more : List Pair) (w : Turned rs c p q a fs more) (n : ℕ)
    → occurrences n (names_in c.interface (products_by rs.rules c.next (turned_active a) ++ more)) ≡ 1 → (n < c.next) ⊎ (c.next ≤ n)
    → mirrored_from w.rule_p.rule w.mirror c.next n ≡ n
turned_free rs c p q a fs more w n once (inl low) = from_low w.rule_p.rule w.mirror c.next n low
turned_free rs c p q a fs more w n once (inr high) =
    let none = absent_above n c.next (names_in c.interface fs) w.sound.named.below high in
    let parts = turned_counts rs c p q a fs more w n in
    let whole = in_configuration n c.interface (products_by rs.rules c.next (turned_active a) ++ more) in
    let split = in_both n (products_by rs.rules c.next (turned_active a)) more in
    absurd (fresh_products rs.rules q (turned_active a) w.rule_q c.next n high (omega (arith, none, parts)) (omega (arith, none, parts, whole, split, once)))

turned_renames : (rs : Rules) (c : Configuration) (p q : Pair) (a : Active) (fs more : List Pair) (w : Turned rs c p q a fs more)
    → Renames (fired_in rs.rules c (products_by rs.rules c.next (turned_active a) ++ more) a)
    (renamed_in (mirrored_from w.rule_p.rule w.mirror c.next) (fired_in rs.rules c (products_by rs.rules c.next (turned_active a) ++ more) a))
turned_renames rs c p q a fs more w = record {
  to = mirrored_from w.rule_p.rule w.mirror c.next;
  from = mirrored_from w.rule_p.rule w.mirror c.next;
  there_and_back = mirrored_from_back w.rule_p.rule w.mirror c.next;
  back_and_there = mirrored_from_back w.rule_p.rule w.mirror c.next;
  free = λ n once. turned_free rs c p q a fs more w n once (cases_lt n c.next);
  fresh = λ n high. mirrored_from_fresh w.rule_p.rule w.mirror w.rule_p.is_rule c.next n (let count = count_is rs.rules p a w.rule_p in omega (arith, high, count));
  result = refl;
}

-- the products as the rule's mirror has them
abbrev pub other_products : (rs : List Rule) (p : Pair) (a : Active) → HasRule rs p a → ℕ → List Pair
other_products rs p a h base = against (arguments a.right) (inst h.rule base).right_args ++ against (arguments a.left) (inst h.rule base).left_args

turned_arrives : (rs : Rules) (c : Configuration) (p q : Pair) (a : Active) (fs more : List Pair) (w : Turned rs c p q a fs more)
    → renamed_in (mirrored_from w.rule_p.rule w.mirror c.next) (fired_in rs.rules c (products_by rs.rules c.next (turned_active a) ++ more) a)
    ≡ fired_in rs.rules c (other_products rs.rules p a w.rule_p c.next ++ more) a
turned_arrives rs c p q a fs more w =
    let f = mirrored_from w.rule_p.rule w.mirror c.next in
    let d : Configuration = record c { equations = fs } in
    let fixed : (n : ℕ) → 1 ≤ occurrences n (names_in c.interface fs) → f n ≡ n = λ n some. from_low w.rule_p.rule w.mirror c.next n (below_next d w.sound.named n some) in
    let parts = turned_counts rs c p q a fs more w in
    let terms = renamed_terms_stay f c.interface (λ n some. fixed n (let all = parts n in omega (arith, all, some))) in
    let rest = renamed_pairs_stay f more (λ n some. fixed n (let all = parts n in omega (arith, all, some))) in
    let own = active_stays rs.rules q (turned_active a) w.rule_q f (λ n some. fixed n (let all = parts n in omega (arith, all, some))) in
    let sides : renamed_active f a ≡ a = ap turned_active own in
    let out = mirrored_products rs.rules p a w.rule_p w.mirror c.next sides in
    let apart = map-append (renamed_pair f) (products_by rs.rules c.next (turned_active a)) more in
    λ i. record { interface = terms i; equations = (apart ∙ (λ j. out j ++ rest j)) i; next = c.next + count_of rs.rules a.rule }

pub other_arranged : (rs : List Rule) (p : Pair) (a : Active) (h : HasRule rs p a) (base : ℕ) → Rearranged (products_by rs base a) (other_products rs p a h base)
other_arranged rs p a h base =
    let P : List Pair → Type 0 = λ es. Rearranged es (other_products rs p a h base) in
    transport P (sym (products_are rs p a h base))
    (arranged_comm (against (arguments a.left) (inst h.rule base).left_args) (against (arguments a.right) (inst h.rule base).right_args))

turned_fires : (rs : Rules) (c : Configuration) (p q : Pair) (a : Active) (others fs more : List Pair) (r : Removed p (products_by rs.rules c.next a) c.equations others)
    → Rearranged r.rest more → Turned rs c p q a fs more → FiredToo rs.rules (record c { equations = fs }) (fired_in rs.rules c others a) a.rule
turned_fires rs c p q a others fs more r arranged w =
    let b = turned_active a in
    let out = products_by rs.rules c.next a in
    let out_b = products_by rs.rules c.next b in
    let mirror_out = other_products rs.rules p a w.rule_p c.next in
    let filled = filled_too q out_b fs more w.at in
    let after = fired_in rs.rules c others a in
    let end = fired_in rs.rules (record c { equations = fs }) filled.end b in
    let front = fired_in rs.rules c (out_b ++ more) a in
    let middle = fired_in rs.rules c (mirror_out ++ more) a in
    let first : Same after middle = same_equations after (mirror_out ++ more) (one_by_one others (out ++ r.rest) (mirror_out ++ more) r.arranged
    (one_by_one (out ++ r.rest) (out ++ more) (mirror_out ++ more) (arranged_after out r.rest more arranged)
    (arranged_before out mirror_out more (other_arranged rs.rules p a w.rule_p c.next)))) in
    let P : Configuration → Type 0 = Same front in
    let second : Same front middle = transport P (turned_arrives rs c p q a fs more w) (renaming front _ (turned_renames rs c p q a fs more w)) in
    let third : Same end front = same_equations end (out_b ++ more) filled.arranged in
    record {
      end = end;
      step = record { equation = q; active = b; others = filled.end; at = filled.at; has_rule = w.is; result = refl };
      rule = refl;
      same = through after middle end first (through middle front end (Same-sym front middle second) (Same-sym end front third));
    }

-- ---- an interaction of rearranged equations

-- how an equation alike is active
alike_rule : (rs : Rules) (p q : Pair) (a : Active) → IsRuleSet rs → active_pair rs.rules p ≡ Some a → AsOrTurned p q
    → (active_pair rs.rules q ≡ Some a) ⊎ ((active_pair rs.rules q ≡ Some (turned_active a)) × ((r : Rule) → slice_get rs.rules a.rule ≡ Some r → r.left ≡ r.right))
alike_rule rs p q a set is (inl e) = inl (ap (active_pair rs.rules) e ∙ is)
alike_rule rs p q a set is (inr e) = by (turn_active rs p a set is)
  where
    by : TurnedActive rs.rules p a → (active_pair rs.rules q ≡ Some a) ⊎ ((active_pair rs.rules q ≡ Some (turned_active a)) × ((r : Rule) → slice_get rs.rules a.rule ≡ Some r → r.left ≡ r.right))
    by (inl f) = inl (ap (active_pair rs.rules) e ∙ f)
    by (inr f) = inr (ap (active_pair rs.rules) e ∙ f.0, f.1)

turned_rule : (rs : Rules) (c : Configuration) (q : Pair) (b : Active) (fs more : List Pair) → IsRuleSet rs → Sound rs (record c { equations = fs })
    → Replaced q [] fs more → active_pair rs.rules q ≡ Some b → HasRule rs.rules q b
turned_rule rs c q b fs more set sound at is =
    let filled = filled_too q (products_by rs.rules c.next b) fs more at in
    let d : Configuration = record c { equations = fs } in
    rule_of rs d (fired_in rs.rules d filled.end b) set sound (record { equation = q; active = b; others = filled.end; at = filled.at; has_rule = is; result = refl })

arranged_fires : (rs : Rules) (c : Configuration) (fs others : List Pair) (p : Pair) (a : Active) → IsRuleSet rs → Sound rs (record c { equations = fs }) → HasRule rs.rules p a
    → Rearranged c.equations fs → Replaced p (products_by rs.rules c.next a) c.equations others → active_pair rs.rules p ≡ Some a
    → FiredToo rs.rules (record c { equations = fs }) (fired_in rs.rules c others a) a.rule
arranged_fires rs c fs others p a set sound hp arranged at is =
    by (alike_rule rs p found.equation a set is (alike_active rs p found.equation found.alike set a is))
  where
    removed : Removed p (products_by rs.rules c.next a) c.equations others
    removed = removed_too p (products_by rs.rules c.next a) c.equations others at

    found : FoundAlike p removed.rest fs
    found = found_alike p c.equations fs removed.rest arranged removed.at

    by : (active_pair rs.rules found.equation ≡ Some a) ⊎ ((active_pair rs.rules found.equation ≡ Some (turned_active a)) × ((r : Rule) → slice_get rs.rules a.rule ≡ Some r → r.left ≡ r.right))
        → FiredToo rs.rules (record c { equations = fs }) (fired_in rs.rules c others a) a.rule
    by (inl same) = fires_as_well rs.rules c p found.equation a others fs found.others removed found.rest_arranged found.at same
    by (inr turn) = turned_fires rs c p found.equation a others fs found.others removed found.rest_arranged (record {
      sound = sound;
      at = found.at;
      is = turn.0;
      rule_p = hp;
      rule_q = turned_rule rs c found.equation (turned_active a) fs found.others set sound found.at turn.0;
      mirror = mirrors hp.rule hp.is_rule (turn.1 hp.rule hp.there);
    })

-- ---- the same net

renamed_fires : (rs : Rules) (c d after : Configuration) → IsRuleSet rs → Sound rs c → Renames c d → (s : Firing rs.rules c after) → FiredToo rs.rules d after s.active.rule
renamed_fires rs c d after set sound r s =
    let end = renamed_in r.to after in
    let P : Configuration → Type 0 = λ z. (v : Firing rs.rules z end) × (v.active.rule ≡ s.active.rule) in
    let step = transport P (sym r.result) (renamed_firing rs c after r.to set sound r.fresh s, refl) in
    record { end = end; step = step.0; rule = step.1; same = renaming after end (renames_after_firing rs c d after set sound r s) }

rearranged_fires : (rs : Rules) (c d after : Configuration) → IsRuleSet rs → Sound rs c → Rearranges c d → (s : Firing rs.rules c after) → FiredToo rs.rules d after s.active.rule
rearranged_fires rs c d after set sound r s =
    let e : Configuration = record c { equations = d.equations } in
    let sound_e = same_sound rs c e (same_equations c d.equations r.equations) sound in
    let P : Configuration → Type 0 = λ z. FiredToo rs.rules z after s.active.rule in
    let Q : Configuration → Type 0 = λ z. FiredToo rs.rules e z s.active.rule in
    transport P (sym r.result) (transport Q (sym s.result)
    (arranged_fires rs c d.equations s.others s.equation s.active set sound_e (rule_of rs c after set sound s) r.equations s.at s.has_rule))

pub fired_too : (rs : Rules) (c d after : Configuration) → IsRuleSet rs → Sound rs c → Same c d → (s : Firing rs.rules c after) → FiredToo rs.rules d after s.active.rule
fired_too rs c d after set sound (renaming x y r) s = renamed_fires rs x y after set sound r s
fired_too rs c d after set sound (rearranging x y r) s = rearranged_fires rs x y after set sound r s
fired_too rs c d after set sound (through x y z first second) s =
    let one = fired_too rs x y after set sound first s in
    let two = fired_too rs y z one.end set (same_sound rs x y first sound) second one.step in
    record { end = two.end; step = two.step; rule = two.rule ∙ one.rule; same = through after one.end two.end one.same two.same }
