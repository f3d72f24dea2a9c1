-- Results gathered one by one.
use Rattle.std.proofs.Common.{◌≡◌, ℕ, zero, suc, ◌+◌, ◌<◌, ◌==◌, ◌&&◌, ◌||◌, List, [], ◌∷◌, ◌++◌, Bool, true, false, not, Option, None, Some, Ok, Err, length, map, cond, nat_lt, option_map, refl, sym, ap, ◌∙◌, append_assoc, append-nil, arith, subst as transport}
use Rattle.std.proofs.lemmas.List.Sums.{sum_by-append}
use Rattle.std.proofs.lemmas.Grind.{common_steps}
use Rattle.std.proofs.lemmas.List.Folds.{list_any-append}
use Rattle.std.specs.Cmp.{unsigned_Decides}
use Rattle.std.specs.List.{list_any, find}
use Rattle.std.specs.Option.{option_map_or}
use Rattle.ic_term.specs.Tree.{Pair}
use Rattle.ic_term.specs.Term.{pair}
use Rattle.ic_round.specs.Works.{PlainFired}
use Rattle.ic_round.specs.Gathering.{Gapped, gathered, gaps_from, results_for, filled_from, is_lost, is_strange}
use Rattle.ic_round.specs.WorkViews.{fired_of}
use Rattle.ic_round.specs.declared.work.Fired.{Fired}
use Rattle.ic_round.specs.declared.gather_fault.GatherFault.TheVariants.{Lost, Stranger}
use Rattle.ic_term.specs.Configuration.{Configuration}
use Rattle.ic_reference.specs.inner.Slots.{slots_from, put_in, joined}
use Rattle.ic_round.specs.lemmas.AnyOrder.{results-cons}
use Rattle.ic_round.specs.lemmas.FreshNames.{apart_false}

-- ---- one more result

results-this : (n : ℕ) (f : PlainFired) (fs : List PlainFired) → (f.place == n) ≡ true → results_for n (f ∷ fs) ≡ 1 + results_for n fs
results-this n f fs e = results-cons n f fs ∙ ap (λ (b : Bool). cond b 1 0 + results_for n fs) e

results-other : (n : ℕ) (f : PlainFired) (fs : List PlainFired) → (f.place == n) ≡ false → results_for n (f ∷ fs) ≡ results_for n fs
results-other n f fs e =
    let without : 0 + results_for n fs ≡ results_for n fs = omega arith in
    results-cons n f fs ∙ ap (λ (b : Bool). cond b 1 0 + results_for n fs) e ∙ without

results-push : (n : ℕ) (fs : List PlainFired) (f : PlainFired) → results_for n (fs ++ f ∷ []) ≡ results_for n fs + cond (f.place == n) 1 0
results-push n fs f =
    let split = sum_by-append (λ (g : PlainFired). cond (g.place == n) 1 0) fs (f ∷ []) in
    let one = results-cons n f [] in
    omega arith

find_other : (n : ℕ) (fs : List PlainFired) (f : PlainFired) → (f.place == n) ≡ false → find (λ (g : PlainFired). g.place == n) (fs ++ f ∷ []) ≡ find (λ (g : PlainFired). g.place == n) fs
find_other n [] f e = rw e refl
find_other n (g ∷ fs) f e = ap (λ o. cond (g.place == n) (Some g) o) (find_other n fs f e)

-- the first result for its place
find_this : (n : ℕ) (fs : List PlainFired) (f : PlainFired) → (f.place == n) ≡ true
    → find (λ (g : PlainFired). g.place == n) (fs ++ f ∷ []) ≡ cond (results_for n fs == 0) (Some f) (find (λ (g : PlainFired). g.place == n) fs)
find_this n [] f e = rw e refl
find_this n (g ∷ fs) f e = at (g.place == n) refl (find_this n fs f e)
  where
    at : (b : Bool) → (g.place == n) ≡ b
        → find (λ (h : PlainFired). h.place == n) (fs ++ f ∷ []) ≡ cond (results_for n fs == 0) (Some f) (find (λ (h : PlainFired). h.place == n) fs)
        → cond (g.place == n) (Some g) (find (λ (h : PlainFired). h.place == n) (fs ++ f ∷ []))
        ≡ cond (results_for n (g ∷ fs) == 0) (Some f) (cond (g.place == n) (Some g) (find (λ (h : PlainFired). h.place == n) fs))
    at true h rest =
        let many = apart_false (results_for n (g ∷ fs)) 0 (λ none. (let count = results-this n g fs h in absurd (omega arith))) in
        rw (many, h) refl
    at false h rest =
        let same = results-other n g fs h in
        rw (same, h) rest

-- there is a first result where there is one
found_or_none : (n : ℕ) (fs : List PlainFired) (o : Option PlainFired) → find (λ (g : PlainFired). g.place == n) fs ≡ o → (results_for n fs == 0) ≡ option_map_or (λ g. false) o true
found_or_none n [] None e = refl
found_or_none n [] (Some g) e = cc
found_or_none n (f ∷ fs) o e = at (f.place == n) refl e (found_or_none n fs o)
  where
    at : (b : Bool) → (f.place == n) ≡ b → cond (f.place == n) (Some f) (find (λ (g : PlainFired). g.place == n) fs) ≡ o
        → (find (λ (g : PlainFired). g.place == n) fs ≡ o → (results_for n fs == 0) ≡ option_map_or (λ g. false) o true)
        → (results_for n (f ∷ fs) == 0) ≡ option_map_or (λ g. false) o true
    at true h is rest =
        let many = apart_false (results_for n (f ∷ fs)) 0 (λ none. (let count = results-this n f fs h in absurd (omega arith))) in
        let here : Some f ≡ o = rw h at is in
        many ∙ ap (λ p. option_map_or (λ (g : PlainFired). false) p true) here
    at false h is rest =
        let same = results-other n f fs h in
        let below : find (λ (g : PlainFired). g.place == n) fs ≡ o = rw h at is in
        rw same (rest below)

-- ---- the places

-- a result for an earlier place changes nothing
slots_earlier : (i : ℕ) (es : List (Option Pair)) (fs : List PlainFired) (f : PlainFired) → f.place < i
    → (slots_from i es (fs ++ f ∷ []) ≡ slots_from i es fs) × (list_any (λ j. f.place == j) (gaps_from i es) ≡ false)
slots_earlier i [] fs f low = (refl, refl)
slots_earlier i (Some p ∷ es) fs f low =
    let rest = slots_earlier (i + 1) es fs f (omega arith) in
    (ap (λ ss. Some (p ∷ []) ∷ ss) rest.0, rest.1)
slots_earlier i (None ∷ es) fs f low =
    let rest = slots_earlier (i + 1) es fs f (omega arith) in
    let other = apart_false f.place i (λ e. omega arith) in
    ((λ j. option_map (λ (g : PlainFired). g.products) (find_other i fs f other j) ∷ rest.0 j), rw other rest.1)

-- a result is put in its place, if that awaits it
pub put-slots : (k i : ℕ) (es : List (Option Pair)) (fs : List PlainFired) (f : PlainFired) → f.place ≡ i + k
    → put_in k f.products (slots_from i es fs) ≡ (slots_from i es (fs ++ f ∷ []), list_any (λ j. f.place == j) (gaps_from i es) && (results_for f.place fs == 0))
put-slots k i [] fs f is = refl
put-slots zero i (Some p ∷ es) fs f is =
    let rest = slots_earlier (i + 1) es fs f (omega arith) in
    λ j. (Some (p ∷ []) ∷ sym rest.0 j, sym rest.1 j && (results_for f.place fs == 0))
put-slots zero i (None ∷ es) fs f is =
    let rest = slots_earlier (i + 1) es fs f (omega arith) in
    let same : f.place ≡ i = omega arith in
    let here = (unsigned_Decides f.place i).1 same in
    rw (find_this i fs f here, here, rest.0)
    (at (find (λ (g : PlainFired). g.place == i) fs) (found_or_none i fs (find (λ (g : PlainFired). g.place == i) fs) refl)
    (results_for f.place fs == 0) (ap (λ n. results_for n fs == 0) same))
  where
    at : (o : Option PlainFired) → (results_for i fs == 0) ≡ option_map_or (λ g. false) o true → (b : Bool) → b ≡ (results_for i fs == 0)
        → put_in 0 f.products (option_map (λ (g : PlainFired). g.products) o ∷ slots_from (i + 1) es fs)
        ≡ (option_map (λ (g : PlainFired). g.products) (cond (results_for i fs == 0) (Some f) o) ∷ slots_from (i + 1) es fs, b)
    at None e b same = rw (same, e) refl
    at (Some g) e b same = rw (same, e) refl
put-slots (suc k) i (Some p ∷ es) fs f is = ap (λ r. (Some (p ∷ []) ∷ r.0, r.1)) (put-slots k (i + 1) es fs f (omega arith))
put-slots (suc k) i (None ∷ es) fs f is =
    let other = apart_false f.place i (λ e. omega arith) in
    let rest = put-slots k (i + 1) es fs f (omega arith) in
    rw (find_other i fs f other, other) (ap (λ r. (option_map (λ (g : PlainFired). g.products) (find (λ (g : PlainFired). g.place == i) fs) ∷ r.0, r.1)) rest)

pub joined-slots : (i : ℕ) (es : List (Option Pair)) (fs : List PlainFired)
    → joined (slots_from i es fs) ≡ cond (is_lost (gaps_from i es) fs) None (Some (filled_from i es fs))
joined-slots i [] fs = refl
joined-slots i (Some p ∷ es) fs = at (is_lost (gaps_from (i + 1) es) fs) (joined-slots (i + 1) es fs)
  where
    at : (b : Bool) → joined (slots_from (i + 1) es fs) ≡ cond b None (Some (filled_from (i + 1) es fs))
        → option_map (λ rest. (p ∷ []) ++ rest) (joined (slots_from (i + 1) es fs)) ≡ cond b None (Some (p ∷ filled_from (i + 1) es fs))
    at true e = ap (option_map (λ rest. (p ∷ []) ++ rest)) e
    at false e = ap (option_map (λ rest. (p ∷ []) ++ rest)) e
joined-slots i (None ∷ es) fs = by (find (λ (g : PlainFired). g.place == i) fs) (found_or_none i fs (find (λ (g : PlainFired). g.place == i) fs) refl) (is_lost (gaps_from (i + 1) es) fs) (joined-slots (i + 1) es fs)
  where
    by : (o : Option PlainFired) → (results_for i fs == 0) ≡ option_map_or (λ g. false) o true → (b : Bool) → joined (slots_from (i + 1) es fs) ≡ cond b None (Some (filled_from (i + 1) es fs))
        → joined (option_map (λ (g : PlainFired). g.products) o ∷ slots_from (i + 1) es fs)
        ≡ cond ((results_for i fs == 0) || b) None (Some (option_map_or (λ (g : PlainFired). g.products) o [] ++ filled_from (i + 1) es fs))
    by None e b rest = rw e refl
    by (Some g) e true rest = rw e (ap (option_map (λ r. g.products ++ r)) rest)
    by (Some g) e false rest = rw e (ap (option_map (λ r. g.products ++ r)) rest)

-- ---- strangers

abbrev Bad : List ℕ → List PlainFired → PlainFired → Bool
Bad gaps all f = not (list_any (λ i. f.place == i) gaps) || nat_lt 1 (results_for f.place all)

same_strange : (gaps : List ℕ) (all ds : List PlainFired) (f : PlainFired) → results_for f.place ds ≡ 0 → list_any (Bad gaps (all ++ f ∷ [])) ds ≡ list_any (Bad gaps all) ds
same_strange gaps all [] f none = refl
same_strange gaps all (d ∷ ds) f none =
    let count = results-cons f.place d ds in
    let apart : (f.place == d.place) ≡ false = apart_false f.place d.place (λ e.
    (let self = results-this f.place d ds ((unsigned_Decides d.place f.place).1 (sym e)) in absurd (omega arith))) in
    let without : results_for d.place all + 0 ≡ results_for d.place all = omega arith in
    let same : results_for d.place (all ++ f ∷ []) ≡ results_for d.place all =
    results-push d.place all f ∙ ap (λ (b : Bool). results_for d.place all + cond b 1 0) apart ∙ without in
    rw (same, same_strange gaps all ds f (omega arith)) refl

two_more : (n : ℕ) → nat_lt 1 (suc (suc n)) ≡ true
two_more n = grind (arith, common_steps)

or_last : (a b : Bool) → b ≡ true → (a || b) ≡ true
or_last true b e = refl
or_last false b e = e

inner_true : (t m : Bool) → m ≡ true → ((not t || m) || false) ≡ true
inner_true true m e = rw e refl
inner_true false m e = refl

right_true : (t z : Bool) → z ≡ false → not (t && z) ≡ true
right_true true z e = rw e refl
right_true false z e = refl

pub strange-push : (gaps : List ℕ) (fs : List PlainFired) (f : PlainFired)
    → is_strange gaps (fs ++ f ∷ []) ≡ (is_strange gaps fs || not (list_any (λ i. f.place == i) gaps && (results_for f.place fs == 0)))
strange-push gaps fs f =
    list_any-append (Bad gaps (fs ++ f ∷ [])) fs (f ∷ []) ∙ at (results_for f.place fs) refl (list_any (λ i. f.place == i) gaps)
  where
    pushed : results_for f.place (fs ++ f ∷ []) ≡ results_for f.place fs + 1
    pushed = results-push f.place fs f ∙ ap (λ b. results_for f.place fs + cond b 1 0) ((unsigned_Decides f.place f.place).1 refl)

    at : (n : ℕ) → results_for f.place fs ≡ n → (there : Bool)
        → (list_any (Bad gaps (fs ++ f ∷ [])) fs || ((not there || nat_lt 1 (results_for f.place (fs ++ f ∷ []))) || false))
        ≡ (list_any (Bad gaps fs) fs || not (there && (results_for f.place fs == 0)))
    at zero e true = rw (pushed, e, same_strange gaps fs fs f e) refl
    at zero e false = or_last _ _ refl ∙ sym (or_last _ _ refl)
    at (suc n) e there =
        let count : results_for f.place (fs ++ f ∷ []) ≡ suc (suc n) = pushed ∙ omega arith in
        or_last _ _ (inner_true there _ (ap (nat_lt 1) count ∙ two_more n)) ∙ sym (or_last _ _ (right_true there _ (apart_false (results_for f.place fs) 0 (λ none. absurd (omega arith)))))

-- ---- all results

-- these results have come, and those are left
pub record Gathers (es : List (Option Pair)) (all : List PlainFired) (slots : List (Option (List Pair))) (strange : Bool) (left : List PlainFired) : Type 0 where
  pub done : List PlainFired
  pub parts : done ++ left ≡ all
  pub placed : slots ≡ slots_from 0 es done
  pub strangers : strange ≡ is_strange (gaps_from 0 es) done

pub gathers-next : (es : List (Option Pair)) (all : List PlainFired) (slots more : List (Option (List Pair))) (strange here : Bool) (f : PlainFired) (left : List PlainFired)
    → Gathers es all slots strange (f ∷ left) → put_in f.place f.products slots ≡ (more, here) → Gathers es all more (strange || not here) left
gathers-next es all slots more strange here f left g put =
    let result = sym put ∙ ap (put_in f.place f.products) g.placed ∙ put-slots f.place 0 es g.done f (omega arith) in
    record {
      done = g.done ++ f ∷ [];
      parts = append_assoc g.done (f ∷ []) left ∙ g.parts;
      placed = ap (λ r. r.0) result;
      strangers = (λ i. g.strangers i || not (ap (λ r. r.1) result i)) ∙ sym (strange-push (gaps_from 0 es) g.done f);
    }

pub gathers-end : (es : List (Option Pair)) (all : List PlainFired) (slots : List (Option (List Pair))) (strange : Bool) → Gathers es all slots strange []
    → (joined slots ≡ cond (is_lost (gaps_from 0 es) all) None (Some (filled_from 0 es all))) × (strange ≡ is_strange (gaps_from 0 es) all)
gathers-end es all slots strange g =
    let whole = sym (append-nil g.done) ∙ g.parts in (
      ap joined g.placed ∙ joined-slots 0 es g.done ∙ ap (λ fs. cond (is_lost (gaps_from 0 es) fs) None (Some (filled_from 0 es fs))) whole,
      g.strangers ∙ ap (is_strange (gaps_from 0 es)) whole,
    )

-- ---- the answers

all_there : (b : Bool) (out es : List Pair) → cond b None (Some out) ≡ Some es → (b ≡ false) × (out ≡ es)
all_there true out es e = cc
all_there false out es e = (refl, cc)

one_missing : (b : Bool) (out : List Pair) → cond b None (Some out) ≡ None → b ≡ true
one_missing true out e = refl
one_missing false out e = cc

pub gathered-lost : (rest : Gapped) (fs : List PlainFired) (slots : List (Option (List Pair))) (strange : Bool) → Gathers rest.equations fs slots strange []
    → joined slots ≡ None → gathered rest fs ≡ Err Lost
gathered-lost rest fs slots strange g none =
    let ends = gathers-end rest.equations fs slots strange g in
    rw (one_missing (is_lost (gaps_from 0 rest.equations) fs) (filled_from 0 rest.equations fs) (sym ends.0 ∙ none)) refl

pub gathered-strange : (rest : Gapped) (fs : List PlainFired) (slots : List (Option (List Pair))) (strange : Bool) (es : List Pair) → Gathers rest.equations fs slots strange []
    → joined slots ≡ Some es → strange ≡ true → gathered rest fs ≡ Err Stranger
gathered-strange rest fs slots strange es g some is =
    let ends = gathers-end rest.equations fs slots strange g in
    let there = all_there (is_lost (gaps_from 0 rest.equations) fs) (filled_from 0 rest.equations fs) es (sym ends.0 ∙ some) in
    rw (there.0, sym ends.1 ∙ is) refl

pub gathered-full : (rest : Gapped) (fs : List PlainFired) (slots : List (Option (List Pair))) (strange : Bool) (es : List Pair) → Gathers rest.equations fs slots strange []
    → joined slots ≡ Some es → strange ≡ false → gathered rest fs ≡ Ok (record { interface = rest.interface; equations = es; next = rest.next })
gathered-full rest fs slots strange es g some is =
    let ends = gathers-end rest.equations fs slots strange g in
    let there = all_there (is_lost (gaps_from 0 rest.equations) fs) (filled_from 0 rest.equations fs) es (sym ends.0 ∙ some) in
    rw (there.0, sym ends.1 ∙ is) (ap (λ (ps : List Pair). let d : Configuration = record { interface = rest.interface; equations = ps; next = rest.next } in Ok d) there.1)

pub none_left : (fs : List Fired) → length fs ≡ 0 → map fired_of fs ≡ []
none_left [] e = refl
none_left (f ∷ fs) e = absurd (omega (arith, e))

-- ---- over the program's results

or_false : (b : Bool) → (b || false) ≡ b
or_false true = refl
or_false false = refl

or_true : (b : Bool) → (b || true) ≡ true
or_true true = refl
or_true false = refl

next_fired : (es : List (Option Pair)) (all : List PlainFired) (slots more : List (Option (List Pair))) (strange here : Bool) (f : Fired) (old left : List Fired)
    → old ≡ f ∷ left → Gathers es all slots strange (map fired_of old) → put_in f.place (map pair f.products.items) slots ≡ (more, here)
    → Gathers es all more (strange || not here) (map fired_of left)
next_fired es all slots more strange here f old left first g put =
    let P : List PlainFired → Type 0 = λ l. Gathers es all slots strange l in
    gathers-next es all slots more strange here (fired_of f) (map fired_of left) (transport P (ap (map fired_of) first) g) put

pub next_placed : (es : List (Option Pair)) (all : List PlainFired) (slots more : List (Option (List Pair))) (strange here : Bool) (f : Fired) (old left : List Fired)
    → old ≡ f ∷ left → Gathers es all slots strange (map fired_of old) → put_in f.place (map pair f.products.items) slots ≡ (more, here)
    → here ≡ true → Gathers es all more strange (map fired_of left)
next_placed es all slots more strange here f old left first g put is =
    let P : Bool → Type 0 = λ b. Gathers es all more b (map fired_of left) in
    transport P (ap (λ b. strange || not b) is ∙ or_false strange) (next_fired es all slots more strange here f old left first g put)

pub next_stranger : (es : List (Option Pair)) (all : List PlainFired) (slots more : List (Option (List Pair))) (strange here : Bool) (f : Fired) (old left : List Fired)
    → old ≡ f ∷ left → Gathers es all slots strange (map fired_of old) → put_in f.place (map pair f.products.items) slots ≡ (more, here)
    → here ≡ false → Gathers es all more true (map fired_of left)
next_stranger es all slots more strange here f old left first g put is =
    let P : Bool → Type 0 = λ b. Gathers es all more b (map fired_of left) in
    transport P (ap (λ b. strange || not b) is ∙ or_true strange) (next_fired es all slots more strange here f old left first g put)

pub ended : (es : List (Option Pair)) (all : List PlainFired) (slots : List (Option (List Pair))) (strange : Bool) (left : List Fired) → length left ≡ 0
    → Gathers es all slots strange (map fired_of left) → Gathers es all slots strange []
ended es all slots strange left empty g =
    let P : List PlainFired → Type 0 = λ l. Gathers es all slots strange l in
    transport P (none_left left empty) g
