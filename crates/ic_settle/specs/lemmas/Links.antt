-- Links between containers: a step along them that halves the way, and a link set.
use Rattle.std.proofs.Common.{◌≡◌, ℕ, ◌+◌, ◌<◌, ◌≤◌, ◌==◌, List, length, cond, get_or, sym, ap, ◌∙◌, eq-eqb, inl, inr, ◌⊎◌, arith}
use Rattle.std.proofs.Math.ListN.{set}
use Rattle.std.proofs.lemmas.Bool.{cases_eq, cases_lt, cond-true, cond-false, ne_eqb}
use Rattle.std.proofs.lemmas.List.{get_or-set_same, get_or-set_other, length-set}
use Rattle.ic_settle.specs.lemmas.Containers.{IsLinked, IsRoot, AreUnlinkedFrom, redirected}

-- ---- a step along the links

abbrev pub two_along : List ℕ → ℕ → ℕ
two_along links e = get_or links (get_or links e 0) 0

module _ (links : List ℕ) (linked : IsLinked links) (e : ℕ) (inside : e < length links) (moved : get_or links e 0 ≡ e → ⊥) where
  at_it : get_or (set links e (two_along links e)) e 0 ≡ two_along links e
  at_it = get_or-set_same links e (two_along links e) 0 inside

  at_other : (j : ℕ) → (j ≡ e → ⊥) → get_or (set links e (two_along links e)) j 0 ≡ get_or links j 0
  at_other j apart = get_or-set_other links e j (two_along links e) 0 apart

  pub along_within : get_or links e 0 < length links
  along_within = linked.within e inside

  pub two_within : two_along links e < length links
  two_within = linked.within (get_or links e 0) along_within

  -- two links lead to a container without one, or ahead
  two_ahead : (get_or links (two_along links e) 0 ≡ two_along links e) ⊎ (e < two_along links e)
  two_ahead = elim (linked.ahead e inside) [
    | inl h ↦ inl (ap (λ k. get_or links k 0) h)
    | inr h ↦ elim (linked.ahead (get_or links e 0) along_within) [
      | inl k ↦ inl k
      | inr k ↦ inr (omega arith)
    ]
  ]

  two_apart : two_along links e ≡ e → ⊥
  two_apart back = elim (linked.ahead e inside) [
    | inl h ↦ moved (sym h ∙ back)
    | inr h ↦ elim (linked.ahead (get_or links e 0) along_within) [
      | inl k ↦ moved (sym (ap (λ j. get_or links j 0) back) ∙ k ∙ back)
      | inr k ↦ omega arith
    ]
  ]

  halved_within : (j : ℕ) → j < length (set links e (two_along links e)) → get_or (set links e (two_along links e)) j 0 < length (set links e (two_along links e))
  halved_within j within =
      let same = length-set links e (two_along links e) in
      elim (cases_eq j e) [
        | inl h ↦ omega (arith, same, ap (λ k. get_or (set links e (two_along links e)) k 0) h ∙ at_it, two_within)
        | inr h ↦ let short : j < length links = omega (arith, same) in omega (arith, same, at_other j h, linked.within j short)
      ]

  halved_ahead : (j : ℕ) → j < length (set links e (two_along links e))
      → (get_or (set links e (two_along links e)) (get_or (set links e (two_along links e)) j 0) 0 ≡ get_or (set links e (two_along links e)) j 0)
      ⊎ (j < get_or (set links e (two_along links e)) j 0)
  halved_ahead j within =
      let links' = set links e (two_along links e) in
      let short : j < length links = omega (arith, length-set links e (two_along links e)) in
      elim (cases_eq j e) [
        | inl h ↦ let here : get_or links' j 0 ≡ two_along links e = ap (λ k. get_or links' k 0) h ∙ at_it in
            elim two_ahead [
              | inl k ↦ inl (ap (λ i. get_or links' i 0) here ∙ at_other (two_along links e) two_apart ∙ k ∙ sym here)
              | inr k ↦ inr (omega (arith, here))
            ]
        | inr h ↦ let here : get_or links' j 0 ≡ get_or links j 0 = at_other j h in
            elim (linked.ahead j short) [
              | inl k ↦ elim (cases_eq (get_or links j 0) e) [
                | inl m ↦ absurd (moved (sym (ap (λ i. get_or links i 0) m) ∙ k ∙ m))
                | inr m ↦ inl (ap (λ i. get_or links' i 0) here ∙ at_other (get_or links j 0) m ∙ k ∙ sym here)
              ]
              | inr k ↦ inr (omega (arith, here))
            ]
      ]

  pub halved-linked : IsLinked (set links e (two_along links e))
  halved-linked = record { within = halved_within; ahead = halved_ahead }

  pub halved-unlinked : (j : ℕ) → get_or links j 0 ≡ j → get_or (set links e (two_along links e)) j 0 ≡ j
  halved-unlinked j own = at_other j (λ h. moved (sym (ap (λ k. get_or links k 0) h) ∙ own ∙ h)) ∙ own

  pub halved-along : (r : ℕ → ℕ) → IsRoot links r → r (two_along links e) ≡ r e
  halved-along r is = is.along (get_or links e 0) along_within ∙ is.along e inside

  pub halved-root : (r : ℕ → ℕ) → IsRoot links r → IsRoot (set links e (two_along links e)) r
  halved-root r is =
      let links' = set links e (two_along links e) in
      let same = length-set links e (two_along links e) in
      record {
        within = λ j within. let short : j < length links = omega (arith, same) in omega (arith, same, is.within j short);
        ends = λ j within.
            let short : j < length links = omega (arith, same) in
            halved-unlinked (r j) (is.ends j short);
        own = λ j within own.
            let short : j < length links = omega (arith, same) in
            elim (cases_eq j e) [
              | inl h ↦ absurd (two_apart (sym at_it ∙ ap (λ k. get_or links' k 0) (sym h) ∙ own ∙ h))
              | inr h ↦ is.own j short (sym (at_other j h) ∙ own)
            ];
        along = λ j within.
            let short : j < length links = omega (arith, same) in
            elim (cases_eq j e) [
              | inl h ↦ ap r (ap (λ k. get_or links' k 0) h ∙ at_it) ∙ halved-along r is ∙ ap r (sym h)
              | inr h ↦ ap r (at_other j h) ∙ is.along j short
            ];
      }

-- ---- a link set

module _ (links : List ℕ) (linked : IsLinked links) (place target : ℕ) (inside : place < length links) (free : AreUnlinkedFrom place links)
    (there : target < length links) (end : get_or links target 0 ≡ target) (apart : target ≡ place → ⊥) where
  set_here : get_or (set links place target) place 0 ≡ target
  set_here = get_or-set_same links place target 0 inside

  set_other : (j : ℕ) → (j ≡ place → ⊥) → get_or (set links place target) j 0 ≡ get_or links j 0
  set_other j h = get_or-set_other links place j target 0 h

  set_end : get_or (set links place target) target 0 ≡ target
  set_end = set_other target apart ∙ end

  set_within : (j : ℕ) → j < length (set links place target) → get_or (set links place target) j 0 < length (set links place target)
  set_within j within =
      let same = length-set links place target in
      elim (cases_eq j place) [
        | inl h ↦ omega (arith, same, ap (λ k. get_or (set links place target) k 0) h ∙ set_here)
        | inr h ↦ let short : j < length links = omega (arith, same) in omega (arith, same, set_other j h, linked.within j short)
      ]

  -- a container whose link leads to this place stands before it
  leads_before : (j : ℕ) → j < length links → (j ≡ place → ⊥) → get_or links j 0 ≡ place → j < place
  leads_before j short h leads = elim (cases_lt j place) [
    | inl k ↦ k
    | inr k ↦ absurd (h (sym (free j k short) ∙ leads))
  ]

  set_ahead : (j : ℕ) → j < length (set links place target)
      → (get_or (set links place target) (get_or (set links place target) j 0) 0 ≡ get_or (set links place target) j 0) ⊎ (j < get_or (set links place target) j 0)
  set_ahead j within =
      let links' = set links place target in
      let short : j < length links = omega (arith, length-set links place target) in
      elim (cases_eq j place) [
        | inl h ↦ let here : get_or links' j 0 ≡ target = ap (λ k. get_or links' k 0) h ∙ set_here in
            inl (ap (λ i. get_or links' i 0) here ∙ set_end ∙ sym here)
        | inr h ↦ let here : get_or links' j 0 ≡ get_or links j 0 = set_other j h in
            elim (cases_eq (get_or links j 0) place) [
              | inl m ↦ let before = leads_before j short h m in inr (omega (arith, here, m))
              | inr m ↦ elim (linked.ahead j short) [
                | inl k ↦ inl (ap (λ i. get_or links' i 0) here ∙ set_other (get_or links j 0) m ∙ k ∙ sym here)
                | inr k ↦ inr (omega (arith, here))
              ]
            ]
      ]

  pub set-linked : IsLinked (set links place target)
  set-linked = record { within = set_within; ahead = set_ahead }

  pub set-unlinked : AreUnlinkedFrom (place + 1) (set links place target)
  set-unlinked j above within =
      let short : j < length links = omega (arith, length-set links place target) in
      let after : place ≤ j = omega arith in
      set_other j (λ h. omega arith) ∙ free j after short

  hit : (r : ℕ → ℕ) (j : ℕ) → r j ≡ place → redirected place target r j ≡ target
  hit r j e = cond-true (r j == place) target (r j) (eq-eqb (r j) place e)

  miss : (r : ℕ → ℕ) (j : ℕ) → (r j ≡ place → ⊥) → redirected place target r j ≡ r j
  miss r j e = cond-false (r j == place) target (r j) (ne_eqb (r j) place e)

  pub set-root : (r : ℕ → ℕ) → IsRoot links r → IsRoot (set links place target) (redirected place target r)
  set-root r is =
      let links' = set links place target in
      let r' = redirected place target r in
      let same = length-set links place target in
      record {
        within = λ j within.
            let short : j < length links = omega (arith, same) in
            elim (cases_eq (r j) place) [
              | inl h ↦ omega (arith, same, hit r j h)
              | inr h ↦ omega (arith, same, miss r j h, is.within j short)
            ];
        ends = λ j within.
            let short : j < length links = omega (arith, same) in
            elim (cases_eq (r j) place) [
              | inl h ↦ ap (λ k. get_or links' k 0) (hit r j h) ∙ set_end ∙ sym (hit r j h)
              | inr h ↦ ap (λ k. get_or links' k 0) (miss r j h) ∙ set_other (r j) h ∙ is.ends j short ∙ sym (miss r j h)
            ];
        own = λ j within own.
            let short : j < length links = omega (arith, same) in
            elim (cases_eq j place) [
              | inl h ↦ absurd (apart (sym set_here ∙ ap (λ k. get_or links' k 0) (sym h) ∙ own ∙ h))
              | inr h ↦ let mine = is.own j short (sym (set_other j h) ∙ own) in miss r j (λ k. h (sym mine ∙ k)) ∙ mine
            ];
        along = λ j within.
            let short : j < length links = omega (arith, same) in
            elim (cases_eq j place) [
              | inl h ↦ let own_target = is.own target there end in
                  let own_place = is.own place inside (free place (omega arith) inside) in
                  ap r' (ap (λ k. get_or links' k 0) h ∙ set_here) ∙ miss r target (λ k. apart (sym own_target ∙ k)) ∙ own_target
                  ∙ sym (hit r place own_place) ∙ ap r' (sym h)
              | inr h ↦ ap r' (set_other j h) ∙ ap (λ k. cond (k == place) target k) (is.along j short)
            ];
      }

-- what has no link keeps none
pub still-free : (links links' links'' : List ℕ) (place : ℕ) → AreUnlinkedFrom place links → links' ≡ links → length links'' ≡ length links'
    → ((e : ℕ) → get_or links' e 0 ≡ e → get_or links'' e 0 ≡ e) → AreUnlinkedFrom place links''
still-free links links' links'' place free same size keeps e above within =
    let short : e < length links = omega (arith, size, ap length same) in
    keeps e (ap (λ l. get_or l e 0) same ∙ free e above short)

-- containers that are all linked to themselves
pub own-linked : (links : List ℕ) → ((e : ℕ) → e < length links → get_or links e 0 ≡ e) → IsLinked links
own-linked links own = record {
  within = λ e h. omega (arith, own e h);
  ahead = λ e h. inl (ap (λ k. get_or links k 0) (own e h));
}
