-- After any lives the files hold the state that was kept last, or the one that was coming.
use Rattle.std.proofs.Common.{◌≡◌, ◌⊎◌, inl, inr, ⊎_elim, ℕ, Bool, List, refl, sym, subst}
use Rattle.std.specs.Prelude.{IsTrue}
use Rattle.ic_kept.specs.Held.{Hold}
use Rattle.ic_kept.specs.Course.{Leads, stays, goes_on, HoldOneOf}
use Rattle.ic_kept.specs.Lives.{Lives, none_yet, one_opening, one_more, turned}
use Rattle.ic_kept.specs.lemmas.CourseLaws.{left_on_way, way_leads, leads_then}

turned_holds : (state a b : List ℕ) → Hold state a b → Hold state b a
turned_holds state a b (n, inl is) = (n, inr is)
turned_holds state a b (n, inr is) = (n, inl is)

turned_either : (kept coming a b : List ℕ) → HoldOneOf kept coming a b → HoldOneOf kept coming b a
turned_either kept coming a b is = ⊎_elim (λ old. inl (turned_holds kept a b old)) (λ new. inr (turned_holds coming a b new)) is

module _ {D : Type 0} (keeps_model : D → Bool) (content : D → List ℕ) (image : D → List ℕ → Type 0) (clock : D → ℕ) (left : D → ℕ → List ℕ → Type 0)
    (content_is_image : (disk : D) → image disk (content disk)) (one_held : (state other a b : List ℕ) → Hold state a b → Hold other a b → state ≡ other)
    (After : (old new : List ℕ) → Type 0) (first : List ℕ) where
  pub record Stands (kept coming : List ℕ) (one other : D) : Type 0 where
    pub keeps : IsTrue (keeps_model one)
    pub keeps_too : IsTrue (keeps_model other)
    pub holds : (a b : List ℕ) → image one a → image other b → HoldOneOf kept coming a b
    pub chain : Leads After first kept
    pub next : (coming ≡ kept) ⊎ After kept coming

  -- an opening finds one of the two
  pub opened_is : (kept coming : List ℕ) (one other : D) → Stands kept coming one other → (state : List ℕ) → Hold state (content one) (content other) → (state ≡ kept) ⊎ (state ≡ coming)
  opened_is kept coming one other stands state held =
      let a = content one in
      let b = content other in
      ⊎_elim (λ old. inl (one_held state kept a b held old)) (λ new. inr (one_held state coming a b held new))
      (stands.holds a b (content_is_image one) (content_is_image other))

  coming_leads : (kept coming : List ℕ) → Leads After first kept → (coming ≡ kept) ⊎ After kept coming → Leads After first coming
  coming_leads kept coming chain next = ⊎_elim
      (λ same. subst (λ (s : List ℕ). Leads After first s) (sym same) chain)
      (λ after. goes_on first kept coming chain after)
      next

  pub opened_leads : (kept coming : List ℕ) (one other : D) → Stands kept coming one other → (state : List ℕ) → Hold state (content one) (content other) → Leads After first state
  opened_leads kept coming one other stands state held = ⊎_elim
      (λ old. subst (λ (s : List ℕ). Leads After first s) (sym old) stands.chain)
      (λ new. subst (λ (s : List ℕ). Leads After first s) (sym new) (coming_leads kept coming stands.chain stands.next))
      (opened_is kept coming one other stands state held)

  pub stands : (kept coming : List ℕ) (one other : D) → Lives keeps_model content image clock left After first kept coming one other → Stands kept coming one other
  stands kept coming one other (none_yet x y found) = record {
    keeps = found.keeps;
    keeps_too = found.keeps_too;
    holds = λ a b on_one on_other. inl (found.images a b on_one on_other);
    chain = stays first;
    next = inl refl;
  }
  stands kept coming one other (one_opening x y x_was y_was x_then y_then x_now y_now lives reads reads_too found found_too) =
      let was = stands kept coming x_was y_was lives in
      record {
        keeps = found.keeps;
        keeps_too = found_too.keeps;
        holds = λ a b on_one on_other. was.holds a b (reads.leaves.each a (found.images a on_one)) (reads_too.leaves.each b (found_too.images b on_other));
        chain = was.chain;
        next = was.next;
      }
  stands kept coming one other (one_more kept_was coming_was state last next x_was y_was x_now y_now k n lives opened way found) =
      let was = stands kept_was coming_was x_was y_was lives in
      let leads = λ (a b : List ℕ) (on_one : image one a) (on_other : image other b). way_leads keeps_model image clock left After k n state way kept coming a b (found.images a b on_one on_other) in
      let here = leads (content one) (content other) (content_is_image one) (content_is_image other) in
      record {
        keeps = found.keeps;
        keeps_too = found.keeps_too;
        holds = λ a b on_one on_other. left_on_way keeps_model image clock left After k n state opened.model opened.keeps way kept coming a b (found.images a b on_one on_other);
        chain = leads_then After first state kept (opened_leads kept_was coming_was x_was y_was was state opened.held) here.0;
        next = here.1;
      }
  stands kept coming one other (turned x y x_was y_was lives) =
      let was = stands kept coming other one lives in
      record {
        keeps = was.keeps_too;
        keeps_too = was.keeps;
        holds = λ a b on_one on_other. turned_either kept coming b a (was.holds b a on_other on_one);
        chain = was.chain;
        next = was.next;
      }
