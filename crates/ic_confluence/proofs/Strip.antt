-- Lemmas: where any two steps from one state meet within one step, all ways to a state without steps are equally long and
-- end in the same state (Newman's lemma has less to go on: here one step is enough on each side).
use Rattle.std.proofs.Common.{◌≡◌, ◌⊎◌, List, [], ◌∷◌, ◌++◌, append-nil, refl, sym, inl, inr, subst as transport}
use Rattle.std.specs.Prelude.{IsPermutation}
use Rattle.std.proofs.lemmas.List.Sorted.{IsPermutation-refl, IsPermutation-trans, IsPermutation-cons, IsPermutation-middle}

-- What is asked of labelled steps between states, and of when two states are the same.
pub record Meeting (L C : Type 0) (Good : C → Type 0) (Step : L → C → C → Type 0) (Same : C → C → Type 0) : Type 0 where
  pub itself : (c : C) → Same c c
  pub other_way : (c d : C) → Same c d → Same d c
  pub through : (c d e : C) → Same c d → Same d e → Same c e
  pub good_step : (l : L) (c d : C) → Good c → Step l c d → Good d
  pub good_same : (c d : C) → Good c → Same c d → Good d
  pub taken_too : (l : L) (c d e : C) → Good c → Same c d → Step l c e → (f : C) × Step l d f × Same e f
  pub meets : (l m : L) (c d e : C) → Good c → Step l c d → Step m c e
      → ((l ≡ m) × Same d e) ⊎ ((f : C) × (g : C) × Step m d f × Step l e g × Same f g)

module _ (L C : Type 0) (Good : C → Type 0) (Step : L → C → C → Type 0) (Same : C → C → Type 0) (laws : Meeting L C Good Step Same) where
  -- steps with these labels, one after another
  abbrev pub Chain : List L → C → C → Type 0
  Chain [] c d = c ≡ d
  Chain (l ∷ ls) c d = (e : C) × Step l c e × Chain ls e d

  abbrev pub Ended : C → Type 0
  Ended c = (l : L) (d : C) → Step l c d → ⊥

  pub good_chain : (ls : List L) (c d : C) → Good c → Chain ls c d → Good d
  good_chain [] c d good e = transport Good e good
  good_chain (l ∷ ls) c d good w = good_chain ls w.0 d (laws.good_step l c w.0 good w.1) w.2

  pub chain_too : (ls : List L) (c d e : C) → Good c → Same c d → Chain ls c e → (f : C) × Chain ls d f × Same e f
  chain_too [] c d e good same w = (d, refl, transport (λ z. Same z d) w same)
  chain_too (l ∷ ls) c d e good same w =
      let first = laws.taken_too l c d w.0 good same w.1 in
      let more = chain_too ls w.0 first.0 e (laws.good_step l c w.0 good w.1) first.2 w.2 in
      (more.0, (first.0, first.1, more.1), more.2)

  pub ended_too : (c d : C) → Good c → Same c d → Ended c → Ended d
  ended_too c d good same ended l e step =
      let back = laws.taken_too l d c e (laws.good_same c d good same) (laws.other_way c d same) step in
      ended l back.0 back.1

  -- the labels of a way with this one taken out, and where it then ends
  pub record Stripped (m : L) (ls : List L) (d q : C) : Type 0 where
    pub others : List L
    pub end : C
    pub labels : IsPermutation ls (m ∷ others)
    pub chain : Chain others d end
    pub same : Same q end

  pub same_label : (l m : L) (ls : List L) → l ≡ m → IsPermutation (l ∷ ls) (m ∷ ls)
  same_label l m ls e = transport (λ k. IsPermutation (l ∷ ls) (k ∷ ls)) e (IsPermutation-refl (l ∷ ls))

  pub two_labels : (l m : L) (ls others : List L) → IsPermutation ls (m ∷ others) → IsPermutation (l ∷ ls) (m ∷ l ∷ others)
  two_labels l m ls others p =
      IsPermutation-trans (l ∷ ls) (l ∷ m ∷ others) (m ∷ l ∷ others) (IsPermutation-cons l ls (m ∷ others) p)
      (swap_first l m others)
    where
      swap_first : (l m : L) (others : List L) → IsPermutation (l ∷ m ∷ others) (m ∷ l ∷ others)
      swap_first l m others = IsPermutation-middle (l ∷ []) m others

  -- After any first step there is a way to the same end, with the other labels.
  pub strip : (ls : List L) (m : L) (c d q : C) → Good c → Chain ls c q → Ended q → Step m c d → Stripped m ls d q
  strip [] m c d q good w ended step = absurd (ended m d (transport (λ z. Step m z d) w step))
  strip (l ∷ ls) m c d q good w ended step =
      at (laws.meets l m c w.0 d good w.1 step) (λ f step. strip ls m w.0 f q (laws.good_step l c w.0 good w.1) w.2 ended step)
    where
      at : ((l ≡ m) × Same w.0 d) ⊎ ((f : C) × (g : C) × Step m w.0 f × Step l d g × Same f g) → ((f : C) → Step m w.0 f → Stripped m ls f q) → Stripped m (l ∷ ls) d q
      at (inl (label, same)) rest =
          let moved = chain_too ls w.0 d q (laws.good_step l c w.0 good w.1) same w.2 in
          record { others = ls; end = moved.0; labels = same_label l m ls label; chain = moved.1; same = moved.2 }
      at (inr (f, g, one, other, same)) rest =
          let below = rest f one in
          let good_f = laws.good_step m w.0 f (laws.good_step l c w.0 good w.1) one in
          let moved = chain_too below.others f g below.end good_f same below.chain in
          record {
            others = l ∷ below.others;
            end = moved.0;
            labels = two_labels l m ls below.others below.labels;
            chain = (g, other, moved.1);
            same = laws.through q below.end moved.0 below.same moved.2;
          }

  -- Each way goes on to the same end, with the labels that are left of any way that ends.
  pub record GoesOn (ms ls : List L) (r q : C) : Type 0 where
    pub others : List L
    pub end : C
    pub labels : IsPermutation ls (ms ++ others)
    pub chain : Chain others r end
    pub same : Same q end

  pub goes_on : (ms ls : List L) (c q r : C) → Good c → Chain ls c q → Ended q → Chain ms c r → GoesOn ms ls r q
  goes_on [] ls c q r good w ended v =
      record { others = ls; end = q; labels = IsPermutation-refl ls; chain = transport (λ z. Chain ls z q) v w; same = laws.itself q }
  goes_on (m ∷ ms) ls c q r good w ended v =
      let one = strip ls m c v.0 q good w ended v.1 in
      let good_q = good_chain ls c q good w in
      let more = goes_on ms one.others v.0 one.end r (laws.good_step m c v.0 good v.1) one.chain (ended_too q one.end good_q one.same ended) v.2 in
      record {
        others = more.others;
        end = more.end;
        labels = IsPermutation-trans ls (m ∷ one.others) (m ∷ (ms ++ more.others)) one.labels (IsPermutation-cons m one.others (ms ++ more.others) more.labels);
        chain = more.chain;
        same = laws.through q one.end more.end one.same more.same;
      }

  no_more : (others : List L) (r end : C) → Ended r → Chain others r end → (others ≡ []) × (r ≡ end)
  no_more [] r end ended w = (refl, w)
  no_more (l ∷ ls) r end ended w = absurd (ended l w.0 w.1)

  -- two ways that end
  pub same_end : (ls ms : List L) (c q r : C) → Good c → Chain ls c q → Ended q → Chain ms c r → Ended r → IsPermutation ls ms × Same q r
  same_end ls ms c q r good w ended v also =
      let on = goes_on ms ls c q r good w ended v in
      let none = no_more on.others r on.end also on.chain in (
        transport (λ ks. IsPermutation ls ks) (append-nil ms) (transport (λ ks. IsPermutation ls (ms ++ ks)) none.0 on.labels),
        transport (λ z. Same q z) (sym none.1) on.same,
      )
