-- Lemmas: where any two steps from one state meet within one step, any two ways from it can be joined.
use Rattle.std.proofs.Common.{◌≡◌, ◌⊎◌, List, [], ◌∷◌, ◌++◌, append-nil, true, refl, sym, inl, inr, subst as transport}
use Rattle.std.specs.Prelude.{IsPermutation}
use Rattle.std.proofs.lemmas.List.Sorted.{IsPermutation-refl, IsPermutation-sym, IsPermutation-trans, IsPermutation-cons, IsPermutation-middle, IsPermutation-append}
use Rattle.ic_term.specs.Configuration.{Configuration}
use Rattle.ic_term.specs.Symbol.{is_over}
use Rattle.ic_rules.specs.RuleSet.{Rules, IsRuleSet}
use Rattle.ic_round.specs.Naming.{HasNames}
use Rattle.ic_confluence.specs.Kinds.{Kind, StepOf, Chain}
use Rattle.ic_confluence.specs.Sameness.{Same}
use Rattle.ic_confluence.proofs.Firings.{Sound}
use Rattle.ic_confluence.proofs.Strip.{Meeting, Chain as Way, chain_too, good_chain, same_label, two_labels}
use Rattle.ic_confluence.proofs.Order.{all_laws, way_of, chain_of}

module _ (L C : Type 0) (Good : C → Type 0) (Step : L → C → C → Type 0) (Same : C → C → Type 0) (laws : Meeting L C Good Step Same) where
  -- a first step beside a way: it is among the steps of the way, or is still there after it
  pub record Among (m : L) (ls : List L) (d q : C) : Type 0 where
    pub others : List L
    pub end : C
    pub labels : IsPermutation ls (m ∷ others)
    pub chain : Way L C Good Step Same laws others d end
    pub same : Same q end

  pub record After (m : L) (ls : List L) (d q : C) : Type 0 where
    pub later : C
    pub end : C
    pub step : Step m q later
    pub chain : Way L C Good Step Same laws ls d end
    pub same : Same later end

  pub beside : (ls : List L) (m : L) (c d q : C) → Good c → Way L C Good Step Same laws ls c q → Step m c d → Among m ls d q ⊎ After m ls d q
  beside [] m c d q good w step = inr (record { later = d; end = d; step = transport (λ z. Step m z d) w step; chain = refl; same = laws.itself d })
  beside (l ∷ ls) m c d q good w step =
      at (laws.meets l m c w.0 d good w.1 step) (λ f step. beside ls m w.0 f q (laws.good_step l c w.0 good w.1) w.2 step)
    where
      at : ((l ≡ m) × Same w.0 d) ⊎ ((f : C) × (g : C) × Step m w.0 f × Step l d g × Same f g)
          → ((f : C) → Step m w.0 f → Among m ls f q ⊎ After m ls f q) → Among m (l ∷ ls) d q ⊎ After m (l ∷ ls) d q
      at (inl (label, same)) rest =
          let moved = chain_too L C Good Step Same laws ls w.0 d q (laws.good_step l c w.0 good w.1) same w.2 in
          inl (record { others = ls; end = moved.0; labels = same_label L C Good Step Same laws l m ls label; chain = moved.1; same = moved.2 })
      at (inr (f, g, one, other, same)) rest =
          elim (rest f one) [
            | inl a ↦
                let moved = chain_too L C Good Step Same laws a.others f g a.end (laws.good_step m w.0 f (laws.good_step l c w.0 good w.1) one) same a.chain in
                inl (record {
                  others = l ∷ a.others;
                  end = moved.0;
                  labels = two_labels L C Good Step Same laws l m ls a.others a.labels;
                  chain = (g, other, moved.1);
                  same = laws.through q a.end moved.0 a.same moved.2;
                })
            | inr b ↦
                let moved = chain_too L C Good Step Same laws ls f g b.end (laws.good_step m w.0 f (laws.good_step l c w.0 good w.1) one) same b.chain in
                inr (record {
                  later = b.later;
                  end = moved.0;
                  step = b.step;
                  chain = (g, other, moved.1);
                  same = laws.through b.later b.end moved.0 b.same moved.2;
                })
          ]

  -- two ways and how they go on to the same end
  pub record Joined (ks ls : List L) (d e : C) : Type 0 where
    pub one : List L
    pub other : List L
    pub one_end : C
    pub other_end : C
    pub labels : IsPermutation (ks ++ one) (ls ++ other)
    pub one_chain : Way L C Good Step Same laws one d one_end
    pub other_chain : Way L C Good Step Same laws other e other_end
    pub same : Same one_end other_end

  pub joined : (ks ls : List L) (c d e : C) → Good c → Way L C Good Step Same laws ks c d → Way L C Good Step Same laws ls c e → Joined ks ls d e
  joined [] ls c d e good w v = record {
    one = ls;
    other = [];
    one_end = e;
    other_end = e;
    labels = transport (IsPermutation ls) (sym (append-nil ls)) (IsPermutation-refl ls);
    one_chain = transport (λ z. Way L C Good Step Same laws ls z e) w v;
    other_chain = refl;
    same = laws.itself e;
  }
  joined (k ∷ ks) ls c d e good w v =
      at (beside ls k c w.0 e good v w.1) (λ js end x. joined ks js w.0 d end (laws.good_step k c w.0 good w.1) w.2 x)
    where
      good_e : Good e
      good_e = good_chain L C Good Step Same laws ls c e good v

      at : Among k ls w.0 e ⊎ After k ls w.0 e → ((js : List L) (end : C) → Way L C Good Step Same laws js w.0 end → Joined ks js d end) → Joined (k ∷ ks) ls d e
      at (inl a) rest =
          let below = rest a.others a.end a.chain in
          let moved = chain_too L C Good Step Same laws below.other a.end e below.other_end (laws.good_same e a.end good_e a.same) (laws.other_way e a.end a.same) below.other_chain in
          record {
            one = below.one;
            other = below.other;
            one_end = below.one_end;
            other_end = moved.0;
            labels = IsPermutation-trans (k ∷ (ks ++ below.one)) (k ∷ (a.others ++ below.other)) (ls ++ below.other)
                (IsPermutation-cons k (ks ++ below.one) (a.others ++ below.other) below.labels)
                (IsPermutation-append (k ∷ a.others) ls below.other below.other (IsPermutation-sym ls (k ∷ a.others) a.labels) (IsPermutation-refl below.other));
            one_chain = below.one_chain;
            other_chain = moved.1;
            same = laws.through below.one_end below.other_end moved.0 below.same moved.2;
          }
      at (inr b) rest =
          let below = rest ls b.end b.chain in
          let good_later = laws.good_step k e b.later good_e b.step in
          let moved = chain_too L C Good Step Same laws below.other b.end b.later below.other_end (laws.good_same b.later b.end good_later b.same) (laws.other_way b.later b.end b.same) below.other_chain in
          record {
            one = below.one;
            other = k ∷ below.other;
            one_end = below.one_end;
            other_end = moved.0;
            labels = IsPermutation-trans (k ∷ (ks ++ below.one)) (k ∷ (ls ++ below.other)) (ls ++ k ∷ below.other)
                (IsPermutation-cons k (ks ++ below.one) (ls ++ below.other) below.labels)
                (IsPermutation-sym (ls ++ k ∷ below.other) (k ∷ (ls ++ below.other)) (IsPermutation-middle ls k below.other));
            one_chain = below.one_chain;
            other_chain = (b.later, b.step, moved.1);
            same = laws.through below.one_end below.other_end moved.0 below.same moved.2;
          }

-- any two chains of steps
pub chains_join : (rs : Rules) (ks ls : List Kind) (c d e : Configuration) → IsRuleSet rs → is_over rs.symbols c ≡ true → HasNames c
    → Chain rs.rules ks c d → Chain rs.rules ls c e
    → (one : List Kind) × (other : List Kind) × (f : Configuration) × (g : Configuration)
    × Chain rs.rules one d f × Chain rs.rules other e g × Same f g × IsPermutation (ks ++ one) (ls ++ other)
chains_join rs ks ls c d e set over named w v =
    let j = joined Kind Configuration (Sound rs) (StepOf rs.rules) Same (all_laws rs set) ks ls c d e (record { over = over; named = named })
    (way_of rs set ks c d w) (way_of rs set ls c e v) in
    (j.one, j.other, j.one_end, j.other_end, chain_of rs set j.one d j.one_end j.one_chain, chain_of rs set j.other e j.other_end j.other_chain, j.same, j.labels)
