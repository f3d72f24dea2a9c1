use Rattle.std.proofs.Common.{◌≡◌, ℕ, ◌+◌, ◌<◌, Bool, true, false, List, [], ◌∷◌, ◌++◌, Ok, length, take, slice_index_or, refl, ap, sym, subst, ◌∙◌}
use Rattle.std.proofs.lemmas.List.{take_more}
use Rattle.ic_arena.specs.declared.word.Word.{Word}
use Rattle.ic_machine.specs.declared.tables.Tables.{Tables}
use Rattle.ic_machine.specs.Moving.{Ends, Side, AreShipped, no_more, shipped, passed, NothingWaits, Ships}
use Rattle.ic_machine.specs.inner.Firing.{arities_of}
use Rattle.ic_machine.specs.inner.Moving.{side_in}
use Rattle.ic_machine.proofs.Opening.{shipped_on}
use Rattle.ic_machine.proofs.Packing.{worth_on}
use Rattle.ic_machine.proofs.Parcels.{large, large_on}
use Rattle.ic_machine.proofs.moving.ship_each.Goals as goal

pub loop-cut-init : goal.loop-cut-init
loop-cut-init c =
    let t : Tables = c.args.tables.now in
    record {
      ships = no_more (side_in t c.args.borders.now) c.args.parcel.now.words.items;
      named = λ others hand. hand;
      worth = λ k. refl;
      size = large t;
    }

-- one more of the cuts
more_shipped : (arities ns : List ℕ) (i n : ℕ) (a b c : Side) (us vs ws : List Word) → i < length ns → slice_index_or ns i 0 ≡ n
    → AreShipped arities (take i ns) a b us vs → AreShipped arities (n ∷ []) b c vs ws → AreShipped arities (take (i + 1) ns) a c us ws
more_shipped arities ns i n a b c us vs ws lt is p q =
    subst (λ (l : List ℕ). AreShipped arities l a c us ws) (sym (take_more ns i 0 lt ∙ ap (λ (k : ℕ). take i ns ++ k ∷ []) is))
    (shipped_on arities (take i ns) (n ∷ []) a b c us vs ws p q)

-- what was done for one cut
one_shipped : (arities : List ℕ) (n : ℕ) (t t' : Tables) (b b' : Ends) (us vs : List Word) (v : Bool)
    → (v ≡ true → Ships arities n (side_in t b) (side_in t' b') us vs) → (v ≡ false → NothingWaits n (side_in t b))
    → (v ≡ false → (t' ≡ t) × (b' ≡ b) × (vs ≡ us)) → AreShipped arities (n ∷ []) (side_in t b) (side_in t' b') us vs
one_shipped arities n t t' b b' us vs true ships none same =
    shipped n [] (side_in t b) (side_in t' b') (side_in t' b') us vs vs (ships refl) (no_more (side_in t' b') vs)
one_shipped arities n t t' b b' us vs false ships none same =
    let stays = same refl in
    passed n [] (side_in t b) (side_in t' b') us vs (none refl)
    (subst (λ (l : List Word). AreShipped arities [] (side_in t b) (side_in t' b') us l) (sym stays.2)
    (subst (λ (x : Tables). AreShipped arities [] (side_in t b) (side_in x b') us us) (sym stays.0)
    (subst (λ (y : Ends). AreShipped arities [] (side_in t b) (side_in t y) us us) (sym stays.1) (no_more (side_in t b) us))))

pub loop-cut-preserved : goal.loop-cut-preserved
loop-cut-preserved c =
    let first : Tables = c.args.tables.now in
    let t : Tables = c.loop-cut.tables in
    let new : Tables = c.ship_from.new.tables in
    let b : Ends = c.loop-cut.borders in
    let end : Ends = c.ship_from.new.borders in
    let i : ℕ = c.loop-cut.cut-index in
    let n : ℕ = slice_index_or c.args.cuts.now i 0 in
    let us : List Word = c.args.parcel.now.words.items in
    let vs : List Word = c.loop-cut.parcel.words.items in
    let ws : List Word = c.ship_from.new.parcel.words.items in
    record {
      ships = more_shipped (arities_of first.heaps.items) c.args.cuts.now i n (side_in first c.args.borders.now) (side_in t b) (side_in new end)
          us vs ws c.loop-cut-test.true refl c.loop-cut.invariant.ships
          (subst (λ (l : List ℕ). AreShipped l (n ∷ []) (side_in t b) (side_in new end) vs ws) c.loop-cut.invariant.size.arities
          (one_shipped (arities_of t.heaps.items) n t new b end vs ws c.in_ok-ship_from.field-0
          (λ e. c.in_ok-ship_from.ensures.ships (ap Ok e)) (λ e. c.in_ok-ship_from.ensures.none (ap Ok e))
          (λ e. c.in_ok-ship_from.ensures.unchanged (ap Ok e))));
      named = λ others hand. c.in_ok-ship_from.ensures.named others (c.loop-cut.invariant.named others hand);
      worth = worth_on c.args.borders.now b end us vs ws c.loop-cut.invariant.worth c.in_ok-ship_from.ensures.worth;
      size = large_on first t new c.loop-cut.invariant.size c.in_ok-ship_from.ensures.size;
    }
