-- Lemmas: what is told of the front of a text that was taken is told of the text.
use Rattle.std.proofs.Common.{◌≡◌, ◌≢◌, ◌⊎◌, inl, inr, ℕ, List, Option, Result, Ok, Err, ◌∙◌, sym, subst}
use Rattle.std.specs.Result.{IsErrAnd}
use Rattle.ic_streams.specs.Streams.{FaultOf, OfText, TakesItWithin}
use Rattle.ic_streams.specs.lemmas.Reading.{OfFrontsWithin, of_each, of_front_within, read_as_within}
use Rattle.ic_streams.specs.declared.fault.StreamFault.{StreamFault}
use Rattle.ic_streams.specs.declared.fault.StreamFault.TheVariants.{Read, Text, Round, Memory, Write}
use Rattle.ic_text.specs.declared.limits.Limits.{Limits}
use Rattle.ic_in_place.specs.Rounds.{EndsByRounds, ReducesByRounds}
use Rattle.ic_in_place.specs.declared.stream.Asked.TheVariants.{Nothing}
use Rattle.ic_in_place.specs.lemmas.ByRounds.{ends_carried}
use Rattle.ic_by_rounds.specs.Traces.{IsTraced, WritesRows}
use Rattle.ic_by_rounds.specs.declared.stream.Traced.{Traced}
use Rattle.ic_by_rounds.specs.declared.tracing.Format.{Format}

module _ (limits : Limits) (most : ℕ) (format : Format) (before after : Option (List ℕ)) where
  rows_carried : (rounds : ℕ) → OfFrontsWithin limits (λ text. WritesRows limits format text rounds before after)
  rows_carried rounds front rest end s = record {
    system = s.system;
    reads = read_as_within limits _ _ front rest end _ s.reads;
    table = s.table;
  }

  traced_carried : (r : Result Traced StreamFault) → OfFrontsWithin limits (λ text. IsTraced limits most format text r before after)
  traced_carried (Ok traced) front rest end told =
      ((told.0.0, ends_carried limits most Nothing traced.reached told.0.0 front rest end told.0.1), rows_carried traced.reached.rounds front rest end told.1)
  traced_carried (Err (Text fault)) front rest end told = (read_as_within limits _ _ front rest end _ told.0, told.1)
  traced_carried (Err (Round fault)) front rest end told = absurd told
  traced_carried (Err Read) front rest end told = tt
  traced_carried (Err Memory) front rest end told = tt
  traced_carried (Err Write) front rest end told = tt

  -- no text was read
  pub unread : (r : Result Traced StreamFault) (old : Option (List ℕ)) (fault : StreamFault) → IsErrAnd r (λ e. e ≡ fault)
      → (fault ≡ Read) ⊎ (fault ≡ Memory) → OfText old (λ text. IsTraced limits most format text r before after)
  unread (Ok v) old fault fails which = absurd fails
  unread (Err e) old fault fails which = of_each (λ text. IsTraced limits most format text (Err e) before after) (λ text. by e fault fails which text) old
    where
      by : (e fault : StreamFault) → e ≡ fault → (fault ≡ Read) ⊎ (fault ≡ Memory) → (text : List ℕ) → IsTraced limits most format text (Err e) before after
      by e fault is (inl read) text = subst (λ f. IsTraced limits most format text (Err f) before after) (sym (is ∙ read)) tt
      by e fault is (inr memory) text = subst (λ f. IsTraced limits most format text (Err f) before after) (sym (is ∙ memory)) tt

  faulty : (fault : StreamFault) (text : List ℕ) → FaultOf (ReducesByRounds limits most Nothing) text fault → IsTraced limits most format text (Err fault) before after
  faulty (Text fault) text is = is
  faulty (Round fault) text is = is
  faulty Read text is = tt
  faulty Memory text is = tt
  faulty Write text is = tt

  at_fault : (fault : StreamFault) (text : List ℕ) → (FaultOf (ReducesByRounds limits most Nothing) text fault × (fault ≢ Write) × (fault ≢ Read))
      ⊎ ((fault ≡ Memory) ⊎ (fault ≡ Write)) → IsTraced limits most format text (Err fault) before after
  at_fault fault text (inl is) = faulty fault text is.0
  at_fault fault text (inr (inl is)) = subst (λ f. IsTraced limits most format text (Err f) before after) (sym is) tt
  at_fault fault text (inr (inr is)) = subst (λ f. IsTraced limits most format text (Err f) before after) (sym is) tt

  -- the text that was read is refused, or its rounds can't be told
  pub refused : (r : Result Traced StreamFault) (old new : Option (List ℕ)) (front seen : List ℕ) (fault : StreamFault) → TakesItWithin limits front old new
      → seen ≡ front → (FaultOf (ReducesByRounds limits most Nothing) seen fault × (fault ≢ Write) × (fault ≢ Read)) ⊎ ((fault ≡ Memory) ⊎ (fault ≡ Write))
      → IsErrAnd r (λ e. e ≡ fault) → OfText old (λ text. IsTraced limits most format text r before after)
  refused (Ok v) old new front seen fault takes is why fails = absurd fails
  refused (Err e) old new front seen fault takes is why fails =
      of_front_within limits (λ text. IsTraced limits most format text (Err e) before after) (traced_carried (Err e)) old new front takes
      (subst (λ text. IsTraced limits most format text (Err e) before after) is (subst (λ f. IsTraced limits most format seen (Err f) before after) (sym fails) (at_fault fault seen why)))

  -- what is left can't be told
  pub untold : (r : Result Traced StreamFault) (old new : Option (List ℕ)) (front : List ℕ) (fault : StreamFault) → TakesItWithin limits front old new
      → (fault ≡ Memory) ⊎ (fault ≡ Write) → IsErrAnd r (λ e. e ≡ fault) → OfText old (λ text. IsTraced limits most format text r before after)
  untold (Ok v) old new front fault takes why fails = absurd fails
  untold (Err e) old new front fault takes why fails =
      of_front_within limits (λ text. IsTraced limits most format text (Err e) before after) (traced_carried (Err e)) old new front takes
      (subst (λ f. IsTraced limits most format front (Err f) before after) (sym fails) (at_fault fault front (inr why)))

  pub told : (traced : Traced) (old new : Option (List ℕ)) (front seen line : List ℕ) → TakesItWithin limits front old new → seen ≡ front
      → EndsByRounds limits most Nothing seen traced.reached line → WritesRows limits format seen traced.reached.rounds before after
      → OfText old (λ text. IsTraced limits most format text (Ok traced) before after)
  told traced old new front seen line takes is ends rows =
      of_front_within limits (λ text. IsTraced limits most format text (Ok traced) before after) (traced_carried (Ok traced)) old new front takes
      (subst (λ text. IsTraced limits most format text (Ok traced) before after) is ((line, ends), rows))
