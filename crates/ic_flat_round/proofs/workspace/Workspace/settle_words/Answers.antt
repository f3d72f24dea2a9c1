use Rattle.std.proofs.Common.{◌∙◌, List, [], length, vec_len, map, refl, sym, subst as transport}
use Rattle.std.proofs.lemmas.List.{length-map}
use Rattle.ic_flat.specs.declared.word.Word.{Word}
use Rattle.ic_flat.specs.Flat.{sides, configuration_words}
use Rattle.ic_flat_round.specs.declared.pass.Kept.{Kept}
use Rattle.ic_flat_round.specs.declared.rebuilding.Span.{Span}
use Rattle.ic_flat_round.specs.inner.Waits.{waiting, kept_at}
use Rattle.ic_flat_round.specs.inner.Rebuilding.{PutsOn, span_terms, state}
use Rattle.ic_flat_rules.specs.lemmas.WordPlaces.{whole_words, interface_there}
use Rattle.ic_flat_round.proofs.SettledWords.{settled_parts, interface_terms}
use Rattle.ic_flat_round.proofs.workspace.Workspace.settle_words.Goals as goal

pub put_terms-requires-clause-whole : goal.put_terms-requires-clause-whole
put_terms-requires-clause-whole c = whole_words c.args.flat.now c.words-words.result.now c.words-words.ensures.words

pub put_terms-requires-clause-span : goal.put_terms-requires-clause-span
put_terms-requires-clause-span c =
    interface_there c.args.flat.now c.words-words.result.now c.interface_len-terms.result c.words-words.ensures.words c.interface_len-terms.ensures.terms

pub put_equations-requires-clause-whole : goal.put_equations-requires-clause-whole
put_equations-requires-clause-whole c = whole_words c.args.flat.now c.words-words.result.now c.words-words.ensures.words

-- what is written is the settled configuration
pub returns : goal.returns
returns c =
    let flat = c.args.flat.now in
    let ws = configuration_words flat in
    let is = c.words-words.ensures.words in
    let passed = c.in_ok-pass.ensures.passed in
    let terms = c.interface_len-terms.result in
    let kept = c.pass.new.kept in
    let es = c.pass.new.bound.entries in
    let es' = c.put_terms.new.bound.entries in
    let es'' = c.put_equations.new.bound.entries in
    let start = c.reserve.new.self.items in
    let out = c.put_terms.new.out.items in
    let out' = c.put_equations.new.out.items in
    let interface : Span = record { place = 0; count = terms } in
    let first : PutsOn (state (waiting ws es) start (span_terms ws interface)) (state (waiting ws es') out []) =
    transport (λ (l : List Word). PutsOn (state (waiting l es) start (span_terms l interface)) (state (waiting l es') out [])) is c.in_ok-put_terms.ensures.puts in
    let second : PutsOn (state (waiting ws es') out (sides (map (kept_at ws) kept.items))) (state (waiting ws es'') out' []) =
    transport (λ (k : List Kept). PutsOn (state (waiting ws es') out (sides (map (kept_at ws) k))) (state (waiting ws es'') out' [])) c.deref.ensures.value
    (transport (λ (l : List Word). PutsOn (state (waiting l es') out (sides (map (kept_at l) c.deref.result.now))) (state (waiting l es'') out' [])) is c.in_ok-put_equations.ensures) in
    let parts =
    settled_parts flat (map (kept_at ws) kept.items) (waiting ws es) (waiting ws es') (waiting ws es'') (span_terms ws interface) start out out' (length flat.interface) (vec_len kept) flat.next c.len-place.result
    passed (interface_terms flat ws terms refl c.interface_len-terms.ensures.terms) (c.in_ok-reserve.ensures.items ∙ c.clear.ensures.items) first second refl
    (kept.ok.0 ∙ sym (length-map kept.items (kept_at ws))) refl (c.len-place.ensures ∙ c.put_terms.new.out.ok.0) in
    record {
      flat = parts.0;
      settled = parts.1 ∙ passed.settled;
      place = parts.2;
    }
