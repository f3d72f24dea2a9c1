use Rattle.std.proofs.Common.{◌≡◌, ℕ, ◌==◌, ◌++◌, List, cond, length, not, arith, ap, sym, ◌∙◌, subst as transport}
use Rattle.std.specs.List.{flat_map, list_any}
use Rattle.std.specs.List.Sorted.{IsNonDecreasing}
use Rattle.std.proofs.lemmas.List.Sorted.{sum_by-IsPermutation, IsNonDecreasingBy-from_sort}
use Rattle.ic_term.specs.Configuration.{occurrences, configuration_names}
use Rattle.ic_settle.specs.lemmas.Ended.{has_applicable}
use Rattle.ic_settle.specs.lemmas.NameCounts.{refilled}
use Rattle.ic_settle.specs.lemmas.Twice.{settled_where}
use Rattle.ic_flat.specs.Words.{word_names}
use Rattle.ic_flat.specs.lemmas.FlatLaws.{names-words, nodes-words}
use Rattle.ic_flat_rules.proofs.ended.has_no_applicable.Goals as goal

pub push_names-requires : goal.push_names-requires
push_names-requires c =
    let few = c.words.ensures.sound.nodes in
    omega (arith, few, ap length c.new-names.ensures, ap length c.words.ensures.words, nodes-words c.args.flat.now)

pub any_applicable-requires : goal.any_applicable-requires
any_applicable-requires c =
    let sorted = c.sort_unstable.new.self in
    let P : List ℕ → Type 0 = λ ns. IsNonDecreasing ns in
    transport P (sym c.as_slice.ensures.value)
    (transport P (sym (refilled c.push_names.new.names.items sorted (c.sort_unstable.ensures.len ∙ ap length c.deref_mut.ensures.value)))
    (IsNonDecreasingBy-from_sort (λ (n : ℕ). n) sorted c.sort_unstable.ensures.sorted))

pub returns : goal.returns
returns c =
    let flat = c.args.flat.now in
    let items = c.push_names.new.names.items in
    let sorted = c.sort_unstable.new.self in
    let all : items ≡ configuration_names flat =
    c.push_names.ensures ∙ ap (λ ns. ns ++ flat_map word_names c.words.result.now) c.new-names.ensures
    ∙ ap (flat_map word_names) c.words.ensures.words ∙ names-words flat in
    let same = refilled items sorted (c.sort_unstable.ensures.len ∙ ap length c.deref_mut.ensures.value) in
    let as_often = λ (x : ℕ). sum_by-IsPermutation (λ m. cond (m == x) 1 0) c.deref_mut.result.now sorted c.sort_unstable.ensures.permutation
    ∙ ap (occurrences x) (c.deref_mut.ensures.value ∙ all) in
    ap not c.any_applicable.ensures
    ∙ ap (λ ns. not (list_any (has_applicable ns) flat.equations)) (c.as_slice.ensures.value ∙ same)
    ∙ settled_where flat sorted as_often c.words.ensures.sound.twice
