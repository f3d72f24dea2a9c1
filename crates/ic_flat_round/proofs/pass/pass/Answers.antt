use Rattle.std.proofs.Common.{◌≡◌, ℕ, ◌<◌, ◌∙◌, List, [], Some, length, get_or, map, sym, ap, arith, subst as transport}
use Rattle.std.specs.List.{AllByRecursion}
use Rattle.ic_settle.specs.lemmas.Waiting.{IsAdded}
use Rattle.ic_settle.specs.lemmas.Containers.{IsRoot, IsChosen}
use Rattle.ic_settle.specs.lemmas.Links.{own-linked}
use Rattle.ic_settle.specs.lemmas.Spots.{placed-within}
use Rattle.ic_settle.specs.lemmas.Passed.{IsPassed}
use Rattle.ic_settle.specs.lemmas.Passing.{passing-start}
use Rattle.ic_flat.specs.declared.word.Word.{Word}
use Rattle.ic_flat.specs.declared.word.Word.TheVariants.{Name}
use Rattle.ic_flat_round.specs.declared.pass.Kept.{Kept}
use Rattle.ic_flat_rules.specs.Standing.{tree_at, pair_at, pairs_at}
use Rattle.ic_flat_round.specs.inner.Waits.{waiting, AreWithin, IsKeptWithin, kept_at, other_place}
use Rattle.ic_flat_rules.specs.lemmas.WordPlaces.{whole_words, pairs_start, twos_start, within_start, pairs_end}
use Rattle.ic_flat_round.specs.inner.Places.{found}
use Rattle.ic_flat_round.proofs.BoundEntries.{added_is, not_there}
use Rattle.ic_flat_round.proofs.BoundPlaces.{within-none, within-added}
use Rattle.ic_flat_round.proofs.StackedSpans.{all_push}
use Rattle.ic_flat_round.proofs.HeadLemmas.{chosen_at}
use Rattle.ic_flat_round.proofs.PassingWords.{passing_at-start, turned-none, turned-new, turned-some, number_within, passed-at, other_there}
use Rattle.ic_flat_round.proofs.pass.pass.Goals as goal
use Rattle.ic_flat_round.proofs.pass.pass.Goals.{in-Some+in_ok-bind-in-Some, in-None}

pub loop-place-init : goal.loop-place-init
loop-place-init c =
    let flat = c.args.flat.now in
    let ws = c.words-words.result.now in
    let is = c.words-words.ensures.words in
    let sound = c.words-words.ensures.sound in
    let place = c.equations_place-place.result in
    let start = c.equations_place-place.ensures in
    let links = c.refill.new.self.links.items in
    let look = found c.refill.new.self.places in
    let made = c.in_ok-refill.ensures in
    let own : (e : ℕ) → e < length links → get_or links e 0 ≡ e = λ e within. made.own e (omega (arith, made.length)) in
    let kept = c.reserve.new.self.items in
    let none : kept ≡ [] = c.in_ok-reserve.ensures.items ∙ c.clear-2.ensures.items in
    let es = c.clear.new.self.entries in
    let nothing : es ≡ [] = c.clear.ensures.empty in
    let empty = c.clear-2.ensures.len in
    let reserved = c.in_ok-reserve.ensures.len in
    let enough = c.in_ok-reserve.ensures.ok in
    let count = c.equations_len-count.ensures.equations in
    record {
      at = within_start flat ws place is start.within;
      twos = twos_start flat ws place is start.equations;
      linked = own-linked links own;
      size = made.length;
      free = λ e above within. own e within;
      known = λ y p found.
          let both = placed-within y flat.equations flat.interface p (sound.twice y) (sym (made.places y) ∙ found) in
          (omega (arith, both.0, made.length), omega (arith, both.1, made.length));
      within = within-none ws es nothing;
      kept = transport (λ (l : List Kept). AllByRecursion (IsKeptWithin ws) l) (sym none) tt;
      passing =
          passing_at-start flat ws kept es links look (pairs_at ws place) none nothing
          (pairs_start flat ws place is start.equations) (passing-start flat links look sound own made.places);
      few = omega (arith, empty, reserved);
      room = omega (arith, enough, count);
    }

pub sides_at-sides-requires-clause-whole : goal.sides_at-sides-requires-clause-whole
sides_at-sides-requires-clause-whole c = whole_words c.args.flat.now c.words-words.result.now c.words-words.ensures.words

pub bind-requires : goal.bind-requires
unfolding found
bind-requires c =
    let flat = c.args.flat.now in
    let ws = c.words-words.result.now in
    let i = c.loop-place.invariant in
    let left = c.resolved-left.result in
    let right = c.resolved-right.result in
    let es'' = c.resolved-right.new.bound.entries in
    let links = c.loop-place.containers.links.items in
    let links' = c.applicable.new.self.links.items in
    let look = found c.loop-place.containers.places in
    let number = c.loop-place.number in
    let chosen = c.applicable.result in
    let says : (r : ℕ → ℕ) → IsRoot links r → IsChosen r number look (kept_at ws (record { left = left; right = right })) links' chosen =
    λ r root. chosen_at r number look links' chosen ws left right (Name 0) c.resolved-left.ensures.there c.resolved-right.ensures.there (c.applicable.ensures.chosen r root) in
    not_there (tree_at ws) es'' c.in-Some.applicable.name
    (turned-new flat ws c.loop-place.kept.items c.loop-place.bound.entries c.resolved-left.new.bound.entries es'' links links' look number (pairs_at ws c.loop-place.place)
    c.sides_at-sides.result left right chosen i.passing c.sides_at-sides.ensures.equations c.resolved-left.ensures.resolves c.resolved-right.ensures.resolves says
    c.in-Some.applicable c.in-Some.is)

pub push_reserved-requires : goal.push_reserved-requires
push_reserved-requires c =
    let ws = c.words-words.result.now in
    let i = c.loop-place.invariant in
    let few = i.few in
    let room = i.room in
    let more = number_within c.args.flat.now (map (kept_at ws) c.loop-place.kept.items) (waiting ws c.loop-place.bound.entries) c.loop-place.containers.links.items
    (found c.loop-place.containers.places) c.loop-place.number (pairs_at ws c.loop-place.place) (pair_at ws c.sides_at-sides.result) (pairs_at ws c.sides_at-sides.result.end) i.passing
    c.sides_at-sides.ensures.equations in
    omega (arith, few, room, more)

pub loop-place-preserved : goal.loop-place-preserved
unfolding found
loop-place-preserved c =
    let flat = c.args.flat.now in
    let ws = c.words-words.result.now in
    let i = c.loop-place.invariant in
    let s = c.sides_at-sides.result in
    let sides = c.sides_at-sides.ensures in
    let left = c.resolved-left.result in
    let right = c.resolved-right.result in
    let there = c.resolved-left.ensures.there in
    let right_there = c.resolved-right.ensures.there in
    let es = c.loop-place.bound.entries in
    let es' = c.resolved-left.new.bound.entries in
    let es'' = c.resolved-right.new.bound.entries in
    let kept = c.loop-place.kept.items in
    let links = c.loop-place.containers.links.items in
    let links' = c.applicable.new.self.links.items in
    let look = found c.loop-place.containers.places in
    let look' = found c.applicable.new.self.places in
    let same_look : look' ≡ look = ap found c.applicable.ensures.places in
    let number = c.loop-place.number in
    let found = c.applicable.result in
    let applied = c.applicable.ensures in
    let says : (r : ℕ → ℕ) → IsRoot links r → IsChosen r number look (kept_at ws (record { left = left; right = right })) links' found =
    λ r root. chosen_at r number look links' found ws left right (Name 0) there right_there (applied.chosen r root) in
    let known : (y : ℕ) (p : ℕ × ℕ) → look' y ≡ Some p → (p.0 < length links') × (p.1 < length links') =
    λ y p is.
    let both = i.known y p (ap (λ f. f y) (sym same_look) ∙ is) in
    (omega (arith, both.0, applied.length), omega (arith, both.1, applied.length)) in
    let few = i.few in
    let room = i.room in
    elim c.match-applicable.branch [
      | in-Some+in_ok-bind-in-Some w ↦
          let a = w.in-Some.applicable in
          let after = w.bind.new.bound.entries in
          let added = added_is (tree_at ws) es'' after a.name w.other_place-other.result w.in_ok-bind-in-Some.ensures.updates w.in_ok-bind-in-Some.ensures.sums in
          let turned : IsAdded (waiting ws es'') (waiting ws after) a.name (tree_at ws (other_place left right a.side)) =
          transport (λ (p : ℕ). IsAdded (waiting ws es'') (waiting ws after) a.name (tree_at ws p)) w.other_place-other.ensures added in
          let placed : w.other_place-other.result < length ws = omega (arith, w.other_place-other.ensures, other_there (length ws) left right a.side there right_there) in
          rw (w.bound-is, w.kept-is, same_look) (record {
            at = sides.sides.right.within;
            twos = sides.twos;
            linked = applied.linked;
            size = applied.length ∙ i.size;
            free = applied.free;
            known = known;
            within = within-added ws es'' after a.name w.other_place-other.result c.resolved-right.ensures.within placed w.in_ok-bind-in-Some.ensures.updates;
            kept = i.kept;
            passing = turned-some flat ws kept es es' es'' links links' look number (pairs_at ws c.loop-place.place) s left right found i.passing sides.equations
                c.resolved-left.ensures.resolves c.resolved-right.ensures.resolves says a w.in-Some.is after turned;
            few = omega (arith, few);
            room = i.room;
          })
      | in-None w ↦
          let it : Kept = record { left = left; right = right } in
          let turned = turned-none flat ws kept es es' es'' links links' look number (pairs_at ws c.loop-place.place) s left right found i.passing sides.equations
          c.resolved-left.ensures.resolves c.resolved-right.ensures.resolves says w.in-None.is in
          let len = w.push_reserved.ensures.len in
          let capacity = w.push_reserved.ensures.capacity in
          rw (w.bound-is, w.kept-is, same_look, w.push_reserved.ensures.items) (record {
            at = sides.sides.right.within;
            twos = sides.twos;
            linked = applied.linked;
            size = applied.length ∙ i.size;
            free = applied.free;
            known = known;
            within = c.resolved-right.ensures.within;
            kept = all_push (IsKeptWithin ws) kept it i.kept (there, right_there);
            passing = turned;
            few = omega (arith, few, len);
            room = omega (arith, room, capacity);
          })
    ]

pub returns-clause-passed : goal.returns-clause-passed
returns-clause-passed c =
    let flat = c.args.flat.now in
    let ws = c.words-words.result.now in
    let i = c.loop-place.invariant in
    let kept = c.loop-place.kept.items in
    let es = c.loop-place.bound.entries in
    let rest = pairs_at ws c.loop-place.place in
    let passed = passed-at flat (map (kept_at ws) kept) (waiting ws es) c.loop-place.containers.links.items (found c.loop-place.containers.places) c.loop-place.number rest i.passing
    (pairs_end ws c.loop-place.place c.loop-place-test.false) in
    transport (λ (l : List Word). IsPassed flat (map (kept_at l) kept) (waiting l es)) c.words-words.ensures.words passed

pub returns-clause-within : goal.returns-clause-within
returns-clause-within c = transport (λ (l : List Word). AreWithin l c.loop-place.bound.entries) c.words-words.ensures.words c.loop-place.invariant.within
