use Rattle.std.proofs.Common.{◌≡◌, ℕ, ◌+◌, ◌<◌, ◌≤◌, List, [], ◌∷◌, ◌++◌, Some, None, length, take, drop, get_or, cond, sym, ap, subst, ◌∙◌, append_assoc, append-nil, arith}
use Rattle.std.proofs.lemmas.List.{drop_more, drop_all, take_all, take_more_set, length-set}
use Rattle.std.specs.List.{flat_map, list_all}
use Rattle.ic_flat.specs.declared.word.Word.{Word}
use Rattle.ic_flat.specs.declared.word.Word.TheVariants.{Name, Agent}
use Rattle.ic_codec.specs.inner.Room.{AreBytes}
use Rattle.ic_codec.specs.inner.WordFronts.{word_bytes, is_agent}
use Rattle.ic_codec.proofs.Appending.{bytes_right}
use Rattle.ic_codec.proofs.words.agent_bytes.Goals as goal

module _ (ws : List Word) (i s arity : ℕ) (within : i < length ws) (is : get_or ws i (Name 0) ≡ Agent s arity) where
  -- the words from an agent on
  agent_first : drop i ws ≡ Agent s arity ∷ drop (i + 1) ws
  agent_first = drop_more ws i (Name 0) within ∙ ap (λ (w : Word). w ∷ drop (i + 1) ws) is

  -- its byte comes after those so far
  next_byte : (front : List ℕ) → flat_map word_bytes ws ≡ front ++ flat_map word_bytes (drop i ws) → flat_map word_bytes ws ≡ front ++ s ∷ flat_map word_bytes (drop (i + 1) ws)
  next_byte front so_far = so_far ∙ ap (λ (l : List Word). front ++ flat_map word_bytes l) agent_first

pub overflow_cast-bytes : goal.overflow_cast-bytes
overflow_cast-bytes c =
    let ws = c.args.words.now in
    let i = c.loop-place.place in
    let s = c.in-Agent.sym in
    let within : i < length ws = omega (arith, c.loop-place-test.true, c.requires.many) in
    let front = take i c.loop-place.bytes in
    let next = next_byte ws i s c.in-Agent.field-1 within c.in-Agent.is front c.loop-place.invariant.front in
    let rest = flat_map word_bytes (drop (i + 1) ws) in
    let small : s < 256 = (bytes_right front (s ∷ rest) (subst (λ (l : List ℕ). AreBytes l) next c.requires.bytes)).0 in
    omega (arith, small)

pub loop-place-preserved : goal.loop-place-preserved
loop-place-preserved c =
    let ws = c.args.words.now in
    let i = c.loop-place.place in
    let s = c.in-Agent.sym in
    let bytes = c.loop-place.bytes in
    let within : i < length ws = omega (arith, c.loop-place-test.true, c.requires.many) in
    let there : i < length bytes = omega (arith, c.loop-place-test.true, c.loop-place.invariant.many) in
    let rest = flat_map word_bytes (drop (i + 1) ws) in
    record {
      many = length-set bytes i s ∙ c.loop-place.invariant.many;
      front = next_byte ws i s c.in-Agent.field-1 within c.in-Agent.is (take i bytes) c.loop-place.invariant.front
          ∙ sym (append_assoc (take i bytes) (s ∷ []) rest) ∙ ap (λ (l : List ℕ). l ++ rest) (sym (take_more_set bytes i s there));
      left = c.loop-place.invariant.left ∙ ap (list_all is_agent) (agent_first ws i s c.in-Agent.field-1 within c.in-Agent.is);
    }

pub returns : goal.returns
returns c =
    let ws = c.args.words.now in
    let i = c.loop-place.place in
    let bytes = c.loop-place.bytes in
    let all : length ws ≤ i = omega (arith, c.loop-place-test.false, c.requires.many) in
    let full : length bytes ≤ i = omega (arith, c.loop-place-test.false, c.loop-place.invariant.many) in
    let none = drop_all i ws all in
    let same : flat_map word_bytes ws ≡ bytes =
    c.loop-place.invariant.front ∙ (λ j. take_all i bytes full j ++ flat_map word_bytes (none j)) ∙ append-nil bytes in
    sym ((λ j. cond ((c.loop-place.invariant.left ∙ ap (list_all is_agent) none) j) (Some (same j)) None))
