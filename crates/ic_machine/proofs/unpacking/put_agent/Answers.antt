use Rattle.std.proofs.Common.{◌≡◌, ◌+◌, ◌-◌, ◌<◌, ◌≤◌, ℕ, List, [], ◌∷◌, length, map, max, take, ap, sym, subst, ◌∙◌, arith}
use Rattle.std.specs.List.{AllByRecursion, range_with_len}
use Rattle.std.proofs.lemmas.List.FromFn.{length-map-range_with_len}
use Rattle.ic_arena.specs.declared.word.Word.{Word}
use Rattle.ic_arena.specs.Word.{agent_word}
use Rattle.ic_arena.specs.Piece.{agent_of}
use Rattle.ic_arena.specs.Tables.{blocks_pieces, register, Replaced}
use Rattle.ic_machine.proofs.Putting.{below_top, puts_agent}
use Rattle.ic_machine.proofs.unpacking.put_agent.Goals as goal
use Rattle.ic_machine.proofs.unpacking.put_agent.Goals.{In_ok-fill}

abbrev top : (c : In_ok-fill) → List ℕ
top c = map (λ (k : ℕ). length c.args.stack.now.items - (k + 1)) (range_with_len 0 c.args.heap.now.arity)

-- the places of the arguments
places : (c : In_ok-fill) → c.fill.new.operands.items ≡ top c
places c =
    let end : c.len-end.result ≡ length c.args.stack.now.items = omega arith in
    let arity : c.arity-arity.result ≡ c.args.heap.now.arity = c.arity-arity.ensures.arity in
    c.in_ok-fill.ensures ∙ (λ i. map (λ (k : ℕ). end i - (k + 1)) (range_with_len 0 (arity i)))

pub put-block-requires-clause-arity : goal.put-block-requires-clause-arity
put-block-requires-clause-arity c =
    ap length (c.deref.ensures.value ∙ places (goal.at.put-block-requires-clause-arity c).In_ok-fill)
    ∙ (length-map-range_with_len (λ (k : ℕ). length c.args.stack.now.items - (k + 1)) 0 c.args.heap.now.arity ∙ sym c.reserve.ensures.arity)

pub put-block-requires-clause-filled : goal.put-block-requires-clause-filled
put-block-requires-clause-filled c =
    let n : ℕ = length c.args.stack.now.items in
    let some : 1 ≤ n = (let one = c.requires.some in let enough = c.requires.enough in omega (arith, one, enough)) in
    let all : AllByRecursion (λ k. k < n) c.deref.result.now =
    subst (λ (l : List ℕ). AllByRecursion (λ k. k < n) l) (sym (c.deref.ensures.value ∙ places (goal.at.put-block-requires-clause-filled c).In_ok-fill))
    (below_top n 0 c.args.heap.now.arity some) in
    subst (λ (l : List Word). AllByRecursion (λ k. k < length l) c.deref.result.now) (sym c.deref-2.ensures.value) all

pub returns-clause-put : goal.returns-clause-put
returns-clause-put c =
    let ws : List Word = c.args.stack.now.items in
    let end : c.len-end.result ≡ length ws = omega arith in
    let arity : c.arity-arity.result ≡ c.args.heap.now.arity = c.arity-arity.ensures.arity in
    puts_agent c.args.heap.now c.reserve.new.self c.put-block.new.self c.put-block.result ws c.truncate.new.self.items c.fill.new.operands.items
    c.reserve.ensures.arity c.reserve.ensures.count c.reserve.ensures.words c.requires.enough (places (goal.at.returns-clause-put c).In_ok-fill)
    (c.truncate.ensures.items ∙ (λ i. take (end i - arity i) ws))
    (λ s. subst (λ (l : List ℕ). Replaced [] (agent_of (agent_word s c.put-block.result) (map (register ws) l) ∷ [])
    (blocks_pieces s c.reserve.new.self) (blocks_pieces s c.put-block.new.self)) c.deref.ensures.value
    (subst (λ (l : List Word). Replaced [] (agent_of (agent_word s c.put-block.result) (map (register l) c.deref.result.now) ∷ [])
    (blocks_pieces s c.reserve.new.self) (blocks_pieces s c.put-block.new.self)) c.deref-2.ensures.value (c.put-block.ensures.made s)))

pub returns-clause-count : goal.returns-clause-count
returns-clause-count c = λ s.
    c.put-block.ensures.count s ∙ ap (λ (n : ℕ). max n (length (blocks_pieces s c.put-block.new.self))) c.reserve.ensures.count
