use Rattle.std.proofs.Common.{◌≡◌, map, string_bytes, take, List, ℕ}
use Rattle.std.specs.Borrow.{Bor}
use Rattle.ic_args.proofs.values.texts.Given as goal

abbrev pub invariant-loop-text : goal.invariant-loop-text
invariant-loop-text l = map string_bytes l.owned.items ≡ map (λ (t : Bor (List ℕ)). t.now) (take l.text-index l.borrowed)
