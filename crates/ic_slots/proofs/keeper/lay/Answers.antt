use Rattle.std.proofs.Common.{◌≡◌, ◌∙◌, List, ℕ, length, drop, ap}
use Rattle.std.proofs.lemmas.List.{drop_at, length-take-le}
use Rattle.ic_codec.specs.Tables.{table_bytes}
use Rattle.ic_slots.proofs.keeper.lay.Goals as goal

pub returns-clause-body : goal.returns-clause-body
returns-clause-body c =
    let head = c.truncate.new.self.items in
    let long : length head ≡ 13 = ap length c.truncate.ensures.items ∙ length-take-le 13 c.args.frame.now.items c.requires.head in
    ap (λ (l : List ℕ). drop 13 l) c.encode_into.ensures.bytes ∙ drop_at head (table_bytes c.args.table.now) 13 long
