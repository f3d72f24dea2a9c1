use Rattle.std.proofs.Common.{◌≡◌, ◌∙◌, ◌+◌, ◌++◌, ◌∷◌, [], ap, sym, append_assoc, arith, length}
use Rattle.std.specs.List.{flat_map}
use Rattle.ic_scripts.specs.Telling.{answer_line, client_line, stop_line, told, told_client}
use Rattle.ic_scripts.proofs.ToldLemmas.{told_last}
use Rattle.ic_scripts.proofs.laws.clients_are_told_in_order.Goals as goal

pub returns-clause-one_more : goal.returns-clause-one_more
returns-clause-one_more c = λ runs run.
    let a = client_line (length runs) in
    let b = flat_map answer_line run.answers.items in
    let s = stop_line run.end in
    let from : 0 + length runs ≡ length runs = omega arith in
    let last : told (runs ++ run ∷ []) ≡ told runs ++ told_client (length runs) run = told_last 0 runs run ∙ ap (λ k. told runs ++ told_client k run) from in
    last ∙ sym (append_assoc (told runs) (a ++ b) s) ∙ ap (λ l. l ++ s) (sym (append_assoc (told runs) a b))
