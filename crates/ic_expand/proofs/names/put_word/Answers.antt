use Rattle.std.proofs.Common.{◌≡◌, ◌∙◌, ◌++◌, List, ℕ, ap, get_or, rules, subst, sym}
use Rattle.std.specs.Prelude.{OnOk}
use Rattle.std.proofs.lemmas.Option.{unwrap_or-slice_get}
use Rattle.ic_text.specs.Name.{name_text}
use Rattle.ic_expand.specs.Names.{told_at}
use Rattle.ic_expand.proofs.Lists.{at_ok}
use Rattle.ic_expand.proofs.names.put_word.Goals as goal

pub returns-in-None : goal.returns-in-None
returns-in-None c =
    let told = ap (told_at c.args.spare.now c.args.word.now) (sym c.place.ensures ∙ c.in-None.is) in
    subst (λ (t : List ℕ). OnOk c.extend_from_slice.result (c.extend_from_slice.new.self.items ≡ c.args.out.now.items ++ t)) (sym told)
    (at_ok c.extend_from_slice.result _ _ _ c.extend_from_slice.ensures.items)

pub returns-in-Some : goal.returns-in-Some
returns-in-Some c =
    let number : c.unwrap_or.result ≡ get_or c.args.spare.now c.in-Some.place 0 = search (rules, unwrap_or-slice_get) in
    let told = ap (told_at c.args.spare.now c.args.word.now) (sym c.place.ensures ∙ c.in-Some.is)
    ∙ ap name_text (sym number) in
    subst (λ (t : List ℕ). OnOk c.put_name.result (c.put_name.new.out.items ≡ c.args.out.now.items ++ t)) (sym told) c.put_name.ensures
