use Rattle.std.proofs.Common.{ℕ, List, Ok, subst, sym}
use Rattle.ic_text.specs.SystemText.{ReadsSystemWithin}
use Rattle.ic_text.specs.declared.limits.Limits.TheVariants.{Wide}
use Rattle.ic_keeping.proofs.text.kept_text.Goals as goal

pub returns-then-tells_rules-clause-read : goal.returns-then-tells_rules-clause-read
returns-then-tells_rules-clause-read c = λ s reads same.
    let told = c.tells_rules.ensures.read c.if-tells_rules.true in
    (told.0, subst (λ (text : List ℕ). ReadsSystemWithin Wide text (Ok told.0)) c.deref.ensures.value told.1, told.2)

pub returns-clause-read : goal.returns-clause-read
returns-clause-read c = λ s reads same.
    (s, subst (λ (text : List ℕ). ReadsSystemWithin Wide text (Ok s)) (sym (c.in_ok-whole.ensures.items_if_clones_equal (λ x y e. e))) reads, same)
