use Rattle.std.proofs.Common.{◌≡◌, ◌∷◌, ◌++◌, [], Some, cond, length, sym, ap, ◌∙◌, subst, arith}
use Rattle.std.specs.Ordering.{nat_cmp}
use Rattle.std.specs.BTreeMap.{Updates}
use Rattle.ic_rules.proofs.FirstNames.{Tells, told_any, told_push}
use Rattle.ic_rules.proofs.firsts.Firsts.add.Goals as goal

pub returns-then-contains_key : goal.returns-then-contains_key
returns-then-contains_key c =
    let names = c.self.inside.names.items in
    let name = c.args.name in
    let there = told_any c.self.inside.places names name c.contains_key.result c.self.invariant c.contains_key.ensures ∙ c.if-contains_key.true in
    rw (← c.self.view_is) (ap (λ b. cond b names (names ++ name ∷ [])) (sym there))

pub invariant_of-self-2 : goal.invariant_of-self-2
invariant_of-self-2 c =
    let names = c.self.inside.names.items in
    let name = c.args.name in
    let absent = told_any c.self.inside.places names name c.contains_key.result c.self.invariant c.contains_key.ensures ∙ c.if-contains_key.false in
    let last : c.len-place.result ≡ length names = omega (arith, c.len-place.ensures, c.reserve.ensures.len) in
    let updates = subst (λ k. Updates nat_cmp c.self.inside.places c.insert.new.self name (Some k)) last c.in_ok-insert.ensures.updates in
    let pushed = c.push_reserved.ensures.items ∙ ap (λ l. l ++ name ∷ []) c.reserve.ensures.items in
    subst (Tells c.insert.new.self) (sym pushed) (told_push c.self.inside.places c.insert.new.self names name c.self.invariant absent updates)

pub returns : goal.returns
returns c =
    let names = c.self.inside.names.items in
    let name = c.args.name in
    let absent = told_any c.self.inside.places names name c.contains_key.result c.self.invariant c.contains_key.ensures ∙ c.if-contains_key.false in
    let pushed = c.push_reserved.ensures.items ∙ ap (λ l. l ++ name ∷ []) c.reserve.ensures.items in
    rw (← c.self.view_is) (pushed ∙ ap (λ b. cond b names (names ++ name ∷ [])) (sym absent))
