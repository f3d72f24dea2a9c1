use Rattle.std.proofs.Common.{◌≡◌, ◌∷◌, ◌++◌, [], ℕ, List, Some, cond, length, map, sym, ap, ◌∙◌, subst, arith}
use Rattle.std.specs.Borrow.{Bor}
use Rattle.std.specs.Cmp.Lexicographic.{slice_cmp}
use Rattle.std.specs.Ordering.{nat_cmp}
use Rattle.std.specs.BTreeMap.{Updates}
use Rattle.std.proofs.lemmas.List.{length-map, map-append}
use Rattle.ic_expand.specs.Names.{is_among}
use Rattle.ic_expand.specs.inner.Words.{ArePlaces}
use Rattle.ic_expand.proofs.Placed.{placed_more}
use Rattle.ic_expand.proofs.words.Words.add.Goals as goal

abbrev text : Bor (List ℕ) → List ℕ
text w = w.now

pub returns-then-has : goal.returns-then-has
returns-then-has c =
    let ws = c.args.self.now in
    let word = c.args.word.now in
    ap (λ b. cond b ws (ws ++ word ∷ [])) (sym (sym c.has.ensures ∙ c.if-has.true))

pub invariant_of-self-2 : goal.invariant_of-self-2
invariant_of-self-2 c =
    let items = c.self.inside.words.items in
    let ws = map text items in
    let word = c.args.word in
    let absent = ap (is_among word.now) c.self.view_is ∙ sym c.has.ensures ∙ c.if-has.false in
    let last : c.len-place.result ≡ length ws = omega (arith, c.len-place.ensures, c.reserve.ensures.len, length-map items text) in
    let updates = subst (λ n. Updates (λ (x y : Bor (List ℕ)). slice_cmp nat_cmp x.now y.now) c.self.inside.places c.insert.new.self word (Some n)) last c.in_ok-insert.ensures.updates in
    let pushed : map text c.push_reserved.new.self.items ≡ ws ++ word.now ∷ [] =
    ap (map text) (c.push_reserved.ensures.items ∙ ap (λ l. l ++ word ∷ []) c.reserve.ensures.items) ∙ map-append text items (word ∷ []) in
    subst (ArePlaces c.insert.new.self) (sym pushed) (placed_more c.self.inside.places c.insert.new.self ws word c.self.invariant absent updates)

pub returns : goal.returns
returns c =
    let items = c.self.inside.words.items in
    let ws = map text items in
    let word = c.args.word in
    let absent = ap (is_among word.now) c.self.view_is ∙ sym c.has.ensures ∙ c.if-has.false in
    let pushed : map text c.push_reserved.new.self.items ≡ ws ++ word.now ∷ [] =
    ap (map text) (c.push_reserved.ensures.items ∙ ap (λ l. l ++ word ∷ []) c.reserve.ensures.items) ∙ map-append text items (word ∷ []) in
    rw (← c.self.view_is) (pushed ∙ ap (λ b. cond b ws (ws ++ word.now ∷ [])) (sym absent))
