-- First pending pairs that fire one after another.
use Rattle.std.proofs.Common.{◌≡◌, ℕ, ◌+◌, ◌≤◌, ◌<◌, List, [], ◌∷◌, ◌++◌, length, map, ap, sym, subst, refl, ◌∙◌, append_assoc, arith}
use Rattle.std.specs.List.Sorted.{IsPermutation}
use Rattle.std.proofs.lemmas.List.{append-nil, length-append}
use Rattle.std.proofs.lemmas.List.Sorted.{IsPermutation-refl}
use Rattle.ic_arena.specs.Piece.{Piece}
use Rattle.ic_machine.specs.declared.equation.Equation.{Equation}
use Rattle.ic_machine.specs.declared.tables.Tables.{Tables}
use Rattle.ic_machine.specs.Plan.{Plans}
use Rattle.ic_machine.specs.Net.{equated_of}
use Rattle.ic_machine.specs.Generations.{Takes, ended}
use Rattle.ic_machine.specs.Runs.{Counted, Way}
use Rattle.ic_machine.specs.Steps.{no_step}
use Rattle.ic_machine.specs.inner.Queue.{Queued}
use Rattle.ic_machine.specs.inner.Tables.{FiresBy, FiresFirsts, HasRoomFor, apart, held}
use Rattle.ic_machine.specs.lemmas.GenerationsOn.{takes_on}
use Rattle.ic_machine.proofs.Each.{each_more, each_more-fired, each_none, each_none-fired}
use Rattle.ic_machine.proofs.Takings.{taken_fired}

-- Where the first pending one is taken out, there is room for as many more.
pub room_taken : (n : ℕ) (t : Tables) (q : Queued) → length t.pending.items ≡ length q.items + 1
    → t.pending.capacity ≤ q.capacity + 1 → HasRoomFor n t → HasRoomFor n (record t { pending = q })
room_taken n t q fewer capacity r =
    let pending : length t.pending.items + n ≤ t.pending.capacity = r.pending in
    record { names = r.names; few = r.few; pending = omega (arith, fewer, capacity); heaps = r.heaps }

-- nothing has fired
pub firsts_none : (p : Plans) (counts : List ℕ) (t : Tables) (aside : List Equation) → FiresFirsts p 0 counts counts t t aside
firsts_none p counts t aside = record {
  each = each_none p counts t aside;
  taken = [];
  rest = t.pending.items;
  more = [];
  many = refl;
  before = refl;
  after = sym (append-nil t.pending.items);
  takes = λ now later.
      let xs : List Piece = apart later aside t in
      let ys : List Piece = apart (later ++ []) aside t in
      let same : xs ≡ ys = ap (λ (l : List Equation). apart l aside t) (sym (append-nil later)) in
      subst (λ (is : List ℕ). Takes p now now is xs ys) (sym (each_none-fired p counts t aside))
      (ended now now xs ys (IsPermutation-refl now) (no_step xs ys (subst (λ (l : List Piece). IsPermutation xs l) same (IsPermutation-refl xs))));
}

-- Where fewer have fired than were pending, some of these are left.
pub some_left : (p : Plans) (n times : ℕ) (a b : List ℕ) (t u : Tables) (aside : List Equation) → (r : FiresFirsts p n a b t u aside)
    → n < times → times ≤ length t.pending.items → 1 ≤ length r.rest
some_left p n times a b t u aside r lt le =
    let many : length r.taken ≡ n = r.many in
    let both : length t.pending.items ≡ length r.taken + length r.rest = ap length r.before ∙ length-append r.taken r.rest in
    omega arith

-- where an element is the first of two lists together, it is the first of the first one
first_of : (e : Equation) (rest more others es : List Equation) → es ≡ rest ++ more → es ≡ e ∷ others → 1 ≤ length rest
    → (left : List Equation) × (rest ≡ e ∷ left) × (others ≡ left ++ more)
first_of e [] more others es a b h = absurd (omega arith)
first_of e (x ∷ rest) more others es a b h =
    let both : x ∷ (rest ++ more) ≡ e ∷ others = sym a ∙ b in
    let one : x ≡ e = cc in
    let same : others ≡ rest ++ more = cc in
    (rest, ap (λ (y : Equation). y ∷ rest) one, same)

module _ (p : Plans) (e : Equation) (i : ℕ) (u v : Tables) (others aside : List Equation) (by : FiresBy p e i u v others aside) where
  pub firsts_more : (n : ℕ) (a b c : List ℕ) (t : Tables) (more : List Equation) → (r : FiresFirsts p n a b t u aside)
      → 1 ≤ length r.rest → u.pending.items ≡ e ∷ others → v.pending.items ≡ others ++ more
      → Way p (i ∷ []) (by.moment ∷ []) (held u (map equated_of aside)) (held v (map equated_of aside)) → Counted (i ∷ []) b c
      → FiresFirsts p (n + 1) a c t v aside
  firsts_more n a b c t more r some first pushed w counted =
      let at = first_of e r.rest r.more others u.pending.items r.after first some in
      let left : List Equation = at.0 in
      record {
        each = each_more p i by.moment u v n a b c t aside r.each w by.places counted;
        taken = r.taken ++ e ∷ [];
        rest = left;
        more = r.more ++ more;
        many = length-append r.taken (e ∷ []) ∙ ap (λ (k : ℕ). k + 1) r.many;
        before = r.before ∙ (ap (λ (l : List Equation). r.taken ++ l) at.1 ∙ sym (append_assoc r.taken (e ∷ []) left));
        after = pushed ∙ (ap (λ (l : List Equation). l ++ more) at.2 ∙ append_assoc left r.more more);
        takes = λ now later.
            let xs : List Piece = apart later aside t in
            let ys : List Piece = apart (later ++ r.more) aside u in
            let zs : List Piece = apart ((later ++ r.more) ++ more) aside v in
            let whole : Takes p (r.taken ++ e ∷ now) now (r.each.fired ++ i ∷ []) xs zs =
            takes_on p (r.taken ++ e ∷ now) (e ∷ now) now r.each.fired (i ∷ []) xs ys zs (r.takes (e ∷ now) later)
            (taken_fired p e i u v others more now (later ++ r.more) aside by pushed) in
            subst (λ (is : List ℕ). Takes p ((r.taken ++ e ∷ []) ++ now) now is xs (apart (later ++ (r.more ++ more)) aside v))
            (sym (each_more-fired p i by.moment u v n a b c t aside r.each w by.places counted))
            (subst (λ (l : List Equation). Takes p l now (r.each.fired ++ i ∷ []) xs (apart (later ++ (r.more ++ more)) aside v))
            (sym (append_assoc r.taken (e ∷ []) now))
            (subst (λ (l : List Equation). Takes p (r.taken ++ e ∷ now) now (r.each.fired ++ i ∷ []) xs (apart l aside v))
            (append_assoc later r.more more) whole));
      }
