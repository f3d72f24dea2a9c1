-- Lemmas: terms that stood by themselves are put together.
use Rattle.std.proofs.Common.{◌≡◌, ℕ, ◌+◌, ◌<◌, List, [], ◌∷◌, ◌++◌, Bool, true, false, cond, length, sum_by, refl, sym, ap, ◌∙◌, arith, inl, inr, append_assoc, append-nil, subst as transport, true≢false as true_false}
use Rattle.std.specs.List.{flat_map, AllByRecursion}
use Rattle.std.proofs.lemmas.List.{length-append}
use Rattle.std.proofs.lemmas.List.Concat.{flat_map-append}
use Rattle.std.proofs.lemmas.List.Sums.{sum_by-cons, sum_by-append}
use Rattle.ic_arena.specs.declared.word.Word.{Word}
use Rattle.ic_arena.specs.Word.{word_eq, count}
use Rattle.ic_readback.specs.declared.token.Token.{Token}
use Rattle.ic_readback.specs.declared.token.Token.TheVariants.{Name, Agent}
use Rattle.ic_readback.specs.inner.Writing.{Part, part, IsOpen, Writing, writing, Put, put, write, Puts, no_put, one_put, Mended, begun, passed, further, equation_tokens}
use Rattle.ic_machine.specs.lemmas.FiringKeeps.{all_of as all_so}
use Rattle.ic_meaning.specs.lemmas.Terms.{same_word, word_itself}
use Rattle.ic_meaning.specs.lemmas.Orders.{all_front}

-- ---- how much is left

abbrev pub weight : Part → ℕ
weight p = cond p.written 0 (length p.tokens)

abbrev pub load : List Token → List Part → ℕ
load rest parts = length rest + sum_by weight parts

pub put_load : (s t : Writing) → Put s t → load t.rest t.parts < load s.rest s.parts
put_load s t (put ts rest before after p unwritten) =
    let a = sum_by-append weight before (p ∷ after) in
    let b = sum_by-append weight before (record p { written = true } ∷ after) in
    let c = sum_by-cons weight p after in
    let d = sum_by-cons weight (record p { written = true }) after in
    let e = length-append p.tokens rest in
    let f : weight p ≡ length p.tokens = ap {B = ℕ} (λ (b : Bool). cond b 0 (length p.tokens)) unwritten in
    omega (arith, a, b, c, d, e, f)
put_load s t (write ts rest f parts shut) = omega arith

pub puts_on : (s t u : Writing) → Puts s t → Puts t u → Puts s u
puts_on s t u (no_put a) later = later
puts_on s t u (one_put a b c first rest) later = one_put a b u first (puts_on b c u rest later)

pub put_last : (s t u : Writing) → Puts s t → Put t u → Puts s u
put_last s t u steps last = puts_on s t u steps (one_put t u u last (no_put u))

-- ---- each name of tokens

abbrev pub token_names : Token → List Word
token_names (Name w) = w ∷ []
token_names (Agent s) = []

-- what holds of each name of tokens
abbrev pub EachName : (Word → Type 0) → List Token → Type 0
EachName P [] = Unit {0}
EachName P (Name w ∷ ts) = P w × EachName P ts
EachName P (Agent s ∷ ts) = EachName P ts

pub each_both : (P : Word → Type 0) (xs ys : List Token) → EachName P xs → EachName P ys → EachName P (xs ++ ys)
each_both P [] ys a b = b
each_both P (Name w ∷ xs) ys a b = (a.0, each_both P xs ys a.1 b)
each_both P (Agent s ∷ xs) ys a b = each_both P xs ys a b

-- how often tokens name a word
abbrev pub named_in : Word → List Token → ℕ
named_in w ts = count w (flat_map token_names ts)

pub named_append : (w : Word) (xs ys : List Token) → named_in w (xs ++ ys) ≡ named_in w xs + named_in w ys
named_append w xs ys = ap (count w) (flat_map-append token_names xs ys) ∙ sum_by-append (λ v. cond (word_eq w v) 1 0) (flat_map token_names xs) (flat_map token_names ys)

abbrev pub Not : Word → Word → Type 0
Not w v = v ≡ w → ⊥

not_same : (w v : Word) → Not w v → word_eq w v ≡ false
not_same w v other = at (word_eq w v) refl
  where
    at : (b : Bool) → word_eq w v ≡ b → word_eq w v ≡ false
    at true e = absurd (other (sym (same_word w v e)))
    at false e = e

pub named_none : (w : Word) (ts : List Token) → EachName (Not w) ts → named_in w ts ≡ 0
named_none w [] each = refl
named_none w (Name v ∷ ts) each =
    let rest = named_none w ts each.1 in
    let parts = sum_by-cons (λ v. cond (word_eq w v) 1 0) v (flat_map token_names ts) in
    let zero : ◌≡◌ {A = ℕ} (cond (word_eq w v) 1 0) 0 = rw (not_same w v each.0) refl in
    omega arith
named_none w (Agent s ∷ ts) each = named_none w ts each

pub named_first : (w : Word) (ts : List Token) → named_in w (Name w ∷ ts) ≡ 1 + named_in w ts
named_first w ts =
    let parts = sum_by-cons (λ v. cond (word_eq w v) 1 0) w (flat_map token_names ts) in
    let one : ◌≡◌ {A = ℕ} (cond (word_eq w w) 1 0) 1 = rw (word_itself w) refl in
    omega arith

-- ---- each term that isn't written yet

abbrev pub EachOpen : (Part → Type 0) → List Part → Type 0
EachOpen Q [] = Unit {0}
EachOpen Q (p ∷ ps) = (p.written ≡ false → Q p) × EachOpen Q ps

pub open_here : (Q : Part → Type 0) (before after : List Part) (p : Part) → EachOpen Q (before ++ p ∷ after) → p.written ≡ false → Q p
open_here Q [] after p each unwritten = each.0 unwritten
open_here Q (q ∷ before) after p each unwritten = open_here Q before after p each.1 unwritten

pub open_written : (Q : Part → Type 0) (before after : List Part) (p : Part) → EachOpen Q (before ++ p ∷ after) → EachOpen Q (before ++ record p { written = true } ∷ after)
open_written Q [] after p each = ((λ e. absurd (true_false e)), each.1)
open_written Q (q ∷ before) after p each = (each.0, open_written Q before after p each.1)

pub open_front : (Q : Part → Type 0) (before after : List Part) → EachOpen Q (before ++ after) → EachOpen Q before
open_front Q [] after each = tt
open_front Q (q ∷ before) after each = (each.0, open_front Q before after each.1)

pub open_so : (Q R S : Part → Type 0) (ps : List Part) → ((p : Part) → Q p → R p → S p) → EachOpen Q ps → EachOpen R ps → EachOpen S ps
open_so Q R S [] f a b = tt
open_so Q R S (p ∷ ps) f a b = ((λ unwritten. f p (a.0 unwritten) (b.0 unwritten)), open_so Q R S ps f a.1 b.1)

pub all_open : (Q : Part → Type 0) (ps : List Part) → AllByRecursion Q ps → EachOpen Q ps
all_open Q [] all = tt
all_open Q (p ∷ ps) all = ((λ unwritten. all.0), all_open Q ps all.1)

pub open_all : (F : Word → Type 0) (ps : List Part) → ((w : Word) → IsOpen w ps → F w) → EachOpen (λ p. F p.place) ps
open_all F [] each = tt
open_all F (p ∷ ps) each = ((λ unwritten. each p.place (inl (unwritten, refl))), open_all F ps (λ w there. each w (inr there)))

open_before : (w : Word) (before after : List Part) (p : Part) → IsOpen w (before ++ record p { written = true } ∷ after) → IsOpen w (before ++ p ∷ after)
open_before w [] after p (inl here) = absurd (true_false here.0)
open_before w [] after p (inr there) = inr there
open_before w (q ∷ before) after p (inl here) = inl here
open_before w (q ∷ before) after p (inr there) = inr (open_before w before after p there)

-- ---- what is put and written

pub record EachSo (P : Word → Type 0) (s : Writing) : Type 0 where
  pub tokens : EachName P s.tokens
  pub rest : EachName P s.rest
  pub parts : EachOpen (λ p. EachName P p.tokens) s.parts

pub put_each : (P : Word → Type 0) (s t : Writing) → Put s t → EachSo P s → EachSo P t
put_each P s t (put ts rest before after p unwritten) each = record {
  tokens = each.tokens;
  rest = each_both P p.tokens rest (open_here (λ p. EachName P p.tokens) before after p each.parts unwritten) each.rest.1;
  parts = open_written (λ p. EachName P p.tokens) before after p each.parts;
}
put_each P s t (write ts rest (Name w) parts shut) each = record {
  tokens = each_both P ts (Name w ∷ []) each.tokens (each.rest.0, tt);
  rest = each.rest.1;
  parts = each.parts;
}
put_each P s t (write ts rest (Agent k) parts shut) each = record {
  tokens = each_both P ts (Agent k ∷ []) each.tokens tt;
  rest = each.rest;
  parts = each.parts;
}

pub puts_each : (P : Word → Type 0) (s t : Writing) → Puts s t → EachSo P s → EachSo P t
puts_each P s t (no_put a) each = each
puts_each P s t (one_put a b c first rest) each = puts_each P b c rest (put_each P a b first each)

put_open : (Q : Part → Type 0) (s t : Writing) → Put s t → EachOpen Q s.parts → EachOpen Q t.parts
put_open Q s t (put ts rest before after p unwritten) each = open_written Q before after p each
put_open Q s t (write ts rest f parts shut) each = each

pub puts_open : (Q : Part → Type 0) (s t : Writing) → Puts s t → EachOpen Q s.parts → EachOpen Q t.parts
puts_open Q s t (no_put a) each = each
puts_open Q s t (one_put a b c first rest) each = puts_open Q b c rest (put_open Q a b first each)

put_left : (w : Word) (s t : Writing) → Put s t → IsOpen w t.parts → IsOpen w s.parts
put_left w s t (put ts rest before after p unwritten) there = open_before w before after p there
put_left w s t (write ts rest f parts shut) there = there

puts_left : (w : Word) (s t : Writing) → Puts s t → IsOpen w t.parts → IsOpen w s.parts
puts_left w s t (no_put a) there = there
puts_left w s t (one_put a b c first rest) there = put_left w a b first (puts_left w b c rest there)

-- the place of a term that isn't written yet was never written as a name
put_untold : (w : Word) (s t : Writing) → Put s t → IsOpen w s.parts → EachName (Not w) s.tokens → EachName (Not w) t.tokens
put_untold w s t (put ts rest before after p unwritten) there each = each
put_untold w s t (write ts rest (Name v) parts shut) there each =
    each_both (Not w) ts (Name v ∷ []) each ((λ same. shut v refl (transport (λ (x : Word). IsOpen x parts) (sym same) there)), tt)
put_untold w s t (write ts rest (Agent k) parts shut) there each = each_both (Not w) ts (Agent k ∷ []) each tt

pub puts_untold : (w : Word) (s t : Writing) → Puts s t → IsOpen w t.parts → EachName (Not w) s.tokens → EachName (Not w) t.tokens
puts_untold w s t (no_put a) there each = each
puts_untold w s t (one_put a b c first rest) there each =
    puts_untold w b c rest there (put_untold w a b first (puts_left w a c (one_put a b c first rest) there) each)

-- ---- the order in which terms were read

-- the place of a term that was read later isn't that of one before, nor is it named in one before that isn't written yet
abbrev pub IsBefore : Part → Part → Type 0
IsBefore q p = EachName (Not q.place) p.tokens × (p.place ≡ q.place → ⊥)

abbrev pub AreInOrder : List Part → Type 0
AreInOrder [] = Unit {0}
AreInOrder (p ∷ ps) = (p.written ≡ false → AllByRecursion (λ q. IsBefore q p) ps) × AreInOrder ps

all_written : (p q : Part) (before after : List Part) → AllByRecursion (λ r. IsBefore r p) (before ++ q ∷ after) → AllByRecursion (λ r. IsBefore r p) (before ++ record q { written = true } ∷ after)
all_written p q [] after all = all
all_written p q (r ∷ before) after all = (all.0, all_written p q before after all.1)

order_written : (before after : List Part) (p : Part) → AreInOrder (before ++ p ∷ after) → AreInOrder (before ++ record p { written = true } ∷ after)
order_written [] after p order = ((λ e. absurd (true_false e)), order.1)
order_written (q ∷ before) after p order = ((λ unwritten. all_written q p before after (order.0 unwritten)), order_written before after p order.1)

pub puts_order : (s t : Writing) → Puts s t → AreInOrder s.parts → AreInOrder t.parts
puts_order s t (no_put a) order = order
puts_order s t (one_put a b c first rest) order = puts_order b c rest (at a b first order)
  where
    at : (s t : Writing) → Put s t → AreInOrder s.parts → AreInOrder t.parts
    at s t (put ts rest before after p unwritten) order = order_written before after p order
    at s t (write ts rest f parts shut) order = order

all_last : {X : Type 0} (P : X → Type 0) (xs : List X) (x : X) → AllByRecursion P (xs ++ x ∷ []) → P x
all_last P [] x all = all.0
all_last P (y ∷ xs) x all = all_last P xs x all.1

pub all_more : {X : Type 0} (P : X → Type 0) (xs : List X) (x : X) → AllByRecursion P xs → P x → AllByRecursion P (xs ++ x ∷ [])
all_more P [] x all last = (last, tt)
all_more P (y ∷ xs) x all last = (all.0, all_more P xs x all.1 last)

pub order_front : (ps : List Part) (q : Part) → AreInOrder (ps ++ q ∷ []) → AreInOrder ps
order_front [] q order = tt
order_front (p ∷ ps) q order = ((λ unwritten. all_front (λ r. IsBefore r p) ps (q ∷ []) (order.0 unwritten)), order_front ps q order.1)

pub order_last : (ps : List Part) (q : Part) → AreInOrder (ps ++ q ∷ []) → EachOpen (IsBefore q) ps
order_last [] q order = tt
order_last (p ∷ ps) q order = ((λ unwritten. all_last (λ r. IsBefore r p) ps q (order.0 unwritten)), order_last ps q order.1)

pub order_more : (ps : List Part) (q : Part) → AreInOrder ps → AllByRecursion (IsBefore q) ps → AreInOrder (ps ++ q ∷ [])
order_more [] q order all = ((λ unwritten. tt), tt)
order_more (p ∷ ps) q order all = ((λ unwritten. all_more (λ r. IsBefore r p) ps q (order.0 unwritten) all.0), order_more ps q order.1 all.1)

-- ---- all together

abbrev pub equations_in : List Part → List Token
equations_in ps = flat_map equation_tokens ps

pub equations_more : (ps : List Part) (w : Word) (us : List Token) → equations_in (ps ++ part w us ∷ []) ≡ equations_in ps ++ Name w ∷ us
equations_more ps w us = flat_map-append equation_tokens ps (part w us ∷ []) ∙ ap (λ l. equations_in ps ++ l) (append-nil (Name w ∷ us))

pub tokens_more : (R : List Token) (ps : List Part) (w : Word) (us : List Token) → R ++ equations_in (ps ++ part w us ∷ []) ≡ (R ++ equations_in ps) ++ Name w ∷ us
tokens_more R ps w us = ap (λ l. R ++ l) (equations_more ps w us) ∙ sym (append_assoc R (equations_in ps) (Name w ∷ us))

-- The terms that are left are in order. None of their places was written as a name. Each place that was written is named by
-- its own equation alone, and by none of the terms that are left.
pub record MendedSo (R : List Token) (left done : List Part) : Type 0 where
  pub order : AreInOrder left
  pub apart : EachOpen (λ p. EachName (Not p.place) (R ++ equations_in done)) left
  pub alone : AllByRecursion (λ d. named_in d.place (R ++ equations_in done) ≡ 1 + named_in d.place d.tokens) done
  pub shut : AllByRecursion (λ d. EachOpen (IsBefore d) left) done

pub mended_so : (R : List Token) (parts left done : List Part) → Mended parts left done → AreInOrder parts → AllByRecursion (λ p. EachName (Not p.place) R) parts → MendedSo R left done
mended_so R parts left done (begun ps) order apart = record {
  order = order;
  apart = transport (λ l. EachOpen (λ p. EachName (Not p.place) l) ps) (sym (append-nil R)) (all_open (λ p. EachName (Not p.place) R) ps apart);
  alone = tt;
  shut = tt;
}
mended_so R parts left done (passed ps before ds p first gone) order apart =
    let so = mended_so R ps (before ++ p ∷ []) ds first order apart in
    record {
      order = order_front before p so.order;
      apart = open_front (λ q. EachName (Not q.place) (R ++ equations_in ds)) before (p ∷ []) so.apart;
      alone = so.alone;
      shut = all_so (λ d. EachOpen (IsBefore d) (before ++ p ∷ [])) (λ d. EachOpen (IsBefore d) before) ds (λ d each. open_front (IsBefore d) before (p ∷ []) each) so.shut;
    }
mended_so R parts left done (further ps before after ds p us first unwritten puts) order apart =
    let so = mended_so R ps (before ++ p ∷ []) ds first order apart in
    let s : Writing = writing [] p.tokens before in
    let t : Writing = writing us [] after in
    let O : List Token = R ++ equations_in ds in
    let all = tokens_more R ds p.place us in
    let last : EachOpen (IsBefore p) before = order_last before p so.order in
    let there : EachOpen (λ q. EachName (Not q.place) us) after =
    open_all (λ w. EachName (Not w) us) after (λ w there. puts_untold w s t puts there tt) in
    let before_apart : EachOpen (λ q. EachName (Not q.place) O) after =
    puts_open (λ q. EachName (Not q.place) O) s t puts (open_front (λ q. EachName (Not q.place) O) before (p ∷ []) so.apart) in
    let last_after : EachOpen (IsBefore p) after = puts_open (IsBefore p) s t puts last in
    let both : EachOpen (λ q. EachName (Not q.place) (O ++ Name p.place ∷ us)) after =
    open_so (λ q. EachName (Not q.place) us × EachName (Not q.place) O) (IsBefore p) (λ q. EachName (Not q.place) (O ++ Name p.place ∷ us)) after
    (λ q a b. each_both (Not q.place) O (Name p.place ∷ us) a.1 ((λ same. b.1 (sym same)), a.0))
    (open_so (λ q. EachName (Not q.place) us) (λ q. EachName (Not q.place) O) (λ q. EachName (Not q.place) us × EachName (Not q.place) O) after (λ q a b. (a, b)) there before_apart)
    last_after in
    let here : named_in p.place (O ++ Name p.place ∷ us) ≡ 1 + named_in p.place us =
    (let a = named_append p.place O (Name p.place ∷ us) in
    let b = named_none p.place O (open_here (λ q. EachName (Not q.place) O) before [] p so.apart unwritten) in
    let c = named_first p.place us in
    omega arith) in
    let older : (d : Part) → (named_in d.place O ≡ 1 + named_in d.place d.tokens) × EachOpen (IsBefore d) (before ++ p ∷ [])
    → named_in d.place (O ++ Name p.place ∷ us) ≡ 1 + named_in d.place d.tokens =
    (λ d so_far.
    let of_p : IsBefore d p = open_here (IsBefore d) before [] p so_far.1 unwritten in
    let start : EachSo (Not d.place) s = record {
      tokens = tt;
      rest = of_p.0;
      parts = open_so (IsBefore d) (IsBefore d) (λ q. EachName (Not d.place) q.tokens) before (λ q a b. a.0) (open_front (IsBefore d) before (p ∷ []) so_far.1) (open_front (IsBefore d) before (p ∷ []) so_far.1);
    } in
    let none = (puts_each (Not d.place) s t puts start).tokens in
    let a = named_append d.place O (Name p.place ∷ us) in
    let b = named_none d.place (Name p.place ∷ us) (of_p.1, none) in
    let c = so_far.0 in
    omega arith) in
    record {
      order = puts_order s t puts (order_front before p so.order);
      apart = transport (λ l. EachOpen (λ q. EachName (Not q.place) l) after) (sym all) both;
      alone = transport (λ l. AllByRecursion (λ d. named_in d.place l ≡ 1 + named_in d.place d.tokens) (ds ++ part p.place us ∷ [])) (sym all)
          (all_more (λ d. named_in d.place (O ++ Name p.place ∷ us) ≡ 1 + named_in d.place d.tokens) ds (part p.place us)
          (all_so (λ d. (named_in d.place O ≡ 1 + named_in d.place d.tokens) × EachOpen (IsBefore d) (before ++ p ∷ [])) (λ d. named_in d.place (O ++ Name p.place ∷ us) ≡ 1 + named_in d.place d.tokens) ds older
          (all_both (λ d. named_in d.place O ≡ 1 + named_in d.place d.tokens) (λ d. EachOpen (IsBefore d) (before ++ p ∷ [])) ds so.alone so.shut)) here);
      shut = all_more (λ d. EachOpen (IsBefore d) after) ds (part p.place us)
          (all_so (λ d. EachOpen (IsBefore d) (before ++ p ∷ [])) (λ d. EachOpen (IsBefore d) after) ds (λ d each. puts_open (IsBefore d) s t puts (open_front (IsBefore d) before (p ∷ []) each)) so.shut)
          last_after;
    }
  where
    all_both : {X : Type 0} (P Q : X → Type 0) (xs : List X) → AllByRecursion P xs → AllByRecursion Q xs → AllByRecursion (λ x. P x × Q x) xs
    all_both P Q [] a b = tt
    all_both P Q (x ∷ xs) a b = ((a.0, b.0), all_both P Q xs a.1 b.1)

-- what holds of each name of the terms holds of what was written
pub mended_each : (P : Word → Type 0) (parts left done : List Part) → Mended parts left done → AllByRecursion (λ p. EachName P p.tokens) parts
    → EachOpen (λ p. EachName P p.tokens) left × AllByRecursion (λ d. EachName P d.tokens) done
mended_each P parts left done (begun ps) all = (all_open (λ p. EachName P p.tokens) ps all, tt)
mended_each P parts left done (passed ps before ds p first gone) all =
    let so = mended_each P ps (before ++ p ∷ []) ds first all in
    (open_front (λ q. EachName P q.tokens) before (p ∷ []) so.0, so.1)
mended_each P parts left done (further ps before after ds p us first unwritten puts) all =
    let so = mended_each P ps (before ++ p ∷ []) ds first all in
    let end : EachSo P (writing us [] after) = puts_each P (writing [] p.tokens before) (writing us [] after) puts (record {
      tokens = tt;
      rest = open_here (λ q. EachName P q.tokens) before [] p so.0 unwritten;
      parts = open_front (λ q. EachName P q.tokens) before (p ∷ []) so.0;
    }) in
    (end.parts, all_more (λ d. EachName P d.tokens) ds (part p.place us) so.1 end.tokens)

-- what holds of each place holds of those that were written
pub mended_places : (Q : Word → Type 0) (parts left done : List Part) → Mended parts left done → AllByRecursion (λ p. Q p.place) parts
    → EachOpen (λ p. Q p.place) left × AllByRecursion (λ d. Q d.place) done
mended_places Q parts left done (begun ps) all = (all_open (λ p. Q p.place) ps all, tt)
mended_places Q parts left done (passed ps before ds p first gone) all =
    let so = mended_places Q ps (before ++ p ∷ []) ds first all in
    (open_front (λ q. Q q.place) before (p ∷ []) so.0, so.1)
mended_places Q parts left done (further ps before after ds p us first unwritten puts) all =
    let so = mended_places Q ps (before ++ p ∷ []) ds first all in (
      puts_open (λ q. Q q.place) (writing [] p.tokens before) (writing us [] after) puts (open_front (λ q. Q q.place) before (p ∷ []) so.0),
      all_more (λ d. Q d.place) ds (part p.place us) so.1 (open_here (λ q. Q q.place) before [] p so.0 unwritten),
    )
