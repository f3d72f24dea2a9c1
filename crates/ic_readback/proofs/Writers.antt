-- Lemmas: what a writer has written.
use Rattle.std.proofs.Common.{◌≡◌, ℕ, zero, suc, ◌+◌, ◌≤◌, ◌<◌, List, [], ◌∷◌, ◌++◌, ◌==◌, Bool, true, false, cond, Option, None, Some, length, map, reverse, slice_get, slice_index_or, refl, sym, ap, ◌∙◌, arith, inl, inr, append_assoc, append-nil, subst as transport, true≢false as true_false}
use Rattle.std.specs.Prelude.{is_some}
use Rattle.std.specs.Cmp.{unsigned_Decides}
use Rattle.std.proofs.lemmas.Bool.{cases_lt}
use Rattle.std.specs.List.{flat_map}
use Rattle.std.proofs.Math.ListN.{set}
use Rattle.std.proofs.lemmas.List.{length-append, map-append, reverse-append}
use Rattle.std.proofs.lemmas.List.Concat.{flat_map-append}
use Rattle.std.proofs.lemmas.Option.{get_or_from_slice_get, same_Some}
use Rattle.ic_arena.specs.declared.word.Word.{Word}
use Rattle.ic_readback.specs.declared.loose.Loose.{Loose}
use Rattle.ic_readback.specs.declared.token.Token.{Token}
use Rattle.ic_readback.specs.declared.token.Token.TheVariants.{Name, Agent}
use Rattle.ic_readback.specs.declared.writer.Writer.{Writer}
use Rattle.ic_readback.specs.inner.Writing.{Part, part, part_of, IsOpen, IsOpenAt, Indices, found, key_of, AreIndexed, Writing, writing, Put, put, write, Puts, no_put, Mended, begun, passed, further, equation_tokens}
use Rattle.ic_readback.specs.inner.Mending.{parts_left, places_left, SamePlaces, WroteOne, Wrote, Mends, HasWritten}
use Rattle.ic_readback.proofs.Puttings.{put_last, load, put_load}
use Rattle.ic_readback.proofs.Moves.{pushed}

pub none_some : {X : Type 0} {x : X} → None ≡ Some x → ⊥
none_some e = cc

-- ---- a term that is left

pub open_at : (w : Word) (ls : List Loose) → IsOpen w (map part_of ls) → (i : ℕ) × IsOpenAt w i ls
open_at w [] there = absurd there
open_at w (l ∷ ls) (inl here) = (zero, record { loose = l; there = refl; unwritten = here.0; place = here.1 })
open_at w (l ∷ ls) (inr there) = let rest = open_at w ls there in (suc rest.0, record { loose = rest.1.loose; there = rest.1.there; unwritten = rest.1.unwritten; place = rest.1.place })

get_place : (ls : List Loose) (i : ℕ) (l : Loose) → slice_get ls i ≡ Some l → slice_get (map (λ l. l.place) ls) i ≡ Some l.place
get_place [] i l there = absurd (none_some there)
get_place (m ∷ ls) zero l there = ap (λ (o : Option Loose). place_of o) there
  where
    place_of : Option Loose → Option Word
    place_of None = None
    place_of (Some l) = Some l.place
get_place (m ∷ ls) (suc i) l there = get_place ls i l there

-- where places are indexed, one for which a term is left is found
pub open_found : (indices : Indices) (w : Word) (ls : List Loose) → AreIndexed indices (map (λ l. l.place) ls) → IsOpen w (map part_of ls)
    → (i : ℕ) × (found indices (key_of w) ≡ Some i) × IsOpenAt w i ls
open_found indices w ls indexed there =
    let at = open_at w ls there in
    let is = indexed at.0 at.1.loose.place (get_place ls at.0 at.1.loose at.1.there) in
    (at.0, transport (λ (v : Word). found indices (key_of v) ≡ Some at.0) at.1.place is, at.1)

-- a term is written, and the others stay
pub record SetAt (ls : List Loose) (i : ℕ) (l m : Loose) : Type 0 where
  pub before : List Part
  pub after : List Part
  pub old : map part_of ls ≡ before ++ part_of l ∷ after
  pub new : map part_of (set ls i m) ≡ before ++ part_of m ∷ after

pub set_at : (ls : List Loose) (i : ℕ) (l m : Loose) → slice_get ls i ≡ Some l → SetAt ls i l m
set_at [] i l m there = absurd (none_some there)
set_at (k ∷ ls) zero l m there = record {
  before = [];
  after = map part_of ls;
  old = ap (λ (k : Loose). part_of k ∷ map part_of ls) (same_Some k l there);
  new = refl;
}
set_at (k ∷ ls) (suc i) l m there =
    let rest = set_at ls i l m there in
    record {
      before = part_of k ∷ rest.before;
      after = rest.after;
      old = ap (λ l. part_of k ∷ l) rest.old;
      new = ap (λ l. part_of k ∷ l) rest.new;
    }

pub set_places : (ls : List Loose) (i : ℕ) (l m : Loose) → slice_get ls i ≡ Some l → m.place ≡ l.place → map (λ l. l.place) (set ls i m) ≡ map (λ l. l.place) ls
set_places [] i l m there same = absurd (none_some there)
set_places (k ∷ ls) zero l m there same =
    ap (λ (w : Word). w ∷ map (λ l. l.place) ls) (same ∙ ap (λ (k : Loose). k.place) (sym (same_Some k l there)))
set_places (k ∷ ls) (suc i) l m there same = ap (λ ws. k.place ∷ ws) (set_places ls i l m there same)

-- the places of the first terms are indexed as all are
pub indexed_front : (indices : Indices) (ws : List Word) (w : Word) → AreIndexed indices (ws ++ w ∷ []) → AreIndexed indices ws
indexed_front indices ws w indexed i v there = indexed i v (front ws i v there)
  where
    front : (ws : List Word) (i : ℕ) (v : Word) → slice_get ws i ≡ Some v → slice_get (ws ++ w ∷ []) i ≡ Some v
    front [] i v there = absurd (none_some there)
    front (x ∷ ws) zero v there = there
    front (x ∷ ws) (suc i) v there = front ws i v there

pub same_indexed : (old new : Writer) → SamePlaces old new → AreIndexed old.indices (places_left old) → AreIndexed new.indices (places_left new)
same_indexed old new same indexed =
    transport (λ ws. AreIndexed new.indices ws) (sym same.places) (transport (λ (m : Indices). AreIndexed m (places_left old)) (sym same.indices) indexed)

pub same_on : (old mid new : Writer) → SamePlaces old mid → SamePlaces mid new → SamePlaces old new
same_on old mid new first second = record { places = second.places ∙ first.places; indices = second.indices ∙ first.indices }

-- ---- one token

-- a term is put in the stead of its name
pub wrote_put : (old new : Writer) (w : Word) (i : ℕ) (m : Loose) → (at : IsOpenAt w i old.loose.items) → m.place ≡ at.loose.place → m.reversed.items ≡ at.loose.reversed.items
    → m.written ≡ true → new.loose.items ≡ set old.loose.items i m → new.indices ≡ old.indices → new.tokens.items ≡ old.tokens.items → new.equations ≡ old.equations
    → new.stack.items ≡ old.stack.items ++ at.loose.reversed.items → WroteOne (Name w ∷ reverse old.stack.items) old new
wrote_put old new w i m at place reversed gone loose indices tokens equations stack =
    let l : Loose = at.loose in
    let p : Part = part_of l in
    let s = set_at old.loose.items i l m at.there in
    let is : part_of m ≡ record p { written = true } = (λ j. record { place = place j; tokens = reverse (reversed j); written = gone j }) in
    let parts : parts_left new ≡ s.before ++ record p { written = true } ∷ s.after = ap (map part_of) loose ∙ (s.new ∙ ap (λ q. s.before ++ q ∷ s.after) is) in
    let rest : reverse new.stack.items ≡ p.tokens ++ reverse old.stack.items = ap reverse stack ∙ reverse-append old.stack.items l.reversed.items in
    record {
      more = [];
      tokens = tokens ∙ sym (append-nil old.tokens.items);
      equations = equations;
      same = record { places = ap (map (λ l. l.place)) loose ∙ set_places old.loose.items i l m at.there place; indices = indices };
      step = λ ts.
          let one : Put (writing ts (Name p.place ∷ reverse old.stack.items) (s.before ++ p ∷ s.after)) (writing ts (p.tokens ++ reverse old.stack.items) (s.before ++ record p { written = true } ∷ s.after)) =
          put ts (reverse old.stack.items) s.before s.after p at.unwritten in
          let from : Put (writing ts (Name w ∷ reverse old.stack.items) (parts_left old)) (writing ts (p.tokens ++ reverse old.stack.items) (s.before ++ record p { written = true } ∷ s.after)) =
          transport (λ (a : Writing). Put a (writing ts (p.tokens ++ reverse old.stack.items) (s.before ++ record p { written = true } ∷ s.after)))
          (λ j. writing ts (Name (at.place j) ∷ reverse old.stack.items) (sym s.old j)) one in
          transport (λ (b : Writing). Put (writing ts (Name w ∷ reverse old.stack.items) (parts_left old)) b)
          (λ j. writing (sym (append-nil ts) j) (sym rest j) (sym parts j)) from;
    }

-- a token is written
pub wrote_token : (old new : Writer) (t : Token) → ((w : Word) → t ≡ Name w → ¬ IsOpen w (parts_left old)) → new.loose ≡ old.loose → new.indices ≡ old.indices
    → new.stack ≡ old.stack → new.equations ≡ old.equations → new.tokens.items ≡ old.tokens.items ++ t ∷ [] → WroteOne (t ∷ reverse old.stack.items) old new
wrote_token old new t shut loose indices stack equations tokens = record {
  more = t ∷ [];
  tokens = tokens;
  equations = equations;
  same = record { places = λ i. map (λ l. l.place) (loose i).items; indices = indices };
  step = λ ts. transport (λ (p : Writing). Put (writing ts (t ∷ reverse old.stack.items) (parts_left old)) p)
      (λ i. writing (ts ++ t ∷ []) (reverse (sym stack i).items) (map part_of (sym loose i).items))
      (write ts (reverse old.stack.items) t (parts_left old) shut);
}

-- ---- one token after another

pub no_wrote : (w : Writer) → Wrote (reverse w.stack.items) w w
no_wrote w = record {
  more = [];
  tokens = sym (append-nil w.tokens.items);
  equations = refl;
  same = record { places = refl; indices = refl };
  steps = λ ts. transport (λ (b : Writing). Puts (writing ts (reverse w.stack.items) (parts_left w)) b) (λ j. writing (sym (append-nil ts) j) (reverse w.stack.items) (parts_left w))
      (no_put (writing ts (reverse w.stack.items) (parts_left w)));
}

-- `mid` has popped the token, and `new` has written it
pub wrote_next : (rest : List Token) (old now mid new : Writer) (t : Token) → Wrote rest old now → now.stack.items ≡ mid.stack.items ++ t ∷ [] → mid.loose ≡ now.loose
    → mid.indices ≡ now.indices → mid.tokens.items ≡ now.tokens.items → mid.equations ≡ now.equations → WroteOne (t ∷ reverse mid.stack.items) mid new → Wrote rest old new
wrote_next rest old now mid new t before stack loose indices tokens equations one =
    let popped : t ∷ reverse mid.stack.items ≡ reverse now.stack.items = sym (pushed mid.stack.items t) ∙ ap reverse (sym stack) in
    record {
      more = before.more ++ one.more;
      tokens = one.tokens ∙ (ap (λ l. l ++ one.more) (tokens ∙ before.tokens) ∙ append_assoc old.tokens.items before.more one.more);
      equations = one.equations ∙ (equations ∙ before.equations);
      same = same_on old now new before.same (same_on now mid new (record { places = λ j. map (λ l. l.place) (loose j).items; indices = indices }) one.same);
      steps = λ ts.
          let last : Put (writing (ts ++ before.more) (reverse now.stack.items) (parts_left now)) (writing ((ts ++ before.more) ++ one.more) (reverse new.stack.items) (parts_left new)) =
          transport (λ (a : Writing). Put a (writing ((ts ++ before.more) ++ one.more) (reverse new.stack.items) (parts_left new)))
          (λ j. writing (ts ++ before.more) (popped j) (map part_of (loose j).items)) (one.step (ts ++ before.more)) in
          transport (λ l. Puts (writing ts rest (parts_left old)) (writing l (reverse new.stack.items) (parts_left new))) (append_assoc ts before.more one.more)
          (put_last (writing ts rest (parts_left old)) (writing (ts ++ before.more) (reverse now.stack.items) (parts_left now))
          (writing ((ts ++ before.more) ++ one.more) (reverse new.stack.items) (parts_left new)) (before.steps ts) last);
    }

pub wrote_load : (now mid new : Writer) (t : Token) → now.stack.items ≡ mid.stack.items ++ t ∷ [] → mid.loose ≡ now.loose → WroteOne (t ∷ reverse mid.stack.items) mid new
    → load (reverse new.stack.items) (parts_left new) < load (reverse now.stack.items) (parts_left now)
wrote_load now mid new t stack loose one =
    let less = put_load (writing [] (t ∷ reverse mid.stack.items) (parts_left mid)) (writing ([] ++ one.more) (reverse new.stack.items) (parts_left new)) (one.step []) in
    let popped : t ∷ reverse mid.stack.items ≡ reverse now.stack.items = sym (pushed mid.stack.items t) ∙ ap reverse (sym stack) in
    transport (λ k. load (reverse new.stack.items) (parts_left new) < k) (λ j. load (popped j) (map part_of (loose j).items)) less

-- ---- terms

pub passes : (old : Writer) (p : Part) → p.written ≡ true → old.stack.items ≡ [] → HasWritten p old old
passes old p gone empty = record {
  done = [];
  mended = passed (parts_left old ++ p ∷ []) (parts_left old) [] p (begun (parts_left old ++ p ∷ [])) gone;
  tokens = sym (append-nil old.tokens.items);
  counted = omega arith;
  empty = empty;
  same = record { places = refl; indices = refl };
}

-- `mid` has the name of the place written, and the tokens of the term on its stack
pub writes_term : (old mid new : Writer) (p : Part) → p.written ≡ false → mid.loose ≡ old.loose → mid.indices ≡ old.indices → mid.tokens.items ≡ old.tokens.items ++ Name p.place ∷ []
    → reverse mid.stack.items ≡ p.tokens → mid.equations ≡ old.equations + 1 → Wrote (reverse mid.stack.items) mid new → new.stack.items ≡ [] → HasWritten p old new
writes_term old mid new p unwritten loose indices tokens stack equations wrote empty =
    let puts : Puts (writing [] p.tokens (parts_left old)) (writing wrote.more [] (parts_left new)) =
    transport (λ (a : Writing). Puts a (writing wrote.more [] (parts_left new))) (λ j. writing [] (stack j) (map part_of (loose j).items))
    (transport (λ l. Puts (writing [] (reverse mid.stack.items) (parts_left mid)) (writing wrote.more l (parts_left new))) (ap reverse empty) (wrote.steps [])) in
    let more = equations in
    let same = wrote.equations in
    record {
      done = part p.place wrote.more ∷ [];
      mended = further (parts_left old ++ p ∷ []) (parts_left old) (parts_left new) [] p wrote.more (begun (parts_left old ++ p ∷ [])) unwritten puts;
      tokens = wrote.tokens ∙ (ap (λ l. l ++ wrote.more) tokens ∙ (append_assoc old.tokens.items (Name p.place ∷ []) wrote.more ∙ ap (λ l. old.tokens.items ++ l) (sym (append-nil (Name p.place ∷ wrote.more)))));
      counted = omega arith;
      empty = empty;
      same = same_on old mid new (record { places = λ j. map (λ l. l.place) (loose j).items; indices = indices }) wrote.same;
    }

pub mended_on : (parts mid left ds es : List Part) → Mended parts mid ds → Mended mid left es → Mended parts left (ds ++ es)
mended_on parts mid left ds es first (begun ps) = transport (λ l. Mended parts ps l) (sym (append-nil ds)) first
mended_on parts mid left ds es first (passed ps before fs p rest gone) = passed parts before (ds ++ fs) p (mended_on parts ps (before ++ p ∷ []) ds fs first rest) gone
mended_on parts mid left ds es first (further ps before after fs p us rest unwritten puts) =
    transport (λ l. Mended parts after l) (append_assoc ds fs (part p.place us ∷ []))
    (further parts before after (ds ++ fs) p us (mended_on parts ps (before ++ p ∷ []) ds fs first rest) unwritten puts)

pub no_mends : (w : Writer) → w.stack.items ≡ [] → Mends w w
no_mends w empty = record { done = []; mended = begun (parts_left w); tokens = sym (append-nil w.tokens.items); counted = omega arith; empty = empty }

-- `mid` has popped the term, and `new` has written it
pub mends_next : (old now mid new : Writer) (l : Loose) → Mends old now → now.loose.items ≡ mid.loose.items ++ l ∷ [] → mid.tokens.items ≡ now.tokens.items → mid.equations ≡ now.equations
    → HasWritten (part_of l) mid new → Mends old new
mends_next old now mid new l before loose tokens equations one =
    let parts : parts_left now ≡ parts_left mid ++ part_of l ∷ [] = ap (map part_of) loose ∙ map-append part_of mid.loose.items (l ∷ []) in
    let a = before.counted in
    let b = one.counted in
    let c = length-append before.done one.done in
    record {
      done = before.done ++ one.done;
      mended = mended_on (parts_left old) (parts_left now) (parts_left new) before.done one.done before.mended
          (transport (λ ps. Mended ps (parts_left new) one.done) (sym parts) one.mended);
      tokens = one.tokens ∙ (ap (λ l. l ++ flat_map equation_tokens one.done) (tokens ∙ before.tokens)
          ∙ (append_assoc old.tokens.items (flat_map equation_tokens before.done) (flat_map equation_tokens one.done)
          ∙ ap (λ l. old.tokens.items ++ l) (sym (flat_map-append equation_tokens before.done one.done))));
      counted = omega arith;
      empty = one.empty;
    }

-- ---- what is at an index

pub same_at : (ls : List Loose) (i j : ℕ) (l m : Loose) → slice_get ls i ≡ Some l → i ≡ j → m ≡ slice_index_or ls j m → l ≡ m
same_at ls i j l m there same is =
    let at : slice_get ls j ≡ Some l = transport (λ (k : ℕ). slice_get ls k ≡ Some l) same there in
    sym (is ∙ get_or_from_slice_get ls j l m at)

pub same_name : (v w : Word) → Name v ≡ Name w → v ≡ w
same_name v w e = cc

pub agent_name : (s : ℕ) (w : Word) → Agent s ≡ Name w → ⊥
agent_name s w e = cc

pub indexed_popped : (indices : Indices) (ls ms : List Loose) (l : Loose) → ls ≡ ms ++ l ∷ [] → AreIndexed indices (map (λ l. l.place) ls) → AreIndexed indices (map (λ l. l.place) ms)
indexed_popped indices ls ms l is indexed =
    indexed_front indices (map (λ l. l.place) ms) l.place
    (transport (AreIndexed indices) (ap (map (λ (l : Loose). l.place)) is ∙ map-append (λ (l : Loose). l.place) ms (l ∷ [])) indexed)

equations_many : (ps : List Part) → length ps ≤ length (flat_map equation_tokens ps)
equations_many [] = omega arith
equations_many (p ∷ ps) = let rest = equations_many ps in let more = length-append (equation_tokens p) (flat_map equation_tokens ps) in omega arith

pub mends_few : (old new : Writer) → Mends old new → old.equations ≤ length old.tokens.items → new.equations ≤ length new.tokens.items
mends_few old new mends few =
    let a = mends.counted in
    let b = ap length mends.tokens ∙ length-append old.tokens.items (flat_map equation_tokens mends.done) in
    let c = equations_many mends.done in
    omega arith

-- ---- the indices of places

pub none_of : (o : Option ℕ) → is_some o ≡ false → o ≡ None
none_of None e = refl
none_of (Some k) e = absurd (true_false e)

pub indexed_more : (ls : List Loose) (i n : ℕ) (l : Loose) (old new : Indices) → slice_get ls i ≡ Some l → n ≡ key_of l.place → found old n ≡ None
    → ((q : ℕ) → found new q ≡ cond (n == q) (Some i) (found old q))
    → ((j : ℕ) (w : Word) → j < i → slice_get (map (λ l. l.place) ls) j ≡ Some w → found old (key_of w) ≡ Some j)
    → (j : ℕ) (w : Word) → j < i + 1 → slice_get (map (λ l. l.place) ls) j ≡ Some w → found new (key_of w) ≡ Some j
indexed_more ls i n l old new at key none updated so_far j w low there = elim (cases_lt j i) [
  | inl less ↦ before less (n == key_of w) refl
  | inr high ↦ last (let h : i ≡ j = omega arith in h)
]
  where
    before : j < i → (b : Bool) → (n == key_of w) ≡ b → found new (key_of w) ≡ Some j
    before less true e =
        let same = (unsigned_Decides n (key_of w)).0 e in
        absurd (none_some (sym (transport (λ (k : ℕ). found old k ≡ None) same none) ∙ so_far j w less there))
    before less false e = updated (key_of w) ∙ (ap (λ b. cond b (Some i) (found old (key_of w))) e ∙ so_far j w less there)

    last : i ≡ j → found new (key_of w) ≡ Some j
    last same =
        let place : slice_get (map (λ l. l.place) ls) j ≡ Some l.place = transport (λ (k : ℕ). slice_get (map (λ l. l.place) ls) k ≡ Some l.place) same (get_place ls i l at) in
        let w_is : w ≡ l.place = same_Some w l.place (sym there ∙ place) in
        let here : n ≡ key_of w = key ∙ ap key_of (sym w_is) in
        updated (key_of w) ∙ (ap (λ b. cond b (Some i) (found old (key_of w))) ((unsigned_Decides n (key_of w)).1 here) ∙ ap Some same)
