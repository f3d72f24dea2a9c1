-- How packing goes on, word by word.
use Rattle.std.proofs.Common.{◌≡◌, ℕ, zero, suc, ◌+◌, ◌<◌, ◌≤◌, ◌==◌, ◌&&◌, inl, inr, List, [], ◌∷◌, ◌++◌, Bool, true, false, cond, Contains, length, map, reverse, slice_index_or, refl, ap, sym, subst, ◌∙◌, append_assoc, zero-add, arith, sum_by, eq-eqb}
use Rattle.std.specs.List.Sorted.{IsPermutation}
use Rattle.std.proofs.Math.Bool.{false-and}
use Rattle.std.proofs.lemmas.Bool.{ne_eqb}
use Rattle.std.proofs.lemmas.Bool.Decides.{eqb_tells}
use Rattle.std.proofs.lemmas.List.{append-nil, length-append, length-reverse, reverse-append, reverse-reverse}
use Rattle.std.proofs.lemmas.List.Sorted.{IsPermutation-refl, IsPermutation-sym, IsPermutation-trans, IsPermutation-cons, IsPermutation-map, IsPermutation-middle, IsPermutation-append_left, IsPermutation-append_right, IsPermutation-reverse, sum_by-IsPermutation}
use Rattle.std.proofs.lemmas.List.Sums.{sum_by-append}
use Rattle.ic_arena.specs.declared.word.Word.{Word}
use Rattle.ic_arena.specs.declared.word.TheConstants.{FREE, IDLE, NAME}
use Rattle.ic_arena.specs.Word.{name_word, word_eq, count}
use Rattle.ic_arena.specs.Piece.{Piece, equated, idle, waits, agent_of, room, uses}
use Rattle.ic_arena.specs.Tables.{Blocks, Replaced, entry, entry_piece, names_pieces}
use Rattle.ic_arena.specs.lemmas.Rooms.{other_index, other_tag}
use Rattle.ic_machine.specs.Moving.{CutEnd, Ends, Side, Spells, follow, opened, plain, cut, gone, end_word, spelled_agent, spells_cut, spares, times, worth, KeepWorth}
use Rattle.ic_machine.specs.Separate.{is_constant_tag, IsSeparate}
use Rattle.ic_machine.specs.inner.Firing.{heaps_pieces}
use Rattle.ic_machine.specs.inner.Moving.{weight, Cuts, begins, finishes, PacksName, followed, begun, ended, PacksAgent, IsUnderWay, PacksTree}
use Rattle.ic_machine.specs.lemmas.Orders.{replaced_before, replaced_sum}
use Rattle.ic_machine.specs.lemmas.Separation.{sum_of_parts}
use Rattle.ic_machine.specs.lemmas.Spelled.{spells_none}
use Rattle.ic_machine.proofs.Heaps.{tables_elsewhere}
use Rattle.ic_machine.proofs.NameRooms.{not_free, word_eq_refl}
use Rattle.ic_machine.proofs.Reading.{agent_places}

-- ---- how often words are named

pub count_append : (w : Word) (ws vs : List Word) → count w (ws ++ vs) ≡ count w ws + count w vs
count_append w ws vs = sum_by-append (λ (v : Word). cond {A = ℕ} (word_eq w v) 1 0) ws vs

one_itself : (w : Word) → ◌≡◌ {A = ℕ} (cond (word_eq w w) 1 0) 1
one_itself w = ap (λ (b : Bool). cond {A = ℕ} b 1 0) (word_eq_refl w)

one_named : (w : Word) → count w (w ∷ []) ≡ 1
one_named w = let own = one_itself w in omega arith

-- words that stand in another order, or fewer of them
pub reordered : (arities : List ℕ) (vs us : List Word) (ps : List Piece) → ((w : Word) → count w us ≤ count w vs)
    → IsSeparate arities vs ps → IsSeparate arities us ps
reordered arities vs us ps fewer s = record {
  each = λ w place.
      let before = s.each w place in
      let less = fewer w in
      omega arith;
}

-- what is left where the words in hand are dropped
pub hand_left : (arities : List ℕ) (ws es others : List Word) (ps : List Piece) → IsSeparate arities (ws ++ (es ++ others)) ps
    → IsSeparate arities others ps
hand_left arities ws es others ps = reordered arities (ws ++ (es ++ others)) others ps (λ w. omega (arith, count_append))

-- the words in hand by themselves
pub hand_alone : (arities : List ℕ) (ws es others : List Word) (ps : List Piece) → IsSeparate arities (ws ++ (es ++ others)) ps
    → IsSeparate arities (ws ++ (es ++ [])) ps
hand_alone arities ws es others ps = reordered arities (ws ++ (es ++ others)) (ws ++ (es ++ [])) ps (λ w. omega (arith, sum_by-append {X = Word}))

-- some words in hand wait among the others
pub hand_first : (arities : List ℕ) (first later es others : List Word) (ps : List Piece)
    → IsSeparate arities ((first ++ later) ++ (es ++ others)) ps → IsSeparate arities (first ++ (es ++ (later ++ others))) ps
hand_first arities first later es others ps = reordered arities ((first ++ later) ++ (es ++ others)) (first ++ (es ++ (later ++ others))) ps (λ w. omega (arith, sum_by-append {X = Word}))

-- and are next
pub hand_next : (arities : List ℕ) (later es others : List Word) (ps : List Piece) → IsSeparate arities (es ++ (later ++ others)) ps
    → IsSeparate arities (later ++ (es ++ others)) ps
hand_next arities later es others ps = reordered arities (es ++ (later ++ others)) (later ++ (es ++ others)) ps (λ w. grind (arith, sum_by-append {X = Word}))

-- the names of ends of cuts, where there is one more
pub ends_named : (w : Word) (bs cs : List CutEnd) (e : CutEnd) → IsPermutation cs (e ∷ bs)
    → count w (map end_word cs) ≡ count w (end_word e ∷ []) + count w (map end_word bs)
ends_named w bs cs e h =
    let moved : count w (end_word e ∷ map end_word bs) ≡ count w (map end_word cs) =
    sum_by-IsPermutation (λ (v : Word). cond {A = ℕ} (word_eq w v) 1 0) (map end_word cs) (end_word e ∷ map end_word bs)
    (IsPermutation-map end_word cs (e ∷ bs) h) in
    omega (arith, count_append w (end_word e ∷ []) (map end_word bs))

-- an end of a cut is named
pub end_named : (bs : List CutEnd) (e : CutEnd) → Contains bs e → 1 ≤ count (end_word e) (map end_word bs)
end_named bs e there = at bs there.0 there.1 there.2
  where
    at : (bs : List CutEnd) (k : ℕ) → k < length bs → slice_index_or bs k e ≡ e → 1 ≤ count (end_word e) (map end_word bs)
    at [] k h q = absurd (omega arith)
    at (b ∷ bs) zero h q =
        let both = count_append (end_word e) (end_word b ∷ []) (map end_word bs) in
        let same : ◌≡◌ {A = ℕ} (cond (word_eq (end_word e) (end_word b)) 1 0) 1 =
        ap (λ (x : CutEnd). cond {A = ℕ} (word_eq (end_word e) (end_word x)) 1 0) q ∙ one_itself (end_word e) in
        omega arith
    at (b ∷ bs) (suc k) h q =
        let both = count_append (end_word e) (end_word b ∷ []) (map end_word bs) in
        let later = at bs k (omega arith) q in
        omega arith

-- ---- what is packed next is there

-- a name that is named outside has room
pub named_there : (arities : List ℕ) (i : ℕ) (ws : List Word) (ns : List Word) (hs : List Blocks) → 1 ≤ count (name_word i) ws
    → IsSeparate arities ws (names_pieces 0 ns ++ heaps_pieces 0 hs) → 1 ≤ sum_by (room (name_word i)) (names_pieces 0 ns)
named_there arities i ws ns hs named s =
    let w : Word = name_word i in
    let before = s.each w refl in
    let none : sum_by (room w) (heaps_pieces 0 hs) ≡ 0 = tables_elsewhere w 0 hs (λ k le lt q. omega arith) in
    omega (arith, sum_by-append {X = Piece})

-- the last word of a stack is named
pub last_named : (w : Word) (ss rest : List Word) → 1 ≤ count w ((ss ++ w ∷ []) ++ rest)
last_named w ss rest =
    let own = one_named w in
    omega (arith, sum_by-append {X = Word})

-- an agent with arguments that is named outside has room
pub agent_there : (arities : List ℕ) (a : Word) (ws : List Word) (ns : List Word) (hs : List Blocks) → 1 ≤ a.tag
    → is_constant_tag arities a.tag ≡ false → 1 ≤ count a ws
    → IsSeparate arities ws (names_pieces 0 ns ++ heaps_pieces 0 hs) → 1 ≤ sum_by (room a) (heaps_pieces 0 hs)
agent_there arities a ws ns hs some place named s =
    let before = s.each a place in
    agent_places ns hs a some (omega arith)

-- a word that waits for a name which has room is no mark
pub waiting_word : (ns : List Word) (i : ℕ) (w : Word) → 1 ≤ sum_by (room (name_word i)) (names_pieces 0 ns) → w ≡ entry ns i
    → (w.tag ≡ IDLE → ⊥) → w.tag ≤ FREE → w.tag < IDLE
waiting_word ns i w roomy is some most =
    let not_marked : w.tag ≡ FREE → ⊥ = λ e. not_free ns i roomy (subst (λ (v : Word). v.tag ≡ FREE) is e) in
    omega arith

-- ---- a name was packed

pub pushed : {X : Type 0} (xs : List X) (x : X) → reverse (xs ++ x ∷ []) ≡ x ∷ reverse xs
pushed xs x = reverse-append xs (x ∷ [])

pub cuts_packed : (i c : ℕ) (es fs : List Word) (bs cs : List CutEnd) (ws ss : List Word) → Cuts i c es fs bs cs
    → PacksName i es fs bs cs ws (ws ++ name_word c ∷ []) ss ss
cuts_packed i c es fs bs cs ws ss (begins xs ys zs more) = begun xs ys zs ws ss c more
cuts_packed i c es fs bs cs ws ss (finishes xs ys zs us taken less) = ended xs ys zs us ws ss c taken less

pub name_in_hand : (arities : List ℕ) (i : ℕ) (es fs : List Word) (h : List Piece) (bs cs : List CutEnd) (ws vs ss ts others : List Word)
    → PacksName i es fs bs cs ws vs ss ts
    → IsSeparate arities ((ss ++ name_word i ∷ []) ++ (map end_word bs ++ others)) (names_pieces 0 es ++ h)
    → IsSeparate arities (ts ++ (map end_word cs ++ others)) (names_pieces 0 fs ++ h)
name_in_hand arities i es fs h bs cs ws vs ss ts others (followed xs ys zs us rs u taken) s = record {
  each = λ w place.
      let before = s.each w place in
      let ux = sum_of_parts (uses w) (names_pieces 0 xs) (waits (name_word i) u ∷ []) (names_pieces 0 ys) taken in
      let rx = sum_of_parts (room w) (names_pieces 0 xs) (waits (name_word i) u ∷ []) (names_pieces 0 ys) taken in
      omega (arith, sum_by-append {X = Word}, sum_by-append {X = Piece});
}
name_in_hand arities i es fs h bs cs ws vs ss ts others (begun xs ys zs us rs c more) s =
    reordered arities ((rs ++ name_word i ∷ []) ++ (map end_word ys ++ others)) (rs ++ (map end_word zs ++ others)) (names_pieces 0 xs ++ h) (λ w.
    let g = ends_named w ys zs (record { cut = c; name = i }) more in
    omega (arith, sum_by-append {X = Word})) s
name_in_hand arities i es fs h bs cs ws vs ss ts others (ended xs ys zs qs us rs c taken less) s = record {
  each = λ w place.
      let before = s.each w place in
      let g = ends_named w qs zs (record { cut = c; name = i }) less in
      let two = both_or_none (word_eq w (name_word i)) in
      let ux = sum_of_parts (uses w) (names_pieces 0 xs) (idle (name_word i) ∷ []) (names_pieces 0 ys) taken in
      let rx = sum_of_parts (room w) (names_pieces 0 xs) (idle (name_word i) ∷ []) (names_pieces 0 ys) taken in
      omega (arith, sum_by-append {X = Word}, sum_by-append {X = Piece});
}
  where
    both_or_none : (b : Bool) → ◌≡◌ {A = ℕ} (cond b 2 0) (cond b 1 0 + cond b 1 0)
    both_or_none true = refl
    both_or_none false = refl

-- a piece of a name is the first of all that is at places
pub first_name : (es fs : List Word) (h : List Piece) (p : Piece) → IsPermutation (names_pieces 0 es) (p ∷ names_pieces 0 fs)
    → IsPermutation (names_pieces 0 es ++ h) (p ∷ (names_pieces 0 fs ++ h))
first_name es fs h p taken = IsPermutation-append_left h (names_pieces 0 es) (p ∷ names_pieces 0 fs) taken

-- one more word was written
written_on : (before more words after : List Word) (w : Word) → words ≡ before ++ more → after ≡ words ++ w ∷ []
    → after ≡ before ++ (more ++ w ∷ [])
written_on before more words after w old new = new ∙ (ap (λ (l : List Word). l ++ w ∷ []) old ∙ append_assoc before more (w ∷ []))

-- a word was written, and what is left goes on
one_written : (arities : List ℕ) (first old rest : Side) (root a w : Word) (more ss ls : List Word)
    → ((side : Side) (ts : List Word) → Spells arities old side (reverse (ss ++ a ∷ [])) ts → Spells arities first side (root ∷ []) (more ++ ts))
    → Spells arities old rest (a ∷ reverse ss) (w ∷ ls) → Spells arities first rest (root ∷ []) ((more ++ w ∷ []) ++ ls)
one_written arities first old rest root a w more ss ls goes all =
    subst (λ (l : List Word). Spells arities first rest (root ∷ []) l) (sym (append_assoc more (w ∷ []) ls))
    (goes rest (w ∷ ls) (subst (λ (l : List Word). Spells arities old rest l (w ∷ ls)) (sym (pushed ss a)) all))

pub name_goes : (arities : List ℕ) (first : Side) (root : Word) (before : List Word) (i : ℕ) (es fs : List Word) (h : List Piece)
    (bs cs : List CutEnd) (ws vs ss ts : List Word) → PacksName i es fs bs cs ws vs ss ts
    → IsUnderWay arities first (record { places = names_pieces 0 es ++ h; ends = bs }) root before ws (ss ++ name_word i ∷ [])
    → IsUnderWay arities first (record { places = names_pieces 0 fs ++ h; ends = cs }) root before vs ts
name_goes arities first root before i es fs h bs cs ws vs ss ts (followed xs ys zs us rs u taken) g =
    let x : Word = name_word i in
    let old : Side = record { places = names_pieces 0 xs ++ h; ends = zs } in
    let new : Side = record { places = names_pieces 0 ys ++ h; ends = zs } in
    record {
      more = g.more;
      written = g.written;
      spells = λ rest ls later.
          g.spells rest ls (subst (λ (l : List Word). Spells arities old rest l ls) (sym (pushed rs x))
          (follow old new rest x u (reverse rs) ls refl (first_name xs ys h (waits x u) taken) (IsPermutation-refl zs)
          (subst (λ (l : List Word). Spells arities new rest l ls) (pushed rs u) later)));
    }
name_goes arities first root before i es fs h bs cs ws vs ss ts (begun xs ys zs us rs c more) g =
    let x : Word = name_word i in
    let e : CutEnd = record { cut = c; name = i } in
    let old : Side = record { places = names_pieces 0 xs ++ h; ends = ys } in
    let new : Side = record { places = names_pieces 0 xs ++ h; ends = zs } in
    record {
      more = g.more ++ name_word c ∷ [];
      written = written_on before g.more us (us ++ name_word c ∷ []) (name_word c) g.written refl;
      spells = λ rest ls later.
          one_written arities first old rest root x (name_word c) g.more rs ls g.spells
          (cut old new rest e (reverse rs) ls (IsPermutation-refl (names_pieces 0 xs ++ h)) (IsPermutation-sym zs (e ∷ ys) more) later);
    }
name_goes arities first root before i es fs h bs cs ws vs ss ts (ended xs ys zs qs us rs c taken less) g =
    let x : Word = name_word i in
    let e : CutEnd = record { cut = c; name = i } in
    let old : Side = record { places = names_pieces 0 xs ++ h; ends = zs } in
    let new : Side = record { places = names_pieces 0 ys ++ h; ends = qs } in
    record {
      more = g.more ++ name_word c ∷ [];
      written = written_on before g.more us (us ++ name_word c ∷ []) (name_word c) g.written refl;
      spells = λ rest ls later.
          one_written arities first old rest root x (name_word c) g.more rs ls g.spells
          (gone old new rest e (reverse rs) ls (first_name xs ys h (idle x) taken) less later);
    }

pub name_lighter : (i : ℕ) (es fs : List Word) (h : List Piece) (bs cs : List CutEnd) (ws vs ss ts : List Word)
    → PacksName i es fs bs cs ws vs ss ts
    → sum_by weight (names_pieces 0 fs ++ h) + length ts < sum_by weight (names_pieces 0 es ++ h) + length (ss ++ name_word i ∷ [])
name_lighter i es fs h bs cs ws vs ss ts (followed xs ys zs us rs u taken) =
    let a = sum_of_parts weight (names_pieces 0 xs) (waits (name_word i) u ∷ []) (names_pieces 0 ys) taken in
    let d = length-append rs (name_word i ∷ []) in
    let e = length-append rs (u ∷ []) in
    omega (arith, sum_by-append {X = Piece})
name_lighter i es fs h bs cs ws vs ss ts (begun xs ys zs us rs c more) =
    let d = length-append rs (name_word i ∷ []) in
    omega arith
name_lighter i es fs h bs cs ws vs ss ts (ended xs ys zs qs us rs c taken less) =
    let a = sum_of_parts weight (names_pieces 0 xs) (idle (name_word i) ∷ []) (names_pieces 0 ys) taken in
    let d = length-append rs (name_word i ∷ []) in
    omega (arith, sum_by-append {X = Piece})

-- ---- the word that waits for an end of a cut was taken out

pub shipped_hand : (arities : List ℕ) (e : CutEnd) (u : Word) (es fs : List Word) (h : List Piece) (bs cs : List CutEnd) (others : List Word)
    → IsPermutation (names_pieces 0 es) (waits (end_word e) u ∷ names_pieces 0 fs) → IsPermutation bs (e ∷ cs)
    → IsSeparate arities (map end_word bs ++ others) (names_pieces 0 es ++ h)
    → IsSeparate arities (u ∷ (map end_word cs ++ others)) (names_pieces 0 fs ++ h)
shipped_hand arities e u es fs h bs cs others taken less s = record {
  each = λ w place.
      let before = s.each w place in
      let b = ends_named w cs bs e less in
      let ux = sum_of_parts (uses w) (names_pieces 0 es) (waits (end_word e) u ∷ []) (names_pieces 0 fs) taken in
      let rx = sum_of_parts (room w) (names_pieces 0 es) (waits (end_word e) u ∷ []) (names_pieces 0 fs) taken in
      omega (arith, count_append w (u ∷ []) (map end_word cs ++ others), sum_by-append {X = Word}, sum_by-append {X = Piece});
}

-- ---- an agent was packed

-- an agent is the first of all that is at places
first_agent : (n xs ys : List Piece) (p : Piece) → IsPermutation xs (p ∷ ys) → IsPermutation (n ++ xs) (p ∷ (n ++ ys))
first_agent n xs ys p taken =
    IsPermutation-trans (n ++ xs) (n ++ p ∷ ys) (p ∷ (n ++ ys)) (IsPermutation-append_right n xs (p ∷ ys) taken) (IsPermutation-middle n p ys)

count_reversed : (w : Word) (us : List Word) → count w (reverse us) ≡ count w us
count_reversed w us = sum_by-IsPermutation (λ (v : Word). cond {A = ℕ} (word_eq w v) 1 0) us (reverse us) (IsPermutation-reverse us)

pub agent_in_hand : (arities : List ℕ) (a : Word) (n xs ys : List Piece) (ws vs ss ts rest : List Word)
    → PacksAgent a arities xs ys ws vs ss ts → IsSeparate arities ((ss ++ a ∷ []) ++ rest) (n ++ xs)
    → IsSeparate arities (ts ++ rest) (n ++ ys)
agent_in_hand arities a n xs ys ws vs ss ts rest p s = by_tag (is_constant_tag arities a.tag) refl
  where
    by_tag : (b : Bool) → is_constant_tag arities a.tag ≡ b → IsSeparate arities (ts ++ rest) (n ++ ys)
    by_tag true e =
        let same = p.plain e in
        subst (λ (l : List Word). IsSeparate arities (l ++ rest) (n ++ ys)) (sym same.2)
        (subst (λ (l : List Piece). IsSeparate arities (ss ++ rest) (n ++ l)) (sym same.0)
        (reordered arities ((ss ++ a ∷ []) ++ rest) (ss ++ rest) (n ++ xs) (λ w.
        omega (arith, sum_by-append {X = Word})) s))
    by_tag false e =
        let all = p.opened e in
        let args : List Word = all.0 in
        subst (λ (l : List Word). IsSeparate arities (l ++ rest) (n ++ ys)) (sym all.4) (record {
          each = λ w place.
              let before = s.each w place in
              let turned = count_reversed w args in
              let ux = sum_of_parts (uses w) (n ++ xs) (agent_of a args ∷ []) (n ++ ys) (first_agent n xs ys (agent_of a args) all.2) in
              let rx = sum_of_parts (room w) (n ++ xs) (agent_of a args ∷ []) (n ++ ys) (first_agent n xs ys (agent_of a args) all.2) in
              omega (arith, sum_by-append {X = Word});
        })

pub agent_goes : (arities : List ℕ) (first : Side) (root : Word) (before : List Word) (a : Word) (n xs ys : List Piece) (bs : List CutEnd)
    (ws vs ss ts : List Word) → PacksAgent a arities xs ys ws vs ss ts
    → IsUnderWay arities first (record { places = n ++ xs; ends = bs }) root before ws (ss ++ a ∷ [])
    → IsUnderWay arities first (record { places = n ++ ys; ends = bs }) root before vs ts
agent_goes arities first root before a n xs ys bs ws vs ss ts p g = by_tag (is_constant_tag arities a.tag) refl
  where
    by_tag : (b : Bool) → is_constant_tag arities a.tag ≡ b
        → IsUnderWay arities first (record { places = n ++ ys; ends = bs }) root before vs ts
    by_tag true e =
        let old : Side = record { places = n ++ xs; ends = bs } in
        let same = p.plain e in
        record {
          more = g.more ++ a ∷ [];
          written = written_on before g.more ws vs a g.written same.1;
          spells = λ rest ls later.
              one_written arities first old rest root a a g.more ss ls g.spells (plain old rest a (reverse ss) ls e
              (subst (λ (l : List Word). Spells arities old rest (reverse l) ls) same.2
              (subst (λ (l : List Piece). Spells arities (record { places = n ++ l; ends = bs }) rest (reverse ts) ls) same.0 later)));
        }
    by_tag false e =
        let old : Side = record { places = n ++ xs; ends = bs } in
        let new : Side = record { places = n ++ ys; ends = bs } in
        let all = p.opened e in
        let args : List Word = all.0 in
        let stack = ap reverse all.4 ∙ (reverse-append ss (reverse args) ∙ ap (λ (l : List Word). l ++ reverse ss) (reverse-reverse args)) in
        record {
          more = g.more ++ spelled_agent a ∷ [];
          written = written_on before g.more ws vs (spelled_agent a) g.written all.3;
          spells = λ rest ls later.
              one_written arities first old rest root a (spelled_agent a) g.more ss ls g.spells
              (opened old new rest a args (reverse ss) ls all.1 (first_agent n xs ys (agent_of a args) all.2) (IsPermutation-refl bs)
              (subst (λ (l : List Word). Spells arities new rest l ls) stack later));
        }

pub agent_lighter : (arities : List ℕ) (a : Word) (n xs ys : List Piece) (ws vs ss ts : List Word) → PacksAgent a arities xs ys ws vs ss ts
    → sum_by weight (n ++ ys) + length ts < sum_by weight (n ++ xs) + length (ss ++ a ∷ [])
agent_lighter arities a n xs ys ws vs ss ts p = by_tag (is_constant_tag arities a.tag) refl
  where
    by_tag : (b : Bool) → is_constant_tag arities a.tag ≡ b
        → sum_by weight (n ++ ys) + length ts < sum_by weight (n ++ xs) + length (ss ++ a ∷ [])
    by_tag true e =
        let same = p.plain e in
        let places : sum_by weight (n ++ ys) ≡ sum_by weight (n ++ xs) = ap (λ (l : List Piece). sum_by weight (n ++ l)) same.0 in
        let long : length ts ≡ length ss = ap length same.2 in
        let d = length-append ss (a ∷ []) in
        omega arith
    by_tag false e =
        let all = p.opened e in
        let args : List Word = all.0 in
        let long : length ts ≡ length (ss ++ reverse args) = ap length all.4 in
        let c = length-append ss (reverse args) in
        let f = length-reverse args in
        let d = length-append ss (a ∷ []) in
        let moved = sum_of_parts weight (n ++ xs) (agent_of a args ∷ []) (n ++ ys) (first_agent n xs ys (agent_of a args) all.2) in
        omega arith

-- ---- the numbers of cuts

pub spells_push : (c k : ℕ) (ws : List Word) → spells_cut c (ws ++ name_word k ∷ []) ≡ spells_cut c ws + times c (k ∷ [])
spells_push c k ws =
    let one = by_case (k == c) in
    omega (arith, sum_by-append {X = Word})
  where
    by_case : (b : Bool) → ◌≡◌ {A = ℕ} (cond (true && b) 1 0) (cond b 1 0)
    by_case true = refl
    by_case false = refl

pub spells_other : (c : ℕ) (a : Word) (ws : List Word) → (a.tag ≡ NAME → ⊥) → spells_cut c (ws ++ a ∷ []) ≡ spells_cut c ws
spells_other c a ws other =
    let tag : (a.tag == NAME && a.index == c) ≡ false = rw (ne_eqb a.tag NAME other) (false-and (a.index == c)) in
    let none : spells_cut c (a ∷ []) ≡ 0 = rw tag refl in
    omega (arith, sum_by-append {X = Word})

-- the worth of what is left where an end of a cut is taken out
pub removed_worth : (c k name : ℕ) (old new : Ends) → IsPermutation old.ends (record { cut = k; name = name } ∷ new.ends)
    → new ≡ record old { ends = new.ends } → worth c new + times c (k ∷ []) ≡ worth c old
removed_worth c k name old new less numbers =
    let us : List ℕ = map (λ (e : CutEnd). e.cut) new.ends in
    let moved : times c (k ∷ us) ≡ times c (map (λ (e : CutEnd). e.cut) old.ends) =
    sum_by-IsPermutation (λ (m : ℕ). cond {A = ℕ} (m == c) 1 0) (map (λ (e : CutEnd). e.cut) old.ends) (k ∷ us)
    (IsPermutation-map (λ (e : CutEnd). e.cut) old.ends (record { cut = k; name = name } ∷ new.ends) less) in
    let both : times c (k ∷ us) ≡ times c (k ∷ []) + times c us =
    sum_by-append (λ (m : ℕ). cond {A = ℕ} (m == c) 1 0) (k ∷ []) us in
    let same : spares c new ≡ spares c old = ap (spares c) numbers in
    omega arith

pub worth_on : (a b c : Ends) (us vs ws : List Word) → KeepWorth a b us vs → KeepWorth b c vs ws → KeepWorth a c us ws
worth_on a b c us vs ws p q = λ k. q k ∙ p k

-- the numbers stay few enough
pub few_kept : (a b : Ends) (us vs : List Word) → KeepWorth a b us vs → ((c : ℕ) → worth c a + spells_cut c us ≤ 2)
    → (c : ℕ) → worth c b + spells_cut c vs ≤ 2
few_kept a b us vs keep few = λ c. subst (λ (n : ℕ). n ≤ 2) (sym (keep c)) (few c)

-- an end of a cut was taken out, and its number written
pub shipped_worth : (k name : ℕ) (old new : Ends) (ws vs : List Word) → IsPermutation old.ends (record { cut = k; name = name } ∷ new.ends)
    → new ≡ record old { ends = new.ends } → vs ≡ ws ++ name_word k ∷ [] → KeepWorth old new ws vs
shipped_worth k name old new ws vs less numbers written = λ c.
    let a = removed_worth c k name old new less numbers in
    let b = ap (spells_cut c) written in
    let d = spells_push c k ws in
    omega arith

-- an agent spells no cut
pub agent_worth : (arities : List ℕ) (a : Word) (xs ys : List Piece) (b : Ends) (ws vs ss ts : List Word) → (a.tag ≡ NAME → ⊥)
    → PacksAgent a arities xs ys ws vs ss ts → KeepWorth b b ws vs
agent_worth arities a xs ys b ws vs ss ts other p = λ c. ap (λ (n : ℕ). worth c b + n) (by_tag c (is_constant_tag arities a.tag) refl)
  where
    by_tag : (c : ℕ) (t : Bool) → is_constant_tag arities a.tag ≡ t → spells_cut c vs ≡ spells_cut c ws
    by_tag c true e = ap (spells_cut c) (p.plain e).1 ∙ spells_other c a ws other
    by_tag c false e = ap (spells_cut c) (p.opened e).3 ∙ spells_other c (spelled_agent a) ws other

-- ---- a whole tree

pub way_ended : (arities : List ℕ) (first now : Side) (root : Word) (before words stack : List Word) → stack ≡ []
    → IsUnderWay arities first now root before words stack → PacksTree arities root first now before words
way_ended arities first now root before words stack none g = record {
  more = g.more;
  spelled = g.written;
  spells = subst (λ (l : List Word). Spells arities first now (root ∷ []) l) (append-nil g.more)
      (g.spells now [] (subst (λ (l : List Word). Spells arities now now (reverse l) []) (sym none) (spells_none arities now)));
}

-- ---- a name for which nothing waits is freed

-- how often this word waits for this name
abbrev pub waits_for : ℕ → Word → Piece → ℕ
waits_for i u (equated l r) = 0
waits_for i u (idle x) = 0
waits_for i u (waits x v) = cond (x.index == i) (cond (word_eq v u) 1 0) 0
waits_for i u (agent_of a ws) = 0

names_none : (f : Piece → ℕ) (ws : List Word) (b : ℕ) → ((k : ℕ) (w : Word) → b ≤ k → sum_by f (entry_piece k w) ≡ 0)
    → sum_by f (names_pieces b ws) ≡ 0
names_none f [] b h = refl
names_none f (w ∷ ws) b h =
    let here : sum_by f (entry_piece b w) ≡ 0 = h b w (omega arith) in
    let rest : sum_by f (names_pieces (b + 1) ws) ≡ 0 = names_none f ws (b + 1) (λ k v le. h k v (omega arith)) in
    sum_by-append f (entry_piece b w) (names_pieces (b + 1) ws) ∙ omega arith

-- a sum that only the entry of one name adds to
pub names_sum : (f : Piece → ℕ) (ws : List Word) (b i j : ℕ) → j ≡ b + i → ((k : ℕ) (w : Word) → (k ≡ j → ⊥) → sum_by f (entry_piece k w) ≡ 0)
    → sum_by f (names_pieces b ws) ≡ sum_by f (entry_piece j (entry ws i))
names_sum f [] b i j e h = refl
names_sum f (w ∷ ws) b zero j e h =
    let same : j ≡ b = omega arith in
    let rest : sum_by f (names_pieces (b + 1) ws) ≡ 0 = names_none f ws (b + 1) (λ k v le. h k v (λ q. omega arith)) in
    sum_by-append f (entry_piece b w) (names_pieces (b + 1) ws) ∙ (rw (rest, same) (omega arith))
names_sum f (w ∷ ws) b (suc i) j e h =
    let here : sum_by f (entry_piece b w) ≡ 0 = h b w (λ q. omega arith) in
    let next : j ≡ (b + 1) + i = omega arith in
    let rest : sum_by f (names_pieces (b + 1) ws) ≡ sum_by f (entry_piece j (entry ws i)) = names_sum f ws (b + 1) i j next h in
    sum_by-append f (entry_piece b w) (names_pieces (b + 1) ws) ∙ omega arith

-- another name's entry, or another word
pub entry_apart : (i k : ℕ) (u w : Word) → (k == i) ≡ false → sum_by (waits_for i u) (entry_piece k w) ≡ 0
entry_apart i k u w h = elim (w.tag == FREE) as (λ t. sum_by (waits_for i u)
    (cond t [] (cond (w.tag == IDLE) (idle (name_word k) ∷ []) (waits (name_word k) w ∷ []))) ≡ 0) [
      | true ↦ refl
      | false ↦ elim (w.tag == IDLE) as (λ t. sum_by (waits_for i u)
          (cond t (idle (name_word k) ∷ []) (waits (name_word k) w ∷ [])) ≡ 0) [
            | true ↦ refl
            | false ↦ rw h refl
          ]
    ]

entry_other : (i : ℕ) (u w : Word) → word_eq w u ≡ false → sum_by (waits_for i u) (entry_piece i w) ≡ 0
entry_other i u w h = elim (w.tag == FREE) as (λ t. sum_by (waits_for i u)
    (cond t [] (cond (w.tag == IDLE) (idle (name_word i) ∷ []) (waits (name_word i) w ∷ []))) ≡ 0) [
      | true ↦ refl
      | false ↦ elim (w.tag == IDLE) as (λ t. sum_by (waits_for i u)
          (cond t (idle (name_word i) ∷ []) (waits (name_word i) w ∷ [])) ≡ 0) [
            | true ↦ refl
            | false ↦ rw (eq-eqb i i refl, h) refl
          ]
    ]

pub entry_is : (i : ℕ) (u w : Word) → 1 ≤ sum_by (waits_for i u) (entry_piece i w) → w ≡ u
entry_is i u w some = elim (eqb_tells w.tag u.tag) [
  | inl t ↦ elim (eqb_tells w.index u.index) [
    | inl s ↦ (let tag = t.1 in let index = s.1 in λ j. record { tag = tag j; index = index j })
    | inr s ↦ (let none = entry_other i u w (other_index w u s.1) in absurd (omega arith))
  ]
  | inr t ↦ (let none = entry_other i u w (other_tag w u t.1) in absurd (omega arith))
]

-- what waits for a name is its entry
pub put_entry : (ws vs : List Word) (i : ℕ) (u : Word)
    → Replaced (idle (name_word i) ∷ []) (waits (name_word i) u ∷ []) (names_pieces 0 ws) (names_pieces 0 vs) → entry vs i ≡ u
put_entry ws vs i u r =
    let f : Piece → ℕ = waits_for i u in
    let sums = replaced_sum f (idle (name_word i) ∷ []) (waits (name_word i) u ∷ []) (names_pieces 0 ws) (names_pieces 0 vs) r in
    let own : sum_by f (waits (name_word i) u ∷ []) ≡ 1 = rw (eq-eqb i i refl, word_eq_refl u) refl in
    let none : sum_by f (idle (name_word i) ∷ []) ≡ 0 = refl in
    let its : sum_by f (names_pieces 0 vs) ≡ sum_by f (entry_piece i (entry vs i)) =
    names_sum f vs 0 i i (sym (zero-add i)) (λ k w apart. entry_apart i k u w (ne_eqb k i apart)) in
    entry_is i u (entry vs i) (omega arith)

-- what two lists have beside one element
pub list_heads : {X : Type 0} (x y : X) (b c : List X) → x ∷ b ≡ y ∷ c → x ≡ y
list_heads x y b c e = cc

pub list_tails : {X : Type 0} (x y : X) (b c : List X) → x ∷ b ≡ y ∷ c → b ≡ c
list_tails x y b c e = cc

one_front : {X : Type 0} (x y : X) (b g c : List X) → x ∷ b ≡ y ∷ (g ++ x ∷ c) → IsPermutation b (y ∷ (g ++ c))
one_front x y b g c e =
    subst (λ l. IsPermutation l (y ∷ (g ++ c))) (sym (list_tails x y b (g ++ x ∷ c) e))
    (subst (λ v. IsPermutation (g ++ x ∷ c) (v ∷ (g ++ c))) (list_heads x y b (g ++ x ∷ c) e) (IsPermutation-middle g x c))

pub one_out : {X : Type 0} (x : X) (f b g c : List X) → f ++ x ∷ b ≡ g ++ x ∷ c → IsPermutation (f ++ b) (g ++ c)
one_out x [] b [] c e = subst (λ l. IsPermutation b l) (list_tails x x b c e) (IsPermutation-refl b)
one_out x [] b (y ∷ g) c e = one_front x y b g c e
one_out x (y ∷ f) b [] c e = IsPermutation-sym c (y ∷ (f ++ b)) (one_front x y c f b (sym e))
one_out x (y ∷ f) b (z ∷ g) c e =
    subst (λ v. IsPermutation (y ∷ (f ++ b)) (v ∷ (g ++ c))) (list_heads y z (f ++ x ∷ b) (g ++ x ∷ c) e)
    (IsPermutation-cons y (f ++ b) (g ++ c) (one_out x f b g c (list_tails y z (f ++ x ∷ b) (g ++ x ∷ c) e)))

-- what is put at a place and freed then is gone with what was there before
pub freed_then : (x g : Piece) (old mid new : List Piece) → Replaced (x ∷ []) (g ∷ []) old mid → Replaced (g ∷ []) [] mid new
    → IsPermutation old (x ∷ new)
freed_then x g old mid new p q =
    let same = one_out g p.front p.back q.front q.back (sym p.after ∙ q.before) in
    subst (λ (l : List Piece). IsPermutation old (x ∷ l)) (sym q.after)
    (IsPermutation-trans old (x ∷ (p.front ++ p.back)) (x ∷ (q.front ++ q.back)) (replaced_before (x ∷ []) (g ∷ []) old mid p)
    (IsPermutation-cons x (p.front ++ p.back) (q.front ++ q.back) same))
