-- Lemmas: what unpacking words keeps, and what the words spell.
use Rattle.std.proofs.Common.{◌≡◌, ℕ, zero, suc, ◌+◌, ◌-◌, ◌≤◌, ◌==◌, ◌&&◌, Bool, true, false, cond, Result, Ok, Err, List, [], ◌∷◌, ◌++◌, length, map, drop, reverse, refl, ap, sym, subst, ◌∙◌, arith}
use Rattle.std.specs.Prelude.{OnErr, OnOk}
use Rattle.std.specs.Cmp.{unsigned_Decides}
use Rattle.std.specs.List.{range_with_len}
use Rattle.std.specs.List.Sorted.{IsPermutation}
use Rattle.std.proofs.Math.Seq.{drop-cons}
use Rattle.std.proofs.lemmas.List.{map-append, reverse-append, reverse-reverse}
use Rattle.std.proofs.lemmas.List.FromFn.{map-range_with_len_more}
use Rattle.std.proofs.lemmas.List.Sorted.{IsPermutation-refl, IsPermutation-sym, IsPermutation-trans, IsPermutation-cons, IsPermutation-append_left, IsPermutation-append_right, IsPermutation-middle, IsPermutation-map, IsPermutation-reverse, sum_by-IsPermutation}
use Rattle.std.proofs.lemmas.List.Sums.{sum_by-append, sum_by-cons}
use Rattle.ic_arena.specs.declared.word.Word.{Word}
use Rattle.ic_arena.specs.declared.word.TheConstants.{NAME}
use Rattle.ic_arena.specs.Word.{count, name_word, word_eq}
use Rattle.ic_arena.specs.Piece.{Piece, agent_of, idle, room, uses}
use Rattle.ic_arena.specs.Tables.{Replaced, names_pieces, register}
use Rattle.ic_machine.specs.Held.{IsTagOf}
use Rattle.ic_machine.specs.Moving.{CutEnd, Side, Spells, cut, gone, opened, plain, end_word, spelled_agent, spells_cut, times}
use Rattle.ic_machine.specs.Separate.{is_constant_tag, IsSeparate}
use Rattle.ic_machine.specs.inner.Unpacking.{AreKept, IsNext, MakesAgent, UnpacksName, met, begun}
use Rattle.ic_machine.specs.lemmas.Orders.{replaced_before, replaced_after, replaced_sum}
use Rattle.ic_machine.specs.lemmas.Separation.{twice}

-- ---- words and pieces that are kept

pub kept_same : (arities : List ℕ) (ws : List Word) (xs : List Piece) → AreKept arities ws ws xs xs
kept_same arities ws xs = record { each = λ w c. omega arith }

pub kept_then : (arities : List ℕ) (ws vs us : List Word) (xs ys zs : List Piece) → AreKept arities ws vs xs ys
    → AreKept arities vs us ys zs → AreKept arities ws us xs zs
kept_then arities ws vs us xs ys zs f g = record {
  each = λ w c. let a = f.each w c in let b = g.each w c in omega arith;
}

-- others beside the pieces
pub kept_before : (arities : List ℕ) (ws vs : List Word) (xs ys h : List Piece) → AreKept arities ws vs xs ys
    → AreKept arities ws vs (xs ++ h) (ys ++ h)
kept_before arities ws vs xs ys h f = record {
  each = λ w c.
      let a = f.each w c in
      omega (arith, sum_by-append {X = Piece});
}

pub kept_after : (arities : List ℕ) (ws vs : List Word) (n xs ys : List Piece) → AreKept arities ws vs xs ys
    → AreKept arities ws vs (n ++ xs) (n ++ ys)
kept_after arities ws vs n xs ys f = record {
  each = λ w c.
      let a = f.each w c in
      omega (arith, sum_by-append {X = Piece});
}

-- others beside the words
pub kept_on : (arities : List ℕ) (s ws vs : List Word) (xs ys : List Piece) → AreKept arities ws vs xs ys
    → AreKept arities (s ++ ws) (s ++ vs) xs ys
kept_on arities s ws vs xs ys f = record {
  each = λ w c.
      let a = f.each w c in
      omega (arith, sum_by-append {X = Word});
}

pub kept_below : (arities : List ℕ) (ws vs e : List Word) (xs ys : List Piece) → AreKept arities ws vs xs ys
    → AreKept arities (ws ++ e) (vs ++ e) xs ys
kept_below arities ws vs e xs ys f = record {
  each = λ w c.
      let a = f.each w c in
      omega (arith, sum_by-append {X = Word});
}

-- what is separate stays so, beside an interface and equations
pub separate_kept : (arities : List ℕ) (i ws vs : List Word) (es xs ys : List Piece) → IsSeparate arities (i ++ ws) (es ++ xs)
    → AreKept arities ws vs xs ys → IsSeparate arities (i ++ vs) (es ++ ys)
separate_kept arities i ws vs es xs ys s f = record {
  each = λ w c.
      let before = s.each w c in
      let a = f.each w c in
      omega (arith, sum_by-append {X = Word}, sum_by-append {X = Piece});
}

-- fewer words
pub separate_less : (arities : List ℕ) (i ws : List Word) (xs : List Piece) → IsSeparate arities (i ++ ws) xs → IsSeparate arities i xs
separate_less arities i ws xs s = record {
  each = λ w c.
      let before = s.each w c in
      omega (arith, sum_by-append {X = Word});
}

-- ---- names

-- one end more, and how often a word is one
ends_count : (w : Word) (bs cs : List CutEnd) (e : CutEnd) → IsPermutation bs (e ∷ cs)
    → count w (map end_word bs) ≡ cond (word_eq w (end_word e)) 1 0 + count w (map end_word cs)
ends_count w bs cs e perm =
    sym (sum_by-IsPermutation (λ (v : Word). cond (word_eq w v) 1 0) (map end_word bs) (map end_word (e ∷ cs)) (IsPermutation-map end_word bs (e ∷ cs) perm))
    ∙ sum_by-cons (λ (v : Word). cond (word_eq w v) 1 0) (end_word e) (map end_word cs)

pub one_more_word : (w v : Word) (ws : List Word) → count w (ws ++ v ∷ []) ≡ count w ws + cond (word_eq w v) 1 0
one_more_word w v ws =
    let b = sum_by-cons (λ (x : Word). cond (word_eq w x) 1 0) v [] in
    omega (arith, sum_by-append {X = Word})

pub made_first : (p : Piece) (xs ys : List Piece) → Replaced [] (p ∷ []) xs ys → IsPermutation ys (p ∷ xs)
made_first p xs ys r =
    IsPermutation-trans ys (p ∷ (r.front ++ r.back)) (p ∷ xs) (replaced_after [] (p ∷ []) xs ys r)
    (IsPermutation-cons p (r.front ++ r.back) xs (IsPermutation-sym xs (r.front ++ r.back) (replaced_before [] (p ∷ []) xs ys r)))

pub name_kept : (arities : List ℕ) (e : CutEnd) (es fs : List Word) (bs cs : List CutEnd) (ws : List Word) → UnpacksName e es fs bs cs
    → AreKept arities (ws ++ map end_word bs) ((ws ++ end_word e ∷ []) ++ map end_word cs) (names_pieces 0 es) (names_pieces 0 fs)
name_kept arities e es fs bs cs ws (met xs ds ks perm) = record {
  each = λ w c.
      let n = ends_count w bs cs e perm in
      let d = one_more_word w (end_word e) ws in
      omega (arith, sum_by-append {X = Word});
}
name_kept arities e es fs bs cs ws (begun xs ys ds ks perm r) = record {
  each = λ w c.
      let n = ends_count w cs bs e perm in
      let d = one_more_word w (end_word e) ws in
      let us = replaced_sum (uses w) [] (idle (end_word e) ∷ []) (names_pieces 0 es) (names_pieces 0 fs) r in
      let rs = replaced_sum (room w) [] (idle (end_word e) ∷ []) (names_pieces 0 es) (names_pieces 0 fs) r in
      let two = twice (word_eq w (end_word e)) in
      omega (arith, sum_by-append {X = Word});
}

-- the same where the word was not put onto the stack
pub name_dropped : (arities : List ℕ) (e : CutEnd) (es fs : List Word) (bs cs : List CutEnd) → UnpacksName e es fs bs cs
    → AreKept arities (map end_word bs) (map end_word cs) (names_pieces 0 es) (names_pieces 0 fs)
name_dropped arities e es fs bs cs u = record {
  each = λ w c.
      let a = (name_kept arities e es fs bs cs [] u).each w c in
      omega (arith, sum_by-append {X = Word});
}

-- an end is gone, and no name else
pub end_dropped : (arities : List ℕ) (bs cs : List CutEnd) (e : CutEnd) (xs : List Piece) → IsPermutation bs (e ∷ cs)
    → AreKept arities (map end_word bs) (map end_word cs) xs xs
end_dropped arities bs cs e xs perm = record {
  each = λ w c. let n = ends_count w bs cs e perm in omega arith;
}

pub name_spelled : (arities : List ℕ) (e : CutEnd) (es fs : List Word) (bs cs : List CutEnd) (h : List Piece) (rest : Side) (ws ts : List Word)
    → UnpacksName e es fs bs cs
    → Spells arities (record { places = names_pieces 0 es ++ h; ends = bs }) rest ws ts
    → Spells arities (record { places = names_pieces 0 fs ++ h; ends = cs }) rest (end_word e ∷ ws) (name_word e.cut ∷ ts)
name_spelled arities e es fs bs cs h rest ws ts (met xs ds ks perm) s =
    cut (record { places = names_pieces 0 fs ++ h; ends = cs }) (record { places = names_pieces 0 es ++ h; ends = bs }) rest e ws ts
    (IsPermutation-refl (names_pieces 0 fs ++ h)) (IsPermutation-sym bs (e ∷ cs) perm) s
name_spelled arities e es fs bs cs h rest ws ts (begun xs ys ds ks perm r) s =
    gone (record { places = names_pieces 0 fs ++ h; ends = cs }) (record { places = names_pieces 0 es ++ h; ends = bs }) rest e ws ts
    (IsPermutation-append_left h (names_pieces 0 fs) (idle (end_word e) ∷ names_pieces 0 es)
    (made_first (idle (end_word e)) (names_pieces 0 es) (names_pieces 0 fs) r)) perm s

-- how often a name is an end
pub ends_times : (i : ℕ) (bs : List CutEnd) → count (name_word i) (map end_word bs) ≡ times i (map (λ (e : CutEnd). e.name) bs)
ends_times i [] = refl
ends_times i (b ∷ bs) =
    let a = sum_by-cons (λ (v : Word). cond (word_eq (name_word i) v) 1 0) (end_word b) (map end_word bs) in
    let c = sum_by-cons (λ (m : ℕ). cond (m == i) 1 0) b.name (map (λ (e : CutEnd). e.name) bs) in
    let rest = ends_times i bs in
    let turned : ◌≡◌ {A = ℕ} (cond (i == b.name) 1 0) (cond (b.name == i) 1 0) = ap (λ (t : Bool). cond t 1 0) (turn i b.name) in
    a ∙ omega (arith, c, rest, turned)
  where
    turn : (m n : ℕ) → (m == n) ≡ (n == m)
    turn m n = by (m == n) (n == m) refl refl
      where
        by : (s t : Bool) → (m == n) ≡ s → (n == m) ≡ t → s ≡ t
        by true true e f = refl
        by false false e f = refl
        by true false e f = let z = sym ((unsigned_Decides n m).1 (sym ((unsigned_Decides m n).0 e))) ∙ f in absurd cc
        by false true e f = let z = sym ((unsigned_Decides m n).1 (sym ((unsigned_Decides n m).0 f))) ∙ e in absurd cc

-- ---- agents

-- a word that names a place isn't one that names none
pub apart_from_plain : (arities : List ℕ) (w a : Word) → is_constant_tag arities w.tag ≡ false → is_constant_tag arities a.tag ≡ true
    → word_eq w a ≡ false
apart_from_plain arities w a named bare = by (w.tag == a.tag) refl
  where
    by : (t : Bool) → (w.tag == a.tag) ≡ t → (t && w.index == a.index) ≡ false
    by false e = refl
    by true e =
        let same : w.tag ≡ a.tag = (unsigned_Decides w.tag a.tag).0 e in
        let z = sym named ∙ (ap (is_constant_tag arities) same ∙ bare) in absurd cc

pub plain_kept : (arities : List ℕ) (ws : List Word) (a : Word) (xs : List Piece) → is_constant_tag arities a.tag ≡ true
    → AreKept arities ws (ws ++ a ∷ []) xs xs
plain_kept arities ws a xs bare = record {
  each = λ w c.
      let d = one_more_word w a ws in
      let none : ◌≡◌ {A = ℕ} (cond (word_eq w a) 1 0) 0 = ap (λ (t : Bool). cond t 1 0) (apart_from_plain arities w a c bare) in
      omega arith;
}

pub agent_kept : (arities : List ℕ) (tag : ℕ) (xs ys : List Piece) (ws vs : List Word) → MakesAgent arities tag xs ys ws vs
    → AreKept arities ws vs xs ys
agent_kept arities tag xs ys ws vs m = record {
  each = λ w c.
      let a : count w ws ≡ count w (m.rest ++ reverse m.arguments) = ap (count w) m.before in
      let turned = sum_by-IsPermutation (λ (v : Word). cond (word_eq w v) 1 0) m.arguments (reverse m.arguments) (IsPermutation-reverse m.arguments) in
      let d : count w vs ≡ count w (m.rest ++ m.place ∷ []) = ap (count w) m.after in
      let e = one_more_word w m.place m.rest in
      let us = sum_by-IsPermutation (uses w) ys (agent_of m.place m.arguments ∷ xs) m.made in
      let rs = sum_by-IsPermutation (room w) ys (agent_of m.place m.arguments ∷ xs) m.made in
      let u = sum_by-cons (uses w) (agent_of m.place m.arguments) xs in
      let r = sum_by-cons (room w) (agent_of m.place m.arguments) xs in
      omega (arith, sum_by-append {X = Word});
}

pub agent_spelled : (arities : List ℕ) (t : Word) (n xs ys : List Piece) (ends : List CutEnd) (rest : Side) (ws vs ts : List Word)
    → MakesAgent arities t.tag xs ys ws vs → t.index ≡ 0
    → Spells arities (record { places = n ++ xs; ends = ends }) rest (reverse ws) ts
    → Spells arities (record { places = n ++ ys; ends = ends }) rest (reverse vs) (t ∷ ts)
agent_spelled arities t n xs ys ends rest ws vs ts m none s =
    let roots = ap (λ (l : List Word). reverse l) m.before ∙ (reverse-append m.rest (reverse m.arguments)
    ∙ ap (λ (l : List Word). l ++ reverse m.rest) (reverse-reverse m.arguments)) in
    let after = ap (λ (l : List Word). reverse l) m.after ∙ reverse-append m.rest (m.place ∷ []) in
    let spelled : spelled_agent m.place ≡ t = (λ i. record { tag = m.is i; index = sym none i }) in
    let known = subst (λ (k : ℕ). IsTagOf arities k (length m.arguments)) (sym m.is) m.known in
    let front = IsPermutation-trans (n ++ ys) (n ++ (agent_of m.place m.arguments ∷ xs)) (agent_of m.place m.arguments ∷ (n ++ xs))
    (IsPermutation-append_right n ys (agent_of m.place m.arguments ∷ xs) m.made)
    (IsPermutation-middle n (agent_of m.place m.arguments) xs) in
    let before : Spells arities (record { places = n ++ xs; ends = ends }) rest (m.arguments ++ reverse m.rest) ts =
    subst (λ (l : List Word). Spells arities (record { places = n ++ xs; ends = ends }) rest l ts) roots s in
    let all : Spells arities (record { places = n ++ ys; ends = ends }) rest (m.place ∷ reverse m.rest) (spelled_agent m.place ∷ ts) =
    opened (record { places = n ++ ys; ends = ends }) (record { places = n ++ xs; ends = ends }) rest m.place m.arguments (reverse m.rest) ts
    known front (IsPermutation-refl ends) before in
    subst (λ (l : List Word). Spells arities (record { places = n ++ ys; ends = ends }) rest l (t ∷ ts)) (sym after)
    (subst (λ (x : Word). Spells arities (record { places = n ++ ys; ends = ends }) rest (m.place ∷ reverse m.rest) (x ∷ ts)) spelled all)

pub plain_spelled : (arities : List ℕ) (t : Word) (full rest : Side) (ws vs ts : List Word) → is_constant_tag arities t.tag ≡ true
    → vs ≡ ws ++ t ∷ [] → Spells arities full rest (reverse ws) ts → Spells arities full rest (reverse vs) (t ∷ ts)
plain_spelled arities t full rest ws vs ts bare is s =
    let after : reverse vs ≡ t ∷ reverse ws = ap (λ (l : List Word). reverse l) is ∙ reverse-append ws (t ∷ []) in
    subst (λ (l : List Word). Spells arities full rest l (t ∷ ts)) (sym after) (plain full rest t (reverse ws) ts bare s)

-- The words on top of a stack, the top first.
pub top_words : (ws : List Word) (n : ℕ) → n ≤ length ws
    → map (register ws) (map (λ (k : ℕ). length ws - (k + 1)) (range_with_len 0 n)) ≡ reverse (drop (length ws - n) ws)
top_words ws zero h = sym (ap (λ (l : List Word). reverse l) (drop_whole ws))
  where
    drop_whole : (vs : List Word) → drop (length vs - 0) vs ≡ []
    drop_whole vs = all_gone vs (length vs - 0) (omega arith)
      where
        all_gone : (us : List Word) (k : ℕ) → length us ≤ k → drop k us ≡ []
        all_gone [] zero h = refl
        all_gone [] (suc k) h = refl
        all_gone (u ∷ us) zero h = absurd (omega arith)
        all_gone (u ∷ us) (suc k) h = all_gone us k (omega arith)
top_words ws (suc n) h =
    let m : ℕ = length ws - (n + 1) in
    let g : ℕ → ℕ = λ k. length ws - (k + 1) in
    let more : map g (range_with_len 0 (n + 1)) ≡ map g (range_with_len 0 n) ++ g n ∷ [] = map-range_with_len_more g 0 n n (omega arith) in
    let one : suc n ≡ n + 1 = omega arith in
    let list = ap (λ (k : ℕ). map g (range_with_len 0 k)) one ∙ more in
    let rest : map (register ws) (map g (range_with_len 0 n)) ≡ reverse (drop (length ws - n) ws) = top_words ws n (omega arith) in
    let next : suc m ≡ length ws - n = omega arith in
    let split : drop m ws ≡ register ws m ∷ drop (length ws - n) ws =
    drop-cons ws m (name_word 0) (omega arith) ∙ ap (λ (k : ℕ). register ws m ∷ drop k ws) next in
    ap (map (register ws)) list ∙ (map-append (register ws) (map g (range_with_len 0 n)) (g n ∷ [])
    ∙ (ap (λ (l : List Word). l ++ register ws m ∷ []) rest
    ∙ (sym (ap (λ (l : List Word). reverse l) split ∙ reverse-append (register ws m ∷ []) (drop (length ws - n) ws))
    ∙ ap (λ (k : ℕ). reverse (drop (length ws - k) ws)) (sym one))))

-- a cut that is spelled
pub spells_one : (c : ℕ) (t : Word) (ts : List Word) → spells_cut c (t ∷ ts) ≡ spells_cut c (t ∷ []) + spells_cut c ts
spells_one c t ts =
    let a = sum_by-cons (λ (w : Word). cond (w.tag == NAME && w.index == c) 1 0) t ts in
    let b = sum_by-cons (λ (w : Word). cond (w.tag == NAME && w.index == c) 1 0) t [] in
    omega arith

-- ---- a word at a time

-- a name is put onto the stack
pub name_put : (arities : List ℕ) (e : CutEnd) (es fs : List Word) (bs cs : List CutEnd) (h : List Piece) (ws vs : List Word) (t : Word)
    → t ≡ name_word e.cut → vs ≡ ws ++ end_word e ∷ [] → UnpacksName e es fs bs cs → (rest : Side) (ts : List Word)
    → Spells arities (record { places = names_pieces 0 es ++ h; ends = bs }) rest (reverse ws) ts
    → Spells arities (record { places = names_pieces 0 fs ++ h; ends = cs }) rest (reverse vs) (t ∷ ts)
name_put arities e es fs bs cs h ws vs t is pushed u rest ts s =
    let to : Side = record { places = names_pieces 0 fs ++ h; ends = cs } in
    let after : reverse vs ≡ end_word e ∷ reverse ws = ap (λ (l : List Word). reverse l) pushed ∙ reverse-append ws (end_word e ∷ []) in
    subst (λ (l : List Word). Spells arities to rest l (t ∷ ts)) (sym after)
    (subst (λ (x : Word). Spells arities to rest (end_word e ∷ reverse ws) (x ∷ ts)) (sym is)
    (name_spelled arities e es fs bs cs h rest (reverse ws) ts u s))

pub name_put_kept : (arities : List ℕ) (e : CutEnd) (es fs : List Word) (bs cs : List CutEnd) (h : List Piece) (ws vs : List Word)
    → vs ≡ ws ++ end_word e ∷ [] → UnpacksName e es fs bs cs
    → AreKept arities (ws ++ map end_word bs) (vs ++ map end_word cs) (names_pieces 0 es ++ h) (names_pieces 0 fs ++ h)
name_put_kept arities e es fs bs cs h ws vs pushed u =
    subst (λ (l : List Word). AreKept arities (ws ++ map end_word bs) (l ++ map end_word cs) (names_pieces 0 es ++ h) (names_pieces 0 fs ++ h)) (sym pushed)
    (kept_before arities (ws ++ map end_word bs) ((ws ++ end_word e ∷ []) ++ map end_word cs) (names_pieces 0 es) (names_pieces 0 fs) h
    (name_kept arities e es fs bs cs ws u))

-- it isn't, as a growth was refused
pub name_lost : (arities : List ℕ) (es fs : List Word) (bs cs : List CutEnd) (h : List Piece) (ws vs : List Word) → vs ≡ ws
    → AreKept arities (map end_word bs) (map end_word cs) (names_pieces 0 es) (names_pieces 0 fs)
    → AreKept arities (ws ++ map end_word bs) (vs ++ map end_word cs) (names_pieces 0 es ++ h) (names_pieces 0 fs ++ h)
name_lost arities es fs bs cs h ws vs same f =
    subst (λ (l : List Word). AreKept arities (ws ++ map end_word bs) (l ++ map end_word cs) (names_pieces 0 es ++ h) (names_pieces 0 fs ++ h)) (sym same)
    (kept_before arities (ws ++ map end_word bs) (ws ++ map end_word cs) (names_pieces 0 es) (names_pieces 0 fs) h
    (kept_on arities ws (map end_word bs) (map end_word cs) (names_pieces 0 es) (names_pieces 0 fs) f))

-- an agent is put onto the stack, or it isn't
pub agent_put_kept : (arities : List ℕ) (n xs ys : List Piece) (e ws vs : List Word) → AreKept arities ws vs xs ys
    → AreKept arities (ws ++ e) (vs ++ e) (n ++ xs) (n ++ ys)
agent_put_kept arities n xs ys e ws vs f =
    kept_after arities (ws ++ e) (vs ++ e) n xs ys (kept_below arities ws vs e xs ys f)

pub agent_put : {T E : Type 0} (r : Result T E) (arities : List ℕ) (t : Word) (trees : ℕ) (n xs ys : List Piece) (ends : List CutEnd)
    (ws vs : List Word) → ¬ (t.tag ≡ NAME) → IsNext arities trees t
    → OnOk r (is_constant_tag arities t.tag ≡ true → (ys ≡ xs) × (vs ≡ ws ++ t ∷ []))
    → OnOk r (is_constant_tag arities t.tag ≡ false → MakesAgent arities t.tag xs ys ws vs)
    → OnOk r ((rest : Side) (ts : List Word) → Spells arities (record { places = n ++ xs; ends = ends }) rest (reverse ws) ts
    → Spells arities (record { places = n ++ ys; ends = ends }) rest (reverse vs) (t ∷ ts))
agent_put (Err x) arities t trees n xs ys ends ws vs other next unchanged made = tt
agent_put (Ok x) arities t trees n xs ys ends ws vs other next unchanged made = λ rest ts s. by (is_constant_tag arities t.tag) refl rest ts s
  where
    by : (b : Bool) → is_constant_tag arities t.tag ≡ b → (rest : Side) (ts : List Word)
        → Spells arities (record { places = n ++ xs; ends = ends }) rest (reverse ws) ts
        → Spells arities (record { places = n ++ ys; ends = ends }) rest (reverse vs) (t ∷ ts)
    by true e rest ts s =
        let p = unchanged e in
        subst (λ (l : List Piece). Spells arities (record { places = n ++ l; ends = ends }) rest (reverse vs) (t ∷ ts)) (sym p.0)
        (plain_spelled arities t (record { places = n ++ xs; ends = ends }) rest ws vs ts e p.1 s)
    by false e rest ts s = agent_spelled arities t n xs ys ends rest ws vs ts (made e) (next.agent other e).3 s

pub on_err : {T E P : Type 0} (r : Result T E) → P → OnErr r P
on_err (Ok x) p = tt
on_err (Err e) p = p

-- what is kept, whether an agent has arguments or not
pub agent_put_either : (arities : List ℕ) (t : Word) (xs ys : List Piece) (ws vs : List Word)
    → (is_constant_tag arities t.tag ≡ true → (ys ≡ xs) × (vs ≡ ws ++ t ∷ []))
    → (is_constant_tag arities t.tag ≡ false → MakesAgent arities t.tag xs ys ws vs) → AreKept arities ws vs xs ys
agent_put_either arities t xs ys ws vs unchanged made = by (is_constant_tag arities t.tag) refl
  where
    by : (b : Bool) → is_constant_tag arities t.tag ≡ b → AreKept arities ws vs xs ys
    by true e =
        let p = unchanged e in
        subst (λ (l : List Word). AreKept arities ws l xs ys) (sym p.1)
        (subst (λ (l : List Piece). AreKept arities ws (ws ++ t ∷ []) xs l) (sym p.0) (plain_kept arities ws t xs e))
    by false e = agent_kept arities t.tag xs ys ws vs (made e)

-- a name is opened that nothing names
pub name_idle : (arities : List ℕ) (ws : List Word) (x : Word) (xs ys : List Piece) → Replaced [] (idle x ∷ []) xs ys → AreKept arities ws ws xs ys
name_idle arities ws x xs ys r = record {
  each = λ w c.
      let us = replaced_sum (uses w) [] (idle x ∷ []) xs ys r in
      let rs = replaced_sum (room w) [] (idle x ∷ []) xs ys r in
      omega arith;
}

-- an agent spells no cut
pub spells_no_cut : (c : ℕ) (t : Word) → (t.tag == NAME) ≡ false → spells_cut c (t ∷ []) ≡ 0
spells_no_cut c t other =
    let b = sum_by-cons (λ (w : Word). cond (w.tag == NAME && w.index == c) 1 0) t [] in
    let none : ◌≡◌ {A = ℕ} (cond (t.tag == NAME && t.index == c) 1 0) 0 = ap (λ (s : Bool). cond (s && t.index == c) 1 0) other in
    omega arith

-- a name spells the cut of its number
pub spells_name : (c n : ℕ) → spells_cut c (name_word n ∷ []) ≡ times c (n ∷ [])
spells_name c n =
    let b = sum_by-cons (λ (w : Word). cond (w.tag == NAME && w.index == c) 1 0) (name_word n) [] in
    let d = sum_by-cons (λ (m : ℕ). cond (m == c) 1 0) n [] in
    omega arith

pub on_ok : {T E P : Type 0} (r : Result T E) → P → OnOk r P
on_ok (Ok x) p = p
on_ok (Err e) p = tt
