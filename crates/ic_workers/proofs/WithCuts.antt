-- Lemmas: pieces with the names of the cuts are those of a net where each cut has two ends.
use Rattle.std.proofs.Common.{◌≡◌, ◌⊎◌, inl, inr, ℕ, ◌+◌, ◌*◌, ◌/◌, ◌%◌, ◌≤◌, ◌==◌, List, [], ◌∷◌, ◌++◌, Bool, true, false, cond, refl, sym, ap, ◌∙◌, arith, sum_by, subst as transport}
use Rattle.std.specs.Cmp.{unsigned_Decides}
use Rattle.std.proofs.lemmas.List.Sums.{sum_by-cons, sum_by-append}
use Rattle.ic_arena.specs.declared.word.Word.{Word}
use Rattle.ic_arena.specs.declared.word.TheConstants.{NAME}
use Rattle.ic_arena.specs.Word.{word_eq, count}
use Rattle.ic_arena.specs.Piece.{Piece, idle, room, uses}
use Rattle.ic_arena.specs.lemmas.Rooms.{other_tag, other_index}
use Rattle.ic_machine.specs.Moving.{times}
use Rattle.ic_machine.specs.Rooms.{ROOMS}
use Rattle.ic_machine.specs.Separate.{is_constant_tag}
use Rattle.ic_meaning.specs.Nets.{holds, IsPiece, ArePieces, AreNetPieces}
use Rattle.ic_workers.specs.Parts.{cut_word}
use Rattle.ic_workers.proofs.OnWay.{AreOnWay, IsNoCut, cut_pieces, cuts_uses, all_both}

true_false : true ≡ false → ⊥
true_false e = cc

-- a word that is a cut
record IsCut (w : Word) : Type 0 where
  number : ℕ
  is : w ≡ cut_word number

is_cut : (w : Word) → IsCut w ⊎ IsNoCut w
is_cut w = at (w.tag == NAME) refl (w.index % ROOMS == 0) refl
  where
    at : (a : Bool) → (w.tag == NAME) ≡ a → (b : Bool) → (w.index % ROOMS == 0) ≡ b → IsCut w ⊎ IsNoCut w
    at true e true f =
        let tag = (unsigned_Decides w.tag NAME).0 e in
        let none : w.index % ROOMS ≡ 0 = (unsigned_Decides (w.index % ROOMS) 0).0 f in
        let index : w.index ≡ (w.index / ROOMS) * ROOMS + 0 = omega (arith, none) in
        inl (record { number = w.index / ROOMS; is = λ i. record { tag = tag i; index = index i } })
    at false e b f = inr (λ c. other_tag w (cut_word c) (λ same. true_false (sym ((unsigned_Decides w.tag NAME).1 same) ∙ e)))
    at true e false f = inr (λ c. other_index w (cut_word c) (λ same.
        let none : w.index % ROOMS ≡ 0 = omega (arith, same) in
        true_false (sym ((unsigned_Decides (w.index % ROOMS) 0).1 none) ∙ f)))

pub same_cut : (c d : ℕ) → word_eq (cut_word c) (cut_word d) ≡ (d == c)
same_cut c d = at (d == c) refl
  where
    at : (b : Bool) → (d == c) ≡ b → word_eq (cut_word c) (cut_word d) ≡ b
    at true e = (unsigned_Decides (c * ROOMS + 0) (d * ROOMS + 0)).1 (let same = (unsigned_Decides d c).0 e in omega (arith, same))
    at false e = other_index (cut_word c) (cut_word d) (λ same.
        true_false (sym ((unsigned_Decides d c).1 (omega (arith, same))) ∙ e))

cut_room : (c : ℕ) (cs : List ℕ) → sum_by (room (cut_word c)) (cut_pieces cs) ≡ 2 * times c cs
cut_room c [] = refl
cut_room c (d ∷ ds) =
    let parts = sum_by-cons (room (cut_word c)) (idle (cut_word d)) (cut_pieces ds) in
    let here : cond {A = ℕ} (word_eq (cut_word c) (cut_word d)) 2 0 ≡ 2 * cond {A = ℕ} (d == c) 1 0 =
    ap (λ (b : Bool). cond {A = ℕ} b 2 0) (same_cut c d) ∙ doubled (d == c) in
    let all = sum_by-cons (λ (m : ℕ). cond {A = ℕ} (m == c) 1 0) d ds in
    let rest = cut_room c ds in
    omega (arith, parts, here, all, rest)
  where
    doubled : (b : Bool) → cond {A = ℕ} b 2 0 ≡ 2 * cond {A = ℕ} b 1 0
    doubled true = refl
    doubled false = refl

cut_holds : (c : ℕ) (cs : List ℕ) → sum_by (holds (cut_word c)) (cut_pieces cs) ≡ times c cs
cut_holds c [] = refl
cut_holds c (d ∷ ds) =
    let parts = sum_by-cons (holds (cut_word c)) (idle (cut_word d)) (cut_pieces ds) in
    let here : cond {A = ℕ} (word_eq (cut_word c) (cut_word d)) 1 0 ≡ cond {A = ℕ} (d == c) 1 0 =
    ap (λ (b : Bool). cond {A = ℕ} b 1 0) (same_cut c d) in
    let all = sum_by-cons (λ (m : ℕ). cond {A = ℕ} (m == c) 1 0) d ds in
    let rest = cut_holds c ds in
    omega (arith, parts, here, all, rest)

no_holds : (w : Word) (cs : List ℕ) → IsNoCut w → sum_by (holds w) (cut_pieces cs) ≡ 0
no_holds w [] other = refl
no_holds w (c ∷ cs) other =
    let parts = sum_by-cons (holds w) (idle (cut_word c)) (cut_pieces cs) in
    let here : cond {A = ℕ} (word_eq w (cut_word c)) 1 0 ≡ 0 = ap (λ (b : Bool). cond {A = ℕ} b 1 0) (other c) in
    let rest = no_holds w cs other in
    omega (arith, parts, here, rest)

each_cut : (arities : List ℕ) (cs : List ℕ) → ArePieces arities (cut_pieces cs)
each_cut arities [] = tt
each_cut arities (c ∷ cs) = (refl, each_cut arities cs)

-- Each cut is named twice at most, if it is one of these.
pub record AreCut (is : List Word) (cs : List ℕ) (ps : List Piece) : Type 0 where
  pub few : (c : ℕ) → times c cs ≤ 1
  pub named : (c : ℕ) → count (cut_word c) is + sum_by (uses (cut_word c)) ps ≤ 2 * times c cs
  pub free : (c : ℕ) → sum_by (holds (cut_word c)) ps ≡ 0

pub net_of_way : (arities : List ℕ) (is : List Word) (cs : List ℕ) (ps : List Piece) → AreOnWay arities is ps → AreCut is cs ps
    → AreNetPieces arities is (cut_pieces cs ++ ps)
net_of_way arities is cs ps are cuts = record {
  each = all_both (IsPiece arities) (cut_pieces cs) ps (each_cut arities cs) are.each;
  separate = record { each = λ w place. roomy w place (is_cut w) };
  once = λ w. few w (is_cut w);
}
  where
    roomy : (w : Word) → is_constant_tag arities w.tag ≡ false → IsCut w ⊎ IsNoCut w
        → count w is + sum_by (uses w) (cut_pieces cs ++ ps) ≤ sum_by (room w) (cut_pieces cs ++ ps)
    roomy w place (inl cut) =
        transport (λ (v : Word). count v is + sum_by (uses v) (cut_pieces cs ++ ps) ≤ sum_by (room v) (cut_pieces cs ++ ps)) (sym cut.is)
        (let u = sum_by-append (uses (cut_word cut.number)) (cut_pieces cs) ps in
        let r = sum_by-append (room (cut_word cut.number)) (cut_pieces cs) ps in
        let none = cuts_uses (cut_word cut.number) cs in
        let all = cut_room cut.number cs in
        let named = cuts.named cut.number in
        omega (arith, u, r, none, all, named))
    roomy w place (inr other) =
        let u = sum_by-append (uses w) (cut_pieces cs) ps in
        let r = sum_by-append (room w) (cut_pieces cs) ps in
        let none = cuts_uses w cs in
        let named = are.separate w place other in
        omega (arith, u, r, none, named)

    few : (w : Word) → IsCut w ⊎ IsNoCut w → sum_by (holds w) (cut_pieces cs ++ ps) ≤ 1
    few w (inl cut) =
        transport (λ (v : Word). sum_by (holds v) (cut_pieces cs ++ ps) ≤ 1) (sym cut.is)
        (let h = sum_by-append (holds (cut_word cut.number)) (cut_pieces cs) ps in
        let all = cut_holds cut.number cs in
        let once = cuts.few cut.number in
        let free = cuts.free cut.number in
        omega (arith, h, all, once, free))
    few w (inr other) =
        let h = sum_by-append (holds w) (cut_pieces cs) ps in
        let none = no_holds w cs other in
        let once = are.once w in
        omega (arith, h, none, once)
