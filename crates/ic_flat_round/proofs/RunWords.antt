-- Words that stand for themselves, one after the other.
use Rattle.std.proofs.Common.{◌≡◌, ℕ, zero, suc, ◌+◌, ◌-◌, ◌<◌, ◌≤◌, List, [], ◌∷◌, ◌++◌, None, length, take, drop, get_or, refl, sym, ap, ◌∙◌, append-nil, append_assoc, ⊎_elim, arith, subst as transport}
use Rattle.std.proofs.lemmas.List.{drop_more, drop-drop}
use Rattle.std.proofs.lemmas.Bool.{cases_lt}
use Rattle.ic_settle.specs.lemmas.Waiting.{look}
use Rattle.ic_flat.specs.declared.word.Word.{Word}
use Rattle.ic_flat.specs.declared.word.Word.TheVariants.{Name, Agent}
use Rattle.ic_flat.specs.Words.{IsWhole}
use Rattle.ic_flat_round.specs.declared.rebuilding.Span.{Span}
use Rattle.ic_flat_round.specs.inner.Waits.{waiting}
use Rattle.ic_flat_round.specs.inner.Rebuilding.{IsSpan, IsRun, PutsOn, on_stack, words_between}
use Rattle.ic_flat_round.proofs.PutWords.{puts-none, puts-both}
use Rattle.ic_flat_round.proofs.StackedSpans.{span_there, span-name, span-agent}
use Rattle.ic_flat_round.proofs.WrittenSpans.{PutsOne, word-name, word-agent}

-- ---- words between places

pub between-none : (ws : List Word) (n : ℕ) → words_between ws n n ≡ []
between-none ws n = let none : n - n ≡ 0 = omega arith in ap (λ k. take k (drop n ws)) none

between-one : (ws : List Word) (n : ℕ) (d : Word) → n < length ws → words_between ws n (n + 1) ≡ get_or ws n d ∷ []
between-one ws n d there = let one : (n + 1) - n ≡ 1 = omega arith in ap (λ k. take k (drop n ws)) one ∙ ap (take 1) (drop_more ws n d there)

take_nil : (n : ℕ) → take {A = Word} n [] ≡ []
take_nil zero = refl
take_nil (suc n) = refl

take-parts : (m n : ℕ) (ws : List Word) → take (m + n) ws ≡ take m ws ++ take n (drop m ws)
take-parts zero n ws = let same : 0 + n ≡ n = omega arith in ap (λ k. take k ws) same
take-parts (suc m) n [] = let same : suc m + n ≡ suc (m + n) = omega arith in ap (λ k. take {A = Word} k []) same ∙ sym (take_nil n)
take-parts (suc m) n (w ∷ ws) = let same : suc m + n ≡ suc (m + n) = omega arith in ap (λ k. take k (w ∷ ws)) same ∙ ap (λ l. w ∷ l) (take-parts m n ws)

between-both : (ws : List Word) (a b c : ℕ) → a ≤ b → b ≤ c → words_between ws a b ++ words_between ws b c ≡ words_between ws a c
between-both ws a b c first second =
    let whole : c - a ≡ (b - a) + (c - b) = omega (arith, first, second) in
    let there : a + (b - a) ≡ b = omega (arith, first) in
    sym (ap (λ k. take k (drop a ws)) whole ∙ take-parts (b - a) (c - b) (drop a ws)
    ∙ ap (λ l. take (b - a) (drop a ws) ++ take (c - b) l) (drop-drop (b - a) a ws ∙ ap (λ k. drop k ws) there))

-- ---- runs

pub run-none : (ws : List Word) (es : List (ℕ × ℕ)) (a : Span) → IsSpan ws a → IsRun ws es a a
run-none ws es a is = record {
  left = is;
  ahead = omega arith;
  within = λ some. absurd (omega (arith, some));
  puts = λ done stack.
      let same : done ≡ done ++ words_between ws a.place a.place = sym (ap (λ l. done ++ l) (between-none ws a.place) ∙ append-nil done) in
      transport (λ (l : List Word). PutsOn (on_stack ws es done a stack) (on_stack ws es l a stack)) same (puts-none (on_stack ws es done a stack));
  less = λ stack. omega arith;
}

pub run-both : (ws : List Word) (es : List (ℕ × ℕ)) (a b c : Span) → IsRun ws es a b → IsRun ws es b c → IsRun ws es a c
run-both ws es a b c r s =
    let first = r.ahead in
    let second = s.ahead in
    record {
      left = s.left;
      ahead = omega (arith, first, second);
      within = λ some. ⊎_elim s.within (λ stays. let inside = r.within (omega (arith, some, stays)) in omega (arith, inside, stays)) (cases_lt b.place c.place);
      puts = λ done stack.
          let half = done ++ words_between ws a.place b.place in
          let all : half ++ words_between ws b.place c.place ≡ done ++ words_between ws a.place c.place =
          append_assoc done (words_between ws a.place b.place) (words_between ws b.place c.place)
          ∙ ap (λ l. done ++ l) (between-both ws a.place b.place c.place first second) in
          puts-both (on_stack ws es done a stack) (on_stack ws es half b stack) (on_stack ws es (done ++ words_between ws a.place c.place) c stack) (r.puts done stack)
          (transport (λ (l : List Word). PutsOn (on_stack ws es half b stack) (on_stack ws es l c stack)) all (s.puts half stack));
      less = λ stack. let one = r.less stack in let two = s.less stack in omega (arith, one, two);
    }

-- ---- one word

module _ (ws : List Word) (es : List (ℕ × ℕ)) (a : Span) (d : Word) (is : IsSpan ws a) (some : 0 < a.count) where
  one_more : (b : Span) → b.place ≡ a.place + 1 → IsSpan ws b
      → ((done done' : List Word) (stack : List Span) → done' ≡ done ++ get_or ws a.place d ∷ [] → PutsOne (on_stack ws es done a stack) (on_stack ws es done' b stack))
      → IsRun ws es a b
  one_more b next left puts =
      let there = span_there ws a is some in
      let same : words_between ws a.place b.place ≡ get_or ws a.place d ∷ [] = ap (words_between ws a.place) next ∙ between-one ws a.place d there in
      record {
        left = left;
        ahead = omega (arith, next);
        within = λ _. omega (arith, next, there);
        puts = λ done stack. (puts done (done ++ words_between ws a.place b.place) stack (ap (λ l. done ++ l) same)).0;
        less = λ stack. let fewer = (puts [] (get_or ws a.place d ∷ []) stack refl).1 in omega (arith, fewer);
      }

  pub run-name : (x : ℕ) → get_or ws a.place d ≡ Name x → look (waiting ws es) x ≡ None → IsRun ws es a (record { place = a.place + 1; count = a.count - 1 })
  run-name x word none =
      one_more (record { place = a.place + 1; count = a.count - 1 }) refl (span-name ws a d x is some word).0
      (λ done done' stack put. word-name ws a d is some (waiting ws es) (waiting ws es) done done' stack x word none refl (put ∙ ap (λ w. done ++ w ∷ []) word))

  pub run-agent : (sym_of arity : ℕ) → IsWhole ws → get_or ws a.place d ≡ Agent sym_of arity → IsRun ws es a (record { place = a.place + 1; count = (a.count - 1) + arity })
  run-agent sym_of arity whole word =
      one_more (record { place = a.place + 1; count = (a.count - 1) + arity }) refl (span-agent ws a d sym_of arity whole is some word).5
      (λ done done' stack put. word-agent ws a d is some (waiting ws es) done done' stack sym_of arity whole word (put ∙ ap (λ w. done ++ w ∷ []) word))
