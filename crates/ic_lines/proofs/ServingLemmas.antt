-- Lines that are served.
use Rattle.std.proofs.Common.{◌≡◌, ℕ, List, [], ◌∷◌, ◌++◌, refl, sym, ap, ap₂, ◌∙◌, append-nil, append_assoc}
use Rattle.ic_jobs.specs.Job.{JobParts}
use Rattle.ic_commands.specs.LineText.{ReadsLine}
use Rattle.ic_lines.specs.Answers.{Reading, answer, after_line, after, out}
use Rattle.ic_lines.specs.Serving.{AreRead, IsServed}

pub out-append : (t : List JobParts) (a b : List Reading) → out t (a ++ b) ≡ out t a ++ out (after t a) b
out-append t [] b = refl
out-append t (r ∷ rs) b =
    ap (λ bytes. answer t r ++ bytes) (out-append (after_line t r) rs b)
    ∙ sym (append_assoc (answer t r) (out (after_line t r) rs) (out (after (after_line t r) rs) b))

pub after-append : (t : List JobParts) (a b : List Reading) → after t (a ++ b) ≡ after (after t a) b
after-append t [] b = refl
after-append t (r ∷ rs) b = after-append (after_line t r) rs b

pub AreRead-append : (ls more : List (List ℕ)) (a b : List Reading) → AreRead ls a → AreRead more b → AreRead (ls ++ more) (a ++ b)
AreRead-append [] more [] b read rest = rest
AreRead-append (l ∷ ls) more (r ∷ rs) b read rest = (read.0, AreRead-append ls more rs b read.1 rest)
AreRead-append _ more _ b read rest = absurd read

pub served_joined : (t u v : List JobParts) (ls more : List (List ℕ)) (a b : List ℕ) → IsServed t ls a u → IsServed u more b v
    → IsServed t (ls ++ more) (a ++ b) v
served_joined t u v ls more a b first second = record {
  readings = first.readings ++ second.readings;
  read = AreRead-append ls more first.readings second.readings first.read second.read;
  answered = ap₂ (λ x y. x ++ y) first.answered (second.answered ∙ ap (λ w. out w second.readings) first.leaves)
      ∙ sym (out-append t first.readings second.readings);
  leaves = second.leaves ∙ ap (λ w. after w second.readings) first.leaves ∙ sym (after-append t first.readings second.readings);
}

-- a line is read in one way
abbrev pub OneWay : Type 0
OneWay = (text : List ℕ) (a b : Reading) → ReadsLine text a → ReadsLine text b → a ≡ b

-- each line is read somehow
abbrev pub SomeWay : Type 0
SomeWay = (text : List ℕ) → (a : Reading) × ReadsLine text a

read_once : OneWay → (ls : List (List ℕ)) (a b : List Reading) → AreRead ls a → AreRead ls b → a ≡ b
read_once law [] [] [] p q = refl
read_once law [] (r ∷ rs) b p q = absurd p
read_once law (l ∷ ls) [] b p q = absurd p
read_once law (l ∷ ls) (r ∷ rs) (s ∷ ss) p q =
    ap₂ (λ x xs. x ∷ xs) (law l r s p.0 q.0) (read_once law ls rs ss p.1 q.1)
read_once law _ _ _ p q = absurd q

pub served_once : OneWay → (t u v : List JobParts) (ls : List (List ℕ)) (a b : List ℕ) → IsServed t ls a u → IsServed t ls b v → (a ≡ b) × (u ≡ v)
served_once law t u v ls a b p q =
    let same = read_once law ls p.readings q.readings p.read q.read in
    (p.answered ∙ ap (out t) same ∙ sym q.answered, p.leaves ∙ ap (after t) same ∙ sym q.leaves)

read_somehow : SomeWay → (ls : List (List ℕ)) → (rs : List Reading) × AreRead ls rs
read_somehow law [] = ([], tt)
read_somehow law (l ∷ ls) = let first = law l in let rest = read_somehow law ls in (first.0 ∷ rest.0, (first.1, rest.1))

pub served_somehow : SomeWay → (t : List JobParts) (ls : List (List ℕ)) → (answers : List ℕ) × (left : List JobParts) × IsServed t ls answers left
served_somehow law t ls =
    let rs = read_somehow law ls in
    (out t rs.0, after t rs.0, record { readings = rs.0; read = rs.1; answered = refl; leaves = refl })

pub served_line : (t : List JobParts) (line : List ℕ) (r : Reading) → ReadsLine line r → IsServed t (line ∷ []) (answer t r) (after_line t r)
served_line t line r reads = record {
  readings = r ∷ [];
  read = (reads, tt);
  answered = sym (append-nil (answer t r));
  leaves = refl;
}
