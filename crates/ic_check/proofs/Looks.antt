-- What is found of files, joined in their order.
use Rattle.std.proofs.Common.{◌≡◌, ℕ, ◌+◌, ◌<◌, Bool, true, false, List, [], ◌∷◌, ◌++◌, length, get_or, take, refl, sym, ap, subst, ◌∙◌}
use Rattle.std.specs.Prelude.{map}
use Rattle.std.specs.List.{AllZip}
use Rattle.std.proofs.lemmas.List.{map-append, take_more}
use Rattle.ic_check.specs.Files.{Content, IsFound, LooksOver, text, script, unmeant, unread, worse, worst}
use Rattle.ic_check.specs.declared.files.Verdict.{Verdict}
use Rattle.ic_check.specs.declared.files.Verdict.TheVariants.{Fine, Faulty, Unread}
use Rattle.ic_check.specs.inner.Verdicts.{ContentHasFault, verdict_by}

zip_join : {A B : Type 0} (R : A → B → Type 0) (ps : List A) (vs : List B) (qs : List A) (ws : List B)
    → AllZip R ps vs → AllZip R qs ws → AllZip R (ps ++ qs) (vs ++ ws)
zip_join R [] [] qs ws one two = two
zip_join R (p ∷ ps) (v ∷ vs) qs ws one two = (one.0, zip_join R ps vs qs ws one.1 two)
zip_join R _ _ qs ws one two = absurd one

worse_assoc : (u v w : Verdict) → worse (worse u v) w ≡ worse u (worse v w)
worse_assoc Fine v w = refl
worse_assoc Faulty Fine w = refl
worse_assoc Faulty Faulty Fine = refl
worse_assoc Faulty Faulty Faulty = refl
worse_assoc Faulty Faulty Unread = refl
worse_assoc Faulty Unread w = refl
worse_assoc Unread v w = refl

worse_alone : (v : Verdict) → v ≡ worse v Fine
worse_alone Fine = refl
worse_alone Faulty = refl
worse_alone Unread = refl

worst_join : (vs ws : List Verdict) → worst (vs ++ ws) ≡ worse (worst vs) (worst ws)
worst_join [] ws = refl
worst_join (v ∷ vs) ws = ap (worse v) (worst_join vs ws) ∙ sym (worse_assoc v (worst vs) (worst ws))

-- what is found of what a file gives, by whether it has a fault
pub found_by : (content : Content) (faulty : Bool) → ContentHasFault content faulty → IsFound content (verdict_by faulty)
found_by (text bytes) true has = has
found_by (text bytes) false has = has
found_by (script bytes) true has = has
found_by (script bytes) false has = has
found_by unmeant faulty has = absurd has
found_by unread faulty has = absurd has

module _ (Gives : List ℕ → Content → Type 0) where
  -- one file
  pub over_one : (path : List ℕ) (content : Content) (v : Verdict) → Gives path content → IsFound content v → LooksOver Gives (path ∷ []) v
  over_one path content v given is = record {
    each = v ∷ [];
    found = ((content, given, is), tt);
    together = worse_alone v;
  }

  over_join : (ps qs : List (List ℕ)) (v w : Verdict) → LooksOver Gives ps v → LooksOver Gives qs w → LooksOver Gives (ps ++ qs) (worse v w)
  over_join ps qs v w one two = record {
    each = one.each ++ two.each;
    found = zip_join _ ps one.each qs two.each one.found two.found;
    together = (λ i. worse (one.together i) (two.together i)) ∙ sym (worst_join one.each two.each);
  }

  -- one file more
  pub over_more : {X : Type 0} (f : X → List ℕ) (xs : List X) (i : ℕ) (x : X) (v w : Verdict) → i < length xs → x ≡ get_or xs i x
      → LooksOver Gives (map f (take i xs)) v → LooksOver Gives (f x ∷ []) w
      → LooksOver Gives (map f (take (i + 1) xs)) (worse v w)
  over_more f xs i x v w below is one two =
      subst (λ (ps : List (List ℕ)). LooksOver Gives ps (worse v w))
      (sym (ap (map f) (take_more xs i x below ∙ ap (λ y. take i xs ++ y ∷ []) (sym is)) ∙ map-append f (take i xs) (x ∷ [])))
      (over_join (map f (take i xs)) (f x ∷ []) v w one two)
