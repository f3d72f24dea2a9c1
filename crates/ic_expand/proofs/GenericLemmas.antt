-- Lists of arguments of generic rules.
use Rattle.std.proofs.Common.{◌≡◌, ℕ, zero, suc, ◌+◌, ◌-◌, ◌≤◌, List, [], ◌∷◌, ◌++◌, length, map, replicate, refl, sym, ap, ◌∙◌, append-nil, arith}
use Rattle.std.specs.List.{AllByRecursion, range_with_len}
use Rattle.std.proofs.lemmas.List.FromFn.{length-map-range_with_len}
use Rattle.std.proofs.lemmas.List.{map-append}
use Rattle.ic_term.specs.Symbol.{Symbol}
use Rattle.ic_text.specs.Name.{name_text}
use Rattle.ic_expand.specs.Generic.{agent_text, copies, erased, names_from, rule_text}
use Rattle.ic_expand.proofs.Spares.{range_more_0, range_next}

pub length-names_from : (first n : ℕ) → length (names_from first n) ≡ n
length-names_from first n = length-map-range_with_len name_text first n

pub length-copies : (s : List ℕ) (n : ℕ) → length (copies s n) ≡ n
length-copies s n = length-map-range_with_len (λ k. agent_text s (name_text k ∷ name_text (k + 26) ∷ [])) 0 n

copies_of : (s : List ℕ) (ks : List ℕ) → AllByRecursion (λ z. (x y : List ℕ) × (z ≡ agent_text s (x ∷ y ∷ []))) (map (λ k. agent_text s (name_text k ∷ name_text (k + 26) ∷ [])) ks)
copies_of s [] = tt
copies_of s (k ∷ ks) = ((name_text k, name_text (k + 26), refl), copies_of s ks)

pub copies_are : (s : List ℕ) (n : ℕ) → AllByRecursion (λ z. (x y : List ℕ) × (z ≡ agent_text s (x ∷ y ∷ []))) (copies s n)
copies_are s n = copies_of s (range_with_len 0 n)

pub replicate_are : (s : List ℕ) (n : ℕ) → AllByRecursion (λ z. z ≡ s) (replicate n s)
replicate_are s zero = tt
replicate_are s (suc n) = (refl, replicate_are s n)

-- an eraser alone is an agent without arguments
pub erased_is : (s : List ℕ) (t : Symbol) → erased s t ≡ rule_text (agent_text s []) (agent_text t.text (replicate t.arity s))
erased_is s t = ap (λ (l : List ℕ). rule_text l (agent_text t.text (replicate t.arity s))) (sym (append-nil s))

-- ---- one after another

pub name_pushed : (first number : ℕ) → first ≤ number → names_from first (number + 1 - first) ≡ names_from first (number - first) ++ name_text number ∷ []
name_pushed first number less =
    let more : number + 1 - first ≡ (number - first) + 1 = omega (arith, less) in
    let here : first + (number - first) ≡ number = omega (arith, less) in
    ap (names_from first) more
    ∙ ap (map name_text) (range_next first (number - first))
    ∙ map-append name_text (range_with_len first (number - first)) ((first + (number - first)) ∷ [])
    ∙ ap (λ (n : ℕ). names_from first (number - first) ++ name_text n ∷ []) here

pub copies_next : (s : List ℕ) (n : ℕ) → copies s (n + 1) ≡ copies s n ++ agent_text s (name_text n ∷ name_text (n + 26) ∷ []) ∷ []
copies_next s n =
    ap (map (λ k. agent_text s (name_text k ∷ name_text (k + 26) ∷ []))) (range_more_0 n)
    ∙ map-append (λ k. agent_text s (name_text k ∷ name_text (k + 26) ∷ [])) (range_with_len 0 n) (n ∷ [])
