-- The choice of a side by the words that the sides begin with.
use Rattle.std.proofs.Common.{◌≡◌, ℕ, ◌+◌, ◌<◌, List, Option, None, Some, MatchOption, option_map, length, get_or, drop, sym, ap, ◌∙◌, refl, subst as transport}
use Rattle.std.proofs.lemmas.List.{drop_more}
use Rattle.ic_term.specs.Tree.{Tree, Pair}
use Rattle.ic_settle.specs.declared.applicability.Side.{Side}
use Rattle.ic_settle.specs.declared.applicability.Side.TheVariants.{Left, Right}
use Rattle.ic_settle.specs.declared.applicability.Applicable.{Applicable}
use Rattle.ic_settle.specs.lemmas.Containers.{IsRoot, IsChosen, elsewhere, outlet_at, first_outlet, outlet, applicable_of, redirected}
use Rattle.ic_flat.specs.declared.word.Word.{Word}
use Rattle.ic_flat.specs.declared.word.Word.TheVariants.{Name, Agent}
use Rattle.ic_flat.specs.Words.{with_word, forest}
use Rattle.ic_flat_rules.specs.Standing.{first_of, tree_at}
use Rattle.ic_flat_round.specs.inner.Heads.{head, heads, told}

-- ---- what is told of an outlet

match_some : {O W : Type 0} (g : O → W) (o : Option O) (w : W) (A : Type 0) (B : O → Type 0) → Some w ≡ option_map g o → ((x : O) → w ≡ g x → B x) → MatchOption o A B
match_some g None w A B e b = cc
match_some g (Some x) w A B e b = let same : w ≡ g x = cc in b x same

pub chosen-some : (r : ℕ → ℕ) (place : ℕ) (look : ℕ → Option (ℕ × ℕ)) (p : Pair) (links : List ℕ) (a : Applicable) (target : ℕ)
    → Some (a, target) ≡ told (λ y. elsewhere r place (look y)) p.left p.right → IsRoot links (redirected place target r) → IsChosen r place look p links (Some a)
chosen-some r place look p links a target some root =
    match_some (λ o. (applicable_of o, o.target)) (outlet (λ y. elsewhere r place (look y)) p.left p.right) (a, target)
    ((Some a ≡ None) × IsRoot links r) (λ o. (Some a ≡ Some (applicable_of o)) × IsRoot links (redirected place o.target r)) some
    (λ o same. (ap (λ w. Some w.0) same, transport (λ t. IsRoot links (redirected place t r)) (ap (λ w. w.1) same) root))

-- ---- the word at a place is the head of its term

head_at : (f : ℕ → Option ℕ) (side : Side) (w : Word) (ts : List Tree) → outlet_at f side (head w) ≡ outlet_at f side (first_of (with_word w ts))
head_at f side (Name n) ts = refl
head_at f side (Agent s arity) ts = refl

pub chosen_at : (r : ℕ → ℕ) (place : ℕ) (look : ℕ → Option (ℕ × ℕ)) (links : List ℕ) (found : Option Applicable) (ws : List Word) (left right : ℕ) (d : Word)
    → left < length ws → right < length ws → IsChosen r place look (heads (get_or ws left d) (get_or ws right d)) links found
    → IsChosen r place look (record { left = tree_at ws left; right = tree_at ws right }) links found
chosen_at r place look links found ws left right d there right_there chosen =
    let f : ℕ → Option ℕ = λ y. elsewhere r place (look y) in
    let first = head_at f Left (get_or ws left d) (forest (drop (left + 1) ws)) ∙ ap (λ l. outlet_at f Left (first_of (forest l))) (sym (drop_more ws left d there)) in
    let second = head_at f Right (get_or ws right d) (forest (drop (right + 1) ws)) ∙ ap (λ l. outlet_at f Right (first_of (forest l))) (sym (drop_more ws right d right_there)) in
    transport (λ o. MatchOption o ((found ≡ None) × IsRoot links r) (λ w. (found ≡ Some (applicable_of w)) × IsRoot links (redirected place w.target r)))
    (λ i. first_outlet (first i) (second i)) chosen
