-- What the pass leaves, written with all bindings put in, is the settled configuration.
use Rattle.std.proofs.Common.{◌≡◌, ℕ, List, [], ◌∷◌, ◌++◌, length, map, take, refl, sym, ap, ◌∙◌, append_assoc, append-nil, subst as transport}
use Rattle.std.specs.List.{flat_map}
use Rattle.std.proofs.lemmas.List.{length-map, take_at}
use Rattle.std.proofs.lemmas.List.Concat.{flat_map-append}
use Rattle.ic_term.specs.Tree.{Tree, Pair, names, pair_names}
use Rattle.ic_term.specs.Configuration.{Configuration}
use Rattle.ic_settle.specs.Settling.{Binding}
use Rattle.ic_settle.specs.lemmas.Waiting.{put_each, put_each_pair, IsDelayed}
use Rattle.ic_settle.specs.lemmas.Passed.{put_in, IsPassed}
use Rattle.ic_flat.specs.declared.word.Word.{Word}
use Rattle.ic_flat.specs.Words.{forest, tree_words}
use Rattle.ic_flat.specs.Flat.{sides, configuration_words, configuration_of, IsAfterTerms, IsFlat}
use Rattle.ic_flat.specs.lemmas.FlatLaws.{after-words, forest-configuration_words}
use Rattle.ic_flat_round.specs.inner.Rebuilding.{state, words_put, PutsOn}
use Rattle.ic_flat_round.proofs.Interacting.{flat_parts}

names_of-sides : (ps : List Pair) → flat_map names (sides ps) ≡ flat_map pair_names ps
names_of-sides [] = refl
names_of-sides (p ∷ ps) = ap (λ l. names p.left ++ (names p.right ++ l)) (names_of-sides ps) ∙ sym (append_assoc (names p.left) (names p.right) (flat_map pair_names ps))

put-sides : (bs : List Binding) (ps : List Pair) → map (put_each bs) (sides ps) ≡ sides (map (put_each_pair bs) ps)
put-sides bs [] = refl
put-sides bs (p ∷ ps) = ap (λ l. put_each bs p.left ∷ put_each bs p.right ∷ l) (put-sides bs ps)

module _ (c : Configuration) (kept : List Pair) (es es' es'' : List (ℕ × Tree)) (given : List Tree) (start done done' : List Word) (s : IsPassed c kept es)
    (interface : given ≡ c.interface) (empty : start ≡ []) (first : PutsOn (state es start given) (state es' done []))
    (second : PutsOn (state es' done (sides kept)) (state es'' done' [])) where
  put_first : (done ≡ words_put s.bs c.interface) × IsDelayed s.bs es' (flat_map pair_names kept)
  put_first =
      let D : List Tree → Type 0 = λ ts. IsDelayed s.bs es (flat_map names ts ++ flat_map pair_names kept) in
      let one = first s.bs (flat_map pair_names kept) (transport D (sym interface) s.delayed) in
      (sym (append-nil done) ∙ one.0 ∙ (λ i. empty i ++ words_put s.bs (interface i)), one.1)

  put_second : done' ≡ words_put s.bs c.interface ++ words_put s.bs (sides kept)
  put_second =
      let D : List ℕ → Type 0 = λ ns. IsDelayed s.bs es' ns in
      let spread : flat_map pair_names kept ≡ flat_map names (sides kept) ++ [] = sym (append-nil (flat_map names (sides kept)) ∙ names_of-sides kept) in
      let two = second s.bs [] (transport D spread put_first.1) in
      sym (append-nil done') ∙ two.0 ∙ (λ i. put_first.0 i ++ words_put s.bs (sides kept))

  pub written : done' ≡ configuration_words (put_in s.bs c kept)
  written =
      let put = map (put_each s.bs) c.interface in
      put_second ∙ (λ i. words_put s.bs c.interface ++ flat_map tree_words (put-sides s.bs kept i))
      ∙ sym (flat_map-append tree_words put (sides (map (put_each_pair s.bs) kept)))

  -- the equations begin after what was written first
  pub placed : (terms place : ℕ) → terms ≡ length c.interface → place ≡ length done → IsAfterTerms done' terms place
  placed terms place count before =
      after-words (map (put_each s.bs) c.interface) (map (put_each s.bs) (sides kept)) done' terms place put_second (count ∙ sym (length-map c.interface (put_each s.bs)))
      (before ∙ ap length put_first.0)

-- the parts of the settled configuration, in flat form, and where its equations begin
pub settled_parts : (c : Configuration) (kept : List Pair) (es es' es'' : List (ℕ × Tree)) (given : List Tree) (start done done' : List Word) (terms equations next place : ℕ) (s : IsPassed c kept es)
    → given ≡ c.interface → start ≡ [] → PutsOn (state es start given) (state es' done []) → PutsOn (state es' done (sides kept)) (state es'' done' [])
    → terms ≡ length c.interface → equations ≡ length kept → next ≡ c.next → place ≡ length done
    → IsFlat done' terms equations next × (configuration_of done' terms next ≡ put_in s.bs c kept) × IsAfterTerms done' terms place
settled_parts c kept es es' es'' given start done done' terms equations next place s interface empty first second count number last before =
    let flat =
    flat_parts (put_in s.bs c kept) done' terms equations next s.valid (written c kept es es' es'' given start done done' s interface empty first second)
    (count ∙ sym (length-map c.interface (put_each s.bs))) (number ∙ sym (length-map kept (put_each_pair s.bs))) last in
    (flat.0, flat.1, placed c kept es es' es'' given start done done' s interface empty first second terms place count before)

-- the terms of the interface stand first
pub interface_terms : (c : Configuration) (ws : List Word) (terms : ℕ) → ws ≡ configuration_words c → terms ≡ length c.interface → take terms (forest ws) ≡ c.interface
interface_terms c ws terms is count =
    (λ i. take (count i) (forest (is i))) ∙ ap (take (length c.interface)) (forest-configuration_words c) ∙ take_at c.interface (sides c.equations) (length c.interface) refl
