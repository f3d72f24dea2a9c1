-- The places and bases of the program's works.
use Rattle.std.proofs.Common.{◌≡◌, List, [], ◌∷◌, map, refl, ap}
use Rattle.ic_round.specs.Works.{PlainWork}
use Rattle.ic_round.specs.declared.work.Work.{Work}
use Rattle.ic_round.specs.WorkViews.{work_of}

pub places_of_works : (ws : List Work) → map (λ (w : Work). w.place) ws ≡ map (λ (w : PlainWork). w.place) (map work_of ws)
places_of_works [] = refl
places_of_works (w ∷ ws) = ap (λ l. w.place ∷ l) (places_of_works ws)

pub bases_of_works : (ws : List Work) → map (λ (w : Work). w.base) ws ≡ map (λ (w : PlainWork). w.base) (map work_of ws)
bases_of_works [] = refl
bases_of_works (w ∷ ws) = ap (λ l. w.base ∷ l) (bases_of_works ws)
