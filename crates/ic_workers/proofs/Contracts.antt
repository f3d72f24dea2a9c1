-- Lemmas: what the contracts of machines say, as what parts gave, shipped and took.
use Rattle.std.proofs.Common.{◌++◌, ◌∙◌, ◌∷◌, ◌≡◌, ℕ, List, [], ap, arith, refl, subst as transport, sum_by, sym}
use Rattle.std.proofs.lemmas.List.Sums.{sum_by-cons}
use Rattle.ic_arena.specs.Piece.{Piece, agent_of, equated, idle, waits}
use Rattle.ic_arena.specs.Word.{name_word}
use Rattle.ic_arena.specs.declared.word.Word.{Word}
use Rattle.ic_machine.specs.declared.equation.Equation.{Equation}
use Rattle.ic_meaning.specs.Nets.{holds}
use Rattle.ic_machine.specs.Moving.{Packs, Ships, Spells, Unpacks, side_of, sides_of, tells}
use Rattle.ic_workers.specs.Parts.{Part}
use Rattle.ic_workers.specs.inner.Sent.{Took, SameBut, SameCounts, Gave, Shipped}

tells_holds : (w : Word) (ps : List Piece) → sum_by (holds w) ps ≡ sum_by (tells w) ps
tells_holds w [] = refl
tells_holds w (p ∷ ps) =
    let a = sum_by-cons (holds w) p ps in
    let b = sum_by-cons (tells w) p ps in
    let here = one p in
    let rest = tells_holds w ps in
    omega (arith, a, b, here, rest)
  where
    one : (p : Piece) → holds w p ≡ tells w p
    one (equated l r) = refl
    one (idle x) = refl
    one (waits x u) = refl
    one (agent_of a ws) = refl

-- What was unpacked, a part took.
pub took : (arities : List ℕ) (words : List Word) (b d : Part) → d.number ≡ b.number → b.net.arities ≡ arities
    → Unpacks words b.net d.net b.borders d.borders → Took arities words b d
took arities words b d number same unpacks = record {
  number = number;
  interface = unpacks.interface;
  same_arities = unpacks.arities;
  equations = unpacks.equations;
  places = unpacks.places;
  spells = transport (λ (l : List ℕ). Spells l (record { places = unpacks.places; ends = d.borders.ends }) (side_of b.net b.borders) (sides_of unpacks.equations) words)
      same unpacks.spells;
  once = λ w. let same = tells_holds w unpacks.places in let few = unpacks.once w in omega (arith, same, few);
  linked = unpacks.linked;
}

-- a part counts what it counted
pub took_counts : (words : List Word) (b d : Part) → Unpacks words b.net d.net b.borders d.borders → SameCounts b d
took_counts words b d unpacks = record { interactions = unpacks.interactions; counts = unpacks.counts }

-- What was packed, a part gave.
pub gave : (arities : List ℕ) (es : List Equation) (words : List Word) (a c : Part) → SameBut a c → a.net.pending ≡ es ++ c.net.pending → c.net.aside ≡ a.net.aside
    → Packs arities es (side_of a.net a.borders) (side_of c.net c.borders) [] words → Gave arities es words a c
gave arities es words a c same pending aside packs = record {
  same = same;
  pending = pending;
  aside = aside;
  spells = transport (λ (l : List Word). Spells arities (side_of a.net a.borders) (side_of c.net c.borders) (sides_of es) l) (sym packs.spelled) packs.spells;
}

-- What waited for a cut, a part shipped.
pub ship : (arities : List ℕ) (number : ℕ) (words : List Word) (a c : Part) → SameBut a c → c.net.pending ≡ a.net.pending → c.net.aside ≡ a.net.aside
    → Ships arities number (side_of a.net a.borders) (side_of c.net c.borders) [] words → Shipped arities words a c
ship arities number words a c same pending aside ships = record {
  same = same;
  pending = pending;
  aside = aside;
  end = ships.end;
  word = ships.word;
  middle = ships.middle;
  taken = ships.taken;
  cut = ships.cut;
  more = ships.more;
  spelled = ships.spelled ∙ ap (λ (k : ℕ). name_word k ∷ ships.more) (sym ships.is);
  spells = ships.spells;
}
