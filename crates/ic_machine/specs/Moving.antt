-- What moves from one machine to another: trees that hang below words, spelled in prefix order. A name that two machines have,
-- once each, is a cut. It has a number, and in each of both an end.
use Rattle.std.specs.Prelude.{◌≡◌, ◌⊎◌, ℕ, ◌+◌, ◌-◌, ◌*◌, ◌%◌, ◌==◌, ◌&&◌, ◌≤◌, List, [], ◌∷◌, ◌++◌, true, length, map, max, count_by, sum_by, nat_le, if◌then◌else◌, Contains, IsPermutation}
use Rattle.std.specs.List.{flat_map}
use Rattle.ic_arena.specs.declared.word.Word.{Word}
use Rattle.ic_arena.specs.declared.word.TheConstants.{NAME}
use Rattle.ic_arena.specs.Word.{name_word, word_eq}
use Rattle.ic_arena.specs.Piece.{Piece, equated, idle, waits, agent_of, room}
use Rattle.ic_machine.specs.declared.equation.Equation.{Equation}
use Rattle.ic_machine.specs.declared.telling.Told.{Told}
use Rattle.ic_machine.specs.Held.{IsTagOf}
use Rattle.ic_machine.specs.Net.{Net, equated_of, in_use, pieces, places_of}
use Rattle.ic_machine.specs.Plan.{Plans}
use Rattle.ic_machine.specs.Separate.{is_constant_tag, IsSeparate}
use Rattle.ic_machine.specs.Steps.{Steps}

-- an end of a cut in a machine: the number of the cut, and the machine's name for it
pub record CutEnd : Type 0 where
  pub cut : ℕ
  pub name : ℕ

-- the name of a machine that is an end of a cut
abbrev pub end_word : CutEnd → Word
end_word e = name_word e.name

-- The ends that a machine has, and the numbers that it may give to cuts: those that have ended there, and from the next one on
-- each one so far apart.
pub record Ends : Type 0 where
  pub ends : List CutEnd
  pub ended : List ℕ
  pub next : ℕ
  pub step : ℕ

-- how often this number is in a list
abbrev pub times : ℕ → List ℕ → ℕ
times c ns = count_by (λ m. m == c) ns

-- how often this number may be given to a cut
abbrev pub spares : ℕ → Ends → ℕ
spares c b = times c b.ended + (if nat_le b.next c && (c - b.next) % b.step == 0 then 1 else 0)

-- What a machine has of a cut: each end is one, and its number while it is spare is two. Over all machines, and over what is on
-- its way between them, that is two for each number, or none.
abbrev pub worth : ℕ → Ends → ℕ
worth c b = times c (map (λ e. e.cut) b.ends) + 2 * spares c b

-- an agent as it is spelled: its place is of no matter
abbrev pub spelled_agent : Word → Word
spelled_agent a = record { tag = a.tag; index = 0 }

-- what a machine has beside equations: what is at its places, and ends of cuts
pub record Side : Type 0 where
  pub places : List Piece
  pub ends : List CutEnd

-- Words spell what hangs below some roots, one tree after another, and what hangs there is what the full side has and the
-- other one lacks. A name for which a word waits is spelled as that word, an agent before its arguments, and what names no
-- place as it is. Any other name is cut, and spelled by the number of the cut. If it was no end of a cut, it is one from then
-- on. If it was one, it is gone.
--
-- Read from the full side to the other one, this is how trees are packed. Read back, it is how they are unpacked.
pub data Spells (arities : List ℕ) : (full rest : Side) → (roots spelled : List Word) → Type 0 where
  nothing : (full rest : Side) → IsPermutation full.places rest.places → IsPermutation full.ends rest.ends
      → Spells arities full rest [] []
  follow : (full next rest : Side) (name word : Word) (ws ts : List Word) → name.tag ≡ NAME
      → IsPermutation full.places (waits name word ∷ next.places) → IsPermutation full.ends next.ends
      → Spells arities next rest (word ∷ ws) ts
      → Spells arities full rest (name ∷ ws) ts
  opened : (full next rest : Side) (agent : Word) (vs ws ts : List Word)
      → IsTagOf arities agent.tag (length vs)
      → IsPermutation full.places (agent_of agent vs ∷ next.places) → IsPermutation full.ends next.ends
      → Spells arities next rest (vs ++ ws) ts
      → Spells arities full rest (agent ∷ ws) (spelled_agent agent ∷ ts)
  plain : (full rest : Side) (w : Word) (ws ts : List Word) → is_constant_tag arities w.tag ≡ true
      → Spells arities full rest ws ts
      → Spells arities full rest (w ∷ ws) (w ∷ ts)
  cut : (full next rest : Side) (e : CutEnd) (ws ts : List Word)
      → IsPermutation full.places next.places → IsPermutation (e ∷ full.ends) next.ends
      → Spells arities next rest ws ts
      → Spells arities full rest (end_word e ∷ ws) (name_word e.cut ∷ ts)
  gone : (full next rest : Side) (e : CutEnd) (ws ts : List Word)
      → IsPermutation full.places (idle (end_word e) ∷ next.places)
      → IsPermutation full.ends (e ∷ next.ends)
      → Spells arities next rest ws ts
      → Spells arities full rest (end_word e ∷ ws) (name_word e.cut ∷ ts)

-- how often words spell a cut of this number
abbrev pub spells_cut : ℕ → List Word → ℕ
spells_cut c ts = count_by (λ w. w.tag == NAME && w.index == c) ts

-- the sides of equations, the left one of each before the right one
abbrev pub sides_of : List Equation → List Word
sides_of es = flat_map (λ e. e.left ∷ e.right ∷ []) es

-- what a machine holds at its places, with the ends of cuts that it has
abbrev pub side_of : Net → Ends → Side
side_of n b = record { places = n.places; ends = b.ends }

-- Another machine names the ends of cuts, too. With that each place is named no more often than it may be.
abbrev pub AreBordered : Net → Ends → Type 0
AreBordered n b = IsSeparate n.arities (n.interface ++ map end_word b.ends) (pieces n)

-- a name for which nothing waits
abbrev pub IsIdle : Piece → Type 0
IsIdle (equated l r) = ⊥
IsIdle (idle x) = Unit {0}
IsIdle (waits x u) = ⊥
IsIdle (agent_of a ws) = ⊥

-- Equations were taken out, and what hangs below their sides was spelled after what was spelled before.
pub record Packs (arities : List ℕ) (es : List Equation) (old new : Side) (before after : List Word)
    : Type 0 where
  pub more : List Word
  pub spelled : after ≡ before ++ more
  pub spells : Spells arities old new (sides_of es) more

-- The equation of a cut with the word that waits for it was taken out, and spelled as those of an equation are.
pub record Ships (arities : List ℕ) (number : ℕ) (old new : Side) (before after : List Word) : Type 0 where
  pub end : CutEnd
  pub is : end.cut ≡ number
  pub word : Word
  pub middle : Side
  pub taken : IsPermutation old.places (waits (end_word end) word ∷ middle.places)
  pub cut : IsPermutation old.ends (end ∷ middle.ends)
  pub more : List Word
  pub spelled : after ≡ before ++ name_word number ∷ more
  pub spells : Spells arities middle new (word ∷ []) more

-- No name is an end of this cut, or one is for which no word waits.
abbrev pub NothingWaits : ℕ → Side → Type 0
NothingWaits number s = (times number (map (λ e. e.cut) s.ends) ≡ 0)
    ⊎ ((name : ℕ) × Contains s.ends (record { cut = number; name = name })
    × ((w : Word) → ¬ Contains s.places (waits (name_word name) w)))

-- What waits for ends of these cuts was taken out, cut after cut.
pub data AreShipped (arities : List ℕ) : (numbers : List ℕ) → (old new : Side)
    → (before after : List Word) → Type 0 where
  no_more : (s : Side) (ws : List Word) → AreShipped arities [] s s ws ws
  shipped : (n : ℕ) (ns : List ℕ) (a b c : Side) (us vs ws : List Word) → Ships arities n a b us vs
      → AreShipped arities ns b c vs ws → AreShipped arities (n ∷ ns) a c us ws
  passed : (n : ℕ) (ns : List ℕ) (a b : Side) (us vs : List Word) → NothingWaits n a
      → AreShipped arities ns a b us vs → AreShipped arities (n ∷ ns) a b us vs

-- A word that waited for a name was taken out. The name waits for a new one from then on, which is equal to that word: this
-- equation was taken out.
pub record Opens (arities : List ℕ) (old new : Side) (before after : List Word) : Type 0 where
  pub name : Word
  pub fresh : Word
  pub word : Word
  pub others : List Piece
  pub named : (name.tag ≡ NAME) × (fresh.tag ≡ NAME)
  pub free : sum_by (room fresh) old.places ≡ 0
  pub waited : IsPermutation old.places (waits name word ∷ others)
  pub packs : Packs arities (record { left = fresh; right = word } ∷ [])
      (record { places = waits name fresh ∷ idle fresh ∷ others; ends = old.ends }) new before after

-- Words that waited for names were taken out, one after another.
pub data AreOpened (arities : List ℕ) : (old new : Side) → (before after : List Word) → Type 0 where
  none_opened : (s : Side) (ws : List Word) → AreOpened arities s s ws ws
  one_opened : (a b c : Side) (us vs ws : List Word) → AreOpened arities a b us vs
      → Opens arities b c vs ws → AreOpened arities a c us ws

-- All was taken out: what waits for cuts, then these equations, and then what still waits for names.
pub record GivesAll (arities : List ℕ) (es : List Equation) (old new : Side)
    (before after : List Word) : Type 0 where
  pub first : Side
  pub second : Side
  pub with_cuts : List Word
  pub with_equations : List Word
  pub shipped : AreShipped arities (map (λ e. e.cut) old.ends) old first before with_cuts
  pub packs : Packs arities es first second with_cuts with_equations
  pub opened : AreOpened arities second new with_equations after

-- how often a piece says what is at a place
abbrev pub tells : Word → Piece → ℕ
tells w (equated l r) = 0
tells w (idle x) = if word_eq w x then 1 else 0
tells w (waits x u) = if word_eq w x then 1 else 0
tells w (agent_of a ws) = if word_eq w a then 1 else 0

-- Equations whose sides were spelled were put in, each place once, and linked. Of each kind there are as many places as before,
-- or as were in use by then.
pub record Unpacks (words : List Word) (old new : Net) (before after : Ends) : Type 0 where
  pub equations : List Equation
  pub places : List Piece
  pub spells : Spells old.arities (record { places = places; ends = after.ends }) (side_of old before)
      (sides_of equations) words
  pub once : (w : Word) → sum_by (tells w) places ≤ 1
  pub linked : (p : Plans) → Steps p []
      (map equated_of equations
      ++ (map equated_of old.pending ++ (map equated_of old.aside ++ places))) (pieces new)
  pub room : (kind : ℕ) → places_of kind new ≡ max (places_of kind old) (in_use kind places)
  pub symbols : length new.agents ≡ length old.agents
  pub arities : new.arities ≡ old.arities
  pub interface : new.interface ≡ old.interface
  pub interactions : new.interactions ≡ old.interactions
  pub counts : new.counts ≡ old.counts
  pub aside : new.aside ≡ old.aside

-- words that some machine for these symbols spelled
pub record AreSpelled (arities : List ℕ) (words : List Word) : Type 0 where
  pub full : Side
  pub rest : Side
  pub equations : List Equation
  pub spells : Spells arities full rest (sides_of equations) words

-- Nothing is lost of the numbers of cuts, and none is used for two.
abbrev pub KeepWorth : (old new : Ends) → (before after : List Word) → Type 0
KeepWorth old new before after = (c : ℕ)
    → worth c new + spells_cut c after ≡ worth c old + spells_cut c before

-- A cut was told: an end of it is here, and a word waits for that.
pub record IsTold (n : Net) (b : Ends) (t : Told) : Type 0 where
  pub name : ℕ
  pub end : Contains b.ends (record { cut = t.cut; name = name })
  pub word : Word
  pub waiting : Contains n.places (waits (name_word name) word)
