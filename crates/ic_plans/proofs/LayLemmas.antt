-- Terms whose agents are made in a builder: what a word more does.
use Rattle.std.proofs.Common.{◌≡◌, ℕ, zero, suc, ◌+◌, ◌≤◌, ◌<◌, List, [], ◌∷◌, ◌++◌, length, map, take, drop, refl, sym, ap, subst, ◌∙◌, arith}
use Rattle.std.specs.Prelude.{IsPermutation}
use Rattle.std.proofs.lemmas.List.{length_push}
use Rattle.std.specs.List.{AllByRecursion}
use Rattle.ic_flat.specs.declared.word.Word.{Word}
use Rattle.ic_flat.specs.declared.word.Word.TheVariants.{Name, Agent}
use Rattle.ic_rules.specs.System.{SystemParts}
use Rattle.ic_term.specs.Symbol.{Symbol}
use Rattle.ic_machine.specs.declared.plan.Link.{Link}
use Rattle.ic_machine.specs.Building.{Building, Builds, CanBegin}
use Rattle.ic_machine.specs.Net.{Net}
use Rattle.ic_machine.specs.Plan.{Made, Plans}
use Rattle.ic_machine.specs.Runs.{IsStart, Starts}
use Rattle.ic_plans.specs.Beginning.{BeginsWith}
use Rattle.ic_plans.specs.inner.Flattening.{IsRead}
use Rattle.ic_plans.specs.inner.Laying.{AreLaid, IsKnown, IsLaidOut}
use Rattle.ic_plans.proofs.FlatLemmas.{all_imply, put-agent, put-constant, put-name}
use Rattle.ic_plans.proofs.GenerationLemmas.{stands_with, start_with, with_links}

-- the symbol of a word that is read is known
pub known_of : (arities : List ℕ) (registers : ℕ → ℕ) (first : ℕ) (w : Word) → IsRead arities registers first w → IsKnown arities w
known_of arities registers first (Name x) read = tt
known_of arities registers first (Agent s n) read = read

pub read_from : (arities : List ℕ) (registers : ℕ → ℕ) (first i : ℕ) (ws : List Word) → AllByRecursion (IsRead arities registers first) ws
    → AllByRecursion (IsRead arities registers first) (drop i ws)
read_from arities registers first zero ws read = read
read_from arities registers first (suc i) [] read = tt
read_from arities registers first (suc i) (w ∷ ws) read = read_from arities registers first i ws read.1

module _ (arities : List ℕ) (registers : ℕ → ℕ) (given names : ℕ) (ws : List Word) (a : Building) (operands after : List ℕ) (word : Word)
    (laid : AreLaid arities registers given names ws a operands) where
  -- these registers are filled
  pub laid_filled : AllByRecursion (IsRead arities registers (length arities + given + names)) ws
      → AllByRecursion (λ k. k < length a.registers) operands
  laid_filled read =
      let flat = laid.flat (omega arith) read in
      let all = laid.count in
      all_imply (λ k. k < length arities + given + names + length laid.made) (λ k. k < length a.registers) operands (λ k low. omega arith) flat.within

  pub laid_name : (x : ℕ) → word ≡ Name x → after ≡ registers x ∷ operands → AreLaid arities registers given names (word ∷ ws) a after
  laid_name x is put = record {
    made = laid.made;
    builds = laid.builds;
    arities_are = laid.arities_are;
    count = laid.count;
    flat = put-name arities registers (length arities + given + names) ws laid.made operands after word x is put laid.flat;
  }

  pub laid_constant : (s : ℕ) → word ≡ Agent s 0 → after ≡ s ∷ operands → AreLaid arities registers given names (word ∷ ws) a after
  laid_constant s is put = record {
    made = laid.made;
    builds = laid.builds;
    arities_are = laid.arities_are;
    count = laid.count;
    flat = put-constant arities registers (length arities + given + names) ws laid.made operands after word s is put laid.flat;
  }

  pub laid_agent : (b : Building) (s n : ℕ) (m : Made) → word ≡ Agent s n → 1 ≤ n → n ≤ length operands
      → m ≡ record { symbol = s; operands = take n operands }
      → ((g f : ℕ) (made : List Made) → Builds g f made a → Builds g f (made ++ m ∷ []) b)
      → b.arities ≡ a.arities → length b.registers ≡ length a.registers + 1 → after ≡ length a.registers ∷ drop n operands
      → AreLaid arities registers given names (word ∷ ws) b after
  laid_agent b s n m is some enough made_is builds same longer put =
      let first : ℕ = length arities + given + names in
      let all = length_push laid.made m in
      let old = laid.count in
      record {
        made = laid.made ++ m ∷ [];
        builds = builds given names laid.made laid.builds;
        arities_are = same ∙ laid.arities_are;
        count = omega arith;
        flat = put-agent arities registers first ws laid.made (laid.made ++ m ∷ []) operands after word s n is some enough
            (ap (λ (x : Made). laid.made ++ x ∷ []) made_is) (put ∙ ap (λ (k : ℕ). k ∷ drop n operands) laid.count) laid.flat;
      }

-- ---- what a builder has made begins a machine

module _ (s : SystemParts) (given : List ℕ) (names : ℕ) (interface : List ℕ) (links : List Link) (b : Building)
    (laid : IsLaidOut (map (λ (x : Symbol). x.arity) s.rules.symbols) given s.config names interface links b) where
  abbrev pub can_begin : CanBegin links interface b
  can_begin = record {
    given = length given;
    plan = laid.plan;
    links_are = laid.links_are;
    builds = laid.builds;
    start = subst (λ (a : List ℕ). IsStart a (length given) laid.plan interface) (sym laid.arities_are) laid.start;
  }

  abbrev pub begins_with : (p : Plans) (n : Net) → Starts p (length given) laid.plan interface n → BeginsWith s p given n
  begins_with p n starts = record {
    plan = laid.plan;
    operands = interface;
    start = laid.start;
    stands = laid.stands;
    starts = starts;
  }

  -- so it does with links in another order
  abbrev pub laid_with : (more : List Link) → IsPermutation links more
      → IsLaidOut (map (λ (x : Symbol). x.arity) s.rules.symbols) given s.config names interface more b
  laid_with more moved =
      let order = subst (λ (l : List Link). IsPermutation l more) (sym laid.links_are) moved in
      record {
        plan = with_links laid.plan more;
        names_are = laid.names_are;
        links_are = refl;
        arities_are = laid.arities_are;
        builds = laid.builds;
        start = start_with (map (λ (x : Symbol). x.arity) s.rules.symbols) (length given) laid.plan more interface order laid.start;
        stands = stands_with (map (λ (x : Symbol). x.arity) s.rules.symbols) given s.config laid.plan more interface order laid.stands;
      }
