-- Lemmas: what a machine holds is reached.
use Rattle.std.proofs.Common.{◌≡◌, ℕ, ◌+◌, ◌<◌, List, [], ◌∷◌, ◌++◌, Some, length, map, slice_get, sum_by, refl, sym, ap, ◌∙◌, arith, subst as transport}
use Rattle.std.specs.List.{AllByRecursion}
use Rattle.std.specs.Prelude.{IsTrue, ◌↔◌}
use Rattle.ic_term.specs.Configuration.{Configuration, configuration_names, occurrences}
use Rattle.ic_term.specs.Symbol.{is_over}
use Rattle.ic_rules.specs.Rule.{Rule}
use Rattle.ic_rules.specs.RuleSet.{Rules, IsRuleSet}
use Rattle.ic_round.specs.Naming.{HasNames}
use Rattle.ic_round.specs.Quiet.{IsQuiet}
use Rattle.ic_reaching.specs.OneNet.{OneNet}
use Rattle.ic_reaching.specs.Reaching.{Reaches}
use Rattle.ic_arena.specs.declared.word.Word.{Word}
use Rattle.ic_arena.specs.declared.word.TheConstants.{GIVEN}
use Rattle.ic_arena.specs.Piece.{Piece, equated, idle, waits, agent_of, room, uses}
use Rattle.ic_machine.specs.declared.equation.Equation.{Equation}
use Rattle.ic_machine.specs.Net.{Net, pieces, equated_of, IsStuck, IsAtPlace}
use Rattle.ic_machine.specs.Plan.{Planned, Plans, ArePlans, IsPlan}
use Rattle.ic_machine.specs.Runs.{Begins}
use Rattle.ic_machine.specs.Separate.{IsSeparate}
use Rattle.ic_machine.specs.Steps.{Steps}
use Rattle.ic_machine.specs.lemmas.Balance.{steps_balance}
use Rattle.ic_machine.specs.lemmas.RunsOn.{ran_steps}
use Rattle.ic_machine.specs.lemmas.StepsOn.{steps_through}
use Rattle.ic_meaning.specs.Words.{Numbers, AreNumbers}
use Rattle.ic_meaning.specs.Nets.{net_of, AreNetPieces, IsStuckPiece}
use Rattle.ic_meaning.specs.Plans.{ArePlansOf, StandsForNet, rule_number}
use Rattle.ic_in_place.proofs.Onward.{all_of_both}
use Rattle.ic_in_place.specs.Holding.{AreGiven, AreCompiled, HasRun, Holds, HasEnded}

-- what the laws say that this one builds on
pub record HeldLaws : Type 0 where
  pub itself : (rs : List Rule) (c : Configuration) → HasNames c → Reaches rs c c []
  pub net : (rs : List Rule) (c d e : Configuration) (fired : List ℕ) → Reaches rs c d fired → OneNet d e → Reaches rs c e fired
  pub names : (rs : List Rule) (c d : Configuration) (fired : List ℕ) → Reaches rs c d fired → HasNames d
  pub begun : (arities given : List ℕ) (c : Configuration) (p : Planned) (operands : List ℕ) (interface : List Word) (ps : List Piece)
      → length arities < GIVEN → HasNames c → IsPlan arities (length given) p → StandsForNet arities given c p operands
      → Begins arities (length given) p operands interface ps
      → (n : Numbers) × (n.arities ≡ arities) × (n.given ≡ given) × AreNumbers n × OneNet c (net_of n interface ps)
  pub first : (arities : List ℕ) (given : ℕ) (p : Planned) (operands : List ℕ) (interface : List Word) (ps : List Piece) → IsPlan arities given p
      → Begins arities given p operands interface ps → IsSeparate arities interface ps → AreNetPieces arities interface ps
  pub reached : (rs : Rules) (numbers : List ℕ) (p : Plans) (n : Numbers) (c : Configuration) (i : List Word) (fired : List ℕ) (xs ys : List Piece) (before : List ℕ)
      → IsRuleSet rs → IsTrue (is_over rs.symbols c) → HasNames c → ArePlans p → ArePlansOf rs numbers p → AreNumbers n → n.arities ≡ p.arities
      → AreNetPieces n.arities i xs → Reaches rs.rules c (net_of n i xs) before → Steps p fired xs ys
      → Reaches rs.rules c (net_of n i ys) (before ++ map (rule_number numbers) fired)
  pub kept : (p : Plans) (i : List Word) (fired : List ℕ) (xs ys : List Piece) → ArePlans p → AreNetPieces p.arities i xs → Steps p fired xs ys → AreNetPieces p.arities i ys
  pub free : (rs : Rules) (c d : Configuration) (fired : List ℕ) → IsRuleSet rs → IsTrue (is_over rs.symbols c) → HasNames c → Reaches rs.rules c d fired
      → (x : ℕ) → (occurrences x (configuration_names c) ≡ 1) ↔ (occurrences x (configuration_names d) ≡ 1)
  pub quiet : (rs : Rules) (numbers : List ℕ) (p : Plans) (n : Numbers) (i : List Word) (ps : List Piece) → IsRuleSet rs → ArePlansOf rs numbers p → AreNumbers n
      → AreNetPieces n.arities i ps → HasNames (net_of n i ps) → AllByRecursion (IsStuckPiece p) ps
      → ((x : ℕ) → (occurrences x (configuration_names (net_of n i ps)) ≡ 1) ↔ ((j : ℕ) × (slice_get n.given j ≡ Some x)))
      → (e : Configuration) × OneNet (net_of n i ps) e × IsQuiet rs.rules e

-- what is separate after steps that fire nothing was so before
separate_before : (p : Plans) (i : List Word) (xs ys : List Piece) → Steps p [] xs ys → IsSeparate p.arities i ys → IsSeparate p.arities i xs
separate_before p i xs ys steps s = record {
  each = λ w place.
      let after = s.each w place in
      let same : sum_by (room w) xs + sum_by (uses w) ys ≡ sum_by (room w) ys + sum_by (uses w) xs = steps_balance p [] w xs ys refl steps in
      omega arith;
}

given_kept : (given : List ℕ) (c d : Configuration) → ((x : ℕ) → (occurrences x (configuration_names c) ≡ 1) ↔ (occurrences x (configuration_names d) ≡ 1))
    → AreGiven given c → AreGiven given d
given_kept given c d free are x = ((λ one. (are x).0 ((free x).1 one)), (λ found. (free x).0 ((are x).1 found)))

pub held_so : HeldLaws → (rs : Rules) (numbers : List ℕ) (p : Plans) (c : Configuration) (given : List ℕ) (plan : Planned) (operands : List ℕ) (m : Net)
    → IsRuleSet rs → IsTrue (is_over rs.symbols c) → HasNames c → AreCompiled rs numbers p c given plan operands
    → (run : HasRun p (length given) plan operands m) → Holds rs p c given (map (rule_number numbers) run.ran.fired) m
held_so laws rs numbers p c given plan operands m set over named compiled run =
    let start = run.starts in
    let i : List Word = run.first.interface in
    let fired : List ℕ = run.ran.fired in
    let all : List ℕ = map (rule_number numbers) fired in
    let begun = laws.begun p.arities given c plan operands i start.first compiled.few named compiled.is_plan compiled.stands start.begins in
    let n : Numbers = begun.0 in
    let same : n.arities ≡ p.arities = begun.1 in
    let apart : IsSeparate p.arities i start.first = separate_before p i start.first (pieces run.first) start.steps run.separate in
    let are : AreNetPieces p.arities i start.first = laws.first p.arities (length given) plan operands i start.first compiled.is_plan start.begins apart in
    let steps : Steps p fired start.first (pieces m) = steps_through p [] fired start.first (pieces run.first) (pieces m) start.steps (ran_steps p run.first m run.ran) in
    let from : Reaches rs.rules c (net_of n i start.first) [] = laws.net rs.rules c c (net_of n i start.first) [] (laws.itself rs.rules c named) begun.4 in
    let reached : Reaches rs.rules c (net_of n i (pieces m)) all = laws.reached rs numbers p n c i fired start.first (pieces m) [] set over named compiled.plans compiled.of_rules begun.3 same
    (transport (λ (a : List ℕ). AreNetPieces a i start.first) (sym same) are) from steps in
    let here : Reaches rs.rules c (net_of n m.interface (pieces m)) all =
    transport (λ (j : List Word). Reaches rs.rules c (net_of n j (pieces m)) all) (sym run.ran.interface) reached in
    record {
      numbers = n;
      sound = begun.3;
      arities = same;
      names = begun.2;
      are_pieces = transport (λ (j : List Word). AreNetPieces p.arities j (pieces m)) (sym run.ran.interface) (laws.kept p i fired start.first (pieces m) compiled.plans are steps);
      has_names = laws.names rs.rules c (net_of n m.interface (pieces m)) all here;
      reached = here;
      free = given_kept given c (net_of n m.interface (pieces m)) (laws.free rs c (net_of n m.interface (pieces m)) all set over named here) compiled.free;
    }

stuck_pieces : (p : Plans) (es : List Equation) → AllByRecursion (IsStuck p) es → AllByRecursion (IsStuckPiece p) (map equated_of es)
stuck_pieces p [] all = tt
stuck_pieces p (e ∷ es) all = (all.0, stuck_pieces p es all.1)

stuck_place : (p : Plans) (x : Piece) → IsAtPlace x → IsStuckPiece p x
stuck_place p (equated l r) at = absurd at
stuck_place p (idle x) at = tt
stuck_place p (waits x u) at = tt
stuck_place p (agent_of a ws) at = tt

stuck_places : (p : Plans) (xs : List Piece) → AllByRecursion IsAtPlace xs → AllByRecursion (IsStuckPiece p) xs
stuck_places p [] all = tt
stuck_places p (x ∷ xs) all = (stuck_place p x all.0, stuck_places p xs all.1)

-- where a run has ended, all that is left is stuck
pub all_stuck : (p : Plans) (given : ℕ) (plan : Planned) (operands : List ℕ) (m : Net) → HasRun p given plan operands m → HasEnded m
    → AllByRecursion (IsStuckPiece p) (pieces m)
all_stuck p given plan operands m run ended =
    let aside : m.aside ≡ run.ran.more = run.ran.aside ∙ ap (λ l. l ++ run.ran.more) run.aside in
    let stuck : AllByRecursion (IsStuck p) m.aside = transport (AllByRecursion (IsStuck p)) (sym aside) run.ran.stuck in
    let none : AllByRecursion (IsStuckPiece p) (map equated_of m.pending) =
    transport (λ (es : List Equation). AllByRecursion (IsStuckPiece p) (map equated_of es)) (sym ended.pending) tt in
    all_of_both (IsStuckPiece p) (map equated_of m.pending) (map equated_of m.aside ++ m.places) none
    (all_of_both (IsStuckPiece p) (map equated_of m.aside) m.places (stuck_pieces p m.aside stuck) (stuck_places p m.places ended.places))

pub ends_so : HeldLaws → (rs : Rules) (numbers : List ℕ) (p : Plans) (c : Configuration) (given fired : List ℕ) (plan : Planned) (operands : List ℕ) (m : Net)
    → IsRuleSet rs → AreCompiled rs numbers p c given plan operands → HasRun p (length given) plan operands m → HasEnded m
    → (held : Holds rs p c given fired m) → (e : Configuration) × OneNet (net_of held.numbers m.interface (pieces m)) e × IsQuiet rs.rules e
ends_so laws rs numbers p c given fired plan operands m set compiled run ended held =
    let n : Numbers = held.numbers in
    laws.quiet rs numbers p n m.interface (pieces m) set compiled.of_rules held.sound
    (transport (λ (a : List ℕ). AreNetPieces a m.interface (pieces m)) (sym held.arities) held.are_pieces) held.has_names
    (all_stuck p (length given) plan operands m run ended)
    (transport (λ (g : List ℕ). AreGiven g (net_of n m.interface (pieces m))) (sym held.names) held.free)
