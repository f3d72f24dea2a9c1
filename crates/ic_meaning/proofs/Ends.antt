-- Lemmas: what a run ends with.
use Rattle.std.proofs.Common.{◌≡◌, ℕ, List, [], ◌++◌, Some, map, slice_get, sym, subst as transport}
use Rattle.std.specs.List.{AllByRecursion}
use Rattle.std.specs.Prelude.{IsTrue, ◌↔◌}
use Rattle.ic_term.specs.Configuration.{Configuration, configuration_names, occurrences}
use Rattle.ic_term.specs.Symbol.{is_over}
use Rattle.ic_rules.specs.Rule.{Rule}
use Rattle.ic_rules.specs.RuleSet.{Rules, IsRuleSet}
use Rattle.ic_round.specs.Naming.{HasNames}
use Rattle.ic_round.specs.Quiet.{IsQuiet}
use Rattle.ic_reaching.specs.OneNet.{OneNet}
use Rattle.ic_reaching.specs.Reaching.{Reaches}
use Rattle.ic_arena.specs.declared.word.Word.{Word}
use Rattle.ic_arena.specs.Piece.{Piece}
use Rattle.ic_machine.specs.Plan.{Plans, ArePlans}
use Rattle.ic_machine.specs.Steps.{Steps}
use Rattle.ic_meaning.specs.Words.{Numbers, AreNumbers}
use Rattle.ic_meaning.specs.Nets.{net_of, AreNetPieces, IsStuckPiece}
use Rattle.ic_meaning.specs.Plans.{ArePlansOf, rule_number}

-- what the laws say that this one builds on
pub record EndLaws : Type 0 where
  pub itself : (rs : List Rule) (c : Configuration) → HasNames c → Reaches rs c c []
  pub net : (rs : List Rule) (c d e : Configuration) (fired : List ℕ) → Reaches rs c d fired → OneNet d e → Reaches rs c e fired
  pub names : (rs : List Rule) (c d : Configuration) (fired : List ℕ) → Reaches rs c d fired → HasNames d
  pub reached : (rs : Rules) (numbers : List ℕ) (p : Plans) (n : Numbers) (c : Configuration) (i : List Word) (fired : List ℕ) (xs ys : List Piece) (before : List ℕ)
      → IsRuleSet rs → IsTrue (is_over rs.symbols c) → HasNames c → ArePlans p → ArePlansOf rs numbers p → AreNumbers n → n.arities ≡ p.arities
      → AreNetPieces n.arities i xs → Reaches rs.rules c (net_of n i xs) before → Steps p fired xs ys
      → Reaches rs.rules c (net_of n i ys) (before ++ map (rule_number numbers) fired)
  pub kept : (p : Plans) (i : List Word) (fired : List ℕ) (xs ys : List Piece) → ArePlans p → AreNetPieces p.arities i xs → Steps p fired xs ys → AreNetPieces p.arities i ys
  pub quiet : (rs : Rules) (numbers : List ℕ) (p : Plans) (n : Numbers) (i : List Word) (ps : List Piece) → IsRuleSet rs → ArePlansOf rs numbers p → AreNumbers n
      → AreNetPieces n.arities i ps → HasNames (net_of n i ps) → AllByRecursion (IsStuckPiece p) ps
      → ((x : ℕ) → (occurrences x (configuration_names (net_of n i ps)) ≡ 1) ↔ ((j : ℕ) × (slice_get n.given j ≡ Some x)))
      → (e : Configuration) × OneNet (net_of n i ps) e × IsQuiet rs.rules e
  pub free : (rs : Rules) (c d : Configuration) (fired : List ℕ) → IsRuleSet rs → IsTrue (is_over rs.symbols c) → HasNames c → Reaches rs.rules c d fired
      → (x : ℕ) → (occurrences x (configuration_names c) ≡ 1) ↔ (occurrences x (configuration_names d) ≡ 1)

pub ends_so : EndLaws → (rs : Rules) (numbers : List ℕ) (p : Plans) (n : Numbers) (c : Configuration) (i : List Word) (fired : List ℕ) (xs ys : List Piece)
    → IsRuleSet rs → IsTrue (is_over rs.symbols c) → HasNames c → ArePlans p → ArePlansOf rs numbers p → AreNumbers n → n.arities ≡ p.arities
    → ((x : ℕ) → (occurrences x (configuration_names c) ≡ 1) ↔ ((j : ℕ) × (slice_get n.given j ≡ Some x)))
    → AreNetPieces n.arities i xs → OneNet c (net_of n i xs) → Steps p fired xs ys → AllByRecursion (IsStuckPiece p) ys
    → (e : Configuration) × OneNet (net_of n i ys) e × IsQuiet rs.rules e × Reaches rs.rules c e (map (rule_number numbers) fired)
ends_so laws rs numbers p n c i fired xs ys set over named plans of_rules sound same given are begun steps stuck =
    let start = laws.net rs.rules c c (net_of n i xs) [] (laws.itself rs.rules c named) begun in
    let all : List ℕ = map (rule_number numbers) fired in
    let reached : Reaches rs.rules c (net_of n i ys) all = laws.reached rs numbers p n c i fired xs ys [] set over named plans of_rules sound same are start steps in
    let kept : AreNetPieces n.arities i ys =
    transport (λ (a : List ℕ). AreNetPieces a i ys) (sym same) (laws.kept p i fired xs ys plans (transport (λ (a : List ℕ). AreNetPieces a i xs) same are) steps) in
    let free = laws.free rs c (net_of n i ys) all set over named reached in
    let given_free : (x : ℕ) → (occurrences x (configuration_names (net_of n i ys)) ≡ 1) ↔ ((j : ℕ) × (slice_get n.given j ≡ Some x)) =
    (λ x. ((λ one. (given x).0 ((free x).1 one)), (λ found. (free x).0 ((given x).1 found)))) in
    let end = laws.quiet rs numbers p n i ys set of_rules sound kept (laws.names rs.rules c (net_of n i ys) all reached) stuck given_free in
    (end.0, end.1, end.2, laws.net rs.rules c (net_of n i ys) end.0 all reached end.1)
