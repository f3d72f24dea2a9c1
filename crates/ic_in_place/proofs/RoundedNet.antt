-- Lemmas: a machine that has made rounds holds the net of as many rounds of its configuration.
use Rattle.std.proofs.Common.{◌≡◌, ℕ, ◌+◌, ◌<◌, List, [], ◌∷◌, ◌++◌, length, map, sum_by, refl, sym, arith, subst as transport}
use Rattle.std.specs.Prelude.{IsTrue}
use Rattle.ic_term.specs.Configuration.{Configuration}
use Rattle.ic_term.specs.Symbol.{is_over}
use Rattle.ic_rules.specs.RuleSet.{Rules, IsRuleSet}
use Rattle.ic_round.specs.Naming.{HasNames}
use Rattle.ic_round.specs.Rounds.{iterate}
use Rattle.ic_reaching.specs.OneNet.{OneNet}
use Rattle.ic_reaching.specs.Reaching.{Reaches}
use Rattle.ic_arena.specs.declared.word.Word.{Word}
use Rattle.ic_arena.specs.declared.word.TheConstants.{GIVEN}
use Rattle.ic_arena.specs.Piece.{Piece, room, uses}
use Rattle.ic_machine.specs.declared.generation.Generation.{Generation}
use Rattle.ic_machine.specs.Net.{Net, pieces}
use Rattle.ic_machine.specs.Plan.{Planned, Plans, ArePlans, IsPlan}
use Rattle.ic_machine.specs.Runs.{Starts, Ran}
use Rattle.ic_machine.specs.Separate.{IsSeparate}
use Rattle.ic_machine.specs.Steps.{Steps}
use Rattle.ic_machine.specs.lemmas.Balance.{steps_balance}
use Rattle.ic_machine.specs.lemmas.RunsOn.{ran_steps}
use Rattle.ic_meaning.specs.Words.{Numbers, AreNumbers}
use Rattle.ic_meaning.specs.Nets.{net_of, ArePieces, AreNetPieces}
use Rattle.ic_meaning.specs.Plans.{ArePlansOf, StandsForNet, rule_number}
use Rattle.ic_meaning.specs.First.{LinksPairsFirst}
use Rattle.ic_in_place.specs.Holding.{AreGiven, AreCompiled, Holds}
use Rattle.ic_meaning.specs.Generations.{FireAsRounds}
use Rattle.ic_meaning.specs.InPlace.{AreRounds}
use Rattle.ic_in_place.specs.Rounds.{AreOver, none_yet, some, EndsAfter}
use Rattle.ic_in_place.specs.Stopping.{IsBegun}
use Rattle.ic_in_place.specs.declared.running.End.{End}
use Rattle.ic_in_place.proofs.Holding.{HeldLaws}

-- what the laws say that this one builds on
pub record LawsOfRounds : Type 0 where
  pub held : HeldLaws
  pub other_way : (c d : Configuration) → OneNet c d → OneNet d c
  pub through : (c d e : Configuration) → OneNet c d → OneNet d e → OneNet c e
  pub linked : (p : Plans) (n : Numbers) (i : List Word) (xs ys : List Piece) → HasNames (net_of n i xs) → ArePieces n.arities xs → Steps p [] xs ys
      → OneNet (net_of n i xs) (net_of n i ys)
  pub rounds : (rs : Rules) (numbers given operands : List ℕ) (p : Plans) (c : Configuration) (plan : Planned) (pairs : ℕ) (first m : Net) (over : List (List ℕ)) (now : List ℕ) (g : Generation)
      → IsRuleSet rs → IsTrue (is_over rs.symbols c) → HasNames c → ArePlans p → ArePlansOf rs numbers p → length p.arities < GIVEN
      → IsPlan p.arities (length given) plan → StandsForNet p.arities given c plan operands → AreGiven given c
      → LinksPairsFirst p.arities (length given) plan pairs → Starts p (length given) plan operands first
      → IsSeparate p.arities first.interface (pieces first) → first.aside ≡ [] → AreRounds p first pairs over now g m → g.end ≡ 0
      → (n : Numbers) × (n.arities ≡ p.arities) × (n.given ≡ given) × AreNumbers n × OneNet c (net_of n first.interface (pieces first))
      × AreNetPieces n.arities m.interface (pieces m) × OneNet (net_of n m.interface (pieces m)) (iterate rs.rules (length over + 1) c) × FireAsRounds rs.rules numbers (over ++ now ∷ []) c

-- what is separate after steps that fire nothing was so before
separate_before : (p : Plans) (i : List Word) (xs ys : List Piece) → Steps p [] xs ys → IsSeparate p.arities i ys → IsSeparate p.arities i xs
separate_before p i xs ys steps s = record {
  each = λ w place.
      let after = s.each w place in
      let same : sum_by (room w) xs + sum_by (uses w) ys ≡ sum_by (room w) ys + sum_by (uses w) xs = steps_balance p [] w xs ys refl steps in
      omega (arith, after, same);
}

-- numbers of places, by which the first net is the configuration, and the net then is that of its rounds
record Numbered (rs : Rules) (numbers : List ℕ) (p : Plans) (c : Configuration) (given : List ℕ) (first last : Net) (made : List (List ℕ)) : Type 0 where
  n : Numbers
  arities : n.arities ≡ p.arities
  names : n.given ≡ given
  sound : AreNumbers n
  begun : OneNet c (net_of n first.interface (pieces first))
  are : AreNetPieces n.arities last.interface (pieces last)
  net : OneNet (net_of n last.interface (pieces last)) (iterate rs.rules (length made) c)
  rules : FireAsRounds rs.rules numbers made c

-- what a machine holds then, and that it is the net of as many rounds where no pair has fired since
pub record RoundedNet (rs : Rules) (numbers : List ℕ) (p : Plans) (c : Configuration) (given : List ℕ) (made : List (List ℕ)) (first last new : Net) (ran : Ran p first new) (since : Ran p last new) : Type 0 where
  pub held : Holds rs p c given (map (rule_number numbers) ran.fired) new
  pub rules : FireAsRounds rs.rules numbers made c
  pub none : ran.fired ≡ [] → OneNet (net_of held.numbers new.interface (pieces new)) c
  pub net : since.fired ≡ [] → OneNet (net_of held.numbers new.interface (pieces new)) (iterate rs.rules (length made) c)

one_more_made : (over : List (List ℕ)) (now : List ℕ) → length over + 1 ≡ length (over ++ now ∷ [])
one_more_made [] now = refl
one_more_made (f ∷ over) now = let rest = one_more_made over now in omega (arith, rest)

module _ (laws : LawsOfRounds) (rs : Rules) (numbers : List ℕ) (p : Plans) (c : Configuration) (given : List ℕ) (plan : Planned) (operands : List ℕ) (pairs : ℕ) (first : Net)
    (set : IsRuleSet rs) (over_symbols : IsTrue (is_over rs.symbols c)) (named : HasNames c) (compiled : AreCompiled rs numbers p c given plan operands)
    (is_begun : IsBegun p (length given) plan operands first) (firsts : LinksPairsFirst p.arities (length given) plan pairs) where
  abbrev start : Starts p (length given) plan operands first
  start = is_begun.starts

  abbrev i : List Word
  i = first.interface

  made_pieces : AreNetPieces p.arities i start.first
  made_pieces = laws.held.first p.arities (length given) plan operands i start.first compiled.is_plan start.begins (separate_before p i start.first (pieces first) start.steps is_begun.separate)

  first_pieces : AreNetPieces p.arities i (pieces first)
  first_pieces = laws.held.kept p i [] start.first (pieces first) compiled.plans made_pieces start.steps

  numbered : (made : List (List ℕ)) (last : Net) → AreOver p first pairs made last → Numbered rs numbers p c given first last made
  numbered made last none_yet =
      let begun = laws.held.begun p.arities given c plan operands i start.first compiled.few named compiled.is_plan compiled.stands start.begins in
      let n = begun.0 in
      let made_are = transport (λ (a : List ℕ). AreNetPieces a i start.first) (sym begun.1) made_pieces in
      let on = laws.linked p n i start.first (pieces first) begun.4.names_too made_are.each start.steps in
      let net = laws.through c (net_of n i start.first) (net_of n i (pieces first)) begun.4 on in
      record {
        n = n;
        arities = begun.1;
        names = begun.2;
        sound = begun.3;
        begun = net;
        are = transport (λ (a : List ℕ). AreNetPieces a i (pieces first)) (sym begun.1) first_pieces;
        net = laws.other_way c (net_of n i (pieces first)) net;
        rules = tt;
      }
  numbered made last (some over now g m so_far done) =
      let all = laws.rounds rs numbers given operands p c plan pairs first m over now g set over_symbols named compiled.plans compiled.of_rules compiled.few compiled.is_plan compiled.stands compiled.free
      firsts start is_begun.separate is_begun.aside so_far done in
      record {
        n = all.0;
        arities = all.1;
        names = all.2;
        sound = all.3;
        begun = all.4;
        are = all.5;
        net = transport (λ (k : ℕ). OneNet (net_of all.0 m.interface (pieces m)) (iterate rs.rules k c)) (one_more_made over now) all.6;
        rules = all.7;
      }

  held_by : (n : Numbers) → n.arities ≡ p.arities → n.given ≡ given → AreNumbers n → OneNet c (net_of n i (pieces first)) → (new : Net) → (ran : Ran p first new)
      → (h : Holds rs p c given (map (rule_number numbers) ran.fired) new) × (h.numbers ≡ n)
  held_by n same names sound begun new ran =
      let all = map (rule_number numbers) ran.fired in
      let from : Reaches rs.rules c (net_of n i (pieces first)) [] = laws.held.net rs.rules c c (net_of n i (pieces first)) [] (laws.held.itself rs.rules c named) begun in
      let steps = ran_steps p first new ran in
      let reached : Reaches rs.rules c (net_of n i (pieces new)) all = laws.held.reached rs numbers p n c i ran.fired (pieces first) (pieces new) [] set over_symbols named compiled.plans compiled.of_rules sound same
      (transport (λ (a : List ℕ). AreNetPieces a i (pieces first)) (sym same) first_pieces) from steps in
      let here : Reaches rs.rules c (net_of n new.interface (pieces new)) all = transport (λ (j : List Word). Reaches rs.rules c (net_of n j (pieces new)) all) (sym ran.interface) reached in
      let free = laws.held.free rs c (net_of n new.interface (pieces new)) all set over_symbols named here in (
        record {
          numbers = n;
          sound = sound;
          arities = same;
          names = names;
          are_pieces = transport (λ (j : List Word). AreNetPieces p.arities j (pieces new)) (sym ran.interface) (laws.held.kept p i ran.fired (pieces first) (pieces new) compiled.plans first_pieces steps);
          has_names = laws.held.names rs.rules c (net_of n new.interface (pieces new)) all here;
          reached = here;
          free = λ x. ((λ one. (compiled.free x).0 ((free x).1 one)), (λ found. (free x).0 ((compiled.free x).1 found)));
        },
        refl,
      )

  pub rounded_net : (most rounds : ℕ) (end : End) (new : Net) (e : EndsAfter p pairs most rounds end first new) → RoundedNet rs numbers p c given e.made first e.last new e.ran e.since
  rounded_net most rounds end new e =
      let at = numbered e.made e.last e.over in
      let h = held_by at.n at.arities at.names at.sound at.begun new e.ran in
      record {
        held = h.0;
        rules = at.rules;
        none = λ none.
            let steps : Steps p [] (pieces first) (pieces new) = transport (λ (l : List ℕ). Steps p l (pieces first) (pieces new)) none (ran_steps p first new e.ran) in
            let are = transport (λ (a : List ℕ). AreNetPieces a i (pieces first)) (sym at.arities) first_pieces in
            let on = laws.linked p at.n i (pieces first) (pieces new) at.begun.names_too are.each steps in
            let back = laws.other_way c (net_of at.n i (pieces new)) (laws.through c (net_of at.n i (pieces first)) (net_of at.n i (pieces new)) at.begun on) in
            let here : OneNet (net_of at.n new.interface (pieces new)) c = transport (λ (j : List Word). OneNet (net_of at.n j (pieces new)) c) (sym e.ran.interface) back in
            transport (λ (n : Numbers). OneNet (net_of n new.interface (pieces new)) c) (sym h.1) here;
        net = λ none.
            let steps : Steps p [] (pieces e.last) (pieces new) = transport (λ (l : List ℕ). Steps p l (pieces e.last) (pieces new)) none (ran_steps p e.last new e.since) in
            let on = laws.linked p at.n e.last.interface (pieces e.last) (pieces new) at.net.names at.are.each steps in
            let back = laws.through (net_of at.n e.last.interface (pieces new)) (net_of at.n e.last.interface (pieces e.last)) (iterate rs.rules (length e.made) c)
            (laws.other_way (net_of at.n e.last.interface (pieces e.last)) (net_of at.n e.last.interface (pieces new)) on) at.net in
            let here : OneNet (net_of at.n new.interface (pieces new)) (iterate rs.rules (length e.made) c) =
            transport (λ (j : List Word). OneNet (net_of at.n j (pieces new)) (iterate rs.rules (length e.made) c)) (sym e.since.interface) back in
            transport (λ (n : Numbers). OneNet (net_of n new.interface (pieces new)) (iterate rs.rules (length e.made) c)) (sym h.1) here;
      }
