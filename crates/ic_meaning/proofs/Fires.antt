-- Lemmas: where a plan that stands for a rule fires, the net fires by that rule.
use Rattle.std.proofs.Common.{◌≡◌, ℕ, zero, suc, ◌+◌, ◌-◌, ◌≤◌, ◌<◌, ◌==◌, List, [], ◌∷◌, ◌++◌, Bool, true, false, Option, None, Some, length, map, slice_get, refl, sym, ap, ◌∙◌, arith, subst as transport}
use Rattle.std.proofs.lemmas.Bool.{and_parts}
use Rattle.std.proofs.lemmas.List.{length-map}
use Rattle.std.specs.Cmp.{unsigned_Decides}
use Rattle.std.specs.List.{flat_map, AllByRecursion}
use Rattle.std.proofs.lemmas.Grind.{flat_map-append as flat_parts}
use Rattle.ic_term.specs.Tree.{Tree, name, agent, trees_of, list_of, Pair}
use Rattle.ic_term.specs.Configuration.{Configuration}
use Rattle.ic_term.specs.lemmas.TreeLaws.{list_of-trees_of}
use Rattle.ic_rules.specs.Rule.{Rule}
use Rattle.ic_rules.specs.RuleSet.{Rules}
use Rattle.ic_round.specs.Firing.{Active, oriented}
use Rattle.ic_round.specs.lemmas.ActiveRules.{FitsRule}
use Rattle.ic_arena.specs.declared.word.Word.{Word}
use Rattle.ic_arena.specs.Piece.{Piece, idle}
use Rattle.ic_arena.specs.Tables.{register}
use Rattle.ic_machine.specs.declared.plan.Link.{Link}
use Rattle.ic_machine.specs.Plan.{Made, Planned, Plans, AreMade, made_each, linked, link_operands, operands_of, pieces_made}
use Rattle.ic_meaning.specs.Words.{Numbers, AreNumbers, term}
use Rattle.ic_meaning.specs.Nets.{equations_of, IsAgentOf}
use Rattle.ic_meaning.specs.Plans.{met_as, linked_terms, IsPlanOf, IsOfRule}
use Rattle.ic_meaning.specs.lemmas.Orders.{all_front, all_back}
use Rattle.ic_meaning.specs.lemmas.Terms.{place_term}
use Rattle.ic_meaning.proofs.Registers.{held_in, registers_of, held_later, held_is, held_elsewhere}
use Rattle.ic_meaning.proofs.Taken.{made_pieces, ArePlaces}
use Rattle.ic_meaning.proofs.Settings.{FreeWord}
use Rattle.ic_meaning.proofs.Fired.{agent_term}

-- ---- the rule of a plan

pub record Found (rs : Rules) (numbers : List ℕ) (p : Plans) (place : ℕ) (found : Option (ℕ × Bool)) : Type 0 where
  pub rule : ℕ
  pub turned : Bool
  pub is : found ≡ Some (rule, turned)
  pub plan_of_rule : IsPlanOf rs numbers p place rule turned

pub rule_of_plan : (rs : Rules) (numbers : List ℕ) (p : Plans) (place : ℕ) (o : Option ℕ) (q : Option (ℕ × Bool)) → o ≡ Some place
    → IsOfRule rs numbers p o q → Found rs numbers p place q
rule_of_plan rs numbers p place None q e of = absurd (none_some e)
  where
    none_some : {X : Type 0} {x : X} → None ≡ Some x → ⊥
    none_some e = cc
rule_of_plan rs numbers p place (Some i) None e of = absurd of
rule_of_plan rs numbers p place (Some i) (Some (j, turned)) e of =
    let same : i ≡ place = cc in
    record {
      rule = j;
      turned = turned;
      is = refl;
      plan_of_rule = transport (λ (k : ℕ). IsPlanOf rs numbers p k j turned) same of;
    }

words_length : (n : Numbers) (ws : List Word) (k : ℕ) → (length (list_of (trees_of (map (term n) ws))) == k) ≡ true → length ws ≡ k
words_length n ws k is =
    let count = (unsigned_Decides (length (list_of (trees_of (map (term n) ws)))) k).0 is in
    sym (length-map ws (term n)) ∙ (sym (ap length (list_of-trees_of (map (term n) ws))) ∙ count)

pub fits_lengths : (n : Numbers) (l r : ℕ) (ls ks : List Word) (turned : Bool) (rule : Rule) (rules : List Rule) (place : ℕ) (active : Active)
    → oriented (agent_term n l ls) (agent_term n r ks) (Some (place, turned)) ≡ Some active → FitsRule rules active rule
    → (length ls ≡ length (met_as turned rule).left_args) × (length ks ≡ length (met_as turned rule).right_args)
fits_lengths n l r ls ks false rule rules place active is fits =
    let a : Active = record { rule = place; left = agent_term n l ls; right = agent_term n r ks } in
    let same : a ≡ active = cc in
    let one = transport (λ (b : Active). FitsRule rules b rule) (sym same) fits in
    (words_length n ls (length rule.left_args) (and_parts (l == rule.left) _ one.left).1, words_length n ks (length rule.right_args) (and_parts (r == rule.right) _ one.right).1)
fits_lengths n l r ls ks true rule rules place active is fits =
    let a : Active = record { rule = place; left = agent_term n r ks; right = agent_term n l ls } in
    let same : a ≡ active = cc in
    let one = transport (λ (b : Active). FitsRule rules b rule) (sym same) fits in
    (words_length n ls (length rule.right_args) (and_parts (l == rule.right) _ one.right).1, words_length n ks (length rule.left_args) (and_parts (r == rule.left) _ one.left).1)

-- ---- the pieces that are made

pub made_agent : (arities : List ℕ) (filled : ℕ) (ms : List Made) (vs : List Word) → map (λ v. v.tag) vs ≡ map (λ m. m.symbol + 1) ms → AreMade arities filled ms
    → (j : ℕ) → j < length vs → (arity : ℕ) × IsAgentOf arities (register vs j).tag arity
made_agent arities filled [] [] tags made j low = absurd (omega arith)
made_agent arities filled [] (v ∷ vs) tags made j low = absurd (omega (arith, ap length tags))
made_agent arities filled (m ∷ ms) [] tags made j low = absurd (omega arith)
made_agent arities filled (m ∷ ms) (v ∷ vs) tags made zero low =
    let is : v.tag ≡ m.symbol + 1 = cc in
    (length m.operands, record { symbol = m.symbol; is = is; known = made.0.0; some = made.0.1 })
made_agent arities filled (m ∷ ms) (v ∷ vs) tags made (suc j) low =
    let rest : map (λ (u : Word). u.tag) vs ≡ map (λ (k : Made). k.symbol + 1) ms = cc in
    made_agent arities (filled + 1) ms vs rest made.1 j (omega arith)

idle_equations : (n : Numbers) (ws : List Word) → flat_map (equations_of n) (map idle ws) ≡ []
idle_equations n [] = refl
idle_equations n (w ∷ ws) = idle_equations n ws

pub registers_held : (n : Numbers) (rs : List Word) (held : ℕ → Tree) (os : List ℕ) → AllByRecursion (λ o. term n (register rs o) ≡ held o) os
    → map (term n) (map (register rs) os) ≡ map held os
registers_held n rs held [] all = refl
registers_held n rs held (o ∷ os) all = λ i. all.0 i ∷ registers_held n rs held os all.1 i

made_equations : (n : Numbers) (rs : List Word) (held : ℕ → Tree) (ms : List Made) (vs : List Word) → map (λ v. v.tag) vs ≡ map (λ m. m.symbol + 1) ms
    → AllByRecursion (λ o. term n (register rs o) ≡ held o) (flat_map (λ m. m.operands) ms)
    → flat_map (equations_of n) (made_each rs ms vs) ≡ made_pieces held ms (map n.of_place vs)
made_equations n rs held [] vs tags all = refl
made_equations n rs held (m ∷ ms) [] tags all = refl
made_equations n rs held (m ∷ ms) (v ∷ vs) tags all =
    let is : v.tag ≡ m.symbol + 1 = cc in
    let later : map (λ (u : Word). u.tag) vs ≡ map (λ (k : Made). k.symbol + 1) ms = cc in
    let symbol : v.tag - 1 ≡ m.symbol = omega arith in
    let here = registers_held n rs held m.operands (all_front (λ o. term n (register rs o) ≡ held o) m.operands (flat_map (λ (k : Made). k.operands) ms) all) in
    let rest = made_equations n rs held ms vs later (all_back (λ o. term n (register rs o) ≡ held o) m.operands (flat_map (λ (k : Made). k.operands) ms) all) in
    λ i. record { left = name (n.of_place v); right = agent (symbol i) (trees_of (here i)) } ∷ rest i

link_equations : (n : Numbers) (rs : List Word) (held : ℕ → Tree) (ls : List Link)
    → AllByRecursion (λ o. term n (register rs o) ≡ held o) (flat_map link_operands ls)
    → flat_map (equations_of n) (map (linked rs) ls) ≡ map (linked_terms held) ls
link_equations n rs held [] all = refl
link_equations n rs held (l ∷ ls) all =
    let left = all.0 in
    let right = all.1.0 in
    let rest = link_equations n rs held ls all.1.1 in
    λ i. record { left = left i; right = right i } ∷ rest i

-- what a plan makes, as equations
pub plan_equations : (n : Numbers) (rs : List Word) (held : ℕ → Tree) (p : Planned) (ns vs : List Word) → map (λ v. v.tag) vs ≡ map (λ m. m.symbol + 1) p.made
    → AllByRecursion (λ o. term n (register rs o) ≡ held o) (operands_of p)
    → flat_map (equations_of n) (pieces_made p rs ns vs) ≡ made_pieces held p.made (map n.of_place vs) ++ map (linked_terms held) p.links
plan_equations n rs held p ns vs tags all =
    let e : Piece → List Pair = equations_of n in
    let ops : List ℕ = flat_map (λ (m : Made). m.operands) p.made in
    let made = made_equations n rs held p.made vs tags (all_front (λ o. term n (register rs o) ≡ held o) ops (flat_map link_operands p.links) all) in
    let links = link_equations n rs held p.links (all_back (λ o. term n (register rs o) ≡ held o) ops (flat_map link_operands p.links) all) in
    let none = idle_equations n ns in
    flat_parts e (map idle ns) (made_each rs p.made vs ++ map (linked rs) p.links)
    ∙ ((λ i. none i ++ flat_map e (made_each rs p.made vs ++ map (linked rs) p.links))
    ∙ (flat_parts e (made_each rs p.made vs) (map (linked rs) p.links) ∙ (λ i. made i ++ links i)))

-- registers that a plan uses hold the terms of their words
pub used_held : (n : Numbers) (later : List Word) (os : List ℕ) → AreNumbers n
    → AllByRecursion (λ k. k < length n.arities → slice_get n.arities k ≡ Some 0) os
    → AllByRecursion (λ o. term n (register (registers_of n later) o) ≡ held_in n (registers_of n later) o) os
used_held n later [] sound all = tt
used_held n later (o ∷ os) sound all = (held_is n later o sound all.0, used_held n later os sound all.1)

-- ---- the places of agents that are made

pub places_from : (n : Numbers) (d : Configuration) (ts : List Tree) (es : List Pair) (next : ℕ) (later : List Word) (ms : List Made) (vs : List Word) (o k : ℕ) → AreNumbers n
    → k ≡ length n.arities + o → length vs ≡ length ms → o + length vs ≤ length later
    → ((j : ℕ) → j < length vs → FreeWord n d ts es later (register vs j))
    → ((j : ℕ) → j < length vs → (register vs j).tag ≡ 0 → ⊥)
    → ((j : ℕ) → j < length vs → n.of_place (register vs j) < next)
    → ((j : ℕ) → j < length vs → register later (o + j) ≡ register vs j)
    → ArePlaces (held_in n (registers_of n later)) ts es next k ms (map n.of_place vs)
places_from n d ts es next later [] [] o k sound place same inside free tagged low at = tt
places_from n d ts es next later (m ∷ ms) (v ∷ vs) o k sound place same inside free tagged low at =
    let first = free 0 (omega arith) in
    let zero_is : o + 0 ≡ o = omega arith in
    let here : register later o ≡ v = ap (register later) (sym zero_is) ∙ at 0 (omega arith) in
    let is : held_in n (registers_of n later) k ≡ name (n.of_place v) =
    ap (held_in n (registers_of n later)) place ∙ (held_later n later o ∙ (ap (term n) here ∙ place_term n v first.place)) in
    let next_place : k + 1 ≡ length n.arities + (o + 1) = omega arith in
    let not_zero : v.tag ≡ 0 → ⊥ = tagged 0 (omega arith) in (
      record {
        is = is;
        elsewhere = λ j other. held_elsewhere n later v o j sound first.place not_zero first.once (omega arith) here (λ e. other (e ∙ sym place));
        beside = first.beside;
        low = low 0 (omega arith);
      },
      places_from n d ts es next later ms vs (o + 1) (k + 1) sound next_place (omega arith) (omega arith)
          (λ j less. free (suc j) (omega arith)) (λ j less. tagged (suc j) (omega arith)) (λ j less. low (suc j) (omega arith))
          (λ j less. let step : (o + 1) + j ≡ o + suc j = omega arith in ap (register later) step ∙ at (suc j) (omega arith)),
    )
places_from n d ts es next later _ _ o k sound place same inside free tagged low at = absurd (omega arith)
