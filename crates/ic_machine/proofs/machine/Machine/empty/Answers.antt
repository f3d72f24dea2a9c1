use Rattle.std.proofs.Common.{◌≡◌, ◌^◌, ◌<◌, ◌++◌, ℕ, List, [], length, map, ap, sym, subst, ◌∙◌, arith}
use Rattle.std.specs.List.{AllByRecursion}
use Rattle.std.proofs.lemmas.List.{length-map}
use Rattle.ic_arena.specs.declared.word.Word.{Word}
use Rattle.ic_arena.specs.declared.word.TheConstants.{GIVEN}
use Rattle.ic_arena.specs.Tables.{Blocks, names_pieces}
use Rattle.ic_machine.specs.declared.equation.Equation.{Equation}
use Rattle.ic_machine.specs.declared.tables.Tables.{Tables}
use Rattle.ic_machine.specs.Net.{IsPair}
use Rattle.ic_machine.specs.Plan.{constants, Planned, Plans}
use Rattle.ic_machine.specs.inner.Firing.{arities_of, heaps_pieces}
use Rattle.ic_machine.proofs.Sound.{all_none, first_registers, no_agents, none_counted, nothing_separate}
use Rattle.ic_machine.proofs.machine.Machine.empty.Goals as goal

pub invariant_of-result : goal.invariant_of-result
invariant_of-result c =
    let q : Plans = c.args.program.now in
    let t : Tables = c.in_ok-tables.tables in
    let hs : List Blocks = t.heaps.items in
    let n : ℕ = length q.arities in
    let known : arities_of hs ≡ q.arities = c.in_ok-tables.ensures.arities ∙ c.arities.ensures.arities in
    let many : length hs ≡ n = sym (length-map hs (λ x. x.arity)) ∙ ap length known in
    let given = c.in_ok-tables.ensures.registers ∙ ap (λ (l : List ℕ). constants (length l)) c.arities.ensures.arities in
    let none : t.names.entries ≡ [] = c.in_ok-tables.ensures.names in
    record {
      separate = nothing_separate (arities_of hs) c.new-2.result.items t.pending.items c.new-3.result.items (names_pieces 0 t.names.entries)
          (heaps_pieces 0 hs) c.new-2.ensures.items c.in_ok-tables.ensures.pending c.new-3.ensures.items (ap (names_pieces 0) none)
          c.in_ok-tables.ensures.heaps;
      pairs = subst (λ (l : List Equation). AllByRecursion IsPair l) (sym c.in_ok-tables.ensures.pending) tt;
      aside = subst (λ (l : List Equation). AllByRecursion IsPair l) (sym c.new-3.ensures.items) tt;
      names = subst (λ (l : List Word). length l < 2 ^ 32) (sym none) (omega arith);
      symbols = subst (λ (k : ℕ). k < GIVEN) (sym many) c.requires.symbols;
      registers = first_registers n (length hs) t.registers.items many given;
      spare = λ some. absurd (omega (arith, some, c.in_ok-tables.ensures.spare));
      counts = none_counted c.plans.result.now c.in_ok-counts.counts.items c.in_ok-counts.ensures;
    }

pub returns : goal.returns
returns c =
    let q : Plans = c.args.program.now in
    let t : Tables = c.in_ok-tables.tables in
    let hs : List Blocks = t.heaps.items in
    let known : arities_of hs ≡ q.arities = c.in_ok-tables.ensures.arities ∙ c.arities.ensures.arities in
    let interface : c.new-2.result.items ≡ [] = c.new-2.ensures.items in
    let aside : c.new-3.result.items ≡ [] = c.new-3.ensures.items in
    let pending : t.pending.items ≡ [] = c.in_ok-tables.ensures.pending in
    let none : t.names.entries ≡ [] = c.in_ok-tables.ensures.names in
    let places : heaps_pieces 0 hs ≡ [] = c.in_ok-tables.ensures.heaps in
    let agents = no_agents hs q.arities known c.in_ok-tables.ensures.counts in
    let counts : c.in_ok-counts.counts.items ≡ map {B = ℕ} (λ plan. 0) q.plans =
    c.in_ok-counts.ensures ∙ (sym (all_none c.plans.result.now) ∙ ap (λ (l : List Planned). map {B = ℕ} (λ plan. 0) l) c.plans.ensures) in
    (λ i. record {
      arities = known i;
      interface = interface i;
      pending = pending i;
      aside = aside i;
      places = names_pieces 0 (none i) ++ places i;
      interactions = 0;
      names = length (none i);
      agents = agents i;
      counts = counts i;
    })
