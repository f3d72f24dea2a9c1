use Rattle.std.proofs.Common.{◌≡◌, ◌+◌, ◌≤◌, ◌++◌, ◌∙◌, ap, sym, subst, List, length, length-append, is_some, arith}
use Rattle.std.specs.Prelude.{vec_len}
use Rattle.std.specs.List.{list_all}
use Rattle.std.proofs.lemmas.Bool.{and_parts}
use Rattle.ic_term.specs.Symbol.{is_pair_over}
use Rattle.ic_term.specs.declared.limits.TheConstants.{MAX_NODES, MAX_NEXT}
use Rattle.ic_flat.specs.declared.word.Word.{Word}
use Rattle.ic_round.specs.Firing.{fired_pair, fired_from, names_taken, next_after}
use Rattle.ic_round.specs.lemmas.FiredNames.{next_grows}
use Rattle.ic_flat_round.specs.declared.fired.Reached.{Reached}
use Rattle.ic_flat_round.specs.inner.Room.{GoesOnTo}
use Rattle.ic_flat_rules.specs.RuleWords.{pairs_words}
use Rattle.ic_flat_rules.specs.Standing.{pair_at, pairs_at}
use Rattle.ic_flat_round.proofs.Appending.{goes_on_to-next}
use Rattle.ic_flat_round.proofs.FiringLimits.{within_parts, beyond_more, few_equations, fired-first}
use Rattle.ic_flat_round.proofs.fired.put_equations.Goals as goal
use Rattle.ic_flat_round.proofs.fired.put_equations.Goals.{In_ok-fired}

pub returns-in_err-fired-clause-fits : goal.returns-in_err-fired-clause-fits
returns-in_err-fired-clause-fits c =
    let rs = c.args.rules.now.rules in
    let ws = c.args.words.now in
    let s = c.sides_at-sides.result in
    let p = pair_at ws s in
    let ps = pairs_at ws s.end in
    let next = c.loop-place.next in
    let i = c.loop-place.invariant in
    let equations = c.sides_at-sides.ensures.equations in
    let later = next + names_taken rs p in
    let all = pairs_words (fired_from rs c.args.next (pairs_at ws c.args.place)) in
    let here = pairs_words (fired_pair rs next p) in
    let rest = pairs_words (fired_from rs later ps) in
    let split = fired-first rs next (pairs_at ws c.loop-place.place) ps p equations in
    let grown : vec_len c.loop-place.out + length here ≤ vec_len c.args.out.now + length all =
    omega (arith, i.left.len, ap length split, length-append here rest) in
    let after : later ≤ next_after rs c.args.next (pairs_at ws c.args.place) =
    omega (arith, i.names, ap (next_after rs next) equations, next_grows rs later ps) in
    ap is_some c.from_residual.ensures
    ∙ sym (beyond_more (vec_len c.loop-place.out + length here) later (vec_len c.args.out.now + length all) (next_after rs c.args.next (pairs_at ws c.args.place)) grown after
    (sym c.in_err-fired.ensures.fits))

-- what is known where an equation has been put
record HasPut (c : In_ok-fired) : Type 0 where
  equations : c.in_ok-fired.fired.equations ≡ length (fired_pair c.args.rules.now.rules c.loop-place.next (pair_at c.args.words.now c.sides_at-sides.result))
  next : c.in_ok-fired.fired.next ≡ c.loop-place.next + names_taken c.args.rules.now.rules (pair_at c.args.words.now c.sides_at-sides.result)
  low : c.in_ok-fired.fired.next ≤ MAX_NEXT
  few : vec_len c.put_fired.new.out ≤ MAX_NODES
  counted : c.loop-place.equations + c.in_ok-fired.fired.equations ≤ vec_len c.put_fired.new.out

has_put : (c : In_ok-fired) → HasPut c
has_put c =
    let rs = c.args.rules.now.rules in
    let p = pair_at c.args.words.now c.sides_at-sides.result in
    let ps = fired_pair rs c.loop-place.next p in
    let fit = within_parts (vec_len c.loop-place.out + length (pairs_words ps)) (c.loop-place.next + names_taken rs p) (sym c.in_ok-fired.ensures.fits) in
    let put = c.in_ok-fired.ensures.put in
    let len = put.len in
    let before = c.loop-place.invariant.few in
    let equations = ap (λ (r : Reached). r.equations) c.in_ok-fired.ensures.reached in
    let next = ap (λ (r : Reached). r.next) c.in_ok-fired.ensures.reached in
    record {
      equations = equations;
      next = next;
      low = omega (arith, fit.1, next);
      few = omega (arith, fit.0, len);
      counted = omega (arith, before, len, equations, few_equations ps);
    }

pub overflow_add-equations : goal.overflow_add-equations
overflow_add-equations c =
    let h = has_put (goal.at.overflow_add-equations c).In_ok-fired in
    omega (arith, h.few, h.counted)

pub loop-place-preserved : goal.loop-place-preserved
loop-place-preserved c =
    let h = has_put (goal.at.loop-place-preserved c).In_ok-fired in
    let rs = c.args.rules.now.rules in
    let ss = c.args.rules.now.symbols in
    let ws = c.args.words.now in
    let s = c.sides_at-sides.result in
    let p = pair_at ws s in
    let ps = pairs_at ws s.end in
    let next = c.loop-place.next in
    let i = c.loop-place.invariant in
    let equations = c.sides_at-sides.ensures.equations in
    let put = c.in_ok-fired.ensures.put in
    let all = pairs_words (fired_from rs c.args.next (pairs_at ws c.args.place)) in
    let here = pairs_words (fired_pair rs next p) in
    let later = next + names_taken rs p in
    let split = fired-first rs next (pairs_at ws c.loop-place.place) ps p equations ∙ ap (λ n. here ++ pairs_words (fired_from rs n ps)) (sym h.next) in
    record {
      within = c.sides_at-sides.ensures.sides.right.within;
      twos = c.sides_at-sides.ensures.twos;
      over = (and_parts (is_pair_over ss p) (list_all (is_pair_over ss) ps) (sym (ap (list_all (is_pair_over ss)) equations) ∙ i.over)).1;
      roomy = record { few = h.few; room = omega (arith, i.roomy.room, put.capacity) };
      low = h.low;
      few = h.counted;
      names = ap (λ n. next_after rs n ps) h.next ∙ sym (ap (next_after rs next) equations) ∙ i.names;
      counted = omega (
        arith,
        i.counted,
        h.equations,
        ap (λ l. length (fired_from rs next l)) equations,
        length-append (fired_pair rs next p) (fired_from rs later ps),
        ap (λ n. length (fired_from rs n ps)) h.next,
      );
      left =
          goes_on_to-next c.args.out.now c.loop-place.out c.put_fired.new.out all here (pairs_words (fired_from rs c.in_ok-fired.fired.next ps))
          (subst (λ (l : List Word). GoesOnTo c.args.out.now all c.loop-place.out l) split i.left) put;
    }
