use Rattle.std.proofs.Common.{◌≡◌, ℕ, ◌+◌, ◌∙◌, inl, inr, List, [], Option, length, refl, arith, subst, sym}
use Rattle.ic_machine.specs.declared.generation.Generation.{Generation}
use Rattle.ic_rules.specs.System.{SystemParts}
use Rattle.ic_in_place.specs.Told.{RoundOver, IsBetween}
use Rattle.ic_in_place.specs.Rounds.{GoOn}
use Rattle.ic_in_place.specs.declared.running.End.TheVariants.{Quiet}
use Rattle.ic_in_place.specs.inner.Rounds.{AreEarly, RoundBegins}
use Rattle.ic_in_place.proofs.RoundsMade.{as_many_told, early_go_on, early_next, ends_all, ends_quiet, ends_within, first_begins, is_whole, last_goes_on, next_begins, none_early, told_next, told_over}
use Rattle.ic_in_place.proofs.rounds.run_by_rounds.Goals as goal

pub loop-round-init : goal.loop-round-init
loop-round-init g c =
    let P : List RoundOver → Type 0 = λ told. AreEarly c.args.enough told × ((s : SystemParts) (numbers : List ℕ) (first : _) (before : Option (List ℕ))
    → g.S.Rows.tells s numbers first c.args.rows.now before (g.W.Write.contents c.args.writer.now) []
    → g.S.Rows.tells s numbers first c.args.rows.now before (g.W.Write.contents c.args.writer.now) told) in
    let begins = first_begins c.args.program.now c.args.pairs c.args.machine.now c.requires.within P (none_early c.args.enough, λ s numbers first before none. none) in
    record {
      begins = begins.0;
      early = begins.1.0;
      tells = begins.1.1;
      arities = c.requires.arities;
      looks = omega (arith, c.requires.none);
      room = omega arith;
    }

pub returns-then-not-has_active-clause-ended : goal.returns-then-not-has_active-clause-ended
returns-then-not-has_active-clause-ended g c =
    let b = c.loop-round.invariant.begins in
    let a = c.take_all-broken.ensures.advances in
    let between : IsBetween c.take_all-broken.new.machine =
    record { pending = c.what_a_machine_holds.ensures.pairs; aside = c.what_a_machine_holds.ensures.aside; places = c.what_a_machine_holds.ensures.places } in
    let P : ℕ → List RoundOver → Type 0 = λ since told. GoOn c.args.enough (c.loop-round.round + 1) Quiet since told × ((s : SystemParts) (numbers : List ℕ) (first : _) (before : Option (List ℕ))
    → g.S.Rows.tells s numbers first c.args.rows.now before (g.W.Write.contents c.args.writer.now) []
    → g.S.Rows.tells s numbers first c.over.new.self before (g.W.Write.contents c.over.new.writer) told) in
    let many = as_many_told c.args.program.now c.args.machine.now c.args.pairs b.made b.told b.are_told in
    let told : (n : ℕ) → P n (told_next b.told (length b.made) (length a.ran.fired) c.take_all-broken.new.machine) = λ n. (
      last_goes_on c.args.enough (length b.made) (c.loop-round.round + 1) Quiet n b.told (length a.ran.fired) c.take_all-broken.new.machine c.loop-round.invariant.early (omega (arith, b.count))
          (λ broken. broken),
      λ s numbers first before none. told_over
          (λ l. g.S.Rows.tells s numbers first c.over.new.self before (g.W.Write.contents c.over.new.writer) l)
          b.told c.loop-round.round _ (length b.made) (length a.ran.fired) c.take_all-broken.new.machine
          (c.in_ok-over.ensures.told s numbers first before b.told (c.loop-round.invariant.tells s numbers first before none) (omega (arith, b.count, many)))
          b.count (omega (arith, a.ran.counted, c.interactions-before.ensures, c.interactions-after.ensures)),
    ) in
    let ends = ends_quiet c.args.program.now c.args.pairs c.args.rounds c.loop-round.round c.loop-round.generation c.take_all-broken.new.generation
    c.args.machine.now c.loop-round.machine c.take_all-broken.new.machine b a
    c.in_default.ensures.over (omega (arith, c.loop-round-test.true)) between (c.has_active.ensures.none (cc c.if-not-has_active.true)) P told in
    (c.args.rounds, inl refl, ends.0, ends.1.0, ends.1.1)

pub returns-in-Some-clause-ended : goal.returns-in-Some-clause-ended
returns-in-Some-clause-ended g c =
    let P : ℕ → List RoundOver → Type 0 = λ since told. GoOn c.args.enough c.loop-round.round c.in-Some.end since told × ((s : SystemParts) (numbers : List ℕ) (first : _) (before : Option (List ℕ))
    → g.S.Rows.tells s numbers first c.args.rows.now before (g.W.Write.contents c.args.writer.now) []
    → g.S.Rows.tells s numbers first c.loop-round.rows before (g.W.Write.contents c.loop-round.writer) told) in
    let ends = ends_within c.args.program.now c.args.pairs c.args.rounds c.loop-round.round c.in-Some.end c.loop-round.generation c.take_all-broken.new.generation
    c.args.machine.now c.loop-round.machine c.take_all-broken.new.machine c.loop-round.invariant.begins c.take_all-broken.ensures.advances c.in-Some.ensures.left c.take_all-broken.ensures.within
    (omega (arith, c.loop-round-test.true)) c.in-Some.ensures.broken.0 c.in-Some.ensures.broken.1 P
    (λ n. (early_go_on c.args.enough c.loop-round.round c.in-Some.end n c.loop-round.invariant.begins.told c.loop-round.invariant.early, c.loop-round.invariant.tells)) in
    (c.args.rounds, inl refl, ends.0, ends.1.0, ends.1.1)

pub returns-then-is_enough-clause-ended : goal.returns-then-is_enough-clause-ended
returns-then-is_enough-clause-ended g c =
    let b = c.loop-round.invariant.begins in
    let a = c.take_all-broken.ensures.advances in
    let between : IsBetween c.take_all-broken.new.machine =
    record { pending = c.what_a_machine_holds.ensures.pairs; aside = c.what_a_machine_holds.ensures.aside; places = c.what_a_machine_holds.ensures.places } in
    let end = c.end_of_all.ensures in
    let P : ℕ → List RoundOver → Type 0 = λ since told. GoOn c.args.enough (c.loop-round.round + 1) c.end_of_all.result since told × ((s : SystemParts) (numbers : List ℕ) (first : _) (before : Option (List ℕ))
    → g.S.Rows.tells s numbers first c.args.rows.now before (g.W.Write.contents c.args.writer.now) []
    → g.S.Rows.tells s numbers first c.over.new.self before (g.W.Write.contents c.over.new.writer) told) in
    let many = as_many_told c.args.program.now c.args.machine.now c.args.pairs b.made b.told b.are_told in
    let told : (n : ℕ) → n ≡ 0 → P n (told_next b.told (length b.made) (length a.ran.fired) c.take_all-broken.new.machine) = λ n none. (
      last_goes_on c.args.enough (length b.made) (c.loop-round.round + 1) c.end_of_all.result n b.told (length a.ran.fired) c.take_all-broken.new.machine c.loop-round.invariant.early
          (omega (arith, b.count)) (is_whole c.end_of_all.result n none end.before.0 end.before.1),
      λ s numbers first before none. told_over
          (λ l. g.S.Rows.tells s numbers first c.over.new.self before (g.W.Write.contents c.over.new.writer) l)
          b.told c.loop-round.round _ (length b.made) (length a.ran.fired) c.take_all-broken.new.machine
          (c.in_ok-over.ensures.told s numbers first before b.told (c.loop-round.invariant.tells s numbers first before none) (omega (arith, b.count, many)))
          b.count (omega (arith, a.ran.counted, c.interactions-before.ensures, c.interactions-after.ensures)),
    ) in
    let next = next_begins c.args.program.now c.args.pairs c.loop-round.round c.loop-round.generation c.take_all-broken.new.generation
    c.args.machine.now c.loop-round.machine c.take_all-broken.new.machine b a
    c.in_default.ensures.over between (c.has_active.ensures.some (cc c.if-not-has_active.false)) (λ l. (n : ℕ) → n ≡ 0 → P n l) told in
    let enough = c.is_enough.ensures.enough c.if-is_enough.true in
    let ends = ends_all c.args.program.now c.args.pairs (c.loop-round.round + 1) c.end_of_all.result (record { end = length c.take_all-broken.new.machine.pending }) c.args.machine.now
    c.take_all-broken.new.machine c.end_of_all.new.machine next.0 end.ran.0 end.ran.1 end.quiet end.more P next.1 in (
      c.loop-round.round + 1,
      inr (omega arith, omega (arith, c.loop-round-test.true), (enough.0, enough.1, omega (arith, enough.2, c.interactions-after.ensures, end.ran.0.counted))),
      ends.0,
      ends.1.0,
      ends.1.1,
    )

pub loop-round-preserved : goal.loop-round-preserved
loop-round-preserved g c =
    let b = c.loop-round.invariant.begins in
    let a = c.take_all-broken.ensures.advances in
    let between : IsBetween c.take_all-broken.new.machine =
    record { pending = c.what_a_machine_holds.ensures.pairs; aside = c.what_a_machine_holds.ensures.aside; places = c.what_a_machine_holds.ensures.places } in
    let P : List RoundOver → Type 0 = λ told. AreEarly c.args.enough told × ((s : SystemParts) (numbers : List ℕ) (first : _) (before : Option (List ℕ))
    → g.S.Rows.tells s numbers first c.args.rows.now before (g.W.Write.contents c.args.writer.now) []
    → g.S.Rows.tells s numbers first c.over.new.self before (g.W.Write.contents c.over.new.writer) told) in
    let many = as_many_told c.args.program.now c.args.machine.now c.args.pairs b.made b.told b.are_told in
    let told : P (told_next b.told (length b.made) (length a.ran.fired) c.take_all-broken.new.machine) = (
      early_next c.args.enough (length b.made) b.told (length a.ran.fired) c.take_all-broken.new.machine c.loop-round.invariant.early
          (λ n is. omega (arith, c.is_enough.ensures.more n c.if-is_enough.false is, c.interactions-after.ensures)),
      λ s numbers first before none. told_over
          (λ l. g.S.Rows.tells s numbers first c.over.new.self before (g.W.Write.contents c.over.new.writer) l)
          b.told c.loop-round.round _ (length b.made) (length a.ran.fired) c.take_all-broken.new.machine
          (c.in_ok-over.ensures.told s numbers first before b.told (c.loop-round.invariant.tells s numbers first before none) (omega (arith, b.count, many)))
          b.count (omega (arith, a.ran.counted, c.interactions-before.ensures, c.interactions-after.ensures)),
    ) in
    let next = subst (λ (h : Generation). (n : RoundBegins c.args.program.now c.args.pairs (c.loop-round.round + 1) h c.args.machine.now
    c.take_all-broken.new.machine) × P n.told) (sym c.generation-generation.ensures)
    (next_begins c.args.program.now c.args.pairs c.loop-round.round c.loop-round.generation c.take_all-broken.new.generation
    c.args.machine.now c.loop-round.machine c.take_all-broken.new.machine b a
    c.in_default.ensures.over between (c.has_active.ensures.some (cc c.if-not-has_active.false)) P told) in
    record {
      begins = next.0;
      early = next.1.0;
      tells = next.1.1;
      arities = a.ran.arities ∙ c.loop-round.invariant.arities;
      looks = c.take_all-broken.ensures.looks;
      room = c.in_default.ensures.room;
    }

pub returns-clause-ended : goal.returns-clause-ended
returns-clause-ended g c =
    let all : c.loop-round.round ≡ c.args.rounds = omega (arith, c.loop-round.auto.round-end, c.loop-round-test.false) in
    let P : ℕ → List RoundOver → Type 0 = λ since told. GoOn c.args.enough c.args.rounds c.end_of_all-2.result since told × ((s : SystemParts) (numbers : List ℕ) (first : _) (before : Option (List ℕ))
    → g.S.Rows.tells s numbers first c.args.rows.now before (g.W.Write.contents c.args.writer.now) []
    → g.S.Rows.tells s numbers first c.loop-round.rows before (g.W.Write.contents c.loop-round.writer) told) in
    let begins = subst (λ n. (b : RoundBegins c.args.program.now c.args.pairs n c.loop-round.generation c.args.machine.now c.loop-round.machine) × ((k : ℕ) → k ≡ 0 → P k b.told)) all
    (c.loop-round.invariant.begins, λ k none. (early_go_on c.args.enough c.args.rounds c.end_of_all-2.result k c.loop-round.invariant.begins.told c.loop-round.invariant.early, c.loop-round.invariant.tells)) in
    let ends = ends_all c.args.program.now c.args.pairs c.args.rounds c.end_of_all-2.result c.loop-round.generation c.args.machine.now c.loop-round.machine
    c.end_of_all-2.new.machine begins.0
    c.end_of_all-2.ensures.ran.0 c.end_of_all-2.ensures.ran.1 c.end_of_all-2.ensures.quiet c.end_of_all-2.ensures.more P begins.1 in
    (c.args.rounds, inl refl, ends.0, ends.1.0, ends.1.1)
