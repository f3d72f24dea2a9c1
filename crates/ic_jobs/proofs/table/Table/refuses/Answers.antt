use Rattle.std.proofs.Common.{◌≡◌, ◌≤◌, ◌<◌, List, length, is_some, true, false, ap, sym, ◌∙◌, arith}
use Rattle.std.specs.List.{position_from}
use Rattle.ic_jobs.specs.declared.limits.TheConstants.{MAX_JOBS}
use Rattle.ic_jobs.specs.Job.{JobParts}
use Rattle.ic_jobs.specs.Table.{is_named}
use Rattle.ic_jobs.specs.inner.Beginnings.{refusal_to_begin}
use Rattle.ic_jobs.proofs.PlaceLemmas.{refuses_taken, refuses_full, refuses_none}
use Rattle.ic_jobs.proofs.table.Table.refuses.Goals as goal

pub returns-then-is_some : goal.returns-then-is_some
returns-then-is_some c =
    let taken : is_some (position_from (is_named c.args.name) 0 c.self.inside.jobs.items) ≡ true =
    ap (λ (l : List JobParts). is_some (position_from (is_named c.args.name) 0 l)) (sym c.deref.ensures.value) ∙ ap is_some (sym c.place_of.ensures.place) ∙ sym c.is_some.ensures ∙ c.if-is_some.true in
    refuses_taken c.args.name c.self.inside.jobs.items taken ∙ ap (refusal_to_begin c.args.name) c.self.view_is

pub returns-then-len-ge-MAX_JOBS : goal.returns-then-len-ge-MAX_JOBS
returns-then-len-ge-MAX_JOBS c =
    let free : is_some (position_from (is_named c.args.name) 0 c.self.inside.jobs.items) ≡ false =
    ap (λ (l : List JobParts). is_some (position_from (is_named c.args.name) 0 l)) (sym c.deref.ensures.value) ∙ ap is_some (sym c.place_of.ensures.place) ∙ sym c.is_some.ensures ∙ c.if-is_some.false in
    let many : MAX_JOBS ≤ length c.self.inside.jobs.items =
    omega (arith, c.if-len-ge-MAX_JOBS.true, c.len.ensures, c.deref.ensures.len, ap length c.deref.ensures.value) in
    refuses_full c.args.name c.self.inside.jobs.items free many ∙ ap (refusal_to_begin c.args.name) c.self.view_is

pub returns : goal.returns
returns c =
    let free : is_some (position_from (is_named c.args.name) 0 c.self.inside.jobs.items) ≡ false =
    ap (λ (l : List JobParts). is_some (position_from (is_named c.args.name) 0 l)) (sym c.deref.ensures.value) ∙ ap is_some (sym c.place_of.ensures.place) ∙ sym c.is_some.ensures ∙ c.if-is_some.false in
    let few : length c.self.inside.jobs.items < MAX_JOBS =
    omega (arith, c.if-len-ge-MAX_JOBS.false, c.len.ensures, c.deref.ensures.len, ap length c.deref.ensures.value) in
    refuses_none c.args.name c.self.inside.jobs.items free few ∙ ap (refusal_to_begin c.args.name) c.self.view_is
