use Rattle.std.proofs.Common.{◌≡◌, ◌+◌, ◌<◌, ◌++◌, ◌∷◌, [], map, length, refl, ap, sym, ◌∙◌, arith}
use Rattle.std.proofs.lemmas.List.{map-append}
use Rattle.ic_term.specs.Term.{pair}
use Rattle.ic_round.specs.Firing.{count_of}
use Rattle.ic_round.specs.Works.{work_at, works_from}
use Rattle.ic_round.specs.WorkViews.{work_of}
use Rattle.ic_round.specs.lemmas.ActiveRules.{rule_within, active_by}
use Rattle.ic_flat_rules.specs.Standing.{pair_at, pairs_at}
use Rattle.ic_flat_rules.specs.lemmas.WordPlaces.{whole_words, pairs_start, twos_start, within_start}
use Rattle.ic_flat_round.proofs.ActiveWorks.{takes-inert, takes-active, names-room, names-read, rule_is, work_is}
use Rattle.ic_flat_round.proofs.planning.active_works.Goals as goal
use Rattle.ic_flat_round.proofs.planning.active_works.Goals.{In-Some, After-names, in-Some+in_ok-equation+in_ok-push, in_default}

pub loop-place-init : goal.loop-place-init
loop-place-init c =
    let flat = c.args.flat.now in
    let ws = c.words-words.result.now in
    let place = c.args.place in
    let start = c.requires.place in
    let is = c.words-words.ensures.words in
    let rs = c.args.rules.now.rules in
    let pairs = pairs_start flat ws place is start.equations in
    record {
      within = within_start flat ws place is start.within;
      twos = twos_start flat ws place is start.equations;
      few = omega arith;
      takes = rw (c.new-works.ensures.items, c.next-next.ensures.next, pairs) (record { works_so_far = refl; names = refl });
    }

pub sides_at-sides-requires-clause-whole : goal.sides_at-sides-requires-clause-whole
sides_at-sides-requires-clause-whole c = whole_words c.args.flat.now c.words-words.result.now c.words-words.ensures.words

pub equation_at-requires-clause-whole : goal.equation_at-requires-clause-whole
equation_at-requires-clause-whole c = whole_words c.args.flat.now c.words-words.result.now c.words-words.ensures.words

-- the rule is one
there : (c : In-Some) → c.in-Some.rule < length c.args.rules.now.rules
there c = rule_within c.args.rules.now.rules _ _ c.in-Some.rule c.in-Some.turned (sym c.rule_of.ensures.rule ∙ c.in-Some.is)

pub bounds-known-rule : goal.bounds-known-rule
bounds-known-rule c =
    let inside = there (goal.at.bounds-known-rule c).In-Some in
    omega (arith, inside, ap length c.rules-known.ensures.rules)

pub offset_bounds-known-rule : goal.offset_bounds-known-rule
offset_bounds-known-rule c =
    let inside = there (goal.at.offset_bounds-known-rule c).In-Some in
    let most = c.rules-known.type_inv.1 in
    omega (arith, inside, ap length c.rules-known.ensures.rules)

known_names : (c : After-names) → c.in-Some.rule < length c.args.rules.now.rules → c.names.result ≡ count_of c.args.rules.now.rules c.in-Some.rule
known_names c within =
    names-read c.args.rules.now.rules c.rules-known.result.now c.in-Some.rule c.names.result c.index-known-rule.result within c.rules-known.ensures.rules c.index-known-rule.is
    c.names.ensures.names

pub overflow_add-next : goal.overflow_add-next
overflow_add-next c =
    let at = goal.at.overflow_add-next c in
    let rs = c.args.rules.now.rules in
    let ws = c.words-words.result.now in
    let s = c.sides_at-sides.result in
    let a = active_by rs (pair_at ws s) c.in-Some.rule c.in-Some.turned (sym c.rule_of.ensures.rule ∙ c.in-Some.is) in
    let room = names-room rs c.loop-place.next _ (pairs_at ws c.loop-place.place) (pairs_at ws s.end) (pair_at ws s) a.0 c.sides_at-sides.ensures.equations a.1.0 c.loop-place.invariant.takes.names in
    let most = c.requires.low in
    omega (arith, room, most, known_names at.After-names (there at.In-Some), ap (count_of rs) a.1.1)

pub loop-place-preserved : goal.loop-place-preserved
loop-place-preserved c =
    let rs = c.args.rules.now.rules in
    let ws = c.words-words.result.now in
    let s = c.sides_at-sides.result in
    let p = pair_at ws s in
    let ps = pairs_at ws s.end in
    let left = pairs_at ws c.loop-place.place in
    let number = c.loop-place.number in
    let next = c.loop-place.next in
    let i = c.loop-place.invariant in
    let sides = c.sides_at-sides.ensures in
    let before = sides.sides.left.before in
    let after = sides.sides.right.before in
    let all = works_from rs 0 c.args.flat.now.next c.args.flat.now.equations in
    let works = map work_of c.loop-place.works.items in
    record {
      within = sides.sides.right.within;
      twos = sides.twos;
      few = omega (arith, i.few, sides.begins, before, after);
      takes = elim c.match-rule_of.branch [
        | in-Some+in_ok-equation+in_ok-push w ↦
            let found = sym c.rule_of.ensures.rule ∙ w.in-Some.is in
            let work = work_of w.oriented_work.result in
            let is = work_is rs p (pair w.in_ok-equation.equation) number next w.in-Some.rule w.in-Some.turned work w.in_ok-equation.ensures found
            w.oriented_work.ensures.place w.oriented_work.ensures.base w.oriented_work.ensures.active in
            let pushed : map work_of w.push.new.self.items ≡ works ++ work_at number next work.active ∷ [] =
            ap (map work_of) w.in_ok-push.ensures.items ∙ map-append work_of c.loop-place.works.items (w.oriented_work.result ∷ []) ∙ ap (λ v. works ++ v ∷ []) is.1 in
            let within = rule_within rs _ _ w.in-Some.rule w.in-Some.turned found in
            let names = names-read rs c.rules-known.result.now w.in-Some.rule w.names.result w.index-known-rule.result within c.rules-known.ensures.rules w.index-known-rule.is
            w.names.ensures.names in
            let grown : next + w.names.result ≡ next + count_of rs work.active.rule =
            ap (λ n. next + n) (names ∙ ap (count_of rs) (sym (rule_is rs p work.active w.in-Some.rule w.in-Some.turned found is.0))) in
            rw (w.works-is, w.next-is)
            (takes-active rs all works (map work_of w.push.new.self.items) _ number next (next + w.names.result) left ps p work.active i.takes sides.equations is.0 pushed grown)
        | in_default w ↦
            rw (w.works-is, w.next-is)
            (takes-inert rs all works _ number next left ps p i.takes sides.equations (sym c.rule_of.ensures.rule ∙ w.in_default.is))
      ];
    }
