use Rattle.std.proofs.lemmas.Result.{err_from_is_err_and}
use Rattle.std.proofs.Common.{◌≡◌, ◌∙◌, ℕ, ◌≤◌, List, [], ◌∷◌, ◌++◌, append_assoc, ap, arith, get_or, nat_eq, refl, sym}
use Rattle.std.specs.List.{flat_map}
use Rattle.ic_state.specs.Numbers.{eight_bytes}
use Rattle.ic_state.specs.State.{ended_number, format_number, rounds_numbers}
use Rattle.ic_state.proofs.StateLemmas.{ended_fits, ended_told, ended_at, ended_is, format_is, interactions_are, millis_are, one_form, read_at, seven, short_plain, rules_are, words_are}
use Rattle.ic_state.proofs.front.head_of.Goals as goal

pub returns-in_err-rounds-clause-refused : goal.returns-in_err-rounds-clause-refused
returns-in_err-rounds-clause-refused c =
    let e = err_from_is_err_and c.from_residual.result c.from_residual.ensures.1 in
    rw (e.1, e.2) (λ same kept rest sound long is. omega (arith, long, c.in_err-rounds.ensures.refused kept rest sound is))

pub returns-in_err-head-clause-refused : goal.returns-in_err-head-clause-refused
returns-in_err-head-clause-refused c =
    let e = err_from_is_err_and c.from_residual-in_err-head.result c.from_residual-in_err-head.ensures.1 in
    rw (e.1, e.2) (λ same kept rest sound long is.
    let said = c.in_ok-rounds.ensures.told kept rest sound is in
    let short = c.in_err-head.ensures.refused (cc (same)) in
    omega (arith, long, short_plain c.in_ok-rounds.rounds kept.rounds c.args.bytes.now c.in_ok-rounds.plain.now said.0 c.in_ok-rounds.ensures.read short))

pub returns-in_default-clause-refused : goal.returns-in_default-clause-refused
returns-in_default-clause-refused c = λ same kept rest sound long whole_is.
    let is = (c.in_ok-rounds.ensures.told kept rest sound whole_is).1 in
    let head = c.in_ok-head.head.items in
    let left_over = c.in_ok-head.field-0-1.now in
    let read = c.in_ok-head.ensures in
    let whole = ap (λ (l : List ℕ). l ++ rest) read.read ∙ append_assoc (flat_map eight_bytes head) left_over rest in
    let format = format_is head (c.in_ok-rounds.plain.now ++ rest) (left_over ++ rest) read.count read.small whole kept sound is in
    c.in_default.ensures.none refl kept.narrow (read_at head 0 c.index.result.now c.index.ensures (omega (arith, read.count)) ∙ format)

pub returns-then-index-gt1-clause-refused : goal.returns-then-index-gt1-clause-refused
returns-then-index-gt1-clause-refused c = λ same kept rest sound long whole_is.
    let is = (c.in_ok-rounds.ensures.told kept rest sound whole_is).1 in
    let head = c.in_ok-head.head.items in
    let left_over = c.in_ok-head.field-0-1.now in
    let read = c.in_ok-head.ensures in
    let whole = ap (λ (l : List ℕ). l ++ rest) read.read ∙ append_assoc (flat_map eight_bytes head) left_over rest in
    let ended = ended_is head (c.in_ok-rounds.plain.now ++ rest) (left_over ++ rest) read.count read.small whole kept sound is in
    omega (arith, c.if-index-gt1.true, read_at head 3 c.index-2.result.now c.index-2.ensures (omega (arith, read.count)), ended)

pub returns-clause-told : goal.returns-clause-told
returns-clause-told c = λ kept rest sound whole_is.
    let said = c.in_ok-rounds.ensures.told kept rest sound whole_is in
    let is = said.1 in
    let head = c.in_ok-head.head.items in
    let plain = c.in_ok-rounds.plain.now in
    let left_over = c.in_ok-head.field-0-1.now in
    let read = c.in_ok-head.ensures in
    let whole = ap (λ (l : List ℕ). l ++ rest) read.read ∙ append_assoc (flat_map eight_bytes head) left_over rest in
    let bytes = plain ++ rest in
    record {
      interactions = read_at head 2 c.index-3.result.now c.index-3.ensures (omega (arith, read.count)) ∙ interactions_are head bytes (left_over ++ rest) read.count read.small whole kept sound is;
      ended = ended_told kept.ended c.index-4.result.now
          (read_at head 3 c.index-4.result.now c.index-4.ensures (omega (arith, read.count)) ∙ ended_at head bytes (left_over ++ rest) read.count read.small whole kept sound is);
      rules = read_at head 4 c.index-5.result.now c.index-5.ensures (omega (arith, read.count)) ∙ rules_are head bytes (left_over ++ rest) read.count read.small whole kept sound is;
      words = read_at head 5 c.index-6.result.now c.index-6.ensures (omega (arith, read.count)) ∙ words_are head bytes (left_over ++ rest) read.count read.small whole kept sound is;
      millis = read_at head 6 c.index-7.result.now c.index-7.ensures (omega (arith, read.count)) ∙ millis_are head bytes (left_over ++ rest) read.count read.small whole kept sound is;
      rounds = said.0;
      narrow = one_form c.in-Some.narrow kept.narrow (sym c.in-Some.ensures.some ∙ read_at head 0 c.index.result.now c.index.ensures (omega (arith, read.count)) ∙ format_is head bytes (left_over ++ rest) read.count read.small whole kept sound is);
    }

pub returns-clause-front : goal.returns-clause-front
returns-clause-front c =
    let head = c.in_ok-head.head.items in
    let left_over = c.in_ok-head.field-0-1.now in
    let read = c.in_ok-head.ensures in
    let format : get_or head 0 0 ≡ format_number c.in-Some.narrow = sym (read_at head 0 c.index.result.now c.index.ensures (omega (arith, read.count))) ∙ c.in-Some.ensures.some in
    let interactions : get_or head 2 0 ≡ c.index-3.result.now = sym (read_at head 2 c.index-3.result.now c.index-3.ensures (omega (arith, read.count))) in
    let ended = read_at head 3 c.index-4.result.now c.index-4.ensures (omega (arith, read.count)) in
    let looked = read_at head 3 c.index-2.result.now c.index-2.ensures (omega (arith, read.count)) in
    let low : c.index-4.result.now ≤ 1 = omega (arith, c.if-index-gt1.false, looked, ended) in
    let told : get_or head 3 0 ≡ ended_number (nat_eq c.index-4.result.now 1) = sym ended ∙ ended_fits c.index-4.result.now low in
    let rules : get_or head 4 0 ≡ c.index-5.result.now = sym (read_at head 4 c.index-5.result.now c.index-5.ensures (omega (arith, read.count))) in
    let words : get_or head 5 0 ≡ c.index-6.result.now = sym (read_at head 5 c.index-6.result.now c.index-6.ensures (omega (arith, read.count))) in
    let millis : get_or head 6 0 ≡ c.index-7.result.now = sym (read_at head 6 c.index-7.result.now c.index-7.ensures (omega (arith, read.count))) in (
      get_or head 1 0,
      left_over,
      c.in_ok-rounds.ensures.read ∙ ap (λ (l : List ℕ). flat_map eight_bytes (rounds_numbers c.in_ok-rounds.rounds) ++ l) (read.read ∙ ap (λ (l : List ℕ). flat_map eight_bytes l ++ left_over)
          (seven head read.count ∙ (λ i. format i ∷ get_or head 1 0 ∷ interactions i ∷ told i ∷ rules i ∷ words i ∷ millis i ∷ []))),
    )
