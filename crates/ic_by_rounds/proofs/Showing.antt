-- Lemmas: rows that are shown one after the other.
use Rattle.std.proofs.Common.{◌≡◌, ◌⊎◌, inl, inr, ℕ, zero, suc, ◌+◌, ◌≤◌, ◌==◌, List, [], ◌∷◌, ◌++◌, Bool, true, false, Option, None, Some, length, map, sum_by, if◌then◌else◌, refl, sym, ap, ◌∙◌, arith, subst, append_assoc, append-nil}
use Rattle.std.specs.Cmp.{unsigned_Decides}
use Rattle.std.specs.List.{flat_map}
use Rattle.std.specs.Option.{option_to_list}
use Rattle.std.specs.Io.KnownBytes.{Appends}
use Rattle.std.proofs.lemmas.List.{length-map, map-append}
use Rattle.std.proofs.KnownBytes.{Appends-nil, Appends-trans}
use Rattle.std.proofs.lemmas.Grind.{flat_map-append}
use Rattle.std.proofs.lemmas.List.Sums.{sum_by-cons}
use Rattle.ic_machine.specs.Net.{equations_left}
use Rattle.ic_in_place.specs.Told.{RoundFigures, RoundOver, figures_by, figures_of}
use Rattle.ic_rules.specs.System.{SystemParts}
use Rattle.ic_by_rounds.specs.Tables.{head_line, row_line, table_of}
use Rattle.ic_by_rounds.specs.Tracing.{told_rows}
use Rattle.ic_by_rounds.specs.inner.Amounts.{AreOrigins}
use Rattle.ic_by_rounds.specs.inner.Showing.{AreRowsOf, IsRowOf, Shows, ToldRows, numbers_of, shown_of}
use Rattle.ic_by_rounds.specs.declared.row.Row.{Row}
use Rattle.ic_by_rounds.specs.declared.tracing.Format.{Format}
use Rattle.ic_by_rounds.specs.declared.tracing.Format.TheVariants.{Table}
use Rattle.ic_by_rounds.specs.declared.tracing.Tracing.{Tracing}
use Rattle.ic_by_rounds.proofs.RowsTold.{AmountLaws, rows_of_iterates}

-- ---- rows that are shown

table_on : (shown more : List Row) → table_of shown ++ flat_map row_line more ≡ table_of (shown ++ more)
table_on shown more =
    append_assoc head_line (flat_map row_line shown) (flat_map row_line more)
    ∙ ap (λ l. head_line ++ l) (sym (flat_map-append row_line shown more))

-- more rows are shown, and a part of what wasn't written yet is
pub shows_on : (first t u : Tracing) (before now after : Option (List ℕ)) (shown more : List Row) (w : List ℕ) → Shows first t before now shown
    → u.format ≡ t.format → Appends now after w → (t.format ≡ Table → w ++ u.unwritten.items ≡ t.unwritten.items ++ flat_map row_line more)
    → Shows first u before after (shown ++ more)
shows_on first t u before now after shown more w s format appends lines = record {
  format = format ∙ s.format;
  written = s.written ++ w;
  appends = Appends-trans before now after s.written w s.appends appends;
  lines = λ is.
      let table : t.format ≡ Table = sym format ∙ is in
      append_assoc s.written w u.unwritten.items
      ∙ (ap (λ l. s.written ++ l) (lines table)
      ∙ (sym (append_assoc s.written t.unwritten.items (flat_map row_line more))
      ∙ (ap (λ l. l ++ flat_map row_line more) (s.lines table) ∙ table_on shown more)));
}

-- ---- no round is told

pub told_none : (s : SystemParts) (numbers : List ℕ) (first t : Tracing) (held : Option (List ℕ)) → AreOrigins s numbers t.origins → t.format ≡ first.format → t.held ≡ None
    → (t.format ≡ Table → t.unwritten.items ≡ head_line) → ToldRows s numbers first t held held []
told_none s numbers first t held origins format none lines = record {
  origins = origins;
  rows = [];
  are_rows = tt;
  numbers = refl;
  shows = record {
    format = format;
    written = [];
    appends = Appends-nil held;
    lines = λ is. lines is ∙ sym (append-nil head_line);
  };
  held = ap option_to_list none;
}

-- ---- a round more is told

none_of : (rows : List Row) (told : List RoundOver) → map numbers_of rows ≡ map figures_of told → length rows ≡ length told
none_of rows told same = sym (length-map rows numbers_of) ∙ (ap (length {A = RoundFigures}) same ∙ length-map told figures_of)

no_row : (rows : List Row) → length rows ≡ 0 → rows ≡ []
no_row [] none = refl
no_row (row ∷ rows) none = absurd (omega (arith, none))

nothing_held : (o : Option Row) → option_to_list o ≡ [] → o ≡ None
nothing_held None none = refl
nothing_held (Some row) none = absurd (let many = ap (length {A = Row}) none in omega (arith, many))

numbers_on : (rows : List Row) (told : List RoundOver) (row : Row) (o : RoundOver) → map numbers_of rows ≡ map figures_of told → row.round ≡ o.round → row.pairs ≡ o.pairs → row.equations ≡ equations_left o.net
    → map numbers_of (rows ++ row ∷ []) ≡ map figures_of (told ++ o ∷ [])
numbers_on rows told row o same round pairs equations =
    let one : numbers_of row ≡ figures_of o = λ i. record { round = round i; pairs = pairs i; equations = equations i } in
    map-append numbers_of rows (row ∷ []) ∙ ((λ i. same i ++ one i ∷ []) ∙ sym (map-append figures_of told (o ∷ [])))

rows_on : (s : SystemParts) (numbers : List ℕ) (rows : List Row) (told : List RoundOver) (row : Row) (o : RoundOver) → AreRowsOf s numbers rows told → IsRowOf s numbers row o
    → AreRowsOf s numbers (rows ++ row ∷ []) (told ++ o ∷ [])
rows_on s numbers [] [] row o are one = (one, tt)
rows_on s numbers [] (p ∷ told) row o are one = absurd are
rows_on s numbers (r ∷ rows) [] row o are one = absurd are
rows_on s numbers (r ∷ rows) (p ∷ told) row o are one = (are.0, rows_on s numbers rows told row o are.1 one)

-- where a row is the first and has no pairs, it is held
first_shown : (row : Row) → row.pairs ≡ 0 → shown_of (row ∷ []) ≡ []
first_shown row none = ap (λ (b : Bool). if b then [] else row ∷ []) (ap (λ (n : ℕ). n == 0) none)

pub told_held : (s : SystemParts) (numbers : List ℕ) (first t u : Tracing) (before now : Option (List ℕ)) (told : List RoundOver) (row : Row) (o : RoundOver)
    → ToldRows s numbers first t before now told → IsRowOf s numbers row o → u.origins ≡ t.origins
    → o.round ≡ length told + 1 → o.round ≡ 1 → row.round ≡ o.round → row.pairs ≡ o.pairs → row.equations ≡ equations_left o.net → o.pairs ≡ 0
    → u.format ≡ t.format → u.unwritten.items ≡ t.unwritten.items → u.held ≡ Some row → ToldRows s numbers first u before now (told ++ o ∷ [])
told_held s numbers first t u before now told row o tells is_row origins count one round pairs equations none format unwritten held =
    let many = none_of tells.rows told tells.numbers in
    let empty : tells.rows ≡ [] = no_row tells.rows (omega (arith, count, one, many)) in
    let no_pairs : row.pairs ≡ 0 = pairs ∙ none in
    let shown : Shows first t before now [] = subst (λ rows. Shows first t before now (shown_of rows)) empty tells.shows in
    let still : Shows first u before now [] =
    shows_on first t u before now now [] [] [] shown format (Appends-nil now) (λ is. unwritten ∙ sym (append-nil t.unwritten.items)) in
    record {
      origins = subst (AreOrigins s numbers) (sym origins) tells.origins;
      rows = row ∷ [];
      are_rows = subst (λ rows. AreRowsOf s numbers (rows ++ row ∷ []) (told ++ o ∷ [])) empty (rows_on s numbers tells.rows told row o tells.are_rows is_row);
      numbers = subst (λ rows. map numbers_of (rows ++ row ∷ []) ≡ map figures_of (told ++ o ∷ [])) empty (numbers_on tells.rows told row o tells.numbers round pairs equations);
      shows = subst (Shows first u before now) (sym (first_shown row no_pairs)) still;
      held = ap (λ l. l ++ option_to_list u.held) (first_shown row no_pairs) ∙ ap option_to_list held;
    }

other_shown : (row : Row) → ¬ (row.pairs ≡ 0) → shown_of (row ∷ []) ≡ row ∷ []
other_shown row some = at (row.pairs == 0) refl
  where
    at : (b : Bool) → (row.pairs == 0) ≡ b → (if b then [] else row ∷ []) ≡ row ∷ []
    at true is = absurd (some ((unsigned_Decides row.pairs 0).0 is))
    at false is = refl

all_shown : (rows : List Row) (row : Row) → (rows ≡ [] → ¬ (row.pairs ≡ 0)) → shown_of (rows ++ row ∷ []) ≡ rows ++ row ∷ []
all_shown [] row some = other_shown row (some refl)
all_shown (r ∷ []) row some = refl
all_shown (r ∷ s ∷ rows) row some = refl

pub told_shown : (s : SystemParts) (numbers : List ℕ) (first t u : Tracing) (before now after : Option (List ℕ)) (told : List RoundOver) (row : Row) (o : RoundOver) (w : List ℕ)
    → ToldRows s numbers first t before now told → IsRowOf s numbers row o → u.origins ≡ t.origins
    → o.round ≡ length told + 1 → ¬ ((o.round ≡ 1) × (o.pairs ≡ 0)) → row.round ≡ o.round → row.pairs ≡ o.pairs → row.equations ≡ equations_left o.net
    → u.format ≡ t.format → u.held ≡ None → Appends now after w
    → (t.format ≡ Table → w ++ u.unwritten.items ≡ t.unwritten.items ++ (flat_map row_line (option_to_list t.held) ++ row_line row))
    → ToldRows s numbers first u before after (told ++ o ∷ [])
told_shown s numbers first t u before now after told row o w tells is_row origins count isnt round pairs equations format held appends lines =
    let many = none_of tells.rows told tells.numbers in
    let some : tells.rows ≡ [] → ¬ (row.pairs ≡ 0) = λ empty none.
    let no_rows : length tells.rows ≡ 0 = ap (length {A = Row}) empty in
    isnt (omega (arith, count, many, no_rows), sym pairs ∙ none) in
    let all = all_shown tells.rows row some in
    let bytes : flat_map row_line (option_to_list t.held) ++ row_line row ≡ flat_map row_line (option_to_list t.held ++ row ∷ []) =
    ap (λ l. flat_map row_line (option_to_list t.held) ++ l) (sym (append-nil (row_line row))) ∙ sym (flat_map-append row_line (option_to_list t.held) (row ∷ [])) in
    let shown = shows_on first t u before now after (shown_of tells.rows) (option_to_list t.held ++ row ∷ []) w tells.shows format appends
    (λ is. lines is ∙ ap (λ l. t.unwritten.items ++ l) bytes) in
    let parts : shown_of tells.rows ++ (option_to_list t.held ++ row ∷ []) ≡ tells.rows ++ row ∷ [] =
    sym (append_assoc (shown_of tells.rows) (option_to_list t.held) (row ∷ [])) ∙ ap (λ l. l ++ row ∷ []) tells.held in
    record {
      origins = subst (AreOrigins s numbers) (sym origins) tells.origins;
      rows = tells.rows ++ row ∷ [];
      are_rows = rows_on s numbers tells.rows told row o tells.are_rows is_row;
      numbers = numbers_on tells.rows told row o tells.numbers round pairs equations;
      shows = subst (Shows first u before after) (parts ∙ sym all) shown;
      held = ap (λ l. l ++ option_to_list u.held) all ∙ (ap (λ h. (tells.rows ++ row ∷ []) ++ option_to_list h) held ∙ append-nil (tells.rows ++ row ∷ []));
    }

-- ---- all that was told is shown

lone_held : (rows : List Row) (told : List RoundOver) → map numbers_of rows ≡ map figures_of told → length told ≤ 1 → sum_by (λ o. o.pairs) told ≡ 0 → shown_of rows ≡ []
lone_held [] told same few none = refl
lone_held (row ∷ []) [] same few none = let many = none_of (row ∷ []) [] same in absurd (omega (arith, many))
lone_held (row ∷ []) (o ∷ []) same few none =
    let first : ◌≡◌ {A = RoundFigures} (numbers_of row) (figures_of o) = ap (λ l. head_or l (numbers_of row)) same in
    let all = sum_by-cons (λ (x : RoundOver). x.pairs) o [] in
    let rest : sum_by (λ (x : RoundOver). x.pairs) [] ≡ 0 = refl in
    let here : row.pairs ≡ o.pairs = ap (λ (f : RoundFigures). f.pairs) first in
    first_shown row (omega (arith, all, rest, none, here))
  where
    head_or : List RoundFigures → RoundFigures → RoundFigures
    head_or [] f = f
    head_or (g ∷ fs) f = g
lone_held (row ∷ []) (o ∷ p ∷ told) same few none = absurd (omega (arith, few))
lone_held (row ∷ next ∷ rows) told same few none = let many = none_of (row ∷ next ∷ rows) told same in absurd (omega (arith, many, few))

module _ (s : SystemParts) (numbers : List ℕ) (first t : Tracing) (before now after : Option (List ℕ)) (told : List RoundOver) (tells : ToldRows s numbers first t before now told)
    (laws : AmountLaws s numbers told) (fired : map figures_of told ≡ figures_by s.rules.rules s.config (length told)) where
  -- the table of so many rounds is written
  abbrev Wrote : Format → ℕ → Type 0
  Wrote format rounds = format ≡ Table → Appends before after (table_of (told_rows s.rules.rules s.config rounds))

  pub wrote : (format : Format) (rounds : ℕ) → first.format ≡ format → (length told ≡ rounds) ⊎ ((rounds ≡ 0) × (length told ≤ 1) × (sum_by (λ o. o.pairs) told ≡ 0))
      → (t.format ≡ Table → 1 ≤ rounds → Appends now after (t.unwritten.items ++ flat_map row_line (option_to_list t.held)))
      → (t.format ≡ Table → rounds ≡ 0 → Appends now after t.unwritten.items)
      → Wrote format rounds
  wrote format zero begun many all none = λ is.
      let here : t.format ≡ Table = tells.shows.format ∙ (begun ∙ is) in
      subst (Appends before after) (tells.shows.lines here ∙ ap table_of (by many))
      (Appends-trans before now after tells.shows.written t.unwritten.items tells.shows.appends (none here refl))
    where
      by : (length told ≡ 0) ⊎ ((◌≡◌ {A = ℕ} 0 0) × (length told ≤ 1) × (sum_by (λ o. o.pairs) told ≡ 0)) → shown_of tells.rows ≡ []
      by (inl same) = ap shown_of (no_row tells.rows (none_of tells.rows told tells.numbers ∙ same))
      by (inr few) = lone_held tells.rows told tells.numbers few.1 few.2
  wrote format (suc k) begun (inr few) all none = absurd (let zero_rounds = few.0 in omega (arith, zero_rounds))
  wrote format (suc k) begun (inl many) all none = λ is.
      let here : t.format ≡ Table = tells.shows.format ∙ (begun ∙ is) in
      let bytes = flat_map row_line (option_to_list t.held) in
      let rows : tells.rows ≡ told_rows s.rules.rules s.config (suc k) =
      rows_of_iterates s numbers tells.rows told laws tells.are_rows tells.numbers fired ∙ ap (told_rows s.rules.rules s.config) many in
      subst (Appends before after)
      (sym (append_assoc tells.shows.written t.unwritten.items bytes)
      ∙ (ap (λ l. l ++ bytes) (tells.shows.lines here)
      ∙ (table_on (shown_of tells.rows) (option_to_list t.held) ∙ (ap table_of tells.held ∙ ap table_of rows))))
      (Appends-trans before now after tells.shows.written (t.unwritten.items ++ bytes) tells.shows.appends (all here (omega arith)))
