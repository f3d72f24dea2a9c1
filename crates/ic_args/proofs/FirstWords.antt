-- A word of the table is met where its name stands first.
use Rattle.std.proofs.Common.{◌≡◌, ◌∙◌, List, [], ◌∷◌, ◌++◌, Bool, true, ◌&&◌, cond, drop, Option, None, Some, find, fold, option_map, append-nil, append_assoc, refl, sym, ap, true≢false}
use Rattle.std.specs.List.{AllByRecursion, list_all}
use Rattle.std.proofs.lemmas.Bool.{and_parts}
use Rattle.std.proofs.lemmas.Slice.Eq.{bytes_eq-Decides}
use Rattle.clap.specs.Words.{App, Row, Rule, Shape, Text, built, subcommand_of}
use Rattle.clap.specs.Walk.{Names, Walk, after_step, answers_to, idle, nothing_held, subcommand_met, subcommand_or_other, stop_after, walk, walk_from, walked}
use Rattle.clap.specs.Simple.{entered, label_of, names_of, rows_at}
use Rattle.ic_args.specs.declared.rows.Entry.{Entry}
use Rattle.ic_args.specs.Words.{command_line, IsFirst}
use Rattle.ic_args.specs.inner.Making.{are_found, has_shape, is_found, is_met, is_some_text}

some_text : (name : Text) (met : Option Text) → is_some_text name met ≡ true → met ≡ Some name
some_text name None is = absurd (true≢false (sym is))
some_text name (Some other) is = ap (λ (t : Text). Some t) ((bytes_eq-Decides other name).0 is)

module _ (rules : List Rule) (names : Names) where
  abbrev stopped_at : Text → List Text → Walk
  stopped_at name words = record (walk_from nothing_held) { stopped = Some (name, words) }

  stopped_with : (name : Text) (words more : List Text) → fold (walked rules names) (stopped_at name words) more ≡ stopped_at name (words ++ more)
  unfolding walked
  stopped_with name words [] = ap (stopped_at name) (sym (append-nil words))
  stopped_with name words (v ∷ vs) = stopped_with name (words ++ v ∷ []) vs ∙ ap (stopped_at name) (append_assoc words (v ∷ []) vs)

  first_walked : (name : Text) → subcommand_met names idle name ≡ Some name → walked rules names (walk_from nothing_held) name ≡ stopped_at name []
  unfolding walked
  first_walked name met =
      ap (λ (o : Option Text). after_step rules name (walk_from nothing_held) (subcommand_or_other rules o idle 1 name nothing_held).0 (subcommand_or_other rules o idle 1 name nothing_held).1) met

  stops : (name : Text) (words : List Text) → subcommand_met names idle name ≡ Some name → (walk rules names nothing_held (name ∷ words)).stopped ≡ Some (name, words)
  stops name words met = ap (λ (w : Walk). (fold (walked rules names) w words).stopped) (first_walked name met) ∙ ap (λ (w : Walk). w.stopped) (stopped_with name [] words)

name_of_rows : (o : Option Shape) (words : List Text) → option_map (λ (p : Text × List Row). p.0) (option_map (λ (s : Shape). rows_at s words) o) ≡ option_map (λ (s : Shape). s.name) o
name_of_rows None words = refl
name_of_rows (Some s) words = refl

found_first : (app : App) (name : Text) (rest : List Text) → app.top.no_binary_name ≡ true → is_found app name ≡ true
    → option_map (λ (p : Text × List Row). p.0) (subcommand_of app (name ∷ rest)) ≡ Some name
found_first app name rest bare found =
    let parts = and_parts (is_met app name) (has_shape app name) found in
    let rules = (built app).top.rules in
    let names = names_of (built app) in
    ap (λ (b : Bool). option_map (λ (p : Text × List Row). p.0) (entered (built app) (stop_after rules names (cond b (name ∷ rest) (drop 1 (name ∷ rest)))))) bare
    ∙ ap (λ (s : Option (Text × List Text)). option_map (λ (p : Text × List Row). p.0) (entered (built app) s)) (stops rules names name rest (some_text name _ parts.0))
    ∙ name_of_rows (find (λ (s : Shape). answers_to name (label_of s)) (built app).subs) rest ∙ some_text name _ parts.1

all_first : (table entries : List Entry) → (command_line table).top.no_binary_name ≡ true
    → list_all (λ (e : Entry). is_found (command_line table) e.name.now) entries ≡ true → AllByRecursion (IsFirst table) entries
all_first table [] bare found = tt
all_first table (e ∷ es) bare found =
    let parts = and_parts (is_found (command_line table) e.name.now) (list_all (λ (e : Entry). is_found (command_line table) e.name.now) es) found in
    ((λ rest. found_first (command_line table) e.name.now rest bare parts.0), all_first table es bare parts.1)

pub found_all : (table : List Entry) → are_found table ≡ true → AllByRecursion (IsFirst table) table
found_all table found =
    let parts = and_parts (command_line table).top.no_binary_name (list_all (λ (e : Entry). is_found (command_line table) e.name.now) table) found in
    all_first table table parts.0 parts.1
