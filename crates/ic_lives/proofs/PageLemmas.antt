-- Lives one after the other.
use Rattle.std.proofs.Common.{◌≡◌, ℕ, ◌+◌, List, [], ◌∷◌, ◌++◌, Option, None, Some, length, take, drop, refl, sym, ap, subst, ◌∙◌, append_assoc}
use Rattle.std.specs.Prelude.{◌↔◌, IsSome}
use Rattle.std.specs.List.{sum_by}
use Rattle.std.proofs.lemmas.List.{take-append-drop, take-take, length-take-le, length-append, append-nil}
use Rattle.std.proofs.lemmas.List.Concat.{flat_map-append}
use Rattle.std.proofs.lemmas.List.Sums.{sum_by-cons}
use Rattle.ic_rules.specs.RuleSet.{Rules}
use Rattle.ic_round.specs.Rounds.{iterate}
use Rattle.ic_jobs.specs.declared.event.Entry.{Entry}
use Rattle.ic_jobs.specs.Job.{JobParts}
use Rattle.ic_jobs.specs.History.{replay, IsLegal}
use Rattle.ic_jobs.specs.Life.{Life, HasLived, IsAsLived}
use Rattle.ic_slots.specs.Held.{Held, the_table, IsHeld, HoldsTable}
use Rattle.ic_book.specs.Lives.{Page, IsPage, AreLives, left_by, lived}
use Rattle.ic_lives.specs.lemmas.RunLemmas.{Replays, Joins}

legal_front : Joins → (t : List JobParts) (h : List Entry) (n : ℕ) → IsLegal t h → IsLegal t (take n h)
legal_front joins t h n legal =
    let whole : IsLegal t (take n h ++ drop n h) = subst (λ (l : List Entry). IsLegal t l) (sym (take-append-drop n h)) legal in
    let parts = (joins t (take n h) (drop n h)).0 whole in parts.0

-- ---- one page more

pub apart : Replays → (t : List JobParts) (before : List Page) (last : Page) → AreLives t (before ++ last ∷ [])
    → AreLives t before × IsPage last × (last.start ≡ replay t (lived before))
apart replays t [] last lives = (tt, lives.1, lives.0)
apart replays t (p ∷ ps) last lives =
    let u = replay p.start (left_by p) in
    let rest = apart replays (replay p.start (left_by p)) ps last lives.2 in
    let from : replay p.start (left_by p ++ lived ps) ≡ replay (replay p.start (left_by p)) (lived ps) = replays p.start (left_by p) (lived ps) in
    let opened : replay p.start (left_by p ++ lived ps) ≡ replay t (left_by p ++ lived ps) = ap (λ (s : List JobParts). replay s (left_by p ++ lived ps)) lives.0 in
    ((lives.0, lives.1, rest.0), rest.1, rest.2 ∙ sym from ∙ opened)

pub together : Replays → (t : List JobParts) (before : List Page) (last : Page)
    → AreLives t before → IsPage last → last.start ≡ replay t (lived before) → AreLives t (before ++ last ∷ [])
together replays t [] last lives is opens = (opens, is, tt)
together replays t (p ∷ ps) last lives is opens =
    let from : replay p.start (left_by p ++ lived ps) ≡ replay (replay p.start (left_by p)) (lived ps) = replays p.start (left_by p) (lived ps) in
    let opened : replay p.start (left_by p ++ lived ps) ≡ replay t (left_by p ++ lived ps) = ap (λ (s : List JobParts). replay s (left_by p ++ lived ps)) lives.0 in
    (lives.0, lives.1, together replays (replay p.start (left_by p)) ps last lives.2 is (opens ∙ sym opened ∙ from))

-- ---- the joined history

pub legal_lives : Joins → (t : List JobParts) (ps : List Page) → AreLives t ps → IsLegal t (lived ps)
legal_lives joins t [] lives = tt
legal_lives joins t (p ∷ ps) lives =
    let first = legal_front joins p.start p.log p.stop lives.1.legal in
    let rest = legal_lives joins (replay p.start (left_by p)) ps lives.2 in
    subst (λ (s : List JobParts). IsLegal s (left_by p ++ lived ps)) lives.0
    ((joins p.start (left_by p) (lived ps)).1 (first, rest))

pub legal_so_far : Replays → Joins → (before : List Page) (last : Page) (n : ℕ)
    → AreLives [] (before ++ last ∷ []) → IsLegal [] (lived before ++ take n last.log)
legal_so_far replays joins before last n lives =
    let parts = apart replays [] before last lives in
    let front = legal_front joins last.start last.log n parts.1.legal in
    let there : IsLegal (replay [] (lived before)) (take n last.log) = subst (λ (s : List JobParts). IsLegal s (take n last.log)) parts.2 front in
    (joins [] (lived before) (take n last.log)).1 (legal_lives joins [] before parts.0, there)

pub table_so_far : Replays → (before : List Page) (last : Page) (n : ℕ)
    → AreLives [] (before ++ last ∷ []) → replay last.start (take n last.log) ≡ replay [] (lived before ++ take n last.log)
table_so_far replays before last n lives =
    let parts = apart replays [] before last lives in
    ap (λ (s : List JobParts). replay s (take n last.log)) parts.2 ∙ sym (replays [] (lived before) (take n last.log))

-- ---- jobs

pub lived_once : (j : JobParts) (o : Option Life) → IsAsLived (Some j) o → IsSome o
lived_once j None is = absurd is
lived_once j (Some l) is = refl

pub iterated : (j : JobParts) (l : Life) → HasLived j l → j.config ≡ iterate j.rules.rules j.rounds l.first
iterated j l lived =
    let rounds : iterate l.rules.rules l.rounds l.first ≡ iterate l.rules.rules j.rounds l.first =
    ap (λ n. iterate l.rules.rules n l.first) (sym lived.rounds) in
    let rules : iterate l.rules.rules j.rounds l.first ≡ iterate j.rules.rules j.rounds l.first =
    ap (λ (r : Rules). iterate r.rules j.rounds l.first) (sym lived.rules) in
    lived.config ∙ rounds ∙ rules

pub at_job : (o : Option JobParts) (told : Option Life) (j : JobParts) → IsAsLived o told → o ≡ Some j → IsAsLived (Some j) told
at_job o told j lived is = subst (λ (p : Option JobParts). IsAsLived p told) is lived

pub at_life : (o : Option JobParts) (told : Option Life) (j : JobParts) (l : Life)
    → IsAsLived o told → o ≡ Some j → told ≡ Some l → HasLived j l
at_life o told j l lived is says = subst (λ (p : Option Life). IsAsLived (Some j) p) says (at_job o told j lived is)

-- ---- what was kept

kept_front : (p : Page) → IsPage p → left_by p ≡ take p.kept p.log ++ drop p.kept (left_by p)
kept_front p is =
    sym (take-append-drop p.kept (left_by p)) ∙ ap (λ l. l ++ drop p.kept (left_by p)) (take-take p.kept p.stop p.log is.kept)

pub kept_stays : (before after : List Page) (p : Page) → IsPage p
    → lived (before ++ p ∷ after) ≡ lived before ++ take p.kept p.log ++ drop p.kept (left_by p) ++ lived after
kept_stays before after p is =
    let joined : lived (before ++ p ∷ after) ≡ lived before ++ (left_by p ++ lived after) = flat_map-append left_by before (p ∷ after) in
    let split : lived before ++ (left_by p ++ lived after) ≡ lived before ++ ((take p.kept p.log ++ drop p.kept (left_by p)) ++ lived after) =
    ap (λ l. lived before ++ (l ++ lived after)) (kept_front p is) in
    let inner = ap (λ (l : List Entry). lived before ++ l) (append_assoc (take p.kept p.log) (drop p.kept (left_by p)) (lived after)) in
    let first = append_assoc (lived before) (take p.kept p.log) (drop p.kept (left_by p) ++ lived after) in
    let outer = append_assoc (lived before ++ take p.kept p.log) (drop p.kept (left_by p)) (lived after) in
    joined ∙ split ∙ inner ∙ sym first ∙ sym outer

pub counted : (t : List JobParts) (ps : List Page) → AreLives t ps → length (lived ps) ≡ sum_by (λ p. p.stop) ps
counted t [] lives = refl
counted t (p ∷ ps) lives =
    let front : length (left_by p) ≡ p.stop = length-take-le p.stop p.log lives.1.stop in
    let rest = counted (replay p.start (left_by p)) ps lives.2 in
    let both : length (left_by p) + length (lived ps) ≡ p.stop + sum_by (λ (q : Page). q.stop) ps = cc in
    length-append (left_by p) (lived ps) ∙ both ∙ sym (sum_by-cons (λ (q : Page). q.stop) p ps)

-- ---- one life more

lived-last : (before : List Page) (last : Page) → lived (before ++ last ∷ []) ≡ lived before ++ left_by last
lived-last before last =
    flat_map-append left_by before (last ∷ []) ∙ ap (λ (l : List Entry). lived before ++ l) (append-nil (left_by last))

abbrev table_in : Held → List JobParts
table_in (the_table t) = t
table_in _ = []

pub begins_next : Replays → ((file : List ℕ) (one other : Held) → IsHeld one file → IsHeld other file → one ≡ other)
    → (before : List Page) (last : Page) (file : List ℕ) (next : List JobParts) → AreLives [] (before ++ last ∷ [])
    → HoldsTable (replay last.start (left_by last)) file → IsHeld (the_table next) file
    → next ≡ replay [] (lived (before ++ last ∷ []))
begins_next replays one before last file next lives holds held =
    let same : the_table next ≡ the_table (replay last.start (left_by last)) =
    one file (the_table next) (the_table (replay last.start (left_by last))) held holds.held in
    let opened : next ≡ replay last.start (left_by last) = ap table_in same in
    let parts = apart replays [] before last lives in
    let from : replay last.start (left_by last) ≡ replay (replay [] (lived before)) (left_by last) =
    ap (λ (s : List JobParts). replay s (left_by last)) parts.2 in
    let all : replay [] (lived before ++ left_by last) ≡ replay (replay [] (lived before)) (left_by last) =
    replays [] (lived before) (left_by last) in
    opened ∙ from ∙ sym all ∙ ap (λ (h : List Entry). replay [] h) (sym (lived-last before last))
