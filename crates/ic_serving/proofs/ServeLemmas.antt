-- The lines of a reader, one after the other.
use Rattle.std.proofs.Common.{◌≡◌, ◌==◌, ◌≢◌, ◌⊎◌, inl, inr, ℕ, ◌+◌, ◌<◌, ◌≤◌, List, [], ◌∷◌, ◌++◌, Option, None, Some, Ok, Err, length, refl, sym, ap, subst, ◌∙◌, arith, append-nil, append_assoc, length-append}
use Rattle.std.specs.Prelude.{replicate}
use Rattle.std.proofs.lemmas.Bool.{cases_Bool}
use Rattle.std.proofs.lemmas.List.{length-replicate}
use Rattle.std.specs.List.{AllByRecursion, onto_first}
use Rattle.std.specs.Io.KnownBytes.{Appends, Keeps}
use Rattle.ic_jobs.specs.Job.{JobParts}
use Rattle.ic_jobs.specs.declared.command.Command.{Command}
use Rattle.ic_jobs.specs.declared.event.Event.{Event}
use Rattle.ic_jobs.specs.declared.event.Event.TheVariants.{Command as by_command}
use Rattle.ic_jobs.specs.History.{table_after}
use Rattle.ic_commands.specs.declared.line.Line.TheVariants.{Command as Asks}
use Rattle.ic_commands.specs.LineText.{ReadsLine}
use Rattle.ic_text.specs.declared.limits.TheConstants.{MAX_TEXT}
use Rattle.ic_lines.specs.Lines.{lines}
use Rattle.ic_lines.specs.Answers.{Reading, answer, after_line, events}
use Rattle.ic_lines.specs.Turns.{after_events}
use Rattle.ic_lines.specs.Serving.{IsServed}
use Rattle.ic_lines.specs.Taking.{BufferParts, to_come, TakesLine, HasNoLine, HasLongLine}
use Rattle.ic_serving.specs.declared.limits.TheConstants.{MAX_LINES}
use Rattle.ic_serving.specs.declared.fault.ServeFault.{ServeFault}
use Rattle.ic_serving.specs.declared.fault.ServeFault.TheVariants.{Read, Write, TooManyLines, Book, Pool, LongLine, Memory}
use Rattle.ic_serving.specs.Answered.{AskFor}
use Rattle.ic_serving.specs.Parts.{IsPart, IsInFew, IsInFirst, IsInLine}
use Rattle.ic_serving.specs.Stopped.{IsReached}
use Rattle.ic_serving.specs.inner.Group.{TakesLines, asked}
use Rattle.ic_serving.specs.Served.{OfLines, IsReadOut, MayBeServed, AreAnswered, AppendsFront, ComesAt, SaysOf, IsLeftBy, IsEnded, IsCut}
use Rattle.ic_serving.specs.Faults.{ComesAlone, ComesBroken, MayCome, ComesInLine, CountsServe, fault_of_line}
use Rattle.ic_lines.specs.declared.buffer.LineFault.{LineFault}
use Rattle.ic_lines.specs.declared.buffer.LineFault.TheVariants as line_fault
use Rattle.ic_serving.specs.inner.Progress.{AreFirst, AreToCome, HasSomeLine, IsUnderWay, IsUntaken}
use Rattle.ic_serving.specs.lemmas.Reaching.{SomeWay, in_first, in_line, longer, served_none}
use Rattle.ic_serving.proofs.WriteLemmas.{appends_none, appends_kept, appends_more, front_none, front_after}

-- ---- lines that were answered

-- lines after other lines are served from the table that those leave
abbrev pub Joined : Type 0
Joined = (t u v : List JobParts) (ls more : List (List ℕ)) (a b : List ℕ) → IsServed t ls a u → IsServed u more b v → IsServed t (ls ++ more) (a ++ b) v

pub served_line : (t : List JobParts) (line bytes : List ℕ) (r : Reading) (u : List JobParts) → ReadsLine line r → bytes ≡ answer t r → u ≡ after_line t r
    → IsServed t (line ∷ []) bytes u
served_line t line bytes r u reads is left = record {
  readings = r ∷ [];
  read = (reads, tt);
  answered = is ∙ sym (append-nil (answer t r));
  leaves = left;
}

short_both : (a b : List (List ℕ)) → AllByRecursion (λ line. length line ≤ MAX_TEXT) a → AllByRecursion (λ line. length line ≤ MAX_TEXT) b
    → AllByRecursion (λ line. length line ≤ MAX_TEXT) (a ++ b)
short_both [] b p q = q
short_both (l ∷ ls) b p q = (p.0, short_both ls b p.1 q)

pub within_more : (front ls : List (List ℕ)) (left : ℕ) → MayBeServed front → length front + left ≡ MAX_LINES → length ls ≤ left
    → AllByRecursion (λ line. length line ≤ MAX_TEXT) ls → MayBeServed (front ++ ls)
within_more front ls left w counted few short = record {
  few = omega (arith, counted, few, length-append front ls);
  short = short_both front ls w.short short;
}

-- ---- tables within some lines

-- a table within commands is within one of the lines that ask for them
few_after : Joined → (l : List ℕ) (c : Command) (t u : List JobParts) (ls : List (List ℕ)) → ReadsLine l (Ok (Asks c)) → IsInFew (length ls) (table_after t (by_command c)) ls u
    → IsInFew (length ls + 1) t (l ∷ ls) u
few_after law l c t u ls reads r = record {
  front = l ∷ r.front;
  rest = r.rest;
  answers = answer t (Ok (Asks c)) ++ r.answers;
  between = r.between;
  parted = ap (λ (xs : List (List ℕ)). l ∷ xs) r.parted;
  few = (let few = r.few in omega (arith, few));
  served = law t (table_after t (by_command c)) r.between (l ∷ []) r.front (answer t (Ok (Asks c))) r.answers
      (served_line t l (answer t (Ok (Asks c))) (Ok (Asks c)) (table_after t (by_command c)) reads refl refl) r.served;
  in_line = r.in_line;
}

few_at : Joined → SomeWay → (l : List ℕ) (ls : List (List ℕ)) (c : Command) (cs : List Command) (t u : List JobParts) → ReadsLine l (Ok (Asks c)) → AskFor ls cs
    → (front rest : List Event) → by_command c ∷ asked cs ≡ front ++ rest → u ≡ after_events t front → IsInFew (length ls + 1) t (l ∷ ls) u
few_at law some l ls c cs t u reads asks [] rest parted leaves = record {
  front = [];
  rest = l ∷ ls;
  answers = [];
  between = t;
  parted = refl;
  few = omega arith;
  served = served_none t;
  in_line = subst (λ (x : List JobParts). IsInLine t l x) (sym leaves) (in_line some t l);
}
few_at law some l ls c cs t u reads asks (e ∷ []) rest parted leaves =
    let same : by_command c ≡ e = cc in
    record {
      front = [];
      rest = l ∷ ls;
      answers = [];
      between = t;
      parted = refl;
      few = omega arith;
      served = served_none t;
      in_line = record {
        reading = Ok (Asks c);
        read = reads;
        part = record { front = by_command c ∷ []; rest = []; parted = refl; leaves = leaves ∙ ap (λ (x : Event). table_after t x) (sym same) };
      };
    }
few_at law some l [] c [] t u reads asks (e ∷ f ∷ es) rest parted leaves =
    let none : [] ≡ f ∷ (es ++ rest) = cc in
    let zero = ap length none in absurd (omega (arith, zero))
few_at law some l [] c (d ∷ ds) t u reads asks (e ∷ f ∷ es) rest parted leaves = absurd asks
few_at law some l (m ∷ ms) c [] t u reads asks (e ∷ f ∷ es) rest parted leaves = absurd asks
few_at law some l (m ∷ ms) c (d ∷ ds) t u reads asks (e ∷ f ∷ es) rest parted leaves =
    let same : by_command c ≡ e = cc in
    let others : by_command d ∷ asked ds ≡ (f ∷ es) ++ rest = cc in
    let there : u ≡ after_events (table_after t (by_command c)) (f ∷ es) = leaves ∙ ap (λ (x : Event). after_events (table_after t x) (f ∷ es)) (sym same) in
    few_after law l c t u (m ∷ ms) reads (few_as (length ms + 1) (length (m ∷ ms)) (table_after t (by_command c)) (m ∷ ms) u
    (few_at law some m ms d ds (table_after t (by_command c)) u asks.0 asks.1 (f ∷ es) rest others there) (omega arith))
  where
    few_as : (n k : ℕ) (x : List JobParts) (xs : List (List ℕ)) (y : List JobParts) → IsInFew n x xs y → n ≡ k → IsInFew k x xs y
    few_as n k x xs y is same = subst (λ (j : ℕ). IsInFew j x xs y) same is

-- at most so many of them
pub few_more : (n most : ℕ) (t u : List JobParts) (ls : List (List ℕ)) → IsInFew n t ls u → n ≤ most → IsInFew most t ls u
few_more n most t u ls r less = record {
  front = r.front;
  rest = r.rest;
  answers = r.answers;
  between = r.between;
  parted = r.parted;
  few = (let few = r.few in omega (arith, few, less));
  served = r.served;
  in_line = r.in_line;
}

-- lines come after them
pub few_longer : SomeWay → (most : ℕ) (t u : List JobParts) (ls more : List (List ℕ)) → IsInFew most t ls u → IsInFew most t (ls ++ more) u
few_longer some most t u ls more r = record {
  front = r.front;
  rest = r.rest ++ more;
  answers = r.answers;
  between = r.between;
  parted = ap (λ xs. xs ++ more) r.parted ∙ append_assoc r.front r.rest more;
  few = r.few;
  served = r.served;
  in_line = longer some r.between u r.rest more r.in_line;
}

pub few_first : SomeWay → (most : ℕ) (t u : List JobParts) (ls : List (List ℕ)) → 1 ≤ most → u ≡ t → IsInFew most t ls u
few_first some most t u ls one same = record {
  front = [];
  rest = ls;
  answers = [];
  between = t;
  parted = refl;
  few = omega (arith, one);
  served = served_none t;
  in_line = subst (λ (x : List JobParts). IsInFirst t ls x) (sym same) (in_first some t ls);
}

-- of one line, and of a group
pub few_line : (most : ℕ) (t u : List JobParts) (line : List ℕ) (r : Reading) → 1 ≤ most → ReadsLine line r → IsPart t (events t r) u → IsInFew most t (line ∷ []) u
few_line most t u line r one reads part = record {
  front = [];
  rest = line ∷ [];
  answers = [];
  between = t;
  parted = refl;
  few = omega (arith, one);
  served = served_none t;
  in_line = record { reading = r; read = reads; part = part };
}

pub few_group : Joined → SomeWay → (most : ℕ) (t u : List JobParts) (line : List ℕ) (ls : List (List ℕ)) (c : Command) (cs : List Command) → length ls < most
    → ReadsLine line (Ok (Asks c)) → AskFor ls cs → IsPart t (asked (c ∷ cs)) u → IsInFew most t (line ∷ ls) u
few_group law some most t u line ls c cs less reads asks part =
    few_more (length ls + 1) most t u (line ∷ ls) (few_at law some line ls c cs t u reads asks part.front part.rest part.parted part.leaves) (omega (arith, less))

short_front : (ls front rest : List (List ℕ)) → ls ≡ front ++ rest → AllByRecursion (λ line. length line ≤ MAX_TEXT) ls → AllByRecursion (λ line. length line ≤ MAX_TEXT) front
short_front ls [] rest parted short = tt
short_front [] (f ∷ front) rest parted short = let zero = ap length parted in absurd (omega (arith, zero))
short_front (l ∷ ls) (f ∷ front) rest parted short =
    let same : l ≡ f = cc in
    let others : ls ≡ front ++ rest = cc in
    (subst (λ (x : List ℕ). length x ≤ MAX_TEXT) same short.0, short_front ls front rest others short.1)

-- after lines that were served, it is reached
pub few_reached : Joined → (most left : ℕ) (t between u : List JobParts) (front ls more : List (List ℕ)) (answers : List ℕ) → SomeWay → MayBeServed front → length front + left ≡ MAX_LINES
    → most ≤ left → AllByRecursion (λ line. length line ≤ MAX_TEXT) ls → IsServed t front answers between → IsInFew most between ls u → IsReached t (front ++ (ls ++ more)) u
few_reached law most left t between u front ls more answers some within counted less short served r = record {
  front = front ++ r.front;
  rest = r.rest ++ more;
  answers = answers ++ r.answers;
  between = r.between;
  parted = ap (λ (xs : List (List ℕ)). front ++ (xs ++ more)) r.parted ∙ ap (λ (xs : List (List ℕ)). front ++ xs) (append_assoc r.front r.rest more)
      ∙ sym (append_assoc front r.front (r.rest ++ more));
  within = record {
    few = (let few = r.few in omega (arith, counted, less, few, length-append front r.front));
    short = short_both front r.front within.short (short_front ls r.front r.rest r.parted short);
  };
  served = law t between r.between front r.front answers r.answers served r.served;
  in_line = longer some r.between u r.rest more r.in_line;
}

-- ---- the lines of a reader

-- the lines of what is to come, as far as it is told
abbrev pub ahead : Option (List ℕ) → List (List ℕ)
ahead None = []
ahead (Some rest) = lines rest

pub is_ahead : (rest : Option (List ℕ)) → AreToCome rest (ahead rest)
is_ahead None = tt
is_ahead (Some rest) = refl

pub none_ahead : (rest : Option (List ℕ)) → HasNoLine rest → AreToCome rest []
none_ahead None none = tt
none_ahead (Some rest) none = none

no_bytes : (text : List ℕ) → lines text ≡ [] → text ≡ []
no_bytes [] none = refl
no_bytes (b ∷ bs) none = elim (cases_Bool (b == 10)) [
  | inl e ↦ (let bad : [] ∷ lines bs ≡ [] = rw e at none in let zero = ap length bad in absurd (omega (arith, zero)))
  | inr e ↦ (let bad : onto_first b (lines bs) ≡ [] = rw e at none in absurd (never (lines bs) bad))
]
  where
    never : (ls : List (List ℕ)) → onto_first b ls ≡ [] → ⊥
    never [] bad = let zero = ap length bad in omega (arith, zero)
    never (l ∷ ls) bad = let zero = ap length bad in omega (arith, zero)

-- no line is to come, and no more is read: the reader has nothing left
pub read_out : (text rest : Option (List ℕ)) (front : List (List ℕ)) (b : BufferParts) (now : Option (List ℕ)) → AreFirst text front rest
    → HasNoLine rest → Keeps rest (to_come b now) → IsReadOut text now
read_out None rest front b now first none kept = tt
read_out (Some text) None front b now first none kept = absurd first
read_out (Some text) (Some rest) front b None first none kept = absurd kept
read_out (Some text) (Some rest) front b (Some left) first none kept =
    ap (λ xs. Some xs) (none_of b.ahead left (kept ∙ no_bytes rest none))
  where
    none_of : (xs ys : List ℕ) → xs ++ ys ≡ [] → ys ≡ []
    none_of [] ys none = none
    none_of (x ∷ xs) ys none = let zero = ap length none in absurd (omega (arith, zero))

-- some lines are taken, and the others are to come
pub taken : (ls : List (List ℕ)) (rest next : Option (List ℕ)) → TakesLines ls rest next → AreToCome rest (ls ++ ahead next)
taken ls None next takes = tt
taken ls (Some rest) None takes = absurd takes
taken ls (Some rest) (Some next) takes = takes

pub taken_one : (line : List ℕ) (rest next : Option (List ℕ)) → TakesLine line rest next → AreToCome rest ((line ∷ []) ++ ahead next)
taken_one line None next takes = tt
taken_one line (Some rest) None takes = absurd takes
taken_one line (Some rest) (Some next) takes = takes

-- the first of them, and those that were ready
pub takes_more : (line : List ℕ) (ls : List (List ℕ)) (a b c : Option (List ℕ)) → TakesLine line a b → TakesLines ls b c → TakesLines (line ∷ ls) a c
takes_more line ls None b c p q = tt
takes_more line ls (Some x) None c p q = absurd p
takes_more line ls (Some x) (Some y) None p q = absurd q
takes_more line ls (Some x) (Some y) (Some z) p q = p ∙ ap (λ xs. line ∷ xs) q

-- a line that is too long is to come; where the reader doesn't tell its bytes, some such line
pub record ComesLong (rest : Option (List ℕ)) : Type 0 where
  pub line : List ℕ
  pub more : List (List ℕ)
  pub coming : AreToCome rest (line ∷ more)
  pub long : MAX_TEXT < length line

pub comes_long : (rest : Option (List ℕ)) → HasLongLine rest → ComesLong rest
comes_long None long = record {
  line = replicate (MAX_TEXT + 1) 0;
  more = [];
  coming = tt;
  long = omega (arith, length-replicate {A = ℕ} (MAX_TEXT + 1) 0);
}
comes_long (Some rest) long = record { line = long.line; more = long.rest; coming = long.first; long = long.long }

-- what is so of the first lines and of those to come is so of the lines of the reader
pub of_lines : (text rest : Option (List ℕ)) (front more : List (List ℕ)) (what : List (List ℕ) → Type 0) → AreFirst text front rest → AreToCome rest more
    → what (front ++ more) → OfLines text what
of_lines None rest front more what first coming is = (front ++ more, is)
of_lines (Some text) None front more what first coming is = absurd first
of_lines (Some text) (Some rest) front more what first coming is = subst what (sym (first ∙ ap (λ ls. front ++ ls) coming)) is

pub first_none : (text : Option (List ℕ)) (b : BufferParts) → b.ahead ≡ [] → AreFirst text [] (to_come b text)
first_none None b none = tt
first_none (Some text) b none = ap (λ xs. lines (xs ++ text)) (sym none)

pub first_more : (text rest next : Option (List ℕ)) (front ls : List (List ℕ)) → AreFirst text front rest → TakesLines ls rest next
    → AreFirst text (front ++ ls) next
first_more None rest next front ls first takes = tt
first_more (Some text) None next front ls first takes = absurd first
first_more (Some text) (Some rest) None front ls first takes = absurd takes
first_more (Some text) (Some rest) (Some next) front ls first takes =
    first ∙ ap (λ xs. front ++ xs) takes ∙ sym (append_assoc front ls (lines next))

-- ---- lines that were answered so far

abbrev pub under_first : (text : Option (List ℕ)) (b : BufferParts) (t : List JobParts) (c : Option (List ℕ)) → b.ahead ≡ []
    → IsUnderWay text (to_come b text) MAX_LINES t t c c
under_first text b t c none = record {
  front = [];
  first = first_none text b none;
  counted = refl;
  answered = record {
    within = record { few = omega arith; short = tt };
    answers = [];
    served = served_none t;
    written = appends_none c;
  };
}

abbrev pub under_more : Joined → (text rest next : Option (List ℕ)) (left then : ℕ) (t u v : List JobParts) (old mid seen new : Option (List ℕ)) (ls : List (List ℕ)) (bytes : List ℕ)
    → IsUnderWay text rest left t u old mid → TakesLines ls rest next → AllByRecursion (λ line. length line ≤ MAX_TEXT) ls → then + length ls ≡ left
    → IsServed u ls bytes v → Keeps mid seen → Appends seen new bytes
    → IsUnderWay text next then t v old new
under_more law text rest next left then t u v old mid seen new ls bytes way takes short counts served kept written =
    let counted = way.counted in
    record {
      front = way.front ++ ls;
      first = first_more text rest next way.front ls way.first takes;
      counted = omega (arith, counted, counts, length-append way.front ls);
      answered = record {
        within = within_more way.front ls left way.answered.within way.counted (omega (arith, counts)) short;
        answers = way.answered.answers ++ bytes;
        served = law t u v way.front ls way.answered.answers bytes way.answered.served served;
        written = appends_more old seen new way.answered.answers bytes (appends_kept old mid seen way.answered.answers way.answered.written kept) written;
      };
    }

answered_kept : (ls : List (List ℕ)) (t u : List JobParts) (old mid new : Option (List ℕ)) → AreAnswered ls t u old mid → Keeps mid new → AreAnswered ls t u old new
answered_kept ls t u old mid new a kept = record {
  within = a.within;
  answers = a.answers;
  served = a.served;
  written = appends_kept old mid new a.answers a.written kept;
}

pub over : (ls : List (List ℕ)) (t u : List JobParts) (old mid new : Option (List ℕ)) → AreAnswered ls t u old mid → Keeps mid new → AreAnswered (ls ++ []) t u old new
over ls t u old mid new answered kept = subst (λ (xs : List (List ℕ)). AreAnswered xs t u old new) (sym (append-nil ls)) (answered_kept ls t u old mid new answered kept)

-- ---- a fault

pub ended_at : (fault : ServeFault) (most : ℕ) (all : Type 0) (ls more : List (List ℕ)) (t u v w : List JobParts) (old mid new : Option (List ℕ))
    → AreAnswered ls t u old mid → Keeps mid new → SaysOf fault u v ls more → IsLeftBy fault most u more v → (all → IsLeftBy fault most u more w)
    → IsEnded fault most all ls more t v w old new
ended_at fault most all ls more t u v w old mid new answered kept says here keeps = record {
  between = u;
  answered = answered_kept ls t u old mid new answered kept;
  says = says;
  in_group = here;
  keeps = keeps;
}

pub cut_before : (most : ℕ) (ls : List (List ℕ)) (t u : List JobParts) (old mid new : Option (List ℕ)) → AreAnswered ls t u old mid → Keeps mid new → IsCut most ls t u old new
cut_before most ls t u old mid new answered kept = record {
  whole = ls;
  last = [];
  between = u;
  answers = answered.answers;
  more = [];
  parted = sym (append-nil ls);
  few = omega arith;
  within = answered.within;
  answered = answered.served;
  done = served_none u;
  written = front_none old new answered.answers (appends_kept old mid new answered.answers answered.written kept);
}

pub cut_after : (most : ℕ) (front : List (List ℕ)) (left : ℕ) (t u v : List JobParts) (old mid seen new : Option (List ℕ)) (ls : List (List ℕ)) (bytes : List ℕ)
    → AreAnswered front t u old mid → length front + left ≡ MAX_LINES → length ls ≤ left → length ls ≤ most → AllByRecursion (λ line. length line ≤ MAX_TEXT) ls
    → IsServed u ls bytes v → Keeps mid seen → AppendsFront seen new [] bytes → IsCut most (front ++ ls) t v old new
cut_after most front left t u v old mid seen new ls bytes answered counted few small short served kept written = record {
  whole = front;
  last = ls;
  between = u;
  answers = answered.answers;
  more = bytes;
  parted = refl;
  few = small;
  within = within_more front ls left answered.within counted few short;
  answered = answered.served;
  done = served;
  written = front_after old mid seen new answered.answers bytes answered.written kept written;
}

-- ---- where a table stands

-- nothing of the next line has come
pub left_first : SomeWay → (fault : ServeFault) (most : ℕ) (u v : List JobParts) (ls : List (List ℕ)) → 1 ≤ most → v ≡ u → IsLeftBy fault most u ls v
left_first law Read most u v ls one same = same
left_first law TooManyLines most u v ls one same = same
left_first law LongLine most u v ls one same = same
left_first law Write most u v ls one same = few_first law most u v ls one same
left_first law (Book b) most u v ls one same = few_first law most u v ls one same
left_first law (Pool p) most u v ls one same = few_first law most u v ls one same
left_first law Memory most u v ls one same = few_first law most u v ls one same

-- some of its events have come
pub left_within : (fault : ServeFault) (most : ℕ) (u v : List JobParts) (ls : List (List ℕ)) → ComesInLine fault → IsInFew most u ls v → IsLeftBy fault most u ls v
left_within (Book b) most u v ls of there = there
left_within (Pool p) most u v ls of there = there
left_within Memory most u v ls of there = there
left_within _ most u v ls of there = absurd of

-- some events of the next lines, and what is kept of them
pub few_after_all : SomeWay → (n most : ℕ) (t u : List JobParts) (ls more : List (List ℕ)) → n ≤ most → IsInFew n t ls u → IsInFew most t (ls ++ more) u
few_after_all some n most t u ls more less r = few_longer some most t u ls more (few_more n most t u ls r less)

pub kept_within : SomeWay → (n most : ℕ) (t kept u : List JobParts) (ls more : List (List ℕ)) → n ≤ most → 1 ≤ most → kept ≡ t → (u ≡ kept) ⊎ IsInFew n t ls u
    → IsInFew most t (ls ++ more) u
kept_within some n most t kept u ls more less one all (inl same) = few_first some most t u (ls ++ more) one (same ∙ all)
kept_within some n most t kept u ls more less one all (inr r) = few_after_all some n most t u ls more less r

pub says_begun : (fault : ServeFault) (t left : List JobParts) (front : List (List ℕ)) (line : List ℕ) (more : List (List ℕ)) → ComesInLine fault → ComesAt t line left fault
    → SaysOf fault t left front (line ∷ more)
says_begun (Book b) t left front line more of comes = comes
says_begun (Pool p) t left front line more of comes = comes
says_begun Memory t left front line more of comes = tt
says_begun _ t left front line more of comes = absurd of

pub untaken_broken : (left : ℕ) (f : ServeFault) (rest : Option (List ℕ)) → IsUntaken left f rest → ComesBroken f
untaken_broken left (Book b) rest is = absurd is
untaken_broken left (Pool p) rest is = absurd is
untaken_broken left Read rest is = tt
untaken_broken left Write rest is = tt
untaken_broken left TooManyLines rest is = tt
untaken_broken left LongLine rest is = tt
untaken_broken left Memory rest is = tt

pub untaken_alone : (left : ℕ) (f : ServeFault) (rest : Option (List ℕ)) → IsUntaken left f rest → ComesAlone f
untaken_alone left (Book b) rest is = absurd is
untaken_alone left (Pool p) rest is = absurd is
untaken_alone left Read rest is = tt
untaken_alone left Write rest is = tt
untaken_alone left TooManyLines rest is = tt
untaken_alone left LongLine rest is = tt
untaken_alone left Memory rest is = tt

-- no line was taken, and these are to come
pub record NotTaken (f : ServeFault) (t : List JobParts) (rest : Option (List ℕ)) (front : List (List ℕ)) : Type 0 where
  pub more : List (List ℕ)
  pub coming : AreToCome rest more
  pub says : SaysOf f t t front more

comes_some : (rest : Option (List ℕ)) → HasSomeLine rest → (line : List ℕ) × (more : List (List ℕ)) × AreToCome rest (line ∷ more)
comes_some None some = ([], [], tt)
comes_some (Some rest) some = some

pub not_taken : (f : ServeFault) (left : ℕ) (t : List JobParts) (rest : Option (List ℕ)) (front : List (List ℕ)) → length front + left ≡ MAX_LINES → IsUntaken left f rest
    → NotTaken f t rest front
not_taken Read left t rest front counted is = record { more = ahead rest; coming = is_ahead rest; says = tt }
not_taken Write left t rest front counted is = record { more = ahead rest; coming = is_ahead rest; says = tt }
not_taken Memory left t rest front counted is = record { more = ahead rest; coming = is_ahead rest; says = tt }
not_taken LongLine left t rest front counted is =
    let comes = comes_long rest is.1 in
    let some = is.0 in
    record { more = comes.line ∷ comes.more; coming = comes.coming; says = (omega (arith, counted, some), comes.long) }
not_taken TooManyLines left t rest front counted is =
    let comes = comes_some rest is.1 in
    let none = is.0 in
    record { more = comes.0 ∷ comes.1; coming = comes.2; says = omega (arith, counted, none) }
not_taken (Book b) left t rest front counted is = absurd is
not_taken (Pool p) left t rest front counted is = absurd is

some_line : (line : List ℕ) (rest next : Option (List ℕ)) → TakesLine line rest next → HasSomeLine rest
some_line line None next takes = tt
some_line line (Some rest) None takes = absurd takes
some_line line (Some rest) (Some next) takes = (line, lines next, takes)

pub one_too_many : (line : List ℕ) (left : ℕ) (rest next : Option (List ℕ)) → left ≡ 0 → TakesLine line rest next → IsUntaken left TooManyLines rest
one_too_many line left rest next none takes = (none, some_line line rest next takes)

too_long : (rest : Option (List ℕ)) → HasLongLine rest → HasSomeLine rest
too_long None long = tt
too_long (Some rest) long = (long.line, long.rest, long.first)

-- the reader, the writer or memory, or a line that is too long
pub untaken : (e : LineFault) (left : ℕ) (rest : Option (List ℕ)) → left ≢ 0 → (e ≡ line_fault.LongLine → HasLongLine rest) → IsUntaken left (fault_of_line e) rest
untaken line_fault.Read left rest some long = tt
untaken line_fault.Write left rest some long = tt
untaken line_fault.Memory left rest some long = tt
untaken line_fault.LongLine left rest some long = (some, long refl)

-- after the last line that may be served
pub untaken_last : (e : LineFault) (f : ServeFault) (left : ℕ) (rest : Option (List ℕ)) → left ≡ 0 → (e ≡ line_fault.LongLine → f ≡ TooManyLines) → (e ≢ line_fault.LongLine → f ≡ fault_of_line e)
    → (e ≡ line_fault.LongLine → HasLongLine rest) → IsUntaken left f rest
untaken_last line_fault.LongLine f left rest none many others long = let is = many refl in rw is (none, too_long rest (long refl))
untaken_last line_fault.Read f left rest none many others long = let is = others (λ e. cc) in rw is tt
untaken_last line_fault.Write f left rest none many others long = let is = others (λ e. cc) in rw is tt
untaken_last line_fault.Memory f left rest none many others long = let is = others (λ e. cc) in rw is tt

pub may_come : (fault : ServeFault) → ComesInLine fault → MayCome fault
may_come (Book b) of = of
may_come (Pool p) of = of
may_come Memory of = tt
may_come _ of = absurd of

pub not_write : (fault : ServeFault) → ComesInLine fault → fault ≢ Write
not_write (Book b) of = λ same. cc
not_write (Pool p) of = λ same. cc
not_write Memory of = λ same. cc
not_write _ of = λ same. absurd of

-- what is counted is said of the fault alone
pub counts_as : (T U : Type 0) (fault : ServeFault) (old new : ℕ) → CountsServe {T = T} (Err fault) old new → CountsServe {T = U} (Err fault) old new
counts_as T U Read old new is = is
counts_as T U _ old new is = is
