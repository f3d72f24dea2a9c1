-- What moves that were cut short come to.
use Rattle.std.proofs.Common.{◌≡◌, List, [], ◌∷◌, ◌++◌, sym, ap, ◌∙◌, append_assoc}
use Rattle.std.proofs.lemmas.List.{append-nil}
use Rattle.ic_jobs.specs.declared.event.Entry.{Entry}
use Rattle.ic_book.specs.Moves.{Move, brings}
use Rattle.ic_lives.specs.Histories.{come}
use Rattle.ic_serving_laws.specs.Served.{IsCutShort}

come_join : (later earlier : List Move) → come (later ++ earlier) ≡ come earlier ++ come later
come_join [] earlier = sym (append-nil (come earlier))
come_join (move ∷ later) earlier =
    ap (λ (es : List Entry). es ++ brings move) (come_join later earlier) ∙ append_assoc (come earlier) (come later) (brings move)

pub cut_front : (moves cut : List Move) → IsCutShort moves cut → (after : List Entry) × (come moves ≡ come cut ++ after)
cut_front moves cut is = (
  come is.later,
  ap come is.parted ∙ come_join is.later (is.move ∷ is.earlier)
      ∙ ap (λ (ms : List Move). come ms ++ come is.later) (sym is.stopped),
)
