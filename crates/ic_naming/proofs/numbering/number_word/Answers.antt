use Rattle.std.proofs.Common.{ap, ◌∙◌, sym, ℕ}
use Rattle.ic_flat.specs.declared.word.Word.TheVariants.{Name}
use Rattle.ic_naming.specs.inner.Numbering.{told_by}
use Rattle.ic_naming.specs.Naming.{renamed_word}
use Rattle.ic_naming.proofs.numbering.number_word.Goals as goal

pub returns-in-Name : goal.returns-in-Name
returns-in-Name c =
    ap (λ (n : ℕ). Name n) c.told_name.ensures ∙ sym (ap (renamed_word (told_by c.args.numbering.now)) c.in-Name.is)
