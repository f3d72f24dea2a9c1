use Rattle.std.proofs.Common.{◌++◌, ◌∷◌, [], ℕ, List, sym, subst}
use Rattle.std.specs.Prelude.{Ok}
use Rattle.ic_jobs.specs.declared.command.Command.{Command}
use Rattle.ic_lines.specs.Script.{ReadsScript}
use Rattle.ic_scripts.specs.Reading.{AreScripts}
use Rattle.ic_scripts.proofs.laws.scripts_are_read_in_order.Goals as goal

one_more : (texts : List (List ℕ)) (scripts : List (List Command)) (text : List ℕ) (commands : List Command) → AreScripts texts scripts
    → ReadsScript text (Ok commands) → AreScripts (texts ++ text ∷ []) (scripts ++ commands ∷ [])
one_more [] [] text commands all read = (read, tt)
one_more (t ∷ ts) (s ∷ ss) text commands all read = (all.0, one_more ts ss text commands all.1 read)
one_more _ _ text commands all read = absurd all

pub returns-clause-one_more : goal.returns-clause-one_more
returns-clause-one_more c = λ texts scripts more text read added.
    subst (λ (l : List (List Command)). AreScripts (texts ++ text ∷ []) l) (sym added.2) (one_more texts scripts text added.0 read added.1)
