use Rattle.std.proofs.Common.{◌≡◌, Bool, true, refl, sym, ◌∙◌}
use Rattle.ic_text.specs.SystemText.{ReadsSystem}
use Rattle.ic_text.specs.Text.{Reads}
use Rattle.ic_text.specs.declared.limits.Limits.TheVariants.{Served}
use Rattle.ic_commands.specs.LineText.{ReadsLine}
use Rattle.ic_commands.specs.ScriptSense.{ReadsScriptLine}
use Rattle.ic_lines.specs.Lines.{lines}
use Rattle.ic_check.specs.Faults.{FormHasFault, LineHasFault, ScriptLineHasFault, form_of}
use Rattle.ic_check.specs.declared.texts.Form.{Form}
use Rattle.ic_check.specs.declared.texts.Form.TheVariants as form
use Rattle.ic_check.proofs.LookedAt.{each_or_one, fault_or_none, one_fault, one_of_each}
use Rattle.ic_check.proofs.laws.a_text_has_a_fault_or_none.Goals as goal

pub returns-clause-text : goal.returns-clause-text
returns-clause-text c text = by (form_of text)
  where
    by : (f : Form) → (faulty : Bool) × FormHasFault f text faulty
    by form.System = fault_or_none (ReadsSystem text) (c.one_system_reading.ensures.total Served text)
    by form.Config = fault_or_none (Reads text) (c.one_reading.ensures.total Served text)
    by form.Commented = (true, refl)
    by form.Lines = each_or_one LineHasFault (λ line. fault_or_none (ReadsLine line) (c.one_line_reading.ensures.total line)) (lines text)

pub returns-clause-one : goal.returns-clause-one
returns-clause-one c text = by (form_of text)
  where
    by : (f : Form) (a b : Bool) → FormHasFault f text a → FormHasFault f text b → a ≡ b
    by form.System a b = one_fault (ReadsSystem text) (c.one_system_reading.ensures.answer Served text) a b
    by form.Config a b = one_fault (Reads text) (c.one_reading.ensures.answer Served text) a b
    by form.Commented a b = λ x y. x ∙ sym y
    by form.Lines a b = one_of_each LineHasFault (λ line. one_fault (ReadsLine line) (c.one_line_reading.ensures.answer line)) (lines text) a b

pub returns-clause-script : goal.returns-clause-script
returns-clause-script c text = each_or_one ScriptLineHasFault (λ line. fault_or_none (ReadsScriptLine line) (c.one_script_line_reading.ensures.total line)) (lines text)

pub returns-clause-one_script : goal.returns-clause-one_script
returns-clause-one_script c text = one_of_each ScriptLineHasFault (λ line. one_fault (ReadsScriptLine line) (c.one_script_line_reading.ensures.answer line)) (lines text)
