-- What is read back has the same free names.
use Rattle.std.proofs.Common.{◌≡◌, ◌↔◌, ℕ, ◌≤◌, ◌++◌, Bool, true, false, cond, List, length, map, Result, Ok, sym, ap, subst, ◌∙◌, arith}
use Rattle.ic_term.specs.Symbol.{Symbol}
use Rattle.ic_term.specs.Configuration.{Configuration, configuration_names, occurrences}
use Rattle.ic_rules.specs.lemmas.NumberingLaws.{Undone, occurrences-renamed}
use Rattle.ic_jobs.specs.Job.{JobParts, IsJob}
use Rattle.ic_text.specs.Source.{phrase_names}
use Rattle.ic_text.specs.SystemSource.{SystemPhrase}
use Rattle.ic_text.specs.Text.{phrase_of}
use Rattle.ic_text.specs.declared.fault.TextFault.{TextFault}
use Rattle.ic_text.specs.declared.limits.TheConstants.{MAX_NAME, MAX_TEXT}
use Rattle.ic_rules.specs.System.{SystemParts}
use Rattle.ic_jobs.specs.declared.command.Command.TheVariants.{Submit}
use Rattle.ic_commands.specs.declared.line.Line.{Line}
use Rattle.ic_commands.specs.declared.line.Line.TheVariants.{Command as Asks}
use Rattle.ic_commands.specs.LineText.{ReadsLine}
use Rattle.ic_naming.specs.Naming.{renumbered, told_name}
use Rattle.ic_naming.specs.lemmas.Occurring.{led_back, undone_in}
use Rattle.ic_naming.specs.lemmas.Renumbered.{renumbered-names}
use Rattle.ic_naming.specs.lemmas.ToldNames.{named, told_undone}
use Rattle.ic_dump.specs.Submitting.{HasFreeNamesOfTexts, IsFree, read_again, submit_of}
use Rattle.ic_dump.specs.Telling.{has_names_of_texts, told, job_line}
use Rattle.ic_dump.proofs.Submitting.{read_alike}
use Rattle.ic_dump.proofs.Turned.{interface_names_written, equation_names_written}

module _ (f back : ℕ → ℕ) (ns : List ℕ) (undone : Undone f back ns) (low : (n : ℕ) → occurrences n ns ≡ 1 → n ≤ MAX_NAME) (keeps : (n : ℕ) → occurrences n ns ≡ 1 → n ≤ MAX_NAME → f n ≡ n) where
  free_before : (q : ℕ) → occurrences q (map f ns) ≡ 1 → occurrences q ns ≡ 1
  free_before q once =
      let leads : f (back q) ≡ q = led_back f back q ns undone (omega (arith, once)) in
      let same : occurrences (f (back q)) (map f ns) ≡ occurrences (back q) ns = occurrences-renamed f back (back q) ns (ap back leads) undone in
      let before : occurrences (back q) ns ≡ 1 = sym same ∙ ap (λ n. occurrences n (map f ns)) leads ∙ once in
      let stays : back q ≡ q = sym (keeps (back q) before (low (back q) before)) ∙ leads in
      subst (λ (n : ℕ). occurrences n ns ≡ 1) stays before

  free_after : (q : ℕ) → occurrences q ns ≡ 1 → occurrences q (map f ns) ≡ 1
  free_after q once =
      let stays : f q ≡ q = keeps q once (low q once) in
      let same : occurrences (f q) (map f ns) ≡ occurrences q ns = occurrences-renamed f back q ns (undone_in f back q ns undone (omega (arith, once))) undone in
      sym (ap (λ n. occurrences n (map f ns)) stays) ∙ same ∙ once

module _ (keeps : (ns : List ℕ) (n : ℕ) → occurrences n ns ≡ 1 → n ≤ MAX_NAME → told_name ns n ≡ n) where
  free_by : (c : Configuration) (b : Bool) → HasFreeNamesOfTexts c → (n : ℕ) → IsFree (cond b c (renumbered c)) n ↔ IsFree c n
  free_by c true low n = ((λ free. free), (λ free. free))
  free_by c false low n =
      let ns = configuration_names c in
      let same : occurrences n (configuration_names (renumbered c)) ≡ occurrences n (map (told_name ns) ns) = ap (occurrences n) (renumbered-names c) in (
        (λ free. free_before (told_name ns) (named ns) ns (told_undone ns) low (keeps ns) n (sym same ∙ free)),
        (λ free. same ∙ free_after (told_name ns) (named ns) ns (told_undone ns) low (keeps ns) n free),
      )

  told_free : (c : Configuration) → HasFreeNamesOfTexts c → (n : ℕ) → IsFree (told c) n ↔ IsFree c n
  told_free c low n = free_by c (has_names_of_texts c) low n

  -- ---- what is read

  names_again : (table : List Symbol) (c : Configuration) → phrase_names (phrase_of table c) ≡ configuration_names c
  names_again table c = λ i. interface_names_written table c.interface i ++ equation_names_written table c.equations i

  read_names : (j : JobParts) → IsJob j → configuration_names (read_again j).config ≡ configuration_names (told j.config)
  read_names j is =
      sym (names_again (read_again j).rules.symbols (read_again j).config)
      ∙ ap (λ (p : SystemPhrase). phrase_names p.config) (read_alike j is)
      ∙ names_again j.rules.symbols (told j.config)

  pub read_free : (j : JobParts) → IsJob j → HasFreeNamesOfTexts j.config → (n : ℕ) → IsFree (read_again j).config n ↔ IsFree j.config n
  read_free j is low n =
      let same : occurrences n (configuration_names (read_again j).config) ≡ occurrences n (configuration_names (told j.config)) = ap (occurrences n) (read_names j is) in
      let free = told_free j.config low n in
      ((λ read. free.0 (sym same ∙ read)), (λ own. same ∙ free.1 own))

-- ---- jobs with one line have the same free names

-- the system that a read line submits
abbrev system_asked : SystemParts → Result Line TextFault → SystemParts
system_asked none (Ok (Asks (Submit name system budget))) = system
system_asked none other = none

module _ (keeps : (ns : List ℕ) (n : ℕ) → occurrences n ns ≡ 1 → n ≤ MAX_NAME → told_name ns n ≡ n)
    (read : (j : JobParts) → IsJob j → length (job_line j) ≤ MAX_TEXT → ReadsLine (job_line j) (Ok (Asks (submit_of j))))
    (one : (text : List ℕ) (a b : Result Line TextFault) → ReadsLine text a → ReadsLine text b → a ≡ b) where
  same_system : (j k : JobParts) → IsJob j → IsJob k → length (job_line j) ≤ MAX_TEXT → job_line j ≡ job_line k → read_again j ≡ read_again k
  same_system j k is other short same =
      let short_too : length (job_line k) ≤ MAX_TEXT = subst (λ (l : List ℕ). length l ≤ MAX_TEXT) same short in
      let second = subst (λ (l : List ℕ). ReadsLine l (Ok (Asks (submit_of k)))) (sym same) (read k other short_too) in
      ap (system_asked (read_again j)) (one (job_line j) (Ok (Asks (submit_of j))) (Ok (Asks (submit_of k))) (read j is short) second)

  pub lines_tell_free : (j k : JobParts) (n : ℕ) → IsJob j → IsJob k → HasFreeNamesOfTexts j.config → HasFreeNamesOfTexts k.config
      → length (job_line j) ≤ MAX_TEXT → job_line j ≡ job_line k → IsFree j.config n ↔ IsFree k.config n
  lines_tell_free j k n is other low low_too short same =
      let system = same_system j k is other short same in
      let mine = read_free keeps j is low n in
      let theirs = read_free keeps k other low_too n in (
        (λ free. theirs.0 (subst (λ (s : SystemParts). IsFree s.config n) system (mine.1 free))),
        (λ free. mine.0 (subst (λ (s : SystemParts). IsFree s.config n) (sym system) (theirs.1 free))),
      )
