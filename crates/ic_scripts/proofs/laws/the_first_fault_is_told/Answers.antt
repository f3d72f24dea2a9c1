use Rattle.std.proofs.Common.{◌≡◌, ◌∙◌, ◌++◌, ◌∷◌, [], List, None, Some, ap, ap₂, sym, refl}
use Rattle.std.specs.Prelude.{Result, Ok, Err, IsOk, option_map, slice_get}
use Rattle.ic_book.specs.declared.fault.BookFault.{BookFault}
use Rattle.std.specs.List.{AllByRecursion, filter_map}
use Rattle.ic_attend.specs.declared.attended.ClientRun.{ClientRun}
use Rattle.ic_scripts.specs.Telling.{IsFirstOf, client_fault, keep_faults, runner_fault}
use Rattle.ic_scripts.specs.declared.fault.ScriptsFault.{ScriptsFault}
use Rattle.ic_scripts.specs.declared.fault.ScriptsFault.TheVariants.{Book}
use Rattle.ic_scripts.proofs.FirstLemmas.{first_told, none_all, none_before}
use Rattle.ic_scripts.proofs.laws.the_first_fault_is_told.Goals as goal

-- clients that finished have no fault
finished : (runs : List ClientRun) → AllByRecursion (λ run. run.end ≡ None) runs → AllByRecursion (λ run. client_fault run ≡ None) runs
finished [] all = tt
finished (run ∷ runs) all = (ap (option_map Book) all.0, finished runs all.1)

no_fault : {T : Type 0} (kept : Result T BookFault) → IsOk kept → keep_faults kept ≡ []
no_fault (Ok done) well = refl
no_fault (Err fault) well = cc

none_told : {T : Type 0} {faults : List ScriptsFault} (told : Result T ScriptsFault) → faults ≡ [] → IsFirstOf faults told → IsOk told
none_told (Ok done) is first = refl
none_told (Err fault) is first = let bad : None ≡ Some fault = ap (λ (l : List ScriptsFault). slice_get l 0) (sym is) ∙ first in cc

pub returns-clause-client : goal.returns-clause-client
returns-clause-client c = λ before after run ends fault kept told none stopped first.
    let found : client_fault run ≡ Some (Book fault) = ap (option_map Book) stopped in
    let here : filter_map client_fault (run ∷ after) ≡ Book fault ∷ filter_map client_fault after = rw found refl in
    first_told _ _ (Book fault) told
    (ap (λ (l : List ScriptsFault). l ++ filter_map runner_fault ends ++ keep_faults kept) (none_before client_fault before (run ∷ after) (finished before none) ∙ here)) first

pub returns-clause-runner : goal.returns-clause-runner
returns-clause-runner c = λ runs before after end fault kept told none idle stopped first.
    let here : filter_map runner_fault (end ∷ after) ≡ fault ∷ filter_map runner_fault after = rw stopped refl in
    first_told _ _ fault told
    (ap₂ (λ (a b : List ScriptsFault). a ++ b ++ keep_faults kept) (none_all client_fault runs (finished runs none))
    (none_before runner_fault before (end ∷ after) idle ∙ here)) first

pub returns-clause-keep : goal.returns-clause-keep
returns-clause-keep c = λ runs ends fault kept told none idle failed first.
    first_told _ [] (Book fault) told
    (ap₂ (λ (a b : List ScriptsFault). a ++ b ++ keep_faults kept) (none_all client_fault runs (finished runs none)) (none_all runner_fault ends idle) ∙ ap keep_faults failed) first

pub returns-clause-none : goal.returns-clause-none
returns-clause-none c = λ runs ends kept told none idle well first.
    none_told told (ap₂ (λ (a b : List ScriptsFault). a ++ b ++ keep_faults kept) (none_all client_fault runs (finished runs none)) (none_all runner_fault ends idle)
    ∙ no_fault kept well) first
