-- Lemmas: a run in pieces.
use Rattle.std.proofs.Common.{◌≡◌, ◌≢◌, ℕ, ◌+◌, ◌-◌, ◌<◌, ◌≤◌, refl, arith}
use Rattle.ic_machine.specs.Net.{Net}
use Rattle.ic_machine.specs.Plan.{Plans}
use Rattle.ic_in_place.specs.declared.running.End.{End}
use Rattle.ic_in_place.specs.declared.running.End.TheVariants.{Steps, Nodes}
use Rattle.ic_in_place.specs.Running.{RunsOn}

-- a piece that ended before its steps were made
pub ended_before : (p : Plans) (all left steps : ℕ) (end : End) (first old new : Net) → old.interactions + left ≡ first.interactions + all → steps ≤ left
    → end ≢ Steps → end ≢ Nodes → RunsOn p steps end old new → RunsOn p all end first new
ended_before p all left steps end first old new counted low other others runs = record {
  within = omega (arith, counted, low, runs.within);
  quiet = runs.quiet;
  all = λ is. absurd (other is);
  more = λ is. absurd (other is);
  early = λ is. absurd (others is);
  limited = λ is. omega (arith, counted, low, runs.limited is);
}

-- the last piece
pub all_made : (p : Plans) (all left steps : ℕ) (first old new : Net) → old.interactions + left ≡ first.interactions + all → steps ≤ left → left - steps ≡ 0
    → RunsOn p steps Steps old new → RunsOn p all Steps first new
all_made p all left steps first old new counted low none runs = record {
  within = omega (arith, counted, low, runs.within);
  quiet = runs.quiet;
  all = λ is. omega (arith, counted, low, none, runs.all is);
  more = runs.more;
  early = λ is. cc;
  limited = λ is. cc;
}

-- a piece after which names may have been put through, and there is too much
pub too_many : (p : Plans) (all left steps : ℕ) (first old new last : Net) → old.interactions + left ≡ first.interactions + all → steps ≤ left → 0 < left - steps
    → RunsOn p steps Steps old new → last.interactions ≡ new.interactions → RunsOn p all Nodes first last
too_many p all left steps first old new last counted low some runs same = record {
  within = omega (arith, counted, low, runs.within, same);
  quiet = λ is. cc;
  all = λ is. cc;
  more = λ is. cc;
  early = λ is. omega (arith, counted, low, some, runs.all refl, same);
  limited = λ is. cc;
}

pub goes_on : (p : Plans) (all left steps : ℕ) (first old new : Net) → old.interactions + left ≡ first.interactions + all → steps ≤ left
    → RunsOn p steps Steps old new → new.interactions + (left - steps) ≡ first.interactions + all
goes_on p all left steps first old new counted low runs = omega (arith, counted, low, runs.all refl)
