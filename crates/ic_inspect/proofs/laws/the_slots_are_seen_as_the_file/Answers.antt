use Rattle.ic_frames.specs.declared.slot.Slot.TheVariants.{First, Second}
use Rattle.ic_inspect.proofs.ReadingLemmas.{file_seen, is_one}
use Rattle.ic_inspect.proofs.laws.the_slots_are_seen_as_the_file.Goals as goal

pub returns : goal.returns
returns c =
    let seen = file_seen c.a_slot_is_open_or_whole.ensures.whole in
    record {
      one_file = is_one;
      looked = λ looked file is. (seen First looked.first file is.0, seen Second looked.second file is.1);
    }
