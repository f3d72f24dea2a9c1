use Rattle.std.proofs.Common.{refl}
use Rattle.ic_text.proofs.ByteKinds.{blanks_are_dropped, marks_are_tokens, others_spoil}
use Rattle.ic_text.proofs.laws.bytes_are_blanks_marks_or_of_words.Goals as goal

pub returns : goal.returns
returns c = record { blanks = blanks_are_dropped; marks = marks_are_tokens; mark_bytes = refl; others = others_spoil }
