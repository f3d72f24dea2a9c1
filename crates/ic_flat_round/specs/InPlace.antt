use Rattle.std.specs.Prelude.{Result, Ok, Err}

-- What a call answers that leaves its value in place, as if it gave this value back.
abbrev pub left_by : {S T E : Type 0} → Result S E → T → Result T E
left_by (Ok _) value = Ok value
left_by (Err fault) value = Err fault
