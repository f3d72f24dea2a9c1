-- What holds at a fault.
use Rattle.std.specs.Prelude.{Result, Ok, Err, OnErr}

pub on_err : {T E : Type 0} (r : Result T E) (P : Type 0) → P → OnErr r P
on_err (Ok x) P p = tt
on_err (Err e) P p = p

pub on_err_so : {T E : Type 0} (r : Result T E) (P Q : Type 0) → (P → Q) → OnErr r P → OnErr r Q
on_err_so (Ok x) P Q so p = tt
on_err_so (Err e) P Q so p = so p
