-- What holds of an answer.
use Rattle.std.specs.Prelude.{Result, Ok, Err, IfOk}

-- what follows from what holds of it holds of it
pub where_ok : {T E : Type 0} (r : Result T E) (P Q : T → Type 0) → ((x : T) → P x → Q x) → IfOk r P → IfOk r Q
where_ok (Ok x) P Q follows is = follows x is
where_ok (Err e) P Q follows is = tt
