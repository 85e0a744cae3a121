-- What holds of a search that no refused look-up ended.
use Rattle.std.specs.Prelude.{⊤, Result, Ok, Err}

-- the fact holds unless the search was broken off, whether it found memory or not
abbrev pub UnlessStopped : {A S E : Type 0} → Result (Result A S) E → Type 0 → Type 0
UnlessStopped (Ok (Err stop)) fact = ⊤
UnlessStopped (Ok (Ok list)) fact = fact
UnlessStopped (Err error) fact = fact
