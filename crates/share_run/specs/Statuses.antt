-- The number of each status.
use Rattle.std.specs.Prelude.{ℕ}
use Rattle.share_run.specs.declared.status.ShareStatus.{ShareStatus}
use Rattle.share_run.specs.declared.status.ShareStatus.TheVariants.{Done, Usage, WriteFault, NoMemory}

-- the exit status of the program
abbrev pub number_of : ShareStatus → ℕ
number_of Done = 0
number_of Usage = 2
number_of WriteFault = 4
number_of NoMemory = 6
