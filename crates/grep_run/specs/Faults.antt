-- What a fault of the sink becomes when a search ends with it.
use Rattle.outside.specs.declared.faults.WriteError.{WriteError}
use Rattle.outside.specs.declared.faults.WriteError.TheVariants.{Failed as WriteFailed, NoMemory as WriteNoMemory}
use Rattle.grep_run.specs.declared.fault.SearchFault.{SearchFault}
use Rattle.grep_run.specs.declared.fault.SearchFault.TheVariants.{Write, NoMemory}

abbrev pub of_write : WriteError → SearchFault
of_write WriteFailed = Write
of_write WriteNoMemory = NoMemory
