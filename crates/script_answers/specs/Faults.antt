-- What a fault of the sink or the files is called above.
use Rattle.outside.specs.declared.faults.WriteError.{WriteError}
use Rattle.outside.specs.declared.faults.WriteError.TheVariants.{Failed as WriteFailed, NoMemory as WriteNoMemory}
use Rattle.outside.specs.declared.faults.FileError.{FileError}
use Rattle.outside.specs.declared.faults.FileError.TheVariants.{Failed as FileFailed, NoMemory as FileNoMemory}
use Rattle.script_answers.specs.declared.run_fault.RunFault.{RunFault}
use Rattle.script_answers.specs.declared.run_fault.RunFault.TheVariants.{Write, Files, NoMemory}

-- a fault of the sink, or out of memory
abbrev pub of_write : WriteError → RunFault
of_write WriteFailed = Write
of_write WriteNoMemory = NoMemory

-- a fault of the files, or out of memory
abbrev pub of_files : FileError → RunFault
of_files FileFailed = Files
of_files FileNoMemory = NoMemory
