-- What a fault of the names or of the parser becomes when a name is defined.
use Rattle.gcl_parser.specs.declared.fault.ParseFault.{ParseFault}
use Rattle.gcl_parser.specs.declared.fault.ParseFault.TheVariants.{Query as ParseQuery, NoMemory as ParseNoMemory}
use Rattle.query_names.specs.declared.fault.NameFault.{NameFault}
use Rattle.query_names.specs.declared.fault.NameFault.TheVariants.{Unknown, TooLong, NoMemory as NamesNoMemory}
use Rattle.query_names.specs.declared.fault.DefineFault.{DefineFault}
use Rattle.query_names.specs.declared.fault.DefineFault.TheVariants.{Name, Query, NoMemory}

-- out of memory is a fault of its own
abbrev pub of_names : NameFault → DefineFault
of_names (Unknown at) = Name (Unknown at)
of_names (TooLong at) = Name (TooLong at)
of_names NamesNoMemory = NoMemory

-- the same for the parser
abbrev pub of_parse : ParseFault → DefineFault
of_parse (ParseQuery fault) = Query fault
of_parse ParseNoMemory = NoMemory
