-- The names by which clients and users are told of a text's fault.
use Rattle.std.specs.Prelude.{ℕ, List, codes}
use Rattle.sexp_reader.specs.declared.fault.ReadFault.{ReadFault}
use Rattle.sexp_reader.specs.declared.fault.ReadFault.TheVariants.{End, Unclosed, StrayClose, BadToken, TooDeep, NumberTooWide, TrailingText, NoMemory}

-- the name of a fault. Want of memory is none that a text has
abbrev pub fault_name : ReadFault → List ℕ
fault_name End = codes "End"
fault_name Unclosed = codes "Unclosed"
fault_name StrayClose = codes "StrayClose"
fault_name BadToken = codes "BadToken"
fault_name TooDeep = codes "TooDeep"
fault_name NumberTooWide = codes "NumberTooWide"
fault_name TrailingText = codes "TrailingText"
fault_name NoMemory = codes "NoMemory"
