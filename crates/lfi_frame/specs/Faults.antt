-- The numbers of the faults. Source: this project's format, docs/PROFILE.md.
use Rattle.std.specs.Prelude.{ℕ, List, codes}
use Rattle.lfi_frame.specs.declared.fault.FrameFault.{FrameFault}
use Rattle.lfi_frame.specs.declared.fault.FrameFault.TheVariants.{Kind, SecondByte, Module, PageLength, CloseNumbers, WordCount, Entry, NoMemory, Ended, ReadFailed}

-- the number of a fault in reports
abbrev pub number_of : FrameFault → ℕ
number_of Kind = 1
number_of SecondByte = 2
number_of Module = 3
number_of PageLength = 4
number_of CloseNumbers = 5
number_of WordCount = 6
number_of Entry = 7
number_of NoMemory = 8
number_of Ended = 9
number_of ReadFailed = 10

-- what `{}` prints of a fault
abbrev pub fault_text : FrameFault → List ℕ
fault_text Kind = codes "unknown kind of message"
fault_text SecondByte = codes "second byte not zero"
fault_text Module = codes "no such module"
fault_text PageLength = codes "page length out of range"
fault_text CloseNumbers = codes "close with numbers"
fault_text WordCount = codes "word count out of range"
fault_text Entry = codes "entry past the last word"
fault_text NoMemory = codes "no memory for a page"
fault_text Ended = codes "input ended too early"
fault_text ReadFailed = codes "read failed"
