-- The numbers and texts of the faults of image files.
use Rattle.std.specs.Prelude.{ℕ, List, ◌++◌, codes, decimal}
use Rattle.lfi_rules.specs.Rules.{rule_number}
use Rattle.lfi_image_file.specs.declared.fault.ImageFault.{ImageFault}
use Rattle.lfi_image_file.specs.declared.fault.ImageFault.TheVariants.{Magic, Profile, Counts, Base, Truncated, More, Unlawful, NoMemory, Device}

-- a fault's number, as it is printed
abbrev pub number_of : ImageFault → ℕ
number_of Magic = 1
number_of Profile = 2
number_of Counts = 3
number_of Base = 4
number_of Truncated = 5
number_of More = 6
number_of (Unlawful fault) = 7
number_of NoMemory = 8
number_of Device = 9

-- what `{}` prints of a fault
abbrev pub fault_text : ImageFault → List ℕ
fault_text Magic = codes "it is no image file"
fault_text Profile = codes "its profile is neither 1 nor 2"
fault_text Counts = codes "its word count or its entry is out of range"
fault_text Base = codes "its base is that of no slot"
fault_text Truncated = codes "it ends before its header or its code does"
fault_text More = codes "bytes follow its code"
fault_text (Unlawful fault) = codes "word " ++ decimal fault.word ++ codes " breaks rule " ++ decimal (rule_number fault.rule)
fault_text NoMemory = codes "there is no memory for it"
fault_text Device = codes "a read or a write failed"
