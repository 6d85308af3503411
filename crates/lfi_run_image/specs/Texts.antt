-- What is told of an image file that was run. Source: this project's profile, docs/COMMANDS.md.
use Rattle.std.specs.Prelude.{ℕ, List, ◌++◌, codes, decimal}
use Rattle.a64_text.specs.Digits.{hexadecimal}
use Rattle.lfi_rules.specs.Texts.{fault_text}
use Rattle.lfi_image_file.specs.Faults.{number_of}
use Rattle.lfi_image_file.specs.Faults as images
use Rattle.lfi_image_file.specs.declared.fault.ImageFault.{ImageFault}
use Rattle.lfi_image_file.specs.declared.fault.ImageFault.TheVariants.{Unlawful}
use Rattle.lfi_confinement.specs.declared.cause.StopCause.{StopCause}
use Rattle.lfi_confinement.specs.declared.cause.StopCause.TheVariants as causes
use Rattle.lfi_machine.specs.declared.halt.Halt.{Halt}
use Rattle.lfi_machine.specs.declared.halt.Halt.TheVariants.{Stopped, StepsUsed, NoMemory}
use Rattle.lfi_run_image.specs.declared.image_run.ImageRun.{ImageRun}
use Rattle.lfi_run_image.specs.declared.image_run.ImageRun.TheVariants.{Refused, Ended}

-- an address: `0x` and its hexadecimal digits, with zeros before them up to 16
abbrev pub address_text : ℕ → List ℕ
address_text address = codes "0x" ++ hexadecimal 16 address

-- why a machine stops
abbrev pub stop_text : StopCause → List ℕ
stop_text (causes.NoAccess address) = codes "halt 2 at " ++ address_text address
stop_text (causes.NoFetch pc) = codes "halt 3 at " ++ address_text pc
stop_text (causes.Breakpoint pc) = codes "halt 4 at " ++ address_text pc
stop_text (causes.Ended status) = codes "halt 5 status " ++ decimal status
stop_text causes.UnlawfulAnswer = codes "halt 6"

-- why a run ended
abbrev pub halt_text : Halt → List ℕ
halt_text (Stopped cause) = stop_text cause
halt_text StepsUsed = codes "halt 1"
halt_text NoMemory = codes "halt 7"

-- why there is no image: the number of the fault and, on a second line, the fault in words; of unlawful code the fault of the code
abbrev pub refusal_text : ImageFault → List ℕ
refusal_text (Unlawful fault) = codes "image refused, fault 7, " ++ fault_text fault
refusal_text fault = codes "image refused, fault " ++ decimal (number_of fault) ++ codes "\n  " ++ images.fault_text fault

-- the line, or two where there is no image, without the end of the last
abbrev pub run_text : ImageRun → List ℕ
run_text (Refused fault) = refusal_text fault
run_text (Ended halt steps) = halt_text halt ++ codes " after " ++ decimal steps ++ codes " steps"
