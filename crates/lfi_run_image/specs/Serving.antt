-- What the program's runtime does at a call. Source: this project's profile, docs/COMMANDS.md.
use Rattle.std.specs.Prelude.{◌≡◌, ℕ, ◌-◌, ◌%◌, ◌^◌, ◌==◌, if◌then◌else◌, List, [], ◌∷◌, Option, slice_set}
use Rattle.std.specs.Io.KnownBytes.{Appends, Keeps}
use Rattle.a64_semantics.specs.declared.registers.Registers.{Registers}
use Rattle.a64_semantics.specs.Registers.{x_at}
use Rattle.lfi_machine.specs.Runs.{Answers}
use Rattle.lfi_machine.specs.declared.runtime.Answer.{Answer}
use Rattle.lfi_machine.specs.declared.runtime.Answer.TheVariants.{Resume, End}
use Rattle.lfi_run_image.specs.declared.service.Service.{Service}
use Rattle.lfi_run_image.specs.declared.service.Service.TheVariants.{Finish, Print, Unknown}

-- the service of an entry
abbrev pub service_of : ℕ → Service
service_of entry = if entry == 0 then Finish else (if entry == 1 then Print else Unknown)

-- the low byte of x0
abbrev pub low_byte : Registers → ℕ
low_byte r = x_at r 0 % 256

-- the registers with all bits of x0 set
abbrev pub refused : Registers → Registers
refused r = record r { x = slice_set r.x 0 (2 ^ 64 - 1) }

-- What is answered to a call with these registers, and what is then printed, after these bytes, where they are known.
abbrev pub Serves : Service → Registers → (old : Option (List ℕ)) → Answer → (new : Option (List ℕ)) → Type 0
Serves Finish r old (End status) new = (status ≡ low_byte r) × (new ≡ old)
Serves Print r old (Resume next) new = (next ≡ r) × Appends old new (low_byte r ∷ [])
-- the byte could not be written
Serves Print r old (End status) new = (status ≡ 255) × Keeps old new
Serves Unknown r old (Resume next) new = (next ≡ refused r) × (new ≡ old)
Serves _ r old answer new = ⊥

-- The program's runtime holds what is printed, and leaves the memory as it is.
abbrev pub serves : Answers (Option (List ℕ))
serves old entry given owned answer new after = Serves (service_of entry) given old answer new × (after ≡ owned)
