-- The kinds of messages by their numbers. Source: this project's format, docs/PROFILE.md.
use Rattle.std.specs.Prelude.{ℕ, ◌==◌, if◌then◌else◌, Option, Some, None}
use Rattle.lfi_frame.specs.declared.header.MessageKind.{MessageKind}
use Rattle.lfi_frame.specs.declared.header.MessageKind.TheVariants.{Open, Page, Close}
use Rattle.lfi_module.specs.Numbers.{small_page, large_page}
use Rattle.lfi_module.specs.declared.profile.Profile.TheVariants.{One, Two}

-- the kind with a number
abbrev pub kind_of : ℕ → Option MessageKind
kind_of n = if n == 1 then Some (Open One) else if n == 2 then Some (Page small_page) else if n == 3 then Some Close else if n == 4 then Some (Open Two) else if n == 5 then Some (Page large_page) else None
