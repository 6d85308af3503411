-- What becomes of the clients of connections.
use Rattle.std.specs.Prelude.{ℕ, ◌^◌, ◌/◌, ◌%◌, ◌==◌, Bool, true, false, List, get_or}
use Rattle.lfi_sync.specs.declared.client.Client.{Client}
use Rattle.lfi_sync.specs.declared.client.Client.TheVariants as client
use Rattle.lfi_sync.specs.declared.fate.Absence.{Absence}
use Rattle.lfi_sync.specs.declared.fate.Absence.TheVariants.{NotCome, NotTaken}
use Rattle.lfi_sync.specs.declared.fate.ClientFate.{ClientFate}
use Rattle.lfi_sync.specs.declared.fate.ClientFate.TheVariants.{Heard, CutOff, Absent}
use Rattle.lfi_sync.specs.declared.fate.Unheard.{Unheard}

-- that of the client of connection c; of a connection that isn't there nothing is told
abbrev pub fate_at : List ClientFate → ℕ → ClientFate
fate_at fates c = get_or fates c Heard

-- there is no client
abbrev pub is_absent : ClientFate → Bool
is_absent = elim [ Absent why ↦ true | fate ↦ false ]

-- there is one, which had not ended when the time was over
abbrev pub is_cut_off : ClientFate → Bool
is_cut_off = elim [ CutOff ↦ true | fate ↦ false ]

-- it had not come when the time was over
abbrev pub is_late : Absence → Bool
is_late NotCome = true
is_late (NotTaken kind) = false

-- it had not come, or had not ended, when the time was over
abbrev pub is_out_of_time : ClientFate → Bool
is_out_of_time Heard = false
is_out_of_time CutOff = true
is_out_of_time (Absent why) = is_late why

-- what becomes of a client whose time is never over
abbrev pub fate_of : {R : Type 0} → Client R → ClientFate
fate_of (client.Present reader) = Heard
fate_of (client.Absent why) = Absent why

-- connection c had not ended when the time was over
abbrev pub is_unheard : Unheard → ℕ → Bool
is_unheard unheard c = get_or unheard.are c false

-- the flag of connection c is set
abbrev pub is_flagged : (flags c : ℕ) → Bool
is_flagged flags c = flags / 2 ^ c % 2 == 1

-- what becomes of a client once the time is over
abbrev pub fate_after : (is_unheard : Bool) → ClientFate → ClientFate
fate_after true Heard = CutOff
fate_after true fate = fate
fate_after false fate = fate
