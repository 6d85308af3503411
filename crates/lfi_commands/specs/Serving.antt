-- What `lfiload serve` finds, writes, puts and tells. Source: this project's profile, docs/COMMANDS.md.
use Rattle.std.specs.Prelude.{◌≡◌, ℕ, ◌*◌, true, [], Option, Some, None}
use Rattle.std.specs.Duration.{as_nanos}
use Rattle.std.specs.declared.time.Duration.{Duration}
use Rattle.lfi_loader.specs.declared.serve.Served.{Served}
use Rattle.lfi_loader.specs.Served.{HasServed}
use Rattle.lfi_file_commands.specs.declared.ending.Ending.{Ending}
use Rattle.lfi_commands.specs.Clients.{are_all_in_time, fate_lines, EndsServing}
use Rattle.lfi_commands.specs.Loading.{TellsAs}
use Rattle.lfi_commands.specs.Objects.{Sources}
use Rattle.lfi_file_commands.specs.Failures.{Told}
use Rattle.lfi_command_line.specs.declared.options.ReportOptions.{ReportOptions}
use Rattle.lfi_command_line.specs.declared.options.ServeOptions.{ServeOptions}
use Rattle.lfi_file_commands.specs.Left.{Left}

-- the limit of time in seconds; none where they aren't given
abbrev pub IsLimit : (seconds : Option ℕ) → Option Duration → Type 0
IsLimit None limit = limit ≡ None
IsLimit (Some seconds) limit = (time : Duration) × (limit ≡ Some time) × (as_nanos time ≡ seconds * 1000000000)

-- what is known of the connections that were served, by their number
abbrev pub of_served : (connections : ℕ) → Served → Sources
of_served connections served = record { count = connections; paths = []; clients = served.clients.fates; kinds = served.clients.read_errors }

-- What was done with the report on connections that were served, by their number: what is done with the report on a load, and then it was told what became of the clients. By all that it ends.
pub record TellsServed (connections : ℕ) (served : Served) (asked : ReportOptions) (old new : Left) (ending : Ending) : Type 0 where
  -- what was left before it was told of clients, and how it ends but for those that were cut off
  pub before : Left
  pub by_load : Ending
  pub reported : TellsAs asked.format served.report (of_served connections served) asked old before by_load
  pub out : new.out ≡ before.out
  pub put : new.put ≡ before.put
  pub told : Told new.is_lost before.errors new.errors (fate_lines served.clients.fates)
  pub lost : before.is_lost ≡ true → new.is_lost ≡ true
  pub ends : EndsServing (are_all_in_time served.clients.fates) new.is_lost by_load ending

-- What `lfiload serve` did, as it was asked for: it found one report on what the connections sent, and what became of the clients, within the limit of time, and did so with it.
pub record HasServedAll (asked : ServeOptions) (old new : Left) (ending : Ending) : Type 0 where
  pub found : Served
  pub served : HasServed asked.connections asked.verifiers found.clients.limit found
  pub limited : IsLimit asked.seconds found.clients.limit
  pub told : TellsServed asked.connections found asked.report old new ending
