-- How long clients are waited for, and heard.
use Rattle.std.specs.Prelude.{Option, Some, None}
use Rattle.std.specs.declared.time.Duration.{Duration}
use Rattle.lfi_sync.specs.declared.deadline.Span.{Span}
use Rattle.lfi_sync.specs.declared.deadline.Deadline.{Deadline}
use Rattle.lfi_sync.specs.declared.deadline.Deadline.TheVariants.{Never, After}
use Rattle.lfi_sync.specs.declared.acceptor.Acceptor.{Acceptor}
use Rattle.lfi_sync.specs.declared.acceptor.Closed.{Closed}

-- how long this time is as a whole
abbrev pub length_of : Span → Duration
length_of span = span.length

-- the time that a deadline began with
abbrev pub limit_of : Deadline → Option Duration
limit_of Never = None
limit_of (After span) = Some (length_of span)

-- the time that an acceptor began with, and one that was closed
abbrev pub limit_of_acceptor : {S File Dir : Type 0} → Acceptor S File Dir → Option Duration
limit_of_acceptor acceptor = limit_of acceptor.deadline

-- the time that an acceptor that was closed began with
abbrev pub limit_of_closed : Closed → Option Duration
limit_of_closed closed = limit_of closed.deadline
