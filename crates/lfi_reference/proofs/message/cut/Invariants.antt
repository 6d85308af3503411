use Rattle.std.proofs.Common.{◌≡◌, ◌++◌, map, length, flat_map}
use Rattle.std.specs.Prelude.{All}
use Rattle.lfi_frame.specs.Streams.{spelling, IsMessage}
use Rattle.lfi_reference.specs.Messages.{message_of}
use Rattle.lfi_reference.proofs.message.cut.Given as goal

abbrev pub invariant-loop-messages : goal.invariant-loop-messages
invariant-loop-messages l = record {
  spelled : l.bytes ≡ flat_map spelling (map message_of l.messages.items) ++ l.rest;
  each : All IsMessage (map message_of l.messages.items);
}

abbrev pub decreases-loop-messages : goal.decreases-loop-messages
decreases-loop-messages l = length l.rest
