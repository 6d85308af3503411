use Rattle.std.proofs.Common.{◌≡◌, ◌≤◌, map, take}
use Rattle.lfi_frame.specs.Streams.{short}
use Rattle.lfi_model.specs.Items.{share_of}
use Rattle.lfi_reference.specs.Messages.{message_of}
use Rattle.lfi_reference.specs.Shares.{share_by}
use Rattle.lfi_reference.proofs.share.share.Given as goal

abbrev pub invariant-loop-message : goal.invariant-loop-message
invariant-loop-message l = record {
  is : share_by l.share ≡ share_of l.claimed l.«module» (map message_of (take l.message-index l.messages)) short;
  strays : l.share.strays ≤ l.message-index;
}
