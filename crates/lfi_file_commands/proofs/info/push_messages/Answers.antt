use Rattle.std.proofs.Common.{◌∙◌, ◌++◌, ap}
use Rattle.std.specs.Prelude.{string_bytes}
use Rattle.lfi_reference.specs.Messages.{Begins, message_of}
use Rattle.lfi_file_commands.specs.Info.{message_line}
use Rattle.lfi_file_commands.proofs.Infos.{pushed_more}
use Rattle.lfi_file_commands.proofs.info.push_messages.Goals as goal

pub loop-message-preserved : goal.loop-message-preserved
loop-message-preserved c =
    let message = message_of c.in-Some.message in
    let rest = c.loop-message.rest.now in
    let more = c.in-Some.more.now in
    let mid = string_bytes c.loop-message.text in
    let begins : Begins rest message more = rw c.in-Some.is at c.in_ok-message.ensures.first in
    pushed_more c.args.bytes.now rest more (string_bytes c.args.text.now) mid (string_bytes c.push_message.new.text) message c.loop-message.invariant begins
    (c.in_ok-push_message.ensures.pushed ∙ ap (λ at. mid ++ message_line at message) c.saturating_sub.ensures)

pub loop-message-preserved-in_ok-push_message : goal.loop-message-preserved-in_ok-push_message
loop-message-preserved-in_ok-push_message c =
    let message = message_of c.in-Some.message in
    let rest = c.loop-message.rest.now in
    let more = c.in-Some.more.now in
    let mid = string_bytes c.loop-message.text in
    let begins : Begins rest message more = rw c.in-Some.is at c.in_ok-message.ensures.first in
    pushed_more c.args.bytes.now rest more (string_bytes c.args.text.now) mid (string_bytes c.push_message.new.text) message c.loop-message.invariant begins
    (c.in_ok-push_message.ensures.pushed ∙ ap (λ at. mid ++ message_line at message) c.saturating_sub.ensures)
