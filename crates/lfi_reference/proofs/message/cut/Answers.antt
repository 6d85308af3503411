use Rattle.std.proofs.Common.{◌≡◌, ◌++◌, ◌∷◌, [], ap, sym, ◌∙◌, subst, map, flat_map}
use Rattle.std.specs.Prelude.{All}
use Rattle.std.proofs.lemmas.List.{map-append}
use Rattle.std.proofs.lemmas.List.Elements.{All-nil, All-cons, All-append}
use Rattle.lfi_frame.specs.Streams.{spelling, IsMessage}
use Rattle.lfi_reference.specs.Messages.{message_of, Begins}
use Rattle.lfi_reference.proofs.Messages.{one_more}
use Rattle.lfi_reference.proofs.message.cut.Goals as goal

pub loop-messages-preserved : goal.loop-messages-preserved
loop-messages-preserved c =
    let messages = map message_of c.loop-messages.messages.items in
    let message = message_of c.in-Some.message in
    let begins : Begins c.loop-messages.rest.now message c.in-Some.more.now = rw c.in-Some.is at c.in_ok-message.ensures in
    let grown : map message_of c.push.new.self.items ≡ messages ++ message ∷ [] = ap (λ l. map message_of l) c.in_ok-push.ensures.items ∙ map-append message_of c.loop-messages.messages.items (c.in-Some.message ∷ []) in
    record {
      spelled = one_more c.args.bytes.now c.loop-messages.rest.now c.in-Some.more.now messages message c.loop-messages.invariant.spelled begins
          ∙ ap (λ l. flat_map spelling l ++ c.in-Some.more.now) (sym grown);
      each = subst (λ l. All IsMessage l) (sym grown) (All-append IsMessage messages (message ∷ []) c.loop-messages.invariant.each (All-cons IsMessage message [] begins.is (All-nil IsMessage)));
    }
