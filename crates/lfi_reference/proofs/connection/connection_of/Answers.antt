use Rattle.std.proofs.Common.{◌≡◌, [], ap, sym, ◌∙◌, map, length, get_or, sum_by}
use Rattle.std.specs.List.{list_any}
use Rattle.std.specs.Prelude.{◌||◌, ◌==◌, not}
use Rattle.std.proofs.lemmas.List.{length-map}
use Rattle.lfi_frame.specs.Streams.{rest_of}
use Rattle.lfi_model.specs.Items.{modules, is_going, connection_fault}
use Rattle.lfi_reference.specs.Messages.{message_of, rest_by}
use Rattle.lfi_reference.specs.Shares.{items_by, lists_by}
use Rattle.lfi_reference.specs.Connections.{claims, share_in, items_in}
use Rattle.lfi_reference.proofs.AllModules.{at_module, fault_is, items_are, or_first, or_second}
use Rattle.lfi_reference.proofs.connection.connection_of.Goals as goal
use Rattle.lfi_reference.proofs.connection.connection_of.Goals.{then-not-is_empty, else-not-is_empty}

pub returns-clause-items : goal.returns-clause-items
returns-clause-items c =
    let messages = map message_of c.in_ok-messages.messages.items in
    let rest = c.in_ok-messages.rest.now in
    let claimed = c.args.claimed.now in
    let how = rest_by c.rest_at-how.result in
    let is_how : how ≡ rest_of rest = c.rest_at-how.ensures in
    let empty : c.is_empty.result ≡ (length rest == 0) = c.is_empty.ensures in
    let none = length rest == 0 in
    let inside : c.if-not-is_empty.inside ≡ (not none || c.in_ok-going.going) = elim c.if-not-is_empty.branch [
      | then-not-is_empty w ↦ or_first (not none) c.in_ok-going.going c.if-not-is_empty.inside (ap not (sym empty ∙ w.if-not-is_empty.true)) (w.inside-is ∙ ap not w.if-not-is_empty.true)
      | else-not-is_empty w ↦ or_second (not none) c.in_ok-going.going c.if-not-is_empty.inside (ap not (sym empty ∙ w.if-not-is_empty.false)) w.inside-is
    ] in
    let going : c.in_ok-going.going ≡ list_any (λ m. is_going (share_in claimed messages how m).progress) modules =
    c.in_ok-going.ensures.going ∙ ap (λ l. list_any (λ m. is_going (share_in claimed (map message_of l) how m).progress) modules) c.as_slice.ensures.value in
    let strays : c.in_ok-going.strays ≡ sum_by (λ m. (share_in claimed messages how m).strays) modules =
    c.in_ok-going.ensures.strays ∙ ap (λ l. sum_by (λ m. (share_in claimed (map message_of l) how m).strays) modules) c.as_slice.ensures.value in
    let found : c.fault_of-fault.result ≡ connection_fault messages rest c.args.cause (claims claimed) =
    c.fault_of-fault.ensures ∙ fault_is messages rest c.args.cause claimed how c.in_ok-going.going c.if-not-is_empty.inside is_how going inside in
    let lists : lists_by c.in_ok-items.items.items ≡ map (items_in claimed messages how c.fault_of-fault.result) modules =
    c.in_ok-items.ensures ∙ ap (λ l. map (items_in claimed (map message_of l) how c.fault_of-fault.result) modules) c.as_slice-2.ensures.value in
    record {
      messages = messages;
      rest = rest;
      cut = c.in_ok-messages.ensures;
      items_are = λ m below.
          ap (λ l. get_or l m []) lists
          ∙ at_module (items_in claimed messages how c.fault_of-fault.result) [] m below
          ∙ items_are messages rest c.args.cause claimed how c.fault_of-fault.result m is_how found;
      fault_is = found;
      strays_are = strays ∙ ap (λ r. sum_by (λ m. (share_in claimed messages r m).strays) modules) is_how;
    }

pub returns-clause-all : goal.returns-clause-all
returns-clause-all c =
    let messages = map message_of c.as_slice-2.result.now in
    let items = items_in c.args.claimed.now messages (rest_by c.rest_at-how.result) c.fault_of-fault.result in
    sym (length-map c.in_ok-items.items.items (λ v. items_by v.items)) ∙ ap length c.in_ok-items.ensures ∙ length-map modules items
