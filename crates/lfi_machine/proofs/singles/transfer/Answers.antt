use Rattle.std.proofs.Common.{ℕ, [], ap, ◌∙◌, subst}
use Rattle.a64_word.specs.declared.operands.Width.{Width}
use Rattle.a64_semantics.specs.Registers.{put_all, to_general}
use Rattle.lfi_machine.specs.Owned.{IsLocated}
use Rattle.lfi_machine.proofs.Moved.{not_store, load_transferred}
use Rattle.lfi_machine.proofs.singles.transfer.Goals as goal

pub returns-in_ok-offset-in_default-clause-transfers : goal.returns-in_ok-offset-in_default-clause-transfers
returns-in_ok-offset-in_default-clause-transfers c =
    let value = c.extended_load-value.result in
    let r = c.args.registers.now in
    load_transferred c.args.slot.now r c.put.new.self c.args.size c.args.transfer c.args.rt c.args.address c.in_ok-offset-in_default.offset c.load-value.result value
    (not_store c.args.transfer c.in_default.not-Store)
    (subst (λ (bytes : ℕ). IsLocated c.args.slot.now _ bytes c.args.address c.in_ok-offset-in_default.offset) c.bytes_of-bytes.ensures.value c.in_ok-offset-in_default.ensures.ok)
    c.load-value.ensures.value c.extended_load-value.ensures
    (c.put.ensures ∙ ap (λ (width : Width). put_all (to_general c.args.rt width value []) r) c.data_width.ensures)
