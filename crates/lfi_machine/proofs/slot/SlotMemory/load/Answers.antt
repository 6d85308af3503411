use Rattle.std.proofs.Common.{◌≡◌, ◌^◌, arith, sym, ◌∙◌, subst}
use Rattle.a64_word.specs.Operands.{size_code}
use Rattle.a64_word.specs.Bytes.{number_at}
use Rattle.sparse_memory.specs.Kept.{byte_at}
use Rattle.lfi_confinement.specs.Slots.{byte_in}
use Rattle.lfi_machine.specs.Owned.{Owned}
use Rattle.lfi_machine.proofs.Permits.{data_number}
use Rattle.lfi_machine.proofs.slot.SlotMemory.load.Goals as goal

pub returns-in-Half-clause-value : goal.returns-in-Half-clause-value
returns-in-Half-clause-value c =
    let inside = c.self.inside in
    let first = c.self.invariant.2 in
    let from = c.if-from-self.false in
    let offset = c.from.ensures in
    subst (λ (o : Owned). c.from-in-Half.result ≡ number_at (byte_in o.image (byte_at o.kept)) (2 ^ size_code c.args.size) c.args.offset) c.self.view_is
    (rw c.in-Half.is (c.from-in-Half.ensures ∙ c.word_2.ensures ∙ sym (data_number inside.image (byte_at inside.memory) 2 c.args.offset (omega (arith, first, from, offset)))))

pub returns-in-Word-clause-value : goal.returns-in-Word-clause-value
returns-in-Word-clause-value c =
    let inside = c.self.inside in
    let first = c.self.invariant.2 in
    let from = c.if-from-self.false in
    let offset = c.from.ensures in
    subst (λ (o : Owned). c.from-in-Word.result ≡ number_at (byte_in o.image (byte_at o.kept)) (2 ^ size_code c.args.size) c.args.offset) c.self.view_is
    (rw c.in-Word.is (c.from-in-Word.ensures ∙ c.word_4.ensures ∙ sym (data_number inside.image (byte_at inside.memory) 4 c.args.offset (omega (arith, first, from, offset)))))

pub returns-in-Double-clause-value : goal.returns-in-Double-clause-value
returns-in-Double-clause-value c =
    let inside = c.self.inside in
    let first = c.self.invariant.2 in
    let from = c.if-from-self.false in
    let offset = c.from.ensures in
    subst (λ (o : Owned). c.word_8.result ≡ number_at (byte_in o.image (byte_at o.kept)) (2 ^ size_code c.args.size) c.args.offset) c.self.view_is
    (rw c.in-Double.is (c.word_8.ensures ∙ sym (data_number inside.image (byte_at inside.memory) 8 c.args.offset (omega (arith, first, from, offset)))))
