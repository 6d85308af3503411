use Rattle.std.proofs.Common.{◌≡◌, IsTrue, subst, rules}
use Rattle.a64_word.specs.declared.data_register.AddSubShifted.{AddSubShifted}
use Rattle.a64_word.specs.declared.instruction.Instruction.TheVariants as instruction
use Rattle.a64_word.specs.Encoding.{IsLegal}
use Rattle.a64_word.proofs.FieldLaws.{reads-from_IsWordOf}
use Rattle.a64_word.proofs.Unique.{AddSubShifted-agree}
use Rattle.a64_word.proofs.data_register.AddSubShifted.decode.Goals as goal

pub returns-else-is_legal : goal.returns-else-is_legal
returns-else-is_legal c = λ x h.
    let found : AddSubShifted = record { width = c.of.result; subtract = c.flag-3.result; set_flags = c.flag-4.result; shift = c.of-2.result; amount = c.bits-3.result; rm = c.at.result; rn = c.at-2.result; rd = c.at-3.result } in
    let same : x ≡ found = AddSubShifted-agree x found c.args.word (reads-from_IsWordOf _ _ h.word_of) (search rules) in
    let P : AddSubShifted → Type 0 = λ i. IsLegal (instruction.AddSubShifted i) in
    let legal : IsTrue c.is_legal.result = c.is_legal.ensures.1 (subst P same h.legal) in
    search rules
