use Rattle.std.proofs.Common.{◌≡◌, IsTrue, subst, rules}
use Rattle.a64_word.specs.declared.data_immediate.LogicalImmediate.{LogicalImmediate}
use Rattle.a64_word.specs.declared.instruction.Instruction.TheVariants as instruction
use Rattle.a64_word.specs.Encoding.{IsLegal}
use Rattle.a64_word.proofs.FieldLaws.{reads-from_IsWordOf}
use Rattle.a64_word.proofs.Unique.{LogicalImmediate-agree}
use Rattle.a64_word.proofs.data_immediate.LogicalImmediate.decode.Goals as goal

pub returns-else-is_legal : goal.returns-else-is_legal
returns-else-is_legal c = λ x h.
    let found : LogicalImmediate = record { width = c.of.result; operation = c.of-2.result; n = c.flag-2.result; immr = c.bits-3.result; imms = c.bits-4.result; rn = c.at.result; rd = c.at-2.result } in
    let same : x ≡ found = LogicalImmediate-agree x found c.args.word (reads-from_IsWordOf _ _ h.word_of) (search rules) in
    let P : LogicalImmediate → Type 0 = λ i. IsLegal (instruction.LogicalImmediate i) in
    let legal : IsTrue c.is_legal.result = c.is_legal.ensures.1 (subst P same h.legal) in
    search rules
