use Rattle.std.proofs.Common.{◌+◌, ◌-◌, ◌*◌, ◌/◌, ◌%◌, rules, arith, ap, ◌∙◌}
use Rattle.std.proofs.lemmas.Grind.{common_steps, get_or_default_zero}
use Rattle.a64_word.specs.Bytes.{number_at}
use Rattle.sparse_memory.specs.Kept.{byte_at}
use Rattle.sparse_memory.proofs.Places.{number_near}
use Rattle.sparse_memory.proofs.memory.SparseMemory.word_8.Goals as goal

pub returns : goal.returns
returns c =
    c.read_8.ensures
    ∙ number_near (record { table = c.self.inside.table.items; frames = c.self.inside.frames.items }) c.deref.result.now c.index-frame.result.now c.args.offset ((c.index-frame.result.now - 1) * 65536 + c.args.offset % 65536) 8
    (search rules) (c.index-frame.ensures ∙ get_or_default_zero c.self.inside.table.items (c.args.offset / 65536) c.index-frame.result.now (grind (arith, common_steps))) (grind (arith, common_steps)) (grind (arith, common_steps)) (search rules)
    ∙ ap (λ m. number_at (byte_at m) 8 c.args.offset) c.self.view_is
