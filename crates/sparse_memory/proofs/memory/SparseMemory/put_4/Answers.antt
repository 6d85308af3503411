use Rattle.std.proofs.Common.{◌≡◌, ℕ, ◌+◌, ◌-◌, ◌*◌, ◌/◌, ◌%◌, ◌<◌, get_or, length, rules, arith, sym, ap, subst, ◌∙◌}
use Rattle.std.proofs.lemmas.Grind.{common_steps, get_or_default_zero}
use Rattle.std.proofs.lemmas.List.{with_items_is}
use Rattle.a64_word.specs.Bytes.{low_bytes, written}
use Rattle.sparse_memory.specs.Kept.{Kept, byte_at, frame_place, IsKept}
use Rattle.sparse_memory.proofs.Places.{written_near}
use Rattle.sparse_memory.proofs.memory.SparseMemory.put_4.Goals as goal

pub returns-clause-bytes : goal.returns-clause-bytes
returns-clause-bytes c =
    λ o.
    let kept : Kept = record { table = c.self.inside.table.items; frames = c.self.inside.frames.items } in
    let at : ℕ = (c.index-frame.result.now - 1) * 65536 + c.args.offset % 65536 in
    let first : c.args.offset + 0 ≡ c.args.offset = omega arith in
    let here : IsKept kept c.args.offset = subst (λ m. IsKept m c.args.offset) (sym c.self.view_is) (subst (λ n. IsKept c.args.self.now n) first (c.requires.kept 0 (omega arith))) in
    let frame : c.index-frame.result.now ≡ get_or c.self.inside.table.items (c.args.offset / 65536) 0 = c.index-frame.ensures ∙ get_or_default_zero c.self.inside.table.items (c.args.offset / 65536) c.index-frame.result.now (grind (arith, common_steps)) in
    let place : at ≡ frame_place kept c.args.offset = ap (λ f. (f - 1) * 65536 + c.args.offset % 65536) frame in
    let before : c.deref_mut.result.now ≡ c.self.inside.frames.items = search rules in
    let size : length c.write_4.new.bytes ≡ c.self.inside.frames.len = c.write_4.ensures.length ∙ c.deref_mut.ensures.len in
    ap (λ items. byte_at (record { table = c.self.inside.table.items; frames = items }) o) (with_items_is c.self.inside.frames c.write_4.new.bytes size)
    ∙ written_near kept c.write_4.new.bytes c.args.offset at 4 c.args.value c.self.invariant here (grind (arith, common_steps)) place
    (λ k. c.write_4.ensures.bytes k ∙ ap (λ items. written (λ q. get_or items q 0) at (low_bytes 4 c.args.value) k) before) o
    ∙ ap (λ m. written (byte_at m) c.args.offset (low_bytes 4 c.args.value) o) c.self.view_is

pub overflow_sub-frame : goal.overflow_sub-frame
overflow_sub-frame c =
    let kept : Kept = record { table = c.self.inside.table.items; frames = c.self.inside.frames.items } in
    let first : c.args.offset + 0 ≡ c.args.offset = omega arith in
    let here : IsKept kept c.args.offset = subst (λ m. IsKept m c.args.offset) (sym c.self.view_is) (subst (λ n. IsKept c.args.self.now n) first (c.requires.kept 0 (omega arith))) in
    let frame : c.index-frame.result.now ≡ get_or c.self.inside.table.items (c.args.offset / 65536) 0 = c.index-frame.ensures ∙ get_or_default_zero c.self.inside.table.items (c.args.offset / 65536) c.index-frame.result.now (grind (arith, common_steps)) in
    subst (λ f. 0 < f) (sym frame) here
