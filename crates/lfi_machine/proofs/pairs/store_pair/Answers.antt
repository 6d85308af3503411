use Rattle.std.proofs.Common.{[], true, None, ◌≡◌, ℕ, ◌+◌, ◌++◌, refl, sym, ◌∙◌, subst}
use Rattle.a64_word.specs.Bytes.{low_bytes}
use Rattle.sparse_memory.specs.Kept.{AreKept}
use Rattle.a64_effects.specs.Effects.{pair_bytes}
use Rattle.a64_semantics.specs.Registers.{x_at}
use Rattle.a64_semantics.specs.Accesses.{register_bytes}
use Rattle.lfi_machine.specs.inner.Transfers.{Span, Transferred, denied_in}
use Rattle.lfi_machine.proofs.Keeping.{keeps_at, keeps_then, unkept_at}
use Rattle.lfi_machine.proofs.Moved.{pair_kept, second_kept}
use Rattle.lfi_machine.proofs.pairs.store_pair.Goals as goal

pub put-requires-in-Ok-clause-kept : goal.put-requires-in-Ok-clause-kept
put-requires-in-Ok-clause-kept c =
    let doubled = c.pair_bytes-bytes.ensures.value ∙ sym c.register_bytes-half.ensures.double in
    let size = c.register_bytes-half.ensures.value ∙ sym c.pair_size-size.ensures in
    subst (λ (n : ℕ). AreKept c.put.new.self.kept (c.in_ok-offset.offset + c.register_bytes-half.result) n) size
    (second_kept c.keep.new.self.kept c.put.new.self.kept c.in_ok-offset.offset c.register_bytes-half.result
    (subst (λ (n : ℕ). AreKept c.keep.new.self.kept c.in_ok-offset.offset n) doubled c.in-Ok.ensures.ok) c.put.ensures.pages)

pub returns-in-Ok-clause-transfers : goal.returns-in-Ok-clause-transfers
returns-in-Ok-clause-transfers c =
    let r = c.args.registers.now in
    let n = register_bytes c.args.i.now.width in
    let span : Span = record { stores = true; bytes = pair_bytes c.args.i.now.width; address = c.args.address } in
    subst (λ (v : ℕ). Transferred c.args.slot.now c.put-in-Ok.new.self r r span [] (low_bytes n v ++ low_bytes n (x_at r c.args.i.now.rt2))) c.x.ensures
    (subst (λ (w : ℕ). Transferred c.args.slot.now c.put-in-Ok.new.self r r span [] (low_bytes n c.x.result ++ low_bytes n w)) c.x-in-Ok.ensures
    (pair_kept c.args.slot.now c.keep.new.self.kept c.put.new.self.kept c.put-in-Ok.new.self.kept c.put-in-Ok.new.self.image r c.args.i.now.width c.pair_size-size.result
    c.pair_bytes-bytes.result c.register_bytes-half.result c.args.address c.in_ok-offset.offset c.x.result c.x-in-Ok.result
    c.pair_size-size.ensures c.register_bytes-half.ensures.value c.pair_bytes-bytes.ensures.value c.in_ok-offset.ensures.ok
    c.keep.ensures.bytes c.put.ensures.bytes c.put-in-Ok.ensures.bytes))

pub returns-in-Ok-clause-keeps : goal.returns-in-Ok-clause-keeps
returns-in-Ok-clause-keeps c =
    let owned = c.args.slot.now in
    let n = c.pair_bytes-bytes.result in
    let offset = c.in_ok-offset.offset in
    keeps_at owned c.put-in-Ok.new.self.kept true (pair_bytes c.args.i.now.width) n c.args.address offset c.in_ok-offset.ensures.ok c.pair_bytes-bytes.ensures.value
    (keeps_then owned.kept c.put.new.self.kept c.put-in-Ok.new.self.kept offset n
    (keeps_then owned.kept c.keep.new.self.kept c.put.new.self.kept offset n c.keep.ensures.only c.put.ensures.pages) c.put-in-Ok.ensures.pages)

pub returns-in-Err-clause-keeps : goal.returns-in-Err-clause-keeps
returns-in-Err-clause-keeps c =
    keeps_at c.args.slot.now c.keep.new.self.kept true (pair_bytes c.args.i.now.width) c.pair_bytes-bytes.result c.args.address c.in_ok-offset.offset c.in_ok-offset.ensures.ok c.pair_bytes-bytes.ensures.value c.keep.ensures.only

pub returns-in-Err-clause-transfers : goal.returns-in-Err-clause-transfers
returns-in-Err-clause-transfers c =
    let owned = c.args.slot.now in
    let at = c.in_ok-offset.ensures.ok in
    let bytes = c.pair_bytes-bytes.ensures.value in
    record {
      why = (
        refl,
        subst (λ (n : ℕ). denied_in owned (record { stores = true; bytes = n; address = c.args.address }) ≡ None) bytes at.permitted,
        unkept_at owned true (pair_bytes c.args.i.now.width) c.pair_bytes-bytes.result c.args.address c.in_ok-offset.offset at bytes c.in-Err.ensures.refused,
      );
      registers = refl;
      bytes = c.keep.ensures.bytes;
    }
