use Rattle.std.proofs.Common.{true, None, ◌≡◌, ◌^◌, ℕ, [], refl, subst}
use Rattle.a64_word.specs.Bytes.{low_bytes}
use Rattle.a64_word.specs.Operands.{size_code}
use Rattle.lfi_machine.specs.inner.Transfers.{Span, Transferred, denied_in}
use Rattle.lfi_machine.proofs.Keeping.{keeps_at, keeps_then, unkept_at}
use Rattle.lfi_machine.proofs.Moved.{single_kept}
use Rattle.lfi_machine.proofs.singles.store.Goals as goal

pub returns-in-Ok-clause-transfers : goal.returns-in-Ok-clause-transfers
returns-in-Ok-clause-transfers c =
    let n = 2 ^ size_code c.args.size in
    let r = c.args.registers.now in
    let owned = c.args.slot.now in
    let span : Span = record { stores = true; bytes = n; address = c.args.address } in
    let wrote = c.put.ensures.bytes in
    subst (λ (v : ℕ). Transferred owned c.put.new.self r r span [] (low_bytes n v)) c.x.ensures
    (single_kept owned c.keep.new.self.kept c.put.new.self.kept c.put.new.self.image r n c.bytes_of-bytes.result c.args.address c.in_ok-offset.offset c.x.result
    c.bytes_of-bytes.ensures.value c.in_ok-offset.ensures.ok c.keep.ensures.bytes wrote)

pub returns-in-Ok-clause-keeps : goal.returns-in-Ok-clause-keeps
returns-in-Ok-clause-keeps c =
    let owned = c.args.slot.now in
    let offset = c.in_ok-offset.offset in
    keeps_at owned c.put.new.self.kept true (2 ^ size_code c.args.size) c.bytes_of-bytes.result c.args.address offset c.in_ok-offset.ensures.ok c.bytes_of-bytes.ensures.value
    (keeps_then owned.kept c.keep.new.self.kept c.put.new.self.kept offset c.bytes_of-bytes.result c.keep.ensures.only c.put.ensures.pages)

pub returns-in-Err-clause-transfers : goal.returns-in-Err-clause-transfers
returns-in-Err-clause-transfers c =
    let owned = c.args.slot.now in
    let at = c.in_ok-offset.ensures.ok in
    let bytes = c.bytes_of-bytes.ensures.value in
    record {
      why = (
        refl,
        subst (λ (n : ℕ). denied_in owned (record { stores = true; bytes = n; address = c.args.address }) ≡ None) bytes at.permitted,
        unkept_at owned true (2 ^ size_code c.args.size) c.bytes_of-bytes.result c.args.address c.in_ok-offset.offset at bytes c.in-Err.ensures.refused,
      );
      registers = refl;
      bytes = c.keep.ensures.bytes;
    }

pub returns-in-Err-clause-keeps : goal.returns-in-Err-clause-keeps
returns-in-Err-clause-keeps c =
    keeps_at c.args.slot.now c.keep.new.self.kept true (2 ^ size_code c.args.size) c.bytes_of-bytes.result c.args.address c.in_ok-offset.offset c.in_ok-offset.ensures.ok c.bytes_of-bytes.ensures.value c.keep.ensures.only
