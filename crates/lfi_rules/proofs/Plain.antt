-- Words that meet the need of a probe, by their fields.
use Rattle.std.proofs.Common.{◌≡◌, ◌≢◌, ℕ, ◌+◌, ◌*◌, ◌/◌, ◌^◌, ◌<◌, true, refl, arith, lit≤}
use Rattle.std.specs.Prelude.{pos}
use Rattle.std.proofs.lemmas.Nat.{mod_below}
use Rattle.a64_word.specs.inner.Bits.{bits_at}
use Rattle.a64_word.specs.declared.instruction.Instruction.TheVariants as instructions
use Rattle.a64_word.specs.declared.operands.PairMode.TheVariants as modes
use Rattle.a64_word.proofs.FieldLaws.{IsWordOf-from_reads}
use Rattle.lfi_classes.specs.Sets.{is_access}
use Rattle.lfi_rules.specs.declared.needs.Need.TheVariants.{Probe}
use Rattle.lfi_rules.specs.inner.Quiet.{IsMet}
use Rattle.lfi_rules.proofs.Fields.{joined}
use Rattle.lfi_rules.proofs.Operands.{size_of, size_is, transfer_of, transfer_is, flag_of, flag_is, width_of, width_is, two_bits, access}

-- an access of one register at sp
pub by_one : (w : ℕ) → w < 2 ^ 32 → bits_at w 24 6 ≡ 57 → bits_at w 5 17 ≡ 31 → is_access (bits_at w 30 2) (bits_at w 22 2) ≡ true → IsMet w (Probe 1)
by_one w below op place legal =
    let split : bits_at w 5 17 ≡ bits_at w 10 12 * 2 ^ 5 + bits_at w 5 5 = joined w 5 12 5 in
    let small : bits_at w 5 5 < 2 ^ 5 = mod_below (w / 2 ^ 5) (2 ^ 5) (omega arith) in
    let rn : bits_at w 5 5 ≡ 31 = omega arith in
    let imm : bits_at w 10 12 ≡ 0 = omega arith in
    record {
      instruction = instructions.UnsignedOffset (record { size = size_of (bits_at w 30 2); transfer = transfer_of (bits_at w 22 2); imm12 = 0; rn = 31; rt = bits_at w 0 5 });
      of_one = refl;
      spells = record {
        legal = access _ _ (two_bits w 30) (two_bits w 22) legal;
        word_of = IsWordOf-from_reads _ w below (size_is w 30, (op, (transfer_is w 22, (imm, (rn, (refl, tt))))));
      };
      met = refl;
    }

-- an access of two registers at sp, which differ where it loads them
pub by_two : (w : ℕ) → w < 2 ^ 32 → bits_at w 23 8 ≡ 82 → bits_at w 15 7 ≡ 0 → bits_at w 5 5 ≡ 31 → (flag_of (bits_at w 22 1) ≡ true → bits_at w 0 5 ≢ bits_at w 10 5) → IsMet w (Probe 1)
by_two w below class imm rn apart =
    let split : bits_at w 23 8 ≡ bits_at w 25 6 * 2 ^ 2 + bits_at w 23 2 = joined w 23 6 2 in
    let small : bits_at w 23 2 < 4 = two_bits w 23 in
    let op : bits_at w 25 6 ≡ 20 = omega arith in
    let mode : bits_at w 23 2 ≡ 2 = omega arith in
    record {
      instruction = instructions.Pair (record { width = width_of (bits_at w 31 1); load = flag_of (bits_at w 22 1); mode = modes.Offset; imm7 = pos 0; rt2 = bits_at w 10 5; rn = 31; rt = bits_at w 0 5 });
      of_one = refl;
      spells = record {
        legal = (lit≤ tt, apart, λ other. absurd (other refl));
        word_of = IsWordOf-from_reads _ w below (width_is w 31, (op, (mode, (flag_is w 22, (imm, (refl, (rn, (refl, tt))))))));
      };
      met = refl;
    }
