-- Registers that aren't refused are the lawful ones.
use Rattle.std.proofs.Common.{◌≡◌, ℕ, ◌+◌, ◌^◌, Bool, true, false, ◌&&◌, cond, Option, Some, None, length, refl, eqb, ltb, leb, eqb-true, ltb-true, leb-true, eq-eqb, lt-ltb, le-leb}
use Rattle.std.proofs.lemmas.Bool.{and_parts, and_from}
use Rattle.a64_semantics.specs.declared.registers.Registers.{Registers}
use Rattle.a64_semantics.specs.Registers.{x_at}
use Rattle.lfi_rules.specs.Map.{slot_size, stack_reach}
use Rattle.lfi_confinement.specs.Slots.{InSlot, is_in_slot}
use Rattle.lfi_confinement.specs.Lawful.{Held}
use Rattle.lfi_confinement.proofs.Places.{in_slot_test}
use Rattle.lfi_machine.specs.declared.start.StartFault.{StartFault}
use Rattle.lfi_machine.specs.Starts.{addresses_held, stack_held, refusal_of}

none_if : (b : Bool) (x : Option StartFault) (y : StartFault) → cond b x (Some y) ≡ None → (b ≡ true) × (x ≡ None)
none_if true x y h = (refl, h)
none_if false x y h = cc

in_slot : (from a : ℕ) → is_in_slot from a ≡ true → InSlot from a
in_slot from a h = let p = and_parts (leb from a) (ltb a (from + slot_size)) h in record { low = leb-true from a p.0; high = ltb-true a (from + slot_size) p.1 }

pub held_of : (from : ℕ) (r : Registers) → length r.x ≡ 31 → refusal_of from r ≡ None → Held from r
held_of from r count h =
    let a = none_if (eqb (x_at r 21) from) _ _ h in
    let b = none_if (addresses_held from r) _ _ a.1 in
    let c = none_if (ltb (x_at r 22) (2 ^ 32)) _ _ b.1 in
    let d = none_if (stack_held from r) _ _ c.1 in
    let e = none_if (is_in_slot from r.pc) _ _ d.1 in
    let f = none_if (ltb r.nzcv 16) _ _ e.1 in
    let p = and_parts (is_in_slot from (x_at r 18) && is_in_slot from (x_at r 23) && is_in_slot from (x_at r 24)) (is_in_slot from (x_at r 30)) b.0 in
    let q = and_parts (is_in_slot from (x_at r 18) && is_in_slot from (x_at r 23)) (is_in_slot from (x_at r 24)) p.0 in
    let s = and_parts (is_in_slot from (x_at r 18)) (is_in_slot from (x_at r 23)) q.0 in
    let t = and_parts (leb from (r.sp + stack_reach)) (ltb r.sp (from + slot_size + stack_reach)) d.0 in
    record {
      count = count;
      base = eqb-true (x_at r 21) from a.0;
      first_address = in_slot from (x_at r 18) s.0;
      second_address = in_slot from (x_at r 23) s.1;
      third_address = in_slot from (x_at r 24) q.1;
      link = in_slot from (x_at r 30) p.1;
      offset = ltb-true (x_at r 22) (2 ^ 32) c.0;
      stack_low = leb-true from (r.sp + stack_reach) t.0;
      stack_high = ltb-true r.sp (from + slot_size + stack_reach) t.1;
      pc = in_slot from r.pc e.0;
      flags = ltb-true r.nzcv 16 f.0;
    }

pub none_of : (from : ℕ) (r : Registers) → Held from r → refusal_of from r ≡ None
none_of from r h =
    let a = eq-eqb (x_at r 21) from h.base in
    let b : addresses_held from r ≡ true =
    and_from (is_in_slot from (x_at r 18) && is_in_slot from (x_at r 23) && is_in_slot from (x_at r 24)) (is_in_slot from (x_at r 30))
    (and_from (is_in_slot from (x_at r 18) && is_in_slot from (x_at r 23)) (is_in_slot from (x_at r 24))
    (and_from (is_in_slot from (x_at r 18)) (is_in_slot from (x_at r 23)) (in_slot_test from (x_at r 18) h.first_address) (in_slot_test from (x_at r 23) h.second_address))
    (in_slot_test from (x_at r 24) h.third_address))
    (in_slot_test from (x_at r 30) h.link) in
    let c = lt-ltb (x_at r 22) (2 ^ 32) h.offset in
    let d : stack_held from r ≡ true =
    and_from (leb from (r.sp + stack_reach)) (ltb r.sp (from + slot_size + stack_reach)) (le-leb from (r.sp + stack_reach) h.stack_low) (lt-ltb r.sp (from + slot_size + stack_reach) h.stack_high) in
    let e = in_slot_test from r.pc h.pc in
    let f = lt-ltb r.nzcv 16 h.flags in
    rw (a, b, c, d, e, f) refl
