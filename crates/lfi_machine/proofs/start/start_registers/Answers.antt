use Rattle.std.proofs.Common.{◌≡◌, refl, arith, ap, ◌∙◌}
use Rattle.lfi_module.specs.Numbers.{base_of}
use Rattle.lfi_machine.proofs.start.start_registers.Goals as goal

pub returns-clause-held : goal.returns-clause-held
returns-clause-held c =
    let from : c.base-base.result ≡ base_of c.args.image.now.slot = c.base-base.ensures ∙ ap base_of c.slot.ensures in
    let small = c.entry_of.ensures.small in
    let wide = c.from.ensures in
    record {
      count = refl;
      base = from;
      first_address = record { low = omega (arith, from); high = omega (arith, from) };
      second_address = record { low = omega (arith, from); high = omega (arith, from) };
      third_address = record { low = omega (arith, from); high = omega (arith, from) };
      link = record { low = omega (arith, from); high = omega (arith, from) };
      offset = omega arith;
      stack_low = omega (arith, from);
      stack_high = omega (arith, from);
      pc = record { low = omega (arith, from, small, wide); high = omega (arith, from, small, wide) };
      flags = omega arith;
    }
