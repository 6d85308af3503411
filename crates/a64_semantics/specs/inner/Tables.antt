-- Conditions as tables.
use Rattle.std.specs.Prelude.{ℕ}
use Rattle.a64_word.specs.declared.operands.Condition.{Condition}
use Rattle.a64_word.specs.declared.operands.Condition.TheVariants as condition

-- a bit for each number of flags, set where the condition holds
abbrev pub numbers_holding : Condition → ℕ
numbers_holding condition.Eq = 0xF0F0
numbers_holding condition.Ne = 0x0F0F
numbers_holding condition.Cs = 0xCCCC
numbers_holding condition.Cc = 0x3333
numbers_holding condition.Mi = 0xFF00
numbers_holding condition.Pl = 0x00FF
numbers_holding condition.Vs = 0xAAAA
numbers_holding condition.Vc = 0x5555
numbers_holding condition.Hi = 0x0C0C
numbers_holding condition.Ls = 0xF3F3
numbers_holding condition.Ge = 0xAA55
numbers_holding condition.Lt = 0x55AA
numbers_holding condition.Gt = 0x0A05
numbers_holding condition.Le = 0xF5FA
numbers_holding condition.Al = 0xFFFF
numbers_holding condition.Nv = 0xFFFF
