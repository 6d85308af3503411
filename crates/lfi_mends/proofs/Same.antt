-- What a single access does that accesses an address.
use Rattle.std.proofs.Common.{◌≡◌, ℕ, ◌^◌, ◌≤◌, [], Some, refl, subst, lit≤}
use Rattle.a64_word.specs.declared.operands.Size.{Size}
use Rattle.a64_word.specs.declared.operands.Size.TheVariants as sizes
use Rattle.a64_word.specs.declared.operands.Transfer.{Transfer}
use Rattle.a64_word.specs.Operands.{size_code}
use Rattle.a64_effects.specs.Effects.{is_store}
use Rattle.a64_semantics.specs.Registers.{x_at, put_all}
use Rattle.a64_semantics.specs.Accesses.{stored_by}
use Rattle.a64_semantics.specs.Writes.{to_loaded}
use Rattle.a64_semantics.specs.Branches.{following}
use Rattle.lfi_mends.specs.Outcomes.{State, Agree, written_at}

pub agree_same : (s : State) → Agree s s
agree_same s = record { general = λ n below kept. refl; stack = refl; flags = refl; memory = λ place. refl }

-- what a single access does that accesses an address
abbrev pub at_address : Size → Transfer → (rt : ℕ) → State → ℕ → State
at_address size transfer rt s a = record {
  registers = record (put_all (to_loaded size transfer rt s.memory a []) s.registers) { pc = following s.registers; nzcv = s.registers.nzcv };
  memory = written_at (Some (record { address = a; bytes = 2 ^ size_code size; stores = is_store transfer })) (stored_by size transfer (x_at s.registers rt)) s.memory;
}

pub some_bytes : (size : Size) → 1 ≤ 2 ^ size_code size
some_bytes sizes.Byte = lit≤ tt
some_bytes sizes.Half = lit≤ tt
some_bytes sizes.Word = lit≤ tt
some_bytes sizes.Double = lit≤ tt

pub agree_at : (size : Size) (transfer : Transfer) (rt : ℕ) (s : State) (a b : ℕ) → a ≡ b → Agree (at_address size transfer rt s a) (at_address size transfer rt s b)
agree_at size transfer rt s a b e = subst (λ x. Agree (at_address size transfer rt s a) (at_address size transfer rt s x)) e (agree_same (at_address size transfer rt s a))
