-- What the private functions answer: the least rule that an instruction, or a word, breaks.
use Rattle.std.specs.Prelude.{◌≡◌, ℕ, ◌+◌, ◌<◌, ◌≤◌, nat_lt, ◌&&◌, ◌||◌, if◌then◌else◌, Bool, true, false, List, Option, Some, None}
use Rattle.lfi_module.specs.declared.profile.Profile.{Profile}
use Rattle.a64_word.specs.declared.instruction.Instruction.{Instruction}
use Rattle.lfi_rules.specs.declared.needs.Need.{Need}
use Rattle.lfi_rules.specs.declared.needs.Need.TheVariants.{Nothing}
use Rattle.lfi_rules.specs.declared.rule.Rule.{Rule}
use Rattle.lfi_rules.specs.declared.rule.Rule.TheVariants.{NeedMet}
use Rattle.lfi_rules.specs.declared.rules.ReservedWrites.{ReservedWrites}
use Rattle.lfi_rules.specs.Registers as registers
use Rattle.lfi_rules.specs.Rules.{written, keeps, rule_number}
use Rattle.lfi_rules.specs.Needs.{opens_of, meets_of, term_of, waits}
use Rattle.lfi_rules.specs.Calm.{is_calm, IsCalm}
use Rattle.lfi_rules.specs.Faults.{Allowed, Meets, BreaksInside}

-- how an instruction writes the registers that the profile reserves
pub record IsWritten (i : Instruction) (writes : ReservedWrites) : Type 0 where
  pub first_address : writes.first_address ≡ written i registers.first_address
  pub base : writes.base ≡ written i registers.base
  pub offset : writes.offset ≡ written i registers.offset
  pub second_address : writes.second_address ≡ written i registers.second_address
  pub third_address : writes.third_address ≡ written i registers.third_address
  pub link : writes.link ≡ written i registers.link
  pub stack : writes.stack ≡ written i registers.stack

-- the rule with the least number of those that an instruction breaks by itself
pub record IsLeastKept (i : Instruction) (k n : ℕ) (rule : Rule) : Type 0 where
  pub broken : keeps i k n rule ≡ false
  pub least : (other : Rule) → rule_number other < rule_number rule → keeps i k n other ≡ true

abbrev pub KeepsBefore : Instruction → (k n : ℕ) → Option Rule → Type 0
KeepsBefore i k n None = (rule : Rule) → keeps i k n rule ≡ true
KeepsBefore i k n (Some rule) = IsLeastKept i k n rule

-- A word keeps a need that is open before it: it meets it; or it is calm, and the need has a word more.
pub data Keeps (profile : Profile) (word : ℕ) (need : Need) : Type 0 where
  met : Meets profile word need → Keeps profile word need
  gone_by : IsCalm profile word → 1 < term_of need → Keeps profile word need

-- whether an instruction goes by before a need is met, what it leaves open, and whether it keeps the need
abbrev pub goes_by : Profile → Need → Instruction → Bool
goes_by profile need i = nat_lt 1 (term_of need) && is_calm profile i

abbrev pub left_of : Profile → Need → Instruction → Need
left_of profile need i = if goes_by profile need i then waits need else opens_of profile i

abbrev pub keeps_of : Profile → Need → Instruction → Bool
keeps_of profile need i = goes_by profile need i || meets_of i need

-- A word at place k breaks a rule, by itself or after a need.
pub data BreaksAfter (profile : Profile) (word : ℕ) (need : Need) (k n : ℕ) (rule : Rule) : Type 0 where
  itself : (Allowed profile word k n rule → ⊥) → BreaksAfter profile word need k n rule
  unmet : rule ≡ NeedMet → (Keeps profile word need → ⊥) → BreaksAfter profile word need k n rule

abbrev pub IsLeastBroken : Profile → (word : ℕ) → Need → (k n : ℕ) → Option Rule → Type 0
IsLeastBroken profile word need k n None = (rule : Rule) → BreaksAfter profile word need k n rule → ⊥
IsLeastBroken profile word need k n (Some rule) =
    BreaksAfter profile word need k n rule × ((other : Rule) → BreaksAfter profile word need k n other → rule_number rule ≤ rule_number other)

-- Of the words ws, none of the first i breaks a rule.
pub record NoneBefore (profile : Profile) (ws : List ℕ) (first n i : ℕ) : Type 0 where
  pub later : (k : ℕ) (rule : Rule) → BreaksInside profile ws first n k rule → first + i ≤ k

-- the rule that the last word breaks by what is open after it
abbrev pub unclosed : Need → Option Rule
unclosed = elim [ Nothing ↦ None | opened ↦ Some NeedMet ]
