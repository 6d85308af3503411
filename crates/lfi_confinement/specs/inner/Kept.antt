-- What the law needs of lawful code: of each instruction by itself, and of those that follow it. A rule that is left out here
-- leaves the law unproved.
use Rattle.std.specs.Prelude.{◌≡◌, ℕ, IsTrue}
use Rattle.a64_word.specs.declared.instruction.Instruction.{Instruction}
use Rattle.lfi_rules.specs.declared.needs.Need.TheVariants.{Call, Guard, Probe}
use Rattle.lfi_rules.specs.declared.rule.Rule.TheVariants as rules
use Rattle.lfi_rules.specs.Needs.{opens_of}
use Rattle.lfi_rules.specs.Rules.{keeps}
use Rattle.lfi_image.specs.Image.{Image}
use Rattle.lfi_confinement.specs.inner.Invariant.{IsMet, Awaits}

-- the rules that an instruction keeps by itself, at place k of a module of n words
pub record IsKept (i : Instruction) (k n : ℕ) : Type 0 where
  pub access : IsTrue (keeps i k n rules.AccessConfined)
  pub base : IsTrue (keeps i k n rules.BaseKept)
  pub address : IsTrue (keeps i k n rules.AddressGuarded)
  pub link : IsTrue (keeps i k n rules.LinkGuarded)
  pub offset : IsTrue (keeps i k n rules.OffsetNarrow)
  pub stack : IsTrue (keeps i k n rules.StackBounded)
  pub target : IsTrue (keeps i k n rules.TargetInside)
  pub branch : IsTrue (keeps i k n rules.BranchBounded)

-- What an instruction opens is met from the address of the next one on.
pub record IsFollowed (c : Image) (i : Instruction) (address : ℕ) : Type 0 where
  pub call : opens_of c.profile i ≡ Call → IsMet c Call address
  pub guard : opens_of c.profile i ≡ Guard → IsMet c Guard address
  pub probe : (count : ℕ) → opens_of c.profile i ≡ Probe count → Awaits c address count
