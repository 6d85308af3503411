-- Numbers that tell a fault, or code.
use Rattle.std.proofs.Common.{◌≡◌, ℕ, Option, Some, None, refl, sym, subst, arith}
use Rattle.std.specs.Prelude.{Ok}
use Rattle.lfi_connection.specs.declared.event.Event.{Event}
use Rattle.lfi_connection.specs.declared.event.Event.TheVariants.{Nothing, Open, Begin, Code, Stray, End}
use Rattle.lfi_stream.specs.declared.numbers.LfiStreamText.{LfiStreamText}
use Rattle.lfi_stream.specs.Events.{IsWithin}
use Rattle.lfi_verifier.specs.declared.finding.Finding.{Finding}
use Rattle.lfi_verifier.specs.declared.stream.LfiEvent.{LfiEvent}
use Rattle.lfi_verifier.specs.StreamEvents.{numbers_of, with_finding, LiesWithin}
use Rattle.lfi_rules.specs.Rules.{rule_number}
use Rattle.lfi_rules.specs.declared.fault.Fault.{Fault}
use Rattle.lfi_rules.specs.declared.rule.Rule.{Rule}
use Rattle.lfi_rules.specs.declared.rule.Rule.TheVariants.{Spelled, AccessConfined, BaseKept, AddressGuarded, LinkGuarded, OffsetNarrow, StackBounded, TargetInside, BranchBounded, NeedMet}
use Rattle.lfi_verifier.specs.Faults.{fault_at, fault_told}

-- a rule's number tells it
at_rule : (word : ℕ) (rule : Rule) → fault_at (record { word = word; rule = rule_number rule }) ≡ Some (Some (record { word = word; rule = rule }))
at_rule word Spelled = refl
at_rule word AccessConfined = refl
at_rule word BaseKept = refl
at_rule word AddressGuarded = refl
at_rule word LinkGuarded = refl
at_rule word OffsetNarrow = refl
at_rule word StackBounded = refl
at_rule word TargetInside = refl
at_rule word BranchBounded = refl
at_rule word NeedMet = refl

-- the numbers of a fault tell it
pub told_at : (fault : Option Fault) → fault_at (fault_told fault) ≡ Some fault
told_at None = refl
told_at (Some fault) = at_rule fault.word fault.rule

-- Code that is told lies within its module.
lies_by : (event : Event) (used : ℕ) (s : LfiStreamText) (finding : Finding) → IsWithin (Ok event) used s → (with_finding (numbers_of event) finding).kind ≡ 2 → LiesWithin s (with_finding (numbers_of event) finding) used
lies_by Nothing used s finding within kind = absurd (omega arith)
lies_by (Open k extent) used s finding within kind = absurd (omega arith)
lies_by (Begin page) used s finding within kind = absurd (omega arith)
lies_by (Code page ended) used s finding within kind = record { extent = page.extent; pages = page.pages; going = within.0; within = within.1 }
lies_by (Stray k) used s finding within kind = absurd (omega arith)
lies_by (End k extent pages reason) used s finding within kind = absurd (omega arith)

pub lies : (event : Event) (used : ℕ) (s : LfiStreamText) (finding : Finding) (told : LfiEvent) → told ≡ with_finding (numbers_of event) finding → IsWithin (Ok event) used s → told.kind ≡ 2 → LiesWithin s told used
lies event used s finding told numbers within kind =
    subst (λ (e : LfiEvent). e.kind ≡ 2 → LiesWithin s e used) (sym numbers) (λ k. lies_by event used s finding within k) kind
