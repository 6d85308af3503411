-- The numbers that tell a fault in C: the place of its word, and its rule; 0 and 0 for none.
use Rattle.std.specs.Prelude.{ℕ, ◌==◌, if◌then◌else◌, Option, Some, None, option_map}
use Rattle.lfi_rules.specs.Rules.{rule_number}
use Rattle.lfi_rules.specs.declared.fault.Fault.{Fault}
use Rattle.lfi_rules.specs.declared.rule.Rule.{Rule}
use Rattle.lfi_rules.specs.declared.rule.Rule.TheVariants.{Spelled, AccessConfined, BaseKept, AddressGuarded, LinkGuarded, OffsetNarrow, StackBounded, TargetInside, BranchBounded, NeedMet}
use Rattle.lfi_verifier.specs.declared.fault.LfiFault.{LfiFault}

-- the numbers of a fault
abbrev pub fault_told : Option Fault → LfiFault
fault_told (Some fault) = record { word = fault.word; rule = rule_number fault.rule }
fault_told None = record { word = 0; rule = 0 }

-- the rule with a number
abbrev pub rule_at : ℕ → Option Rule
rule_at k =
    if k == 1 then Some Spelled else (if k == 2 then Some AccessConfined else (if k == 3 then Some BaseKept else
    (if k == 4 then Some AddressGuarded else (if k == 5 then Some LinkGuarded else (if k == 6 then Some OffsetNarrow else
    (if k == 7 then Some StackBounded else (if k == 8 then Some TargetInside else (if k == 9 then Some BranchBounded else
    (if k == 10 then Some NeedMet else None)))))))))

-- the fault, or none, that numbers tell, where they tell either
abbrev pub fault_at : LfiFault → Option (Option Fault)
fault_at told =
    if told.rule == 0 then (if told.word == 0 then Some None else None)
    else option_map (λ rule. Some (record { word = told.word; rule = rule })) (rule_at told.rule)
