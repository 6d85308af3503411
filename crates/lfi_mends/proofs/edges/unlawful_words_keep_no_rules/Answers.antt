use Rattle.std.proofs.Common.{◌≡◌, ◌≢◌, true, false, refl}
use Rattle.lfi_rules.specs.declared.rule.Rule.TheVariants as rules
use Rattle.lfi_rules.specs.declared.needs.Need.TheVariants.{Nothing, Probe}
use Rattle.lfi_rules.specs.Needs.{window}
use Rattle.lfi_rules.specs.Rules.{keeps}
use Rattle.a64_word.specs.declared.operands.Transfer.TheVariants.{Load}
use Rattle.lfi_mends.specs.Edges.{moves_at_x1, adds_one, goes_to}
use Rattle.lfi_mends.proofs.AtTheBase.{breaks_base, breaks_address, breaks_link, breaks_offset, breaks_stack}
use Rattle.lfi_mends.proofs.edges.unlawful_words_keep_no_rules.Goals as goal

pub returns-clause-access : goal.returns-clause-access
returns-clause-access c = λ profile kept.
    let other : rules.AccessConfined ≢ rules.TargetInside = λ e. let same : rules.AccessConfined ≡ rules.TargetInside = e in cc in
    let holds : keeps (moves_at_x1 Load 0) 0 1 rules.AccessConfined ≡ true = (kept.0.allowed 0 1 rules.AccessConfined other).kept (moves_at_x1 Load 0) kept.0.spells in
    let breaks : keeps (moves_at_x1 Load 0) 0 1 rules.AccessConfined ≡ false = refl in
    cc

pub returns-clause-base : goal.returns-clause-base
returns-clause-base c = λ profile kept.
    let other : rules.BaseKept ≢ rules.TargetInside = λ e. let same : rules.BaseKept ≡ rules.TargetInside = e in cc in
    let holds : keeps (adds_one 21 21) 0 1 rules.BaseKept ≡ true = (kept.0.allowed 0 1 rules.BaseKept other).kept (adds_one 21 21) kept.0.spells in
    let breaks : keeps (adds_one 21 21) 0 1 rules.BaseKept ≡ false = breaks_base in
    cc

pub returns-clause-address : goal.returns-clause-address
returns-clause-address c = λ profile kept.
    let other : rules.AddressGuarded ≢ rules.TargetInside = λ e. let same : rules.AddressGuarded ≡ rules.TargetInside = e in cc in
    let holds : keeps (adds_one 18 18) 0 1 rules.AddressGuarded ≡ true = (kept.0.allowed 0 1 rules.AddressGuarded other).kept (adds_one 18 18) kept.0.spells in
    let breaks : keeps (adds_one 18 18) 0 1 rules.AddressGuarded ≡ false = breaks_address in
    cc

pub returns-clause-link : goal.returns-clause-link
returns-clause-link c = λ profile kept.
    let other : rules.LinkGuarded ≢ rules.TargetInside = λ e. let same : rules.LinkGuarded ≡ rules.TargetInside = e in cc in
    let holds : keeps (adds_one 30 30) 0 1 rules.LinkGuarded ≡ true = (kept.0.allowed 0 1 rules.LinkGuarded other).kept (adds_one 30 30) kept.0.spells in
    let breaks : keeps (adds_one 30 30) 0 1 rules.LinkGuarded ≡ false = breaks_link in
    cc

pub returns-clause-offset : goal.returns-clause-offset
returns-clause-offset c = λ profile kept.
    let other : rules.OffsetNarrow ≢ rules.TargetInside = λ e. let same : rules.OffsetNarrow ≡ rules.TargetInside = e in cc in
    let holds : keeps (adds_one 22 22) 0 1 rules.OffsetNarrow ≡ true = (kept.0.allowed 0 1 rules.OffsetNarrow other).kept (adds_one 22 22) kept.0.spells in
    let breaks : keeps (adds_one 22 22) 0 1 rules.OffsetNarrow ≡ false = breaks_offset in
    cc

pub returns-clause-stack : goal.returns-clause-stack
returns-clause-stack c = λ profile kept.
    let other : rules.StackBounded ≢ rules.TargetInside = λ e. let same : rules.StackBounded ≡ rules.TargetInside = e in cc in
    let holds : keeps (adds_one 0 31) 0 1 rules.StackBounded ≡ true = (kept.0.allowed 0 1 rules.StackBounded other).kept (adds_one 0 31) kept.0.spells in
    let breaks : keeps (adds_one 0 31) 0 1 rules.StackBounded ≡ false = breaks_stack in
    cc

pub returns-clause-branch : goal.returns-clause-branch
returns-clause-branch c = λ profile kept.
    let other : rules.BranchBounded ≢ rules.TargetInside = λ e. let same : rules.BranchBounded ≡ rules.TargetInside = e in cc in
    let holds : keeps (goes_to 0) 0 1 rules.BranchBounded ≡ true = (kept.0.allowed 0 1 rules.BranchBounded other).kept (goes_to 0) kept.0.spells in
    let breaks : keeps (goes_to 0) 0 1 rules.BranchBounded ≡ false = refl in
    cc

pub returns-clause-open : goal.returns-clause-open
returns-clause-open c = λ profile kept. let same : Probe (window profile) ≡ Nothing = kept.1 in cc
