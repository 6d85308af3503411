-- The words that meet Call and Guard: one each.
use Rattle.std.proofs.Common.{◌≡◌, ℕ, true, false, refl, subst}
use Rattle.std.proofs.lemmas.Bool.{and_parts, eqb-true, not-true}
use Rattle.lfi_module.specs.declared.profile.Profile.{Profile}
use Rattle.a64_word.specs.declared.instruction.Instruction.{Instruction}
use Rattle.a64_word.specs.declared.instruction.Instruction.TheVariants as instructions
use Rattle.a64_word.specs.declared.data_register.AddSubExtended.{AddSubExtended}
use Rattle.a64_word.specs.declared.operands.BranchKind.{BranchKind}
use Rattle.a64_word.specs.declared.operands.BranchKind.TheVariants as branches
use Rattle.a64_word.specs.declared.operands.Width.{Width}
use Rattle.a64_word.specs.declared.operands.Width.TheVariants as widths
use Rattle.a64_word.specs.declared.operands.Extend.{Extend}
use Rattle.a64_word.specs.declared.operands.Extend.TheVariants as extends
use Rattle.a64_word.specs.Encoding.{Spells}
use Rattle.a64_effects.specs.Effects.{is_blr}
use Rattle.lfi_rules.specs.declared.needs.Need.TheVariants.{Call, Guard}
use Rattle.lfi_rules.specs.Guard.{is_x, is_uxtw, guards_link}
use Rattle.lfi_rules.specs.Needs.{calls_link}
use Rattle.lfi_rules.specs.Faults.{Meets, meets_nothing, meets_by}

is_blr_kind : (k : BranchKind) → is_blr k ≡ true → k ≡ branches.Blr
is_blr_kind branches.Blr h = refl
is_blr_kind k h = cc

is_wide : (width : Width) → is_x width ≡ true → width ≡ widths.X
is_wide widths.X h = refl
is_wide width h = cc

is_extend : (extend : Extend) → is_uxtw extend ≡ true → extend ≡ extends.Uxtw
is_extend extends.Uxtw h = refl
is_extend extend h = cc

call_word : (w : ℕ) (i : Instruction) → Spells i w → calls_link i ≡ true → w ≡ 0xD63F03C0
call_word w (instructions.BranchRegister i) s h =
    let tests = and_parts _ _ h in
    let kind = is_blr_kind i.kind tests.0 in
    let rn = eqb-true i.rn 30 tests.1 in
    let same : i ≡ record { kind = branches.Blr; rn = 30 } = λ t. record { kind = kind t; rn = rn t } in
    let t : Spells (instructions.BranchRegister (record { kind = branches.Blr; rn = 30 })) w = subst (λ x. Spells (instructions.BranchRegister x) w) same s in
    t.word_of.sum
call_word w i s h = cc

guard_word : (w : ℕ) (i : Instruction) → Spells i w → guards_link i ≡ true → w ≡ 0x8B3E42BE
guard_word w (instructions.AddSubExtended i) s h =
    let a = and_parts _ _ h in
    let b = and_parts _ _ a.0 in
    let c = and_parts _ _ b.0 in
    let d = and_parts _ _ c.0 in
    let e = and_parts _ _ d.0 in
    let f = and_parts _ _ e.0 in
    let g = and_parts _ _ f.0 in
    let width = is_wide i.width g.0 in
    let subtract = not-true _ g.1 in
    let set_flags = not-true _ f.1 in
    let amount = eqb-true i.amount 0 e.1 in
    let rn = eqb-true i.rn 21 d.1 in
    let extend = is_extend i.extend c.1 in
    let rm = eqb-true i.rm 30 b.1 in
    let rd = eqb-true i.rd 30 a.1 in
    let whole : AddSubExtended = record { width = widths.X; subtract = false; set_flags = false; rm = 30; extend = extends.Uxtw; amount = 0; rn = 21; rd = 30 } in
    let same : i ≡ whole = λ t. record { width = width t; subtract = subtract t; set_flags = set_flags t; rm = rm t; extend = extend t; amount = amount t; rn = rn t; rd = rd t } in
    let t : Spells (instructions.AddSubExtended whole) w = subst (λ x. Spells (instructions.AddSubExtended x) w) same s in
    t.word_of.sum
guard_word w i s h = cc

pub only_call : (p : Profile) (w : ℕ) → Meets p w Call → w ≡ 0xD63F03C0
only_call p w (meets_nothing e) = cc
only_call p w (meets_by i s m) = call_word w i s.spells m

pub only_guard : (p : Profile) (w : ℕ) → Meets p w Guard → w ≡ 0x8B3E42BE
only_guard p w (meets_nothing e) = cc
only_guard p w (meets_by i s m) = guard_word w i s.spells m
