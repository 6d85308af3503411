use Rattle.std.proofs.Common.{◌≡◌, ◌∙◌, ℕ, Some, ap, subst, inl, inr, arith}
use Rattle.std.specs.Prelude.{slice_get}
use Rattle.std.proofs.lemmas.Bool.{cases_lt}
use Rattle.std.proofs.lemmas.Option.{slice_get-get_or, slice_get_within, get_or_from_slice_get}
use Rattle.lfi_frame.specs.declared.fault.FrameFault.TheVariants.{ReadFailed}
use Rattle.lfi_commands.proofs.ending.is_read_failed.Goals as goal

pub returns-then-is_of_a_read-clause-failed : goal.returns-then-is_of_a_read-clause-failed
returns-then-is_of_a_read-clause-failed c = λ _.
    let faults = c.args.faults.now in
    let k : ℕ = c.loop-number.number in
    let test = c.loop-number-test.true in
    (k, slice_get-get_or faults k _ (let end = c.loop-number.auto.number-end in omega arith) ∙ ap Some (c.is_of_a_read.ensures.read c.if-is_of_a_read.true))

pub loop-number-preserved : goal.loop-number-preserved
loop-number-preserved c =
    let faults = c.args.faults.now in
    let n : ℕ = c.loop-number.number in
    record {
      none = λ k less at. elim (cases_lt k n) [
        | inl before ↦ c.loop-number.invariant.none k before at
        | inr past ↦
            let same : k ≡ n = omega arith in
            c.is_of_a_read.ensures.other c.if-is_of_a_read.false (get_or_from_slice_get faults n (Some ReadFailed) _ (subst (λ z. slice_get faults z ≡ Some (Some ReadFailed)) same at))
      ];
    }

pub returns-clause-none : goal.returns-clause-none
returns-clause-none c = λ _ failed.
    let faults = c.args.faults.now in
    let within = slice_get_within faults failed.0 (Some ReadFailed) failed.1 in
    let test = c.loop-number-test.false in
    c.loop-number.invariant.none failed.0 (let end = c.loop-number.auto.number-end in omega arith) failed.1
