use Rattle.lfi_mends.proofs.Bounded.{indexed_bounded, unloaded}
use Rattle.std.proofs.Common.{ℕ, List, ◌∙◌, ◌++◌, ◌∷◌, [], ap, sym}
use Rattle.a64_word.specs.declared.instruction.Instruction.{Instruction}
use Rattle.a64_word.specs.declared.operands.Size.{Size}
use Rattle.a64_word.specs.declared.operands.Transfer.{Transfer}
use Rattle.lfi_mends.specs.Mends.{mended}
use Rattle.lfi_mends.specs.inner.Rows.{access_of, access_with, sum_for, sum_of_index, amount_of, indexed}
use Rattle.lfi_mends.proofs.Summed.{index_same}
use Rattle.lfi_mends.proofs.Beside.{no_offset}
use Rattle.lfi_mends.proofs.accesses.indexed.Goals as goal

abbrev any_indexed_by : (sum : ℕ) → Size → Transfer → (rt rn rm amount scratch : ℕ) → List Instruction
any_indexed_by sum size transfer rt rn rm amount scratch = sum_of_index sum amount rm rn ∷ access_with size transfer sum rt scratch

pub returns-clause-does : goal.returns-clause-does
returns-clause-does c = λ free.
    let i = c.args.i.now in
    let sum = c.sum_register-sum.result in
    let access = access_of i.size i.transfer sum i.rt in
    index_same i.size i.transfer i.rm i.extend i.scaled i.rn i.rt (mended c.with_access.result) (no_offset i.transfer i.rt free)
    (c.with_access.ensures.items free ∙ ap (λ l. l ++ access ∷ []) (c.and-mend.ensures.items ∙ ap (λ l. l ++ c.sum_with_index.result ∷ []) c.new.ensures.items)
    ∙ ap (λ first. first ∷ access ∷ []) c.sum_with_index.ensures.is
    ∙ ap (λ amount. indexed sum i.size i.transfer i.rt i.rn i.rm amount) c.amount.ensures.is
    ∙ ap (λ into. indexed into i.size i.transfer i.rt i.rn i.rm (amount_of i.size i.scaled)) (c.sum_register-sum.ensures.offset free))

pub returns-clause-bounded : goal.returns-clause-bounded
returns-clause-bounded c =
    let i = c.args.i.now in
    let sum = c.sum_register-sum.result in
    let access = access_with i.size i.transfer sum i.rt c.scratch_beside.result in
    indexed_bounded i.size i.transfer i.rm i.extend i.scaled i.rn i.rt (mended c.with_access.result) (unloaded i.transfer i.rt (sym c.loads_base.ensures ∙ c.if-loads_base.false))
    (c.with_access.ensures.all ∙ ap (λ l. l ++ access) (c.and-mend.ensures.items ∙ ap (λ l. l ++ c.sum_with_index.result ∷ []) c.new.ensures.items)
    ∙ ap (λ first. first ∷ access) c.sum_with_index.ensures.is
    ∙ ap (λ amount. any_indexed_by sum i.size i.transfer i.rt i.rn i.rm amount c.scratch_beside.result) c.amount.ensures.is
    ∙ ap (λ into. any_indexed_by into i.size i.transfer i.rt i.rn i.rm (amount_of i.size i.scaled) c.scratch_beside.result) c.sum_register-sum.ensures.is
    ∙ ap (λ scratch. any_indexed_by (sum_for i.transfer i.rt) i.size i.transfer i.rt i.rn i.rm (amount_of i.size i.scaled) scratch) c.scratch_beside.ensures.is)
