use Rattle.std.proofs.Common.{◌≡◌, ◌∙◌, ◌<◌, ℕ, length, sym, subst, inl, inr, arith}
use Rattle.std.proofs.Math.ListN.{set}
use Rattle.std.proofs.lemmas.Bool.Decides.{eqb_tells}
use Rattle.std.proofs.lemmas.List.{length-set, get_or-set_same, get_or-set_other}
use Rattle.lfi_sync.specs.Fates.{fate_after, fate_at, is_unheard}
use Rattle.lfi_sync.specs.declared.fate.ClientFate.TheVariants.{Heard}
use Rattle.lfi_sync.proofs.fate.Unheard.cut_off.Goals as goal

pub loop-number-preserved : goal.loop-number-preserved
loop-number-preserved c =
    let i = c.loop-number.invariant in
    let k : ℕ = c.loop-number.number in
    let after = c.loop-number.after in
    let fate = c.after.result in
    let room : k < length after = (let long = i.long in let test = c.loop-number-test.true in omega arith) in
    let told : ℕ → _ = λ n. fate_after (is_unheard c.args.self.now n) (fate_at c.args.fates n) in
    record {
      long = length-set after k fate ∙ i.long;
      done = λ n less. elim (eqb_tells n k) as (λ _. fate_at (set after k fate) n ≡ told n) [
        | inl e ↦ subst (λ z. fate_at (set after k fate) z ≡ told z) (sym e.1) (get_or-set_same after k fate Heard room ∙ c.after.ensures)
        | inr other ↦ get_or-set_other after k n fate Heard other.1 ∙ i.done n (let apart = other.1 in omega arith)
      ];
      left = λ n past. get_or-set_other after k n fate Heard (λ e. omega arith) ∙ i.left n (omega arith);
    }
