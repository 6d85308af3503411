use Rattle.std.proofs.Common.{◌≡◌, ◌∙◌, ◌<◌, ℕ, Some, length, slice_get, refl, sym, ap, subst, inl, inr, arith}
use Rattle.std.proofs.Math.ListN.{set}
use Rattle.std.proofs.lemmas.Bool.Decides.{eqb_tells}
use Rattle.std.proofs.lemmas.List.{length-set}
use Rattle.std.proofs.lemmas.Option.{slice_get_read, slice_get_within}
use Rattle.lfi_receive.specs.Receivers.{start_of}
use Rattle.lfi_stage_model.proofs.Each.{some_same, set_same, set_other}
use Rattle.lfi_stage.proofs.telling.starts_of.Goals as goal

pub loop-number-preserved : goal.loop-number-preserved
loop-number-preserved c =
    let i = c.loop-number.invariant in
    let k : ℕ = c.loop-number.number in
    let rs = c.args.receivers.now in
    let starts = c.loop-number.starts in
    let start = c.start.result in
    let room : k < length starts = (let few = c.requires.few in let long = i.long in omega arith) in
    let within : k < length rs = (let test = c.loop-number-test.true in let end = c.loop-number.auto.number-end in omega arith) in
    let here : slice_get rs k ≡ Some c.index-receivers-number.result = slice_get_read rs (length rs) k c.index-receivers-number.result refl within c.index-receivers-number.is in
    record {
      long = length-set starts k start ∙ i.long;
      told = λ n r less at. elim (eqb_tells n k) as (λ _. slice_get (set starts k start) n ≡ Some (start_of r)) [
        | inl e ↦
            let same : c.index-receivers-number.result ≡ r = some_same c.index-receivers-number.result r (sym here ∙ subst (λ z. slice_get rs z ≡ Some r) e.1 at) in
            subst (λ z. slice_get (set starts k start) z ≡ Some (start_of r)) (sym e.1) (set_same starts k start room ∙ ap (λ s. Some s) (c.start.ensures ∙ ap (λ q. start_of q) same))
        | inr other ↦ set_other starts k n start other.1 ∙ i.told n r (let apart = other.1 in omega arith) at
      ];
    }

pub returns : goal.returns
returns c = λ n r at. c.loop-number.invariant.told n r (let within = slice_get_within c.args.receivers.now n r at in omega arith) at
