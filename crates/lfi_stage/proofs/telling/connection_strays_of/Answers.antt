use Rattle.std.proofs.Common.{◌≡◌, ◌∙◌, ◌<◌, ℕ, Some, length, slice_get, refl, sym, ap, subst, inl, inr, arith}
use Rattle.std.specs.Prelude.{slice_index}
use Rattle.std.specs.Option.{option_map_or}
use Rattle.std.proofs.Math.ListN.{set}
use Rattle.std.proofs.lemmas.Bool.{cases_lt}
use Rattle.std.proofs.lemmas.Bool.Decides.{eqb_tells}
use Rattle.std.proofs.lemmas.List.{length-set, get_or-set_same, get_or-set_other}
use Rattle.std.proofs.lemmas.Option.{slice_get_past, slice_get_read}
use Rattle.lfi_receive.specs.Receivers.{strays_at}
use Rattle.lfi_stage.proofs.telling.connection_strays_of.Goals as goal

pub loop-number-preserved : goal.loop-number-preserved
loop-number-preserved c =
    let i = c.loop-number.invariant in
    let k : ℕ = c.loop-number.number in
    let rs = c.args.receivers.now in
    let strays = c.loop-number.strays in
    let count = c.strays.result in
    let room : k < length strays = (let few = c.requires.few in let long = i.long in omega arith) in
    let within : k < length rs = (let test = c.loop-number-test.true in let end = c.loop-number.auto.number-end in omega arith) in
    let here : slice_get rs k ≡ Some c.index-receivers-number.result = slice_get_read rs (length rs) k c.index-receivers-number.result refl within c.index-receivers-number.is in
    record {
      long = length-set strays k count ∙ i.long;
      told = λ n less. elim (eqb_tells n k) as (λ _. slice_index (set strays k count) n ≡ option_map_or strays_at (slice_get rs n) 0) [
        | inl e ↦
            subst (λ z. slice_index (set strays k count) z ≡ option_map_or strays_at (slice_get rs z) 0) (sym e.1)
            (get_or-set_same strays k count 0 room ∙ c.strays.ensures ∙ sym (ap (λ o. option_map_or strays_at o 0) here))
        | inr other ↦ get_or-set_other strays k n count 0 other.1 ∙ i.told n (let apart = other.1 in omega arith)
      ];
      none = λ n past. get_or-set_other strays k n count 0 (λ e. omega arith) ∙ i.none n (omega arith);
    }

pub returns : goal.returns
returns c = λ n. elim (cases_lt n c.loop-number.number) [
  | inl less ↦ c.loop-number.invariant.told n less
  | inr past ↦ c.loop-number.invariant.none n past ∙ sym (ap (λ o. option_map_or strays_at o 0) (slice_get_past c.args.receivers.now n (omega arith)))
]
