use Rattle.std.proofs.Common.{◌≡◌, ℕ, ◌+◌, ◌<◌, ◌≤◌, List, None, Option, length, sym, ◌∙◌, subst, arith}
use Rattle.std.proofs.lemmas.List.{get_or_default, get_or-set_other, length-set}
use Rattle.lfi_model.specs.Item.{ItemView}
use Rattle.lfi_sequence.specs.declared.sequence.Sequence.{Sequence}
use Rattle.lfi_stage.specs.Settled.{SettlesBut}
use Rattle.lfi_stage.specs.inner.Rows.{held_by}
use Rattle.lfi_stage.proofs.Carrying.{from_on, from_past, from_none, from_end, from_here, settles_hand, settles_held}
use Rattle.lfi_stage.proofs.carry.carry_hands.Goals.{in-Some, in-None}
use Rattle.lfi_stage.proofs.carry.carry_hands.Goals as goal

pub loop-number-preserved : goal.loop-number-preserved
loop-number-preserved c =
    let i = c.loop-number.invariant in
    let v : ℕ = c.loop-number.number in
    let held : ℕ → Option ItemView = held_by c.args.hands.now in
    let room : v < length c.loop-number.hands = (let t = c.loop-number-test.true in let l = i.long in omega arith) in
    let at : held v ≡ c.take.result = sym (i.same v (omega arith)) ∙ get_or_default c.loop-number.hands v None c.index-hands-number.result room ∙ sym c.take.ensures.value in
    record {
      long = length-set c.loop-number.hands v _ ∙ i.long;
      same = λ w past. get_or-set_other c.loop-number.hands v w _ None (λ e. absurd (omega arith)) ∙ i.same w (omega arith);
      settles = λ takes was. elim c.match-take.branch [
        | in-Some w ↦
            subst (λ (z : List (Option Sequence)). SettlesBut takes (from_on (v + 1) held) z) (sym w.sequences-is)
            (settles_hand takes (from_on v held) (from_on (v + 1) held) c.loop-number.sequences w.carry.new.sequences v w.in-Some.held (from_here held v ∙ at ∙ w.in-Some.is) (from_past held v) (i.settles takes was) w.carry.ensures)
        | in-None w ↦
            subst (λ (z : List (Option Sequence)). SettlesBut takes (from_on (v + 1) held) z) (sym w.sequences-is)
            (settles_held takes (from_on v held) (from_on (v + 1) held) c.loop-number.sequences (λ k. from_none held v k (at ∙ w.in-None.is)) (i.settles takes was))
      ];
    }

pub returns : goal.returns
returns c = λ takes was.
    let i = c.loop-number.invariant in
    let past : length c.args.hands.now ≤ c.loop-number.number = (let t = c.loop-number-test.false in let l = c.told-hands in omega arith) in
    settles_held takes (from_on c.loop-number.number (held_by c.args.hands.now)) (λ v. None) c.loop-number.sequences (λ w. from_end c.args.hands.now c.loop-number.number w past) (i.settles takes was)
