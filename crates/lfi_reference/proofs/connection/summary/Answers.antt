use Rattle.std.proofs.Common.{◌≡◌, ◌+◌, ◌<◌, ap, sym, ◌∙◌, map, take, arith, ℕ, Bool, sum_by}
use Rattle.std.specs.Prelude.{◌||◌}
use Rattle.lfi_model.specs.Items.{modules, is_going}
use Rattle.lfi_reference.specs.Messages.{message_of, rest_by}
use Rattle.lfi_reference.specs.Shares.{share_by}
use Rattle.lfi_reference.specs.Connections.{share_in}
use Rattle.lfi_reference.proofs.AllModules.{any_more, sum_more, or_first, or_second}
use Rattle.lfi_reference.proofs.connection.summary.Goals as goal
use Rattle.lfi_reference.proofs.connection.summary.Goals.{then-going, else-going}

pub loop-m-preserved : goal.loop-m-preserved
loop-m-preserved c =
    let m = c.loop-m.m in
    let below : m < 16 = omega arith in
    let s = share_in c.args.claimed.now (map message_of c.args.messages.now) (rest_by c.args.rest) in
    let is : share_by c.in_ok-share.share ≡ s m = c.in_ok-share.ensures.is in
    let p : ℕ → Bool = λ k. is_going (s k).progress in
    let g : ℕ → ℕ = λ k. (s k).strays in
    let more : c.if-going.going ≡ (c.loop-m.going || p m) = elim c.if-going.branch [
      | then-going w ↦ or_first c.loop-m.going (p m) c.if-going.going w.if-going.true (w.going-is ∙ w.if-going.true)
      | else-going w ↦ or_second c.loop-m.going (p m) c.if-going.going w.if-going.false (w.going-is ∙ w.is_going-going.ensures ∙ ap (λ x. is_going x.progress) is)
    ] in
    record {
      going = more ∙ ap (λ b. b || p m) c.loop-m.invariant.going ∙ sym (any_more p m below);
      strays = ap (λ n. n + c.in_ok-share.share.strays) c.loop-m.invariant.strays ∙ ap (λ n. sum_by g (take m modules) + n) (ap (λ x. x.strays) is) ∙ sym (sum_more g m below);
      few = (let few = c.in_ok-share.ensures.few in let before = c.loop-m.invariant.few in omega arith);
    }
