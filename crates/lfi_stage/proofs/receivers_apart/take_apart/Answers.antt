use Rattle.std.proofs.Common.{◌≡◌, ◌∙◌, ℕ, Some, None, length, slice_get, sym, ap, arith}
use Rattle.std.specs.Option.{option_map}
use Rattle.std.proofs.lemmas.List.{length-set}
use Rattle.lfi_receive.specs.Receivers.{pass_of, seat_of}
use Rattle.lfi_receive.specs.declared.receiver.Receiver.{Receiver}
use Rattle.lfi_stage.proofs.Places.{filled, one_less, still_same, last_is}
use Rattle.lfi_stage.proofs.receivers_apart.take_apart.Goals as goal

pub loop-receiver-preserved : goal.loop-receiver-preserved
loop-receiver-preserved c =
    let i = c.loop-receiver.invariant in
    let whole = c.args.receivers.items in
    let old = c.loop-receiver.receivers.items in
    let new = c.pop.new.self.items in
    let r : Receiver = c.in-Some.receiver in
    let n : ℕ = length new in
    let k : ℕ = c.len-number.result in
    let at : k ≡ n = c.len-number.ensures ∙ c.pop.new.self.ok.0 in
    let less = one_less whole old new r i.same c.in-Some.ensures.items in
    let last = last_is whole old new r i.same c.in-Some.ensures.items in
    let parts = c.into_parts-pass.ensures in
    record {
      few = (let few = i.few in omega arith);
      long = (length-set c.loop-receiver.puts k _ ∙ i.long.0, length-set c.loop-receiver.seats k _ ∙ i.long.1);
      same = still_same whole old new r i.same c.in-Some.ensures.items;
      puts = filled (λ o. o) (λ m. option_map pass_of (slice_get whole m)) c.loop-receiver.puts c.set.new.place None n k at (let few = i.few in let long = i.long.0 in omega arith) (c.set.ensures ∙ ap Some parts.pass ∙ ap (λ o. option_map pass_of o) (sym last)) (λ m past. i.puts m (omega arith));
      seats = filled (λ o. o) (λ m. option_map seat_of (slice_get whole m)) c.loop-receiver.seats c.set-in-Some.new.place None n k at (let few = i.few in let long = i.long.1 in omega arith) (c.set-in-Some.ensures ∙ ap Some parts.seat ∙ ap (λ o. option_map seat_of o) (sym last)) (λ m past. i.seats m (omega arith));
    }
