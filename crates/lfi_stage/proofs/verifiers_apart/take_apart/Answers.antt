use Rattle.std.proofs.Common.{◌≡◌, ℕ, [], Some, None, length, slice_get, ◌∙◌, sym, ap, refl, arith}
use Rattle.std.specs.Option.{option_map, option_map_or}
use Rattle.std.proofs.lemmas.Option.{slice_get_past}
use Rattle.std.proofs.lemmas.List.{length-set}
use Rattle.lfi_sequence.specs.declared.verifier.Verifier.{Verifier}
use Rattle.lfi_sequence.specs.Handed.{take_pass_of, lane_puts_of, hand_of}
use Rattle.lfi_stage.specs.inner.Rows.{passes_in}
use Rattle.lfi_stage.proofs.Places.{filled, one_less, still_same, last_is}
use Rattle.lfi_stage.proofs.verifiers_apart.take_apart.Goals as goal

pub loop-verifier-init : goal.loop-verifier-init
loop-verifier-init c =
    let vs = c.args.verifiers.items in
    record {
      few = c.requires.few;
      long = (c.empty-takes.ensures.long, c.empty-rows.ensures.long, c.empty-hands.ensures.long);
      same = λ k within. refl;
      takes = λ k past. c.empty-takes.ensures.empty k ∙ ap (λ o. option_map take_pass_of o) (sym (slice_get_past vs k past));
      rows = λ k past. ap passes_in (c.empty-rows.ensures.empty k) ∙ ap (λ o. option_map_or lane_puts_of o []) (sym (slice_get_past vs k past));
      hands = λ k past. c.empty-hands.ensures.empty k ∙ ap (λ o. option_map_or hand_of o None) (sym (slice_get_past vs k past));
    }

pub loop-verifier-preserved : goal.loop-verifier-preserved
loop-verifier-preserved c =
    let i = c.loop-verifier.invariant in
    let whole = c.args.verifiers.items in
    let old = c.loop-verifier.verifiers.items in
    let new = c.pop.new.self.items in
    let v : Verifier = c.in-Some.verifier in
    let n : ℕ = length new in
    let k : ℕ = c.len-number.result in
    let at : k ≡ n = c.len-number.ensures ∙ c.pop.new.self.ok.0 in
    let less = one_less whole old new v i.same c.in-Some.ensures.items in
    let last = last_is whole old new v i.same c.in-Some.ensures.items in
    let parts = c.into_parts-pass.ensures in
    record {
      few = (let few = i.few in omega arith);
      long = (length-set c.loop-verifier.takes k _ ∙ i.long.0, length-set c.loop-verifier.rows k _ ∙ i.long.1, length-set c.loop-verifier.hands k _ ∙ i.long.2);
      same = still_same whole old new v i.same c.in-Some.ensures.items;
      takes = filled (λ o. o) (λ m. option_map take_pass_of (slice_get whole m)) c.loop-verifier.takes c.set.new.place None n k at (let few = i.few in let long = i.long.0 in omega arith) (c.set.ensures ∙ ap Some parts.pass ∙ ap (λ o. option_map take_pass_of o) (sym last)) (λ m past. i.takes m (omega arith));
      rows = filled passes_in (λ m. option_map_or lane_puts_of (slice_get whole m) []) c.loop-verifier.rows c.set-in-Some.new.place None n k at (let few = i.few in let long = i.long.1 in omega arith) (ap passes_in c.set-in-Some.ensures ∙ parts.lanes ∙ ap (λ o. option_map_or lane_puts_of o []) (sym last)) (λ m past. i.rows m (omega arith));
      hands = filled (λ o. o) (λ m. option_map_or hand_of (slice_get whole m) None) c.loop-verifier.hands c.set-in-Some-2.new.place None n k at (let few = i.few in let long = i.long.2 in omega arith) (c.set-in-Some-2.ensures ∙ parts.hand ∙ ap (λ o. option_map_or hand_of o None) (sym last)) (λ m past. i.hands m (omega arith));
    }
