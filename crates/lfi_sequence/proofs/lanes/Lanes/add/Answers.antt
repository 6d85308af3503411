use Rattle.std.proofs.Common.{◌≡◌, length, [], ◌∷◌, ◌++◌, ap, subst, sym, ◌∙◌, Result, Ok, Err, rules}
use Rattle.std.specs.Prelude.{OnOk}
use Rattle.std.proofs.lemmas.Result.{on_ok_weaker}
use Rattle.lfi_queues.specs.Passes.{QueueId, new_pass, new_passes}
use Rattle.lfi_sequence.specs.Lanes.{AreRows, new_row}
use Rattle.lfi_model.specs.Item.{ItemView}
use Rattle.lfi_queues.proofs.New.{new_length}
use Rattle.lfi_sequence.proofs.Rows.{longer_row}
use Rattle.lfi_sequence.proofs.lanes.Lanes.add.Goals as goal

-- what holds anyway
on_ok : {T E : Type 0} {P : Type 0} (r : Result T E) → P → OnOk r P
on_ok (Ok x) p = p
on_ok (Err e) p = tt

pub only-requires : goal.only-requires
only-requires c = ap length c.in_ok-lane.ensures.takes

pub deal-requires : goal.deal-requires
deal-requires c =
    let same : c.len.result ≡ length c.args.self.now.puts.items = search rules in
    ap length c.in_ok-lane.ensures.puts ∙ new_length ItemView c.in_ok-lane.lane c.len.result ∙ same

pub returns-clause-lanes : goal.returns-clause-lanes
returns-clause-lanes c =
    let same : c.len.result ≡ length c.args.self.now.puts.items = search rules in
    on_ok c.deal.result (c.in_ok-lane.lane, c.in_ok-push.ensures.items, c.in_ok-lane.ensures.counts.0 ∙ same, c.in_ok-lane.ensures.counts.1)

pub returns-clause-puts : goal.returns-clause-puts
returns-clause-puts c =
    let old = c.args.self.now in
    let lane : QueueId = c.in_ok-lane.lane in
    let same : c.len.result ≡ length old.puts.items = search rules in
    on_ok_weaker c.deal.result
    (λ dealt are.
    subst (λ lanes. AreRows lanes (length old.puts.items) c.deal.new.rows.items) (sym c.in_ok-push.ensures.items) (dealt old.lanes.items lane are (c.in_ok-lane.ensures.puts ∙ ap (new_passes lane) same)))
    c.deal.ensures

pub returns-clause-takes : goal.returns-clause-takes
returns-clause-takes c =
    let old = c.args.self.now in
    let lane : QueueId = c.in_ok-lane.lane in
    let one : c.only.result ∷ [] ≡ new_pass lane 0 ∷ [] = sym c.only.ensures ∙ c.in_ok-lane.ensures.takes in
    on_ok c.deal.result
    (λ were. c.in_ok-push-2.ensures.items ∙ (λ i. were i ++ one i) ∙ sym (longer_row old.lanes.items lane 0) ∙ ap (λ l. new_row l 0) (sym c.in_ok-push.ensures.items))
