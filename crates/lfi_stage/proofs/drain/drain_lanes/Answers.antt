use Rattle.std.proofs.Common.{◌≡◌, ◌≢◌, ℕ, ◌+◌, ◌<◌, ◌≤◌, get_or, List, [], length, take, sym, refl, ◌∙◌, ap, subst, arith, inl, inr, ◌⊎◌}
use Rattle.std.specs.Prelude.{MatchOption, Option, Some, None, slice_get}
use Rattle.std.specs.Option.{option_map_or}
use Rattle.std.proofs.Math.ListN.{set}
use Rattle.std.proofs.lemmas.Option.{slice_get-get_or}
use Rattle.std.proofs.lemmas.Bool.Decides.{eqb_tells}
use Rattle.std.proofs.lemmas.List.{length-set, get_or-set_same, get_or-set_other}
use Rattle.lfi_model.specs.Item.{ItemView}
use Rattle.lfi_queues.specs.Passes.{PassView, QueueId, IsPass}
use Rattle.lfi_sequence.specs.declared.sequencer.Sequencer.{Sequencer}
use Rattle.lfi_stage.specs.inner.Rows.{row_of, Popped, last_of, last_items, lane_items, DrainedTo}
use Rattle.lfi_stage.proofs.Last.{popped_take, last_take, drained_as, some_left}
use Rattle.lfi_stage.proofs.Places.{one_less, still_same, last_is}
use Rattle.lfi_stage.proofs.drain.drain_lanes.Goals as goal

-- the last of the first passes, where it is known which they are
last_left : (xs ls : List (PassView ItemView)) (m n k : ℕ) → m ≡ n + 1 → k ≡ n → ls ≡ take m xs → (xs ≡ []) ⊎ (n < length xs) → last_of ls ≡ slice_get xs k
last_left xs ls m n k one at left some = ap last_of (left ∙ ap (λ z. take z xs) one) ∙ last_take xs n some ∙ ap (slice_get xs) (sym at)

pub drain_one-sequence-requires-clause-puts : goal.drain_one-sequence-requires-clause-puts
drain_one-sequence-requires-clause-puts g c = λ k.
    let i = c.loop-sequencer.invariant in
    let n : ℕ = length c.pop.new.self.items in
    let less = one_less c.args.sequencers.items c.loop-sequencer.sequencers.items c.pop.new.self.items c.in-Some.sequencer i.same c.in-Some.ensures.items in
    let within : n < length c.args.lanes.now = (let w = i.within in let all = c.requires.lanes in omega arith) in
    let lane : QueueId = c.index-lanes-module.result in
    let here : slice_get c.args.lanes.now n ≡ Some lane = slice_get-get_or c.args.lanes.now n lane within ∙ ap Some (ap (λ z. get_or c.args.lanes.now z lane) (sym (c.len-module.ensures ∙ c.pop.new.self.ok.0)) ∙ sym c.index-lanes-module.is) in
    let xs : List (PassView ItemView) = row_of c.args.rows.now k in
    let last : last_of (row_of c.loop-sequencer.rows k) ≡ slice_get xs n = last_left xs (row_of c.loop-sequencer.rows k) (length c.loop-sequencer.sequencers.items) n n less refl (i.left k) (some_left xs (length c.args.lanes.now) n within (c.requires.rows.long k)) in
    subst (λ o. MatchOption o (lane.putters ≤ k) (IsPass lane lane.putters k)) (sym last) (c.requires.rows.puts n lane here k)

pub drain_one-sequence-requires-clause-take : goal.drain_one-sequence-requires-clause-take
drain_one-sequence-requires-clause-take g c =
    let i = c.loop-sequencer.invariant in
    let n : ℕ = length c.pop.new.self.items in
    let less = one_less c.args.sequencers.items c.loop-sequencer.sequencers.items c.pop.new.self.items c.in-Some.sequencer i.same c.in-Some.ensures.items in
    let within : n < length c.args.lanes.now = (let w = i.within in let all = c.requires.lanes in omega arith) in
    let lane : QueueId = c.index-lanes-module.result in
    let here : slice_get c.args.lanes.now n ≡ Some lane = slice_get-get_or c.args.lanes.now n lane within ∙ ap Some (ap (λ z. get_or c.args.lanes.now z lane) (sym (c.len-module.ensures ∙ c.pop.new.self.ok.0)) ∙ sym c.index-lanes-module.is) in
    c.requires.takes n c.in-Some.sequencer lane (last_is c.args.sequencers.items c.loop-sequencer.sequencers.items c.pop.new.self.items c.in-Some.sequencer i.same c.in-Some.ensures.items) here

pub drain_one-sequence-requires-clause-takers : goal.drain_one-sequence-requires-clause-takers
drain_one-sequence-requires-clause-takers g c =
    let i = c.loop-sequencer.invariant in
    let n : ℕ = length c.pop.new.self.items in
    let less = one_less c.args.sequencers.items c.loop-sequencer.sequencers.items c.pop.new.self.items c.in-Some.sequencer i.same c.in-Some.ensures.items in
    let within : n < length c.args.lanes.now = (let w = i.within in let all = c.requires.lanes in omega arith) in
    let lane : QueueId = c.index-lanes-module.result in
    let here : slice_get c.args.lanes.now n ≡ Some lane = slice_get-get_or c.args.lanes.now n lane within ∙ ap Some (ap (λ z. get_or c.args.lanes.now z lane) (sym (c.len-module.ensures ∙ c.pop.new.self.ok.0)) ∙ sym c.index-lanes-module.is) in
    c.requires.takers n lane here

pub loop-sequencer-preserved : goal.loop-sequencer-preserved
loop-sequencer-preserved g c =
    let i = c.loop-sequencer.invariant in
    let whole = c.args.sequencers.items in
    let old = c.loop-sequencer.sequencers.items in
    let new = c.pop.new.self.items in
    let s : Sequencer = c.in-Some.sequencer in
    let n : ℕ = length new in
    let less = one_less whole old new s i.same c.in-Some.ensures.items in
    let last = last_is whole old new s i.same c.in-Some.ensures.items in
    let within : n < length c.args.lanes.now = (let w = i.within in let all = c.requires.lanes in omega arith) in
    let k : ℕ = c.len-module.result in
    let here : k ≡ n = c.len-module.ensures ∙ c.pop.new.self.ok.0 in
    let room : k < length c.loop-sequencer.sequences = (let w = i.within in let long = i.long in omega arith) in
    record {
      long = length-set c.loop-sequencer.sequences k _ ∙ i.long;
      within = (let w = i.within in omega arith);
      left = λ v.
          let xs : List (PassView ItemView) = row_of c.args.rows.now v in
          let p = c.drain_one-sequence.ensures.popped v in
          popped_take xs n p.0 (row_of c.drain_one-sequence.new.rows v) (some_left xs (length c.args.lanes.now) n within (c.requires.rows.long v))
          (subst (λ l. Popped l p.0 (row_of c.drain_one-sequence.new.rows v)) (i.left v ∙ ap (λ z. take z xs) less) p.1);
      same = still_same whole old new s i.same c.in-Some.ensures.items;
      done = λ m part past is. elim (eqb_tells m n) [
        | inl e ↦
            let at : m ≡ n = e.1 in
            let both : Some s ≡ Some part = sym last ∙ ap (slice_get whole) (sym at) ∙ is in
            let one : s ≡ part = cc in (
              c.drain_one-sequence.result,
              ap (λ z. get_or (set c.loop-sequencer.sequences k c.set.new.place) z None) (at ∙ sym here) ∙ get_or-set_same c.loop-sequencer.sequences k c.set.new.place None room ∙ c.set.ensures,
              subst (λ z. DrainedTo (lane_items c.args.rows.now m) z c.drain_one-sequence.result) one
                  (drained_as (last_items c.loop-sequencer.rows) (lane_items c.args.rows.now m) s c.drain_one-sequence.result
                  (λ v. ap (λ (o : Option (PassView ItemView)). option_map_or (λ pass. pass.items) o [])
                  (last_left (row_of c.args.rows.now v) (row_of c.loop-sequencer.rows v) (length old) n m less at (i.left v) (some_left (row_of c.args.rows.now v) (length c.args.lanes.now) n within (c.requires.rows.long v)))) c.drain_one-sequence.ensures.drained),
            )
        | inr other ↦
            let apart : m ≢ n = other.1 in
            let d = i.done m part (omega arith) is in
            (d.0, get_or-set_other c.loop-sequencer.sequences k m c.set.new.place None (λ e. apart (e ∙ here)) ∙ d.1, d.2)
      ];
    }

pub returns : goal.returns
returns g c = λ m s is. c.loop-sequencer.invariant.done m s (let none = c.in_default.ensures.cases.0 in let long = c.loop-sequencer.sequencers.ok.0 in omega arith) is
