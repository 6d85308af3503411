use Rattle.std.proofs.Common.{◌≡◌, ℕ, zero, suc, ◌≤◌, ◌<◌, List, [], ◌∷◌, arith, sym, refl, ◌∙◌, ap, subst}
use Rattle.std.specs.Prelude.{MatchOption, Option, Some, None}
use Rattle.std.specs.Option.{option_map_or}
use Rattle.lfi_model.specs.Item.{ItemView}
use Rattle.lfi_queues.specs.Passes.{QueueId, PassView, IsPass, items_at, pass_at}
use Rattle.lfi_sequence.specs.declared.sequence.Sequence.{Sequence}
use Rattle.lfi_sequence.specs.Sequenced.{Sequenced, module_number_of}
use Rattle.lfi_stage.specs.inner.Rows.{row_of, last_items, only_first}
use Rattle.lfi_stage.proofs.Last.{last_popped, first_only, kept_as}
use Rattle.lfi_stage.proofs.drain.drain_one.Goals as goal

none : (o : Option (PassView ItemView)) (k : ℕ) → 0 < k → pass_at (o ∷ []) k ≡ None
none o zero later = absurd (omega arith)
none o (suc k) later = refl

pub drain_lane-requires-clause-puts : goal.drain_lane-requires-clause-puts
drain_lane-requires-clause-puts g c = λ k.
    let q : QueueId = c.args.lane.now in
    subst (λ o. MatchOption o (q.putters ≤ k) (IsPass q q.putters k)) (last_popped (row_of c.args.rows.now k) (row_of c.gather-puts.new.rows k) _ (c.gather-puts.ensures k)) (c.requires.puts k)

pub returns-clause-drained : goal.returns-clause-drained
returns-clause-drained g c =
    let d = c.drain_lane.ensures in
    let j : List ItemView = items_at c.drain_lane.new.takes 0 in
    let parts = c.into_parts-pass.ensures in
    record {
      taken = j;
      kept = kept_as (items_at c.gather-puts.result) (last_items c.args.rows.now) (items_at c.drain_lane.new.takes) (only_first j)
          (λ k. ap (λ (o : Option (PassView ItemView)). option_map_or (λ pass. pass.items) o []) (sym (last_popped (row_of c.args.rows.now k) (row_of c.gather-puts.new.rows k) _ (c.gather-puts.ensures k))))
          (first_only c.drain_lane.new.takes (λ k later. d.others k later ∙ none (Some c.into_parts-pass.result.0) k later)) d.kept;
      tie = λ was. d.tie (subst (λ (s : Sequence). Sequenced s c.into_parts-pass.result.0.items) (sym parts.sequence) (subst (λ (p : PassView ItemView). Sequenced c.args.sequencer.sequence p.items) (sym parts.pass) was));
      same = d.same ∙ ap module_number_of parts.sequence;
    }

pub returns-clause-popped : goal.returns-clause-popped
returns-clause-popped g c = λ k. (_, c.gather-puts.ensures k)
