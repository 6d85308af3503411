use Rattle.std.proofs.Common.{◌≡◌, ◌+◌, ◌<◌, ◌∷◌, [], ◌++◌, ap, sym, ◌∙◌, subst, length, take, arith}
use Rattle.std.proofs.lemmas.List.{take_more}
use Rattle.lfi_model.specs.Items.{ItemsOf}
use Rattle.lfi_reference.specs.Shares.{items_at}
use Rattle.lfi_reference.specs.Connections.{claims}
use Rattle.lfi_reference.specs.Reports.{AreMade, IsMade}
use Rattle.lfi_reference.proofs.Reporting.{made_more}
use Rattle.lfi_reference.proofs.report.connections.Goals as goal

pub loop-stream-preserved : goal.loop-stream-preserved
loop-stream-preserved c =
    let streams = c.args.streams.now in let i = c.loop-stream.stream-index in
    let stream = c.stream-item.result in let connection = c.in_ok-connection.connection in
    let below : i < length streams = omega arith in
    let made : IsMade stream connection = record {
      all = c.in_ok-connection.ensures.all;
      items = subst (λ b. ItemsOf b stream.cause (claims stream.claimed) (items_at connection.items.items) connection.fault connection.strays) c.as_slice.ensures.value c.in_ok-connection.ensures.items;
    } in
    let more : AreMade (take i streams ++ stream ∷ []) (c.loop-stream.made.items ++ connection ∷ []) = made_more (take i streams) c.loop-stream.made.items stream connection c.loop-stream.invariant made in
    let taken : take (i + 1) streams ≡ take i streams ++ stream ∷ [] = take_more streams i stream below ∙ ap (λ x. take i streams ++ x ∷ []) (sym c.stream-item.is) in
    subst (λ l. AreMade l c.push.new.self.items) (sym taken) (subst (λ l. AreMade (take i streams ++ stream ∷ []) l) (sym c.in_ok-push.ensures.items) more)
