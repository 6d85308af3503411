use Rattle.std.proofs.Common.{◌≡◌, ◌<◌, ◌++◌, ◌∷◌, [], ap, sym, ◌∙◌, map, take, arith}
use Rattle.std.proofs.lemmas.List.{map-append}
use Rattle.lfi_model.specs.Items.{modules, ends_of}
use Rattle.lfi_reference.specs.Messages.{message_of, rest_by}
use Rattle.lfi_reference.specs.Shares.{share_by, items_by, lists_by}
use Rattle.lfi_reference.specs.Connections.{share_in, items_in}
use Rattle.lfi_reference.proofs.AllModules.{map_more}
use Rattle.lfi_reference.proofs.connection.all_items.Goals as goal

pub loop-m-preserved : goal.loop-m-preserved
loop-m-preserved c =
    let m = c.loop-m.m in
    let below : m < 16 = omega arith in
    let f = items_in c.args.claimed.now (map message_of c.args.messages.now) (rest_by c.args.rest) c.args.fault in
    let is : share_by c.in_ok-share.share ≡ share_in c.args.claimed.now (map message_of c.args.messages.now) (rest_by c.args.rest) m = c.in_ok-share.ensures.is in
    let one : items_by c.in_ok-ended.field-0.items ≡ f m = c.in_ok-ended.ensures ∙ ap (λ s. s.items ++ ends_of m s.progress c.args.fault) is in
    ap lists_by c.in_ok-push.ensures.items
    ∙ map-append (λ v. items_by v.items) c.loop-m.lists.items (c.in_ok-ended.field-0 ∷ [])
    ∙ ap (λ l. l ++ items_by c.in_ok-ended.field-0.items ∷ []) c.loop-m.invariant
    ∙ ap (λ x. map f (take m modules) ++ x ∷ []) one
    ∙ sym (map_more f m below)
