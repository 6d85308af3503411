use Rattle.std.proofs.Common.{◌≡◌, ℕ, ◌<◌, [], ◌∷◌, length, sym, refl, ap, ◌∙◌, subst, arith}
use Rattle.std.proofs.lemmas.List.{append-nil}
use Rattle.std.specs.Prelude.{Some, None, slice_get}
use Rattle.std.proofs.lemmas.Option.{slice_get-get_or}
use Rattle.std.proofs.Math.ListN.{set}
use Rattle.lfi_model.specs.Item.{ItemView}
use Rattle.lfi_queues.specs.Passes.{PassView, QueueId}
use Rattle.lfi_sequence.proofs.Carrying.{hands_as}
use Rattle.lfi_sequence.specs.Handed.{put_in, PutsIn}
use Rattle.lfi_sequence.proofs.HandedOn.{handed_on, held_on, same_passes, puts_in}
use Rattle.lfi_sequence.proofs.verifier.Verifier.put.Goals as goal

pub returns-in-Ok-clause-tie : goal.returns-in-Ok-clause-tie
returns-in-Ok-clause-tie g c = λ took hands.
    let v = c.args.self.now in
    let k : ℕ = c.index-module.result in
    let p : PassView ItemView = c.index_mut.result.now in
    let q : PassView ItemView = c.put.new.pass in
    let long : length v.lanes.items ≡ 16 = v.all in
    let low : c.item.inside.«module» < 16 = c.item.invariant.item.module_in_range in
    let is = c.index-module.ensures.value in
    let within : k < length v.lanes.items = omega arith in
    let at : slice_get v.lanes.items k ≡ Some p = slice_get-get_or v.lanes.items k p within ∙ ap Some (sym c.index_mut.ensures.value) in
    hands_as took took (put_in (set v.lanes.items k q)) (put_in (set v.lanes.items k q)) None v.hand refl (λ m. refl) (sym c.requires.empty)
    (handed_on v.lanes.items k p q within at took c.args.item (sym (ap (λ j. j.«module») c.item.view_is) ∙ sym c.index-module.ensures.value) c.in-Ok.ensures.ok hands)

pub returns-in-Err-clause-tie : goal.returns-in-Err-clause-tie
returns-in-Err-clause-tie g c = λ took hands.
    let v = c.args.self.now in
    let k : ℕ = c.index-module.result in
    let p : PassView ItemView = c.index_mut.result.now in
    let q : PassView ItemView = c.put.new.pass in
    let long : length v.lanes.items ≡ 16 = v.all in
    let low : c.item.inside.«module» < 16 = c.item.invariant.item.module_in_range in
    let is = c.index-module.ensures.value in
    let within : k < length v.lanes.items = omega arith in
    let at : slice_get v.lanes.items k ≡ Some p = slice_get-get_or v.lanes.items k p within ∙ ap Some (sym c.index_mut.ensures.value) in
    held_on v.lanes.items k p q within at took c.args.item c.in-Err.back c.in-Err.ensures.err.0 c.in-Err.ensures.err.1 hands

pub returns-in-Ok-clause-same : goal.returns-in-Ok-clause-same
returns-in-Ok-clause-same g c =
    let v = c.args.self.now in
    let k : ℕ = c.index-module.result in
    let p : PassView ItemView = c.index_mut.result.now in
    let q : PassView ItemView = c.put.new.pass in
    let long : length v.lanes.items ≡ 16 = v.all in
    let low : c.item.inside.«module» < 16 = c.item.invariant.item.module_in_range in
    let is = c.index-module.ensures.value in
    let within : k < length v.lanes.items = omega arith in
    let at : slice_get v.lanes.items k ≡ Some p = slice_get-get_or v.lanes.items k p within ∙ ap Some (sym c.index_mut.ensures.value) in
    same_passes v.lanes.items k p q within at c.in-Ok.ensures.same

pub returns-in-Err-clause-same : goal.returns-in-Err-clause-same
returns-in-Err-clause-same g c =
    let v = c.args.self.now in
    let k : ℕ = c.index-module.result in
    let p : PassView ItemView = c.index_mut.result.now in
    let q : PassView ItemView = c.put.new.pass in
    let long : length v.lanes.items ≡ 16 = v.all in
    let low : c.item.inside.«module» < 16 = c.item.invariant.item.module_in_range in
    let is = c.index-module.ensures.value in
    let within : k < length v.lanes.items = omega arith in
    let at : slice_get v.lanes.items k ≡ Some p = slice_get-get_or v.lanes.items k p within ∙ ap Some (sym c.index_mut.ensures.value) in
    same_passes v.lanes.items k p q within at c.in-Err.ensures.same

pub returns-in-Ok-clause-did : goal.returns-in-Ok-clause-did
returns-in-Ok-clause-did g c =
    let v = c.args.self.now in
    let k : ℕ = c.index-module.result in
    let p : PassView ItemView = c.index_mut.result.now in
    let q : PassView ItemView = c.put.new.pass in
    let long : length v.lanes.items ≡ 16 = v.all in
    let low : c.item.inside.«module» < 16 = c.item.invariant.item.module_in_range in
    let is = c.index-module.ensures.value in
    let within : k < length v.lanes.items = omega arith in
    let at : slice_get v.lanes.items k ≡ Some p = slice_get-get_or v.lanes.items k p within ∙ ap Some (sym c.index_mut.ensures.value) in
    let of_lane : k ≡ c.args.item.«module» = c.index-module.ensures.value ∙ ap (λ j. j.«module») c.item.view_is in
    (c.requires.empty, subst (λ m. PutsIn m (c.args.item ∷ []) v.lanes.items (set v.lanes.items k q)) of_lane (puts_in v.lanes.items k p q within at (c.args.item ∷ []) c.in-Ok.ensures.same c.in-Ok.ensures.counted c.in-Ok.ensures.ok c.in-Ok.ensures.rounds))

pub returns-in-Err-clause-did : goal.returns-in-Err-clause-did
returns-in-Err-clause-did g c =
    let v = c.args.self.now in
    let k : ℕ = c.index-module.result in
    let p : PassView ItemView = c.index_mut.result.now in
    let q : PassView ItemView = c.put.new.pass in
    let long : length v.lanes.items ≡ 16 = v.all in
    let low : c.item.inside.«module» < 16 = c.item.invariant.item.module_in_range in
    let is = c.index-module.ensures.value in
    let within : k < length v.lanes.items = omega arith in
    let at : slice_get v.lanes.items k ≡ Some p = slice_get-get_or v.lanes.items k p within ∙ ap Some (sym c.index_mut.ensures.value) in
    let of_lane : k ≡ c.args.item.«module» = c.index-module.ensures.value ∙ ap (λ j. j.«module») c.item.view_is in
    (ap Some c.in-Err.ensures.err.0, subst (λ m. PutsIn m [] v.lanes.items (set v.lanes.items k q)) of_lane (puts_in v.lanes.items k p q within at [] c.in-Err.ensures.same c.in-Err.ensures.counted (c.in-Err.ensures.err.1 ∙ sym (append-nil p.items)) c.in-Err.ensures.rounds))

pub returns-in-Ok-clause-pass : goal.returns-in-Ok-clause-pass
returns-in-Ok-clause-pass g c = refl

pub returns-in-Err-clause-pass : goal.returns-in-Err-clause-pass
returns-in-Err-clause-pass g c = refl

pub bounds-lanes-module : goal.bounds-lanes-module
bounds-lanes-module g c = omega (arith, c.index-module.ensures.range, c.requires.lanes.all)

pub index_mut-requires : goal.index_mut-requires
index_mut-requires g c = let v = c.args.self.now in omega (arith, c.index-module.ensures.range, v.all, v.lanes.ok.0)

pub put-requires : goal.put-requires
put-requires g c =
    let v = c.args.self.now in
    let k : ℕ = c.index-module.result in
    let p : PassView ItemView = c.index_mut.result.now in
    let lane : QueueId = c.index-lanes-module.result in
    let long : length v.lanes.items ≡ 16 = v.all in
    let here : k < length c.args.lanes.now = omega (arith, c.index-module.ensures.range, c.requires.lanes.all) in
    let within : k < length v.lanes.items = omega (arith, c.index-module.ensures.range, long) in
    let at_lane : slice_get c.args.lanes.now k ≡ Some lane = slice_get-get_or c.args.lanes.now k lane here ∙ ap Some (sym c.index-lanes-module.is) in
    let at : slice_get v.lanes.items k ≡ Some p = slice_get-get_or v.lanes.items k p within ∙ ap Some (sym c.index_mut.ensures.value) in
    (omega arith, c.requires.lanes.each k lane p at_lane at)
