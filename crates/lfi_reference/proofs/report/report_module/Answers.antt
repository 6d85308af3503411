use Rattle.std.proofs.Common.{◌≡◌, ◌<◌, ap, sym, ◌∙◌, subst, length, arith, Some}
use Rattle.std.proofs.lemmas.Option.{slice_get-get_or}
use Rattle.lfi_model.specs.Outcomes.{Load, Placed, pages_of}
use Rattle.lfi_reference.specs.Shares.{items_by, items_at}
use Rattle.lfi_reference.specs.Pages.{pages_by}
use Rattle.lfi_reference.specs.Reports.{IsMade, IsSized, IsLoaded, IsReportedBy}
use Rattle.lfi_reference.specs.Pages.{IsEnded}
use Rattle.lfi_reference.proofs.Reporting.{made_at, made_long, list_at, items_fit, owner_within}
use Rattle.lfi_reference.proofs.report.report_module.Goals as goal

pub bounds-made-place : goal.bounds-made-place
bounds-made-place c =
    let lt = owner_within c.args.streams.now c.args.m c.in-Some.place (sym c.owner.ensures ∙ c.in-Some.is) in
    let long = made_long c.args.streams.now c.args.made.now c.requires.made in
    omega arith

pub index-list-requires : goal.index-list-requires
index-list-requires c =
    let lt : c.in-Some.place < length c.args.made.now = (
    let lt = owner_within c.args.streams.now c.args.m c.in-Some.place (sym c.owner.ensures ∙ c.in-Some.is) in
    let long = made_long c.args.streams.now c.args.made.now c.requires.made in omega arith
    ) in
    let at = made_at c.args.streams.now c.args.made.now c.in-Some.place c.index-made-place.result c.requires.made lt in
    let is : IsMade at.0 c.index-made-place.result = subst (λ x. IsMade at.0 x) (sym c.index-made-place.is) at.1 in
    let all = is.all in let below = c.requires.below in
    omega arith

pub load_module-requires : goal.load_module-requires
load_module-requires c =
    let lt : c.in-Some.place < length c.args.made.now = (
    let lt = owner_within c.args.streams.now c.args.m c.in-Some.place (sym c.owner.ensures ∙ c.in-Some.is) in
    let long = made_long c.args.streams.now c.args.made.now c.requires.made in omega arith
    ) in
    let connection = c.index-made-place.result in
    let at = made_at c.args.streams.now c.args.made.now c.in-Some.place connection c.requires.made lt in
    let is : IsMade at.0 connection = subst (λ x. IsMade at.0 x) (sym c.index-made-place.is) at.1 in
    let fit = items_fit at.0 connection c.args.m c.requires.below is in
    let all = is.all in let below = c.requires.below in
    let same : items_at connection.items.items c.args.m ≡ items_by c.as_slice-items.result.now =
    list_at connection.items.items c.args.m c.index-list.result.now (omega arith) c.index-list.ensures ∙ ap items_by (sym c.as_slice-items.ensures.value) in
    let sized : IsSized (items_by c.as_slice-items.result.now) = subst IsSized same fit.0 in
    let ended : IsEnded (items_by c.as_slice-items.result.now) = subst IsEnded same fit.1 in
    let n = ap (λ z. z.words) c.extent_of.ensures in
    record {
      most = (let most = sized.most in omega arith);
      room = (let room = sized.room in omega arith);
      pages = sized.pages;
      ended = ended;
    }

pub returns : goal.returns
returns c =
    let lt : c.in-Some.place < length c.args.made.now = (
    let lt = owner_within c.args.streams.now c.args.m c.in-Some.place (sym c.owner.ensures ∙ c.in-Some.is) in
    let long = made_long c.args.streams.now c.args.made.now c.requires.made in omega arith
    ) in
    let connection = c.index-made-place.result in
    let at = made_at c.args.streams.now c.args.made.now c.in-Some.place connection c.requires.made lt in
    let is : IsMade at.0 connection = subst (λ x. IsMade at.0 x) (sym c.index-made-place.is) at.1 in
    let all = is.all in let below = c.requires.below in
    let slice = items_by c.as_slice-items.result.now in
    let loaded = c.in_ok-loaded.loaded in
    let same : items_at connection.items.items c.args.m ≡ slice =
    list_at connection.items.items c.args.m c.index-list.result.now (omega arith) c.index-list.ensures ∙ ap items_by (sym c.as_slice-items.ensures.value) in
    let here : IsLoaded slice loaded = record {
      outcome = subst (λ n. Load n slice loaded.outcome) c.extent_of.ensures c.in_ok-loaded.ensures.outcome;
      placed = subst (λ n. Placed n (pages_of slice) (pages_by loaded.placed.items)) c.extent_of.ensures c.in_ok-loaded.ensures.placed;
    } in
    subst (λ o. IsReportedBy o c.args.made.now c.args.m loaded) (sym c.in-Some.is ∙ c.owner.ensures)
    (connection, slice_get-get_or c.args.made.now c.in-Some.place connection lt ∙ ap Some (sym c.index-made-place.is), subst (λ l. IsLoaded l loaded) (sym same) here)
