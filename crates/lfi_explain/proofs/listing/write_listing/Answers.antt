use Rattle.std.proofs.Common.{rules, ◌≡◌, [], ◌∷◌, ◌++◌, length, Some, subst}
use Rattle.std.specs.Prelude.{flat_map}
use Rattle.std.specs.Io.KnownBytes.{Appends}
use Rattle.lfi_explain.specs.Listings.{AreListed, WritesListing, listed_line}
use Rattle.lfi_explain.proofs.Lines.{all_written_if, on_ok, kept_more, listed_more, one_line}
use Rattle.lfi_explain.proofs.listing.write_listing.Goals as goal

pub loop-place-preserved : goal.loop-place-preserved
loop-place-preserved g c =
    let ws = g.L.Words.words c.args.words.now in
    let done = c.loop-place.invariant in
    let kept = c.loop-place.kept.items in
    let more = c.write_listed.new.out.items in (
      done.0 ++ c.listed_at.result ∷ [],
      listed_more c.args.marks c.args.profile ws c.args.slot c.loop-place.place done.0 c.listed_at.result done.1 c.listed_at.ensures,
      kept_more listed_line (g.W.Write.contents c.args.out.now) (g.W.Write.contents c.loop-place.out) (g.W.Write.contents c.write_many.new.out) kept more c.write_many.new.kept.items
          done.0 (c.listed_at.result ∷ []) done.2 (one_line listed_line (Some kept) (Some more) c.listed_at.result c.in_ok-write_listed.ensures) c.in_ok-write_many.ensures,
    )

pub returns : goal.returns
returns g c =
    let ws = g.L.Words.words c.args.words.now in
    let done = c.loop-place.invariant in
    let same : c.loop-place.place ≡ length ws = search rules in
    let old = g.W.Write.contents c.args.out.now in
    let new = g.W.Write.contents c.write_kept.new.out in
    let lines = flat_map listed_line done.0 in
    on_ok c.write_kept.result (Appends old new lines) (WritesListing c.args.marks c.args.profile ws c.args.slot old new)
    (λ all. (done.0, subst (λ k. AreListed c.args.marks c.args.profile ws c.args.slot k done.0) same done.1, all))
    (all_written_if c.write_kept.result old (g.W.Write.contents c.loop-place.out) new c.loop-place.kept.items c.write_kept.new.kept.items lines done.2 c.write_kept.ensures.moved c.write_kept.ensures.none)
