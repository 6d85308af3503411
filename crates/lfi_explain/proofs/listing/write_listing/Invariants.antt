use Rattle.std.proofs.Common.{List}
use Rattle.std.specs.Prelude.{flat_map}
use Rattle.std.specs.Io.KnownBytes.{Appends, append_known}
use Rattle.lfi_explain.specs.declared.listing.ListedWord.{ListedWord}
use Rattle.lfi_explain.specs.Listings.{AreListed, listed_line}
use Rattle.lfi_explain.proofs.listing.write_listing.Given as goal

abbrev pub invariant-loop-place : goal.invariant-loop-place
invariant-loop-place g l =
    (all : List ListedWord) × AreListed l.marks l.profile (g.L.Words.words l.words) l.slot l.place all
    × Appends (g.W.Write.contents l.initial.out) (append_known (g.W.Write.contents l.out) l.kept.items) (flat_map listed_line all)
