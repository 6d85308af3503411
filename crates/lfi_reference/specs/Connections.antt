-- What the reference implementation's lists of all modules stand for. Source: this project's format, docs/PROFILE.md.
use Rattle.std.specs.Prelude.{ℕ, List, Bool, false, Option, ◌++◌, slice_index_or}
use Rattle.lfi_frame.specs.declared.fault.FrameFault.{FrameFault}
use Rattle.lfi_frame.specs.Streams.{Message, Rest}
use Rattle.lfi_model.specs.Item.{ItemView}
use Rattle.lfi_model.specs.Items.{Share, share_of, ends_of}

-- which modules are claimed
abbrev pub claims : List Bool → ℕ → Bool
claims claimed m = slice_index_or claimed m false

-- what module m gets
abbrev pub share_in : List Bool → List Message → Rest → ℕ → Share
share_in claimed messages rest m = share_of (claims claimed m) m messages rest

-- its items, with the End that the connection's fault makes
abbrev pub items_in : List Bool → List Message → Rest → Option FrameFault → ℕ → List ItemView
items_in claimed messages rest found m =
    (share_in claimed messages rest m).items ++ ends_of m (share_in claimed messages rest m).progress found
