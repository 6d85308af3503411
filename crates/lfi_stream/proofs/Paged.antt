-- What came of an open module.
use Rattle.std.proofs.Common.{◌≡◌, ℕ, List}
use Rattle.std.specs.Prelude.{All}
use Rattle.lfi_module.specs.Extents.{ExtentView}
use Rattle.lfi_frame.specs.Streams.{Message, IsMessage, Rest}
use Rattle.lfi_model.specs.declared.connection.Progress.TheVariants.{Going}
use Rattle.lfi_stream.specs.Outcomes.{HasWholePages}
use Rattle.lfi_stream.specs.Streams.{made_of}
use Rattle.lfi_stream.proofs.Counted.{counted}
use Rattle.lfi_stream.proofs.Places.{code_came}
use Rattle.lfi_stream.proofs.Wholes.{words_are, share_whole}

-- it is as many whole pages as its progress tells, and no End
pub paged : (ms : List Message) (rest : Rest) (m : ℕ) (extent : ExtentView) (pages : ℕ) → All IsMessage ms → (made_of ms rest m).progress ≡ Going extent pages → HasWholePages extent pages (made_of ms rest m).items
paged ms rest m extent pages each going =
    let known = counted ms rest m extent pages going in
    record {
      count = known.0;
      size = code_came ms rest m extent pages going;
      words = words_are (made_of ms rest m).items (share_whole ms rest m each);
      going = known.1;
    }
