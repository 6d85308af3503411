use Rattle.std.proofs.Common.{refl, lit<, [], inl}
use Rattle.std.proofs.lemmas.List.Elements.{All-nil}
use Rattle.lfi_frame.specs.declared.feed.Position.TheVariants.{Header}
use Rattle.lfi_frame.specs.Streams.{IsMessage, short}
use Rattle.lfi_stream.proofs.Pages.{no_page_named}
use Rattle.lfi_stream.specs.Streams.{all}
use Rattle.lfi_connection.specs.Connections.{made_of}
use Rattle.lfi_connection.proofs.Books.{awaits_none}
use Rattle.lfi_stream.proofs.beginning.begin.Goals as goal

pub returns : goal.returns
returns c =
    record {
      each = All-nil IsMessage;
      feed = record { position = Header 0; is = refl; faultless = refl; holds = (lit< tt, refl, λ i. lit< tt) };
      page = inl c.none.ensures;
      holds = record { progress = c.none_opened.ensures; awaits = awaits_none _ (made_of all [] short) (no_page_named (record { feed = record { place = 0; number = 0; held = [] }; page = c.none.result; modules = c.none_opened.result }) c.none.ensures) };
    }
