-- Lines of a stream, as they are put together. Only private clauses and proofs use it.
use Rattle.std.specs.Prelude.{◌≡◌, ℕ, List, ◌++◌, codes, decimal}
use Rattle.lfi_reference.specs.Messages.{size_of}
use Rattle.lfi_file_commands.specs.declared.info.ToldMessage.{ToldMessage}
use Rattle.lfi_file_commands.specs.declared.info.ToldMessage.TheVariants.{Open, Page, Close}
use Rattle.lfi_frame.specs.Streams.{Cut, Message}
use Rattle.lfi_file_commands.specs.Info.{message_lines, opening_text, page_text}

-- The lines of all whole messages of a stream were put behind a text; this is the rest.
pub record PushesMessages (bytes rest old new : List ℕ) : Type 0 where
  pub messages : List Message
  pub cut : Cut bytes messages rest
  pub pushed : new ≡ old ++ message_lines 0 messages

-- what is told of a message
abbrev pub told_text : ToldMessage → List ℕ
told_text (Open m o) = codes "module " ++ decimal m ++ codes " " ++ opening_text o.words o.entry o.profile (size_of o.pages.large)
told_text (Page m index bytes) = page_text m index bytes
told_text (Close m) = codes "module " ++ decimal m ++ codes " close"
