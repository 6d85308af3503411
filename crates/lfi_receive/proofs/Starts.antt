-- What a receiver has counted, and where the message begins at which its input ends.
use Rattle.std.proofs.Common.{◌≡◌, ℕ, ◌+◌, ◌<◌, ◌≤◌, ◌%◌, ◌^◌, List, [], ◌++◌, length, take, drop, None, refl, sym, ◌∙◌, ap, subst, inl, inr, arith, flat_map, length-append}
use Rattle.std.proofs.Math.Seq.{take-length}
use Rattle.std.proofs.lemmas.List.{length-drop}
use Rattle.lfi_frame.specs.declared.feed.Feed.{Feed}
use Rattle.lfi_frame.specs.Streams.{Message, faulty, unfinished, rest_of, spelling}
use Rattle.lfi_frame.specs.Feeds.{FeedStands, HoldsHeader, header_held, feed_fault}
use Rattle.lfi_connection.specs.Events.{IsInMessage}
use Rattle.lfi_connection.proofs.InputEnds.{no_fault}
use Rattle.lfi_connection.proofs.Texts.{unfinished_long}
use Rattle.lfi_receive.specs.declared.start.MessageStart.{MessageStart}
use Rattle.lfi_receive.specs.Starts.{bytes_of_whole, IsStart}
use Rattle.lfi_receive.specs.inner.Holding.{CountsTo}
use Rattle.lfi_receive.specs.inner.Steps.{bytes_before}

-- counted on, and back
on : (all rest n came : ℕ) → came ≡ (all + rest) % 2 ^ 64 → (came + n) % 2 ^ 64 ≡ (all + (rest + n)) % 2 ^ 64
on all rest n came is = omega (arith, is)

back : (all rest came : ℕ) → rest < 2 ^ 64 → came ≡ (all + rest) % 2 ^ 64 → bytes_before rest came ≡ all % 2 ^ 64
back all rest came low is = omega (arith, is, low)

-- the bytes of a call are counted, and its header is held
pub counted : (came n : ℕ) (old new : Feed) (messages : List Message) (rest used : List ℕ) → length used ≡ n → CountsTo came old messages rest → HoldsHeader new (rest ++ used)
    → CountsTo ((came + n) % 2 ^ 64) new messages (rest ++ used)
counted came n old new messages rest used all counts holds = record {
  bytes =
      on (length (flat_map spelling messages)) (length rest) n came counts.bytes
      ∙ ap (λ k. (length (flat_map spelling messages) + k) % 2 ^ 64) (ap (λ k. length rest + k) (sym all) ∙ sym (length-append rest used));
  header = holds;
}

-- the same bytes as longer messages
pub counted_as : (came : ℕ) (feed : Feed) (messages now : List Message) (rest used left : List ℕ) → flat_map spelling now ++ left ≡ flat_map spelling messages ++ (rest ++ used) → IsInMessage messages rest used now left
    → CountsTo came feed messages (rest ++ used) → CountsTo came feed now left
counted_as came feed messages now rest used left text inside counts = record {
  bytes = counts.bytes ∙ ap (λ k. k % 2 ^ 64) (sym (length-append (flat_map spelling messages) (rest ++ used)) ∙ ap length (sym text) ∙ length-append (flat_map spelling now) left);
  header = held inside;
}
  where
    held : IsInMessage messages rest used now left → HoldsHeader feed left
    held (inl none) = subst (λ l. HoldsHeader feed l) (sym none) refl
    held (inr goes) = subst (λ l. HoldsHeader feed l) (sym goes.1) counts.header

-- where so many bytes of a message came
pub starts_before : (start : MessageStart) (came : ℕ) (feed : Feed) (messages : List Message) (rest : List ℕ) → length rest < 2 ^ 64 → CountsTo came feed messages rest → start.byte ≡ bytes_before (length rest) came
    → start.byte ≡ bytes_of_whole messages
starts_before start came feed messages rest low counts is = is ∙ back (length (flat_map spelling messages)) (length rest) came low counts.bytes

-- the input ended in a message without a fault so far
pub starts_plain : (start : MessageStart) (came : ℕ) (feed : Feed) (messages : List Message) (rest : List ℕ) → length rest < 2 ^ 64 → FeedStands feed messages rest → feed_fault feed ≡ None → CountsTo came feed messages rest
    → start.byte ≡ bytes_before (length rest) came → IsStart start messages rest
starts_plain start came feed messages rest low stands none counts is = record {
  byte = starts_before start came feed messages rest low counts is;
  header = λ fault shows. absurd (no_fault feed messages rest stands none fault shows);
}

-- it ended at the header of a page
twelve_by : (rest : List ℕ) → 12 ≤ length rest → drop 12 rest ≡ [] → length rest ≡ 12
twelve_by rest long none = let n = ap length none in let l = length-drop 12 rest in omega arith

pub starts_at_page : (start : MessageStart) (came : ℕ) (feed : Feed) (messages : List Message) (rest : List ℕ) (m size index len : ℕ) → rest_of rest ≡ unfinished m size index len → drop 12 rest ≡ [] → CountsTo came feed messages rest
    → start.byte ≡ bytes_before 12 came → IsStart start messages rest
starts_at_page start came feed messages rest m size index len header none counts is =
    let twelve : length rest ≡ 12 = twelve_by rest (unfinished_long rest m size index len header).0 none in
    record {
      byte = starts_before start came feed messages rest (omega arith) counts (is ∙ ap (λ k. bytes_before k came) (sym twelve));
      header = λ fault shows. absurd (let both : unfinished m size index len ≡ faulty fault = sym header ∙ shows in cc);
    }

-- it ended at a header with a fault
pub starts_at_header : (start : MessageStart) (came : ℕ) (feed : Feed) (messages : List Message) (rest : List ℕ) → length rest ≡ 12 → length start.header ≡ 12 → CountsTo came feed messages rest
    → start.byte ≡ bytes_before 12 came → start.header ≡ header_held feed → IsStart start messages rest
starts_at_header start came feed messages rest twelve long counts is header_is = record {
  byte = starts_before start came feed messages rest (omega arith) counts (is ∙ ap (λ k. bytes_before k came) (sym twelve));
  header = λ fault shows. header_is ∙ sym (ap (λ k. take k (header_held feed)) (twelve ∙ sym long ∙ ap length header_is) ∙ take-length (header_held feed)) ∙ counts.header;
}
