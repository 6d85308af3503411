-- A text is cut in one way.
use Rattle.std.proofs.Common.{◌≡◌, ◌≢◌, ℕ, ◌<◌, List, ◌++◌, length, sym, subst, ap, arith, flat_map, length-take, refl}
use Rattle.lfi_frame.specs.declared.feed.Position.{Position}
use Rattle.lfi_frame.specs.declared.feed.Position.TheVariants as position
use Rattle.lfi_frame.specs.Streams.{Message, Cut, spelling, whole, rest_of}
use Rattle.lfi_frame.specs.Feeds.{IsAt, fault_at}
use Rattle.std.specs.Prelude.{None}
use Rattle.lfi_frame.proofs.Cuts.{only, rest_short}
use Rattle.lfi_frame.proofs.Feeding.{page_rest}
use Rattle.lfi_stream.specs.declared.numbers.LfiStreamText.{LfiStreamText}
use Rattle.lfi_stream.specs.Streams.{StandsFor, StandsForText}

-- no whole message stands in the rest
stops : (p : Position) (held rest : List ℕ) → IsAt held p rest → fault_at p ≡ None → rest_of rest ≢ whole
stops (position.Header filled) held rest at n w =
    let less : length rest < 12 = (let l = ap length at.1 in let k = length-take filled held in let f = at.0 in omega arith) in
    absurd (let s = rest_short rest less in cc)
stops (position.Payload left) held rest at n w = absurd (let u = page_rest rest left at in cc)
stops (position.Faulty f) held rest at n w = absurd (cc)

cut_of : (stream : LfiStreamText) (messages : List Message) (rest : List ℕ) → StandsFor stream messages rest → Cut (flat_map spelling messages ++ rest) messages rest
cut_of stream messages rest stands = record { spelled = refl; each = stands.each; stops = stops stands.feed.position stream.feed.held rest stands.feed.holds stands.feed.faultless }

pub one_text : (stream : LfiStreamText) (text : List ℕ) (messages : List Message) (rest : List ℕ) → StandsForText stream text → Cut text messages rest → StandsFor stream messages rest
one_text stream text messages rest known cut =
    let same = only text known.messages messages known.rest rest (subst (λ l. Cut l known.messages known.rest) (sym known.spelled) (cut_of stream known.messages known.rest known.stands)) cut in
    let stands : StandsFor stream messages known.rest = subst (λ ms. StandsFor stream ms known.rest) same.0 known.stands in
    subst (λ l. StandsFor stream messages l) same.1 stands
