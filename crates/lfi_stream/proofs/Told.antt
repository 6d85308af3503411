-- What is told of the bytes that were used.
use Rattle.std.proofs.Common.{◌≡◌, ◌≢◌, ℕ, ◌⊎◌, List, [], ◌++◌, length, Option, Some, None, refl, sym, ◌∙◌, ap, subst, true}
use Rattle.std.specs.Prelude.{All, Ok}
use Rattle.lfi_frame.specs.declared.fault.FrameFault.{FrameFault}
use Rattle.lfi_frame.specs.declared.feed.Feed.{Feed}
use Rattle.lfi_frame.specs.declared.feed.Position.{Position}
use Rattle.lfi_frame.specs.declared.feed.Position.TheVariants as position
use Rattle.lfi_frame.specs.declared.answer.Got.{Got}
use Rattle.lfi_frame.specs.declared.answer.Got.TheVariants as got
use Rattle.lfi_frame.specs.Streams.{Message, IsMessage, faulty, rest_of}
use Rattle.lfi_frame.specs.Feeds.{FeedStands, IsAt, fault_at}
use Rattle.lfi_model.specs.declared.connection.Progress.{Progress}
use Rattle.lfi_connection.specs.declared.event.Event.{Event}
use Rattle.lfi_connection.specs.declared.event.Event.TheVariants.{Nothing, Open, Begin, Code, Stray, End}
use Rattle.lfi_connection.specs.declared.due_page.DuePage.{DuePage}
use Rattle.lfi_connection.specs.Connections.{made_of, Holds}
use Rattle.lfi_connection.specs.Events.{Answers, Continues, coming_after, Moves}
use Rattle.lfi_connection.proofs.Told.{fault_same}
use Rattle.lfi_stream.specs.declared.numbers.LfiStreamText.{LfiStreamText}
use Rattle.lfi_stream.specs.declared.numbers.LfiStreamFeed.{LfiStreamFeed}
use Rattle.lfi_stream.specs.Numbers.{position_at, page_at, progress_at, FitsPage, IsPageOf}
use Rattle.lfi_stream.specs.Streams.{all, IsIn, StandsFor}
use Rattle.lfi_stream.specs.Events.{IsTold, IsAtFault, IsWithin}
use Rattle.lfi_stream.proofs.Pages.{page_kept, named_by, page_is, within_words, fits_at}

-- each claim succeeds
pub all_free : (g : Got) (P : ℕ → Progress) → Answers g true all P
all_free got.More P = tt
all_free (got.Open m extent) P = λ was. refl
all_free (got.Page m size index len) P = tt
all_free (got.Payload ended) P = tt
all_free (got.Close m) P = tt

-- the numbers of the feed are kept too
pub told : (feed : Feed) (s : LfiStreamText) (kept : LfiStreamFeed) (o : Option DuePage) (ms : List Message) (rest used : List ℕ) (event : Event) → Moves feed (progress_at s.modules) o all ms rest used event → IsPageOf s.page (coming_after event (length used) o)
    → ((now : List Message) (left : List ℕ) → FeedStands feed now left → IsIn kept left) → IsTold (record s { feed = kept }) ms rest used event
told feed s kept o ms rest used event moves named keeps =
    let next = coming_after event (length used) o in
    let page_is : page_at s ≡ next = page_kept s next all moves.now moves.left named moves.holds in
    record {
      now = moves.now;
      left = moves.left;
      stands = record {
        each = moves.stands.each;
        feed = keeps moves.now moves.left moves.stands;
        page = named_by s next named page_is;
        holds = subst (λ p. Holds (progress_at s.modules) p all moves.now moves.left) (sym page_is) (record { progress = moves.holds.progress; awaits = moves.holds.awaits });
      };
      text = moves.text;
      grows = moves.grows;
      code = moves.code;
      follows = moves.follows;
      inside = moves.inside;
    }

-- code lies within its module
pub within : (s : LfiStreamText) (o : Option DuePage) (event : Event) (count : ℕ) → page_at s ≡ o → Continues event o count → IsWithin (Ok event) count s
within s o Nothing count is continues = tt
within s o (Open k extent) count is continues = tt
within s o (Begin page) count is continues = tt
within s o (Code page ended) count is continues = ((page_is s page (is ∙ continues.0)).0, within_words page count ended continues.1)
within s o (Stray k) count is continues = tt
within s o (End k extent pages reason) count is continues = tt

-- a header with a fault
pub at_fault : (s : LfiStreamText) (kept : LfiStreamFeed) (ms : List Message) (rest used : List ℕ) (fault : FrameFault) → used ≢ [] → length (rest ++ used) ≡ 12 → Holds (progress_at s.modules) (page_at s) all ms rest
    → (rest_of (rest ++ used) ≡ faulty fault) ⊎ (used ≡ []) → position_at kept.place kept.number ≡ Some (position.Faulty fault) → IsAtFault (record s { feed = kept }) ms (rest ++ used) fault
at_fault s kept ms rest used fault some twelve holds or position =
    let same = fault_same all ms rest used fault some twelve or in
    record { shows = same.0; position = position; progress = λ m. holds.progress m ∙ ap (λ t. t.progress) (sym (same.1 m)) }

-- a position without a fault
pub faultless_at : (p : Position) → ((fault : FrameFault) → p ≡ position.Faulty fault → ⊥) → fault_at p ≡ None
faultless_at (position.Header filled) h = refl
faultless_at (position.Payload left) h = refl
faultless_at (position.Faulty fault) h = absurd (h fault refl)

pub same_some : (p q : Position) → Some p ≡ Some q → p ≡ q
same_some p q e = cc

pub not_faulty : (p : Position) (fault : FrameFault) → fault_at p ≡ None → p ≡ position.Faulty fault → ⊥
not_faulty p fault none is = absurd (let e : fault_at p ≡ Some fault = ap fault_at is in cc)

-- what a feed at the position that the numbers tell stands for
pub stands_at : (feed : LfiStreamFeed) (p : Position) (made : Feed) (ms : List Message) (rest : List ℕ) → position_at feed.place feed.number ≡ Some p
    → ((messages : List Message) (left : List ℕ) → All IsMessage messages → IsAt feed.held p left → FeedStands made messages left) → All IsMessage ms → IsIn feed rest → FeedStands made ms rest
stands_at feed p made ms rest is stands each inside = stands ms rest each (subst (λ q. IsAt feed.held q rest) (same_some inside.position p (sym inside.is ∙ is)) inside.holds)

-- numbers that fit no page are those of no stream
pub no_page : (s : LfiStreamText) (p : Position) (ms : List Message) (rest : List ℕ) → position_at s.feed.place s.feed.number ≡ Some p → (FitsPage s p → ⊥) → StandsFor s ms rest → ⊥
no_page s p ms rest is none stands =
    let same : stands.feed.position ≡ p = same_some stands.feed.position p (sym stands.feed.is ∙ is) in
    none (subst (λ q. FitsPage s q) same (fits_at s stands.feed.position (made_of all ms (rest_of rest)) rest stands.feed.faultless stands.feed.holds stands.page stands.holds.awaits))

pub no_feed : (feed : LfiStreamFeed) (p : Position) (rest : List ℕ) → position_at feed.place feed.number ≡ Some p → ((left : List ℕ) → IsAt feed.held p left → ⊥) → IsIn feed rest → ⊥
no_feed feed p rest is none inside = none rest (subst (λ q. IsAt feed.held q rest) (same_some inside.position p (sym inside.is ∙ is)) inside.holds)

pub no_position : (feed : LfiStreamFeed) (rest : List ℕ) → position_at feed.place feed.number ≡ None → IsIn feed rest → ⊥
no_position feed rest is inside = absurd (let e : Some inside.position ≡ None = sym inside.is ∙ is in cc)

pub none_by : (o : Option FrameFault) → ((fault : FrameFault) → o ≡ Some fault → ⊥) → o ≡ None
none_by None h = refl
none_by (Some fault) h = absurd (h fault refl)
