-- What is told of the bytes that were used.
use Rattle.std.proofs.Common.{◌≡◌, ◌≢◌, ℕ, ◌≤◌, ◌⊎◌, List, [], ◌∷◌, ◌++◌, length, drop, Option, Some, None, refl, sym, ◌∙◌, ap, subst, inl, inr, arith, Bool, true, false}
use Rattle.std.proofs.lemmas.List.{append-nil}
use Rattle.lfi_frame.specs.declared.fault.FrameFault.{FrameFault}
use Rattle.lfi_frame.specs.declared.feed.Feed.{Feed}
use Rattle.lfi_frame.specs.declared.answer.Got.TheVariants.{Payload}
use Rattle.lfi_frame.specs.Streams.{Message, page_message, spelling, short, faulty, unfinished, rest_of}
use Rattle.lfi_frame.specs.Feeds.{FeedStands, IsTold}
use Rattle.lfi_model.specs.declared.connection.Progress.{Progress}
use Rattle.lfi_model.specs.Items.{Share}
use Rattle.std.proofs.lemmas.Bool.{cases_lt}
use Rattle.lfi_connection.specs.declared.event.Event.{Event}
use Rattle.lfi_connection.specs.declared.event.Event.TheVariants.{Nothing, Open, Begin, Code, Stray, End}
use Rattle.lfi_connection.specs.declared.due_page.DuePage.{DuePage}
use Rattle.lfi_connection.specs.Connections.{made_of, Awaits, Holds}
use Rattle.lfi_connection.specs.Events.{after_event, coming_after, Grows, IsPlain, Follows, IsInMessage, IsPassed, TellsCode, Moves}
use Rattle.lfi_connection.proofs.Texts.{shorter, short_before, short_length, whole_text, whole_len, last_is, unfinished_long}

-- before a header's end no page is awaited
awaits_short : (o : Option DuePage) (made made' : ℕ → Share) (rest other : List ℕ) → rest_of rest ≡ short → rest_of other ≡ short → Awaits o made rest → Awaits o made' other
awaits_short (Some page) made made' rest other is is' h = absurd (let e = h.header in cc)
awaits_short None made made' rest other is is' h = λ m size index len e. absurd (cc)

holds_short : (P : ℕ → Progress) (o : Option DuePage) (c : ℕ → Bool) (ms : List Message) (rest other : List ℕ) → rest_of rest ≡ short → rest_of other ≡ short → Holds P o c ms rest → Holds P o c ms other
holds_short P o c ms rest other is is' h = record {
  progress = λ m. h.progress m ∙ ap (λ r. (made_of c ms r m).progress) (is ∙ sym is');
  awaits = awaits_short (o) (made_of c ms (rest_of rest)) (made_of c ms (rest_of other)) rest other is is' h.awaits;
}

no_page : (c : ℕ → Bool) (ms : List Message) (rest : List ℕ) → rest_of rest ≡ short → IsPassed c ms rest
no_page c ms rest is = λ m size index len e. absurd (cc)

plain_code : (event : Event) (c : ℕ → Bool) (ms : List Message) (rest used : List ℕ) → IsPlain event → rest_of rest ≡ short → TellsCode event c ms rest used
plain_code Nothing c ms rest used plain is = inr (no_page c ms rest is)
plain_code (Open k extent) c ms rest used plain is = no_page c ms rest is
plain_code (Begin page) c ms rest used plain is = no_page c ms rest is
plain_code (Code page ended) c ms rest used plain is = absurd plain
plain_code (Stray k) c ms rest used plain is = no_page c ms rest is
plain_code (End k extent pages reason) c ms rest used plain is = no_page c ms rest is

-- what an event follows is told by the numbers, and by the text
pub follows_by : (event : Event) (was is : ℕ → Progress) → ((m : ℕ) → was m ≡ is m) → Follows event was → Follows event is
follows_by Nothing was is same h = tt
follows_by (Open k extent) was is same h = sym (same k) ∙ h
follows_by (Code page ended) was is same h = tt
follows_by (Stray k) was is same h = tt
follows_by (Begin page) was is same h = (sym (same page.«module») ∙ h.0, h.1, h.2)
follows_by (End k extent pages reason) was is same h = (sym (same k) ∙ h.0, h.1)

pub follows_held : (event : Event) (P : ℕ → Progress) (o : Option DuePage) (c : ℕ → Bool) (ms : List Message) (rest : List ℕ) → Holds P o c ms rest → Follows event P → Follows event (λ m. (made_of c ms (rest_of rest) m).progress)
follows_held event P o c ms rest holds h = follows_by event P (λ m. (made_of c ms (rest_of rest) m).progress) holds.progress h

-- bytes in a header or in a payload
pub in_header : (ms : List Message) (rest used : List ℕ) → length (rest ++ used) ≤ 12 → IsInMessage ms rest used ms (rest ++ used)
in_header ms rest used few = inr (refl, refl, inl few)

pub in_payload : (ms : List Message) (rest used : List ℕ) → 12 ≤ length rest → IsInMessage ms rest used ms (rest ++ used)
in_payload ms rest used long = inr (refl, refl, inr long)

in_either : (ms : List Message) (rest used : List ℕ) → used ≡ [] → IsInMessage ms rest used ms (rest ++ used)
in_either ms rest used none = elim (cases_lt (length rest) 12) [
  | inl less ↦ in_header ms rest used (let same : length (rest ++ used) ≡ length rest = ap (λ l. length (rest ++ l)) none ∙ ap length (append-nil rest) in omega (arith, less, same))
  | inr long ↦ in_payload ms rest used long
]

-- more bytes of a header, or none
pub more_moves : (feed : Feed) (P : ℕ → Progress) (o : Option DuePage) (c : ℕ → Bool) (ms : List Message) (rest used : List ℕ) → Holds P o c ms rest → FeedStands feed ms (rest ++ used) → (rest_of (rest ++ used) ≡ short) ⊎ (used ≡ []) → Moves feed P o c ms rest used Nothing
more_moves feed P o c ms rest used holds stands (inl is) =
    let before : rest_of rest ≡ short = shorter rest used is in
    record {
      now = ms;
      left = rest ++ used;
      stands = stands;
      holds = holds_short P o c ms rest (rest ++ used) before is holds;
      text = refl;
      grows = λ m. ap (λ r. made_of c ms r m) (is ∙ sym before);
      code = inr (no_page c ms rest before);
      follows = tt;
      inside = in_header ms rest used (let few = short_length (rest ++ used) is in omega (arith, few));
    }
more_moves feed P o c ms rest used holds stands (inr none) =
    let same : rest ++ used ≡ rest = ap (λ l. rest ++ l) none ∙ append-nil rest in
    record {
      now = ms;
      left = rest ++ used;
      stands = stands;
      holds = subst (λ l. Holds P o c ms l) (sym same) holds;
      text = refl;
      grows = λ m. ap (λ l. made_of c ms (rest_of l) m) same;
      code = inl none;
      follows = tt;
      inside = in_either ms rest used none;
    }

-- a whole message that is no page
pub message_moves : (feed : Feed) (P Q : ℕ → Progress) (o : Option DuePage) (c : ℕ → Bool) (ms : List Message) (rest used : List ℕ) (message : Message) (event : Event) → used ≢ [] → length (spelling message) ≤ 12 → rest ++ used ≡ spelling message
    → FeedStands feed (ms ++ message ∷ []) [] → Holds P o c ms rest → IsPlain event → Follows event P
    → ((count : ℕ) (coming : Option DuePage) → coming_after event count coming ≡ coming) → ((payload : List ℕ) → Holds P o c ms [] → let now = ms ++ message ∷ [] in Holds Q o c now [] × Grows event c ms [] now [] payload) → Moves feed Q o c ms rest used event
message_moves feed P Q o c ms rest used message event some twelve spells stands holds plain follows comes goes =
    let before : rest_of rest ≡ short = short_before rest used some (subst (λ l. length l ≤ 12) (sym spells) twelve) in
    let h : Holds P o c ms [] = holds_short P o c ms rest [] before refl holds in
    let payload : List ℕ = drop 12 rest ++ used in
    let g = goes payload h in
    record {
      now = ms ++ message ∷ [];
      left = [];
      stands = stands;
      holds = subst (λ z. Holds Q z c (ms ++ message ∷ []) []) (sym (comes (length used) o)) g.0;
      text = whole_text ms message rest used spells;
      grows = subst (λ r. (m : ℕ) → made_of c (ms ++ message ∷ []) short m ≡ after_event m event payload (made_of c ms r m)) (sym before) g.1;
      code = plain_code event c ms rest used plain before;
      follows = follows_held event P o c ms rest holds follows;
      inside = inl refl;
    }

-- the header of a page
pub header_moves : (feed : Feed) (P Q : ℕ → Progress) (o : Option DuePage) (c : ℕ → Bool) (ms : List Message) (rest used : List ℕ) (event : Event) → used ≢ [] → length (rest ++ used) ≡ 12
    → FeedStands feed ms (rest ++ used) → Holds P o c ms rest → IsPlain event → Follows event P
    → ((payload : List ℕ) → Holds P o c ms [] → Holds Q (coming_after event (length used) o) c ms (rest ++ used) × Grows event c ms [] ms (rest ++ used) payload) → Moves feed Q o c ms rest used event
header_moves feed P Q o c ms rest used event some twelve stands holds plain follows goes =
    let before : rest_of rest ≡ short = short_before rest used some (omega arith) in
    let h : Holds P o c ms [] = holds_short P o c ms rest [] before refl holds in
    let payload : List ℕ = drop 12 rest ++ used in
    let g = goes payload h in
    record {
      now = ms;
      left = rest ++ used;
      stands = stands;
      holds = g.0;
      text = refl;
      grows = subst (λ r. (m : ℕ) → made_of c ms (rest_of (rest ++ used)) m ≡ after_event m event payload (made_of c ms r m)) (sym before) g.1;
      code = plain_code event c ms rest used plain before;
      follows = follows_held event P o c ms rest holds follows;
      inside = in_header ms rest used (omega (arith, twelve));
    }

-- bytes of a payload
pub payload_moves : (feed : Feed) (P Q : ℕ → Progress) (o : Option DuePage) (c : ℕ → Bool) (ms : List Message) (rest used : List ℕ) (event : Event) (ended : Bool) → Holds P o c ms rest → Follows event P → IsTold (Payload ended) feed ms rest used
    → ((m size index len : ℕ) → ended ≡ false → rest_of rest ≡ unfinished m size index len → rest_of (rest ++ used) ≡ unfinished m size index len
    → Holds Q (coming_after event (length used) o) c ms (rest ++ used) × Grows event c ms rest ms (rest ++ used) (drop 12 rest ++ used) × TellsCode event c ms rest used)
    → ((m size index len : ℕ) → ended ≡ true → rest_of rest ≡ unfinished m size index len → length (drop 12 rest ++ used) ≡ len → let now = ms ++ page_message m size index (drop 12 rest ++ used) ∷ [] in
    Holds Q (coming_after event (length used) o) c now [] × Grows event c ms rest now [] (drop 12 rest ++ used) × TellsCode event c ms rest used) → Moves feed Q o c ms rest used event
payload_moves feed P Q o c ms rest used event false holds follows told more whole =
    let goes = more told.0 told.1 told.2 told.3 refl told.4 told.5 in
    record {
      now = ms;
      left = rest ++ used;
      stands = told.6;
      holds = goes.0;
      text = refl;
      grows = goes.1;
      code = goes.2;
      follows = follows_held event P o c ms rest holds follows;
      inside = in_payload ms rest used (unfinished_long rest told.0 told.1 told.2 told.3 told.4).0;
    }
payload_moves feed P Q o c ms rest used event true holds follows told more whole =
    let payload = drop 12 rest ++ used in
    let message = page_message told.0 told.1 told.2 payload in
    let long = whole_len rest used payload told.0 told.1 told.2 told.3 told.0 told.4 told.5 (last_is ms message told.6.each) in
    let goes = whole told.0 told.1 told.2 told.3 refl told.4 long in
    record {
      now = ms ++ message ∷ [];
      left = [];
      stands = told.6;
      holds = goes.0;
      text = whole_text ms message rest used told.5;
      grows = goes.1;
      code = goes.2;
      follows = follows_held event P o c ms rest holds follows;
      inside = inl refl;
    }

-- a header with a fault has made nothing
pub fault_same : (c : ℕ → Bool) (ms : List Message) (rest used : List ℕ) (fault : FrameFault) → used ≢ [] → length (rest ++ used) ≡ 12 → (rest_of (rest ++ used) ≡ faulty fault) ⊎ (used ≡ [])
    → (rest_of (rest ++ used) ≡ faulty fault) × ((m : ℕ) → made_of c ms (rest_of (rest ++ used)) m ≡ made_of c ms (rest_of rest) m)
fault_same c ms rest used fault some twelve or =
    let is : rest_of (rest ++ used) ≡ faulty fault = (elim or [ inl is ↦ is | inr none ↦ absurd (some none) ]) in
    let before : rest_of rest ≡ short = short_before rest used some (omega arith) in
    (is, λ m. ap (λ r. made_of c ms r m) {x = rest_of (rest ++ used)} {y = faulty fault} is ∙ ap (λ r. made_of c ms r m) (sym before))
