-- What was told over many calls.
use Rattle.std.proofs.Common.{◌≡◌, ℕ, ◌≤◌, List, [], ◌∷◌, ◌++◌, length, take, drop, inl, inr, sym, ◌∙◌, ap, subst, ◌⊎◌, append_assoc, flat_map}
use Rattle.std.specs.Prelude.{Result, Ok, Err, true, false}
use Rattle.std.proofs.lemmas.List.{append-nil, take-append-drop, drop-append-le}
use Rattle.std.proofs.lemmas.Grind.{flat_map-append}
use Rattle.lfi_frame.specs.declared.fault.FrameFault.{FrameFault}
use Rattle.lfi_frame.specs.declared.feed.Feed.{Feed}
use Rattle.lfi_frame.specs.declared.answer.Step.{Step}
use Rattle.lfi_frame.specs.declared.answer.Got.{Got}
use Rattle.lfi_frame.specs.declared.answer.Got.TheVariants.{More, Open, Page, Payload, Close}
use Rattle.lfi_frame.specs.Streams.{Cut, Message, open_message, page_message, close_message, spelling, short, faulty, unfinished, rest_of}
use Rattle.lfi_frame.specs.Feeds.{FeedStands, IsTold, Tells, used_in}
use Rattle.lfi_frame.specs.Runs.{Call, AreCalls, used_by, Heard, hear_got, hear_answer, hear, nothing_heard, joined, UseUp}
use Rattle.std.proofs.lemmas.Bool.{cases_lt}
use Rattle.lfi_frame.proofs.Cuts.{rest_short, only}
use Rattle.lfi_frame.proofs.Feeding.{stands_cut, nothing_after}

-- what was heard is what the feed stands for, also of the page that it is in
pub record Agrees (feed : Feed) (heard : Heard) (rest : List ℕ) : Type 0 where
  pub stands : FeedStands feed heard.messages rest
  pub page : (m size index len : ℕ) → rest_of rest ≡ unfinished m size index len → (heard.m ≡ m) × (heard.size ≡ size) × (heard.index ≡ index) × (heard.payload ≡ drop 12 rest)

long_of : (rest : List ℕ) (m size index len : ℕ) → rest_of rest ≡ unfinished m size index len → 12 ≤ length rest
long_of rest m size index len e = elim (cases_lt (length rest) 12) [ inl few ↦ (let f : short ≡ unfinished m size index len = sym (rest_short rest few) ∙ e in absurd (cc)) | inr long ↦ long ]

same_page : (m size index len n s j k : ℕ) → unfinished m size index len ≡ unfinished n s j k → (m ≡ n) × (size ≡ s) × (index ≡ j)
same_page m size index len n s j k e = (cc, cc, cc)

empty_text : (m size index len : ℕ) → rest_of [] ≡ unfinished m size index len → ⊥
empty_text m size index len e = let f : short ≡ unfinished m size index len = e in absurd (cc)

nothing_more : (feed : Feed) (heard : Heard) (rest used : List ℕ) (stands : FeedStands feed heard.messages (rest ++ used)) → ((m size index len : ℕ) → rest_of rest ≡ unfinished m size index len → (heard.m ≡ m) × (heard.size ≡ size) × (heard.index ≡ index) × (heard.payload ≡ drop 12 rest)) → (((m size index len : ℕ) → rest_of (rest ++ used) ≡ unfinished m size index len → ⊥) ⊎ (used ≡ [])) → Agrees feed heard (rest ++ used)
nothing_more feed heard rest used stands page (inl none) = record { stands = stands; page = λ m size index len e. absurd (none m size index len e) }
nothing_more feed heard rest used stands page (inr none) =
    let is : rest ++ used ≡ rest = ap (λ l. rest ++ l) none ∙ append-nil rest in
    record { stands = stands; page = subst (λ l. (m size index len : ℕ) → rest_of l ≡ unfinished m size index len → (heard.m ≡ m) × (heard.size ≡ size) × (heard.index ≡ index) × (heard.payload ≡ drop 12 l)) (sym is) page }

-- one answer: what is heard then, with the text told before it
abbrev Heards : Feed → Heard → Heard → List ℕ → List ℕ → Type 0
Heards new before after rest used = (last : List ℕ) × Agrees new after last × (flat_map spelling after.messages ++ last ≡ (flat_map spelling before.messages ++ rest) ++ used)

whole_text : (messages : List Message) (message : Message) (rest used : List ℕ) → rest ++ used ≡ spelling message → flat_map spelling (messages ++ message ∷ []) ++ [] ≡ (flat_map spelling messages ++ rest) ++ used
whole_text messages message rest used e =
    append-nil (flat_map spelling (messages ++ message ∷ []))
    ∙ flat_map-append spelling messages (message ∷ [])
    ∙ ap (λ l. flat_map spelling messages ++ l) (append-nil (spelling message) ∙ sym e)
    ∙ sym (append_assoc (flat_map spelling messages) rest used)

new_message : (new : Feed) (before : Heard) (message : Message) (rest used payload : List ℕ) → FeedStands new (before.messages ++ message ∷ []) [] → rest ++ used ≡ spelling message → Heards new before (record before { messages = before.messages ++ message ∷ [] }) rest used
new_message new before message rest used payload stands e =
    ([], record { stands = stands; page = λ m size index len f. absurd (empty_text m size index len f) }, whole_text before.messages message rest used e)

same_text : (messages : List Message) (rest used : List ℕ) → flat_map spelling messages ++ (rest ++ used) ≡ (flat_map spelling messages ++ rest) ++ used
same_text messages rest used = sym (append_assoc (flat_map spelling messages) rest used)

got_heard : (got : Got) (old new : Feed) (heard : Heard) (rest used : List ℕ) → Agrees old heard rest → IsTold got new heard.messages rest used → Heards new heard (hear_got got heard used) rest used
got_heard More old new heard rest used agrees told = (
  rest ++ used,
  nothing_more new heard rest used told.0 agrees.page (elim told.1 [
    | inl s ↦ inl (λ m size index len e. (let f : short ≡ unfinished m size index len = sym s ∙ e in absurd (cc)))
    | inr none ↦ inr none
  ]),
  same_text heard.messages rest used,
)
got_heard (Open m extent) old new heard rest used agrees told = new_message new heard (open_message m extent) rest used [] told.0 told.1
got_heard (Close m) old new heard rest used agrees told = new_message new heard (close_message m) rest used [] told.0 told.1
got_heard (Page m size index len) old new heard rest used agrees told =
    (rest ++ used, record { stands = told.0; page = λ n z j k e. (let s = same_page m size index len n z j k (sym told.2 ∙ e) in (s.0, s.1, s.2, sym (nothing_after (rest ++ used) told.1))) }, same_text heard.messages rest used)
got_heard (Payload false) old new heard rest used agrees told =
    let long : 12 ≤ length rest = long_of rest told.0 told.1 told.2 told.3 told.4 in
    let was = agrees.page told.0 told.1 told.2 told.3 told.4 in (
      rest ++ used,
      record {
        stands = told.6;
        page = λ n z j k e. (let s = same_page told.0 told.1 told.2 told.3 n z j k (sym told.5 ∙ e) in
            (was.0 ∙ s.0, was.1 ∙ s.1, was.2 ∙ s.2, ap (λ l. l ++ used) was.3 ∙ sym (drop_front rest used long)));
      },
      same_text heard.messages rest used,
    )
  where
    drop_front : (xs ys : List ℕ) → 12 ≤ length xs → drop 12 (xs ++ ys) ≡ drop 12 xs ++ ys
    drop_front xs ys long = drop-append-le 12 xs ys long
got_heard (Payload true) old new heard rest used agrees told =
    let was = agrees.page told.0 told.1 told.2 told.3 told.4 in
    let message = page_message heard.m heard.size heard.index (heard.payload ++ used) in
    let is : page_message told.0 told.1 told.2 (drop 12 rest ++ used) ≡ message = λ i. page_message (sym was.0 i) (sym was.1 i) (sym was.2 i) (sym was.3 i ++ used) in (
      [],
      record { stands = subst (λ z. FeedStands new (heard.messages ++ z ∷ []) []) is told.6; page = λ m size index len f. absurd (empty_text m size index len f) },
      whole_text heard.messages message rest used (told.5 ∙ ap spelling is),
    )

answer_heard : (answer : Result Step (ℕ × FrameFault)) (old new : Feed) (heard : Heard) (rest piece : List ℕ) → Agrees old heard rest → Tells answer new heard.messages rest piece → Heards new heard (hear_answer answer heard (take (used_in answer) piece)) rest (take (used_in answer) piece)
answer_heard (Ok step) old new heard rest piece agrees told = got_heard step.got old new heard rest (take step.used piece) agrees told
answer_heard (Err fault) old new heard rest piece agrees told = (
  rest ++ take fault.0 piece,
  nothing_more new heard rest (take fault.0 piece) told.0 agrees.page (elim told.1 [
    | inl s ↦ inl (λ m size index len e. (let f : faulty fault.1 ≡ unfinished m size index len = sym s ∙ e in absurd (cc)))
    | inr none ↦ inr none
  ]),
  same_text heard.messages rest (take fault.0 piece),
)

runs : (from to : Feed) (calls : List Call) (heard : Heard) (rest : List ℕ) → Agrees from heard rest → AreCalls from calls to →
    (last : List ℕ) × Agrees to (hear heard calls) last × (flat_map spelling (hear heard calls).messages ++ last ≡ (flat_map spelling heard.messages ++ rest) ++ flat_map used_by calls)
runs from to [] heard rest agrees same = (rest, subst (λ f. Agrees f heard rest) same agrees, sym (append-nil (flat_map spelling heard.messages ++ rest)))
runs from to (call ∷ calls) heard rest agrees are =
    let stands = subst (λ f. FeedStands f heard.messages rest) (sym are.0) agrees.stands in
    let first = answer_heard call.answer from call.new heard rest call.piece agrees (are.1 heard.messages rest stands) in
    let then_all = runs call.new to calls (hear_answer call.answer heard (used_by call)) first.0 first.1 are.2 in (
      then_all.0,
      then_all.1,
      then_all.2 ∙ ap (λ l. l ++ flat_map used_by calls) first.2 ∙ append_assoc (flat_map spelling heard.messages ++ rest) (used_by call) (flat_map used_by calls),
    )

pub whole_run : (from to : Feed) (calls : List Call) → FeedStands from [] [] → AreCalls from calls to →
    (rest : List ℕ) × Cut (flat_map used_by calls) (hear nothing_heard calls).messages rest × FeedStands to (hear nothing_heard calls).messages rest
whole_run from to calls stands are =
    let run = runs from to calls nothing_heard [] (record { stands = stands; page = λ m size index len e. absurd (empty_text m size index len e) }) are in
    let cut = stands_cut to (hear nothing_heard calls).messages run.0 run.1.stands in
    (run.0, record { spelled = sym run.2; each = cut.each; stops = cut.stops }, run.1.stands)

used_up : (pieces : List (List ℕ)) (calls : List Call) → UseUp pieces calls → flat_map used_by calls ≡ joined pieces
used_up pieces [] use_up = sym use_up
used_up pieces (call ∷ calls) use_up =
    let n = used_in call.answer in
    ap (λ l. used_by call ++ l) (used_up (drop n call.piece ∷ use_up.0) calls use_up.2)
    ∙ sym (append_assoc (take n call.piece) (drop n call.piece) (joined use_up.0))
    ∙ ap (λ l. l ++ joined use_up.0) (take-append-drop n call.piece)
    ∙ sym use_up.1

pub any_pieces : (from to : Feed) (pieces : List (List ℕ)) (calls : List Call) (messages : List Message) (rest : List ℕ) → FeedStands from [] [] → AreCalls from calls to → UseUp pieces calls →
    Cut (joined pieces) messages rest → ((hear nothing_heard calls).messages ≡ messages) × FeedStands to messages rest
any_pieces from to pieces calls messages rest stands are use_up cut =
    let run = whole_run from to calls stands are in
    let same = only (joined pieces) (hear nothing_heard calls).messages messages run.0 rest (subst (λ l. Cut l (hear nothing_heard calls).messages run.0) (used_up pieces calls use_up) run.1) cut in
    (same.0, subst (λ l. FeedStands to messages l) same.1 (subst (λ l. FeedStands to l run.0) same.0 run.2))
