-- Every text is cut in exactly one way.
use Rattle.std.proofs.Common.{zero, suc, ◌≡◌, ◌≢◌, ℕ, ◌+◌, ◌<◌, ◌≤◌, ◌^◌, List, [], ◌∷◌, ◌++◌, length, take, drop, inl, inr, refl, sym, ◌∙◌, ap, subst, arith, ◌⊎◌, append_assoc, length-append, flat_map}
use Rattle.std.specs.Prelude.{Option, Some, None, Bool, true, false, ◌&&◌, nat_lt, if◌then◌else◌, All}
use Rattle.std.proofs.lemmas.List.{length-take, take-append-drop}
use Rattle.std.proofs.lemmas.List.Elements.{All-nil, All-cons, All-head, All-tail}
use Rattle.std.proofs.lemmas.Bool.{cases_lt, ltb-false, le-ltb, lt-ltb}
use Rattle.lfi_frame.specs.declared.header.Header.{Header}
use Rattle.lfi_frame.specs.declared.fault.FrameFault.{FrameFault}
use Rattle.lfi_module.specs.declared.profile.Profile.{Profile}
use Rattle.lfi_module.specs.declared.profile.Profile.TheVariants.{One, Two}
use Rattle.lfi_module.specs.Pages.{IsPageSize, HasPages}
use Rattle.lfi_module.specs.Profiles.{is_two}
use Rattle.lfi_frame.specs.Feeds.{page_header, opened}
use Rattle.lfi_frame.specs.Streams.{AreBytes, Message, open_message, page_message, close_message, open_kind, is_open, opened_by, second_byte, pages_by, page_kind, is_page, size_by, HasSizes, header_of, payload_of, spelling, header_at, header_bytes, header_fault, IsMessage, Rest, short, faulty, unfinished, whole, rest_after, rest_of, Cut}
use Rattle.lfi_frame.proofs.Headers.{header_back, header_spells, header_fits, sound, IsPaging, paging}

-- a text with a header goes on as its header says
pub rest_long : (bs : List ℕ) → 12 ≤ length bs → rest_of bs ≡ rest_after (header_fault (header_at bs)) (header_at bs) (length (drop 12 bs))
rest_long bs long = ap (λ b. if b then short else rest_after (header_fault (header_at bs)) (header_at bs) (length (drop 12 bs))) (le-ltb (length bs) 12 long)

pub rest_short : (bs : List ℕ) → length bs < 12 → rest_of bs ≡ short
rest_short bs few = ap (λ b. if b then short else rest_after (header_fault (header_at bs)) (header_at bs) (length (drop 12 bs))) (lt-ltb (length bs) 12 few)

pub long_by : (h : Header) (xs : List ℕ) → 12 ≤ length (header_bytes h ++ xs)
long_by h xs = omega arith

-- a header that is spelled is read back
pub rest_spelled : (h : Header) (xs : List ℕ) → header_fault h ≡ None → h.a < 2 ^ 32 → h.b < 2 ^ 32 → rest_of (header_bytes h ++ xs) ≡ (if is_page h.kind && nat_lt (length xs) h.b then unfinished h.«module» (size_by h.kind) h.a h.b else whole)
rest_spelled h xs none a_fits b_fits =
    let is : header_at (header_bytes h ++ xs) ≡ h = header_back h xs (omega (arith, (sound h none).m_below)) a_fits b_fits in
    rest_long (header_bytes h ++ xs) (long_by h xs)
    ∙ ap (λ g. rest_after (header_fault g) g (length xs)) is
    ∙ ap (λ f. rest_after f h (length xs)) none

tell_whole : (b : Bool) (m size index len : ℕ) → b ≡ false → (if b then unfinished m size index len else whole) ≡ whole
tell_whole b m size index len e = ap (λ b. if b then unfinished m size index len else whole) e

enough_open : (profile : Profile) (few : Bool) → (is_page (open_kind profile) && few) ≡ false
enough_open One few = refl
enough_open Two few = refl

never : (b c : Bool) → c ≡ false → (b && c) ≡ false
never true c e = e
never false c e = refl

enough : (message : Message) (xs : List ℕ) → (is_page (header_of message).kind && nat_lt (length (payload_of message ++ xs)) (header_of message).b) ≡ false
enough (open_message m extent) xs = enough_open extent.profile _
enough (page_message m size index payload) xs = never (is_page (page_kind size)) _ (le-ltb (length (payload ++ xs)) (length payload) (omega (arith, length-append payload xs)))
enough (close_message m) xs = refl

pub rest_whole : (message : Message) (xs : List ℕ) → IsMessage message → rest_of (spelling message ++ xs) ≡ whole
rest_whole message xs is =
    ap rest_of (append_assoc (header_bytes (header_of message)) (payload_of message) xs)
    ∙ rest_spelled (header_of message) (payload_of message ++ xs) is.faultless is.a_fits is.b_fits
    ∙ tell_whole _ _ _ _ _ (enough message xs)

-- the message of a header and what follows it
abbrev pub message_at : Header → List ℕ → Message
message_at h bs = if is_page h.kind then page_message h.«module» (size_by h.kind) h.a (take h.b bs) else if is_open h.kind then open_message h.«module» (opened h) else close_message h.«module»

open_back : (profile : Profile) (m words entry pages : ℕ) (xs : List ℕ) → message_at (record { kind = open_kind profile; second = second_byte pages; «module» = m; a = words; b = entry }) xs ≡ open_message m (record { words = words; entry = entry; profile = profile; pages = pages_by (second_byte pages) })
open_back One m words entry pages xs = refl
open_back Two m words entry pages xs = refl

pages_back : (profile : Profile) (pages : ℕ) → HasPages profile pages → pages_by (second_byte pages) ≡ pages
pages_back profile pages (inl small) = ap (λ p. pages_by (second_byte p)) small ∙ sym small
pages_back profile pages (inr large) = ap (λ p. pages_by (second_byte p)) large.1 ∙ sym large.1

page_back : (m size index len : ℕ) (bs : List ℕ) → IsPageSize size → message_at (page_header m size index len) bs ≡ page_message m size index (take len bs)
page_back m size index len bs (inl small) = ap (λ s. message_at (page_header m s index len) bs) small ∙ ap (λ s. page_message m s index (take len bs)) (sym small)
page_back m size index len bs (inr large) = ap (λ s. message_at (page_header m s index len) bs) large ∙ ap (λ s. page_message m s index (take len bs)) (sym large)

read_back : (message : Message) (xs : List ℕ) → HasSizes message → message_at (header_of message) (payload_of message ++ xs) ≡ message
read_back (open_message m extent) xs sizes = open_back extent.profile m extent.words extent.entry extent.pages xs ∙ ap (λ p. open_message m (record { words = extent.words; entry = extent.entry; profile = extent.profile; pages = p })) (pages_back extent.profile extent.pages sizes)
read_back (page_message m size index payload) xs sizes = page_back m size index (length payload) (payload ++ xs) sizes ∙ ap (λ p. page_message m size index p) (take_front payload xs)
  where
    take_front : (ys xs : List ℕ) → take (length ys) (ys ++ xs) ≡ ys
    take_front [] xs = refl
    take_front (y ∷ ys) xs = ap (λ l. y ∷ l) (take_front ys xs)
read_back (close_message m) xs sizes = refl

first_message : (message : Message) (xs : List ℕ) → IsMessage message → message_at (header_at (spelling message ++ xs)) (drop 12 (spelling message ++ xs)) ≡ message
first_message message xs is =
    let h = header_of message in
    let reads : header_at (header_bytes h ++ (payload_of message ++ xs)) ≡ h = header_back h (payload_of message ++ xs) (omega (arith, (sound h is.faultless).m_below)) is.a_fits is.b_fits in
    ap (λ l. message_at (header_at l) (drop 12 l)) (append_assoc (header_bytes h) (payload_of message) xs)
    ∙ ap (λ g. message_at g (payload_of message ++ xs)) reads
    ∙ read_back message xs is.sizes

cancel : (xs ys zs : List ℕ) → xs ++ ys ≡ xs ++ zs → ys ≡ zs
cancel [] ys zs e = e
cancel (x ∷ xs) ys zs e = cancel xs ys zs (cc)

one : (messages other : List Message) (rest last : List ℕ) → All IsMessage messages → All IsMessage other → rest_of rest ≢ whole → rest_of last ≢ whole → flat_map spelling messages ++ rest ≡ flat_map spelling other ++ last → (messages ≡ other) × (rest ≡ last)
one [] [] rest last each each' stops stops' e = (refl, e)
one [] (x ∷ xs) rest last each each' stops stops' e =
    absurd (stops (ap rest_of (e ∙ append_assoc (spelling x) (flat_map spelling xs) last) ∙ rest_whole x (flat_map spelling xs ++ last) (All-head IsMessage x xs each')))
one (x ∷ xs) [] rest last each each' stops stops' e =
    absurd (stops' (ap rest_of (sym e ∙ append_assoc (spelling x) (flat_map spelling xs) rest) ∙ rest_whole x (flat_map spelling xs ++ rest) (All-head IsMessage x xs each)))
one (x ∷ xs) (y ∷ ys) rest last each each' stops stops' e =
    let more = flat_map spelling xs ++ rest in let more' = flat_map spelling ys ++ last in
    let same : spelling x ++ more ≡ spelling y ++ more' = sym (append_assoc (spelling x) (flat_map spelling xs) rest) ∙ e ∙ append_assoc (spelling y) (flat_map spelling ys) last in
    let is : x ≡ y = sym (first_message x more (All-head IsMessage x xs each)) ∙ ap (λ l. message_at (header_at l) (drop 12 l)) same ∙ first_message y more' (All-head IsMessage y ys each') in
    let after : more ≡ more' = cancel (spelling x) more more' (same ∙ ap (λ z. spelling z ++ more') (sym is)) in
    let r = one xs ys rest last (All-tail IsMessage x xs each) (All-tail IsMessage y ys each') stops stops' after in
    (ap (λ z. z ∷ xs) is ∙ ap (λ l. y ∷ l) r.0, r.1)

pub only : (bytes : List ℕ) (messages other : List Message) (rest last : List ℕ) → Cut bytes messages rest → Cut bytes other last → (messages ≡ other) × (rest ≡ last)
only bytes messages other rest last cut cut' = one messages other rest last cut.each cut'.each cut.stops cut'.stops (sym cut.spelled ∙ cut'.spelled)

-- what a header without a fault is the header of
kind_back : (kind : ℕ) → IsPaging kind → page_kind (size_by kind) ≡ kind
kind_back kind (inl two) = ap (λ k. page_kind (size_by k)) two ∙ sym two
kind_back kind (inr five) = ap (λ k. page_kind (size_by k)) five ∙ sym five

page_second : (h : Header) → header_fault h ≡ None → IsPaging h.kind → 0 ≡ h.second
page_second h none kind = elim (sound h none).second [
  | inl none_is ↦ sym none_is
  | inr two ↦ elim kind [ inl small ↦ (let four = two.0 in absurd (omega arith)) | inr large ↦ (let four = two.0 in absurd (omega arith)) ]
]

pub size_is : (kind : ℕ) → IsPaging kind → IsPageSize (size_by kind)
size_is kind (inl two) = inl (ap size_by two)
size_is kind (inr five) = inr (ap size_by five)

pub page_paging : (size : ℕ) → IsPageSize size → IsPaging (page_kind size)
page_paging size (inl small) = inl (ap page_kind small)
page_paging size (inr large) = inr (ap page_kind large)

pub size_back : (size : ℕ) → IsPageSize size → size_by (page_kind size) ≡ size
size_back size (inl small) = ap (λ s. size_by (page_kind s)) small ∙ sym small
size_back size (inr large) = ap (λ s. size_by (page_kind s)) large ∙ sym large

pub page_is : (h : Header) → header_fault h ≡ None → IsPaging h.kind → page_header h.«module» (size_by h.kind) h.a h.b ≡ h
page_is h none kind = let same = kind_back h.kind kind in let second = page_second h none kind in λ i. record { kind = same i; second = second i; «module» = h.«module»; a = h.a; b = h.b }

pub open_sizes : (h : Header) → header_fault h ≡ None → HasPages (opened_by h.kind) (pages_by h.second)
open_sizes h none = elim (sound h none).second [
  | inl none_is ↦ inl (ap pages_by none_is)
  | inr two ↦ inr (ap (λ k. is_two (opened_by k)) two.0, ap pages_by two.1)
]

second_back : (h : Header) → header_fault h ≡ None → second_byte (pages_by h.second) ≡ h.second
second_back h none = elim (sound h none).second [
  | inl none_is ↦ ap (λ s. second_byte (pages_by s)) none_is ∙ sym none_is
  | inr two ↦ ap (λ s. second_byte (pages_by s)) two.1 ∙ sym two.1
]

pub open_is : (h : Header) → header_fault h ≡ None → (h.kind ≡ 1) ⊎ (h.kind ≡ 4) → header_of (open_message h.«module» (opened h)) ≡ h
open_is h none kind = let same : open_kind (opened_by h.kind) ≡ h.kind = same_kind h.kind kind in let second = second_back h none in λ i. record { kind = same i; second = second i; «module» = h.«module»; a = h.a; b = h.b }
  where
    same_kind : (kind : ℕ) → (kind ≡ 1) ⊎ (kind ≡ 4) → open_kind (opened_by kind) ≡ kind
    same_kind kind (inl one) = ap (λ k. open_kind (opened_by k)) one ∙ sym one
    same_kind kind (inr four) = ap (λ k. open_kind (opened_by k)) four ∙ sym four

pub close_is : (h : Header) → header_fault h ≡ None → h.kind ≡ 3 → header_of (close_message h.«module») ≡ h
close_is h none kind =
    let z = (sound h none).zeros kind in
    let second : 0 ≡ h.second = elim (sound h none).second [ inl none_is ↦ sym none_is | inr two ↦ (let four = two.0 in absurd (omega arith)) ] in
    λ i. record { kind = sym kind i; second = second i; «module» = h.«module»; a = sym z.0 i; b = sym z.1 i }

-- a message whose header has no fault and numbers that fit
pub message_is : (message : Message) (h : Header) → header_of message ≡ h → header_fault h ≡ None → h.a < 2 ^ 32 → h.b < 2 ^ 32 → HasSizes message → IsMessage message
message_is message h is none a_fits b_fits sizes = record {
  faultless = ap header_fault is ∙ none;
  a_fits = subst (λ g. g.a < 2 ^ 32) (sym is) a_fits;
  b_fits = subst (λ g. g.b < 2 ^ 32) (sym is) b_fits;
  sizes = sizes;
}

-- the spelling of a message that stands at the head of a text
pub comes_by : (message : Message) (more bytes : List ℕ) → 12 ≤ length bytes → AreBytes bytes → header_of message ≡ header_at bytes → payload_of message ++ more ≡ drop 12 bytes → spelling message ++ more ≡ bytes
comes_by message more bytes long small is goes =
    append_assoc (header_bytes (header_of message)) (payload_of message) more
    ∙ ap (λ h. header_bytes h ++ (payload_of message ++ more)) is
    ∙ ap (λ l. header_bytes (header_at bytes) ++ l) goes
    ∙ header_spells bytes long small

pub record Comes (bytes : List ℕ) : Type 0 where
  pub message : Message
  pub more : List ℕ
  pub is : IsMessage message
  pub spelled : spelling message ++ more ≡ bytes

short_bytes : (bytes : List ℕ) → rest_of bytes ≡ whole → 12 ≤ length bytes
short_bytes bytes w = elim (cases_lt (length bytes) 12) [ inl few ↦ let f : short ≡ whole = sym (rest_short bytes few) ∙ w in absurd (cc) | inr long ↦ long ]

faultless_of : (f : Option FrameFault) (h : Header) (n : ℕ) → rest_after f h n ≡ whole → f ≡ None
faultless_of (Some fault) h n e = absurd (cc)
faultless_of None h n e = refl

full_by : (b : Bool) (m size index len : ℕ) → (if b then unfinished m size index len else whole) ≡ whole → b ≡ false
full_by true m size index len e = absurd (cc)
full_by false m size index len e = refl

and_false : (b c : Bool) → (b && c) ≡ false → b ≡ true → c ≡ false
and_false true c e t = e
and_false false c e t = absurd (cc)

comes : (bytes : List ℕ) → AreBytes bytes → rest_of bytes ≡ whole → Comes bytes
comes bytes small w =
    let long : 12 ≤ length bytes = short_bytes bytes w in
    let h = header_at bytes in let d = drop 12 bytes in
    let after : rest_after (header_fault h) h (length d) ≡ whole = sym (rest_long bytes long) ∙ w in
    let none : header_fault h ≡ None = faultless_of (header_fault h) h (length d) after in
    let full : (is_page h.kind && nat_lt (length d) h.b) ≡ false = full_by _ _ _ _ _ (ap (λ f. rest_after f h (length d)) (sym none) ∙ after) in
    let fits = header_fits bytes small in
    let opens = λ (kind : (h.kind ≡ 1) ⊎ (h.kind ≡ 4)).
    let message = open_message h.«module» (opened h) in
    let found : Comes bytes = record { message = message; more = d; is = message_is message h (open_is h none kind) none fits.0 fits.1 (open_sizes h none); spelled = comes_by message d bytes long small (open_is h none kind) refl } in
    found
    in
    elim (sound h none).kind [
      | inl two ↦
          let enough : h.b ≤ length d = ltb-false (length d) h.b (and_false (is_page h.kind) (nat_lt (length d) h.b) full (paging h.kind two)) in
          let len : length (take h.b d) ≡ h.b = omega (arith, length-take h.b d) in
          let message = page_message h.«module» (size_by h.kind) h.a (take h.b d) in
          let is : header_of message ≡ h = ap (λ n. page_header h.«module» (size_by h.kind) h.a n) len ∙ page_is h none two in
          record { message = message; more = drop h.b d; is = message_is message h is none fits.0 fits.1 (size_is h.kind two); spelled = comes_by message (drop h.b d) bytes long small is (take-append-drop h.b d) }
      | inr other ↦ elim other [
        | inl one ↦ opens (inl one)
        | inr last ↦ elim last [
          | inl three ↦ let message = close_message h.«module» in
              record { message = message; more = d; is = message_is message h (close_is h none three) none fits.0 fits.1 tt; spelled = comes_by message d bytes long small (close_is h none three) refl }
          | inr four ↦ opens (inr four)
        ]
      ]
    ]

whole_or : (r : Rest) → (r ≡ whole) ⊎ (r ≢ whole)
whole_or short = inr (λ e. absurd (cc))
whole_or (faulty fault) = inr (λ e. absurd (cc))
whole_or (unfinished m size index len) = inr (λ e. absurd (cc))
whole_or whole = inl refl

spelling_long : (message : Message) → 12 ≤ length (spelling message)
spelling_long message = long_by (header_of message) (payload_of message)

tail_small : (xs ys : List ℕ) → AreBytes (xs ++ ys) → AreBytes ys
tail_small [] ys small = small
tail_small (x ∷ xs) ys small = tail_small xs ys (λ i. small (suc i))

pub cut_within : (n : ℕ) (bytes : List ℕ) → length bytes < n → AreBytes bytes → (messages : List Message) × (rest : List ℕ) × Cut bytes messages rest
cut_within zero bytes few small = absurd (omega arith)
cut_within (suc n) bytes few small = elim (whole_or (rest_of bytes)) [
  | inr stops ↦ ([], bytes, record { spelled = refl; each = All-nil IsMessage; stops = stops })
  | inl w ↦
      let first = comes bytes small w in
      let long = spelling_long first.message in
      let counts : length (spelling first.message) + length first.more ≡ length bytes = sym (length-append (spelling first.message) first.more) ∙ ap length first.spelled in
      let rest = cut_within n first.more (omega arith) (tail_small (spelling first.message) first.more (subst AreBytes (sym first.spelled) small)) in (
        first.message ∷ rest.0,
        rest.1,
        record {
          spelled = sym first.spelled ∙ ap (λ l. spelling first.message ++ l) rest.2.spelled ∙ sym (append_assoc (spelling first.message) (flat_map spelling rest.0) rest.1);
          each = All-cons IsMessage first.message rest.0 first.is rest.2.each;
          stops = rest.2.stops;
        },
      )
]

pub header_stays : (bs more : List ℕ) → 12 ≤ length bs → header_at (bs ++ more) ≡ header_at bs
header_stays [] more long = absurd (omega arith)
header_stays (a ∷ []) more long = absurd (omega arith)
header_stays (a ∷ b ∷ []) more long = absurd (omega arith)
header_stays (a ∷ b ∷ c ∷ []) more long = absurd (omega arith)
header_stays (a ∷ b ∷ c ∷ d ∷ []) more long = absurd (omega arith)
header_stays (a ∷ b ∷ c ∷ d ∷ e ∷ []) more long = absurd (omega arith)
header_stays (a ∷ b ∷ c ∷ d ∷ e ∷ f ∷ []) more long = absurd (omega arith)
header_stays (a ∷ b ∷ c ∷ d ∷ e ∷ f ∷ g ∷ []) more long = absurd (omega arith)
header_stays (a ∷ b ∷ c ∷ d ∷ e ∷ f ∷ g ∷ h ∷ []) more long = absurd (omega arith)
header_stays (a ∷ b ∷ c ∷ d ∷ e ∷ f ∷ g ∷ h ∷ i ∷ []) more long = absurd (omega arith)
header_stays (a ∷ b ∷ c ∷ d ∷ e ∷ f ∷ g ∷ h ∷ i ∷ j ∷ []) more long = absurd (omega arith)
header_stays (a ∷ b ∷ c ∷ d ∷ e ∷ f ∷ g ∷ h ∷ i ∷ j ∷ k ∷ []) more long = absurd (omega arith)
header_stays (a ∷ b ∷ c ∷ d ∷ e ∷ f ∷ g ∷ h ∷ i ∷ j ∷ k ∷ l ∷ rest) more long = refl

fault_of : (f : Option FrameFault) (h : Header) (n : ℕ) (fault : FrameFault) → rest_after f h n ≡ faulty fault → f ≡ Some fault
fault_of (Some first) h n fault e = cc
fault_of None h n fault e = elim (b_or (is_page h.kind && nat_lt n h.b)) [
  | inl t ↦ (let u : unfinished h.«module» (size_by h.kind) h.a h.b ≡ faulty fault = sym (ap (λ b. if b then unfinished h.«module» (size_by h.kind) h.a h.b else whole) t) ∙ e in absurd (cc))
  | inr f ↦ (let u : whole ≡ faulty fault = sym (ap (λ b. if b then unfinished h.«module» (size_by h.kind) h.a h.b else whole) f) ∙ e in absurd (cc))
]
  where
    b_or : (b : Bool) → (b ≡ true) ⊎ (b ≡ false)
    b_or true = inl refl
    b_or false = inr refl

pub rest_stays : (rest more : List ℕ) (fault : FrameFault) → rest_of rest ≡ faulty fault → rest_of (rest ++ more) ≡ faulty fault
rest_stays rest more fault e = elim (cases_lt (length rest) 12) [
  | inl few ↦ (let f : short ≡ faulty fault = sym (rest_short rest few) ∙ e in absurd (cc))
  | inr long ↦
      let shows : header_fault (header_at rest) ≡ Some fault = fault_of (header_fault (header_at rest)) (header_at rest) (length (drop 12 rest)) fault (sym (rest_long rest long) ∙ e) in
      let grown : header_fault (header_at (rest ++ more)) ≡ Some fault = ap header_fault (header_stays rest more long) ∙ shows in
      rest_long (rest ++ more) (omega (arith, length-append rest more)) ∙ ap (λ f. rest_after f (header_at (rest ++ more)) (length (drop 12 (rest ++ more)))) grown
]

pub fault_stays : (bytes rest more : List ℕ) (messages : List Message) (fault : FrameFault) → Cut bytes messages rest → rest_of rest ≡ faulty fault → Cut (bytes ++ more) messages (rest ++ more) × (rest_of (rest ++ more) ≡ faulty fault)
fault_stays bytes rest more messages fault cut e =
    let stays = rest_stays rest more fault e in (
      record {
        spelled = ap (λ l. l ++ more) cut.spelled ∙ append_assoc (flat_map spelling messages) rest more;
        each = cut.each;
        stops = λ w. (let f : faulty fault ≡ whole = sym stays ∙ w in absurd (cc));
      },
      stays,
    )
