-- What a feed stands for after a call.
use Rattle.std.proofs.Common.{zero, suc, ◌≡◌, ◌≢◌, ℕ, ◌-◌, ◌<◌, ◌≤◌, List, [], ◌∷◌, ◌++◌, length, take, drop, inl, inr, refl, sym, ◌∙◌, ap, subst, arith, lit<, ◌⊎◌, append_assoc, length-append, flat_map}
use Rattle.std.specs.Prelude.{Option, Some, None, Ok, Err, Bool, true, false, ◌==◌, ◌&&◌, nat_lt, if◌then◌else◌, All}
use Rattle.std.proofs.lemmas.List.{append-nil, length-take, length-drop}
use Rattle.std.proofs.lemmas.List.Elements.{All-push}
use Rattle.std.proofs.lemmas.Bool.{eqb-true, lt-ltb}
use Rattle.std.proofs.lemmas.Bool.Decides.{eqb_tells}
use Rattle.lfi_frame.specs.declared.header.Header.{Header}
use Rattle.lfi_frame.specs.declared.fault.FrameFault.{FrameFault}
use Rattle.lfi_frame.specs.declared.fault.FrameFault.TheVariants.{Kind, SecondByte, Module, PageLength, CloseNumbers, WordCount, Entry, NoMemory, Ended, ReadFailed}
use Rattle.lfi_frame.specs.declared.feed.Feed.{Feed}
use Rattle.lfi_frame.specs.declared.answer.Got.{Got}
use Rattle.lfi_frame.specs.declared.answer.Got.TheVariants.{Open, Page, Payload, Close}
use Rattle.lfi_frame.specs.declared.feed.Position.{Position}
use Rattle.lfi_frame.specs.declared.feed.Position.TheVariants as position
use Rattle.lfi_frame.specs.inner.Positions.{is_between}
use Rattle.lfi_frame.specs.Streams.{Cut, AreBytes, Message, open_message, page_message, close_message, is_open, page_kind, is_page, size_by, header_of, payload_of, spelling, header_at, header_bytes, header_fault, IsMessage, short, faulty, unfinished, whole, rest_after, rest_of}
use Rattle.lfi_frame.specs.Feeds.{IsAtEnd, fault_at, page_header, IsInPage, IsSeen, IsAt, FeedStands, IsTold, opened, got_by, answer_by, answer_to, position_by, position_after}
use Rattle.lfi_frame.proofs.Headers.{header_spells, header_fits, sound, IsPaging, paging}
use Rattle.lfi_frame.proofs.Cuts.{rest_long, rest_short, rest_spelled, page_is, size_is, page_paging, size_back, open_sizes, open_is, close_is, message_is, comes_by, long_by}

-- inside a page

len_fits : {rest : List ℕ} {left : ℕ} (p : IsInPage rest left) → p.len ≤ 16384
len_fits p =
    let most = (sound (page_header p.m p.size p.index p.len) p.faultless).few (page_paging p.size p.sized) in
    let same = size_back p.size p.sized in
    elim p.sized [ inl small ↦ omega arith | inr large ↦ omega arith ]

pub page_rest : (rest : List ℕ) (left : ℕ) (p : IsInPage rest left) → rest_of rest ≡ unfinished p.m p.size p.index p.len
page_rest rest left p =
    let few : length p.payload < p.len = omega (arith, p.to_come, p.unended) in
    let is = page_paging p.size p.sized in
    let most = len_fits p in
    ap rest_of p.spelled
    ∙ rest_spelled (page_header p.m p.size p.index p.len) p.payload p.faultless p.index_fits (omega arith)
    ∙ ap (λ b. if b && nat_lt (length p.payload) p.len then unfinished p.m (size_by (page_kind p.size)) p.index p.len else whole) (paging (page_kind p.size) is)
    ∙ ap (λ b. if b then unfinished p.m (size_by (page_kind p.size)) p.index p.len else whole) (lt-ltb (length p.payload) p.len few)
    ∙ ap (λ s. unfinished p.m s p.index p.len) (size_back p.size p.sized)

pub page_long : (rest : List ℕ) (left : ℕ) → IsInPage rest left → 12 ≤ length rest
page_long rest left p = subst (λ l. 12 ≤ length l) (sym p.spelled) (long_by (page_header p.m p.size p.index p.len) p.payload)

abbrev pub page_goes : (rest used : List ℕ) (left : ℕ) → IsInPage rest left → length used < left → IsInPage (rest ++ used) (left - length used)
page_goes rest used left p few = record {
  m = p.m;
  size = p.size;
  index = p.index;
  len = p.len;
  payload = p.payload ++ used;
  spelled = ap (λ l. l ++ used) p.spelled ∙ append_assoc (header_bytes (page_header p.m p.size p.index p.len)) p.payload used;
  faultless = p.faultless;
  sized = p.sized;
  index_fits = p.index_fits;
  to_come = omega (arith, length-append p.payload used, p.to_come);
  unended = omega arith;
}

pub page_message_of : (rest used : List ℕ) (left : ℕ) → IsInPage rest left → Message
page_message_of rest used left p = page_message p.m p.size p.index (p.payload ++ used)

page_ends : (rest used : List ℕ) (left : ℕ) (p : IsInPage rest left) → length used ≡ left → IsMessage (page_message p.m p.size p.index (p.payload ++ used)) × (rest ++ used ≡ spelling (page_message p.m p.size p.index (p.payload ++ used)))
page_ends rest used left p all =
    let len : length (p.payload ++ used) ≡ p.len = omega (arith, length-append p.payload used, p.to_come) in
    let most = len_fits p in
    let is : page_header p.m p.size p.index (length (p.payload ++ used)) ≡ page_header p.m p.size p.index p.len = ap (λ n. page_header p.m p.size p.index n) len in (
      message_is (page_message p.m p.size p.index (p.payload ++ used)) (page_header p.m p.size p.index p.len) is p.faultless p.index_fits (omega arith) p.sized,
      ap (λ l. l ++ used) p.spelled ∙ append_assoc (header_bytes (page_header p.m p.size p.index p.len)) p.payload used ∙ ap (λ h. header_bytes h ++ (p.payload ++ used)) (sym is),
    )

-- a feed between two messages
between : (new : Feed) (messages : List Message) (message : Message) → new.position ≡ position.Header 0 → All IsMessage messages → IsMessage message → FeedStands new (messages ++ message ∷ []) []
between new messages message at_start each is = record {
  each = All-push IsMessage messages message each is;
  position = subst (λ p. IsAt new.held p []) (sym at_start) (lit< tt, refl, λ i. lit< tt);
}

payload_by : (b : Bool) (left used : ℕ) (new : Feed) (messages : List Message) (rest : List ℕ) (bytes : List ℕ) → length bytes ≡ used → used ≤ left → ((b ≡ true) × (left - used ≡ 0)) ⊎ ((b ≡ false) × (left - used ≢ 0)) → new.position ≡ (if b then position.Header 0 else position.Payload (left - used)) → All IsMessage messages → IsInPage rest left → IsTold (Payload b) new messages rest bytes
payload_by true left used new messages rest bytes len most test is each p =
    let all : length bytes ≡ left = elim test [ inl t ↦ (let z = t.1 in omega arith) | inr f ↦ (let no_path : true ≡ false = f.0 in absurd (cc)) ] in
    let e = page_ends rest bytes left p all in
    let told = between new messages (page_message p.m p.size p.index (p.payload ++ bytes)) is each e.0 in
    let payload : p.payload ≡ drop 12 rest = sym (ap (λ l. drop 12 l) p.spelled) in (
      p.m,
      p.size,
      p.index,
      p.len,
      page_rest rest left p,
      subst (λ l. rest ++ bytes ≡ spelling (page_message p.m p.size p.index (l ++ bytes))) payload e.1,
      subst (λ l. FeedStands new (messages ++ page_message p.m p.size p.index (l ++ bytes) ∷ []) []) payload told,
    )
payload_by false left used new messages rest bytes len most test is each p =
    let few : length bytes < left = elim test [ inl t ↦ (let no_path : false ≡ true = t.0 in absurd (cc)) | inr f ↦ (let z : left - used ≢ 0 = f.1 in omega arith) ] in
    let goes : IsInPage (rest ++ bytes) (left - length bytes) = page_goes rest bytes left p few in (
      p.m,
      p.size,
      p.index,
      p.len,
      page_rest rest left p,
      page_rest (rest ++ bytes) (left - length bytes) goes,
      record { each = each; position = subst (λ q. IsAt new.held q (rest ++ bytes)) (sym is) (subst (λ n. IsInPage (rest ++ bytes) (left - n)) len goes) },
    )

-- what a call tells inside a page
pub payload_told : (old new : Feed) (left used : ℕ) (piece : List ℕ) (messages : List Message) (rest : List ℕ) → old.position ≡ position.Payload left → used ≤ length piece → used ≤ left → new.position ≡ (if left - used == 0 then position.Header 0 else position.Payload (left - used)) → FeedStands old messages rest → IsTold (Payload (left - used == 0)) new messages rest (take used piece)
payload_told old new left used piece messages rest was within most is stands =
    payload_by (left - used == 0) left used new messages rest (take used piece) (omega (arith, length-take used piece)) most (eqb_tells (left - used) 0) is stands.each (subst (λ p. IsAt old.held p rest) was stands.position)

-- after a header

faulty_seen : (fault : FrameFault) (rest : List ℕ) → rest_of rest ≡ faulty fault → IsSeen fault rest
faulty_seen NoMemory rest e = λ w. let f : faulty NoMemory ≡ whole = sym e ∙ w in absurd (cc)
faulty_seen ReadFailed rest e = λ w. let f : faulty ReadFailed ≡ whole = sym e ∙ w in absurd (cc)
faulty_seen Ended rest e = (λ n. let f : short ≡ faulty Ended = sym (ap rest_of n) ∙ e in absurd (cc), λ w. let f : faulty Ended ≡ whole = sym e ∙ w in absurd (cc))
faulty_seen Kind rest e = e
faulty_seen SecondByte rest e = e
faulty_seen Module rest e = e
faulty_seen PageLength rest e = e
faulty_seen CloseNumbers rest e = e
faulty_seen WordCount rest e = e
faulty_seen Entry rest e = e

pub nothing_after : (text : List ℕ) → length text ≡ 12 → drop 12 text ≡ []
nothing_after text twelve = empty_is (drop 12 text) (omega (arith, length-drop 12 text))
  where
    empty_is : (xs : List ℕ) → length xs ≡ 0 → xs ≡ []
    empty_is [] e = refl
    empty_is (x ∷ xs) e = absurd (omega arith)

module _ (new : Feed) (messages : List Message) (rest used : List ℕ) (each : All IsMessage messages) (twelve : length (rest ++ used) ≡ 12) (small : AreBytes (rest ++ used)) where
  abbrev text : List ℕ
  text = rest ++ used

  abbrev h : Header
  h = header_at (rest ++ used)

  spelled : (message : Message) → header_of message ≡ h → payload_of message ≡ [] → rest ++ used ≡ spelling message
  spelled message is empty = sym (sym (append-nil (spelling message)) ∙ comes_by message [] (rest ++ used) (omega arith) small is (append-nil (payload_of message) ∙ empty ∙ sym (nothing_after (rest ++ used) twelve)))

  abbrev in_page : header_fault h ≡ None → IsPaging h.kind → IsInPage (rest ++ used) h.b
  in_page none two =
      let is = page_is h none two in let fits = header_fits (rest ++ used) small in
      record {
        m = h.«module»;
        size = size_by h.kind;
        index = h.a;
        len = h.b;
        payload = [];
        spelled = sym (header_spells (rest ++ used) (omega arith) small) ∙ ap (λ l. header_bytes h ++ l) (nothing_after (rest ++ used) twelve) ∙ ap (λ g. header_bytes g ++ []) (sym is);
        faultless = ap header_fault is ∙ none;
        sized = size_is h.kind two;
        index_fits = fits.0;
        to_come = omega arith;
        unended = (sound h none).some two;
      }

  opened_told : (got : Got) → header_fault h ≡ None → got ≡ got_by h → new.position ≡ position_by None h → (h.kind ≡ 1) ⊎ (h.kind ≡ 4) → IsTold got new messages rest used
  opened_told got none brings is kind =
      let fits = header_fits (rest ++ used) small in
      let message = open_message h.«module» (opened h) in
      let g : got ≡ Open h.«module» (opened h) = brings ∙ brought h.kind kind in
      let p : new.position ≡ position.Header 0 = is ∙ put h.kind kind in
      subst (λ g. IsTold g new messages rest used) (sym g) (between new messages message p each (message_is message h (open_is h none kind) none fits.0 fits.1 (open_sizes h none)), spelled message (open_is h none kind) refl)
    where
      brought : (k : ℕ) → (k ≡ 1) ⊎ (k ≡ 4) → (if is_page k then Page h.«module» (size_by k) h.a h.b else if is_open k then Open h.«module» (opened h) else Close h.«module») ≡ Open h.«module» (opened h)
      brought k (inl one) = ap (λ k. if is_page k then Page h.«module» (size_by k) h.a h.b else if is_open k then Open h.«module» (opened h) else Close h.«module») one
      brought k (inr four) = ap (λ k. if is_page k then Page h.«module» (size_by k) h.a h.b else if is_open k then Open h.«module» (opened h) else Close h.«module») four

      put : (k : ℕ) → (k ≡ 1) ⊎ (k ≡ 4) → (if is_page k then position.Payload h.b else position.Header 0) ≡ position.Header 0
      put k (inl one) = ap (λ k. if is_page k then position.Payload h.b else position.Header 0) one
      put k (inr four) = ap (λ k. if is_page k then position.Payload h.b else position.Header 0) four

  sound_told : (got : Got) → header_fault h ≡ None → got ≡ got_by h → new.position ≡ position_by None h → IsTold got new messages rest used
  sound_told got none brings is =
      let fits = header_fits (rest ++ used) small in
      elim (sound h none).kind [
        | inl two ↦
            let page = in_page none two in
            let b = paging h.kind two in
            let g : got ≡ Page h.«module» (size_by h.kind) h.a h.b = brings ∙ ap (λ b. if b then Page h.«module» (size_by h.kind) h.a h.b else if is_open h.kind then Open h.«module» (opened h) else Close h.«module») b in
            let p : new.position ≡ position.Payload h.b = is ∙ ap (λ b. if b then position.Payload h.b else position.Header 0) b in
            subst (λ g. IsTold g new messages rest used) (sym g) (record { each = each; position = subst (λ q. IsAt new.held q (rest ++ used)) (sym p) page }, twelve, page_rest (rest ++ used) h.b page)
        | inr other ↦ elim other [
          | inl one ↦ opened_told got none brings is (inl one)
          | inr last ↦ elim last [
            | inr four ↦ opened_told got none brings is (inr four)
            | inl three ↦
                let message = close_message h.«module» in
                let g : got ≡ Close h.«module» = brings ∙ ap (λ k. if is_page k then Page h.«module» (size_by k) h.a h.b else if is_open k then Open h.«module» (opened h) else Close h.«module») three in
                let p : new.position ≡ position.Header 0 = is ∙ ap (λ k. if is_page k then position.Payload h.b else position.Header 0) three in
                subst (λ g. IsTold g new messages rest used) (sym g) (between new messages message p each (message_is message h (close_is h none three) none fits.0 fits.1 tt), spelled message (close_is h none three) refl)
          ]
        ]
      ]

  told_by : (f : Option FrameFault) (got : Got) → header_fault h ≡ f → Ok got ≡ answer_by f h → new.position ≡ position_by f h → IsTold got new messages rest used
  told_by (Some fault) got e answer is = absurd (cc)
  told_by None got e answer is = sound_told got e (cc) is

  pub header_told : (got : Got) → Ok got ≡ answer_to h → new.position ≡ position_after h → IsTold got new messages rest used
  header_told got answer is = told_by (header_fault h) got refl answer is

  failed_by : (f : Option FrameFault) (fault : FrameFault) → header_fault h ≡ f → Err fault ≡ answer_by f h → new.position ≡ position_by f h → FeedStands new messages (rest ++ used) × (rest_of (rest ++ used) ≡ faulty fault)
  failed_by None fault e answer is = absurd (cc)
  failed_by (Some first) fault e answer is =
      let same : first ≡ fault = cc in
      let shows : rest_of (rest ++ used) ≡ faulty first = rest_long (rest ++ used) (omega arith) ∙ ap (λ f. rest_after f h (length (drop 12 (rest ++ used)))) e in
      (record { each = each; position = subst (λ q. IsAt new.held q (rest ++ used)) (sym is) (faulty_seen first (rest ++ used) shows) }, shows ∙ ap faulty same)

  pub header_failed : (fault : FrameFault) → Err fault ≡ answer_to h → new.position ≡ position_after h → FeedStands new messages (rest ++ used) × ((rest_of (rest ++ used) ≡ faulty fault) ⊎ (used ≡ []))
  header_failed fault answer is = let f = failed_by (header_fault h) fault refl answer is in (f.0, inl f.1)

pub not_eqb : (a b : ℕ) → a ≢ b → (a == b) ≡ false
not_eqb a b n = elim (eqb_tells a b) [ inl t ↦ absurd (n t.1) | inr f ↦ f.0 ]

front_small : (n : ℕ) (xs : List ℕ) → AreBytes xs → AreBytes (take n xs)
front_small zero xs small i = lit< tt
front_small (suc n) [] small i = lit< tt
front_small (suc n) (x ∷ xs) small zero = small 0
front_small (suc n) (x ∷ xs) small (suc i) = front_small n xs (λ j. small (suc j)) i

pub joined_small : (xs ys : List ℕ) (n : ℕ) → AreBytes xs → AreBytes ys → AreBytes (xs ++ take n ys)
joined_small [] ys n small more i = front_small n ys more i
joined_small (x ∷ xs) ys n small more zero = small 0
joined_small (x ∷ xs) ys n small more (suc i) = joined_small xs ys n (λ j. small (suc j)) more i

-- at the end of the input

not_whole : (rest : List ℕ) → length rest < 12 → rest_of rest ≢ whole
not_whole rest few w = let f : short ≡ whole = sym (rest_short rest few) ∙ w in absurd (cc)

take_some : (n : ℕ) (xs : List ℕ) → length (take n xs) ≤ n
take_some n xs = omega (arith, length-take n xs)

some_held : (filled : ℕ) (held rest : List ℕ) → 12 ≤ length held → (filled == 0) ≡ false → filled < 12 → rest ≡ take filled held → rest ≢ []
some_held filled held rest long some few is none =
    let l : length rest ≡ length (take filled held) = ap length is in
    let z : length rest ≡ 0 = ap length none in
    elim (eqb_tells filled 0) [
      | inl t ↦ (let no_path : true ≡ false = sym t.0 ∙ some in absurd (cc))
      | inr f ↦ (let nonzero : filled ≢ 0 = f.1 in absurd (omega (arith, length-take filled held)))
    ]

inside_rest : (p : Position) (held rest : List ℕ) → 12 ≤ length held → ((fault : FrameFault) → p ≡ position.Faulty fault → ⊥) → is_between p ≡ false → IsAt held p rest → (rest ≢ []) × (rest_of rest ≢ whole)
inside_rest (position.Header filled) held rest long going inside at_position = (
  some_held filled held rest long inside at_position.0 at_position.1,
  not_whole rest (let few = at_position.0 in subst (λ l. length l < 12) (sym at_position.1) (let t = take_some filled held in omega arith)),
)
inside_rest (position.Payload left) held rest long going inside at_position = (
  λ n. (let e : length rest ≡ 0 = ap length n in let l = page_long rest left at_position in absurd (omega arith)),
  λ w. (let f : unfinished at_position.m at_position.size at_position.index at_position.len ≡ whole = sym (page_rest rest left at_position) ∙ w in absurd (cc)),
)
inside_rest (position.Faulty fault) held rest long going inside at_position = absurd (going fault refl)

told_end : (p : Position) (rest : List ℕ) → ((fault : FrameFault) → p ≡ position.Faulty fault → ⊥) → rest ≢ [] → IsAtEnd (fault_at p) rest (Err Ended)
told_end (position.Header filled) rest going some = (some, refl)
told_end (position.Payload left) rest going some = (some, refl)
told_end (position.Faulty fault) rest going some = absurd (going fault refl)

pub ended_inside : (old new : Feed) (messages : List Message) (rest : List ℕ) → 12 ≤ length old.held → ((fault : FrameFault) → old.position ≡ position.Faulty fault → ⊥) → is_between old.position ≡ false → new.position ≡ position.Faulty Ended → FeedStands old messages rest → FeedStands new messages rest × IsAtEnd (fault_at old.position) rest (Err Ended)
ended_inside old new messages rest long going inside is stands =
    let e = inside_rest old.position old.held rest long going inside stands.position in
    (record { each = stands.each; position = subst (λ p. IsAt new.held p rest) (sym is) (e.0, e.1) }, told_end old.position rest going e.0)

empty_by : (p : Position) (held rest : List ℕ) → is_between p ≡ true → IsAt held p rest → IsAtEnd (fault_at p) rest (Ok tt)
empty_by (position.Header filled) held rest t at_position = at_position.1 ∙ ap (λ n. take n held) (eqb-true filled 0 t)
empty_by (position.Payload left) held rest t at_position = absurd (cc)
empty_by (position.Faulty fault) held rest t at_position = absurd (cc)

pub ended_between : (old : Feed) (messages : List Message) (rest : List ℕ) → is_between old.position ≡ true → FeedStands old messages rest → FeedStands old messages rest × IsAtEnd (fault_at old.position) rest (Ok tt)
ended_between old messages rest t stands = (stands, empty_by old.position old.held rest t stands.position)

-- what a feed stands for is cut
not_seen : (fault : FrameFault) (rest : List ℕ) → IsSeen fault rest → rest_of rest ≢ whole
not_seen NoMemory rest s = s
not_seen ReadFailed rest s = s
not_seen Ended rest s = s.1
not_seen Kind rest s = λ w. let f : faulty Kind ≡ whole = sym s ∙ w in absurd (cc)
not_seen SecondByte rest s = λ w. let f : faulty SecondByte ≡ whole = sym s ∙ w in absurd (cc)
not_seen Module rest s = λ w. let f : faulty Module ≡ whole = sym s ∙ w in absurd (cc)
not_seen PageLength rest s = λ w. let f : faulty PageLength ≡ whole = sym s ∙ w in absurd (cc)
not_seen CloseNumbers rest s = λ w. let f : faulty CloseNumbers ≡ whole = sym s ∙ w in absurd (cc)
not_seen WordCount rest s = λ w. let f : faulty WordCount ≡ whole = sym s ∙ w in absurd (cc)
not_seen Entry rest s = λ w. let f : faulty Entry ≡ whole = sym s ∙ w in absurd (cc)

stops_at : (p : Position) (held rest : List ℕ) → IsAt held p rest → rest_of rest ≢ whole
stops_at (position.Header filled) held rest at_position = not_whole rest (let few = at_position.0 in subst (λ l. length l < 12) (sym at_position.1) (let t = take_some filled held in omega arith))
stops_at (position.Payload left) held rest at_position = λ w. (let f : unfinished at_position.m at_position.size at_position.index at_position.len ≡ whole = sym (page_rest rest left at_position) ∙ w in absurd (cc))
stops_at (position.Faulty fault) held rest at_position = not_seen fault rest at_position

pub stands_cut : (feed : Feed) (messages : List Message) (rest : List ℕ) → FeedStands feed messages rest → Cut (flat_map spelling messages ++ rest) messages rest
stands_cut feed messages rest stands = record { spelled = refl; each = stands.each; stops = stops_at feed.position feed.held rest stands.position }

-- a feed that is stopped for what its bytes don't show
pub stopped : (old new : Feed) (fault : FrameFault) (messages : List Message) (rest : List ℕ) → (fault ≡ NoMemory) ⊎ (fault ≡ ReadFailed) → new.position ≡ position.Faulty fault → FeedStands old messages rest → FeedStands new messages rest
stopped old new fault messages rest (inl memory) is stands = record { each = stands.each; position = subst (λ p. IsAt new.held p rest) (sym (is ∙ ap position.Faulty memory)) (stops_at old.position old.held rest stands.position) }
stopped old new fault messages rest (inr read) is stands = record { each = stands.each; position = subst (λ p. IsAt new.held p rest) (sym (is ∙ ap position.Faulty read)) (stops_at old.position old.held rest stands.position) }
