-- How a text goes on when bytes come.
use Rattle.std.proofs.Common.{zero, suc, ◌≡◌, ◌≢◌, ℕ, ◌<◌, ◌≤◌, ◌^◌, List, [], ◌∷◌, ◌++◌, length, drop, take, Option, Some, None, refl, sym, ◌∙◌, ap, subst, inl, inr, arith, Bool, true, false, if◌then◌else◌, length-append, flat_map}
use Rattle.std.specs.Prelude.{nat_lt, ◌&&◌, Result, Ok, Err, All}
use Rattle.std.proofs.lemmas.List.{append-nil}
use Rattle.std.proofs.lemmas.Grind.{flat_map-append}
use Rattle.std.proofs.lemmas.Bool.{cases_lt, ltb-true}
use Rattle.std.proofs.lemmas.List.Elements.{All-head, All-tail}
use Rattle.lfi_frame.specs.declared.fault.FrameFault.{FrameFault}
use Rattle.lfi_frame.specs.declared.header.Header.{Header}
use Rattle.lfi_frame.specs.declared.answer.Step.{Step}
use Rattle.lfi_frame.specs.declared.answer.Got.TheVariants.{More}
use Rattle.lfi_frame.specs.Streams.{Message, IsMessage, header_of, header_at, header_fault, spelling, page_message, is_page, size_by, short, unfinished, whole, rest_of, rest_after}
use Rattle.lfi_frame.proofs.Cuts.{rest_short, rest_long, header_stays}
use Rattle.lfi_frame.proofs.Headers.{sound, header_back}

pub drop_append_left : (n : ℕ) (xs ys : List ℕ) → n ≤ length xs → drop n (xs ++ ys) ≡ drop n xs ++ ys
drop_append_left zero xs ys h = refl
drop_append_left (suc n) [] ys h = absurd (omega arith)
drop_append_left (suc n) (x ∷ xs) ys h = drop_append_left n xs ys (omega arith)

-- a text that ends in a page's header and some of its payload has fewer payload bytes than are due
unfinished_by : (o : Option FrameFault) (h : Header) (l m size index len : ℕ) → rest_after o h l ≡ unfinished m size index len → l < len
unfinished_by (Some fault) h l m size index len e = absurd (cc)
unfinished_by None h l m size index len e = by (is_page h.kind) (nat_lt l h.b) refl e
  where
    by : (a b : Bool) → nat_lt l h.b ≡ b → (if a && b then unfinished h.«module» (size_by h.kind) h.a h.b else whole) ≡ unfinished m size index len → l < len
    by true true t e = let same : h.b ≡ len = cc in subst (λ z. l < z) same (ltb-true l h.b t)
    by true false t e = absurd (cc)
    by false b t e = absurd (cc)

pub unfinished_long : (text : List ℕ) (m size index len : ℕ) → rest_of text ≡ unfinished m size index len → (12 ≤ length text) × (length (drop 12 text) < len)
unfinished_long text m size index len e = elim (cases_lt (length text) 12) [
  | inl less ↦ absurd (let s = rest_short text less in cc)
  | inr enough ↦ (enough, unfinished_by (header_fault (header_at text)) (header_at text) (length (drop 12 text)) m size index len (sym (rest_long text enough) ∙ e))
]

-- payload bytes after which more are to come
pub payload_within : (rest used : List ℕ) (m size index len : ℕ) → rest_of rest ≡ unfinished m size index len → rest_of (rest ++ used) ≡ unfinished m size index len → length (drop 12 rest ++ used) < len
payload_within rest used m size index len is is' =
    let before = (unfinished_long rest m size index len is).0 in
    let after = (unfinished_long (rest ++ used) m size index len is').1 in
    let all : length (drop 12 (rest ++ used)) ≡ length (drop 12 rest ++ used) = ap length (drop_append_left 12 rest used before) in
    omega (arith, all, after)

not_short_by : (o : Option FrameFault) (h : Header) (l : ℕ) → rest_after o h l ≡ short → ⊥
not_short_by (Some fault) h l e = absurd (cc)
not_short_by None h l e = by (is_page h.kind && nat_lt l h.b) e
  where
    by : (b : Bool) → (if b then unfinished h.«module» (size_by h.kind) h.a h.b else whole) ≡ short → ⊥
    by true e = absurd (cc)
    by false e = absurd (cc)

not_short : (text : List ℕ) → 12 ≤ length text → rest_of text ≡ short → ⊥
not_short text long e = not_short_by (header_fault (header_at text)) (header_at text) (length (drop 12 text)) (sym (rest_long text long) ∙ e)

-- fewer bytes than a header
pub short_length : (text : List ℕ) → rest_of text ≡ short → length text < 12
short_length text is = elim (cases_lt (length text) 12) [
  | inl less ↦ less
  | inr enough ↦ absurd (not_short text enough is)
]

-- what came before fewer bytes than a header was fewer too
pub shorter : (rest used : List ℕ) → rest_of (rest ++ used) ≡ short → rest_of rest ≡ short
shorter rest used is = elim (cases_lt (length rest) 12) [
  | inl less ↦ rest_short rest less
  | inr enough ↦ absurd (not_short (rest ++ used) (let l = length-append rest used in omega arith) is)
]

-- some bytes were used
pub used_some : (n : ℕ) (piece : List ℕ) → piece ≢ [] → 0 < n → take n piece ≢ []
used_some zero piece some more e = absurd (omega arith)
used_some (suc n) [] some more e = some refl
used_some (suc n) (x ∷ piece) some more e = absurd (cc)

longer_some : (used : List ℕ) → used ≢ [] → 0 < length used
longer_some [] some = absurd (some refl)
longer_some (x ∷ used) some = omega arith

-- so what stood before a header's end was fewer bytes than one
pub short_before : (rest used : List ℕ) → used ≢ [] → length (rest ++ used) ≤ 12 → rest_of rest ≡ short
short_before rest used some long = let l = length-append rest used in let m = longer_some used some in rest_short rest (omega arith)

-- the answer to an empty piece
abbrev pub SameAnswer : Result Step (ℕ × FrameFault) → Type 0
SameAnswer answer = answer ≡ Ok (record { used = 0; got = More })

-- A call that brought something used some bytes.
pub some_used : (piece : List ℕ) (step : Step) → (piece ≢ [] → 0 < step.used) → (piece ≡ [] → SameAnswer (Ok step)) → step.got ≢ More → take step.used piece ≢ []
some_used [] step moves empty other = absurd (other (let e = empty refl in let got : step ≡ record { used = 0; got = More } = cc in ap (λ s. s.got) got))
some_used (x ∷ piece) step moves empty other = used_some step.used (x ∷ piece) (λ e. absurd (cc)) (moves (λ e. absurd (cc)))

pub fault_used : (piece : List ℕ) (n : ℕ) (fault : FrameFault) → (piece ≢ [] → 0 < n) → (piece ≡ [] → SameAnswer (Err (n, fault))) → take n piece ≢ []
fault_used [] n fault moves empty = absurd (let e = empty refl in cc)
fault_used (x ∷ piece) n fault moves empty = used_some n (x ∷ piece) (λ e. absurd (cc)) (moves (λ e. absurd (cc)))

pub last_is : (messages : List Message) (message : Message) → All IsMessage (messages ++ message ∷ []) → IsMessage message
last_is [] message h = All-head IsMessage message [] h
last_is (first ∷ messages) message h = last_is messages message (All-tail IsMessage first (messages ++ message ∷ []) h)

unfinished_b : (o : Option FrameFault) (h : Header) (l m size index len : ℕ) → rest_after o h l ≡ unfinished m size index len → h.b ≡ len
unfinished_b (Some fault) h l m size index len e = absurd (cc)
unfinished_b None h l m size index len e = by (is_page h.kind && nat_lt l h.b) e
  where
    by : (b : Bool) → (if b then unfinished h.«module» (size_by h.kind) h.a h.b else whole) ≡ unfinished m size index len → h.b ≡ len
    by true e = cc
    by false e = absurd (cc)

-- the whole payload has the length that its header told
pub whole_len : (rest used payload : List ℕ) (m size index len k : ℕ) → rest_of rest ≡ unfinished m size index len → rest ++ used ≡ spelling (page_message k size index payload) → IsMessage (page_message k size index payload) → length payload ≡ len
whole_len rest used payload m size index len k is spells sound_message =
    let long : 12 ≤ length rest = (unfinished_long rest m size index len is).0 in
    let h : Header = header_of (page_message k size index payload) in
    let below = (sound h sound_message.faultless).m_below in
    let there : header_at (rest ++ used) ≡ h = ap header_at spells ∙ header_back h payload (lt-trans below) sound_message.a_fits sound_message.b_fits in
    let here : header_at rest ≡ h = sym (header_stays rest used long) ∙ there in
    sym (ap (λ z. z.b) here) ∙ unfinished_b (header_fault (header_at rest)) (header_at rest) (length (drop 12 rest)) m size index len (sym (rest_long rest long) ∙ is)
  where
    lt-trans : {n : ℕ} → n < 16 → n < 2 ^ 16
    lt-trans h = omega arith

-- a text with one more whole message
pub whole_text : (messages : List Message) (message : Message) (rest used : List ℕ) → rest ++ used ≡ spelling message → flat_map spelling (messages ++ message ∷ []) ++ [] ≡ flat_map spelling messages ++ (rest ++ used)
whole_text messages message rest used spells =
    append-nil (flat_map spelling (messages ++ message ∷ [])) ∙ flat_map-append spelling messages (message ∷ []) ∙ ap (λ l. flat_map spelling messages ++ l) (append-nil (spelling message) ∙ sym spells)
