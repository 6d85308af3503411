-- The message with which a text begins.
use Rattle.std.proofs.Common.{◌≡◌, ◌≢◌, ℕ, ◌+◌, ◌<◌, ◌≤◌, ◌^◌, List, [], ◌∷◌, ◌++◌, length, take, drop, refl, sym, ◌∙◌, ap, subst, inl, inr, arith, length-append, append_assoc, flat_map, ◌⊎◌}
use Rattle.std.specs.Prelude.{Option, Some, None, Bool, true, false, ◌&&◌, ◌||◌, ◌==◌, nat_lt, if◌then◌else◌}
use Rattle.std.proofs.lemmas.List.{length-take, length-drop, take-append-drop}
use Rattle.std.proofs.lemmas.List.Concat.{flat_map-append}
use Rattle.std.proofs.lemmas.Bool.{cases_lt, ltb-false}
use Rattle.std.proofs.lemmas.Bool.Decides.{eqb_tells}
use Rattle.lfi_frame.specs.declared.header.Header.{Header}
use Rattle.lfi_frame.specs.declared.fault.FrameFault.{FrameFault}
use Rattle.lfi_frame.specs.Feeds.{page_header, opened}
use Rattle.lfi_frame.specs.Streams.{AreBytes, Message, open_message, page_message, close_message, is_page, size_by, header_of, payload_of, spelling, header_at, header_fault, short, unfinished, whole, rest_after, rest_of}
use Rattle.lfi_frame.proofs.Headers.{IsPaging, paging, header_fits, sound}
use Rattle.lfi_frame.proofs.Cuts.{rest_long, rest_short, long_by, page_is, size_is, open_sizes, open_is, close_is, message_is, comes_by, header_stays}
use Rattle.lfi_reference.specs.Messages.{Begins}

-- a text at whose head a whole message stands
record IsWholeAt (bytes : List ℕ) : Type 0 where
  long : 12 ≤ length bytes
  none : header_fault (header_at bytes) ≡ None
  fits : ((header_at bytes).a < 2 ^ 32) × ((header_at bytes).b < 2 ^ 32)
  full : IsPaging (header_at bytes).kind → (header_at bytes).b ≤ length (drop 12 bytes)

faultless_of : (f : Option FrameFault) (h : Header) (n : ℕ) → rest_after f h n ≡ whole → f ≡ None
faultless_of (Some fault) h n e = absurd (cc)
faultless_of None h n e = refl

full_by : (b : Bool) (m size index len : ℕ) → (if b then unfinished m size index len else whole) ≡ whole → b ≡ false
full_by true m size index len e = absurd (cc)
full_by false m size index len e = refl

and_false : (b c : Bool) → (b && c) ≡ false → b ≡ true → c ≡ false
and_false true c e t = e
and_false false c e t = absurd (cc)

whole_at : (bytes : List ℕ) → AreBytes bytes → rest_of bytes ≡ whole → IsWholeAt bytes
whole_at bytes small w =
    let h = header_at bytes in let d = drop 12 bytes in
    let long : 12 ≤ length bytes = elim (cases_lt (length bytes) 12) [ inl few ↦ let f : short ≡ whole = sym (rest_short bytes few) ∙ w in absurd (cc) | inr long ↦ long ] in
    let after : rest_after (header_fault h) h (length d) ≡ whole = sym (rest_long bytes long) ∙ w in
    let none : header_fault h ≡ None = faultless_of (header_fault h) h (length d) after in
    let full : (is_page h.kind && nat_lt (length d) h.b) ≡ false = full_by _ _ _ _ _ (ap (λ f. rest_after f h (length d)) (sym none) ∙ after) in
    record { long = long; none = none; fits = header_fits bytes small; full = λ kind. ltb-false (length d) h.b (and_false (is_page h.kind) (nat_lt (length d) h.b) full (paging h.kind kind)) }

-- the first twelve bytes are the header
pub header_front : (bytes front : List ℕ) → 12 ≤ length bytes → front ≡ take 12 bytes → header_at front ≡ header_at bytes
header_front bytes front long same =
    ap header_at same ∙ sym (header_stays (take 12 bytes) (drop 12 bytes) (omega (arith, length-take 12 bytes))) ∙ ap header_at (take-append-drop 12 bytes)

-- the kind of a page is one of the two
pub paged : (k : ℕ) → is_page k ≡ true → IsPaging k
paged k e = elim (eqb_tells k 2) [
  | inl two ↦ inl two.1
  | inr other ↦ elim (eqb_tells k 5) [ inl five ↦ inr five.1 | inr none ↦ absurd (let f : (k == 5) ≡ true = ap (λ b. b || (k == 5)) (sym other.0) ∙ e in let g : (k == 5) ≡ false = none.0 in cc) ]
]

pub page_fits : (bytes : List ℕ) (h : Header) → AreBytes bytes → rest_of bytes ≡ whole → h ≡ header_at bytes → is_page h.kind ≡ true → h.b + 12 ≤ length bytes
page_fits bytes h small w is two =
    let at = whole_at bytes small w in
    let kind = paged h.kind two in
    let full : h.b ≤ length (drop 12 bytes) = subst (λ g. g.b ≤ length (drop 12 bytes)) (sym is) (at.full (subst (λ g. IsPaging g.kind) is kind)) in
    let long = at.long in
    omega (arith, length-drop 12 bytes)

pub begins_open : (bytes more : List ℕ) (h : Header) → AreBytes bytes → rest_of bytes ≡ whole → h ≡ header_at bytes → is_page h.kind ≡ false → h.kind ≢ 3 → more ≡ drop 12 bytes → Begins bytes (open_message h.«module» (opened h)) more
begins_open bytes more h small w is no_page not_three goes =
    let at = whole_at bytes small w in
    let none : header_fault h ≡ None = ap header_fault is ∙ at.none in
    let a_fits : h.a < 2 ^ 32 = subst (λ g. g.a < 2 ^ 32) (sym is) at.fits.0 in
    let b_fits : h.b < 2 ^ 32 = subst (λ g. g.b < 2 ^ 32) (sym is) at.fits.1 in
    let kind : (h.kind ≡ 1) ⊎ (h.kind ≡ 4) = elim (sound h none).kind [
      | inl two ↦ absurd (let yes = paging h.kind two in cc)
      | inr other ↦ elim other [ inl one ↦ inl one | inr last ↦ elim last [ inl three ↦ absurd (not_three three) | inr four ↦ inr four ] ]
    ] in
    let message = open_message h.«module» (opened h) in
    record { is = message_is message h (open_is h none kind) none a_fits b_fits (open_sizes h none); spelled = sym (comes_by message more bytes at.long small (open_is h none kind ∙ is) goes) }

pub begins_page : (bytes payload more : List ℕ) (h : Header) → AreBytes bytes → rest_of bytes ≡ whole → h ≡ header_at bytes → is_page h.kind ≡ true → payload ≡ take h.b (drop 12 bytes) → more ≡ drop h.b (drop 12 bytes) → Begins bytes (page_message h.«module» (size_by h.kind) h.a payload) more
begins_page bytes payload more h small w is two front goes =
    let at = whole_at bytes small w in
    let kind = paged h.kind two in
    let none : header_fault h ≡ None = ap header_fault is ∙ at.none in
    let a_fits : h.a < 2 ^ 32 = subst (λ g. g.a < 2 ^ 32) (sym is) at.fits.0 in
    let b_fits : h.b < 2 ^ 32 = subst (λ g. g.b < 2 ^ 32) (sym is) at.fits.1 in
    let enough : h.b ≤ length (drop 12 bytes) = subst (λ g. g.b ≤ length (drop 12 bytes)) (sym is) (at.full (subst (λ g. IsPaging g.kind) is kind)) in
    let len : length payload ≡ h.b = ap length front ∙ omega (arith, length-take h.b (drop 12 bytes)) in
    let message = page_message h.«module» (size_by h.kind) h.a payload in
    let same : header_of message ≡ h = ap (λ n. page_header h.«module» (size_by h.kind) h.a n) len ∙ page_is h none kind in
    let joined : payload ++ more ≡ drop 12 bytes = ap (λ l. l ++ more) front ∙ ap (λ l. take h.b (drop 12 bytes) ++ l) goes ∙ take-append-drop h.b (drop 12 bytes) in
    record { is = message_is message h same none a_fits b_fits (size_is h.kind kind); spelled = sym (comes_by message more bytes at.long small (same ∙ is) joined) }

pub begins_close : (bytes more : List ℕ) (h : Header) → AreBytes bytes → rest_of bytes ≡ whole → h ≡ header_at bytes → h.kind ≡ 3 → more ≡ drop 12 bytes → Begins bytes (close_message h.«module») more
begins_close bytes more h small w is three goes =
    let at = whole_at bytes small w in
    let none : header_fault h ≡ None = ap header_fault is ∙ at.none in
    let a_fits : h.a < 2 ^ 32 = subst (λ g. g.a < 2 ^ 32) (sym is) at.fits.0 in
    let b_fits : h.b < 2 ^ 32 = subst (λ g. g.b < 2 ^ 32) (sym is) at.fits.1 in
    let message = close_message h.«module» in
    record { is = message_is message h (close_is h none three) none a_fits b_fits tt; spelled = sym (comes_by message more bytes at.long small (close_is h none three ∙ is) goes) }

-- one more message of a text
pub one_more : (bytes rest more : List ℕ) (messages : List Message) (message : Message) → bytes ≡ flat_map spelling messages ++ rest → Begins rest message more → bytes ≡ flat_map spelling (messages ++ message ∷ []) ++ more
one_more bytes rest more messages message so begins =
    so ∙ ap (λ l. flat_map spelling messages ++ l) begins.spelled
    ∙ sym (append_assoc (flat_map spelling messages) (spelling message) more)
    ∙ ap (λ l. l ++ more) (sym (flat_map-append spelling messages (message ∷ []) ∙ ap (λ l. flat_map spelling messages ++ l) (single message)))
  where
    single : (x : Message) → flat_map spelling (x ∷ []) ≡ spelling x
    single x = append_nil_right (spelling x)
      where
        append_nil_right : (xs : List ℕ) → xs ++ [] ≡ xs
        append_nil_right [] = refl
        append_nil_right (y ∷ ys) = ap (λ l. y ∷ l) (append_nil_right ys)

pub shorter : (rest more : List ℕ) (message : Message) → Begins rest message more → length more < length rest
shorter rest more message begins =
    let long = long_by (header_of message) (payload_of message) in
    let len : length rest ≡ length (spelling message) + length more = ap length begins.spelled ∙ length-append (spelling message) more in
    omega arith
