-- The first fault of a header, and what it brings, by its kind.
use Rattle.std.proofs.Common.{zero, suc, ◌≡◌, ℕ, ◌*◌, ◌%◌, ◌<◌, ◌≤◌, ◌⊎◌, inl, inr, refl, sym, ◌∙◌, ap, subst, arith}
use Rattle.std.specs.Prelude.{Option, Some, None, Ok, Err, Bool, true, false, not, ◌||◌, ◌&&◌, ◌==◌, nat_lt, nat_le, if◌then◌else◌}
use Rattle.std.proofs.lemmas.Bool.{and_parts, or_from, or_right, eqb-true, ne_eqb, lt-ltb, le-ltb, ltb-true, le-leb, lt-leb, leb-true}
use Rattle.std.proofs.lemmas.Option.{none-some}
use Rattle.lfi_module.specs.Numbers.{module_count, most_words, small_page, large_page}
use Rattle.lfi_module.specs.declared.profile.Profile.{Profile}
use Rattle.lfi_module.specs.declared.profile.Profile.TheVariants.{One, Two}
use Rattle.lfi_frame.specs.declared.answer.Got.{Got}
use Rattle.lfi_frame.specs.declared.answer.Got.TheVariants as got
use Rattle.lfi_frame.specs.declared.header.Header.{Header}
use Rattle.lfi_frame.specs.declared.header.MessageKind.{MessageKind}
use Rattle.lfi_frame.specs.declared.header.MessageKind.TheVariants.{Open, Page, Close}
use Rattle.lfi_frame.specs.declared.fault.FrameFault.{FrameFault}
use Rattle.lfi_frame.specs.declared.fault.FrameFault.TheVariants.{Kind, SecondByte, Module, PageLength, CloseNumbers, WordCount, Entry}
use Rattle.lfi_frame.specs.Streams.{header_fault, is_open, is_page, is_page_length, is_second, opened_by, pages_by, size_by}
use Rattle.lfi_frame.specs.Feeds.{IsInRange, answer_by, answer_to, got_by}
use Rattle.lfi_frame.specs.inner.Kinds.{kind_of}

-- the number is that of a kind
abbrev pub IsKind : ℕ → MessageKind → Type 0
IsKind k (Open One) = k ≡ 1
IsKind k (Open Two) = k ≡ 4
IsKind k (Page size) = ((k ≡ 2) × (size ≡ small_page)) ⊎ ((k ≡ 5) × (size ≡ large_page))
IsKind k Close = k ≡ 3

past_all : (k : ℕ) → 5 < k → kind_of k ≡ None
past_all k past =
    let one = ne_eqb k 1 (λ e. omega arith) in
    let two = ne_eqb k 2 (λ e. omega arith) in
    let three = ne_eqb k 3 (λ e. omega arith) in
    let four = ne_eqb k 4 (λ e. omega arith) in
    let five = ne_eqb k 5 (λ e. omega arith) in
    λ i. if one i then Some (Open One) else if two i then Some (Page small_page) else if three i then Some Close else if four i then Some (Open Two) else if five i then Some (Page large_page) else None

pub kind_is : (k : ℕ) (kind : MessageKind) → Some kind ≡ kind_of k → IsKind k kind
kind_is zero kind e = absurd (cc)
kind_is (suc zero) kind e = (let is : Open One ≡ kind = cc in subst (λ t. IsKind 1 t) is refl)
kind_is (suc (suc zero)) kind e = (let is : Page small_page ≡ kind = cc in subst (λ t. IsKind 2 t) is (inl (refl, refl)))
kind_is (suc (suc (suc zero))) kind e = (let is : Close ≡ kind = cc in subst (λ t. IsKind 3 t) is refl)
kind_is (suc (suc (suc (suc zero)))) kind e = (let is : Open Two ≡ kind = cc in subst (λ t. IsKind 4 t) is refl)
kind_is (suc (suc (suc (suc (suc zero))))) kind e = (let is : Page large_page ≡ kind = cc in subst (λ t. IsKind 5 t) is (inr (refl, refl)))
kind_is (suc (suc (suc (suc (suc (suc k)))))) kind e = (let none = past_all (suc (suc (suc (suc (suc (suc k)))))) (omega arith) in absurd (none-some kind (sym none ∙ sym e)))

none_of : (k : ℕ) → None ≡ kind_of k → (k == 0 || nat_lt 5 k) ≡ true
none_of zero e = refl
none_of (suc zero) e = absurd (cc)
none_of (suc (suc zero)) e = absurd (cc)
none_of (suc (suc (suc zero))) e = absurd (cc)
none_of (suc (suc (suc (suc zero)))) e = absurd (cc)
none_of (suc (suc (suc (suc (suc zero))))) e = absurd (cc)
none_of (suc (suc (suc (suc (suc (suc k)))))) e = (let n : ℕ = suc (suc (suc (suc (suc (suc k))))) in or_right (n == 0) (nat_lt 5 n) (lt-ltb 5 n (omega arith)))

one_of : (k : ℕ) (kind : MessageKind) → IsKind k kind → (k == 0 || nat_lt 5 k) ≡ false
one_of k (Open One) e = ap (λ n. n == 0 || nat_lt 5 n) e
one_of k (Open Two) e = ap (λ n. n == 0 || nat_lt 5 n) e
one_of k (Page size) (inl e) = ap (λ n. n == 0 || nat_lt 5 n) e.0
one_of k (Page size) (inr e) = ap (λ n. n == 0 || nat_lt 5 n) e.0
one_of k Close e = ap (λ n. n == 0 || nat_lt 5 n) e

-- the fault by the tests that come first: whether the kind is none, the second byte one of its kind, and the module none
abbrev by_tests : (none : Bool) (k : ℕ) (h : Header) (second above : Bool) → Option FrameFault
by_tests none k h second above =
    if none then Some Kind
    else if not second then Some SecondByte
    else if above then Some Module
    else if is_page k && not (is_page_length (size_by k) h.b) then Some PageLength
    else if k == 3 && not (h.a == 0 && h.b == 0) then Some CloseNumbers
    else if is_open k && (h.a == 0 || nat_lt most_words h.a) then Some WordCount
    else if is_open k && nat_le h.a h.b then Some Entry
    else None

pub no_kind : (h : Header) → None ≡ kind_of h.kind → header_fault h ≡ Some Kind
no_kind h e = λ i. by_tests (none_of h.kind e i) h.kind h (is_second h.kind h.second) (nat_le module_count h.«module»)

pub wrong_second : (h : Header) (kind : MessageKind) → Some kind ≡ kind_of h.kind → is_second h.kind h.second ≡ false → header_fault h ≡ Some SecondByte
wrong_second h kind is second = (let one = one_of h.kind kind (kind_is h.kind kind is) in λ i. by_tests (one i) h.kind h (second i) (nat_le module_count h.«module»))

pub wrong_module : (h : Header) (kind : MessageKind) → Some kind ≡ kind_of h.kind → is_second h.kind h.second ≡ true → module_count ≤ h.«module» → header_fault h ≡ Some Module
wrong_module h kind is second above = (let one = one_of h.kind kind (kind_is h.kind kind is) in λ i. by_tests (one i) h.kind h (second i) (le-leb module_count h.«module» above i))

-- a header of this kind whose second byte and module have no fault
stands : (h : Header) (k : ℕ) → h.kind ≡ k → is_second h.kind h.second ≡ true → h.«module» < module_count → header_fault h ≡ by_tests (k == 0 || nat_lt 5 k) k h true false
stands h k kind second below = λ i. by_tests (kind i == 0 || nat_lt 5 (kind i)) (kind i) h (second i) (lt-leb module_count h.«module» below i)

abbrev by_counts : (wrong past : Bool) → Option FrameFault
by_counts wrong past = if wrong then Some WordCount else if past then Some Entry else None

opens : (h : Header) (profile : Profile) → Some (Open profile) ≡ kind_of h.kind → is_second h.kind h.second ≡ true → h.«module» < module_count
    → header_fault h ≡ by_counts (h.a == 0 || nat_lt most_words h.a) (nat_le h.a h.b)
opens h One is second below = stands h 1 (kind_is h.kind (Open One) is) second below
opens h Two is second below = stands h 4 (kind_is h.kind (Open Two) is) second below

right_words : (n : ℕ) → 1 ≤ n → n ≤ most_words → (n == 0 || nat_lt most_words n) ≡ false
right_words n some most = or_from (n == 0) (nat_lt most_words n) (ne_eqb n 0 (λ e. omega arith)) (le-ltb most_words n most)

pub right_open : (h : Header) (profile : Profile) → Some (Open profile) ≡ kind_of h.kind → is_second h.kind h.second ≡ true → h.«module» < module_count
    → h.a ≤ most_words → h.b < h.a → header_fault h ≡ None
right_open h profile is second below most inside = opens h profile is second below ∙ (λ i. by_counts (right_words h.a (omega arith) most i) (lt-leb h.a h.b inside i))

-- what a header of this kind brings
abbrev got_at : ℕ → Header → Got
got_at k h =
    if is_page k then got.Page h.«module» (size_by k) h.a h.b
    else if is_open k then got.Open h.«module» (record { words = h.a; entry = h.b; profile = opened_by k; pages = pages_by h.second })
    else got.Close h.«module»

pub got_open : (h : Header) (profile : Profile) → Some (Open profile) ≡ kind_of h.kind → got.Open h.«module» (record { words = h.a; entry = h.b; profile = profile; pages = pages_by h.second }) ≡ got_by h
got_open h One is = (let kind = kind_is h.kind (Open One) is in λ i. got_at (sym kind i) h)
got_open h Two is = (let kind = kind_is h.kind (Open Two) is in λ i. got_at (sym kind i) h)

abbrev by_length : Bool → Option FrameFault
by_length wrong = if wrong then Some PageLength else None

pages : (h : Header) (size : ℕ) → Some (Page size) ≡ kind_of h.kind → is_second h.kind h.second ≡ true → h.«module» < module_count → header_fault h ≡ by_length (not (is_page_length size h.b))
pages h size is second below = elim (kind_is h.kind (Page size) is) [
  | inl e ↦ stands h 2 e.0 second below ∙ (λ i. by_length (not (is_page_length (sym e.1 i) h.b)))
  | inr e ↦ stands h 5 e.0 second below ∙ (λ i. by_length (not (is_page_length (sym e.1 i) h.b)))
]

pub wrong_length : (h : Header) (size : ℕ) → Some (Page size) ≡ kind_of h.kind → is_second h.kind h.second ≡ true → h.«module» < module_count → is_page_length size h.b ≡ false → header_fault h ≡ Some PageLength
wrong_length h size is second below long = pages h size is second below ∙ ap (λ t. by_length (not t)) long

pub right_page : (h : Header) (size : ℕ) → Some (Page size) ≡ kind_of h.kind → is_second h.kind h.second ≡ true → h.«module» < module_count → is_page_length size h.b ≡ true → header_fault h ≡ None
right_page h size is second below long = pages h size is second below ∙ ap (λ t. by_length (not t)) long

pub got_page : (h : Header) (size : ℕ) → Some (Page size) ≡ kind_of h.kind → got.Page h.«module» size h.a h.b ≡ got_by h
got_page h size is = elim (kind_is h.kind (Page size) is) [
  | inl e ↦ (λ i. got.Page h.«module» (e.1 i) h.a h.b) ∙ (λ i. got_at (sym e.0 i) h)
  | inr e ↦ (λ i. got.Page h.«module» (e.1 i) h.a h.b) ∙ (λ i. got_at (sym e.0 i) h)
]

-- the length of a page without a fault
pub in_range : (m size index len : ℕ) → is_page_length size len ≡ true → IsInRange (got.Page m size index len)
in_range m size index len test =
    let both = and_parts (nat_lt 0 len && nat_le len (4 * size)) (len % 4 == 0) test in
    let ends = and_parts (nat_lt 0 len) (nat_le len (4 * size)) both.0 in
    (ltb-true 0 len ends.0, leb-true len (4 * size) ends.1, eqb-true (len % 4) 0 both.1)

-- the answers of a fault, and of none
pub faulty : (h : Header) (fault : FrameFault) → header_fault h ≡ Some fault → Err fault ≡ answer_to h
faulty h fault is = λ i. answer_by (sym is i) h

pub sound : (h : Header) (brings : Got) → header_fault h ≡ None → brings ≡ got_by h → Ok brings ≡ answer_to h
sound h brings is same = (λ i. Ok (same i)) ∙ (λ i. answer_by (sym is i) h)
