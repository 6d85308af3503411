-- How a text goes on behind the header of a page.
use Rattle.std.proofs.Common.{◌≡◌, ℕ, ◌+◌, ◌<◌, ◌≤◌, List, ◌++◌, length, drop, Option, Some, None, refl, sym, ap, ◌∙◌, arith, Bool, true, false, if◌then◌else◌, length-append, lt-ltb}
use Rattle.std.specs.Prelude.{◌&&◌, nat_lt}
use Rattle.std.proofs.lemmas.Bool.{ltb-true}
use Rattle.lfi_frame.specs.declared.fault.FrameFault.{FrameFault}
use Rattle.lfi_frame.specs.declared.header.Header.{Header}
use Rattle.lfi_frame.specs.Streams.{Message, header_at, header_fault, is_page, size_by, Rest, short, faulty, unfinished, whole, rest_of, rest_after}
use Rattle.lfi_frame.proofs.Cuts.{rest_long, header_stays}
use Rattle.lfi_stream.specs.Streams.{made_of}
use Rattle.lfi_connection.proofs.Texts.{drop_append_left, unfinished_long}

-- with fewer bytes behind the header the page isn't whole either
less_by : (o : Option FrameFault) (h : Header) (l k m size index len : ℕ) → l ≤ k → rest_after o h k ≡ unfinished m size index len → rest_after o h l ≡ unfinished m size index len
less_by (Some fault) h l k m size index len less e = absurd (cc)
less_by None h l k m size index len less e = by (is_page h.kind) (nat_lt k h.b) refl e
  where
    by : (a b : Bool) → nat_lt k h.b ≡ b → (if a && b then unfinished h.«module» (size_by h.kind) h.a h.b else whole) ≡ unfinished m size index len
        → (if a && nat_lt l h.b then unfinished h.«module» (size_by h.kind) h.a h.b else whole) ≡ unfinished m size index len
    by true true t e =
        let more = ltb-true k h.b t in
        let fewer : l < h.b = omega (arith, more, less) in
        ap (λ b. if b then unfinished h.«module» (size_by h.kind) h.a h.b else whole) (lt-ltb l h.b fewer) ∙ e
    by true false t e = absurd (cc)
    by false b t e = absurd (cc)

-- the header of a page stands before its payload
pub unfinished_before : (rest used : List ℕ) (m size index len : ℕ) → 12 ≤ length rest → rest_of (rest ++ used) ≡ unfinished m size index len → rest_of rest ≡ unfinished m size index len
unfinished_before rest used m size index len long is =
    let all : 12 ≤ length (rest ++ used) = (let l = length-append rest used in omega (arith, l, long)) in
    let sizes : length (drop 12 (rest ++ used)) ≡ length (drop 12 rest) + length used = ap length (drop_append_left 12 rest used long) ∙ length-append (drop 12 rest) used in
    let head : header_at (rest ++ used) ≡ header_at rest = header_stays rest used long in
    let there : rest_after (header_fault (header_at rest)) (header_at rest) (length (drop 12 (rest ++ used))) ≡ unfinished m size index len =
    ap (λ h. rest_after (header_fault h) h (length (drop 12 (rest ++ used)))) (sym head) ∙ sym (rest_long (rest ++ used) all) ∙ is in
    rest_long rest long ∙ less_by (header_fault (header_at rest)) (header_at rest) (length (drop 12 rest)) (length (drop 12 (rest ++ used))) m size index len (omega (arith, sizes)) there

no_fault_by : (o : Option FrameFault) (h : Header) (l k m size index len : ℕ) (fault : FrameFault) → rest_after o h l ≡ unfinished m size index len → rest_after o h k ≡ faulty fault → ⊥
no_fault_by (Some found) h l k m size index len fault e f = absurd (cc)
no_fault_by None h l k m size index len fault e f = by (is_page h.kind && nat_lt k h.b) f
  where
    by : (b : Bool) → (if b then unfinished h.«module» (size_by h.kind) h.a h.b else whole) ≡ faulty fault → ⊥
    by true f = absurd (cc)
    by false f = absurd (cc)

-- behind the header of a page stands no fault
no_fault : (rest used : List ℕ) (m size index len : ℕ) (fault : FrameFault) → rest_of rest ≡ unfinished m size index len → rest_of (rest ++ used) ≡ faulty fault → ⊥
no_fault rest used m size index len fault is shows =
    let long = (unfinished_long rest m size index len is).0 in
    let all : 12 ≤ length (rest ++ used) = (let l = length-append rest used in omega (arith, l, long)) in
    let head : header_at (rest ++ used) ≡ header_at rest = header_stays rest used long in
    let there : rest_after (header_fault (header_at rest)) (header_at rest) (length (drop 12 (rest ++ used))) ≡ faulty fault =
    ap (λ h. rest_after (header_fault h) h (length (drop 12 (rest ++ used)))) (sym head) ∙ sym (rest_long (rest ++ used) all) ∙ shows in
    no_fault_by (header_fault (header_at rest)) (header_at rest) (length (drop 12 rest)) (length (drop 12 (rest ++ used))) m size index len fault (sym (rest_long rest long) ∙ is) there

-- a header with a fault makes nothing of the modules
pub fault_makes : (ms : List Message) (rest used : List ℕ) (fault : FrameFault) → rest_of (rest ++ used) ≡ faulty fault → (m : ℕ) → made_of ms (rest_of (rest ++ used)) m ≡ made_of ms (rest_of rest) m
fault_makes ms rest used fault shows m = by (rest_of rest) refl
  where
    by : (r : Rest) → rest_of rest ≡ r → made_of ms (rest_of (rest ++ used)) m ≡ made_of ms r m
    by short e = ap (λ r. made_of ms r m) {x = rest_of (rest ++ used)} {y = faulty fault} shows
    by (faulty other) e = ap (λ r. made_of ms r m) {x = rest_of (rest ++ used)} {y = faulty fault} shows
    by (unfinished k size index len) e = absurd (no_fault rest used k size index len fault e shows)
    by whole e = ap (λ r. made_of ms r m) {x = rest_of (rest ++ used)} {y = faulty fault} shows
