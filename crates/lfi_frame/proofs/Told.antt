-- What the answer to a header says: its fault, or what it brings, which is never nothing.
use Rattle.std.proofs.Common.{◌≡◌, ℕ, ◌≢◌, refl, ap}
use Rattle.std.specs.Prelude.{Option, Some, None, Ok, Err, Bool, true, false, if◌then◌else◌}
use Rattle.lfi_module.specs.Extents.{ExtentView}
use Rattle.lfi_frame.specs.declared.answer.Got.{Got}
use Rattle.lfi_frame.specs.declared.answer.Got.TheVariants.{More, Open, Page, Payload, Close}
use Rattle.lfi_frame.specs.declared.feed.Position.TheVariants as position
use Rattle.lfi_frame.specs.declared.fault.FrameFault.{FrameFault}
use Rattle.lfi_frame.specs.declared.header.Header.{Header}
use Rattle.lfi_frame.specs.Streams.{is_open, is_page, size_by}
use Rattle.lfi_frame.specs.Feeds.{answer_by, fault_at, opened, position_by}

pub fault_of : (o : Option FrameFault) (h : Header) (fault : FrameFault) → Err fault ≡ answer_by o h → fault_at (position_by o h) ≡ Some fault
fault_of None h fault e = absurd (cc)
fault_of (Some other) h fault e = (let is : other ≡ fault = cc in ap Some is)

no_fault_at : (page : Bool) (left : ℕ) → fault_at (if page then position.Payload left else position.Header 0) ≡ None
no_fault_at true left = refl
no_fault_at false left = refl

pub none_of : (o : Option FrameFault) (h : Header) (got : Got) → Ok got ≡ answer_by o h → fault_at (position_by o h) ≡ None
none_of (Some other) h got e = absurd (cc)
none_of None h got e = no_fault_at (is_page h.kind) h.b

brings : (page opens : Bool) (m size index len : ℕ) (extent : ExtentView) (got : Got) → got ≡ (if page then Page m size index len else if opens then Open m extent else Close m) → (got ≢ More) × (got ≢ Payload false)
brings true opens m size index len extent got e = ((λ is. cc), (λ is. cc))
brings false true m size index len extent got e = ((λ is. cc), (λ is. cc))
brings false false m size index len extent got e = ((λ is. cc), (λ is. cc))

pub brings_some : (o : Option FrameFault) (h : Header) (got : Got) → Ok got ≡ answer_by o h → (got ≢ More) × (got ≢ Payload false)
brings_some (Some other) h got e = absurd (cc)
brings_some None h got e = brings (is_page h.kind) (is_open h.kind) h.«module» (size_by h.kind) h.a h.b (opened h) got cc
