use Rattle.std.proofs.Common.{◌≡◌, ◌≤◌, ◌<◌, ap, sym, subst, ◌∙◌, arith}
use Rattle.std.specs.Prelude.{Some, IfSome}
use Rattle.lfi_module.specs.Extents.{ExtentView}
use Rattle.lfi_module.specs.Numbers.{module_count, most_words}
use Rattle.lfi_frame.specs.declared.answer.Got.TheVariants as got
use Rattle.lfi_frame.specs.declared.fault.FrameFault.TheVariants as fault
use Rattle.lfi_frame.specs.declared.header.MessageKind.TheVariants as kind
use Rattle.lfi_frame.specs.Streams.{pages_by}
use Rattle.lfi_frame.specs.inner.Kinds.{kind_of}
use Rattle.lfi_frame.proofs.Judging.{no_kind, wrong_second, wrong_module, right_open, got_open, wrong_length, right_page, got_page, in_range, faulty, sound}
use Rattle.lfi_frame.proofs.header.Header.judge.Goals as goal

pub returns-in_default-clause-answer : goal.returns-in_default-clause-answer
returns-in_default-clause-answer c = faulty c.args.self.now fault.Kind (no_kind c.args.self.now c.in_default.ensures)

pub returns-in_default-clause-fault : goal.returns-in_default-clause-fault
returns-in_default-clause-fault c = sym (no_kind c.args.self.now c.in_default.ensures)

pub returns-then-not-is_second-clause-answer : goal.returns-then-not-is_second-clause-answer
returns-then-not-is_second-clause-answer c = faulty c.args.self.now fault.SecondByte (wrong_second c.args.self.now c.in-Some.kind c.in-Some.ensures (sym c.is_second.ensures ∙ c.if-not-is_second.true))

pub returns-then-not-is_second-clause-fault : goal.returns-then-not-is_second-clause-fault
returns-then-not-is_second-clause-fault c = sym (wrong_second c.args.self.now c.in-Some.kind c.in-Some.ensures (sym c.is_second.ensures ∙ c.if-not-is_second.true))

pub returns-in_default-new-clause-answer : goal.returns-in_default-new-clause-answer
returns-in_default-new-clause-answer c =
    faulty c.args.self.now fault.Module (wrong_module c.args.self.now c.in-Some.kind c.in-Some.ensures (sym c.is_second.ensures ∙ c.if-not-is_second.false) c.in_default-new.ensures.none)

pub returns-in_default-new-clause-fault : goal.returns-in_default-new-clause-fault
returns-in_default-new-clause-fault c = sym (wrong_module c.args.self.now c.in-Some.kind c.in-Some.ensures (sym c.is_second.ensures ∙ c.if-not-is_second.false) c.in_default-new.ensures.none)

pub returns-in_ok-extent-in-Open-clause-answer : goal.returns-in_ok-extent-in-Open-clause-answer
returns-in_ok-extent-in-Open-clause-answer c =
    let h = c.args.self.now in
    let profile = c.in-Open.profile in
    let words : c.in_ok-words-in-Open.words ≡ h.a = subst (λ o. IfSome o (λ n. n ≡ h.a)) c.in_ok-words-in-Open.ensures.ok_part c.new-in-Open.ensures.some in
    let extent : c.in_ok-extent-in-Open.extent ≡ record { words = c.in_ok-words-in-Open.words; entry = h.b; profile = profile; pages = c.pages.result } =
    subst (λ o. IfSome o (λ e. e ≡ record { words = c.in_ok-words-in-Open.words; entry = h.b; profile = profile; pages = c.pages.result })) c.in_ok-extent-in-Open.ensures.ok_part c.new-in-Open-2.ensures.some in
    let view : c.in_ok-extent-in-Open.extent ≡ record { words = h.a; entry = h.b; profile = profile; pages = pages_by h.second } = extent ∙ (λ i. record { words = words i; entry = h.b; profile = profile; pages = c.pages.ensures i }) in
    let has_words : c.in_ok-extent-in-Open.extent.words ≡ h.a = ap (λ (e : ExtentView). e.words) view in
    let has_entry : c.in_ok-extent-in-Open.extent.entry ≡ h.b = ap (λ (e : ExtentView). e.entry) view in
    let is : Some (kind.Open profile) ≡ kind_of h.kind = (λ i. Some (sym c.in-Open.is i)) ∙ c.in-Some.ensures in
    let below : h.«module» < module_count = omega (arith, c.in-Some-new.ensures.some) in
    let most : h.a ≤ most_words = omega arith in
    let inside : h.b < h.a = omega arith in
    sound h (got.Open c.in-Some-new.module c.in_ok-extent-in-Open.extent) (right_open h profile is (sym c.is_second.ensures ∙ c.if-not-is_second.false) below most inside)
    ((λ i. got.Open (c.in-Some-new.ensures.some i) (view i)) ∙ got_open h profile is)

pub returns-then-not-is_page_length-clause-answer : goal.returns-then-not-is_page_length-clause-answer
returns-then-not-is_page_length-clause-answer c =
    let h = c.args.self.now in
    let is : Some (kind.Page c.in-Page.size) ≡ kind_of h.kind = (λ i. Some (sym c.in-Page.is i)) ∙ c.in-Some.ensures in
    let below : h.«module» < module_count = omega (arith, c.in-Some-new.ensures.some) in
    faulty h fault.PageLength (wrong_length h c.in-Page.size is (sym c.is_second.ensures ∙ c.if-not-is_second.false) below (sym c.is_page_length.ensures ∙ c.if-not-is_page_length.true))

pub returns-then-not-is_page_length-clause-fault : goal.returns-then-not-is_page_length-clause-fault
returns-then-not-is_page_length-clause-fault c =
    let h = c.args.self.now in
    let is : Some (kind.Page c.in-Page.size) ≡ kind_of h.kind = (λ i. Some (sym c.in-Page.is i)) ∙ c.in-Some.ensures in
    let below : h.«module» < module_count = omega (arith, c.in-Some-new.ensures.some) in
    sym (wrong_length h c.in-Page.size is (sym c.is_second.ensures ∙ c.if-not-is_second.false) below (sym c.is_page_length.ensures ∙ c.if-not-is_page_length.true))

pub returns-else-not-is_page_length-clause-answer : goal.returns-else-not-is_page_length-clause-answer
returns-else-not-is_page_length-clause-answer c =
    let h = c.args.self.now in
    let is : Some (kind.Page c.in-Page.size) ≡ kind_of h.kind = (λ i. Some (sym c.in-Page.is i)) ∙ c.in-Some.ensures in
    let below : h.«module» < module_count = omega (arith, c.in-Some-new.ensures.some) in
    sound h (got.Page c.in-Some-new.module c.in-Page.size h.a h.b) (right_page h c.in-Page.size is (sym c.is_second.ensures ∙ c.if-not-is_second.false) below (sym c.is_page_length.ensures ∙ c.if-not-is_page_length.false))
    ((λ i. got.Page (c.in-Some-new.ensures.some i) c.in-Page.size h.a h.b) ∙ got_page h c.in-Page.size is)

pub returns-else-not-is_page_length-clause-fault : goal.returns-else-not-is_page_length-clause-fault
returns-else-not-is_page_length-clause-fault c =
    let h = c.args.self.now in
    let is : Some (kind.Page c.in-Page.size) ≡ kind_of h.kind = (λ i. Some (sym c.in-Page.is i)) ∙ c.in-Some.ensures in
    let below : h.«module» < module_count = omega (arith, c.in-Some-new.ensures.some) in
    sym (right_page h c.in-Page.size is (sym c.is_second.ensures ∙ c.if-not-is_second.false) below (sym c.is_page_length.ensures ∙ c.if-not-is_page_length.false))

pub returns-else-not-is_page_length-clause-range : goal.returns-else-not-is_page_length-clause-range
returns-else-not-is_page_length-clause-range c = in_range c.in-Some-new.module c.in-Page.size c.args.self.now.a c.args.self.now.b (sym c.is_page_length.ensures ∙ c.if-not-is_page_length.false)
