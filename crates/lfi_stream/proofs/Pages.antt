-- The page that is coming, by its numbers.
use Rattle.std.proofs.Common.{◌≡◌, ℕ, ◌+◌, ◌*◌, ◌<◌, ◌≤◌, ◌⊎◌, List, length, drop, Option, Some, None, IsSome, refl, sym, ◌∙◌, ap, subst, inl, inr, arith, Bool, true, false, if◌then◌else◌, length-take, mul_assoc, lt-ltb}
use Rattle.std.specs.Prelude.{nat_lt}
use Rattle.std.proofs.lemmas.Bool.{ltb-true}
use Rattle.lfi_module.specs.Pages.{bytes_in_page}
use Rattle.lfi_frame.specs.declared.feed.Position.{Position}
use Rattle.lfi_frame.specs.declared.feed.Position.TheVariants as position
use Rattle.lfi_frame.specs.Streams.{Message, unfinished}
use Rattle.lfi_frame.specs.Feeds.{IsAt, fault_at}
use Rattle.lfi_frame.proofs.Cuts.{rest_short}
use Rattle.lfi_frame.proofs.Feeding.{page_rest}
use Rattle.lfi_model.specs.declared.connection.Progress.{Progress}
use Rattle.lfi_model.specs.declared.connection.Progress.TheVariants.{Unclaimed, Going, Ended}
use Rattle.lfi_model.specs.Items.{Share}
use Rattle.lfi_connection.specs.declared.due_page.DuePage.{DuePage}
use Rattle.lfi_connection.specs.DuePages.{bytes_of, offset_of, GoesOn}
use Rattle.lfi_connection.specs.Connections.{Awaits, Holds}
use Rattle.lfi_connection.proofs.Texts.{unfinished_long}
use Rattle.lfi_connection.proofs.Growth.{by_true, by_false}
use Rattle.lfi_stream.specs.declared.numbers.LfiStreamText.{LfiStreamText}
use Rattle.lfi_stream.specs.Numbers.{progress_at, page_of, names_none, page_at, IsLeft, FitsPage, IsPageOf}

-- what is left of a page that is due
left_of : (o : Option DuePage) (held : List ℕ) (p : Position) (made : ℕ → Share) (rest : List ℕ) → IsSome o → fault_at p ≡ None → IsAt held p rest → Awaits o made rest → IsLeft o p
left_of None held p made rest some none at awaits = absurd (cc)
left_of (Some page) held (position.Header filled) made rest some none at due =
    let less : length rest < 12 = (let l = ap length at.1 in let k = length-take filled held in let f = at.0 in omega arith) in
    absurd (let s = rest_short rest less in let h = due.header in cc)
left_of (Some page) held (position.Payload left) made rest some none at due =
    let told : unfinished at.m at.size at.index at.len ≡ unfinished page.«module» page.extent.pages page.pages (bytes_of page) = sym (page_rest rest left at) ∙ due.header in
    let len : at.len ≡ bytes_of page = cc in
    let payload : length at.payload ≡ length (drop 12 rest) = sym (ap (λ l. length (drop 12 l)) at.spelled) in
    let come = due.come in
    let to_come = at.to_come in
    omega (arith, len, payload, come, to_come)
left_of (Some page) held (position.Faulty fault) made rest some none at due = absurd (cc)

-- The numbers of a stream fit one another.
pub fits_at : (s : LfiStreamText) (p : Position) (made : ℕ → Share) (rest : List ℕ) → fault_at p ≡ None → IsAt s.feed.held p rest → (names_none s.page ≡ true) ⊎ IsSome (page_at s) → Awaits (page_at s) made rest → FitsPage s p
fits_at s p made rest none at (inl named) awaits = inl named
fits_at s p made rest none at (inr some) awaits = inr (left_of (page_at s) s.feed.held p made rest some none at awaits)

pub no_page_named : (s : LfiStreamText) → names_none s.page ≡ true → page_at s ≡ None
no_page_named s named = by_true (names_none s.page) None (page_of s.page.«module» s.page.come (progress_at s.modules s.page.«module»)) named

-- its numbers tell the page that is coming
pub page_kept : (s : LfiStreamText) (o : Option DuePage) (c : ℕ → Bool) (now : List Message) (left : List ℕ) → IsPageOf s.page o → Holds (progress_at s.modules) o c now left → page_at s ≡ o
page_kept s None c now left named holds = no_page_named s named
page_kept s (Some page) c now left named holds =
    let due = holds.awaits in
    let going : progress_at s.modules page.«module» ≡ Going page.extent page.pages = holds.progress page.«module» ∙ due.going in
    let long = (unfinished_long left page.«module» page.extent.pages page.pages (bytes_of page) due.header).1 in
    let come = due.come in
    let more : page.come < bytes_of page = omega (arith, long, come) in
    by_false (names_none s.page) None (page_of s.page.«module» s.page.come (progress_at s.modules s.page.«module»)) named.0
    ∙ (λ i. page_of (named.1 i) (named.2 i) (progress_at s.modules (named.1 i)))
    ∙ ap (λ q. page_of page.«module» page.come q) going
    ∙ by_true (nat_lt page.come (bytes_of page)) (Some page) None (lt-ltb page.come (bytes_of page) more)

pub named_by : (s : LfiStreamText) (o : Option DuePage) → IsPageOf s.page o → page_at s ≡ o → (names_none s.page ≡ true) ⊎ IsSome (page_at s)
named_by s None named is = inl named
named_by s (Some page) named is = inr (subst (λ o. IsSome o) (sym is) refl)

-- the page that is coming is one of an open module
page_by : (s : LfiStreamText) (m come : ℕ) (page : DuePage) (q : Progress) → progress_at s.modules m ≡ q → page_of m come q ≡ Some page → (progress_at s.modules page.«module» ≡ Going page.extent page.pages) × (page.come < bytes_of page)
page_by s m come page Unclaimed at is = absurd (cc)
page_by s m come page Ended at is = absurd (cc)
page_by s m come page (Going extent pages) at is = by (nat_lt come (bytes_in_page extent.pages extent.words pages)) refl is
  where
    by : (b : Bool) → nat_lt come (bytes_in_page extent.pages extent.words pages) ≡ b → (if b then Some (record { «module» = m; extent = extent; pages = pages; come = come }) else None) ≡ Some page
        → (progress_at s.modules page.«module» ≡ Going page.extent page.pages) × (page.come < bytes_of page)
    by false t e = absurd (cc)
    by true t e =
        let same : record { «module» = m; extent = extent; pages = pages; come = come } ≡ page = cc in
        subst (λ (z : DuePage). (progress_at s.modules z.«module» ≡ Going z.extent z.pages) × (z.come < bytes_of z)) same (at, ltb-true come (bytes_in_page extent.pages extent.words pages) t)

pub page_is : (s : LfiStreamText) (page : DuePage) → page_at s ≡ Some page → (progress_at s.modules page.«module» ≡ Going page.extent page.pages) × (page.come < bytes_of page)
page_is s page is = by (names_none s.page) is
  where
    by : (b : Bool) → (if b then None else page_of s.page.«module» s.page.come (progress_at s.modules s.page.«module»)) ≡ Some page → (progress_at s.modules page.«module» ≡ Going page.extent page.pages) × (page.come < bytes_of page)
    by true e = absurd (cc)
    by false e = page_by s s.page.«module» s.page.come page (progress_at s.modules s.page.«module») refl e

-- so its bytes lie within the module's words
pub within_words : (page : DuePage) (count : ℕ) (ended : Bool) → GoesOn page count ended → offset_of page + count ≤ 4 * page.extent.words
within_words page count true goes = let whole = goes.whole in let more = goes.unended in omega (arith, whole, more, mul_assoc 4 page.extent.pages page.pages)
within_words page count false goes = let whole = goes.whole in let more = goes.unended in omega (arith, whole, more, mul_assoc 4 page.extent.pages page.pages)
