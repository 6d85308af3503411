-- What is told of code, and judged, at each event.
use Rattle.std.proofs.Common.{◌≡◌, ◌≢◌, ℕ, ◌+◌, ◌*◌, ◌%◌, ◌≤◌, List, [], ◌∷◌, ◌++◌, length, drop, refl, inr, sym, subst, ◌∙◌, append_assoc, Bool, true, false}
use Rattle.lfi_module.specs.Extents.{ExtentView}
use Rattle.lfi_module.specs.declared.profile.Profile.{Profile}
use Rattle.lfi_frame.specs.Streams.{Message, rest_of}
use Rattle.lfi_model.specs.Item.{ItemView}
use Rattle.lfi_model.specs.Items.{Share, item_of}
use Rattle.lfi_model.specs.declared.item.ItemKind.TheVariants as item
use Rattle.lfi_model.specs.declared.item.Reason.{Reason}
use Rattle.lfi_connection.specs.declared.event.Event.{Event}
use Rattle.lfi_connection.specs.declared.event.Event.TheVariants.{Nothing, Open, Begin, Code, Stray, End}
use Rattle.lfi_connection.specs.declared.due_page.DuePage.{DuePage}
use Rattle.lfi_connection.specs.DuePages.{offset_of}
use Rattle.lfi_frame.specs.declared.fault.FrameFault.{FrameFault}
use Rattle.std.specs.Prelude.{Ok, Err}
use Rattle.lfi_stream.specs.declared.numbers.LfiStreamText.{LfiStreamText}
use Rattle.lfi_connection.specs.Events.{after_event}
use Rattle.lfi_stream.specs.Events.{Tells, IsTold}
use Rattle.lfi_stream.specs.Outcomes.{code_of}
use Rattle.lfi_stream.specs.Streams.{made_of}
use Rattle.lfi_verifier.specs.declared.cut_state.LfiCutState.{LfiCutState}
use Rattle.lfi_verifier.specs.declared.finding.Finding.{Finding}
use Rattle.lfi_verifier.specs.declared.verdicts.LfiStreamVerdicts.{LfiStreamVerdicts}
use Rattle.lfi_verifier.specs.States.{StandsFor}
use Rattle.lfi_verifier.specs.StreamVerdicts.{state_at, nothing_found, FindsOutcome, IsJudged, JudgesComing, HasJudged, Finds, StaysJudged}
use Rattle.lfi_verifier.specs.inner.Judging.{IsJudgedTo, GoesOn}
use Rattle.lfi_verifier.proofs.Following.{TellsNone, in_message, stays, come, goes, judged_to, belongs, fits, found, whole_now}
use Rattle.lfi_verifier.proofs.Rests.{fault_makes}
use Rattle.lfi_verifier.proofs.Shares.{Shares, AreWhole, same_shares, strayed, opened, ended, page_ended}

coming_stays : (coming : LfiCutState) (event : Event) (text : LfiStreamText) (ms : List Message) (rest used : List ℕ) (told : IsTold text ms rest used event) → TellsNone ms rest used → JudgesComing coming ms rest → JudgesComing coming told.now told.left
coming_stays coming event text ms rest used told none h = in_message coming ms told.now rest used told.left told.inside (stays coming ms rest used none h)

-- What the verdicts and what was found say of an event, wherever it comes.
abbrev pub Followed : Event → Finding → (old new : LfiStreamVerdicts) → (used : List ℕ) → Type 0
Followed event finding old new used = (text : LfiStreamText) (messages : List Message) (rest : List ℕ) (told : Tells (Ok event) text messages rest used) → HasJudged old messages rest →
    Finds (Ok event) finding messages rest used × StaysJudged (Ok event) new text messages rest used told

-- an event that tells neither an opening nor code nor an end
pub passes : (v : LfiStreamVerdicts) (event : Event) (used : List ℕ) → ((k : ℕ) (extent : ExtentView) → event ≡ Open k extent → ⊥) → ((page : DuePage) (last : Bool) → event ≡ Code page last → ⊥)
    → ((k : ℕ) (extent : ExtentView) (pages : ℕ) (reason : Reason) → event ≡ End k extent pages reason → ⊥) → Followed event nothing_found v v used
passes v Nothing used no_open no_code no_end text ms rest told h = (
  refl,
  record {
    pages = same_shares v.modules (made_of ms (rest_of rest)) (made_of told.now (rest_of told.left)) told.grows h.pages;
    coming = coming_stays v.coming Nothing text ms rest used told told.code h.coming;
  },
)
passes v (Begin page) used no_open no_code no_end text ms rest told h = (
  refl,
  record {
    pages = same_shares v.modules (made_of ms (rest_of rest)) (made_of told.now (rest_of told.left)) told.grows h.pages;
    coming = coming_stays v.coming (Begin page) text ms rest used told (inr told.code) h.coming;
  },
)
passes v (Stray k) used no_open no_code no_end text ms rest told h = (
  refl,
  record {
    pages = strayed k v.modules (made_of ms (rest_of rest)) (made_of told.now (rest_of told.left)) told.grows h.pages;
    coming = coming_stays v.coming (Stray k) text ms rest used told (inr told.code) h.coming;
  },
)
passes v (Open k extent) used no_open no_code no_end text ms rest told h = absurd (no_open k extent refl)
passes v (Code page last) used no_open no_code no_end text ms rest told h = absurd (no_code page last refl)
passes v (End k extent pages reason) used no_open no_code no_end text ms rest told h = absurd (no_end k extent pages reason refl)

-- the stream's fault
pub faults : (v : LfiStreamVerdicts) (fault : FrameFault) (used : List ℕ) (text : LfiStreamText) (ms : List Message) (rest : List ℕ) (told : Tells (Err fault) text ms rest used) → HasJudged v ms rest → StaysJudged (Err fault) v text ms rest used told
faults v fault used text ms rest told h =
    let all = same_shares v.modules (made_of ms (rest_of rest)) (made_of ms (rest_of (rest ++ used))) (fault_makes ms rest used fault told.shows) h.pages in
    λ m extent pages going. all m extent pages (sym (told.progress m) ∙ going)

-- a module opens
pub opens : (old new : LfiStreamVerdicts) (k : ℕ) (extent : ExtentView) (used : List ℕ) → StandsFor (state_at new.modules k) extent.profile extent.words [] → ((m : ℕ) → m ≢ k → state_at new.modules m ≡ state_at old.modules m) → new.coming ≡ old.coming
    → Followed (Open k extent) nothing_found old new used
opens old new k extent used own others same text ms rest told h = (
  refl,
  record {
    pages = opened k extent old.modules new.modules (made_of ms (rest_of rest)) (made_of told.now (rest_of told.left)) others own told.grows (whole_now text (Open k extent) ms rest used told) h.pages;
    coming = subst (λ c. JudgesComing c told.now told.left) (sym same) (coming_stays old.coming (Open k extent) text ms rest used told (inr told.code) h.coming);
  },
)

-- a module has ended
pub ends : (v : LfiStreamVerdicts) (k : ℕ) (extent : ExtentView) (pages : ℕ) (reason : Reason) (finding : Finding) (used : List ℕ)
    → ((items : List ItemView) → IsJudged (state_at v.modules k) extent pages items → FindsOutcome extent (items ++ item_of k (pages + 1) extent (item.End reason) ∷ []) finding)
    → Followed (End k extent pages reason) finding v v used
ends v k extent pages reason finding used outcome text ms rest told h = (
  outcome (made_of ms (rest_of rest) k).items (h.pages k extent pages told.follows.0),
  record {
    pages = ended k (pages + 1) extent reason v.modules (made_of ms (rest_of rest)) (made_of told.now (rest_of told.left)) told.grows h.pages;
    coming = coming_stays v.coming (End k extent pages reason) text ms rest used told (inr told.code) h.coming;
  },
)

-- code came
abbrev pub TakesCode : (old new : LfiStreamVerdicts) → (k offset : ℕ) → (last : Bool) → (used : List ℕ) → Finding → Type 0
TakesCode old new k offset last used finding = (profile : Profile) (words : ℕ) (whole came : List ℕ) → IsJudgedTo old k profile words whole came → offset ≡ length whole + length came →
    length (whole ++ came) + length used ≤ 4 * words → GoesOn new k last profile words ((whole ++ came) ++ used) finding

-- the whole pages after it
codes_pages : (old new : LfiStreamVerdicts) (page : DuePage) (last : Bool) (ms : List Message) (rest used : List ℕ) (after : ℕ → Share)
    → ((m : ℕ) → m ≢ page.«module» → state_at new.modules m ≡ state_at old.modules m) → (last ≡ false → new.modules ≡ old.modules)
    → (last ≡ true → length (come page.«module» ms rest used) % 4 ≡ 0 → StandsFor (state_at new.modules page.«module») page.extent.profile page.extent.words (come page.«module» ms rest used))
    → ((m : ℕ) → after m ≡ after_event m (Code page last) (drop 12 rest ++ used) (made_of ms (rest_of rest) m)) → AreWhole after → Shares old.modules (made_of ms (rest_of rest)) → Shares new.modules after
codes_pages old new page false ms rest used after others kept stands grows whole h =
    same_shares new.modules (made_of ms (rest_of rest)) after grows (subst (λ l. Shares l (made_of ms (rest_of rest))) (sym (kept refl)) h)
codes_pages old new page true ms rest used after others kept stands grows whole h =
    let k = page.«module» in
    let code : List ℕ = code_of (made_of ms (rest_of rest) k).items in
    let payload : List ℕ = drop 12 rest ++ used in
    let same : come k ms rest used ≡ code ++ payload = append_assoc code (drop 12 rest) used in
    page_ended k page.extent page.pages payload old.modules new.modules (made_of ms (rest_of rest)) after others
    (λ words. subst (λ l. StandsFor (state_at new.modules k) page.extent.profile page.extent.words l) same (stands refl (subst (λ l. length l % 4 ≡ 0) (sym same) words))) grows whole h

pub codes : (old new : LfiStreamVerdicts) (page : DuePage) (last : Bool) (finding : Finding) (used : List ℕ) → TakesCode old new page.«module» (offset_of page) last used finding → ((m : ℕ) → m ≢ page.«module» → state_at new.modules m ≡ state_at old.modules m)
    → (last ≡ false → new.modules ≡ old.modules) → Followed (Code page last) finding old new used
codes old new page last finding used takes others kept text ms rest told h =
    let code = told.code in
    let go = takes page.extent.profile page.extent.words (code_of (made_of ms (rest_of rest) page.«module»).items) (drop 12 rest) (judged_to old page last ms rest used code h) (belongs old page last ms rest used code h) (fits old page last ms rest used code h) in (
      found page ms rest used finding go.finds,
      record {
        pages = codes_pages old new page last ms rest used (made_of told.now (rest_of told.left)) others kept go.pages told.grows (whole_now text (Code page last) ms rest used told) h.pages;
        coming = in_message new.coming ms told.now rest used told.left told.inside (goes new.coming page last ms rest used code go.coming);
      },
    )
