-- What is judged after an event.
use Rattle.std.proofs.Common.{◌≡◌, ℕ, ◌+◌, ◌*◌, ◌≤◌, ◌⊎◌, Bool, List, [], ◌++◌, length, drop, sym, ap, subst, ◌∙◌, inl, inr, arith, true, false, min, mul_assoc, append_assoc, length-append}
use Rattle.std.proofs.lemmas.List.{append-nil, drop_all}
use Rattle.lfi_module.specs.Extents.{ExtentView}
use Rattle.lfi_module.specs.Pages.{bytes_in_page}
use Rattle.lfi_frame.specs.Streams.{Message, rest_of, unfinished}
use Rattle.lfi_model.specs.declared.connection.Progress.{Progress}
use Rattle.lfi_model.specs.declared.connection.Progress.TheVariants.{Going}
use Rattle.lfi_stream.specs.declared.numbers.LfiStreamText.{LfiStreamText}
use Rattle.lfi_connection.specs.declared.event.Event.{Event}
use Rattle.lfi_connection.specs.Events.{IsInMessage, IsCodeOf}
use Rattle.lfi_connection.specs.declared.due_page.DuePage.{DuePage}
use Rattle.lfi_connection.specs.DuePages.{bytes_of, offset_of, IsWhole}
use Rattle.lfi_stream.specs.Events.{IsTold}
use Rattle.lfi_stream.specs.Outcomes.{code_of}
use Rattle.lfi_connection.specs.Modules.{IsOver}
use Rattle.lfi_stream.specs.Streams.{all, made_of}
use Rattle.lfi_stream.proofs.Paged.{paged}
use Rattle.lfi_connection.proofs.Texts.{drop_append_left, unfinished_long}
use Rattle.lfi_verifier.specs.declared.cut_state.LfiCutState.{LfiCutState}
use Rattle.lfi_verifier.specs.declared.finding.Finding.{Finding}
use Rattle.lfi_verifier.specs.declared.verdicts.LfiStreamVerdicts.{LfiStreamVerdicts}
use Rattle.lfi_verifier.specs.CutStates.{StandsForCut}
use Rattle.lfi_verifier.specs.StreamVerdicts.{JudgesComing, HasJudged, FindsSoFar}
use Rattle.lfi_verifier.specs.inner.Judging.{IsJudgedTo}
use Rattle.lfi_verifier.proofs.Rests.{unfinished_before}
use Rattle.lfi_verifier.proofs.Shares.{AreWhole}

-- where no code is told, none was used, or its page is passed over
abbrev pub TellsNone : (messages : List Message) → (rest used : List ℕ) → Type 0
TellsNone ms rest used = (used ≡ []) ⊎ ((m size index len : ℕ) → rest_of rest ≡ unfinished m size index len → IsOver (made_of ms (rest_of rest) m).progress)

over_going : (q : Progress) (extent : ExtentView) (pages : ℕ) → IsOver q → q ≡ Going extent pages → ⊥
over_going q extent pages over e = subst IsOver e over

-- What is judged of the page that is coming is that of the message in which the bytes used are.
module _ (coming : LfiCutState) (ms now : List Message) (rest used left : List ℕ) where
  none_coming : length left ≤ 12 → JudgesComing coming now left
  none_coming few = λ m size index len extent pages is going some. absurd (some (drop_all 12 left few))

  one_message : (now ≡ ms) × (left ≡ rest ++ used) × ((length left ≤ 12) ⊎ (12 ≤ length rest)) → (12 ≤ length rest → JudgesComing coming ms (rest ++ used)) → JudgesComing coming now left
  one_message h goes = elim h.2 [
    | inl few ↦ none_coming few
    | inr long ↦ subst (λ n. JudgesComing coming n left) (sym h.0) (subst (λ l. JudgesComing coming ms l) (sym h.1) (goes long))
  ]

  pub in_message : IsInMessage ms rest used now left → (12 ≤ length rest → JudgesComing coming ms (rest ++ used)) → JudgesComing coming now left
  in_message inside goes = elim inside [
    | inl none ↦ none_coming (let size = ap length none in omega (arith, size))
    | inr h ↦ one_message h goes
  ]

-- no code was told
pub stays : (coming : LfiCutState) (ms : List Message) (rest used : List ℕ) → TellsNone ms rest used → JudgesComing coming ms rest → 12 ≤ length rest → JudgesComing coming ms (rest ++ used)
stays coming ms rest used (inl none) h long = subst (λ l. JudgesComing coming ms l) (sym (ap (λ l. rest ++ l) none ∙ append-nil rest)) h
stays coming ms rest used (inr over) h long = λ m size index len extent pages is going some.
    let before : rest_of rest ≡ unfinished m size index len = unfinished_before rest used m size index len long is in
    let same : rest_of rest ≡ rest_of (rest ++ used) = before ∙ sym is in
    absurd (over_going (made_of ms (rest_of rest) m).progress extent pages (over m size index len before) (ap (λ r. (made_of ms r m).progress) same ∙ going))

-- all code that came of the module whose page is coming
abbrev pub come : (k : ℕ) (messages : List Message) (rest used : List ℕ) → List ℕ
come k ms rest used = (code_of (made_of ms (rest_of rest) k).items ++ drop 12 rest) ++ used

-- code was told
pub goes : (coming : LfiCutState) (page : DuePage) (ended : Bool) (ms : List Message) (rest used : List ℕ) (code : IsCodeOf page ended all ms rest used) → StandsForCut coming page.extent.profile page.extent.words (come page.«module» ms rest used)
    → 12 ≤ length rest → JudgesComing coming ms (rest ++ used)
goes coming page ended ms rest used code stands long = λ m size index len extent pages is going some.
    let before : rest_of rest ≡ unfinished m size index len = unfinished_before rest used m size index len long is in
    let same : rest_of rest ≡ rest_of (rest ++ used) = before ∙ sym is in
    let told : unfinished page.«module» page.extent.pages page.pages (bytes_in_page page.extent.pages page.extent.words page.pages) ≡ unfinished m size index len = sym code.due.header ∙ before in
    let mine : page.«module» ≡ m = cc in
    let was : (made_of ms (rest_of (rest ++ used)) m).progress ≡ Going page.extent page.pages = (λ i. (made_of ms (sym same i) (sym mine i)).progress) ∙ code.due.going in
    let both : Going page.extent page.pages ≡ Going extent pages = sym was ∙ going in
    let same_extent : page.extent ≡ extent = cc in
    let bytes : come page.«module» ms rest used ≡ code_of (made_of ms (rest_of (rest ++ used)) m).items ++ drop 12 (rest ++ used) =
    append_assoc (code_of (made_of ms (rest_of rest) page.«module»).items) (drop 12 rest) used ∙ (λ i. code_of (made_of ms (same i) (mine i)).items ++ sym (drop_append_left 12 rest used long) i) in
    subst (λ l. StandsForCut coming extent.profile extent.words l) bytes (subst (λ e. StandsForCut coming e.profile e.words (come page.«module» ms rest used)) same_extent stands)

all_within : (ended : Bool) (come due : ℕ) → IsWhole ended come due → come ≤ due
all_within true come due h = omega arith
all_within false come due h = omega arith

-- What a text says of the module of which code is told.
module _ (v : LfiStreamVerdicts) (page : DuePage) (ended : Bool) (ms : List Message) (rest used : List ℕ) (code : IsCodeOf page ended all ms rest used) (h : HasJudged v ms rest) where
  size : length (code_of (made_of ms (rest_of rest) page.«module»).items) ≡ 4 * min (page.extent.pages * page.pages) page.extent.words
  size = (h.pages page.«module» page.extent page.pages code.due.going).whole.size

  -- its whole pages are judged, and the page that is coming as far as it came
  pub judged_to : IsJudgedTo v page.«module» page.extent.profile page.extent.words (code_of (made_of ms (rest_of rest) page.«module»).items) (drop 12 rest)
  judged_to = record {
    pages = (h.pages page.«module» page.extent page.pages code.due.going).stands;
    coming = λ some. h.coming page.«module» page.extent.pages page.pages (bytes_in_page page.extent.pages page.extent.words page.pages) page.extent page.pages code.due.header code.due.going some;
  }

  -- the bytes used belong after them
  pub belongs : offset_of page ≡ length (code_of (made_of ms (rest_of rest) page.«module»).items) + length (drop 12 rest)
  belongs =
      let less = (unfinished_long rest page.«module» page.extent.pages page.pages (bytes_in_page page.extent.pages page.extent.words page.pages) code.due.header).1 in
      let is = code.due.come in
      omega (arith, less, is, size, mul_assoc 4 page.extent.pages page.pages)

  -- and the module has that many
  pub fits : length (code_of (made_of ms (rest_of rest) page.«module»).items ++ drop 12 rest) + length used ≤ 4 * page.extent.words
  fits =
      let within = all_within ended (length (drop 12 rest ++ used)) (bytes_of page) code.whole in
      let both = length-append (code_of (made_of ms (rest_of rest) page.«module»).items) (drop 12 rest) in
      let more = length-append (drop 12 rest) used in
      omega (arith, within, both, more, size)

-- the same of what was used before it
pub found : (page : DuePage) (ms : List Message) (rest used : List ℕ) (finding : Finding) → FindsSoFar page.extent.profile page.extent.words (come page.«module» ms rest used) finding
    → FindsSoFar page.extent.profile page.extent.words (code_of (made_of ms (rest_of rest) page.«module»).items ++ (drop 12 rest ++ used)) finding
found page ms rest used finding finds = subst (λ l. FindsSoFar page.extent.profile page.extent.words l finding) (append_assoc (code_of (made_of ms (rest_of rest) page.«module»).items) (drop 12 rest) used) finds

-- what came of open modules is whole pages
pub whole_now : (text : LfiStreamText) (event : Event) (ms : List Message) (rest used : List ℕ) (told : IsTold text ms rest used event) → AreWhole (made_of told.now (rest_of told.left))
whole_now text event ms rest used told = λ m extent pages going. paged told.now (rest_of told.left) m extent pages told.stands.each going
