-- What a state that may be cut stands for, before a piece and after it.
use Rattle.std.proofs.Common.{◌≡◌, ◌≢◌, ℕ, ◌+◌, ◌*◌, ◌<◌, ◌≤◌, List, [], ◌∷◌, ◌++◌, length, Option, Some, sym, ap, subst, ◌∙◌, arith, length-append}
use Rattle.std.proofs.lemmas.List.{append-nil}
use Rattle.a64_word.specs.Words.{words_of}
use Rattle.lfi_module.specs.declared.profile.Profile.{Profile}
use Rattle.lfi_rules.specs.declared.fault.Fault.{Fault}
use Rattle.lfi_rules.specs.Faults.{FirstFault}
use Rattle.lfi_check.specs.Begun.{Begins}
use Rattle.lfi_check.specs.Cuts.{bytes_of, count_of, BeginsCut, Takes}
use Rattle.lfi_check.specs.declared.beginning.Beginning.{Beginning}
use Rattle.lfi_check.specs.declared.cut.CutWord.{CutWord}
use Rattle.lfi_check.specs.declared.cut.CutBeginning.{CutBeginning}
use Rattle.lfi_verifier.specs.declared.cut_state.LfiCutState.{LfiCutState}
use Rattle.lfi_verifier.specs.declared.finding.Finding.{Finding}
use Rattle.lfi_verifier.specs.declared.state.LfiState.{LfiState}
use Rattle.lfi_verifier.specs.declared.verdicts.LfiStreamVerdicts.{LfiStreamVerdicts}
use Rattle.lfi_verifier.specs.CutStates.{KeepsCut, IsCutState, IsCutOf, StandsForCut}
use Rattle.lfi_verifier.specs.States.{Keeps, IsState, StandsFor, status_after}
use Rattle.lfi_verifier.specs.StreamVerdicts.{state_at, FindsSoFar}
use Rattle.lfi_verifier.specs.inner.Judging.{IsJudgedTo}
use Rattle.lfi_verifier.proofs.Kept.{one, begun, count, judged_by, is_state}

abbrev cut_at : Beginning → CutWord → CutBeginning
cut_at whole word = record { whole = whole; word = word }

same_word : (a b : CutWord) → Some a ≡ Some b → a ≡ b
same_word a b e = cc

-- A state keeps one cut beginning.
one_cut : (s : LfiCutState) (a b : CutBeginning) → KeepsCut s a → KeepsCut s b → a ≡ b
one_cut s a b ka kb =
    ap (λ x. cut_at x a.word) (one s.whole a.whole b.whole ka.whole kb.whole) ∙ ap (λ x. cut_at b.whole x) (same_word a.word b.word (sym ka.word ∙ kb.word))

-- so many bytes came
pub came : (cut : CutBeginning) (bytes : List ℕ) → BeginsCut cut bytes → length bytes ≡ count_of cut
came cut bytes h =
    let size = ap length h.spelled in
    let parts = length-append h.judged (bytes_of cut.word) in
    let whole = h.begins.whole in
    omega (arith, size, parts, whole)

-- what a state stands for is one
is_cut_state : (s : LfiCutState) (p : Profile) (words : ℕ) (bytes : List ℕ) → StandsForCut s p words bytes → IsCutState s
is_cut_state s p words bytes h =
    let some = h.is.some in
    let same = h.is.count in
    record { cut = h.cut; keeps = h.keeps; in_range = ((omega (arith, some, same), h.is.begins.begins.most), h.is.begins.begins.room) }

no_more : (whole more : List ℕ) → length more ≡ 0 → whole ≡ whole ++ more
no_more whole [] none = sym (append-nil whole)
no_more whole (x ∷ more) none = absurd (omega arith)

-- a module's pages are judged, so its state is one
pub no_pages : (v : LfiStreamVerdicts) (m : ℕ) (p : Profile) (words : ℕ) (whole more : List ℕ) → IsJudgedTo v m p words whole more → ¬ (IsState (state_at v.modules m)) → ⊥
no_pages v m p words whole more h none = none (is_state (state_at v.modules m) p words whole h.pages)

-- where a page begins, its module's whole pages are what came
pub at_page : (v : LfiStreamVerdicts) (m : ℕ) (p : Profile) (words offset : ℕ) (whole more : List ℕ) (b : Beginning) (cut : CutBeginning) → Keeps (state_at v.modules m) b → IsJudgedTo v m p words whole more
    → offset ≡ 4 * b.judged → offset ≡ length whole + length more → cut.whole ≡ b → ((bytes : List ℕ) → Begins b bytes → BeginsCut cut bytes) → IsCutOf cut p words (whole ++ more)
at_page v m p words offset whole more b cut keeps h here is same begins =
    let s = state_at v.modules m in
    let begun_whole : Begins b whole = begun s p words whole b keeps h.pages in
    let size = begun_whole.whole in
    record {
      judged_by = ap (λ x. x.profile) same ∙ judged_by s p words whole b keeps h.pages;
      count = ap (λ x. x.words) same ∙ count s p words whole b keeps h.pages;
      some = h.pages.some;
      begins = subst (λ l. BeginsCut cut l) (no_more whole more (omega (arith, size, here, is))) (begins whole begun_whole);
    }

-- within a page some of it came
some_more : (v : LfiStreamVerdicts) (m : ℕ) (p : Profile) (words offset : ℕ) (whole more : List ℕ) (b : Beginning) → Keeps (state_at v.modules m) b → IsJudgedTo v m p words whole more
    → offset ≢ 4 * b.judged → offset ≡ length whole + length more → more ≢ []
some_more v m p words offset whole more b keeps h apart is none =
    let size = (begun (state_at v.modules m) p words whole b keeps h.pages).whole in
    let long = ap length none in
    apart (omega (arith, size, is, long))

pub in_page : (v : LfiStreamVerdicts) (m : ℕ) (p : Profile) (words offset : ℕ) (whole more : List ℕ) (b : Beginning) (cut : CutBeginning) → Keeps (state_at v.modules m) b → IsJudgedTo v m p words whole more
    → offset ≢ 4 * b.judged → offset ≡ length whole + length more → KeepsCut v.coming cut → IsCutOf cut p words (whole ++ more)
in_page v m p words offset whole more b cut keeps h apart is kept =
    let s = h.coming (some_more v m p words offset whole more b keeps h apart is) in
    subst (λ x. IsCutOf x p words (whole ++ more)) (one_cut v.coming s.cut cut s.keeps kept) s.is

pub no_coming : (v : LfiStreamVerdicts) (m : ℕ) (p : Profile) (words offset : ℕ) (whole more : List ℕ) (b : Beginning) → Keeps (state_at v.modules m) b → IsJudgedTo v m p words whole more
    → offset ≢ 4 * b.judged → offset ≡ length whole + length more → ¬ (IsCutState v.coming) → ⊥
no_coming v m p words offset whole more b keeps h apart is none =
    none (is_cut_state v.coming p words (whole ++ more) (h.coming (some_more v m p words offset whole more b keeps h apart is)))

-- one piece more
pub takes : (before now : CutBeginning) (p : Profile) (words : ℕ) (bytes piece : List ℕ) → IsCutOf before p words bytes → Takes before now piece → IsCutOf now p words (bytes ++ piece)
takes before now p words bytes piece h t = record {
  judged_by = t.profile ∙ h.judged_by;
  count = t.words ∙ h.count;
  some = h.some;
  begins = t.begins bytes h.begins;
}

-- there is room for a piece that a module has
pub has_room : (cut : CutBeginning) (p : Profile) (words size : ℕ) (bytes : List ℕ) → IsCutOf cut p words bytes → length bytes + size ≤ 4 * words → 4 * cut.whole.words < count_of cut + size → ⊥
has_room cut p words size bytes h fits over =
    let long = came cut bytes h.begins in
    let same = h.count in
    absurd (omega (arith, long, same, fits, over))

-- what is found so far
pub so_far : (cut : CutBeginning) (p : Profile) (words : ℕ) (bytes : List ℕ) (fault : Option Fault) (finding : Finding) → IsCutOf cut p words bytes → ((all : List ℕ) → BeginsCut cut all → FirstFault cut.whole.profile (words_of all) cut.whole.words fault)
    → finding ≡ record { status = status_after fault; fault = fault } → FindsSoFar p words bytes finding
so_far cut p words bytes fault finding h first is = record {
  fault = fault;
  first = subst (λ q. FirstFault q (words_of bytes) words fault) h.judged_by (subst (λ n. FirstFault cut.whole.profile (words_of bytes) n fault) h.count (first bytes h.begins));
  is = is;
}

-- whole pages
pub whole_pages : (s : LfiState) (b : Beginning) (cut : CutBeginning) (p : Profile) (words : ℕ) (bytes : List ℕ) → Keeps s b → b ≡ cut.whole → IsCutOf cut p words bytes → Begins b bytes → StandsFor s p words bytes
whole_pages s b cut p words bytes keeps same h begins = record {
  beginning = b;
  keeps = keeps;
  judged_by = ap (λ x. x.profile) same ∙ h.judged_by;
  count = ap (λ x. x.words) same ∙ h.count;
  some = h.some;
  begins = begins;
}
