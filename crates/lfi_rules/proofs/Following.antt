-- What is said of words where more words follow, and where those aren't there.
use Rattle.std.proofs.Common.{◌≡◌, ℕ, ◌+◌, ◌<◌, ◌≤◌, List, ◌++◌, length, Some, None, sym, ◌∙◌, ap, arith, inl, inr, length-append}
use Rattle.std.specs.List.{slice_get}
use Rattle.std.proofs.lemmas.Bool.{cases_lt}
use Rattle.std.proofs.lemmas.List.{get_or_append_left}
use Rattle.std.proofs.lemmas.Option.{slice_get_within, slice_get-get_or, get_or_from_slice_get}
use Rattle.lfi_module.specs.declared.profile.Profile.{Profile}
use Rattle.lfi_rules.specs.declared.needs.Need.{Need}
use Rattle.lfi_rules.specs.declared.rule.Rule.{Rule}
use Rattle.lfi_rules.specs.declared.fault.Fault.{Fault}
use Rattle.lfi_rules.specs.Faults.{IsDue, BreaksInside, by_itself, unmet, Breaks, inside, left_open, IsFirstInside, FirstFault}
use Rattle.lfi_rules.proofs.Inside.{inside_within}

pub get_left : (ws page : List ℕ) (k w : ℕ) → slice_get ws k ≡ Some w → slice_get (ws ++ page) k ≡ Some w
get_left ws page k w e =
    let within : k < length ws = slice_get_within ws k w e in
    let longer : k < length (ws ++ page) = omega (arith, length-append ws page) in
    slice_get-get_or (ws ++ page) k w longer ∙ ap Some (get_or_append_left ws page w k within ∙ get_or_from_slice_get ws k w w e)

pub get_back : (ws page : List ℕ) (k w : ℕ) → k < length ws → slice_get (ws ++ page) k ≡ Some w → slice_get ws k ≡ Some w
get_back ws page k w within e =
    slice_get-get_or ws k w within ∙ ap Some (sym (get_or_append_left ws page w k within) ∙ get_or_from_slice_get (ws ++ page) k w w e)

pub due_left : (p : Profile) (ws page : List ℕ) (i d : ℕ) (need : Need) → IsDue p ws i d need → IsDue p (ws ++ page) i d need
due_left p ws page i d need due =
    let within : i + d < length ws = due.within in
    record {
      opening = due.opening;
      at = get_left ws page i due.opening due.at;
      opens = due.opens;
      calm = λ j w low high at. due.calm j w low high (get_back ws page j w (omega arith) at);
      within = omega (arith, length-append ws page);
      term = due.term;
    }

pub due_back : (p : Profile) (ws page : List ℕ) (i d : ℕ) (need : Need) → i + d < length ws → IsDue p (ws ++ page) i d need → IsDue p ws i d need
due_back p ws page i d need within due = record {
  opening = due.opening;
  at = get_back ws page i due.opening (omega arith) due.at;
  opens = due.opens;
  calm = λ j w low high at. due.calm j w low high (get_left ws page j w at);
  within = within;
  term = due.term;
}

pub more_breaks : (p : Profile) (ws page : List ℕ) (first n k : ℕ) (r : Rule) → BreaksInside p ws first n k r → BreaksInside p (ws ++ page) first n k r
more_breaks p ws page first n k r (by_itself i word e at broken) = by_itself i word e (get_left ws page i word at) broken
more_breaks p ws page first n k r (unmet i d word need e at ten due misses last) =
    unmet i d word need e (get_left ws page (i + d + 1) word at) ten (due_left p ws page i d need due) misses last

pub fewer_breaks : (p : Profile) (ws more : List ℕ) (first n k : ℕ) (r : Rule) → k < first + length ws → BreaksInside p (ws ++ more) first n k r → BreaksInside p ws first n k r
fewer_breaks p ws more first n k r early (by_itself i w e at broken) = by_itself i w e (get_back ws more i w (omega arith) at) broken
fewer_breaks p ws more first n k r early (unmet i d w need e at ten due misses last) =
    unmet i d w need e (get_back ws more (i + d + 1) w (omega arith) at) ten (due_back p ws more i d need (omega arith) due) misses last

pub inside_stays : (p : Profile) (ws more : List ℕ) (n : ℕ) (fault : Fault) → IsFirstInside p ws 0 n (Some fault) → IsFirstInside p (ws ++ more) 0 n (Some fault)
inside_stays p ws more n fault first = record {
  breaks = more_breaks p ws more 0 n fault.word fault.rule first.breaks;
  least = λ k r h. let within : fault.word < 0 + length ws = inside_within p ws 0 n fault.word fault.rule first.breaks in
      elim (cases_lt k (length ws)) [
        | inl early ↦ first.least k r (fewer_breaks p ws more 0 n k r (omega arith) h)
        | inr late ↦ inl (omega arith)
      ];
}

-- ---- a module's words
pub breaks_within : (p : Profile) (ws : List ℕ) (n k : ℕ) (r : Rule) → Breaks p ws n k r → k < length ws
breaks_within p ws n k r (inside h) = let l : k < 0 + length ws = inside_within p ws 0 n k r h in omega arith
breaks_within p ws n k r (left_open i d need e last ten due) = let l : i + d < length ws = due.within in omega arith

pub breaks_more : (p : Profile) (ws more : List ℕ) (n k : ℕ) (r : Rule) → Breaks p ws n k r → Breaks p (ws ++ more) n k r
breaks_more p ws more n k r (inside h) = inside (more_breaks p ws more 0 n k r h)
breaks_more p ws more n k r (left_open i d need e last ten due) = left_open i d need e last ten (due_left p ws more i d need due)

pub breaks_less : (p : Profile) (ws more : List ℕ) (n k : ℕ) (r : Rule) → k < length ws → Breaks p (ws ++ more) n k r → Breaks p ws n k r
breaks_less p ws more n k r within (inside h) = inside (fewer_breaks p ws more 0 n k r (omega arith) h)
breaks_less p ws more n k r within (left_open i d need e last ten due) = left_open i d need e last ten (due_back p ws more i d need (omega arith) due)

pub fault_within : (p : Profile) (ws : List ℕ) (n : ℕ) (fault : Fault) → FirstFault p ws n (Some fault) → fault.word < length ws
fault_within p ws n fault first = breaks_within p ws n fault.word fault.rule first.breaks

-- the first fault of a beginning is that of the whole
pub fault_stays : (p : Profile) (ws more : List ℕ) (n : ℕ) (fault : Fault) → FirstFault p ws n (Some fault) → FirstFault p (ws ++ more) n (Some fault)
fault_stays p ws more n fault first = record {
  breaks = breaks_more p ws more n fault.word fault.rule first.breaks;
  least = λ k r h. elim (cases_lt k (length ws)) [
    | inl within ↦ first.least k r (breaks_less p ws more n k r within h)
    | inr past ↦ let within : fault.word < length ws = fault_within p ws n fault first in inl (omega arith)
  ];
}

-- a beginning of words that have no fault has none
pub faultless_less : (p : Profile) (ws more : List ℕ) (n : ℕ) → FirstFault p (ws ++ more) n None → FirstFault p ws n None
faultless_less p ws more n none k r h = none k r (breaks_more p ws more n k r h)

-- the first fault that more words bring to words without one is at one of them
pub fault_comes : (p : Profile) (ws more : List ℕ) (n : ℕ) (fault : Fault) → FirstFault p ws n None → FirstFault p (ws ++ more) n (Some fault)
    → (length ws ≤ fault.word) × (fault.word < length ws + length more)
fault_comes p ws more n fault none first = (
  elim (cases_lt fault.word (length ws)) [
    | inl early ↦ absurd (none fault.word fault.rule (breaks_less p ws more n fault.word fault.rule early first.breaks))
    | inr late ↦ late
  ],
  let within : fault.word < length (ws ++ more) = fault_within p (ws ++ more) n fault first in
      let size : length (ws ++ more) ≡ length ws + length more = length-append ws more in
      omega arith,
)
