-- Code that is judged piece by piece.
use Rattle.std.proofs.Common.{◌≡◌, ℕ, zero, suc, ◌+◌, ◌*◌, ◌/◌, ◌%◌, ◌≤◌, List, [], ◌∷◌, ◌++◌, length, Option, Some, None, refl, sym, ap, subst, ◌∙◌, arith, length-append}
use Rattle.std.specs.Prelude.{is_some, true, false}
use Rattle.std.proofs.lemmas.Option.{none-some}
use Rattle.std.specs.Int.{from_le_bytes, w32}
use Rattle.a64_word.specs.Words.{words_of}
use Rattle.a64_word.proofs.WordLaws.{words_count}
use Rattle.lfi_rules.specs.declared.fault.Fault.{Fault}
use Rattle.lfi_rules.specs.declared.needs.Need.{Need}
use Rattle.lfi_rules.specs.Faults.{FirstFault}
use Rattle.lfi_rules.specs.Verdicts.{LeavesOpen, Judges}
use Rattle.lfi_rules.specs.declared.verdict.PageVerdict.{PageVerdict}
use Rattle.lfi_rules.proofs.Following.{fault_stays}
use Rattle.lfi_check.specs.declared.beginning.Beginning.{Beginning}
use Rattle.lfi_check.specs.declared.verdict.Verdict.TheVariants.{Lawful, Refused}
use Rattle.lfi_check.specs.Checking.{IsCode, Checks}
use Rattle.lfi_check.specs.Begun.{Begins}

-- the words of whole words, and of bytes after them
pub words_append : (bytes piece : List ℕ) (k : ℕ) → length bytes ≡ 4 * k → words_of (bytes ++ piece) ≡ words_of bytes ++ words_of piece
words_append [] piece k e = refl
words_append (a ∷ b ∷ c ∷ d ∷ rest) piece zero e = absurd (omega arith)
words_append (a ∷ b ∷ c ∷ d ∷ rest) piece (suc k) e = ap (λ l. from_le_bytes w32 (a ∷ b ∷ c ∷ d ∷ []) ∷ l) (words_append rest piece k (omega arith))
words_append (a ∷ b ∷ c ∷ []) piece k e = absurd (omega arith)
words_append (a ∷ b ∷ []) piece k e = absurd (omega arith)
words_append (a ∷ []) piece k e = absurd (omega arith)

pub words_so_far : (bytes : List ℕ) (k : ℕ) → length bytes ≡ 4 * k → length (words_of bytes) ≡ k
words_so_far bytes k e = let count = words_count bytes in omega (arith, count)

pub words_room : (piece : List ℕ) (judged words : ℕ) → 4 * judged + length piece ≤ 4 * words → judged + length (words_of piece) ≤ words
words_room piece judged words room = let count = words_count piece in omega (arith, count)

-- a piece after a fault
pub begins_faulty : (b : Beginning) (bytes piece : List ℕ) → is_some b.fault ≡ true → length piece % 4 ≡ 0 → 4 * b.judged + length piece ≤ 4 * b.words → Begins b bytes
    → Begins (record { profile = b.profile; words = b.words; judged = b.judged + length piece / 4; fault = b.fault; tail = b.tail }) (bytes ++ piece)
begins_faulty b bytes piece some whole room h = by_fault b.fault refl some
  where
    l : length (bytes ++ piece) ≡ length bytes + length piece
    l = length-append bytes piece

    old : length bytes ≡ 4 * b.judged
    old = h.whole

    all : length (bytes ++ piece) ≡ 4 * (b.judged + length piece / 4)
    all = omega (arith, l, old, whole)

    joined : words_of (bytes ++ piece) ≡ words_of bytes ++ words_of piece
    joined = words_append bytes piece b.judged old

    size : length (words_of (bytes ++ piece)) ≡ b.judged + length piece / 4
    size = words_so_far (bytes ++ piece) (b.judged + length piece / 4) all

    by_fault : (found : Option Fault) → b.fault ≡ found → is_some found ≡ true
        → Begins (record { profile = b.profile; words = b.words; judged = b.judged + length piece / 4; fault = b.fault; tail = b.tail }) (bytes ++ piece)
    by_fault None e some = cc
    by_fault (Some fault) e some =
        record {
          whole = all;
          room = omega (arith, room, whole);
          most = h.most;
          first = subst (λ x. FirstFault b.profile (words_of (bytes ++ piece)) b.words x) (sym e) (subst (λ ws. FirstFault b.profile ws b.words (Some fault)) (sym joined)
              (fault_stays b.profile (words_of bytes) (words_of piece) b.words fault (subst (λ x. FirstFault b.profile (words_of bytes) b.words x) e h.first)));
          left = λ none. absurd (none-some fault (sym none ∙ e));
        }

-- a piece after words without a fault
pub begins_more : (b : Beginning) (bytes piece : List ℕ) (verdict : PageVerdict) (fault : Option Fault) (left_open : Need) → b.fault ≡ None → length piece % 4 ≡ 0 → 4 * b.judged + length piece ≤ 4 * b.words
    → Judges b.profile (words_of piece) b.judged b.words verdict
    → ((placed page : List ℕ) → FirstFault b.profile placed b.words None → LeavesOpen b.profile placed b.tail → Judges b.profile page (length placed) b.words verdict → length (words_of piece) ≡ length page → FirstFault b.profile (placed ++ page) b.words fault)
    → ((placed page : List ℕ) → LeavesOpen b.profile placed b.tail → Judges b.profile page (length placed) b.words verdict → LeavesOpen b.profile (placed ++ page) left_open)
    → Begins b bytes → Begins (record { profile = b.profile; words = b.words; judged = b.judged + length piece / 4; fault = fault; tail = left_open }) (bytes ++ piece)
begins_more b bytes piece verdict fault left_open none whole room judges first left h =
    let l : length (bytes ++ piece) ≡ length bytes + length piece = length-append bytes piece in
    let old : length bytes ≡ 4 * b.judged = h.whole in
    let joined : words_of (bytes ++ piece) ≡ words_of bytes ++ words_of piece = words_append bytes piece b.judged old in
    let size : length (words_of bytes) ≡ b.judged = words_so_far bytes b.judged old in
    let here : Judges b.profile (words_of piece) (length (words_of bytes)) b.words verdict = subst (λ k. Judges b.profile (words_of piece) k b.words verdict) (sym size) judges in
    record {
      whole = omega arith;
      room = omega arith;
      most = h.most;
      first = subst (λ ws. FirstFault b.profile ws b.words fault) (sym joined)
          (first (words_of bytes) (words_of piece) (subst (λ x. FirstFault b.profile (words_of bytes) b.words x) none h.first) (h.left none) here refl);
      left = λ _. subst (λ ws. LeavesOpen b.profile ws left_open) (sym joined) (left (words_of bytes) (words_of piece) (h.left none) here);
    }

pub nothing : (found : Option Fault) → is_some found ≡ false → found ≡ None
nothing None e = refl
nothing (Some fault) e = cc

size_of : (bytes : List ℕ) (all : Beginning) → Begins all bytes → length (words_of bytes) ≡ all.judged
size_of bytes all h = words_so_far bytes all.judged h.whole

is_code : (bytes : List ℕ) (all : Beginning) → Begins all bytes → all.judged ≡ all.words → 1 ≤ all.words → IsCode bytes
is_code bytes all h judged some =
    let old = h.whole in
    let most = h.most in
    (omega (arith, old, judged, some), omega (arith, old), omega (arith, old, judged, most))

first_of_all : (bytes : List ℕ) (all : Beginning) → Begins all bytes → all.judged ≡ all.words → FirstFault all.profile (words_of bytes) (length (words_of bytes)) all.fault
first_of_all bytes all h judged = subst (λ n. FirstFault all.profile (words_of bytes) n all.fault) (sym judged ∙ sym (size_of bytes all h)) h.first

-- What a whole module that was judged says of its bytes, by its first fault.
pub checks_lawful : (bytes : List ℕ) (all : Beginning) → Begins all bytes → all.judged ≡ all.words → 1 ≤ all.words → all.fault ≡ None → Checks all.profile bytes (Lawful all.words)
checks_lawful bytes all h judged some e =
    (is_code bytes all h judged some, sym (size_of bytes all h ∙ judged), subst (λ x. FirstFault all.profile (words_of bytes) (length (words_of bytes)) x) e (first_of_all bytes all h judged))

pub checks_refused : (bytes : List ℕ) (all : Beginning) (fault : Fault) → Begins all bytes → all.judged ≡ all.words → 1 ≤ all.words → all.fault ≡ Some fault → Checks all.profile bytes (Refused fault)
checks_refused bytes all fault h judged some e =
    (is_code bytes all h judged some, subst (λ x. FirstFault all.profile (words_of bytes) (length (words_of bytes)) x) e (first_of_all bytes all h judged))
