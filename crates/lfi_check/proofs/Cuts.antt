-- Code that comes in pieces, cut anywhere.
use Rattle.std.proofs.Common.{◌≡◌, ℕ, ◌+◌, ◌*◌, ◌%◌, ◌<◌, List, [], ◌∷◌, ◌++◌, length, take, drop, refl, sym, ap, subst, ◌∙◌, arith, append_assoc, take-append-drop, length-append}
use Rattle.std.proofs.lemmas.List.{append-nil}
use Rattle.a64_word.specs.Words.{words_of}
use Rattle.lfi_rules.specs.Faults.{FirstFault}
use Rattle.lfi_check.specs.declared.beginning.Beginning.{Beginning}
use Rattle.lfi_check.specs.declared.cut.CutWord.{CutWord}
use Rattle.lfi_check.specs.declared.cut.CutWord.TheVariants.{Nothing, One, Two, Three}
use Rattle.lfi_check.specs.declared.cut.CutBeginning.{CutBeginning}
use Rattle.lfi_check.specs.Begun.{Begins}
use Rattle.lfi_check.specs.Cuts.{bytes_of, BeginsCut, Takes}
use Rattle.lfi_check.proofs.Begun.{words_append}

abbrev pub cut_at : Beginning → CutWord → CutBeginning
cut_at whole word = record { whole = whole; word = word }

-- a cut word has at most three bytes, which spell no word
pub few_bytes : (word : CutWord) → length (bytes_of word) < 4
few_bytes Nothing = omega arith
few_bytes (One a) = omega arith
few_bytes (Two a b) = omega arith
few_bytes (Three a b c) = omega arith

no_word : (word : CutWord) → words_of (bytes_of word) ≡ []
no_word Nothing = refl
no_word (One a) = refl
no_word (Two a b) = refl
no_word (Three a b c) = refl

-- a byte after those that came of a word
byte_after : (bytes judged held : List ℕ) (byte : ℕ) → bytes ≡ judged ++ held → bytes ++ byte ∷ [] ≡ judged ++ (held ++ byte ∷ [])
byte_after bytes judged held byte e = ap (λ l. l ++ byte ∷ []) e ∙ append_assoc judged held (byte ∷ [])

-- one byte more of a word that is cut
pub kept : (cut : CutBeginning) (next : CutWord) (byte : ℕ) → bytes_of next ≡ bytes_of cut.word ++ byte ∷ [] → Takes cut (cut_at cut.whole next) (byte ∷ [])
kept cut next byte is = record {
  begins = λ bytes h. record {
    judged = h.judged;
    begins = h.begins;
    spelled = byte_after bytes h.judged (bytes_of cut.word) byte h.spelled ∙ ap (λ l. h.judged ++ l) (sym is);
  };
  count = let l = ap length is in let n = length-append (bytes_of cut.word) (byte ∷ []) in omega (arith, l, n);
  words = refl;
  profile = refl;
}

-- the last byte of a word
pub completed : (cut : CutBeginning) (after : Beginning) (byte : ℕ) (word : List ℕ) → word ≡ bytes_of cut.word ++ byte ∷ [] → length word ≡ 4 → ((judged : List ℕ) → Begins cut.whole judged → Begins after (judged ++ word))
    → 4 * after.judged ≡ 4 * cut.whole.judged + length word → after.words ≡ cut.whole.words → after.profile ≡ cut.whole.profile → Takes cut (cut_at after Nothing) (byte ∷ [])
completed cut after byte word is four begins judged words profile = record {
  begins = λ bytes h. record {
    judged = h.judged ++ word;
    begins = begins h.judged h.begins;
    spelled = byte_after bytes h.judged (bytes_of cut.word) byte h.spelled ∙ ap (λ l. h.judged ++ l) (sym is) ∙ sym (append-nil (h.judged ++ word));
  };
  count = let l = ap length is in let n = length-append (bytes_of cut.word) (byte ∷ []) in omega (arith, l, n, judged);
  words = words;
  profile = profile;
}

-- no byte more
pub takes_none : (cut : CutBeginning) → Takes cut cut []
takes_none cut = record { begins = λ bytes h. subst (λ l. BeginsCut cut l) (sym (append-nil bytes)) h; count = omega arith; words = refl; profile = refl }

-- one piece, and then another
pub takes_both : (a b c : CutBeginning) (xs ys : List ℕ) → Takes a b xs → Takes b c ys → Takes a c (xs ++ ys)
takes_both a b c xs ys h k = record {
  begins = λ bytes begun. subst (λ l. BeginsCut c l) (append_assoc bytes xs ys) (k.begins (bytes ++ xs) (h.begins bytes begun));
  count = let l = length-append xs ys in let m = h.count in let n = k.count in omega (arith, l, m, n);
  words = k.words ∙ h.words;
  profile = k.profile ∙ h.profile;
}

pub takes_same : (a b : CutBeginning) (xs ys : List ℕ) → xs ≡ ys → Takes a b xs → Takes a b ys
takes_same a b xs ys e h = subst (λ l. Takes a b l) e h

-- nothing stands after the words that are judged
bare_by : (held judged bytes : List ℕ) → length held ≡ 0 → bytes ≡ judged ++ held → bytes ≡ judged
bare_by [] judged bytes none e = e ∙ append-nil judged
bare_by (x ∷ held) judged bytes none e = absurd (omega arith)

pub bare : (cut : CutBeginning) (bytes : List ℕ) → length (bytes_of cut.word) ≡ 0 → BeginsCut cut bytes → Begins cut.whole bytes
bare cut bytes none h = subst (λ l. Begins cut.whole l) (sym (bare_by (bytes_of cut.word) h.judged bytes none h.spelled)) h.begins

-- bytes that are whole words are all judged
pub ended : (cut : CutBeginning) (bytes : List ℕ) → BeginsCut cut bytes → length bytes % 4 ≡ 0 → Begins cut.whole bytes
ended cut bytes h whole =
    let size : length bytes ≡ length h.judged + length (bytes_of cut.word) = ap length h.spelled ∙ length-append h.judged (bytes_of cut.word) in
    let judged = h.begins.whole in
    let few = few_bytes cut.word in
    bare cut bytes (omega (arith, size, judged, few, whole)) h

-- the first fault of the words that are judged is that of all bytes
pub first : (cut : CutBeginning) (bytes : List ℕ) → BeginsCut cut bytes → FirstFault cut.whole.profile (words_of bytes) cut.whole.words cut.whole.fault
first cut bytes h =
    let same : words_of bytes ≡ words_of h.judged =
    ap words_of h.spelled ∙ words_append h.judged (bytes_of cut.word) cut.whole.judged h.begins.whole ∙ ap (λ l. words_of h.judged ++ l) (no_word cut.word) ∙ append-nil (words_of h.judged) in
    subst (λ ws. FirstFault cut.whole.profile ws cut.whole.words cut.whole.fault) (sym same) h.begins.first

-- words after whole words
pub aligned : (cut : CutBeginning) (after : Beginning) (piece : List ℕ) → length (bytes_of cut.word) ≡ 0 → ((bytes : List ℕ) → Begins cut.whole bytes → Begins after (bytes ++ piece))
    → 4 * after.judged ≡ 4 * cut.whole.judged + length piece → after.words ≡ cut.whole.words → after.profile ≡ cut.whole.profile → Takes cut (cut_at after Nothing) piece
aligned cut after piece none begins judged words profile = record {
  begins = λ bytes h. record { judged = bytes ++ piece; begins = begins bytes (bare cut bytes none h); spelled = sym (append-nil (bytes ++ piece)) };
  count = omega (arith, none, judged);
  words = words;
  profile = profile;
}

-- a piece in its three parts
pub in_parts : (piece head rest words tail : List ℕ) (m n : ℕ) → head ≡ take m piece → rest ≡ drop m piece → words ≡ take n rest → tail ≡ drop n rest → (head ++ words) ++ tail ≡ piece
in_parts piece head rest words tail m n is_head is_rest is_words is_tail =
    append_assoc head words tail ∙ (λ i. head ++ (is_words i ++ is_tail i)) ∙ ap (λ l. head ++ l) (take-append-drop n rest) ∙ (λ i. is_head i ++ is_rest i) ∙ take-append-drop m piece
