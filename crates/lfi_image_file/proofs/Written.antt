-- One text after another, written.
use Rattle.std.proofs.Common.{◌≡◌, ℕ, zero, suc, ◌+◌, ◌<◌, List, [], ◌∷◌, ◌++◌, length, take, drop, get_or, Option, Result, Ok, Err, refl, sym, ◌∙◌, ap, subst, arith, append_assoc, append-nil, length-append}
use Rattle.std.specs.Io.KnownBytes.{Appends}
use Rattle.std.proofs.KnownBytes.{Appends-trans}
use Rattle.a64_word.specs.Words.{words_of}
use Rattle.page_buf.specs.Page.{PageView}
use Rattle.std.specs.Prelude.{OnOk, OnErr, IfErr}
use Rattle.lfi_image_file.specs.declared.fault.ImageFault.{ImageFault}
use Rattle.lfi_image_file.specs.declared.fault.ImageFault.TheVariants.{Device}
use Rattle.lfi_image_file.specs.Files.{code_of}
use Rattle.lfi_image.specs.Built.{words_in}
use Rattle.exact_io.specs.Beginnings.{AppendsBeginning}
use Rattle.lfi_image_file.specs.inner.Writing.{Writes}
use Rattle.lfi_image_file.proofs.Pieces.{code_of-append}

pub writes_after : (a b c : Option (List ℕ)) (xs ys : List ℕ) (r : Result (Unit {0}) ImageFault) → Appends a b xs → Writes b c ys r → Writes a c (xs ++ ys) r
writes_after a b c xs ys (Ok x) p q = Appends-trans a b c xs ys p q
writes_after a b c xs ys (Err fault) p q =
    let e = q.1 in
    (q.0, (xs ++ e.0, e.1, ap (λ l. xs ++ l) e.2 ∙ sym (append_assoc xs e.0 e.1), e.3, Appends-trans a b c xs e.0 p e.4))

-- A fault comes with a beginning of all that was to be written.
pub writes_before : (a b : Option (List ℕ)) (xs ys : List ℕ) (r s : Result (Unit {0}) ImageFault) (fault : ImageFault) → r ≡ Err fault → s ≡ Err fault → Writes a b xs r → Writes a b (xs ++ ys) s
writes_before a b xs ys r s fault e d w = subst (Writes a b (xs ++ ys)) (sym d) (longer (subst (Writes a b xs) e w))
  where
    longer : Writes a b xs (Err fault) → Writes a b (xs ++ ys) (Err fault)
    longer q = let p = q.1 in (q.0, (p.0, p.1 ++ ys, ap (λ l. l ++ ys) p.2 ∙ append_assoc p.0 p.1 ys, omega (arith, p.3, length-append p.1 ys), p.4))

-- what it says of each outcome
pub writes_all : (a b : Option (List ℕ)) (xs : List ℕ) (r : Result (Unit {0}) ImageFault) → Writes a b xs r → OnOk r (Appends a b xs)
writes_all a b xs (Ok x) w = w
writes_all a b xs (Err fault) w = tt

pub writes_fault : (a b : Option (List ℕ)) (xs : List ℕ) (r : Result (Unit {0}) ImageFault) → Writes a b xs r → IfErr r (λ fault. fault ≡ Device)
writes_fault a b xs (Ok x) w = tt
writes_fault a b xs (Err fault) w = w.0

pub writes_part : (a b : Option (List ℕ)) (xs : List ℕ) (r : Result (Unit {0}) ImageFault) → Writes a b xs r → OnErr r (AppendsBeginning a b xs)
writes_part a b xs (Ok x) w = tt
writes_part a b xs (Err fault) w = w.1

-- the words of the pages before a page, of it, and of those after it
pub words_taken : (ps : List PageView) (at : ℕ) (d : PageView) → at < length ps → words_in (take (at + 1) ps) ≡ words_in (take at ps) ++ words_of (get_or ps at d).bytes
words_taken ps at d within = ap (λ n. words_in (take n ps)) (let e : at + 1 ≡ suc at = omega arith in e) ∙ taken ps at within
  where
    taken : (ps : List PageView) (at : ℕ) → at < length ps → words_in (take (suc at) ps) ≡ words_in (take at ps) ++ words_of (get_or ps at d).bytes
    taken [] at within = absurd (omega (arith, within))
    taken (p ∷ ps) zero within = append-nil (words_of p.bytes)
    taken (p ∷ ps) (suc at) within = ap (λ l. words_of p.bytes ++ l) (taken ps at (omega (arith, within))) ∙ sym (append_assoc (words_of p.bytes) (words_in (take at ps)) (words_of (get_or ps at d).bytes))

pub words_split : (ps : List PageView) (n : ℕ) → words_in ps ≡ words_in (take n ps) ++ words_in (drop n ps)
words_split [] zero = refl
words_split [] (suc n) = refl
words_split (p ∷ ps) zero = refl
words_split (p ∷ ps) (suc n) = ap (λ l. words_of p.bytes ++ l) (words_split ps n) ∙ sym (append_assoc (words_of p.bytes) (words_in (take n ps)) (words_in (drop n ps)))

-- the code of the pages up to a page, and of it
pub code_taken : (ps : List PageView) (at : ℕ) (d : PageView) → at < length ps → code_of (words_in (take at ps)) ++ code_of (words_of (get_or ps at d).bytes) ≡ code_of (words_in (take (at + 1) ps))
code_taken ps at d within = sym (code_of-append (words_in (take at ps)) (words_of (get_or ps at d).bytes)) ∙ ap code_of (sym (words_taken ps at d within))

pub code_split : (ps : List PageView) (n : ℕ) → code_of (words_in (take n ps)) ++ code_of (words_in (drop n ps)) ≡ code_of (words_in ps)
code_split ps n = sym (code_of-append (words_in (take n ps)) (words_in (drop n ps))) ∙ ap code_of (sym (words_split ps n))
