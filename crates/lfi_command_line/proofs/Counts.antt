-- How many paths name the standard input, one path after another.
use Rattle.std.proofs.Common.{◌≡◌, ℕ, zero, suc, ◌+◌, ◌<◌, ◌≤◌, Bool, true, false, if◌then◌else◌, List, [], ◌∷◌, length, map, take, get_or, codes, refl, ap, subst, arith}
use Rattle.std.specs.Str.{bytes_eq}
use Rattle.clap.specs.Words.{Text}
use Rattle.lfi_command_line.specs.Flaws.{input_count}

abbrev pub plus_one : Bool → ℕ → ℕ
plus_one b n = if b then suc n else n

swapped : (b c : Bool) (n m : ℕ) → n ≡ plus_one c m → plus_one b n ≡ plus_one c (plus_one b m)
swapped true true n m e = ap suc e
swapped true false n m e = ap suc e
swapped false true n m e = e
swapped false false n m e = e

pub plus_one_most : (b : Bool) (n : ℕ) → plus_one b n ≤ suc n
plus_one_most true n = omega arith
plus_one_most false n = omega arith

counted_next : {X : Type 0} (f : X → Text) (paths : List X) (k : ℕ) (d : X) → k < length paths
    → input_count (map f (take (suc k) paths)) ≡ plus_one (bytes_eq (f (get_or paths k d)) (codes "-")) (input_count (map f (take k paths)))
counted_next f [] k d lt = absurd (omega arith)
counted_next f (x ∷ xs) zero d lt = refl
counted_next f (x ∷ xs) (suc k) d lt = swapped (bytes_eq (f x) (codes "-")) (bytes_eq (f (get_or xs k d)) (codes "-")) _ _ (counted_next f xs k d (omega arith))

pub counted_after : {X : Type 0} (f : X → Text) (paths : List X) (k : ℕ) (d : X) → k < length paths
    → input_count (map f (take (k + 1) paths)) ≡ plus_one (bytes_eq (f (get_or paths k d)) (codes "-")) (input_count (map f (take k paths)))
counted_after f paths k d lt =
    let one : suc k ≡ k + 1 = omega arith in
    subst (λ n. input_count (map f (take n paths)) ≡ plus_one (bytes_eq (f (get_or paths k d)) (codes "-")) (input_count (map f (take k paths)))) one (counted_next f paths k d lt)
