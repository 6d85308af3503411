-- What is left of the inputs of files.
use Rattle.std.proofs.Common.{◌≡◌, ◌∙◌, Bor, ℕ, zero, suc, ◌<◌, List, [], ◌∷◌, Option, Some, length, map, slice_get, refl, sym, ap, subst, arith}
use Rattle.std.proofs.lemmas.Option.{slice_get_within}
use Rattle.lfi_receive.specs.declared.input.Input.{Input}
use Rattle.lfi_receive.specs.Inputs.{left_of}
use Rattle.std.specs.declared.io.ErrorKind.{ErrorKind}
use Rattle.std.proofs.lemmas.List.{length-map}
use Rattle.lfi_commands.specs.Loading.{AreKnown, of_files}
use Rattle.lfi_file_commands.specs.Opening.{AreInputsOf, IsInputOf}

element : {A : Type 0} (xs : List A) (k : ℕ) → k < length xs → (x : A) × (slice_get xs k ≡ Some x)
element [] k within = absurd (omega arith)
element (y ∷ ys) zero within = (y, refl)
element (y ∷ ys) (suc k) within = element ys k (omega arith)

-- what is left of each input is its stream, where all streams are known
pub known_left : {R : Type 0} {remaining : R → Option (List ℕ)} (ts : List (Option (List ℕ))) (is : List (Input R)) (bytes : ℕ → List ℕ) → AreInputsOf remaining ts is → AreKnown ts bytes
    → (c : ℕ) (input : Input R) → slice_get is c ≡ Some input → left_of remaining input ≡ Some (bytes c)
known_left {R} {remaining} ts is bytes are known c input at =
    let within = slice_get_within is c input at in
    let same = are.all in
    let text = element ts c (omega arith) in
    subst (λ t. IsInputOf remaining t input) (known c text.0 text.1) (are.each c input text.0 at text.1)

pub map_twice : {A B C : Type 0} (f : B → C) (g : A → B) (xs : List A) → map f (map g xs) ≡ map (λ x. f (g x)) xs
map_twice f g [] = refl
map_twice f g (x ∷ xs) = ap (λ l. f (g x) ∷ l) (map_twice f g xs)

-- what is known of the connections of files
pub files_known : (paths : List (Bor (List ℕ))) (count : ℕ) (kinds : List (Option ErrorKind)) → count ≡ length paths
    → record { count = count; paths = map (λ p. p.now) paths; clients = []; kinds = kinds } ≡ of_files (map (λ p. p.now) paths) kinds
files_known paths count kinds is = ap (λ n. record { count = n; paths = map (λ p. p.now) paths; clients = []; kinds = kinds }) (is ∙ sym (length-map paths (λ p. p.now)))
