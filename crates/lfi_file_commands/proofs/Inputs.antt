-- Inputs of the files at several paths.
use Rattle.std.proofs.Common.{◌≡◌, ◌∙◌, ℕ, zero, suc, ◌+◌, ◌≤◌, List, [], ◌∷◌, ◌++◌, Option, Some, length, length-append, map, take, slice_get, sym, ap, subst, arith, option_map}
use Rattle.std.proofs.lemmas.Option.{none-some, slice_get-map}
use Rattle.lfi_receive.specs.declared.input.Input.{Input}
use Rattle.lfi_file_commands.specs.Opening.{AreInputsOf, IsInputOf}
use Rattle.lfi_file_commands.specs.declared.failure.Failure.{Failure}
use Rattle.lfi_file_commands.specs.declared.failure.Failure.TheVariants.{CannotRead, CannotWrite, CannotListen, NoMemory, NoThread}
use Rattle.lfi_file_commands.specs.Failures.{IsOfReading, IsOfReadingOne}
use Rattle.lfi_file_commands.proofs.Joined.{all_taken}

some_same : {A : Type 0} (a b : A) → Some a ≡ Some b → a ≡ b
some_same a b e = cc

-- what holds of each two at the same place holds of them and one more
pub grown : {A B : Type 0} (P : A → B → Type 0) (ts : List A) (is : List B) (t : A) (i : B) → length is ≡ length ts
    → ((c : ℕ) (b : B) (a : A) → slice_get is c ≡ Some b → slice_get ts c ≡ Some a → P a b) → P t i
    → (c : ℕ) (b : B) (a : A) → slice_get (is ++ i ∷ []) c ≡ Some b → slice_get (ts ++ t ∷ []) c ≡ Some a → P a b
grown P [] [] t i same each one zero b a at by = subst (λ y. P a y) (some_same i b at) (subst (λ x. P x i) (some_same t a by) one)
grown P [] [] t i same each one (suc c) b a at by = absurd (none-some b at)
grown P [] (x ∷ xs) t i same each one c b a at by = absurd (omega (same, arith))
grown P (y ∷ ys) [] t i same each one c b a at by = absurd (omega (same, arith))
grown P (y ∷ ys) (x ∷ xs) t i same each one zero b a at by = each zero b a at by
grown P (y ∷ ys) (x ∷ xs) t i same each one (suc c) b a at by = grown P ys xs t i (omega (same, arith)) (λ k. each (suc k)) one c b a at by

-- one more of each
pub inputs_more : {R : Type 0} {remaining : R → Option (List ℕ)} (ts : List (Option (List ℕ))) (is new : List (Input R)) (t : Option (List ℕ)) (i : Input R)
    → AreInputsOf remaining ts is → IsInputOf remaining t i → new ≡ is ++ i ∷ [] → AreInputsOf remaining (ts ++ t ∷ []) new
inputs_more {R} {remaining} ts is new t i are one pushed = subst (λ l. AreInputsOf remaining (ts ++ t ∷ []) l) (sym pushed) (record {
  all = length-append is (i ∷ []) ∙ ap (λ n. n + 1) are.all ∙ sym (length-append ts (t ∷ []));
  each = grown (λ text input. IsInputOf remaining text input) ts is t i are.all are.each one;
})

map_next : {A B : Type 0} (f : A → B) (xs : List A) (k : ℕ) (x : A) → slice_get xs k ≡ Some x → map f (take (suc k) xs) ≡ map f (take k xs) ++ f x ∷ []
map_next f [] k x at = absurd (none-some x at)
map_next f (y ∷ ys) zero x at = ap (λ z. f z ∷ []) (some_same y x at)
map_next f (y ∷ ys) (suc k) x at = ap (λ l. f y ∷ l) (map_next f ys k x at)

-- the first texts, one more
pub map_more : {A B : Type 0} (f : A → B) (xs : List A) (k : ℕ) (x : A) → slice_get xs k ≡ Some x → map f (take (k + 1) xs) ≡ map f (take k xs) ++ f x ∷ []
map_more f xs k x at = ap (λ n. map f (take n xs)) (let e : k + 1 ≡ suc k = omega arith in e) ∙ map_next f xs k x at

pub map_all : {A B : Type 0} (f : A → B) (xs : List A) (k : ℕ) → length xs ≤ k → map f (take k xs) ≡ map f xs
map_all f xs k enough = ap (map f) (all_taken xs k enough)

-- what is told of one path is told of one of all
pub tells_one : {A : Type 0} (f : A → List ℕ) (xs : List A) (k : ℕ) (x : A) (failure : Failure) → slice_get xs k ≡ Some x → IsOfReading (f x) failure → IsOfReadingOne (map f xs) failure
tells_one f xs k x (CannotRead told cause) at tells = (k, slice_get-map f xs k ∙ ap (option_map f) at ∙ ap Some (sym tells))
tells_one f xs k x (CannotWrite target cause) at tells = absurd tells
tells_one f xs k x (CannotListen told cause) at tells = absurd tells
tells_one f xs k x NoMemory at tells = tt
tells_one f xs k x NoThread at tells = absurd tells
