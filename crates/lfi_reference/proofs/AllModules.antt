-- Lists with a part for each of the 16 modules.
use Rattle.std.proofs.Common.{zero, suc, ◌≡◌, ℕ, ◌+◌, ◌<◌, List, [], ◌∷◌, ◌++◌, length, take, get_or, map, refl, sym, ◌∙◌, ap, arith, sum_by, Bool, true, false}
use Rattle.std.specs.Prelude.{◌||◌, ◌==◌, not, Option}
use Rattle.std.specs.List.{list_any}
use Rattle.std.proofs.lemmas.List.{map-append}
use Rattle.std.proofs.lemmas.List.Folds.{list_any-append}
use Rattle.std.proofs.lemmas.List.Sums.{sum_by-append, sum_by-cons}
use Rattle.lfi_frame.specs.declared.fault.FrameFault.{FrameFault}
use Rattle.lfi_frame.specs.Streams.{Message, Rest, rest_of}
use Rattle.lfi_model.specs.declared.connection.EndCause.{EndCause}
use Rattle.lfi_model.specs.Items.{is_going, modules, fault_of, connection_fault, items_of}
use Rattle.lfi_reference.specs.Connections.{claims, share_in, items_in}

modules_more : (m : ℕ) → m < 16 → take (m + 1) modules ≡ take m modules ++ m ∷ []
modules_more zero lt = refl
modules_more (suc zero) lt = refl
modules_more (suc (suc zero)) lt = refl
modules_more (suc (suc (suc zero))) lt = refl
modules_more (suc (suc (suc (suc zero)))) lt = refl
modules_more (suc (suc (suc (suc (suc zero))))) lt = refl
modules_more (suc (suc (suc (suc (suc (suc zero)))))) lt = refl
modules_more (suc (suc (suc (suc (suc (suc (suc zero))))))) lt = refl
modules_more (suc (suc (suc (suc (suc (suc (suc (suc zero)))))))) lt = refl
modules_more (suc (suc (suc (suc (suc (suc (suc (suc (suc zero))))))))) lt = refl
modules_more (suc (suc (suc (suc (suc (suc (suc (suc (suc (suc zero)))))))))) lt = refl
modules_more (suc (suc (suc (suc (suc (suc (suc (suc (suc (suc (suc zero))))))))))) lt = refl
modules_more (suc (suc (suc (suc (suc (suc (suc (suc (suc (suc (suc (suc zero)))))))))))) lt = refl
modules_more (suc (suc (suc (suc (suc (suc (suc (suc (suc (suc (suc (suc (suc zero))))))))))))) lt = refl
modules_more (suc (suc (suc (suc (suc (suc (suc (suc (suc (suc (suc (suc (suc (suc zero)))))))))))))) lt = refl
modules_more (suc (suc (suc (suc (suc (suc (suc (suc (suc (suc (suc (suc (suc (suc (suc zero))))))))))))))) lt = refl
modules_more (suc (suc (suc (suc (suc (suc (suc (suc (suc (suc (suc (suc (suc (suc (suc (suc n)))))))))))))))) lt = absurd (omega arith)

pub at_module : {B : Type 0} (f : ℕ → B) (d : B) (m : ℕ) → m < 16 → get_or (map f modules) m d ≡ f m
at_module f d zero lt = refl
at_module f d (suc zero) lt = refl
at_module f d (suc (suc zero)) lt = refl
at_module f d (suc (suc (suc zero))) lt = refl
at_module f d (suc (suc (suc (suc zero)))) lt = refl
at_module f d (suc (suc (suc (suc (suc zero))))) lt = refl
at_module f d (suc (suc (suc (suc (suc (suc zero)))))) lt = refl
at_module f d (suc (suc (suc (suc (suc (suc (suc zero))))))) lt = refl
at_module f d (suc (suc (suc (suc (suc (suc (suc (suc zero)))))))) lt = refl
at_module f d (suc (suc (suc (suc (suc (suc (suc (suc (suc zero))))))))) lt = refl
at_module f d (suc (suc (suc (suc (suc (suc (suc (suc (suc (suc zero)))))))))) lt = refl
at_module f d (suc (suc (suc (suc (suc (suc (suc (suc (suc (suc (suc zero))))))))))) lt = refl
at_module f d (suc (suc (suc (suc (suc (suc (suc (suc (suc (suc (suc (suc zero)))))))))))) lt = refl
at_module f d (suc (suc (suc (suc (suc (suc (suc (suc (suc (suc (suc (suc (suc zero))))))))))))) lt = refl
at_module f d (suc (suc (suc (suc (suc (suc (suc (suc (suc (suc (suc (suc (suc (suc zero)))))))))))))) lt = refl
at_module f d (suc (suc (suc (suc (suc (suc (suc (suc (suc (suc (suc (suc (suc (suc (suc zero))))))))))))))) lt = refl
at_module f d (suc (suc (suc (suc (suc (suc (suc (suc (suc (suc (suc (suc (suc (suc (suc (suc n)))))))))))))))) lt = absurd (omega arith)

pub map_more : {B : Type 0} (f : ℕ → B) (m : ℕ) → m < 16 → map f (take (m + 1) modules) ≡ map f (take m modules) ++ f m ∷ []
map_more f m lt = ap (λ l. map f l) (modules_more m lt) ∙ map-append f (take m modules) (m ∷ [])

pub sum_more : (f : ℕ → ℕ) (m : ℕ) → m < 16 → sum_by f (take (m + 1) modules) ≡ sum_by f (take m modules) + f m
sum_more f m lt =
    let one = sum_by-cons f m [] in
    let both = sum_by-append f (take m modules) (m ∷ []) in
    ap (λ l. sum_by f l) (modules_more m lt) ∙ both ∙ ap (λ n. sum_by f (take m modules) + n) (one ∙ omega arith)

or_false_right : (b : Bool) → (b || false) ≡ b
or_false_right true = refl
or_false_right false = refl

pub any_more : (p : ℕ → Bool) (m : ℕ) → m < 16 → list_any p (take (m + 1) modules) ≡ (list_any p (take m modules) || p m)
any_more p m lt = ap (λ l. list_any p l) (modules_more m lt) ∙ list_any-append p (take m modules) (m ∷ []) ∙ ap (λ b. list_any p (take m modules) || b) (or_false_right (p m))

pub or_first : (b c d : Bool) → b ≡ true → d ≡ true → d ≡ (b || c)
or_first b c d e f = f ∙ ap (λ x. x || c) (sym e)

pub or_second : (b c d : Bool) → b ≡ false → d ≡ c → d ≡ (b || c)
or_second b c d e f = f ∙ ap (λ x. x || c) (sym e)

-- the connection's fault, by what the summary of its modules says
pub fault_is : (messages : List Message) (rest : List ℕ) (cause : EndCause) (claimed : List Bool) (how : Rest) (going inside : Bool) → how ≡ rest_of rest →
    going ≡ list_any (λ m. is_going (share_in claimed messages how m).progress) modules → inside ≡ (not (length rest == 0) || going) →
    fault_of how cause inside ≡ connection_fault messages rest cause (claims claimed)
fault_is messages rest cause claimed how going inside is_how is_going_too is_inside =
    ap (λ b. fault_of how cause b) (is_inside ∙ ap (λ g. not (length rest == 0) || g) is_going_too)
    ∙ ap (λ r. fault_of r cause (not (length rest == 0) || list_any (λ m. is_going (share_in claimed messages r m).progress) modules)) is_how

pub items_are : (messages : List Message) (rest : List ℕ) (cause : EndCause) (claimed : List Bool) (how : Rest) (found : Option FrameFault) (m : ℕ) → how ≡ rest_of rest →
    found ≡ connection_fault messages rest cause (claims claimed) → items_in claimed messages how found m ≡ items_of messages rest cause (claims claimed) m
items_are messages rest cause claimed how found m is_how is_found =
    ap (λ r. items_in claimed messages r found m) is_how ∙ ap (λ f. items_in claimed messages (rest_of rest) f m) is_found
