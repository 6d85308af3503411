-- The connections of streams, and the items of a module among them.
use Rattle.std.proofs.Common.{zero, suc, ◌≡◌, ℕ, ◌+◌, ◌<◌, List, [], ◌∷◌, ◌++◌, length, get_or, refl, sym, ap, subst, arith, Some, inl, inr, ◌⊎◌}
use Rattle.std.specs.Prelude.{is_some, Bool, position}
use Rattle.std.proofs.lemmas.List.Quantifiers.{position-Some}
use Rattle.lfi_model.specs.Item.{ItemView}
use Rattle.lfi_model.specs.declared.item.Reason.{Reason}
use Rattle.lfi_model.specs.Items.{modules, items_of}
use Rattle.lfi_model.specs.Modules.{Member}
use Rattle.lfi_model.specs.Outcomes.{end_of}
use Rattle.lfi_model.proofs.Numbered.{items_end}
use Rattle.std.specs.Global.{Vec}
use Rattle.lfi_reference.specs.declared.share.PlainItem.{PlainItem}
use Rattle.lfi_reference.specs.declared.connection.Connection.{Connection}
use Rattle.lfi_reference.specs.declared.load.Loaded.{Loaded}
use Rattle.lfi_reference.specs.declared.report.PlainStream.{PlainStream}
use Rattle.lfi_reference.specs.Shares.{items_by, items_at}
use Rattle.lfi_reference.specs.Connections.{claims}
use Rattle.lfi_reference.specs.Pages.{IsEnded}
use Rattle.lfi_reference.specs.Reports.{IsSized, IsMade, AreMade, IsReported, AreReported, owner_of}
use Rattle.lfi_reference.proofs.Sized.{items_sized}

pub member : (m : ℕ) → m < 16 → Member modules m
member zero lt = inl refl
member (suc zero) lt = inr (inl refl)
member (suc (suc zero)) lt = inr (inr (inl refl))
member (suc (suc (suc zero))) lt = inr (inr (inr (inl refl)))
member (suc (suc (suc (suc zero)))) lt = inr (inr (inr (inr (inl refl))))
member (suc (suc (suc (suc (suc zero))))) lt = inr (inr (inr (inr (inr (inl refl)))))
member (suc (suc (suc (suc (suc (suc zero)))))) lt = inr (inr (inr (inr (inr (inr (inl refl))))))
member (suc (suc (suc (suc (suc (suc (suc zero))))))) lt = inr (inr (inr (inr (inr (inr (inr (inl refl)))))))
member (suc (suc (suc (suc (suc (suc (suc (suc zero)))))))) lt = inr (inr (inr (inr (inr (inr (inr (inr (inl refl))))))))
member (suc (suc (suc (suc (suc (suc (suc (suc (suc zero))))))))) lt = inr (inr (inr (inr (inr (inr (inr (inr (inr (inl refl)))))))))
member (suc (suc (suc (suc (suc (suc (suc (suc (suc (suc zero)))))))))) lt = inr (inr (inr (inr (inr (inr (inr (inr (inr (inr (inl refl))))))))))
member (suc (suc (suc (suc (suc (suc (suc (suc (suc (suc (suc zero))))))))))) lt = inr (inr (inr (inr (inr (inr (inr (inr (inr (inr (inr (inl refl)))))))))))
member (suc (suc (suc (suc (suc (suc (suc (suc (suc (suc (suc (suc zero)))))))))))) lt = inr (inr (inr (inr (inr (inr (inr (inr (inr (inr (inr (inr (inl refl))))))))))))
member (suc (suc (suc (suc (suc (suc (suc (suc (suc (suc (suc (suc (suc zero))))))))))))) lt = inr (inr (inr (inr (inr (inr (inr (inr (inr (inr (inr (inr (inr (inl refl)))))))))))))
member (suc (suc (suc (suc (suc (suc (suc (suc (suc (suc (suc (suc (suc (suc zero)))))))))))))) lt = inr (inr (inr (inr (inr (inr (inr (inr (inr (inr (inr (inr (inr (inr (inl refl))))))))))))))
member (suc (suc (suc (suc (suc (suc (suc (suc (suc (suc (suc (suc (suc (suc (suc zero))))))))))))))) lt = inr (inr (inr (inr (inr (inr (inr (inr (inr (inr (inr (inr (inr (inr (inr (inl refl)))))))))))))))
member (suc (suc (suc (suc (suc (suc (suc (suc (suc (suc (suc (suc (suc (suc (suc (suc n)))))))))))))))) lt = absurd (omega arith)

pub made_more : (streams : List PlainStream) (made : List Connection) (stream : PlainStream) (connection : Connection) → AreMade streams made → IsMade stream connection → AreMade (streams ++ stream ∷ []) (made ++ connection ∷ [])
made_more [] [] stream connection are is = (is, tt)
made_more [] (c ∷ made) stream connection are is = absurd are
made_more (s ∷ streams) [] stream connection are is = absurd are
made_more (s ∷ streams) (c ∷ made) stream connection are is = (are.0, made_more streams made stream connection are.1 is)

pub made_long : (streams : List PlainStream) (made : List Connection) → AreMade streams made → length made ≡ length streams
made_long [] [] are = refl
made_long [] (c ∷ made) are = absurd are
made_long (s ∷ streams) [] are = absurd are
made_long (s ∷ streams) (c ∷ made) are = ap suc (made_long streams made are.1)

pub made_at : (streams : List PlainStream) (made : List Connection) (place : ℕ) (d : Connection) → AreMade streams made → place < length made → (stream : PlainStream) × IsMade stream (get_or made place d)
made_at [] [] place d are lt = absurd (omega arith)
made_at [] (c ∷ made) place d are lt = absurd are
made_at (s ∷ streams) [] place d are lt = absurd are
made_at (s ∷ streams) (c ∷ made) zero d are lt = (s, are.0)
made_at (s ∷ streams) (c ∷ made) (suc place) d are lt = made_at streams made place d are.1 (omega arith)

pub list_at : (lists : List (Vec PlainItem)) (m : ℕ) (list : Vec PlainItem) → m < length lists → list ≡ get_or lists m list → items_at lists m ≡ items_by list.items
list_at [] m list lt is = absurd (omega arith)
list_at (l ∷ lists) zero list lt is = ap (λ v. items_by v.items) (sym is)
list_at (l ∷ lists) (suc m) list lt is = list_at lists m list (omega arith) is

ended_by : (items : List ItemView) → (items ≡ []) ⊎ ((reason : Reason) × (end_of items ≡ Some reason)) → IsEnded items
ended_by [] h = tt
ended_by (item ∷ items) (inl none) = absurd (cc)
ended_by (item ∷ items) (inr some) = ap is_some some.1

-- the items that a stream makes of a module are of a module's size, and end
pub items_fit : (stream : PlainStream) (made : Connection) (m : ℕ) → m < 16 → IsMade stream made → IsSized (items_at made.items.items m) × IsEnded (items_at made.items.items m)
items_fit stream made m below is =
    let from = is.items in
    let same = sym (from.items_are m below) in (
      subst IsSized same (items_sized from.messages from.rest stream.cause (claims stream.claimed) m from.cut.each),
      subst IsEnded same (ended_by (items_of from.messages from.rest stream.cause (claims stream.claimed) m) (items_end from.messages from.rest stream.cause (claims stream.claimed) m (member m below))),
    )

pub reported_more : (streams : List PlainStream) (made : List Connection) (m k : ℕ) (modules : List Loaded) (loaded : Loaded) → AreReported streams made m modules → k ≡ m + length modules → IsReported streams made k loaded → AreReported streams made m (modules ++ loaded ∷ [])
reported_more streams made m k [] loaded are long is = let same : k ≡ m = omega arith in (subst (λ z. IsReported streams made z loaded) same is, tt)
reported_more streams made m k (x ∷ modules) loaded are long is = (are.0, reported_more streams made (m + 1) k modules loaded are.1 (omega arith) is)

some_within : (p : PlainStream → Bool) (streams : List PlainStream) (place : ℕ) → position p streams ≡ Some place → place < length streams
some_within p [] place is = absurd (cc)
some_within p (stream ∷ streams) place is = (position-Some p (stream ∷ streams) place stream is).0

pub owner_within : (streams : List PlainStream) (m place : ℕ) → owner_of streams m ≡ Some place → place < length streams
owner_within streams m place is = some_within (λ stream. claims stream.claimed m) streams place is
