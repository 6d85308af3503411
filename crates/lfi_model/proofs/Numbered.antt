-- The items of one module as its connection makes them are numbered, and end once.
use Rattle.std.proofs.Common.{ap, ◌∙◌, ◌≡◌, ℕ, ◌+◌, ◌==◌, List, [], ◌∷◌, ◌++◌, length, Option, Some, None, refl, sym, subst, inl, inr, arith, Bool, true, false, cond, length-append, not, ◌||◌, ◌&&◌, ◌⊎◌}
use Rattle.std.specs.List.{filter, fold, list_any}
use Rattle.std.proofs.lemmas.List.{append-nil}
use Rattle.lfi_model.specs.Item.{ItemView, KindView}
use Rattle.lfi_model.specs.declared.item.ItemKind.TheVariants.{Open, Page, End}
use Rattle.lfi_model.specs.declared.item.Reason.{Reason}
use Rattle.lfi_model.specs.declared.item.Reason.TheVariants.{Close, PageFault}
use Rattle.lfi_model.specs.declared.connection.Progress.{Progress}
use Rattle.lfi_model.specs.declared.connection.Progress.TheVariants.{Unclaimed, Going, Ended}
use Rattle.lfi_model.specs.declared.connection.EndCause.{EndCause}
use Rattle.lfi_model.specs.declared.connection.EndCause.TheVariants.{End as AtEnd, Failed, Starved}
use Rattle.lfi_frame.specs.Streams.{Message}
use Rattle.lfi_frame.specs.Streams.{open_message, page_message, close_message}
use Rattle.lfi_frame.specs.Streams.{Rest}
use Rattle.lfi_frame.specs.Streams.{short, faulty, unfinished, whole}
use Rattle.lfi_frame.specs.declared.fault.FrameFault.{FrameFault}
use Rattle.lfi_frame.specs.declared.fault.FrameFault.TheVariants as fault_kind
use Rattle.lfi_frame.specs.Streams.{rest_of}
use Rattle.lfi_model.specs.Items.{Share, after_header, after_message, after_page, after_rest, connection_fault, ends_of, fault_by_cause, fault_of, is_going, is_inside, is_of, item_of, items_of, modules, nothing_yet, reason_of, share_at, with_item, with_stray}
use Rattle.lfi_module.specs.Pages.{is_due}
use Rattle.lfi_module.specs.Extents.{ExtentView}
use Rattle.lfi_module.specs.declared.profile.Profile.TheVariants.{One}
use Rattle.lfi_model.specs.Outcomes.{end_of, reason_at}
use Rattle.lfi_model.specs.Modules.{Member, FitsAfter, OpensFirst, IsNext, IsModule}

-- where a list with one more item is parted before an item, that is the last, or one of the list
pub split_push : {A : Type 0} (items before after : List A) (x y : A) → items ++ x ∷ [] ≡ before ++ y ∷ after → ((before ≡ items) × (y ≡ x)) ⊎ ((front : List A) × (items ≡ before ++ y ∷ front))
split_push [] [] after x y e = inl (refl, cc)
split_push [] (b ∷ []) after x y e = absurd (cc)
split_push [] (b ∷ d ∷ before) after x y e = absurd (cc)
split_push (i ∷ items) [] after x y e = inr (items, let same : i ≡ y = cc in ap (λ z. z ∷ items) same)
split_push (i ∷ items) (b ∷ before) after x y e =
    let same : i ≡ b = cc in
    let rest : items ++ x ∷ [] ≡ before ++ y ∷ after = cc in
    elim (split_push items before after x y rest) [
      | inl h ↦ let h0 = h.0 in inl (cc, h.1)
      | inr h ↦ let h1 = h.1 in inr (h.0, cc)
    ]

-- one more item, numbered by its place, that fits
pub numbered_more : (items : List ItemView) (x : ItemView) → IsModule items → IsNext items x → IsModule (items ++ x ∷ [])
numbered_more items x numbered next before after y e =
    elim (split_push items before after x y e) [
      | inl h ↦ subst (λ z. IsNext before z) (sym h.1) (subst (λ l. IsNext l x) (sym h.0) next)
      | inr h ↦ numbered before h.0 y h.1
    ]

end_step : (kind : KindView) (later more : Option Reason) → reason_at kind later ≡ None → (later ≡ None → more ≡ None) → reason_at kind more ≡ None
end_step Open later more h goes = goes h
end_step (Page bytes) later more h goes = goes h
end_step (End reason) later more h goes = absurd (cc)

end_more : (items : List ItemView) (x : ItemView) → end_of items ≡ None → reason_at x.kind None ≡ None → end_of (items ++ x ∷ []) ≡ None
end_more [] x e k = k
end_more (i ∷ items) x e k = end_step i.kind (end_of items) (end_of (items ++ x ∷ [])) e (λ h. end_more items x h k)

fits_more : (items : List ItemView) (x y : ItemView) → FitsAfter items y → y.extent ≡ x.extent → reason_at x.kind None ≡ None → FitsAfter (items ++ x ∷ []) y
fits_more [] x y f w k = (w, k)
fits_more (i ∷ items) x y f w k = (f.0, end_more (i ∷ items) x f.1 k)

-- how the items stand at each stage
pub record IsGoing (n : ExtentView) (p : ℕ) (items : List ItemView) : Type 0 where
  pub numbered : IsModule items
  pub long : length items ≡ p + 1
  pub fits : (x : ItemView) → x.extent ≡ n → FitsAfter items x

pub record IsOver (items : List ItemView) : Type 0 where
  pub numbered : IsModule items
  pub reason : Reason
  pub ended : end_of items ≡ Some reason

abbrev pub Stands : Progress → List ItemView → Type 0
Stands Unclaimed items = items ≡ []
Stands (Going n p) items = IsGoing n p items
Stands Ended items = IsOver items

pub end_snoc : (items : List ItemView) (x : ItemView) → end_of items ≡ None → end_of (items ++ x ∷ []) ≡ reason_at x.kind None
end_snoc [] x e = refl
end_snoc (i ∷ items) x e = end_by i.kind (end_of items) (end_of (items ++ x ∷ [])) (reason_at x.kind None) e (λ h. end_snoc items x h)
  where
    end_by : (kind : KindView) (later more last : Option Reason) → reason_at kind later ≡ None → (later ≡ None → more ≡ last) → reason_at kind more ≡ last
    end_by Open later more last e h = h e
    end_by (Page bytes) later more last e h = h e
    end_by (End reason) later more last e h = absurd (cc)

-- some item
nothing : ItemView
nothing = item_of 0 0 (record { words = 0; entry = 0; profile = One; pages = 0 }) Open

-- a page or an End comes after the Open
later : (p : ℕ) (items : List ItemView) (kind : KindView) → length items ≡ p + 1 → OpensFirst (nothing ∷ []) kind → OpensFirst items kind
later p [] kind long h = absurd (omega arith)
later p (i ∷ items) Open long h = h
later p (i ∷ items) (Page bytes) long h = h
later p (i ∷ items) (End reason) long h = h

going_on : (m : ℕ) (n : ExtentView) (p : ℕ) (items : List ItemView) (kind : KindView) → OpensFirst (nothing ∷ []) kind → IsGoing n p items → IsModule (items ++ item_of m (p + 1) n kind ∷ [])
going_on m n p items kind h g = numbered_more items (item_of m (p + 1) n kind) g.numbered (record { ordinal = sym g.long; opens = later p items kind g.long h; fits = g.fits (item_of m (p + 1) n kind) refl })

no_end_yet : (n : ExtentView) (p : ℕ) (items : List ItemView) → length items ≡ p + 1 → ((x : ItemView) → x.extent ≡ n → FitsAfter items x) → end_of items ≡ None
no_end_yet n p [] long fits = absurd (omega arith)
no_end_yet n p (i ∷ items) long fits = (fits (item_of 0 0 n Open) refl).1

-- the End comes
over : (m : ℕ) (n : ExtentView) (p : ℕ) (items : List ItemView) (reason : Reason) → IsGoing n p items → IsOver (items ++ item_of m (p + 1) n (End reason) ∷ [])
over m n p items reason g = record {
  numbered = going_on m n p items (End reason) tt g;
  reason = reason;
  ended = end_snoc items (item_of m (p + 1) n (End reason)) (no_end_yet n p items g.long g.fits);
}

page_more : (m : ℕ) (n : ExtentView) (p : ℕ) (items : List ItemView) (bytes : List ℕ) → IsGoing n p items → IsGoing n (p + 1) (items ++ item_of m (p + 1) n (Page bytes) ∷ [])
page_more m n p items bytes g =
    let x = item_of m (p + 1) n (Page bytes) in
    record {
      numbered = going_on m n p items (Page bytes) tt g;
      long = (let l = length-append items (x ∷ []) in let h = g.long in omega (arith, l, h));
      fits = λ y w. fits_more items x y (g.fits y w) w refl;
    }

pub nothing_before : (before after : List ItemView) (x : ItemView) → [] ≡ before ++ x ∷ after → ⊥
nothing_before [] after x e = cc
nothing_before (b ∷ before) after x e = cc

pub module_none : IsModule []
module_none before after x e = absurd (nothing_before before after x e)

opened : (m : ℕ) (extent : ExtentView) (items : List ItemView) → items ≡ [] → IsGoing extent 0 (items ++ item_of m 0 extent Open ∷ [])
opened m extent items none =
    let x = item_of m 0 extent Open in
    subst (λ l. IsGoing extent 0 (l ++ x ∷ [])) (sym none) (record {
      numbered = numbered_more [] x module_none (record { ordinal = refl; opens = tt; fits = tt });
      long = omega arith;
      fits = λ y w. (w, refl);
    })

StandsAs : Share → Type 0
StandsAs s = Stands s.progress s.items

either : (b : Bool) (s t : Share) → Stands s.progress s.items → Stands t.progress t.items → Stands (cond b s t).progress (cond b s t).items
either true s t hs ht = hs
either false s t hs ht = ht

page_stands : (m : ℕ) (n : ExtentView) (p : ℕ) (s : Share) (size index len : ℕ) (due : Share) → IsGoing n p s.items → Stands due.progress due.items → Stands (after_page m n p s size index len due).progress (after_page m n p s size index len due).items
page_stands m n p s size index len due g d =
    either (size == n.pages && is_due n.pages n.words p index len) due (with_item s (item_of m (p + 1) n (End (PageFault index))) Ended) d (over m n p s.items (PageFault index) g)

same_stands : (s : Share) (progress : Progress) → s.progress ≡ progress → Stands progress s.items → Stands s.progress s.items
same_stands s progress e h = subst (λ q. Stands q s.items) (sym e) h

message_stands : (claimed : Bool) (m : ℕ) (s : Share) (progress : Progress) (message : Message) → s.progress ≡ progress → Stands progress s.items →
    Stands (after_message claimed m s progress message).progress (after_message claimed m s progress message).items
message_stands claimed m s Unclaimed (open_message k extent) e h = either claimed (with_item s (item_of m 0 extent Open) (Going extent 0)) (with_stray s) (opened m extent s.items h) (same_stands s Unclaimed e h)
message_stands claimed m s Unclaimed (page_message k size index payload) e h = same_stands s Unclaimed e h
message_stands claimed m s Unclaimed (close_message k) e h = same_stands s Unclaimed e h
message_stands claimed m s (Going n p) (open_message k extent) e h = same_stands s (Going n p) e h
message_stands claimed m s (Going n p) (page_message k size index payload) e h = page_stands m n p s size index (length payload) (with_item s (item_of m (p + 1) n (Page payload)) (Going n (p + 1))) h (page_more m n p s.items payload h)
message_stands claimed m s (Going n p) (close_message k) e h = over m n p s.items Close h
message_stands claimed m s Ended (open_message k extent) e h = same_stands s Ended e h
message_stands claimed m s Ended (page_message k size index payload) e h = same_stands s Ended e h
message_stands claimed m s Ended (close_message k) e h = same_stands s Ended e h

messages_stand : (claimed : Bool) (m : ℕ) (messages : List Message) (s : Share) → Stands s.progress s.items →
    Stands (fold (λ t message. after_message claimed m t t.progress message) s messages).progress (fold (λ t message. after_message claimed m t t.progress message) s messages).items
messages_stand claimed m [] s h = h
messages_stand claimed m (message ∷ messages) s h =
    messages_stand claimed m messages (after_message claimed m s s.progress message) (message_stands claimed m s s.progress message refl h)

header_stands : (m : ℕ) (s : Share) (progress : Progress) (size index len : ℕ) → s.progress ≡ progress → Stands progress s.items → Stands (after_header m s progress size index len).progress (after_header m s progress size index len).items
header_stands m s Unclaimed size index len e h = same_stands s Unclaimed e h
header_stands m s (Going n p) size index len e h = page_stands m n p s size index len s h (same_stands s (Going n p) e h)
header_stands m s Ended size index len e h = same_stands s Ended e h

rest_stands : (m : ℕ) (s : Share) (rest : Rest) → Stands s.progress s.items → Stands (after_rest m s rest).progress (after_rest m s rest).items
rest_stands m s short h = h
rest_stands m s (faulty fault) h = h
rest_stands m s (unfinished k size index len) h = either (k == m) (after_header m s s.progress size index len) s (header_stands m s s.progress size index len refl h) h
rest_stands m s whole h = h

ends_stand : (m : ℕ) (progress : Progress) (items : List ItemView) (fault : Option FrameFault) → Stands progress items → IsModule (items ++ ends_of m progress fault)
ends_stand m Unclaimed items fault h = subst (λ l. IsModule (l ++ [])) (sym h) module_none
ends_stand m (Going n p) items (Some fault) g = going_on m n p items (End (reason_of fault)) tt g
ends_stand m (Going n p) items None g = subst IsModule (sym (append-nil items)) g.numbered
ends_stand m Ended items fault h = subst IsModule (sym (append-nil items)) h.numbered

stands_at : (messages : List Message) (rest : List ℕ) (cause : EndCause) (claimed : ℕ → Bool) (m : ℕ) → Stands (share_at messages rest cause claimed m).progress (share_at messages rest cause claimed m).items
stands_at messages rest cause claimed m =
    rest_stands m (fold (λ t message. after_message (claimed m) m t t.progress message) nothing_yet (filter (is_of m) messages)) (rest_of rest) (messages_stand (claimed m) m (filter (is_of m) messages) nothing_yet refl)

pub items_numbered : (messages : List Message) (rest : List ℕ) (cause : EndCause) (claimed : ℕ → Bool) (m : ℕ) → IsModule (items_of messages rest cause claimed m)
items_numbered messages rest cause claimed m =
    let s = share_at messages rest cause claimed m in
    ends_stand m s.progress s.items (connection_fault messages rest cause claimed) (stands_at messages rest cause claimed m)

-- with a message or a module left open there is a fault
by_cause : (cause : EndCause) → (fault : FrameFault) × (fault_by_cause cause true ≡ Some fault)
by_cause AtEnd = (fault_kind.Ended, refl)
by_cause Failed = (fault_kind.ReadFailed, refl)
by_cause Starved = (fault_kind.NoMemory, refl)

fault_sure : (rest : Rest) (cause : EndCause) → (fault : FrameFault) × (fault_of rest cause true ≡ Some fault)
fault_sure short cause = by_cause cause
fault_sure (faulty fault) cause = (fault, refl)
fault_sure (unfinished m size index len) cause = by_cause cause
fault_sure whole cause = by_cause cause

or_true : (b : Bool) → (b || true) ≡ true
or_true true = refl
or_true false = refl

some_passes : (p : ℕ → Bool) (xs : List ℕ) (k : ℕ) → Member xs k → p k ≡ true → list_any p xs ≡ true
some_passes p [] k here t = absurd here
some_passes p (x ∷ xs) k here t = elim here [ inl e ↦ rw (ap p e ∙ t) refl | inr m ↦ rw (some_passes p xs k m t) (or_true (p x)) ]

pub ends_sure : (m : ℕ) (progress : Progress) (items : List ItemView) (fault : Option FrameFault) → Stands progress items → (is_going progress ≡ true → (f : FrameFault) × (fault ≡ Some f)) → (items ++ ends_of m progress fault ≡ []) ⊎ ((reason : Reason) × (end_of (items ++ ends_of m progress fault) ≡ Some reason))
ends_sure m Unclaimed items fault h sure = inl (ap (λ l. l ++ []) h)
ends_sure m (Going n p) items fault g sure =
    let f = sure refl in
    let o = over m n p items (reason_of f.0) g in
    inr (o.reason, subst (λ z. end_of (items ++ ends_of m (Going n p) z) ≡ Some o.reason) (sym f.1) o.ended)
ends_sure m Ended items fault h sure = inr (h.reason, ap end_of (append-nil items) ∙ h.ended)

-- a connection that has ended has ended each of its modules
pub items_end : (messages : List Message) (rest : List ℕ) (cause : EndCause) (claimed : ℕ → Bool) (m : ℕ) → Member modules m →
    (items_of messages rest cause claimed m ≡ []) ⊎ ((reason : Reason) × (end_of (items_of messages rest cause claimed m) ≡ Some reason))
items_end messages rest cause claimed m here =
    let s = share_at messages rest cause claimed m in
    ends_sure m s.progress s.items (connection_fault messages rest cause claimed) (stands_at messages rest cause claimed m) (λ going.
    let some : list_any (λ k. is_going (share_at messages rest cause claimed k).progress) modules ≡ true = some_passes (λ k. is_going (share_at messages rest cause claimed k).progress) modules m here going in
    let inside : is_inside messages rest cause claimed ≡ true = ap (λ b. not (length rest == 0) || b) some ∙ or_true (not (length rest == 0)) in
    let f = fault_sure (rest_of rest) cause in
    (f.0, ap (λ b. fault_of (rest_of rest) cause b) inside ∙ f.1))
