-- What a receiver hears of packed modules.
use Rattle.std.proofs.Common.{◌≡◌, ◌≢◌, ℕ, List, [], ◌∷◌, ◌++◌, Some, None, refl, sym, ◌∙◌, ap, subst, inl, inr, ◌⊎◌, append-nil, append_assoc, flat_map, Bool, true, false, ◌||◌, if◌then◌else◌, sum_by, arith}
use Rattle.std.specs.List.{filter, fold, list_any}
use Rattle.std.proofs.lemmas.Bool.Decides.{eqb_tells}
use Rattle.std.proofs.lemmas.Grind.{flat_map-append}
use Rattle.std.proofs.lemmas.List.Elements.{All-nil, All-append, filter-append}
use Rattle.std.proofs.lemmas.List.Sums.{sum_by-cons}
use Rattle.a64_word.specs.Words.{words_of}
use Rattle.lfi_module.specs.Pages.{page_count}
use Rattle.lfi_frame.specs.declared.fault.FrameFault.TheVariants as fault
use Rattle.lfi_frame.specs.Streams.{Message, Cut, IsMessage, spelling, short, whole}
use Rattle.lfi_model.specs.Item.{ItemView}
use Rattle.lfi_model.specs.declared.connection.EndCause.TheVariants.{End}
use Rattle.lfi_model.specs.declared.connection.Progress.TheVariants.{Ended}
use Rattle.lfi_model.specs.Items.{Share, ItemsOf, nothing_yet, after_message, is_of, is_going, share_at, is_inside, connection_fault, items_of, ends_of, modules}
use Rattle.lfi_model.specs.Modules.{Member}
use Rattle.lfi_pack.specs.Heard.{PackedView, IsStream, NoneIs, AreDistinct, AreClaimed, IsHeard}
use Rattle.lfi_pack.specs.Packs.{AreFirst, joined, messages_of}
use Rattle.lfi_pack.proofs.Messages.{among_all}
use Rattle.lfi_pack.proofs.Shares.{filter_mine, filter_other, items_made, share_made, words_made, end_made}

-- the messages of one module among those of a text
pub record Stands (messages : List Message) (p : PackedView) : Type 0 where
  pub pages : List (List ℕ)
  pub all : AreFirst p.extent.pages p.extent.words (page_count p.extent.pages p.extent.words) pages
  pub bytes : joined pages ≡ p.code
  pub mine : filter (is_of p.number) messages ≡ messages_of p.number p.extent pages

pub record Told (ps : List PackedView) (text : List ℕ) : Type 0 where
  pub messages : List Message
  pub cut : Cut text messages []
  pub each : (p : PackedView) → Member ps p → Stands messages p
  pub none : (m : ℕ) → NoneIs m ps → filter (is_of m) messages ≡ []

none_more : (m : ℕ) (p : PackedView) (ps : List PackedView) → NoneIs m (p ∷ ps) → NoneIs m ps
none_more m p ps none q member = none q (inr member)

told : (ps : List PackedView) (text : List ℕ) → IsStream ps text → AreDistinct ps → Told ps text
told [] text is apart = record {
  messages = [];
  cut = record { spelled = is; each = All-nil IsMessage; stops = λ w. (let f : short ≡ whole = w in absurd (cc)) };
  each = λ p member. absurd member;
  none = λ m n. refl;
}
told (p ∷ ps) text is apart =
    let first = is.0 in
    let rest = is.1 in
    let packed = is.3 in
    let later = told ps rest is.4 apart.1 in
    let head = messages_of p.number p.extent packed.pages in
    let tail = later.messages in
    let all = head ++ tail in
    let one : first ≡ flat_map spelling head = packed.cut.spelled ∙ append-nil (flat_map spelling head) in
    record {
      messages = all;
      cut = record {
        spelled = is.2 ∙ ap (λ l. l ++ rest) one ∙ ap (λ l. flat_map spelling head ++ l) later.cut.spelled ∙ sym (append_assoc (flat_map spelling head) (flat_map spelling tail) []) ∙ ap (λ l. l ++ []) (sym (flat_map-append spelling head tail));
        each = All-append IsMessage head tail packed.cut.each later.cut.each;
        stops = λ w. (let f : short ≡ whole = w in absurd (cc));
      };
      each = λ q member. elim member [
        | inl same ↦ subst (Stands all) same (record {
          pages = packed.pages;
          all = packed.all;
          bytes = packed.bytes;
          mine = filter-append (is_of p.number) head tail ∙ ap (λ l. l ++ filter (is_of p.number) tail) (filter_mine p.number p.extent packed.pages) ∙ ap (λ l. head ++ l) (later.none p.number apart.0) ∙ append-nil head;
        })
        | inr among ↦
            let stands = later.each q among in
            let differs : p.number ≢ q.number = λ e. apart.0 q among (sym e) in
            record {
              pages = stands.pages;
              all = stands.all;
              bytes = stands.bytes;
              mine = filter-append (is_of q.number) head tail ∙ ap (λ l. l ++ filter (is_of q.number) tail) (filter_other q.number p.number p.extent packed.pages differs) ∙ stands.mine;
            }
      ];
      none = λ m n. filter-append (is_of m) head tail ∙ ap (λ l. l ++ filter (is_of m) tail) (filter_other m p.number p.extent packed.pages (n p (inl refl))) ∙ later.none m (none_more m p ps n);
    }

-- a module of the list has this number, or none has
has_or : (m : ℕ) (ps : List PackedView) → ((p : PackedView) × Member ps p × (p.number ≡ m)) ⊎ NoneIs m ps
has_or m [] = inr (λ p member. absurd member)
has_or m (p ∷ ps) = elim (eqb_tells p.number m) [
  | inl same ↦ inl (p, inl refl, same.1)
  | inr apart ↦ elim (has_or m ps) [
    | inl found ↦ inl (found.0, inr found.1, found.2)
    | inr none ↦ inr (λ q member. elim member [ inl is ↦ λ e. apart.1 (ap (λ r. r.number) is ∙ e) | inr among ↦ none q among ])
  ]
]

any_false : (f : ℕ → Bool) (xs : List ℕ) → ((m : ℕ) → f m ≡ false) → list_any f xs ≡ false
any_false f [] all = refl
any_false f (x ∷ xs) all = ap (λ b. b || list_any f xs) (all x) ∙ any_false f xs all

sum_none : (f : ℕ → ℕ) (xs : List ℕ) → ((m : ℕ) → f m ≡ 0) → sum_by f xs ≡ 0
sum_none f [] all = refl
sum_none f (x ∷ xs) all = (let parted = sum_by-cons f x xs in let first = all x in let rest = sum_none f xs all in omega arith)

module _ (ps : List PackedView) (text : List ℕ) (claimed : ℕ → Bool) (is : IsStream ps text) (apart : AreDistinct ps) (mine : AreClaimed claimed ps) where
  all : Told ps text
  all = told ps text is apart

  abbrev messages : List Message
  messages = all.messages

  abbrev share : ℕ → Share
  share m = share_at messages [] End claimed m

  abbrev made : (p : PackedView) → Stands messages p → Share
  made p stands = record { items = items_made p.number p.extent stands.pages; strays = 0; progress = Ended }

  share_of_one : (p : PackedView) (member : Member ps p) → share p.number ≡ made p (all.each p member)
  share_of_one p member =
      let stands = all.each p member in
      ap (λ b. fold (λ s message. after_message b p.number s s.progress message) nothing_yet (filter (is_of p.number) messages)) (mine p member)
      ∙ ap (λ l. fold (λ s message. after_message true p.number s s.progress message) nothing_yet l) stands.mine
      ∙ share_made p.number p.extent stands.pages (among_all p.extent.pages p.extent.words stands.pages stands.all)

  share_of_none : (m : ℕ) → NoneIs m ps → share m ≡ nothing_yet
  share_of_none m none = ap (λ l. fold (λ s message. after_message (claimed m) m s s.progress message) nothing_yet l) (all.none m none)

  settled : (m : ℕ) → (is_going (share m).progress ≡ false) × ((share m).strays ≡ 0)
  settled m = elim (has_or m ps) [
    | inl found ↦
        let e : share m ≡ made found.0 (all.each found.0 found.1) = subst (λ k. share k ≡ made found.0 (all.each found.0 found.1)) found.2 (share_of_one found.0 found.1) in
        (ap (λ (s : Share). is_going s.progress) e, ap (λ (s : Share). s.strays) e)
    | inr none ↦ let e = share_of_none m none in (ap (λ (s : Share). is_going s.progress) e, ap (λ (s : Share). s.strays) e)
  ]

  not_inside : is_inside messages [] End claimed ≡ false
  not_inside = any_false (λ m. is_going (share m).progress) modules (λ m. (settled m).0)

  no_fault : connection_fault messages [] End claimed ≡ None
  no_fault = ap (λ b. if b then Some fault.Ended else None) not_inside

  abbrev items : ℕ → List ItemView
  items m = items_of messages [] End claimed m

  items_by : (m : ℕ) (s : Share) → share m ≡ s → items m ≡ s.items ++ ends_of m s.progress None
  items_by m s e = ap (λ f. (share m).items ++ ends_of m (share m).progress f) no_fault ∙ ap (λ (t : Share). t.items ++ ends_of m t.progress None) e

  of_packed : ItemsOf text End claimed items None 0
  of_packed = record {
    messages = messages;
    rest = [];
    cut = all.cut;
    items_are = λ m within. refl;
    fault_is = sym no_fault;
    strays_are = sym (sum_none (λ m. (share m).strays) modules (λ m. (settled m).1));
  }

  heard : (p : PackedView) → Member ps p → IsHeard p (items p.number)
  heard p member =
      let stands = all.each p member in
      let pages = stands.pages in
      let among = among_all p.extent.pages p.extent.words pages stands.all in
      let is_made : items p.number ≡ items_made p.number p.extent pages = items_by p.number (made p stands) (share_of_one p member) ∙ append-nil (items_made p.number p.extent pages) in
      subst (IsHeard p) (sym is_made) (record {
        opened = (_, refl);
        words = words_made p.number p.extent pages among ∙ ap words_of stands.bytes;
        ended = end_made p.number p.extent pages;
      })

  unheard : (m : ℕ) → NoneIs m ps → items m ≡ []
  unheard m none = items_by m nothing_yet (share_of_none m none)

  pub packed_items : (items : ℕ → List ItemView) × ItemsOf text End claimed items None 0 × ((p : PackedView) → Member ps p → IsHeard p (items p.number)) × ((m : ℕ) → NoneIs m ps → items m ≡ [])
  packed_items = (items, of_packed, heard, unheard)
