-- How far the modules of a connection are after one more message, header, or piece of a payload.
use Rattle.std.proofs.Common.{◌≡◌, ℕ, ◌+◌, ◌<◌, ◌==◌, List, [], ◌∷◌, ◌++◌, length, drop, Option, Some, None, refl, sym, ◌∙◌, ap, subst, inr, arith, Bool, true, false, if◌then◌else◌, length-append}
use Rattle.std.specs.Prelude.{◌&&◌, nat_lt}
use Rattle.std.proofs.lemmas.Bool.{and_parts, eqb-true, eq-eqb, ltb-true}
use Rattle.lfi_module.specs.Extents.{ExtentView}
use Rattle.lfi_module.specs.Pages.{is_due, page_count, bytes_in_page}
use Rattle.lfi_frame.specs.Streams.{Message, open_message, page_message, close_message, short, unfinished, rest_of}
use Rattle.lfi_model.specs.declared.item.ItemKind.TheVariants as item
use Rattle.lfi_model.specs.declared.item.Reason.TheVariants.{Close, PageFault}
use Rattle.lfi_model.specs.declared.connection.Progress.{Progress}
use Rattle.lfi_model.specs.declared.connection.Progress.TheVariants.{Unclaimed, Going, Ended}
use Rattle.lfi_model.specs.Items.{Share, after_message, after_header, item_of, with_item, with_stray}
use Rattle.lfi_connection.specs.declared.event.Event.TheVariants.{Nothing, Open, Begin, Code, Stray, End}
use Rattle.lfi_connection.specs.declared.due_page.DuePage.{DuePage}
use Rattle.lfi_connection.specs.Modules.{IsOver}
use Rattle.lfi_connection.specs.Connections.{made_of, IsDue, Awaits, Holds}
use Rattle.lfi_connection.specs.DuePages.{bytes_of, IsWhole, GoesOn}
use Rattle.lfi_connection.specs.Events.{Follows, Grows, TellsCode, IsCodeOf}
use Rattle.lfi_connection.proofs.Texts.{drop_append_left, unfinished_long}
use Rattle.lfi_connection.proofs.Growth.{next_by, by_true, by_false, both_same, module_at, message_grows, header_grows, unfinished_own, moves, stays, page_passed, open_before}

none_by : (o : Option DuePage) (made : ℕ → Share) → Awaits o made [] → o ≡ None
none_by (Some page) made h = absurd (let e = h.header in cc)
none_by None made h = refl

-- between two messages no page is coming
pub none_coming : (P : ℕ → Progress) (o : Option DuePage) (c : ℕ → Bool) (ms : List Message) → Holds P o c ms [] → o ≡ None
none_coming P o c ms h = none_by o (made_of c ms short) h.awaits

pub awaits_none : (o : Option DuePage) (made : ℕ → Share) → o ≡ None → Awaits o made []
awaits_none (Some page) made e = absurd (cc)
awaits_none None made e = λ m size index len f. absurd (cc)

-- Module k is at another place now, by this message.
pub message_moves : (P Q : ℕ → Progress) (o n : Option DuePage) (c : ℕ → Bool) (ms : List Message) (message : Message) (F : ℕ → Share → Share) (q : Progress) → n ≡ None
    → ((m : ℕ) → Q m ≡ (if m == module_at message then q else P m)) → ((m : ℕ) (s : Share) → (F m s).progress ≡ q)
    → Holds P o c ms [] → ((m : ℕ) → made_of c (ms ++ message ∷ []) short m ≡ (if m == module_at message then F m (made_of c ms short m) else made_of c ms short m))
    → Holds Q n c (ms ++ message ∷ []) []
message_moves P Q o n c ms message F q none at to holds grows = record {
  progress = λ m.
      at m ∙ moves (m == module_at message) (P m) q (made_of c ms short m) (F m (made_of c ms short m)) (holds.progress m) (to m (made_of c ms short m))
      ∙ ap (λ s. s.progress) (sym (grows m));
  awaits = awaits_none n (made_of c (ms ++ message ∷ []) short) none;
}

-- an Open of a module that wasn't opened
pub opened : (P Q : ℕ → Progress) (o n : Option DuePage) (c : ℕ → Bool) (ms : List Message) (payload : List ℕ) (k : ℕ) (extent : ExtentView) → c k ≡ true → P k ≡ Unclaimed → n ≡ o
    → ((m : ℕ) → Q m ≡ (if m == k then Going extent 0 else P m)) → Holds P o c ms []
    → let now = ms ++ open_message k extent ∷ [] in Holds Q n c now [] × Grows (Open k extent) c ms [] now [] payload
opened P Q o n c ms payload k extent free was page at holds =
    let message : Message = open_message k extent in
    let F : ℕ → Share → Share = (λ m s. with_item s (item_of m 0 extent item.Open) (Going extent 0)) in
    let share : (made_of c ms short k).progress ≡ Unclaimed = sym (holds.progress k) ∙ was in
    let grows = message_grows c ms message F (ap (λ q. after_message (c k) k (made_of c ms short k) q message) share ∙ by_true (c k) _ _ free) in
    (message_moves P Q o n c ms message F (Going extent 0) (page ∙ none_coming P o c ms holds) at (λ m s. refl) holds grows, grows)

-- the Close of an open module
pub closed : (P Q : ℕ → Progress) (o n : Option DuePage) (c : ℕ → Bool) (ms : List Message) (payload : List ℕ) (k : ℕ) (extent : ExtentView) (p : ℕ) → P k ≡ Going extent p → n ≡ o
    → ((m : ℕ) → Q m ≡ (if m == k then Ended else P m)) → Holds P o c ms []
    → let now = ms ++ close_message k ∷ [] in Holds Q n c now [] × Grows (End k extent p Close) c ms [] now [] payload
closed P Q o n c ms payload k extent p was page at holds =
    let message : Message = close_message k in
    let F : ℕ → Share → Share = (λ m s. with_item s (item_of m (p + 1) extent (item.End Close)) Ended) in
    let share : (made_of c ms short k).progress ≡ Going extent p = sym (holds.progress k) ∙ was in
    let grows = message_grows c ms message F (ap (λ q. after_message (c k) k (made_of c ms short k) q message) share) in
    (message_moves P Q o n c ms message F Ended (page ∙ none_coming P o c ms holds) at (λ m s. refl) holds grows, grows)

-- a message that is passed over
pub strayed : (P : ℕ → Progress) (o : Option DuePage) (c : ℕ → Bool) (ms : List Message) (payload : List ℕ) (message : Message)
    → ((s : Share) → after_message (c (module_at message)) (module_at message) s (P (module_at message)) message ≡ with_stray s) → Holds P o c ms []
    → let now = ms ++ message ∷ [] in Holds P o c now [] × Grows (Stray (module_at message)) c ms [] now [] payload
strayed P o c ms payload message does holds =
    let k = module_at message in
    let F : ℕ → Share → Share = (λ m s. with_stray s) in
    let grows = message_grows c ms message F (ap (λ q. after_message (c k) k (made_of c ms short k) q message) (sym (holds.progress k)) ∙ does (made_of c ms short k)) in (
      record {
        progress = λ m. stays (m == k) (P m) (made_of c ms short m) (with_stray (made_of c ms short m)) (holds.progress m) refl ∙ ap (λ s. s.progress) (sym (grows m));
        awaits = awaits_none o (made_of c (ms ++ message ∷ []) short) (none_coming P o c ms holds);
      },
      grows,
    )

-- where no page is coming, the header's module is over
over_awaits : (o : Option DuePage) (c : ℕ → Bool) (ms : List Message) (rest : List ℕ) (k size index len : ℕ) → o ≡ None → rest_of rest ≡ unfinished k size index len → IsOver (made_of c ms (rest_of rest) k).progress → Awaits o (made_of c ms (rest_of rest)) rest
over_awaits (Some page) c ms rest k size index len e is over = absurd (cc)
over_awaits None c ms rest k size index len e is over = λ m j i l f.
    let g : unfinished k size index len ≡ unfinished m j i l = sym is ∙ f in
    let same : k ≡ m = cc in
    subst (λ z. IsOver (made_of c ms (rest_of rest) z).progress) same over

-- The header of a page that is passed over.
pub header_strayed : (P : ℕ → Progress) (o : Option DuePage) (c : ℕ → Bool) (ms : List Message) (rest payload : List ℕ) (k size index len : ℕ) → ((s : Share) → after_header k s (P k) size index len ≡ with_stray s)
    → IsOver (P k) → Holds P o c ms [] → rest_of rest ≡ unfinished k size index len → Holds P o c ms rest × Grows (Stray k) c ms [] ms rest payload
header_strayed P o c ms rest payload k size index len does over holds is =
    let F : ℕ → Share → Share = (λ m s. with_stray s) in
    let grown = header_grows c ms k size index len F (ap (λ q. after_header k (made_of c ms short k) q size index len) (sym (holds.progress k)) ∙ does (made_of c ms short k)) in
    let grows : (m : ℕ) → made_of c ms (rest_of rest) m ≡ (if m == k then with_stray (made_of c ms short m) else made_of c ms short m) = (λ m. ap (λ r. made_of c ms r m) is ∙ grown m) in
    let progress : (m : ℕ) → P m ≡ (made_of c ms (rest_of rest) m).progress =
    (λ m. stays (m == k) (P m) (made_of c ms short m) (with_stray (made_of c ms short m)) (holds.progress m) refl ∙ ap (λ s. s.progress) (sym (grows m))) in
    (record { progress = progress; awaits = over_awaits o c ms rest k size index len (none_coming P o c ms holds) is (subst IsOver (progress k) over) }, grows)

-- The header of a page that isn't the one due.
pub header_undue : (P Q : ℕ → Progress) (o n : Option DuePage) (c : ℕ → Bool) (ms : List Message) (rest payload : List ℕ) (k : ℕ) (extent : ExtentView) (p size index len : ℕ) → P k ≡ Going extent p → next_by extent p size index len ≡ false → n ≡ o
    → ((m : ℕ) → Q m ≡ (if m == k then Ended else P m)) → Holds P o c ms [] → rest_of rest ≡ unfinished k size index len
    → Holds Q n c ms rest × Grows (End k extent p (PageFault index)) c ms [] ms rest payload
header_undue P Q o n c ms rest payload k extent p size index len was undue page at holds is =
    let F : ℕ → Share → Share = (λ m s. with_item s (item_of m (p + 1) extent (item.End (PageFault index))) Ended) in
    let share : (made_of c ms short k).progress ≡ Going extent p = sym (holds.progress k) ∙ was in
    let grown = header_grows c ms k size index len F (ap (λ q. after_header k (made_of c ms short k) q size index len) share ∙ by_false (next_by extent p size index len) _ _ undue) in
    let grows : (m : ℕ) → made_of c ms (rest_of rest) m ≡ (if m == k then F m (made_of c ms short m) else made_of c ms short m) = (λ m. ap (λ r. made_of c ms r m) is ∙ grown m) in
    let progress : (m : ℕ) → Q m ≡ (made_of c ms (rest_of rest) m).progress =
    (λ m. at m ∙ moves (m == k) (P m) Ended (made_of c ms short m) (F m (made_of c ms short m)) (holds.progress m) refl ∙ ap (λ s. s.progress) (sym (grows m))) in
    let ended : Ended ≡ (made_of c ms (rest_of rest) k).progress = sym (at k ∙ by_true (k == k) Ended (P k) (eq-eqb k k refl)) ∙ progress k in
    (record { progress = progress; awaits = over_awaits n c ms rest k size index len (page ∙ none_coming P o c ms holds) is (subst IsOver ended tt) }, grows)

-- the page that is due has its module's size, the next index, and the bytes of the page there
pub due_says : (extent : ExtentView) (p size index len : ℕ) → next_by extent p size index len ≡ true → (size ≡ extent.pages) × (index ≡ p) × (len ≡ bytes_in_page extent.pages extent.words index) × (is_due extent.pages extent.words p index len ≡ true)
due_says extent p size index len due =
    let count = page_count extent.pages extent.words in
    let long = bytes_in_page extent.pages extent.words index in
    let sized = and_parts (size == extent.pages) (is_due extent.pages extent.words p index len) due in
    let last = and_parts (index == p && nat_lt index count) (len == long) sized.1 in
    let first = and_parts (index == p) (nat_lt index count) last.0 in
    (eqb-true size extent.pages sized.0, eqb-true index p first.0, eqb-true len long last.1, sized.1)

-- a page that is due is one of its module's
pub due_inside : (size n p : ℕ) → is_due size n p p (bytes_in_page size n p) ≡ true → p < page_count size n
due_inside size n p due =
    let last = and_parts (p == p && nat_lt p (page_count size n)) (bytes_in_page size n p == bytes_in_page size n p) due in
    let first = and_parts (p == p) (nat_lt p (page_count size n)) last.0 in
    ltb-true p (page_count size n) first.1

module _ (c : ℕ → Bool) (ms : List Message) (rest : List ℕ) (k : ℕ) (extent : ExtentView) (p size index len : ℕ) (due : next_by extent p size index len ≡ true) where
  -- the page that begins
  abbrev pub begun : DuePage
  begun = record { «module» = k; extent = extent; pages = p; come = 0 }

  of_len : len ≡ bytes_in_page extent.pages extent.words p
  of_len = let says = due_says extent p size index len due in says.2 ∙ ap (λ z. bytes_in_page extent.pages extent.words z) says.1

  here : is_due extent.pages extent.words p p (bytes_in_page extent.pages extent.words p) ≡ true
  here = let says = due_says extent p size index len due in (λ i. is_due extent.pages extent.words p (sym says.1 i) (sym of_len i)) ∙ says.3

  -- what its beginning follows
  pub due_follows : (P : ℕ → Progress) → P k ≡ Going extent p → Follows (Begin begun) P
  due_follows P was = (was, due_inside extent.pages extent.words p here, refl)

  -- The header of the page that is due.
  pub header_due : (P Q : ℕ → Progress) (o : Option DuePage) (payload : List ℕ) → P k ≡ Going extent p → ((m : ℕ) → Q m ≡ P m) → Holds P o c ms [] → rest_of rest ≡ unfinished k size index len → drop 12 rest ≡ []
      → Holds Q (Some begun) c ms rest × Grows (Begin begun) c ms [] ms rest payload
  header_due P Q o payload was at holds is bare =
      let says = due_says extent p size index len due in
      let of_size = says.0 in
      let at_index = says.1 in
      let F : ℕ → Share → Share = (λ m s. s) in
      let share : (made_of c ms short k).progress ≡ Going extent p = sym (holds.progress k) ∙ was in
      let grown = header_grows c ms k size index len F (ap (λ q. after_header k (made_of c ms short k) q size index len) share ∙ by_true (next_by extent p size index len) _ _ due) in
      let grows : (m : ℕ) → made_of c ms (rest_of rest) m ≡ made_of c ms short m = (λ m. ap (λ r. made_of c ms r m) is ∙ grown m ∙ both_same (m == k) (made_of c ms short m)) in
      let there : unfinished k size index len ≡ unfinished k extent.pages p (bytes_in_page extent.pages extent.words p) = (λ i. unfinished k (of_size i) (at_index i) (of_len i)) in (
        record {
          progress = λ m. at m ∙ holds.progress m ∙ ap (λ s. s.progress) (sym (grows m));
          awaits = record { going = ap (λ s. s.progress) (grows k) ∙ share; header = is ∙ there; is_next = here; come = sym (ap length bare) };
        },
        grows,
      )

-- Payload bytes of a page that is passed over.
passing : (o : Option DuePage) (c : ℕ → Bool) (ms : List Message) (rest used : List ℕ) → o ≡ None → rest_of rest ≡ rest_of (rest ++ used) → Awaits o (made_of c ms (rest_of rest)) rest → Awaits o (made_of c ms (rest_of (rest ++ used))) (rest ++ used)
passing (Some page) c ms rest used e same h = absurd (cc)
passing None c ms rest used e same h = λ m j i l f. subst (λ r. IsOver (made_of c ms r m).progress) same (h m j i l (same ∙ f))

passed_code : (o : Option DuePage) (c : ℕ → Bool) (ms : List Message) (rest : List ℕ) → o ≡ None → Awaits o (made_of c ms (rest_of rest)) rest → (m size index len : ℕ) → rest_of rest ≡ unfinished m size index len → IsOver (made_of c ms (rest_of rest) m).progress
passed_code (Some page) c ms rest e h = absurd (cc)
passed_code None c ms rest e h = h

pub passing_more : (P : ℕ → Progress) (o : Option DuePage) (c : ℕ → Bool) (ms : List Message) (rest used payload : List ℕ) (m size index len : ℕ) → o ≡ None → Holds P o c ms rest → rest_of rest ≡ unfinished m size index len → rest_of (rest ++ used) ≡ unfinished m size index len
    → Holds P o c ms (rest ++ used) × Grows Nothing c ms rest ms (rest ++ used) payload × TellsCode Nothing c ms rest used
passing_more P o c ms rest used payload m size index len none holds is is' =
    let same : rest_of rest ≡ rest_of (rest ++ used) = is ∙ sym is' in (
      record {
        progress = λ k. holds.progress k ∙ ap (λ r. (made_of c ms r k).progress) same;
        awaits = passing o c ms rest used none same holds.awaits;
      },
      (λ k. ap (λ r. made_of c ms r k) (sym same)),
      inr (passed_code o c ms rest none holds.awaits),
    )

pub passing_ends : (P : ℕ → Progress) (o : Option DuePage) (c : ℕ → Bool) (ms : List Message) (rest used : List ℕ) (k size index len : ℕ) → o ≡ None → Holds P o c ms rest → rest_of rest ≡ unfinished k size index len → length (drop 12 rest ++ used) ≡ len
    → let payload = drop 12 rest ++ used in let now = ms ++ page_message k size index payload ∷ [] in Holds P o c now [] × Grows Nothing c ms rest now [] payload × TellsCode Nothing c ms rest used
passing_ends P o c ms rest used k size index len none holds is long =
    let payload : List ℕ = drop 12 rest ++ used in
    let message : Message = page_message k size index payload in
    let F : ℕ → Share → Share = (λ m t. after_header m t t.progress size index len) in
    let code = passed_code o c ms rest none holds.awaits in
    let over : IsOver (made_of c ms (unfinished k size index len) k).progress = subst (λ r. IsOver (made_of c ms r k).progress) is (code k size index len is) in
    let base : Share = made_of c ms short k in
    let own : made_of c ms (unfinished k size index len) k ≡ after_header k base base.progress size index len = unfinished_own c k size index len ms in
    let same : after_message (c k) k base base.progress message ≡ after_header k base base.progress size index len = page_passed (c k) k size index len base base.progress payload refl long (subst (λ t. IsOver t.progress) own over) in
    let grown = message_grows c ms message F same in
    let before = header_grows c ms k size index len F refl in
    let grows : (m : ℕ) → made_of c (ms ++ message ∷ []) short m ≡ made_of c ms (rest_of rest) m = (λ m. grown m ∙ sym (before m) ∙ ap (λ r. made_of c ms r m) (sym is)) in (
      record {
        progress = λ m. holds.progress m ∙ ap (λ t. t.progress) (sym (grows m));
        awaits = awaits_none o (made_of c (ms ++ message ∷ []) short) none;
      },
      grows,
      inr code,
    )

-- the page that is coming is due
pub is_due_now : (P : ℕ → Progress) (o : Option DuePage) (c : ℕ → Bool) (ms : List Message) (rest : List ℕ) (page : DuePage) → o ≡ Some page → Holds P o c ms rest → IsDue page (made_of c ms (rest_of rest) page.«module»).progress rest
is_due_now P o c ms rest page some holds = subst (λ o. Awaits o (made_of c ms (rest_of rest)) rest) some holds.awaits

-- Payload bytes of the page that is due.
module _ (P : ℕ → Progress) (o : Option DuePage) (c : ℕ → Bool) (ms : List Message) (rest used : List ℕ) (page : DuePage) (m size index len : ℕ) (some : o ≡ Some page) (holds : Holds P o c ms rest) (is : rest_of rest ≡ unfinished m size index len) where
  due : IsDue page (made_of c ms (rest_of rest) page.«module»).progress rest
  due = is_due_now P o c ms rest page some holds

  pub same_header : unfinished page.«module» page.extent.pages page.pages (bytes_of page) ≡ unfinished m size index len
  same_header = sym due.header ∙ is

  pub same_len : bytes_of page ≡ len
  same_len = let told = same_header in cc

  sum : length (drop 12 rest ++ used) ≡ page.come + length used
  sum = length-append (drop 12 rest) used ∙ ap (λ n. n + length used) (sym due.come)

  -- some of it is to come
  unended : page.come < bytes_of page
  unended = let less = (unfinished_long rest m size index len is).1 in let long = due.come in let same = same_len in omega (arith, less, long, same)

  -- these bytes go on in it
  pub goes : (ended : Bool) → IsWhole ended (length (drop 12 rest ++ used)) len → GoesOn page (length used) ended
  goes ended whole = record {
    unended = unended;
    whole = subst (λ n. IsWhole ended n (bytes_of page)) sum (subst (λ n. IsWhole ended (length (drop 12 rest ++ used)) n) (sym same_len) whole);
  }

  -- and are its code
  pub code_of_page : (ended : Bool) → IsWhole ended (length (drop 12 rest ++ used)) len → IsCodeOf page ended c ms rest used
  code_of_page ended whole = record { due = due; whole = subst (λ n. IsWhole ended (length (drop 12 rest ++ used)) n) (sym same_len) whole }

  -- more of them are to come
  pub coming_more : rest_of (rest ++ used) ≡ unfinished m size index len
      → Holds P (Some (record page { come = page.come + length used })) c ms (rest ++ used) × ((k : ℕ) → made_of c ms (rest_of (rest ++ used)) k ≡ made_of c ms (rest_of rest) k)
  coming_more is' =
      let same : rest_of rest ≡ rest_of (rest ++ used) = is ∙ sym is' in
      let before = unfinished_long rest m size index len is in
      let all : drop 12 (rest ++ used) ≡ drop 12 rest ++ used = drop_append_left 12 rest used before.0 in (
        record {
          progress = λ k. holds.progress k ∙ ap (λ r. (made_of c ms r k).progress) same;
          awaits = record {
            going = ap (λ r. (made_of c ms r page.«module»).progress) (sym same) ∙ due.going;
            header = sym same ∙ due.header;
            is_next = due.is_next;
            come = sym sum ∙ ap length (sym all);
          };
        },
        λ k. ap (λ r. made_of c ms r k) (sym same),
      )

  -- the page is whole
  pub page_ended : (Q : ℕ → Progress) → ((k : ℕ) → Q k ≡ (if k == page.«module» then Going page.extent (page.pages + 1) else P k)) → length (drop 12 rest ++ used) ≡ len
      → let payload = drop 12 rest ++ used in let now = ms ++ page_message m size index payload ∷ [] in Holds Q None c now [] × Grows (Code page true) c ms rest now [] payload
  page_ended Q at long =
      let k : ℕ = page.«module» in
      let extent = page.extent in
      let p = page.pages in
      let payload : List ℕ = drop 12 rest ++ used in
      let told = same_header in
      let same_module : k ≡ m = cc in
      let same_size : extent.pages ≡ size = cc in
      let same_index : p ≡ index = cc in
      let message : Message = page_message m size index payload in
      let sized : (size == extent.pages) ≡ true = eq-eqb size extent.pages (sym same_size) in
      let due_here : is_due extent.pages extent.words p index len ≡ true = (λ i. is_due extent.pages extent.words p (sym same_index i) (sym same_len i)) ∙ due.is_next in
      let next : next_by extent p size index len ≡ true = (λ i. sized i && due_here i) in
      let base : Share = made_of c ms short m in
      let here : made_of c ms (rest_of rest) m ≡ after_header m base base.progress size index len = ap (λ r. made_of c ms r m) is ∙ unfinished_own c m size index len ms in
      let going : base.progress ≡ Going extent p =
      open_before m extent p size index len base base.progress refl (ap (λ s. s.progress) (sym here) ∙ subst (λ z. (made_of c ms (rest_of rest) z).progress ≡ Going extent p) same_module due.going) in
      let kept : made_of c ms (rest_of rest) m ≡ base = here ∙ ap (λ q. after_header m base q size index len) going ∙ by_true (next_by extent p size index len) _ _ next in
      let F : ℕ → Share → Share = (λ z s. with_item s (item_of z (p + 1) extent (item.Page payload)) (Going extent (p + 1))) in
      let does : after_message (c m) m base base.progress message ≡ F m base =
      ap (λ q. after_message (c m) m base q message) going ∙ by_true (next_by extent p size index (length payload)) _ _ (ap (λ l. next_by extent p size index l) long ∙ next) in
      let grown = message_grows c ms message F does in
      let before : (z : ℕ) → made_of c ms (rest_of rest) z ≡ made_of c ms short z = (λ z. ap (λ r. made_of c ms r z) is ∙ header_grows c ms m size index len (λ y s. s) (sym (unfinished_own c m size index len ms) ∙ ap (λ r. made_of c ms r m) (sym is) ∙ kept) z ∙ both_same (z == m) (made_of c ms short z)) in
      let grows : (z : ℕ) → made_of c (ms ++ message ∷ []) short z ≡ (if z == m then F z (made_of c ms (rest_of rest) z) else made_of c ms (rest_of rest) z) = (λ z. grown z ∙ ap (λ s. if z == m then F z s else s) (sym (before z))) in
      let at' : (z : ℕ) → Q z ≡ (if z == m then Going extent (p + 1) else P z) = subst (λ y. (z : ℕ) → Q z ≡ (if z == y then Going extent (p + 1) else P z)) same_module at in
      let progress : (z : ℕ) → Q z ≡ (made_of c (ms ++ message ∷ []) short z).progress =
      (λ z. at' z ∙ moves (z == m) (P z) (Going extent (p + 1)) (made_of c ms (rest_of rest) z) (F z (made_of c ms (rest_of rest) z)) (holds.progress z) refl ∙ ap (λ s. s.progress) (sym (grows z))) in (
        record { progress = progress; awaits = awaits_none None (made_of c (ms ++ message ∷ []) short) refl },
        λ z. grows z ∙ ap (λ y. if z == y then F z (made_of c ms (rest_of rest) z) else made_of c ms (rest_of rest) z) (sym same_module),
      )
