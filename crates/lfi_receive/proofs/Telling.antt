-- What each event leaves a receiver standing for.
use Rattle.std.proofs.Common.{◌≡◌, ◌≢◌, ℕ, ◌+◌, ◌<◌, List, [], ◌++◌, length, drop, Option, Some, None, refl, sym, ◌∙◌, ap, subst, inl, inr, Bool, true, false, flat_map}
use Rattle.lfi_module.specs.Extents.{ExtentView}
use Rattle.lfi_frame.specs.declared.answer.Got.{Got}
use Rattle.lfi_frame.specs.declared.answer.Got.TheVariants.{More}
use Rattle.lfi_frame.specs.Streams.{Message, rest_of, spelling}
use Rattle.lfi_frame.specs.Feeds.{IsTold, feed_fault}
use Rattle.lfi_model.specs.declared.item.ItemKind.TheVariants as item
use Rattle.lfi_model.specs.declared.item.Reason.{Reason}
use Rattle.lfi_model.specs.declared.connection.Progress.{Progress}
use Rattle.lfi_model.specs.Items.{item_of}
use Rattle.lfi_connection.specs.declared.due_page.DuePage.{DuePage}
use Rattle.lfi_connection.specs.declared.event.Event.{Event}
use Rattle.lfi_connection.specs.declared.event.Event.TheVariants.{Nothing, Open, Begin, Code, Stray, End}
use Rattle.lfi_connection.specs.Connections.{made_of, Awaits, IsDue, Holds as Held}
use Rattle.lfi_connection.specs.Events.{Answers, Continues, Moves}
use Rattle.lfi_board.specs.Known.{known_by}
use Rattle.lfi_receive.specs.declared.coming.ComingPage.{ComingPage}
use Rattle.lfi_receive.specs.declared.receiver.Receiver.{Receiver}
use Rattle.lfi_receive.specs.declared.seat.OwnSeat.{OwnSeat}
use Rattle.lfi_receive.specs.Places.{progress_at}
use Rattle.lfi_receive.specs.Claims.{is_mine}
use Rattle.lfi_receive.specs.Seats.{IsAnswered}
use Rattle.lfi_receive.specs.Receivers.{StandsFor, IsOver, claimed_by}
use Rattle.lfi_receive.specs.inner.Holding.{made_by, knows, mine, Agrees, CountsTo, Fills, Holds, Brought}
use Rattle.lfi_receive.specs.inner.Pages.{due_page, coming_of}
use Rattle.lfi_receive.specs.inner.Steps.{Begins, KeepsPage}
use Rattle.lfi_receive.proofs.Claims.{fit}
use Rattle.lfi_receive.proofs.Books.{agrees_alike, strays_after}
use Rattle.lfi_receive.proofs.Holding.{fills_plain, fills_nothing, fills_more, bare, page_told}
use Rattle.lfi_receive.proofs.Standing.{goes_on, made_none, made_one, starved, asks_memory, not_over}

pub on_nothing : (r : Receiver) (ms : List Message) (rest used : List ℕ) → r.cause ≡ None → r.hand ≡ None → Brought r Nothing ms rest used → StandsFor r (flat_map spelling ms ++ (rest ++ used))
on_nothing r ms rest used none free b =
    goes_on r r.page r.hand r.strays Nothing ms rest used b none (λ k e. absurd (cc)) (made_none r free r.hand free) refl refl
    (fills_nothing (mine r) r.page ms b.moves.now rest used b.moves.left b.moves.code b.awaits b.moves.holds.awaits b.moves.inside b.fills)

pub on_stray : (r : Receiver) (strays k : ℕ) (ms : List Message) (rest used : List ℕ) → k < 16 → r.cause ≡ None → r.hand ≡ None → strays ≡ strays_after (Stray k) r.strays → Brought r (Stray k) ms rest used
    → StandsFor (record r { strays = strays }) (flat_map spelling ms ++ (rest ++ used))
on_stray r strays k ms rest used low none free count b =
    goes_on r r.page r.hand strays (Stray k) ms rest used b none (λ j e. let same : k ≡ j = cc in subst (λ z. z < 16) same low) (made_none r free r.hand free) count refl
    (fills_plain (mine r) ms r.page rest b.moves.left b.moves.code b.awaits)

pub on_open : (r : Receiver) (k : ℕ) (extent : ExtentView) (ms : List Message) (rest used : List ℕ) → r.cause ≡ None → r.hand ≡ None → Brought r (Open k extent) ms rest used
    → StandsFor (record r { hand = Some (item_of k 0 extent item.Open) }) (flat_map spelling ms ++ (rest ++ used))
on_open r k extent ms rest used none free b =
    goes_on r r.page (Some (item_of k 0 extent item.Open)) r.strays (Open k extent) ms rest used b none (λ j e. absurd (cc)) (made_one r (item_of k 0 extent item.Open) free) refl refl
    (fills_plain (mine r) ms r.page rest b.moves.left b.moves.code b.awaits)

pub on_end : (r : Receiver) (k : ℕ) (extent : ExtentView) (p : ℕ) (reason : Reason) (ms : List Message) (rest used : List ℕ) → r.cause ≡ None → r.hand ≡ None → Brought r (End k extent p reason) ms rest used
    → StandsFor (record r { hand = Some (item_of k (p + 1) extent (item.End reason)) }) (flat_map spelling ms ++ (rest ++ used))
on_end r k extent p reason ms rest used none free b =
    goes_on r r.page (Some (item_of k (p + 1) extent (item.End reason))) r.strays (End k extent p reason) ms rest used b none (λ j e. absurd (cc)) (made_one r (item_of k (p + 1) extent (item.End reason)) free) refl refl
    (fills_plain (mine r) ms r.page rest b.moves.left b.moves.code b.awaits)

pub on_begin : (r q : Receiver) (page : DuePage) (ms : List Message) (rest used : List ℕ) → r.cause ≡ None → r.hand ≡ None → Begins page r q → Brought r (Begin page) ms rest used → StandsFor q (flat_map spelling ms ++ (rest ++ used))
on_begin r q page ms rest used none free (inl begun) b =
    let s : Receiver = record r { memory = q.memory } in
    let d : Brought s (Begin page) ms rest used = record { before = b.before; agrees = b.agrees; awaits = b.awaits; fills = b.fills; moves = b.moves; counts = b.counts; opens = b.opens; faultless = b.faultless } in
    let none_came = bare page (made_of (mine r) b.moves.now (rest_of b.moves.left)) b.moves.left b.moves.follows.2 b.moves.holds.awaits in
    subst (λ z. StandsFor z (flat_map spelling ms ++ (rest ++ used))) (sym begun.1)
    (goes_on s (Some begun.0) r.hand r.strays (Begin page) ms rest used d none (λ j e. absurd (cc)) (made_none s free r.hand free) refl (ap (λ p. Some p) begun.2) (begun.3 ∙ sym none_came))
on_begin r q page ms rest used none free (inr refused) b =
    subst (λ z. StandsFor z (flat_map spelling ms ++ (rest ++ used))) (sym refused.0) (starved r q.memory q.feed q.start page ms rest used b refused.1)

pub begin_over : (r q : Receiver) (page : DuePage) (ms : List Message) (rest used : List ℕ) → r.cause ≡ None → Begins page r q → Brought r (Begin page) ms rest used → IsOver (claimed_by q) q.cause (flat_map spelling ms ++ (rest ++ used))
begin_over r q page ms rest used none (inl begun) b = not_over (claimed_by q) q.cause (flat_map spelling ms ++ (rest ++ used)) (ap (λ (z : Receiver). z.cause) begun.1 ∙ none)
begin_over r q page ms rest used none (inr refused) b =
    subst (λ (z : Receiver). IsOver (claimed_by z) z.cause (flat_map spelling ms ++ (rest ++ used))) (sym refused.0) (asks_memory r page ms rest used b)

-- code of the page that is kept
code_by : (r q : Receiver) (page : DuePage) (ended : Bool) (o : Option ComingPage) (ms : List Message) (rest used : List ℕ) (b : Brought r (Code page ended) ms rest used) → r.cause ≡ None → r.hand ≡ None → Continues (Code page ended) (coming_of r.page) (length used)
    → KeepsPage o ended used r q → r.page ≡ o → StandsFor q (flat_map spelling ms ++ (rest ++ used))
code_by r q page ended None ms rest used b none free continues keeps is = absurd keeps
code_by r q page true (Some kept) ms rest used b none free continues keeps is =
    let x = item_of kept.«module» (kept.pages + 1) kept.extent (item.Page (kept.page.bytes ++ used)) in
    let same : coming_of (Some kept) ≡ Some page = ap coming_of (sym is) ∙ continues.0 in
    let fills : kept.page.bytes ≡ drop 12 rest = subst (λ p. Fills p rest) is b.fills in
    subst (λ z. StandsFor z (flat_map spelling ms ++ (rest ++ used))) (sym keeps)
    (goes_on r None (Some x) r.strays (Code page true) ms rest used b none (λ j e. absurd (cc)) (made_one r x free ∙ ap (λ l. made_by r ++ l) (page_told kept page rest used same fills)) refl refl tt)
code_by r q page false (Some kept) ms rest used b none free continues keeps is =
    let more = keeps.0 in
    let same : coming_of (Some kept) ≡ Some page = ap coming_of (sym is) ∙ continues.0 in
    let page_is : due_page kept ≡ page = cc in
    let fills : kept.page.bytes ≡ drop 12 rest = subst (λ p. Fills p rest) is b.fills in
    let now : due_page more ≡ record page { come = page.come + length used } = keeps.2.page ∙ ap (λ (p : DuePage). record p { come = p.come + length used }) page_is in
    let due : IsDue (due_page more) (made_of (mine r) b.moves.now (rest_of b.moves.left) more.«module»).progress b.moves.left = subst (λ (p : DuePage). IsDue p (made_of (mine r) b.moves.now (rest_of b.moves.left) p.«module»).progress b.moves.left) (sym now) b.moves.holds.awaits in
    subst (λ z. StandsFor z (flat_map spelling ms ++ (rest ++ used))) (sym keeps.1)
    (goes_on r (Some more) r.hand r.strays (Code page false) ms rest used b none (λ j e. absurd (cc)) (made_none r free r.hand free) refl (ap (λ p. Some p) now)
    (fills_more (mine r) kept more page ms b.moves.now rest used b.moves.left b.moves.code.due keeps.2 due b.moves.inside fills))

pub on_code : (r q : Receiver) (page : DuePage) (ended : Bool) (ms : List Message) (rest used : List ℕ) → r.cause ≡ None → r.hand ≡ None → Continues (Code page ended) (coming_of r.page) (length used) → KeepsPage r.page ended used r q → Brought r (Code page ended) ms rest used
    → StandsFor q (flat_map spelling ms ++ (rest ++ used))
on_code r q page ended ms rest used none free continues keeps b = code_by r q page ended r.page ms rest used b none free continues keeps refl

pub code_runs : (r q : Receiver) (page : Option ComingPage) (ended : Bool) (used : List ℕ) → KeepsPage page ended used r q → r.cause ≡ None → q.cause ≡ None
code_runs r q None ended used keeps none = absurd keeps
code_runs r q (Some kept) true used keeps none = ap (λ (z : Receiver). z.cause) keeps ∙ none
code_runs r q (Some kept) false used keeps none = ap (λ (z : Receiver). z.cause) keeps.1 ∙ none

-- What a step of the feed has brought, after the board's answer.
pub brought : (r : Receiver) (seat : OwnSeat) (modules : List Progress) (got : Got) (is_free : Bool) (event : Event) (ms : List Message) (rest used : List ℕ) → IsAnswered got (knows r) (known_by seat.seat) is_free → (got ≢ More → used ≢ [])
    → CountsTo r.came r.feed ms (rest ++ used) → Holds r ms rest → IsTold got r.feed ms rest used → feed_fault r.feed ≡ None
    → ((claimed : ℕ → Bool) → Answers got is_free claimed (progress_at r.modules) → Held (progress_at r.modules) (coming_of r.page) claimed ms rest → Moves r.feed (progress_at modules) (coming_of r.page) claimed ms rest used event)
    → Brought (record r { seat = seat; modules = modules }) event ms rest used
brought r seat modules got is_free event ms rest used answered some counts holds told faultless brings =
    let claimed : ℕ → Bool = is_mine (known_by seat.seat) in
    let f = fit (knows r) (known_by seat.seat) got is_free r.feed (progress_at r.modules) ms rest used answered some told holds.agrees.progress holds.opens in
    let agrees : Agrees claimed (progress_at r.modules) (made_by r) r.strays ms (rest_of rest) = agrees_alike (mine r) claimed (progress_at r.modules) (made_by r) r.strays ms ms (rest_of rest) (rest_of rest) f.alike holds.agrees in
    let same : made_of (mine r) ms (rest_of rest) ≡ made_of claimed ms (rest_of rest) = (λ i m. f.alike m i) in
    let awaits : Awaits (coming_of r.page) (made_of claimed ms (rest_of rest)) rest = subst (λ made. Awaits (coming_of r.page) made rest) same holds.awaits in
    let moves = brings claimed f.answers (record { progress = agrees.progress; awaits = awaits }) in
    record {
      before = progress_at r.modules;
      agrees = agrees;
      awaits = awaits;
      fills = holds.fills;
      moves = moves;
      counts = counts;
      opens = f.knows moves.now moves.left moves.stands moves.text;
      faultless = faultless;
    }
