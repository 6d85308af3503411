-- The lines of a stream, one message after another.
use Rattle.std.proofs.Common.{◌≡◌, ◌∙◌, ℕ, ◌+◌, ◌-◌, ◌<◌, Bool, true, false, List, [], ◌∷◌, ◌++◌, length, flat_map, take, Option, Some, None, IfSome, All, codes, option_map, refl, sym, ap, subst, arith, append_assoc, length-append}
use Rattle.std.specs.Prelude.{min, nat_lt}
use Rattle.std.proofs.lemmas.Bool.{lt-ltb, ltb-false, ltb-true}
use Rattle.std.proofs.lemmas.List.{append-nil, length-take, take_all}
use Rattle.std.proofs.lemmas.List.Elements.{All-nil, All-cons, All-append}
use Rattle.lfi_frame.specs.declared.fault.FrameFault.{FrameFault}
use Rattle.lfi_frame.specs.Streams.{Cut, Message, IsMessage, spelling}
use Rattle.lfi_reference.specs.Messages.{Begins}
use Rattle.lfi_reference.proofs.Messages.{one_more}
use Rattle.lfi_file_commands.specs.declared.ending.Ending.{Ending}
use Rattle.lfi_file_commands.specs.declared.ending.Ending.TheVariants.{Well, NotWell}
use Rattle.lfi_file_commands.specs.Info.{IsShortInfo, IsStreamInfo, ending_of_fault, fault_line, fault_of, message_line, message_lines}
use Rattle.lfi_file_commands.specs.inner.Infos.{PushesMessages}
use Rattle.lfi_file_commands.proofs.Explained.{Knows, carried}

-- the lines of one message more
lines_more : (at : ℕ) (done : List Message) (message : Message) → message_lines at (done ++ message ∷ []) ≡ message_lines at done ++ message_line (at + length (flat_map spelling done)) message
lines_more at [] message = append-nil (message_line at message) ∙ ap (λ n. message_line n message) (omega arith)
lines_more at (x ∷ done) message =
    let after : ℕ = at + length (spelling x) in
    let count = length-append (spelling x) (flat_map spelling done) in
    let same : after + length (flat_map spelling done) ≡ at + length (spelling x ++ flat_map spelling done) = omega (arith, count) in
    ap (λ l. message_line at x ++ l) (lines_more after done message)
    ∙ sym (append_assoc (message_line at x) (message_lines after done) (message_line (after + length (flat_map spelling done)) message))
    ∙ ap (λ n. message_line at x ++ message_lines after done ++ message_line n message) same

zero_more : (n : ℕ) → n ≡ 0 + n
zero_more n = omega arith

-- how many bytes the messages have, before a rest
pub spelled_at : (bytes rest : List ℕ) (done : List Message) → bytes ≡ flat_map spelling done ++ rest → length bytes - length rest ≡ length (flat_map spelling done)
spelled_at bytes rest done spelled = let count = ap length spelled ∙ length-append (flat_map spelling done) rest in omega (arith, count)

-- the lines of the messages up to here, of a stream that goes on by this rest
abbrev pub Pushed : (bytes rest old new : List ℕ) → Type 0
Pushed bytes rest old new = (done : List Message) × All IsMessage done × (bytes ≡ flat_map spelling done ++ rest) × (new ≡ old ++ message_lines 0 done)

pub pushed_none : (bytes old : List ℕ) → Pushed bytes bytes old old
pushed_none bytes old = ([], All-nil IsMessage, refl, sym (append-nil old))

pub pushed_more : (bytes rest more old mid new : List ℕ) (message : Message) → Pushed bytes rest old mid → Begins rest message more → new ≡ mid ++ message_line (length bytes - length rest) message
    → Pushed bytes more old new
pushed_more bytes rest more old mid new message pushed begins is =
    let done = pushed.0 in (
      done ++ message ∷ [],
      All-append IsMessage done (message ∷ []) pushed.1 (All-cons IsMessage message [] begins.is (All-nil IsMessage)),
      one_more bytes rest more done message pushed.2 begins,
      is ∙ (λ i. pushed.3 i ++ message_line (spelled_at bytes rest done pushed.2 i) message)
          ∙ append_assoc old (message_lines 0 done) (message_line (length (flat_map spelling done)) message)
          ∙ ap (λ n. old ++ (message_lines 0 done ++ message_line n message)) (zero_more (length (flat_map spelling done))) ∙ ap (λ l. old ++ l) (sym (lines_more 0 done message)),
    )

pub pushed_all : (bytes rest old new : List ℕ) → Pushed bytes rest old new → ((done : List Message) → All IsMessage done → bytes ≡ flat_map spelling done ++ rest → Cut bytes done rest) → PushesMessages bytes rest old new
pushed_all bytes rest old new pushed cuts = record { messages = pushed.0; cut = cuts pushed.0 pushed.1 pushed.2; pushed = pushed.3 }

-- what is told of a stream without a fault
pub stream_well : (bytes rest begun text : List ℕ) → begun ≡ codes "stream\n" → PushesMessages bytes rest begun text → fault_of rest ≡ None → IsStreamInfo bytes text Well
stream_well bytes rest begun text is pushed none = (
  pushed.messages,
  rest,
  pushed.cut,
  pushed.pushed ∙ ap (λ l. l ++ message_lines 0 pushed.messages) is ∙ sym (append-nil (codes "stream\n" ++ message_lines 0 pushed.messages))
      ∙ ap (λ f. codes "stream\n" ++ message_lines 0 pushed.messages ++ fault_line (length (flat_map spelling pushed.messages)) f) (sym none),
  ap ending_of_fault (sym none),
)

-- and of one with a fault
pub stream_faulty : (bytes rest begun mid text : List ℕ) (fault : FrameFault) → begun ≡ codes "stream\n" → PushesMessages bytes rest begun mid → fault_of rest ≡ Some fault
    → text ≡ mid ++ fault_line (length bytes - length rest) (Some fault) → IsStreamInfo bytes text NotWell
stream_faulty bytes rest begun mid text fault is pushed some told = (
  pushed.messages,
  rest,
  pushed.cut,
  told ∙ (λ i. pushed.pushed i ++ fault_line (spelled_at bytes rest pushed.messages pushed.cut.spelled i) (Some fault))
      ∙ ap (λ l. l ++ message_lines 0 pushed.messages ++ fault_line (length (flat_map spelling pushed.messages)) (Some fault)) is
      ∙ ap (λ f. codes "stream\n" ++ message_lines 0 pushed.messages ++ fault_line (length (flat_map spelling pushed.messages)) f) (sym some),
  ap ending_of_fault (sym some),
)

-- what is told of the first bytes, up to one more than are told, is told of all of them
all_told : (most more : ℕ) (all read text : List ℕ) (ending : Ending) → more ≡ most + 1 → read ≡ take more all → IsShortInfo (nat_lt most (length read)) read text ending
    → IsShortInfo (nat_lt most (length all)) all text ending
all_told most more all read text ending next same is = go (nat_lt most (length all)) refl
  where
    count : length read ≡ min more (length all)
    count = ap length same ∙ length-take more all

    go : (b : Bool) → nat_lt most (length all) ≡ b → IsShortInfo (nat_lt most (length all)) all text ending
    go true e =
        let long = ltb-true most (length all) e in
        let more_read : most < length read = omega (arith, count, next, long) in
        subst (λ b. IsShortInfo b all text ending) (sym e) (subst (λ b. IsShortInfo b read text ending) (lt-ltb most (length read) more_read) is)
    go false e =
        let short = ltb-false most (length all) e in
        subst (λ xs. IsShortInfo (nat_lt most (length xs)) xs text ending) (same ∙ take_all more all (omega (arith, next, short))) is

-- the same, of the bytes that are known
pub info_read : (most more : ℕ) (left known : Option (List ℕ)) (read text : List ℕ) (ending : Ending) → more ≡ most + 1 → Knows left known → IfSome (option_map (take more) left) (λ all. read ≡ all)
    → IsShortInfo (nat_lt most (length read)) read text ending → (bytes : List ℕ) × IfSome known (λ all. all ≡ bytes) × IsShortInfo (nat_lt most (length bytes)) bytes text ending
info_read most more None None read text ending next knows same is = (read, tt, is)
info_read most more None (Some xs) read text ending next knows same is = absurd cc
info_read most more (Some all) known read text ending next knows same is = (all, carried (λ xs. xs ≡ all) (Some all) known knows refl, all_told most more all read text ending next same is)
