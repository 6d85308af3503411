use Rattle.std.proofs.Common.{◌≡◌, ◌<◌, ◌++◌, List, ℕ, length, sym, subst}
use Rattle.a64_word.specs.Words.{words_of}
use Rattle.page_buf.specs.Page.{PageView}
use Rattle.lfi_image.specs.Image.{Module}
use Rattle.lfi_sequence.specs.Refused.{AreNear}
use Rattle.lfi_sequence.specs.inner.Pools.{Offers}
use Rattle.lfi_sequence.proofs.Offered.{offered}
use Rattle.lfi_sequence.proofs.Refusals.{fault_within}
use Rattle.lfi_sequence.proofs.placing.place.Goals as goal

-- the words with those of the page that came back
words_back : (new old : Module) (back page : PageView) → new ≡ old → back ≡ page → new.placed ++ words_of back.bytes ≡ old.placed ++ words_of page.bytes
words_back new old back page stays same = λ i. (stays i).placed ++ words_of (same i).bytes

pub append-requires-clause-module : goal.append-requires-clause-module
append-requires-clause-module c = c.requires.«module»

pub append-requires-clause-place : goal.append-requires-clause-place
append-requires-clause-place c = c.requires.next

pub find-near-requires : goal.find-near-requires
find-near-requires c =
    subst (λ (l : List ℕ). c.in-Err.fault.word < length l) (sym (words_back c.append.new.self c.args.builder.now c.in-Err.page c.args.page.page c.in-Err.ensures.stays c.in-Err.ensures.back))
    (fault_within c.args.builder.now.extent.profile (c.args.builder.now.placed ++ words_of c.args.page.page.bytes) c.args.builder.now.extent.words c.in-Err.fault c.in-Err.ensures.fault)

pub returns-in-Ok-clause-placed : goal.returns-in-Ok-clause-placed
returns-in-Ok-clause-placed c = c.in-Ok.ensures.placed

pub returns-in-Ok-clause-faultless : goal.returns-in-Ok-clause-faultless
returns-in-Ok-clause-faultless c = c.in-Ok.ensures.faultless

pub returns-in-Err-clause-fault : goal.returns-in-Err-clause-fault
returns-in-Err-clause-fault c = c.in-Err.ensures.fault

pub returns-in-Err-clause-near : goal.returns-in-Err-clause-near
returns-in-Err-clause-near c =
    subst (λ (l : List ℕ). AreNear l c.in-Err.fault.word c.find-near.result) (words_back c.append.new.self c.args.builder.now c.in-Err.page c.args.page.page c.in-Err.ensures.stays c.in-Err.ensures.back)
    c.find-near.ensures

pub returns-in-Err-clause-stays : goal.returns-in-Err-clause-stays
returns-in-Err-clause-stays c = c.in-Err.ensures.stays

pub returns-in-Err-clause-offers : goal.returns-in-Err-clause-offers
returns-in-Err-clause-offers c = subst (λ (p : PageView). Offers p.size c.args.pool.now c.give.new.self) c.in-Err.ensures.back
    (offered c.give.result c.in-Err.page.size c.args.pool.now c.give.new.self c.give.ensures.ok c.give.ensures.small c.give.ensures.large)
