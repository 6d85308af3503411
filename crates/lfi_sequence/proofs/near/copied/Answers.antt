use Rattle.std.proofs.Common.{arith}
use Rattle.a64_word.specs.Words.{words_of}
use Rattle.std.specs.Prelude.{◌++◌}
use Rattle.lfi_sequence.proofs.Refusals.{copied_more, copied_room}
use Rattle.lfi_sequence.proofs.near.copied.Goals as goal

pub loop-place-preserved : goal.loop-place-preserved
loop-place-preserved c =
    let done = c.loop-place.invariant in
    let few = c.requires.few in
    let inside = c.requires.within in
    let low = c.loop-place.auto.place in
    let next = c.loop-place-test.true in
    let known = c.args.builder.now.placed ++ words_of c.args.page.now.bytes in
    record {
      room = copied_room c.loop-place.words _ c.word_at.result done.room;
      same = copied_more known c.loop-place.words c.args.first c.loop-place.place c.word_at.result (omega (arith, low)) (let room = done.room in omega (arith, room, few, next, low)) (omega (arith, inside, next)) done.same c.word_at.ensures;
    }
