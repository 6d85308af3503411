use Rattle.std.proofs.Common.{◌≡◌, ℕ, ◌/◌, ◌%◌, ◌^◌, ◌<◌, length, ◌∙◌, ap, arith, slice_index_or, bit_and}
use Rattle.std.proofs.lemmas.Nat.{and_mask, mod_below}
use Rattle.lfi_classes.specs.Classes.{all_classes, tops_of, middles_of, lows_of}
use Rattle.lfi_classes.proofs.Members.{three_parts}
use Rattle.lfi_classes.proofs.classes.ClassTables.classes_of.Goals as goal

pub returns : goal.returns
returns c =
    let w : ℕ = c.args.word in
    let fits : w < 2 ^ 32 = c.ranges.word.fits in
    let tops : length c.args.self.tops.now ≡ 2048 = c.args.self.tops_all in
    let middles : length c.args.self.middles.now ≡ 2048 = c.args.self.middles_all in
    let lows : length c.args.self.lows.now ≡ 1024 = c.args.self.lows_all in
    let m : bit_and (w / 2 ^ 10) 2047 ≡ w / 2 ^ 10 % 2 ^ 11 = and_mask (w / 2 ^ 10) 11 in
    let l : bit_and w 1023 ≡ w % 2 ^ 10 = and_mask w 10 in
    let m_small = mod_below (w / 2 ^ 10) (2 ^ 11) (omega arith) in
    let l_small = mod_below w (2 ^ 10) (omega arith) in
    let a : slice_index_or c.args.self.tops.now (w / 2 ^ 21) 0 ≡ tops_of all_classes (w / 2 ^ 21) = c.args.self.tops_are.at (w / 2 ^ 21) (omega arith) in
    let b : slice_index_or c.args.self.middles.now (bit_and (w / 2 ^ 10) 2047) 0 ≡ middles_of all_classes (w / 2 ^ 10 % 2 ^ 11) =
    c.args.self.middles_are.at (bit_and (w / 2 ^ 10) 2047) (omega arith) ∙ ap (middles_of all_classes) m in
    let d : slice_index_or c.args.self.lows.now (bit_and w 1023) 0 ≡ lows_of all_classes (w % 2 ^ 10) =
    c.args.self.lows_are.at (bit_and w 1023) (omega arith) ∙ ap (lows_of all_classes) l in
    rw (a, b, d) (three_parts all_classes w)
