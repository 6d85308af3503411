use Rattle.std.proofs.Common.{◌≡◌, ◌∙◌, length, map, Some, codes, option_map, is_some, refl, sym, ap, arith}
use Rattle.clap.specs.Words.{all_of, found_of, rows_of}
use Rattle.clap.proofs.CallerLemmas.{some_of_text}
use Rattle.clap.proofs.WalkLemmas.{raw_values-rows}
use Rattle.lfi_command_line.proofs.Asked.{all_given, map_length, some_same}
use Rattle.lfi_command_line.proofs.given.load_line.Goals as goal

pub unwrap-requires : goal.unwrap-requires
unwrap-requires c =
    let all = all_given (codes "STREAM") (rows_of (found_of c.args.load.now)) c.requires.streams in
    some_of_text _ c.get_strs.result _ (c.get_strs.ensures ∙ raw_values-rows (found_of c.args.load.now) (codes "STREAM")) (ap is_some all.1)

pub returns-clause-line : goal.returns-clause-line
returns-clause-line c =
    let paths = c.unwrap.result.now in
    let all = all_given (codes "STREAM") (rows_of (found_of c.args.load.now)) c.requires.streams in
    let same : all_of (codes "STREAM") (rows_of (found_of c.args.load.now)) ≡ Some (map (λ s. s.now) paths) =
    sym (raw_values-rows (found_of c.args.load.now) (codes "STREAM")) ∙ sym c.get_strs.ensures ∙ ap (option_map (λ s. map (λ v. v.now) s.now)) c.unwrap.ensures in
    let items : c.in_ok-streams.streams.items ≡ paths = c.in_ok-streams.ensures.items in
    let values : all.0 ≡ map (λ s. s.now) paths = some_same (sym all.1 ∙ same) in
    let count : length all.0 ≡ length paths = ap length values ∙ map_length (λ s. s.now) paths in (
      refl,
      c.in-Ok.ensures.asked,
      c.number_or.ensures 1 8 c.requires.verifiers,
      same ∙ ap (λ xs. Some (map (λ s. s.now) xs)) (sym items),
      rw items (omega (count, all.2, arith)),
    )
