use Rattle.std.proofs.Common.{◌≡◌, ◌∙◌, length, map, Some, codes, option_map, is_some, refl, sym, ap, arith}
use Rattle.clap.specs.Words.{all_of, first_of, found_of, rows_of}
use Rattle.clap.proofs.CallerLemmas.{some_of_text}
use Rattle.clap.proofs.WalkLemmas.{first_value-rows, raw_values-rows}
use Rattle.lfi_command_line.specs.CommandLine.{pages_named}
use Rattle.lfi_command_line.proofs.Asked.{all_given, map_length, number_most, some_same}
use Rattle.lfi_command_line.proofs.given.pack_line.Goals as goal

pub overflow_cast-entry : goal.overflow_cast-entry
overflow_cast-entry c =
    let most = number_most 0 0 4194303 (first_of (codes "entry") (rows_of (found_of c.args.pack.now))) c.number_or-entry.result (omega arith)
    (c.number_or-entry.ensures 0 4194303 c.requires.entry) in
    omega (arith, most)

pub unwrap-requires : goal.unwrap-requires
unwrap-requires c =
    let all = all_given (codes "CODE") (rows_of (found_of c.args.pack.now)) c.requires.codes in
    some_of_text _ c.get_strs.result _ (c.get_strs.ensures ∙ raw_values-rows (found_of c.args.pack.now) (codes "CODE")) (ap is_some all.1)

pub returns-clause-line : goal.returns-clause-line
returns-clause-line c =
    let paths = c.unwrap.result.now in
    let all = all_given (codes "CODE") (rows_of (found_of c.args.pack.now)) c.requires.codes in
    let same : all_of (codes "CODE") (rows_of (found_of c.args.pack.now)) ≡ Some (map (λ s. s.now) paths) =
    sym (raw_values-rows (found_of c.args.pack.now) (codes "CODE")) ∙ sym c.get_strs.ensures ∙ ap (option_map (λ s. map (λ v. v.now) s.now)) c.unwrap.ensures in
    let items : c.in_ok-codes.codes.items ≡ paths = c.in_ok-codes.ensures.items in
    let values : all.0 ≡ map (λ s. s.now) paths = some_same (sym all.1 ∙ same) in
    let count : length all.0 ≡ length paths = ap length values ∙ map_length (λ s. s.now) paths in (
      refl,
      c.number_or-first.ensures 0 15 c.requires.«module»,
      c.number_or-entry.ensures 0 4194303 c.requires.entry,
      c.profile_of-profile.ensures,
      ap (λ o. pages_named o c.profile_of-profile.result) (sym (first_value-rows (found_of c.args.pack.now) (codes "pages")) ∙ sym c.get_str.ensures) ∙ sym c.pages_named.ensures ∙ c.in-Some.is,
      same ∙ ap (λ xs. Some (map (λ s. s.now) xs)) (sym items),
      rw items (omega (count, all.2, arith)),
    )

pub returns-in_default-clause-fault : goal.returns-in_default-clause-fault
returns-in_default-clause-fault c = (
  c.profile_of-profile.result,
  c.profile_of-profile.ensures,
  ap (λ o. pages_named o c.profile_of-profile.result) (sym (first_value-rows (found_of c.args.pack.now) (codes "pages")) ∙ sym c.get_str.ensures) ∙ sym c.pages_named.ensures ∙ c.in_default.is,
)
