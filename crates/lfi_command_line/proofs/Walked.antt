-- Where the parser finds no fault in the words of a subcommand, its required values are there, and its numbers are in their ranges.
use Rattle.std.proofs.Common.{◌≡◌, ◌∙◌, ◌⊎◌, ◌&&◌, ◌||◌, ℕ, ap, Bool, true, false, not, cond, zero, suc, List, [], ◌∷◌, ◌++◌, length, fold, drop, Option, Some, None, is_some, refl, sym, subst, inl, inr, true≢false, codes, find}
use Rattle.std.specs.Prelude.{⊤, encode_utf8, slice_get, nat_lt, option_map, option_and_then}
use Rattle.std.specs.Option.{option_map_or}
use Rattle.std.specs.Str.{bytes_eq, chars}
use Rattle.clap.specs.Lexer.{long_of, short_of}
use Rattle.clap.specs.Facts.{explicit_source, unwrap_or_range}
use Rattle.std.specs.Prelude.{if◌then◌else◌, ◌==◌}
use Rattle.clap.specs.Kinds.{Kinds, or_else, check_kinds, range_kinds}
use Rattle.clap.specs.declared.error.kind.ErrorKind.TheVariants as kind
use Rattle.clap.specs.Takes.{is_given}
use Rattle.clap.specs.Walk.{Held, Outcome, done, waits, plain, refused, Row, Rule, Step, next, trailing, subcommand, value, Text, Waiting, idle, option, positional, Walk, walked, walked_from, walk_from, walk, action_of, after_flag, after_step, arg_by_id, arg_by_index, arg_by_long, arg_by_short, at_row, attached_value, bundle_met, bundle_step, default_rows, finished, first_of, flag_met, has_row, is_pending, long_met, long_or_other, more_values, most_values, nothing_held, option_met, option_word, plain_word, reacted, reading_by, settled, settled_rows, short_met, short_or_plain, subcommand_met, subcommand_or_other, takes_several, takes_values, to_positional, used, used_as, used_by_id, values_or_missing, with_default, with_values, without, word_met}
use Rattle.clap.specs.Simple.{Shape, rows_at}
use Rattle.clap.specs.Faults.{bundle_fault, bundle_step_fault, check_fault, defaults_fault, flag_word_fault, flags_fault, level_fault, long_fault, option_fault, other_fault, positional_fault, react_fault, settle_fault, short_fault, step_fault, stray_fault, turn_fault, use_fault, walk_fault, word_fault}
use Rattle.clap.specs.declared.parser.matches.ValueSource.{ValueSource}
use Rattle.clap.specs.declared.parser.matches.ValueSource.TheVariants.{CommandLine, DefaultValue}
use Rattle.clap.specs.declared.builder.action.ArgAction.TheVariants.{Set, Append, SetTrue, Help, Version}
use Rattle.std.proofs.lemmas.Slice.Eq.{bytes_eq-Decides}
use Rattle.clap.specs.Facts.{parser_of_value}
use Rattle.clap.specs.Faults.{action_fault, repeat_fault}
use Rattle.clap.specs.Kinds.{value_kinds, values_kinds}
use Rattle.clap.specs.Values.{IsUnsignedIn, read_as, reading_of, refused_kind}
use Rattle.clap.specs.ValueTests.{accepts}
use Rattle.clap.specs.Walk.{row_text}
use Rattle.clap.proofs.ValueTestLemmas.{accepts-Accepts}
use Rattle.clap.specs.declared.builder.value_parser.Reading.{Reading}
use Rattle.clap.specs.declared.builder.value_parser.ValueParser.TheVariants.{Unsigned}
use Rattle.std.specs.List.{list_any}
use Rattle.clap.specs.declared.builder.value_parser.Reading.TheVariants.{AsWritten}
use Rattle.lfi_command_line.specs.inner.Given.{IsNumberGiven}

-- ---- lists

abbrev pub IsCons : {X : Type 0} → List X → Type 0
IsCons [] = ⊥
IsCons (x ∷ xs) = ⊤

-- what holds of the value, where there is one
abbrev Holds : {X : Type 0} → (X → Type 0) → Option X → Type 0
Holds P None = ⊤
Holds P (Some x) = P x

abbrev pub Each : {X : Type 0} → (X → Type 0) → List X → Type 0
Each P [] = ⊤
Each P (x ∷ xs) = P x × Each P xs

holds_first : {X : Type 0} (P : X → Type 0) (p : X → Bool) (xs : List X) → Each P xs → Holds P (find p xs)
holds_first P p [] each = tt
holds_first P p (x ∷ xs) each = go (p x) (holds_first P p xs each.1)
  where
    go : (b : Bool) → Holds P (find p xs) → Holds P (cond b (Some x) (find p xs))
    go true later = each.0
    go false later = later

joined_each : {X : Type 0} (P : X → Type 0) (xs ys : List X) → Each P xs → Each P ys → Each P (xs ++ ys)
joined_each P [] ys first second = second
joined_each P (x ∷ xs) ys first second = (first.0, joined_each P xs ys first.1 second)

longer : {X : Type 0} (xs ys : List X) → IsCons xs → IsCons (xs ++ ys)
longer [] ys some = absurd some
longer (x ∷ xs) ys some = tt

pub not_none : {X : Type 0} (x : X) (xs : List X) → x ∷ xs ≡ [] → ⊥
not_none x xs e = subst IsCons e tt

pub both_none : (a b : Kinds) → or_else a b ≡ [] → (a ≡ []) × (b ≡ [])
both_none [] b e = (refl, e)
both_none (k ∷ ks) b e = absurd (not_none k ks e)

-- ---- the numbers that arguments take

-- the range of this argument's number, where it takes one
abbrev pub range_of : Text → Option (ℕ × ℕ)
range_of id = if bytes_eq id (codes "steps") then Some (0, 1000000000) else (if bytes_eq id (codes "verifiers") then Some (1, 8)
    else (if bytes_eq id (codes "connections") then Some (1, 8) else (if bytes_eq id (codes "seconds") then Some (1, 86400)
    else (if bytes_eq id (codes "module") then Some (0, 15) else (if bytes_eq id (codes "entry") then Some (0, 4194303)
    else (if bytes_eq id (codes "profile") then Some (1, 2) else None))))))

-- values, read so, suit such an argument
abbrev Suit : Option (ℕ × ℕ) → List Text → Reading → Type 0
Suit None values how = ⊤
Suit (Some range) values how = Each (IsUnsignedIn range.0 range.1) values × (how ≡ AsWritten)

-- the argument tests its numbers
abbrev Tests : Option (ℕ × ℕ) → Rule → Type 0
Tests None a = ⊤
Tests (Some range) a = a.parser ≡ Some (Unsigned range.0 range.1)

-- ---- rows with values

abbrev Full : Row → Type 0
Full r = IsCons r.values × Suit (range_of r.id) r.values r.reading

-- Each use of the argument has a value that suits, or is a fault, or makes no row.
abbrev pub Fine : Rule → Type 0
Fine a = ((action_of a ≡ Set) × (nat_lt 0 (unwrap_or_range a.range).start_inclusive ≡ true) × Tests (range_of a.id) a)
    ⊎ (((action_of a ≡ Append) × (nat_lt 0 (unwrap_or_range a.range).start_inclusive ≡ true) × Tests (range_of a.id) a)
    ⊎ (((action_of a ≡ SetTrue) × IsCons a.missing × (range_of a.id ≡ None))
    ⊎ ((action_of a ≡ Help) ⊎ (action_of a ≡ Version))))

-- the argument has no default, or one that needn't suit
abbrev pub Bare : Rule → Type 0
Bare a = (a.defaults ≡ []) ⊎ (range_of a.id ≡ None)

at_full : (id : Text) (change : Row → List Row) (missing rows : List Row) → ((r : Row) → r.id ≡ id → Full r → Each Full (change r)) → Each Full missing → Each Full rows
    → Each Full (at_row id change missing rows)
at_full id change missing [] changed added full = added
at_full id change missing (r ∷ rs) changed added full = go (bytes_eq r.id id) refl (at_full id change missing rs changed added full.1)
  where
    go : (b : Bool) → bytes_eq r.id id ≡ b → Each Full (at_row id change missing rs) → Each Full (cond b (change r ++ rs) (r ∷ at_row id change missing rs))
    go true same later = joined_each Full (change r) rs (changed r ((bytes_eq-Decides r.id id).0 same) full.0) full.1
    go false same later = (full.0, later)

without_full : (id : Text) (rows : List Row) → Each Full rows → Each Full (without id rows)
without_full id rows full = at_full id (λ _. []) [] rows (λ r same some. tt) tt full

both_suit : (range : Option (ℕ × ℕ)) (xs ys : List Text) (how other : Reading) → Suit range xs how → Suit range ys other → Suit range (xs ++ ys) how
both_suit None xs ys how other first second = tt
both_suit (Some range) xs ys how other first second = (joined_each (IsUnsignedIn range.0 range.1) xs ys first.0 second.0, first.1)

with_full : (id : Text) (how : Reading) (s : ValueSource) (values : List Text) (rows : List Row) → IsCons values → Suit (range_of id) values how → Each Full rows
    → Each Full (with_values id how s values rows)
with_full id how s values rows some suits full =
    at_full id (more_values s values) _ rows
    (λ r same has. ((longer r.values values has.0, both_suit (range_of r.id) r.values values r.reading how has.1 (subst (λ i. Suit (range_of i) values how) (sym same) suits)), tt))
    ((some, suits), tt) full

-- what a use of so many values is told, past the test for none
abbrev in_range : ℕ → ℕ → Kinds
in_range least most = if least == most then (if least == 0 then [] else kind.WrongNumberOfValues ∷ [])
    else (if nat_lt 0 least then kind.TooFewValues ∷ [] else (if nat_lt most 0 then kind.TooManyValues ∷ [] else []))

no_values : (least most : ℕ) → nat_lt 0 least ≡ true → range_kinds least most 0 ≡ [] → ⊥
no_values least most above none = go (nat_lt 0 least) above none
  where
    go : (b : Bool) → b ≡ true → cond (b && true) (kind.InvalidValue ∷ []) (in_range least most) ≡ [] → ⊥
    go true e h = not_none _ _ h
    go false e h = absurd (true≢false (sym e))

counted : (least most : ℕ) (b : Bool) (values : List Text) → values_kinds b (Unsigned least most) values ≡ [] → Each (IsUnsignedIn least most) values
counted least most b [] none = tt
counted least most b (v ∷ vs) none =
    let parts = both_none (value_kinds b (Unsigned least most) v) _ none in
    (one (accepts b (Unsigned least most) v) refl parts.0, counted least most b vs parts.1)
  where
    one : (passes : Bool) → accepts b (Unsigned least most) v ≡ passes → cond passes [] (refused_kind (Unsigned least most) ∷ []) ≡ [] → IsUnsignedIn least most v
    one true is e = accepts-Accepts b (Unsigned least most) v is
    one false is e = absurd (not_none _ _ e)

-- values that the argument's test lets through suit it
suit_by : (range : Option (ℕ × ℕ)) (a : Rule) (values : List Text) → Tests range a → values_kinds a.ignore_case (parser_of_value a.parser) values ≡ [] → Suit range values (reading_by a)
suit_by None a values tests passed = tt
suit_by (Some range) a values tests passed = (
  counted range.0 range.1 a.ignore_case values (subst (λ p. values_kinds a.ignore_case (parser_of_value p) values ≡ []) tests passed),
  ap (λ p. reading_of (parser_of_value p)) tests,
)

-- a use with values, none of which is a fault
abbrev UsedWell : Bool → Rule → List Text → List Row → Type 0
UsedWell again a values rows = use_fault again a values rows ≡ []

acted : (again : Bool) (a : Rule) (values : List Text) (rows : List Row) → UsedWell again a values rows → action_fault (action_of a) again a (values_or_missing a values) rows ≡ []
acted again a values rows none = (both_none (range_kinds (unwrap_or_range a.range).start_inclusive (most_values a) (length values)) _ none).1

set_full : (again : Bool) (a : Rule) (values : List Text) (rows : List Row) → action_of a ≡ Set → nat_lt 0 (unwrap_or_range a.range).start_inclusive ≡ true → Tests (range_of a.id) a
    → UsedWell again a values rows → Each Full rows → Each Full (used_as Set a.id (reading_by a) (values_or_missing a values) rows)
set_full again a [] rows set least tests none full = absurd (no_values _ (most_values a) least (both_none (range_kinds _ (most_values a) 0) _ none).0)
set_full again a (v ∷ vs) rows set least tests none full =
    let as_set = subst (λ x. action_fault x again a (v ∷ vs) rows ≡ []) set (acted again a (v ∷ vs) rows none) in
    let passed = (both_none (repeat_fault again a.id rows) _ as_set).1 in
    with_full a.id (reading_by a) CommandLine (v ∷ vs) (without a.id rows) tt (suit_by (range_of a.id) a (v ∷ vs) tests passed) (without_full a.id rows full)

append_full : (again : Bool) (a : Rule) (values : List Text) (rows : List Row) → action_of a ≡ Append → nat_lt 0 (unwrap_or_range a.range).start_inclusive ≡ true → Tests (range_of a.id) a
    → UsedWell again a values rows → Each Full rows → Each Full (used_as Append a.id (reading_by a) (values_or_missing a values) rows)
append_full again a [] rows append least tests none full = absurd (no_values _ (most_values a) least (both_none (range_kinds _ (most_values a) 0) _ none).0)
append_full again a (v ∷ vs) rows append least tests none full =
    let passed = subst (λ x. action_fault x again a (v ∷ vs) rows ≡ []) append (acted again a (v ∷ vs) rows none) in
    with_full a.id (reading_by a) CommandLine (v ∷ vs) rows tt (suit_by (range_of a.id) a (v ∷ vs) tests passed) full

flag_set_full : (a : Rule) (values : List Text) (rows : List Row) → IsCons a.missing → range_of a.id ≡ None → Each Full rows
    → Each Full (used_as SetTrue a.id (reading_by a) (values_or_missing a values) rows)
flag_set_full a values rows some free full = with_full a.id (reading_by a) CommandLine (values_or_missing a values) (without a.id rows) (has values)
    (subst (λ range. Suit range (values_or_missing a values) (reading_by a)) (sym free) tt) (without_full a.id rows full)
  where
    has : (values : List Text) → IsCons (values_or_missing a values)
    has [] = some
    has (v ∷ vs) = tt

used_full : (again : Bool) (a : Rule) (values : List Text) (rows : List Row) → Fine a → UsedWell again a values rows → Each Full rows → Each Full (used a values rows)
used_full again a values rows (inl set) none full =
    subst (λ x. Each Full (used_as x a.id (reading_by a) (values_or_missing a values) rows)) (sym set.0) (set_full again a values rows set.0 set.1 set.2 none full)
used_full again a values rows (inr (inl append)) none full =
    subst (λ x. Each Full (used_as x a.id (reading_by a) (values_or_missing a values) rows)) (sym append.0) (append_full again a values rows append.0 append.1 append.2 none full)
used_full again a values rows (inr (inr (inl flag))) none full =
    subst (λ x. Each Full (used_as x a.id (reading_by a) (values_or_missing a values) rows)) (sym flag.0) (flag_set_full a values rows flag.1 flag.2 full)
used_full again a values rows (inr (inr (inr (inl help)))) none full = subst (λ x. Each Full (used_as x a.id (reading_by a) (values_or_missing a values) rows)) (sym help) full
used_full again a values rows (inr (inr (inr (inr version)))) none full = subst (λ x. Each Full (used_as x a.id (reading_by a) (values_or_missing a values) rows)) (sym version) full

-- ---- the walk over the words

module _ (c : List Rule) (again : Bool) (fine : Each Fine c) where
  use_of : (found : Option Rule) → Holds Fine found → (values : List Text) (rows : List Row) → option_map_or (λ a. use_fault again a values rows) found [] ≡ []
      → Each Full rows → Each Full (used_by_id found values rows)
  use_of None is values rows none full = full
  use_of (Some a) is values rows none full = used_full again a values rows is none full

  settled_full : (h : Held) → settle_fault c again h ≡ [] → Each Full h.rows → Each Full (settled c h).rows
  settled_full h none full = go h.pending none
    where
      go : (pending : Option (Text × List Text)) → option_map_or (λ p. option_map_or (λ a. use_fault again a p.1 h.rows) (arg_by_id c p.0) []) pending [] ≡ []
          → Each Full (settled_rows c pending h.rows)
      go None e = full
      go (Some p) e = use_of (arg_by_id c p.0) (holds_first Fine _ c fine) p.1 h.rows e full

  reacted_full : (a : Rule) (values : List Text) (h : Held) → Fine a → react_fault c again a values h ≡ [] → Each Full h.rows → Each Full (reacted c a values h).rows
  reacted_full a values h is none full =
      let parts = both_none (settle_fault c again h) _ none in
      used_full again a values (settled c h).rows is parts.1 (settled_full h parts.0 full)

  option_full : (a : Rule) (v : Option Text) (h : Held) → Fine a → option_fault c again a v h ≡ [] → Each Full h.rows → Each Full (option_met c a v h).0.rows
  option_full a (Some v) h is none full = reacted_full a (v ∷ []) h is none full
  option_full a None h is none full = settled_full h none full

  flag_full : (a : Rule) (v : Option Text) (h : Held) → Fine a → cond (is_some v) (kind.TooManyValues ∷ []) (react_fault c again a [] h) ≡ [] → Each Full h.rows
      → Each Full (flag_met c a v h).0.rows
  flag_full a (Some v) h is none full = absurd (not_none _ _ none)
  flag_full a None h is none full = reacted_full a [] h is none full

  long_full : (found : Option Rule) (v : Option Text) (h : Held) → Holds Fine found → long_fault c again found v h ≡ [] → Each Full h.rows → Each Full (long_met c found v h).0.rows
  long_full None v h is none full = absurd (not_none _ _ none)
  long_full (Some a) v h is none full = go (takes_values a) none
    where
      go : (b : Bool) → cond b (option_fault c again a v h) (cond (is_some v) (kind.TooManyValues ∷ []) (react_fault c again a [] h)) ≡ []
          → Each Full (cond b (option_met c a v h) (flag_met c a v h)).0.rows
      go true e = option_full a v h is e full
      go false e = flag_full a v h is e full

  short_full : (found : Option Rule) (rest : Text) (h : Held) (next_fault : Held → Kinds) (next_met : Held → Held × Outcome) → Holds Fine found
      → ((after : Held) → next_fault after ≡ [] → Each Full after.rows → Each Full (next_met after).0.rows)
      → short_fault c again found rest h next_fault ≡ [] → Each Full h.rows → Each Full (short_met c found rest h next_met).0.rows
  short_full None rest h next_fault next_met is follows none full = absurd (not_none _ _ none)
  short_full (Some a) rest h next_fault next_met is follows none full = go (takes_values a) none
    where
      go : (b : Bool) → cond b (option_fault c again a (attached_value rest) h) (or_else (react_fault c again a [] h) (next_fault (reacted c a [] h))) ≡ []
          → Each Full (cond b (option_met c a (attached_value rest) h) (next_met (reacted c a [] h))).0.rows
      go true e = option_full a (attached_value rest) h is e full
      go false e =
          let parts = both_none (react_fault c again a [] h) _ e in
          follows (reacted c a [] h) parts.1 (reacted_full a [] h is parts.0 full)

  flags_full : (k : ℕ) (flags : Text) (skip : ℕ) (so_far : Outcome) (h : Held) → flags_fault c again k flags skip h ≡ [] → Each Full h.rows
      → Each Full (bundle_met c k flags skip so_far h).0.rows
  unfolding flags_fault bundle_met
  flags_full zero flags skip so_far h none full = full
  flags_full (suc k) flags skip so_far h none full = go (slice_get (chars flags) 0) skip none (flags_full k)
    where
      go : (first : Option ℕ) (skip : ℕ) → bundle_step_fault c again first flags skip h (flags_fault c again k) ≡ []
          → ((flags : Text) (skip : ℕ) (so_far : Outcome) (h : Held) → flags_fault c again k flags skip h ≡ [] → Each Full h.rows → Each Full (bundle_met c k flags skip so_far h).0.rows)
          → Each Full (bundle_step c first flags skip so_far h (bundle_met c k)).0.rows
      go None skip e later = full
      go (Some x) zero e later =
          let rest = drop (length (encode_utf8 x)) flags in
          short_full (arg_by_short c x) rest h (flags_fault c again k rest 0) (bundle_met c k rest 0 done) (holds_first Fine _ c fine)
          (λ after passed more. later rest 0 done after passed more) e full
      go (Some x) (suc skip) e later = later (drop (length (encode_utf8 x)) flags) skip so_far h e full

  option_word_full : (found : Option Rule) (id word : Text) (h : Held) → Each Full h.rows → Each Full (option_word found id word h).0.rows
  option_word_full None id word h full = full
  option_word_full (Some a) id word h full = full

  plain_full : (waiting : Waiting) (word : Text) (h : Held) → Each Full h.rows → Each Full (plain_word c waiting word h).0.rows
  plain_full (option id) word h full = option_word_full (arg_by_id c id) id word h full
  plain_full idle word h full = full
  plain_full positional word h full = full

  flagged_full : (waiting : Waiting) (word : Text) (h : Held) (outcome : Outcome) → Each Full h.rows → Each Full (after_flag c waiting word h outcome).0.rows
  flagged_full waiting word h done full = full
  flagged_full waiting word h (waits id) full = full
  flagged_full waiting word h plain full = plain_full waiting word h full
  flagged_full waiting word h refused full = plain_full waiting word h full

  bundled_full : (waiting : Waiting) (word : Text) (flags : Option Text) (h : Held) → option_map_or (λ f. bundle_fault c again f h) flags [] ≡ [] → Each Full h.rows
      → Each Full (short_or_plain c waiting word flags h).0.rows
  bundled_full waiting word None h none full = plain_full waiting word h full
  bundled_full waiting word (Some flags) h none full =
      flagged_full waiting word _ (bundle_met c (length flags) flags h.skip plain (record h { skip = 0 })).1
      (flags_full (length flags) flags h.skip plain (record h { skip = 0 }) none full)

  other_full : (waiting : Waiting) (word : Text) (long : Option (Text × Option Text)) (h : Held) → flag_word_fault c again long word h ≡ [] → Each Full h.rows
      → Each Full (long_or_other c waiting word long h).0.rows
  other_full waiting word (Some p) h none full = flagged_full waiting word _ (long_met c (arg_by_long c p.0) p.1 h).1 (long_full (arg_by_long c p.0) p.1 h (holds_first Fine _ c fine) none full)
  other_full waiting word None h none full = bundled_full waiting word (short_of word) h none full

-- one word, and all words, at a command that has no subcommands
module _ (s : Shape) (fine : Each Fine s.rules) where
  met_full : (waiting : Waiting) (is_trailing : Bool) (place : ℕ) (word : Text) (h : Held) → word_fault s [] is_trailing waiting word h ≡ [] → Each Full h.rows
      → Each Full (word_met s.rules [] is_trailing waiting place word h).0.rows
  met_full waiting true place word h none full = full
  met_full waiting false place word h none full = named (subcommand_met [] waiting word) none
    where
      plainly : (b : Bool) → cond b [] (flag_word_fault s.rules s.args_override_self (long_of word) word h) ≡ []
          → Each Full (cond b (h, trailing place) (long_or_other s.rules waiting word (long_of word) h)).0.rows
      plainly true e = full
      plainly false e = other_full s.rules s.args_override_self fine waiting word (long_of word) h e full

      named : (o : Option Text) → other_fault s o word h ≡ [] → Each Full (subcommand_or_other s.rules o waiting place word h).0.rows
      named (Some name) e = full
      named None e = plainly (bytes_eq word (45 ∷ 45 ∷ [])) e

  value_full : (found : Option Rule) (word : Text) (w : Walk) (h : Held) → option_map_or (λ a. positional_fault s.rules s.args_override_self a h) found (stray_fault s) ≡ []
      → Each Full h.rows → Each Full (to_positional s.rules found word w h).held.rows
  value_full None word w h none full = full
  value_full (Some a) word w h none full = go (is_pending a h.pending && takes_several a) none
    where
      go : (b : Bool) → cond b [] (settle_fault s.rules s.args_override_self h) ≡ [] → Each Full (cond b h (settled s.rules h)).rows
      go true e = full
      go false e = settled_full s.rules s.args_override_self fine h e full

  step_full : (w : Walk) (word : Text) (h : Held) (step : Step) → step_fault s w.position h step ≡ [] → Each Full h.rows → Each Full (after_step s.rules word w h step).held.rows
  step_full w word h (next waiting) none full = full
  step_full w word h (trailing place) none full = full
  step_full w word h (subcommand name) none full = full
  step_full w word h value none full = value_full (arg_by_index s.rules w.position) word w h none full

  turn_full : (w : Walk) (word : Text) → turn_fault s [] w word ≡ [] → Each Full w.held.rows → Each Full (walked s.rules [] w word).held.rows
  unfolding walked
  turn_full w word none full = go w.stopped none
    where
      go : (stopped : Option (Text × List Text)) → cond (is_some stopped) [] (or_else (word_fault s [] w.is_trailing w.waiting word w.held) (step_fault s w.position (word_met s.rules [] w.is_trailing w.waiting w.position word w.held).0 (word_met s.rules [] w.is_trailing w.waiting w.position word w.held).1)) ≡ []
          → Each Full (walked_from s.rules [] stopped w word).held.rows
      go (Some p) e = full
      go None e =
          let parts = both_none (word_fault s [] w.is_trailing w.waiting word w.held) _ e in
          step_full w word _ (word_met s.rules [] w.is_trailing w.waiting w.position word w.held).1 parts.1
          (met_full w.waiting w.is_trailing w.position word w.held parts.0 full)

  walk_full : (w : Walk) (words : List Text) → walk_fault s [] w words ≡ [] → Each Full w.held.rows → Each Full (fold (walked s.rules []) w words).held.rows
  unfolding walk_fault
  walk_full w [] none full = full
  walk_full w (word ∷ rest) none full =
      let parts = both_none (turn_fault s [] w word) _ none in
      walk_full (walked s.rules [] w word) rest parts.1 (turn_full w word parts.0 full)

default_full : (rows : List Row) (a : Rule) → Bare a → Each Full rows → Each Full (with_default rows a)
default_full rows a bare full = go (has_row a.id rows) (defaulted a.defaults bare)
  where
    defaulted : (values : List Text) → (values ≡ []) ⊎ (range_of a.id ≡ None) → Each Full (default_rows a.id (reading_by a) values rows)
    defaulted [] bare = full
    defaulted (v ∷ vs) (inl none) = absurd (not_none _ _ none)
    defaulted (v ∷ vs) (inr free) =
        with_full a.id (reading_by a) DefaultValue (v ∷ vs) rows tt (subst (λ range. Suit range (v ∷ vs) (reading_by a)) (sym free) tt) full

    go : (b : Bool) → Each Full (default_rows a.id (reading_by a) a.defaults rows) → Each Full (cond b rows (default_rows a.id (reading_by a) a.defaults rows))
    go true made = full
    go false made = made

defaults_full : (rows : List Row) (c : List Rule) → Each Bare c → Each Full rows → Each Full (fold with_default rows c)
defaults_full rows [] bare full = full
defaults_full rows (a ∷ rest) bare full = defaults_full (with_default rows a) rest bare.1 (default_full rows a bare.0 full)

-- ---- what a level gives

first_given : (id : Text) (rows : List Row) → Each Full rows → is_given id rows ≡ true → is_some (first_of id rows) ≡ true
first_given id rows full given = go (find (λ r. bytes_eq r.id id) rows) (holds_first Full _ rows full) given
  where
    valued : (values : List Text) → IsCons values → is_some (slice_get values 0) ≡ true
    valued [] some = absurd some
    valued (v ∷ vs) some = refl

    go : (o : Option Row) → Holds Full o → option_map_or (λ r. explicit_source r.source) o false ≡ true → is_some (option_and_then (λ r. slice_get r.values 0) o) ≡ true
    go None is e = absurd (true≢false (sym e))
    go (Some r) is e = valued r.values is.0

found_passes : {X : Type 0} (p : X → Bool) (xs : List X) → Holds (λ x. p x ≡ true) (find p xs)
found_passes p [] = tt
found_passes p (x ∷ xs) = go (p x) refl (found_passes p xs)
  where
    go : (b : Bool) → p x ≡ b → Holds (λ x. p x ≡ true) (find p xs) → Holds (λ x. p x ≡ true) (cond b (Some x) (find p xs))
    go true is later = is
    go false is later = later

-- the number that is given to this argument is read as it was given
number_given : (least most : ℕ) (id : Text) (rows : List Row) → range_of id ≡ Some (least, most) → Each Full rows → IsNumberGiven least most id rows
number_given least most id rows range full = λ text first. go text (find (λ r. bytes_eq r.id id) rows) (holds_first Full _ rows full) (found_passes (λ r. bytes_eq r.id id) rows) first
  where
    same_text : (text v : Text) → Some v ≡ Some text → v ≡ text
    same_text text v e = cc

    valued : (text : Text) (how : Reading) (values : List Text) → Suit (Some (least, most)) values how → slice_get values 0 ≡ Some text
        → (option_map (read_as how) (slice_get values 0) ≡ Some text) × IsUnsignedIn least most text
    valued text how [] suits e = cc
    valued text how (v ∷ vs) suits e =
        let same = same_text text v e in
        (ap (λ h. Some (read_as h v)) suits.1 ∙ ap Some same, subst (IsUnsignedIn least most) same suits.0.0)

    go : (text : Text) (o : Option Row) → Holds Full o → Holds (λ r. bytes_eq r.id id ≡ true) o → option_and_then (λ r. slice_get r.values 0) o ≡ Some text
        → (option_and_then row_text o ≡ Some text) × IsUnsignedIn least most text
    go text None is same e = cc
    go text (Some r) is same e =
        valued text r.reading r.values (subst (λ o. Suit o r.values r.reading) (ap range_of ((bytes_eq-Decides r.id id).0 same) ∙ range) is.1) e

-- the same, by the range that the argument has
abbrev pub IsNumbered : Option (ℕ × ℕ) → Text → List Row → Type 0
IsNumbered None id rows = ⊤
IsNumbered (Some range) id rows = IsNumberGiven range.0 range.1 id rows

-- what is given to this argument: something where it has to be, and a number where it takes one
abbrev pub Gives : List Row → Rule → Type 0
Gives rows a = (a.required ≡ true → is_some (first_of a.id rows) ≡ true) × IsNumbered (range_of a.id) a.id rows

no_missing : (wants_help wants_subcommand wants_argument : Bool) → check_kinds wants_help wants_subcommand wants_argument ≡ [] → wants_argument ≡ false
no_missing true s a e = absurd (not_none _ _ e)
no_missing false true a e = absurd (not_none _ _ e)
no_missing false false true e = absurd (not_none _ _ e)
no_missing false false false e = refl

none_missing : (negates missing : Bool) → (not (negates && false) && missing) ≡ false → missing ≡ false
none_missing true missing e = e
none_missing false missing e = e

one_gives : (rows : List Row) (a : Rule) → Each Full rows → (a.required && not (is_given a.id rows)) ≡ false → Gives rows a
one_gives rows a full none = (λ required. first_given a.id rows full (given a.required (is_given a.id rows) required none), numbered (range_of a.id) refl)
  where
    given : (required is : Bool) → required ≡ true → (required && not is) ≡ false → is ≡ true
    given true true r e = refl
    given true false r e = absurd (true≢false e)
    given false is r e = absurd (true≢false (sym r))

    numbered : (range : Option (ℕ × ℕ)) → range_of a.id ≡ range → IsNumbered range a.id rows
    numbered None is = tt
    numbered (Some range) is = number_given range.0 range.1 a.id rows is full

all_give : (rows : List Row) (rules : List Rule) → Each Full rows → list_any (λ a. a.required && not (is_given a.id rows)) rules ≡ false → Each (Gives rows) rules
all_give rows [] full none = tt
all_give rows (a ∷ rest) full none =
    let parts = neither (a.required && not (is_given a.id rows)) _ none in
    (one_gives rows a full parts.0, all_give rows rest full parts.1)
  where
    neither : (x y : Bool) → (x || y) ≡ false → (x ≡ false) × (y ≡ false)
    neither true y e = absurd (true≢false e)
    neither false y e = (refl, e)

-- where a level has no fault, all of its arguments are given what they need
pub level_gives : (s : Shape) (words : List Text) → Each Fine s.rules → Each Bare s.rules → level_fault s [] nothing_held words false [] ≡ [] → Each (Gives (rows_at s words).1) s.rules
level_gives s words fine bare none =
    let end = (walk s.rules [] nothing_held words).held in
    let walk_then = both_none (walk_fault s [] (walk_from nothing_held) words) _ none in
    let settle_then = both_none (settle_fault s.rules s.args_override_self end) _ walk_then.1 in
    let check_then = both_none (defaults_fault (settled s.rules end).rows s.rules) (check_fault s (finished s.rules end) false) settle_then.1 in
    let full = walk_full s fine (walk_from nothing_held) words walk_then.0 tt in
    let settled_all = settled_full s.rules s.args_override_self fine end settle_then.0 full in
    let rows = (rows_at s words).1 in
    all_give rows s.rules (defaults_full (settled s.rules end).rows s.rules bare settled_all) (none_missing s.subcommand_negates_reqs _ (no_missing _ _ _ check_then.1))
