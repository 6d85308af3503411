-- Where the parser finds no fault in the words, they name a subcommand, and give it what it needs.
use Rattle.std.proofs.Common.{◌≡◌, Bool, true, false, cond, List, [], ◌∷◌, drop, Option, Some, None, is_some, refl, sym, inl, inr, true≢false, find}
use Rattle.std.specs.Prelude.{option_map}
use Rattle.std.specs.Option.{option_map_or}
use Rattle.std.specs.Str.{bytes_eq}
use Rattle.clap.specs.Walk.{Row, Text, answers_to, finished, nothing_held, settled, walk, walk_from}
use Rattle.clap.specs.Simple.{App, Shape, argument_words, names_of, built, entered, label_of, rows_at, subcommand_of}
use Rattle.clap.specs.Faults.{check_fault, defaults_fault, entered_fault, fault_of, level_fault, settle_fault, walk_fault}
use Rattle.lfi_command_line.specs.Apps.{lfiload_app}
use Rattle.lfi_command_line.proofs.Walked.{Each, Gives, both_none, level_gives, not_none}

abbrev whole : App
whole = built lfiload_app

abbrev head_or : Shape → List Shape → Shape
head_or s [] = s
head_or s (x ∷ xs) = x

abbrev check_shape : Shape
check_shape = head_or whole.top whole.subs

abbrev load_shape : Shape
load_shape = head_or whole.top (drop 1 whole.subs)

abbrev serve_shape : Shape
serve_shape = head_or whole.top (drop 2 whole.subs)

abbrev run_shape : Shape
run_shape = head_or whole.top (drop 3 whole.subs)

abbrev disassemble_shape : Shape
disassemble_shape = head_or whole.top (drop 4 whole.subs)

abbrev pack_shape : Shape
pack_shape = head_or whole.top (drop 5 whole.subs)

abbrev unpack_shape : Shape
unpack_shape = head_or whole.top (drop 6 whole.subs)

abbrev info_shape : Shape
info_shape = head_or whole.top (drop 7 whole.subs)

-- the subcommand of this name
abbrev pub shape_named : Text → Option Shape
shape_named name = find (λ s. bytes_eq s.name name) whole.subs

abbrev pub AllGive : Option Shape → List Row → Type 0
AllGive None rows = ⊥
AllGive (Some s) rows = Each (Gives rows) s.rules

-- the words name a subcommand, and give it what it needs
abbrev pub Asks : Option (Text × List Row) → Type 0
Asks None = ⊥
Asks (Some p) = AllGive (shape_named p.0) p.1

-- by which name it is
abbrev pub picked : (check load serve run' disassemble pack unpack info : Bool) → Option Shape
picked check load serve run' disassemble pack unpack info =
    cond check (Some check_shape) (cond load (Some load_shape) (cond serve (Some serve_shape)
    (cond run' (Some run_shape) (cond disassemble (Some disassemble_shape) (cond pack (Some pack_shape) (cond unpack (Some unpack_shape) (cond info (Some info_shape) None)))))))

subcommand_asks : (stop : Option (Text × List Text)) → is_some (entered whole stop) ≡ true → entered_fault whole stop ≡ [] → Asks (entered whole stop)
subcommand_asks None some none = absurd (true≢false (sym some))
subcommand_asks (Some p) some none =
    go (answers_to p.0 (label_of check_shape)) (answers_to p.0 (label_of load_shape)) (answers_to p.0 (label_of serve_shape))
    (answers_to p.0 (label_of run_shape)) (answers_to p.0 (label_of disassemble_shape)) (answers_to p.0 (label_of pack_shape)) (answers_to p.0 (label_of unpack_shape))
    (answers_to p.0 (label_of info_shape)) some none
  where
    go : (a b c d f g h j : Bool) → is_some (option_map (λ s. rows_at s p.1) (picked a b c d f g h j)) ≡ true
        → option_map_or (λ s. level_fault s [] nothing_held p.1 false []) (picked a b c d f g h j) [] ≡ [] → Asks (option_map (λ s. rows_at s p.1) (picked a b c d f g h j))
    go true b c d f g h j has e =
        level_gives check_shape p.1
        (inr (inr (inl (refl, tt, refl))), (inr (inr (inl (refl, tt, refl))), (inl (refl, refl, refl), (inr (inl (refl, refl, tt)), (inl (refl, refl, tt), (inr (inr (inr (inl refl))), tt))))))
        (inr refl, (inr refl, (inl refl, (inl refl, (inl refl, (inl refl, tt)))))) e
    go false true c d f g h j has e =
        level_gives load_shape p.1
        (inl (refl, refl, refl), (inl (refl, refl, tt), (inr (inl (refl, refl, tt)), (inr (inr (inl (refl, tt, refl))), (inl (refl, refl, tt), (inr (inr (inr (inl refl))), tt))))))
        (inl refl, (inl refl, (inl refl, (inr refl, (inl refl, (inl refl, tt)))))) e
    go false false true d f g h j has e =
        level_gives serve_shape p.1
        (inl (refl, refl, tt), (inl (refl, refl, refl), (inl (refl, refl, refl), (inl (refl, refl, refl), (inl (refl, refl, tt), (inr (inr (inl (refl, tt, refl))), (inl (refl, refl, tt), (inr (inr (inr (inl refl))), tt))))))))
        (inl refl, (inl refl, (inl refl, (inl refl, (inl refl, (inr refl, (inl refl, (inl refl, tt)))))))) e
    go false false false true f g h j has e =
        level_gives run_shape p.1
        (inl (refl, refl, refl), (inl (refl, refl, tt), (inl (refl, refl, tt), (inr (inr (inr (inl refl))), tt))))
        (inl refl, (inl refl, (inl refl, (inl refl, tt)))) e
    go false false false false true g h j has e =
        level_gives disassemble_shape p.1
        (inr (inr (inl (refl, tt, refl))), (inl (refl, refl, refl), (inl (refl, refl, tt), (inr (inr (inr (inl refl))), tt))))
        (inr refl, (inl refl, (inl refl, (inl refl, tt)))) e
    go false false false false false true h j has e =
        level_gives pack_shape p.1
        (inl (refl, refl, refl), (inl (refl, refl, refl), (inl (refl, refl, refl), (inl (refl, refl, tt), (inr (inl (refl, refl, tt)), (inr (inr (inr (inl refl))), tt))))))
        (inl refl, (inl refl, (inl refl, (inl refl, (inl refl, (inl refl, tt)))))) e
    go false false false false false false true j has e = level_gives unpack_shape p.1 (inl (refl, refl, tt), (inr (inr (inr (inl refl))), tt)) (inl refl, (inl refl, tt)) e
    go false false false false false false false true has e = level_gives info_shape p.1 (inr (inl (refl, refl, tt)), (inr (inr (inr (inl refl))), tt)) (inl refl, (inl refl, tt)) e
    go false false false false false false false false has e = absurd (true≢false (sym has))

needed : (has : Bool) (rows : List Row) → check_fault whole.top rows has ≡ [] → has ≡ true
needed true rows e = refl
needed false rows e = absurd (not_none _ _ e)

pub asks : (words : List Text) → fault_of lfiload_app words ≡ [] → Asks (subcommand_of lfiload_app words)
asks words none =
    let after = argument_words lfiload_app words in
    let names = names_of whole in
    let stop = (walk whole.top.rules names nothing_held after).stopped in
    let end = (walk whole.top.rules names nothing_held after).held in
    let has = is_some (entered whole stop) in
    let walk_then = both_none (walk_fault whole.top names (walk_from nothing_held) after) _ none in
    let below_then = both_none (entered_fault whole stop) _ walk_then.1 in
    let settle_then = both_none (settle_fault whole.top.rules whole.top.args_override_self end) _ below_then.1 in
    let check_then = both_none (defaults_fault (settled whole.top.rules end).rows whole.top.rules) (check_fault whole.top (finished whole.top.rules end) has) settle_then.1 in
    subcommand_asks stop (needed has (finished whole.top.rules end) check_then.1) below_then.0
