-- Words that the profile leaves out, recognized by their bits. Source: the Arm manual, C4.1, "Data Processing -- Immediate" (Extract),
-- "Data Processing -- Register" (1 source, 3 source, Add/subtract with carry), "Loads and Stores" (pairs, unprivileged, no-allocate, PRFM).
use Rattle.std.specs.Prelude.{ℕ, ◌==◌, ◌||◌, Bool, if◌then◌else◌, Option, Some, None, bit_and, bit_or}
use Rattle.lfi_mends.specs.declared.outside.Outside.{Outside}
use Rattle.lfi_mends.specs.declared.outside.Outside.TheVariants as outsides

-- the fixed bits of a row, given by a mask, are in a word
abbrev pub matches : (mask bits word : ℕ) → Bool
matches mask bits word = bit_and word mask == bits

-- PRFM at an unsigned offset, at a signed one, at an index, and of a literal
abbrev pub is_prefetch : ℕ → Bool
is_prefetch word = matches 0xFFC00000 0xF9800000 word || matches 0xFFE00C00 0xF8800000 word || matches 0xFFE04C00 0xF8A04800 word || matches 0xFF000000 0xD8000000 word

-- the table, from its ninth row on
abbrev pub other_outside_of : ℕ → Option Outside
other_outside_of word =
    if matches 0x1FE0FC00 0x1A000000 word then Some outsides.Carry
    else (if matches 0xFE400000 0x68400000 word then Some outsides.SignedPair
    else (if matches 0x3F200C00 0x38000800 word then Some outsides.Unprivileged
    else (if matches 0x7F800000 0x28000000 word then Some outsides.NonTemporal
    else (if is_prefetch word then Some outsides.Prefetch else None))))

-- the table: which instruction a word spells of those that a mend is known of
abbrev pub outside_of : ℕ → Option Outside
outside_of word =
    if matches 0xFFE08000 0x13800000 word || matches 0xFFE00000 0x93C00000 word then Some outsides.Extract
    else (if matches 0x7FFFFC00 0x5AC00000 word then Some outsides.ReverseBits
    else (if matches 0x7FFFFC00 0x5AC00400 word then Some outsides.ReverseInHalves
    else (if matches 0x7FFFFC00 0x5AC00800 word then Some outsides.ReverseInWords
    else (if matches 0xFFFFFC00 0xDAC00C00 word then Some outsides.ReverseAll
    else (if matches 0xFFE00000 0x9B200000 word then Some outsides.SignedProduct
    else (if matches 0xFFE00000 0x9BA00000 word then Some outsides.UnsignedProduct else other_outside_of word))))))

-- The word of the profile's instruction that has the same operands in the same fields: ORR, CLZ, MADD, ADD, LDP of W, LDUR, LDP; and NOP for PRFM.
abbrev pub likened : Outside → ℕ → ℕ
likened outsides.Extract word = bit_or (bit_and word 0x801FFFFF) 0x2A000000
likened outsides.ReverseBits word = bit_or (bit_and word 0x800003FF) 0x5AC01000
likened outsides.ReverseInHalves word = bit_or (bit_and word 0x800003FF) 0x5AC01000
likened outsides.ReverseInWords word = bit_or (bit_and word 0x800003FF) 0x5AC01000
likened outsides.ReverseAll word = bit_or (bit_and word 0x800003FF) 0x5AC01000
likened outsides.SignedProduct word = bit_and word 0xFF1FFFFF
likened outsides.UnsignedProduct word = bit_and word 0xFF1FFFFF
likened outsides.Carry word = bit_or (bit_and word 0xE01FFFFF) 0x0B000000
likened outsides.SignedPair word = bit_and word 0x3FFFFFFF
likened outsides.Unprivileged word = bit_and word 0xFFFFF3FF
likened outsides.NonTemporal word = bit_or word 0x01000000
likened outsides.Prefetch word = 0xD503201F
