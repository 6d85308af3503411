-- The group of A64 words that a word belongs to. Source: Arm manual, C4.1 "A64 instruction set encoding", and its tables of branches, exception
-- generating and system instructions and of loads and stores.
use Rattle.std.specs.Prelude.{ℕ, ◌/◌, ◌%◌, ◌^◌, ◌==◌, ◌&&◌, List, codes, if◌then◌else◌}
use Rattle.lfi_explain.specs.declared.group.Group.{Group}
use Rattle.lfi_explain.specs.declared.group.Group.TheVariants.{Reserved, Unallocated, Sme, Sve, Immediate, Exception, System, Branch, Exclusive, Atomic, LoadStore, VectorAccess, Register, Vector}

-- `width` bits of a word, the lowest of them with this number
abbrev pub bits_of : (word low width : ℕ) → ℕ
bits_of word low width = word / 2 ^ low % 2 ^ width

-- of branches, exception generating and system instructions: bits 31 to 24 are 11010100, or 11010101, or others
abbrev pub branch_group : (word : ℕ) → Group
branch_group word = if bits_of word 24 8 == 212 then Exception else (if bits_of word 24 8 == 213 then System else Branch)

-- of loads and stores of general registers: bits 29 to 24 are 001000, or 111000 with bit 21 set and 00 in bits 11 and 10, or others
abbrev pub access_group : (word : ℕ) → Group
access_group word =
    if bits_of word 24 6 == 8 then Exclusive
    else (if bits_of word 24 6 == 56 && bits_of word 21 1 == 1 && bits_of word 10 2 == 0 then Atomic else LoadStore)

-- words whose bits 28 to 25 are 0000: by bit 31
abbrev pub first_group : (word : ℕ) → Group
first_group word = if bits_of word 31 1 == 0 then Reserved else Sme

-- by bits 28 to 25: x111, x101, x110 and x100 (loads and stores, by bit 26), 100x, 101x, 0010, 0000; the others are unallocated
abbrev pub group_of : (word : ℕ) → Group
group_of word =
    if bits_of word 25 3 == 7 then Vector
    else (if bits_of word 25 3 == 5 then Register
    else (if bits_of word 25 3 == 6 then VectorAccess
    else (if bits_of word 25 3 == 4 then access_group word
    else (if bits_of word 26 3 == 4 then Immediate
    else (if bits_of word 26 3 == 5 then branch_group word
    else (if bits_of word 25 4 == 2 then Sve
    else (if bits_of word 25 4 == 0 then first_group word else Unallocated)))))))

-- in words
abbrev pub group_text : Group → List ℕ
group_text Reserved = codes "reserved words"
group_text Unallocated = codes "unallocated words"
group_text Sme = codes "SME"
group_text Sve = codes "SVE"
group_text Immediate = codes "data processing with an immediate"
group_text Exception = codes "exception generation"
group_text System = codes "system instructions, barriers and hints"
group_text Branch = codes "branches"
group_text Exclusive = codes "exclusive and ordered accesses, compare and swap"
group_text Atomic = codes "atomic memory operations"
group_text LoadStore = codes "loads and stores"
group_text VectorAccess = codes "loads and stores of floating point and SIMD registers"
group_text Register = codes "data processing with registers"
group_text Vector = codes "floating point and SIMD"
