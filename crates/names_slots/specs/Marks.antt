-- Marks of hashes in words of 16 bits: a mark sets some bits, and a hash that lacks one of its own was never marked.
use Rattle.std.specs.Prelude.{ℕ, zero, suc, ◌+◌, ◌*◌, ◌/◌, ◌%◌, ◌^◌, List, Bool, true, ◌&&◌, eqb, length, get_or, set}
use Rattle.std.specs.Int.Bits.{bit_and, bit_or}

-- how many bits a mark sets
abbrev pub bits : ℕ
bits = 10

-- where bit i of a mark stands: the steps between them differ, so that marks that share some bits share few
unfoldable pub spot_of : ℕ → ℕ → ℕ
spot_of h i = h % 4_294_967_296 + i * (h / 4_294_967_296 * 2 + 1 + i * i)

-- the word of a place, among n, and its bit there
unfoldable pub word_of : ℕ → ℕ → ℕ
word_of p n = p / 16 % n

unfoldable pub bit_of : ℕ → ℕ
bit_of p = 2 ^ (p % 16)

unfoldable pub has_bit : List ℕ → ℕ → Bool
has_bit xs p = eqb (bit_and (get_or xs (word_of p (length xs)) 0) (bit_of p)) (bit_of p)

unfoldable pub with_bit : List ℕ → ℕ → List ℕ
with_bit xs p = set xs (word_of p (length xs)) (bit_or (get_or xs (word_of p (length xs)) 0) (bit_of p))

-- f bits of a mark, from number i on
unfoldable pub has_bits : ℕ → List ℕ → ℕ → ℕ → Bool
has_bits zero xs h i = true
has_bits (suc f) xs h i = has_bit xs (spot_of h i) && has_bits f xs h (i + 1)

unfoldable pub with_bits : ℕ → List ℕ → ℕ → ℕ → List ℕ
with_bits zero xs h i = xs
with_bits (suc f) xs h i = with_bits f (with_bit xs (spot_of h i)) h (i + 1)

-- a hash may have been marked
unfoldable pub may_hold : List ℕ → ℕ → Bool
may_hold xs h = has_bits bits xs h 0

unfoldable pub marked : List ℕ → ℕ → List ℕ
marked xs h = with_bits bits xs h 0
