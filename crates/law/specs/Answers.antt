-- "Every operation returns number, line, count. A file is at most 16,777,216 bytes": what is answered, and what is left in a slice.
use Rattle.std.specs.Prelude.{ℕ, List, ◌++◌, ℤ, length, drop}
use Rattle.law.specs.declared.Reply.{Reply}
use Rattle.law.specs.declared.Verdict.{Verdict}

-- the largest file, in bytes
abbrev pub limit : ℕ
limit = 16_777_216

abbrev pub reply : ℕ → ℕ → ℕ → Reply
reply number line count = record { number = number; line = line; count = count }

abbrev pub verdict : ℕ → ℕ → ℕ → ℕ → Verdict
verdict number line count which = record { number = number; line = line; count = count; which = which }

-- xs in front of what they do not cover
abbrev pub over : List ℤ → List ℤ → List ℤ
over xs old = xs ++ drop (length xs) old
