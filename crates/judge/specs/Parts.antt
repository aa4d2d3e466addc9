-- The placements of a board in parts, by the hash of their names; no verdict depends on the parts.
use Rattle.std.specs.Prelude.{ℕ, ◌+◌, ◌^◌, ◌<◌, ◌≡◌, List, Bool, true, cond, not, ◌&&◌, ltb, eqb, ℤ}
use Rattle.rows.specs.RowKinds.{is_of_kind}
use Rattle.law.specs.Kinds.{part_kind}
use Rattle.rows_texts.specs.Names.{key_of}
use Rattle.walk.specs.declared.Turn.{Turn}
use Rattle.walk.specs.Walks.{Trace, done, stop, skip, row, trace_of}
use Rattle.law.specs.declared.Verdict.{Verdict}
use Rattle.law.specs.Answers.{verdict}
use Rattle.judge_stock.specs.Stock.{part_of, is_in}
use Rattle.judge.specs.declared.parts.OfPart.{OfPart}
use Rattle.judge.specs.declared.parts.OfPart.TheVariants.{Told, Divided}
use Rattle.judge.specs.Entries.{lacks_entry, lacks}

-- a placement's name is in a part, of so many
unfoldable pub asked : ℕ → ℕ → List ℕ → List ℤ → Bool
asked parts part board x = is_in (key_of board x) parts part

-- a hash is in a part or in one behind it
unfoldable pub is_from : ℕ → ℕ → ℕ → Bool
is_from h parts part = cond (ltb parts 2) true (not (ltb (part_of h parts) part))

-- so is a placement's name
unfoldable pub asked_from : ℕ → ℕ → List ℕ → List ℤ → Bool
asked_from parts part board x = is_from (key_of board x) parts part

-- a line is a placement that passes a test and lacks its entry
unfoldable pub missed : (List ℤ → Bool) → List ℕ → List ℕ → Turn → Bool
missed p board library t = p t.row && lacks board library t

-- lines behind n placements: 16 at the first of those that pass a test and lack their entry, or the number of all placements
unfoldable pub among_from : (List ℤ → Bool) → List ℕ → List ℕ → ℕ → Trace → Verdict
among_from p board library n (done w) = verdict 0 0 n 0
among_from p board library n (stop k l) = verdict 0 0 n 0
among_from p board library n (skip l t) = among_from p board library n t
among_from p board library n (row l x t) =
    cond (is_of_kind x part_kind)
    (cond (p x && lacks_entry board library x) (verdict 16 0 (n + 1) 1) (among_from p board library (n + 1) t))
    (among_from p board library n t)

unfoldable pub among_of : (List ℤ → Bool) → List ℕ → List ℕ → Verdict
among_of p board library = among_from p board library 0 (trace_of board)

-- of two verdicts on one board the one that names the earlier placement; number 0 names none
unfoldable pub sooner : Verdict → Verdict → Verdict
sooner a b = cond (eqb a.number 0) b (cond (eqb b.number 0) a (cond (ltb b.count a.count) b a))

-- what was to be one part is divided into several
pub record Several (parts n : ℕ) : Type 0 where
  pub one : parts < 2
  pub more : 1 < n
  pub word : n < 2 ^ 64

-- what came of a part
abbrev pub Tells : ℕ → ℕ → List ℕ → List ℕ → OfPart → Type 0
Tells parts part board library (Told v) = v ≡ among_of (asked parts part board) board library
Tells parts part board library (Divided n) = Several parts n
