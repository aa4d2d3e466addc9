-- What `judge` answers.
use Rattle.std.specs.Prelude.{ℕ, ◌+◌, List, cond, eqb, pos}
use Rattle.rows.specs.RowKinds.{is_of_kind}
use Rattle.law.specs.Kinds.{part_kind}
use Rattle.law.specs.declared.FileType.{FileType}
use Rattle.law.specs.Records.{is_library}
use Rattle.law.specs.declared.Reply.{Reply}
use Rattle.walk.specs.declared.Turn.{Turn}
use Rattle.walk.specs.Walks.{Trace, done, stop, skip, row, trace_of}
use Rattle.read.specs.Replies.{examined}
use Rattle.law.specs.declared.Verdict.{Verdict}
use Rattle.law.specs.Answers.{verdict}
use Rattle.judge.specs.Entries.{is_of, lacks_entry}

-- a file's own refusal
abbrev pub refused_as : Reply → ℕ → Verdict
refused_as r which = verdict r.number r.line r.count which

-- how many placements there are with a line more
unfoldable pub numbered : ℕ → Turn → ℕ
numbered n t = cond (is_of t (pos part_kind)) (n + 1) n

-- lines behind n placements: 16 at the first that lacks its entry, with its number from 1; or the number of them all
unfoldable pub placed_from : List ℕ → List ℕ → ℕ → Trace → Verdict
placed_from board library n (done w) = verdict 0 0 n 0
placed_from board library n (stop k l) = verdict 0 0 n 0
placed_from board library n (skip l t) = placed_from board library n t
placed_from board library n (row l x t) =
    cond (is_of_kind x part_kind)
    (cond (lacks_entry board library x) (verdict 16 0 (n + 1) 1) (placed_from board library (n + 1) t))
    (placed_from board library n t)

unfoldable pub placed : List ℕ → List ℕ → Verdict
placed board library = placed_from board library 0 (trace_of board)

-- two accepted files of these types: 17 for the first, 17 for the second, then the placements
unfoldable pub matched : List ℕ → FileType → List ℕ → FileType → Verdict
matched board t library u = cond (is_library t) (verdict 17 0 0 1) (cond (is_library u) (placed board library) (verdict 17 0 0 2))

-- the library's own refusal comes before any 17
unfoldable pub with_library : List ℕ → FileType → List ℕ → Verdict
with_library board t library = let c = examined library in cond (eqb c.reply.number 0) (matched board t library c.file) (refused_as c.reply 2)

-- the first file's own refusal, then the second's
unfoldable pub judge_reply : List ℕ → List ℕ → Verdict
judge_reply board library = let c = examined board in cond (eqb c.reply.number 0) (with_library board c.file library) (refused_as c.reply 1)
