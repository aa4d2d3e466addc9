-- The verdict on two lists of records, as a function.
use Rattle.std.specs.Prelude.{ℕ, ◌+◌, List, [], ◌∷◌, Bool, false, cond, not, ◌&&◌, ◌||◌, eqb}
use Rattle.law.specs.Values.{Rec}
use Rattle.law.specs.Words.{board_word, no_reference, same_bytes}
use Rattle.law.specs.Records.{is_library, Named, name_in}
use Rattle.order.specs.Automaton.{same_name}
use Rattle.law.specs.Kinds.{electrical_kind, mechanical_kind}
use Rattle.law.specs.Files.{titled}
use Rattle.law.specs.declared.Verdict.{Verdict}
use Rattle.law.specs.Answers.{verdict}
use Rattle.law.specs.Judging.{Placement, placements_of}

-- some record leads an entry of kind k with this geometry and part
abbrev pub has_entry_of : ℕ → Named → List Rec → Bool
has_entry_of k a [] = false
has_entry_of k a (q ∷ qs) = eqb q.kind k && same_name (name_in q) a || has_entry_of k a qs

-- BOARD needs none, NOREFDES a mechanical one, all others an electrical one
abbrev pub lacks_in : List Rec → Placement → Bool
lacks_in qs p =
    cond (same_bytes p.reference board_word) false
    (cond (same_bytes p.reference no_reference) (not (has_entry_of mechanical_kind p.name qs)) (not (has_entry_of electrical_kind p.name qs)))

-- placements behind n others: 16 at the first that lacks its entry, or the number of them all
abbrev pub placed_behind : List Rec → ℕ → List Placement → Verdict
placed_behind qs n [] = verdict 0 0 n 0
placed_behind qs n (p ∷ ps) = cond (lacks_in qs p) (verdict 16 0 (n + 1) 1) (placed_behind qs (n + 1) ps)

-- 17 for the first, 17 for the second, then the placements
abbrev pub judge_lists : List Rec → List Rec → Verdict
judge_lists rs qs = cond (is_library (titled rs)) (verdict 17 0 0 1) (cond (is_library (titled qs)) (placed_behind qs 0 (placements_of rs)) (verdict 17 0 0 2))
