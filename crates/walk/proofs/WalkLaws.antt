-- Laws of one step of a walk, and of what is left of it.
use Prim.Native.Nat.{ℕ, zero, suc, ◌+◌, ◌-◌, ◌^◌, ◌≤◌, ◌<◌}
use mathlib.Core.Path.{◌≡◌, refl, ap, ◌∙◌}
use mathlib.Core.List.{List}
use mathlib.Core.Bool.{Bool, true, false, cond}
use native.Mathlib.Omega.{arith}
use mir.Syntax.{w64}
use mir.Val.{Fits}
use borrow.Author.Tests.{lt-ltb, le-ltb, ltb-true}
use lib.Dec.{ltb}
use lib.ListN.{length, take, drop, length-drop}
use Rattle.basics.proofs.Lists.{rest}
use Rattle.text.specs.Lines.{line_end}
use Rattle.text.specs.declared.LineEnd.{LineEnd}
use Rattle.text.proofs.LineLaws.{line_inside}
use Rattle.law.specs.declared.Rules.TheVariants.{Idf3}
use Rattle.walk.specs.declared.JudgedLine.{JudgedLine}
use Rattle.walk.specs.declared.Walk.{Walk}
use Rattle.walk.specs.declared.Turn.{Turn}
use Rattle.walk.specs.Judging.{judged}
use Rattle.law.specs.Answers.{limit}
use Rattle.walk.specs.Walks.{begun, line_in, turned, turn_of, Steady, done, trace_by, trace_in, trace_at}
use Rattle.walk.proofs.Sections.{kept_judged}

-- one step, as the code takes it

abbrev part_at : List ℕ → Walk → List ℕ
part_at file w = take (length file - w.at) (drop w.at file)

part_long : (file : List ℕ) (w : Walk) → w.at ≤ length file → w.at + length (part_at file w) ≡ length file
part_long file w h = omega (arith, ap length (rest w.at file), length-drop w.at file)

module _ (file : List ℕ) (w : Walk) (h : Steady file w) where
  pub part_room : w.at + length (part_at file w) < 2 ^ 62
  part_room = let k = h.within in let l = h.small in omega (arith, part_long file w k)

  pub line_fits : Fits w64 (w.line + 1)
  line_fits = let k = h.within in let l = h.small in let m = h.lines in omega arith

  module _ (e : LineEnd) (i : e ≡ line_end (part_at file w)) where
    pub content_within : e.content ≤ length (part_at file w)
    content_within = let k = line_inside (part_at file w) in let a = k.inside in let b = k.within in rw i (omega arith)

    pub next_fits : Fits w64 (w.at + e.next)
    next_fits =
        let k = (line_inside (part_at file w)).within in
        let l = h.small in
        let n : e.next ≤ length (part_at file w) = rw i k in
        omega (arith, part_long file w h.within)

    pub turn_is : (j : JudgedLine) (r : Turn) → j ≡ judged Idf3 w.state w.at (take e.content (part_at file w)) → r ≡ turned j (w.at + e.next) w.line
        → r ≡ turn_of file w
    unfolding turn_of line_in
    turn_is j r a b = b ∙ rw (a, i, rest w.at file)

-- what is left of a walk

pub turn_past : (file : List ℕ) (w : Walk) → w.at < length file → w.at < (turn_of file w).walk.at
unfolding turn_of
turn_past file w h = let k = (line_inside (drop w.at file)).past (omega (arith, length-drop w.at file)) in omega arith

-- no more lines than bytes are needed
trace_fuel : (file : List ℕ) (m n : ℕ) (w : Walk) → length file ≤ w.at + m → length file ≤ w.at + n → trace_in m file w ≡ trace_in n file w
unfolding trace_in
trace_fuel file zero zero w a b = refl
trace_fuel file zero (suc n) w a b = rw (le-ltb w.at (length file) (omega arith))
trace_fuel file (suc m) zero w a b = rw (le-ltb w.at (length file) (omega arith))
trace_fuel file (suc m) (suc n) w a b = go (ltb w.at (length file)) refl (trace_fuel file m n (turn_of file w).walk)
  where
    go : (x : Bool) → ltb w.at (length file) ≡ x
        → (length file ≤ (turn_of file w).walk.at + m → length file ≤ (turn_of file w).walk.at + n → trace_in m file (turn_of file w).walk ≡ trace_in n file (turn_of file w).walk)
        → cond x (trace_by (turn_of file w).found w.line (turn_of file w).row (trace_in m file (turn_of file w).walk)) (done w)
        ≡ cond x (trace_by (turn_of file w).found w.line (turn_of file w).row (trace_in n file (turn_of file w).walk)) (done w)
    go true h ih =
        let l : w.at < (turn_of file w).walk.at = turn_past file w (ltb-true w.at (length file) h) in
        ap (trace_by (turn_of file w).found w.line (turn_of file w).row) (ih (omega arith) (omega arith))
    go false h ih = refl

pub trace_end : (file : List ℕ) (w : Walk) → length file ≤ w.at → trace_at file w ≡ done w
unfolding trace_at trace_in
trace_end file w h = trace_fuel file (length file - w.at) 0 w (omega arith) (omega arith)

pub trace_step : (file : List ℕ) (w : Walk) → w.at < length file
    → trace_at file w ≡ trace_by (turn_of file w).found w.line (turn_of file w).row (trace_at file (turn_of file w).walk)
unfolding trace_at trace_in
trace_step file w h =
    let t : Turn = turn_of file w in
    let l : w.at < t.walk.at = turn_past file w h in
    let m : ℕ = length file - w.at - 1 in
    let k : length file - w.at ≡ suc m = omega arith in
    ap (λ (n : ℕ). trace_in n file w) k
    ∙ rw (lt-ltb w.at (length file) h) (ap (trace_by t.found w.line t.row) (trace_fuel file m (length file - t.walk.at) t.walk (omega arith) (omega arith)))

-- a loop over a file: its walk, and the place that it tests
pub record Going (file : List ℕ) (w : Walk) (at : ℕ) : Type 0 where
  pub steady : Steady file w
  pub here : w.at ≡ at

pub going_start : (file : List ℕ) (w : Walk) → length file ≤ limit → w ≡ begun → Going file w 0
going_start file w h e = rw e (record { steady = record { small = h; within = omega arith; lines = omega arith; section = omega arith }; here = refl })

module _ (file : List ℕ) (w : Walk) (at : ℕ) (g : Going file w at) where
  module _ (h : at < length file) (t : Turn) (e : t ≡ turn_of file w) where
    -- each line is followed by what is left
    pub going_trace : trace_at file w ≡ trace_by t.found w.line t.row (trace_at file t.walk)
    going_trace = let k = g.here in let z : w.at < length file = omega arith in rw e (trace_step file w z)

    pub going_past : at < t.walk.at
    going_past = let k = g.here in let l = turn_past file w (omega arith) in rw e (omega arith)

    pub going_less : length file - t.walk.at < length file - at
    going_less = omega (arith, going_past)

    pub going_more : Going file t.walk t.walk.at
    unfolding turn_of line_in
    going_more =
        let s = g.steady in
        let k = line_inside (drop w.at file) in
        let a : 0 < (line_end (drop w.at file)).next = let i = g.here in k.past (omega (arith, length-drop w.at file)) in
        let b : (line_end (drop w.at file)).next ≤ length (drop w.at file) = k.within in
        let c = s.within in
        let d = s.lines in
        rw e (record {
          steady = record {
            small = s.small;
            within = omega (arith, length-drop w.at file);
            lines = omega arith;
            section = kept_judged Idf3 w.state s.section w.at (take (line_end (drop w.at file)).content (drop w.at file));
          };
          here = refl;
        })

  pub going_end : length file ≤ at → trace_at file w ≡ done w
  going_end h = let k = g.here in trace_end file w (omega arith)

-- an iterator over the lines of a file, a line on
module _ (file : List ℕ) (w : Walk) (s : Steady file w) (h : w.at < length file) (t : Turn) (e : t ≡ turn_of file w) where
  pub turn_steady : Steady file t.walk
  turn_steady = (going_more file w w.at (record { steady = s; here = refl }) h t e).steady

  pub turn_less : length file - t.walk.at < length file - w.at
  turn_less = going_less file w w.at (record { steady = s; here = refl }) h t e
