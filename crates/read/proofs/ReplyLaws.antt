-- Laws of the replies, as the code leaves them.
use Prim.Native.Nat.{ℕ, ◌+◌, ◌^◌, ◌≤◌, ◌<◌}
use mathlib.Core.Path.{◌≡◌, refl, sym, ap, ◌∙◌}
use mathlib.Core.List.{List}
use mathlib.Core.Bool.{Bool, true, false, true≢false, false≢true}
use native.Mathlib.Omega.{arith}
use borrow.Author.Tests.{lt-ltb, le-ltb, ltb-false}
use lib.Dec.{ltb}
use lib.IntN.{ℤ}
use lib.ListN.{length}
use Rattle.law.specs.declared.FileType.{FileType}
use Rattle.law.specs.declared.FileType.TheVariants.{Library}
use Rattle.order.specs.Automaton.{accepting, type_at}
use Rattle.walk.specs.declared.Found.{Found}
use Rattle.walk.specs.declared.Found.TheVariants.{Row, Nothing, Refused}
use Rattle.law.specs.Refusals.{number_of}
use Rattle.law.specs.declared.refusals.Refusal.{Refusal}
use Rattle.law.specs.declared.Reply.{Reply}
use Rattle.walk.specs.declared.Walk.{Walk}
use Rattle.walk.specs.declared.Turn.{Turn}
use Rattle.walk.specs.declared.steps.Turns.{Turns}
use Rattle.walk.specs.Turns.{Took, Over}
use Rattle.law.specs.Answers.{limit, reply}
use Rattle.walk.specs.Walks.{begun, stops_by, Trace, done, trace_by, trace_at}
use Rattle.read.specs.Replies.{counted_by, ended_by, surveyed, survey, check_reply, type_from, type_of, examined_within, examined}
use Rattle.read.specs.declared.Checked.{Checked}
use Rattle.walk.proofs.TurnsLaws.{Left, left_small, over_trace, took_left, took_trace, took_past}

module _ (r : Reply) (l : ℕ) (f : Found) where
  pub counted_row : f ≡ Row → reply 0 0 (r.count + 1) ≡ counted_by r l f
  counted_row h = rw h

  pub counted_nothing : f ≡ Nothing → r ≡ counted_by r l f
  counted_nothing h = rw h

  pub counted_refused : (n : Refusal) (q : Reply) → f ≡ Refused n → q ≡ reply (number_of n) l 0 → q ≡ counted_by r l f
  counted_refused n q h e = rw h e

module _ (r : Reply) (w : Walk) (x : Bool) (e : x ≡ accepting w.state) where
  pub ended_whole : x ≡ true → r ≡ ended_by r w
  unfolding ended_by
  ended_whole h = rw (sym e ∙ h)

  pub ended_early : (q : Reply) → x ≡ false → q ≡ reply 13 w.line 0 → q ≡ ended_by r w
  unfolding ended_by
  ended_early q h i = rw (sym e ∙ h) i

-- one line more
module _ (r : Reply) (l : ℕ) (row : List ℤ) (t : Trace) where
  counted_on : (f : Found) → stops_by f ≡ false → surveyed r (trace_by f l row t) ≡ surveyed (counted_by r l f) t
  unfolding surveyed
  counted_on Row h = refl
  counted_on Nothing h = refl
  counted_on (Refused n) h = absurd (true≢false h)

  counted_stop : (f : Found) → stops_by f ≡ true → surveyed r (trace_by f l row t) ≡ counted_by r l f
  unfolding surveyed
  counted_stop Row h = absurd (false≢true h)
  counted_stop Nothing h = absurd (false≢true h)
  counted_stop (Refused n) h = refl

  typed_on : (f : Found) → stops_by f ≡ false → type_from (trace_by f l row t) ≡ type_from t
  unfolding type_from
  typed_on Row h = refl
  typed_on Nothing h = refl
  typed_on (Refused n) h = absurd (true≢false h)

  typed_stop : (f : Found) → stops_by f ≡ true → Library ≡ type_from (trace_by f l row t)
  unfolding type_from
  typed_stop Row h = absurd (false≢true h)
  typed_stop Nothing h = absurd (false≢true h)
  typed_stop (Refused n) h = refl

  counted_few : (f : Found) → stops_by f ≡ false → (counted_by r l f).count ≤ r.count + 1
  counted_few Row h = omega arith
  counted_few Nothing h = omega arith
  counted_few (Refused n) h = absurd (true≢false h)

-- what is left of a file gives the reply of the whole, and its type
pub record Surveying (file : List ℕ) (v : Turns) (end : Walk) (r : Reply) : Type 0 where
  pub of : Left file v
  pub here : end ≡ v.walk
  pub few : r.count ≤ v.walk.at
  pub left : surveyed r (trace_at file v.walk) ≡ survey file
  pub typed : type_from (trace_at file v.walk) ≡ type_of file

pub survey_start : (file : List ℕ) (v : Turns) (end : Walk) (r : Reply) → v.file.now ≡ file → v.walk ≡ begun → end ≡ begun → r ≡ reply 0 0 0 → Surveying file v end r
survey_start file v end r f e h i = record {
  of = record { of = f };
  here = h ∙ sym e;
  few = let z : r.count ≡ 0 = ap (λ (y : Reply). y.count) i in omega arith;
  left = rw (e, i);
  typed = rw e;
}

module _ (file : List ℕ) (v : Turns) (end : Walk) (r : Reply) (s : Surveying file v end r) where
  pub survey_count : r.count < 2 ^ 62
  survey_count = omega (arith, s.few, left_small file v s.of)

  module _ (t : Turn) (u : Turns) (k : Took v t u) (x : Bool) (i : x ≡ stops_by t.found) (q : Reply) (j : q ≡ counted_by r t.line t.found) where
    pub survey_stop : x ≡ true → q ≡ survey file
    survey_stop h =
        j ∙ sym (counted_stop r t.line t.row (trace_at file u.walk) t.found (sym i ∙ h))
        ∙ sym (ap (surveyed r) (took_trace file v s.of t u k))
        ∙ s.left

    pub survey_untyped : x ≡ true → Library ≡ type_of file
    survey_untyped h = typed_stop r t.line t.row (trace_at file u.walk) t.found (sym i ∙ h) ∙ sym (ap type_from (took_trace file v s.of t u k)) ∙ s.typed

    pub survey_more : x ≡ false → Surveying file u t.walk q
    survey_more h =
        let f : stops_by t.found ≡ false = sym i ∙ h in
        let a = took_past file v s.of t u k in
        let b = s.few in
        let c : q.count ≤ r.count + 1 = rw j (counted_few r t.line t.row (trace_at file u.walk) t.found f) in
        record {
          of = took_left file v s.of t u k;
          here = sym k.walk;
          few = omega arith;
          left =
              ap (λ (y : Reply). surveyed y (trace_at file u.walk)) j
              ∙ sym (counted_on r t.line t.row (trace_at file u.walk) t.found f)
              ∙ sym (ap (surveyed r) (took_trace file v s.of t u k))
              ∙ s.left;
          typed = sym (typed_on r t.line t.row (trace_at file u.walk) t.found f) ∙ sym (ap type_from (took_trace file v s.of t u k)) ∙ s.typed;
        }

  module _ (u : Turns) (o : Over v u) where
    over_here : trace_at file v.walk ≡ done end
    over_here = over_trace file v s.of u o ∙ ap done (o.walk ∙ sym s.here)

    pub survey_over : (q : Reply) → q ≡ ended_by r end → q ≡ survey file
    unfolding surveyed
    survey_over q e = e ∙ sym (ap (surveyed r) over_here) ∙ s.left

    pub survey_typed : (t : FileType) → t ≡ type_at end.state → t ≡ type_of file
    unfolding type_from
    survey_typed t e = e ∙ sym (ap type_from over_here) ∙ s.typed

-- a whole file
module _ (file : List ℕ) where
  pub large_examined : (r : Reply) → limit < length file → r ≡ reply 1 0 0 → record { reply = r; file = Library } ≡ examined file
  unfolding examined check_reply
  large_examined r h e = rw (lt-ltb limit (length file) h, e)

  pub small_examined : (c : Checked) → length file ≤ limit → c ≡ examined_within file → c ≡ examined file
  unfolding examined check_reply
  small_examined c h e = e ∙ rw (le-ltb limit (length file) h)

  pub check_examined : (c : Checked) → c ≡ examined file → c.reply ≡ check_reply file
  unfolding examined
  check_examined c e = ap (λ (x : Checked). x.reply) e

-- an accepted file is not too large
pub accepted_small : (file : List ℕ) (r : Reply) → r ≡ check_reply file → r.number ≡ 0 → length file ≤ limit
unfolding check_reply
accepted_small file r e h = go (ltb limit (length file)) refl
  where
    go : (x : Bool) → ltb limit (length file) ≡ x → length file ≤ limit
    go true i = let z : ◌≡◌ {A = ℕ} 1 0 = rw (e, i) at h in absurd (omega arith)
    go false i = ltb-false limit (length file) i
