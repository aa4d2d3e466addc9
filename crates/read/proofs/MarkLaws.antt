-- Laws of the walk that checks a file and marks its names, and of what becomes of doubtful ones.
use Prim.Native.Nat.{ℕ, ◌^◌, ◌<◌}
use mathlib.Core.Path.{◌≡◌, refl, sym, ◌∙◌}
use mathlib.Core.List.{List}
use mathlib.Core.Bool.{Bool, true, false, not, ◌||◌}
use borrow.Author.Tests.{eq-eqb, ne_eqb, not-true}
use lib.ListN.{length}
use Rattle.rows_texts.specs.Names.{key_of}
use Rattle.law.specs.declared.FileType.{FileType}
use Rattle.law.specs.declared.FileType.TheVariants.{Library}
use Rattle.law.specs.declared.Reply.{Reply}
use Rattle.order.specs.Automaton.{type_at}
use Rattle.walk.specs.declared.Walk.{Walk}
use Rattle.walk.specs.declared.Turn.{Turn}
use Rattle.walk.specs.declared.steps.Turns.{Turns}
use Rattle.walk.specs.Turns.{Took, Over}
use Rattle.law.specs.Answers.{reply}
use Rattle.walk.specs.Walks.{begun, stops_by, trace_of}
use Rattle.names.specs.Names.{is_named, repeat_of}
use Rattle.names.specs.Marks.{held_if, marked_if, repeat_among, Doubted}
use Rattle.names.proofs.KeyLaws.{marked_if_length}
use Rattle.names.proofs.DoubtLaws.{Doubting, doubt_start, doubt_over, doubt_stop, doubt_more}
use Rattle.read.specs.Replies.{counted_by, ended_by, survey, type_of, examined_within}
use Rattle.read.proofs.ReplyLaws.{Surveying, survey_start, survey_count, survey_stop, survey_untyped, survey_more, survey_over, survey_typed}

-- a walk that checks: its reply so far, the marks, and the doubtful names
pub record Checking (file marks₀ marks ds₀ ds : List ℕ) (v : Turns) (end : Walk) (r : Reply) (d : Bool) : Type 0 where
  pub surveying : Surveying file v end r
  pub doubting : Doubting file v.walk d marks ds
  pub long : length marks ≡ length marks₀
  pub wide : length ds ≡ length ds₀

pub check_start : (file marks ds : List ℕ) (v : Turns) (end : Walk) (r : Reply) → v.file.now ≡ file → v.walk ≡ begun → end ≡ begun → r ≡ reply 0 0 0
    → 0 < length marks → 0 < length ds → Checking file marks marks ds ds v end r false
check_start file marks ds v end r f e h i k l = record {
  surveying = survey_start file v end r f e h i;
  doubting = doubt_start file v.walk marks ds k l e;
  long = refl;
  wide = refl;
}

module _ (file marks₀ marks ds₀ ds : List ℕ) (v : Turns) (end : Walk) (r : Reply) (d : Bool) (s : Checking file marks₀ marks ds₀ ds v end r d) where
  pub check_count : r.count < 2 ^ 62
  check_count = survey_count file v end r s.surveying

  pub check_room : (0 < length marks) × (0 < length ds)
  check_room = (s.doubting.marking.room, s.doubting.room)

  module _ (u : Turns) (o : Over v u) where
    pub check_over : (q : Reply) → q ≡ ended_by r end → q ≡ survey file
    check_over = survey_over file v end r s.surveying u o

    pub check_typed : (t : FileType) → t ≡ type_at end.state → t ≡ type_of file
    check_typed = survey_typed file v end r s.surveying u o

    pub check_doubted : Doubted file ds d
    check_doubted = doubt_over file v d marks ds s.doubting s.surveying.of u o

  module _ (t : Turn) (u : Turns) (k : Took v t u) (x : Bool) (i : x ≡ stops_by t.found) where
    pub check_stop : (q : Reply) → q ≡ counted_by r t.line t.found → x ≡ true → q ≡ survey file
    check_stop q j h = survey_stop file v end r s.surveying t u k x i q j h

    pub check_untyped : (q : Reply) → q ≡ counted_by r t.line t.found → x ≡ true → Library ≡ type_of file
    check_untyped q j h = survey_untyped file v end r s.surveying t u k x i q j h

    pub check_stopped : x ≡ true → Doubted file ds d
    check_stopped h = doubt_stop file v d marks ds s.doubting s.surveying.of t u k (sym i ∙ h)

    pub check_more : (q : Reply) (b z : Bool) (ys es : List ℕ) → q ≡ counted_by r t.line t.found → x ≡ false → b ≡ is_named t
        → z ≡ held_if b marks (key_of file t.row) → ys ≡ marked_if b marks (key_of file t.row) → es ≡ marked_if (held_if b marks (key_of file t.row)) ds (key_of file t.row)
        → Checking file marks₀ ys ds₀ es u t.walk q (d || z)
    check_more q b z ys es j h n c m o = record {
      surveying = survey_more file v end r s.surveying t u k x i q j h;
      doubting = doubt_more file v d marks ds s.doubting s.surveying.of t u k (sym i ∙ h) es (rw n at o) z ys (rw n at c) (rw n at m);
      long = marked_if_length b marks ys (key_of file t.row) m ∙ s.long;
      wide = marked_if_length (held_if b marks (key_of file t.row)) ds es (key_of file t.row) o ∙ s.wide;
    }

-- what becomes of the names: none is doubtful; or a second walk tells
module _ (file ds : List ℕ) (d : Bool) (s : Doubted file ds d) (r : Reply) (t : FileType) (f : t ≡ type_of file) where
  whole : repeat_of file ≡ 0 → r ≡ survey file → record { reply = r; file = t } ≡ examined_within file
  whole h e = rw (eq-eqb (repeat_of file) 0 h, e, f)

  pub sure_whole : not d ≡ true → r ≡ survey file → record { reply = r; file = t } ≡ examined_within file
  sure_whole h e = whole (s.none (not-true d h)) e

  module _ (n : ℕ) (i : n ≡ repeat_among file ds (trace_of file)) where
    pub decided_whole : n ≡ 0 → r ≡ survey file → record { reply = r; file = t } ≡ examined_within file
    decided_whole h e = whole (sym (i ∙ s.among) ∙ h) e

    pub decided_again : (n ≡ 0 → ⊥) → r ≡ reply 12 n 0 → record { reply = r; file = t } ≡ examined_within file
    decided_again h e = rw (sym (i ∙ s.among), ne_eqb n 0 h, e, f)
