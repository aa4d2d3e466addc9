-- Judging files: the verdict depends on the lists that they say, and is that of the rules.
use Prim.Native.Nat.{ℕ, ◌≤◌}
use mathlib.Core.Path.{◌≡◌, sym, ◌∙◌, subst}
use mathlib.Core.Logic.{◌↔◌}
use mathlib.Core.List.{List}
use borrow.Author.Tests.{eq-eqb, ne_eqb, le-ltb}
use lib.ListN.{length}
use Rattle.law.specs.Values.{Rec}
use Rattle.law.specs.declared.Rules.TheVariants.{Idf3}
use Rattle.law.specs.Answers.{limit}
use Rattle.read.specs.Replies.{check_reply, examined}
use Rattle.law.specs.Files.{FileSays}
use Rattle.shown_read.proofs.Checked.{check_count}
use Rattle.law.specs.declared.Verdict.{Verdict}
use Rattle.judge.specs.Verdicts.{refused_as, placed, matched, with_library, judge_reply}
use Rattle.law.specs.Judging.{Judged}
use Rattle.shown_judge.specs.JudgeLists.{judge_lists}
use Rattle.shown_judge.proofs.RuleKept.{judged_sound, judged_one}
use Rattle.shown_judge.proofs.TracedRows.{trace_holds, trace_typed}
use Rattle.shown_judge.proofs.PlacementRows.{placed_said}

-- a file that is refused is refused as `check` refuses it, the first before the second, and both before any 17
module _ (board library : List ℕ) where
  pub judged_first : ((check_reply board).number ≡ 0 → ⊥) → judge_reply board library ≡ refused_as (check_reply board) 1
  unfolding judge_reply examined
  judged_first h = rw (ne_eqb (check_reply board).number 0 h)

  pub judged_second : (check_reply board).number ≡ 0 → ((check_reply library).number ≡ 0 → ⊥) → judge_reply board library ≡ refused_as (check_reply library) 2
  unfolding judge_reply with_library examined
  judged_second h i = rw (eq-eqb (check_reply board).number 0 h, ne_eqb (check_reply library).number 0 i)

-- the verdict on two files that say lists is that on the lists
pub judged : (board library : List ℕ) {rs qs : List Rec} → length board ≤ limit → length library ≤ limit → FileSays Idf3 rs board → FileSays Idf3 qs library
    → judge_reply board library ≡ judge_lists rs qs
unfolding judge_reply with_library matched placed examined
judged board library {rs} {qs} h i s u =
    rw (check_count board h s, check_count library i u, le-ltb limit (length board) h, le-ltb limit (length library) i, trace_typed board rs s, trace_typed library qs u, placed_said board library qs (trace_holds library qs u) (trace_holds board rs s) 0)

-- files that say the same lists get the same verdict; for W-213
pub judged_lists_only : (board other library second : List ℕ) {rs qs : List Rec} → length board ≤ limit → length other ≤ limit → length library ≤ limit → length second ≤ limit
    → FileSays Idf3 rs board → FileSays Idf3 rs other → FileSays Idf3 qs library → FileSays Idf3 qs second
    → judge_reply board library ≡ judge_reply other second
judged_lists_only board other library second h i j k s t u v = judged board library h j s u ∙ sym (judged other second i k t v)

-- it is a verdict exactly if the rules give it
pub judged_exactly : (board library : List ℕ) {rs qs : List Rec} → length board ≤ limit → length library ≤ limit → FileSays Idf3 rs board → FileSays Idf3 qs library
    → (v : Verdict) → (judge_reply board library ≡ v) ↔ Judged rs qs v
judged_exactly board library {rs} {qs} h i s u v =
    let e = judged board library h i s u in
    (λ a. subst (Judged rs qs) (sym e ∙ a) (judged_sound rs qs), λ j. e ∙ judged_one rs qs v j)
