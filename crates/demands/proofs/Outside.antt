-- The functions for other languages: the numbers that each leaves behind `reply` are those of an outcome of the operation, and it asks nothing of a caller.
use mathlib.Core.Path.{◌≡◌, refl}
use contract.Lifetimes.{Lfts}
use denote.Triple.Clauses.{AtExit}
use borrow.Fn.Kinds.{Dens, res_t, ended_of}
use lib.ListN.{length}
use Rattle.law.specs.declared.Reply.{Reply}
use Rattle.read.specs.Replies.{check_reply, read_reply}
use Rattle.write.specs.Outcomes.{write_reply}
use Rattle.law.specs.declared.Verdict.{Verdict}
use Rattle.same.specs.Verdicts.{same_reply}
use Rattle.judge.specs.Verdicts.{judge_reply}
use Rattle.viewer.specs.declared.Step.{Step}
use Rattle.viewer.specs.Views.{step_of}
use Rattle.quayladle.specs.Numbers.{of_one, of_two, of_place}
use Rattle.quayladle.proofs.quayladle_check.Kinds as check
use Rattle.quayladle.proofs.quayladle_check.Reads as check_says
use Rattle.quayladle.proofs.quayladle_read.Kinds as read
use Rattle.quayladle.proofs.quayladle_read.Reads as read_says
use Rattle.quayladle.proofs.quayladle_write.Kinds as write
use Rattle.quayladle.proofs.quayladle_write.Reads as write_says
use Rattle.quayladle.proofs.quayladle_same.Kinds as same
use Rattle.quayladle.proofs.quayladle_same.Reads as same_says
use Rattle.quayladle.proofs.quayladle_judge.Kinds as judge
use Rattle.quayladle.proofs.quayladle_judge.Reads as judge_says
use Rattle.quayladle.proofs.quayladle_fields.Kinds as fields
use Rattle.quayladle.proofs.quayladle_fields.Reads as fields_says
use Rattle.demands.specs.Outcomes.{Checks, Reads, Writes, Compares, Judges, Shows}

pub outside_check : (κs : Lfts 2) (a : Dens κs check.ps) (r : (res_t check.r κs).Denot) (s : AtExit (ended_of 2 check.ps check.r) κs)
    → check_says.Learnt κs a r s
    → (q : Reply) × Checks a.0.now q × (s.1.0.now ≡ of_one q)
outside_check κs a r s e = (check_reply a.0.now, record { answer = refl }, e)

pub outside_read : (κs : Lfts 3) (a : Dens κs read.ps) (r : (res_t read.r κs).Denot) (s : AtExit (ended_of 3 read.ps read.r) κs)
    → read_says.Learnt κs a r s
    → (q : Reply) × Reads a.0.now a.1.0.now q s.1.0.now × (s.1.1.0.now ≡ of_one q)
outside_read κs a r s e = (read_reply a.0.now (length a.1.0.now), record { answer = refl; left = e.1 }, e.0)

pub outside_write : (κs : Lfts 4) (a : Dens κs write.ps) (r : (res_t write.r κs).Denot) (s : AtExit (ended_of 4 write.ps write.r) κs)
    → write_says.Learnt κs a r s
    → (q : Reply) × Writes a.0.now a.1.0.now a.1.1.0.now q s.1.1.0.now × (s.1.1.1.0.now ≡ of_one q)
outside_write κs a r s e = (write_reply a.0.now a.1.0.now (length a.1.1.0.now), record { answer = refl; left = e.1 }, e.0)

pub outside_same : (κs : Lfts 3) (a : Dens κs same.ps) (r : (res_t same.r κs).Denot) (s : AtExit (ended_of 3 same.ps same.r) κs)
    → same_says.Learnt κs a r s
    → (v : Verdict) × Compares a.0.now a.1.0.now v × (s.1.1.0.now ≡ of_two v)
outside_same κs a r s e = (same_reply a.0.now a.1.0.now, record { answer = refl }, e)

pub outside_judge : (κs : Lfts 3) (a : Dens κs judge.ps) (r : (res_t judge.r κs).Denot) (s : AtExit (ended_of 3 judge.ps judge.r) κs)
    → judge_says.Learnt κs a r s
    → (v : Verdict) × Judges a.0.now a.1.0.now v × (s.1.1.0.now ≡ of_two v)
outside_judge κs a r s e = (judge_reply a.0.now a.1.0.now, record { answer = refl }, e)

-- behind `place`, where the next call goes on and the number of the line there
pub outside_fields : (κs : Lfts 4) (a : Dens κs fields.ps) (r : (res_t fields.r κs).Denot) (s : AtExit (ended_of 4 fields.ps fields.r) κs)
    → fields_says.Learnt κs a r s
    → (q : Step) × Shows a.0.now a.1.0 a.1.1.0 a.1.1.1.0.now q s.1.1.1.0.now × (s.1.1.1.1.0.now ≡ of_place q)
    × (s.1.1.1.1.1.0.now ≡ of_one q.reply)
outside_fields κs a r s e = (step_of a.0.now a.1.0 a.1.1.0 (length a.1.1.1.0.now), record { answer = refl; left = e.1.1 }, e.1.0, e.0)

-- "No caller has to check anything beforehand": of the functions that are exported
pub nothing_asked_outside :
    ((κs : Lfts 2) (a : Dens κs check.ps) → check_says.Asked κs a)
    × ((κs : Lfts 3) (a : Dens κs read.ps) → read_says.Asked κs a)
    × ((κs : Lfts 4) (a : Dens κs write.ps) → write_says.Asked κs a)
    × ((κs : Lfts 3) (a : Dens κs same.ps) → same_says.Asked κs a)
    × ((κs : Lfts 3) (a : Dens κs judge.ps) → judge_says.Asked κs a)
    × ((κs : Lfts 4) (a : Dens κs fields.ps) → fields_says.Asked κs a)
nothing_asked_outside = (λ κs a. tt, λ κs a. tt, λ κs a. tt, λ κs a. tt, λ κs a. tt, λ κs a. tt)
