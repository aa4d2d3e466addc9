-- The contracts of the five operations and of a call of the line reader, as the functions carry them, say of an outcome exactly what specs/Outcomes says, and ask nothing of a caller.
use mathlib.Core.Logic.{◌↔◌}
use contract.Lifetimes.{Lfts}
use denote.Triple.Clauses.{AtExit}
use borrow.Fn.Kinds.{Dens, res_t, ended_of}
use Rattle.read.proofs.whole.check.Kinds as check
use Rattle.read.proofs.whole.check.Reads as check_says
use Rattle.read.proofs.whole.read.Kinds as read
use Rattle.read.proofs.whole.read.Reads as read_says
use Rattle.write.proofs.whole.write.Kinds as write
use Rattle.write.proofs.whole.write.Reads as write_says
use Rattle.same.proofs.same.Kinds as same
use Rattle.same.proofs.same.Reads as same_says
use Rattle.judge.proofs.whole.judge.Kinds as judge
use Rattle.judge.proofs.whole.judge.Reads as judge_says
use Rattle.viewer.proofs.step_at.Kinds as step
use Rattle.viewer.proofs.step_at.Reads as step_says
use Rattle.demands.specs.Outcomes.{Checks, Reads, Writes, Compares, Judges, Shows}

-- of the lifetimes, the arguments, the result and the arguments at exit; a slice's bytes or numbers are its `now`
pub check_contract : (κs : Lfts 1) (a : Dens κs check.ps) (r : (res_t check.r κs).Denot) (s : AtExit (ended_of 1 check.ps check.r) κs)
    → check_says.Learnt κs a r s ↔ Checks a.0.now r
check_contract κs a r s = (λ e. record { answer = e }, λ c. c.answer)

pub read_contract : (κs : Lfts 2) (a : Dens κs read.ps) (r : (res_t read.r κs).Denot) (s : AtExit (ended_of 2 read.ps read.r) κs)
    → read_says.Learnt κs a r s ↔ Reads a.0.now a.1.0.now r s.1.0.now
read_contract κs a r s = (λ e. record { answer = e.0; left = e.1 }, λ c. (c.answer, c.left))

pub write_contract : (κs : Lfts 3) (a : Dens κs write.ps) (r : (res_t write.r κs).Denot) (s : AtExit (ended_of 3 write.ps write.r) κs)
    → write_says.Learnt κs a r s ↔ Writes a.0.now a.1.0.now a.1.1.0.now r s.1.1.0.now
write_contract κs a r s = (λ e. record { answer = e.0; left = e.1 }, λ c. (c.answer, c.left))

pub same_contract : (κs : Lfts 2) (a : Dens κs same.ps) (r : (res_t same.r κs).Denot) (s : AtExit (ended_of 2 same.ps same.r) κs)
    → same_says.Learnt κs a r s ↔ Compares a.0.now a.1.0.now r
same_contract κs a r s = (λ e. record { answer = e }, λ c. c.answer)

pub judge_contract : (κs : Lfts 2) (a : Dens κs judge.ps) (r : (res_t judge.r κs).Denot) (s : AtExit (ended_of 2 judge.ps judge.r) κs)
    → judge_says.Learnt κs a r s ↔ Judges a.0.now a.1.0.now r
judge_contract κs a r s = (λ e. record { answer = e }, λ c. c.answer)

pub step_contract : (κs : Lfts 2) (a : Dens κs step.ps) (r : (res_t step.r κs).Denot) (s : AtExit (ended_of 2 step.ps step.r) κs)
    → step_says.Learnt κs a r s ↔ Shows a.0.now a.1.0 a.1.1.0 a.1.1.1.0.now r s.1.1.1.0.now
step_contract κs a r s = (λ e. record { answer = e.0; left = e.1 }, λ c. (c.answer, c.left))

-- "No caller has to check anything beforehand"
pub nothing_asked :
    ((κs : Lfts 1) (a : Dens κs check.ps) → check_says.Asked κs a)
    × ((κs : Lfts 2) (a : Dens κs read.ps) → read_says.Asked κs a)
    × ((κs : Lfts 3) (a : Dens κs write.ps) → write_says.Asked κs a)
    × ((κs : Lfts 2) (a : Dens κs same.ps) → same_says.Asked κs a)
    × ((κs : Lfts 2) (a : Dens κs judge.ps) → judge_says.Asked κs a)
    × ((κs : Lfts 2) (a : Dens κs step.ps) → step_says.Asked κs a)
nothing_asked = (λ κs a. tt, λ κs a. tt, λ κs a. tt, λ κs a. tt, λ κs a. tt, λ κs a. tt)
