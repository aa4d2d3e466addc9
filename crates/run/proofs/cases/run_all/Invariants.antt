-- What the loop of `run_all` keeps: no more cases differ than were run.
use Rattle.std.proofs.Common.{◌≤◌}
use denote.Param.Always.{always_mut}
use Rattle.run.proofs.cases.run_all.Given as goal

abbrev pub invariant-loop : goal.invariant-loop
invariant-loop g l =
    (always_mut g.F.FnMut l.initial.run_case → always_mut g.F.FnMut l.run_case) ×
    (l.totals.differ ≤ l.totals.cases)
