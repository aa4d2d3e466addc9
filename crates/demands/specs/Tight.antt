-- When a contract leaves no choice.
use Rattle.std.specs.Prelude.{ℕ, ◌≡◌, List}
use seplogic.Ra.Ura.{Ura}
use base.Logic.{SProp, ent}
use prog.Memory.{Memory}
use prog.Routine.{Routine}
use types.Logic.{Logic}
use contract.Lifetimes.{Lfts}
use contract.Monad.{Fun, conj, fact}
use denote.Triple.Entry.{Args, Res}
use denote.Triple.Clauses.{Ended, Clauses, Lasts, at_exit}
use borrow.Fn.Kinds.{ParamKind, ResultKind, Out, Dens, res_t, ended_of}

-- Learnt κs a r s is a function's `ensures`, of its lifetimes, arguments, result and arguments at exit; ws are the last values of what was lent to be written.
-- Two outcomes of one call that meet it are equal.
abbrev pub Tight : (n : ℕ) (ps : List (ParamKind n)) (k : ResultKind n) → Out n ps k → Type 0
Tight n ps k Learnt =
    (κs : Lfts n) (a : Dens κs ps) (r q : (res_t k κs).Denot) (ws us : Lasts (ended_of n ps k) κs a)
    → Learnt κs a r (at_exit (ended_of n ps k) κs a ws)
    → Learnt κs a q (at_exit (ended_of n ps k) κs a us)
    → (r ≡ q) × (ws ≡ us)

-- The same for a function over a struct that holds a reference, whose contract has no plain reading: its clauses, in every model of the machine
abbrev pub TightIn : (M : Type 1) (T : Ended) → ((𝓤 : Ura M) (𝓛 : Logic 𝓤) → (Memory → SProp 𝓤) → (Routine → Fun 𝓤) → Clauses 𝓤 T) → Type 2
TightIn M T clauses =
    (𝓤 : Ura M) (𝓛 : Logic 𝓤) (mem : Memory → SProp 𝓤) (run : Routine → Fun 𝓤) (κs : Lfts T.signature.lifetimes) (a : Args T.signature κs)
    (g : (clauses 𝓤 𝓛 mem run κs a).ghost) (r q : Res T.signature κs) (ws us : Lasts T κs a)
    → ent 𝓤
    (conj 𝓤 ((clauses 𝓤 𝓛 mem run κs a).ensures g r (at_exit T κs a ws)) ((clauses 𝓤 𝓛 mem run κs a).ensures g q (at_exit T κs a us)))
    (fact 𝓤 ((r ≡ q) × (ws ≡ us)))
