-- `text::class` meets its contract: each arm's numbers say which law of `class_of` holds.
-- Assumes nothing.
use native.Mathlib.Omega.{arith}
use Rattle.text.proofs.ByteLaws.{space_class, quote_class, low_class, high_class, control_class, delete_class}
use Rattle.text.proofs.class.Goals as goal

pub returns-in-32 : goal.returns-in-32
returns-in-32 c = space_class _ (omega arith)

pub returns-in-34 : goal.returns-in-34
returns-in-34 c = quote_class _ (omega arith)

pub returns-in_default : goal.returns-in_default
returns-in_default c = control_class _ (omega arith)

pub returns-in_default-2 : goal.returns-in_default-2
returns-in_default-2 c = delete_class _ (omega arith)

pub returns-in-33 : goal.returns-in-33
returns-in-33 c = low_class _ (omega arith) (omega arith) (omega arith) (omega arith)

pub returns-in-33-2 : goal.returns-in-33-2
returns-in-33-2 c = low_class _ (omega arith) (omega arith) (omega arith) (omega arith)

pub returns-in-33-3 : goal.returns-in-33-3
returns-in-33-3 c = high_class _ (omega arith) (omega arith)
