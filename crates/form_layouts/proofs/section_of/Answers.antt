-- `form_layouts::section_of` meets its contract. Assumes nothing.
use native.Mathlib.Omega.{arith}
use Rattle.form_layouts.proofs.KindLaws.{in_section, no_section}
use Rattle.form_layouts.proofs.section_of.Goals as goal

pub returns-in-10-to-19 : goal.returns-in-10-to-19
returns-in-10-to-19 c = in_section _ _ 1 (omega arith) (omega arith) (omega arith)

pub returns-in-20-to-29 : goal.returns-in-20-to-29
returns-in-20-to-29 c = in_section _ _ 2 (omega arith) (omega arith) (omega arith)

pub returns-in-30-to-39 : goal.returns-in-30-to-39
returns-in-30-to-39 c = in_section _ _ 3 (omega arith) (omega arith) (omega arith)

pub returns-in-40-to-49 : goal.returns-in-40-to-49
returns-in-40-to-49 c = in_section _ _ 4 (omega arith) (omega arith) (omega arith)

pub returns-in-50-to-59 : goal.returns-in-50-to-59
returns-in-50-to-59 c = in_section _ _ 5 (omega arith) (omega arith) (omega arith)

pub returns-in-60-to-69 : goal.returns-in-60-to-69
returns-in-60-to-69 c = in_section _ _ 6 (omega arith) (omega arith) (omega arith)

pub returns-in-70-to-79 : goal.returns-in-70-to-79
returns-in-70-to-79 c = in_section _ _ 7 (omega arith) (omega arith) (omega arith)

pub returns-in-80-to-89 : goal.returns-in-80-to-89
returns-in-80-to-89 c = in_section _ _ 8 (omega arith) (omega arith) (omega arith)

pub returns-in-90-to-99 : goal.returns-in-90-to-99
returns-in-90-to-99 c = in_section _ _ 9 (omega arith) (omega arith) (omega arith)

pub returns-in-100-to-109 : goal.returns-in-100-to-109
returns-in-100-to-109 c = in_section _ _ 10 (omega arith) (omega arith) (omega arith)

pub returns-in-110-to-119 : goal.returns-in-110-to-119
returns-in-110-to-119 c = in_section _ _ 11 (omega arith) (omega arith) (omega arith)

pub returns-in-120-to-129 : goal.returns-in-120-to-129
returns-in-120-to-129 c = in_section _ _ 12 (omega arith) (omega arith) (omega arith)

pub returns-in-130-to-139 : goal.returns-in-130-to-139
returns-in-130-to-139 c = in_section _ _ 13 (omega arith) (omega arith) (omega arith)

pub returns-in-140-to-149 : goal.returns-in-140-to-149
returns-in-140-to-149 c = in_section _ _ 14 (omega arith) (omega arith) (omega arith)

pub returns-in-150-to-159 : goal.returns-in-150-to-159
returns-in-150-to-159 c = in_section _ _ 15 (omega arith) (omega arith) (omega arith)

pub returns-in_default : goal.returns-in_default
returns-in_default c = in_section _ _ 0 (omega arith) (omega arith) (omega arith)

pub returns-in_default-2 : goal.returns-in_default-2
returns-in_default-2 c = no_section _ _ (omega arith)
