-- `form_words::rows_of` meets its contract. Assumes nothing.
use Rattle.form_words.specs.Padded.{word_table}
use Rattle.form_words.proofs.SeekLaws.{rows_by}
use Rattle.form_words.proofs.rows_of.Goals as goal

pub returns-in-FileTypes : goal.returns-in-FileTypes
unfolding word_table
returns-in-FileTypes c = rows_by c.args.v c.args.l _ c.in-FileTypes.is

pub returns-in-Units : goal.returns-in-Units
unfolding word_table
returns-in-Units c = rows_by c.args.v c.args.l _ c.in-Units.is

pub returns-in-Owners : goal.returns-in-Owners
unfolding word_table
returns-in-Owners c = rows_by c.args.v c.args.l _ c.in-Owners.is

pub returns-in-Faces : goal.returns-in-Faces
unfolding word_table
returns-in-Faces c = rows_by c.args.v c.args.l _ c.in-Faces.is

pub returns-in-Sides : goal.returns-in-Sides
unfolding word_table
returns-in-Sides c = rows_by c.args.v c.args.l _ c.in-Sides.is

pub returns-in-Layers : goal.returns-in-Layers
unfolding word_table
returns-in-Layers c = rows_by c.args.v c.args.l _ c.in-Layers.is

pub returns-in-Plates : goal.returns-in-Plates
unfolding word_table
returns-in-Plates c = rows_by c.args.v c.args.l _ c.in-Plates.is

pub returns-in-Statuses : goal.returns-in-Statuses
unfolding word_table
returns-in-Statuses c = rows_by c.args.v c.args.l _ c.in-Statuses.is
