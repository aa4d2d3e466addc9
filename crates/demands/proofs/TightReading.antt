-- Reading: the contract of each public function leaves no choice.
use mathlib.Core.Path.{refl, sym, ◌∙◌}
use Rattle.walk.proofs.line.judge_line.Kinds as walk_line_judge_line
use Rattle.walk.proofs.line.judge_line.Reads as walk_line_judge_line_says
use Rattle.walk.proofs.steps.begin.Kinds as walk_steps_begin
use Rattle.walk.proofs.steps.begin.Reads as walk_steps_begin_says
use Rattle.walk.proofs.steps.turn.Kinds as walk_steps_turn
use Rattle.walk.proofs.steps.turn.Reads as walk_steps_turn_says
use Rattle.walk.proofs.steps.stops.Kinds as walk_steps_stops
use Rattle.walk.proofs.steps.stops.Reads as walk_steps_stops_says
use Rattle.walk.proofs.steps.is_row.Kinds as walk_steps_is_row
use Rattle.walk.proofs.steps.is_row.Reads as walk_steps_is_row_says
use Rattle.names.proofs.names_component.Kinds as names_names_component
use Rattle.names.proofs.names_component.Reads as names_names_component_says
use Rattle.names.proofs.is_doubtful.Kinds as names_is_doubtful
use Rattle.names.proofs.is_doubtful.Reads as names_is_doubtful_says
use Rattle.names.proofs.is_again.Kinds as names_is_again
use Rattle.names.proofs.is_again.Reads as names_is_again_says
use Rattle.names.proofs.first_repeat.Kinds as names_first_repeat
use Rattle.names.proofs.first_repeat.Reads as names_first_repeat_says
use Rattle.read.proofs.lent.put_row.Kinds as read_lent_put_row
use Rattle.read.proofs.lent.put_row.Reads as read_lent_put_row_says
use Rattle.read.proofs.lent.put_rows.Kinds as read_lent_put_rows
use Rattle.read.proofs.lent.put_rows.Reads as read_lent_put_rows_says
use Rattle.read.proofs.whole.check.Kinds as read_whole_check
use Rattle.read.proofs.whole.check.Reads as read_whole_check_says
use Rattle.read.proofs.whole.read.Kinds as read_whole_read
use Rattle.read.proofs.whole.read.Reads as read_whole_read_says
use Rattle.read.proofs.whole.examined.Kinds as read_whole_examined
use Rattle.read.proofs.whole.examined.Reads as read_whole_examined_says
use Rattle.demands.specs.Tight.{Tight}

-- `walk`

pub tight_walk_line_judge_line : Tight 1 walk_line_judge_line.ps walk_line_judge_line.r walk_line_judge_line_says.Learnt
tight_walk_line_judge_line κs a r q ws us e f = (e ∙ sym f, refl)

pub tight_walk_steps_begin : Tight 0 walk_steps_begin.ps walk_steps_begin.r walk_steps_begin_says.Learnt
tight_walk_steps_begin κs a r q ws us e f = (e ∙ sym f, refl)

pub tight_walk_steps_turn : Tight 2 walk_steps_turn.ps walk_steps_turn.r walk_steps_turn_says.Learnt
tight_walk_steps_turn κs a r q ws us e f = (e ∙ sym f, refl)

pub tight_walk_steps_stops : Tight 0 walk_steps_stops.ps walk_steps_stops.r walk_steps_stops_says.Learnt
tight_walk_steps_stops κs a r q ws us e f = (e ∙ sym f, refl)

pub tight_walk_steps_is_row : Tight 0 walk_steps_is_row.ps walk_steps_is_row.r walk_steps_is_row_says.Learnt
tight_walk_steps_is_row κs a r q ws us e f = (e ∙ sym f, refl)

-- `names`

pub tight_names_names_component : Tight 0 names_names_component.ps names_names_component.r names_names_component_says.Learnt
tight_names_names_component κs a r q ws us e f = (e ∙ sym f, refl)

pub tight_names_is_doubtful : Tight 3 names_is_doubtful.ps names_is_doubtful.r names_is_doubtful_says.Learnt
tight_names_is_doubtful κs a r q ws us e f =
    (e.0 ∙ sym f.0, λ i. (ws.0, (ws.1.0, (ws.1.1.0, ((e.1.0 ∙ sym f.1.0) i, ((e.1.1 ∙ sym f.1.1) i, ws.1.1.1.1.1))))))

pub tight_names_is_again : Tight 3 names_is_again.ps names_is_again.r names_is_again_says.Learnt
tight_names_is_again κs a r q ws us e f = (e.0 ∙ sym f.0, λ i. (ws.0, (ws.1.0, (ws.1.1.0, (ws.1.1.1.0, ((e.1 ∙ sym f.1) i, ws.1.1.1.1.1))))))

pub tight_names_first_repeat : Tight 2 names_first_repeat.ps names_first_repeat.r names_first_repeat_says.Learnt
tight_names_first_repeat κs a r q ws us e f = (e ∙ sym f, refl)

-- `read`

pub tight_read_lent_put_row : Tight 1 read_lent_put_row.ps read_lent_put_row.r read_lent_put_row_says.Learnt
tight_read_lent_put_row κs a r q ws us e f = (refl, λ i. ((e ∙ sym f) i, ws.1))

pub tight_read_lent_put_rows : Tight 2 read_lent_put_rows.ps read_lent_put_rows.r read_lent_put_rows_says.Learnt
tight_read_lent_put_rows κs a r q ws us e f = (refl, λ i. (ws.0, ((e ∙ sym f) i, ws.1.1)))

pub tight_read_whole_check : Tight 1 read_whole_check.ps read_whole_check.r read_whole_check_says.Learnt
tight_read_whole_check κs a r q ws us e f = (e ∙ sym f, refl)

pub tight_read_whole_read : Tight 2 read_whole_read.ps read_whole_read.r read_whole_read_says.Learnt
tight_read_whole_read κs a r q ws us e f = (e.0 ∙ sym f.0, λ i. (ws.0, ((e.1 ∙ sym f.1) i, ws.1.1)))

pub tight_read_whole_examined : Tight 1 read_whole_examined.ps read_whole_examined.r read_whole_examined_says.Learnt
tight_read_whole_examined κs a r q ws us e f = (e ∙ sym f, refl)
