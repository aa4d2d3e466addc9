-- Comparing, judging and writing: the contract of each public function leaves no choice.
use mathlib.Core.Path.{refl, sym, ◌∙◌}
use Rattle.same.proofs.same.Kinds as same_same
use Rattle.same.proofs.same.Reads as same_same_says
use Rattle.same.proofs.lists.same_lists.Kinds as same_lists_same_lists
use Rattle.same.proofs.lists.same_lists.Reads as same_lists_same_lists_says
use Rattle.same.proofs.records.same_row.Kinds as same_records_same_row
use Rattle.same.proofs.records.same_row.Reads as same_records_same_row_says
use Rattle.judge_stock.proofs.is_in.Kinds as judge_stock_is_in
use Rattle.judge_stock.proofs.is_in.Reads as judge_stock_is_in_says
use Rattle.judge_stock.proofs.fill.Kinds as judge_stock_fill
use Rattle.judge_stock.proofs.fill.Reads as judge_stock_fill_says
use Rattle.judge_stock.proofs.has_place.Kinds as judge_stock_has_place
use Rattle.judge_stock.proofs.has_place.Reads as judge_stock_has_place_says
use Rattle.judge.proofs.entries.is_of.Kinds as judge_entries_is_of
use Rattle.judge.proofs.entries.is_of.Reads as judge_entries_is_of_says
use Rattle.judge.proofs.entries.lacks.Kinds as judge_entries_lacks
use Rattle.judge.proofs.entries.lacks.Reads as judge_entries_lacks_says
use Rattle.judge.proofs.parts.placed.Kinds as judge_parts_placed
use Rattle.judge.proofs.parts.placed.Reads as judge_parts_placed_says
use Rattle.judge.proofs.whole.judge.Kinds as judge_whole_judge
use Rattle.judge.proofs.whole.judge.Reads as judge_whole_judge_says
use Rattle.write_columns.proofs.row_fits.Kinds as write_columns_row_fits
use Rattle.write_columns.proofs.row_fits.Reads as write_columns_row_fits_says
use Rattle.write_lines.proofs.line_len.Kinds as write_lines_line_len
use Rattle.write_lines.proofs.line_len.Reads as write_lines_line_len_says
use Rattle.write_lines.proofs.put_line.Kinds as write_lines_put_line
use Rattle.write_lines.proofs.put_line.Reads as write_lines_put_line_says
use Rattle.write.proofs.whole.write.Kinds as write_whole_write
use Rattle.write.proofs.whole.write.Reads as write_whole_write_says
use Rattle.demands.specs.Tight.{Tight}

-- `same`

pub tight_same_same : Tight 2 same_same.ps same_same.r same_same_says.Learnt
tight_same_same κs a r q ws us e f = (e ∙ sym f, refl)

pub tight_same_lists_same_lists : Tight 2 same_lists_same_lists.ps same_lists_same_lists.r same_lists_same_lists_says.Learnt
tight_same_lists_same_lists κs a r q ws us e f = (e ∙ sym f, refl)

pub tight_same_records_same_row : Tight 2 same_records_same_row.ps same_records_same_row.r same_records_same_row_says.Learnt
tight_same_records_same_row κs a r q ws us e f = (e ∙ sym f, refl)

-- `judge_stock`

pub tight_judge_stock_is_in : Tight 0 judge_stock_is_in.ps judge_stock_is_in.r judge_stock_is_in_says.Learnt
tight_judge_stock_is_in κs a r q ws us e f = (e ∙ sym f, refl)

pub tight_judge_stock_fill : Tight 2 judge_stock_fill.ps judge_stock_fill.r judge_stock_fill_says.Learnt
tight_judge_stock_fill κs a r q ws us e f = (e.0 ∙ sym f.0, λ i. (ws.0, (ws.1.0, (ws.1.1.0, ((e.1 ∙ sym f.1) i, ws.1.1.1.1)))))

pub tight_judge_stock_has_place : Tight 3 judge_stock_has_place.ps judge_stock_has_place.r judge_stock_has_place_says.Learnt
tight_judge_stock_has_place κs a r q ws us e f = (e ∙ sym f, refl)

-- `judge`

pub tight_judge_entries_is_of : Tight 0 judge_entries_is_of.ps judge_entries_is_of.r judge_entries_is_of_says.Learnt
tight_judge_entries_is_of κs a r q ws us e f = (e ∙ sym f, refl)

pub tight_judge_entries_lacks : Tight 3 judge_entries_lacks.ps judge_entries_lacks.r judge_entries_lacks_says.Learnt
tight_judge_entries_lacks κs a r q ws us e f = (e ∙ sym f, refl)

pub tight_judge_parts_placed : Tight 2 judge_parts_placed.ps judge_parts_placed.r judge_parts_placed_says.Learnt
tight_judge_parts_placed κs a r q ws us e f = (e ∙ sym f, refl)

pub tight_judge_whole_judge : Tight 2 judge_whole_judge.ps judge_whole_judge.r judge_whole_judge_says.Learnt
tight_judge_whole_judge κs a r q ws us e f = (e ∙ sym f, refl)

-- `write_columns`

pub tight_write_columns_row_fits : Tight 1 write_columns_row_fits.ps write_columns_row_fits.r write_columns_row_fits_says.Learnt
tight_write_columns_row_fits κs a r q ws us e f = (e ∙ sym f, refl)

-- `write_lines`

pub tight_write_lines_line_len : Tight 1 write_lines_line_len.ps write_lines_line_len.r write_lines_line_len_says.Learnt
tight_write_lines_line_len κs a r q ws us e f = (e ∙ sym f, refl)

pub tight_write_lines_put_line : Tight 2 write_lines_put_line.ps write_lines_put_line.r write_lines_put_line_says.Learnt
tight_write_lines_put_line κs a r q ws us e f = (e.next ∙ sym f.next, λ i. ((e.is ∙ sym f.is) i, ws.1))

-- `write`

pub tight_write_whole_write : Tight 3 write_whole_write.ps write_whole_write.r write_whole_write_says.Learnt
tight_write_whole_write κs a r q ws us e f = (e.0 ∙ sym f.0, λ i. (ws.0, (ws.1.0, ((e.1 ∙ sym f.1) i, ws.1.1.1))))
