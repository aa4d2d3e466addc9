-- Fields, lines, loops and records: the contract of each public function leaves no choice.
use mathlib.Core.Path.{refl, sym, ◌∙◌}
use Rattle.line_fields.proofs.is_within.Kinds as line_fields_is_within
use Rattle.line_fields.proofs.is_within.Reads as line_fields_is_within_says
use Rattle.line_fields.proofs.read_field.Kinds as line_fields_read_field
use Rattle.line_fields.proofs.read_field.Reads as line_fields_read_field_says
use Rattle.line_fields.proofs.is_barred.Kinds as line_fields_is_barred
use Rattle.line_fields.proofs.is_barred.Reads as line_fields_is_barred_says
use Rattle.line_rows.proofs.looks.line_kind.Kinds as line_rows_looks_line_kind
use Rattle.line_rows.proofs.looks.line_kind.Reads as line_rows_looks_line_kind_says
use Rattle.line_rows.proofs.columns.fill.Kinds as line_rows_columns_fill
use Rattle.line_rows.proofs.columns.fill.Reads as line_rows_columns_fill_says
use Rattle.order_loops.proofs.loop_after.Kinds as order_loops_loop_after
use Rattle.order_loops.proofs.loop_after.Reads as order_loops_loop_after_says
use Rattle.order_loops.proofs.complete.Kinds as order_loops_complete
use Rattle.order_loops.proofs.complete.Reads as order_loops_complete_says
use Rattle.order_kinds.proofs.role_of.Kinds as order_kinds_role_of
use Rattle.order_kinds.proofs.role_of.Reads as order_kinds_role_of_says
use Rattle.order_kinds.proofs.data_kind.Kinds as order_kinds_data_kind
use Rattle.order_kinds.proofs.data_kind.Reads as order_kinds_data_kind_says
use Rattle.order_kinds.proofs.key_kind.Kinds as order_kinds_key_kind
use Rattle.order_kinds.proofs.key_kind.Reads as order_kinds_key_kind_says
use Rattle.order_states.proofs.stages.may_open.Kinds as order_states_stages_may_open
use Rattle.order_states.proofs.stages.may_open.Reads as order_states_stages_may_open_says
use Rattle.order_states.proofs.accepting.Kinds as order_states_accepting
use Rattle.order_states.proofs.accepting.Reads as order_states_accepting_says
use Rattle.order_states.proofs.may_stand.Kinds as order_states_may_stand
use Rattle.order_states.proofs.may_stand.Reads as order_states_may_stand_says
use Rattle.order_states.proofs.moved.Kinds as order_states_moved
use Rattle.order_states.proofs.moved.Reads as order_states_moved_says
use Rattle.order_states.proofs.stepped.Kinds as order_states_stepped
use Rattle.order_states.proofs.stepped.Reads as order_states_stepped_says
use Rattle.order_states.proofs.refusal_number.Kinds as order_states_refusal_number
use Rattle.order_states.proofs.refusal_number.Reads as order_states_refusal_number_says
use Rattle.order_states.proofs.refusal_of.Kinds as order_states_refusal_of
use Rattle.order_states.proofs.refusal_of.Reads as order_states_refusal_of_says
use Rattle.order_states.proofs.type_at.Kinds as order_states_type_at
use Rattle.order_states.proofs.type_at.Reads as order_states_type_at_says
use Rattle.write_texts.proofs.put_bytes.Kinds as write_texts_put_bytes
use Rattle.write_texts.proofs.put_bytes.Reads as write_texts_put_bytes_says
use Rattle.write_texts.proofs.needs_quotes.Kinds as write_texts_needs_quotes
use Rattle.write_texts.proofs.needs_quotes.Reads as write_texts_needs_quotes_says
use Rattle.write_texts.proofs.text_len.Kinds as write_texts_text_len
use Rattle.write_texts.proofs.text_len.Reads as write_texts_text_len_says
use Rattle.write_texts.proofs.put_meaning.Kinds as write_texts_put_meaning
use Rattle.write_texts.proofs.put_meaning.Reads as write_texts_put_meaning_says
use Rattle.write_texts.proofs.padded_len.Kinds as write_texts_padded_len
use Rattle.write_texts.proofs.padded_len.Reads as write_texts_padded_len_says
use Rattle.write_texts.proofs.put_padded.Kinds as write_texts_put_padded
use Rattle.write_texts.proofs.put_padded.Reads as write_texts_put_padded_says
use Rattle.demands.specs.Tight.{Tight}

-- `line_fields`

pub tight_line_fields_is_within : Tight 0 line_fields_is_within.ps line_fields_is_within.r line_fields_is_within_says.Learnt
tight_line_fields_is_within κs a r q ws us e f = (e ∙ sym f, refl)

pub tight_line_fields_read_field : Tight 1 line_fields_read_field.ps line_fields_read_field.r line_fields_read_field_says.Learnt
tight_line_fields_read_field κs a r q ws us e f = (e ∙ sym f, refl)

pub tight_line_fields_is_barred : Tight 1 line_fields_is_barred.ps line_fields_is_barred.r line_fields_is_barred_says.Learnt
tight_line_fields_is_barred κs a r q ws us e f = (e ∙ sym f, refl)

-- `line_rows`

pub tight_line_rows_looks_line_kind : Tight 1 line_rows_looks_line_kind.ps line_rows_looks_line_kind.r line_rows_looks_line_kind_says.Learnt
tight_line_rows_looks_line_kind κs a r q ws us e f = (e ∙ sym f, refl)

pub tight_line_rows_columns_fill : Tight 1 line_rows_columns_fill.ps line_rows_columns_fill.r line_rows_columns_fill_says.Learnt
tight_line_rows_columns_fill κs a r q ws us e f = (e ∙ sym f, refl)

-- `order_loops`

pub tight_order_loops_loop_after : Tight 0 order_loops_loop_after.ps order_loops_loop_after.r order_loops_loop_after_says.Learnt
tight_order_loops_loop_after κs a r q ws us e f = (e ∙ sym f, refl)

pub tight_order_loops_complete : Tight 0 order_loops_complete.ps order_loops_complete.r order_loops_complete_says.Learnt
tight_order_loops_complete κs a r q ws us e f = (e ∙ sym f, refl)

-- `order_kinds`

pub tight_order_kinds_role_of : Tight 0 order_kinds_role_of.ps order_kinds_role_of.r order_kinds_role_of_says.Learnt
tight_order_kinds_role_of κs a r q ws us e f = (e ∙ sym f, refl)

pub tight_order_kinds_data_kind : Tight 0 order_kinds_data_kind.ps order_kinds_data_kind.r order_kinds_data_kind_says.Learnt
tight_order_kinds_data_kind κs a r q ws us e f = (e ∙ sym f, refl)

pub tight_order_kinds_key_kind : Tight 0 order_kinds_key_kind.ps order_kinds_key_kind.r order_kinds_key_kind_says.Learnt
tight_order_kinds_key_kind κs a r q ws us e f = (e ∙ sym f, refl)

-- `order_states`

pub tight_order_states_stages_may_open : Tight 0 order_states_stages_may_open.ps order_states_stages_may_open.r order_states_stages_may_open_says.Learnt
tight_order_states_stages_may_open κs a r q ws us e f = (e ∙ sym f, refl)

pub tight_order_states_accepting : Tight 0 order_states_accepting.ps order_states_accepting.r order_states_accepting_says.Learnt
tight_order_states_accepting κs a r q ws us e f = (e ∙ sym f, refl)

pub tight_order_states_may_stand : Tight 0 order_states_may_stand.ps order_states_may_stand.r order_states_may_stand_says.Learnt
tight_order_states_may_stand κs a r q ws us e f = (e ∙ sym f, refl)

pub tight_order_states_moved : Tight 0 order_states_moved.ps order_states_moved.r order_states_moved_says.Learnt
tight_order_states_moved κs a r q ws us e f = (e ∙ sym f, refl)

pub tight_order_states_stepped : Tight 0 order_states_stepped.ps order_states_stepped.r order_states_stepped_says.Learnt
tight_order_states_stepped κs a r q ws us e f = (e ∙ sym f, refl)

pub tight_order_states_refusal_of : Tight 0 order_states_refusal_of.ps order_states_refusal_of.r order_states_refusal_of_says.Learnt
tight_order_states_refusal_of κs a r q ws us e f = (e ∙ sym f, refl)

pub tight_order_states_refusal_number : Tight 0 order_states_refusal_number.ps order_states_refusal_number.r order_states_refusal_number_says.Learnt
tight_order_states_refusal_number κs a r q ws us e f = (e ∙ sym f, refl)

pub tight_order_states_type_at : Tight 0 order_states_type_at.ps order_states_type_at.r order_states_type_at_says.Learnt
tight_order_states_type_at κs a r q ws us e f = (e ∙ sym f, refl)

-- `write_texts`

pub tight_write_texts_put_bytes : Tight 2 write_texts_put_bytes.ps write_texts_put_bytes.r write_texts_put_bytes_says.Learnt
tight_write_texts_put_bytes κs a r q ws us e f = (e.next ∙ sym f.next, λ i. ((e.is ∙ sym f.is) i, ws.1))

pub tight_write_texts_needs_quotes : Tight 1 write_texts_needs_quotes.ps write_texts_needs_quotes.r write_texts_needs_quotes_says.Learnt
tight_write_texts_needs_quotes κs a r q ws us e f = (e ∙ sym f, refl)

pub tight_write_texts_text_len : Tight 1 write_texts_text_len.ps write_texts_text_len.r write_texts_text_len_says.Learnt
tight_write_texts_text_len κs a r q ws us e f = (e ∙ sym f, refl)

pub tight_write_texts_put_meaning : Tight 2 write_texts_put_meaning.ps write_texts_put_meaning.r write_texts_put_meaning_says.Learnt
tight_write_texts_put_meaning κs a r q ws us e f = (e.next ∙ sym f.next, λ i. ((e.is ∙ sym f.is) i, ws.1))

pub tight_write_texts_padded_len : Tight 1 write_texts_padded_len.ps write_texts_padded_len.r write_texts_padded_len_says.Learnt
tight_write_texts_padded_len κs a r q ws us e f = (e ∙ sym f, refl)

pub tight_write_texts_put_padded : Tight 2 write_texts_put_padded.ps write_texts_put_padded.r write_texts_put_padded_says.Learnt
tight_write_texts_put_padded κs a r q ws us e f = (e.next ∙ sym f.next, λ i. ((e.is ∙ sym f.is) i, ws.1))
