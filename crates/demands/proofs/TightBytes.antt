-- Bytes, numbers and the format's tables: the contract of each public function leaves no choice.
use mathlib.Core.Path.{refl, sym, ◌∙◌}
use Rattle.law.proofs.refusals.Refusal.number.Kinds as law_refusals_Refusal_number
use Rattle.law.proofs.refusals.Refusal.number.Reads as law_refusals_Refusal_number_says
use Rattle.basics.proofs.same_bytes.Kinds as basics_same_bytes
use Rattle.basics.proofs.same_bytes.Reads as basics_same_bytes_says
use Rattle.basics.proofs.same_letters.Kinds as basics_same_letters
use Rattle.basics.proofs.same_letters.Reads as basics_same_letters_says
use Rattle.basics.proofs.capital_of.Kinds as basics_capital_of
use Rattle.basics.proofs.capital_of.Reads as basics_capital_of_says
use Rattle.basics.proofs.same_integers.Kinds as basics_same_integers
use Rattle.basics.proofs.same_integers.Reads as basics_same_integers_says
use Rattle.text.proofs.class.Kinds as text_class
use Rattle.text.proofs.class.Reads as text_class_says
use Rattle.text.proofs.permits.Kinds as text_permits
use Rattle.text.proofs.permits.Reads as text_permits_says
use Rattle.text.proofs.clean.Kinds as text_clean
use Rattle.text.proofs.clean.Reads as text_clean_says
use Rattle.text.proofs.line_end.Kinds as text_line_end
use Rattle.text.proofs.line_end.Reads as text_line_end_says
use Rattle.text.proofs.begins_with.Kinds as text_begins_with
use Rattle.text.proofs.begins_with.Reads as text_begins_with_says
use Rattle.text_fields.proofs.field.Kinds as text_fields_field
use Rattle.text_fields.proofs.field.Reads as text_fields_field_says
use Rattle.text_fields.proofs.count_fields.Kinds as text_fields_count_fields
use Rattle.text_fields.proofs.count_fields.Reads as text_fields_count_fields_says
use Rattle.number.proofs.magnitude.Kinds as number_magnitude
use Rattle.number.proofs.magnitude.Reads as number_magnitude_says
use Rattle.number.proofs.is_below.Kinds as number_is_below
use Rattle.number.proofs.is_below.Reads as number_is_below_says
use Rattle.number.proofs.Length.new.Kinds as number_Length_new
use Rattle.number.proofs.Length.new.Reads as number_Length_new_says
use Rattle.number.proofs.Length.count.Kinds as number_Length_count
use Rattle.number.proofs.Length.count.Reads as number_Length_count_says
use Rattle.number.proofs.Angle.new.Kinds as number_Angle_new
use Rattle.number.proofs.Angle.new.Reads as number_Angle_new_says
use Rattle.number.proofs.Angle.included.Kinds as number_Angle_included
use Rattle.number.proofs.Angle.included.Reads as number_Angle_included_says
use Rattle.number.proofs.Angle.count.Kinds as number_Angle_count
use Rattle.number.proofs.Angle.count.Reads as number_Angle_count_says
use Rattle.number.proofs.Integer.new.Kinds as number_Integer_new
use Rattle.number.proofs.Integer.new.Reads as number_Integer_new_says
use Rattle.number.proofs.Integer.value.Kinds as number_Integer_value
use Rattle.number.proofs.Integer.value.Reads as number_Integer_value_says
use Rattle.number_read.proofs.number.Kinds as number_read_number
use Rattle.number_read.proofs.number.Reads as number_read_number_says
use Rattle.number_read.proofs.integer.Kinds as number_read_integer
use Rattle.number_read.proofs.integer.Reads as number_read_integer_says
use Rattle.number_read.proofs.is_date.Kinds as number_read_is_date
use Rattle.number_read.proofs.is_date.Reads as number_read_is_date_says
use Rattle.number_print.proofs.put_byte.Kinds as number_print_put_byte
use Rattle.number_print.proofs.put_byte.Reads as number_print_put_byte_says
use Rattle.number_print.proofs.put_count.Kinds as number_print_put_count
use Rattle.number_print.proofs.put_count.Reads as number_print_put_count_says
use Rattle.number_print.proofs.put_integer.Kinds as number_print_put_integer
use Rattle.number_print.proofs.put_integer.Reads as number_print_put_integer_says
use Rattle.number_print.proofs.count_len.Kinds as number_print_count_len
use Rattle.number_print.proofs.count_len.Reads as number_print_count_len_says
use Rattle.number_print.proofs.integer_len.Kinds as number_print_integer_len
use Rattle.number_print.proofs.integer_len.Reads as number_print_integer_len_says
use Rattle.rows.proofs.point_in.Kinds as rows_point_in
use Rattle.rows.proofs.point_in.Reads as rows_point_in_says
use Rattle.rows.proofs.file_type_in.Kinds as rows_file_type_in
use Rattle.rows.proofs.file_type_in.Reads as rows_file_type_in_says
use Rattle.rows.proofs.leads_component.Kinds as rows_leads_component
use Rattle.rows.proofs.leads_component.Reads as rows_leads_component_says
use Rattle.rows.proofs.capacity.Kinds as rows_capacity
use Rattle.rows.proofs.capacity.Reads as rows_capacity_says
use Rattle.rows.proofs.column_at.Kinds as rows_column_at
use Rattle.rows.proofs.column_at.Reads as rows_column_at_says
use Rattle.rows.proofs.has_kind.Kinds as rows_has_kind
use Rattle.rows.proofs.has_kind.Reads as rows_has_kind_says
use Rattle.rows.proofs.component_kind.Kinds as rows_component_kind
use Rattle.rows.proofs.component_kind.Reads as rows_component_kind_says
use Rattle.rows.proofs.is_library.Kinds as rows_is_library
use Rattle.rows.proofs.is_library.Reads as rows_is_library_says
use Rattle.rows_names.proofs.is_named.Kinds as rows_names_is_named
use Rattle.rows_names.proofs.is_named.Reads as rows_names_is_named_says
use Rattle.rows_names.proofs.means.Kinds as rows_names_means
use Rattle.rows_names.proofs.means.Reads as rows_names_means_says
use Rattle.rows_names.proofs.same_meanings.Kinds as rows_names_same_meanings
use Rattle.rows_names.proofs.same_meanings.Reads as rows_names_same_meanings_says
use Rattle.rows_texts.proofs.text_is.Kinds as rows_texts_text_is
use Rattle.rows_texts.proofs.text_is.Reads as rows_texts_text_is_says
use Rattle.rows_texts.proofs.same_meanings.Kinds as rows_texts_same_meanings
use Rattle.rows_texts.proofs.same_meanings.Reads as rows_texts_same_meanings_says
use Rattle.rows_texts.proofs.same_texts.Kinds as rows_texts_same_texts
use Rattle.rows_texts.proofs.same_texts.Reads as rows_texts_same_texts_says
use Rattle.rows_texts.proofs.hash_text.Kinds as rows_texts_hash_text
use Rattle.rows_texts.proofs.hash_text.Reads as rows_texts_hash_text_says
use Rattle.rows_texts.proofs.same_names.Kinds as rows_texts_same_names
use Rattle.rows_texts.proofs.same_names.Reads as rows_texts_same_names_says
use Rattle.rows_texts.proofs.hash_name.Kinds as rows_texts_hash_name
use Rattle.rows_texts.proofs.hash_name.Reads as rows_texts_hash_name_says
use Rattle.rows_texts.proofs.refers.Kinds as rows_texts_refers
use Rattle.rows_texts.proofs.refers.Reads as rows_texts_refers_says
use Rattle.form_layouts.proofs.section_of.Kinds as form_layouts_section_of
use Rattle.form_layouts.proofs.section_of.Reads as form_layouts_section_of_says
use Rattle.form_layouts.proofs.is_kind.Kinds as form_layouts_is_kind
use Rattle.form_layouts.proofs.is_kind.Reads as form_layouts_is_kind_says
use Rattle.form_layouts.proofs.field_count.Kinds as form_layouts_field_count
use Rattle.form_layouts.proofs.field_count.Reads as form_layouts_field_count_says
use Rattle.form_layouts.proofs.width_of.Kinds as form_layouts_width_of
use Rattle.form_layouts.proofs.width_of.Reads as form_layouts_width_of_says
use Rattle.form_layouts.proofs.row_of.Kinds as form_layouts_row_of
use Rattle.form_layouts.proofs.row_of.Reads as form_layouts_row_of_says
use Rattle.form_layouts.proofs.field_type.Kinds as form_layouts_field_type
use Rattle.form_layouts.proofs.field_type.Reads as form_layouts_field_type_says
use Rattle.form_words.proofs.place_of.Kinds as form_words_place_of
use Rattle.form_words.proofs.place_of.Reads as form_words_place_of_says
use Rattle.form_words.proofs.word_row.Kinds as form_words_word_row
use Rattle.form_words.proofs.word_row.Reads as form_words_word_row_says
use Rattle.form_words.proofs.name_row.Kinds as form_words_name_row
use Rattle.form_words.proofs.name_row.Reads as form_words_name_row_says
use Rattle.form_words.proofs.closing_row.Kinds as form_words_closing_row
use Rattle.form_words.proofs.closing_row.Reads as form_words_closing_row_says
use Rattle.form_words.proofs.is_prop.Kinds as form_words_is_prop
use Rattle.form_words.proofs.is_prop.Reads as form_words_is_prop_says
use Rattle.form_words.proofs.read_keyword.Kinds as form_words_read_keyword
use Rattle.form_words.proofs.read_keyword.Reads as form_words_read_keyword_says
use Rattle.names_slots.proofs.hash.Kinds as names_slots_hash
use Rattle.names_slots.proofs.hash.Reads as names_slots_hash_says
use Rattle.names_slots.proofs.slot_of.Kinds as names_slots_slot_of
use Rattle.names_slots.proofs.slot_of.Reads as names_slots_slot_of_says
use Rattle.names_slots.proofs.marks.may_hold.Kinds as names_slots_marks_may_hold
use Rattle.names_slots.proofs.marks.may_hold.Reads as names_slots_marks_may_hold_says
use Rattle.names_slots.proofs.marks.mark.Kinds as names_slots_marks_mark
use Rattle.names_slots.proofs.marks.mark.Reads as names_slots_marks_mark_says
use Rattle.names_slots.proofs.place.Kinds as names_slots_place
use Rattle.names_slots.proofs.place.Reads as names_slots_place_says
use Rattle.demands.specs.Tight.{Tight}

-- `basics`

pub tight_law_refusals_Refusal_number : Tight 0 law_refusals_Refusal_number.ps law_refusals_Refusal_number.r law_refusals_Refusal_number_says.Learnt
tight_law_refusals_Refusal_number κs a r q ws us e f = (e ∙ sym f, refl)

pub tight_basics_same_bytes : Tight 2 basics_same_bytes.ps basics_same_bytes.r basics_same_bytes_says.Learnt
tight_basics_same_bytes κs a r q ws us e f = (e ∙ sym f, refl)

pub tight_basics_same_letters : Tight 2 basics_same_letters.ps basics_same_letters.r basics_same_letters_says.Learnt
tight_basics_same_letters κs a r q ws us e f = (e ∙ sym f, refl)

pub tight_basics_capital_of : Tight 0 basics_capital_of.ps basics_capital_of.r basics_capital_of_says.Learnt
tight_basics_capital_of κs a r q ws us e f = (e ∙ sym f, refl)

pub tight_basics_same_integers : Tight 0 basics_same_integers.ps basics_same_integers.r basics_same_integers_says.Learnt
tight_basics_same_integers κs a r q ws us e f = (e ∙ sym f, refl)

-- `text`

pub tight_text_class : Tight 0 text_class.ps text_class.r text_class_says.Learnt
tight_text_class κs a r q ws us e f = (e ∙ sym f, refl)

pub tight_text_permits : Tight 0 text_permits.ps text_permits.r text_permits_says.Learnt
tight_text_permits κs a r q ws us e f = (e ∙ sym f, refl)

pub tight_text_clean : Tight 1 text_clean.ps text_clean.r text_clean_says.Learnt
tight_text_clean κs a r q ws us e f = (e ∙ sym f, refl)

pub tight_text_line_end : Tight 1 text_line_end.ps text_line_end.r text_line_end_says.Learnt
tight_text_line_end κs a r q ws us e f = (e ∙ sym f, refl)

pub tight_text_begins_with : Tight 1 text_begins_with.ps text_begins_with.r text_begins_with_says.Learnt
tight_text_begins_with κs a r q ws us e f = (e ∙ sym f, refl)

-- `text_fields`

pub tight_text_fields_field : Tight 1 text_fields_field.ps text_fields_field.r text_fields_field_says.Learnt
tight_text_fields_field κs a r q ws us e f = (e ∙ sym f, refl)

pub tight_text_fields_count_fields : Tight 1 text_fields_count_fields.ps text_fields_count_fields.r text_fields_count_fields_says.Learnt
tight_text_fields_count_fields κs a r q ws us e f = (e ∙ sym f, refl)

-- `number`

pub tight_number_magnitude : Tight 0 number_magnitude.ps number_magnitude.r number_magnitude_says.Learnt
tight_number_magnitude κs a r q ws us e f = (e ∙ sym f, refl)

pub tight_number_is_below : Tight 0 number_is_below.ps number_is_below.r number_is_below_says.Learnt
tight_number_is_below κs a r q ws us e f = (e ∙ sym f, refl)

pub tight_number_Length_new : Tight 0 number_Length_new.ps number_Length_new.r number_Length_new_says.Learnt
tight_number_Length_new κs a r q ws us e f = (e ∙ sym f, refl)

pub tight_number_Length_count : Tight 0 number_Length_count.ps number_Length_count.r number_Length_count_says.Learnt
tight_number_Length_count κs a r q ws us e f = (e ∙ sym f, refl)

pub tight_number_Angle_new : Tight 0 number_Angle_new.ps number_Angle_new.r number_Angle_new_says.Learnt
tight_number_Angle_new κs a r q ws us e f = (e ∙ sym f, refl)

pub tight_number_Angle_included : Tight 0 number_Angle_included.ps number_Angle_included.r number_Angle_included_says.Learnt
tight_number_Angle_included κs a r q ws us e f = (e ∙ sym f, refl)

pub tight_number_Angle_count : Tight 0 number_Angle_count.ps number_Angle_count.r number_Angle_count_says.Learnt
tight_number_Angle_count κs a r q ws us e f = (e ∙ sym f, refl)

pub tight_number_Integer_new : Tight 0 number_Integer_new.ps number_Integer_new.r number_Integer_new_says.Learnt
tight_number_Integer_new κs a r q ws us e f = (e ∙ sym f, refl)

pub tight_number_Integer_value : Tight 0 number_Integer_value.ps number_Integer_value.r number_Integer_value_says.Learnt
tight_number_Integer_value κs a r q ws us e f = (e ∙ sym f, refl)

-- `number_read`

pub tight_number_read_number : Tight 1 number_read_number.ps number_read_number.r number_read_number_says.Learnt
tight_number_read_number κs a r q ws us e f = (e ∙ sym f, refl)

pub tight_number_read_integer : Tight 1 number_read_integer.ps number_read_integer.r number_read_integer_says.Learnt
tight_number_read_integer κs a r q ws us e f = (e ∙ sym f, refl)

pub tight_number_read_is_date : Tight 1 number_read_is_date.ps number_read_is_date.r number_read_is_date_says.Learnt
tight_number_read_is_date κs a r q ws us e f = (e ∙ sym f, refl)

-- `number_print`

pub tight_number_print_put_byte : Tight 1 number_print_put_byte.ps number_print_put_byte.r number_print_put_byte_says.Learnt
tight_number_print_put_byte κs a r q ws us e f = (e.next ∙ sym f.next, λ i. ((e.is ∙ sym f.is) i, ws.1))

pub tight_number_print_put_count : Tight 1 number_print_put_count.ps number_print_put_count.r number_print_put_count_says.Learnt
tight_number_print_put_count κs a r q ws us e f = (e.next ∙ sym f.next, λ i. ((e.is ∙ sym f.is) i, ws.1))

pub tight_number_print_put_integer : Tight 1 number_print_put_integer.ps number_print_put_integer.r number_print_put_integer_says.Learnt
tight_number_print_put_integer κs a r q ws us e f = (e.next ∙ sym f.next, λ i. ((e.is ∙ sym f.is) i, ws.1))

pub tight_number_print_count_len : Tight 0 number_print_count_len.ps number_print_count_len.r number_print_count_len_says.Learnt
tight_number_print_count_len κs a r q ws us e f = (e ∙ sym f, refl)

pub tight_number_print_integer_len : Tight 0 number_print_integer_len.ps number_print_integer_len.r number_print_integer_len_says.Learnt
tight_number_print_integer_len κs a r q ws us e f = (e ∙ sym f, refl)

-- `rows`

pub tight_rows_point_in : Tight 0 rows_point_in.ps rows_point_in.r rows_point_in_says.Learnt
tight_rows_point_in κs a r q ws us e f = (e ∙ sym f, refl)

pub tight_rows_file_type_in : Tight 0 rows_file_type_in.ps rows_file_type_in.r rows_file_type_in_says.Learnt
tight_rows_file_type_in κs a r q ws us e f = (e ∙ sym f, refl)

pub tight_rows_leads_component : Tight 0 rows_leads_component.ps rows_leads_component.r rows_leads_component_says.Learnt
tight_rows_leads_component κs a r q ws us e f = (e ∙ sym f, refl)

pub tight_rows_capacity : Tight 0 rows_capacity.ps rows_capacity.r rows_capacity_says.Learnt
tight_rows_capacity κs a r q ws us e f = (e ∙ sym f, refl)

pub tight_rows_column_at : Tight 1 rows_column_at.ps rows_column_at.r rows_column_at_says.Learnt
tight_rows_column_at κs a r q ws us e f = (e ∙ sym f, refl)

pub tight_rows_has_kind : Tight 0 rows_has_kind.ps rows_has_kind.r rows_has_kind_says.Learnt
tight_rows_has_kind κs a r q ws us e f = (e ∙ sym f, refl)

pub tight_rows_component_kind : Tight 0 rows_component_kind.ps rows_component_kind.r rows_component_kind_says.Learnt
tight_rows_component_kind κs a r q ws us e f = (e ∙ sym f, refl)

pub tight_rows_is_library : Tight 0 rows_is_library.ps rows_is_library.r rows_is_library_says.Learnt
tight_rows_is_library κs a r q ws us e f = (e ∙ sym f, refl)

-- `rows_names`

pub tight_rows_names_is_named : Tight 1 rows_names_is_named.ps rows_names_is_named.r rows_names_is_named_says.Learnt
tight_rows_names_is_named κs a r q ws us e f = (e ∙ sym f, refl)

pub tight_rows_names_means : Tight 2 rows_names_means.ps rows_names_means.r rows_names_means_says.Learnt
tight_rows_names_means κs a r q ws us e f = (e ∙ sym f, refl)

pub tight_rows_names_same_meanings : Tight 2 rows_names_same_meanings.ps rows_names_same_meanings.r rows_names_same_meanings_says.Learnt
tight_rows_names_same_meanings κs a r q ws us e f = (e ∙ sym f, refl)

-- `rows_texts`

pub tight_rows_texts_text_is : Tight 2 rows_texts_text_is.ps rows_texts_text_is.r rows_texts_text_is_says.Learnt
tight_rows_texts_text_is κs a r q ws us e f = (e ∙ sym f, refl)

pub tight_rows_texts_same_meanings : Tight 2 rows_texts_same_meanings.ps rows_texts_same_meanings.r rows_texts_same_meanings_says.Learnt
tight_rows_texts_same_meanings κs a r q ws us e f = (e ∙ sym f, refl)

pub tight_rows_texts_same_texts : Tight 2 rows_texts_same_texts.ps rows_texts_same_texts.r rows_texts_same_texts_says.Learnt
tight_rows_texts_same_texts κs a r q ws us e f = (e ∙ sym f, refl)

pub tight_rows_texts_hash_text : Tight 1 rows_texts_hash_text.ps rows_texts_hash_text.r rows_texts_hash_text_says.Learnt
tight_rows_texts_hash_text κs a r q ws us e f = (e ∙ sym f, refl)

pub tight_rows_texts_same_names : Tight 2 rows_texts_same_names.ps rows_texts_same_names.r rows_texts_same_names_says.Learnt
tight_rows_texts_same_names κs a r q ws us e f = (e ∙ sym f, refl)

pub tight_rows_texts_hash_name : Tight 1 rows_texts_hash_name.ps rows_texts_hash_name.r rows_texts_hash_name_says.Learnt
tight_rows_texts_hash_name κs a r q ws us e f = (e ∙ sym f, refl)

pub tight_rows_texts_refers : Tight 2 rows_texts_refers.ps rows_texts_refers.r rows_texts_refers_says.Learnt
tight_rows_texts_refers κs a r q ws us e f = (e ∙ sym f, refl)

-- `form_layouts`

pub tight_form_layouts_section_of : Tight 0 form_layouts_section_of.ps form_layouts_section_of.r form_layouts_section_of_says.Learnt
tight_form_layouts_section_of κs a r q ws us e f = (e ∙ sym f, refl)

pub tight_form_layouts_is_kind : Tight 0 form_layouts_is_kind.ps form_layouts_is_kind.r form_layouts_is_kind_says.Learnt
tight_form_layouts_is_kind κs a r q ws us e f = (e ∙ sym f, refl)

pub tight_form_layouts_field_count : Tight 0 form_layouts_field_count.ps form_layouts_field_count.r form_layouts_field_count_says.Learnt
tight_form_layouts_field_count κs a r q ws us e f = (e ∙ sym f, refl)

pub tight_form_layouts_width_of : Tight 0 form_layouts_width_of.ps form_layouts_width_of.r form_layouts_width_of_says.Learnt
tight_form_layouts_width_of κs a r q ws us e f = (e ∙ sym f, refl)

pub tight_form_layouts_row_of : Tight 0 form_layouts_row_of.ps form_layouts_row_of.r form_layouts_row_of_says.Learnt
tight_form_layouts_row_of κs a r q ws us e f = (e ∙ sym f, refl)

pub tight_form_layouts_field_type : Tight 0 form_layouts_field_type.ps form_layouts_field_type.r form_layouts_field_type_says.Learnt
tight_form_layouts_field_type κs a r q ws us e f = (e ∙ sym f, refl)

-- `form_words`

pub tight_form_words_place_of : Tight 1 form_words_place_of.ps form_words_place_of.r form_words_place_of_says.Learnt
tight_form_words_place_of κs a r q ws us e f = (e ∙ sym f, refl)

pub tight_form_words_word_row : Tight 0 form_words_word_row.ps form_words_word_row.r form_words_word_row_says.Learnt
tight_form_words_word_row κs a r q ws us e f = (e ∙ sym f, refl)

pub tight_form_words_name_row : Tight 0 form_words_name_row.ps form_words_name_row.r form_words_name_row_says.Learnt
tight_form_words_name_row κs a r q ws us e f = (e ∙ sym f, refl)

pub tight_form_words_closing_row : Tight 0 form_words_closing_row.ps form_words_closing_row.r form_words_closing_row_says.Learnt
tight_form_words_closing_row κs a r q ws us e f = (e ∙ sym f, refl)

pub tight_form_words_is_prop : Tight 1 form_words_is_prop.ps form_words_is_prop.r form_words_is_prop_says.Learnt
tight_form_words_is_prop κs a r q ws us e f = (e ∙ sym f, refl)

pub tight_form_words_read_keyword : Tight 1 form_words_read_keyword.ps form_words_read_keyword.r form_words_read_keyword_says.Learnt
tight_form_words_read_keyword κs a r q ws us e f = (e ∙ sym f, refl)

-- `names_slots`

pub tight_names_slots_hash : Tight 1 names_slots_hash.ps names_slots_hash.r names_slots_hash_says.Learnt
tight_names_slots_hash κs a r q ws us e f = (e ∙ sym f, refl)

pub tight_names_slots_slot_of : Tight 0 names_slots_slot_of.ps names_slots_slot_of.r names_slots_slot_of_says.Learnt
tight_names_slots_slot_of κs a r q ws us e f = (e ∙ sym f, refl)

pub tight_names_slots_marks_may_hold : Tight 1 names_slots_marks_may_hold.ps names_slots_marks_may_hold.r names_slots_marks_may_hold_says.Learnt
tight_names_slots_marks_may_hold κs a r q ws us e f = (e ∙ sym f, refl)

pub tight_names_slots_marks_mark : Tight 1 names_slots_marks_mark.ps names_slots_marks_mark.r names_slots_marks_mark_says.Learnt
tight_names_slots_marks_mark κs a r q ws us e f = (e.0 ∙ sym f.0, λ i. ((e.1 ∙ sym f.1) i, ws.1))

pub tight_names_slots_place : Tight 1 names_slots_place.ps names_slots_place.r names_slots_place_says.Learnt
tight_names_slots_place κs a r q ws us e f = (refl, λ i. ((e ∙ sym f) i, ws.1))
