-- `line_rows::columns::next_entry` meets its contract. Assumes nothing.
use Rattle.std.proofs.lemmas.Result.{err_from_is_err_and}
use borrow.Author.Rules.{rules}
use Rattle.line_rows.proofs.EntryLaws.{entry_none, entry_broken, end_within, from_fits, end_fits, next_fits, entry_number, entry_word, entry_bytes, entry_refused}
use Rattle.line_rows.proofs.columns.next_entry.Goals as goal

ruleset laws = (rules, entry_none, entry_broken, end_within, from_fits, end_fits, next_fits, entry_number, entry_word, entry_bytes, entry_refused)

pub overflow_add-from : goal.overflow_add-from
overflow_add-from c = search laws

pub overflow_add-from-in-Ok-Some : goal.overflow_add-from-in-Ok-Some
overflow_add-from-in-Ok-Some c = search laws

pub slice_bounds-read_field-end : goal.slice_bounds-read_field-end
slice_bounds-read_field-end c = end_within _ _ _ c.field.ensures c.in-Ok-Some.f (rw c.in-Ok-Some.field-0-is at c.in-Ok-Some.is) c.requires

pub returns-in_err-z-in-Ok-Some : goal.returns-in_err-z-in-Ok-Some
returns-in_err-z-in-Ok-Some c =
    let h = rw c.in-Ok-Some.field-0-is at c.in-Ok-Some.is in
    let p = err_from_is_err_and c.from_residual.result c.from_residual.ensures.1 in
    rw (p.1, p.2) (search (laws, h, c.in_err-z-in-Ok-Some.was))

pub overflow_add-result : goal.overflow_add-result
overflow_add-result c = search laws

pub overflow_add-result-in-Word : goal.overflow_add-result-in-Word
overflow_add-result-in-Word c = search laws

pub overflow_add-result-in-Bytes : goal.overflow_add-result-in-Bytes
overflow_add-result-in-Bytes c = search laws

pub returns-in-Ok-None : goal.returns-in-Ok-None
returns-in-Ok-None c = search laws

pub returns-in-Number : goal.returns-in-Number
returns-in-Number c = search laws

pub returns-in-Word : goal.returns-in-Word
returns-in-Word c = search laws

pub returns-in-Bytes : goal.returns-in-Bytes
returns-in-Bytes c = search laws

pub returns-in-Err : goal.returns-in-Err
returns-in-Err c = search laws
