use Rattle.std.proofs.Common.{◌≡◌, sym, ◌∙◌, ap, ℕ, [], ◌++◌, List, length, map}
use Rattle.std.specs.List.{concat}
use Rattle.lan_model.specs.Plain.{plain_fields}
use Rattle.lan_meta.specs.declared.page.BuiltPage.{BuiltPage}
use Rattle.lan_meta.specs.Written.{column_text}
use Rattle.lan_file.specs.Descriptor.{descriptor_text}
use Rattle.lan_file.specs.FileText.{with_columns, columns_behind, entries_from, file_with, file_text}
use Rattle.lan_file.specs.Writing.{aligned, entry_text, footer_for}
use Rattle.lan_file.proofs.FileBack.{count_is}
use Rattle.lan_file.proofs.FilePut.{file_put}
use Rattle.lan_file.proofs.file_text.write_file.Goals as goal

pub returns : goal.returns
unfolding file_text
returns c =
    let columns : List (List BuiltPage) = c.args.columns.now in
    let o1 = c.put_columns.new.out in
    let o2 = c.put_aligned.new.out in
    let o3 = c.put_messages.new.out in
    let o4 = c.bytes.new.self in
    let o5 = c.put_entry.new.out in
    let o6 = c.put_footer.new.out in
    let d = c.as_slice-2.result.now in
    let messages = c.as_slice-3.result.now in
    let buffers_are : o1 ≡ with_columns [] columns = c.in_ok-messages.ensures.1 ∙ ap (λ (l : List ℕ). with_columns l c.as_slice.result.now) c.new-out.ensures ∙ ap (with_columns []) c.as_slice.ensures in
    let messages_are : messages ≡ map column_text (columns_behind [] columns) =
    c.as_slice-3.ensures
    ∙ c.in_ok-messages.ensures.0
    ∙ ap (λ (l : List ℕ). map column_text (columns_behind l c.as_slice.result.now)) c.new-out.ensures
    ∙ ap (λ (cs : List (List BuiltPage)). map column_text (columns_behind [] cs)) c.as_slice.ensures in
    let text_is : d ≡ descriptor_text (plain_fields c.args.fields.now) c.args.rows = c.as_slice-2.ensures.value ∙ c.in_ok-descriptor.ensures in
    let count : length messages ≡ length columns = ap length messages_are ∙ count_is columns in
    let e2 : o2 ≡ aligned o1 ++ d = c.in_ok-descriptor_at.ensures.1 in
    let e3 : o3 ≡ o2 ++ concat messages = c.in_ok-columns_table.ensures.1 in
    let e4 : o4 ≡ o3 ++ entries_from (length o2) messages = c.in_ok-bytes.ensures.ok ∙ ap (λ (l : List ℕ). o3 ++ l) (c.as_slice-4.ensures.value ∙ c.finish.ensures ∙ c.in_ok-columns_table.ensures.0) in
    let at_is = c.in_ok-descriptor_at.ensures.0 in
    let len_is : c.len.result ≡ length d = cc (c.len.ensures, c.as_slice-2.ensures.len) in
    let e5 : o5 ≡ o4 ++ entry_text (length (aligned o1)) (length d) = c.in_ok-put_entry.ensures ∙ (λ i. o4 ++ entry_text (at_is i) (len_is i)) in
    let first_is : c.len-columns_at.result ≡ length o2 = c.len-columns_at.ensures in
    let table_is : c.len-table.result ≡ length o3 = c.len-table.ensures in
    let number_is : c.len-2.result ≡ length messages = c.len-2.ensures ∙ sym count in
    let e6 : o6 ≡ o5 ++ footer_for (length o2) (length o3) (length messages) = c.in_ok-put_footer.ensures ∙ (λ i. o5 ++ footer_for (first_is i) (table_is i) (number_is i)) in
    c.finish-2.ensures ∙ file_put o1 o2 o3 o4 o5 o6 d messages e2 e3 e4 e5 e6 ∙ (λ i. file_with (buffers_are i) (text_is i) (messages_are i))
