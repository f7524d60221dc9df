use Rattle.std.proofs.Common.{◌≡◌, ◌++◌, drop, map}
use Rattle.lan_meta.specs.Written.{column_text}
use Rattle.lan_file.specs.FileText.{with_columns, columns_behind}
use Rattle.lan_file.proofs.file_text.put_columns.Given as goal

abbrev pub invariant-loop-column : goal.invariant-loop-column
invariant-loop-column l = record {
  messages : l.messages ++ map column_text (columns_behind l.out (drop l.column-index l.columns)) ≡ map column_text (columns_behind l.initial.out l.columns);
  bytes : with_columns l.out (drop l.column-index l.columns) ≡ with_columns l.initial.out l.columns;
}
