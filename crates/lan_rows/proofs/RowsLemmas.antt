-- Steps of reading lines, over plain values.
use Rattle.std.proofs.Common.{◌≡◌, ℕ, List, [], ◌∷◌, ◌++◌, map, drop, sym, ap, ◌∙◌}
use Rattle.std.specs.Prelude.{All, Some, Result, Ok}
use Rattle.std.proofs.lemmas.List.{map-append}
use Rattle.std.proofs.lemmas.List.Elements.{All-push}
use Rattle.lan_model.specs.declared.tree.Val.{Val}
use Rattle.lan_model.specs.Plain.{PlainValue}
use Rattle.lan_model.specs.PlainTable.{row_of as plain_row}
use Rattle.lan_model.specs.Table.{Column}
use Rattle.lan_rows.specs.Lines.{first_row, rows_of, behind}
use Rattle.lan_rows.specs.declared.lines.LinesFault.{LinesFault}
use Rattle.lan_rows.proofs.RowsStep.{rows_on}

pushed : (rows more : List (List Val)) (row : List Val) → more ≡ rows ++ row ∷ [] → map plain_row more ≡ map plain_row rows ++ plain_row row ∷ []
pushed rows more row is = ap (map plain_row) is ∙ map-append plain_row rows (row ∷ [])

-- a row more of which this is true
pub each_more : (P : List PlainValue → Type 0) (rows more : List (List Val)) (row : List Val) → All P (map plain_row rows) → P (plain_row row) → more ≡ rows ++ row ∷ [] → All P (map plain_row more)
each_more P rows more row each here is = rw (pushed rows more row is) (All-push P (map plain_row rows) (plain_row row) each here)

pub rows_more : (columns : List Column) (all : Result (List (List PlainValue)) LinesFault) (lines after : List (ℕ × List ℕ)) (rows more : List (List Val)) (row : List Val) → all ≡ behind (map plain_row rows) (rows_of columns lines)
    → first_row columns lines ≡ Ok (Some (plain_row row)) → after ≡ drop 1 lines → more ≡ rows ++ row ∷ [] → all ≡ behind (map plain_row more) (rows_of columns after)
rows_more columns all lines after rows more row before is left more_is =
    rows_on columns all (map plain_row rows) lines (Ok (Some (plain_row row))) before is ∙ ap (λ done. behind done (rows_of columns (drop 1 lines))) (sym (pushed rows more row more_is)) ∙ ap (λ later. behind (map plain_row more) (rows_of columns later)) (sym left)
