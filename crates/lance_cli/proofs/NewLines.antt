-- Rows that are read of lines, one after another.
use Rattle.std.proofs.Common.{◌≡◌, sym, ◌∙◌, ap, subst, ℕ, ◌+◌, ◌<◌, ◌≤◌, ◌^◌, List, [], ◌∷◌, ◌++◌, length, length-append, drop, arith, inl, inr}
use Rattle.std.specs.Prelude.{◌⊎◌, Some, None, Result, Ok, Err}
use Rattle.lan_model.specs.Plain.{PlainField, PlainValue}
use Rattle.lan_model.specs.Table.{Column}
use Rattle.lan_rows.specs.Lines.{behind, first_row, lines_of, rows_of}
use Rattle.lan_rows.specs.declared.lines.LinesFault.{LinesFault}
use Rattle.lan_rows.proofs.LawTerms.{rows_begin, rows_on, few_lines}
use Rattle.lan_commit.specs.NewRows.{HasRows, count_of}
use Rattle.lan_commit.specs.declared.new_rows.NewRows.{NewRows}
use Rattle.lance_cli.specs.Faults.{of_lines}
use Rattle.lance_cli.specs.Lines.{KeepsRows, RowsAre}
use Rattle.lance_cli.specs.declared.fault.Fault.{Fault}
use Rattle.lance_cli.specs.declared.fault.Fault.TheVariants as fault
use Rattle.lance_cli.proofs.Planned.{refuses_lines}

-- these are the rows of the first lines, and the others are still to be read
pub record HasRead (fields : List (PlainField ℕ)) (columns : List Column) (all : Result (List (List PlainValue)) LinesFault) (lines : List (ℕ × List ℕ)) (kept : NewRows) : Type 0 where
  pub rows : List (List PlainValue)
  pub has : HasRows fields rows kept
  pub read : all ≡ behind rows (rows_of columns lines)
  pub few : count_of kept + length lines ≤ 2 ^ 28

pub none_read : (fields : List (PlainField ℕ)) (columns : List Column) (text : List ℕ) (lines : List (ℕ × List ℕ)) (kept : NewRows) → HasRows fields [] kept → lines ≡ lines_of text → length text ≤ 2 ^ 28 → HasRead fields columns (rows_of columns (lines_of text)) lines kept
none_read fields columns text lines kept has are short = record {
  rows = [];
  has = has;
  read = rows_begin (rows_of columns (lines_of text)) ∙ ap (λ ls. behind [] (rows_of columns ls)) (sym are);
  few = omega (arith, has.count, few_lines text, ap length are);
}

pub row_read : (fields : List (PlainField ℕ)) (columns : List Column) (all : Result (List (List PlainValue)) LinesFault) (lines rest : List (ℕ × List ℕ)) (kept more : NewRows) (row : List PlainValue) → (h : HasRead fields columns all lines kept) → first_row columns lines ≡ Ok (Some row)
    → rest ≡ drop 1 lines → length rest < length lines → HasRows fields (h.rows ++ row ∷ []) more → HasRead fields columns all rest more
row_read fields columns all lines rest kept more row h first left shorter has = record {
  rows = h.rows ++ row ∷ [];
  has = has;
  read = rows_on columns all h.rows lines (Ok (Some row)) h.read first ∙ ap (λ ls. behind (h.rows ++ row ∷ []) (rows_of columns ls)) (sym left);
  few = omega (arith, h.few, shorter, h.has.count, has.count, length-append h.rows (row ∷ []));
}

pub all_read : (fields : List (PlainField ℕ)) (columns : List Column) (all : Result (List (List PlainValue)) LinesFault) (lines : List (ℕ × List ℕ)) (kept : NewRows) → HasRead fields columns all lines kept → first_row columns lines ≡ Ok None → KeepsRows fields all kept
all_read fields columns all lines kept h first = record {
  rows = h.rows;
  read = rows_on columns all h.rows lines (Ok None) h.read first;
  has = h.has;
  few = omega (arith, h.few, h.has.count);
}

pub none_more : (fields : List (PlainField ℕ)) (columns : List Column) (all : Result (List (List PlainValue)) LinesFault) (lines : List (ℕ × List ℕ)) (kept : NewRows) (f : Fault) → HasRead fields columns all lines kept
    → (f ≡ fault.Memory) ⊎ ((why : LinesFault) × (first_row columns lines ≡ Err why) × (f ≡ of_lines why)) → RowsAre fields all (Err f)
none_more fields columns all lines kept f h (inl none) = subst (λ g. RowsAre fields all (Err g)) (sym none) tt
none_more fields columns all lines kept f h (inr (why, first, is)) = refuses_lines fields all why f (rows_on columns all h.rows lines (Err why) h.read first) is
