use Rattle.std.proofs.Common.{◌≡◌, ◌==◌, ◌-◌, ◌≤◌, Bool, false, cond, length, take, drop}
use Rattle.lan_page.specs.Columns.{rows_of}
use Rattle.lan_page.specs.ColumnCursors.{most_of}
use Rattle.lan_page.proofs.column_cursor.page_of.Given as goal

abbrev pub invariant-loop-page : goal.invariant-loop-page
invariant-loop-page l = record {
  within : l.page ≤ length l.pages;
  ahead : l.fn.from.page ≤ l.page;
  first_is : l.first ≡ rows_of (take l.page l.pages);
  behind : l.first ≤ l.row;
  most : (known : Bool) → most_of known (drop l.fn.from.page l.pages) (l.row - l.fn.from.first) ≡ most_of (cond (l.fn.from.page == l.page) known false) (drop l.page l.pages) (l.row - l.first);
}

abbrev pub decreases-loop-page : goal.decreases-loop-page
decreases-loop-page l = length l.pages - l.page
